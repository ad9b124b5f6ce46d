-- Laws of `Begins`: an order on lists in which the prefixes of one list are comparable.
-- Assumes nothing.
use Prim.Native.Nat.{ℕ, zero, suc, ◌≤◌, ◌<◌, zero-le}
use native.Mathlib.Nat.{le_of_lt}
use native.Mathlib.Omega.{arith}
use mathlib.Core.Path.{◌≡◌, refl, sym, ap, ◌∙◌}
use mathlib.Core.Bool.{Bool, true, false}
use mathlib.Core.List.{List, [], ◌∷◌, ◌++◌}
use mathlib.Core.Logic.{◌⊎◌, inl, inr}
use lib.Dec.{leb}
use borrow.Author.Tests.{leb-true, leb-false}
use lib.ListN.{length, take, drop, get_or, length-take, take-append-drop}
use lib.Seq.{take-length, take-take, take-append-le, get_or-take, take_all}
use Rattle.model.specs.Prefixes.{Begins, Share}

-- the list of n entries: a prefix is at most as long
pub begins_le : {p l : List ℕ} → Begins p l → length p ≤ length l
begins_le {p} {l} b = omega (arith, sym (length-take (length p) l) ∙ ap length b.starts)

pub begins_nil : {l : List ℕ} → Begins [] l
begins_nil = record { starts = refl }

pub begins_refl : {l : List ℕ} → Begins l l
begins_refl {l} = record { starts = take-length l }

pub begins_same : {p l : List ℕ} → p ≡ l → Begins p l
begins_same e = rw e begins_refl

pub begins_trans : {p q l : List ℕ} → Begins p q → Begins q l → Begins p l
begins_trans {p} {q} {l} a b =
    record { starts = sym (take-take (length p) (length q) l (begins_le a)) ∙ ap (take (length p)) b.starts ∙ a.starts }

-- the first entries of a list begin it
pub begins_take : (n : ℕ) (l : List ℕ) → Begins (take n l) l
begins_take zero l = begins_nil
begins_take (suc n) [] = begins_nil
begins_take (suc n) (x ∷ l) = record { starts = ap (x ∷◌) (begins_take n l).starts }

-- of two prefixes of one list the shorter begins the longer
pub begins_both : {p q l : List ℕ} → Begins p l → Begins q l → length p ≤ length q → Begins p q
begins_both {p} {q} {l} a b h =
    record { starts = ap (take (length p)) (sym b.starts) ∙ take-take (length p) (length q) l h ∙ a.starts }

pub begins_take-take : {m n : ℕ} (l : List ℕ) → m ≤ n → Begins (take m l) (take n l)
begins_take-take {m} {n} l h =
    begins_both (begins_take m l) (begins_take n l) (omega (arith, length-take m l, length-take n l))

pub begins_append : {p l : List ℕ} (q : List ℕ) → Begins p l → Begins p (l ++ q)
begins_append {p} {l} q b = record { starts = take-append-le (length p) l q (begins_le b) ∙ b.starts }

-- a prefix of n entries is the first n entries
pub begins_is_take : {p l : List ℕ} → Begins p l → p ≡ take (length p) l
begins_is_take b = sym b.starts

-- two prefixes of the same length are the same
pub begins_equal : {p q : List ℕ} → Begins p q → length q ≤ length p → p ≡ q
begins_equal {p} {q} b h = sym b.starts ∙ take_all (length p) q h

-- what begins the empty list is empty
pub begins_empty : {p : List ℕ} → Begins p [] → p ≡ []
begins_empty {p} b = begins_equal b zero-le

pub begins_get_d : {p l : List ℕ} → Begins p l → (i : ℕ) → i < length p → get_or p i 0 ≡ get_or l i 0
begins_get_d {p} {l} b i h = ap (λ (x : List ℕ). get_or x i 0) (sym b.starts) ∙ get_or-take (length p) l i 0 h

-- a list is its prefix and the rest
pub begins_rest : {p l : List ℕ} → Begins p l → p ++ drop (length p) l ≡ l
begins_rest {p} {l} b = ap (λ (x : List ℕ). x ++ drop (length p) l) (sym b.starts) ∙ take-append-drop (length p) l

-- the prefixes of one list are comparable
pub share_both : {p q l : List ℕ} → Begins p l → Begins q l → Share p q
share_both {p} {q} {l} a b = go (leb (length p) (length q)) refl
  where
    go : (t : Bool) → leb (length p) (length q) ≡ t → Share p q
    go true e = record { either = inl (begins_both a b (leb-true _ _ e)) }
    go false e = record { either = inr (begins_both b a (le_of_lt (leb-false _ _ e))) }

-- what is comparable with a list is comparable with its prefixes
pub share_prefix : {p q l : List ℕ} → Begins p l → Share l q → Share p q
share_prefix {p} {q} {l} b s = go s.either
  where
    go : Begins l q ⊎ Begins q l → Share p q
    go (inl a) = record { either = inl (begins_trans b a) }
    go (inr a) = share_both b a

pub share_swap : {p q : List ℕ} → Share p q → Share q p
share_swap {p} {q} s = go s.either
  where
    go : Begins p q ⊎ Begins q p → Share q p
    go (inl a) = record { either = inr a }
    go (inr a) = record { either = inl a }

-- of two comparable lists the shorter begins the longer
pub share_le : {p q : List ℕ} → Share p q → length p ≤ length q → Begins p q
share_le {p} {q} s h = go s.either
  where
    go : Begins p q ⊎ Begins q p → Begins p q
    go (inl a) = a
    go (inr a) = begins_same (sym (begins_equal a h))
