-- Histories without repetition, and histories of offered entries: laws by place in the list.
-- Assumes nothing.
use Prim.Native.Nat.{ℕ, ◌≤◌, ◌<◌}
use native.Mathlib.Nat.{not-suc-le-zero}
use native.Mathlib.Omega.{arith}
use mathlib.Core.Path.{◌≡◌, refl, sym, ap, ◌∙◌}
use mathlib.Core.Bool.{Bool, true, false, or-true, false≢true}
use mathlib.Core.List.{List, [], ◌∷◌, ◌++◌}
use mathlib.Core.Logic.{◌⊎◌, inl, inr}
use lib.Dec.{ltb, eqb}
use borrow.Author.Tests.{ltb-true, ltb-false}
use lib.ListN.{length, take, get_or, length-append, get_or-append}
use lib.Seq.{take-take, take-append-le, get_or-append_seam, take-append_seam}
use Rattle.model.specs.Tests.{contains}
use Rattle.model.specs.Prefixes.{Begins}
use Rattle.model.proofs.Prefixes.{begins_le, begins_get_d}

-- no entry stands twice: entry n, counted from 0, is not among the first n
pub record Once (l : List ℕ) : Type 0 where
  pub fresh : (n : ℕ) → n < length l → contains (get_or l n 0) (take n l) ≡ false

-- every entry is on offer
pub record Offered (offer l : List ℕ) : Type 0 where
  pub on : (n : ℕ) → n < length l → contains (get_or l n 0) offer ≡ true

-- one offer holds at least what another holds
pub record Wider (offer offer' : List ℕ) : Type 0 where
  pub keeps : (e : ℕ) → contains e offer ≡ true → contains e offer' ≡ true

pub wider_refl : {o : List ℕ} → Wider o o
wider_refl = record { keeps = λ e h. h }

pub wider_cons : (e : ℕ) (o : List ℕ) → Wider o (e ∷ o)
unfolding contains
wider_cons e o = record { keeps = λ x h. rw h (or-true (eqb e x)) }

pub once_nil : Once []
once_nil = record { fresh = λ n h. absurd (not-suc-le-zero h) }

pub offered_nil : {o : List ℕ} → Offered o []
offered_nil = record { on = λ n h. absurd (not-suc-le-zero h) }

pub offered_wider : {o o' l : List ℕ} → Wider o o' → Offered o l → Offered o' l
offered_wider w f = record { on = λ n h. w.keeps _ (f.on n h) }

-- the first n entries of a prefix, n at most its length
pub begins_first : {p l : List ℕ} → Begins p l → (n : ℕ) → n ≤ length p → take n p ≡ take n l
begins_first {p} {l} b n h = ap (take n) (sym b.starts) ∙ take-take n (length p) l h

pub once_prefix : {p l : List ℕ} → Begins p l → Once l → Once p
once_prefix {p} {l} b o =
    record {
      fresh = λ n h.
          rw (begins_get_d b n h, begins_first b n (omega arith)) (o.fresh n (omega (arith, begins_le b)));
    }

pub offered_prefix : {o p l : List ℕ} → Begins p l → Offered o l → Offered o p
offered_prefix {o} {p} {l} b f = record { on = λ n h. rw (begins_get_d b n h) (f.on n (omega (arith, begins_le b))) }

-- what is asked of each place of a list with one more entry: of the places before, and of the last
pub last_or_before : (l : List ℕ) (e n : ℕ) → n < length (l ++ (e ∷ [])) → (n < length l) ⊎ (n ≡ length l)
last_or_before l e n h = go (ltb n (length l)) refl
  where
    go : (t : Bool) → ltb n (length l) ≡ t → (n < length l) ⊎ (n ≡ length l)
    go true q = inl (ltb-true _ _ q)
    go false q = inr (let g : length l ≤ n = ltb-false _ _ q in omega (arith, length-append l (e ∷ [])))

pub once_append : {l : List ℕ} (e : ℕ) → Once l → contains e l ≡ false → Once (l ++ (e ∷ []))
once_append {l} e o f = record { fresh = λ n h. go n (last_or_before l e n h) }
  where
    go : (n : ℕ) → (n < length l) ⊎ (n ≡ length l) → contains (get_or (l ++ (e ∷ [])) n 0) (take n (l ++ (e ∷ []))) ≡ false
    go n (inl h) = rw (get_or-append l (e ∷ []) 0 n h, take-append-le n l (e ∷ []) (omega arith)) (o.fresh n h)
    go n (inr h) = rw (h, get_or-append_seam l e [] 0, take-append_seam l (e ∷ [])) f

pub offered_append : {o l : List ℕ} (e : ℕ) → Offered o l → contains e o ≡ true → Offered o (l ++ (e ∷ []))
offered_append {o} {l} e f c = record { on = λ n h. go n (last_or_before l e n h) }
  where
    go : (n : ℕ) → (n < length l) ⊎ (n ≡ length l) → contains (get_or (l ++ (e ∷ [])) n 0) o ≡ true
    go n (inl h) = rw (get_or-append l (e ∷ []) 0 n h) (f.on n h)
    go n (inr h) = rw (h, get_or-append_seam l e [] 0) c

-- where nothing is on offer, a list of offered entries is empty
pub none_offered : {l : List ℕ} → Offered [] l → l ≡ []
unfolding contains
none_offered {l = []} f = refl
none_offered {l = x ∷ l} f = absurd (false≢true (f.on 0 (omega arith)))
