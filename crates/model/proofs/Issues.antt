-- The first issue for a shard and index in a list, and an issue's word as the sum of its fields.
-- Assumes nothing.
use Prim.Native.Nat.{ℕ, zero, suc, ◌+◌, ◌*◌, ◌/◌, ◌%◌, ◌^◌, ◌<◌}
use native.Mathlib.Nat.{le_of_suc-le-suc, not-suc-le-zero}
use native.Mathlib.Omega.{arith}
use mathlib.Core.Path.{◌≡◌, refl, sym, ap, ◌∙◌}
use mathlib.Core.Bool.{Bool, true, false, cond, not}
use mathlib.Core.List.{List, [], ◌∷◌, ◌++◌}
use borrow.Author.Tests.{eqb-true, not-true}
use lib.ListN.{length, get_or, drop}
use lib.Pow.{split, shr-shr}
use Rattle.model.specs.Entries.{issue, is_issue, issue_index, issue_shard, issue_orderer, issue_members, names, first_issue}
use Rattle.model.specs.Install.{none_before}
use Rattle.model.specs.Prefixes.{Begins}
use Rattle.model.proofs.Tests.{all_below_lem, below_all}
use Rattle.model.proofs.Prefixes.{begins_rest}

-- a list that goes on has the same first issue
first_append : (z i x : ℕ) (p q : List ℕ) → first_issue z i p ≡ x → (x ≡ 0 → ⊥) → first_issue z i (p ++ q) ≡ x
unfolding first_issue
first_append z i x [] q e n = absurd (n (sym e))
first_append z i x (y ∷ p) q e n = go (names z i y) refl (first_append z i x p q)
  where
    go : (t : Bool) → names z i y ≡ t → (first_issue z i p ≡ x → (x ≡ 0 → ⊥) → first_issue z i (p ++ q) ≡ x)
        → cond (names z i y) y (first_issue z i (p ++ q)) ≡ x
    go true f r = rw f (rw f at e)
    go false f r = rw f (r (rw f at e) n)

pub first_stays : (z i : ℕ) {x : ℕ} {p l : List ℕ} → Begins p l → first_issue z i p ≡ x → (x ≡ 0 → ⊥) → first_issue z i l ≡ x
first_stays z i {x} {p} {l} b e n = rw (sym (begins_rest b)) (first_append z i x p (drop (length p) l) e n)

-- an issue with none before it is the first
pub first_at : (z i : ℕ) (l : List ℕ) (p : ℕ) → p < length l → names z i (get_or l p 0) ≡ true
    → ((q : ℕ) → q < p → names z i (get_or l q 0) ≡ false) → first_issue z i l ≡ get_or l p 0
unfolding first_issue
first_at z i [] p h e n = absurd (not-suc-le-zero h)
first_at z i (x ∷ l) zero h e n = rw e
first_at z i (x ∷ l) (suc p) h e n =
    rw (n 0 (omega arith)) (first_at z i l p (le_of_suc-le-suc h) e (λ q g. n (suc q) (omega arith)))

pub none_before_lem : (z i p : ℕ) (l : List ℕ) → none_before z i p l ≡ true → (q : ℕ) → q < p → names z i (get_or l q 0) ≡ false
unfolding none_before
none_before_lem z i p l e q h = not-true (names z i (get_or l q 0)) (search (all_below_lem _ _ e))

pub none_there : (z i p : ℕ) (l : List ℕ) → ((q : ℕ) → q < p → names z i (get_or l q 0) ≡ false) → none_before z i p l ≡ true
unfolding none_before
none_there z i p l h = below_all p (λ q. not (names z i (get_or l q 0))) (λ q g. rw (h q g))

-- a number from its digits: 8, 4, 4 and 16 bits, and 1 above them
digits : (e a b c d m o s i : ℕ) → a * 2 ^ 16 + m ≡ e → b * 2 ^ 4 + o ≡ a → c * 2 ^ 4 + s ≡ b → d * 2 ^ 8 + i ≡ c → d ≡ 1
    → e ≡ 2 ^ 32 + i * 2 ^ 24 + s * 2 ^ 20 + o * 2 ^ 16 + m
digits e a b c d m o s i p q r t u = omega arith

-- an issue's word is the sum of its fields
pub issue_word_lem : (e : ℕ) → is_issue e ≡ true → e ≡ issue (issue_index e) (issue_shard e) (issue_orderer e) (issue_members e)
unfolding is_issue issue issue_index issue_shard issue_orderer issue_members
issue_word_lem e h =
    let q : e / 2 ^ 32 ≡ 1 = eqb-true (e / 2 ^ 32) 1 h in
    digits e (e / 2 ^ 16) (e / 2 ^ 20) (e / 2 ^ 24) (e / 2 ^ 32) (e % 2 ^ 16) (e / 2 ^ 16 % 2 ^ 4) (e / 2 ^ 20 % 2 ^ 4) (e / 2 ^ 24 % 2 ^ 8)
    (split e 16)
    (ap (λ (x : ℕ). x * 2 ^ 4 + e / 2 ^ 16 % 2 ^ 4) (sym (shr-shr e 16 4)) ∙ split (e / 2 ^ 16) 4)
    (ap (λ (x : ℕ). x * 2 ^ 4 + e / 2 ^ 20 % 2 ^ 4) (sym (shr-shr e 20 4)) ∙ split (e / 2 ^ 20) 4)
    (ap (λ (x : ℕ). x * 2 ^ 8 + e / 2 ^ 24 % 2 ^ 8) (sym (shr-shr e 24 8)) ∙ split (e / 2 ^ 24) 8)
    q

-- no issue is 0
pub issue_not_zero : (i z o m : ℕ) → issue i z o m ≡ 0 → ⊥
unfolding issue
issue_not_zero i z o m e = omega (arith, e)
