-- Issues for one shard and index in a history: what the tests for another one say, and histories that hold one at most.
-- Assumes nothing.
use Prim.Native.Nat.{ℕ, zero, suc, ◌≤◌, ◌<◌}
use native.Mathlib.Nat.{not-suc-le-zero}
use native.Mathlib.Omega.{arith}
use native.Mathlib.Decide.{dec_lt}
use mathlib.Core.Path.{◌≡◌, refl, sym, ◌∙◌}
use mathlib.Core.Bool.{Bool, true, false, not, ◌&&◌, true≢false}
use mathlib.Core.List.{List, [], ◌∷◌, ◌++◌}
use mathlib.Core.Logic.{◌⊎◌, inl, inr}
use lib.Dec.{eqb}
use borrow.Author.Tests.{eqb-true, eq-eqb, ne_eqb, not-true}
use lib.ListN.{length, get_or, get_or-append, get_or-eq_default}
use lib.Seq.{get_or-append_seam}
use Rattle.model.specs.Tests.{contains}
use Rattle.model.specs.Entries.{is_issue, is_issue_for, issue_index, issue_shard, names, rivals}
use Rattle.model.specs.Add.{no_rival}
use Rattle.model.specs.Install.{none_before}
use Rattle.model.proofs.Tests.{and_left, and_right, or_right}
use Rattle.model.proofs.WellFormedParts.{all_at}
use Rattle.model.proofs.Issues.{none_there}
use Rattle.model.proofs.Histories.{last_or_before}

-- ---- one entry

-- an entry that names a shard and an index is an issue with just these
pub record Named (z i e : ℕ) : Type 0 where
  pub is_issue_word : is_issue e ≡ true
  pub its_shard : issue_shard e ≡ z
  pub its_index : issue_index e ≡ i

pub named : (z i e : ℕ) → names z i e ≡ true → Named z i e
unfolding names is_issue_for
named z i e h =
    let shard : eqb (issue_shard e) z ≡ true = search (and_left, and_right) in
    let index : eqb (issue_index e) i ≡ true = search (and_left, and_right) in
    record {
      is_issue_word = search (and_left, and_right);
      its_shard = eqb-true (issue_shard e) z shard;
      its_index = eqb-true (issue_index e) i index;
    }

-- an issue names its own
pub names_own : (e : ℕ) → is_issue e ≡ true → names (issue_shard e) (issue_index e) e ≡ true
unfolding names is_issue_for
names_own e h = rw (h, eq-eqb (issue_shard e) (issue_shard e) refl, eq-eqb (issue_index e) (issue_index e) refl)

-- another entry that is no rival of e does not name what e names
not_named : (z i e x : ℕ) → names z i e ≡ true → rivals e x ≡ false → (x ≡ e → ⊥) → names z i x ≡ false
unfolding rivals
not_named z i e x h r d =
    let n = named z i e h in
    go (names z i x) (rw (n.is_issue_word, n.its_shard, n.its_index, ne_eqb x e d) at r)
  where
    go : (t : Bool) → t && true ≡ false → t ≡ false
    go true q = q
    go false q = refl

-- ---- a history

-- an entry that a history does not hold is at none of its places
held_nowhere : (e : ℕ) (l : List ℕ) → contains e l ≡ false → (q : ℕ) → q < length l → get_or l q 0 ≡ e → ⊥
unfolding contains
held_nowhere e [] h q g d = absurd (not-suc-le-zero g)
held_nowhere e (x ∷ l) h zero g d = true≢false (rw (eq-eqb x e d) at h)
held_nowhere e (x ∷ l) h (suc q) g d = held_nowhere e l (or_right (eqb x e) (contains e l) h) q (omega arith) d

-- what add has tested: no entry names what the new one names
pub none_named : (e : ℕ) (l : List ℕ) → contains e l ≡ false → no_rival e l ≡ true → (z i : ℕ) → names z i e ≡ true
    → (q : ℕ) → q < length l → names z i (get_or l q 0) ≡ false
unfolding no_rival
none_named e l h r z i n q g =
    not_named z i e (get_or l q 0) n (not-true _ (all_at (λ x. not (rivals e x)) l q r g)) (held_nowhere e l h q g)

-- no two issues for one shard and index: where the entry at p is one, none before it is
pub record Single (l : List ℕ) : Type 0 where
  pub alone : (z i p q : ℕ) → q < p → p < length l → names z i (get_or l p 0) ≡ true → names z i (get_or l q 0) ≡ false

pub single_nil : Single []
single_nil = record { alone = λ z i p q g h. absurd (not-suc-le-zero h) }

pub single_append : {l : List ℕ} (e : ℕ) → Single l → contains e l ≡ false → no_rival e l ≡ true → Single (l ++ (e ∷ []))
single_append {l} e s h r = record { alone = λ z i p q g b. go z i p q g (last_or_before l e p b) }
  where
    go : (z i p q : ℕ) → q < p → (p < length l) ⊎ (p ≡ length l) → names z i (get_or (l ++ (e ∷ [])) p 0) ≡ true
        → names z i (get_or (l ++ (e ∷ [])) q 0) ≡ false
    go z i p q g (inl b) =
        rw (get_or-append l (e ∷ []) 0 p b, get_or-append l (e ∷ []) 0 q (omega arith)) (s.alone z i p q g b)
    go z i p q g (inr b) =
        let before : q < length l = omega (arith, b) in
        rw (b, get_or-append_seam l e [] 0, get_or-append l (e ∷ []) 0 q before)
        (λ n. none_named e l h r z i n q before)

-- .. so that the test of 22 passes at every place
pub single_first : {l : List ℕ} → Single l → (z i p : ℕ) → p < length l → names z i (get_or l p 0) ≡ true → none_before z i p l ≡ true
single_first {l} s z i p h n = none_there z i p l (λ q g. s.alone z i p q g h n)

-- an entry that names a shard and an index stands in the history
named_within : (l : List ℕ) (z i p : ℕ) → names z i (get_or l p 0) ≡ true → p < length l
unfolding names is_issue_for is_issue
named_within l z i p h = go (dec_lt p (length l))
  where
    go : Dec (p < length l) → p < length l
    go (yes b) = b
    go (no b) =
        let past : length l ≤ p = omega arith in
        absurd (true≢false (sym (rw (get_or-eq_default l 0 past) at h)))

-- two issues for one shard and index are one
pub single_place : {l : List ℕ} → Single l → (z i p q : ℕ) → names z i (get_or l p 0) ≡ true → names z i (get_or l q 0) ≡ true → p ≡ q
single_place {l} s z i p q a b = go (dec_lt p q) (dec_lt q p)
  where
    go : Dec (p < q) → Dec (q < p) → p ≡ q
    go (yes g) d = absurd (true≢false (sym a ∙ s.alone z i q p g (named_within l z i q b) b))
    go (no g) (yes d) = absurd (true≢false (sym b ∙ s.alone z i p q d (named_within l z i p a) a))
    go (no g) (no d) = omega arith
