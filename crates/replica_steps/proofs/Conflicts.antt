-- What a history has against an entry, as the code finds it: an issue that stands in the history is one for its own shard and index, so where there is
-- none for these, there is neither that entry nor a rival.
-- Assumes nothing.
use Prim.Native.Nat.{ℕ, suc, ◌+◌, ◌-◌, ◌<◌}
use native.Mathlib.Nat.{add-sub_cancel_left}
use native.Mathlib.Omega.{arith}
use mathlib.Core.Path.{◌≡◌, refl, sym, ap, ◌∙◌}
use mathlib.Core.Bool.{Bool, true, false, not, true≢false}
use mathlib.Core.List.{List, [], ◌∷◌}
use lib.ListN.{length, get_or, take, drop}
use borrow.Author.Tests.{ne_eqb}
use Rattle.model.specs.Tests.{contains}
use Rattle.model.specs.Checks.{first_of}
use Rattle.model.specs.Entries.{is_issue, issue_shard, issue_index, rivals}
use Rattle.model.specs.Replicas.{replica_words}
use Rattle.model.specs.Layout.{part, replica_at}
use Rattle.model.specs.Add.{no_rival}
use Rattle.model.proofs.WellFormedParts.{at_all}
use Rattle.model.proofs.Rivals.{names_own, none_named}
use Rattle.entry_search.specs.Searches.{issued_in}
use Rattle.lookup.proofs.StateWords.{history_words}
use Rattle.entry_search.proofs.Searches.{issued_nowhere, nowhere_issued}
use Rattle.replica_steps.specs.Adds.{held_checks}

-- an entry that is at no place of a history is not held
at_no_place : (e : ℕ) (l : List ℕ) → ((q : ℕ) → q < length l → get_or l q 0 ≡ e → ⊥) → contains e l ≡ false
unfolding contains
at_no_place e [] h = refl
at_no_place e (x ∷ l) h = rw (ne_eqb x e (h 0 (omega arith))) (at_no_place e l (λ q g. h (suc q) (omega arith)))

-- a history without rivals at its places
rivals_nowhere : (e : ℕ) (l : List ℕ) → ((q : ℕ) → q < length l → rivals e (get_or l q 0) ≡ false) → no_rival e l ≡ true
unfolding no_rival
rivals_nowhere e l h = at_all (λ x. not (rivals e x)) l (λ q g. rw (h q g))

module _ (e : ℕ) (l : List ℕ) where
  pub is_held : contains e l ≡ true → 15 ≡ first_of (held_checks e l)
  unfolding held_checks first_of
  is_held c = rw c

  -- an entry that is no issue has no rivals
  pub take_free : is_issue e ≡ false → contains e l ≡ false → 0 ≡ first_of (held_checks e l)
  unfolding held_checks first_of rivals
  take_free i c = rw (c, rivals_nowhere e l (λ q g. rw i))

  module _ (is : is_issue e ≡ true) where
    -- an issue with none for its shard and index in the history
    pub issue_free : issued_in (issue_shard e) (issue_index e) l ≡ false → 0 ≡ first_of (held_checks e l)
    unfolding held_checks first_of rivals
    issue_free h =
        let nowhere = issued_nowhere (issue_shard e) (issue_index e) l h in
        rw (
          at_no_place e l (λ q g d. true≢false (sym (names_own e is) ∙ (rw d at (nowhere q g)))),
          rivals_nowhere e l (λ q g. rw (is, nowhere q g)),
        )

    -- .. and with one that is not itself
    pub is_rivalled : issued_in (issue_shard e) (issue_index e) l ≡ true → contains e l ≡ false → 23 ≡ first_of (held_checks e l)
    unfolding held_checks first_of
    is_rivalled h c = rw (c, rivalled (no_rival e l) refl)
      where
        rivalled : (b : Bool) → no_rival e l ≡ b → b ≡ false
        rivalled false r = refl
        rivalled true r =
            absurd (true≢false (sym h ∙ nowhere_issued (issue_shard e) (issue_index e) l
            (none_named e l c r (issue_shard e) (issue_index e) (names_own e is))))

-- ---- the words of a replica

-- so many words of a replica are looked at as its history has entries, n
pub in_history : (w : List ℕ) (at n : ℕ) → part w at ≡ replica_words (replica_at w at) → n ≡ get_or w (at + 1) 0
    → take (at + 8 + n - (at + 8)) (drop (at + 8) w) ≡ (replica_at w at).history
in_history w at n p q =
    rw (history_words w at p, ← q) (ap (λ (k : ℕ). take k (drop (at + 8) w)) (add-sub_cancel_left (at + 8) n))
