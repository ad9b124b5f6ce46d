-- The rejection of a step, by the tests that are made in turn before its kind's.
-- Assumes nothing.
use Prim.Native.Nat.{ℕ}
use native.Mathlib.Omega.{arith}
use mathlib.Core.Path.{◌≡◌, refl, sym, ap, ◌∙◌}
use mathlib.Core.Bool.{Bool, true, false, cond, not, ◌&&◌}
use mathlib.Core.List.{List}
use lib.Dec.{eqb}
use lib.ListN.{length}
use borrow.Author.Tests.{le-leb, lt-leb, eqb-false}
use Rattle.std.specs.Prelude.{Ok}
use Rattle.types.specs.declared.kind.Kind.{Kind}
use Rattle.types.specs.declared.rejection.Rejection.{Rejection}
use Rattle.types.specs.declared.rejection.Rejection.TheVariants.{StateLength, OutOfRange, NotWellFormed}
use Rattle.types.specs.Rejections.{rejection_number}
use Rattle.types.proofs.Rejections.{number_not_0}
use Rattle.types.specs.declared.step.Step.{Step}
use Rattle.model.specs.Checks.{first_of}
use Rattle.types.specs.Kinds.{kind_of, is_kept, is_unknown}
use Rattle.model.specs.Layout.{shards_of, is_state_length}
use Rattle.model.specs.WellFormed.{well_formed}
use Rattle.types.specs.StepNames.{shard_of, configuration_of}
use Rattle.model.specs.Steps.{are_numbers, in_range, kind_checks, step_checks, rejection, after}
use Rattle.model.proofs.WellFormedSteps.{after_rejected}
use Rattle.machine.specs.Inside.{HasShards}
use Rattle.step_numbers.specs.StepRanges.{is_index_of, range_rejection}

-- 3, 4 and 7 of the kind, the shard and the index as one, and 7 of the other numbers
ladder : (a b i t : Bool) (k : ℕ)
    → cond a (cond b (cond (i && t) k 7) 4) 3
    ≡ cond (eqb (cond a (cond b (cond i 0 7) 4) 3) 0) (cond t k 7) (cond a (cond b (cond i 0 7) 4) 3)
ladder true true true t k = refl
ladder true true false t k = refl
ladder true false i t k = refl
ladder false b i t k = refl

-- ---- a step on a state

module _ (w : List ℕ) (s : Step) where
  -- what the checks of the step's kind answer
  answer : ℕ
  answer = first_of (kind_checks (kind_of s.kind) w (shard_of s) (configuration_of s) s.c s.d)

  early : ℕ
  early = range_rejection (shards_of (length w)) s

  numbers : Bool
  numbers = are_numbers (kind_of s.kind) (shards_of (length w)) s.c s.d

  rejection_is : rejection w s
      ≡ cond (is_state_length (length w)) (cond (eqb early 0) (cond numbers (cond (well_formed w) answer 9) 7) early) 1
  unfolding rejection step_checks first_of in_range range_rejection is_index_of shard_of answer early numbers
  rejection_is =
      ap (λ (x : ℕ). cond (is_state_length (length w)) x 1)
      (ladder (not (is_kept (kind_of s.kind))) (not (is_unknown (kind_of s.kind))) (is_index_of (shards_of (length w)) (shard_of s) s.b) numbers
      (cond (well_formed w) answer 9))

  -- a step that is rejected leaves the state
  rejected : (r : Rejection) → rejection w s ≡ rejection_number r → (rejection_number r ≡ rejection w s) × (w ≡ after w s)
  rejected r e = (sym e, sym (after_rejected w s (λ q. eqb-false _ _ (number_not_0 r) (sym e ∙ q))))

  pub rejects_length : shards_of (length w) ≡ 0 → (1 ≡ rejection w s) × (w ≡ after w s)
  unfolding is_state_length
  rejects_length e = rejected StateLength (rejection_is ∙ rw (lt-leb 2 (shards_of (length w)) (omega (arith, e))))

  -- n is the number of shards, as the code counted it
  module _ {n : ℕ} (h : HasShards w n) where
    length_passes : is_state_length (length w) ≡ true
    unfolding is_state_length
    length_passes = le-leb 2 (shards_of (length w)) h.several

    -- r is the number of the rejection of the step's kind, shard and index
    early_is : {r : ℕ} → r ≡ range_rejection n s → early ≡ r
    unfolding early
    early_is e = ap (λ (m : ℕ). range_rejection m s) (sym h.count) ∙ sym e

    pub rejects_early : (x : Rejection) → rejection_number x ≡ range_rejection n s → (rejection_number x ≡ rejection w s) × (w ≡ after w s)
    rejects_early x e = rejected x (rejection_is ∙ rw (length_passes, early_is e, number_not_0 x))

    -- k is the kind, and t the test of the other numbers
    module _ (e : 0 ≡ range_rejection n s) {k : Kind} (o : Ok k ≡ kind_of s.kind) {t : Bool} (q : t ≡ are_numbers (Ok k) n s.c s.d) where
      numbers_are : numbers ≡ t
      unfolding numbers
      numbers_are = rw (← o, ← h.count) (sym q)

      pub rejects_numbers : t ≡ false → (7 ≡ rejection w s) × (w ≡ after w s)
      rejects_numbers m = rejected OutOfRange (rejection_is ∙ rw (length_passes, early_is e, numbers_are, m))

      pub rejects_form : t ≡ true → {f : Bool} → f ≡ well_formed w → f ≡ false → (9 ≡ rejection w s) × (w ≡ after w s)
      rejects_form m g l = rejected NotWellFormed (rejection_is ∙ rw (length_passes, early_is e, numbers_are, m, sym g ∙ l))
