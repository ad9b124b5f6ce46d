-- What setup answers and leaves, by the tests that it makes in turn.
-- Assumes nothing.
use Prim.Native.Nat.{ℕ, ◌*◌, ◌≤◌}
use native.Mathlib.Omega.{arith}
use mathlib.Core.Path.{◌≡◌, sym, ap, ◌∙◌}
use mathlib.Core.Bool.{Bool, true, false}
use mathlib.Core.List.{List}
use lib.ListN.{length}
use borrow.Author.Tests.{le-leb, lt-leb}
use Rattle.model.specs.Checks.{first_of}
use Rattle.model.specs.Layout.{shard_words, shards_of, is_state_length}
use Rattle.model.specs.Setup.{is_plan, setup_rejection, after_setup, initial_state}
use Rattle.model.proofs.Lengths.{shards_most, length_of_shards}
use Rattle.setup.specs.Planned.{Planned}
use Rattle.setup.proofs.InitialPlan.{planned}

-- no state has the length
pub no_shards : (w p : List ℕ) → shards_of (length w) ≡ 0 → (1 ≡ setup_rejection w p) × (w ≡ after_setup w p)
unfolding setup_rejection after_setup first_of is_state_length
no_shards w p e = let l = lt-leb 2 (shards_of (length w)) (omega (arith, e)) in (rw l, rw l)

-- n shards were counted
module _ (w p : List ℕ) {n : ℕ} (count : n ≡ shards_of (length w)) (two : 2 ≤ shards_of (length w)) where
  pub few : n ≤ 8
  few = rw count (shards_most (length w))

  -- b is the test of the plan
  module _ {b : Bool} (test : b ≡ is_plan n p) where
    tested : {t : Bool} → b ≡ t → is_plan (shards_of (length w)) p ≡ t
    tested e = ap (λ (z : ℕ). is_plan z p) (sym count) ∙ sym test ∙ e

    pub no_plan : b ≡ false → (2 ≡ setup_rejection w p) × (w ≡ after_setup w p)
    unfolding setup_rejection after_setup first_of is_state_length
    no_plan e =
        let l = le-leb 2 (shards_of (length w)) two in
        let t = tested e in
        (rw (l, t), rw (l, t))

    module _ (passed : b ≡ true) where
      pub may_write : (length w ≡ n * shard_words) × Planned n p
      may_write = (
        (length_of_shards w n (sym count) (rw count two)).0,
        planned n p few (sym test ∙ passed),
      )

      pub written : {v : List ℕ} → v ≡ initial_state n p → (0 ≡ setup_rejection w p) × (v ≡ after_setup w p)
      unfolding setup_rejection after_setup first_of is_state_length
      written e =
          let l = le-leb 2 (shards_of (length w)) two in
          let t = tested passed in
          (rw (l, t), e ∙ rw (count, l, t))
