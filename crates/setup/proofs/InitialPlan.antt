-- A plan that passes setup's test is known to be short and to name few members; where its sequencers are.
-- Assumes nothing.
use Prim.Native.Nat.{ℕ, ◌+◌, ◌*◌, ◌≤◌}
use native.Mathlib.Omega.{arith}
use mathlib.Core.Path.{◌≡◌, refl, ap, fun_ext}
use mathlib.Core.Bool.{true, ◌&&◌}
use mathlib.Core.List.{List, [], ◌∷◌}
use lib.Dec.{eqb}
use lib.ListN.{length, get_or}
use borrow.Author.Tests.{eqb-true}
use Rattle.model.specs.Tests.{all_below}
use Rattle.types.specs.Members.{is_configuration}
use Rattle.model.specs.Setup.{plan_sequencer, plan_members, plan_orderer, is_planned_shard, is_plan}
use Rattle.model.specs.WellFormed.{is_sequencer, all_differ}
use Rattle.model.proofs.Tests.{both, all_pass, all_below_lem}
use Rattle.model.proofs.WellFormedMembers.{configured}
use Rattle.setup.specs.Planned.{Planned}

module _ (Z : ℕ) (p : List ℕ) where
  -- the test of a planned shard, by its words
  pub planned_words : (z : ℕ) → is_planned_shard Z p z
      ≡ (is_sequencer Z z (get_or p (3 * z) 0) && is_configuration (get_or p (3 * z + 1) 0) (get_or p (3 * z + 2) 0))
  unfolding is_planned_shard plan_sequencer plan_members plan_orderer
  planned_words z = refl

  shard_configured : (z : ℕ) → is_planned_shard Z p z ≡ true → is_configuration (plan_members p z) (plan_orderer p z) ≡ true
  unfolding is_planned_shard
  shard_configured z e =
      ((both (is_sequencer Z z (plan_sequencer p z)) (is_configuration (plan_members p z) (plan_orderer p z))).0 e).1

  pub planned : Z ≤ 8 → is_plan Z p ≡ true → Planned Z p
  unfolding is_plan
  planned h e =
      let t = all_pass (eqb (length p) (3 * Z)) (all_below Z (is_planned_shard Z p) ∷ all_differ Z (plan_sequencer p) ∷ []) e in
      record {
        most = h;
        long = eqb-true (length p) (3 * Z) t.0;
        few = λ z l.
            (configured (plan_members p z) (plan_orderer p z) (shard_configured z (all_below_lem Z (is_planned_shard Z p) t.1.0 z l))).size_most;
      }

-- sequencers stand at the distance of a shard's words in a plan
pub sequencers_differ : (p : List ℕ) (Z : ℕ) → all_differ Z (plan_sequencer p) ≡ all_differ Z (λ z. get_or p (z * 3) 0)
unfolding plan_sequencer
sequencers_differ p Z = ap (all_differ Z) (fun_ext (λ z. ap (λ (i : ℕ). get_or p i 0) (omega arith)))
