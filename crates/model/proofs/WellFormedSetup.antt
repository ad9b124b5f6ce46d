-- Setup leaves a well-formed state, as long as the one before.
use Prim.Native.Nat.{ℕ, zero, suc, ◌+◌, ◌*◌, ◌≤◌, ◌<◌}
use native.Mathlib.Omega.{arith}
use mathlib.Core.Path.{◌≡◌, refl, sym, ap, ◌∙◌, subst}
use mathlib.Core.Bool.{Bool, true, false, cond}
use mathlib.Core.List.{List, [], ◌∷◌}
use native.Mathlib.Decide.{ℕ_discrete}
use lib.Dec.{ltb, eqb, lit≤}
use lib.ListN.{length}
use borrow.Author.Tests.{leb-true, le-ltb, eq-eqb, ne_eqb}
use Rattle.model.specs.Tests.{all_below}
use Rattle.model.specs.Checks.{◌or_else◌}
use Rattle.types.specs.Members.{size, is_configuration}
use Rattle.model.specs.Replicas.{replica_words, fresh, unused}
use Rattle.model.specs.Layout.{shards_of, is_state_length, place, is_installed, members, part, replica_at}
use Rattle.model.specs.Origins.{is_origin_of}
use Rattle.model.specs.WellFormed.{is_part, is_sequencer, all_differ, is_head_of, well_formed}
use Rattle.model.specs.Setup.{plan_sequencer, plan_members, plan_orderer, is_planned_shard, is_plan, setup_rejection, initial_replica, initial_state, after_setup}
use Rattle.model.proofs.Tests.{both, all_pass, all_below_lem}
use Rattle.model.proofs.Lengths.{length_of_shards}
use Rattle.model.proofs.Checks.{passed}
use Rattle.model.proofs.Parts.{read_words}
use Rattle.model.proofs.Origins.{no_source_lem}
use Rattle.model.proofs.WellFormedParts.{is_proper, replica_part, unused-part}
use Rattle.model.proofs.WellFormed.{Head, WellFormed, is_well_formed, all_differ_lem}
use Rattle.model.proofs.WellFormedMembers.{configured, size_none}
use Rattle.model.proofs.ProperReplicas.{fresh_proper}
use Rattle.model.proofs.InitialState.{initial_length, initial_part, initial_sequencer, initial_installed, initial_members, initial_orderer}
use Rattle.model.proofs.InitialState.{initial_members_later, initial_orderer_later, initial_rest}

-- ---- a plan

pub record Planned (Z : ℕ) (p : List ℕ) : Type 0 where
  pub sequenced : (z : ℕ) → z < Z → is_sequencer Z z (plan_sequencer p z) ≡ true
  pub configuration : (z : ℕ) → z < Z → is_configuration (plan_members p z) (plan_orderer p z) ≡ true
  pub differ : (a b : ℕ) → a < Z → b < a → plan_sequencer p b ≡ plan_sequencer p a → ⊥

pub planned : (Z : ℕ) (p : List ℕ) → is_plan Z p ≡ true → Planned Z p
unfolding is_plan is_planned_shard
planned Z p e =
    let t = all_pass (eqb (length p) (3 * Z)) (all_below Z (is_planned_shard Z p) ∷ all_differ Z (plan_sequencer p) ∷ []) e in
    let s : (z : ℕ) → z < Z → (is_sequencer Z z (plan_sequencer p z) ≡ true) × (is_configuration (plan_members p z) (plan_orderer p z) ≡ true) =
    λ z h. (both (is_sequencer Z z (plan_sequencer p z)) (is_configuration (plan_members p z) (plan_orderer p z))).0
    (all_below_lem Z (is_planned_shard Z p) t.1.0 z h) in
    record { sequenced = λ z h. (s z h).0; configuration = λ z h. (s z h).1; differ = all_differ_lem Z (plan_sequencer p) t.1.1.0 }

-- ---- the initial state

-- a member's replica is fresh, another's unused
either_part : (Z j : ℕ) (b : Bool) → is_part Z j b (replica_words (cond b fresh unused)) ≡ true
either_part Z j true = replica_part Z j fresh (is_proper Z j fresh (fresh_proper Z j))
either_part Z j false = unused-part Z j

pub initial_short : (m n : ℕ) → length (initial_replica m n).history ≤ 56
unfolding initial_replica fresh unused
initial_short m n = go (ltb n (size m))
  where
    go : (t : Bool) → length (cond t fresh unused).history ≤ 56
    go true = lit≤ tt
    go false = lit≤ tt

initial_no_origin : (m n : ℕ) → (initial_replica m n).origin ≡ 0
unfolding initial_replica fresh unused
initial_no_origin m n = go (ltb n (size m))
  where
    go : (t : Bool) → (cond t fresh unused).origin ≡ 0
    go true = refl
    go false = refl

module _ (Z : ℕ) (p : List ℕ) (n : Planned Z p) where
  module _ {z : ℕ} (hz : z < Z) where
    -- the replicas in use are those of members
    in_use : (j k : ℕ) → j < 8 → k < 4 → ltb (j * 4 + k) (size (plan_members p z)) ≡ ltb k (size (members (initial_state Z p) z j))
    in_use zero k hj hk =
        let e : 0 * 4 + k ≡ k = omega arith in
        ap (λ (i : ℕ). ltb i (size (plan_members p z))) e ∙ ap (λ (m : ℕ). ltb k (size m)) (sym (initial_members Z p hz))
    in_use (suc j) k hj hk =
        let c = configured (plan_members p z) (plan_orderer p z) (n.configuration z hz) in
        let none = size_none (members (initial_state Z p) z (suc j)) (initial_members_later Z p hz (omega arith) hj) in
        le-ltb (suc j * 4 + k) (size (plan_members p z)) (omega arith) ∙ sym (le-ltb k (size (members (initial_state Z p) z (suc j))) (omega arith))

    initial_parts : (j k : ℕ) → j < 8 → k < 4
        → is_part Z j (ltb k (size (members (initial_state Z p) z j))) (part (initial_state Z p) (place z j k)) ≡ true
    unfolding initial_replica
    initial_parts j k hj hk =
        rw (initial_part Z p hz hj hk, in_use j k hj hk) (either_part Z j (ltb k (size (members (initial_state Z p) z j))))

    -- the first configuration's replicas have no source, and no other has members
    initial_sourced : (j k : ℕ) → j < 8 → k < size (members (initial_state Z p) z j)
        → is_origin_of (initial_state Z p) z j (replica_at (initial_state Z p) (place z j k)) ≡ true
    unfolding replica_at
    initial_sourced zero k hj hk =
        let c = configured (plan_members p z) (plan_orderer p z) (n.configuration z hz) in
        let few : k < size (plan_members p z) = rw (initial_members Z p hz) at hk in
        let small : k < 4 = omega (arith, c.size_most) in
        no_source_lem (initial_state Z p) z 0 _ refl
        (rw (initial_part Z p hz hj small, read_words (initial_replica (plan_members p z) (0 * 4 + k)) (initial_short (plan_members p z) (0 * 4 + k)))
        (initial_no_origin (plan_members p z) (0 * 4 + k)))
    initial_sourced (suc j) k hj hk =
        absurd (omega (arith, hk, size_none (members (initial_state Z p) z (suc j)) (initial_members_later Z p hz (omega arith) hj)))

    initial_configured : (j : ℕ) → j < 8 → is_head_of (initial_state Z p) z j ≡ true
    unfolding is_head_of is_installed
    initial_configured zero h = rw (initial_installed Z p hz, initial_members Z p hz, initial_orderer Z p hz) (n.configuration z hz)
    initial_configured (suc j) h =
        rw (
          initial_installed Z p hz,
          initial_members_later Z p hz (omega arith) h,
          initial_orderer_later Z p hz (omega arith) h,
          le-ltb (suc j) 1 (omega arith),
        )

    initial_head_lem : Head Z (initial_state Z p) z
    initial_head_lem =
        record {
          sequenced = subst (λ (q : ℕ). is_sequencer Z z q ≡ true) (sym (initial_sequencer Z p hz)) (n.sequenced z hz);
          least = omega (arith, initial_installed Z p hz);
          most = omega (arith, initial_installed Z p hz);
          configured = initial_configured;
          rest = λ i h. initial_rest Z p hz h;
        }

  pub initial_formed : shards_of (length (initial_state Z p)) ≡ Z → 2 ≤ Z → WellFormed Z (initial_state Z p)
  initial_formed e h =
      record {
        shards = e;
        several = h;
        head = λ z hz. initial_head_lem hz;
        differ = λ a b ha hb q.
            let hb' : b < Z = omega arith in
            n.differ a b ha hb (sym (initial_sequencer Z p hb') ∙ q ∙ initial_sequencer Z p ha);
        parts = λ z j k hz hj hk. initial_parts hz j k hj hk;
        origins = λ z j k hz hj hk. initial_sourced hz j k hj hk;
      }

-- ---- setup

module _ (w p : List ℕ) (e : setup_rejection w p ≡ 0) where
  setup_checks : (2 ≤ shards_of (length w)) × (is_plan (shards_of (length w)) p ≡ true)
  unfolding setup_rejection is_state_length
  setup_checks =
      let c = passed (is_state_length (length w) or_else 1 ∷ is_plan (shards_of (length w)) p or_else 2 ∷ []) refl e in
      (leb-true 2 (shards_of (length w)) (search), search)

  pub after_setup_lem : after_setup w p ≡ initial_state (shards_of (length w)) p
  unfolding after_setup
  after_setup_lem = rw (eq-eqb (setup_rejection w p) 0 e)

  same_length : length (initial_state (shards_of (length w)) p) ≡ length w
  same_length =
      initial_length (shards_of (length w)) p ∙ sym (length_of_shards w (shards_of (length w)) refl setup_checks.0).0

  pub setup_formed : WellFormed (shards_of (length w)) (initial_state (shards_of (length w)) p)
  setup_formed =
      initial_formed (shards_of (length w)) p (planned (shards_of (length w)) p setup_checks.1) (ap shards_of same_length) setup_checks.0

  pub setup_well_formed : well_formed (after_setup w p) ≡ true
  setup_well_formed = rw after_setup_lem (is_well_formed setup_formed)

  setup_accepted_length : length (after_setup w p) ≡ length w
  setup_accepted_length = ap length after_setup_lem ∙ same_length

setup_rejected : (w p : List ℕ) → (setup_rejection w p ≡ 0 → ⊥) → after_setup w p ≡ w
unfolding after_setup
setup_rejected w p n = rw (ne_eqb (setup_rejection w p) 0 n)

-- accepted or not
pub setup_length : (w p : List ℕ) → length (after_setup w p) ≡ length w
setup_length w p = go (ℕ_discrete (setup_rejection w p) 0)
  where
    go : Dec (setup_rejection w p ≡ 0) → length (after_setup w p) ≡ length w
    go (yes e) = setup_accepted_length w p e
    go (no n) = ap length (setup_rejected w p n)
