-- The program's plan is accepted, and the state that it gives is well-formed. The proof of `specs/ProgramSetup.antt`.
use Prim.Native.Nat.{ℕ}
use mathlib.Core.Path.{◌≡◌, refl, subst}
use mathlib.Core.List.{List}
use lib.Count.{ones}
use lib.ListN.{length}
use Rattle.model.specs.Tests.{all_below}
use Rattle.model.specs.Checks.{first_of}
use Rattle.types.specs.Members.{is_host, has_member, is_member_set, is_configuration}
use Rattle.model.specs.Layout.{shards_of, is_state_length}
use Rattle.model.specs.WellFormed.{is_sequencer, all_differ}
use Rattle.model.specs.Setup.{plan_sequencer, plan_members, plan_orderer, is_planned_shard, is_plan, setup_rejection, initial_state, after_setup}
use Rattle.model.specs.Transcript.{program_plan, program_start}
use Rattle.model.specs.ProgramSetup.{ProgramSetup}
use Rattle.model.proofs.InitialState.{initial_length}
use Rattle.model.proofs.WellFormed.{WellFormed}
use Rattle.model.proofs.WellFormedSetup.{setup_formed}

pub start_length : length program_start ≡ 4224
unfolding program_start
start_length = initial_length 2 program_plan

shards : (w : List ℕ) → length w ≡ 4224 → shards_of (length w) ≡ 2
unfolding shards_of
shards w e = rw e

pub start_shards : shards_of (length program_start) ≡ 2
start_shards = shards program_start start_length

-- setup of any state of that length
pub start_accepted : (w : List ℕ) → length w ≡ 4224 → setup_rejection w program_plan ≡ 0
unfolding setup_rejection is_state_length first_of is_plan is_planned_shard is_sequencer all_differ all_below
    is_configuration is_member_set is_host has_member ones plan_sequencer plan_members plan_orderer program_plan
start_accepted w e = rw (shards w e)

pub start_left : (w : List ℕ) → length w ≡ 4224 → after_setup w program_plan ≡ program_start
unfolding after_setup program_start
start_left w e = rw (start_accepted w e, shards w e)

pub start_formed : WellFormed 2 program_start
unfolding program_start
start_formed =
    subst (λ (Z : ℕ). WellFormed Z (initial_state Z program_plan)) start_shards
    (setup_formed program_start program_plan (start_accepted program_start start_length))

pub program_setup : ProgramSetup
unfolding program_plan
program_setup = record { plan = refl; accepted = start_accepted; first = start_left }
