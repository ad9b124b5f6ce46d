-- `transcript::text::write_lines` meets its contract: the lines of the shards and the last one come after those of the steps.
use native.Mathlib.Omega.{arith}
use mathlib.Core.Path.{◌≡◌, refl}
use mathlib.Core.List.{List, [], ◌∷◌}
use Prim.Native.Nat.{ℕ}
use Rattle.std.proofs.lemmas.Grind.{common_steps}
use Rattle.model.specs.Setup.{initial_state}
use Rattle.model.specs.Transcript.{program_plan, program_start}
use Rattle.decimal_text.proofs.Appending.{appending}
use Rattle.transcript.proofs.WholeText.{planned, start_ready, two_shards, lines_are, of_shard}
use Rattle.transcript.proofs.text.write_lines.Goals as goal

-- the state that the plan gives
begun : {w : List ℕ} → w ≡ initial_state 2 (1 ∷ 3 ∷ 0 ∷ 0 ∷ 12 ∷ 2 ∷ []) → w ≡ program_start
unfolding program_start program_plan
begun e = e

pub write_shards-requires : goal.write_shards-requires
unfolding program_plan
write_shards-requires c = (refl, planned)

pub append_steps-report-requires : goal.append_steps-report-requires
append_steps-report-requires c =
    let b = begun c.write_shards.ensures in
    let e = lines_are c.args.log.now b refl refl in
    record { formed = start_ready c.args.log.now b; count = two_shards c.args.log.now b; room = grind (arith, common_steps, appending) }

pub append_shard-requires : goal.append_shard-requires
append_shard-requires c =
    let b = begun c.write_shards.ensures in
    let r = c.append_steps-report.ensures in
    let e = lines_are c.args.log.now b r.value r.state_after in
    record { of = of_shard c.args.log.now b r.value r.state_after 0 (omega arith); room = grind (arith, common_steps, appending) }

pub append_shard-requires-2 : goal.append_shard-requires-2
append_shard-requires-2 c =
    let b = begun c.write_shards.ensures in
    let r = c.append_steps-report.ensures in
    let e = lines_are c.args.log.now b r.value r.state_after in
    record { of = of_shard c.args.log.now b r.value r.state_after 1 (omega arith); room = grind (arith, common_steps, appending) }

pub append_last-requires : goal.append_last-requires
append_last-requires c =
    let r = c.append_steps-report.ensures in
    let e = lines_are c.args.log.now (begun c.write_shards.ensures) r.value r.state_after in
    grind (arith, common_steps, appending)

pub returns : goal.returns
returns c =
    let r = c.append_steps-report.ensures in
    let e = lines_are c.args.log.now (begun c.write_shards.ensures) r.value r.state_after in
    record { value = grind (arith, common_steps, appending); out_after = grind (arith, common_steps, appending) }
