-- `machine::step` meets its contract.
use mathlib.Core.Path.{sym, ◌∙◌}
use Rattle.std.proofs.lemmas.Result.{err_from_is_err_and}
use Rattle.wellformed.proofs.Checked.{count_passed, count_rejected}
use Rattle.machine.proofs.Ladders.{rejects_length}
use Rattle.machine.proofs.step.Goals as goal

pub returns-in_err-shards : goal.returns-in_err-shards
returns-in_err-shards c =
    let p = err_from_is_err_and c.from_residual.result c.from_residual.ensures.1 in
    let r = count_rejected _ (sym c.in_err-shards.was ∙ c.shard_count.ensures) in
    let t = rejects_length c.args.state.now c.args.s r.1 in
    rw (p.1, p.2, r.0) (record { value = t.0; state_after = t.1 })

pub step_on-requires : goal.step_on-requires
step_on-requires c =
    let n = count_passed _ (sym c.in_ok-shards.was ∙ c.shard_count.ensures) in
    record { count = n.0; several = n.1 }
