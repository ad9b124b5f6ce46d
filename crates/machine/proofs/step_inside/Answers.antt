-- `machine::step_inside` meets its contract.
use Rattle.std.proofs.lemmas.Result.{err_from_is_err_and}
use Rattle.machine.proofs.Ladders.{rejects_early}
use Rattle.machine.proofs.step_inside.Goals as goal

pub returns-in_err-kind : goal.returns-in_err-kind
returns-in_err-kind c =
    let p = err_from_is_err_and c.from_residual.result c.from_residual.ensures.1 in
    let t = rejects_early c.args.state.now c.args.s (record { count = c.requires.1; several = c.requires.0.several }) _
    c.in_err-kind.ensures.value in
    rw (p.1, p.2) (record { value = t.0; state_after = t.1 })
