-- `wedge_steps::wedge::wedge` meets its contract.
use mathlib.Core.Path.{refl}
use Rattle.std.proofs.lemmas.Result.{err_from_is_err_and}
use Rattle.types.specs.Kinds.{names_host}
use Rattle.wedge_steps.proofs.WedgeSteps.{nowhere, not_active, done}
use Rattle.wedge_steps.proofs.wedge.wedge.Goals as goal

pub acting_replica-requires : goal.acting_replica-requires
unfolding names_host
acting_replica-requires c = (c.requires, refl)

pub returns-in_err-p : goal.returns-in_err-p
returns-in_err-p c =
    let p = err_from_is_err_and c.from_residual.result c.from_residual.ensures.1 in
    let t = nowhere _ _ _ _ _ _ c.in_err-p.ensures.value in
    rw (p.1, p.2) (record { value = t.0; state_after = t.1 })

pub returns-then-state-p-ne-ACTIVE : goal.returns-then-state-p-ne-ACTIVE
returns-then-state-p-ne-ACTIVE c =
    let t = not_active _ _ _ _ _ c.in_ok-p.ensures.acting c.if-state-p-ne-ACTIVE.true in
    record { value = t.0; state_after = t.1 }

pub returns : goal.returns
returns c =
    let t = done _ _ _ _ _ c.in_ok-p.ensures.acting c.requires.ready c.if-state-p-ne-ACTIVE.false in
    record { value = t.0; state_after = t.1 }
