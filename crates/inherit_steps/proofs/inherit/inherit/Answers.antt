-- `inherit_steps::inherit::inherit` meets its contract.
use native.Mathlib.Omega.{arith}
use mathlib.Core.Path.{refl}
use Rattle.std.proofs.lemmas.Result.{err_from_is_err_and}
use Rattle.types.specs.Kinds.{names_host}
use Rattle.inherit_steps.proofs.Beginnings.{nowhere, not_pending, later}
use Rattle.inherit_steps.proofs.InheritSteps.{inheriting, before, not_there, not_immutable_lem, holds, done}
use Rattle.inherit_steps.proofs.inherit.inherit.Goals as goal

pub acting_replica-requires : goal.acting_replica-requires
unfolding names_host
acting_replica-requires c = (c.requires, refl)

pub returns-in_err-p : goal.returns-in_err-p
returns-in_err-p c =
    let p = err_from_is_err_and c.from_residual.result c.from_residual.ensures.1 in
    let t = nowhere inheriting _ _ _ _ _ _ c.in_err-p.ensures.value in
    rw (p.1, p.2) (record { value = t.0; state_after = t.1 })

pub returns-then-state-p-ne-PENDING : goal.returns-then-state-p-ne-PENDING
returns-then-state-p-ne-PENDING c =
    let t = not_pending inheriting _ _ _ _ _ c.in_ok-p.ensures.acting c.if-state-p-ne-PENDING.true in
    record { value = t.0; state_after = t.1 }

pub overflow_sub-before : goal.overflow_sub-before
overflow_sub-before c = later inheriting _ _ _ _ _ c.in_ok-p.ensures.acting c.if-state-p-ne-PENDING.false c.requires.ready

pub find-requires : goal.find-requires
find-requires c = before c.requires.ready _ _ c.in_ok-p.ensures.acting

pub returns-in_default : goal.returns-in_default
returns-in_default c =
    let t = not_there c.requires.ready _ _ c.in_ok-p.ensures.acting c.if-state-p-ne-PENDING.false _ c.in_default.ensures.value in
    record { value = t.0; state_after = t.1 }

pub returns-then-state-q-ne-IMMUTABLE : goal.returns-then-state-q-ne-IMMUTABLE
returns-then-state-q-ne-IMMUTABLE c =
    let t = not_immutable_lem c.requires.ready _ _ c.in_ok-p.ensures.acting c.if-state-p-ne-PENDING.false c.in-Ok.ensures.value
    c.if-state-q-ne-IMMUTABLE.true in
    record { value = t.0; state_after = t.1 }

pub overflow_add-source : goal.overflow_add-source
overflow_add-source c = omega (arith, (before c.requires.ready _ _ c.in_ok-p.ensures.acting).host)

pub copy_replica-requires : goal.copy_replica-requires
copy_replica-requires c = (
  c.in_ok-p.ensures.acting.placed,
  holds c.requires.ready _ _ c.in_ok-p.ensures.acting c.if-state-p-ne-PENDING.false c.in-Ok.ensures.value c.in-Ok.ensures.placed,
)

pub returns : goal.returns
returns c =
    let t = done c.requires.ready _ _ c.in_ok-p.ensures.acting c.if-state-p-ne-PENDING.false c.in-Ok.ensures.value
    c.if-state-q-ne-IMMUTABLE.false c.copy_replica.ensures in
    record { value = t.0; state_after = t.1 }
