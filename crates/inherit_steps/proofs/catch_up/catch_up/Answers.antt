-- `inherit_steps::catch_up::catch_up` meets its contract.
use mathlib.Core.Path.{refl}
use Rattle.std.proofs.lemmas.Result.{err_from_is_err_and}
use Rattle.types.specs.Kinds.{names_host}
use Rattle.inherit_steps.proofs.Beginnings.{nowhere, not_pending}
use Rattle.inherit_steps.proofs.CatchUpSteps.{catching_up, peer_host, not_there, peer_pending, holds, done}
use Rattle.inherit_steps.proofs.catch_up.catch_up.Goals as goal

pub acting_replica-requires : goal.acting_replica-requires
unfolding names_host
acting_replica-requires c = (c.requires, refl)

pub returns-in_err-p : goal.returns-in_err-p
returns-in_err-p c =
    let p = err_from_is_err_and c.from_residual.result c.from_residual.ensures.1 in
    let t = nowhere catching_up _ _ _ _ _ _ c.in_err-p.ensures.value in
    rw (p.1, p.2) (record { value = t.0; state_after = t.1 })

pub returns-then-state-p-ne-PENDING : goal.returns-then-state-p-ne-PENDING
returns-then-state-p-ne-PENDING c =
    let t = not_pending catching_up _ _ _ _ _ c.in_ok-p.ensures.acting c.if-state-p-ne-PENDING.true in
    record { value = t.0; state_after = t.1 }

pub find-requires : goal.find-requires
find-requires c = peer_host c.requires.ready _ _ c.in_ok-p.ensures.acting

pub returns-in_default : goal.returns-in_default
returns-in_default c =
    let t = not_there c.requires.ready _ _ c.in_ok-p.ensures.acting c.if-state-p-ne-PENDING.false _ c.in_default.ensures.value in
    record { value = t.0; state_after = t.1 }

pub returns-then-state-q-eq-PENDING : goal.returns-then-state-q-eq-PENDING
returns-then-state-q-eq-PENDING c =
    let t = peer_pending c.requires.ready _ _ c.in_ok-p.ensures.acting c.if-state-p-ne-PENDING.false c.in-Ok.ensures.value
    c.if-state-q-eq-PENDING.true in
    record { value = t.0; state_after = t.1 }

pub copy_replica-requires : goal.copy_replica-requires
copy_replica-requires c = (
  c.in_ok-p.ensures.acting.placed,
  holds c.requires.ready _ _ c.in_ok-p.ensures.acting c.if-state-p-ne-PENDING.false c.in-Ok.ensures.value c.in-Ok.ensures.placed,
)

pub returns : goal.returns
returns c =
    let t = done c.requires.ready _ _ c.in_ok-p.ensures.acting c.if-state-p-ne-PENDING.false c.in-Ok.ensures.value
    c.if-state-q-eq-PENDING.false c.copy_replica.ensures in
    record { value = t.0; state_after = t.1 }
