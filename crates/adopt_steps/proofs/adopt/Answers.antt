-- `adopt_steps::adopt` meets its contract.
use mathlib.Core.Path.{refl}
use Rattle.std.proofs.lemmas.Result.{err_from_is_err_and}
use Rattle.types.specs.Kinds.{names_host}
use Rattle.adopt_steps.proofs.AdoptSteps.{nowhere, there, is_orderer, not_active, holds, orderer-pending, done}
use Rattle.adopt_steps.proofs.adopt.Goals as goal

pub acting_replica-requires : goal.acting_replica-requires
unfolding names_host
acting_replica-requires c = (c.requires, refl)

pub returns-in_err-p : goal.returns-in_err-p
returns-in_err-p c =
    let p = err_from_is_err_and c.from_residual.result c.from_residual.ensures.1 in
    let t = nowhere _ _ _ _ _ _ c.in_err-p.ensures.value in
    rw (p.1, p.2) (record { value = t.0; state_after = t.1 })

pub returns-then-host-configuration_of : goal.returns-then-host-configuration_of
returns-then-host-configuration_of c =
    let t = is_orderer _ _ _ _ _ c.requires.ready c.in_ok-p.ensures.acting c.configuration_of.ensures c.if-host-configuration_of.true in
    record { value = t.0; state_after = t.1 }

pub returns-then-state-p-ne-ACTIVE : goal.returns-then-state-p-ne-ACTIVE
returns-then-state-p-ne-ACTIVE c =
    let t = not_active _ _ _ _ _ c.requires.ready c.in_ok-p.ensures.acting c.configuration_of.ensures c.if-host-configuration_of.false
    c.if-state-p-ne-ACTIVE.true in
    record { value = t.0; state_after = t.1 }

pub orderer_place-o-requires : goal.orderer_place-o-requires
orderer_place-o-requires c = there _ _ _ _ _ c.requires.ready c.in_ok-p.ensures.acting

pub returns-then-state-o-eq-PENDING : goal.returns-then-state-o-eq-PENDING
returns-then-state-o-eq-PENDING c =
    let t = orderer-pending _ _ _ _ _ c.requires.ready c.in_ok-p.ensures.acting c.configuration_of.ensures c.if-host-configuration_of.false
    c.if-state-p-ne-ACTIVE.false c.orderer_place-o.ensures.0 c.if-state-o-eq-PENDING.true in
    record { value = t.0; state_after = t.1 }

pub copy_replica-requires : goal.copy_replica-requires
copy_replica-requires c = (
  c.in_ok-p.ensures.acting.placed,
  holds _ _ _ _ _ c.requires.ready c.in_ok-p.ensures.acting c.configuration_of.ensures c.if-host-configuration_of.false
      c.if-state-p-ne-ACTIVE.false c.orderer_place-o.ensures.0 c.orderer_place-o.ensures.1,
)

pub returns : goal.returns
returns c =
    let t = done _ _ _ _ _ c.requires.ready c.in_ok-p.ensures.acting c.configuration_of.ensures c.if-host-configuration_of.false
    c.if-state-p-ne-ACTIVE.false c.orderer_place-o.ensures.0 c.if-state-o-eq-PENDING.false c.max.ensures c.min-stable.ensures c.copy_replica.ensures in
    record { value = t.0; state_after = t.1 }
