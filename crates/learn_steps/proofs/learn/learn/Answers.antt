-- `learn_steps::learn::learn` meets its contract.
use native.Mathlib.Omega.{arith}
use mathlib.Core.Path.{refl}
use Rattle.std.proofs.lemmas.Result.{err_from_is_err_and}
use Rattle.types.specs.Kinds.{names_host}
use Rattle.learn_steps.proofs.LearnSteps.{nowhere, not_active, not_above, comparable, unlike, done}
use Rattle.learn_steps.proofs.learn.learn.Goals as goal

pub acting_replica-requires : goal.acting_replica-requires
unfolding names_host
acting_replica-requires c = (c.requires, refl)

pub returns-in_err-p : goal.returns-in_err-p
returns-in_err-p c =
    let p = err_from_is_err_and c.from_residual.result c.from_residual.ensures.1 in
    let t = nowhere _ _ _ _ _ _ c.in_err-p.ensures.value in
    rw (p.1, p.2) (record { value = t.0; state_after = t.1 })

pub returns-then-state-p-ne-ACTIVE : goal.returns-then-state-p-ne-ACTIVE
returns-then-state-p-ne-ACTIVE c =
    let t = not_active _ _ _ _ _ c.requires.ready c.in_ok-p.ensures.acting c.if-state-p-ne-ACTIVE.true in
    record { value = t.0; state_after = t.1 }

pub returns-then-n-state : goal.returns-then-n-state
returns-then-n-state c =
    let t = not_above _ _ _ _ _ c.requires.ready c.in_ok-p.ensures.acting c.if-state-p-ne-ACTIVE.false (omega (arith, c.if-n-state.true)) in
    record { value = t.0; state_after = t.1 }

pub all_alike-requires : goal.all_alike-requires
all_alike-requires c =
    comparable _ _ _ _ _ c.requires.ready c.in_ok-p.ensures.acting c.if-state-p-ne-ACTIVE.false
    (omega (arith, c.if-n-state.false)) c.configuration_of-c.ensures c.size.ensures

pub returns-then-not-all_alike : goal.returns-then-not-all_alike
returns-then-not-all_alike c =
    let t = unlike _ _ _ _ _ c.requires.ready c.in_ok-p.ensures.acting c.if-state-p-ne-ACTIVE.false
    (omega (arith, c.if-n-state.false)) c.configuration_of-c.ensures c.size.ensures c.all_alike.ensures c.if-not-all_alike.true in
    record { value = t.0; state_after = t.1 }

pub returns : goal.returns
returns c =
    let t = done _ _ _ _ _ c.requires.ready c.in_ok-p.ensures.acting c.if-state-p-ne-ACTIVE.false
    (omega (arith, c.if-n-state.false)) c.configuration_of-c.ensures c.size.ensures c.all_alike.ensures c.if-not-all_alike.false in
    record { value = t.0; state_after = t.1 }
