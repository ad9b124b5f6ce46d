-- `histories::trace::trace` meets its contract, by the laws of its tests in turn.
use native.Mathlib.Omega.{arith}
use mathlib.Core.Path.{sym, ◌∙◌}
use Rattle.std.proofs.lemmas.Result.{err_from_is_err_and}
use Rattle.histories.proofs.TraceAnswers.{rejected, fits, least, waits, starts, lists}
use Rattle.histories.proofs.trace.trace.Goals as goal

pub returns-in_err-place : goal.returns-in_err-place
returns-in_err-place c =
    let p = err_from_is_err_and c.from_residual.result c.from_residual.ensures.1 in
    let t = rejected _ _ _ _ _ (sym c.in_err-place.was ∙ c.find_named.ensures) in
    rw (p.1, p.2) (record { number = t.0; hosts_after = t.1 })

pub offset_bounds-state-place : goal.offset_bounds-state-place
offset_bounds-state-place c = omega (arith, fits _ _ _ _ c.args.hosts.now.items (sym c.in_ok-place.was ∙ c.find_named.ensures))

pub bounds-state-place : goal.bounds-state-place
bounds-state-place c = omega (arith, fits _ _ _ _ c.args.hosts.now.items (sym c.in_ok-place.was ∙ c.find_named.ensures))

pub overflow_sub-at : goal.overflow_sub-at
overflow_sub-at c = least _ _ _ _ c.args.hosts.now.items (sym c.in_ok-place.was ∙ c.find_named.ensures)

pub put_sources-requires-clause-started : goal.put_sources-requires-clause-started
put_sources-requires-clause-started c = starts _ _ _ _ c.args.hosts.now.items (sym c.in_ok-place.was ∙ c.find_named.ensures) c.if-state-place-ne-PENDING.true

pub returns-then-state-place-ne-PENDING : goal.returns-then-state-place-ne-PENDING
returns-then-state-place-ne-PENDING c =
    let t = lists _ _ _ _ c.args.hosts.now.items (sym c.in_ok-place.was ∙ c.find_named.ensures) c.if-state-place-ne-PENDING.true c.put_sources.ensures in
    record { number = t.0; hosts_after = t.1 }

pub returns-else-state-place-ne-PENDING : goal.returns-else-state-place-ne-PENDING
returns-else-state-place-ne-PENDING c =
    let t = waits _ _ _ _ c.args.hosts.now.items (sym c.in_ok-place.was ∙ c.find_named.ensures) c.if-state-place-ne-PENDING.false c.clear.ensures in
    record { number = t.0; hosts_after = t.1 }
