-- `install_steps::install` meets its contract.
use native.Mathlib.Omega.{arith}
use Rattle.std.specs.Prelude.{Ok}
use Rattle.std.proofs.lemmas.Result.{err_from_is_err_and}
use Rattle.types.specs.declared.kind.Kind.TheVariants.{Install}
use Rattle.lookup.proofs.KindAnswers.{tested, out_of_range_lem}
use Rattle.install_steps.proofs.InstallReads.{installed_few}
use Rattle.install_steps.proofs.Wedges.{first_ready}
use Rattle.install_steps.proofs.InstallSteps.{named, few, nowhere, not_stable, no_issue, is_issue_lem, not_next, not_wedged}
use Rattle.install_steps.proofs.InstallSteps.{earlier, next_ready, done}
use Rattle.install_steps.proofs.install.Goals as goal

pub returns-then-not-are_numbers : goal.returns-then-not-are_numbers
returns-then-not-are_numbers c =
    let e = tested (Ok Install) c.requires _ _ c.are_numbers.ensures c.if-not-are_numbers.true in
    let t = out_of_range_lem (Ok Install) _ c.args.at.z c.args.at.j _ _ e in
    record { value = t.0; state_after = t.1 }

pub issuer-requires : goal.issuer-requires
issuer-requires c =
    let e = tested (Ok Install) c.requires _ _ c.are_numbers.ensures c.if-not-are_numbers.false in
    named c.requires.ready _ _ e

pub returns-in_err-p : goal.returns-in_err-p
returns-in_err-p c =
    let e = tested (Ok Install) c.requires _ _ c.are_numbers.ensures c.if-not-are_numbers.false in
    let p = err_from_is_err_and c.from_residual.result c.from_residual.ensures.1 in
    let t = nowhere c.requires.ready _ _ e _ c.in_err-p.ensures.value in
    rw (p.1, p.2) (record { value = t.0; state_after = t.1 })

pub returns-then-state-p : goal.returns-then-state-p
returns-then-state-p c =
    let e = tested (Ok Install) c.requires _ _ c.are_numbers.ensures c.if-not-are_numbers.false in
    let t = not_stable c.requires.ready _ _ e c.in_ok-p.ensures.value c.if-state-p.true in
    record { value = t.0; state_after = t.1 }

pub overflow_add-end : goal.overflow_add-end
overflow_add-end c =
    let e = tested (Ok Install) c.requires _ _ c.are_numbers.ensures c.if-not-are_numbers.false in
    omega (arith, few c.requires.ready _ _ e, c.in_ok-p.ensures.placed.fits)

pub offset_bounds-state-end : goal.offset_bounds-state-end
offset_bounds-state-end c =
    let e = tested (Ok Install) c.requires _ _ c.are_numbers.ensures c.if-not-are_numbers.false in
    omega (arith, few c.requires.ready _ _ e, c.in_ok-p.ensures.placed.fits)

pub bounds-state-end : goal.bounds-state-end
bounds-state-end c =
    let e = tested (Ok Install) c.requires _ _ c.are_numbers.ensures c.if-not-are_numbers.false in
    omega (arith, few c.requires.ready _ _ e, c.in_ok-p.ensures.placed.fits)

pub returns-then-not-is_issue_for : goal.returns-then-not-is_issue_for
returns-then-not-is_issue_for c =
    let e = tested (Ok Install) c.requires _ _ c.are_numbers.ensures c.if-not-are_numbers.false in
    let t = no_issue c.requires.ready _ _ e c.in_ok-p.ensures.value c.if-state-p.false c.is_issue_for.ensures c.if-not-is_issue_for.true in
    record { value = t.0; state_after = t.1 }

pub overflow_add-state : goal.overflow_add-state
overflow_add-state c = rw c.head.ensures (omega (arith, installed_few c.requires.ready))

pub returns-then-issue_index-state : goal.returns-then-issue_index-state
returns-then-issue_index-state c =
    let e = tested (Ok Install) c.requires _ _ c.are_numbers.ensures c.if-not-are_numbers.false in
    let t = not_next c.requires.ready _ _ e c.in_ok-p.ensures.value c.if-state-p.false c.is_issue_for.ensures c.if-not-is_issue_for.false c.issue_index.ensures
    (rw c.head.ensures at c.if-issue_index-state.true) in
    record { value = t.0; state_after = t.1 }

pub is_newest_wedged-requires : goal.is_newest_wedged-requires
is_newest_wedged-requires c = first_ready c.requires.ready

pub returns-then-not-is_newest_wedged : goal.returns-then-not-is_newest_wedged
returns-then-not-is_newest_wedged c =
    let e = tested (Ok Install) c.requires _ _ c.are_numbers.ensures c.if-not-are_numbers.false in
    let t = not_wedged c.requires.ready _ _ e c.in_ok-p.ensures.value c.if-state-p.false
    c.is_issue_for.ensures c.if-not-is_issue_for.false c.issue_index.ensures
    (rw c.head.ensures at c.if-issue_index-state.false) c.is_newest_wedged.ensures c.if-not-is_newest_wedged.true in
    record { value = t.0; state_after = t.1 }

pub slice_bounds-is_issued-end : goal.slice_bounds-is_issued-end
slice_bounds-is_issued-end c =
    let e = tested (Ok Install) c.requires _ _ c.are_numbers.ensures c.if-not-are_numbers.false in
    omega (arith, few c.requires.ready _ _ e, c.in_ok-p.ensures.placed.fits)

pub is_issued-requires : goal.is_issued-requires
is_issued-requires c =
    let e = tested (Ok Install) c.requires _ _ c.are_numbers.ensures c.if-not-are_numbers.false in
    is_issue_lem c.requires.ready _ _ e c.in_ok-p.ensures.value c.if-state-p.false c.is_issue_for.ensures c.if-not-is_issue_for.false

pub returns-then-is_issued : goal.returns-then-is_issued
returns-then-is_issued c =
    let e = tested (Ok Install) c.requires _ _ c.are_numbers.ensures c.if-not-are_numbers.false in
    let t = earlier c.requires.ready _ _ e c.in_ok-p.ensures.value c.if-state-p.false c.is_issue_for.ensures c.if-not-is_issue_for.false c.issue_index.ensures
    (rw c.head.ensures at c.if-issue_index-state.false) c.is_newest_wedged.ensures c.if-not-is_newest_wedged.false
    c.in_ok-p.ensures.placed c.is_issued.ensures c.if-is_issued.true in
    record { value = t.0; state_after = t.1 }

pub install_next-requires : goal.install_next-requires
install_next-requires c =
    let e = tested (Ok Install) c.requires _ _ c.are_numbers.ensures c.if-not-are_numbers.false in
    next_ready c.requires.ready _ _ e c.in_ok-p.ensures.value c.if-state-p.false c.is_issue_for.ensures c.if-not-is_issue_for.false c.issue_index.ensures
    (rw c.head.ensures at c.if-issue_index-state.false) c.is_newest_wedged.ensures c.if-not-is_newest_wedged.false
    c.in_ok-p.ensures.placed c.is_issued.ensures c.if-is_issued.false c.issue_members.ensures c.issue_orderer.ensures

pub returns : goal.returns
returns c =
    let e = tested (Ok Install) c.requires _ _ c.are_numbers.ensures c.if-not-are_numbers.false in
    let t = done c.requires.ready _ _ e c.in_ok-p.ensures.value c.if-state-p.false c.is_issue_for.ensures c.if-not-is_issue_for.false c.issue_index.ensures
    (rw c.head.ensures at c.if-issue_index-state.false) c.is_newest_wedged.ensures c.if-not-is_newest_wedged.false
    c.in_ok-p.ensures.placed c.is_issued.ensures c.if-is_issued.false c.issue_members.ensures c.issue_orderer.ensures c.install_next.ensures in
    record { value = t.0; state_after = t.1 }
