-- `replica_steps::add::add` meets its contract.
use native.Mathlib.Omega.{arith}
use lib.ListN.{length-set}
use Rattle.std.specs.Prelude.{Ok}
use Rattle.std.proofs.lemmas.Result.{err_from_is_err_and}
use Rattle.types.specs.declared.kind.Kind.TheVariants.{Add}
use Rattle.lookup.proofs.KindAnswers.{tested, out_of_range_lem}
use Rattle.replica_steps.proofs.AddSteps.{named, proper, nowhere, holds_it, not_active, not_sequencer, against, full, done}
use Rattle.replica_steps.proofs.add.add.Goals as goal

pub returns-then-not-are_numbers : goal.returns-then-not-are_numbers
returns-then-not-are_numbers c =
    let e = tested (Ok Add) c.requires.kind _ _ c.are_numbers.ensures c.if-not-are_numbers.true in
    let t = out_of_range_lem (Ok Add) _ c.args.at.z c.args.at.j _ _ e in
    record { value = t.0; state_after = t.1 }

pub find-requires : goal.find-requires
find-requires c = named c.requires

pub returns-in_err-p : goal.returns-in_err-p
returns-in_err-p c =
    let e = tested (Ok Add) c.requires.kind _ _ c.are_numbers.ensures c.if-not-are_numbers.false in
    let p = err_from_is_err_and c.from_residual.result c.from_residual.ensures.1 in
    let t = nowhere c.requires _ _ e _ c.in_err-p.ensures.value in
    rw (p.1, p.2) (record { value = t.0; state_after = t.1 })

pub returns-then-state-p-ne-ACTIVE : goal.returns-then-state-p-ne-ACTIVE
returns-then-state-p-ne-ACTIVE c =
    let e = tested (Ok Add) c.requires.kind _ _ c.are_numbers.ensures c.if-not-are_numbers.false in
    let t = not_active c.requires _ _ e c.in_ok-p.ensures.value c.if-state-p-ne-ACTIVE.true in
    record { value = t.0; state_after = t.1 }

pub may_issue-requires : goal.may_issue-requires
may_issue-requires c =
    let e = tested (Ok Add) c.requires.kind _ _ c.are_numbers.ensures c.if-not-are_numbers.false in
    proper c.requires _ _ e

pub returns-then-not-may_issue : goal.returns-then-not-may_issue
returns-then-not-may_issue c =
    let e = tested (Ok Add) c.requires.kind _ _ c.are_numbers.ensures c.if-not-are_numbers.false in
    let t = not_sequencer c.requires _ _ e c.in_ok-p.ensures.value c.if-state-p-ne-ACTIVE.false c.may_issue.ensures c.if-not-may_issue.true in
    record { value = t.0; state_after = t.1 }

pub conflict_at-requires : goal.conflict_at-requires
conflict_at-requires c =
    let e = tested (Ok Add) c.requires.kind _ _ c.are_numbers.ensures c.if-not-are_numbers.false in
    holds_it c.requires _ _ e c.in_ok-p.ensures.value c.in_ok-p.ensures.placed

pub returns-in_err-conflict_at : goal.returns-in_err-conflict_at
returns-in_err-conflict_at c =
    let e = tested (Ok Add) c.requires.kind _ _ c.are_numbers.ensures c.if-not-are_numbers.false in
    let p = err_from_is_err_and c.from_residual-in_err-conflict_at.result c.from_residual-in_err-conflict_at.ensures.1 in
    let t = against c.requires _ _ e c.in_ok-p.ensures.value c.if-state-p-ne-ACTIVE.false c.may_issue.ensures c.if-not-may_issue.false _
    c.in_err-conflict_at.ensures in
    rw (p.1, p.2) (record { value = t.0; state_after = t.1 })

pub returns-then-len-ge-MOST_ENTRIES : goal.returns-then-len-ge-MOST_ENTRIES
returns-then-len-ge-MOST_ENTRIES c =
    let e = tested (Ok Add) c.requires.kind _ _ c.are_numbers.ensures c.if-not-are_numbers.false in
    let t = full c.requires _ _ e c.in_ok-p.ensures.value c.if-state-p-ne-ACTIVE.false c.may_issue.ensures c.if-not-may_issue.false
    c.in_ok-conflict_at.ensures (omega (arith, c.if-len-ge-MOST_ENTRIES.true)) in
    record { value = t.0; state_after = t.1 }

pub bounds-state-p-4 : goal.bounds-state-p-4
bounds-state-p-4 c = simp length-set (omega (arith, c.in_ok-p.ensures.placed.fits))

pub returns : goal.returns
returns c =
    let e = tested (Ok Add) c.requires.kind _ _ c.are_numbers.ensures c.if-not-are_numbers.false in
    let t = done c.requires _ _ e c.in_ok-p.ensures.value c.if-state-p-ne-ACTIVE.false c.may_issue.ensures c.if-not-may_issue.false
    c.in_ok-conflict_at.ensures (omega (arith, c.if-len-ge-MOST_ENTRIES.false)) in
    record { value = t.0; state_after = t.1 }
