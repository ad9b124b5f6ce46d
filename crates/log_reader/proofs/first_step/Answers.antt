-- `log_reader::first_step` meets its contract: the end, a kind that cannot be read, or what follows the kind. Assumes nothing.
use native.Mathlib.Omega.{arith}
use mathlib.Core.Path.{refl, sym}
use borrow.Author.Tests.{eqb-true, eqb-false}
use Rattle.std.proofs.lemmas.Result.{err_from_is_err_and}
use Rattle.model.proofs.Results.{reads_first}
use Rattle.log_reader.proofs.StepParts.{first_none}
use Rattle.log_reader.proofs.NumbersTaken.{taken_kind, taken_no_kind}
use Rattle.log_reader.proofs.first_step.Goals as goal

pub returns-then-is_empty : goal.returns-then-is_empty
returns-then-is_empty c =
    let t = reads_first _ (first_none _ (eqb-true _ _ (sym c.if-is_empty.ensures))) in
    record { result_value = t.0; result_value_2 = t.1.0; result_value_3 = t.1.1.0; value = t.1.1.1 }

pub returns-in_err-kind : goal.returns-in_err-kind
returns-in_err-kind c =
    let p = err_from_is_err_and c.from_residual.result c.from_residual.ensures.1 in
    let some = eqb-false _ _ (sym c.if-is_empty.ensures) in
    let e = taken_no_kind c.number.ensures (omega arith) refl c.in_err-kind.was in
    let t = reads_first c.args.log.now (rw (p.1, p.2) e) in
    record { result_value = t.0; result_value_2 = t.1.0; result_value_3 = t.1.1.0; value = t.1.1.1 }

pub returns : goal.returns
returns c =
    let some = eqb-false _ _ (sym c.if-is_empty.ensures) in
    let t = reads_first _ (taken_kind c.number.ensures (omega arith) refl c.in_ok-kind.was c.after_kind.ensures) in
    record { result_value = t.0; result_value_2 = t.1.0; result_value_3 = t.1.1.0; value = t.1.1.1 }
