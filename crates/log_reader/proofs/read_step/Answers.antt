-- `log_reader::read_step` meets its contract.
use Prim.Native.Nat.{ℕ, ◌-◌}
use native.Mathlib.Omega.{arith}
use mathlib.Core.Path.{◌≡◌}
use mathlib.Core.List.{List}
use lib.ListN.{length, take, drop, length-drop}
use lib.Seq.{take_all}
use Rattle.std.proofs.lemmas.Result.{err_from_is_err_and}
use Rattle.model.specs.Log.{ReadStep, read_step, from}
use Rattle.model.proofs.Results.{reads_at}
use Rattle.log_reader.proofs.StepParts.{step_none, step_from, step_inside}
use Rattle.log_reader.proofs.read_step.Goals as goal

-- what is read at the start of the part of the log from the position on
at_rest : (log : List ℕ) (at : ℕ) {x : ReadStep} → x ≡ read_step (take (length log - at) (drop at log)) → x ≡ read_step (drop at log)
at_rest log at e = rw (take_all (length log - at) (drop at log) (omega (arith, length-drop at log))) at e

pub returns-then-log-at : goal.returns-then-log-at
returns-then-log-at c =
    let t = reads_at _ _ (step_none _ _ c.if-log-at.true) in
    record { result_value = t.0; result_value_2 = t.1.0; result_value_3 = t.1.1.0; value = t.1.1.1 }

pub returns-in_err-first : goal.returns-in_err-first
unfolding from
returns-in_err-first c =
    let p = err_from_is_err_and c.from_residual.result c.from_residual.ensures.1 in
    let t = reads_at _ _ (rw (p.1, p.2) (step_from _ _ (at_rest c.args.log.now c.args.at c.first_step.ensures.value) c.in_err-first.was)) in
    record { result_value = t.0; result_value_2 = t.1.0; result_value_3 = t.1.1.0; value = t.1.1.1 }

pub returns-in_default : goal.returns-in_default
unfolding from
returns-in_default c =
    let t = reads_at _ _ (step_from _ _ (at_rest c.args.log.now c.args.at c.first_step.ensures.value) (rw c.in_default.is at c.in_ok-first.was)) in
    record { result_value = t.0; result_value_2 = t.1.0; result_value_3 = t.1.1.0; value = t.1.1.1 }

pub overflow_add-result : goal.overflow_add-result
overflow_add-result c =
    let l = c.args.log.now in
    omega (arith, step_inside l c.args.at (at_rest l c.args.at c.first_step.ensures.value) (rw c.in-Some.is at c.in_ok-first.was), c.if-log-at.false)

pub returns : goal.returns
unfolding from
returns c =
    let t = reads_at _ _ (step_from _ _ (at_rest c.args.log.now c.args.at c.first_step.ensures.value) (rw c.in-Some.is at c.in_ok-first.was)) in
    record { result_value = t.0; result_value_2 = t.1.0; result_value_3 = t.1.1.0; value = t.1.1.1 }
