-- `records::csv` meets its contract.
use Prim.Native.Nat.{◌≤◌}
use native.Mathlib.Omega.{arith}
use mathlib.Core.Path.{sym, ◌∙◌}
use lib.ListN.{length}
use Rattle.csv_rows.specs.Csv.{csv}
use Rattle.std.proofs.lemmas.Result.{err_from_is_err_and}
use Rattle.records.proofs.StateText.{csv_by_shards, few_shards}
use Rattle.records.proofs.CsvAnswers.{passed, rejects_state, rejects_room, writes}
use Rattle.records.proofs.csv.Goals as goal
use Rattle.records.proofs.csv.Goals.{else-out-shards-via-then-out-shards+else-out-text_length, else-out-shards-via-else-out-shards}

pub returns-in_err-shards : goal.returns-in_err-shards
returns-in_err-shards c =
    let p = err_from_is_err_and c.from_residual.result c.from_residual.ensures.1 in
    let t = rejects_state c.args.state.now c.args.out.now (sym c.in_err-shards.was ∙ c.check.ensures) in
    rw (p.1, p.2) (record { result_value = t.0; result_value_2 = t.1.0; value = t.1.1.0; out_after = t.1.1.1 })

pub overflow_mul-shards : goal.overflow_mul-shards
overflow_mul-shards c =
    let formed = passed c.args.state.now c.args.out.now (sym c.in_ok-shards.was ∙ c.check.ensures) in
    omega (arith, few_shards formed)

pub overflow_add-shards : goal.overflow_add-shards
overflow_add-shards c =
    let formed = passed c.args.state.now c.args.out.now (sym c.in_ok-shards.was ∙ c.check.ensures) in
    omega (arith, few_shards formed)

pub text_length-requires : goal.text_length-requires
text_length-requires c = passed c.args.state.now c.args.out.now (sym c.in_ok-shards.was ∙ c.check.ensures)

pub returns-then-out-text_length : goal.returns-then-out-text_length
returns-then-out-text_length c =
    let formed = passed c.args.state.now c.args.out.now (sym c.in_ok-shards.was ∙ c.check.ensures) in
    let t = rejects_room c.args.state.now c.args.out.now formed (omega (arith, c.text_length.ensures, c.if-out-text_length.true)) in
    record { result_value = t.0; result_value_2 = t.1.0; value = t.1.1.0; out_after = t.1.1.1 }

pub write_text-requires : goal.write_text-requires
write_text-requires c =
    let formed = passed c.args.state.now c.args.out.now (sym c.in_ok-shards.was ∙ c.check.ensures) in
    let room : length (csv c.args.state.now) ≤ length c.args.out.now = elim c.else-out-shards.branch [
      | else-out-shards-via-then-out-shards+else-out-text_length w ↦ omega (arith, w.text_length.ensures, w.if-out-text_length.false)
      | else-out-shards-via-else-out-shards w ↦ omega (arith, csv_by_shards formed, w.if-out-shards.false)
    ] in
    record { of = formed; room = room }

pub returns : goal.returns
returns c =
    let formed = passed c.args.state.now c.args.out.now (sym c.in_ok-shards.was ∙ c.check.ensures) in
    let room : length (csv c.args.state.now) ≤ length c.args.out.now = elim c.else-out-shards.branch [
      | else-out-shards-via-then-out-shards+else-out-text_length w ↦ omega (arith, w.text_length.ensures, w.if-out-text_length.false)
      | else-out-shards-via-else-out-shards w ↦ omega (arith, csv_by_shards formed, w.if-out-shards.false)
    ] in
    let t = writes c.args.state.now c.args.out.now formed room c.write_text.ensures.value c.write_text.ensures.out_after in
    record { result_value = t.0; result_value_2 = t.1.0; value = t.1.1.0; out_after = t.1.1.1 }
