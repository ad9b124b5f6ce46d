-- `replay::replay` meets its contract.
use mathlib.Core.Path.{sym, ◌∙◌}
use Rattle.std.proofs.lemmas.Result.{err_from_is_err_and}
use Rattle.wellformed.proofs.Checked.{check_passed, check_rejected}
use Rattle.replay.proofs.Whole.{rejects, runs, formed}
use Rattle.replay.proofs.replay.Goals as goal

pub returns-in_err-shards : goal.returns-in_err-shards
returns-in_err-shards c =
    let p = err_from_is_err_and c.from_residual.result c.from_residual.ensures.1 in
    let t = rejects _ c.args.log.now c.args.budget (check_rejected _ (sym c.in_err-shards.was ∙ c.check.ensures)) in
    rw (p.1, p.2)
    (record {
      stop_value = t.0.number;
      stop_value_2 = t.0.code;
      tried_value = t.0.tried;
      rejected_value = t.0.rejected;
      bytes_value = t.0.bytes;
      value = t.1.0;
      state_after = t.1.1;
    })

pub run-requires : goal.run-requires
run-requires c =
    let n = check_passed _ (sym c.in_ok-shards.was ∙ c.check.ensures) in
    record { formed = formed _ c.args.log.now c.args.budget n.1; count = n.0 }

pub returns : goal.returns
returns c =
    let n = check_passed _ (sym c.in_ok-shards.was ∙ c.check.ensures) in
    let t = runs _ c.args.log.now c.args.budget n.1 (c.run.ensures.value, c.run.ensures.state_after) in
    record {
      stop_value = t.0.number;
      stop_value_2 = t.0.code;
      tried_value = t.0.tried;
      rejected_value = t.0.rejected;
      bytes_value = t.0.bytes;
      value = t.1.0;
      state_after = t.1.1;
    }
