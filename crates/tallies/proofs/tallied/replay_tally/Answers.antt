-- `tallies::tallied::replay_tally` meets its contract.
use mathlib.Core.Path.{sym, ◌∙◌}
use Rattle.std.proofs.lemmas.Result.{err_from_is_err_and}
use Rattle.types.proofs.Rejections.{number_not_0}
use Rattle.model.specs.Replay.{replayed}
use Rattle.wellformed.proofs.Checked.{check_passed, check_rejected}
use Rattle.replay.proofs.Whole.{rejects, runs, formed}
use Rattle.tallies.specs.Tally.{tally_after}
use Rattle.tallies.proofs.Turning.{returned}
use Rattle.tallies.proofs.tallied.replay_tally.Goals as goal

pub returns-in_err-shards : goal.returns-in_err-shards
unfolding tally_after
returns-in_err-shards c =
    let p = err_from_is_err_and c.from_residual.result c.from_residual.ensures.1 in
    let r = check_rejected _ (sym c.in_err-shards.was ∙ c.check.ensures) in
    let t = rejects _ c.args.log.now c.args.budget r in
    rw (p.1, p.2) (record { returns = returned _ _ _ t.1.0; state_after = t.1.1; tally_after = rw (← r, number_not_0 c.in_err-shards.field-0.0) })

pub run-requires : goal.run-requires
run-requires c =
    let n = check_passed _ (sym c.in_ok-shards.was ∙ c.check.ensures) in
    record { formed = formed _ c.args.log.now c.args.budget n.1; count = n.0; zero = c.zero.ensures }

pub returns : goal.returns
unfolding tally_after replayed
returns c =
    let n = check_passed _ (sym c.in_ok-shards.was ∙ c.check.ensures) in
    let t = runs _ c.args.log.now c.args.budget n.1 (c.run.ensures.value, c.run.ensures.state_after) in
    record { returns = returned _ _ _ t.1.0; state_after = t.1.1; tally_after = c.run.ensures.tally_after ∙ rw n.1 }
