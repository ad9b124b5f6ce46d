-- `capi::replay_tallies::penkwadar_replay_tally` meets its contract.
use native.Mathlib.Omega.{arith}
use mathlib.Core.Path.{ap, ◌∙◌}
use Rattle.tallies.specs.declared.tally.Tally.{Tally}
use Rattle.tallies.specs.Tally.{tally_after}
use Rattle.capi.proofs.TallyOutputs.{after_long, no_report, no_tally, replays_tally}
use Rattle.capi.proofs.replay_tallies.penkwadar_replay_tally.Goals as goal

pub returns-then-report-lt-REPORT_WORDS : goal.returns-then-report-lt-REPORT_WORDS
returns-then-report-lt-REPORT_WORDS c =
    let t = no_report _ _ _ _ _ (omega (arith, c.if-report-lt-REPORT_WORDS.true)) in
    record { value = c.from.ensures ∙ t.0; state_after = t.1.0; report_after = t.1.1.0; tally_after = t.1.1.1 }

pub returns-then-tally-lt-TALLY_WORDS : goal.returns-then-tally-lt-TALLY_WORDS
returns-then-tally-lt-TALLY_WORDS c =
    let t = no_tally _ _ _ _ _ (omega (arith, c.if-tally-lt-TALLY_WORDS.true)) in
    record { value = c.from-then-tally-lt-TALLY_WORDS.ensures ∙ t.0; state_after = t.1.0; report_after = t.1.1.0; tally_after = t.1.1.1 }

pub put_tally-requires : goal.put_tally-requires
put_tally-requires c =
    let a = c.args in
    let room = c.if-tally-lt-TALLY_WORDS.false in
    let e = c.replay_by_value-r.ensures.tally_value ∙ ap (λ (t : Tally). tally_after t a.state.now a.log.now a.budget) c.tally_in-before.ensures in
    (room, after_long a.tally.now room a.state.now a.log.now a.budget e)

pub returns : goal.returns
returns c =
    let a = c.args in
    let t = c.replay_by_value-r.ensures.tally_value ∙ ap (λ (x : Tally). tally_after x a.state.now a.log.now a.budget) c.tally_in-before.ensures in
    let t = replays_tally a.state.now a.log.now a.budget a.report.now a.tally.now
    c.if-report-lt-REPORT_WORDS.false c.if-tally-lt-TALLY_WORDS.false c.replay_by_value-r.ensures.returns.value t c.replay_by_value-r.ensures.state_after (c.put_replay.ensures.value, c.put_replay.ensures.out_after) c.put_tally.ensures in
    record { value = t.0; state_after = t.1.0; report_after = t.1.1.0; tally_after = t.1.1.1 }
