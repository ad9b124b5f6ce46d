-- `capi::replays::penkwadar_replay` meets its contract.
use mathlib.Core.Path.{◌∙◌}
use native.Mathlib.Omega.{arith}
use Rattle.replay.proofs.Whole.{reports}
use Rattle.capi.proofs.Reports.{short, told}
use Rattle.capi.proofs.replays.penkwadar_replay.Goals as goal

pub returns-then-report-lt-REPORT_WORDS : goal.returns-then-report-lt-REPORT_WORDS
returns-then-report-lt-REPORT_WORDS c =
    let t = short _ _ _ _ (omega (arith, c.if-report-lt-REPORT_WORDS.true)) in
    record { value = c.from.ensures ∙ t.0; state_after = t.1.0; report_after = t.1.1 }

pub put_replay-requires : goal.put_replay-requires
put_replay-requires c = omega arith

pub returns : goal.returns
returns c =
    let r = c.replay.ensures in
    let t = told _ _ _ _ c.if-report-lt-REPORT_WORDS.false (reports _ _ _ r.value r.state_after) (c.put_replay.ensures.value, c.put_replay.ensures.out_after) in
    record { value = t.0; state_after = t.1.0; report_after = t.1.1 }
