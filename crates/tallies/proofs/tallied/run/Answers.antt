-- Answers of `run`.
use Prim.Native.Nat.{ℕ}
use native.Mathlib.Omega.{arith}
use mathlib.Core.Path.{◌≡◌, sym, ap, ◌∙◌}
use Rattle.std.specs.Prelude.{Ok}
use Rattle.replay.specs.Run.{report_of}
use Rattle.replay.proofs.Rest.{reads_end, reads_damage, reads_all, reads_part, rest_end, rest_damaged, rest_ended, rest_spent}
use Rattle.replay.proofs.Running.{counted_still}
use Rattle.tallies.proofs.Turning.{begins, tally_told, accepts_one, has_host, has_room, rejects_one}
use Rattle.tallies.proofs.tallied.run.Goals as goal
use Rattle.tallies.proofs.tallied.run.Goals.{then-log-at, else-log-at, in-Err-step_inside, in_default}

pub loop-tried-init : goal.loop-tried-init
loop-tried-init c = rw c.requires.zero (begins _ _ _ c.requires.formed)

pub step_inside-requires : goal.step_inside-requires
step_inside-requires c = (c.loop-tried.invariant.running.formed, counted_still c.loop-tried.invariant.running c.requires.count)

pub count_of-requires : goal.count_of-requires
count_of-requires c =
    has_host c.loop-tried.invariant c.in-Ok-Some.reading.step c.in-Ok-Some.reading.next c.loop-tried-test.true
    (sym c.read_step.ensures.value ∙ c.in-Ok-Some.is ∙ ap Ok c.in-Ok-Some.field-0-is) c.step_inside.ensures.state_after c.in-Err-step_inside.rejection
    c.in-Err-step_inside.ensures.value

pub count-requires : goal.count-requires
count-requires c =
    has_room c.loop-tried.invariant c.in-Ok-Some.reading.step c.in-Ok-Some.reading.next c.loop-tried-test.true
    (sym c.read_step.ensures.value ∙ c.in-Ok-Some.is ∙ ap Ok c.in-Ok-Some.field-0-is) c.step_inside.ensures.state_after c.in-Err-step_inside.rejection
    c.in-Err-step_inside.ensures.value c.count_of.ensures.value c.ranges.budget.fits

pub loop-tried-preserved : goal.loop-tried-preserved
loop-tried-preserved c =
    let i = c.loop-tried.invariant in
    let step = c.in-Ok-Some.reading.step in
    let next = c.in-Ok-Some.reading.next in
    let read = sym c.read_step.ensures.value ∙ c.in-Ok-Some.is ∙ ap Ok c.in-Ok-Some.field-0-is in
    elim c.match-step_inside.branch [
      | in-Err-step_inside w ↦
          rw (w.at-is, w.rejected-is, w.tally-is, w.count.ensures)
          (rejects_one i step next c.loop-tried-test.true read c.step_inside.ensures.state_after w.in-Err-step_inside.rejection
          w.in-Err-step_inside.ensures.value w.count_of.ensures.value)
      | in_default w ↦
          rw (w.at-is, w.rejected-is, w.tally-is)
          (accepts_one i step next c.loop-tried-test.true read c.step_inside.ensures.state_after w.in_default.ensures.value)
    ]

pub returns-in-Ok-None : goal.returns-in-Ok-None
returns-in-Ok-None c =
    let l = c.loop-tried in
    let e = sym c.read_step.ensures.value ∙ c.in-Ok-None.is ∙ ap Ok c.in-Ok-None.field-0-is in
    let d = rest_end l.invariant.running.rest c.loop-tried-test.true e in
    record {
      value = c.stopped.ensures ∙ d.0;
      state_after = d.1;
      tally_after = tally_told l.invariant _ (reads_end c.args.log.now c.args.budget l.at l.tried c.loop-tried-test.true e);
    }

pub returns-in-Err : goal.returns-in-Err
returns-in-Err c =
    let l = c.loop-tried in
    let e = sym c.read_step.ensures.value ∙ c.in-Err.is in
    let d = rest_damaged l.invariant.running.rest c.in-Err.rejection c.loop-tried-test.true e in
    record {
      value = c.stopped-in-Err.ensures ∙ d.0;
      state_after = d.1;
      tally_after = tally_told l.invariant _ (reads_damage c.args.log.now c.args.budget l.at l.tried c.in-Err.rejection c.loop-tried-test.true e);
    }

pub returns : goal.returns
returns c =
    let l = c.loop-tried in
    let i = l.invariant in
    let all : c.args.budget ≡ l.tried = omega arith in
    let told = c.stopped-2.ensures ∙ ap (λ (n : ℕ). report_of c.if-log-at.stop n l.rejected l.at) all in
    elim c.if-log-at.branch [
      | then-log-at w ↦
          let d = rest_ended i.running.rest c.loop-tried-test.false w.if-log-at.true in
          record {
            value = told ∙ rw w.stop-is d.0;
            state_after = d.1;
            tally_after = tally_told i _ (reads_all c.args.log.now c.args.budget l.at l.tried c.loop-tried-test.false w.if-log-at.true);
          }
      | else-log-at w ↦
          let d = rest_spent i.running.rest c.loop-tried-test.false w.if-log-at.false in
          record {
            value = told ∙ rw w.stop-is d.0;
            state_after = d.1;
            tally_after = tally_told i _ (reads_part c.args.log.now c.args.budget l.at l.tried c.loop-tried-test.false w.if-log-at.false);
          }
    ]
