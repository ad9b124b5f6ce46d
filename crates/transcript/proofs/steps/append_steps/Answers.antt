-- `transcript::steps::append_steps` meets its contract.
use native.Mathlib.Omega.{arith}
use Prim.Native.Nat.{ℕ}
use mathlib.Core.Path.{◌≡◌, sym, ap, ◌∙◌}
use Rattle.std.specs.Prelude.{Ok}
use Rattle.model.specs.Transcript.{program_budget}
use Rattle.replay.specs.Run.{report_of}
use Rattle.replay.proofs.Running.{counted_still, one_more}
use Rattle.replay.proofs.Rest.{reads_end, reads_damage, reads_all, reads_part}
use Rattle.transcript.proofs.RunLines.{print_start, print_room, print_turn, print_stops}
use Rattle.transcript.proofs.steps.append_steps.Goals as goal
use Rattle.transcript.proofs.steps.append_steps.Goals.{then-log-at, else-log-at}

pub loop-tried-init : goal.loop-tried-init
loop-tried-init c = print_start _ _ _ c.requires.formed

pub step_inside-answer-requires : goal.step_inside-answer-requires
step_inside-answer-requires c = (c.loop-tried.invariant.running.formed, counted_still c.loop-tried.invariant.running c.requires.count)

pub append_line-requires : goal.append_line-requires
append_line-requires c =
    print_room c.loop-tried.invariant c.in-Ok-Some.reading.step c.in-Ok-Some.reading.next c.loop-tried-test.true
    (sym c.read_step.ensures.value ∙ c.in-Ok-Some.is ∙ ap Ok c.in-Ok-Some.field-0-is) _
    (c.number_of.ensures ∙ c.step_inside-answer.ensures.value) c.requires.room

pub loop-tried-preserved : goal.loop-tried-preserved
loop-tried-preserved c =
    print_turn c.loop-tried.invariant c.in-Ok-Some.reading.step c.in-Ok-Some.reading.next c.loop-tried-test.true
    (sym c.read_step.ensures.value ∙ c.in-Ok-Some.is ∙ ap Ok c.in-Ok-Some.field-0-is) _
    (c.number_of.ensures ∙ c.step_inside-answer.ensures.value) c.step_inside-answer.ensures.state_after c.append_line.ensures
    (rw c.number_of.ensures (one_more _ c.step_inside-answer.result c.is_err.ensures.value c.from-rejected.ensures))

pub returns-in-Ok-None : goal.returns-in-Ok-None
returns-in-Ok-None c =
    let e = reads_end c.args.log.now program_budget c.loop-tried.at c.loop-tried.tried c.loop-tried-test.true
    (sym c.read_step.ensures.value ∙ c.in-Ok-None.is ∙ ap Ok c.in-Ok-None.field-0-is) in
    let t = print_stops c.loop-tried.invariant e in
    record { value = c.stopped.ensures ∙ t.0; state_after = t.1.0; lines = t.1.1 }

pub returns-in-Err : goal.returns-in-Err
returns-in-Err c =
    let e = reads_damage c.args.log.now program_budget c.loop-tried.at c.loop-tried.tried c.in-Err.rejection c.loop-tried-test.true
    (sym c.read_step.ensures.value ∙ c.in-Err.is) in
    let t = print_stops c.loop-tried.invariant e in
    record { value = c.stopped-in-Err.ensures ∙ t.0; state_after = t.1.0; lines = t.1.1 }

pub returns : goal.returns
returns c =
    let i = c.loop-tried.invariant in
    let all : program_budget ≡ c.loop-tried.tried = omega (arith, i.running.rest.left, c.loop-tried-test.false) in
    let told = c.stopped-2.ensures ∙ ap (λ (n : ℕ). report_of c.if-log-at.stop n c.loop-tried.rejected c.loop-tried.at) all in
    elim c.if-log-at.branch [
      | then-log-at w ↦
          let t = print_stops i (reads_all c.args.log.now program_budget c.loop-tried.at c.loop-tried.tried c.loop-tried-test.false w.if-log-at.true) in
          record { value = told ∙ rw w.stop-is t.0; state_after = t.1.0; lines = t.1.1 }
      | else-log-at w ↦
          let t = print_stops i (reads_part c.args.log.now program_budget c.loop-tried.at c.loop-tried.tried c.loop-tried-test.false w.if-log-at.false) in
          record { value = told ∙ rw w.stop-is t.0; state_after = t.1.0; lines = t.1.1 }
    ]
