-- Answers of `run`.
use native.Mathlib.Omega.{arith}
use Prim.Native.Nat.{ℕ}
use mathlib.Core.Path.{◌≡◌, sym, ap, ◌∙◌}
use Rattle.std.specs.Prelude.{Ok}
use Rattle.replay.specs.Run.{report_of}
use Rattle.replay.proofs.Rest.{rest_end, rest_damaged, rest_ended, rest_spent}
use Rattle.replay.proofs.Running.{start, counted_still, turned, one_more}
use Rattle.replay.proofs.run.Goals as goal
use Rattle.replay.proofs.run.Goals.{then-log-at, else-log-at}

pub loop-tried-init : goal.loop-tried-init
loop-tried-init c = start _ _ _ c.requires.formed

pub step_inside-answer-requires : goal.step_inside-answer-requires
step_inside-answer-requires c = (c.loop-tried.invariant.formed, counted_still c.loop-tried.invariant c.requires.count)

pub loop-tried-preserved : goal.loop-tried-preserved
loop-tried-preserved c =
    turned c.loop-tried.invariant c.in-Ok-Some.reading.step c.in-Ok-Some.reading.next c.loop-tried-test.true
    (sym c.read_step.ensures.value ∙ c.in-Ok-Some.is ∙ ap Ok c.in-Ok-Some.field-0-is) _
    c.step_inside-answer.ensures.value c.step_inside-answer.ensures.state_after
    (one_more _ c.step_inside-answer.result c.is_err.ensures.value c.from-rejected.ensures)

pub returns-in-Ok-None : goal.returns-in-Ok-None
returns-in-Ok-None c =
    let d = rest_end c.loop-tried.invariant.rest c.loop-tried-test.true (sym c.read_step.ensures.value ∙ c.in-Ok-None.is ∙ ap Ok c.in-Ok-None.field-0-is) in
    record { value = c.stopped.ensures ∙ d.0; state_after = d.1 }

pub returns-in-Err : goal.returns-in-Err
returns-in-Err c =
    let d = rest_damaged c.loop-tried.invariant.rest c.in-Err.rejection c.loop-tried-test.true (sym c.read_step.ensures.value ∙ c.in-Err.is) in
    record { value = c.stopped-in-Err.ensures ∙ d.0; state_after = d.1 }

pub returns : goal.returns
returns c =
    let i = c.loop-tried.invariant in
    let all : c.args.budget ≡ c.loop-tried.tried = omega arith in
    let told = c.stopped-2.ensures ∙ ap (λ (n : ℕ). report_of c.if-log-at.stop n c.loop-tried.rejected c.loop-tried.at) all in
    elim c.if-log-at.branch [
      | then-log-at w ↦
          let d = rest_ended i.rest c.loop-tried-test.false w.if-log-at.true in
          record { value = told ∙ rw w.stop-is d.0; state_after = d.1 }
      | else-log-at w ↦
          let d = rest_spent i.rest c.loop-tried-test.false w.if-log-at.false in
          record { value = told ∙ rw w.stop-is d.0; state_after = d.1 }
    ]
