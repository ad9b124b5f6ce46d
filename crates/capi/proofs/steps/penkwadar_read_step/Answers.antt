-- `capi::steps::penkwadar_read_step` meets its contract.
use mathlib.Core.Path.{refl, ◌∙◌}
use Rattle.model.specs.Results.{reading_step, reading_next}
use Rattle.capi.proofs.StepWords.{read_short, read}
use Rattle.capi.proofs.steps.penkwadar_read_step.Goals as goal

pub returns-then-step-lt-STEP_WORDS : goal.returns-then-step-lt-STEP_WORDS
returns-then-step-lt-STEP_WORDS c =
    let t = read_short _ _ _ c.if-step-lt-STEP_WORDS.true in
    record { value = c.from.ensures ∙ t.0; step_after = t.1 }

pub returns-in-Some : goal.returns-in-Some
unfolding reading_step reading_next
returns-in-Some c =
    let t = read _ _ _ c.if-step-lt-STEP_WORDS.false c.in-Some.ensures.value refl c.put_step.ensures in
    record { value = t.0; step_after = t.1 }
