-- `capi::steps::read_any` meets its contract.
use mathlib.Core.Path.{refl, sym, ap, ◌∙◌}
use Rattle.std.specs.Prelude.{Ok}
use Rattle.model.specs.Log.{step_of}
use Rattle.model.specs.Results.{reading_step, reading_next}
use Rattle.capi.proofs.StepWords.{read, read_rejected}
use Rattle.capi.proofs.steps.read_any.Goals as goal

pub returns-in-Ok-Some : goal.returns-in-Ok-Some
unfolding reading_step reading_next
returns-in-Ok-Some c =
    let e = sym c.in-Ok-Some.is ∙ c.read_step.ensures.value in
    let t = read _ _ _ c.requires (ap Ok (sym c.in-Ok-Some.field-0-is) ∙ e) refl c.put_step.ensures in
    record { value = t.0; step_after = t.1 }

pub returns-in-Ok-None : goal.returns-in-Ok-None
unfolding reading_step reading_next step_of
returns-in-Ok-None c =
    let e = sym c.in-Ok-None.is ∙ c.read_step.ensures.value in
    let t = read _ _ _ c.requires (ap Ok (sym c.in-Ok-None.field-0-is) ∙ e) refl c.put_step-in-Ok-None.ensures in
    record { value = t.0; step_after = t.1 }

pub returns-in-Err : goal.returns-in-Err
returns-in-Err c =
    let t = read_rejected _ _ _ c.requires (sym c.read_step.ensures.value ∙ c.in-Err.is) in
    record { value = c.from.ensures ∙ t.0; step_after = t.1 }
