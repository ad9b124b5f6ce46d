-- `capi::steps::penkwadar_write_step` meets its contract.
use mathlib.Core.Path.{◌∙◌}
use mathlib.Core.List.{[], ◌∷◌}
use lib.ListN.{length}
use Rattle.model.specs.Log.{step_of}
use Rattle.model.specs.Writer.{step_bytes, write_rejection, writing}
use Rattle.word_outputs.specs.StepOutputs.{write_answer, out_after, byte_count_after}
use Rattle.capi.proofs.Counts.{no_word, counted, count_written}
use Rattle.capi.proofs.steps.penkwadar_write_step.Goals as goal

pub returns-then-count-lt1 : goal.returns-then-count-lt1
unfolding write_answer out_after byte_count_after
returns-then-count-lt1 c =
    let t = no_word _ _ _ _ _ c.if-count-lt1.true in
    record { value = c.from.ensures ∙ t.0; out_after = t.1.0; count_after = t.1.1 }

pub returns : goal.returns
unfolding write_answer out_after byte_count_after step_of writing
returns c =
    let a = c.args in
    let s = step_of a.kind (a.a ∷ a.b ∷ a.c ∷ a.d ∷ []) in
    let word = count_written a.count.now (write_rejection a.out.now a.at s) (length (step_bytes s)) c.write_step.ensures.value in
    let t = counted _ _ _ _ _ c.if-count-lt1.false (c.put_count.ensures.value ∙ c.write_step.ensures.result_value) c.write_step.ensures.out_after (c.put_count.ensures.out_after ∙ word) in
    record { value = t.0; out_after = t.1.0; count_after = t.1.1 }
