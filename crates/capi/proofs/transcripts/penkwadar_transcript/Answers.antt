-- `capi::transcripts::penkwadar_transcript` meets its contract.
use mathlib.Core.Path.{◌∙◌}
use lib.ListN.{length}
use Rattle.model.specs.Transcript.{transcript}
use Rattle.transcript.specs.Text.{text_rejection, text_writing}
use Rattle.word_outputs.specs.Transcripts.{text_answer, text_after, length_after}
use Rattle.capi.proofs.Counts.{no_word, counted, count_written}
use Rattle.capi.proofs.transcripts.penkwadar_transcript.Goals as goal

pub returns-then-count-lt1 : goal.returns-then-count-lt1
unfolding text_answer text_after length_after
returns-then-count-lt1 c =
    let t = no_word _ _ _ _ _ c.if-count-lt1.true in
    record { value = c.from.ensures ∙ t.0; out_after = t.1.0; count_after = t.1.1 }

pub returns : goal.returns
unfolding text_answer text_after length_after text_writing
returns c =
    let a = c.args in
    let text = transcript a.log.now in
    let word = count_written a.count.now (text_rejection a.out.now text) (length text) c.transcript.ensures.value in
    let t = counted _ _ _ _ _ c.if-count-lt1.false (c.put_count.ensures.value ∙ c.transcript.ensures.result_value) c.transcript.ensures.out_after (c.put_count.ensures.out_after ∙ word) in
    record { value = t.0; out_after = t.1.0; count_after = t.1.1 }
