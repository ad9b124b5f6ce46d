-- `capi::spreadsheets::penkwadar_csv` meets its contract.
use mathlib.Core.Path.{◌∙◌}
use lib.ListN.{length}
use Rattle.csv_rows.specs.Csv.{csv, csv_rejection, csv_writing}
use Rattle.word_outputs.specs.Spreadsheets.{csv_answer, csv_after, csv_length_after}
use Rattle.capi.proofs.Counts.{no_word, counted, count_written}
use Rattle.capi.proofs.spreadsheets.penkwadar_csv.Goals as goal

pub returns-then-count-lt1 : goal.returns-then-count-lt1
unfolding csv_answer csv_after csv_length_after
returns-then-count-lt1 c =
    let t = no_word _ _ _ _ _ c.if-count-lt1.true in
    record { value = c.from.ensures ∙ t.0; out_after = t.1.0; count_after = t.1.1 }

pub returns : goal.returns
unfolding csv_answer csv_after csv_length_after csv_writing
returns c =
    let a = c.args in
    let w = a.state.now in
    let word = count_written a.count.now (csv_rejection w a.out.now) (length (csv w)) c.csv.ensures.value in
    let t = counted _ _ _ _ _ c.if-count-lt1.false (c.put_count.ensures.value ∙ c.csv.ensures.result_value) c.csv.ensures.out_after (c.put_count.ensures.out_after ∙ word) in
    record { value = t.0; out_after = t.1.0; count_after = t.1.1 }
