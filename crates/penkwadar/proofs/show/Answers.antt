-- `penkwadar::show` meets its contract: the text lies within the output.
use Rattle.std.specs.Prelude.{Ok}
use Rattle.types.specs.Rejections.{Written, answer_count}
use Rattle.std.proofs.Common.{◌≡◌, ℕ, ◌≤◌, List, length, sym}
use lib.Seq.{length-take-le}
use Rattle.transcript.specs.Text.{text_count, after_text}
use Rattle.transcript.proofs.Delivery.{fits_output, text_kept}
use Rattle.penkwadar.proofs.show.Goals as goal

-- a text that was written lies within the output
within : (out text : List ℕ) {last : List ℕ} {r : Written} {n : ℕ} → answer_count r ≡ text_count out text → last ≡ after_text out text
    → r ≡ Ok n → n ≤ length last
unfolding answer_count
within out text e f q = rw (f, text_kept out text) (fits_output out text (rw q at e))

pub slice_bounds-out-end : goal.slice_bounds-out-end
slice_bounds-out-end g c = within _ _ c.transcript.ensures.result_value_2 c.transcript.ensures.out_after c.in-Ok.is

pub slice_bounds-print-end : goal.slice_bounds-print-end
slice_bounds-print-end g c =
    sym (length-take-le _ _ (within _ _ c.transcript.ensures.result_value_2 c.transcript.ensures.out_after c.in-Ok.is))
