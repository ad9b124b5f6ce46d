-- Document 01's number and values for each case of an answer: "A refusal is its number, other results 0". The contracts of the functions say them.
-- The number of a rejection and of an answer is in `Rejections.antt` of `types`, those of a kind in `Kinds.antt`.
use Rattle.std.specs.Prelude.{Result, Ok, Err, Some, None}
use Rattle.model.specs.Log.{ReadStep}
use Rattle.types.specs.Rejections.{rejection_number, answer_number}
use Rattle.std.specs.Prelude.{ℕ, ◌+◌, cond, List, [], eqb, length, drop}
use Rattle.types.specs.declared.step.Step.{Step}
use Rattle.types.specs.declared.Stop.{Stop}
use Rattle.types.specs.declared.Stop.TheVariants.{Ended, Spent, Damaged}
use Rattle.types.specs.declared.Report.{Report}
use Rattle.types.specs.declared.rejection.Rejection.{Rejection}
use Rattle.model.specs.Log.{step_of, read_step, read_log}
use Rattle.model.specs.Replay.{replay_rejection}

-- ---- the reader

-- the step, with all numbers 0 where there is none; no step has kind 0
unfoldable pub reading_step : ReadStep → Step
reading_step (Ok (Some read)) = read.step
reading_step (Ok None) = step_of 0 []
reading_step (Err r) = step_of 0 []

-- the count of its bytes, or the position after it
unfoldable pub reading_next : ReadStep → ℕ
reading_next (Ok (Some read)) = read.next
reading_next (Ok None) = 0
reading_next (Err r) = 0

-- what is read at the start of bytes, in numbers: the rejection, the step, the count of its bytes; and at a position, the position after the step
unfoldable pub read_rejection : List ℕ → ℕ
read_rejection bs = answer_number (read_step bs)

unfoldable pub step_read : List ℕ → Step
step_read bs = reading_step (read_step bs)

unfoldable pub bytes_read : List ℕ → ℕ
bytes_read bs = reading_next (read_step bs)

unfoldable pub next_read : List ℕ → ℕ → ℕ
next_read log at = cond (eqb (bytes_read (drop at log)) 0) 0 (at + bytes_read (drop at log))

-- ---- what writes: a step, the transcript, the text for spreadsheets

-- the count of what was written, for the rejection and what is written where there is none
unfoldable pub count_beside : ℕ → List ℕ → ℕ
count_beside rejection written = cond (eqb rejection 0) (length written) 0

-- ---- the replay

-- "damaged (3 to 6, the number told)"
unfoldable pub stop_number : Stop → ℕ
stop_number Ended = 0
stop_number Spent = 0
stop_number (Damaged r) = rejection_number r

-- "It stops as ended .., spent .. or damaged": 0, 1, 2
unfoldable pub stop_code : Stop → ℕ
stop_code Ended = 0
stop_code Spent = 1
stop_code (Damaged r) = 2

-- the same of a replay that may be rejected before its first step, by 1 or 9; "with nothing tried"
unfoldable pub report_number : Result Report Rejection → ℕ
report_number (Ok r) = stop_number r.stop
report_number (Err r) = rejection_number r

unfoldable pub report_code : Result Report Rejection → ℕ
report_code (Ok r) = stop_code r.stop
report_code (Err r) = 0

unfoldable pub report_tried : Result Report Rejection → ℕ
report_tried (Ok r) = r.tried
report_tried (Err r) = 0

unfoldable pub report_rejected : Result Report Rejection → ℕ
report_rejected (Ok r) = r.rejected
report_rejected (Err r) = 0

unfoldable pub report_bytes : Result Report Rejection → ℕ
report_bytes (Ok r) = r.bytes
report_bytes (Err r) = 0

-- what a replay returns, in numbers: the number of its rejection or of the damage, how it stopped, and the bytes. The steps tried and those rejected
-- among them are `replayed` and `rejected_in`
unfoldable pub replay_number : List ℕ → List ℕ → ℕ → ℕ
replay_number w log budget = cond (eqb (replay_rejection w) 0) (stop_number (read_log budget log).stop) (replay_rejection w)

unfoldable pub replay_code : List ℕ → List ℕ → ℕ → ℕ
replay_code w log budget = cond (eqb (replay_rejection w) 0) (stop_code (read_log budget log).stop) 0

unfoldable pub replay_bytes : List ℕ → List ℕ → ℕ → ℕ
replay_bytes w log budget = cond (eqb (replay_rejection w) 0) (read_log budget log).bytes 0
