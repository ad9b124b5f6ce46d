-- What a replay returns, in document 01's numbers and as a value: "how it stopped, steps tried, steps refused and bytes of whole steps read".
-- The contract of `replay::replay` says these one by one; those of the replay that keeps a tally cite them together.
use Rattle.std.specs.Prelude.{ℕ, ◌≡◌, List, length, Result}
use Rattle.types.specs.declared.Report.{Report}
use Rattle.types.specs.declared.rejection.Rejection.{Rejection}
use Rattle.model.specs.Replay.{rejected_in, replayed, report}
use Rattle.model.specs.Results.{replay_number, replay_code, replay_bytes, report_number, report_code, report_tried, report_rejected, report_bytes}

pub record Returns (w log : List ℕ) (budget : ℕ) (r : Result Report Rejection) : Type 0 where
  pub number : report_number r ≡ replay_number w log budget
  pub code : report_code r ≡ replay_code w log budget
  pub tried : report_tried r ≡ length (replayed w log budget)
  pub rejected : report_rejected r ≡ rejected_in w (replayed w log budget)
  pub bytes : report_bytes r ≡ replay_bytes w log budget
  pub value : r ≡ report w log budget
