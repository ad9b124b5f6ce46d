-- Request A2 as one claim over every run: a history holds at most one issue for a shard and index, so that no step is rejected with 22. It is proved in
-- `proofs/OneIssue.antt` (`one_issue`).
use Rattle.std.specs.Prelude.{ℕ, ◌≡◌, true, List, get_or}
use Rattle.model.specs.Entries.{names}
use Rattle.model.specs.Configuration.{configuration, replica_of}
use Rattle.model.specs.Setup.{setup_rejection, after_setup}
use Rattle.model.specs.Runs.{Call, Moment, played, state_at, answer_at}
use Rattle.model.specs.OneList.{Seated}

-- entry p of the history of host h in configuration j of shard z; 0, which is no entry, past its end
unfoldable pub entry_of : List ℕ → ℕ → ℕ → ℕ → ℕ → ℕ
entry_of w z j h p = get_or (replica_of w (configuration w z j) h).history p 0

-- w is the state after setup, ms every step tried since
pub record OneIssue (w : List ℕ) (ms : List Moment) : Type 0 where
  -- at every moment, two entries of a host's history that are issues for the same shard y and index i are one
  pub single :
      (z j h n : ℕ) → Seated (state_at w ms n) z j h
      → (y i p q : ℕ) → names y i (entry_of (state_at w ms n) z j h p) ≡ true → names y i (entry_of (state_at w ms n) z j h q) ≡ true
      → p ≡ q
  -- "Lists made from setup then never meet refusal 22": whatever step is tried, at whatever moment
  pub never : (n : ℕ) → answer_at ms n ≡ 22 → ⊥

-- for every borrowed state and plan that setup accepts, and every list of calls: the runs of the one list
unfoldable pub OneIssueClaim : Type 0
OneIssueClaim =
    (w p : List ℕ) → setup_rejection w p ≡ 0 → (calls : List Call) → OneIssue (after_setup w p) (played (after_setup w p) calls)
