-- What the text of a log shows as confirmed, the text of every longer log that begins with it shows too: each shard's line begins its line there.
-- It is proved in `proofs/LongerLogs.antt` (`longer_logs`).
use Rattle.std.specs.Prelude.{ℕ, ◌≤◌, ◌<◌, ◌≡◌, List, [], ◌∷◌, ◌++◌, length}
use Rattle.model.specs.Replay.{replayed, report, after_replay}
use Rattle.model.specs.StableHistory.{stable_history}
use Rattle.model.specs.Prefixes.{Begins}
use Rattle.model.specs.Transcript.{spaced, spaced_all, newline, step_lines, last_line, program_start, program_budget, transcript}

-- the entries that the line of shard z shows in the text of a log
unfoldable pub shown_entries : List ℕ → ℕ → List ℕ
shown_entries log z = stable_history (after_replay program_start log program_budget) z

-- that line without its newline
unfoldable pub shown_line : List ℕ → ℕ → List ℕ
shown_line log z = (122 ∷ 111 ∷ 110 ∷ 101 ∷ []) ++ (spaced z ++ spaced_all (shown_entries log z))

pub record LongerLogs : Type 0 where
  -- the text of a log that is not too long: the lines of its steps, those of the two shards, and the last one
  pub text :
      (log : List ℕ) → length log ≤ 16384
      → transcript log
      ≡ step_lines 0 program_start (replayed program_start log program_budget)
      ++ ((shown_line log 0 ++ newline) ++ ((shown_line log 1 ++ newline) ++ last_line (report program_start log program_budget)))
  -- whatever bytes follow, whole steps or not, a shard's entries begin those of the longer log
  pub entries : (log more : List ℕ) (z : ℕ) → z < 2 → Begins (shown_entries log z) (shown_entries (log ++ more) z)
  -- and so does its line
  pub lines : (log more : List ℕ) (z : ℕ) → z < 2 → Begins (shown_line log z) (shown_line (log ++ more) z)
