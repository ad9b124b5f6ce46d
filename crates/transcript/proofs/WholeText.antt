-- The lines of a log, as the program makes them: setup, the run, the two shards, the report.
-- Assumes nothing.
use Prim.Native.Nat.{ℕ, zero, suc, ◌≤◌, ◌<◌}
use native.Mathlib.Omega.{arith}
use mathlib.Core.Path.{◌≡◌, refl, sym}
use mathlib.Core.List.{List, ◌++◌}
use lib.Count.{ones}
use lib.ListN.{length}
use borrow.Author.Tests.{lt-ltb, le-ltb}
use Rattle.types.specs.Members.{size}
use Rattle.model.specs.Setup.{plan_members}
use Rattle.model.specs.Transcript.{newline, too_long_words, shard_line, last_line, program_plan, program_start, program_budget, lines, longest_log, too_long}
use Rattle.model.specs.Transcript.{transcript}
use Rattle.types.specs.declared.Report.{Report}
use Rattle.model.specs.Replay.{after_replay}
use Rattle.model.proofs.WellFormed.{WellFormed, is_well_formed}
use Rattle.model.proofs.ProgramStart.{start_formed}
use Rattle.lookup.specs.Ready.{Formed}
use Rattle.setup.specs.Planned.{Planned}
use Rattle.replay.specs.Run.{run_report, after_run}
use Rattle.lookup.proofs.Formed.{formed_of}
use Rattle.std.specs.Prelude.{Ok}
use Rattle.model.specs.Layout.{shards_of}
use Rattle.stable_entries.specs.Pick.{OfShard}
use Rattle.transcript.specs.Text.{run_lines}
use Rattle.transcript.proofs.ReplayedState.{formed_replayed, formed_report, formed_after}

-- the state after the run
abbrev left : List ℕ → List ℕ
left log = after_run program_start log program_budget

left_is : (log : List ℕ) → after_replay program_start log program_budget ≡ left log
unfolding after_replay after_run
left_is log = rw (formed_replayed start_formed log program_budget)

left_formed : (log : List ℕ) → WellFormed 2 (left log)
left_formed log = rw (← left_is log) (formed_after start_formed log program_budget)

-- what is written after the lines of the steps
abbrev pub from_shards : List ℕ → Report → List ℕ
from_shards w r = shard_line w 0 ++ (shard_line w 1 ++ last_line (Ok r))

well_formed_ready : {Z : ℕ} {w : List ℕ} → WellFormed Z w → Formed w
well_formed_ready {Z} {w} f = formed_of w (λ q. omega (arith, q, f.shards, f.several)) (is_well_formed f)

-- the plan of the program may be written
small : (z : ℕ) → z < 2 → size (plan_members program_plan z) ≤ 4
unfolding program_plan plan_members ones
small zero h = omega arith
small (suc zero) h = omega arith
small (suc (suc z)) h = absurd (omega arith)

pub planned : Planned 2 program_plan
unfolding program_plan
planned = record { most = omega arith; long = refl; few = small }

-- the state that setup writes may be run
module _ (log : List ℕ) {w : List ℕ} (begins : w ≡ program_start) where
  pub start_ready : Formed w
  start_ready = rw begins (well_formed_ready start_formed)

  pub two_shards : 2 ≡ shards_of (length w)
  two_shards = rw begins (sym start_formed.shards)

  -- after the run: the lines of the shards and the last one come after those of the steps
  module _ {r : Report} {w₂ : List ℕ} (report_is : r ≡ run_report w log program_budget) (state_is : w₂ ≡ after_run w log program_budget) where
    pub lines_are : lines log ≡ run_lines w log ++ from_shards w₂ r
    unfolding lines run_lines
    lines_are =
        rw (report_is, state_is, begins, left_is log, formed_replayed start_formed log program_budget, formed_report start_formed log program_budget)

    pub of_shard : (z : ℕ) → z < 2 → OfShard w₂ z
    of_shard z h = rw (state_is, begins) (record { formed = well_formed_ready (left_formed log); shard = rw (left_formed log).shards h })

-- ---- a log is too long, or has its lines

module _ (log : List ℕ) where
  pub text_too_long : longest_log < length log → transcript log ≡ too_long_words ++ newline
  unfolding transcript too_long
  text_too_long h = rw (lt-ltb longest_log (length log) h)

  pub text_lines : length log ≤ longest_log → transcript log ≡ lines log
  unfolding transcript
  text_lines h = rw (le-ltb longest_log (length log) h)
