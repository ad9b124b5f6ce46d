-- The proof of `specs/LargestText.antt`: no text is longer than 42,232 bytes. Assumes nothing.
use Prim.Native.Nat.{ℕ, ◌≤◌}
use native.Mathlib.Omega.{arith}
use mathlib.Core.Path.{◌≡◌, refl}
use mathlib.Core.Bool.{Bool, true, false, cond}
use mathlib.Core.List.{List}
use lib.Dec.{ltb}
use lib.ListN.{length, length-append}
use borrow.Author.Tests.{ltb-false}
use Rattle.model.specs.Log.{Log, read_log}
use Rattle.model.specs.Replay.{replayed, report, after_replay}
use Rattle.model.specs.Transcript.{step_lines, last_line, program_start, program_budget, lines, longest_log, too_long, transcript}
use Rattle.model.proofs.WellFormed.{WellFormed}
use Rattle.model.proofs.ProgramStart.{start_formed}
use Rattle.replay.specs.Run.{run_report}
use Rattle.transcript.specs.LargestText.{text_most, LargestText}
use Rattle.transcript.proofs.LogSizes.{SizedLog, log_sized}
use Rattle.transcript.proofs.ReplayedState.{formed_replayed, formed_report, formed_after, rejected_most}
use Rattle.transcript.proofs.LineSizes.{step_lines_width, shard_line_most, last_line_width}

module _ (log : List ℕ) (h : length log ≤ longest_log) where
  abbrev read_to : Log
  read_to = read_log program_budget log

  sized : SizedLog (length log) read_to
  sized = log_sized program_budget log

  few : length read_to.steps ≤ 4096
  few = omega (arith, sized.steps, sized.bytes)

  steps_most : length (step_lines 0 program_start (replayed program_start log program_budget)) ≤ 40960
  steps_most =
      rw (formed_replayed start_formed log program_budget)
      (omega (arith, few, step_lines_width 3 0 program_start read_to.steps sized.kinds (omega (arith, few))))

  last_most : length (last_line (report program_start log program_budget)) ≤ 26
  unfolding run_report
  last_most =
      rw (formed_report start_formed log program_budget)
      (last_line_width 3 4 (run_report program_start log program_budget) sized.stop (omega (arith, few))
      (omega (arith, few, rejected_most program_start read_to.steps))
      (omega (arith, sized.bytes)))

  lines_most : length (lines log) ≤ text_most
  unfolding lines
  lines_most =
      let formed : WellFormed 2 (after_replay program_start log program_budget) = formed_after start_formed log program_budget in
      simp length-append
      (omega (arith, steps_most, shard_line_most formed 0 (omega arith), shard_line_most formed 1 (omega arith), last_most))

pub text_most_lem : LargestText
unfolding transcript too_long
text_most_lem log = go (ltb longest_log (length log)) refl
  where
    go : (t : Bool) → ltb longest_log (length log) ≡ t → length (cond t too_long (lines log)) ≤ text_most
    go true e = omega arith
    go false e = lines_most log (ltb-false longest_log (length log) e)
