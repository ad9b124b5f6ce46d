-- Rows about tallies: whose rejection it is, and what a replay with a tally answers and leaves.
use Prim.Native.Nat.{ℕ}
use mathlib.Core.Path.{◌≡◌, refl, ap, ◌∙◌}
use mathlib.Core.List.{List}
use Rattle.types.specs.declared.step.Step.{Step}
use Rattle.model.specs.Checks.{first_of}
use Rattle.types.specs.Kinds.{names_host}
use Rattle.model.specs.Layout.{is_state_length, shards_of}
use Rattle.types.specs.StepNames.{acting_host}
use Rattle.model.specs.Replay.{replay_rejection, replayed}
use Rattle.model.specs.Results.{stop_number, replay_number}
use Rattle.model.specs.Transcript.{program_start}
use Rattle.model.proofs.StaysWellFormed.{replay_accepted}
use Rattle.model.proofs.ProgramStart.{start_formed}
use Rattle.tallies.specs.Tally.{rejections_of, host_counts, tally_of, tally_after}
use Rattle.tallies.specs.TallyCounts.{nothing_counted, count_at, counted_in}
use Rattle.word_outputs.specs.Replays.{replay_answer}
use Rattle.word_outputs.specs.TallyWords.{tally_words}
use Rattle.word_outputs.specs.TallyOutputs.{tally_answer}
use Rattle.cases.specs.CaseRows.{counts}
use Rattle.cases.specs.States.{too_short}
use Rattle.cases.specs.TallyCases.{Named, TallyLeft, TallyOrder}
use Rattle.cases.proofs.Quick.{quick_named, quick_count, quick_tally, quick_tally_lem}
use Rattle.cases.proofs.Computing.{given_cases, step_trying, log_reading}
use Rattle.cases.proofs.Logs.{rejected_ill}

counted_after : (ss : List Step) {ns : List ℕ} → tally_words (quick_tally 2 nothing_counted program_start ss) ≡ ns → tally_words (tally_of program_start ss) ≡ ns
counted_after ss e = ap tally_words (quick_tally_lem start_formed ss) ∙ e

pub named : Named
unfolding given_cases step_trying counts tally_words quick_tally quick_count quick_named acting_host names_host nothing_counted counted_in count_at
named =
    record {
      adds = (counted_after _ refl, counted_after _ refl);
      out_of_range = counted_after _ refl;
      not_installed = counted_after _ refl;
      adopts = counted_after _ refl;
      learns = counted_after _ refl;
      installs = counted_after _ refl;
      inherits = counted_after _ refl;
      catches_up = counted_after _ refl;
      elsewhere = counted_after _ refl;
      last = counted_after _ refl;
      above = counted_after _ refl;
      several = counted_after _ refl;
    }

-- ---- states that are rejected, and the program's

rejected_short : replay_rejection too_short ≡ 1
unfolding replay_rejection first_of is_state_length shards_of too_short
rejected_short = refl

pub tally_left : TallyLeft
unfolding given_cases log_reading counts tally_after tally_words tally_of replayed host_counts rejections_of
tally_left =
    record {
      leaves = (rw rejected_short, rw rejected_ill);
      from_zero = rw (replay_accepted start_formed);
    }

pub tally_order : TallyOrder
unfolding log_reading tally_answer replay_answer replay_number stop_number
tally_order =
    record {
      tally = (refl, refl);
      report = (refl, refl);
      wrong_length = rw rejected_short;
      form = rw rejected_ill;
      damaged = rw (replay_accepted start_formed);
    }
