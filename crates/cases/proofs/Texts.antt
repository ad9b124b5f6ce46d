-- Rows about texts: the program's, and the one for spreadsheets.
use Rattle.std.specs.Prelude.{Ok}
use Rattle.types.specs.Rejections.{answered}
use Prim.Native.Nat.{ℕ}
use mathlib.Core.Path.{◌≡◌, refl, ap, ◌∙◌}
use mathlib.Core.List.{List, [], ◌∷◌, ◌++◌}
use lib.ListN.{length}
use Rattle.types.specs.declared.Report.{Report}
use Rattle.model.specs.Checks.{first_of}
use Rattle.model.specs.Layout.{shards_of, is_state_length}
use Rattle.model.specs.Replicas.{stable_prefix}
use Rattle.model.specs.StableHistory.{longer, longest_of, stable_history}
use Rattle.model.specs.Log.{read_log}
use Rattle.model.specs.Replay.{replayed, report, after_replay}
use Rattle.model.specs.Transcript.{digits, decimal, spaced, spaced_all, shard_line, stop_text, last_with, last_line, program_start, program_budget, lines, too_long, transcript}
use Rattle.model.proofs.WellFormed.{is_well_formed}
use Rattle.model.proofs.StaysWellFormed.{replay_accepted}
use Rattle.model.proofs.ProgramStart.{start_shards, start_formed}
use Rattle.stable_entries.specs.Listing.{has_room}
use Rattle.csv_rows.specs.Format.{row_text}
use Rattle.csv_rows.specs.Rows.{history_rows, shard_rows, rows}
use Rattle.csv_rows.specs.Csv.{kind_name, row_fields, rows_text, csv, csv_rejection}
use Rattle.cases.specs.States.{too_short, ill_formed}
use Rattle.cases.specs.Texts.{sample_log, sample_text, ProgramText, header_text, three_rows, Spreadsheet}
use Rattle.cases.proofs.Quick.{quick_after_all, quick_rejected_in, quick_lines, quick_after_all_lem, quick_rejected_in_lem, quick_lines_lem}
use Rattle.cases.proofs.Computing.{given_cases, state_reading, step_trying, log_reading}
use Rattle.cases.proofs.States.{ill_shards, ill_formed_lem}
use Rattle.cases.proofs.Effects.{effects}

-- ---- the program's text

-- the report of a log after the program's setup
quick_report : List ℕ → Report
quick_report log =
    record {
      stop = (read_log program_budget log).stop;
      tried = length (read_log program_budget log).steps;
      rejected = quick_rejected_in 2 program_start (read_log program_budget log).steps;
      bytes = (read_log program_budget log).bytes;
    }

quick_text : List ℕ → List ℕ
quick_text log =
    let left = quick_after_all 2 program_start (read_log program_budget log).steps in
    quick_lines 2 0 program_start (read_log program_budget log).steps ++ (shard_line left 0 ++ (shard_line left 1 ++ last_line (Ok (quick_report log))))

lines_are : (log : List ℕ) {t : List ℕ} → quick_text log ≡ t → lines log ≡ t
unfolding lines quick_text quick_report after_replay replayed report answered
lines_are log e =
    rw (
      replay_accepted start_formed,
      quick_lines_lem start_formed (read_log program_budget log).steps 0,
      quick_after_all_lem start_formed (read_log program_budget log).steps,
      quick_rejected_in_lem start_formed (read_log program_budget log).steps,
    )
    e

pub program_text : ProgramText
unfolding given_cases step_trying log_reading sample_log sample_text quick_text quick_report quick_lines quick_rejected_in
    stable_history longest_of longer stable_prefix digits decimal spaced spaced_all shard_line stop_text last_with last_line too_long transcript
program_text =
    record {
      sample = lines_are _ refl;
      damaged = lines_are _ refl;
      too_long_log = refl;
      plan = refl;
      budget = refl;
      longest = refl;
    }

-- ---- the text for spreadsheets

-- what writing it answers
csv_ill : (out : List ℕ) → csv_rejection ill_formed out ≡ 9
unfolding csv_rejection first_of is_state_length
csv_ill out = rw (ill_shards, ill_formed_lem)

header_alone_lem : csv program_start ≡ header_text
unfolding given_cases state_reading header_text csv row_text rows_text rows shard_rows history_rows stable_history longest_of longer stable_prefix
header_alone_lem = refl

csv_start : (out : List ℕ) {n : ℕ} → first_of (has_room header_text out ∷ []) ≡ n → csv_rejection program_start out ≡ n
unfolding csv_rejection first_of is_state_length
csv_start out e = rw (start_shards, is_well_formed start_formed, header_alone_lem) e

csv_short : (out : List ℕ) → csv_rejection too_short out ≡ 1
unfolding csv_rejection first_of is_state_length shards_of too_short
csv_short out = refl

pub spreadsheet : Spreadsheet
unfolding given_cases step_trying header_text three_rows csv row_text rows_text row_fields kind_name rows shard_rows history_rows
    stable_history longest_of longer stable_prefix digits decimal has_room
spreadsheet =
    record {
      rows_of_run = ap csv effects.inherits ∙ refl;
      header_alone = header_alone_lem;
      wrong_length = csv_short _;
      form = csv_ill _;
      room = (csv_start _ refl, csv_start _ refl);
    }
