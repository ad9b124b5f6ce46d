-- Texts in bytes: the program's print of the log in document 01, and the text for spreadsheets of a small run (request A1), with its rejections.
use Rattle.std.specs.Prelude.{ℕ, ◌≡◌, List, [], ◌∷◌, ◌++◌, replicate}
use Rattle.model.specs.Replay.{after_all}
use Rattle.model.specs.Transcript.{program_plan, program_start, program_budget, longest_log, transcript}
use Rattle.csv_rows.specs.Csv.{csv, csv_rejection}
use Rattle.cases.specs.Scripts.{gone_on}
use Rattle.cases.specs.States.{too_short, ill_formed, after_replaced}

-- "Input `01 00 01 07 02 00 01 01 03 00 01 00 01 03 00 01 01 01 04 00 01 00 01 00 01 08` prints"
unfoldable pub sample_log : List ℕ
sample_log =
    (1 ∷ 0 ∷ 1 ∷ 7 ∷ 2 ∷ 0 ∷ 1 ∷ 1 ∷ 3 ∷ 0 ∷ 1 ∷ 0 ∷ 1 ∷ [])
    ++ (3 ∷ 0 ∷ 1 ∷ 1 ∷ 1 ∷ 4 ∷ 0 ∷ 1 ∷ 0 ∷ 1 ∷ 0 ∷ 1 ∷ 8 ∷ [])

-- `1 1 0`, `2 2 0`, `3 3 0`, `4 3 0`, `5 4 0`, `6 1 12`, `zone 0 7`, `zone 1`, `ended 6 1 26`
unfoldable pub sample_text : List ℕ
sample_text =
    (49 ∷ 32 ∷ 49 ∷ 32 ∷ 48 ∷ 10 ∷ [])
    ++ ((50 ∷ 32 ∷ 50 ∷ 32 ∷ 48 ∷ 10 ∷ [])
    ++ ((51 ∷ 32 ∷ 51 ∷ 32 ∷ 48 ∷ 10 ∷ [])
    ++ ((52 ∷ 32 ∷ 51 ∷ 32 ∷ 48 ∷ 10 ∷ [])
    ++ ((53 ∷ 32 ∷ 52 ∷ 32 ∷ 48 ∷ 10 ∷ [])
    ++ ((54 ∷ 32 ∷ 49 ∷ 32 ∷ 49 ∷ 50 ∷ 10 ∷ [])
    ++ ((122 ∷ 111 ∷ 110 ∷ 101 ∷ 32 ∷ 48 ∷ 32 ∷ 55 ∷ 10 ∷ [])
    ++ ((122 ∷ 111 ∷ 110 ∷ 101 ∷ 32 ∷ 49 ∷ 10 ∷ [])
    ++ (101 ∷ 110 ∷ 100 ∷ 101 ∷ 100 ∷ 32 ∷ 54 ∷ 32 ∷ 49 ∷ 32 ∷ 50 ∷ 54 ∷ 10 ∷ []))))))))

pub record ProgramText : Type 0 where
  pub sample : transcript sample_log ≡ sample_text
  -- `damaged 5 1 0 4` at the end of a log with a step and a byte more
  pub damaged : transcript (4 ∷ 0 ∷ 1 ∷ 1 ∷ 128 ∷ [])
      ≡ (49 ∷ 32 ∷ 52 ∷ 32 ∷ 48 ∷ 10 ∷ [])
      ++ ((122 ∷ 111 ∷ 110 ∷ 101 ∷ 32 ∷ 48 ∷ 10 ∷ [])
      ++ ((122 ∷ 111 ∷ 110 ∷ 101 ∷ 32 ∷ 49 ∷ 10 ∷ [])
      ++ (100 ∷ 97 ∷ 109 ∷ 97 ∷ 103 ∷ 101 ∷ 100 ∷ 32 ∷ 53 ∷ 32 ∷ 49 ∷ 32 ∷ 48 ∷ 32 ∷ 52 ∷ 10 ∷ [])))
  -- `too long`
  pub too_long_log : transcript (replicate 16385 0) ≡ 116 ∷ 111 ∷ 111 ∷ 32 ∷ 108 ∷ 111 ∷ 110 ∷ 103 ∷ 10 ∷ []
  -- "zone 0 sequencer 1, boxes 0 and 1, orderer 0; zone 1 sequencer 0, boxes 2 and 3, orderer 2. Budget 65,535."; "up to 16,384 bytes"
  pub plan : program_plan ≡ 1 ∷ 3 ∷ 0 ∷ 0 ∷ 12 ∷ 2 ∷ []
  pub budget : program_budget ≡ 65535
  pub longest : longest_log ≡ 16384

-- `zone,place,kind,entry`, carriage return and line feed
unfoldable pub header_text : List ℕ
header_text =
    (122 ∷ 111 ∷ 110 ∷ 101 ∷ 44 ∷ 112 ∷ 108 ∷ 97 ∷ 99 ∷ 101 ∷ 44 ∷ [])
    ++ (107 ∷ 105 ∷ 110 ∷ 100 ∷ 44 ∷ 101 ∷ 110 ∷ 116 ∷ 114 ∷ 121 ∷ 13 ∷ 10 ∷ [])

-- .. `0,0,issue,4329766952`, `1,0,take,12`, `1,1,take,13`
unfoldable pub three_rows : List ℕ
three_rows =
    header_text
    ++ ((48 ∷ 44 ∷ 48 ∷ 44 ∷ 105 ∷ 115 ∷ 115 ∷ 117 ∷ 101 ∷ 44 ∷ 52 ∷ 51 ∷ 50 ∷ 57 ∷ 55 ∷ 54 ∷ 54 ∷ 57 ∷ 53 ∷ 50 ∷ 13 ∷ 10 ∷ [])
    ++ ((49 ∷ 44 ∷ 48 ∷ 44 ∷ 116 ∷ 97 ∷ 107 ∷ 101 ∷ 44 ∷ 49 ∷ 50 ∷ 13 ∷ 10 ∷ [])
    ++ (49 ∷ 44 ∷ 49 ∷ 44 ∷ 116 ∷ 97 ∷ 107 ∷ 101 ∷ 44 ∷ 49 ∷ 51 ∷ 13 ∷ 10 ∷ [])))

pub record Spreadsheet : Type 0 where
  pub rows_of_run : csv (after_all after_replaced gone_on) ≡ three_rows
  pub header_alone : csv program_start ≡ header_text
  -- "Checks are 1, 9, 8"
  pub wrong_length : csv_rejection too_short [] ≡ 1
  pub form : csv_rejection ill_formed [] ≡ 9
  pub room : (csv_rejection program_start (replicate 22 0) ≡ 8) × (csv_rejection program_start (replicate 23 0) ≡ 0)
