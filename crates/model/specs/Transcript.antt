-- What the program prints for a log (document 01, "The program and its print").
use Rattle.std.specs.Prelude.{ℕ, zero, suc, ◌+◌, ◌/◌, ◌%◌, cond, List, [], ◌∷◌, ◌++◌, ltb, length, Result, Ok, Err}
use Rattle.types.specs.declared.step.Step.{Step}
use Rattle.types.specs.declared.Stop.{Stop}
use Rattle.types.specs.declared.Stop.TheVariants.{Ended, Spent, Damaged}
use Rattle.types.specs.declared.rejection.Rejection.{Rejection}
use Rattle.types.specs.declared.Report.{Report}
use Rattle.types.specs.Rejections.{rejection_number}
use Rattle.model.specs.Setup.{initial_state}
use Rattle.model.specs.Steps.{rejection, after}
use Rattle.model.specs.Replay.{replayed, report, after_replay}
use Rattle.model.specs.StableHistory.{stable_history}

-- a number in decimal; 20 digits serve for every 64-bit number
unfoldable pub digits : ℕ → ℕ → List ℕ
digits zero n = []
digits (suc k) n = cond (ltb n 10) ((48 + n) ∷ []) (digits k (n / 10) ++ ((48 + n % 10) ∷ []))

unfoldable pub decimal : ℕ → List ℕ
decimal n = digits 20 n

-- a single space and a number
unfoldable pub spaced : ℕ → List ℕ
spaced n = 32 ∷ decimal n

unfoldable pub spaced_all : List ℕ → List ℕ
spaced_all [] = []
spaced_all (n ∷ ns) = spaced n ++ spaced_all ns

abbrev pub newline : List ℕ
newline = 10 ∷ []

-- "One line a step: its number from 1, kind, refusal or 0"; n steps stand before
unfoldable pub step_lines : ℕ → List ℕ → List Step → List ℕ
step_lines n w [] = []
step_lines n w (s ∷ ss) =
    (decimal (suc n) ++ (spaced s.kind ++ (spaced (rejection w s) ++ newline))) ++ step_lines (suc n) (after w s) ss

-- the words of the print: `zone`, `ended`, `spent`, `damaged`, `rejected`, `too long`
abbrev pub zone_word : List ℕ
zone_word = 122 ∷ 111 ∷ 110 ∷ 101 ∷ []

abbrev pub ended_word : List ℕ
ended_word = 101 ∷ 110 ∷ 100 ∷ 101 ∷ 100 ∷ []

abbrev pub spent_word : List ℕ
spent_word = 115 ∷ 112 ∷ 101 ∷ 110 ∷ 116 ∷ []

abbrev pub damaged_word : List ℕ
damaged_word = 100 ∷ 97 ∷ 109 ∷ 97 ∷ 103 ∷ 101 ∷ 100 ∷ []

abbrev pub rejected_word : List ℕ
rejected_word = 114 ∷ 101 ∷ 106 ∷ 101 ∷ 99 ∷ 116 ∷ 101 ∷ 100 ∷ []

abbrev pub too_long_words : List ℕ
too_long_words = 116 ∷ 111 ∷ 111 ∷ 32 ∷ 108 ∷ 111 ∷ 110 ∷ 103 ∷ []

-- "One line a zone: `zone`, number, the confirmed entries of its longest confirmed list"
unfoldable pub shard_line : List ℕ → ℕ → List ℕ
shard_line w z = zone_word ++ (spaced z ++ (spaced_all (stable_history w z) ++ newline))

-- "`ended`, or `damaged` and the refusal"; `spent` and `rejected` cannot occur here (docs/DECISIONS.md)
unfoldable pub stop_text : Stop → List ℕ
stop_text Ended = ended_word
stop_text Spent = spent_word
stop_text (Damaged r) = damaged_word ++ spaced (rejection_number r)

-- "Last: .., then tried, refused, bytes"
unfoldable pub last_with : List ℕ → ℕ → ℕ → ℕ → List ℕ
last_with stop tried rejected bytes = stop ++ (spaced tried ++ (spaced rejected ++ (spaced bytes ++ newline)))

unfoldable pub last_line : Result Report Rejection → List ℕ
last_line (Ok r) = last_with (stop_text r.stop) r.tried r.rejected r.bytes
last_line (Err r) = last_with (rejected_word ++ spaced (rejection_number r)) 0 0 0

-- "Plan: zone 0 sequencer 1, boxes 0 and 1, orderer 0; zone 1 sequencer 0, boxes 2 and 3, orderer 2. Budget 65,535."
unfoldable pub program_plan : List ℕ
program_plan = 1 ∷ 3 ∷ 0 ∷ 0 ∷ 12 ∷ 2 ∷ []

unfoldable pub program_start : List ℕ
program_start = initial_state 2 program_plan

abbrev pub program_budget : ℕ
program_budget = 65535

-- the lines of a log that is not too long
unfoldable pub lines : List ℕ → List ℕ
lines log =
    step_lines 0 program_start (replayed program_start log program_budget)
    ++ (shard_line (after_replay program_start log program_budget) 0
    ++ (shard_line (after_replay program_start log program_budget) 1 ++ last_line (report program_start log program_budget)))

-- "up to 16,384 bytes; a longer one prints only `too long`"
abbrev pub longest_log : ℕ
longest_log = 16384

unfoldable pub too_long : List ℕ
too_long = too_long_words ++ newline

unfoldable pub transcript : List ℕ → List ℕ
transcript log = cond (ltb longest_log (length log)) too_long (lines log)
