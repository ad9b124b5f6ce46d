-- The proof of `specs/LongerLogs.antt`: a longer log is replayed by the same steps and then others, and stable histories only grow. Assumes nothing.
use Prim.Native.Nat.{ℕ, ◌≤◌, ◌<◌}
use native.Mathlib.Omega.{arith}
use mathlib.Core.Path.{◌≡◌, refl, sym, ap, ◌∙◌}
use mathlib.Core.Bool.{Bool, true, false, cond}
use mathlib.Core.List.{List, [], ◌∷◌, ◌++◌, append_assoc, append-nil}
use lib.Dec.{eqb}
use lib.ListN.{length, drop, length-append}
use borrow.Author.Tests.{le-ltb}
use Rattle.types.specs.declared.step.Step.{Step}
use Rattle.model.specs.Setup.{setup_rejection, after_setup}
use Rattle.model.specs.Steps.{after}
use Rattle.model.specs.Log.{read_log}
use Rattle.model.specs.Replay.{after_all, replay_rejection, replayed, report, after_replay}
use Rattle.model.specs.StableHistory.{stable_history}
use Rattle.model.specs.Prefixes.{Begins}
use Rattle.model.specs.Transcript.{spaced, spaced_all, newline, step_lines, shard_line, last_line, lines, transcript}
use Rattle.model.specs.Transcript.{program_plan, program_start, program_budget}
use Rattle.model.specs.Runs.{replay, Moment, tried_by, moments, played, state_at}
use Rattle.model.specs.OneList.{shards}
use Rattle.model.specs.StableGrowth.{StableGrows, StableGrowth}
use Rattle.model.specs.LongerLogs.{shown_entries, shown_line, LongerLogs}
use Rattle.model.proofs.Prefixes.{begins_refl, begins_rest, begins_append}
use Rattle.model.proofs.ProgramStart.{start_length, start_shards, start_accepted, start_left}
use Rattle.model.proofs.ReadOn.{Continues, log_continues}
use Rattle.model.proofs.StableGrowth.{stable_growth}

-- ---- the states on the way

-- the state after the first of several steps is that of a moment
state_after_lem : (w : List ℕ) (ss others : List Step) (ms : List Moment) → state_at w (moments w (ss ++ others) ++ ms) (length ss) ≡ after_all w ss
unfolding moments state_at after_all
state_after_lem w [] others ms = refl
state_after_lem w (s ∷ ss) others ms = state_after_lem (after w s) ss others ms

-- the steps of a replay, and of that of a longer log
replay_continues : (w log more : List ℕ) (budget : ℕ) → Continues (replayed w log budget) (replayed w (log ++ more) budget)
unfolding replayed
replay_continues w log more budget = go (eqb (replay_rejection w) 0)
  where
    go : (t : Bool) → Continues (cond t (read_log budget log).steps []) (cond t (read_log budget (log ++ more)).steps [])
    go true = log_continues budget log more
    go false = record { others = []; is = refl }

-- the stable history after a replay begins that after a replay of a longer log, from whatever setup
module _ (w p : List ℕ) (e : setup_rejection w p ≡ 0) (log more : List ℕ) (budget : ℕ) where
  abbrev start : List ℕ
  start = after_setup w p

  -- the steps of the two replays
  abbrev shorter : List Step
  shorter = replayed start log budget

  abbrev all : List Step
  all = replayed start (log ++ more) budget

  steps : Continues shorter all
  steps = replay_continues start log more budget

  -- the run that replays the longer log
  run_is : played start (replay (log ++ more) budget ∷ []) ≡ moments start all ++ []
  unfolding played tried_by
  run_is = refl

  state_between : state_at start (played start (replay (log ++ more) budget ∷ [])) (length shorter) ≡ after_replay start log budget
  unfolding after_replay
  state_between = rw (run_is, steps.is) (state_after_lem start shorter steps.others [])

  state_last : state_at start (played start (replay (log ++ more) budget ∷ [])) (length all) ≡ after_replay start (log ++ more) budget
  unfolding after_replay
  state_last = rw run_is (rw (append-nil all) at (state_after_lem start all [] []))

  pub replay_grows : (z : ℕ) → z < shards start
      → Begins (stable_history (after_replay start log budget) z) (stable_history (after_replay start (log ++ more) budget) z)
  unfolding StableGrowth StableGrows
  replay_grows z h =
      let later : length shorter ≤ length all = omega (arith, ap length steps.is ∙ length-append shorter steps.others) in
      rw (← state_between, ← state_last)
      (stable_growth w p e (replay (log ++ more) budget ∷ []) z (length shorter) (length all) h later)

-- ---- the program's text

-- the line of a shard is its text and a newline
line_is : (w : List ℕ) (z : ℕ) → shard_line w z ≡ ((122 ∷ 111 ∷ 110 ∷ 101 ∷ []) ++ (spaced z ++ spaced_all (stable_history w z))) ++ newline
unfolding shard_line
line_is w z = rw (append_assoc (spaced z) (spaced_all (stable_history w z)) newline)

text_is : (log : List ℕ) → length log ≤ 16384
    → transcript log
    ≡ step_lines 0 program_start (replayed program_start log program_budget)
    ++ ((shown_line log 0 ++ newline) ++ ((shown_line log 1 ++ newline) ++ last_line (report program_start log program_budget)))
unfolding transcript lines shown_line shown_entries
text_is log h =
    let w : List ℕ = after_replay program_start log program_budget in
    rw (le-ltb 16384 (length log) h, line_is w 0, line_is w 1)

entries_grow : (log more : List ℕ) (z : ℕ) → z < 2 → Begins (shown_entries log z) (shown_entries (log ++ more) z)
unfolding shown_entries shards
entries_grow log more z h =
    let left = start_left program_start start_length in
    rw left at
    (replay_grows program_start program_plan (start_accepted program_start start_length) log more program_budget z (rw (left, start_shards) h))

spaced-append : (a b : List ℕ) → spaced_all (a ++ b) ≡ spaced_all a ++ spaced_all b
unfolding spaced_all
spaced-append [] b = refl
spaced-append (x ∷ a) b = rw (spaced-append a b, append_assoc (spaced x) (spaced_all a) (spaced_all b))

-- a list of more entries makes a line that goes on
line_goes_on : (z : ℕ) (a b : List ℕ) → Begins a b
    → Begins ((122 ∷ 111 ∷ 110 ∷ 101 ∷ []) ++ (spaced z ++ spaced_all a)) ((122 ∷ 111 ∷ 110 ∷ 101 ∷ []) ++ (spaced z ++ spaced_all b))
line_goes_on z a b s =
    let rest : List ℕ = drop (length a) b in
    rw (sym (begins_rest s), spaced-append a rest, sym (append_assoc (spaced z) (spaced_all a) (spaced_all rest)))
    (begins_append (spaced_all rest) begins_refl)

pub longer_logs : LongerLogs
unfolding shown_line
longer_logs =
    record {
      text = text_is;
      entries = entries_grow;
      lines = λ log more z h. line_goes_on z (shown_entries log z) (shown_entries (log ++ more) z) (entries_grow log more z h);
    }
