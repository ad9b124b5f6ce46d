-- On a well-formed state a replay is not rejected: it tries the steps that its log reads to, rejects no more than those, and leaves the state
-- well-formed. Assumes nothing.
use Prim.Native.Nat.{ℕ, suc, ◌+◌, ◌≤◌}
use native.Mathlib.Omega.{arith}
use mathlib.Core.Path.{◌≡◌}
use mathlib.Core.Bool.{Bool, true, false, cond}
use mathlib.Core.List.{List, [], ◌∷◌}
use lib.Dec.{eqb}
use lib.ListN.{length}
use Rattle.std.specs.Prelude.{Ok}
use Rattle.types.specs.Rejections.{answered}
use Rattle.types.specs.declared.step.Step.{Step}
use Rattle.model.specs.Steps.{rejection, after}
use Rattle.model.specs.Log.{read_log}
use Rattle.model.specs.Replay.{rejected_in, replayed, report, after_replay}
use Rattle.model.proofs.WellFormed.{WellFormed}
use Rattle.model.proofs.StaysWellFormed.{all_formed, replay_accepted}
use Rattle.replay.specs.Run.{run_report}

module _ {Z : ℕ} {w : List ℕ} (f : WellFormed Z w) (log : List ℕ) (budget : ℕ) where
  pub formed_replayed : replayed w log budget ≡ (read_log budget log).steps
  unfolding replayed
  formed_replayed = rw (replay_accepted f)

  pub formed_report : report w log budget ≡ Ok (run_report w log budget)
  unfolding report answered run_report
  formed_report = rw (replay_accepted f)

  pub formed_after : WellFormed Z (after_replay w log budget)
  unfolding after_replay
  formed_after = all_formed f (replayed w log budget)

-- no more steps are rejected than are tried
pub rejected_most : (w : List ℕ) (ss : List Step) → rejected_in w ss ≤ length ss
unfolding rejected_in
rejected_most w [] = omega arith
rejected_most w (s ∷ ss) = go (eqb (rejection w s) 0) (rejected_most (after w s) ss)
  where
    go : (t : Bool) {r n : ℕ} → r ≤ n → cond t 0 1 + r ≤ suc n
    go true h = omega arith
    go false h = omega arith
