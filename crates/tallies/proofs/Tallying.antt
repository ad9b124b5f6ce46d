-- A replay that keeps a tally, between two of its turns: what is still to come, together with what was counted, is what the whole replay reports, leaves
-- and tallies.
-- Assumes nothing.
use Prim.Native.Nat.{ℕ, ◌-◌, ◌≤◌}
use mathlib.Core.Path.{◌≡◌}
use mathlib.Core.List.{List}
use lib.ListN.{length, drop}
use Rattle.model.specs.Log.{read_log}
use Rattle.replay.proofs.Running.{Running}
use Rattle.tallies.specs.declared.tally.Tally.{Tally}
use Rattle.rejection_hosts.specs.RejectionHosts.{no_host}
use Rattle.tallies.specs.TallyCounts.{nothing_counted, count_at}
use Rattle.tallies.proofs.TallyCounts.{tally_from}

-- a run at one of its turns, with the tally t of the steps tried so far
pub record Underway (w₀ log : List ℕ) (budget : ℕ) (w : List ℕ) (at tried rejected : ℕ) (t : Tally) : Type 0 where
  pub running : Running w₀ log budget w at tried rejected
  pub tally_is : tally_from nothing_counted w₀ (read_log budget log).steps ≡ tally_from t w (read_log (budget - tried) (drop at log)).steps
  pub few : (k : ℕ) → k ≤ no_host → count_at t k ≤ rejected
  pub sixteen : length t.hosts ≡ no_host
