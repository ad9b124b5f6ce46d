-- A tally of rejections by host. Request A7: "Keep seventeen counts: one for each box, and one for steps with no box to name."
use Rattle.std.specs.Prelude.{ℕ, zero, suc, ◌+◌, Bool, cond, not, ◌&&◌, List, [], ◌∷◌, ◌++◌, eqb}
use Rattle.types.specs.declared.step.Step.{Step}
use Rattle.model.specs.Steps.{rejection, after}
use Rattle.model.specs.Replay.{replay_rejection, replayed}
use Rattle.rejection_hosts.specs.RejectionHosts.{no_host, count_of}
use Rattle.tallies.specs.declared.tally.Tally.{Tally}

unfoldable pub is_rejection_of : ℕ → List ℕ → Step → Bool
is_rejection_of k w s = not (eqb (rejection w s) 0) && eqb (count_of w s) k

-- "Each count equals the refusals of its box, or of no box, among the steps the run tried"
unfoldable pub rejections_of : ℕ → List ℕ → List Step → ℕ
rejections_of k w [] = 0
rejections_of k w (s ∷ ss) = cond (is_rejection_of k w s) 1 0 + rejections_of k (after w s) ss

-- the counts of hosts 0, 1, .. n - 1
unfoldable pub host_counts : ℕ → List ℕ → List Step → List ℕ
host_counts zero w ss = []
host_counts (suc n) w ss = host_counts n w ss ++ rejections_of n w ss ∷ []

-- the seventeen counts
unfoldable pub tally_of : List ℕ → List Step → Tally
tally_of w ss = record { hosts = host_counts no_host w ss; none = rejections_of no_host w ss }

-- "A run turned back by 1 or 9 leaves it untouched; any other starts it from zero."
unfoldable pub tally_after : Tally → List ℕ → List ℕ → ℕ → Tally
tally_after t w log budget = cond (eqb (replay_rejection w) 0) (tally_of w (replayed w log budget)) t
