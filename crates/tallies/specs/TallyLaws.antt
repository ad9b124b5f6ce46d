-- What holds of every tally that a replay leaves, as one claim (request A7). It is proved in `proofs/TallyLaws.antt` (`tally_laws`).
use Rattle.std.specs.Prelude.{ℕ, ◌+◌, ◌<◌, ◌≡◌, Bool, false, ◌||◌, List, [], ◌∷◌, eqb, get_or}
use Rattle.types.specs.declared.step.Step.{Step}
use Rattle.model.specs.Steps.{after}
use Rattle.model.specs.Replay.{replay_rejection, replayed, report}
use Rattle.model.specs.Results.{report_rejected}
use Rattle.tallies.specs.declared.tally.Tally.{Tally}
use Rattle.tallies.specs.Tally.{tally_after}
use Rattle.rejection_hosts.specs.RejectionHosts.{no_host, named_host}

unfoldable pub sum_of : List ℕ → ℕ
sum_of [] = 0
sum_of (n ∷ ns) = n + sum_of ns

-- the seventeen counts together
unfoldable pub total : Tally → ℕ
total t = sum_of t.hosts + t.none

-- a host that some step names
unfoldable pub is_named_in : ℕ → List ℕ → List Step → Bool
is_named_in h w [] = false
is_named_in h w (s ∷ ss) = eqb (named_host w s) h || is_named_in h (after w s) ss

pub record TallyLaws : Type 0 where
  -- "the seventeen sum to the refused total that the run still returns"
  pub sums : (t : Tally) (w log : List ℕ) (budget : ℕ) → replay_rejection w ≡ 0 → total (tally_after t w log budget) ≡ report_rejected (report w log budget)
  -- a host that no step names has 0
  pub unnamed : (t : Tally) (w log : List ℕ) (budget : ℕ) → replay_rejection w ≡ 0 → (h : ℕ) → h < no_host
      → is_named_in h w (replayed w log budget) ≡ false → get_or (tally_after t w log budget).hosts h 0 ≡ 0
