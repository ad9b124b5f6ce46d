-- The buyer's question as one claim: what reading a host returns, at any two moments of a run and for any two hosts of a shard, is one list. It is
-- proved in `proofs/Shown.antt` (`shown_share`).
use Rattle.std.specs.Prelude.{ℕ, ◌≡◌, List, take}
use Rattle.model.specs.Setup.{setup_rejection, after_setup}
use Rattle.model.specs.Prefixes.{Share}
use Rattle.model.specs.Runs.{Call, Moment, played, state_at}
use Rattle.histories.specs.Prefix.{shown, prefix_rejection, prefix_count, after_prefix}

-- what a caller of `stable_prefix` has in its output: as many first entries as the call answers, none where it is rejected
unfoldable pub returned : List ℕ → ℕ → ℕ → ℕ → List ℕ → List ℕ
returned w z i h out = take (prefix_count w z i h out) (after_prefix w z i h out)

-- w is the state after setup, ms every step tried since. Host g is read in index i at moment m, and host h in index j at moment n, whatever the
-- outputs were
unfoldable pub ShownShare : List ℕ → List Moment → Type 0
ShownShare w ms =
    (z i g m j h n : ℕ) (out out' : List ℕ) → Share (returned (state_at w ms m) z i g out) (returned (state_at w ms n) z j h out')

pub record ShownClaim : Type 0 where
  -- an accepted call returns the host's stable prefix
  pub accepted : (w : List ℕ) (z i h : ℕ) (out : List ℕ) → prefix_rejection w z i h out ≡ 0 → returned w z i h out ≡ shown w z i h
  -- for every borrowed state and plan that setup accepts, and every list of calls
  pub share : (w p : List ℕ) → setup_rejection w p ≡ 0 → (calls : List Call) → ShownShare (after_setup w p) (played (after_setup w p) calls)
