-- Every run from setup: its moments one by one, from a safe state in which every shard has one configuration and no replica has an origin. The claims over
-- runs are proved of this, so that here alone a call may ask something of the state that it meets.
-- Assumes nothing.
use Prim.Native.Nat.{ℕ, ◌<◌}
use mathlib.Core.Path.{◌≡◌}
use mathlib.Core.List.{List, []}
use Rattle.model.specs.Layout.{installed}
use Rattle.model.specs.Setup.{setup_rejection, after_setup}
use Rattle.model.specs.Runs.{Call, Moment, played}
use Rattle.model.specs.OneList.{shards}
use Rattle.model.proofs.StateViews.{view}
use Rattle.model.proofs.Safe.{Safe}
use Rattle.model.proofs.SafeSetup.{safe_setup, setup_installed, setup_origin}
use Rattle.model.proofs.RunSteps.{Run, played_run}

-- w is the state after setup, ms every step tried since
pub record FromSetup (w : List ℕ) (ms : List Moment) : Type 0 where
  pub run : Run w ms
  pub start : Safe w (λ z. [])
  pub alone : (z : ℕ) → z < shards w → installed w z ≡ 1
  pub no_origin : (z j k : ℕ) → z < shards w → (view w z j k).origin ≡ 0

pub from_setup : (w p : List ℕ) → setup_rejection w p ≡ 0 → (calls : List Call) → FromSetup (after_setup w p) (played (after_setup w p) calls)
from_setup w p e calls =
    record {
      run = played_run (after_setup w p) calls;
      start = safe_setup w p e;
      alone = setup_installed w p e;
      no_origin = setup_origin w p e;
    }
