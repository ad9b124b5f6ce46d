-- Request A6 as one claim over every run: an accepted install leaves an immutable replica in the configuration before, which stays, so that a pending
-- replica always has a source. It is proved in `proofs/WedgedFirst.antt` (`wedged_first`).
use Rattle.std.specs.Prelude.{ℕ, suc, ◌+◌, ◌≤◌, ◌<◌, ◌≡◌, true, List}
use Rattle.model.specs.Replicas.{is_pending, is_immutable}
use Rattle.model.specs.Layout.{installed}
use Rattle.model.specs.Configuration.{replica_in}
use Rattle.model.specs.Steps.{rejection}
use Rattle.model.specs.Setup.{setup_rejection, after_setup}
use Rattle.model.specs.Runs.{Call, Moment, played, state_at}
use Rattle.model.specs.OneList.{shards, Seated}
use Rattle.model.specs.Marked.{inherit}

-- host g has a replica in configuration j of shard z, which is immutable
pub record ImmutableAt (w : List ℕ) (z j g : ℕ) : Type 0 where
  pub seated : Seated w z j g
  pub immutable : is_immutable (replica_in w z j g) ≡ true

-- one host's replica in configuration j of shard z is immutable at moment m and at every later one
pub record WedgedFrom (w : List ℕ) (ms : List Moment) (z j m : ℕ) : Type 0 where
  pub host : ℕ
  pub stays : (n : ℕ) → m ≤ n → ImmutableAt (state_at w ms n) z j host

-- an inherit is accepted for host h in configuration j (index j + 1) of shard z, from some host
pub record HasSource (w : List ℕ) (z j h : ℕ) : Type 0 where
  pub host : ℕ
  pub accepted : rejection w (inherit z (j + 1) h host) ≡ 0

-- w is the state after setup, ms every step tried since
pub record WedgedFirst (w : List ℕ) (ms : List Moment) : Type 0 where
  -- "Install now needs an immutable seat in the zone's newest configuration": where configuration j + 1 is installed, and only an accepted install makes
  -- one after a shard's first, the configuration before it is wedged, then and at every later moment
  pub wedged : (z j m : ℕ) → z < shards w → suc j < installed (state_at w ms m) z → WedgedFrom w ms z j m
  -- "zones whose new boxes waited long, as nobody had frozen an old one": a pending replica, of the newest configuration or any other, has a source at
  -- every moment
  pub source :
      (z j h n : ℕ) → Seated (state_at w ms n) z j h → is_pending (replica_in (state_at w ms n) z j h) ≡ true
      → HasSource (state_at w ms n) z j h

-- for every borrowed state and plan that setup accepts, and every list of calls: the runs of the one list
unfoldable pub WedgedFirstClaim : Type 0
WedgedFirstClaim =
    (w p : List ℕ) → setup_rejection w p ≡ 0 → (calls : List Call) → WedgedFirst (after_setup w p) (played (after_setup w p) calls)
