-- The third demand as one claim over every run. It is proved in `proofs/OneList.antt` (`one_list`).
use Rattle.std.specs.Prelude.{ℕ, suc, ◌+◌, ◌≤◌, ◌<◌, ◌≡◌, true, List, length}
use Rattle.types.specs.Members.{has_member}
use Rattle.model.specs.Entries.{issue, first_issue}
use Rattle.model.specs.Replicas.{stable_prefix}
use Rattle.model.specs.Layout.{shards_of, sequencer, installed, members, orderer}
use Rattle.model.specs.Configuration.{configuration, replica_of}
use Rattle.model.specs.Setup.{setup_rejection, after_setup}
use Rattle.model.specs.StableHistory.{stable_history}
use Rattle.model.specs.Prefixes.{Begins, Share}
use Rattle.model.specs.Runs.{Call, Moment, played, state_at}
use Rattle.model.specs.Reference.{MayAcceptAll, before_accepting, reference_at, point_at}

-- how many shards a state has
unfoldable pub shards : List ℕ → ℕ
shards w = shards_of (length w)

-- host h has a replica in configuration j (index j + 1) of shard z: "A box in a configuration is its seat."
pub record Seated (w : List ℕ) (z j h : ℕ) : Type 0 where
  pub shard : z < shards w
  pub configured : j < installed w z
  pub member : has_member (members w z j) h ≡ true

-- its stable prefix ("confirmed part")
unfoldable pub stable_of : List ℕ → ℕ → ℕ → ℕ → List ℕ
stable_of w z j h = stable_prefix (replica_of w (configuration w z j) h)

-- a list that the reference shard of z held at some point up to moment m
pub record Held (z : ℕ) (choice : ℕ → List ℕ) (ms : List Moment) (m : ℕ) (l : List ℕ) : Type 0 where
  pub moment : ℕ
  pub accepted : ℕ
  pub up_to : moment ≤ m
  pub is_point : point_at z choice ms moment accepted ≡ l

-- w is the state after setup, ms every step tried since, with its answer and the state after it
pub record OneList (w : List ℕ) (ms : List Moment) : Type 0 where
  -- "Within its configuration no box's confirmed part ever shrinks or changes what it had": from moment m to every later moment n
  pub grows :
      (z j h m n : ℕ) → Seated (state_at w ms m) z j h → m ≤ n
      → Seated (state_at w ms n) z j h × Begins (stable_of (state_at w ms m) z j h) (stable_of (state_at w ms n) z j h)
  -- "two boxes of one zone, each in any of its configurations and at any moment of its own, share one list"
  pub agree :
      (z i g m j h n : ℕ) → Seated (state_at w ms m) z i g → Seated (state_at w ms n) z j h
      → Share (stable_of (state_at w ms m) z i g) (stable_of (state_at w ms n) z j h)
  -- "it can accept so that": what the reference shard of z accepts at moment n
  pub choice : ℕ → ℕ → List ℕ
  -- "accepting entries in turn, none twice, each already entered by an accepted add in that zone"
  pub allowed : (z n : ℕ) → z < shards w → MayAcceptAll (choice z n) (before_accepting z (choice z) ms n)
  -- "after setup and after every step the lone box's list equals the zone's longest confirmed part"
  pub lone : (z n : ℕ) → z < shards w → (reference_at z (choice z) ms n).history ≡ stable_history (state_at w ms n) z
  -- "Each is what the zone's one lone box .. held at some point up to that moment"
  pub held : (z j h m : ℕ) → Seated (state_at w ms m) z j h → Held z (choice z) ms m (stable_of (state_at w ms m) z j h)
  -- "At every moment, every configuration after a zone's first is the first issue for that zone and index in the confirmed list of the zone that
  -- appoints it": configuration j + 1 has index j + 2. `Appointed.antt` reads members and orderer off that issue
  pub issued :
      (z j n : ℕ) → z < shards w → suc j < installed (state_at w ms n) z
      → first_issue z (j + 2) (stable_history (state_at w ms n) (sequencer (state_at w ms n) z))
      ≡ issue (j + 2) z (orderer (state_at w ms n) z (suc j)) (members (state_at w ms n) z (suc j))

-- for every borrowed state and plan that setup accepts, and every list of calls
unfoldable pub OneListClaim : Type 0
OneListClaim =
    (w p : List ℕ) → setup_rejection w p ≡ 0 → (calls : List Call) → OneList (after_setup w p) (played (after_setup w p) calls)
