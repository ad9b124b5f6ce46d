-- Request A3 as one claim over every run: a replica of a later configuration that is not pending names its source in its origin, that source is immutable,
-- and from it the replica began, by inherit or, with request A4, through peers. It is proved in `proofs/Sources.antt` (`sources`).
use Rattle.std.specs.Prelude.{ℕ, suc, ◌-◌, ◌<◌, ◌≡◌, true, false, List}
use Rattle.model.specs.Replicas.{is_pending, is_immutable, inherited, caught_up}
use Rattle.model.specs.Configuration.{replica_in}
use Rattle.model.specs.Inherit.{source}
use Rattle.model.specs.Setup.{setup_rejection, after_setup}
use Rattle.model.specs.Runs.{Call, Moment, played, state_at}
use Rattle.model.specs.OneList.{Seated}

-- how the replica of host h in configuration j had begun by moment n, from that of host g in the one before: it was pending at an earlier moment m, and
-- then became
pub data Began (w : List ℕ) (ms : List Moment) (z j g : ℕ) : ℕ → ℕ → Type 0 where
  -- what inherit makes of that replica, which is now, at moment n, as it was then
  inherits : {h n : ℕ} (m : ℕ) → m < n → is_pending (replica_in (state_at w ms m) z j h) ≡ true
      → replica_in (state_at w ms (suc m)) z j h ≡ inherited g (source (state_at w ms n) z j g) → Began w ms z j g h n
  -- or what catching up makes of the replica of a peer, which had begun from host g by then
  catches_up : {h n : ℕ} (m : ℕ) → m < n → is_pending (replica_in (state_at w ms m) z j h) ≡ true
      → (peer : ℕ) → Seated (state_at w ms m) z j peer → Began w ms z j g peer m
      → replica_in (state_at w ms (suc m)) z j h ≡ caught_up (replica_in (state_at w ms m) z j peer) → Began w ms z j g h n

-- word 3 of the replica of host h in configuration j of shard z names a host
pub record NamesSource (w : List ℕ) (z j h : ℕ) : Type 0 where
  pub host : ℕ
  pub origin : (replica_in w z j h).origin ≡ suc host

-- w is the state after setup, ms every step tried since: at every moment n
pub record Sources (w : List ℕ) (ms : List Moment) : Type 0 where
  -- "for all others": every replica of a configuration after a shard's first that is not pending names a host g, of which the next two speak
  pub named :
      (z j h n : ℕ) → Seated (state_at w ms n) z (suc j) h → is_pending (replica_in (state_at w ms n) z (suc j) h) ≡ false
      → NamesSource (state_at w ms n) z (suc j) h
  -- where the replica of host h names host g in its word 3, g has a replica in the configuration before, which is immutable
  pub immutable :
      (z j h g n : ℕ) → Seated (state_at w ms n) z j h → (replica_in (state_at w ms n) z j h).origin ≡ suc g
      → Seated (state_at w ms n) z (j - 1) g × (is_immutable (source (state_at w ms n) z j g) ≡ true)
  -- "from which box each seat began": from that one
  pub began :
      (z j h g n : ℕ) → Seated (state_at w ms n) z j h → (replica_in (state_at w ms n) z j h).origin ≡ suc g → Began w ms z j g h n

-- for every borrowed state and plan that setup accepts, and every list of calls: the runs of the one list
unfoldable pub SourcesClaim : Type 0
SourcesClaim =
    (w p : List ℕ) → setup_rejection w p ≡ 0 → (calls : List Call) → Sources (after_setup w p) (played (after_setup w p) calls)
