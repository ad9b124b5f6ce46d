-- What a trace tells, as one claim: how long it is and whose replicas it goes through. It is proved in `proofs/TraceLaws.antt` (`trace_laws`).
use Rattle.std.specs.Prelude.{ℕ, ◌-◌, ◌≤◌, ◌≡◌, true, false, List, length, get_or}
use Rattle.types.specs.Members.{has_member}
use Rattle.model.specs.Replicas.{is_pending, is_immutable}
use Rattle.model.specs.Layout.{members}
use Rattle.model.specs.Setup.{setup_rejection, after_setup}
use Rattle.model.specs.Runs.{Call, Moment, played, state_at}
use Rattle.model.specs.Configuration.{replica_in}
use Rattle.histories.specs.Traces.{trace_of, trace_rejection}

-- the k-th host of a trace, counted from 1
unfoldable pub host_of : List ℕ → ℕ → ℕ → ℕ → ℕ → ℕ
host_of w z i h k = get_or (trace_of w z (i - 1) h) (k - 1) 0

-- w is the state after setup, ms every step tried since: at every moment n, the replicas of a trace's hosts are immutable
unfoldable pub ImmutableHosts : List ℕ → List Moment → Type 0
ImmutableHosts w ms =
    (n z i h k : ℕ) → trace_rejection (state_at w ms n) z i h ≡ 0 → 1 ≤ k → k ≤ length (trace_of (state_at w ms n) z (i - 1) h)
    → is_immutable (replica_in (state_at w ms n) z (i - 1 - k) (host_of (state_at w ms n) z i h k)) ≡ true

pub record TraceLaws : Type 0 where
  -- of a replica that is not pending it has exactly index − 1 hosts, "at most seven"
  pub long :
      (w : List ℕ) (z i h : ℕ) → trace_rejection w z i h ≡ 0 → is_pending (replica_in w z (i - 1) h) ≡ false
      → (length (trace_of w z (i - 1) h) ≡ i - 1) × (i - 1 ≤ 7)
  -- the k-th is a member of the configuration k before, and its replica there is not pending
  pub hosts :
      (w : List ℕ) (z i h k : ℕ) → trace_rejection w z i h ≡ 0 → 1 ≤ k → k ≤ length (trace_of w z (i - 1) h)
      → (has_member (members w z (i - 1 - k)) (host_of w z i h k) ≡ true) × (is_pending (replica_in w z (i - 1 - k) (host_of w z i h k)) ≡ false)
  -- in every state of a run from setup that replica is immutable: for every borrowed state and plan that setup accepts, and every list of calls
  pub immutable : (w p : List ℕ) → setup_rejection w p ≡ 0 → (calls : List Call) → ImmutableHosts (after_setup w p) (played (after_setup w p) calls)
