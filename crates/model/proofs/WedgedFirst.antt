-- The proof of `specs/WedgedFirst.antt`: in a safe state every configuration before another is wedged, an immutable replica is some host's, and that host is
-- a source.
-- Assumes nothing.
use Prim.Native.Nat.{ℕ, suc, ◌+◌, ◌-◌, ◌≤◌, ◌<◌}
use native.Mathlib.Nat.{lt_of_lt_of_le}
use native.Mathlib.Omega.{arith}
use mathlib.Core.Path.{◌≡◌, ◌∙◌}
use mathlib.Core.Bool.{true}
use mathlib.Core.List.{List, []}
use borrow.Author.Tests.{lt-ltb, le-leb, eq-eqb}
use Rattle.model.specs.Checks.{first_of}
use Rattle.types.specs.Kinds.{kind_of, is_kept, is_unknown}
use Rattle.types.specs.Members.{is_host}
use Rattle.model.specs.Replicas.{is_pending, is_immutable}
use Rattle.model.specs.Layout.{installed, is_installed, members, orderer}
use Rattle.model.specs.Configuration.{replica_in}
use Rattle.model.specs.Inherit.{source, is_source, inherit_checks}
use Rattle.types.specs.StepNames.{shard_of, configuration_of}
use Rattle.model.specs.Steps.{are_numbers, in_range, kind_checks, rejection}
use Rattle.model.specs.Runs.{Moment, state_at}
use Rattle.model.specs.OneList.{shards, Seated}
use Rattle.model.specs.Marked.{inherit}
use Rattle.model.specs.WedgedFirst.{WedgedFrom, HasSource, WedgedFirstClaim}
use Rattle.model.proofs.Members.{member_at, member_host}
use Rattle.model.proofs.WellFormedMembers.{Configured, head_installed, member_proper}
use Rattle.model.proofs.SeatedReplica.{member_view}
use Rattle.model.proofs.Safe.{Safe, Wedged}
use Rattle.model.proofs.SafeChange.{Source, formed}
use Rattle.model.proofs.SafeKinds.{in_use}
use Rattle.model.proofs.Sources.{source_onward}
use Rattle.model.proofs.SetupRuns.{FromSetup, from_setup}
use Rattle.model.proofs.Moments.{offers_at, safe_at, forward_to, shards_at}
use Rattle.model.proofs.Answers.{quick_rejection, quick_rejection_lem}

-- a host that is a source in configuration a of shard z
record SourceHost (w : List ℕ) (z a : ℕ) : Type 0 where
  host : ℕ
  small : host < 16
  is_source_lem : Source w z a host

module _ {w : List ℕ} {offers : ℕ → List ℕ} (x : Safe w offers) {z a : ℕ} (hz : z < shards w) (there : a < installed w z) where
  below : a < 8
  below = lt_of_lt_of_le there ((formed x).head z hz).most

  configured : Configured (members w z a) (orderer w z a)
  unfolding is_installed
  configured = head_installed w z a (((formed x).head z hz).configured a below) (lt-ltb a (installed w z) there)

  -- an immutable replica is some host's
  source_host_lem : Wedged w z a → SourceHost w z a
  source_host_lem d =
      let number = (in_use x hz below d.number (omega (arith, d.is_immutable))).0 in
      let m = member_at (members w z a) configured.below d.number number in
      record {
        host = m.host;
        small = m.small;
        is_source_lem = record { there = there; member = m.member; is_immutable = rw m.number d.is_immutable };
      }

  -- a source's replica is immutable
  source_immutable : (g : ℕ) → Source w z a g → is_immutable (replica_in w z a g) ≡ true
  unfolding replica_in is_immutable
  source_immutable g s = rw (member_view (formed x) hz below g s.member) (eq-eqb _ 3 s.is_immutable)

-- a pending replica inherits from any source of the configuration before
module _ {w : List ℕ} {offers : ℕ → List ℕ} (x : Safe w offers) {z j h : ℕ} (d : Seated w z j h) (waits : is_pending (replica_in w z j h) ≡ true) where
  later : 1 ≤ j
  unfolding replica_in
  later = ((member_proper (formed x) d.shard (below x d.shard d.configured) h d.member).waits waits).1

  before : j - 1 < installed w z
  before = omega (arith, d.configured)

  accepted_from : (g : ℕ) → g < 16 → Source w z (j - 1) g → rejection w (inherit z (j + 1) h g) ≡ 0
  unfolding quick_rejection first_of kind_of is_kept is_unknown shard_of configuration_of in_range are_numbers is_host kind_checks inherit_checks is_installed is_source
      source replica_in
  accepted_from g small s =
      let back : j + 1 - 1 ≡ j = omega arith in
      let host = member_host (members w z j) (configured x d.shard d.configured).below h d.member in
      let few : j + 1 ≤ 8 = omega (arith, below x d.shard d.configured) in
      quick_rejection_lem (formed x) (inherit z (j + 1) h g)
      ∙ rw (
        lt-ltb z (shards w) d.shard,
        le-leb 1 (j + 1) (omega arith),
        le-leb (j + 1) 8 few,
        lt-ltb h 16 host,
        lt-ltb g 16 small,
        back,
        lt-ltb j (installed w z) d.configured,
        d.member,
        waits,
        s.member,
        source_immutable x d.shard before g s,
      )

  has_source : HasSource w z j h
  has_source =
      let next : suc (j - 1) ≡ j = omega (arith, later) in
      let t = source_host_lem x d.shard before (x.wedges z (j - 1) d.shard (rw next d.configured)) in
      record { host = t.host; accepted = accepted_from t.host t.small t.is_source_lem }

module _ {w : List ℕ} {ms : List Moment} (r : FromSetup w ms) where
  safe : (n : ℕ) → Safe (state_at w ms n) (offers_at ms (λ z n. []) n)
  safe n = safe_at r (λ z n. []) n

  shard_at : (n : ℕ) {z : ℕ} → z < shards w → z < shards (state_at w ms n)
  shard_at n h = rw (shards_at r (λ z n. []) n) h

  wedged-from : (z j m : ℕ) → z < shards w → suc j < installed (state_at w ms m) z → WedgedFrom w ms z j m
  wedged-from z j m h l =
      record {
        host = t.host;
        stays = λ n q.
            let f = source_onward (forward_to r (λ z n. []) m n q) (shard_at m h) t.is_source_lem in
            record {
              seated = record { shard = shard_at n h; configured = f.there; member = f.member };
              immutable = source_immutable (safe n) (shard_at n h) f.there t.host f;
            };
      }
    where
      there : j < installed (state_at w ms m) z
      there = omega arith

      t : SourceHost (state_at w ms m) z j
      t = source_host_lem (safe m) (shard_at m h) there ((safe m).wedges z j (shard_at m h) l)

pub wedged_first : WedgedFirstClaim
unfolding WedgedFirstClaim
wedged_first w p e calls =
    let run = from_setup w p e calls in
    record { wedged = wedged-from run; source = λ z j h n d waits. has_source (safe run n) d waits }
