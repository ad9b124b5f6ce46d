-- The proof of `specs/Sources.antt`: an origin was written by an inherit, whose source stays as it is, or copied from a peer.
-- Assumes nothing.
use Prim.Native.Nat.{ℕ, zero, suc, ◌-◌, ◌≤◌, ◌<◌}
use native.Mathlib.Nat.{le_refl, le_of_lt, lt_of_lt_of_le}
use native.Mathlib.Omega.{arith}
use mathlib.Core.Path.{◌≡◌, refl, sym, ap, ◌∙◌}
use mathlib.Core.Bool.{Bool, true, false}
use mathlib.Core.List.{List, []}
use borrow.Author.Tests.{ltb-true, eq-eqb}
use Rattle.types.specs.Members.{has_member, replica_number}
use Rattle.model.specs.Replicas.{Replica, unused, is_pending, is_immutable, inherited, caught_up}
use Rattle.model.specs.Layout.{installed, is_installed, members}
use Rattle.model.specs.Configuration.{replica_in}
use Rattle.model.specs.Inherit.{source}
use Rattle.model.specs.Origins.{is_origin_of}
use Rattle.model.specs.Runs.{Moment, state_at}
use Rattle.model.specs.OneList.{shards, Seated}
use Rattle.model.specs.Sources.{Began, inherits as inherits_from, catches_up as catches_up_with, NamesSource, SourcesClaim}
use Rattle.model.proofs.StateViews.{view, InView, inside, outside, in_view}
use Rattle.model.proofs.SeatedReplica.{member_view}
use Rattle.model.proofs.Origins.{named, has_source}
use Rattle.model.proofs.WellFormedMembers.{head_open, size_none, member_origin}
use Rattle.model.proofs.Forward.{Forward}
use Rattle.model.proofs.Safe.{Safe}
use Rattle.model.proofs.SafeChange.{Source, From, stood, inherits, catches_up, formed}
use Rattle.model.proofs.SafeKinds.{in_use}
use Rattle.model.proofs.SafeStep.{safe_step}
use Rattle.model.proofs.RunSteps.{Next, stepped, rested, next}
use Rattle.model.proofs.SetupRuns.{FromSetup, from_setup}
use Rattle.model.proofs.Moments.{offers_at, safe_at, forward_to, shards_at}

-- a source's replica, as the view shows it
shown : List ℕ → ℕ → ℕ → ℕ → Replica
shown w z a g = view w z a (replica_number (members w z a) g)

-- a source stays, and its replica is as it was
module _ {u v : List ℕ} (f : Forward u v) {z a g : ℕ} (h : z < shards u) (s : Source u z a g) where
  source-same : shown v z a g ≡ shown u z a g
  unfolding shown
  source-same = rw (f.memberships z a h s.there) (f.immutables z a (replica_number (members u z a) g) h s.is_immutable)

  pub source_onward : Source v z a g
  unfolding shown
  source_onward =
      record {
        there = lt_of_lt_of_le s.there (f.installs z h);
        member = rw (f.memberships z a h s.there) s.member;
        is_immutable = ap (λ (r : Replica). r.mode) source-same ∙ s.is_immutable;
      }

-- how a replica of the view began from host g's in configuration a, the one before
data BeganFrom (w : List ℕ) (ms : List Moment) (z j a g : ℕ) : ℕ → ℕ → Type 0 where
  by_inherit : {k n : ℕ} (m : ℕ) → m < n → (view (state_at w ms m) z j k).mode ≡ 1 → Source (state_at w ms n) z a g
      → view (state_at w ms (suc m)) z j k ≡ inherited g (shown (state_at w ms n) z a g) → BeganFrom w ms z j a g k n
  by_peer : {k n : ℕ} (m : ℕ) → m < n → (view (state_at w ms m) z j k).mode ≡ 1
      → (p : ℕ) → j < installed (state_at w ms m) z → has_member (members (state_at w ms m) z j) p ≡ true
      → BeganFrom w ms z j a g (replica_number (members (state_at w ms m) z j) p) m
      → view (state_at w ms (suc m)) z j k ≡ caught_up (shown (state_at w ms m) z j p) → BeganFrom w ms z j a g k n

-- .. and which configuration that is
record BeganIn (w : List ℕ) (ms : List Moment) (z j k g n : ℕ) : Type 0 where
  before : ℕ
  next_to : j ≡ suc before
  how : BeganFrom w ms z j before g k n

module _ {w : List ℕ} {ms : List Moment} (r : FromSetup w ms) where
  at : ℕ → List ℕ
  at n = state_at w ms n

  safe : (n : ℕ) → Safe (at n) (offers_at ms (λ z n. []) n)
  unfolding at
  safe n = safe_at r (λ z n. []) n

  forward : (m n : ℕ) → m ≤ n → Forward (at m) (at n)
  unfolding at
  forward m n h = forward_to r (λ z n. []) m n h

  shard_at : (n : ℕ) {z : ℕ} → z < shards w → z < shards (at n)
  unfolding at
  shard_at n h = rw (shards_at r (λ z n. []) n) h

  -- where an origin at the next moment is from
  from_next : (n z j k g : ℕ) → z < shards w → (view (at (suc n)) z j k).origin ≡ suc g → From (at n) z j k (view (at (suc n)) z j k) g
  unfolding at
  from_next n z j k g h = go (next r.run n)
    where
      go : {u : List ℕ} → Next ms n (state_at w ms n) u → (view u z j k).origin ≡ suc g → From (state_at w ms n) z j k (view u z j k) g
      go (stepped t a b f) = rw b ((safe_step (safe n) t a).origins z j k g (shard_at n h))
      go (rested b f) = rw b (λ e. stood e)

  on : (n : ℕ) → Forward (at n) (at (suc n))
  on n = forward n (suc n) (omega arith)

  -- what began by a moment has begun by the next
  began_onward : {n z j a k g : ℕ} → z < shards w → BeganFrom w ms z j a g k n → BeganFrom w ms z j a g k (suc n)
  unfolding at
  began_onward {n} {z} {j} {a} {k} {g} h (by_inherit m l q f i) =
      let later : m < suc n = omega (arith, l) in
      by_inherit m later q (source_onward (on n) (shard_at n h) f)
      (i ∙ sym (ap (inherited g) (source-same (on n) (shard_at n h) f)))
  began_onward {n} h (by_peer m l q p t e b i) =
      let later : m < suc n = omega (arith, l) in
      by_peer m later q p t e b i

  began_in : (n z j k g : ℕ) → z < shards w → (view (at n) z j k).origin ≡ suc g → BeganIn w ms z j k g n
  unfolding at shown state_at caught_up
  began_in zero z j k g h e = absurd (omega (arith, e, r.no_origin z j k h))
  began_in (suc n) z j k g h e = go (from_next n z j k g h e) (began_in n z j)
    where
      go : From (at n) z j k (view (at (suc n)) z j k) g
          → ((l f : ℕ) → z < shards w → (view (at n) z j l).origin ≡ suc f → BeganIn w ms z j l f n) → BeganIn w ms z j k g (suc n)
      go (stood o) rest =
          let b = rest k g h o in
          record { before = b.before; next_to = b.next_to; how = began_onward h b.how }
      go (inherits a q f m i) rest =
          record {
            before = a;
            next_to = q;
            how =
                by_inherit n (le_refl (suc n)) m (source_onward (on n) (shard_at n h) f)
                (i ∙ sym (ap (inherited g) (source-same (on n) (shard_at n h) f)));
          }
      go (catches_up p t d m i) rest =
          let b = rest (replica_number (members (at n) z j) p) g h (sym (ap (λ (x : Replica). x.origin) i) ∙ e) in
          record { before = b.before; next_to = b.next_to; how = by_peer n (le_refl (suc n)) m p t d b.how i }

  -- the source, as it is at the moment
  source_at : {z j a g n k : ℕ} → z < shards w → BeganFrom w ms z j a g k n → Source (at n) z a g
  unfolding at
  source_at h (by_inherit m l q f i) = f
  source_at {n = n} h (by_peer m l q p t e b i) = source_onward (forward m n (le_of_lt l)) (shard_at m h) (source_at h b)

  -- ---- from the view to hosts

  -- a replica in use is of an installed configuration
  in_use_installed : (n z j k : ℕ) → z < shards w → 1 ≤ (view (at n) z j k).mode → j < installed (at n) z
  unfolding is_installed unused
  in_use_installed n z j k h l = go (in_view (at n) z j k)
    where
      open_head : j < 8 → (b : Bool) → is_installed (at n) z j ≡ b → j < installed (at n) z
      open_head hj true i = ltb-true j (installed (at n) z) i
      open_head hj false i =
          let none = size_none _ (head_open (at n) z j (((formed (safe n)).head z (shard_at n h)).configured j hj) i) in
          absurd (omega (arith, (in_use (safe n) (shard_at n h) hj k l).0, none))

      go : InView (at n) z j k → j < installed (at n) z
      go (inside hj hk e) = open_head hj (is_installed (at n) z j) refl
      go (outside q e) = absurd (omega (arith, l, ap (λ (r : Replica). r.mode) (e (at n))))

  -- the replica of a host, at a moment where its configuration is installed, is the view's at the number that it has later
  host_view : (m n z j g : ℕ) → m ≤ n → z < shards w → j < installed (at m) z → has_member (members (at n) z j) g ≡ true
      → replica_in (at m) z j g ≡ view (at m) z j (replica_number (members (at n) z j) g)
  unfolding replica_in
  host_view m n z j g l h i e =
      let same : members (at n) z j ≡ members (at m) z j = (forward m n l).memberships z j (shard_at m h) i in
      let small : j < 8 = lt_of_lt_of_le i ((formed (safe m)).head z (shard_at m h)).most in
      rw same (member_view (formed (safe m)) (shard_at m h) small g (rw same at e))

  -- the source of a replica of configuration j, the one after a
  source_view : (n z j a g : ℕ) → j ≡ suc a → z < shards w → Source (at n) z a g → source (at n) z j g ≡ shown (at n) z a g
  unfolding at source shown replica_in
  source_view n z j a g e h f =
      let back : j - 1 ≡ a = omega (arith, e) in
      rw back (host_view n n z a g (le_refl n) h f.there f.member)

  -- the replica of a host that is pending at a moment m before n, and what it is then
  module _ (n z j h : ℕ) (y : z < shards w) (d : has_member (members (at n) z j) h ≡ true) (m : ℕ) (l : m < n)
      (q : (view (at m) z j (replica_number (members (at n) z j) h)).mode ≡ 1) where
    there : j < installed (at m) z
    there = in_use_installed m z j (replica_number (members (at n) z j) h) y (omega (arith, q))

    waited : is_pending (replica_in (at m) z j h) ≡ true
    unfolding is_pending
    waited = rw (host_view m n z j h (le_of_lt l) y there d) (eq-eqb _ 1 q)

    became : replica_in (at (suc m)) z j h ≡ view (at (suc m)) z j (replica_number (members (at n) z j) h)
    became = host_view (suc m) n z j h l y (lt_of_lt_of_le there ((on m).installs z (shard_at m y))) d

  -- a host began as its replica in the view did
  host_began : (z j a g : ℕ) → j ≡ suc a → z < shards w → (n h k : ℕ) → k ≡ replica_number (members (at n) z j) h
      → has_member (members (at n) z j) h ≡ true → BeganFrom w ms z j a g k n → Began w ms z j g h n
  unfolding at shown
  host_began z j a g e y n h k s d (by_inherit m l q f i) =
      let p : (view (at m) z j (replica_number (members (at n) z j) h)).mode ≡ 1 = rw s at q in
      inherits_from m l (waited n z j h y d m l p) (rw (source_view n z j a g e y f) (became n z j h y d m l p ∙ rw s at i))
  host_began z j a g e y n h k s d (by_peer m l q p t c b i) =
      let r : (view (at m) z j (replica_number (members (at n) z j) h)).mode ≡ 1 = rw s at q in
      catches_up_with m l (waited n z j h y d m l r) p (record { shard = shard_at m y; configured = t; member = c })
      (host_began z j a g e y m p (replica_number (members (at m) z j) p) refl c b)
      (rw (host_view m m z j p (le_refl m) y t c) (became n z j h y d m l r ∙ rw s at i))

  module _ (z j h g n : ℕ) (d : Seated (at n) z j h) (o : (replica_in (at n) z j h).origin ≡ suc g) where
    below : z < shards w
    unfolding at
    below = rw (sym (shards_at r (λ z n. []) n)) d.shard

    began_at : BeganIn w ms z j (replica_number (members (at n) z j) h) g n
    began_at =
        began_in n z j (replica_number (members (at n) z j) h) g below
        (rw (host_view n n z j h (le_refl n) below d.configured d.member) at o)

    source_immutable : Seated (at n) z (j - 1) g × (is_immutable (source (at n) z j g) ≡ true)
    unfolding at is_immutable shown
    source_immutable =
        let f = source_at below began_at.how in
        let back : j - 1 ≡ began_at.before = omega (arith, began_at.next_to) in (
          rw back (record { shard = d.shard; configured = f.there; member = f.member }),
          rw (source_view n z j began_at.before g began_at.next_to below f) (eq-eqb _ 3 f.is_immutable),
        )

    seated_began : Began w ms z j g h n
    unfolding at
    seated_began = host_began z j began_at.before g began_at.next_to below n h _ refl d.member began_at.how

  -- a replica that is not pending, of a configuration after a shard's first, names a host, since the state is well-formed
  seated_named : (z j h n : ℕ) → Seated (at n) z (suc j) h → is_pending (replica_in (at n) z (suc j) h) ≡ false → NamesSource (at n) z (suc j) h
  unfolding replica_in
  seated_named z j h n d e =
      let f = formed (safe n) in
      let small : suc j < 8 = lt_of_lt_of_le d.configured (f.head z d.shard).most in
      let r = replica_in (at n) z (suc j) h in
      let x : is_origin_of (at n) z (suc j) r ≡ true = member_origin f d.shard small h d.member in
      let least = (named (at n) z (suc j) r.origin (sym (has_source (at n) z (suc j) r (omega arith) e) ∙ x)).least in
      record { host = r.origin - 1; origin = omega (arith, least) }

pub sources : SourcesClaim
unfolding SourcesClaim at
sources w p e calls =
    let run = from_setup w p e calls in
    record { named = seated_named run; immutable = source_immutable run; began = seated_began run }
