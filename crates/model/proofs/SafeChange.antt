-- What a change of a state has to show besides well-formedness: the invariant of every shard, that nothing goes back, that configurations before another
-- are wedged, where origins are from, which shard gets a configuration, and that sequencers stay.
-- Assumes nothing.
use Prim.Native.Nat.{ℕ, suc, ◌<◌}
use native.Mathlib.Omega.{arith}
use native.Mathlib.Decide.{ℕ_discrete, dec_lt}
use mathlib.Core.Path.{◌≡◌, refl, sym, subst}
use mathlib.Core.Bool.{true}
use mathlib.Core.List.{List}
use Rattle.model.specs.Layout.{sequencer, installed, members}
use Rattle.model.specs.OneList.{shards}
use Rattle.types.specs.Members.{has_member, replica_number}
use Rattle.model.specs.Replicas.{Replica, inherited, caught_up}
use Rattle.model.proofs.WellFormedInstall
use Rattle.model.proofs.Histories.{Wider, offered_wider}
use Rattle.model.proofs.Views.{View, Inv}
use Rattle.model.proofs.StateViews.{view}
use Rattle.model.proofs.Forward.{Forward}
use Rattle.model.proofs.WellFormed.{WellFormed, well_formed_lem}
use Rattle.model.proofs.Safe.{Safe, Wedged}

-- host g of configuration a of shard z is a source: a member whose replica, which the view shows at its number, is immutable
pub record Source (w : List ℕ) (z a g : ℕ) : Type 0 where
  pub there : a < installed w z
  pub member : has_member (members w z a) g ≡ true
  pub is_immutable : (view w z a (replica_number (members w z a) g)).mode ≡ 3

-- where the origin of r is from, which takes the place of replica k of configuration j: it was there, or r inherits from the host that it names, or
-- catches up with a peer that names it
pub data From (w : List ℕ) (z j k : ℕ) (r : Replica) (g : ℕ) : Type 0 where
  stood : (view w z j k).origin ≡ suc g → From w z j k r g
  inherits : (a : ℕ) → j ≡ suc a → Source w z a g → (view w z j k).mode ≡ 1
      → r ≡ inherited g (view w z a (replica_number (members w z a) g)) → From w z j k r g
  catches_up : (p : ℕ) → j < installed w z → has_member (members w z j) p ≡ true → (view w z j k).mode ≡ 1
      → r ≡ caught_up (view w z j (replica_number (members w z j) p)) → From w z j k r g

-- how many configurations a shard has after a change: as many as before, or one more where it gets one
pub data Count (gets : Type 0) (n n' : ℕ) : Type 0 where
  as_many : n' ≡ n → Count gets n n'
  one_more : gets → n' ≡ suc n → Count gets n n'

-- a configuration after the first was there before the change, or is the one that its shard gets
pub data There (gets : Type 0) (n j : ℕ) : Type 0 where
  had : suc j < n → There gets n j
  got : gets → suc j ≡ n → There gets n j

pub there : {gets : Type 0} {n n' : ℕ} → Count gets n n' → (j : ℕ) → suc j < n' → There gets n j
there (as_many e) j l = had (omega (arith, e, l))
there {gets} {n} (one_more g e) j l = go (dec_lt (suc j) n)
  where
    go : Dec (suc j < n) → There gets n j
    go (yes q) = had q
    go (no q) = got g (omega (arith, e, l, q))

-- only a shard z with gets z gets a configuration
pub record SafeChange (gets : ℕ → Type 0) (w : List ℕ) (offers : ℕ → List ℕ) (w' : List ℕ) (offers' : ℕ → List ℕ) : Type 0 where
  pub forward : Forward w w'
  pub inv : (z : ℕ) → z < shards w → Inv (view w' z) (offers' z)
  pub wedges : (z j : ℕ) → z < shards w → suc j < installed w' z → Wedged w' z j
  pub origins : (z j k g : ℕ) → z < shards w → (view w' z j k).origin ≡ suc g → From w z j k (view w' z j k) g
  pub counts : (z : ℕ) → z < shards w → Count (gets z) (installed w z) (installed w' z)
  pub sequencers : (z : ℕ) → z < shards w → sequencer w' z ≡ sequencer w z

-- a safe state is well-formed
pub formed : {w : List ℕ} {offers : ℕ → List ℕ} → Safe w offers → WellFormed (shards w) w
unfolding shards
formed {w} x = well_formed_lem w (shards w) refl x.several x.formed

-- a sequencer is a shard
pub sequencer_below : {w : List ℕ} {offers : ℕ → List ℕ} → Safe w offers → (z : ℕ) → z < shards w → sequencer w z < shards w
sequencer_below {w} x z h = WellFormedInstall.sequencer_below (shards w) z (sequencer w z) ((formed x).head z h).sequenced

-- what holds of the shard z that changed, and of every other, holds of each
pub each_shard : (P : ℕ → Type 0) (z y : ℕ) → P z → ((z ≡ y → ⊥) → P y) → P y
each_shard P z y here other = go (ℕ_discrete z y)
  where
    go : Dec (z ≡ y) → P y
    go (yes e) = subst P e here
    go (no n) = other n

-- a view that shows the same replicas, with a wider offer
pub inv_same : {v v' : View} {o o' : List ℕ} → Inv v o → ((a b : ℕ) → v' a b ≡ v a b) → Wider o o' → Inv v' o'
inv_same {v} {v'} {o} {o'} i e d =
    subst (λ (u : View). Inv u o') (λ t a b. sym (e a b) t)
    (record {
      fits = i.fits;
      blank = i.blank;
      reach = i.reach;
      rooted = i.rooted;
      stemmed = i.stemmed;
      once = i.once;
      single = i.single;
      offered = λ a b. offered_wider d (i.offered a b);
    })

-- a configuration that was wedged stays so
pub wedged_stays : {w w' : List ℕ} → Forward w w' → (z j : ℕ) → z < shards w → Wedged w z j → Wedged w' z j
wedged_stays f z j h d =
    record { number = d.number; is_immutable = rw (f.immutables z j d.number h d.is_immutable) d.is_immutable }
