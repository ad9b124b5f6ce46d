-- The state after setup is safe, with nothing offered.
-- Assumes nothing.
use Prim.Native.Nat.{ℕ, suc, ◌+◌, ◌*◌, ◌≤◌, ◌<◌}
use native.Mathlib.Omega.{arith}
use mathlib.Core.Path.{◌≡◌, refl, ap}
use mathlib.Core.Bool.{Bool, true, false, cond}
use mathlib.Core.List.{List, []}
use lib.Dec.{ltb, lit<}
use borrow.Author.Tests.{ltb-true}
use lib.ListN.{length}
use Rattle.types.specs.Members.{size}
use Rattle.model.specs.Replicas.{Replica, stable_prefix, fresh, unused}
use Rattle.model.specs.Layout.{shards_of, installed, replica_at}
use Rattle.model.specs.Setup.{setup_rejection, after_setup, initial_replica, initial_state, plan_members}
use Rattle.model.specs.OneList.{shards}
use Rattle.model.proofs.Parts.{read_words}
use Rattle.model.proofs.Prefixes.{begins_nil}
use Rattle.model.proofs.Histories.{once_nil, offered_nil}
use Rattle.model.proofs.Rivals.{single_nil}
use Rattle.model.proofs.Views.{View, Inv}
use Rattle.model.proofs.StateViews.{view, InView, inside, outside, in_view}
use Rattle.model.proofs.InitialState.{initial_part, initial_installed, initial_members}
use Rattle.model.proofs.WellFormed.{WellFormed, is_well_formed}
use Rattle.model.proofs.WellFormedMembers.{size_few}
use Rattle.model.proofs.WellFormedSetup.{initial_short, after_setup_lem, setup_formed}
use Rattle.model.proofs.Safe.{Safe}

-- a replica of configuration j that is new: fresh in the first configuration, or unused
data New (j : ℕ) (r : Replica) : Type 0 where
  is_fresh : j ≡ 0 → r ≡ fresh → New j r
  is_unused_lem : r ≡ unused → New j r

new_history : {j : ℕ} {r : Replica} → New j r → r.history ≡ []
unfolding fresh unused
new_history (is_fresh h e) = ap (λ (q : Replica). q.history) e
new_history (is_unused_lem e) = ap (λ (q : Replica). q.history) e

new_stable : {j : ℕ} {r : Replica} → New j r → r.stable ≡ 0
unfolding fresh unused
new_stable (is_fresh h e) = ap (λ (q : Replica). q.stable) e
new_stable (is_unused_lem e) = ap (λ (q : Replica). q.stable) e

new_prefix : {j : ℕ} {r : Replica} → New j r → stable_prefix r ≡ []
unfolding fresh unused stable_prefix
new_prefix (is_fresh h e) = ap stable_prefix e
new_prefix (is_unused_lem e) = ap stable_prefix e

-- none is pending, and those with a history are of the first configuration
new_mode : {j : ℕ} {r : Replica} → New j r → (r.mode ≡ 1 → ⊥) × (2 ≤ r.mode → j ≡ 0)
unfolding fresh unused
new_mode (is_fresh h e) = (λ q. omega (arith, q, ap (λ (q : Replica). q.mode) e), λ q. h)
new_mode (is_unused_lem e) =
    (λ q. omega (arith, q, ap (λ (q : Replica). q.mode) e), λ q. absurd (omega (arith, q, ap (λ (q : Replica). q.mode) e)))

-- a view of new replicas has the invariant
new_inv : {v : View} → ((j k : ℕ) → New j (v j k)) → Inv v []
new_inv {v} n =
    record {
      fits = λ j k. rw (new_stable (n j k)) (omega arith);
      blank = λ j k h. new_history (n j k);
      reach = λ i k j l h q. rw (new_prefix (n i k)) begins_nil;
      rooted = λ j k q. absurd (omega (arith, (new_mode (n (suc j) k)).1 q));
      stemmed = λ j p k q h. absurd ((new_mode (n (suc j) p)).0 q);
      once = λ j k. rw (new_history (n j k)) once_nil;
      single = λ j k. rw (new_history (n j k)) single_nil;
      offered = λ j k. rw (new_history (n j k)) offered_nil;
    }

initial_new : (m j k : ℕ) → size m ≤ 4 → New j (initial_replica m (j * 4 + k))
unfolding initial_replica
initial_new m j k h = go (ltb (j * 4 + k) (size m)) refl
  where
    go : (t : Bool) → ltb (j * 4 + k) (size m) ≡ t → New j (cond (ltb (j * 4 + k) (size m)) fresh unused)
    go true e = is_fresh (omega (arith, ltb-true (j * 4 + k) (size m) e)) (rw e)
    go false e = is_unused_lem (rw e)

-- the view of a shard in the initial state
initial_view : (Z : ℕ) (p : List ℕ) → WellFormed Z (initial_state Z p) → (z : ℕ) → z < Z → (j k : ℕ) → New j (view (initial_state Z p) z j k)
unfolding replica_at
initial_view Z p f z hz j k = go (in_view (initial_state Z p) z j k)
  where
    few : size (plan_members p z) ≤ 4
    few = rw (initial_members Z p hz) at (size_few f {z = z} {j = 0} hz (lit< tt))

    go : InView (initial_state Z p) z j k → New j (view (initial_state Z p) z j k)
    go (inside hj hk e) =
        rw (e, initial_part Z p hz hj hk, read_words (initial_replica (plan_members p z) (j * 4 + k)) (initial_short (plan_members p z) (j * 4 + k)))
        (initial_new (plan_members p z) j k few)
    go (outside h e) = is_unused_lem (e (initial_state Z p))

initial_safe : (Z : ℕ) (p : List ℕ) → WellFormed Z (initial_state Z p) → Safe (initial_state Z p) (λ z. [])
unfolding shards
initial_safe Z p f =
    record {
      several = rw f.shards f.several;
      formed = is_well_formed f;
      inv = λ z h. new_inv (initial_view Z p f z (rw f.shards at h));
      wedges = λ z j h l. let g : suc j < 1 = rw (initial_installed Z p (rw f.shards at h)) at l in absurd (omega arith);
    }

-- every shard has one configuration
pub setup_installed : (w p : List ℕ) → setup_rejection w p ≡ 0 → (z : ℕ) → z < shards (after_setup w p) → installed (after_setup w p) z ≡ 1
unfolding shards
setup_installed w p e z =
    rw (after_setup_lem w p e) (λ h. initial_installed (shards_of (length w)) p (rw (setup_formed w p e).shards at h))

-- no replica has an origin
new_origin : {j : ℕ} {r : Replica} → New j r → r.origin ≡ 0
unfolding fresh unused
new_origin (is_fresh h e) = ap (λ (q : Replica). q.origin) e
new_origin (is_unused_lem e) = ap (λ (q : Replica). q.origin) e

pub setup_origin : (w p : List ℕ) → setup_rejection w p ≡ 0 → (z j k : ℕ) → z < shards (after_setup w p) → (view (after_setup w p) z j k).origin ≡ 0
unfolding shards
setup_origin w p e z j k =
    rw (after_setup_lem w p e)
    (λ h. new_origin (initial_view (shards_of (length w)) p (setup_formed w p e) z (rw (setup_formed w p e).shards at h) j k))

pub safe_setup : (w p : List ℕ) → setup_rejection w p ≡ 0 → Safe (after_setup w p) (λ z. [])
safe_setup w p e = rw (after_setup_lem w p e) (initial_safe (shards_of (length w)) p (setup_formed w p e))
