-- What never goes back from one state of a run to a later one: a reflexive and transitive relation of states.
-- Assumes nothing.
use Prim.Native.Nat.{ℕ, ◌≤◌, ◌<◌}
use native.Mathlib.Nat.{le_refl, le_trans, lt_of_lt_of_le}
use mathlib.Core.Path.{◌≡◌, refl, ap, ◌∙◌}
use mathlib.Core.List.{List}
use lib.ListN.{length}
use Rattle.model.specs.Replicas.{stable_prefix}
use Rattle.model.specs.Layout.{shards_of, installed, members, orderer}
use Rattle.model.specs.Prefixes.{Begins}
use Rattle.model.specs.OneList.{shards}
use Rattle.model.proofs.Prefixes.{begins_refl, begins_trans}
use Rattle.model.proofs.StateViews.{view}

pub record Forward (w w' : List ℕ) : Type 0 where
  pub long : length w' ≡ length w
  pub installs : (z : ℕ) → z < shards w → installed w z ≤ installed w' z
  pub memberships : (z j : ℕ) → z < shards w → j < installed w z → members w' z j ≡ members w z j
  pub orderers : (z j : ℕ) → z < shards w → j < installed w z → orderer w' z j ≡ orderer w z j
  pub prefixes : (z j k : ℕ) → z < shards w → Begins (stable_prefix (view w z j k)) (stable_prefix (view w' z j k))
  pub immutables : (z j k : ℕ) → z < shards w → (view w z j k).mode ≡ 3 → view w' z j k ≡ view w z j k

pub forward_shards : {w w' : List ℕ} → Forward w w' → shards w' ≡ shards w
unfolding shards
forward_shards f = ap shards_of f.long

pub forward_refl : {w : List ℕ} → Forward w w
forward_refl {w} =
    record {
      long = refl;
      installs = λ z h. le_refl (installed w z);
      memberships = λ z j h g. refl;
      orderers = λ z j h g. refl;
      prefixes = λ z j k h. begins_refl;
      immutables = λ z j k h m. refl;
    }

pub forward_trans : {u v w : List ℕ} → Forward u v → Forward v w → Forward u w
forward_trans {u} {v} {w} a b =
    record {
      long = b.long ∙ a.long;
      installs = λ z h. le_trans (a.installs z h) (b.installs z (on z h));
      memberships = λ z j h g. b.memberships z j (on z h) (lt_of_lt_of_le g (a.installs z h)) ∙ a.memberships z j h g;
      orderers = λ z j h g. b.orderers z j (on z h) (lt_of_lt_of_le g (a.installs z h)) ∙ a.orderers z j h g;
      prefixes = λ z j k h. begins_trans (a.prefixes z j k h) (b.prefixes z j k (on z h));
      immutables = λ z j k h m. let e = a.immutables z j k h m in b.immutables z j k (on z h) (rw e m) ∙ e;
    }
  where
    on : (z : ℕ) → z < shards u → z < shards v
    on z h = rw (forward_shards a) h
