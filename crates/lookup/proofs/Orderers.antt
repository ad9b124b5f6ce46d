-- The orderer's replica of an installed configuration: its host and its place.
-- Assumes nothing.
use Prim.Native.Nat.{ℕ, ◌<◌}
use native.Mathlib.Omega.{arith}
use mathlib.Core.Path.{◌≡◌, refl, sym, ap}
use mathlib.Core.Bool.{Bool, true, false}
use mathlib.Core.List.{List}
use lib.Dec.{eqb}
use borrow.Author.Tests.{eqb-true}
use Rattle.model.specs.Layout.{is_installed, members, orderer, replica_at}
use Rattle.model.specs.Configuration.{configuration, replica_of}
use Rattle.model.specs.Add.{orderer_place, orderer_replica}
use Rattle.model.specs.WellFormed.{is_head_of}
use Rattle.model.proofs.Tests.{both}
use Rattle.model.proofs.WellFormedMembers.{Configured, head_installed}
use Rattle.lookup.specs.Ready.{Ready, ReadyInstalled, Placed}
use Rattle.lookup.proofs.ReadyFields.{formed}
use Rattle.lookup.proofs.FoundReplicas.{At, member_placed}

-- the head words of a configuration
head : {w : List ℕ} {z j : ℕ} → Ready w z j → is_head_of w z j ≡ true
head {w} {z} {j} r = ((formed r.state).head z r.shard).configured j r.configuration

pub ordered : {w : List ℕ} {z j : ℕ} → ReadyInstalled w z j → Configured (members w z j) (orderer w z j)
ordered {w} {z} {j} r = head_installed w z j (head r.ready) r.there

-- an orderer is a host, also where none is installed
pub orderer_host : {w : List ℕ} {z j : ℕ} → Ready w z j → orderer w z j < 16
unfolding is_head_of
orderer_host {w} {z} {j} r = go (is_installed w z j) refl (head r)
  where
    go : (t : Bool) → is_installed w z j ≡ t → is_head_of w z j ≡ true → orderer w z j < 16
    go true i e = (head_installed w z j e i).host
    go false i e =
        let p = (both (eqb (members w z j) 0) (eqb (orderer w z j) 0)).0 (rw i at e) in
        omega (arith, eqb-true (orderer w z j) 0 p.1)

module _ {w : List ℕ} {z j : ℕ} (r : ReadyInstalled w z j) where
  pub orderer_placed : Placed w (orderer_place w z j)
  unfolding orderer_place configuration
  orderer_placed = member_placed r.ready (orderer w z j) (ordered r).has

  pub orderer_at : {o : ℕ} → o ≡ orderer_place w z j → At w z j (orderer w z j) o
  unfolding orderer_place configuration replica_of
  orderer_at e =
      record { there = r.there; member = (ordered r).has; place_is = sym e; replica_is = ap (replica_at w) (sym e) }

-- the orderer's replica is the one at its place
pub orderer_replica_lem : {w : List ℕ} {z j o : ℕ} → At w z j (orderer w z j) o → orderer_replica w z j ≡ replica_at w o
unfolding orderer_replica configuration
orderer_replica_lem a = a.replica_is
