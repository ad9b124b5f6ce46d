-- The members of a well-formed state's configurations: at most four, their replicas proper.
use Prim.Native.Nat.{ℕ, ◌≤◌, ◌<◌}
use native.Mathlib.Omega.{arith}
use mathlib.Core.Path.{◌≡◌, refl, ap, subst}
use mathlib.Core.Bool.{Bool, true, false}
use mathlib.Core.List.{List, [], ◌∷◌}
use lib.Dec.{leb, ltb, eqb}
use lib.Count.{ones}
use borrow.Author.Tests.{leb-true, ltb-true, lt-ltb, eqb-true}
use Rattle.types.specs.Members.{is_host, size, has_member, replica_number, is_member_set, is_configuration}
use Rattle.model.specs.Layout.{place, members, orderer, is_installed, part, replica_at}
use Rattle.model.specs.Configuration.{configuration, replica_of}
use Rattle.model.specs.Origins.{is_origin_of}
use Rattle.model.specs.WellFormed.{is_part, is_head_of}
use Rattle.model.proofs.Tests.{both, all_pass}
use Rattle.model.proofs.Places.{replica_place_lem}
use Rattle.model.proofs.Members.{number_below}
use Rattle.model.proofs.WellFormedParts.{Proper, part_proper, part_vacant}
use Rattle.model.proofs.WellFormed.{WellFormed}

-- a member set with its orderer
pub record Configured (m o : ℕ) : Type 0 where
  pub below : m < 65536
  pub size_least : 1 ≤ size m
  pub size_most : size m ≤ 4
  pub host : o < 16
  pub has : has_member m o ≡ true

pub configured : (m o : ℕ) → is_configuration m o ≡ true → Configured m o
unfolding is_configuration is_member_set is_host
configured m o e =
    let p = all_pass (is_member_set m) (is_host o ∷ has_member m o ∷ []) e in
    let t = all_pass (ltb m 65536) (leb 1 (size m) ∷ leb (size m) 4 ∷ []) p.0 in
    record {
      below = ltb-true m 65536 t.0;
      size_least = leb-true 1 (size m) t.1.0;
      size_most = leb-true (size m) 4 t.1.1.0;
      host = ltb-true o 16 p.1.0;
      has = p.1.1.0;
    }

-- ---- the head words of a configuration

pub head_installed : (w : List ℕ) (z j : ℕ) → is_head_of w z j ≡ true → is_installed w z j ≡ true → Configured (members w z j) (orderer w z j)
unfolding is_head_of
head_installed w z j e i = configured (members w z j) (orderer w z j) (rw i at e)

pub head_open : (w : List ℕ) (z j : ℕ) → is_head_of w z j ≡ true → is_installed w z j ≡ false → members w z j ≡ 0
unfolding is_head_of
head_open w z j e i = eqb-true (members w z j) 0 ((both (eqb (members w z j) 0) (eqb (orderer w z j) 0)).0 (rw i at e)).0

pub size_none : (m : ℕ) → m ≡ 0 → size m ≡ 0
unfolding ones
size_none m e = ap ones e

pub head_few : (w : List ℕ) (z j : ℕ) → is_head_of w z j ≡ true → size (members w z j) ≤ 4
head_few w z j e = go (is_installed w z j) refl
  where
    go : (b : Bool) → is_installed w z j ≡ b → size (members w z j) ≤ 4
    go true i = (head_installed w z j e i).size_most
    go false i = omega (arith, size_none (members w z j) (head_open w z j e i))

-- ---- the configurations of a well-formed state

module _ {Z : ℕ} {w : List ℕ} (f : WellFormed Z w) {z j : ℕ} (hz : z < Z) (hj : j < 8) where
  pub size_few : size (members w z j) ≤ 4
  size_few = head_few w z j ((f.head z hz).configured j hj)

  pub orderer_is_member : is_installed w z j ≡ true → has_member (members w z j) (orderer w z j) ≡ true
  orderer_is_member i = (head_installed w z j ((f.head z hz).configured j hj) i).has

  -- a replica below the size
  pub replica_proper : {k : ℕ} → k < size (members w z j) → Proper Z j (replica_at w (place z j k))
  unfolding replica_at
  replica_proper {k} h =
      part_proper Z j (part w (place z j k))
      (subst (λ (b : Bool). is_part Z j b (part w (place z j k)) ≡ true) (lt-ltb k (size (members w z j)) h)
      (f.parts z j k hz hj (omega (arith, size_few))))

  -- a replica with a mode is a member's
  pub number_in_use : {k : ℕ} → k < 4 → 1 ≤ (replica_at w (place z j k)).mode → k < size (members w z j)
  unfolding replica_at
  number_in_use {k} hk l = go (ltb k (size (members w z j))) refl (f.parts z j k hz hj hk)
    where
      go : (b : Bool) → ltb k (size (members w z j)) ≡ b → is_part Z j b (part w (place z j k)) ≡ true → k < size (members w z j)
      go true e p = ltb-true k (size (members w z j)) e
      go false e p = absurd (omega (arith, l, (part_vacant Z j (part w (place z j k)) p).mode_none))

  pub member_proper : (h : ℕ) → has_member (members w z j) h ≡ true → Proper Z j (replica_of w (configuration w z j) h)
  unfolding replica_of
  member_proper h e = rw (replica_place_lem w z j h) (replica_proper (number_below (members w z j) h e))

  pub member_origin : (h : ℕ) → has_member (members w z j) h ≡ true → is_origin_of w z j (replica_of w (configuration w z j) h) ≡ true
  unfolding replica_of
  member_origin h e = rw (replica_place_lem w z j h) (f.origins z j (replica_number (members w z j) h) hz hj (number_below (members w z j) h e))
