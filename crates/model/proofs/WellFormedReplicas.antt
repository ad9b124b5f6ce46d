-- Add, adopt, learn, wedge, inherit and catch up keep a state well-formed.
use Prim.Native.Nat.{ℕ, ◌-◌, ◌≤◌, ◌<◌}
use native.Mathlib.Omega.{arith}
use mathlib.Core.Path.{◌≡◌}
use mathlib.Core.Bool.{true, false, not}
use mathlib.Core.List.{List}
use lib.ListN.{length}
use borrow.Author.Tests.{ltb-true, not-true}
use Rattle.types.specs.Members.{has_member, replica_number}
use Rattle.model.specs.Entries.{is_entry}
use Rattle.model.specs.Replicas.{Replica, is_pending, is_active, added, adopted, learned, wedged, inherited, caught_up}
use Rattle.model.specs.Layout.{place, members, orderer, is_installed, replica_at, put_replica}
use Rattle.model.specs.Configuration.{configuration, replica_of, replica_in}
use Rattle.types.specs.ReplicaPlace.{replica_place}
use Rattle.model.specs.Add.{orderer_place, orderer_replica, add_checks, add_effect}
use Rattle.model.specs.Adopt.{adopt_checks, adopt_effect}
use Rattle.model.specs.Learn.{all_alike, learn_checks, learn_effect}
use Rattle.model.specs.Wedge.{wedge_checks, wedge_effect}
use Rattle.model.specs.Inherit.{source, is_source, inherit_checks, inherit_effect}
use Rattle.model.specs.CatchUp.{is_peer, catch_up_checks, catch_up_effect}
use Rattle.model.specs.Origins.{is_origin_of}
use Rattle.model.proofs.Tests.{and_left, and_right}
use Rattle.model.proofs.Alike.{every_alike, alike_long}
use Rattle.model.proofs.Places.{replica_place_lem}
use Rattle.model.proofs.Members.{number_below}
use Rattle.model.proofs.Checks.{AllPass}
use Rattle.model.proofs.Origins.{added_origin, adopted_origin, learned_origin, wedged_origin, inherited_origin, caught_up_origin}
use Rattle.model.proofs.WellFormedParts.{Proper}
use Rattle.model.proofs.WellFormed.{WellFormed}
use Rattle.model.proofs.WellFormedMembers.{orderer_is_member, member_proper, member_origin}
use Rattle.model.proofs.WellFormedPut.{put_keeps}
use Rattle.model.proofs.ProperReplicas.{added_proper, adopted_proper, learned_proper, wedged_proper, inherited_proper, caught_up_proper}

module _ {Z : ℕ} {w : List ℕ} (f : WellFormed Z w) {z j : ℕ} (hz : z < Z) (hj : j < 8) where
  -- a member's replica is written anew
  put_member : (h : ℕ) → has_member (members w z j) h ≡ true → (r : Replica) → Proper Z j r
      → (is_pending r ≡ false) × (is_origin_of w z j r ≡ true) → WellFormed Z (put_replica w (replica_place (configuration w z j) h) r)
  put_member h e r p o = rw (replica_place_lem w z j h) (put_keeps f hz hj (number_below (members w z j) h e) r p o.0 o.1)

  -- the orderer's replica, of an installed configuration
  orderer_proper : is_installed w z j ≡ true → Proper Z j (orderer_replica w z j)
  unfolding orderer_replica configuration
  orderer_proper i = member_proper f hz hj (orderer w z j) (orderer_is_member f hz hj i)

  orderer_origin : is_installed w z j ≡ true → is_origin_of w z j (orderer_replica w z j) ≡ true
  unfolding orderer_replica configuration
  orderer_origin i = member_origin f hz hj (orderer w z j) (orderer_is_member f hz hj i)

  pub add_keeps : (e : ℕ) → is_entry Z e ≡ true → AllPass (add_checks w z j e) → WellFormed Z (add_effect w z j e)
  unfolding add_checks add_effect orderer_place configuration
  add_keeps e h p =
      let i : is_installed w z j ≡ true = search in
      let a : is_active (orderer_replica w z j) ≡ true = search in
      put_member (orderer w z j) (orderer_is_member f hz hj i) (added e (orderer_replica w z j))
      (added_proper (orderer_proper i) e a h (ltb-true (length (orderer_replica w z j).history) 56 (search)))
      (added_origin w z j (orderer_replica w z j) a (orderer_origin i) e)

  pub adopt_keeps : (h : ℕ) → AllPass (adopt_checks w z j h) → WellFormed Z (adopt_effect w z j h)
  unfolding adopt_checks adopt_effect
  adopt_keeps h p =
      let e : has_member (members w z j) h ≡ true = search in
      let a : is_active (replica_of w (configuration w z j) h) ≡ true = search in
      put_member h e (adopted (orderer_replica w z j) (replica_of w (configuration w z j) h))
      (adopted_proper (orderer_proper (search)) (replica_of w (configuration w z j) h) a)
      (adopted_origin w z j (replica_of w (configuration w z j) h) a (member_origin f hz hj h e) (orderer_replica w z j))

  -- the acting host's history is among those that are alike
  learn_long : (h n : ℕ) (l : List ℕ) → has_member (members w z j) h ≡ true → all_alike w z j n l ≡ true
      → n ≤ length (replica_of w (configuration w z j) h).history
  unfolding replica_of
  learn_long h n l e a =
      rw (replica_place_lem w z j h)
      (alike_long n l (replica_at w (place z j (replica_number (members w z j) h))).history
      (every_alike w z j n l a (replica_number (members w z j) h) (number_below (members w z j) h e)))

  pub learn_keeps : (h n : ℕ) → AllPass (learn_checks w z j h n) → WellFormed Z (learn_effect w z j h n)
  unfolding learn_checks learn_effect
  learn_keeps h n p =
      let e : has_member (members w z j) h ≡ true = search in
      let a : is_active (replica_of w (configuration w z j) h) ≡ true = search in
      put_member h e (learned n (replica_of w (configuration w z j) h))
      (learned_proper (member_proper f hz hj h e) n a (learn_long h n (replica_of w (configuration w z j) h).history e (search)))
      (learned_origin w z j (replica_of w (configuration w z j) h) a (member_origin f hz hj h e) n)

  pub wedge_keeps : (h : ℕ) → AllPass (wedge_checks w z j h) → WellFormed Z (wedge_effect w z j h)
  unfolding wedge_checks wedge_effect
  wedge_keeps h p =
      let e : has_member (members w z j) h ≡ true = search in
      put_member h e (wedged (replica_of w (configuration w z j) h)) (wedged_proper (member_proper f hz hj h e))
      (wedged_origin w z j (replica_of w (configuration w z j) h) (search) (member_origin f hz hj h e))

  pub inherit_keeps : (h g : ℕ) → g < 16 → AllPass (inherit_checks w z j h g) → WellFormed Z (inherit_effect w z j h g)
  unfolding inherit_checks inherit_effect is_source source
  inherit_keeps h g l p =
      let e : has_member (members w z j) h ≡ true = search in
      let s : has_member (members w z (j - 1)) g ≡ true = search (and_left, and_right) in
      let later : 1 ≤ j = ((member_proper f hz hj h e).waits (search)).1 in
      put_member h e (inherited g (source w z j g)) (inherited_proper (member_proper f hz (omega arith) g s) j g)
      (inherited_origin w z j g later l s (search (and_left, and_right)))

  pub catch_up_keeps : (h g : ℕ) → AllPass (catch_up_checks w z j h g) → WellFormed Z (catch_up_effect w z j h g)
  unfolding catch_up_checks catch_up_effect is_peer replica_in
  catch_up_keeps h g p =
      let e : has_member (members w z j) h ≡ true = search in
      let s : has_member (members w z j) g ≡ true = search (and_left, and_right) in
      let runs : not (is_pending (replica_of w (configuration w z j) g)) ≡ true = search (and_left, and_right) in
      put_member h e (caught_up (replica_of w (configuration w z j) g)) (caught_up_proper (member_proper f hz hj g s))
      (caught_up_origin w z j (replica_of w (configuration w z j) g) (not-true _ runs) (member_origin f hz hj g s))
