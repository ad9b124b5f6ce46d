-- A member's replica is one of the view, at a place in range.
-- Assumes nothing.
use Prim.Native.Nat.{ℕ, ◌≤◌, ◌<◌}
use native.Mathlib.Nat.{lt_of_lt_of_le}
use mathlib.Core.Path.{◌≡◌, refl, sym, ap, ◌∙◌}
use mathlib.Core.Bool.{true}
use mathlib.Core.List.{List}
use Rattle.types.specs.Members.{has_member, replica_number}
use Rattle.model.specs.Layout.{members, replica_at}
use Rattle.model.specs.Configuration.{configuration, replica_of}
use Rattle.model.specs.WellFormed.{well_formed}
use Rattle.model.specs.OneList.{shards, Seated}
use Rattle.model.proofs.Members.{number_below}
use Rattle.model.proofs.Places.{replica_place_lem}
use Rattle.model.proofs.StateViews.{view, view_in}
use Rattle.model.proofs.WellFormed.{WellFormed, well_formed_lem}
use Rattle.model.proofs.WellFormedMembers.{size_few}

module _ {Z : ℕ} {w : List ℕ} (f : WellFormed Z w) {z j : ℕ} (hz : z < Z) (hj : j < 8) (h : ℕ) (e : has_member (members w z j) h ≡ true) where
  pub number_small : replica_number (members w z j) h < 4
  number_small = lt_of_lt_of_le (number_below (members w z j) h e) (size_few f hz hj)

  pub member_view : replica_of w (configuration w z j) h ≡ view w z j (replica_number (members w z j) h)
  unfolding replica_of
  member_view = ap (replica_at w) (replica_place_lem w z j h) ∙ sym (view_in w z hj number_small)

pub seated_view : {w : List ℕ} {z j h : ℕ} → well_formed w ≡ true → 2 ≤ shards w → Seated w z j h
    → replica_of w (configuration w z j) h ≡ view w z j (replica_number (members w z j) h)
unfolding shards
seated_view {w} {z} {j} {h} f c s =
    member_view g s.shard (lt_of_lt_of_le s.configured (g.head z s.shard).most) h s.member
  where
    g : WellFormed (shards w) w
    g = well_formed_lem w (shards w) refl c f
