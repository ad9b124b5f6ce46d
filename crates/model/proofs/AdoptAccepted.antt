-- Adopt is accepted wherever document 01 allows it, also where the orderer's list is the shorter one. Assumes nothing.
use Prim.Native.Nat.{ℕ}
use mathlib.Core.Path.{◌≡◌}
use mathlib.Core.Bool.{true, false}
use mathlib.Core.List.{List}
use lib.Dec.{eqb}
use Rattle.types.specs.Members.{has_member}
use Rattle.model.specs.Checks.{first_of}
use Rattle.model.specs.Replicas.{is_active, is_pending}
use Rattle.model.specs.Layout.{is_installed, members, orderer}
use Rattle.model.specs.Configuration.{configuration, replica_of}
use Rattle.model.specs.Add.{orderer_replica}
use Rattle.model.specs.Adopt.{adopt_checks}

-- "seat active, orderer's seat not pending, box not the orderer"
pub adopt_accepted : (w : List ℕ) (z j h : ℕ) → is_installed w z j ≡ true → has_member (members w z j) h ≡ true → eqb h (orderer w z j) ≡ false
    → is_active (replica_of w (configuration w z j) h) ≡ true → is_pending (orderer_replica w z j) ≡ false → first_of (adopt_checks w z j h) ≡ 0
unfolding adopt_checks first_of
adopt_accepted w z j h there member other active begun = rw (there, member, other, active, begun)
