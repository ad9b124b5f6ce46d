-- Where a step finds a host's replica: the first checks of most kinds, 10 and 11, and the replica's place.
use Rattle.std.specs.Prelude.{ℕ, cond, List, Result, Ok, Err}
use Rattle.types.specs.declared.rejection.Rejection.{Rejection}
use Rattle.types.specs.declared.rejection.Rejection.TheVariants.{NotInstalled, NotMember}
use Rattle.types.specs.Members.{has_member}
use Rattle.model.specs.Layout.{is_installed, members}
use Rattle.model.specs.Configuration.{configuration}
use Rattle.types.specs.ReplicaPlace.{replica_place}

unfoldable pub found_of : List ℕ → ℕ → ℕ → ℕ → Result ℕ Rejection
found_of w z j h =
    cond (is_installed w z j) (cond (has_member (members w z j) h) (Ok (replica_place (configuration w z j) h)) (Err NotMember)) (Err NotInstalled)
