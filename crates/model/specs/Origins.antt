-- Request A3, "Where a seat got its list": word 3 of a replica, its origin, as part of well-formedness. It points at a replica of the configuration before.
use Rattle.std.specs.Prelude.{ℕ, ◌-◌, Bool, cond, not, ◌&&◌, ◌||◌, List, leb, eqb}
use Rattle.types.specs.Members.{has_member}
use Rattle.model.specs.Replicas.{Replica, is_pending}
use Rattle.model.specs.Layout.{members}
use Rattle.model.specs.Inherit.{source}

-- "1 to 16 naming a member": an origin x names host x − 1, of a member set m
unfoldable pub names_member : ℕ → ℕ → Bool
names_member m x = leb 1 x && leb x 16 && has_member m (x - 1)

-- ".. of index − 1 whose seat is not pending": an origin x in configuration j
unfoldable pub names_source : List ℕ → ℕ → ℕ → ℕ → Bool
names_source w z j x = names_member (members w z (j - 1)) x && not (is_pending (source w z j (x - 1)))

-- "it is 0 for pending, unused and index 1 seats, and .. for all others": a member's replica r of configuration j (`is_unused` has the unused ones)
unfoldable pub is_origin_of : List ℕ → ℕ → ℕ → Replica → Bool
is_origin_of w z j r = cond (eqb j 0 || is_pending r) (eqb r.origin 0) (names_source w z j r.origin)
