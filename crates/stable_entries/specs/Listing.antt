-- A list of entries that is copied to an output: what the copying functions answer and leave.
use Rattle.types.specs.Rejections.{Written, answered}
use Rattle.std.specs.Prelude.{ℕ, cond, List, ◌++◌, leb, eqb, length, drop}
use Rattle.model.specs.Checks.{Check, ◌or_else◌}

-- the last check, rejection 8: the output has room for the list
unfoldable pub has_room : List ℕ → List ℕ → Check
has_room l out = leb (length l) (length out) or_else 8

-- how many entries the list has, or the rejection
unfoldable pub listing_of : ℕ → List ℕ → Written
listing_of rejection l = answered rejection (length l)

-- the entries, and what lies past them: "Any lent output keeps what lies past the part written"; a rejection leaves the output untouched
unfoldable pub after_listing_of : ℕ → List ℕ → List ℕ → List ℕ
after_listing_of rejection l out = cond (eqb rejection 0) (l ++ drop (length l) out) out
