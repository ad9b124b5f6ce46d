-- Proper member sets. Assumes nothing.
use Rattle.std.proofs.Common.{◌≡◌, ℕ, true, leb, arith, le-leb}
use lib.Count.{ones}
use Rattle.types.specs.Members.{has_member}
use Rattle.model.proofs.Members.{number_below}

-- a set that has a host has a member
pub counted : (m o : ℕ) → has_member m o ≡ true → leb 1 (ones m) ≡ true
counted m o e = le-leb 1 (ones m) (omega (arith, number_below m o e))
