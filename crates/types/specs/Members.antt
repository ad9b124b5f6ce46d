-- Hosts and member sets, by counts of ones (document 01, "State": "Boxes are 0 to 15. A member set is a sum of 2^box.").
use Rattle.std.specs.Prelude.{ℕ, ◌/◌, ◌%◌, ◌^◌, Bool, ◌&&◌, leb, ltb, eqb}
use Rattle.std.specs.Int.Count.{ones}

-- "Boxes are 0 to 15"
unfoldable pub is_host : ℕ → Bool
is_host h = ltb h 16

-- how many hosts a member set has: its count of ones
abbrev pub size : ℕ → ℕ
size m = ones m

-- the host's bit is set
unfoldable pub has_member : ℕ → ℕ → Bool
has_member m h = eqb (m / 2 ^ h % 2) 1

-- "A box's seat is numbered by how many members are smaller": the count of ones below its bit
unfoldable pub replica_number : ℕ → ℕ → ℕ
replica_number m h = ones (m % 2 ^ h)

-- "It has one to four ones": a proper member set
unfoldable pub is_member_set : ℕ → Bool
is_member_set m = ltb m 65536 && leb 1 (size m) && leb (size m) 4

-- ".. and the orderer is a member": a proper member set with its orderer
unfoldable pub is_configuration : ℕ → ℕ → Bool
is_configuration m o = is_member_set m && is_host o && has_member m o
