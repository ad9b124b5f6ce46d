-- `quick_reader::long::LongAdd::at` meets its contract: of three bytes joined, the entry's fifth is no larger. Assumes nothing.
use Prim.Native.Nat.{◌+◌}
use native.Mathlib.Omega.{arith}
use lib.Bits.{bit_or}
use lib.ListN.{get_or}
use Rattle.model.proofs.Joined.{right_most}
use Rattle.quick_reader.proofs.long.LongAdd.at.Goals as goal

pub last_byte-requires : goal.last_byte-requires
last_byte-requires c =
    let a = c.args in
    let fifth = right_most (bit_or (get_or a.log.now (a.at + 1) 0) (get_or a.log.now (a.at + 2) 0)) (get_or a.log.now (a.at + 7) 0) in
    (grind arith, grind arith)
