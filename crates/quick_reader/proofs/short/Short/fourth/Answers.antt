-- `quick_reader::short::Short::fourth` meets its contract: a byte times 0 or 1. Assumes nothing.
use Prim.Native.Nat.{◌≤◌}
use native.Mathlib.Nat.{mul-le-mul_left}
use native.Mathlib.Omega.{arith}
use Rattle.types.proofs.KindRules.{fourth_most}
use Rattle.quick_reader.proofs.short.Short.fourth.Goals as goal

pub overflow_mul-result : goal.overflow_mul-result
overflow_mul-result c =
    let most : c.fourths.result ≤ 1 = rw c.fourths.ensures (fourth_most _) in
    omega (arith, c.from.type_inv, mul-le-mul_left c.from.result most)
