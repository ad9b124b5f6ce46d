-- How many digits a number has. Assumes nothing.
use Prim.Native.Nat.{ℕ, zero, suc, ◌+◌, ◌*◌, ◌/◌, ◌^◌, ◌≤◌, ◌<◌}
use native.Mathlib.Nat.{pow-succ'}
use native.Mathlib.Omega.{arith}
use mathlib.Core.Path.{◌≡◌}
use lib.ListN.{length, length-append}
use Rattle.model.specs.Transcript.{decimal}
use Rattle.decimal_text.proofs.DecimalLaws.{decimal_small, decimal_more}

pub one_digit : {n : ℕ} → n < 10 → length (decimal n) ≡ 1
one_digit {n} h = rw (decimal_small n h)

power_least : (k : ℕ) → 1 ≤ 10 ^ k
power_least zero = omega arith
power_least (suc k) = omega (arith, pow-succ' 10 k, power_least k)

-- a number from 10 ^ k on, below ten times as much, has k + 1 digits
pub decimal_length : (k n : ℕ) → 10 ^ k ≤ n → n < 10 * 10 ^ k → n < 2 ^ 64 → length (decimal n) ≡ k + 1
decimal_length zero n h m l = one_digit (omega arith)
decimal_length (suc k) n h m l =
    rw (decimal_more n (omega (arith, pow-succ' 10 k, power_least k)) l, length-append (decimal (n / 10)))
    (omega (arith, decimal_length k (n / 10) (omega (arith, pow-succ' 10 k)) (omega (arith, pow-succ' 10 k)) (omega arith)))
