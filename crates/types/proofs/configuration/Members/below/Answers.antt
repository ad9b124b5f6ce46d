-- `types::configuration::Members::below` meets its contract.
use Prim.Native.Nat.{ℕ, ◌*◌, ◌%◌, ◌^◌, ◌<◌}
use native.Mathlib.Nat.{one-mul, mod-eq_of_lt, lt_of_lt_of_le}
use mathlib.Core.Path.{◌≡◌}
use lib.Dec.{lit≤}
use lib.Pow.{pow-lt}
use Rattle.types.specs.Members.{replica_number}
use Rattle.types.proofs.configuration.Members.below.Goals as goal

-- a host's bit is a power of two below 2 ^ 16
bit : (h : ℕ) → h < 16 → 1 * 2 ^ h % 2 ^ 64 ≡ 2 ^ h
bit h l = rw one-mul (mod-eq_of_lt (lt_of_lt_of_le (pow-lt l) (lit≤ tt)))

pub returns : goal.returns
unfolding replica_number
returns c = rw (bit c.args.host c.requires)
