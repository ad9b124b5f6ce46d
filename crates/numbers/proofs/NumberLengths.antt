-- How many bytes a number takes. Assumes nothing.
use Prim.Native.Nat.{ℕ, zero, suc, ◌+◌, ◌/◌, ◌%◌, ◌≤◌, ◌<◌}
use native.Mathlib.Omega.{arith}
use mathlib.Core.Path.{◌≡◌, refl}
use mathlib.Core.Bool.{Bool, true, false, cond}
use mathlib.Core.List.{List, [], ◌∷◌}
use lib.Dec.{ltb}
use lib.ListN.{length}
use Rattle.model.specs.Numbers.{groups_of, number_bytes}
use Rattle.model.proofs.Numbers.{groups_last, groups_more}

-- one byte, and what follows a byte with its top bit
either_most : (k : ℕ) (t : Bool) (b c : ℕ) (bs : List ℕ) → length bs ≤ k → length (cond t (b ∷ []) (c ∷ bs)) ≤ suc k
either_most k true b c bs h = omega arith
either_most k false b c bs h = omega arith

either_one : (t : Bool) (b c : ℕ) → length (cond t (b ∷ []) (c ∷ [])) ≡ 1
either_one true b c = refl
either_one false b c = refl

groups_most : (k n : ℕ) → length (groups_of k n) ≤ k
unfolding groups_of
groups_most zero n = omega arith
groups_most (suc k) n = either_most k (ltb n 128) n (128 + n % 128) (groups_of k (n / 128)) (groups_most k (n / 128))

last_group : (n : ℕ) → length (groups_of 1 n) ≡ 1
unfolding groups_of
last_group n = either_one (ltb n 128) n (128 + n % 128)

-- "at most five bytes"
pub length_most : (n : ℕ) → length (number_bytes n) ≤ 5
unfolding number_bytes
length_most n = groups_most 5 n

pub length_one : (n : ℕ) → n < 128 → length (number_bytes n) ≡ 1
unfolding number_bytes
length_one n h = rw (groups_last 4 n h)

pub length_two : (n : ℕ) → 128 ≤ n → n < 16384 → length (number_bytes n) ≡ 2
unfolding number_bytes
length_two n g h = rw (groups_more 4 n g, groups_last 3 (n / 128) (omega arith))

pub length_three : (n : ℕ) → 16384 ≤ n → n < 2097152 → length (number_bytes n) ≡ 3
unfolding number_bytes
length_three n g h =
    rw (groups_more 4 n (omega arith), groups_more 3 (n / 128) (omega arith), groups_last 2 (n / 128 / 128) (omega arith))

pub length-four : (n : ℕ) → 2097152 ≤ n → n < 268435456 → length (number_bytes n) ≡ 4
unfolding number_bytes
length-four n g h =
    rw (
      groups_more 4 n (omega arith),
      groups_more 3 (n / 128) (omega arith),
      groups_more 2 (n / 128 / 128) (omega arith),
      groups_last 1 (n / 128 / 128 / 128) (omega arith),
    )

pub length-five : (n : ℕ) → 268435456 ≤ n → length (number_bytes n) ≡ 5
unfolding number_bytes
length-five n g =
    rw (
      groups_more 4 n (omega arith),
      groups_more 3 (n / 128) (omega arith),
      groups_more 2 (n / 128 / 128) (omega arith),
      groups_more 1 (n / 128 / 128 / 128) (omega arith),
      last_group (n / 128 / 128 / 128 / 128),
    )
