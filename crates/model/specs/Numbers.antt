-- Numbers in a log (document 01, "Log and run"): "groups of seven bits, lowest first, top bit on all bytes but the last, at most five bytes".
use Rattle.std.specs.Prelude.{ℕ, zero, suc, ◌+◌, ◌*◌, ◌/◌, ◌%◌, Bool, true, false, cond, not, ◌&&◌, List, [], ◌∷◌, ◌++◌, ltb, eqb, drop, Result, Ok, Err}
use Rattle.types.specs.declared.Number.{Number}
use Rattle.types.specs.declared.rejection.Rejection.{Rejection}
use Rattle.types.specs.declared.rejection.Rejection.TheVariants.{LogEnds, NumberForm}

-- "at most five bytes"
abbrev pub most_bytes : ℕ
most_bytes = 5

-- what reading a number gives: its value and its count of bytes, or the rejection
abbrev pub ReadNumber : Type 0
ReadNumber = Result Number Rejection

abbrev pub valued : ℕ → ℕ → ReadNumber
valued v n = Ok (record { value = v; bytes = n })

-- one more byte, of the lowest seven bits x, before a number that was read
unfoldable pub with_lower : ℕ → ReadNumber → ReadNumber
with_lower x (Ok read) = valued (x + 128 * read.value) (suc read.bytes)
with_lower x (Err r) = Err r

-- the number at the start of the bytes, with k bytes allowed. "5. Log bytes end inside a step. 6. A number's fifth byte still has its top bit, or a
-- number of several bytes ends in byte 0." is_first: no byte of this number was read yet
unfoldable pub read_groups : ℕ → Bool → List ℕ → ReadNumber
read_groups zero is_first bs = Err NumberForm
read_groups (suc k) is_first [] = Err LogEnds
read_groups (suc k) is_first (b ∷ bs) =
    cond (ltb b 128) (cond (eqb b 0 && not is_first) (Err NumberForm) (valued b 1)) (with_lower (b % 128) (read_groups k false bs))

unfoldable pub read_number : List ℕ → ReadNumber
read_number bs = read_groups most_bytes true bs

-- the bytes of a number below 2 ^ (7 * k), k above 0
unfoldable pub groups_of : ℕ → ℕ → List ℕ
groups_of zero n = []
groups_of (suc k) n = cond (ltb n 128) (n ∷ []) ((128 + n % 128) ∷ groups_of k (n / 128))

unfoldable pub number_bytes : ℕ → List ℕ
number_bytes n = groups_of most_bytes n

-- the bytes of several numbers, end to end
unfoldable pub numbers_bytes : List ℕ → List ℕ
numbers_bytes [] = []
numbers_bytes (n ∷ ns) = number_bytes n ++ numbers_bytes ns

-- several numbers that were read, with their count of bytes, or the rejection
pub data Numbers : Type 0 where
  values : List ℕ → ℕ → Numbers
  rejected : Rejection → Numbers

unfoldable pub with_first : ℕ → ℕ → Numbers → Numbers
with_first v n (values vs m) = values (v ∷ vs) (n + m)
with_first v n (rejected r) = rejected r

-- the numbers after a first one, or its rejection
unfoldable pub after_first : ReadNumber → (ℕ → Numbers) → Numbers
after_first (Ok read) more = with_first read.value read.bytes (more read.bytes)
after_first (Err r) more = rejected r

-- the count numbers at the start of the bytes, "5 and 6 byte by byte"
unfoldable pub read_numbers : ℕ → List ℕ → Numbers
read_numbers zero bs = values [] 0
read_numbers (suc count) bs = after_first (read_number bs) (λ n. read_numbers count (drop n bs))
