-- One number of a log reads back to what was written, and its bytes are the only ones that read to it. Assumes nothing.
use Rattle.std.specs.Prelude.{Ok, Err}
use Rattle.types.specs.declared.rejection.Rejection.TheVariants.{NumberForm}
use Rattle.model.specs.Numbers.{ReadNumber, valued}
use Prim.Native.Nat.{ℕ, zero, suc, ◌+◌, ◌*◌, ◌/◌, ◌%◌, ◌^◌, ◌≤◌, ◌<◌}
use native.Mathlib.Nat.{mul-suc, mul_comm}
use native.Mathlib.Decide.{dec_lt}
use native.Mathlib.Omega.{arith}
use mathlib.Core.Path.{◌≡◌, refl, sym}
use mathlib.Core.Bool.{Bool, true, false, cond, not, ◌&&◌, and-true, and-false, true≢false}
use mathlib.Core.List.{List, [], ◌∷◌, ◌++◌}
use lib.Dec.{ltb, eqb}
use lib.ListN.{length, take}
use lib.Pow.{pow-add, pow_pos}
use borrow.Author.Tests.{ltb-true, ltb-false, lt-ltb, le-ltb, eqb-false, ne_eqb}
use Rattle.model.specs.Numbers.{most_bytes, with_lower, read_groups, read_number, groups_of, number_bytes}
use Rattle.model.specs.Tests.{all_of}
use Rattle.model.proofs.AllOf.{all_head, all_tail}

-- one group more holds 128 times as many values
more_values : (k : ℕ) → 2 ^ (7 * suc k) ≡ 128 * 2 ^ (7 * k)
more_values k = rw (mul-suc 7 k, pow-add 2 (7 * k) 7) (mul_comm (2 ^ (7 * k)) 128)

-- ---- one byte

-- a value below 128 is one byte
pub groups_last : (k n : ℕ) → n < 128 → groups_of (suc k) n ≡ n ∷ []
unfolding groups_of
groups_last k n h = rw (lt-ltb n 128 h)

-- any other has a byte with its top bit before the rest
pub groups_more : (k n : ℕ) → 128 ≤ n → groups_of (suc k) n ≡ (128 + n % 128) ∷ groups_of k (n / 128)
unfolding groups_of
groups_more k n h = rw (le-ltb n 128 h)

-- after another byte a byte 0 is rejected
pub read_zero : (k : ℕ) (bs : List ℕ) → read_groups (suc k) false (0 ∷ bs) ≡ Err NumberForm
unfolding read_groups
read_zero k bs = refl

-- a byte below 128 is the number's last; after another byte it is not 0
pub read_last :
    (k : ℕ) (is_first : Bool) (b : ℕ) (bs : List ℕ) → b < 128 → (is_first ≡ false → 1 ≤ b) → read_groups (suc k) is_first (b ∷ bs) ≡ valued b 1
unfolding read_groups
read_last k true b bs h p = rw (lt-ltb b 128 h, and-false)
read_last k false b bs h p = let q : 1 ≤ b = p refl in rw (lt-ltb b 128 h, ne_eqb b 0 (λ e. omega arith))

-- any other byte has seven bits of a number that goes on
pub read_more :
    (k : ℕ) (is_first : Bool) (b : ℕ) (bs : List ℕ) → 128 ≤ b → read_groups (suc k) is_first (b ∷ bs) ≡ with_lower (b % 128) (read_groups k false bs)
unfolding read_groups
read_more k is_first b bs h = rw (le-ltb b 128 h)

-- ---- what is written is read

-- the last byte reads back
last_reads :
    (k n : ℕ) (is_first : Bool) (rest : List ℕ) → n < 128 → (is_first ≡ false → 1 ≤ n)
    → read_groups (suc k) is_first (groups_of (suc k) n ++ rest) ≡ valued n (length (groups_of (suc k) n))
last_reads k n is_first rest h p = rw (groups_last k n h) (read_last k is_first n rest h p)

-- a byte before what reads back
more_reads :
    (k n : ℕ) (is_first : Bool) (rest : List ℕ) → 128 ≤ n
    → read_groups k false (groups_of k (n / 128) ++ rest) ≡ valued (n / 128) (length (groups_of k (n / 128)))
    → read_groups (suc k) is_first (groups_of (suc k) n ++ rest) ≡ valued n (length (groups_of (suc k) n))
unfolding with_lower
more_reads k n is_first rest h ih =
    let value : (128 + n % 128) % 128 + 128 * (n / 128) ≡ n = omega arith in
    rw (groups_more k n h, read_more k is_first (128 + n % 128) (groups_of k (n / 128) ++ rest) (omega arith), ih, value)

-- a value that k + 1 groups hold, written in at most as many; after another byte it is not 0
pub groups_read :
    (k n : ℕ) (is_first : Bool) (rest : List ℕ) → n < 2 ^ (7 * suc k) → (is_first ≡ false → 1 ≤ n)
    → read_groups (suc k) is_first (groups_of (suc k) n ++ rest) ≡ valued n (length (groups_of (suc k) n))
groups_read zero n is_first rest h p = last_reads zero n is_first rest h p
groups_read (suc k) n is_first rest h p =
    elim (dec_lt n 128) [
      | yes l ↦ last_reads (suc k) n is_first rest l p
      | no l ↦
          more_reads (suc k) n is_first rest (omega arith)
          (groups_read k (n / 128) false rest (omega (arith, more_values (suc k))) (λ f. omega arith))
    ]

-- ---- what is read was written

-- the lists of a log hold bytes
abbrev pub is_byte : ℕ → Bool
is_byte b = ltb b 256

-- what reading v in n bytes tells
pub record Groups (k : ℕ) (is_first : Bool) (bs : List ℕ) (v n : ℕ) : Type 0 where
  pub least : 1 ≤ n
  pub most : n ≤ k
  pub within : n ≤ length bs
  pub below : v < 2 ^ (7 * k)
  -- a number of several bytes ends in a byte other than 0
  pub positive : is_first ≡ false → 1 ≤ v
  pub bytes : all_of is_byte bs ≡ true → take n bs ≡ groups_of k v

-- the same of any result: a rejection tells nothing
abbrev Given : ℕ → Bool → List ℕ → ReadNumber → Type 0
Given k is_first bs (Ok read) = Groups k is_first bs read.value read.bytes
Given k is_first bs (Err r) = Unit {0}

-- a byte that ends a number after another byte is not 0
last_positive : (is_first : Bool) (b : ℕ) → (eqb b 0 && not is_first) ≡ false → is_first ≡ false → 1 ≤ b
last_positive true b e f = absurd (true≢false f)
last_positive false b e f = omega (arith, eqb-false b 0 (rw and-true at e))

-- the lone byte of a number
last_given :
    (k : ℕ) (is_first : Bool) (b : ℕ) (bs : List ℕ) → b < 128 → (t : Bool) → (eqb b 0 && not is_first) ≡ t
    → Given (suc k) is_first (b ∷ bs) (cond t (Err NumberForm) (valued b 1))
last_given k is_first b bs h true e = tt
last_given k is_first b bs h false e =
    record {
      least = omega arith;
      most = omega arith;
      within = omega arith;
      below = omega (arith, more_values k, pow_pos (7 * k));
      positive = last_positive is_first b e;
      bytes = λ f. sym (groups_last k b h);
    }

-- a byte with its top bit before the bytes of v
more_bytes :
    (k b v : ℕ) (bs : List ℕ) → 128 ≤ b → b < 256 → 1 ≤ v → bs ≡ groups_of k v → b ∷ bs ≡ groups_of (suc k) (b % 128 + 128 * v)
more_bytes k b v bs h l p e =
    let top : 128 + (b % 128 + 128 * v) % 128 ≡ b = omega arith in
    let lower : (b % 128 + 128 * v) / 128 ≡ v = omega arith in
    rw (groups_more k (b % 128 + 128 * v) (omega arith), top, lower, e)

-- a byte before a number that was read
more_given :
    (k : ℕ) (is_first : Bool) (b : ℕ) (bs : List ℕ) → 128 ≤ b → (r : ReadNumber) → Given k false bs r
    → Given (suc k) is_first (b ∷ bs) (with_lower (b % 128) r)
unfolding with_lower
more_given k is_first b bs h (Ok read) g =
    let one : 1 ≤ read.value = g.positive refl in
    record {
      least = omega arith;
      most = omega arith;
      within = omega arith;
      below = omega (arith, more_values k);
      positive = λ e. omega arith;
      bytes = λ f. more_bytes k b read.value (take read.bytes bs) h (ltb-true b 256 (all_head is_byte b bs f)) one (g.bytes (all_tail is_byte b bs f));
    }
more_given k is_first b bs h (Err r) g = tt

-- every result, by the number of bytes allowed
given : (k : ℕ) (is_first : Bool) (bs : List ℕ) → Given k is_first bs (read_groups k is_first bs)
unfolding read_groups
given zero is_first bs = tt
given (suc k) is_first [] = tt
given (suc k) is_first (b ∷ bs) = go (ltb b 128) refl (given k false bs)
  where
    go :
        (t : Bool) → ltb b 128 ≡ t → Given k false bs (read_groups k false bs)
        → Given (suc k) is_first (b ∷ bs)
        (cond t (cond (eqb b 0 && not is_first) (Err NumberForm) (valued b 1)) (with_lower (b % 128) (read_groups k false bs)))
    go true f ih = last_given k is_first b bs (ltb-true b 128 f) (eqb b 0 && not is_first) refl
    go false f ih = more_given k is_first b bs (ltb-false b 128 f) (read_groups k false bs) ih

pub groups_given : (k : ℕ) (is_first : Bool) (bs : List ℕ) {v n : ℕ} → read_groups k is_first bs ≡ valued v n → Groups k is_first bs v n
groups_given k is_first bs e = rw e at (given k is_first bs)

-- ---- a number of a log, of at most five bytes

pub number_read : (n : ℕ) (rest : List ℕ) → n < 2 ^ (7 * most_bytes) → read_number (number_bytes n ++ rest) ≡ valued n (length (number_bytes n))
unfolding read_number number_bytes
number_read n rest h = groups_read 4 n true rest h (λ e. absurd (true≢false e))

pub number_given : (bs : List ℕ) {v n : ℕ} → read_number bs ≡ valued v n → Groups most_bytes true bs v n
unfolding read_number
number_given bs e = groups_given most_bytes true bs e

module _ (bs : List ℕ) {v n : ℕ} (e : read_number bs ≡ valued v n) where
  pub number_bytes_least : 1 ≤ n
  number_bytes_least = (number_given bs e).least

  pub number_bytes_most : n ≤ 5
  number_bytes_most = (number_given bs e).most

  pub number_within : n ≤ length bs
  number_within = (number_given bs e).within

  pub number_below : v < 2 ^ 35
  number_below = (number_given bs e).below

  pub number_written : all_of is_byte bs ≡ true → take n bs ≡ number_bytes v
  unfolding number_bytes
  number_written h = (number_given bs e).bytes h
