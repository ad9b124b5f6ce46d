-- The number at the start of some bytes: its value, its count of bytes and its last byte. Assumes nothing.
use Rattle.model.specs.Numbers.{valued}
use Prim.Native.Nat.{ℕ, zero, suc, ◌+◌, ◌*◌, ◌%◌, ◌^◌, ◌≤◌, ◌<◌}
use native.Mathlib.Nat.{mul-suc}
use native.Mathlib.Decide.{dec_lt}
use native.Mathlib.Omega.{arith}
use mathlib.Core.Path.{◌≡◌, refl}
use mathlib.Core.Bool.{Bool, true, false, cond}
use mathlib.Core.List.{List, [], ◌∷◌, ◌++◌}
use lib.Dec.{ltb}
use lib.Pow.{pow-add, pow_pos}
use lib.ListN.{length}
use borrow.Author.Tests.{lt-ltb, le-ltb}
use Rattle.model.specs.Numbers.{read_groups, with_lower}
use Rattle.model.proofs.Numbers.{read_last, read_more}
use Rattle.quick_reader.specs.Long.{groups_value, groups_count, last_byte}

-- ---- one byte more, as the code joins it to what the bytes after it would be

module _ (b : ℕ) (bs : List ℕ) where
  pub value_more : {v r : ℕ} → v ≡ groups_value bs → r ≡ cond (ltb b 128) b (b % 128 + 128 * v) → r ≡ groups_value (b ∷ bs)
  unfolding groups_value
  value_more e f = rw e at f

  pub count_more : {n r : ℕ} → n ≡ groups_count bs → r ≡ cond (ltb b 128) 1 (suc n) → r ≡ groups_count (b ∷ bs)
  unfolding groups_count
  count_more e f = rw e at f

  pub byte_more : {x r : ℕ} → x ≡ last_byte bs → r ≡ cond (ltb b 128) b x → r ≡ last_byte (b ∷ bs)
  unfolding last_byte
  byte_more e f = rw e at f

-- the last one
pub value_one : (b : ℕ) → b < 128 → b ≡ groups_value (b ∷ [])
unfolding groups_value
value_one b h = rw (lt-ltb b 128 h)

pub count_one : (b : ℕ) → b < 128 → 1 ≡ groups_count (b ∷ [])
unfolding groups_count
count_one b h = rw (lt-ltb b 128 h)

pub byte_one : (b : ℕ) → b < 128 → b ≡ last_byte (b ∷ [])
unfolding last_byte
byte_one b h = rw (lt-ltb b 128 h)

-- ---- the number

-- it is read where its last byte is not 0
pub groups_read :
    (k : ℕ) (is_first : Bool) (bs more : List ℕ) → length bs ≤ k → (last_byte bs ≡ 0 → ⊥)
    → read_groups k is_first (bs ++ more) ≡ valued (groups_value bs) (groups_count bs)
unfolding groups_value groups_count last_byte with_lower
groups_read k is_first [] more l n = absurd (n refl)
groups_read zero is_first (b ∷ bs) more l n = absurd (omega arith)
groups_read (suc k) is_first (b ∷ bs) more l n = go (dec_lt b 128) (groups_read k false bs more (omega arith))
  where
    go :
        Dec (b < 128) → ((last_byte bs ≡ 0 → ⊥) → read_groups k false (bs ++ more) ≡ valued (groups_value bs) (groups_count bs))
        → read_groups (suc k) is_first (b ∷ (bs ++ more)) ≡ valued (groups_value (b ∷ bs)) (groups_count (b ∷ bs))
    go (yes h) ih =
        let last = lt-ltb b 128 h in
        rw last (read_last k is_first b (bs ++ more) h (λ f. omega (arith, rw last at n)))
    go (no h) ih =
        let goes_on_lem = le-ltb b 128 (omega arith) in
        rw (goes_on_lem, read_more k is_first b (bs ++ more) (omega arith), ih (rw goes_on_lem at n))

-- it has no more bytes than there are
pub groups_most : (bs : List ℕ) → groups_count bs ≤ length bs
unfolding groups_count
groups_most [] = omega arith
groups_most (b ∷ bs) = go (ltb b 128) (groups_most bs)
  where
    go : (t : Bool) → groups_count bs ≤ length bs → cond t 1 (suc (groups_count bs)) ≤ suc (length bs)
    go true ih = omega arith
    go false ih = omega arith

-- each byte holds seven bits
pub groups_below : (bs : List ℕ) → groups_value bs < 2 ^ (7 * length bs)
unfolding groups_value
groups_below [] = omega arith
groups_below (b ∷ bs) = go (dec_lt b 128) (groups_below bs)
  where
    more : 2 ^ (7 * suc (length bs)) ≡ 2 ^ (7 * length bs) * 128
    more = rw (mul-suc 7 (length bs), pow-add 2 (7 * length bs) 7)

    go : Dec (b < 128) → groups_value bs < 2 ^ (7 * length bs) → groups_value (b ∷ bs) < 2 ^ (7 * suc (length bs))
    go (yes h) ih = rw (lt-ltb b 128 h) (omega (arith, more, pow_pos (7 * length bs)))
    go (no h) ih = rw (le-ltb b 128 (omega arith)) (omega (arith, more))
