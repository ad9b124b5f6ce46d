-- Numbers in decimal: the last digit comes after the digits of the rest, and a number below 10 ^ k has at most k digits. Assumes nothing.
use Prim.Native.Nat.{ℕ, zero, suc, ◌+◌, ◌/◌, ◌%◌, ◌^◌, ◌≤◌, ◌<◌}
use native.Mathlib.Nat.{pow-suc}
use native.Mathlib.Decide.{dec_lt}
use native.Mathlib.Omega.{arith}
use mathlib.Core.Path.{◌≡◌}
use mathlib.Core.List.{[], ◌∷◌, ◌++◌}
use lib.ListN.{length, length-append}
use borrow.Author.Tests.{lt-ltb, le-ltb}
use Rattle.model.specs.Transcript.{digits, decimal}

-- ---- one digit

pub digits_small : (k n : ℕ) → n < 10 → digits (suc k) n ≡ (48 + n) ∷ []
unfolding digits
digits_small k n h = rw (lt-ltb n 10 h)

pub digits_more : (k n : ℕ) → 10 ≤ n → digits (suc k) n ≡ digits k (n / 10) ++ ((48 + n % 10) ∷ [])
unfolding digits
digits_more k n h = rw (le-ltb n 10 h)

pub decimal_small : (n : ℕ) → n < 10 → decimal n ≡ (48 + n) ∷ []
unfolding decimal
decimal_small n h = digits_small 19 n h

-- ---- one digit more

-- room for one more digit changes nothing where the digits fit
digits_room : (k n : ℕ) → n < 10 ^ suc k → digits (suc k) n ≡ digits (suc (suc k)) n
digits_room zero n h = rw (digits_small zero n h, digits_small 1 n h)
digits_room (suc k) n h =
    elim (dec_lt n 10) [
      | yes l ↦ rw (digits_small (suc k) n l, digits_small (suc (suc k)) n l)
      | no l ↦
          let tens : 10 ≤ n = omega arith in
          rw (
            digits_more (suc k) n tens,
            digits_more (suc (suc k)) n tens,
            digits_room k (n / 10) (omega (arith, pow-suc 10 (suc k))),
          )
    ]

-- 64 bits: 20 digits serve
pub decimal_more : (n : ℕ) → 10 ≤ n → n < 2 ^ 64 → decimal n ≡ decimal (n / 10) ++ ((48 + n % 10) ∷ [])
unfolding decimal
decimal_more n h l = rw (digits_more 19 n h, digits_room 18 (n / 10) (omega arith))

-- ---- how many digits

digits_width : (m k n : ℕ) → n < 10 ^ suc k → length (digits m n) ≤ suc k
unfolding digits
digits_width zero k n h = omega arith
digits_width (suc m) k n h = go k h (dec_lt n 10) (λ j. digits_width m j (n / 10))
  where
    go :
        (k : ℕ) → n < 10 ^ suc k → Dec (n < 10) → ((j : ℕ) → n / 10 < 10 ^ suc j → length (digits m (n / 10)) ≤ suc j)
        → length (digits (suc m) n) ≤ suc k
    go k h (yes l) ih = rw (digits_small m n l) (omega arith)
    go zero h (no l) ih = absurd (omega arith)
    go (suc k) h (no l) ih =
        let rest : length (digits m (n / 10)) ≤ suc k = ih k (omega (arith, pow-suc 10 (suc k))) in
        rw (digits_more m n (omega arith), length-append (digits m (n / 10)) ((48 + n % 10) ∷ [])) (omega arith)

-- a number below 10 ^ (k + 1) has at most k + 1 digits
pub decimal_width : (k n : ℕ) → n < 10 ^ suc k → length (decimal n) ≤ suc k
unfolding decimal
decimal_width k n h = digits_width 20 k n h

-- no number has more than 20
digits_most : (k n : ℕ) → length (digits k n) ≤ k
unfolding digits
digits_most zero n = omega arith
digits_most (suc k) n =
    elim (dec_lt n 10) [
      | yes l ↦ rw (digits_small k n l) (omega arith)
      | no l ↦
          rw (digits_more k n (omega arith), length-append (digits k (n / 10)) ((48 + n % 10) ∷ []))
          (omega (arith, digits_most k (n / 10)))
    ]

pub decimal_most : (n : ℕ) → length (decimal n) ≤ 20
unfolding decimal
decimal_most n = digits_most 20 n

pub decimal_least : (n : ℕ) → 1 ≤ length (decimal n)
unfolding decimal
decimal_least n =
    elim (dec_lt n 10) [
      | yes l ↦ rw (digits_small 19 n l) (omega arith)
      | no l ↦ rw (digits_more 19 n (omega arith), length-append (digits 19 (n / 10)) ((48 + n % 10) ∷ [])) (omega arith)
    ]
