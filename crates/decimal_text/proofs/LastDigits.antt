-- A number's last digits, as many as it has, are the number; and they are written from the last to the first. Assumes nothing.
use Prim.Native.Nat.{ℕ, zero, suc, ◌+◌, ◌-◌, ◌*◌, ◌/◌, ◌%◌, ◌^◌, ◌<◌, ◌≤◌}
use native.Mathlib.Decide.{dec_lt}
use native.Mathlib.Nat.{div-one, div-div-eq-div-mul, pow-succ'}
use native.Mathlib.Numerals.{add-one}
use native.Mathlib.Omega.{arith}
use mathlib.Core.Path.{◌≡◌, refl, sym, ap, ◌∙◌}
use mathlib.Core.List.{List, [], ◌∷◌, ◌++◌, append_assoc, append-nil}
use lib.ListN.{length, length-append, take, drop, set}
use lib.Seq.{sets, sets-eq, drop_at, length-take-le}
use Rattle.std.proofs.lemmas.Grind.{drop-set_at}
use Rattle.model.specs.Transcript.{digits, decimal}
use Rattle.model.proofs.StoreRuns.{sets-append}
use Rattle.decimal_text.specs.LastDigits.{last_digits}
use Rattle.decimal_text.proofs.DecimalLaws.{digits_small, digits_more}

digits_last : (k n : ℕ) → digits k n ≡ last_digits (length (digits k n)) n
unfolding digits last_digits
digits_last zero n = refl
digits_last (suc k) n =
    elim (dec_lt n 10) [
      | yes l ↦
          let same : n % 10 ≡ n = omega arith in
          rw (digits_small k n l, same)
      | no l ↦
          let one : length (digits k (n / 10) ++ ((48 + n % 10) ∷ [])) ≡ suc (length (digits k (n / 10))) = simp length-append (omega arith) in
          rw (digits_more k n (omega arith), one, ← digits_last k (n / 10))
    ]

pub decimal_last : (n : ℕ) → decimal n ≡ last_digits (length (decimal n)) n
unfolding decimal
decimal_last n = digits_last 20 n

-- what stands before the field's end after one digit more
pub put_next : (i rest : ℕ) (field : List ℕ) → 0 < i → i ≤ length field
    → last_digits (i - 1) (rest / 10) ++ drop (i - 1) (set field (i - 1) (48 + rest % 10)) ≡ last_digits i rest ++ drop i field
unfolding last_digits
put_next zero rest field h l = absurd (omega arith)
put_next (suc k) rest field h l =
    let same : suc k - 1 ≡ k = omega arith in
    let next : k + 1 ≡ suc k = omega arith in
    rw (same, drop-set_at field k k (48 + rest % 10) refl (omega arith), next)
    (sym (append_assoc (last_digits k (rest / 10)) ((48 + rest % 10) ∷ []) (drop (suc k) field)))

pub last_length : (k n : ℕ) → length (last_digits k n) ≡ k
unfolding last_digits
last_length zero n = refl
last_length (suc k) n = rw (length-append (last_digits k (n / 10)), last_length k (n / 10)) (omega arith)

-- the last k + j digits are the last k of what is left without the last j, and these
pub last_split : (k j n : ℕ) → last_digits (k + j) n ≡ last_digits k (n / 10 ^ j) ++ last_digits j n
unfolding last_digits
last_split k zero n =
    let same : k + 0 ≡ k = omega arith in
    rw (same, div-one n, append-nil (last_digits k n))
last_split k (suc j) n =
    let next : k + suc j ≡ suc (k + j) = omega arith in
    rw (next, last_split k j (n / 10), append_assoc (last_digits k (n / 10 / 10 ^ j)) (last_digits j (n / 10)) ((48 + n % 10) ∷ []))
    (ap (λ (r : ℕ). last_digits k r ++ last_digits (suc j) n) (div-div-eq-div-mul n 10 (10 ^ j) ∙ ap (λ (p : ℕ). n / p) (sym (pow-succ' 10 j))))

-- four digits, two and two
pub two_pairs : (n : ℕ) → last_digits 2 (n % 10000 / 100) ++ last_digits 2 (n % 10000 % 100) ≡ last_digits 4 n
unfolding last_digits
two_pairs n =
    let first : n % 10000 / 100 / 10 % 10 ≡ n / 10 / 10 / 10 % 10 = omega arith in
    let second : n % 10000 / 100 % 10 ≡ n / 10 / 10 % 10 = omega arith in
    let third : n % 10000 % 100 / 10 % 10 ≡ n / 10 % 10 = omega arith in
    let fourth : n % 10000 % 100 % 10 ≡ n % 10 = omega arith in
    rw (first, second, third, fourth)

-- ---- stores

-- two digits, made as one word
low_byte : (a b : ℕ) → a < 256 → (a + 256 * b) % 256 ≡ a
low_byte a b h = omega arith

high_byte : (a b : ℕ) → a < 256 → b < 256 → (a + 256 * b) / 256 % 256 ≡ b
high_byte a b h l = omega arith

pub pair_stored : (field : List ℕ) (at n : ℕ) → n < 100
    → set (set field at ((48 + n / 10 + 256 * (48 + n % 10)) % 256)) (at + 1) ((48 + n / 10 + 256 * (48 + n % 10)) / 256 % 256)
    ≡ sets field at (last_digits 2 n)
unfolding last_digits
pair_stored field at n h =
    let tens : n / 10 ≡ n / 10 % 10 = omega arith in
    rw (low_byte (48 + n / 10) (48 + n % 10) (omega arith), high_byte (48 + n / 10) (48 + n % 10) (omega arith) (omega arith), ← tens, add-one at)

-- two pairs of digits are stored one after the other
pairs_stored : (field mid end : List ℕ) (at rest : ℕ) → mid ≡ sets field at (last_digits 2 (rest % 10000 / 100))
    → end ≡ sets mid (at + 2) (last_digits 2 (rest % 10000 % 100)) → end ≡ sets field at (last_digits 4 rest)
pairs_stored field mid end at rest a b =
    let first = last_digits 2 (rest % 10000 / 100) in
    let second = last_digits 2 (rest % 10000 % 100) in
    b
    ∙ ap (λ (m : List ℕ). sets m (at + 2) second) a
    ∙ ap (λ (k : ℕ). sets (sets field at first) (at + k) second) (sym (last_length 2 (rest % 10000 / 100)))
    ∙ sym (sets-append first second field at)
    ∙ ap (sets field at) (two_pairs rest)

-- what stands from a place on after stores there
stored_from : (field xs : List ℕ) (at : ℕ) → at + length xs ≤ length field → drop at (sets field at xs) ≡ xs ++ drop (at + length xs) field
stored_from field xs at h =
    ap (drop at) (sets-eq xs field at h ∙ append_assoc (take at field) xs (drop (at + length xs) field))
    ∙ drop_at (take at field) (xs ++ drop (at + length xs) field) at (length-take-le at field (omega (arith, h)))

-- what stands before the field's end after four digits more
pub put_four : (at rest : ℕ) (field mid end : List ℕ) → mid ≡ sets field at (last_digits 2 (rest % 10000 / 100))
    → end ≡ sets mid (at + 2) (last_digits 2 (rest % 10000 % 100)) → at + 4 ≤ length field
    → last_digits at (rest / 10000) ++ drop at end ≡ last_digits (at + 4) rest ++ drop (at + 4) field
put_four at rest field mid end a b h =
    let four : length (last_digits 4 rest) ≡ 4 = last_length 4 rest in
    let left : drop at (sets field at (last_digits 4 rest)) ≡ last_digits 4 rest ++ drop (at + 4) field =
    stored_from field (last_digits 4 rest) at (omega (arith, four, h)) ∙ ap (λ k. last_digits 4 rest ++ drop (at + k) field) four in
    rw (pairs_stored field mid end at rest a b, left, last_split at 4 rest)
    (sym (append_assoc (last_digits at (rest / 10000)) (last_digits 4 rest) (drop (at + 4) field)))
