-- Laws of member sets: members are numbered below the set's size, each by another number, and each such number is a member's.
use Prim.Native.Nat.{ℕ, zero, suc, ◌+◌, ◌-◌, ◌/◌, ◌%◌, ◌^◌, ◌≤◌, ◌<◌}
use native.Mathlib.Nat.{mod-lt, lt_of_lt_of_le, zero-add}
use native.Mathlib.Omega.{arith}
use native.Mathlib.Decide.{dec_lt}
use mathlib.Core.Path.{◌≡◌, refl, sym, ap, ◌∙◌}
use mathlib.Core.Bool.{true}
use lib.Dec.{eqb}
use lib.Pow.{pow_pos, pow_mono, shr_lt, split, mod-pow-add, field, mod-mod-pow}
use lib.Count.{ones, ones_step, ones_cat}
use borrow.Author.Tests.{eqb-true, eq-eqb}
use Rattle.types.specs.Members.{has_member, replica_number}

-- the ones of a number, apart at a place
cut : (m h : ℕ) → ones m ≡ ones (m / 2 ^ h) + ones (m % 2 ^ h)
cut m h = ap ones (sym (split m h)) ∙ ones_cat h (m / 2 ^ h) (m % 2 ^ h) (mod-lt m (pow_pos h))

pub number_below : (m h : ℕ) → has_member m h ≡ true → replica_number m h < ones m
unfolding has_member replica_number
number_below m h e = omega (arith, cut m h, ones_step (m / 2 ^ h), eqb-true)

-- the digits below h hold the digits below a smaller g, and the digit at g
module _ (m g h : ℕ) (l : g < h) where
  apart : h ≡ (h - g - 1 + 1) + g
  apart = omega arith

  cut_member : has_member (m % 2 ^ h) g ≡ has_member m g
  unfolding has_member
  cut_member =
      ap (λ (x : ℕ). eqb (m % 2 ^ x / 2 ^ g % 2) 1) apart ∙ ap (λ (x : ℕ). eqb (x % 2) 1) (field m (h - g - 1 + 1) g)
      ∙ ap (λ (x : ℕ). eqb x 1) (mod-mod-pow (m / 2 ^ g) (h - g - 1) 1)

  cut_number : replica_number (m % 2 ^ h) g ≡ replica_number m g
  unfolding replica_number
  cut_number = ap (λ (x : ℕ). ones (m % 2 ^ x % 2 ^ g)) apart ∙ ap ones (mod-mod-pow m (h - g - 1 + 1) g)

  -- a smaller member has a smaller number
  number_less : has_member m g ≡ true → replica_number m g < replica_number m h
  unfolding replica_number
  number_less e = omega (arith, number_below (m % 2 ^ h) g (cut_member ∙ e), cut_number)

pub number_same : (m g h : ℕ) → has_member m g ≡ true → has_member m h ≡ true → replica_number m g ≡ replica_number m h → g ≡ h
number_same m g h eg eh e = go (dec_lt g h) (dec_lt h g)
  where
    go : Dec (g < h) → Dec (h < g) → g ≡ h
    go (yes l) d = absurd (omega (arith, number_less m g h l eg))
    go (no l) (yes k) = absurd (omega (arith, number_less m h g k eh))
    go (no l) (no k) = omega arith

-- ---- which members there are

-- one digit by itself
ones_digit : (d : ℕ) → d < 2 → ones d ≡ d
unfolding ones
ones_digit d h =
    let half : d / 2 ≡ 0 = omega arith in
    let none : ones 0 ≡ 0 = refl in
    omega (arith, ones_step d, ap ones half, none)

-- a member is counted, another host is not
number_next : (m h : ℕ) → replica_number m (suc h) ≡ m / 2 ^ h % 2 + replica_number m h
unfolding replica_number
number_next m h =
    let digit : m / 2 ^ h % 2 < 2 = omega arith in
    let next : suc h ≡ 1 + h = omega arith in
    ap (λ (x : ℕ). ones (m % 2 ^ x)) next
    ∙ ap ones (mod-pow-add m 1 h)
    ∙ ones_cat h (m / 2 ^ h % 2) (m % 2 ^ h) (mod-lt m (pow_pos h))
    ∙ ap (λ (x : ℕ). x + ones (m % 2 ^ h)) (ones_digit (m / 2 ^ h % 2) digit)

-- the member below n whose number is k
pub record MemberAt (m k n : ℕ) : Type 0 where
  pub host : ℕ
  pub small : host < n
  pub member : has_member m host ≡ true
  pub number : replica_number m host ≡ k

member_below : (m k n : ℕ) → k < replica_number m n → MemberAt m k n
unfolding replica_number has_member ones
member_below m k zero h =
    let none : m % 1 ≡ 0 = omega arith in
    absurd (omega (arith, h, ap ones none))
member_below m k (suc n) h = go (dec_lt k (replica_number m n)) (member_below m k n)
  where
    go : Dec (k < replica_number m n) → (k < replica_number m n → MemberAt m k n) → MemberAt m k (suc n)
    go (yes l) rest =
        let r = rest l in
        record { host = r.host; small = omega (arith, r.small); member = r.member; number = r.number }
    go (no l) rest =
        let digit : m / 2 ^ n % 2 ≡ 1 = omega (arith, h, l, number_next m n) in
        record { host = n; small = omega arith; member = eq-eqb _ 1 digit; number = omega (arith, h, l, number_next m n) }

module _ (m : ℕ) (few : m < 65536) where
  -- every number below the size is a member's
  pub member_at : (k : ℕ) → k < ones m → MemberAt m k 16
  unfolding replica_number
  member_at k h =
      let whole : m % 65536 ≡ m = omega arith in
      member_below m k 16 (rw whole h)

  -- a member is a host
  pub member_host : (h : ℕ) → has_member m h ≡ true → h < 16
  unfolding has_member
  member_host h e = go (dec_lt h 16)
    where
      go : Dec (h < 16) → h < 16
      go (yes l) = l
      go (no l) =
          let wide : 2 ^ 16 ≤ 2 ^ h = pow_mono {i = 16} (omega arith) in
          let none : m / 2 ^ h < 1 = shr_lt 0 h (rw (zero-add h) (lt_of_lt_of_le few wide)) in
          absurd (omega (arith, eqb-true (m / 2 ^ h % 2) 1 e, none))
