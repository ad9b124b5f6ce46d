-- One turn of the loop that reads a number of several bytes. Assumes nothing.
use Rattle.std.specs.Prelude.{Ok, Err}
use Rattle.types.specs.declared.rejection.Rejection.TheVariants.{LogEnds, NumberForm}
use Rattle.model.specs.Numbers.{ReadNumber, valued}
use Prim.Native.Nat.{ℕ, zero, suc, ◌+◌, ◌*◌, ◌-◌, ◌%◌, ◌^◌, ◌≤◌, ◌<◌}
use native.Mathlib.Nat.{mul-add, mul_assoc, mul-le-mul_left}
use native.Mathlib.Omega.{arith}
use mathlib.Core.Path.{◌≡◌, refl, sym, ◌∙◌}
use mathlib.Core.Bool.{Bool, true, false, cond, and-true}
use mathlib.Core.List.{List, ◌∷◌}
use lib.Dec.{eqb}
use lib.ListN.{length, drop, get_or, drop_of_length-le}
use lib.Pow.{pow-add, pow_mono}
use lib.Seq.{drop-cons}
use borrow.Author.Tests.{lt-ltb}
use Rattle.model.specs.Numbers.{read_groups, with_lower}
use Rattle.model.proofs.Numbers.{read_more}

-- a number after n bytes that have the value v; a further bit weighs w
unfoldable pub shifted : ℕ → ℕ → ℕ → ReadNumber → ReadNumber
shifted w v n (Ok read) = valued (v + w * read.value) (n + read.bytes)
shifted w v n (Err r) = Err r

-- a further byte moves its seven bits into the value
shifted_more : (w v n x : ℕ) (r : ReadNumber) → shifted w v n (with_lower x r) ≡ shifted (w * 128) (v + w * x) (n + 1) r
unfolding with_lower shifted
shifted_more w v n x (Ok read) =
    let value : v + w * (x + 128 * read.value) ≡ v + w * x + w * 128 * read.value = omega (arith, mul-add w x (128 * read.value), mul_assoc w 128 read.value) in
    let count : n + suc read.bytes ≡ n + 1 + read.bytes = omega arith in
    rw (value, count)
shifted_more w v n x (Err r) = refl

shifted_first : (low : ℕ) (r : ReadNumber) → with_lower low r ≡ shifted 128 low 1 r
unfolding with_lower shifted
shifted_first low (Ok read) = let count : suc read.bytes ≡ 1 + read.bytes = omega arith in rw count
shifted_first low (Err r) = refl

-- the last byte of a number of several
last_byte_lem : (w v n k b : ℕ) (bs : List ℕ) → b < 128
    → shifted w v n (read_groups (suc k) false (b ∷ bs)) ≡ cond (eqb b 0) (Err NumberForm) (valued (v + w * (b % 128)) (n + 1))
unfolding read_groups shifted
last_byte_lem w v n k b bs h =
    let bits : b % 128 ≡ b = omega arith in
    rw (lt-ltb b 128 h, and-true, bits) (go (eqb b 0))
  where
    go : (t : Bool) → shifted w v n (cond t (Err NumberForm) (valued b 1)) ≡ cond t (Err NumberForm) (valued (v + w * b) (n + 1))
    go true = refl
    go false = refl

-- the bytes read so far: n of them, with the value v
pub record Turn (log : List ℕ) (low v w n : ℕ) : Type 0 where
  pub least : 1 ≤ n
  pub most : n ≤ 5
  pub weight : w ≡ 2 ^ (7 * n)
  pub below : v < w
  pub same :
      with_lower low (read_groups 4 false (drop 1 log)) ≡ shifted w v n (read_groups (5 - n) false (drop n log))

module _ (log : List ℕ) (low : ℕ) where
  pub turn_first : low < 128 → Turn log low low 128 1
  turn_first h =
      record { least = omega arith; most = omega arith; weight = refl; below = h; same = shifted_first low _ }

  module _ {v w n : ℕ} (t : Turn log low v w n) where
    -- no byte is left
    pub turn_ended : n < 5 → length log ≤ n → Err LogEnds ≡ with_lower low (read_groups 4 false (drop 1 log))
    unfolding read_groups shifted
    turn_ended h e =
        let left : 5 - n ≡ suc (4 - n) = omega arith in
        rw (t.same, left, drop_of_length-le log {i = n} e)

    -- five bytes were read
    pub turn_full : 5 ≤ n → Err NumberForm ≡ with_lower low (read_groups 4 false (drop 1 log))
    unfolding read_groups shifted
    turn_full h = let none : 5 - n ≡ zero = omega arith in rw (t.same, none)

    module _ (h : n < 5) where
      turn_small : w ≤ 2 ^ 28
      turn_small = rw t.weight (pow_mono {j = 28} (omega arith))

      -- a byte of seven bits more fits
      pub turn_fits : (x : ℕ) → x < 128 → (w * x < 2 ^ 64) × (v + w * x < 2 ^ 64)
      turn_fits x l =
          let s = turn_small in
          let p : w * x ≤ w * 128 = mul-le-mul_left w (omega arith) in
          (omega arith, omega (arith, t.below))

      pub turn_weight_fits : w * 128 < 2 ^ 64
      turn_weight_fits = omega (arith, turn_small)

      module _ (i : n < length log) where
        here : (b : ℕ) → get_or log n 0 ≡ b
            → with_lower low (read_groups 4 false (drop 1 log))
            ≡ shifted w v n (read_groups (suc (4 - n)) false (b ∷ drop (suc n) log))
        here b e = let left : 5 - n ≡ suc (4 - n) = omega arith in rw (t.same, left, drop-cons log n 0 i, e)

        pub turn_last : (b : ℕ) → get_or log n 0 ≡ b → b < 128
            → cond (eqb b 0) (Err NumberForm) (valued (v + w * (b % 128)) (n + 1))
            ≡ with_lower low (read_groups 4 false (drop 1 log))
        turn_last b e l = sym (here b e ∙ last_byte_lem w v n (4 - n) b _ l)

        pub turn_more : (b : ℕ) → get_or log n 0 ≡ b → 128 ≤ b → Turn log low (v + w * (b % 128)) (w * 128) (n + 1)
        turn_more b e l =
            let seven : 7 * (n + 1) ≡ 7 * n + 7 = omega arith in
            let bits : w * (b % 128) ≤ w * 127 = mul-le-mul_left w (omega arith) in
            let left : 4 - n ≡ 5 - (n + 1) = omega arith in
            let next : suc n ≡ n + 1 = omega arith in
            record {
              least = omega arith;
              most = omega arith;
              weight = rw (t.weight, seven, pow-add 2 (7 * n) 7);
              below = omega (arith, t.below, bits);
              same = rw (here b e, read_more (4 - n) false b (drop (suc n) log) l, shifted_more w v n (b % 128), left, next);
            }
