-- One turn of the loop that writes a number. Assumes nothing.
use Prim.Native.Nat.{ℕ, suc, ◌+◌, ◌*◌, ◌-◌, ◌/◌, ◌%◌, ◌^◌, ◌≤◌, ◌<◌}
use native.Mathlib.Decide.{dec_lt}
use native.Mathlib.Omega.{arith}
use mathlib.Core.Path.{◌≡◌, refl, ◌∙◌}
use mathlib.Core.List.{[], ◌∷◌}
use lib.ListN.{length}
use lib.Pow.{pow-add}
use lib.Seq.{sets}
use Rattle.decimal_text.specs.declared.text.Text.{Text}
use Rattle.decimal_text.specs.Appended.{HasRoom, Appended}
use Rattle.model.specs.Numbers.{groups_of, number_bytes}
use Rattle.model.proofs.Numbers.{groups_last, groups_more}

-- b is the output a with i bytes of the number n appended; the rest of its bits are left
pub record Written (a : Text) (n : ℕ) (b : Text) (rest : ℕ) : Type 0 where
  pub i : ℕ
  pub same_reference : b.out.ghost_name ≡ a.out.ghost_name
  pub here : b.at ≡ a.at + i
  pub most : i ≤ 4
  pub small : rest < 2 ^ (7 * (5 - i))
  pub kept : length b.out.now ≡ length a.out.now
  pub count : i + length (groups_of (5 - i) rest) ≡ length (number_bytes n)
  pub same : sets b.out.now b.at (groups_of (5 - i) rest) ≡ sets a.out.now a.at (number_bytes n)

pub none_written : (a : Text) (n : ℕ) → n < 2 ^ 35 → Written a n a n
unfolding number_bytes
none_written a n h =
    record { i = 0; same_reference = refl; here = omega arith; most = omega arith; small = h; kept = refl; count = omega arith; same = refl }

module _ {a : Text} {n : ℕ} {b : Text} {rest : ℕ} (t : Written a n b rest) where
  left : 5 - t.i ≡ suc (4 - t.i)
  left = omega (arith, t.most)

  -- the last byte
  module _ (h : rest < 128) where
    last : groups_of (5 - t.i) rest ≡ rest ∷ []
    last = rw left (groups_last (4 - t.i) rest h)

    last_count : t.i + 1 ≡ length (number_bytes n)
    last_count = omega (arith, rw last at t.count)

    pub last_room : HasRoom a (number_bytes n) → HasRoom b (rest ∷ [])
    last_room r = record { room = omega (arith, r.room, t.here, t.kept, last_count) }

    pub last_written : {c : Text} → Appended b (rest ∷ []) c → Appended a (number_bytes n) c
    last_written w =
        record {
          same_reference = w.same_reference ∙ t.same_reference;
          position = omega (arith, w.position, t.here, last_count);
          kept = w.kept ∙ t.kept;
          written = w.written ∙ rw last at t.same;
        }

  -- a byte with its top bit
  module _ (h : 128 ≤ rest) where
    more : groups_of (5 - t.i) rest ≡ (128 + rest % 128) ∷ groups_of (4 - t.i) (rest / 128)
    more = rw left (groups_more (4 - t.i) rest h)

    not_last : t.i < 4
    not_last = elim (dec_lt t.i 4) [ yes l ↦ l | no l ↦ go (omega (arith, t.most)) t.small ]
      where
        go : t.i ≡ 4 → rest < 2 ^ (7 * (5 - t.i)) → t.i < 4
        go e s = absurd (omega (arith, h, rw e at s))

    pub more_room : HasRoom a (number_bytes n) → HasRoom b ((128 + rest % 128) ∷ [])
    more_room r = record { room = omega (arith, r.room, t.here, t.kept, rw more at t.count) }

    pub more_written : {c : Text} → Appended b ((128 + rest % 128) ∷ []) c → Written a n c (rest / 128)
    more_written w =
        let four : 4 - t.i ≡ 5 - (t.i + 1) = omega arith in
        let after : suc b.at ≡ b.at + 1 = omega arith in
        let seven : 7 * (5 - t.i) ≡ 7 * (5 - (t.i + 1)) + 7 = omega (arith, not_last) in
        let size : rest < 2 ^ (7 * (5 - (t.i + 1))) * 128 = rw (seven, pow-add 2 (7 * (5 - (t.i + 1))) 7) at t.small in
        record {
          i = t.i + 1;
          same_reference = w.same_reference ∙ t.same_reference;
          here = omega (arith, w.position, t.here);
          most = omega (arith, not_last);
          small = omega arith;
          kept = w.kept ∙ t.kept;
          count = omega (arith, rw (more, four) at t.count);
          same = rw (w.written, w.position, ← after, ← four) (rw more at t.same);
        }
