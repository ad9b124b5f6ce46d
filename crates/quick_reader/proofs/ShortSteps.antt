-- A step at a position whose numbers have one byte each. Assumes nothing.
use Rattle.model.specs.Numbers.{valued}
use Rattle.model.specs.Log.{one_step}
use Prim.Native.Nat.{ℕ, zero, suc, ◌+◌, ◌*◌, ◌≤◌, ◌<◌}
use native.Mathlib.Omega.{arith}
use mathlib.Core.Path.{◌≡◌, refl, sym}
use mathlib.Core.Bool.{Bool, true, ◌&&◌}
use mathlib.Core.List.{List, [], ◌∷◌}
use lib.Bits.{bit_or}
use lib.Dec.{leb, ltb}
use lib.ListN.{length, drop, get_or}
use borrow.Author.Tests.{leb-true, ltb-true}
use Rattle.types.specs.Kinds.{kind_of, is_kept, is_unknown}
use Rattle.model.specs.Log.{step_of, read_step, read_at}
use Rattle.model.specs.Numbers.{read_number, read_numbers}
use Rattle.types.specs.Rules.{Known, fourth_numbers}
use Rattle.model.specs.Tests.{all_below}
use Rattle.model.proofs.Joined.{or_below}
use Rattle.types.proofs.KindRules.{fourth_most}
use Rattle.model.proofs.Tests.{Passing, all_pass, all_below_lem}
use Rattle.log_reader.specs.ReadInParts.{with_prior}
use Rattle.quick_reader.specs.Short.{is_short_at, short_fourth, short_length, short_step}
use Rattle.numbers.proofs.FirstByte.{read_one, read_one_after}
use Rattle.log_reader.proofs.StepParts.{step_more, step_done, three_numbers, step_at}

-- the kinds from 1 to 7 are known
pub kind_told : (k : ℕ) → 1 ≤ k → k ≤ 7 → Known (kind_of k)
unfolding kind_of is_kept is_unknown
kind_told zero l m = absurd (omega arith)
kind_told (suc zero) l m = record { not_kept = refl; known = refl }
kind_told (suc (suc zero)) l m = record { not_kept = refl; known = refl }
kind_told (suc (suc (suc zero))) l m = record { not_kept = refl; known = refl }
kind_told (suc (suc (suc (suc zero)))) l m = record { not_kept = refl; known = refl }
kind_told (suc (suc (suc (suc (suc zero))))) l m = record { not_kept = refl; known = refl }
kind_told (suc (suc (suc (suc (suc (suc zero)))))) l m = record { not_kept = refl; known = refl }
kind_told (suc (suc (suc (suc (suc (suc (suc zero))))))) l m = record { not_kept = refl; known = refl }
kind_told (suc (suc (suc (suc (suc (suc (suc (suc k)))))))) l m = absurd (omega arith)

module _ (l : List ℕ) (at : ℕ) where
  -- the numbers after the kind have one byte each
  abbrev is_one : ℕ → Bool
  is_one i = ltb (get_or l (at + suc i) 0) 128

  pub short_length_most : short_length l at ≤ 5
  unfolding short_length
  short_length_most = omega (arith, fourth_most (get_or l at 0))

  -- the four bytes joined tell whether each is a number
  abbrev pub joined_bytes : ℕ
  joined_bytes = bit_or (bit_or (bit_or (get_or l (at + 1) 0) (get_or l (at + 2) 0)) (get_or l (at + 3) 0)) (get_or l (at + 4) 0)

  pub short_tests :
      is_short_at l at ≡ (leb (at + 8) (length l) && leb 1 (get_or l at 0) && leb (get_or l at 0) 7 && ltb joined_bytes 128)
  unfolding is_short_at all_below
  short_tests =
      let a : ℕ = get_or l (at + 1) 0 in
      let b : ℕ = get_or l (at + 2) 0 in
      let c : ℕ = get_or l (at + 3) 0 in
      rw (or_below 7 (bit_or (bit_or a b) c) (get_or l (at + 4) 0), or_below 7 (bit_or a b) c, or_below 7 a b)

  -- the tests after the first
  abbrev tests : List Bool
  tests = leb 1 (get_or l at 0) ∷ leb (get_or l at 0) 7 ∷ all_below 4 is_one ∷ []

  module _ (h : is_short_at l at ≡ true) where
    passed : Passing (leb (at + 8) (length l) ∷ tests)
    unfolding is_short_at
    passed = all_pass (leb (at + 8) (length l)) tests h

    pub short_fits : at + 8 ≤ length l
    short_fits = leb-true _ _ passed.0

    pub short_kind_least : 1 ≤ get_or l at 0
    short_kind_least = leb-true _ _ passed.1.0

    pub short_kind_most : get_or l at 0 ≤ 7
    short_kind_most = leb-true _ _ passed.1.1.0

    pub short_kind : Known (kind_of (get_or l at 0))
    short_kind = kind_told (get_or l at 0) short_kind_least short_kind_most

    one : (i : ℕ) → i < 4 → read_number (drop (suc i) (drop at l)) ≡ valued (get_or l (at + suc i) 0) 1
    one i m =
        read_one_after l at (suc i) (omega (arith, short_fits)) (ltb-true _ _ (all_below_lem 4 is_one passed.1.1.1.0 i m))

    -- the fourth number, or 0
    rest :
        (k f a b c : ℕ) → f ≤ 1
        → one_step (step_of k (a ∷ b ∷ c ∷ get_or l (at + 4) 0 * f ∷ [])) (4 + f)
        ≡ with_prior k (a ∷ b ∷ c ∷ []) 4 (read_numbers f (drop 4 (drop at l)))
    unfolding step_of
    rest k zero a b c m =
        let z : get_or l (at + 4) 0 * 0 ≡ 0 = omega arith in
        rw z (step_done k (a ∷ b ∷ c ∷ []) (drop at l) 4)
    rest k (suc zero) a b c m =
        let z : get_or l (at + 4) 0 * 1 ≡ get_or l (at + 4) 0 = omega arith in
        rw z
        (step_more k (a ∷ b ∷ c ∷ []) (drop at l) 4 refl 0 (one 3 (omega arith))
        (step_done k (a ∷ b ∷ c ∷ get_or l (at + 4) 0 ∷ []) (drop at l) 5))
    rest k (suc (suc f)) a b c m = absurd (omega arith)

    pub short_first : read_step (drop at l) ≡ one_step (short_step l at) (short_length l at)
    unfolding short_step short_length short_fourth
    short_first =
        let k : ℕ = get_or l at 0 in
        sym
        (three_numbers (drop at l) k short_kind (read_one l at (omega (arith, short_fits)) (omega (arith, short_kind_most))) (one 0 (omega arith))
        (one 1 (omega arith)) (one 2 (omega arith)) (rest k (fourth_numbers k) _ _ _ (fourth_most k)))

    pub short_read : read_at l at ≡ one_step (short_step l at) (at + short_length l at)
    short_read = step_at l at short_first
