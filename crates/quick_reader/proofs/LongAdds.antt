-- An add at a position whose entry may have several bytes. Assumes nothing.
use Rattle.model.specs.Numbers.{valued}
use Rattle.model.specs.Log.{one_step}
use Prim.Native.Nat.{ℕ, suc, ◌+◌, ◌≤◌, ◌<◌}
use native.Mathlib.Omega.{arith}
use mathlib.Core.Path.{◌≡◌, refl, sym, ap, ◌∙◌}
use mathlib.Core.Bool.{Bool, true, false, not, ◌&&◌}
use mathlib.Core.List.{List, [], ◌∷◌, ◌++◌}
use lib.Bits.{bit_or}
use lib.Dec.{leb, ltb, eqb}
use lib.ListN.{length, drop, get_or}
use lib.Seq.{drop-cons, drop-drop}
use borrow.Author.Tests.{leb-true, ltb-true, eqb-true, eqb-false, not-true}
use Rattle.types.specs.Kinds.{kind_of, used_numbers}
use Rattle.model.specs.Log.{step_of, read_step, read_at}
use Rattle.model.specs.Numbers.{read_number}
use Rattle.types.specs.Rules.{fourth_numbers}
use Rattle.model.proofs.Joined.{or_below}
use Rattle.model.proofs.Tests.{Passing, all_pass}
use Rattle.quick_reader.specs.Long.{groups_count, last_byte, entry_bytes, is_long_add_at, long_entry, long_length, long_step}
use Rattle.numbers.proofs.FirstByte.{read_one, read_one_after}
use Rattle.quick_reader.proofs.Groups.{groups_read, groups_most}
use Rattle.quick_reader.proofs.ShortSteps.{kind_told}
use Rattle.log_reader.proofs.StepParts.{step_done, three_numbers, step_at}

-- the bytes from a position on begin with the one there
next_byte : (l : List ℕ) (i j : ℕ) → suc i ≡ j → j ≤ length l → drop i l ≡ get_or l i 0 ∷ drop j l
next_byte l i j e h = drop-cons l i 0 (omega arith) ∙ ap (λ (k : ℕ). get_or l i 0 ∷ drop k l) e

regroup : (s t u v w : Bool) → (s && t && u && v && w) ≡ (s && (t && u && v) && w)
regroup true t u v w = refl
regroup false t u v w = refl

module _ (l : List ℕ) (at : ℕ) where
  pub long_length_most : long_length l at ≤ 8
  unfolding long_length entry_bytes
  long_length_most = omega (arith, groups_most (entry_bytes l at))

  five_bytes : at + 8 ≤ length l → drop (at + 3) l ≡ entry_bytes l at ++ drop (at + 8) l
  unfolding entry_bytes
  five_bytes h =
      rw (
        next_byte l (at + 3) (at + 4) (omega arith) (omega arith),
        next_byte l (at + 4) (at + 5) (omega arith) (omega arith),
        next_byte l (at + 5) (at + 6) (omega arith) (omega arith),
        next_byte l (at + 6) (at + 7) (omega arith) (omega arith),
        next_byte l (at + 7) (at + 8) (omega arith) (omega arith),
      )

  -- the bytes of shard and index, and the last one that the entry may have, joined
  abbrev pub joined_bytes : ℕ
  joined_bytes = bit_or (bit_or (get_or l (at + 1) 0) (get_or l (at + 2) 0)) (get_or l (at + 7) 0)

  -- the three tests of them in one
  pub long_tests :
      is_long_add_at l at
      ≡ (leb (at + 8) (length l) && eqb (get_or l at 0) 1 && ltb joined_bytes 128 && not (eqb (last_byte (entry_bytes l at)) 0))
  unfolding is_long_add_at
  long_tests =
      let a : ℕ = get_or l (at + 1) 0 in
      let b : ℕ = get_or l (at + 2) 0 in
      rw (or_below 7 (bit_or a b) (get_or l (at + 7) 0), or_below 7 a b)
      (regroup (leb (at + 8) (length l) && eqb (get_or l at 0) 1) (ltb a 128) (ltb b 128) (ltb (get_or l (at + 7) 0) 128) _)

  -- the tests after the first
  abbrev tests : List Bool
  tests =
      eqb (get_or l at 0) 1
      ∷ ltb (get_or l (at + 1) 0) 128
      ∷ ltb (get_or l (at + 2) 0) 128
      ∷ ltb (get_or l (at + 7) 0) 128
      ∷ not (eqb (last_byte (entry_bytes l at)) 0)
      ∷ []

  module _ (h : is_long_add_at l at ≡ true) where
    passed : Passing (leb (at + 8) (length l) ∷ tests)
    unfolding is_long_add_at
    passed = all_pass (leb (at + 8) (length l)) tests h

    pub long_fits : at + 8 ≤ length l
    long_fits = leb-true _ _ passed.0

    pub long_kind : get_or l at 0 ≡ 1
    long_kind = eqb-true _ _ passed.1.0

    long_shard : get_or l (at + 1) 0 < 128
    long_shard = ltb-true _ _ passed.1.1.0

    long_index : get_or l (at + 2) 0 < 128
    long_index = ltb-true _ _ passed.1.1.1.0

    pub long_last : get_or l (at + 7) 0 < 128
    long_last = ltb-true _ _ passed.1.1.1.1.0

    long_ends : last_byte (entry_bytes l at) ≡ 0 → ⊥
    long_ends = eqb-false _ _ (not-true _ passed.1.1.1.1.1.0)

    entry_read : read_number (drop 3 (drop at l)) ≡ valued (long_entry l at) (groups_count (entry_bytes l at))
    unfolding read_number long_entry entry_bytes
    entry_read =
        rw (drop-drop 3 at l, five_bytes long_fits) (groups_read 5 true (entry_bytes l at) (drop (at + 8) l) (omega arith) long_ends)

    kind_read : read_number (drop at l) ≡ valued 1 1
    kind_read = rw long_kind at (read_one l at (omega (arith, long_fits)) (omega (arith, long_kind)))

    pub long_first : read_step (drop at l) ≡ one_step (long_step l at) (long_length l at)
    unfolding long_step long_length fourth_numbers kind_of used_numbers step_of
    long_first =
        let n : ℕ = groups_count (entry_bytes l at) in
        sym
        (three_numbers (drop at l) 1 (kind_told 1 (omega arith) (omega arith)) kind_read
        (read_one_after l at 1 (omega (arith, long_fits)) long_shard)
        (read_one_after l at 2 (omega (arith, long_fits)) long_index)
        entry_read (step_done 1 _ (drop at l) (3 + n)))

    pub long_read : read_at l at ≡ one_step (long_step l at) (at + long_length l at)
    long_read = step_at l at long_first
