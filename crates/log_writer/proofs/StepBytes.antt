-- The bytes of a step, and how many there are. Assumes nothing.
use Prim.Native.Nat.{ℕ, ◌+◌, ◌≤◌, ◌<◌}
use native.Mathlib.Omega.{arith}
use mathlib.Core.Logic.{◌⊎◌, inl, inr}
use mathlib.Core.Path.{◌≡◌, refl}
use mathlib.Core.Bool.{Bool, true, false, cond}
use mathlib.Core.List.{List, [], append-nil}
use lib.Dec.{leb}
use lib.ListN.{length, length-append}
use borrow.Author.Tests.{le-leb, lt-leb}
use Rattle.types.specs.declared.step.Step.{Step}
use Rattle.types.specs.Kinds.{kind_of, used_numbers}
use Rattle.model.specs.Numbers.{number_bytes, numbers_bytes}
use Rattle.model.specs.Writer.{step_bytes}
use Rattle.types.proofs.KindNumbers.{used_cases}
use Rattle.log_writer.specs.WriteInParts.{bytes_of}
use Rattle.types.specs.Rules.{Known}
use Rattle.numbers.proofs.NumberLengths.{length_one, length_most}

either_bytes : (s : Step) (u : ℕ) → (u ≡ 3) ⊎ (u ≡ 4) → used_numbers (kind_of s.kind) ≡ u → bytes_of s u ≡ step_bytes s
unfolding bytes_of step_bytes numbers_bytes
either_bytes s u (inl e) f = rw (f, e)
either_bytes s u (inr e) f = rw (f, e, append-nil (number_bytes s.d))

-- the two definitions agree
pub bytes_used : (s : Step) → Known (kind_of s.kind) → bytes_of s (used_numbers (kind_of s.kind)) ≡ step_bytes s
bytes_used s k = either_bytes s _ (used_cases (kind_of s.kind) k.not_kept k.known) refl

-- the kind takes a byte
bytes_length :
    (s : Step) (used : ℕ) → s.kind < 128
    → length (bytes_of s used)
    ≡ 1 + length (number_bytes s.a) + length (number_bytes s.b) + length (number_bytes s.c)
    + length (cond (leb 4 used) (number_bytes s.d) [])
unfolding bytes_of
bytes_length s used h =
    simp length-append (omega (arith, length_one s.kind h))

pub length_with_d :
    (s : Step) (used : ℕ) → s.kind < 128 → 4 ≤ used
    → length (bytes_of s used)
    ≡ 1 + length (number_bytes s.a) + length (number_bytes s.b) + length (number_bytes s.c) + length (number_bytes s.d)
length_with_d s used h l = rw (le-leb 4 used l) at (bytes_length s used h)

pub length_no_d :
    (s : Step) (used : ℕ) → s.kind < 128 → used < 4
    → length (bytes_of s used) ≡ 1 + length (number_bytes s.a) + length (number_bytes s.b) + length (number_bytes s.c)
length_no_d s used h l = omega (arith, rw (lt-leb 4 used l) at (bytes_length s used h))

-- ---- room

short_end : (t : Bool) (bs : List ℕ) → length bs ≤ 5 → length (cond t bs []) ≤ 5
short_end true bs h = h
short_end false bs h = omega arith

-- a step takes at most 25 bytes
pub bytes_most : (s : Step) (used : ℕ) → length (bytes_of s used) ≤ 25
unfolding bytes_of
bytes_most s used =
    simp length-append
    (omega (
      arith,
      length_most s.kind,
      length_most s.a,
      length_most s.b,
      length_most s.c,
      short_end (leb 4 used) (number_bytes s.d) (length_most s.d),
    ))
