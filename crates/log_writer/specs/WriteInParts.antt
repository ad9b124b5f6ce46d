-- Writing a step in parts.
use Rattle.std.specs.Prelude.{ℕ, ◌+◌, ◌^◌, ◌≤◌, ◌<◌, Bool, cond, ◌&&◌, ◌||◌, List, [], ◌++◌, leb, eqb, length}
use Rattle.types.specs.declared.step.Step.{Step}
use Rattle.model.specs.Numbers.{number_bytes}
use Rattle.model.specs.Writer.{is_writable}

-- the writer's test of the numbers, for a kind that uses so many
unfoldable pub writable : Step → ℕ → Bool
writable s used =
    is_writable s.a && is_writable s.b && is_writable s.c && is_writable s.d && (leb 4 used || eqb s.d 0)

-- the bytes of a step whose kind uses three numbers, or four
unfoldable pub bytes_of : Step → ℕ → List ℕ
bytes_of s used =
    number_bytes s.kind
    ++ (number_bytes s.a
    ++ (number_bytes s.b ++ (number_bytes s.c ++ cond (leb 4 used) (number_bytes s.d) [])))

-- the step can be written at the position: its numbers are small, and the output has room
pub record StepRoom (out : List ℕ) (at : ℕ) (s : Step) (used : ℕ) : Type 0 where
  pub kind : s.kind < 2 ^ 35
  pub a : s.a < 2 ^ 35
  pub b : s.b < 2 ^ 35
  pub c : s.c < 2 ^ 35
  pub d : s.d < 2 ^ 35
  pub within : at + length (bytes_of s used) ≤ length out
