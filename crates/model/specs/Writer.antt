-- Writing a step (document 01: "Writer: 3, 4, 7, 8; it returns the count of bytes written").
use Rattle.types.specs.Rejections.{Written, answered}
use Rattle.std.specs.Prelude.{ℕ, ◌+◌, ◌*◌, ◌^◌, Bool, cond, not, ◌&&◌, ◌||◌, List, [], ◌∷◌, ◌++◌, leb, ltb, eqb, length, take, drop}
use Rattle.types.specs.declared.step.Step.{Step}
use Rattle.model.specs.Checks.{first_of, ◌or_else◌}
use Rattle.types.specs.Kinds.{kind_of, is_kept, is_unknown, used_numbers}
use Rattle.model.specs.Numbers.{most_bytes, number_bytes, numbers_bytes}

-- "each number is below 2^35"
unfoldable pub is_writable : ℕ → Bool
is_writable n = ltb n (2 ^ (7 * most_bytes))

-- "The writer tests only unused numbers and that each number is below 2^35."
unfoldable pub are_writable : Step → Bool
are_writable s =
    is_writable s.a && is_writable s.b && is_writable s.c && is_writable s.d
    && (leb 4 (used_numbers (kind_of s.kind)) || eqb s.d 0)

-- "kind then the used numbers"
unfoldable pub step_bytes : Step → List ℕ
step_bytes s =
    number_bytes s.kind ++ numbers_bytes (take (used_numbers (kind_of s.kind)) (s.a ∷ s.b ∷ s.c ∷ s.d ∷ []))

-- the rejection of writing a step at a position of an output
unfoldable pub write_rejection : List ℕ → ℕ → Step → ℕ
write_rejection out at s =
    first_of
    (not (is_kept (kind_of s.kind)) or_else 3
    ∷ not (is_unknown (kind_of s.kind)) or_else 4
    ∷ are_writable s or_else 7
    ∷ leb (at + length (step_bytes s)) (length out) or_else 8
    ∷ [])

-- what the writer answers
unfoldable pub writing : List ℕ → ℕ → Step → Written
writing out at s = answered (write_rejection out at s) (length (step_bytes s))

-- "Any lent output keeps what lies past the part written"; a rejection leaves it untouched
unfoldable pub after_writing : List ℕ → ℕ → Step → List ℕ
after_writing out at s =
    cond (eqb (write_rejection out at s) 0) (take at out ++ (step_bytes s ++ drop (at + length (step_bytes s)) out)) out
