-- A rejection is the number of the first check that fails, in document 01's order.
use Rattle.std.specs.Prelude.{ℕ, Bool, cond, List, [], ◌∷◌}

infix 68 ◌or_else◌
-- one check: its test, and the number of the rejection where the test fails
pub record Check : Type 0 where
  pub passes : Bool
  pub number : ℕ

abbrev pub ◌or_else◌ : Bool → ℕ → Check
◌or_else◌ t n = record { passes = t; number = n }

-- the number of the first check that fails, 0 where all pass
unfoldable pub first_of : List Check → ℕ
first_of [] = 0
first_of (c ∷ cs) = cond c.passes (first_of cs) c.number
