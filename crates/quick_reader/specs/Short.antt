-- Steps at a position of a log whose numbers have one byte each.
use Rattle.std.specs.Prelude.{ℕ, suc, ◌+◌, ◌*◌, Bool, ◌&&◌, List, [], ◌∷◌, leb, ltb, length, get_or}
use Rattle.types.specs.declared.step.Step.{Step}
use Rattle.model.specs.Log.{step_of}
use Rattle.types.specs.Rules.{fourth_numbers}
use Rattle.model.specs.Tests.{all_below}

-- eight bytes are left, the first is the number of a known kind, and each of the next four is a number of one byte
unfoldable pub is_short_at : List ℕ → ℕ → Bool
is_short_at l at =
    leb (at + 8) (length l) && leb 1 (get_or l at 0) && leb (get_or l at 0) 7 && all_below 4 (λ i. ltb (get_or l (at + suc i) 0) 128)

-- the fourth number, 0 where the kind uses three
unfoldable pub short_fourth : List ℕ → ℕ → ℕ
short_fourth l at = get_or l (at + 4) 0 * fourth_numbers (get_or l at 0)

-- how many bytes the step has
unfoldable pub short_length : List ℕ → ℕ → ℕ
short_length l at = 4 + fourth_numbers (get_or l at 0)

unfoldable pub short_step : List ℕ → ℕ → Step
short_step l at = step_of (get_or l at 0) (get_or l (at + 1) 0 ∷ get_or l (at + 2) 0 ∷ get_or l (at + 3) 0 ∷ short_fourth l at ∷ [])
