-- Adds at a position of a log whose entry may have several bytes.
use Rattle.std.specs.Prelude.{ℕ, suc, ◌+◌, ◌*◌, ◌%◌, Bool, cond, not, ◌&&◌, List, [], ◌∷◌, leb, ltb, eqb, length, get_or}
use Rattle.types.specs.declared.step.Step.{Step}
use Rattle.model.specs.Log.{step_of}

-- ---- the number at the start of some bytes: a byte below 128 is its last one

-- its value, how many bytes it has, and its last byte, 0 where none of them is below 128
unfoldable pub groups_value : List ℕ → ℕ
groups_value [] = 0
groups_value (b ∷ bs) = cond (ltb b 128) b (b % 128 + 128 * groups_value bs)

unfoldable pub groups_count : List ℕ → ℕ
groups_count [] = 0
groups_count (b ∷ bs) = cond (ltb b 128) 1 (suc (groups_count bs))

unfoldable pub last_byte : List ℕ → ℕ
last_byte [] = 0
last_byte (b ∷ bs) = cond (ltb b 128) b (last_byte bs)

-- ---- the add

-- the five bytes that its entry may have
unfoldable pub entry_bytes : List ℕ → ℕ → List ℕ
entry_bytes l at = get_or l (at + 3) 0 ∷ get_or l (at + 4) 0 ∷ get_or l (at + 5) 0 ∷ get_or l (at + 6) 0 ∷ get_or l (at + 7) 0 ∷ []

-- eight bytes are left, the first is the number of add, shard and index have one byte each, and the entry has five at most, the last of them not 0
unfoldable pub is_long_add_at : List ℕ → ℕ → Bool
is_long_add_at l at =
    leb (at + 8) (length l) && eqb (get_or l at 0) 1 && ltb (get_or l (at + 1) 0) 128 && ltb (get_or l (at + 2) 0) 128
    && ltb (get_or l (at + 7) 0) 128 && not (eqb (last_byte (entry_bytes l at)) 0)

unfoldable pub long_entry : List ℕ → ℕ → ℕ
long_entry l at = groups_value (entry_bytes l at)

-- how many bytes the add has
unfoldable pub long_length : List ℕ → ℕ → ℕ
long_length l at = 3 + groups_count (entry_bytes l at)

unfoldable pub long_step : List ℕ → ℕ → Step
long_step l at = step_of 1 (get_or l (at + 1) 0 ∷ get_or l (at + 2) 0 ∷ long_entry l at ∷ 0 ∷ [])
