-- A number by its first byte. Assumes nothing.
use Rattle.std.specs.Prelude.{Err}
use Rattle.types.specs.declared.rejection.Rejection.TheVariants.{LogEnds}
use Rattle.model.specs.Numbers.{valued}
use Prim.Native.Nat.{ℕ, ◌+◌, ◌%◌, ◌≤◌, ◌<◌}
use native.Mathlib.Numerals.{add-one}
use mathlib.Core.Path.{◌≡◌}
use mathlib.Core.Bool.{true, false, true≢false}
use mathlib.Core.List.{List}
use lib.ListN.{length, drop, get_or, drop_of_length-le}
use lib.Seq.{drop-cons, drop-drop}
use Rattle.model.specs.Numbers.{read_groups, read_number, with_lower}
use Rattle.model.proofs.Numbers.{read_last, read_more}

module _ (log : List ℕ) (at : ℕ) where
  -- no byte is left
  pub read_none : length log ≤ at → read_number (drop at log) ≡ Err LogEnds
  unfolding read_number read_groups
  read_none h = rw (drop_of_length-le log h)

  module _ (h : at < length log) where
    -- the only byte
    pub read_one : get_or log at 0 < 128 → read_number (drop at log) ≡ valued (get_or log at 0) 1
    unfolding read_number
    read_one l = rw (drop-cons log at 0 h) (read_last 4 true (get_or log at 0) _ l (λ e. absurd (true≢false e)))

    -- a byte of several
    pub read_several :
        128 ≤ get_or log at 0 → read_number (drop at log) ≡ with_lower (get_or log at 0 % 128) (read_groups 4 false (drop (at + 1) log))
    unfolding read_number
    read_several l = rw (add-one, drop-cons log at 0 h) (read_more 4 true (get_or log at 0) _ l)

-- the only byte of a number that begins i bytes after a position
pub read_one_after :
    (log : List ℕ) (at i : ℕ) → at + i < length log → get_or log (at + i) 0 < 128
    → read_number (drop i (drop at log)) ≡ valued (get_or log (at + i) 0) 1
read_one_after log at i h l = rw (drop-drop i at log) (read_one log (at + i) h l)
