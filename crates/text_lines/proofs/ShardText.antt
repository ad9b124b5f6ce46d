-- The line of a shard in three parts.
-- Assumes nothing.
use Prim.Native.Nat.{ℕ}
use mathlib.Core.Path.{◌≡◌, refl}
use mathlib.Core.List.{List, ◌++◌}
use Rattle.model.specs.StableHistory.{stable_history}
use Rattle.model.specs.Transcript.{spaced, spaced_all, newline, zone_word, shard_line}

pub shard_text_lem : (w : List ℕ) (z : ℕ) → shard_line w z ≡ (zone_word ++ spaced z) ++ (spaced_all (stable_history w z) ++ newline)
unfolding shard_line
shard_text_lem w z = refl
