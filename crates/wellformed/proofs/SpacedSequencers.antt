-- The sequencers of a state stand at the distance of a shard's words.
use Prim.Native.Nat.{ℕ, ◌*◌}
use native.Mathlib.Omega.{arith}
use mathlib.Core.Path.{◌≡◌, ap, fun_ext}
use mathlib.Core.List.{List}
use lib.ListN.{length, get_or}
use Rattle.model.specs.Layout.{shard_words, shards_of, sequencer}
use Rattle.model.specs.WellFormed.{all_differ}
use Rattle.model.proofs.Heads.{sequencer_word}
use Rattle.model.proofs.Lengths.{shards_fit}
use Rattle.wellformed.specs.SpacedWords.{Spaced}

pub sequencers_spaced : (w : List ℕ) → Spaced w shard_words (shards_of (length w))
sequencers_spaced w = record { within = λ k h. omega (arith, shards_fit (length w)) }

pub sequencers_differ : (w : List ℕ) (Z : ℕ) → all_differ Z (sequencer w) ≡ all_differ Z (λ z. get_or w (z * shard_words) 0)
sequencers_differ w Z = ap (all_differ Z) (fun_ext (sequencer_word w))
