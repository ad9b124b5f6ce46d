-- Where the code reads the head words of a shard.
use Prim.Native.Nat.{ℕ, ◌+◌, ◌*◌}
use native.Mathlib.Nat.{add-zero, add_assoc}
use mathlib.Core.Path.{◌≡◌, refl}
use mathlib.Core.List.{List}
use lib.ListN.{get_or}
use Rattle.model.specs.Layout.{shard_words, head_place, head_word, sequencer, installed, members, orderer}

module _ (w : List ℕ) (z : ℕ) where
  pub sequencer_word : sequencer w z ≡ get_or w (z * shard_words) 0
  unfolding sequencer head_word head_place
  sequencer_word = rw add-zero

  pub installed_word : installed w z ≡ get_or w (z * shard_words + 1) 0
  unfolding installed head_word head_place
  installed_word = refl

  pub members_word_lem : (j : ℕ) → members w z j ≡ get_or w (z * shard_words + 2 + j) 0
  unfolding members head_word head_place
  members_word_lem j = rw add_assoc

  pub orderer_word_lem : (j : ℕ) → orderer w z j ≡ get_or w (z * shard_words + 10 + j) 0
  unfolding orderer head_word head_place
  orderer_word_lem j = rw add_assoc
