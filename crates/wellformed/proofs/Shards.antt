-- The test of a shard of a state, as tests of the words where the code reads them.
use Prim.Native.Nat.{ℕ, ◌+◌, ◌*◌, ◌-◌, ◌≤◌, ◌<◌}
use native.Mathlib.Omega.{arith}
use mathlib.Core.Path.{◌≡◌, sym, ap, ◌∙◌}
use mathlib.Core.Bool.{true, false, ◌&&◌, and-true, and-false}
use mathlib.Core.List.{List}
use lib.Dec.{leb, eqb}
use lib.ListN.{length, get_or, take, drop}
use borrow.Author.Tests.{le-leb, lt-leb}
use Rattle.model.specs.Tests.{all_below}
use Rattle.model.specs.Layout.{head_place, head_word}
use Rattle.model.specs.WellFormed.{is_sequencer, is_configuration_of, is_shard}
use Rattle.model.proofs.Ranges.{alike}
use Rattle.wellformed_entries.specs.Zeros.{zeros}
use Rattle.wellformed_entries.proofs.Zeros.{zeros_at}
use Rattle.model.proofs.Heads.{sequencer_word, installed_word}

-- the count of its configurations
abbrev pub count_word : List ℕ → ℕ → ℕ
count_word w z = get_or w (z * 2112 + 1) 0

-- the head words past those of the configurations
abbrev pub rest_words : List ℕ → ℕ → List ℕ
rest_words w z = take (z * 2112 + 18 + 46 - (z * 2112 + 18)) (drop (z * 2112 + 18) w)

module _ (w : List ℕ) (Z z : ℕ) (fits : z * 2112 + 2112 ≤ length w) where
  cut : z * 2112 + 18 + 46 - (z * 2112 + 18) ≡ 46
  cut = omega arith

  rest_words_lem : all_below 46 (λ i. eqb (head_word w z (18 + i)) 0) ≡ zeros (rest_words w z)
  unfolding head_word head_place
  rest_words_lem =
      alike 46 (λ i. eqb (get_or w (z * 2112 + (18 + i)) 0) 0) (λ i. eqb (get_or w (z * 2112 + 18 + i) 0) 0)
      (λ i h. ap (λ (x : ℕ). eqb (get_or w x 0) 0) (omega arith))
      ∙ sym (zeros_at 46 (z * 2112 + 18) w (omega arith)) ∙ ap (λ (n : ℕ). zeros (take n (drop (z * 2112 + 18) w))) (sym cut)

  shard_words_lem : is_shard w Z z
      ≡ (is_sequencer Z z (get_or w (z * 2112) 0) && leb 1 (count_word w z) && leb (count_word w z) 8
      && all_below 8 (is_configuration_of w Z z) && zeros (rest_words w z))
  unfolding is_shard
  shard_words_lem = rw (rest_words_lem, sequencer_word w z, installed_word w z)

  pub wrong_sequencer : false ≡ is_sequencer Z z (get_or w (z * 2112) 0) → false ≡ is_shard w Z z
  wrong_sequencer e = rw (shard_words_lem, ← e)

  pub too_few : count_word w z < 1 → false ≡ is_shard w Z z
  too_few h = rw (shard_words_lem, lt-leb 1 (count_word w z) h, and-false)

  pub too_many : 8 < count_word w z → false ≡ is_shard w Z z
  too_many h = rw (shard_words_lem, lt-leb (count_word w z) 8 h, and-false)

  pub some_rest : false ≡ zeros (rest_words w z) → false ≡ is_shard w Z z
  some_rest e = rw (shard_words_lem, ← e, and-false)

  pub only_configurations : true ≡ is_sequencer Z z (get_or w (z * 2112) 0) → 1 ≤ count_word w z → count_word w z ≤ 8
      → true ≡ zeros (rest_words w z) → all_below 8 (is_configuration_of w Z z) ≡ is_shard w Z z
  only_configurations e l m r =
      rw (shard_words_lem, ← e, le-leb 1 (count_word w z) l, le-leb (count_word w z) 8 m, ← r) (sym (and-true (all_below 8 (is_configuration_of w Z z))))

-- what the tests say, made in turn
pub ruleset shard_tests = (wrong_sequencer, too_few, too_many, some_rest, only_configurations)
