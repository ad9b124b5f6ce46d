-- Words of two lists compared in turns of eight.
use Rattle.std.specs.Prelude.{ℕ, zero, suc, ◌+◌, ◌-◌, ◌/◌, Bool, cond, List, ltb, eqb, length, get_or}
use Rattle.model.specs.Tests.{all_below}

-- the n words of a from i on are like those of b
unfoldable pub words_alike : List ℕ → List ℕ → ℕ → ℕ → Bool
words_alike a b i n = all_below n (λ k. eqb (get_or a (i + k) 0) (get_or b (i + k) 0))

-- how many first words agree, the turns going on from p with so many before the last one, which has the last eight words: all words where every turn
-- agrees, else those before the first turn that does not
unfoldable pub agreeing_from : ℕ → List ℕ → List ℕ → ℕ → ℕ
agreeing_from zero a b p = cond (words_alike a b (length a - 8) 8) (length a) p
agreeing_from (suc t) a b p = cond (words_alike a b p 8) (agreeing_from t a b (p + 8)) p

-- the same from the first word on; none where there are no eight words
unfoldable pub agreeing : List ℕ → List ℕ → ℕ
agreeing a b = cond (ltb (length a) 8) 0 (agreeing_from ((length a - 1) / 8) a b 0)
