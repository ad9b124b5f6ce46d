-- A call with an output for a count: with too short an output, and from what the call inside answers and leaves.
-- Assumes nothing.
use Rattle.std.specs.Prelude.{Ok, Err}
use Rattle.types.specs.Rejections.{Written, numbered, answered}
use Prim.Native.Nat.{ℕ, ◌≤◌, ◌<◌}
use mathlib.Core.Path.{◌≡◌, refl, ap, ◌∙◌}
use mathlib.Core.Bool.{Bool, true, false, cond}
use mathlib.Core.List.{List, [], ◌∷◌}
use lib.Dec.{eqb}
use lib.ListN.{length}
use lib.Seq.{sets}
use borrow.Author.Tests.{le-leb, lt-leb}
use Rattle.word_outputs.specs.Counts.{counted_answer, counted_out, count_after}
use Rattle.word_outputs.specs.WordOutputs.{count_word}

module _ (count out left : List ℕ) (rejection n : ℕ) where
  pub no_word : length count < 1
      → (8 ≡ counted_answer count rejection) × ((out ≡ counted_out count left out) × (count ≡ count_after count rejection n))
  unfolding counted_answer counted_out count_after
  no_word h = (rw (lt-leb _ _ h), (rw (lt-leb _ _ h), rw (lt-leb _ _ h)))

  -- the call answers r and leaves `last`; `after` is what is left of the count
  pub counted : 1 ≤ length count → {r : ℕ} {last after : List ℕ} → r ≡ rejection → last ≡ left
      → after ≡ cond (eqb rejection 0) (sets count 0 (n ∷ [])) count
      → (r ≡ counted_answer count rejection) × ((last ≡ counted_out count left out) × (after ≡ count_after count rejection n))
  unfolding counted_answer counted_out count_after
  counted h p q a = (rw (le-leb _ _ h) p, (rw (le-leb _ _ h) q, rw (le-leb _ _ h) a))

-- the word of an answer: a count n of what was written or copied, or a rejection
pub count_written : (count : List ℕ) (rejection n : ℕ) {x : Written} → x ≡ answered rejection n
    → sets count 0 (count_word x) ≡ cond (eqb rejection 0) (sets count 0 (n ∷ [])) count
unfolding answered
count_written count rejection n e = ap (λ (x : Written). sets count 0 (count_word x)) e ∙ go (eqb rejection 0)
  where
    go : (t : Bool) → sets count 0 (count_word (cond {A = Written} t (Ok n) (Err (numbered rejection)))) ≡ cond t (sets count 0 (n ∷ [])) count
    go true = refl
    go false = refl
