-- A call with an output for one word, a count. Where that output is too short, the answer is 8 and nothing is written.
use Rattle.std.specs.Prelude.{ℕ, cond, List, [], ◌∷◌, leb, eqb, length}
use Rattle.std.proofs.lemmas.List.Edits.{sets}

-- the answer, for the call's own rejection
unfoldable pub counted_answer : List ℕ → ℕ → ℕ
counted_answer count rejection = cond (leb 1 (length count)) rejection 8

-- what is left of the call's other output, for what the call leaves otherwise
unfoldable pub counted_out : List ℕ → List ℕ → List ℕ → List ℕ
counted_out count left out = cond (leb 1 (length count)) left out

-- what is left of the count: n is written to it where the answer is 0
unfoldable pub count_after : List ℕ → ℕ → ℕ → List ℕ
count_after count rejection n = cond (eqb (counted_answer count rejection) 0) (sets count 0 (n ∷ [])) count
