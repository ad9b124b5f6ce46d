-- Words that are all 0.
use Rattle.std.specs.Prelude.{ℕ, Bool, List, length, nat_eq, slice_index}
use Rattle.model.specs.Tests.{all_below}

-- all words of a list are 0
abbrev pub zeros : List ℕ → Bool
zeros l = all_below (length l) (λ i. nat_eq (slice_index l i) 0)
