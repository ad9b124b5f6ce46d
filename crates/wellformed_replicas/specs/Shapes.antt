-- The words of a member's replica, tested in two parts: all but the entries, and the entries.
use Rattle.std.specs.Prelude.{ℕ, ◌+◌, Bool, cond, not, ◌&&◌, ◌||◌, List, leb, eqb, length, get_or, take, drop}
use Rattle.model.specs.Tests.{all_below, all_of}
use Rattle.model.specs.Entries.{is_take}
use Rattle.model.specs.Replicas.{most_entries}
use Rattle.wellformed_entries.specs.Zeros.{zeros}

-- the words of a member's replica in configuration j, but for its entries
unfoldable pub is_shape : ℕ → List ℕ → Bool
is_shape j p =
    leb 1 (get_or p 0 0) && leb (get_or p 0 0) 3 && leb (get_or p 1 0) most_entries && leb (get_or p 2 0) (get_or p 1 0)
    && (not (eqb (get_or p 0 0) 1) || (eqb (get_or p 1 0) 0 && leb 1 j))
    && zeros (take 4 (drop 4 p))
    && zeros (drop (8 + get_or p 1 0) p)

-- the entries are the first ones of others
unfoldable pub are_first_of : List ℕ → List ℕ → Bool
are_first_of l m = leb (length l) (length m) && all_below (length l) (λ i. eqb (get_or l i 0) (get_or m i 0))

-- the entries are proper where others are: their first ones, or takes alone where there are no others
unfoldable pub is_known : List ℕ → List ℕ → Bool
is_known l m = cond (eqb (length m) 0) (all_of is_take l) (are_first_of l m)
