-- A shard's stable history, copied to an output: what the function answers and leaves.
use Rattle.types.specs.Rejections.{Written}
use Rattle.std.specs.Prelude.{ℕ, List, [], ◌∷◌, ltb, length}
use Rattle.model.specs.Checks.{first_of, ◌or_else◌}
use Rattle.model.specs.Layout.{shards_of, is_state_length}
use Rattle.model.specs.WellFormed.{well_formed}
use Rattle.model.specs.StableHistory.{stable_history}
use Rattle.model.specs.Results.{count_beside}
use Rattle.stable_entries.specs.Listing.{has_room, listing_of, after_listing_of}

-- in the order of a step's checks, and the output's last: 1, 7, 9, 8
unfoldable pub listing_rejection : List ℕ → ℕ → List ℕ → ℕ
listing_rejection w z out =
    first_of
    (is_state_length (length w) or_else 1
    ∷ ltb z (shards_of (length w)) or_else 7
    ∷ well_formed w or_else 9
    ∷ has_room (stable_history w z) out
    ∷ [])

-- how many entries are copied, 0 at a rejection
unfoldable pub listed_count : List ℕ → ℕ → List ℕ → ℕ
listed_count w z out = count_beside (listing_rejection w z out) (stable_history w z)

-- both as one answer
unfoldable pub listing : List ℕ → ℕ → List ℕ → Written
listing w z out = listing_of (listing_rejection w z out) (stable_history w z)

-- what is left of the output
unfoldable pub after_listing : List ℕ → ℕ → List ℕ → List ℕ
after_listing w z out = after_listing_of (listing_rejection w z out) (stable_history w z) out
