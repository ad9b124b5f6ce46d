-- A replica's stable prefix ("confirmed part"), copied to an output: what a host shows, and what the function answers and leaves.
use Rattle.types.specs.Rejections.{Written}
use Rattle.std.specs.Prelude.{ℕ, ◌-◌, List, [], ◌∷◌, ◌++◌}
use Rattle.model.specs.Checks.{first_of}
use Rattle.model.specs.OneList.{stable_of}
use Rattle.model.specs.Results.{count_beside}
use Rattle.stable_entries.specs.Listing.{has_room, listing_of, after_listing_of}
use Rattle.histories.specs.NamedReplicas.{replica_checks}

-- what host h shows of index i of shard z: the stable prefix that the one list speaks of
unfoldable pub shown : List ℕ → ℕ → ℕ → ℕ → List ℕ
shown w z i h = stable_of w z (i - 1) h

-- 1, 7, 9, 10, 11, and the output's 8 last
unfoldable pub prefix_rejection : List ℕ → ℕ → ℕ → ℕ → List ℕ → ℕ
prefix_rejection w z i h out = first_of (replica_checks w z i h ++ (has_room (shown w z i h) out ∷ []))

-- how many entries are copied, 0 at a rejection
unfoldable pub prefix_count : List ℕ → ℕ → ℕ → ℕ → List ℕ → ℕ
prefix_count w z i h out = count_beside (prefix_rejection w z i h out) (shown w z i h)

-- both as one answer
unfoldable pub prefix_listing : List ℕ → ℕ → ℕ → ℕ → List ℕ → Written
prefix_listing w z i h out = listing_of (prefix_rejection w z i h out) (shown w z i h)

-- what is left of the output
unfoldable pub after_prefix : List ℕ → ℕ → ℕ → ℕ → List ℕ → List ℕ
after_prefix w z i h out = after_listing_of (prefix_rejection w z i h out) (shown w z i h) out
