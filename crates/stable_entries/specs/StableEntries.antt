-- The stable prefix of a replica as words of the state.
use Rattle.types.specs.Rejections.{Written}
use Rattle.std.specs.Prelude.{ℕ, ◌+◌, ◌≤◌, List, [], ◌∷◌, length, get_or, take, drop}
use Rattle.model.specs.Checks.{first_of}
use Rattle.model.specs.Replicas.{most_entries}
use Rattle.types.specs.ReplicaPlace.{part_words}
use Rattle.model.specs.Results.{count_beside}
use Rattle.stable_entries.specs.Listing.{has_room, listing_of, after_listing_of}

-- as many words from the ninth on as the third word says
unfoldable pub entries_at : List ℕ → ℕ → List ℕ
entries_at w at = take (get_or w (at + 2) 0) (drop (at + 8) w)

-- the 64 words of a replica are in the state, and its stable length is that of a history
pub record HasEntries (w : List ℕ) (at : ℕ) : Type 0 where
  pub fits : at + part_words ≤ length w
  pub few : get_or w (at + 2) 0 ≤ most_entries

-- copying them to an output: rejection 8 is the only one
unfoldable pub copying_rejection : List ℕ → ℕ → List ℕ → ℕ
copying_rejection w at out = first_of (has_room (entries_at w at) out ∷ [])

-- how many are copied, 0 at the rejection
unfoldable pub copied_count : List ℕ → ℕ → List ℕ → ℕ
copied_count w at out = count_beside (copying_rejection w at out) (entries_at w at)

-- both as one answer
unfoldable pub copying : List ℕ → ℕ → List ℕ → Written
copying w at out = listing_of (copying_rejection w at out) (entries_at w at)

-- what is left of the output
unfoldable pub after_copying : List ℕ → ℕ → List ℕ → List ℕ
after_copying w at out = after_listing_of (copying_rejection w at out) (entries_at w at) out
