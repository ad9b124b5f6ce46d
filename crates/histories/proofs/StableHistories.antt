-- The ladder of a shard's stable history: what is answered and left, by the tests that are made in turn.
use Rattle.std.specs.Prelude.{Ok, Err}
use Rattle.types.specs.declared.rejection.Rejection.{Rejection}
use Rattle.types.specs.declared.rejection.Rejection.TheVariants.{StateLength, OutOfRange, NotWellFormed}
use Rattle.types.specs.Rejections.{Written, rejection_number, answer_count, answer_number}
use Prim.Native.Nat.{ℕ, ◌≤◌, ◌<◌}
use native.Mathlib.Omega.{arith}
use mathlib.Core.Path.{◌≡◌, refl}
use mathlib.Core.Bool.{true, false}
use mathlib.Core.List.{List, [], ◌∷◌}
use lib.Dec.{ltb}
use lib.ListN.{length}
use borrow.Author.Tests.{le-leb, lt-ltb, le-ltb}
use Rattle.model.specs.Checks.{first_of, ◌or_else◌}
use Rattle.model.specs.Layout.{shards_of, is_state_length}
use Rattle.model.specs.WellFormed.{well_formed}
use Rattle.model.proofs.Results.{first_below}
use Rattle.lookup.proofs.Formed.{formed_of}
use Rattle.model.specs.StableHistory.{stable_history}
use Rattle.stable_entries.specs.Listing.{has_room}
use Rattle.stable_entries.specs.StableEntries.{copying_rejection, copying, after_copying}
use Rattle.stable_entries.specs.Pick.{longest_place, OfShard}
use Rattle.wellformed.specs.Checked.{shard_count_of}
use Rattle.wellformed.proofs.Checked.{count_passed, count_rejected}
use Rattle.histories.specs.History.{listing_rejection, listed_count, listing, after_listing}
use Rattle.stable_entries.proofs.Longest.{picked_entries}
use Rattle.stable_entries.proofs.Listings.{rejects, told}

-- a shard of a state that passed the tests, n shards being counted
pub of_shard : (w : List ℕ) (z : ℕ) {n : ℕ} → Ok n ≡ shard_count_of (length w) → z < n → well_formed w ≡ true → OfShard w z
of_shard w z count h f =
    let c = count_passed _ count in
    record { formed = formed_of w (λ q. omega (arith, c.1)) f; shard = omega (arith, c.0) }

module _ (w : List ℕ) (z : ℕ) (out : List ℕ) where
  -- what is answered and left, in numbers and as a value
  abbrev Answers : Written → List ℕ → Type 0
  Answers r v =
      (answer_number r ≡ listing_rejection w z out)
      × ((answer_count r ≡ listed_count w z out) × ((r ≡ listing w z out) × (v ≡ after_listing w z out)))

  below : ltb (listing_rejection w z out) 25 ≡ true
  unfolding listing_rejection has_room
  below =
      first_below
      (is_state_length (length w) or_else 1
      ∷ ltb z (shards_of (length w)) or_else 7
      ∷ well_formed w or_else 9
      ∷ has_room (stable_history w z) out
      ∷ [])
      refl

  pub answers : {r : Written} {v : List ℕ} → r ≡ listing w z out → v ≡ after_listing w z out → Answers r v
  unfolding listing after_listing listed_count
  answers e f = told (listing_rejection w z out) (stable_history w z) out below e f

  -- a rejection leaves the output
  abbrev Rejects : Rejection → Type 0
  Rejects r = Answers (Err r) out

  rejects_as : (r : Rejection) → listing_rejection w z out ≡ rejection_number r → Rejects r
  unfolding listing after_listing
  rejects_as r e = let p = rejects r (stable_history w z) out e in answers p.0 p.1

  pub rejects_length : {r : Rejection} → Err r ≡ shard_count_of (length w) → Rejects r
  unfolding listing_rejection first_of is_state_length
  rejects_length e = let c = count_rejected _ e in rw c.0 (rejects_as StateLength (simp c.1))

  module _ {n : ℕ} (count : Ok n ≡ shard_count_of (length w)) where
    pub rejects_shard : n ≤ z → Rejects OutOfRange
    unfolding listing_rejection first_of is_state_length
    rejects_shard h =
        let c = count_passed _ count in
        rejects_as OutOfRange (simp (le-leb 2 (shards_of (length w)) c.1, le-ltb z (shards_of (length w)) (omega (arith, c.0))))

    pub rejects_form : z < n → well_formed w ≡ false → Rejects NotWellFormed
    unfolding listing_rejection first_of is_state_length
    rejects_form h f =
        let c = count_passed _ count in
        rejects_as NotWellFormed (simp (le-leb 2 (shards_of (length w)) c.1, lt-ltb z (shards_of (length w)) (omega (arith, c.0)), f))

  -- the tests passed leave that of the room, for the entries of the replica that the pick finds
  module _ (s : OfShard w z) {p : ℕ} (e : p ≡ longest_place w z 31) where
    pub lists : (copying w p out ≡ listing w z out) × (after_copying w p out ≡ after_listing w z out)
    unfolding copying after_copying copying_rejection listing after_listing listing_rejection first_of is_state_length
    lists =
        let long = le-leb 2 (shards_of (length w)) s.formed.several in
        let below = lt-ltb z (shards_of (length w)) s.shard in
        (simp (long, below, s.formed.formed, picked_entries s e), simp (long, below, s.formed.formed, picked_entries s e))
