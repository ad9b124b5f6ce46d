-- Entries copied to an output: what is answered and left, by the test of the output's room.
use Prim.Native.Nat.{ℕ, ◌≤◌, ◌<◌}
use mathlib.Core.Path.{◌≡◌, refl}
use mathlib.Core.Bool.{true}
use mathlib.Core.List.{List, [], ◌∷◌, ◌++◌}
use lib.Dec.{ltb}
use lib.ListN.{length, drop}
use borrow.Author.Tests.{le-leb, lt-leb}
use Rattle.model.specs.Checks.{first_of}
use Rattle.model.specs.Results.{count_beside}
use Rattle.std.specs.Prelude.{Ok, Err}
use Rattle.types.specs.declared.rejection.Rejection.{Rejection}
use Rattle.types.specs.declared.rejection.Rejection.TheVariants.{OutputLength}
use Rattle.types.specs.Rejections.{Written, rejection_number, answered, answer_number, answer_count}
use Rattle.types.proofs.Rejections.{number_not_0, rejected_answer}
use Rattle.model.proofs.Results.{first_below, counted}
use Rattle.stable_entries.specs.Listing.{has_room, listing_of, after_listing_of}
use Rattle.stable_entries.specs.StableEntries.{entries_at, copying_rejection, copied_count, copying, after_copying}

-- a rejection is told, and leaves the output
pub rejects : (r : Rejection) (l out : List ℕ) {rejection : ℕ} → rejection ≡ rejection_number r
    → (Err r ≡ listing_of rejection l) × (out ≡ after_listing_of rejection l out)
unfolding listing_of after_listing_of
rejects r l out e = (rw e (rejected_answer r (length l)), rw (e, number_not_0 r))

-- an answer, told by its number and its count too
pub told : {r : Written} {v : List ℕ} (k : ℕ) (l out : List ℕ) → ltb k 25 ≡ true → r ≡ listing_of k l → v ≡ after_listing_of k l out
    → (answer_number r ≡ k) × ((answer_count r ≡ count_beside k l) × ((r ≡ listing_of k l) × (v ≡ after_listing_of k l out)))
unfolding listing_of
told k l out h e f = let c = counted k l h e in (c.0, (c.1, (e, f)))

pub copied : {r : Written} {v : List ℕ} (w : List ℕ) (p : ℕ) (out : List ℕ) → r ≡ copying w p out → v ≡ after_copying w p out
    → (answer_number r ≡ copying_rejection w p out)
    × ((answer_count r ≡ copied_count w p out) × ((r ≡ copying w p out) × (v ≡ after_copying w p out)))
unfolding copying after_copying copied_count copying_rejection has_room
copied w p out e f = told (copying_rejection w p out) (entries_at w p) out (first_below (has_room (entries_at w p) out ∷ []) refl) e f

module _ (w : List ℕ) (p : ℕ) (out : List ℕ) {l : List ℕ} (e : l ≡ entries_at w p) where
  pub rejects_room : length out < length l → (Err OutputLength ≡ copying w p out) × (out ≡ after_copying w p out)
  unfolding copying after_copying copying_rejection first_of has_room
  rejects_room r = rejects OutputLength (entries_at w p) out (rw (← e, lt-leb (length l) (length out) r))

  pub copies : length l ≤ length out → (Ok (length l) ≡ copying w p out) × (l ++ drop (length l) out ≡ after_copying w p out)
  unfolding copying after_copying copying_rejection listing_of after_listing_of answered first_of has_room
  copies r = (simp (← e, le-leb (length l) (length out) r), simp (← e, le-leb (length l) (length out) r))
