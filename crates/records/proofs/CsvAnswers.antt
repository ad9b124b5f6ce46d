-- What the text function answers and leaves, by the tests that are made in turn. Assumes nothing.
use Prim.Native.Nat.{ℕ, zero, ◌≤◌, ◌<◌}
use native.Mathlib.Nat.{zero-add}
use native.Mathlib.Omega.{arith}
use mathlib.Core.Path.{◌≡◌, refl, sym, ◌∙◌}
use mathlib.Core.Bool.{Bool, true, false, cond}
use mathlib.Core.List.{List, [], ◌∷◌}
use lib.ListN.{length}
use lib.Seq.{sets, sets-eq}
use borrow.Author.Tests.{leb-true, le-leb, lt-leb}
use Rattle.std.specs.Prelude.{Ok, Err}
use Rattle.types.specs.declared.rejection.Rejection.{Rejection}
use Rattle.types.specs.declared.rejection.Rejection.TheVariants.{OutputLength}
use Rattle.types.specs.Rejections.{Written, rejection_number, answered, answer_count, answer_number}
use Rattle.model.specs.Checks.{first_of, ◌or_else◌}
use Rattle.model.specs.Layout.{shards_of, is_state_length}
use Rattle.model.specs.WellFormed.{well_formed}
use Rattle.model.specs.Replay.{replay_rejection}
use Rattle.types.proofs.Rejections.{number_positive}
use Rattle.model.proofs.Checks.{passed as all_passed}
use Rattle.model.proofs.Results.{first_below}
use Rattle.wellformed.specs.Checked.{checked}
use Rattle.wellformed.proofs.Checked.{check_passed, check_rejected}
use Rattle.lookup.proofs.Formed.{formed_of}
use Rattle.stable_entries.specs.Listing.{has_room, listing_of, after_listing_of}
use Rattle.stable_entries.proofs.Listings.{rejects, told}
use Rattle.csv_rows.specs.Csv.{csv, csv_rejection, csv_count, csv_writing, after_csv}
use Rattle.csv_rows.specs.Room.{FormedOf}

module _ (w out : List ℕ) where
  -- in numbers and as a value
  abbrev Answers : Written → List ℕ → Type 0
  Answers r v =
      (answer_number r ≡ csv_rejection w out) × ((answer_count r ≡ csv_count w out) × ((r ≡ csv_writing w out) × (v ≡ after_csv w out)))

  answers : {r : Written} {v : List ℕ} → (r ≡ csv_writing w out) × (v ≡ after_csv w out) → Answers r v
  unfolding csv_writing csv_count after_csv csv_rejection has_room listing_of
  answers e =
      told (csv_rejection w out) (csv w) out
      (first_below (is_state_length (length w) or_else 1 ∷ well_formed w or_else 9 ∷ has_room (csv w) out ∷ []) refl) e.0 e.1

  -- a rejection leaves the output
  rejected : (r : Rejection) → csv_rejection w out ≡ rejection_number r → Answers (Err r) out
  unfolding csv_writing after_csv listing_of
  rejected r e = answers (rejects r (csv w) out e)

  -- the state does not pass its tests
  pub rejects_state : {r : Rejection} → Err r ≡ checked w → Answers (Err r) out
  unfolding csv_rejection replay_rejection first_of
  rejects_state {r} e =
      let f = check_rejected w e in
      rejected r (first_fails (is_state_length (length w)) (well_formed w) _ (λ z. number_positive r (f ∙ z)) ∙ sym f)
    where
      first_fails : (a b : Bool) (k : ℕ) → (cond a (cond b 0 9) 1 ≡ zero → ⊥) → cond a (cond b k 9) 1 ≡ cond a (cond b 0 9) 1
      first_fails true true k n = absurd (n refl)
      first_fails true false k n = refl
      first_fails false b k n = refl

  -- a state that passed the tests
  pub passed : {n : ℕ} → Ok n ≡ checked w → FormedOf w n
  unfolding replay_rejection is_state_length
  passed e =
      let n = check_passed w e in
      let p = all_passed (is_state_length (length w) or_else 1 ∷ well_formed w or_else 9 ∷ []) refl n.1 in
      let several : 2 ≤ shards_of (length w) = leb-true 2 (shards_of (length w)) p.0 in
      record { formed = formed_of w (λ q. omega (arith, several, q)) p.1.0; shards = n.0 }

  -- of a well-formed state
  module _ {n : ℕ} (f : FormedOf w n) where
    long : is_state_length (length w) ≡ true
    unfolding is_state_length
    long = le-leb 2 (shards_of (length w)) f.formed.several

    pub rejects_room : length out < length (csv w) → Answers (Err OutputLength) out
    unfolding csv_rejection first_of has_room
    rejects_room r = rejected OutputLength (simp (long, f.formed.formed, lt-leb (length (csv w)) (length out) r))

    module _ (r : length (csv w) ≤ length out) where
      accepted : csv_rejection w out ≡ 0
      unfolding csv_rejection first_of has_room
      accepted = simp (long, f.formed.formed, le-leb (length (csv w)) (length out) r)

      pub writes : {k : ℕ} {v : List ℕ} → k ≡ length (csv w) → v ≡ sets out 0 (csv w) → Answers (Ok k) v
      unfolding csv_writing answered after_csv after_listing_of
      writes e g =
          answers (rw (accepted, e), rw (accepted, g, sets-eq (csv w) out 0 (omega (arith, r))) (rw (zero-add (length (csv w)))))
