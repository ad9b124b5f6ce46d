-- What the tests of a length and of a state tell where they pass and where they reject.
use Prim.Native.Nat.{ℕ, ◌≤◌}
use mathlib.Core.Path.{◌≡◌, refl, ap, ◌∙◌}
use mathlib.Core.Bool.{Bool, true, false, cond}
use mathlib.Core.List.{List, [], ◌∷◌}
use lib.Dec.{eqb}
use lib.ListN.{length}
use borrow.Author.Tests.{eqb-true, eqb-false, le-leb}
use Rattle.std.specs.Prelude.{Result, Ok, Err}
use Rattle.types.specs.declared.rejection.Rejection.{Rejection}
use Rattle.types.specs.declared.rejection.Rejection.TheVariants.{StateLength, NotWellFormed}
use Rattle.types.specs.Rejections.{rejection_number, numbered, answered, answer_number}
use Rattle.types.proofs.OkErr.{ok_is, ok_err, err_is, err_ok}
use Rattle.types.proofs.Rejections.{answered_number}
use Rattle.model.specs.Checks.{first_of, ◌or_else◌}
use Rattle.model.specs.Layout.{shards_of, is_state_length}
use Rattle.model.specs.WellFormed.{well_formed}
use Rattle.model.specs.Replay.{replay_rejection}
use Rattle.model.proofs.Lengths.{several}
use Rattle.model.proofs.Results.{first_below}
use Rattle.wellformed.specs.Checked.{shard_count_of, checked}

-- ---- a length

abbrev by_count : ℕ → Bool → Result ℕ Rejection
by_count n t = cond t (Err StateLength) (Ok (shards_of n))

pub count_passed : (l : ℕ) {n : ℕ} → Ok n ≡ shard_count_of l → (n ≡ shards_of l) × (2 ≤ shards_of l)
unfolding shard_count_of
count_passed l {n} e = go (eqb (shards_of l) 0) refl e
  where
    go : (t : Bool) → eqb (shards_of l) 0 ≡ t → Ok n ≡ by_count l t → (n ≡ shards_of l) × (2 ≤ shards_of l)
    go true q f = absurd (ok_err f)
    go false q f = (ok_is f, several l (eqb-false (shards_of l) 0 q))

pub count_rejected : (l : ℕ) {x : Rejection} → Err x ≡ shard_count_of l → (x ≡ StateLength) × (shards_of l ≡ 0)
unfolding shard_count_of
count_rejected l {x} e = go (eqb (shards_of l) 0) refl e
  where
    go : (t : Bool) → eqb (shards_of l) 0 ≡ t → Err x ≡ by_count l t → (x ≡ StateLength) × (shards_of l ≡ 0)
    go true q f = (err_is f, eqb-true (shards_of l) 0 q)
    go false q f = absurd (err_ok f)

-- ---- a state

-- of a length that a state has, the test of its form decides
pub form_decides : (w : List ℕ) → 2 ≤ shards_of (length w) → (t : Bool) → well_formed w ≡ t
    → cond t (Ok (shards_of (length w))) (Err NotWellFormed) ≡ checked w
unfolding checked answered numbered replay_rejection is_state_length first_of
form_decides w h true g = rw (le-leb 2 _ h, g)
form_decides w h false g = rw (le-leb 2 _ h, g)

pub length_decides : (w : List ℕ) → shards_of (length w) ≡ 0 → Err StateLength ≡ checked w
unfolding checked answered numbered replay_rejection is_state_length first_of
length_decides w e = rw e

-- the number of the answer is that of the first check that fails
checked_number : (w : List ℕ) → answer_number (checked w) ≡ replay_rejection w
unfolding checked replay_rejection
checked_number w =
    answered_number (replay_rejection w) (shards_of (length w)) (first_below (is_state_length (length w) or_else 1 ∷ well_formed w or_else 9 ∷ []) refl)

pub check_rejected : (w : List ℕ) {x : Rejection} → Err x ≡ checked w → rejection_number x ≡ replay_rejection w
check_rejected w {x} e = ap (answer_number {A = ℕ}) e ∙ checked_number w

pub check_passed : (w : List ℕ) {n : ℕ} → Ok n ≡ checked w → (n ≡ shards_of (length w)) × (replay_rejection w ≡ 0)
unfolding checked answered
check_passed w {n} e = go (eqb (replay_rejection w) 0) refl e
  where
    go : (t : Bool) → eqb (replay_rejection w) 0 ≡ t → Ok n ≡ cond t (Ok (shards_of (length w))) (Err (numbered (replay_rejection w)))
        → (n ≡ shards_of (length w)) × (replay_rejection w ≡ 0)
    go true q f = (ok_is f, eqb-true (replay_rejection w) 0 q)
    go false q f = absurd (ok_err f)
