-- A trace that is copied to an output: with too short an output, and from what the trace inside answers.
-- Assumes nothing.
use Prim.Native.Nat.{ℕ, ◌-◌, ◌≤◌, ◌<◌}
use mathlib.Core.Path.{◌≡◌, refl, sym, ap, ◌∙◌}
use mathlib.Core.Bool.{true}
use mathlib.Core.List.{List, ◌∷◌, ◌++◌}
use lib.Dec.{leb, ltb}
use lib.ListN.{length, drop}
use lib.Seq.{sets}
use borrow.Author.Tests.{le-leb, lt-leb}
use Rattle.std.specs.Prelude.{Ok, Err}
use Rattle.types.specs.declared.rejection.Rejection.{Rejection}
use Rattle.types.specs.declared.rejection.Rejection.TheVariants.{OutputLength}
use Rattle.types.specs.Rejections.{Written, rejection_number, answered, answer_number}
use Rattle.types.proofs.Rejections.{answered_number}
use Rattle.model.specs.Checks.{first_of, ◌or_else◌}
use Rattle.model.proofs.Results.{first_below}
use Rattle.stable_entries.specs.Listing.{listing_of, after_listing_of}
use Rattle.stable_entries.proofs.Listings.{rejects}
use Rattle.histories.specs.Traces.{trace_of, trace_rejection, traced}
use Rattle.histories.specs.NamedReplicas.{replica_checks}
use Rattle.word_outputs.specs.WordOutputs.{count_word}
use Rattle.word_outputs.specs.TraceOutputs.{boxes_rejection, boxes_copied, boxes_left, trace_answer, boxes_after, box_count_after}
use Rattle.capi.proofs.Counts.{no_word, counted, count_written}

-- what the call leaves: its answer, its boxes and their count
abbrev Leaves : List ℕ → ℕ → ℕ → ℕ → List ℕ → List ℕ → ℕ → List ℕ → List ℕ → Type 0
Leaves w z i h out count r last after =
    (r ≡ trace_answer w z i h out count) × ((last ≡ boxes_after w z i h out count) × (after ≡ box_count_after w z i h out count))

module _ (w : List ℕ) (z i h : ℕ) (out : List ℕ) where
  abbrev boxes : List ℕ
  boxes = trace_of w z (i - 1) h

  -- what the copy answers, and leaves of the output
  abbrev Copies : Written → List ℕ → Type 0
  Copies r last = (r ≡ boxes_copied w z i h out) × (last ≡ boxes_left w z i h out)

  pub no_room : length out < 7 → Copies (Err OutputLength) out
  unfolding boxes_copied boxes_left boxes_rejection
  no_room l = rejects OutputLength boxes out (rw (lt-leb 7 (length out) l))

  module _ (room : 7 ≤ length out) where
    pub refused : {r : Rejection} → rejection_number r ≡ trace_rejection w z i h → Copies (Err r) out
    unfolding boxes_copied boxes_left boxes_rejection
    refused {r} n = rejects r boxes out (rw (le-leb 7 (length out) room) (sym n))

    pub copied : 0 ≡ trace_rejection w z i h → (before : List ℕ) → {l : List ℕ} → l ≡ traced w z i h before → Copies (Ok (length l)) (l ++ drop (length l) out)
    unfolding boxes_copied boxes_left boxes_rejection listing_of after_listing_of answered traced
    copied n before e = (rw (le-leb 7 (length out) room, ← n, e, ← n), rw (le-leb 7 (length out) room, ← n, e, ← n))

  below : ltb (boxes_rejection w z i h out) 25 ≡ true
  unfolding boxes_rejection trace_rejection replica_checks first_of
  below = first_below (leb 7 (length out) or_else 8 ∷ replica_checks w z i h) refl

  -- the call leaves what the copy does, whose count is written to an output of its own
  pub counts : (count : List ℕ) → 1 ≤ length count → {r : Written} {last : List ℕ} → Copies r last → {n : ℕ} {after : List ℕ}
      → n ≡ answer_number r → after ≡ sets count 0 (count_word r) → Leaves w z i h out count n last after
  unfolding trace_answer boxes_after box_count_after boxes_copied listing_of
  counts count one c e a =
      counted _ _ _ _ _ one (e ∙ ap (answer_number {A = ℕ}) c.0 ∙ answered_number (boxes_rejection w z i h out) (length boxes) below) c.1
      (a ∙ count_written count (boxes_rejection w z i h out) (length boxes) c.0)

pub no_count : (w : List ℕ) (z i h : ℕ) (out count : List ℕ) → length count < 1 → Leaves w z i h out count 8 out count
unfolding trace_answer boxes_after box_count_after
no_count w z i h out count l = no_word _ _ _ _ _ l
