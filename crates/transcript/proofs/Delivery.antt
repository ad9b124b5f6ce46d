-- A text that stands at the start of a space, handed to an output.
-- Assumes nothing.
use Rattle.std.specs.Prelude.{Ok, Err}
use Rattle.types.specs.declared.rejection.Rejection.TheVariants.{OutputLength}
use Rattle.types.specs.Rejections.{Written, numbered, answered, answer_count, answer_number}
use Prim.Native.Nat.{ℕ, ◌+◌, ◌≤◌, ◌<◌}
use native.Mathlib.Nat.{zero-add}
use native.Mathlib.Omega.{arith}
use mathlib.Core.Path.{◌≡◌, refl, ◌∙◌}
use mathlib.Core.List.{List, [], ◌∷◌}
use native.Mathlib.Decide.{dec_le}
use lib.Dec.{leb}
use lib.ListN.{length, take, drop, replicate, length-replicate, length-append, length-drop}
use lib.Seq.{sets, sets-eq, take_at, length-sets}
use borrow.Author.Tests.{le-leb, lt-leb}
use Rattle.model.specs.Checks.{first_of, ◌or_else◌}
use Rattle.model.specs.Results.{count_beside}
use Rattle.model.specs.Transcript.{transcript}
use Rattle.model.proofs.Results.{first_below, counted}
use Rattle.transcript.specs.LargestText.{text_most}
use Rattle.transcript.proofs.LargestText.{text_most_lem}
use Rattle.transcript.specs.Text.{text_rejection, text_count, text_writing, after_text}

-- a space of 42,232 bytes has room for every text, and so has a longer one
pub any_fits : (log out : List ℕ) → text_most ≤ length out → length (transcript log) ≤ length out
any_fits log out h = omega (arith, text_most_lem log)

pub space_fits : (log : List ℕ) → length (transcript log) ≤ length (replicate {A = ℕ} text_most 0)
space_fits log = rw (length-replicate {A = ℕ} text_most 0) (text_most_lem log)

-- a text written at the start is the start
pub written_first : (space text : List ℕ) → length text ≤ length space → take (length text) (sets space 0 text) ≡ text
written_first space text h =
    rw (sets-eq text space 0 (omega (arith, h))) (take_at text (drop (0 + length text) space) (length text) refl)

-- a text that was written to a space
module _ (log : List ℕ) {last : List ℕ} {n : ℕ} (e : n ≡ length (transcript log))
    (f : last ≡ sets (replicate {A = ℕ} text_most 0) 0 (transcript log)) where
  pub written_room : n ≤ length last
  written_room = rw (f, length-sets (replicate {A = ℕ} text_most 0) 0 (transcript log), e) (space_fits log)

  pub written_text : take n last ≡ transcript log
  written_text = rw (e, f) (written_first (replicate {A = ℕ} text_most 0) (transcript log) (space_fits log))

-- ---- what is answered and left

module _ (out text : List ℕ) where
  pub fits : length text ≤ length out → text_rejection out text ≡ 0
  unfolding text_rejection first_of
  fits l = rw (le-leb (length text) (length out) l)

  pub no_room : length out < length text → text_rejection out text ≡ 8
  unfolding text_rejection first_of
  no_room l = rw (lt-leb (length text) (length out) l)

  -- in numbers and as a value
  pub told : {r : Written} {v : List ℕ} → (r ≡ text_writing out text) × (v ≡ after_text out text)
      → (answer_number r ≡ text_rejection out text)
      × ((answer_count r ≡ text_count out text) × ((r ≡ text_writing out text) × (v ≡ after_text out text)))
  unfolding text_writing text_count text_rejection
  told e = let c = counted (text_rejection out text) text (first_below (leb (length text) (length out) or_else 8 ∷ []) refl) e.0 in (c.0, (c.1, e))

  -- a text that was written to the start of an output with room for it
  pub written : length text ≤ length out → {n : ℕ} {v : List ℕ} → (n ≡ length text) × (v ≡ sets out 0 text)
      → (Ok n ≡ text_writing out text) × (v ≡ after_text out text)
  unfolding text_writing answered after_text
  written l e =
      let f = fits l in
      (rw (f, e.0), e.1 ∙ sets-eq text out 0 (omega (arith, l)) ∙ rw (f, zero-add (length text)))

  pub accepts : length text ≤ length out → answered (text_rejection out text) (length text) ≡ Ok (length text)
  unfolding answered
  accepts l = rw (fits l)

  pub rejects : length out < length text → answered (text_rejection out text) (length text) ≡ Err OutputLength
  unfolding answered numbered
  rejects l = rw (no_room l)

  -- an output keeps its length
  pub text_kept : length (after_text out text) ≡ length out
  unfolding after_text
  text_kept =
      elim (dec_le (length text) (length out)) [
        | yes l ↦
            rw (fits l, length-append text (drop (length text) out), length-drop (length text) out) (omega (arith, l))
        | no l ↦ rw (no_room (omega (arith, l)))
      ]

  -- a text that was written fits the output
  pub fits_output : {n : ℕ} → n ≡ text_count out text → n ≤ length out
  unfolding text_count count_beside
  fits_output e =
      elim (dec_le (length text) (length out)) [
        | yes l ↦ omega (arith, l, rw (fits l) at e)
        | no l ↦ omega (arith, rw (no_room (omega (arith, l))) at e)
      ]

-- with these the check finds by itself what is answered and left where a text is handed over
pub ruleset handed_over = (fits, no_room, accepts, rejects)
