-- The answer and output of the step reader: with too short an output, and from what the readers return.
-- Assumes nothing.
use Rattle.types.specs.declared.rejection.Rejection.{Rejection}
use Rattle.types.specs.Rejections.{rejection_number, answer_number}
use Rattle.types.proofs.Rejections.{number_not_0}
use Rattle.std.specs.Prelude.{Err}
use Rattle.model.specs.Log.{ReadStep}
use Prim.Native.Nat.{ℕ, ◌≤◌, ◌<◌}
use mathlib.Core.Path.{◌≡◌, sym, ◌∙◌}
use mathlib.Core.List.{List}
use lib.ListN.{length, drop}
use lib.Seq.{sets}
use borrow.Author.Tests.{le-leb, lt-leb}
use Rattle.model.specs.Log.{read_at}
use Rattle.model.specs.Results.{reading_step, reading_next, read_rejection}
use Rattle.model.proofs.Results.{reads_at}
use Rattle.word_outputs.specs.WordOutputs.{step_words}
use Rattle.word_outputs.specs.StepOutputs.{read_answer, step_after}

module _ (log : List ℕ) (at : ℕ) (step : List ℕ) where
  pub read_short : length step < 6 → (8 ≡ read_answer log at step) × (step ≡ step_after log at step)
  unfolding read_answer step_after
  read_short h = (rw (lt-leb _ _ h), rw (lt-leb _ _ h))

  module _ (h : 6 ≤ length step) where
    -- a step, or the end
    pub read : {x : ReadStep} {words : List ℕ} → x ≡ read_at log at → answer_number x ≡ 0 → words ≡ sets step 0 (step_words (reading_step x) (reading_next x))
        → (0 ≡ read_answer log at step) × (words ≡ step_after log at step)
    unfolding read_answer step_after
    read e z q =
        let r = reads_at log at e in
        let n : read_rejection (drop at log) ≡ 0 = sym r.0 ∙ z in
        (rw (le-leb _ _ h, n), rw (le-leb _ _ h, n, ← r.1.0, ← r.1.1.0) q)

    pub read_rejected : {r : Rejection} → read_at log at ≡ Err r → (rejection_number r ≡ read_answer log at step) × (step ≡ step_after log at step)
    unfolding read_answer step_after
    read_rejected {r} e =
        let n : read_rejection (drop at log) ≡ rejection_number r = sym (reads_at log at (sym e)).0 in
        (rw (le-leb _ _ h, n), rw (le-leb _ _ h, n, number_not_0 r))
