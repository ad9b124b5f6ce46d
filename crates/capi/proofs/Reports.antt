-- A replay's answer, state and report: with too short an output, and from what `replay::replay` returns and leaves.
-- Assumes nothing.
use Prim.Native.Nat.{ℕ, ◌≤◌, ◌<◌}
use mathlib.Core.Path.{◌≡◌, refl, ap, ◌∙◌}
use mathlib.Core.Bool.{Bool, true, false, cond}
use mathlib.Core.List.{List}
use lib.Dec.{eqb}
use lib.ListN.{length}
use lib.Seq.{sets}
use borrow.Author.Tests.{le-leb, lt-leb}
use Rattle.std.specs.Prelude.{Result, Ok, Err}
use Rattle.types.specs.declared.Report.{Report}
use Rattle.types.specs.declared.rejection.Rejection.{Rejection}
use Rattle.types.specs.Rejections.{answered}
use Rattle.types.proofs.OkErr.{ok_err, err_ok}
use Rattle.model.specs.Replay.{replay_rejection, report}
use Rattle.model.specs.Results.{report_number, report_code, report_tried, report_rejected, report_bytes}
use Rattle.model.proofs.Results.{Told}
use Rattle.replay.proofs.Whole.{Reports}
use Rattle.word_outputs.specs.WordOutputs.{words_of, reported_words}
use Rattle.word_outputs.specs.Replays.{report_words, replay_answer, state_after, report_after}

-- a report is given where the state is accepted
module _ (w log : List ℕ) (budget : ℕ) where
  made : {y : Report} → Ok y ≡ report w log budget → eqb (replay_rejection w) 0 ≡ true
  unfolding report answered
  made {y} p = go (eqb (replay_rejection w) 0) _ _ p
    where
      go : (t : Bool) (z : Report) (x : Rejection) → Ok y ≡ cond t (Ok z) (Err x) → t ≡ true
      go true z x f = refl
      go false z x f = absurd (ok_err f)

  not_made : {y : Rejection} → Err y ≡ report w log budget → eqb (replay_rejection w) 0 ≡ false
  unfolding report answered
  not_made {y} p = go (eqb (replay_rejection w) 0) _ _ p
    where
      go : (t : Bool) (z : Report) (x : Rejection) → Err y ≡ cond t (Ok z) (Err x) → t ≡ false
      go true z x f = absurd (err_ok f)
      go false z x f = refl

  -- its words
  words_told : {y : Report} → Told (Ok y) w log budget → words_of y ≡ report_words w log budget
  unfolding report_words report_code report_tried report_rejected report_bytes
  words_told t = rw (t.code, t.tried, t.rejected, t.bytes)

module _ (w log : List ℕ) (budget : ℕ) (out : List ℕ) where
  pub short : length out < 4
      → (8 ≡ replay_answer w log budget out) × ((w ≡ state_after w log budget out) × (out ≡ report_after w log budget out))
  unfolding replay_answer state_after report_after
  short h = (rw (lt-leb _ _ h), (rw (lt-leb _ _ h), rw (lt-leb _ _ h)))

  -- what was answered, and the state that is left, put into the output
  pub told : 4 ≤ length out → {x : Result Report Rejection} {v : List ℕ} → Reports w log budget x v → {r : ℕ} {words : List ℕ}
      → (r ≡ report_number x) × (words ≡ sets out 0 (reported_words x))
      → (r ≡ replay_answer w log budget out) × ((v ≡ state_after w log budget out) × (words ≡ report_after w log budget out))
  unfolding replay_answer state_after report_after
  told h {x} {v} e {r} {words} q = (
    rw (le-leb _ _ h) (q.0 ∙ e.0.number),
    (rw (le-leb _ _ h) e.1.1, rw (le-leb _ _ h) (by_answer x e.0 e.1.0 q.1)),
  )
    where
      by_answer : (y : Result Report Rejection) → Told y w log budget → y ≡ report w log budget → words ≡ sets out 0 (reported_words y)
          → words ≡ cond (eqb (replay_rejection w) 0) (sets out 0 (report_words w log budget)) out
      by_answer (Ok y) t p c = rw (made w log budget p) (c ∙ ap (λ (ns : List ℕ). sets out 0 ns) (words_told w log budget t))
      by_answer (Err y) t p c = rw (not_made w log budget p) c
