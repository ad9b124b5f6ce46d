-- A replay that leaves a tally in an output.
-- Assumes nothing.
use Prim.Native.Nat.{ℕ, ◌≤◌, ◌<◌}
use mathlib.Core.Path.{◌≡◌, refl, ap, ◌∙◌}
use mathlib.Core.Bool.{Bool, true, false, cond, ◌&&◌}
use mathlib.Core.List.{List}
use lib.Dec.{eqb, leb}
use lib.ListN.{length}
use lib.Seq.{sets}
use borrow.Author.Tests.{le-leb, lt-leb}
use Rattle.std.specs.Prelude.{Result}
use Rattle.types.specs.declared.Report.{Report}
use Rattle.types.specs.declared.rejection.Rejection.{Rejection}
use Rattle.model.specs.Replay.{replay_rejection, replayed, report, after_replay}
use Rattle.model.specs.Results.{report_number}
use Rattle.tallies.specs.declared.tally.Tally.{Tally}
use Rattle.tallies.specs.Tally.{tally_of, tally_after}
use Rattle.tallies.proofs.TallyCounts.{host_counts_long}
use Rattle.replay.proofs.Whole.{reports}
use Rattle.word_outputs.specs.WordOutputs.{reported_words}
use Rattle.word_outputs.specs.TallyWords.{tally_words, tally_in}
use Rattle.word_outputs.proofs.TallyWords.{in_long, own_words}
use Rattle.word_outputs.specs.TallyOutputs.{tally_answer, tally_state_after, tally_report_after, tally_words_after}
use Rattle.capi.proofs.Reports.{short, told}

-- ---- what a replay leaves of an output's tally
module _ (out : List ℕ) (room : 17 ≤ length out) (w log : List ℕ) (budget : ℕ) where
  pub after_long : {t : Tally} → t ≡ tally_after (tally_in out) w log budget → length t.hosts ≡ 16
  unfolding tally_after tally_of
  after_long e = ap (λ (x : Tally). length x.hosts) e ∙ go (eqb (replay_rejection w) 0)
    where
      go : (b : Bool) → length (cond b (tally_of w (replayed w log budget)) (tally_in out)).hosts ≡ 16
      go true = host_counts_long 16 w (replayed w log budget)
      go false = in_long out room

  words_left : (rep : List ℕ) → 4 ≤ length rep → {t : Tally} → t ≡ tally_after (tally_in out) w log budget
      → {words : List ℕ} → words ≡ sets out 0 (tally_words t) → words ≡ tally_words_after w log budget rep out
  unfolding tally_words_after tally_after
  words_left rep h e {words} q = rw (le-leb 17 (length out) room, le-leb 4 (length rep) h) (go (eqb (replay_rejection w) 0) (q ∙ rw e))
    where
      go : (b : Bool) → words ≡ sets out 0 (tally_words (cond b (tally_of w (replayed w log budget)) (tally_in out)))
          → words ≡ cond b (sets out 0 (tally_words (tally_of w (replayed w log budget)))) out
      go true p = p
      go false p = p ∙ own_words out room

-- ---- the call
abbrev pub Leaves : List ℕ → List ℕ → ℕ → List ℕ → List ℕ → ℕ → List ℕ → List ℕ → List ℕ → Type 0
Leaves w log budget rep out r v report tally =
    (r ≡ tally_answer w log budget rep out)
    × ((v ≡ tally_state_after w log budget rep out)
    × ((report ≡ tally_report_after w log budget rep out) × (tally ≡ tally_words_after w log budget rep out)))

module _ (w log : List ℕ) (budget : ℕ) (rep out : List ℕ) where
  pub no_report : length rep < 4 → Leaves w log budget rep out 8 w rep out
  unfolding tally_answer tally_state_after tally_report_after tally_words_after
  no_report l =
      let s = short w log budget rep l in (
        either (leb 17 (length out)) s.0,
        (either (leb 17 (length out)) s.1.0, (either (leb 17 (length out)) s.1.1, rw (lt-leb 4 (length rep) l) (none (leb 17 (length out))))),
      )
    where
      either : {A : Type 0} (b : Bool) {x y : A} → x ≡ y → x ≡ cond b y x
      either true e = e
      either false e = refl

      none : (b : Bool) → out ≡ cond (b && false && eqb (replay_rejection w) 0) (sets out 0 (tally_words (tally_of w (replayed w log budget)))) out
      none true = refl
      none false = refl

  pub no_tally : length out < 17 → Leaves w log budget rep out 8 w rep out
  unfolding tally_answer tally_state_after tally_report_after tally_words_after
  no_tally l = let f = lt-leb 17 (length out) l in (rw f, (rw f, (rw f, rw f)))

  pub replays_tally : 4 ≤ length rep → 17 ≤ length out → {x : Result Report Rejection} {t : Tally} {v : List ℕ}
      → x ≡ report w log budget → t ≡ tally_after (tally_in out) w log budget → v ≡ after_replay w log budget
      → {r : ℕ} {words counts : List ℕ} → (r ≡ report_number x) × (words ≡ sets rep 0 (reported_words x)) → counts ≡ sets out 0 (tally_words t)
      → Leaves w log budget rep out r v words counts
  unfolding tally_answer tally_state_after tally_report_after
  replays_tally h room p q s c d =
      let t = told w log budget rep h (reports w log budget p s) c in
      let f = le-leb 17 (length out) room in
      (rw f t.0, (rw f t.1.0, (rw f t.1.1, words_left out room w log budget rep h q d)))
