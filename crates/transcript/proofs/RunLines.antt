-- The loop that tries the steps of a log and appends a line for each: its invariant, and its turns.
-- Assumes nothing.
use Prim.Native.Nat.{ℕ, suc, ◌+◌, ◌-◌, ◌<◌}
use native.Mathlib.Omega.{arith}
use mathlib.Core.Path.{◌≡◌, refl, sym, ap, ◌∙◌}
use mathlib.Core.Bool.{cond}
use mathlib.Core.List.{List, [], ◌++◌, append-nil, append_assoc}
use lib.Dec.{eqb}
use lib.ListN.{length, drop, length-append}
use Rattle.types.specs.declared.step.Step.{Step}
use Rattle.types.specs.declared.Stop.{Stop}
use Rattle.model.specs.Steps.{rejection, after}
use Rattle.model.specs.Log.{one_step, read_at, read_log, stopped}
use Rattle.model.specs.Transcript.{step_lines, program_budget}
use Rattle.model.proofs.StoreRuns.{sets-append}
use Rattle.lookup.specs.Ready.{Formed}
use Rattle.replay.specs.Run.{report_of, run_report, after_run}
use Rattle.replay.proofs.Rest.{reads_step, stops}
use Rattle.replay.proofs.Running.{Running, start, turned}
use Rattle.decimal_text.specs.declared.text.Text.{Text}
use Rattle.decimal_text.specs.Appended.{HasRoom, Appended}
use Rattle.transcript.specs.Text.{step_line, run_lines}

-- the lines of the steps that are still to be tried
abbrev lines_left : List ℕ → List ℕ → ℕ → ℕ → List ℕ
lines_left w log at tried = step_lines tried w (read_log (program_budget - tried) (drop at log)).steps

-- the run at one of its turns, and what was appended of its lines
pub record Printing (w₀ log : List ℕ) (first : Text) (w : List ℕ) (t : Text) (at tried rejected : ℕ) : Type 0 where
  pub running : Running w₀ log program_budget w at tried rejected
  pub done : List ℕ
  pub whole : run_lines w₀ log ≡ done ++ lines_left w log at tried
  pub so_far : Appended first done t

pub print_start : (w log : List ℕ) (t : Text) → Formed w → Printing w log t w t 0 0 0
unfolding run_lines
print_start w log t f =
    record {
      running = start w log program_budget f;
      done = [];
      whole = refl;
      so_far = record { same_reference = refl; position = omega arith; kept = refl; written = refl };
    }

module _ {w₀ log : List ℕ} {first : Text} {w : List ℕ} {t : Text} {at tried rejected : ℕ} (x : Printing w₀ log first w t at tried rejected) where
  module _ (s : Step) (next : ℕ) (h : tried < program_budget) (e : read_at log at ≡ one_step s next) (a : ℕ) (p : a ≡ rejection w s) where
    -- the line of the step is the next one
    line : List ℕ
    line = step_line (tried + 1) s.kind a

    one_line : lines_left w log at tried ≡ line ++ lines_left (after w s) log next (tried + 1)
    unfolding line step_line step_lines
    one_line =
        let one : tried + 1 ≡ suc tried = omega arith in
        rw (p, reads_step log program_budget at tried s next h e, one)

    pub print_room : HasRoom first (run_lines w₀ log) → HasRoom t (step_line (tried + 1) s.kind a)
    unfolding line
    print_room r =
        let all = x.whole ∙ ap (λ (l : List ℕ). x.done ++ l) one_line in
        let parts : length (run_lines w₀ log) ≡ length x.done + (length line + length (lines_left (after w s) log next (tried + 1))) =
        ap length all ∙ simp length-append in
        record { room = omega (arith, x.so_far.position, x.so_far.kept, r.room, parts) }

    -- the step was tried and its line appended
    pub print_turn : {w' : List ℕ} {u : Text} {k : ℕ} → w' ≡ after w s → Appended t (step_line (tried + 1) s.kind a) u
        → k ≡ rejected + cond (eqb a 0) 0 1 → Printing w₀ log first w' u next (tried + 1) k
    unfolding line
    print_turn q l c =
        record {
          running = turned x.running s next h e a p q c;
          done = x.done ++ line;
          whole = rw q
              (x.whole ∙ ap (λ (l : List ℕ). x.done ++ l) one_line ∙ sym (append_assoc x.done line (lines_left (after w s) log next (tried + 1))));
          so_far = record {
            same_reference = l.same_reference ∙ x.so_far.same_reference;
            position = simp length-append (omega (arith, x.so_far.position, l.position));
            kept = l.kept ∙ x.so_far.kept;
            written = l.written ∙ rw (x.so_far.written, x.so_far.position) (sym (sets-append x.done line first.out.now first.at));
          };
        }

  -- the definition stops here
  pub print_stops : {how : Stop} → read_log (program_budget - tried) (drop at log) ≡ stopped how
      → (report_of how tried rejected at ≡ run_report w₀ log program_budget)
      × ((w ≡ after_run w₀ log program_budget) × Appended first (run_lines w₀ log) t)
  unfolding stopped step_lines
  print_stops {how} e =
      let d = stops x.running.rest e in
      let all : run_lines w₀ log ≡ x.done = rw e at x.whole ∙ append-nil x.done in
      (d.0, (d.1, rw all x.so_far))
