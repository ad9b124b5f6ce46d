-- Whole logs read back to the steps that were written, and their bytes are the only ones that read to them (`log_round_trip`). Assumes nothing.
use Rattle.std.specs.Prelude.{Ok, Err, Some, None}
use Rattle.model.specs.Log.{ReadStep}
use Prim.Native.Nat.{ℕ, zero, suc, ◌+◌, ◌≤◌, zero-le}
use native.Mathlib.Omega.{arith}
use mathlib.Core.Path.{◌≡◌, refl, sym, ap, ◌∙◌}
use mathlib.Core.Bool.{true, cond}
use mathlib.Core.List.{List, [], ◌∷◌}
use lib.ListN.{length, take, drop, length-append, length-drop}
use lib.Seq.{drop-append_seam, drop-drop, take-add}
use Rattle.types.specs.declared.Stop.{Stop}
use Rattle.types.specs.declared.Stop.TheVariants.{Ended, Spent}
use Rattle.types.specs.declared.step.Step.{Step}
use Rattle.model.specs.Log.{Log, read_step, read_log, log_after, with_step, stopped, is_empty}
use Rattle.model.specs.Tests.{all_of}
use Rattle.model.specs.Writer.{step_bytes}
use Rattle.model.specs.LogRoundTrip.{log_bytes, AllWritable, none, next, whole_log, EncodedLog, Stops, ended, spent, damaged, LogRoundTrip}
use Rattle.model.proofs.AllOf.{all_drop}
use Rattle.model.proofs.Numbers.{is_byte}
use Rattle.model.proofs.RoundTrip.{Whole, step_read_lem, step_given, none_left}

-- ---- what is written is read

log_read : (ss : List Step) (budget : ℕ) → AllWritable ss → length ss ≤ budget → read_log budget (log_bytes ss) ≡ whole_log ss
unfolding read_log log_bytes whole_log log_after with_step stopped is_empty read_step
log_read [] zero none h = refl
log_read [] (suc budget) none h = refl
log_read (s ∷ ss) zero (next w ws) h = absurd (omega arith)
log_read (s ∷ ss) (suc budget) (next w ws) h =
    rw (
      step_read_lem s (log_bytes ss) w,
      drop-append_seam (step_bytes s) (log_bytes ss),
      log_read ss budget ws (omega arith),
      length-append (step_bytes s) (log_bytes ss),
    )

-- ---- what is read was written

-- what was read of bytes with a budget
record Given (budget : ℕ) (bs : List ℕ) (l : Log) : Type 0 where
  written : all_of is_byte bs ≡ true → EncodedLog (take l.bytes bs) l.steps
  within : l.bytes ≤ length bs
  stop : Stops budget bs l l.stop

none_written : EncodedLog [] []
unfolding log_bytes
none_written = record { writable = none; bytes = refl }

-- a stop before the first step
at_once : {budget : ℕ} {bs : List ℕ} {x : Stop} → Stops budget bs (stopped x) x → Given budget bs (stopped x)
unfolding stopped
at_once s = record { written = λ h. none_written; within = zero-le; stop = s }

-- with no budget, only a log without bytes is at its end
unread : (bs : List ℕ) → Given zero bs (stopped (cond (is_empty bs) Ended Spent))
unfolding is_empty stopped
unread [] = at_once (ended refl zero-le)
unread (b ∷ bs) = at_once (spent (omega arith) refl)

-- one step before what was read of the bytes after it
module _ {bs : List ℕ} {s : Step} {n : ℕ} (g : Whole bs s n) where
  left : length (drop n bs) + n ≡ length bs
  left = simp length-drop (omega (arith, g.within))

  stop_later : {budget : ℕ} {l : Log} {x : Stop} → Stops budget (drop n bs) l x → Stops (suc budget) bs (with_step s n l) x
  unfolding with_step
  stop_later (ended e h) = ended (omega (arith, e, left)) (omega (arith, h))
  stop_later (spent e h) = spent (omega (arith, e, left)) (ap suc h)
  stop_later {l = l} (damaged e h) = damaged (ap read_step (sym (drop-drop l.bytes n bs)) ∙ e) (omega (arith, h))

  step_before : {budget : ℕ} {l : Log} → Given budget (drop n bs) l → Given (suc budget) bs (with_step s n l)
  unfolding with_step log_bytes
  step_before {l = l} r =
      record {
        written = λ h.
            let e = r.written (all_drop is_byte n bs h) in
            record {
              writable = next g.writable e.writable;
              bytes = take-add n l.bytes bs ∙ rw (g.bytes h, e.bytes);
            };
        within = omega (arith, r.within, left);
        stop = stop_later r.stop;
      }

-- every reading of a first step, with what was read of the bytes after it
reading_given : (budget : ℕ) (bs : List ℕ) (more : ℕ → Log) → ((n : ℕ) → Given budget (drop n bs) (more n)) → (r : ReadStep) → read_step bs ≡ r
    → Given (suc budget) bs (log_after r more)
unfolding log_after stopped
reading_given budget bs more rest (Ok (Some read)) q = step_before (step_given bs q) (rest read.next)
reading_given budget bs more rest (Ok None) q = at_once (rw (none_left bs q) (ended refl zero-le))
reading_given budget bs more rest (Err r) q = at_once (damaged q (omega arith))

log_given : (budget : ℕ) (bs : List ℕ) → Given budget bs (read_log budget bs)
unfolding read_log
log_given zero bs = unread bs
log_given (suc budget) bs = reading_given budget bs (λ n. read_log budget (drop n bs)) (λ n. log_given budget (drop n bs)) (read_step bs) refl

pub log_round_trip : LogRoundTrip
log_round_trip =
    record {
      written_is_read = log_read;
      read_is_written = λ budget bs. (log_given budget bs).written;
      within = λ budget bs. (log_given budget bs).within;
      stops = λ budget bs. (log_given budget bs).stop;
    }
