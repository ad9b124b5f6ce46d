-- A log reads to at most one step for each four bytes, whatever the budget, and to no more bytes than it has. Its steps have kinds from 1 to 7,
-- and it stops as ended, as spent, or as damaged with a rejection from 3 to 6. The log may hold any numbers.
-- Assumes nothing.
use Rattle.std.specs.Prelude.{Ok, Err, Some, None}
use Rattle.model.specs.Log.{ReadStep, one_step}
use Prim.Native.Nat.{ℕ, zero, suc, ◌*◌, ◌≤◌}
use native.Mathlib.Omega.{arith}
use mathlib.Core.Path.{◌≡◌, refl}
use mathlib.Core.Bool.{Bool, true, false, cond}
use mathlib.Core.List.{List, [], ◌∷◌}
use lib.ListN.{length, drop, length-drop}
use Rattle.types.specs.declared.Stop.{Stop}
use Rattle.types.specs.declared.Stop.TheVariants.{Ended, Spent, Damaged}
use Rattle.types.specs.declared.step.Step.{Step}
use Rattle.types.specs.Rejections.{rejection_number}
use Rattle.model.specs.Log.{Log, read_step, with_step, stopped, is_empty, log_after, read_log}
use Rattle.model.proofs.RoundTrip.{step_within}
use Rattle.transcript.proofs.StepSizes.{Damage, KnownNumber, step_sized, step_damage}

-- every step has a kind from 1 to 7
abbrev pub KnownKinds : List Step → Type 0
KnownKinds [] = Unit {0}
KnownKinds (s ∷ ss) = KnownNumber s.kind × KnownKinds ss

-- how the reading of a log stops
abbrev pub LogStop : Stop → Type 0
LogStop Ended = Unit {0}
LogStop Spent = Unit {0}
LogStop (Damaged r) = Damage (rejection_number r)

-- what a log of m bytes reads to
pub record SizedLog (m : ℕ) (l : Log) : Type 0 where
  pub steps : 4 * length l.steps ≤ l.bytes
  pub bytes : l.bytes ≤ m
  pub kinds : KnownKinds l.steps
  pub stop : LogStop l.stop

stopped_sized : (m : ℕ) (x : Stop) → LogStop x → SizedLog m (stopped x)
unfolding stopped
stopped_sized m x g = record { steps = omega arith; bytes = omega arith; kinds = tt; stop = g }

step_before :
    (bs : List ℕ) (s : Step) (n : ℕ) → read_step bs ≡ one_step s n → (l : Log) → SizedLog (length (drop n bs)) l
    → SizedLog (length bs) (with_step s n l)
unfolding with_step
step_before bs s n e l g =
    let z = step_sized bs e in
    record {
      steps = omega arith;
      bytes = omega (arith, step_within bs e, length-drop n bs);
      kinds = (z.kind, g.kinds);
      stop = g.stop;
    }

pub log_sized : (budget : ℕ) (bs : List ℕ) → SizedLog (length bs) (read_log budget bs)
unfolding read_log log_after
log_sized zero bs = stopped_sized (length bs) (cond (is_empty bs) Ended Spent) (either (is_empty bs))
  where
    either : (t : Bool) → LogStop (cond t Ended Spent)
    either true = tt
    either false = tt
log_sized (suc budget) bs = go (read_step bs) refl (λ n. log_sized budget (drop n bs))
  where
    go :
        (r : ReadStep) → read_step bs ≡ r → ((n : ℕ) → SizedLog (length (drop n bs)) (read_log budget (drop n bs)))
        → SizedLog (length bs) (log_after r (λ n. read_log budget (drop n bs)))
    go (Ok (Some read)) e more = step_before bs read.step read.next e (read_log budget (drop read.next bs)) (more read.next)
    go (Ok None) e more = stopped_sized (length bs) Ended tt
    go (Err r) e more = stopped_sized (length bs) (Damaged r) (step_damage bs e)

pub log_steps : (budget : ℕ) (bs : List ℕ) → 4 * length (read_log budget bs).steps ≤ length bs
log_steps budget bs = let g = log_sized budget bs in omega arith

pub log_bytes_lem : (budget : ℕ) (bs : List ℕ) → (read_log budget bs).bytes ≤ length bs
log_bytes_lem budget bs = (log_sized budget bs).bytes
