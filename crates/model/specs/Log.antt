-- Reading steps (document 01, "Log and run": "A log is steps end to end, kind then the used numbers").
use Rattle.std.specs.Prelude.{ℕ, zero, suc, ◌+◌, Bool, true, false, cond, List, [], ◌∷◌, get_or, drop, Option, Some, None, Result, Ok, Err}
use Rattle.types.specs.declared.Reading.{Reading}
use Rattle.types.specs.declared.rejection.Rejection.{Rejection}
use Rattle.types.specs.declared.rejection.Rejection.TheVariants.{KeptKind, UnknownKind}
use Rattle.types.specs.declared.Stop.{Stop}
use Rattle.types.specs.declared.Stop.TheVariants.{Ended, Spent, Damaged}
use Rattle.types.specs.declared.step.Step.{Step}
use Rattle.types.specs.Kinds.{kind_of, is_kept, is_unknown, used_numbers}
use Rattle.model.specs.Numbers.{ReadNumber, Numbers, values, rejected, read_number, read_numbers}

-- a step of its kind and its used numbers; "a number its kind does not use is 0"
unfoldable pub step_of : ℕ → List ℕ → Step
step_of k ns = record { kind = k; a = get_or ns 0 0; b = get_or ns 1 0; c = get_or ns 2 0; d = get_or ns 3 0 }

-- what reading a step gives: the step with the count of its bytes or the position after it, nothing at the end, or the rejection
abbrev pub ReadStep : Type 0
ReadStep = Result (Option Reading) Rejection

abbrev pub one_step : Step → ℕ → ReadStep
one_step s n = Ok (Some (record { step = s; next = n }))

unfoldable pub after_numbers : ℕ → ℕ → Numbers → ReadStep
after_numbers k n (values vs m) = one_step (step_of k vs) (n + m)
after_numbers k n (rejected r) = Err r

-- "3 or 4 once the kind is read"
unfoldable pub after_kind : List ℕ → ReadNumber → ReadStep
after_kind bs (Ok read) =
    cond (is_kept (kind_of read.value)) (Err KeptKind)
    (cond (is_unknown (kind_of read.value)) (Err UnknownKind)
    (after_numbers read.value read.bytes (read_numbers (used_numbers (kind_of read.value)) (drop read.bytes bs))))
after_kind bs (Err r) = Err r

-- the step at the start of the bytes, with its count of bytes; "No bytes left is the end and no refusal."
unfoldable pub read_step : List ℕ → ReadStep
read_step [] = Ok None
read_step (b ∷ bs) = after_kind (b ∷ bs) (read_number (b ∷ bs))

-- the step at a position of a log, with the position after it
unfoldable pub from : ℕ → ReadStep → ReadStep
from at (Ok (Some read)) = one_step read.step (at + read.next)
from at (Ok None) = Ok None
from at (Err r) = Err r

unfoldable pub read_at : List ℕ → ℕ → ReadStep
read_at log at = from at (read_step (drop at log))

-- the steps that a run with a budget tries, how it stops, and the bytes of whole steps
pub record Log : Type 0 where
  pub steps : List Step
  pub stop : Stop
  pub bytes : ℕ

unfoldable pub with_step : Step → ℕ → Log → Log
with_step s n l = record { steps = s ∷ l.steps; stop = l.stop; bytes = n + l.bytes }

unfoldable pub stopped : Stop → Log
stopped x = record { steps = []; stop = x; bytes = 0 }

unfoldable pub is_empty : List ℕ → Bool
is_empty [] = true
is_empty (b ∷ bs) = false

unfoldable pub log_after : ReadStep → (ℕ → Log) → Log
log_after (Ok (Some read)) more = with_step read.step read.next (more read.next)
log_after (Ok None) more = stopped Ended
log_after (Err r) more = stopped (Damaged r)

-- "It stops as ended (no bytes left, tested first), spent (budget steps tried) or damaged (3 to 6, the number told)."
unfoldable pub read_log : ℕ → List ℕ → Log
read_log zero bs = stopped (cond (is_empty bs) Ended Spent)
read_log (suc budget) bs = log_after (read_step bs) (λ n. read_log budget (drop n bs))
