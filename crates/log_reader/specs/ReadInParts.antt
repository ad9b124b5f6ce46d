-- Reading a step in parts: its kind, then one number after the other.
use Rattle.std.specs.Prelude.{Result, Ok, Err}
use Rattle.types.specs.declared.rejection.Rejection.{Rejection}
use Rattle.types.specs.declared.rejection.Rejection.TheVariants.{KeptKind, UnknownKind}
use Rattle.model.specs.Log.{ReadStep, one_step}
use Rattle.std.specs.Prelude.{ℕ, ◌+◌, ◌≡◌, cond, List, [], ◌++◌, drop}
use Rattle.types.specs.Kinds.{kind_of, is_kept, is_unknown, used_numbers}
use Rattle.model.specs.Log.{step_of}
use Rattle.model.specs.Numbers.{ReadNumber, Numbers, values, rejected, read_number, read_numbers}
use Rattle.log_reader.specs.declared.Reader.{Reader}

-- the step of kind k with the numbers `prior` and those read at a position, with the position after them
unfoldable pub with_prior : ℕ → List ℕ → ℕ → Numbers → ReadStep
with_prior k prior at (values vs m) = one_step (step_of k (prior ++ vs)) (at + m)
with_prior k prior at (rejected r) = Err r

-- what is read at a position where a step's kind was read before it
unfoldable pub kind_at : List ℕ → ℕ → ℕ → ReadStep
kind_at log at k =
    cond (is_kept (kind_of k)) (Err KeptKind)
    (cond (is_unknown (kind_of k)) (Err UnknownKind) (with_prior k [] at (read_numbers (used_numbers (kind_of k)) (drop at log))))

-- the value of a number that was read, or its rejection
unfoldable pub taken_value : ReadNumber → Result ℕ Rejection
taken_value (Ok read) = Ok read.value
taken_value (Err r) = Err r

-- how many bytes it has, 0 where it was rejected
unfoldable pub taken_bytes : ReadNumber → ℕ
taken_bytes (Ok read) = read.bytes
taken_bytes (Err r) = 0

-- x is the number that the reader a comes to, or its rejection, and b is a after it
pub record Taken (a : Reader) (x : Result ℕ Rejection) (b : Reader) : Type 0 where
  pub log : b.log.now ≡ a.log.now
  pub value : x ≡ taken_value (read_number (drop a.at a.log.now))
  pub position : b.at ≡ a.at + taken_bytes (read_number (drop a.at a.log.now))
