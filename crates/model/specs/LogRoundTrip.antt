-- A whole log's round trip as one claim (document 01: "A log is steps end to end"; the second demand: "Log bytes read to the steps they encode, and steps
-- write to those bytes."). It is proved in `proofs/LogRoundTrip.antt` (`log_round_trip`).
use Rattle.std.specs.Prelude.{ℕ, ◌≤◌, ◌<◌, ◌≡◌, true, List, [], ◌∷◌, ◌++◌, ltb, length, take, drop, Err}
use Rattle.types.specs.declared.rejection.Rejection.{Rejection}
use Rattle.types.specs.declared.Stop.{Stop}
use Rattle.types.specs.declared.Stop.TheVariants.{Ended, Spent, Damaged}
use Rattle.types.specs.declared.step.Step.{Step}
use Rattle.model.specs.Log.{Log, read_step, read_log}
use Rattle.model.specs.Tests.{all_of}
use Rattle.model.specs.Writer.{step_bytes}
use Rattle.model.specs.RoundTrip.{Writable}

-- the bytes of several steps, "end to end"
unfoldable pub log_bytes : List Step → List ℕ
log_bytes [] = []
log_bytes (s ∷ ss) = step_bytes s ++ log_bytes ss

-- several steps that the writer accepts where the output has room
pub data AllWritable : List Step → Type 0 where
  none : AllWritable []
  next : {s : Step} {ss : List Step} → Writable s → AllWritable ss → AllWritable (s ∷ ss)

-- just these steps, all of their bytes, and the end
unfoldable pub whole_log : List Step → Log
whole_log ss = record { steps = ss; stop = Ended; bytes = length (log_bytes ss) }

-- the bytes are those of the steps ss, each of which the writer accepts
pub record EncodedLog (bs : List ℕ) (ss : List Step) : Type 0 where
  pub writable : AllWritable ss
  pub bytes : bs ≡ log_bytes ss

-- how reading bytes bs with a budget stops, where l is what was read by then: "It stops as ended (no bytes left, tested first), spent (budget steps tried)
-- or damaged (3 to 6, the number told)."
pub data Stops (budget : ℕ) (bs : List ℕ) (l : Log) : Stop → Type 0 where
  -- the whole steps are all bytes
  ended : l.bytes ≡ length bs → length l.steps ≤ budget → Stops budget bs l Ended
  -- bytes are left, and no budget
  spent : l.bytes < length bs → length l.steps ≡ budget → Stops budget bs l Spent
  -- what comes after the whole steps is rejected with that number
  damaged : {r : Rejection} → read_step (drop l.bytes bs) ≡ Err r → length l.steps < budget → Stops budget bs l (Damaged r)

pub record LogRoundTrip : Type 0 where
  -- the bytes of any steps that the writer accepts read to just these steps and the end, with any budget that is enough for them
  pub written_is_read : (ss : List Step) (budget : ℕ) → AllWritable ss → length ss ≤ budget → read_log budget (log_bytes ss) ≡ whole_log ss
  -- however reading stops, the "bytes of whole steps read" are the bytes of the steps read, and no others
  pub read_is_written :
      (budget : ℕ) (bs : List ℕ) → all_of (λ b. ltb b 256) bs ≡ true → EncodedLog (take (read_log budget bs).bytes bs) (read_log budget bs).steps
  -- they are bytes of the log, and all of them where it stops as ended
  pub within : (budget : ℕ) (bs : List ℕ) → (read_log budget bs).bytes ≤ length bs
  pub stops : (budget : ℕ) (bs : List ℕ) → Stops budget bs (read_log budget bs) (read_log budget bs).stop
