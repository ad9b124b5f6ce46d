-- The log's round trip as one claim (the second demand): "Log bytes read to the steps they encode, and steps write to those bytes." It is proved in
-- `proofs/RoundTrip.antt` (`round_trip`).
use Rattle.model.specs.Log.{one_step}
use Rattle.std.specs.Prelude.{ℕ, ◌≤◌, ◌≡◌, true, false, List, ◌++◌, ltb, length, take}
use Rattle.types.specs.declared.step.Step.{Step}
use Rattle.types.specs.Kinds.{kind_of, is_kept, is_unknown}
use Rattle.model.specs.Log.{read_step}
use Rattle.model.specs.Tests.{all_of}
use Rattle.model.specs.Writer.{are_writable, step_bytes}

-- a step that the writer accepts where the output has room: none of the rejections 3, 4 and 7
pub record Writable (s : Step) : Type 0 where
  pub not_kept : is_kept (kind_of s.kind) ≡ false
  pub known : is_unknown (kind_of s.kind) ≡ false
  pub small : are_writable s ≡ true

-- the first n bytes are those of the step s, which the writer accepts
pub record Encoded (bs : List ℕ) (s : Step) (n : ℕ) : Type 0 where
  pub writable : Writable s
  pub within : n ≤ length bs
  pub bytes : take n bs ≡ step_bytes s

pub record RoundTrip : Type 0 where
  -- "steps write to those bytes": what the writer gives for a step reads back to that step, and to no further byte
  pub written_is_read : (s : Step) (rest : List ℕ) → Writable s → read_step (step_bytes s ++ rest) ≡ one_step s (length (step_bytes s))
  -- "Log bytes read to the steps they encode": the bytes read for a step are those that the writer gives for it, and no others
  pub read_is_written :
      (bs : List ℕ) (s : Step) (n : ℕ) → all_of (λ b. ltb b 256) bs ≡ true → read_step bs ≡ one_step s n → Encoded bs s n
