-- The log: which rejection of a reader, a writer or a replay is told where two apply, and what each answers beside it.
use Rattle.std.specs.Prelude.{◌^◌, ◌≡◌, [], ◌∷◌, replicate}
use Rattle.model.specs.Log.{step_of}
use Rattle.model.specs.Results.{read_rejection, next_read}
use Rattle.model.specs.Transcript.{program_start}
use Rattle.model.specs.Marked.{add, learn, catch_up}
use Rattle.cases.specs.CaseRows.{Reads, Writes, replay_words}
use Rattle.cases.specs.States.{too_short, ill_formed}

-- "Reader: 5 and 6 byte by byte, and 3 or 4 once the kind is read."
pub record ReaderOrder : Type 0 where
  -- 6 in the kind; 3 and 4 before whatever is wrong after it
  pub kind : read_rejection (136 ∷ 0 ∷ []) ≡ 6
  pub kept : (read_rejection (8 ∷ []) ≡ 3) × (read_rejection (8 ∷ 128 ∷ 0 ∷ []) ≡ 3)
  pub unknown : (read_rejection (0 ∷ []) ≡ 4) × (read_rejection (0 ∷ 128 ∷ 0 ∷ []) ≡ 4)
  -- 6 before a 5 in a later number, and where a fifth byte is the last
  pub bytes : (read_rejection (1 ∷ 128 ∷ 0 ∷ []) ≡ 6)
      × (read_rejection (1 ∷ replicate 5 128) ≡ 6)
      × (read_rejection (1 ∷ replicate 4 128) ≡ 5)
  -- a step is read with no more than its bytes; no bytes are the end
  pub step : Reads (3 ∷ 0 ∷ 1 ∷ 1 ∷ 172 ∷ 2 ∷ 9 ∷ []) (learn 0 1 1 300) 6
  pub catches_up : Reads (7 ∷ 1 ∷ 2 ∷ 5 ∷ 3 ∷ 9 ∷ []) (catch_up 1 2 5 3) 5
  pub end : Reads [] (step_of 0 []) 0
  -- the position after the second of two steps, and none at the end
  pub position : (next_read (4 ∷ 0 ∷ 1 ∷ 1 ∷ 4 ∷ 0 ∷ 1 ∷ 1 ∷ []) 4 ≡ 8) × (next_read (4 ∷ 0 ∷ 1 ∷ 1 ∷ []) 4 ≡ 0)

-- "Writer: 3, 4, 7, 8"
pub record WriterOrder : Type 0 where
  pub kept : Writes 0 (step_of 8 (2 ^ 35 ∷ [])) 3 0
  pub unknown : Writes 0 (step_of 0 (2 ^ 35 ∷ [])) 4 0
  pub numbers : Writes 0 (add 0 1 (2 ^ 35)) 7 0
  pub room : Writes 4 (add 0 1 300) 8 0
  pub step : Writes 5 (add 0 1 300) 0 5
  pub catches_up : Writes 5 (catch_up 1 2 5 3) 0 5

-- "First 1, then 9, with nothing tried", also before damaged bytes; "ended (no bytes left, tested first), spent .. or damaged"
pub record ReplayOrder : Type 0 where
  pub wrong_length : replay_words too_short (128 ∷ []) 9 ≡ 1 ∷ 0 ∷ 0 ∷ 0 ∷ 0 ∷ []
  pub form : replay_words ill_formed (128 ∷ []) 9 ≡ 9 ∷ 0 ∷ 0 ∷ 0 ∷ 0 ∷ []
  pub ended : replay_words program_start [] 0 ≡ 0 ∷ 0 ∷ 0 ∷ 0 ∷ 0 ∷ []
  pub spent : replay_words program_start (128 ∷ []) 0 ≡ 0 ∷ 1 ∷ 0 ∷ 0 ∷ 0 ∷ []
  pub damaged : replay_words program_start (4 ∷ 0 ∷ 1 ∷ 1 ∷ 4 ∷ 0 ∷ 1 ∷ 1 ∷ 128 ∷ []) 9 ≡ 5 ∷ 2 ∷ 2 ∷ 1 ∷ 8 ∷ []
