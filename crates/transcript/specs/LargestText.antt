-- The largest text that can occur, as one claim. It is proved in `proofs/LargestText.antt` (`text_most_lem`).
use Rattle.std.specs.Prelude.{ℕ, ◌≤◌, List, length}
use Rattle.model.specs.Transcript.{transcript}

-- at most 4,096 step lines of 10 bytes, two shard lines of 7 bytes and 56 entries of 11 bytes, and a last line of 26 bytes
abbrev pub text_most : ℕ
text_most = 42232

abbrev pub LargestText : Type 0
LargestText = (log : List ℕ) → length (transcript log) ≤ text_most
