-- Parts that are appended to a text one after the other. Assumes nothing.
use Rattle.std.proofs.Common.{ℕ, ◌+◌, ◌≤◌, ◌≡◌, List, length, length-append, sym, ◌∙◌, arith}
use Rattle.std.proofs.lemmas.List.Edits.{sets, sets-eq}
use Rattle.std.proofs.lemmas.Slice.{put_mid-paste}
use Rattle.std.proofs.lemmas.List.{take_all}
use borrow.Rule.Slice.PartMut.{put_mid}
use Rattle.model.proofs.StoreRuns.{sets-append}

-- a part of an output that holds bytes now
pub put_at : (xs ys bytes : List ℕ) (at k : ℕ) → k ≡ length bytes → at + k ≤ length xs → ys ≡ bytes → put_mid at k xs ys ≡ sets xs at bytes
put_at xs ys bytes at k n h e =
    put_mid-paste at k xs ys bytes (length bytes) e (omega arith) (omega arith)
    ∙ rw (take_all (length bytes) bytes (omega arith)) (sym (sets-eq bytes xs at (omega arith)))

-- with these the check finds by itself that parts have room, and that they are the whole
pub ruleset appending = (length-append, sets-append, put_at)
