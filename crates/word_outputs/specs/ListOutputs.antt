-- Lists of entries, each with an output for their count: a zone's stable history, and the stable prefix of one box.
use Rattle.std.specs.Prelude.{ℕ, List, length}
use Rattle.model.specs.StableHistory.{stable_history}
use Rattle.histories.specs.History.{listing_rejection, after_listing}
use Rattle.histories.specs.Prefix.{shown, prefix_rejection, after_prefix}
use Rattle.word_outputs.specs.Counts.{counted_answer, counted_out, count_after}

-- ---- a zone's stable history: the answer, and what is left of the two outputs

unfoldable pub history_answer : List ℕ → ℕ → List ℕ → List ℕ → ℕ
history_answer w z out count = counted_answer count (listing_rejection w z out)

unfoldable pub entries_after : List ℕ → ℕ → List ℕ → List ℕ → List ℕ
entries_after w z out count = counted_out count (after_listing w z out) out

unfoldable pub entry_count_after : List ℕ → ℕ → List ℕ → List ℕ → List ℕ
entry_count_after w z out count = count_after count (listing_rejection w z out) (length (stable_history w z))

-- ---- the stable prefix of box h in index i of zone z: the same

unfoldable pub prefix_answer : List ℕ → ℕ → ℕ → ℕ → List ℕ → List ℕ → ℕ
prefix_answer w z i h out count = counted_answer count (prefix_rejection w z i h out)

unfoldable pub prefix_after : List ℕ → ℕ → ℕ → ℕ → List ℕ → List ℕ → List ℕ
prefix_after w z i h out count = counted_out count (after_prefix w z i h out) out

unfoldable pub prefix_count_after : List ℕ → ℕ → ℕ → ℕ → List ℕ → List ℕ → List ℕ
prefix_count_after w z i h out count = count_after count (prefix_rejection w z i h out) (length (shown w z i h))
