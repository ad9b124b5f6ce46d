-- The trace of a seat, with an output for its boxes and one for their count.
use Rattle.types.specs.Rejections.{Written}
use Rattle.std.specs.Prelude.{ℕ, ◌-◌, cond, List, leb, length}
use Rattle.stable_entries.specs.Listing.{listing_of, after_listing_of}
use Rattle.histories.specs.Traces.{most_hosts, trace_of, trace_rejection}
use Rattle.word_outputs.specs.Counts.{counted_answer, counted_out, count_after}

-- with less room than the most boxes take the answer is 8, before anything else
unfoldable pub boxes_rejection : List ℕ → ℕ → ℕ → ℕ → List ℕ → ℕ
boxes_rejection w z i h out = cond (leb most_hosts (length out)) (trace_rejection w z i h) 8

-- without a count: how many boxes are copied, or the rejection, and what is left of the output
unfoldable pub boxes_copied : List ℕ → ℕ → ℕ → ℕ → List ℕ → Written
boxes_copied w z i h out = listing_of (boxes_rejection w z i h out) (trace_of w z (i - 1) h)

unfoldable pub boxes_left : List ℕ → ℕ → ℕ → ℕ → List ℕ → List ℕ
boxes_left w z i h out = after_listing_of (boxes_rejection w z i h out) (trace_of w z (i - 1) h) out

-- the answer, and what is left of the two outputs
unfoldable pub trace_answer : List ℕ → ℕ → ℕ → ℕ → List ℕ → List ℕ → ℕ
trace_answer w z i h out count = counted_answer count (boxes_rejection w z i h out)

unfoldable pub boxes_after : List ℕ → ℕ → ℕ → ℕ → List ℕ → List ℕ → List ℕ
boxes_after w z i h out count = counted_out count (boxes_left w z i h out) out

unfoldable pub box_count_after : List ℕ → ℕ → ℕ → ℕ → List ℕ → List ℕ → List ℕ
box_count_after w z i h out count = count_after count (boxes_rejection w z i h out) (length (trace_of w z (i - 1) h))
