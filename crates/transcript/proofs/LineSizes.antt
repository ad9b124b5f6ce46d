-- How long the lines of the text are: step lines by the digits of their numbers, shard lines of a well-formed state, and the last line.
-- Assumes nothing.
use Prim.Native.Nat.{ℕ, suc, ◌+◌, ◌*◌, ◌^◌, ◌≤◌, ◌<◌}
use native.Mathlib.Nat.{mul-suc}
use native.Mathlib.Omega.{arith}
use mathlib.Core.Path.{◌≡◌}
use mathlib.Core.Bool.{Bool, true}
use mathlib.Core.List.{List, [], ◌∷◌}
use lib.ListN.{length, length-append}
use Rattle.std.specs.Prelude.{Ok}
use Rattle.types.specs.Rejections.{rejection_number}
use Rattle.types.specs.declared.Report.{Report}
use Rattle.types.specs.declared.Stop.{Stop}
use Rattle.types.specs.declared.Stop.TheVariants.{Ended, Spent, Damaged}
use Rattle.types.specs.declared.step.Step.{Step}
use Rattle.model.specs.Tests.{all_of}
use Rattle.model.specs.Entries.{is_entry}
use Rattle.model.specs.Steps.{rejection, after}
use Rattle.model.specs.StableHistory.{stable_history}
use Rattle.model.specs.Transcript.{decimal, spaced, spaced_all, step_lines, shard_line, stop_text, last_with, last_line}
use Rattle.model.proofs.AllOf.{all_head, all_tail}
use Rattle.model.proofs.Lengths.{length_of_shards}
use Rattle.model.proofs.WellFormed.{WellFormed}
use Rattle.decimal_text.proofs.DecimalLaws.{decimal_width}
use Rattle.transcript.proofs.LogSizes.{KnownKinds, LogStop}
use Rattle.transcript.proofs.StepAnswers.{rejection_most}
use Rattle.stable_entries.proofs.HistorySizes.{FewEntries, entry_below, stable_few}

-- a space and a number below 10 ^ (k + 1)
pub spaced_width : (k n : ℕ) → n < 10 ^ suc k → length (spaced n) ≤ k + 2
unfolding spaced
spaced_width k n h = omega (arith, decimal_width k n h)

-- each number of a list passes a test that keeps it below 10 ^ (k + 1)
pub spaced_all_width :
    (k : ℕ) (f : ℕ → Bool) → ((n : ℕ) → f n ≡ true → n < 10 ^ suc k) → (ns : List ℕ) → all_of f ns ≡ true
    → length (spaced_all ns) ≤ (k + 2) * length ns
unfolding spaced_all
spaced_all_width k f below [] e = omega arith
spaced_all_width k f below (n ∷ ns) e =
    let first : length (spaced n) ≤ k + 2 = spaced_width k n (below n (all_head f n ns e)) in
    let rest : length (spaced_all ns) ≤ (k + 2) * length ns = spaced_all_width k f below ns (all_tail f n ns e) in
    rw (length-append (spaced n) (spaced_all ns), mul-suc (k + 2) (length ns)) (omega arith)

-- ---- step lines

-- the last number is below 10 ^ (k + 1); kinds have one digit, answers at most two
pub step_lines_width :
    (k n : ℕ) (w : List ℕ) (ss : List Step) → KnownKinds ss → n + length ss < 10 ^ suc k
    → length (step_lines n w ss) ≤ (k + 7) * length ss
unfolding step_lines
step_lines_width k n w [] g h = omega arith
step_lines_width k n w (s ∷ ss) g h =
    let number : length (decimal (suc n)) ≤ suc k = decimal_width k (suc n) (omega arith) in
    let kind : length (spaced s.kind) ≤ 2 = spaced_width 0 s.kind (omega (arith, g.0.most)) in
    let answer : length (spaced (rejection w s)) ≤ 3 = spaced_width 1 (rejection w s) (omega (arith, rejection_most w s)) in
    let rest : length (step_lines (suc n) (after w s) ss) ≤ (k + 7) * length ss = step_lines_width k (suc n) (after w s) ss g.1 (omega arith) in
    simp (length-append, mul-suc (k + 7) (length ss)) (omega arith)

-- ---- a shard line

-- 7 bytes and 56 entries of 11 bytes
pub shard_line_most : {Z : ℕ} {w : List ℕ} → WellFormed Z w → (z : ℕ) → z < Z → length (shard_line w z) ≤ 623
unfolding shard_line
shard_line_most {Z} {w} f z h =
    let few : FewEntries Z (stable_history w z) = stable_few f z h in
    let number : length (spaced z) ≤ 2 = spaced_width 0 z (omega (arith, (length_of_shards w Z f.shards f.several).1)) in
    let entries : length (spaced_all (stable_history w z)) ≤ 11 * length (stable_history w z) =
    spaced_all_width 9 (is_entry Z) (λ e p. omega (arith, entry_below Z e p)) (stable_history w z) few.entries in
    simp length-append (omega arith)

-- ---- the last line

stop_width : (x : Stop) → LogStop x → length (stop_text x) ≤ 9
unfolding stop_text
stop_width Ended g = omega arith
stop_width Spent g = omega arith
stop_width (Damaged r) g = let number : length (spaced (rejection_number r)) ≤ 2 = spaced_width 0 (rejection_number r) (omega arith) in omega arith

-- counts of steps below 10 ^ (k + 1), of bytes below 10 ^ (m + 1)
pub last_line_width :
    (k m : ℕ) (r : Report) → LogStop r.stop → r.tried < 10 ^ suc k → r.rejected < 10 ^ suc k → r.bytes < 10 ^ suc m
    → length (last_line (Ok r)) ≤ 16 + k + k + m
unfolding last_line last_with
last_line_width k m r g a b c =
    let stop : length (stop_text r.stop) ≤ 9 = stop_width r.stop g in
    let tried : length (spaced r.tried) ≤ k + 2 = spaced_width k r.tried a in
    let rejected : length (spaced r.rejected) ≤ k + 2 = spaced_width k r.rejected b in
    let bytes : length (spaced r.bytes) ≤ m + 2 = spaced_width m r.bytes c in
    simp length-append (omega arith)
