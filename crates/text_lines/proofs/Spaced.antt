-- Numbers with a space before each, one by one.
-- Assumes nothing.
use Rattle.std.proofs.Common.{ℕ, ◌+◌, ◌≤◌, ◌<◌, ◌≡◌, List, [], ◌∷◌, ◌++◌, length, get_or, take, zero, suc, arith, append-nil, append_assoc, length-append, sym}
use Rattle.decimal_text.proofs.Appending.{appending}
use Rattle.model.specs.Transcript.{decimal, spaced, spaced_all}

pub spaced-length : (n : ℕ) → length (spaced n) ≡ length (decimal n) + 1
unfolding spaced
spaced-length n = omega arith

-- the first i + 1 numbers are the first i and one more
pub spaced_more : (numbers : List ℕ) (i : ℕ) → i < length numbers
    → spaced_all (take (i + 1) numbers) ≡ spaced_all (take i numbers) ++ spaced (get_or numbers i 0)
unfolding spaced_all
spaced_more [] i h = absurd (omega arith)
spaced_more (n ∷ ns) zero h = append-nil (spaced n)
spaced_more (n ∷ ns) (suc i) h =
    let next : suc i + 1 ≡ suc (i + 1) = omega arith in
    rw (next, spaced_more ns i (omega arith)) (sym (append_assoc (spaced n) (spaced_all (take i ns)) (spaced (get_or ns i 0))))

-- they have room where all have
pub spaced_room : (numbers : List ℕ) (i : ℕ) → i < length numbers
    → length (spaced_all (take i numbers)) + length (spaced (get_or numbers i 0)) ≤ length (spaced_all numbers)
unfolding spaced_all
spaced_room [] i h = absurd (omega arith)
spaced_room (n ∷ ns) zero h = rw (length-append (spaced n) (spaced_all ns)) (omega arith)
spaced_room (n ∷ ns) (suc i) h =
    rw (length-append (spaced n) (spaced_all (take i ns)), length-append (spaced n) (spaced_all ns)) (omega (arith, spaced_room ns i (omega arith)))

-- with these the check finds by itself that a loop over numbers takes them one by one
pub ruleset number_parts = (appending, spaced_more, spaced_room)
