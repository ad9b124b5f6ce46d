-- How much of a buffer was read or written.
use Rattle.std.specs.Prelude.{◌≡◌, ℕ, ◌≤◌, List, Option, Result, Ok, Err, length, take}
use Rattle.std.specs.Io.KnownBytes.{Appends, Consumes}
use Rattle.penkwadar.specs.declared.input.Unread.{Unread}

-- the first n bytes of xs are within it, and are n
abbrev pub IsPrefixLen : ℕ → List ℕ → Type 0
IsPrefixLen n xs = (n ≤ length xs) × (n ≡ length (take n xs))

-- the known bytes of a reader lose some first bytes of xs, be it none or all
abbrev pub ConsumesSome : Option (List ℕ) → Option (List ℕ) → List ℕ → Type 0
ConsumesSome old new xs = (n : ℕ) × (n ≤ length xs) × Consumes old new (take n xs)

-- how many bytes were read, be it the whole input or not
abbrev pub read_count : Result ℕ Unread → ℕ
read_count (Ok count) = count
read_count (Err unread) = unread.count

-- the known bytes of a writer grow by some first bytes of xs, be it none or all
abbrev pub AppendsSome : Option (List ℕ) → Option (List ℕ) → List ℕ → Type 0
AppendsSome old new xs = (n : ℕ) × (n ≤ length xs) × Appends old new (take n xs)
