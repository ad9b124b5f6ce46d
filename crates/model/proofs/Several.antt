-- Several numbers of a log, end to end, read back to what was written, and their bytes are the only ones that read to them. Assumes nothing.
use Rattle.std.specs.Prelude.{Ok, Err}
use Rattle.model.specs.Numbers.{ReadNumber, valued}
use Prim.Native.Nat.{ℕ, zero, suc, ◌≤◌}
use native.Mathlib.Omega.{arith}
use mathlib.Core.Path.{◌≡◌, refl, ap}
use mathlib.Core.Bool.{true}
use mathlib.Core.List.{List, [], ◌∷◌, ◌++◌, append_assoc}
use lib.ListN.{length, take, drop, length-append, length-drop}
use lib.Seq.{drop-append_seam, take-add}
use borrow.Author.Tests.{ltb-true, lt-ltb}
use Rattle.model.specs.Numbers.{Numbers, values, rejected, read_number, read_numbers, with_first, after_first, number_bytes, numbers_bytes}
use Rattle.model.specs.Tests.{all_of}
use Rattle.model.specs.Writer.{is_writable}
use Rattle.model.proofs.AllOf.{all_head, all_tail, all_cons, all_drop}
use Rattle.model.proofs.Numbers.{is_byte, number_read, number_within, number_below, number_written}

pub numbers_read :
    (ns rest : List ℕ) → all_of is_writable ns ≡ true
    → read_numbers (length ns) (numbers_bytes ns ++ rest) ≡ values ns (length (numbers_bytes ns))
unfolding read_numbers after_first with_first numbers_bytes is_writable
numbers_read [] rest e = refl
numbers_read (n ∷ ns) rest e =
    let more = numbers_read ns rest (all_tail is_writable n ns e) in
    rw (
      append_assoc (number_bytes n) (numbers_bytes ns) rest,
      number_read n (numbers_bytes ns ++ rest) (ltb-true _ _ (all_head is_writable n ns e)),
      drop-append_seam (number_bytes n) (numbers_bytes ns ++ rest),
      more,
      length-append (number_bytes n) (numbers_bytes ns),
    )

-- what reading the numbers vs in m bytes tells
pub record Several (count : ℕ) (bs vs : List ℕ) (m : ℕ) : Type 0 where
  pub counted : length vs ≡ count
  pub within : m ≤ length bs
  pub small : all_of is_writable vs ≡ true
  pub bytes : all_of is_byte bs ≡ true → take m bs ≡ numbers_bytes vs

-- the same of any result: a rejection tells nothing
abbrev pub GivenNumbers : ℕ → List ℕ → Numbers → Type 0
GivenNumbers count bs (values vs m) = Several count bs vs m
GivenNumbers count bs (rejected r) = Unit {0}

-- a number before several that were read
first_given :
    (count : ℕ) (bs : List ℕ) (v n : ℕ) → read_number bs ≡ valued v n → (r : Numbers) → GivenNumbers count (drop n bs) r
    → GivenNumbers (suc count) bs (with_first v n r)
unfolding with_first is_writable numbers_bytes
first_given count bs v n e (values vs m) g =
    let here : n ≤ length bs = number_within bs e in
    record {
      counted = ap suc g.counted;
      within = omega (arith, simp length-drop at g.within);
      small = all_cons is_writable v vs (lt-ltb _ _ (number_below bs e)) g.small;
      bytes = λ h. rw (take-add n m bs, number_written bs e h, g.bytes (all_drop is_byte n bs h));
    }
first_given count bs v n e (rejected r) g = tt

-- every result, by the count of numbers
pub numbers_result : (count : ℕ) (bs : List ℕ) → GivenNumbers count bs (read_numbers count bs)
unfolding read_numbers after_first all_of numbers_bytes
numbers_result zero bs = record { counted = refl; within = omega arith; small = refl; bytes = λ h. refl }
numbers_result (suc count) bs = go (read_number bs) refl (λ n. numbers_result count (drop n bs))
  where
    go :
        (r : ReadNumber) → read_number bs ≡ r → ((n : ℕ) → GivenNumbers count (drop n bs) (read_numbers count (drop n bs)))
        → GivenNumbers (suc count) bs (after_first r (λ n. read_numbers count (drop n bs)))
    go (Ok read) e more = first_given count bs read.value read.bytes e (read_numbers count (drop read.bytes bs)) (more read.bytes)
    go (Err r) e more = tt

pub numbers_given : (count : ℕ) (bs : List ℕ) {vs : List ℕ} {m : ℕ} → read_numbers count bs ≡ values vs m → Several count bs vs m
numbers_given count bs e = rw e at (numbers_result count bs)
