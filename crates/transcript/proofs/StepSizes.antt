-- A step that is read has at least four bytes and a kind from 1 to 7, and a rejection of a log is 3 to 6. The log may hold any numbers.
-- Assumes nothing.
use Rattle.std.specs.Prelude.{Ok, Err, Some, None}
use Rattle.types.specs.declared.rejection.Rejection.{Rejection}
use Rattle.types.specs.declared.rejection.Rejection.TheVariants.{KeptKind, UnknownKind, NumberForm}
use Rattle.types.specs.Rejections.{rejection_number}
use Rattle.model.specs.Numbers.{ReadNumber, valued}
use Rattle.model.specs.Log.{ReadStep, one_step}
use Prim.Native.Nat.{ℕ, zero, suc, ◌%◌, ◌≤◌}
use native.Mathlib.Omega.{arith}
use mathlib.Core.Logic.{⊎_elim}
use mathlib.Core.Path.{◌≡◌, refl}
use mathlib.Core.Bool.{Bool, true, false, cond, not, ◌&&◌, true≢false}
use mathlib.Core.List.{List, [], ◌∷◌}
use lib.Dec.{ltb, eqb}
use lib.ListN.{drop}
use Rattle.types.specs.declared.step.Step.{Step}
use Rattle.types.specs.Kinds.{kind_of, is_kept, is_unknown, used_numbers}
use Rattle.model.specs.Numbers.{Numbers, values, rejected, with_lower, read_groups, read_number, with_first, after_first, read_numbers}
use Rattle.model.specs.Log.{step_of, after_numbers, after_kind, read_step}
use Rattle.types.proofs.KindNumbers.{used_cases, kind_below}

-- "damaged (3 to 6 ..)"
pub record Damage (r : ℕ) : Type 0 where
  pub least : 3 ≤ r
  pub most : r ≤ 6

-- ---- a number has at least one byte

abbrev SizedNumber : ReadNumber → Type 0
SizedNumber (Ok read) = 1 ≤ read.bytes
SizedNumber (Err r) = Damage (rejection_number r)

lower_sized : (x : ℕ) (r : ReadNumber) → SizedNumber r → SizedNumber (with_lower x r)
unfolding with_lower
lower_sized x (Ok read) g = omega arith
lower_sized x (Err r) g = g

groups_sized : (k : ℕ) (is_first : Bool) (bs : List ℕ) → SizedNumber (read_groups k is_first bs)
unfolding read_groups
groups_sized zero is_first bs = record { least = omega arith; most = omega arith }
groups_sized (suc k) is_first [] = record { least = omega arith; most = omega arith }
groups_sized (suc k) is_first (b ∷ bs) =
    go (ltb b 128) (eqb b 0 && not is_first) (with_lower (b % 128) (read_groups k false bs))
    (lower_sized (b % 128) (read_groups k false bs) (groups_sized k false bs))
  where
    go : (t u : Bool) (r : ReadNumber) → SizedNumber r → SizedNumber (cond t (cond u (Err NumberForm) (valued b 1)) r)
    go true true r g = record { least = omega arith; most = omega arith }
    go true false r g = omega arith
    go false u r g = g

number_sized : (bs : List ℕ) → SizedNumber (read_number bs)
unfolding read_number
number_sized bs = groups_sized 5 true bs

-- ---- several numbers have at least as many bytes

abbrev SizedNumbers : ℕ → Numbers → Type 0
SizedNumbers count (values vs m) = count ≤ m
SizedNumbers count (rejected r) = Damage (rejection_number r)

first_sized : (count v n : ℕ) (r : Numbers) → 1 ≤ n → SizedNumbers count r → SizedNumbers (suc count) (with_first v n r)
unfolding with_first
first_sized count v n (values vs m) h g = omega arith
first_sized count v n (rejected r) h g = g

numbers_sized : (count : ℕ) (bs : List ℕ) → SizedNumbers count (read_numbers count bs)
unfolding read_numbers after_first
numbers_sized zero bs = omega arith
numbers_sized (suc count) bs = go (read_number bs) (number_sized bs) (λ n. numbers_sized count (drop n bs))
  where
    go :
        (r : ReadNumber) → SizedNumber r → ((n : ℕ) → SizedNumbers count (read_numbers count (drop n bs)))
        → SizedNumbers (suc count) (after_first r (λ n. read_numbers count (drop n bs)))
    go (Ok read) h more = first_sized count read.value read.bytes (read_numbers count (drop read.bytes bs)) h (more read.bytes)
    go (Err r) h more = h

-- ---- a step

-- a kind from 1 to 7
pub record KnownNumber (k : ℕ) : Type 0 where
  pub least : 1 ≤ k
  pub most : k ≤ 7

-- kind 0 is unknown
kind_least : (k : ℕ) → is_unknown (kind_of k) ≡ false → 1 ≤ k
unfolding kind_of is_unknown
kind_least zero e = absurd (true≢false e)
kind_least (suc k) e = omega arith

-- what reading the step s in n bytes tells
pub record SizedStep (s : Step) (n : ℕ) : Type 0 where
  pub bytes : 4 ≤ n
  pub kind : KnownNumber s.kind

abbrev Sized : ReadStep → Type 0
Sized (Ok (Some read)) = SizedStep read.step read.next
Sized (Ok None) = Unit {0}
Sized (Err r) = Damage (rejection_number r)

module _ (k : ℕ) (e : is_kept (kind_of k) ≡ false) (f : is_unknown (kind_of k) ≡ false) where
  numbers_after : (n : ℕ) → 1 ≤ n → (r : Numbers) → SizedNumbers (used_numbers (kind_of k)) r → Sized (after_numbers k n r)
  unfolding after_numbers step_of
  numbers_after n h (values vs m) g =
      let three : 3 ≤ used_numbers (kind_of k) = ⊎_elim (λ q. omega arith) (λ q. omega arith) (used_cases (kind_of k) e f) in
      record { bytes = omega arith; kind = record { least = kind_least k f; most = omega (arith, kind_below k e f) } }
  numbers_after n h (rejected r) g = g

kind_after_lem : (bs : List ℕ) (r : ReadNumber) → SizedNumber r → Sized (after_kind bs r)
unfolding after_kind
kind_after_lem bs (Ok read) h = go (is_kept (kind_of k)) refl (is_unknown (kind_of k)) refl
  where
    k : ℕ
    k = read.value

    others : ReadStep
    others = after_numbers k read.bytes (read_numbers (used_numbers (kind_of k)) (drop read.bytes bs))

    go :
        (t : Bool) → is_kept (kind_of k) ≡ t → (u : Bool) → is_unknown (kind_of k) ≡ u
        → Sized (cond t (Err KeptKind) (cond u (Err UnknownKind) others))
    go true e u f = record { least = omega arith; most = omega arith }
    go false e true f = record { least = omega arith; most = omega arith }
    go false e false f = numbers_after k e f read.bytes h _ (numbers_sized (used_numbers (kind_of k)) (drop read.bytes bs))
kind_after_lem bs (Err r) h = h

reading_sized : (bs : List ℕ) → Sized (read_step bs)
unfolding read_step
reading_sized [] = tt
reading_sized (b ∷ bs) = kind_after_lem (b ∷ bs) (read_number (b ∷ bs)) (number_sized (b ∷ bs))

pub step_sized : (bs : List ℕ) {s : Step} {n : ℕ} → read_step bs ≡ one_step s n → SizedStep s n
step_sized bs e = rw e at (reading_sized bs)

pub step_damage : (bs : List ℕ) {r : Rejection} → read_step bs ≡ Err r → Damage (rejection_number r)
step_damage bs e = rw e at (reading_sized bs)
