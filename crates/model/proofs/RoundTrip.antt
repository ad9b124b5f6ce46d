-- Steps read back to what was written, and their bytes are the only ones that read to them (`round_trip`). Assumes nothing.
use Rattle.std.specs.Prelude.{Ok, Err, Some, None}
use Rattle.types.specs.declared.rejection.Rejection.TheVariants.{KeptKind, UnknownKind}
use Rattle.model.specs.Numbers.{ReadNumber, valued}
use Rattle.model.specs.Log.{ReadStep, one_step}
use Prim.Native.Nat.{ℕ, ◌+◌, ◌≤◌, ◌<◌}
use native.Mathlib.Omega.{arith}
use mathlib.Core.Logic.{◌⊎◌, inl, inr, ⊎_elim}
use mathlib.Core.Path.{◌≡◌, refl, sym, ap}
use mathlib.Core.Bool.{Bool, true, false, cond, ◌&&◌, ◌||◌, true≢false}
use mathlib.Core.List.{List, [], ◌∷◌, ◌++◌, append_assoc}
use lib.Dec.{leb, eqb}
use lib.ListN.{length, take, drop, get_or, length-append, length-drop, get_or-eq_default}
use lib.Seq.{drop-append_seam, take-add}
use borrow.Author.Tests.{eqb-true}
use Rattle.types.proofs.KindNumbers.{used_cases, kind_below}
use Rattle.types.specs.declared.step.Step.{Step}
use Rattle.types.specs.Kinds.{kind_of, is_kept, is_unknown, used_numbers}
use Rattle.model.specs.Log.{step_of, after_numbers, after_kind, read_step}
use Rattle.model.specs.Numbers.{Numbers, values, rejected, read_number, read_numbers, number_bytes, numbers_bytes}
use Rattle.model.specs.RoundTrip.{Writable, RoundTrip}
use Rattle.model.specs.Tests.{all_of}
use Rattle.model.specs.Writer.{is_writable, are_writable, step_bytes}
use Rattle.model.proofs.AllOf.{all_take, all_drop, all_get_d}
use Rattle.model.proofs.Numbers.{is_byte, number_read, number_bytes_least, number_within, number_written}
use Rattle.model.proofs.Several.{Several, GivenNumbers, numbers_read, numbers_result}

-- ---- what is written is read

-- the four numbers of a step
abbrev numbers_of : Step → List ℕ
numbers_of s = s.a ∷ s.b ∷ s.c ∷ s.d ∷ []

-- five tests that pass, the last apart
five_true : (a b c d e : Bool) → (a && b && c && d && e) ≡ true → ((a && (b && (c && (d && true)))) ≡ true) × (e ≡ true)
five_true true true true true e h = (refl, h)
five_true true true true false e h = absurd (true≢false (sym h))
five_true true true false d e h = absurd (true≢false (sym h))
five_true true false c d e h = absurd (true≢false (sym h))
five_true false b c d e h = absurd (true≢false (sym h))

-- the two tests of the writer: each number is small, and an unused one is 0
writer_tests :
    (s : Step) → are_writable s ≡ true
    → (all_of is_writable (numbers_of s) ≡ true) × ((leb 4 (used_numbers (kind_of s.kind)) || eqb s.d 0) ≡ true)
unfolding are_writable all_of
writer_tests s e = five_true (is_writable s.a) (is_writable s.b) (is_writable s.c) (is_writable s.d) _ e

-- a step is its kind and the numbers that its kind uses
step_again :
    (s : Step) (u : ℕ) → (u ≡ 3) ⊎ (u ≡ 4) → (leb 4 u || eqb s.d 0) ≡ true → step_of s.kind (take u (numbers_of s)) ≡ s
unfolding step_of
step_again s u (inl e) f =
    let unused : s.d ≡ 0 = eqb-true s.d 0 (rw e at f) in
    rw (e, ← unused)
step_again s u (inr e) f = rw e

used_length : (s : Step) (u : ℕ) → (u ≡ 3) ⊎ (u ≡ 4) → length (take u (numbers_of s)) ≡ u
used_length s u (inl e) = rw e
used_length s u (inr e) = rw e

-- a reading begins with the kind
kind_first : (bs : List ℕ) {k n : ℕ} → read_number bs ≡ valued k n → read_step bs ≡ after_kind bs (valued k n)
unfolding read_step
kind_first [] e = absurd (omega (arith, number_bytes_least [] e, number_within [] e))
kind_first (b ∷ bs) e = ap (after_kind (b ∷ bs)) e

-- the numbers follow a kind that is neither kept nor unknown
numbers_next :
    (bs : List ℕ) (k n : ℕ) → is_kept (kind_of k) ≡ false → is_unknown (kind_of k) ≡ false
    → after_kind bs (valued k n) ≡ after_numbers k n (read_numbers (used_numbers (kind_of k)) (drop n bs))
unfolding after_kind
numbers_next bs k n e f = rw (e, f)

pub step_read_lem : (s : Step) (rest : List ℕ) → Writable s → read_step (step_bytes s ++ rest) ≡ one_step s (length (step_bytes s))
unfolding step_bytes after_numbers
step_read_lem s rest w =
    let k : ℕ = s.kind in
    let u : ℕ = used_numbers (kind_of k) in
    let ns : List ℕ = take u (numbers_of s) in
    let cases : (u ≡ 3) ⊎ (u ≡ 4) = used_cases (kind_of k) w.not_kept w.known in
    let tests = writer_tests s w.small in
    let small : all_of is_writable ns ≡ true = all_take is_writable u (numbers_of s) tests.0 in
    let below : k < 8 = kind_below k w.not_kept w.known in
    let more : List ℕ = numbers_bytes ns ++ rest in
    let others : read_numbers u more ≡ values ns (length (numbers_bytes ns)) = rw (used_length s u cases) at (numbers_read ns rest small) in
    rw (
      append_assoc (number_bytes k) (numbers_bytes ns) rest,
      kind_first (number_bytes k ++ more) (number_read k more (omega arith)),
      numbers_next (number_bytes k ++ more) k (length (number_bytes k)) w.not_kept w.known,
      drop-append_seam (number_bytes k) more,
      others,
      step_again s u cases tests.1,
      length-append (number_bytes k) (numbers_bytes ns),
    )

-- ---- what is read was written

-- the numbers of a step that was read, as many as were read
numbers_again :
    (vs : List ℕ) → length vs ≤ 4 → take (length vs) (get_or vs 0 0 ∷ get_or vs 1 0 ∷ get_or vs 2 0 ∷ get_or vs 3 0 ∷ []) ≡ vs
numbers_again [] h = refl
numbers_again (a ∷ []) h = refl
numbers_again (a ∷ b ∷ []) h = refl
numbers_again (a ∷ b ∷ c ∷ []) h = refl
numbers_again (a ∷ b ∷ c ∷ d ∷ []) h = refl
numbers_again (a ∷ b ∷ c ∷ d ∷ e ∷ vs) h = absurd (omega arith)

-- a number that was not read is 0
unread_zero : (vs : List ℕ) (u : ℕ) → length vs ≡ u → (u ≡ 3) ⊎ (u ≡ 4) → (leb 4 u || eqb (get_or vs 3 0) 0) ≡ true
unread_zero vs u l (inl e) = rw (e, get_or-eq_default vs 0 {n = 3} (omega arith))
unread_zero vs u l (inr e) = rw e

-- the writer accepts what was read
read_writable :
    (k : ℕ) (vs : List ℕ) → is_kept (kind_of k) ≡ false → is_unknown (kind_of k) ≡ false → length vs ≡ used_numbers (kind_of k)
    → all_of is_writable vs ≡ true → Writable (step_of k vs)
unfolding step_of are_writable is_writable
read_writable k vs e f l h =
    let each : (i : ℕ) → is_writable (get_or vs i 0) ≡ true = λ i. all_get_d is_writable vs i 0 refl h in
    let unread = unread_zero vs (used_numbers (kind_of k)) l (used_cases (kind_of k) e f) in
    record { not_kept = e; known = f; small = rw (each 0, each 1, each 2, each 3, unread) }

-- what reading the step s in n bytes tells
pub record Whole (bs : List ℕ) (s : Step) (n : ℕ) : Type 0 where
  pub least : 1 ≤ n
  pub within : n ≤ length bs
  pub writable : Writable s
  pub bytes : all_of is_byte bs ≡ true → take n bs ≡ step_bytes s

-- the same of any result: the end tells that there are no bytes, a rejection tells nothing
abbrev GivenStep : List ℕ → ReadStep → Type 0
GivenStep bs (Ok (Some read)) = Whole bs read.step read.next
GivenStep bs (Ok None) = bs ≡ []
GivenStep bs (Err r) = Unit {0}

module _ (bs : List ℕ) (k n : ℕ) (first : read_number bs ≡ valued k n) (e : is_kept (kind_of k) ≡ false) (f : is_unknown (kind_of k) ≡ false) where
  -- kind and numbers were read from the bytes that the writer gives
  read_bytes :
      (vs : List ℕ) (m : ℕ) → Several (used_numbers (kind_of k)) (drop n bs) vs m → all_of is_byte bs ≡ true
      → take (n + m) bs ≡ step_bytes (step_of k vs)
  unfolding step_of step_bytes
  read_bytes vs m g h =
      let four : used_numbers (kind_of k) ≤ 4 = ⊎_elim (λ q. omega arith) (λ q. omega arith) (used_cases (kind_of k) e f) in
      rw (
        take-add n m bs,
        number_written bs first h,
        g.bytes (all_drop is_byte n bs h),
        ← g.counted,
        numbers_again vs (omega (arith, g.counted)),
      )

  after_numbers_lem : (r : Numbers) → GivenNumbers (used_numbers (kind_of k)) (drop n bs) r → GivenStep bs (after_numbers k n r)
  unfolding after_numbers
  after_numbers_lem (values vs m) g =
      record {
        least = omega (arith, number_bytes_least bs first);
        within = omega (arith, number_within bs first, simp length-drop at g.within);
        writable = read_writable k vs e f g.counted g.small;
        bytes = read_bytes vs m g;
      }
  after_numbers_lem (rejected r) g = tt

-- every result of a kind's number
after_kind_lem : (bs : List ℕ) (r : ReadNumber) → read_number bs ≡ r → GivenStep bs (after_kind bs r)
unfolding after_kind
after_kind_lem bs (Ok read) first = go (is_kept (kind_of read.value)) refl (is_unknown (kind_of read.value)) refl
  where
    others : ReadStep
    others = after_numbers read.value read.bytes (read_numbers (used_numbers (kind_of read.value)) (drop read.bytes bs))

    go :
        (t : Bool) → is_kept (kind_of read.value) ≡ t → (u : Bool) → is_unknown (kind_of read.value) ≡ u
        → GivenStep bs (cond t (Err KeptKind) (cond u (Err UnknownKind) others))
    go true e u f = tt
    go false e true f = tt
    go false e false f = after_numbers_lem bs read.value read.bytes first e f _ (numbers_result (used_numbers (kind_of read.value)) (drop read.bytes bs))
after_kind_lem bs (Err r) first = tt

step_result : (bs : List ℕ) → GivenStep bs (read_step bs)
unfolding read_step
step_result [] = refl
step_result (b ∷ bs) = after_kind_lem (b ∷ bs) (read_number (b ∷ bs)) refl

pub step_given : (bs : List ℕ) {s : Step} {n : ℕ} → read_step bs ≡ one_step s n → Whole bs s n
step_given bs e = rw e at (step_result bs)

pub none_left : (bs : List ℕ) → read_step bs ≡ (Ok None) → bs ≡ []
none_left bs e = rw e at (step_result bs)

module _ (bs : List ℕ) {s : Step} {n : ℕ} (e : read_step bs ≡ one_step s n) where
  pub step_least : 1 ≤ n
  step_least = (step_given bs e).least

  pub step_within : n ≤ length bs
  step_within = (step_given bs e).within

pub round_trip : RoundTrip
round_trip =
    record {
      written_is_read = step_read_lem;
      read_is_written =
          λ bs s n h e. let g : Whole bs s n = step_given bs e in record { writable = g.writable; within = g.within; bytes = g.bytes h };
    }
