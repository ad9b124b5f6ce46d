-- A step is read number by number. Assumes nothing.
use Rattle.std.specs.Prelude.{Ok, Err, None, Some}
use Rattle.types.specs.declared.rejection.Rejection.TheVariants.{KeptKind, UnknownKind}
use Rattle.model.specs.Numbers.{ReadNumber, valued}
use Rattle.model.specs.Log.{ReadStep, one_step}
use Prim.Native.Nat.{ℕ, suc, ◌+◌, ◌≤◌, ◌<◌}
use native.Mathlib.Nat.{zero-add}
use native.Mathlib.Omega.{arith}
use mathlib.Core.Path.{◌≡◌, refl, sym, ap, ◌∙◌}
use mathlib.Core.Bool.{cond}
use mathlib.Core.List.{List, [], ◌∷◌, ◌++◌, append_assoc, append-nil}
use lib.ListN.{length, drop, length-drop, drop_of_length-le}
use lib.Seq.{drop-drop}
use Rattle.types.specs.declared.step.Step.{Step}
use Rattle.types.specs.declared.kind.NoKind.{NoKind}
use Rattle.types.specs.declared.kind.NoKind.TheVariants.{Kept, Unknown}
use Rattle.types.specs.declared.rejection.Rejection.{Rejection}
use Rattle.types.specs.Rejections.{no_kind_rejection}
use Rattle.types.specs.Kinds.{kind_of, is_kept, is_unknown}
use Rattle.model.specs.Log.{step_of, after_numbers, after_kind, read_step, read_at, from}
use Rattle.model.specs.Numbers.{Numbers, values, rejected, read_number, read_numbers, after_first, with_first}
use Rattle.model.proofs.Numbers.{number_bytes_least, number_within}
use Rattle.model.proofs.RoundTrip.{step_least, step_within}
use Rattle.types.specs.Rules.{Known, fourth_numbers}
use Rattle.types.proofs.KindRules.{used_fourth}
use Rattle.log_reader.specs.ReadInParts.{with_prior, kind_at}

-- ---- one number

-- a first number goes to the numbers before it
first_moves :
    (k : ℕ) (prior : List ℕ) (at v n : ℕ) (r : Numbers) → with_prior k prior at (with_first v n r) ≡ with_prior k (prior ++ v ∷ []) (at + n) r
unfolding with_prior with_first
first_moves k prior at v n (values vs m) =
    let next : at + (n + m) ≡ at + n + m = omega arith in
    rw (append_assoc prior (v ∷ []) vs, next)
first_moves k prior at v n (rejected r) = refl

-- x is the number read at the position
module _ (k : ℕ) (prior log : List ℕ) (at : ℕ) {x : ReadNumber} (p : x ≡ read_number (drop at log)) where
  pub step_more :
      (count : ℕ) {v n : ℕ} → x ≡ valued v n → {r : ReadStep}
      → r ≡ with_prior k (prior ++ v ∷ []) (at + n) (read_numbers count (drop (at + n) log))
      → r ≡ with_prior k prior at (read_numbers (suc count) (drop at log))
  unfolding read_numbers after_first
  step_more count {v} {n} q e =
      rw (← p, q, drop-drop n at log, first_moves k prior at v n (read_numbers count (drop (at + n) log))) e

  pub step_rejected :
      (count : ℕ) {r : Rejection} → x ≡ Err r → Err r ≡ with_prior k prior at (read_numbers (suc count) (drop at log))
  unfolding read_numbers after_first with_prior
  step_rejected count q = rw (← p, q)

pub step_done : (k : ℕ) (prior log : List ℕ) (at : ℕ) → one_step (step_of k prior) at ≡ with_prior k prior at (read_numbers 0 (drop at log))
unfolding read_numbers with_prior
step_done k prior log at = let here : at + 0 ≡ at = omega arith in rw (append-nil prior, here)

-- a number lies within the log, so the position after it fits
pub number_inside : (log : List ℕ) (at : ℕ) {x : ReadNumber} → x ≡ read_number (drop at log) → {v n : ℕ} → x ≡ valued v n → at + n ≤ length log
number_inside log at p q =
    let e = sym p ∙ q in
    omega (arith, number_bytes_least (drop at log) e, rw (length-drop at log) at (number_within (drop at log) e))

-- ---- the kind

numbers_first : (k n : ℕ) (r : Numbers) → after_numbers k n r ≡ with_prior k [] n r
unfolding after_numbers with_prior
numbers_first k n (values vs m) = refl
numbers_first k n (rejected r) = refl

kind_first : (log : List ℕ) (k n : ℕ) → after_kind log (valued k n) ≡ kind_at log n k
unfolding after_kind kind_at
kind_first log k n = rw (numbers_first k n)

no_kind : (e : NoKind) (x : ReadStep)
    → cond (is_kept (Err e)) (Err KeptKind) (cond (is_unknown (Err e)) (Err UnknownKind) x) ≡ Err (no_kind_rejection e)
unfolding is_kept is_unknown
no_kind Kept x = refl
no_kind Unknown x = refl

module _ (log : List ℕ) (at k : ℕ) where
  pub kind_rejected : {e : NoKind} {r : Rejection} → Err e ≡ kind_of k → r ≡ no_kind_rejection e → Err r ≡ kind_at log at k
  unfolding kind_at
  kind_rejected {e} q h = rw (h, ← q) (sym (no_kind e _))

  pub kind_taken :
      Known (kind_of k) → {r : ReadStep}
      → r ≡ with_prior k [] at (read_numbers (suc (suc (suc (fourth_numbers k)))) (drop at log))
      → r ≡ kind_at log at k
  unfolding kind_at
  kind_taken h e = rw (h.not_kept, h.known, used_fourth k h) e

-- ---- the step at the start of a log

first_number : (log : List ℕ) → 0 < length log → read_step log ≡ after_kind log (read_number log)
unfolding read_step
first_number [] h = absurd (omega arith)
first_number (b ∷ bs) h = refl

pub first_none : (log : List ℕ) → length log ≡ 0 → (Ok None) ≡ read_step log
unfolding read_step
first_none [] h = refl
first_none (b ∷ bs) h = absurd (omega arith)

module _ (log : List ℕ) (h : 0 < length log) {x : ReadNumber} (p : x ≡ read_number (drop 0 log)) where
  pub first_kind : {k n : ℕ} → x ≡ valued k n → {r : ReadStep} → r ≡ kind_at log n k → r ≡ read_step log
  first_kind {k} {n} q e = rw (first_number log h, ← p, q, kind_first log k n) e

  pub first_no_kind : {r : Rejection} → x ≡ Err r → Err r ≡ read_step log
  unfolding after_kind
  first_no_kind q = rw (first_number log h, ← p, q)

-- a step of a known kind whose kind and first two numbers have one byte each, and whose third has n
module _
    (log : List ℕ) (k : ℕ) (h : Known (kind_of k)) {a b c n : ℕ} (pk : read_number log ≡ valued k 1) (pa : read_number (drop 1 log) ≡ valued a 1)
    (pb : read_number (drop 2 log) ≡ valued b 1) (pc : read_number (drop 3 log) ≡ valued c n)
  where
    pub three_numbers :
        {r : ReadStep} → r ≡ with_prior k (a ∷ b ∷ c ∷ []) (3 + n) (read_numbers (fourth_numbers k) (drop (3 + n) log)) → r ≡ read_step log
    three_numbers e =
        let f : ℕ = fourth_numbers k in
        first_kind log (omega (arith, number_within log pk)) refl pk
        (kind_taken log 1 k h
        (step_more k [] log 1 refl (suc (suc f)) pa
        (step_more k (a ∷ []) log 2 refl (suc f) pb (step_more k (a ∷ b ∷ []) log 3 refl f pc e))))

-- ---- the step at a position

module _ (log : List ℕ) (at : ℕ) where
  pub step_none : length log ≤ at → (Ok None) ≡ read_at log at
  unfolding read_at read_step from
  step_none h = rw (drop_of_length-le log h)

  -- x is the first step of the bytes from the position on
  module _ {x : ReadStep} (p : x ≡ read_step (drop at log)) where
    -- it lies within the log, so the position after it fits
    pub step_inside : {s : Step} {n : ℕ} → x ≡ one_step s n → at + n ≤ length log
    step_inside q =
        let e = sym p ∙ q in
        omega (arith, step_least (drop at log) e, rw (length-drop at log) at (step_within (drop at log) e))

    pub step_from : {y : ReadStep} → x ≡ y → from at y ≡ read_at log at
    unfolding read_at
    step_from q = rw (← p, q)

  -- a step that was read there
  pub step_at : {s : Step} {n : ℕ} → read_step (drop at log) ≡ one_step s n → read_at log at ≡ one_step s (at + n)
  unfolding read_at from
  step_at e = rw e

-- at the start of a log, the position after a step is the count of its bytes
from_start : (r : ReadStep) → from 0 r ≡ r
unfolding from
from_start (Ok (Some read)) = ap (one_step read.step) (zero-add read.next)
from_start (Ok None) = refl
from_start (Err r) = refl

pub read_start : (log : List ℕ) → read_at log 0 ≡ read_step log
unfolding read_at
read_start log = from_start (read_step log)
