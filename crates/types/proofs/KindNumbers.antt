-- Kinds by their numbers: which are known, and that a number names its kind's number and rejection.
use Rattle.std.specs.Prelude.{Ok, Err}
use Prim.Native.Nat.{ℕ, zero, suc, ◌≤◌, ◌<◌}
use native.Mathlib.Decide.{dec_lt}
use native.Mathlib.Omega.{arith}
use mathlib.Core.Logic.{◌⊎◌, inl, inr}
use mathlib.Core.Path.{◌≡◌, refl, ap, ◌∙◌}
use mathlib.Core.Bool.{Bool, true, false, cond, true≢false}
use lib.Dec.{leb}
use borrow.Author.Tests.{leb-false, le-leb, lt-leb, lt-ltb, ne_eqb}
use Rattle.types.specs.declared.kind.Kind.TheVariants.{Add, Adopt, Learn, Wedge, Install, Inherit, CatchUp}
use Rattle.types.specs.declared.kind.NoKind.TheVariants.{Kept, Unknown}
use Rattle.types.specs.Kinds.{NamedKind, kind_of, is_kept, is_unknown, used_numbers, kind_number, kind_rejection, number_named, rejection_named, Names}

-- a kind that the writer accepts uses three numbers or four
pub used_cases : (k : NamedKind) → is_kept k ≡ false → is_unknown k ≡ false → (used_numbers k ≡ 3) ⊎ (used_numbers k ≡ 4)
unfolding is_kept is_unknown used_numbers
used_cases (Ok Add) e f = inl refl
used_cases (Ok Adopt) e f = inl refl
used_cases (Ok Learn) e f = inr refl
used_cases (Ok Wedge) e f = inl refl
used_cases (Ok Install) e f = inr refl
used_cases (Ok Inherit) e f = inr refl
used_cases (Ok CatchUp) e f = inr refl
used_cases (Err Kept) e f = absurd (true≢false e)
used_cases (Err Unknown) e f = absurd (true≢false f)

-- 8 and above name no step
pub late_kind : (n : ℕ) → 8 ≤ n → kind_of n ≡ cond (leb n 31) (Err Kept) (Err Unknown)
unfolding kind_of
late_kind n h =
    simp (
      ne_eqb n 1 (λ e. omega arith),
      ne_eqb n 2 (λ e. omega arith),
      ne_eqb n 3 (λ e. omega arith),
      ne_eqb n 4 (λ e. omega arith),
      ne_eqb n 5 (λ e. omega arith),
      ne_eqb n 6 (λ e. omega arith),
      ne_eqb n 7 (λ e. omega arith),
      le-leb 8 n h,
    )

-- a kind that the writer accepts has a number of one byte
pub kind_below : (n : ℕ) → is_kept (kind_of n) ≡ false → is_unknown (kind_of n) ≡ false → n < 8
unfolding is_kept is_unknown
kind_below n e f = elim (dec_lt n 8) [ yes l ↦ l | no l ↦ late (leb n 31) (late_kind n (omega arith)) ]
  where
    late : (t : Bool) → kind_of n ≡ cond t (Err Kept) (Err Unknown) → n < 8
    late true g = absurd (true≢false (rw g at e))
    late false g = absurd (true≢false (rw g at f))

-- the kind of n has the number and the rejection that n names
abbrev Named : ℕ → Type 0
Named n = (kind_number (kind_of n) ≡ number_named n) × (kind_rejection (kind_of n) ≡ rejection_named n)

early_named : (n : ℕ) → n < 8 → Named n
unfolding kind_of kind_number kind_rejection is_kept is_unknown number_named rejection_named
early_named zero h = (refl, refl)
early_named (suc zero) h = (refl, refl)
early_named (suc (suc zero)) h = (refl, refl)
early_named (suc (suc (suc zero))) h = (refl, refl)
early_named (suc (suc (suc (suc zero)))) h = (refl, refl)
early_named (suc (suc (suc (suc (suc zero))))) h = (refl, refl)
early_named (suc (suc (suc (suc (suc (suc zero)))))) h = (refl, refl)
early_named (suc (suc (suc (suc (suc (suc (suc zero))))))) h = (refl, refl)
early_named (suc (suc (suc (suc (suc (suc (suc (suc n)))))))) h = absurd (omega arith)

late_named : (n : ℕ) → 8 ≤ n → Named n
unfolding kind_number kind_rejection is_kept is_unknown number_named rejection_named
late_named n h = go (leb n 31) refl
  where
    go : (t : Bool) → leb n 31 ≡ t → Named n
    go true q = simp (late_kind n h, q, le-leb 1 n (omega arith), le-leb 8 n h, lt-leb n 7 h) (refl, refl)
    go false q =
        simp (late_kind n h, q, le-leb 1 n (omega arith), le-leb 8 n h, lt-leb n 7 h, ne_eqb n 0 (λ e. omega arith), lt-ltb 31 n (leb-false n 31 q))
        (refl, refl)

pub names_kind : {k : NamedKind} (n : ℕ) → k ≡ kind_of n → Names n k
names_kind n e =
    let m : Named n = elim (dec_lt n 8) [ yes l ↦ early_named n l | no l ↦ late_named n (omega arith) ] in
    record { number = ap kind_number e ∙ m.0; rejection = ap kind_rejection e ∙ m.1; kind = e }
