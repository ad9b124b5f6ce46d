-- What the code looks up of a kind.
use Rattle.std.specs.Prelude.{Ok, Err}
use Prim.Native.Nat.{ℕ, zero, suc, ◌/◌, ◌%◌, ◌^◌, ◌≤◌, ◌<◌}
use native.Mathlib.Omega.{arith}
use mathlib.Core.Path.{◌≡◌, refl, subst}
use mathlib.Core.Bool.{Bool, true, false, cond, true≢false}
use lib.Dec.{leb}
use Rattle.types.specs.declared.kind.Kind.TheVariants.{Add, Adopt, Learn, Wedge, Install, Inherit, CatchUp}
use Rattle.types.specs.declared.kind.NoKind.TheVariants.{Kept, Unknown}
use Rattle.types.specs.declared.kind.Kind.{Kind}
use Rattle.types.specs.Kinds.{NamedKind, kind_of, is_kept, is_unknown, used_numbers}
use Rattle.types.specs.Rules.{Known, fourth_numbers}
use Rattle.types.proofs.KindNumbers.{kind_below}

-- ---- known kinds

pub known : (k : Kind) → Known (Ok k)
unfolding is_kept is_unknown
known Add = record { not_kept = refl; known = refl }
known Adopt = record { not_kept = refl; known = refl }
known Learn = record { not_kept = refl; known = refl }
known Wedge = record { not_kept = refl; known = refl }
known Install = record { not_kept = refl; known = refl }
known Inherit = record { not_kept = refl; known = refl }
known CatchUp = record { not_kept = refl; known = refl }

-- a kind that was read is known
pub ok_known : (n : ℕ) (k : Kind) → Ok k ≡ kind_of n → Known (kind_of n)
ok_known n k e = subst (λ (x : NamedKind). Known x) e (known k)

-- ---- how many numbers a kind uses

either_most : (t : Bool) → cond t 1 0 ≤ 1
either_most true = omega arith
either_most false = omega arith

-- one fourth number, or none
pub fourth_most : (n : ℕ) → fourth_numbers n ≤ 1
unfolding fourth_numbers
fourth_most n = either_most (leb 4 (used_numbers (kind_of n)))

used_cases : (k : NamedKind) → Known k → used_numbers k ≡ suc (suc (suc (cond (leb 4 (used_numbers k)) 1 0)))
unfolding is_kept is_unknown used_numbers
used_cases (Ok Add) h = refl
used_cases (Ok Adopt) h = refl
used_cases (Ok Learn) h = refl
used_cases (Ok Wedge) h = refl
used_cases (Ok Install) h = refl
used_cases (Ok Inherit) h = refl
used_cases (Ok CatchUp) h = refl
used_cases (Err Kept) h = absurd (true≢false h.not_kept)
used_cases (Err Unknown) h = absurd (true≢false h.known)

-- three numbers, and the fourth
pub used_fourth : (n : ℕ) → Known (kind_of n) → used_numbers (kind_of n) ≡ suc (suc (suc (fourth_numbers n)))
unfolding fourth_numbers
used_fourth n h = used_cases (kind_of n) h

bit : (n : ℕ) → Known (kind_of n) → n < 8 → 232 / 2 ^ n % 2 ≡ fourth_numbers n
unfolding fourth_numbers kind_of used_numbers is_unknown
bit zero h l = absurd (true≢false h.known)
bit (suc zero) h l = refl
bit (suc (suc zero)) h l = refl
bit (suc (suc (suc zero))) h l = refl
bit (suc (suc (suc (suc zero)))) h l = refl
bit (suc (suc (suc (suc (suc zero))))) h l = refl
bit (suc (suc (suc (suc (suc (suc zero)))))) h l = refl
bit (suc (suc (suc (suc (suc (suc (suc zero))))))) h l = refl
bit (suc (suc (suc (suc (suc (suc (suc (suc n)))))))) h l = absurd (omega arith)

pub known_below : (n : ℕ) → Known (kind_of n) → n < 8
known_below n h = kind_below n h.not_kept h.known

-- the bits of 232 are the kinds with a fourth number
pub fourth_bit : (n : ℕ) → Known (kind_of n) → 232 / 2 ^ n % 2 ≡ fourth_numbers n
fourth_bit n h = bit n h (known_below n h)
