-- The tests of a step's numbers, by what its kind has.
-- Assumes nothing.
use Prim.Native.Nat.{ℕ}
use native.Mathlib.Omega.{arith}
use mathlib.Core.Path.{◌≡◌, refl, sym, ap, ◌∙◌}
use mathlib.Core.Bool.{Bool, true, false, cond, not, ◌&&◌}
use lib.Dec.{leb}
use Rattle.std.specs.Prelude.{Ok, Err}
use Rattle.types.specs.declared.kind.Kind.{Kind}
use Rattle.types.specs.declared.kind.NoKind.{NoKind}
use Rattle.types.specs.declared.kind.NoKind.TheVariants.{Kept, Unknown}
use Rattle.types.specs.declared.kind.Rules.{Rules}
use Rattle.types.specs.declared.step.Step.{Step}
use Rattle.types.specs.Rejections.{rejection_number, no_kind_rejection}
use Rattle.model.specs.Checks.{first_of}
use Rattle.types.specs.Kinds.{kind_of, is_kept, is_unknown, names_host}
use Rattle.types.specs.Rules.{most_fourth, rules_of}
use Rattle.types.specs.Members.{is_host}
use Rattle.model.specs.Entries.{is_entry}
use Rattle.types.specs.StepNames.{shard_of}
use Rattle.model.specs.Steps.{are_numbers}
use Rattle.types.proofs.KindRules.{known, ok_known}
use Rattle.model.proofs.StepNumbers.{numbers_by_rules}
use Rattle.step_numbers.specs.StepRanges.{is_index_of, range_rejection}

-- ---- the third and the fourth number of a kind k, whose rules are r

module _ (k : Kind) {r : Rules} (e : r ≡ rules_of (Ok k)) (Z c d : ℕ) where
  most_is : r.fourth ≡ most_fourth (Ok k)
  unfolding rules_of
  most_is = ap (λ (x : Rules). x.fourth) e

  names_is : r.host ≡ names_host (Ok k)
  unfolding rules_of
  names_is = ap (λ (x : Rules). x.host) e

  -- t is the test of the third number
  pub numbers_are : {t : Bool} → t ≡ cond r.host (is_host c) (is_entry Z c) → are_numbers (Ok k) Z c d ≡ (t && leb d r.fourth)
  numbers_are q = numbers_by_rules (Ok k) (known k) Z c d ∙ rw (← names_is, ← most_is, ← q)

-- ---- a step s

module _ (Z : ℕ) (s : Step) where
  -- its number is no kind's
  pub bad_kind : (n : NoKind) → Err n ≡ kind_of s.kind → rejection_number (no_kind_rejection n) ≡ range_rejection Z s
  unfolding range_rejection first_of is_kept is_unknown
  bad_kind Kept e = rw (sym e)
  bad_kind Unknown e = rw (sym e)

  -- its number is a kind's, z is the shard, and t the test of it and of the index
  module _ {k : Kind} (o : Ok k ≡ kind_of s.kind) {z : ℕ} (a : z ≡ shard_of s) {t : Bool} (p : t ≡ is_index_of Z z s.b) where
    range_is : range_rejection Z s ≡ cond t 0 7
    unfolding range_rejection first_of
    range_is =
        let k = ok_known s.kind k o in
        rw (p, a, k.not_kept, k.known)

    pub no_index : t ≡ false → 7 ≡ range_rejection Z s
    no_index n = rw (range_is, n)

    pub in_range_lem : t ≡ true → 0 ≡ range_rejection Z s
    in_range_lem n = rw (range_is, n)

-- ---- a step that these rejections do not apply to

no_number : (a b t : Bool) → ◌≡◌ {A = ℕ} (cond a (cond b (cond t 0 7) 4) 3) 0 → t ≡ true
no_number true true true e = refl
no_number true true false e = absurd (omega arith)
no_number true false t e = absurd (omega arith)
no_number false b t e = absurd (omega arith)

pub index : (Z : ℕ) (s : Step) → range_rejection Z s ≡ 0 → is_index_of Z (shard_of s) s.b ≡ true
unfolding range_rejection first_of
index Z s e = no_number (not (is_kept (kind_of s.kind))) (not (is_unknown (kind_of s.kind))) (is_index_of Z (shard_of s) s.b) e
