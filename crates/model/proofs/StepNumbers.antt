-- The third and the fourth number of a step, by what the code looks up of its kind.
use Rattle.std.specs.Prelude.{Ok, Err}
use Prim.Native.Nat.{ℕ, zero, suc, ◌≤◌, ◌<◌}
use native.Mathlib.Omega.{arith}
use mathlib.Core.Path.{◌≡◌, refl, ap, sym, ◌∙◌}
use mathlib.Core.Bool.{Bool, true, cond, ◌&&◌, true≢false}
use lib.Dec.{leb, ltb, eqb, leb-suc-suc}
use borrow.Author.Tests.{lt-leb, ne_eqb, leb-true, ltb-true}
use Rattle.types.specs.declared.kind.Kind.TheVariants.{Add, Adopt, Learn, Wedge, Install, Inherit, CatchUp}
use Rattle.types.specs.declared.kind.NoKind.TheVariants.{Kept, Unknown}
use Rattle.types.specs.Kinds.{NamedKind, is_kept, is_unknown, names_host}
use Rattle.types.specs.Rules.{Known, most_fourth}
use Rattle.types.specs.Members.{is_host}
use Rattle.model.specs.Entries.{is_entry}
use Rattle.model.specs.Steps.{are_numbers}
use Rattle.model.proofs.Tests.{both}

-- a number that is not used is 0
none_most : (d : ℕ) → eqb d 0 ≡ leb d 0
none_most zero = refl
none_most (suc d) = ne_eqb (suc d) 0 (λ e. omega arith) ∙ sym (lt-leb (suc d) 0 (omega arith))

-- they are in range where the third is a host or an entry, and the fourth is not too large
pub numbers_by_rules : (k : NamedKind) → Known k → (Z c d : ℕ)
    → are_numbers k Z c d ≡ (cond (names_host k) (is_host c) (is_entry Z c) && leb d (most_fourth k))
unfolding are_numbers names_host most_fourth is_kept is_unknown is_host
numbers_by_rules (Ok Add) h Z c d = ap (λ (t : Bool). is_entry Z c && t) (none_most d)
numbers_by_rules (Ok Adopt) h Z c d = ap (λ (t : Bool). ltb c 16 && t) (none_most d)
numbers_by_rules (Ok Learn) h Z c d = refl
numbers_by_rules (Ok Wedge) h Z c d = ap (λ (t : Bool). ltb c 16 && t) (none_most d)
numbers_by_rules (Ok Install) h Z c d = refl
numbers_by_rules (Ok Inherit) h Z c d = ap (λ (t : Bool). ltb c 16 && t) (leb-suc-suc d 15)
numbers_by_rules (Ok CatchUp) h Z c d = ap (λ (t : Bool). ltb c 16 && t) (leb-suc-suc d 15)
numbers_by_rules (Err Kept) h Z c d = absurd (true≢false h.not_kept)
numbers_by_rules (Err Unknown) h Z c d = absurd (true≢false h.known)

-- what the test tells where it passes
pub numbers_tell : (k : NamedKind) → Known k → (Z c d : ℕ) → are_numbers k Z c d ≡ true
    → (cond (names_host k) (is_host c) (is_entry Z c) ≡ true) × (d ≤ most_fourth k)
numbers_tell k h Z c d e =
    let t = (both (cond (names_host k) (is_host c) (is_entry Z c)) (leb d (most_fourth k))).0 (sym (numbers_by_rules k h Z c d) ∙ e) in
    (t.0, leb-true d (most_fourth k) t.1)

pub host_told : (k : NamedKind) → Known k → names_host k ≡ true → (Z c d : ℕ) → are_numbers k Z c d ≡ true → c < 16
unfolding is_host
host_told k h n Z c d e = ltb-true c 16 (rw n at (numbers_tell k h Z c d e).0)
