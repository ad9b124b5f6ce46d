-- The answer of a list of checks is at most a bound on their numbers, so a step's is at most 24. Assumes nothing.
use Rattle.std.specs.Prelude.{Ok, Err}
use Prim.Native.Nat.{ℕ, ◌≤◌}
use native.Mathlib.Omega.{arith}
use mathlib.Core.Path.{◌≡◌, refl}
use mathlib.Core.Bool.{Bool, true, false, cond, ◌&&◌}
use mathlib.Core.List.{List, [], ◌∷◌}
use lib.Dec.{leb}
use borrow.Author.Tests.{leb-true}
use Rattle.types.specs.declared.kind.Kind.TheVariants.{Add, Adopt, Learn, Wedge, Install, Inherit, CatchUp}
use Rattle.types.specs.declared.kind.NoKind.TheVariants.{Kept, Unknown}
use Rattle.types.specs.declared.step.Step.{Step}
use Rattle.model.specs.Checks.{Check, first_of}
use Rattle.types.specs.Kinds.{NamedKind, kind_of}
use Rattle.model.specs.Add.{add_checks}
use Rattle.model.specs.Adopt.{adopt_checks}
use Rattle.model.specs.Learn.{learn_checks}
use Rattle.model.specs.Wedge.{wedge_checks}
use Rattle.model.specs.Install.{install_checks}
use Rattle.model.specs.Inherit.{inherit_checks}
use Rattle.model.specs.CatchUp.{catch_up_checks}
use Rattle.types.specs.StepNames.{shard_of, configuration_of}
use Rattle.model.specs.Steps.{kind_checks, step_checks, rejection}
use Rattle.model.proofs.Tests.{both}

-- every number is at most m: `refl` proves it of a list that is written out
abbrev pub are_at_most : ℕ → List Check → Bool
are_at_most m [] = true
are_at_most m (c ∷ cs) = leb c.number m && are_at_most m cs

pub first_most : (m : ℕ) (cs : List Check) → are_at_most m cs ≡ true → first_of cs ≤ m
unfolding first_of
first_most m [] e = omega arith
first_most m (c ∷ cs) e =
    let t = (both (leb c.number m) (are_at_most m cs)).0 e in
    either c.passes (first_most m cs t.1) (leb-true c.number m t.0)
  where
    either : (b : Bool) {x y : ℕ} → x ≤ m → y ≤ m → cond b x y ≤ m
    either true h l = h
    either false h l = l

kind_most : (k : NamedKind) (w : List ℕ) (z j c d : ℕ) → are_at_most 24 (kind_checks k w z j c d) ≡ true
unfolding kind_checks add_checks adopt_checks learn_checks wedge_checks install_checks inherit_checks catch_up_checks
kind_most (Ok Add) w z j c d = refl
kind_most (Ok Adopt) w z j c d = refl
kind_most (Ok Learn) w z j c d = refl
kind_most (Ok Wedge) w z j c d = refl
kind_most (Ok Install) w z j c d = refl
kind_most (Ok Inherit) w z j c d = refl
kind_most (Ok CatchUp) w z j c d = refl
kind_most (Err Kept) w z j c d = refl
kind_most (Err Unknown) w z j c d = refl

pub rejection_most : (w : List ℕ) (s : Step) → rejection w s ≤ 24
unfolding rejection step_checks
rejection_most w s =
    first_most 24 (step_checks w s) (kind_most (kind_of s.kind) w (shard_of s) (configuration_of s) s.c s.d)
