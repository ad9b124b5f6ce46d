-- An accepted step has passed every check.
use Rattle.std.specs.Prelude.{Ok, Err}
use Prim.Native.Nat.{ℕ, ◌≤◌, ◌<◌}
use native.Mathlib.Omega.{arith}
use mathlib.Core.Path.{◌≡◌, refl}
use mathlib.Core.Bool.{Bool, true, false, cond, not, ◌&&◌, ◌||◌}
use mathlib.Core.List.{List, [], ◌∷◌, ◌++◌}
use lib.Dec.{leb, ltb, eqb}
use lib.ListN.{length}
use borrow.Author.Tests.{leb-true, ltb-true, eq-eqb, eqb-false}
use Rattle.types.specs.declared.kind.Kind.TheVariants.{Add, Adopt, Learn, Wedge, Install, Inherit, CatchUp}
use Rattle.types.specs.declared.kind.NoKind.TheVariants.{Kept, Unknown}
use Rattle.types.specs.declared.step.Step.{Step}
use Rattle.model.specs.Checks.{Check, first_of}
use Rattle.types.specs.Kinds.{NamedKind, kind_of}
use Rattle.model.specs.Layout.{shards_of, is_state_length}
use Rattle.model.specs.WellFormed.{well_formed}
use Rattle.model.specs.Add.{add_checks}
use Rattle.model.specs.Adopt.{adopt_checks}
use Rattle.model.specs.Learn.{learn_checks}
use Rattle.model.specs.Wedge.{wedge_checks}
use Rattle.model.specs.Install.{install_checks}
use Rattle.model.specs.Inherit.{inherit_checks}
use Rattle.model.specs.CatchUp.{catch_up_checks}
use Rattle.types.specs.StepNames.{shard_of, configuration_of}
use Rattle.model.specs.Steps.{are_numbers, in_range, kind_checks, step_checks, rejection}
use Rattle.model.proofs.Tests.{both, all_pass}

-- every check passes
abbrev pub AllPass : List Check → Type 0
AllPass [] = Unit {0}
AllPass (c ∷ cs) = (c.passes ≡ true) × AllPass cs

-- no check has the number 0: `refl` proves it of a list that is written out
abbrev pub are_numbered : List Check → Bool
are_numbered [] = true
are_numbered (c ∷ cs) = leb 1 c.number && are_numbered cs

first : (b : Bool) (x n : ℕ) → 1 ≤ n → cond b x n ≡ 0 → (b ≡ true) × (x ≡ 0)
first true x n h e = (refl, e)
first false x n h e = absurd (omega arith)

pub passed : (cs : List Check) → are_numbered cs ≡ true → first_of cs ≡ 0 → AllPass cs
unfolding first_of
passed [] n e = tt
passed (c ∷ cs) n e =
    let t = (both (leb 1 c.number) (are_numbered cs)).0 n in
    let f = first c.passes (first_of cs) c.number (leb-true 1 c.number t.0) e in
    (f.0, passed cs t.1 f.1)

-- checks before others: the first that fails among them, or else among the others
pub first_before : (cs ds : List Check) → (first_of cs ≡ 0 → ⊥) → first_of (cs ++ ds) ≡ first_of cs
unfolding first_of
first_before [] ds n = absurd (n refl)
first_before (c ∷ cs) ds n = go c.passes (first_before cs ds) n
  where
    go : (b : Bool) → ((first_of cs ≡ 0 → ⊥) → first_of (cs ++ ds) ≡ first_of cs) → (cond b (first_of cs) c.number ≡ 0 → ⊥)
        → cond b (first_of (cs ++ ds)) c.number ≡ cond b (first_of cs) c.number
    go true rest n = rest n
    go false rest n = refl

pub first_after : (cs ds : List Check) → AllPass cs → first_of (cs ++ ds) ≡ first_of ds
unfolding first_of
first_after [] ds p = refl
first_after (c ∷ cs) ds p = rw p.0 (first_after cs ds p.1)

-- every check with the number n passes, so n is no rejection: `refl` proves it of a list that is written out and has no such check
abbrev pub pass_at : ℕ → List Check → Bool
pass_at n [] = true
pass_at n (c ∷ cs) = (not (eqb c.number n) || c.passes) && pass_at n cs

pub never : (n : ℕ) (cs : List Check) → 1 ≤ n → pass_at n cs ≡ true → first_of cs ≡ n → ⊥
unfolding first_of
never n [] h p e = omega arith
never n (c ∷ cs) h p e =
    go c.passes ((both (not (eqb c.number n) || c.passes) (pass_at n cs)).0 p) e (never n cs h)
  where
    go : (b : Bool) → ((not (eqb c.number n) || b) ≡ true) × (pass_at n cs ≡ true) → cond b (first_of cs) c.number ≡ n
        → (pass_at n cs ≡ true → first_of cs ≡ n → ⊥) → ⊥
    go true t f rest = rest t.1 f
    go false t f rest =
        let z : ◌≡◌ {A = ℕ} 0 1 = cc (t.0, eq-eqb c.number n f) in
        omega arith

-- the checks before the first one with the number n, which all pass where n is told
abbrev pub before : ℕ → List Check → List Check
before n [] = []
before n (c ∷ cs) = cond (eqb c.number n) [] (c ∷ before n cs)

pub told : (n : ℕ) (cs : List Check) → first_of cs ≡ n → AllPass (before n cs)
unfolding first_of
told n [] e = tt
told n (c ∷ cs) e = go (eqb c.number n) refl c.passes refl e (told n cs)
  where
    go : (t : Bool) → eqb c.number n ≡ t → (b : Bool) → c.passes ≡ b → cond b (first_of cs) c.number ≡ n
        → (first_of cs ≡ n → AllPass (before n cs)) → AllPass (cond t [] (c ∷ before n cs))
    go true p b q f rest = tt
    go false p true q f rest = (q, rest f)
    go false p false q f rest = absurd (eqb-false c.number n p f)

-- no check of a kind has the number 0 or 9
kind_numbers : (k : NamedKind) (w : List ℕ) (z j c d : ℕ)
    → (are_numbered (kind_checks k w z j c d) ≡ true) × (pass_at 9 (kind_checks k w z j c d) ≡ true)
unfolding kind_checks add_checks adopt_checks learn_checks wedge_checks install_checks inherit_checks catch_up_checks
kind_numbers (Ok Add) w z j c d = (refl, refl)
kind_numbers (Ok Adopt) w z j c d = (refl, refl)
kind_numbers (Ok Learn) w z j c d = (refl, refl)
kind_numbers (Ok Wedge) w z j c d = (refl, refl)
kind_numbers (Ok Install) w z j c d = (refl, refl)
kind_numbers (Ok Inherit) w z j c d = (refl, refl)
kind_numbers (Ok CatchUp) w z j c d = (refl, refl)
kind_numbers (Err Kept) w z j c d = (refl, refl)
kind_numbers (Err Unknown) w z j c d = (refl, refl)

-- the numbers of a step are in range
pub record InRange (Z : ℕ) (s : Step) : Type 0 where
  pub shard : shard_of s < Z
  pub index : 1 ≤ s.b
  pub configuration : configuration_of s < 8
  pub numbers : are_numbers (kind_of s.kind) Z s.c s.d ≡ true

pub in_range_lem : (Z : ℕ) (s : Step) → in_range Z s ≡ true → InRange Z s
unfolding in_range shard_of configuration_of
in_range_lem Z s e =
    let p = all_pass (ltb s.a Z) (leb 1 s.b ∷ leb s.b 8 ∷ are_numbers (kind_of s.kind) Z s.c s.d ∷ []) e in
    let least = leb-true 1 s.b p.1.0 in
    let most = leb-true s.b 8 p.1.1.0 in
    record { shard = ltb-true s.a Z p.0; index = least; configuration = omega arith; numbers = p.1.1.1.0 }

-- what an accepted step tells: its state is well-formed, its numbers are in range, and its kind's checks pass
pub record Accepted (w : List ℕ) (s : Step) : Type 0 where
  pub several : 2 ≤ shards_of (length w)
  pub formed : well_formed w ≡ true
  pub range : InRange (shards_of (length w)) s
  pub checks : AllPass (kind_checks (kind_of s.kind) w (shard_of s) (configuration_of s) s.c s.d)

pub accepted : (w : List ℕ) (s : Step) → rejection w s ≡ 0 → Accepted w s
unfolding rejection step_checks is_state_length
accepted w s e =
    let p = passed (step_checks w s) (kind_numbers (kind_of s.kind) w (shard_of s) (configuration_of s) s.c s.d).0 e in
    record {
      several = leb-true 2 (shards_of (length w)) (search);
      formed = search;
      range = in_range_lem (shards_of (length w)) s (search);
      checks = search;
    }

-- on a well-formed state no step is rejected with 9
pub not_nine : (w : List ℕ) (s : Step) → well_formed w ≡ true → rejection w s ≡ 9 → ⊥
unfolding rejection step_checks
not_nine w s f =
    never 9 (step_checks w s) (omega arith)
    ((both (well_formed w) (pass_at 9 (kind_checks (kind_of s.kind) w (shard_of s) (configuration_of s) s.c s.d))).1
    (f, (kind_numbers (kind_of s.kind) w (shard_of s) (configuration_of s) s.c s.d).1))
