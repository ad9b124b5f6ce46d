-- Every step keeps a well-formed state well-formed, and every state as long as it is.
use Rattle.std.specs.Prelude.{Ok, Err}
use Prim.Native.Nat.{ℕ, ◌<◌}
use mathlib.Core.Path.{◌≡◌, refl, sym, ◌∙◌, subst}
use mathlib.Core.Bool.{true}
use mathlib.Core.List.{List}
use native.Mathlib.Decide.{ℕ_discrete}
use lib.Dec.{eqb}
use lib.ListN.{length}
use borrow.Author.Tests.{ltb-true, eq-eqb, ne_eqb}
use Rattle.types.specs.declared.kind.Kind.TheVariants.{Add, Adopt, Learn, Wedge, Install, Inherit, CatchUp}
use Rattle.types.specs.declared.kind.NoKind.TheVariants.{Kept, Unknown}
use Rattle.types.specs.declared.step.Step.{Step}
use Rattle.types.specs.Kinds.{NamedKind, kind_of}
use Rattle.types.specs.Members.{is_host}
use Rattle.model.specs.Entries.{is_entry}
use Rattle.model.specs.Layout.{shards_of}
use Rattle.model.specs.WellFormed.{well_formed}
use Rattle.model.specs.Steps.{are_numbers, kind_checks, kind_effect, rejection, effect, after}
use Rattle.model.proofs.Tests.{both}
use Rattle.model.proofs.Checks.{AllPass, Accepted, accepted}
use Rattle.model.proofs.WellFormed.{WellFormed, size_of, well_formed_lem, is_well_formed}
use Rattle.model.proofs.WellFormedReplicas.{add_keeps, adopt_keeps, learn_keeps, wedge_keeps, inherit_keeps, catch_up_keeps}
use Rattle.model.proofs.WellFormedInstall.{install_keeps}

kind_keeps : (k : NamedKind) {Z : ℕ} {w : List ℕ} → WellFormed Z w → {z j : ℕ} → z < Z → j < 8 → (c d : ℕ) → are_numbers k Z c d ≡ true
    → AllPass (kind_checks k w z j c d) → WellFormed Z (kind_effect k w z j c d)
unfolding are_numbers is_host kind_checks kind_effect
kind_keeps (Ok Add) {Z} f hz hj c d n p = add_keeps f hz hj c ((both (is_entry Z c) (eqb d 0)).0 n).0 p
kind_keeps (Ok Adopt) f hz hj c d n p = adopt_keeps f hz hj c p
kind_keeps (Ok Learn) f hz hj c d n p = learn_keeps f hz hj c d p
kind_keeps (Ok Wedge) f hz hj c d n p = wedge_keeps f hz hj c p
kind_keeps (Ok Install) f hz hj c d n p = install_keeps f hz hj c d p
kind_keeps (Ok Inherit) f hz hj c d n p = inherit_keeps f hz hj c d (ltb-true d 16 ((both (is_host c) (is_host d)).0 n).1) p
kind_keeps (Ok CatchUp) f hz hj c d n p = catch_up_keeps f hz hj c d p
kind_keeps (Err Kept) f hz hj c d n p = f
kind_keeps (Err Unknown) f hz hj c d n p = f

-- an accepted step's state, and what it leaves
pub accepted_formed : (w : List ℕ) (s : Step) → Accepted w s → WellFormed (shards_of (length w)) w
accepted_formed w s a = well_formed_lem w (shards_of (length w)) refl a.several a.formed

pub effect_formed : (w : List ℕ) (s : Step) → Accepted w s → WellFormed (shards_of (length w)) (effect w s)
unfolding effect
effect_formed w s a =
    kind_keeps (kind_of s.kind) (accepted_formed w s a) a.range.shard a.range.configuration s.c s.d a.range.numbers a.checks

-- ---- after a step

pub after_accepted : (w : List ℕ) (s : Step) → rejection w s ≡ 0 → after w s ≡ effect w s
unfolding after
after_accepted w s e = rw (eq-eqb (rejection w s) 0 e)

pub after_rejected : (w : List ℕ) (s : Step) → (rejection w s ≡ 0 → ⊥) → after w s ≡ w
unfolding after
after_rejected w s n = rw (ne_eqb (rejection w s) 0 n)

-- what holds of the state before, and of what an accepted step leaves, holds after the step
pub after_either : (P : List ℕ → Type 0) (w : List ℕ) (s : Step) → P w → (rejection w s ≡ 0 → P (effect w s)) → P (after w s)
after_either P w s here there = go (ℕ_discrete (rejection w s) 0)
  where
    go : Dec (rejection w s ≡ 0) → P (after w s)
    go (yes e) = subst P (sym (after_accepted w s e)) (there e)
    go (no n) = subst P (sym (after_rejected w s n)) here

-- a state that is well-formed stays so
pub after_formed : {Z : ℕ} {w : List ℕ} → WellFormed Z w → (s : Step) → WellFormed Z (after w s)
after_formed {Z} {w} f s =
    after_either (WellFormed Z) w s f
    (λ e. subst (λ (n : ℕ). WellFormed n (effect w s)) f.shards (effect_formed w s (accepted w s e)))

pub step_well_formed : (w : List ℕ) (s : Step) → rejection w s ≡ 0 → well_formed (after w s) ≡ true
step_well_formed w s e = rw (after_accepted w s e) (is_well_formed (effect_formed w s (accepted w s e)))

pub kept : (w : List ℕ) (s : Step) → well_formed w ≡ true → well_formed (after w s) ≡ true
kept w s f =
    after_either (λ (u : List ℕ). well_formed u ≡ true) w s f (λ e. is_well_formed (effect_formed w s (accepted w s e)))

pub step_length : (w : List ℕ) (s : Step) → length (after w s) ≡ length w
step_length w s =
    after_either (λ (u : List ℕ). length u ≡ length w) w s refl
    (λ e. let a = accepted w s e in size_of (effect_formed w s a) ∙ sym (size_of (accepted_formed w s a)))
