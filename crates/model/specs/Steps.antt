-- A step: what it names, its rejection in document 01's order, and what it leaves.
use Rattle.std.specs.Prelude.{Ok, Err}
use Rattle.std.specs.Prelude.{ℕ, Bool, true, cond, not, ◌&&◌, List, [], ◌∷◌, leb, ltb, eqb, length}
use Rattle.types.specs.declared.kind.Kind.TheVariants.{Add, Adopt, Learn, Wedge, Install, Inherit, CatchUp}
use Rattle.types.specs.declared.kind.NoKind.TheVariants.{Kept, Unknown}
use Rattle.types.specs.StepNames.{shard_of, configuration_of}
use Rattle.types.specs.declared.step.Step.{Step}
use Rattle.model.specs.Checks.{Check, first_of, ◌or_else◌}
use Rattle.types.specs.Kinds.{NamedKind, kind_of, is_kept, is_unknown}
use Rattle.types.specs.Members.{is_host}
use Rattle.model.specs.Entries.{is_entry}
use Rattle.model.specs.Layout.{shards_of, is_state_length}
use Rattle.model.specs.WellFormed.{well_formed}
use Rattle.model.specs.Add.{add_checks, add_effect}
use Rattle.model.specs.Adopt.{adopt_checks, adopt_effect}
use Rattle.model.specs.Learn.{learn_checks, learn_effect}
use Rattle.model.specs.Wedge.{wedge_checks, wedge_effect}
use Rattle.model.specs.Install.{install_checks, install_effect}
use Rattle.model.specs.Inherit.{inherit_checks, inherit_effect}
use Rattle.model.specs.CatchUp.{catch_up_checks, catch_up_effect}

-- the third and fourth number of each kind: "a box above 15, length above 56, place above 55, improper entry, or an unused number not 0"
unfoldable pub are_numbers : NamedKind → ℕ → ℕ → ℕ → Bool
are_numbers (Ok Add) Z c d = is_entry Z c && eqb d 0
are_numbers (Ok Adopt) Z c d = is_host c && eqb d 0
are_numbers (Ok Learn) Z c d = is_host c && leb d 56
are_numbers (Ok Wedge) Z c d = is_host c && eqb d 0
are_numbers (Ok Install) Z c d = is_host c && leb d 55
are_numbers (Ok Inherit) Z c d = is_host c && is_host d
are_numbers (Ok CatchUp) Z c d = is_host c && is_host d
are_numbers (Err Kept) Z c d = true
are_numbers (Err Unknown) Z c d = true

-- "7. A number out of range: zone not below Z, index not 1 to 8, .."
unfoldable pub in_range : ℕ → Step → Bool
in_range Z s = ltb s.a Z && leb 1 s.b && leb s.b 8 && are_numbers (kind_of s.kind) Z s.c s.d

-- the checks of a kind on the state, and its effect: shard z, configuration j, third and fourth number
unfoldable pub kind_checks : NamedKind → List ℕ → ℕ → ℕ → ℕ → ℕ → List Check
kind_checks (Ok Add) w z j c d = add_checks w z j c
kind_checks (Ok Adopt) w z j c d = adopt_checks w z j c
kind_checks (Ok Learn) w z j c d = learn_checks w z j c d
kind_checks (Ok Wedge) w z j c d = wedge_checks w z j c
kind_checks (Ok Install) w z j c d = install_checks w z j c d
kind_checks (Ok Inherit) w z j c d = inherit_checks w z j c d
kind_checks (Ok CatchUp) w z j c d = catch_up_checks w z j c d
kind_checks (Err Kept) w z j c d = []
kind_checks (Err Unknown) w z j c d = []

unfoldable pub kind_effect : NamedKind → List ℕ → ℕ → ℕ → ℕ → ℕ → List ℕ
kind_effect (Ok Add) w z j c d = add_effect w z j c
kind_effect (Ok Adopt) w z j c d = adopt_effect w z j c
kind_effect (Ok Learn) w z j c d = learn_effect w z j c d
kind_effect (Ok Wedge) w z j c d = wedge_effect w z j c
kind_effect (Ok Install) w z j c d = install_effect w z j c d
kind_effect (Ok Inherit) w z j c d = inherit_effect w z j c d
kind_effect (Ok CatchUp) w z j c d = catch_up_effect w z j c d
kind_effect (Err Kept) w z j c d = w
kind_effect (Err Unknown) w z j c d = w

-- "A step: 1, 3, 4, 7, 9, then .."
unfoldable pub step_checks : List ℕ → Step → List Check
step_checks w s =
    is_state_length (length w) or_else 1
    ∷ not (is_kept (kind_of s.kind)) or_else 3
    ∷ not (is_unknown (kind_of s.kind)) or_else 4
    ∷ in_range (shards_of (length w)) s or_else 7
    ∷ well_formed w or_else 9
    ∷ kind_checks (kind_of s.kind) w (shard_of s) (configuration_of s) s.c s.d

-- what a step answers: its rejection, or 0
unfoldable pub rejection : List ℕ → Step → ℕ
rejection w s = first_of (step_checks w s)

-- what an accepted step leaves
unfoldable pub effect : List ℕ → Step → List ℕ
effect w s = kind_effect (kind_of s.kind) w (shard_of s) (configuration_of s) s.c s.d

-- what a step leaves: "A refusal is its number, .. buffers untouched"
unfoldable pub after : List ℕ → Step → List ℕ
after w s = cond (eqb (rejection w s) 0) (effect w s) w
