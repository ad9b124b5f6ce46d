-- Document 01's orders of a step's checks, as one claim over every state and step: a step is rejected with the first number of its list whose check fails,
-- since `rejection` is `first_of` of these checks. It is proved in `proofs/Orders.antt` (`step_orders`).
use Rattle.std.specs.Prelude.{Ok, Err}
use Rattle.std.specs.Prelude.{ℕ, ◌≡◌, List, [], ◌∷◌}
use Rattle.types.specs.declared.kind.Kind.TheVariants.{Add, Adopt, Learn, Wedge, Install, Inherit, CatchUp}
use Rattle.types.specs.declared.kind.NoKind.TheVariants.{Kept, Unknown}
use Rattle.types.specs.declared.step.Step.{Step}
use Rattle.model.specs.Checks.{Check}
use Rattle.types.specs.Kinds.{NamedKind, kind_of}
use Rattle.model.specs.Steps.{step_checks}

-- the numbers of several checks, in order
unfoldable pub check_numbers : List Check → List ℕ
check_numbers [] = []
check_numbers (c ∷ cs) = c.number ∷ check_numbers cs

-- "add 10, 12, 17, 15, 16", and 23 "in add after 15 and before 16" (request A2); "adopt 10, 11, 14, 12, 13"; "confirm 10, 11, 12, 18, 19";
-- "wedge 10, 11, 12"; "install 10, 11, 20, 21, 22", and 24 "in install after 21 and before 22" (request A6); "inherit 10, 11, 12, 13"; catch up:
-- "the order is that of inherit" (request A4)
unfoldable pub kind_order : NamedKind → List ℕ
kind_order (Ok Add) = 10 ∷ 12 ∷ 17 ∷ 15 ∷ 23 ∷ 16 ∷ []
kind_order (Ok Adopt) = 10 ∷ 11 ∷ 14 ∷ 12 ∷ 13 ∷ []
kind_order (Ok Learn) = 10 ∷ 11 ∷ 12 ∷ 18 ∷ 19 ∷ []
kind_order (Ok Wedge) = 10 ∷ 11 ∷ 12 ∷ []
kind_order (Ok Install) = 10 ∷ 11 ∷ 20 ∷ 21 ∷ 24 ∷ 22 ∷ []
kind_order (Ok Inherit) = 10 ∷ 11 ∷ 12 ∷ 13 ∷ []
kind_order (Ok CatchUp) = 10 ∷ 11 ∷ 12 ∷ 13 ∷ []
kind_order (Err Kept) = []
kind_order (Err Unknown) = []

pub record Orders : Type 0 where
  -- "A step: 1, 3, 4, 7, 9, then .."
  pub of_step : (w : List ℕ) (s : Step) → check_numbers (step_checks w s) ≡ 1 ∷ 3 ∷ 4 ∷ 7 ∷ 9 ∷ kind_order (kind_of s.kind)
