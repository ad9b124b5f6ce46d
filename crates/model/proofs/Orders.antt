-- The proof of `specs/Orders.antt`: the checks of each kind are written out, so their numbers compute. Assumes nothing.
use Rattle.std.specs.Prelude.{Ok, Err}
use Prim.Native.Nat.{ℕ}
use mathlib.Core.Path.{◌≡◌, refl}
use mathlib.Core.List.{List}
use Rattle.types.specs.declared.kind.Kind.TheVariants.{Add, Adopt, Learn, Wedge, Install, Inherit, CatchUp}
use Rattle.types.specs.declared.kind.NoKind.TheVariants.{Kept, Unknown}
use Rattle.types.specs.Kinds.{NamedKind, kind_of}
use Rattle.model.specs.Add.{add_checks}
use Rattle.model.specs.Adopt.{adopt_checks}
use Rattle.model.specs.Learn.{learn_checks}
use Rattle.model.specs.Wedge.{wedge_checks}
use Rattle.model.specs.Install.{install_checks}
use Rattle.model.specs.Inherit.{inherit_checks}
use Rattle.model.specs.CatchUp.{catch_up_checks}
use Rattle.types.specs.StepNames.{shard_of, configuration_of}
use Rattle.model.specs.Steps.{kind_checks, step_checks}
use Rattle.model.specs.Orders.{check_numbers, kind_order, Orders}

kind_order_lem : (k : NamedKind) (w : List ℕ) (z j c d : ℕ) → check_numbers (kind_checks k w z j c d) ≡ kind_order k
unfolding check_numbers kind_order kind_checks add_checks adopt_checks learn_checks wedge_checks install_checks inherit_checks catch_up_checks
kind_order_lem (Ok Add) w z j c d = refl
kind_order_lem (Ok Adopt) w z j c d = refl
kind_order_lem (Ok Learn) w z j c d = refl
kind_order_lem (Ok Wedge) w z j c d = refl
kind_order_lem (Ok Install) w z j c d = refl
kind_order_lem (Ok Inherit) w z j c d = refl
kind_order_lem (Ok CatchUp) w z j c d = refl
kind_order_lem (Err Kept) w z j c d = refl
kind_order_lem (Err Unknown) w z j c d = refl

pub step_orders : Orders
unfolding check_numbers step_checks
step_orders = record { of_step = λ w s. rw (kind_order_lem (kind_of s.kind) w (shard_of s) (configuration_of s) s.c s.d) }
