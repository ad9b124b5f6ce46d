-- `types::step::Step::used` meets its contract.
use Rattle.std.proofs.Common.{◌≡◌, refl, sym, Err}
use Rattle.types.specs.declared.kind.NoKind.{NoKind}
use Rattle.types.specs.declared.kind.NoKind.TheVariants.{Kept, Unknown}
use Rattle.types.specs.Kinds.{used_numbers}
use Rattle.types.proofs.step.Step.used.Goals as goal

none : (e : NoKind) → 0 ≡ used_numbers (Err e)
unfolding used_numbers
none Kept = refl
none Unknown = refl

pub returns-in-Err : goal.returns-in-Err
returns-in-Err c = rw (sym c.try_from.ensures.kind, c.in-Err.is) (none c.in-Err.field-0)
