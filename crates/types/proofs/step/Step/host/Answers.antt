-- `types::step::Step::host` meets its contract.
use Rattle.std.proofs.Common.{ℕ, ◌≡◌, Bool, true, Err, refl, sym, ap, ◌∙◌}
use Rattle.types.specs.declared.kind.NoKind.{NoKind}
use Rattle.types.specs.declared.kind.NoKind.TheVariants.{Kept, Unknown}
use Rattle.types.specs.declared.kind.Rules.{Rules}
use Rattle.types.specs.Kinds.{NamedKind, kind_of, names_host}
use Rattle.types.specs.Rules.{rules_of}
use Rattle.types.specs.StepNames.{acting_host}
use Rattle.types.proofs.step.Step.host.Goals as goal

-- the rules of the step's kind tell whether it names its host
told : (n : ℕ) {k : NamedKind} {r : Rules} {b : Bool} → k ≡ kind_of n → r ≡ rules_of k → r.host ≡ b → names_host (kind_of n) ≡ b
unfolding rules_of
told n p q e = ap names_host (sym p) ∙ sym (ap (λ (r : Rules). r.host) q) ∙ e

no_kind : (e : NoKind) → names_host (Err e) ≡ true
unfolding names_host
no_kind Kept = refl
no_kind Unknown = refl

pub returns-in-Ok : goal.returns-in-Ok
unfolding acting_host
returns-in-Ok c = rw (told _ (sym c.in-Ok.is ∙ c.try_from.ensures.kind) c.rules.ensures c.if-rules.true)

pub returns-in-Ok-2 : goal.returns-in-Ok-2
unfolding acting_host
returns-in-Ok-2 c = rw (told _ (sym c.in-Ok.is ∙ c.try_from.ensures.kind) c.rules.ensures c.if-rules.false)

pub returns-in-Err : goal.returns-in-Err
unfolding acting_host
returns-in-Err c = rw (sym c.try_from.ensures.kind, c.in-Err.is, no_kind c.in-Err.field-0)
