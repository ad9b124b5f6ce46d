-- `log_reader::Reader::after_kind` meets its contract: no kind, or its numbers read in turn. Assumes nothing.
use Prim.Native.Nat.{ℕ}
use native.Mathlib.Omega.{arith}
use mathlib.Core.Path.{◌≡◌, sym, ◌∙◌}
use mathlib.Core.List.{[]}
use Rattle.std.proofs.lemmas.Result.{err_from_is_err_and}
use Rattle.model.specs.Log.{step_of}
use Rattle.types.specs.Rules.{fourth_numbers}
use Rattle.types.proofs.KindRules.{ok_known, fourth_most}
use Rattle.log_reader.proofs.StepParts.{kind_rejected, kind_taken, step_done}
use Rattle.log_reader.proofs.NumbersTaken.{number_more, number_rejected}
use Rattle.log_reader.proofs.Reader.after_kind.Goals as goal
use Rattle.log_reader.proofs.Reader.after_kind.Goals.{then-fourths-eq0, else-fourths-eq0+in_ok-d}

pub returns-in_err-try_from : goal.returns-in_err-try_from
returns-in_err-try_from c =
    let p = err_from_is_err_and c.from_residual.result c.from_residual.ensures.1 in
    rw p.1 (kind_rejected _ _ _ (sym c.in_err-try_from.was ∙ c.try_from.ensures.kind) p.2)

pub returns-in_err-a : goal.returns-in_err-a
returns-in_err-a c =
    let p = err_from_is_err_and c.from_residual-in_err-a.result c.from_residual-in_err-a.ensures.1 in
    let n : ℕ = c.args.kind in
    let k = ok_known _ _ (sym c.in_ok-try_from.was ∙ c.try_from.ensures.kind) in
    rw (p.1, p.2) (kind_taken _ _ n k (number_rejected c.number.ensures n [] _ c.in_err-a.was))

pub returns-in_err-b : goal.returns-in_err-b
returns-in_err-b c =
    let p = err_from_is_err_and c.from_residual-in_err-b.result c.from_residual-in_err-b.ensures.1 in
    let n : ℕ = c.args.kind in
    let k = ok_known _ _ (sym c.in_ok-try_from.was ∙ c.try_from.ensures.kind) in
    rw (p.1, p.2)
    (kind_taken _ _ n k (number_more c.number.ensures n [] _ c.in_ok-a.was (number_rejected c.number-2.ensures n _ _ c.in_err-b.was)))

pub returns-in_err-c : goal.returns-in_err-c
returns-in_err-c c =
    let p = err_from_is_err_and c.from_residual-in_err-c.result c.from_residual-in_err-c.ensures.1 in
    let n : ℕ = c.args.kind in
    let k = ok_known _ _ (sym c.in_ok-try_from.was ∙ c.try_from.ensures.kind) in
    rw (p.1, p.2)
    (kind_taken _ _ n k
    (number_more c.number.ensures n [] _ c.in_ok-a.was
    (number_more c.number-2.ensures n _ _ c.in_ok-b.was (number_rejected c.number-3.ensures n _ _ c.in_err-c.was))))

pub fourths-requires : goal.fourths-requires
fourths-requires c = ok_known _ _ (sym c.in_ok-try_from.was ∙ c.try_from.ensures.kind)

pub returns-in_err-d : goal.returns-in_err-d
returns-in_err-d c =
    let p = err_from_is_err_and c.from_residual-in_err-d.result c.from_residual-in_err-d.ensures.1 in
    let n : ℕ = c.args.kind in
    let k = ok_known _ _ (sym c.in_ok-try_from.was ∙ c.try_from.ensures.kind) in
    let one : fourth_numbers n ≡ 1 = omega (arith, c.fourths.ensures, fourth_most n) in
    rw (p.1, p.2)
    (kind_taken _ _ n k
    (number_more c.number.ensures n [] _ c.in_ok-a.was
    (number_more c.number-2.ensures n _ _ c.in_ok-b.was
    (number_more c.number-3.ensures n _ (fourth_numbers n) c.in_ok-c.was
    (rw one (number_rejected c.number-else-fourths-eq0.ensures n _ 0 c.in_err-d.was))))))

pub returns : goal.returns
unfolding step_of
returns c =
    let n : ℕ = c.args.kind in
    let k = ok_known _ _ (sym c.in_ok-try_from.was ∙ c.try_from.ensures.kind) in
    kind_taken _ _ n k
    (number_more c.number.ensures n [] _ c.in_ok-a.was
    (number_more c.number-2.ensures n _ _ c.in_ok-b.was
    (number_more c.number-3.ensures n _ (fourth_numbers n) c.in_ok-c.was
    (elim c.if-fourths-eq0.branch [
      | then-fourths-eq0 w ↦
          let none : fourth_numbers n ≡ 0 = omega (arith, c.fourths.ensures, w.if-fourths-eq0.true) in
          rw (none, w.self-is, w.d-is) (step_done n _ _ _)
      | else-fourths-eq0+in_ok-d w ↦
          let one : fourth_numbers n ≡ 1 = omega (arith, c.fourths.ensures, fourth_most n, w.if-fourths-eq0.false) in
          rw (one, w.self-is, w.d-is) (number_more w.number-else-fourths-eq0.ensures n _ 0 w.in_ok-d.was (step_done n _ _ _))
    ]))))
