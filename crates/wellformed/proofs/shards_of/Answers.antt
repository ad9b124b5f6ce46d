-- Answers of `shards_of`.
use Prim.Native.Nat.{ℕ, ◌*◌}
use native.Mathlib.Omega.{arith}
use mathlib.Core.Path.{◌≡◌, refl, ap, ◌∙◌}
use Rattle.model.specs.Layout.{shards_of}
use Rattle.model.proofs.Lengths.{several, shards_most, shards_long, each_length}
use Rattle.wellformed.proofs.shards_of.Goals as goal
use Rattle.wellformed.proofs.shards_of.Goals.{then-len-shards, else-len-shards}

pub loop-shards-init : goal.loop-shards-init
loop-shards-init c = (λ h. grind (arith, several c.args.len), λ h. refl)

pub loop-shards-preserved : goal.loop-shards-preserved
loop-shards-preserved c =
    let l = c.loop-shards in
    elim c.if-len-shards.branch [
      | then-len-shards w ↦
          let found : shards_of c.args.len ≡ l.shards = ap shards_of w.if-len-shards.true ∙ each_length l.shards (omega arith) (omega arith) in
          (λ h. omega (arith, found, w.count-is), λ h. omega (arith, found))
      | else-len-shards w ↦
          let other : shards_of c.args.len ≡ l.shards → ⊥ = λ e. w.if-len-shards.false (shards_long c.args.len (omega (arith, e)) ∙ ap (λ (n : ℕ). n * 2112) e) in
          (λ h. w.count-is ∙ l.invariant.0 (omega (arith, other)), λ h. w.count-is ∙ l.invariant.1 (omega arith))
    ]

pub returns : goal.returns
returns c = c.loop-shards.invariant.0 (omega (arith, shards_most c.args.len))
