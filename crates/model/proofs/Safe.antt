-- What holds of every state of a run, with the entries offered to each shard so far.
-- Assumes nothing.
use Rattle.std.specs.Prelude.{Ok}
use Prim.Native.Nat.{ℕ, suc, ◌≤◌, ◌<◌}
use mathlib.Core.Path.{◌≡◌}
use mathlib.Core.Bool.{true, cond}
use mathlib.Core.List.{List, ◌∷◌}
use Rattle.types.specs.declared.kind.Kind.TheVariants.{Install}
use Rattle.types.specs.declared.step.Step.{Step}
use Rattle.types.specs.Kinds.{kind_of}
use Rattle.model.specs.Layout.{installed}
use Rattle.model.specs.WellFormed.{well_formed}
use Rattle.types.specs.StepNames.{shard_of}
use Rattle.model.specs.Reference.{is_add_in}
use Rattle.model.specs.OneList.{shards}
use Rattle.model.proofs.Views.{Inv}
use Rattle.model.proofs.StateViews.{view}

-- a replica of configuration j of shard z is immutable
pub record Wedged (w : List ℕ) (z j : ℕ) : Type 0 where
  pub number : ℕ
  pub is_immutable : (view w z j number).mode ≡ 3

pub record Safe (w : List ℕ) (offers : ℕ → List ℕ) : Type 0 where
  pub several : 2 ≤ shards w
  pub formed : well_formed w ≡ true
  pub inv : (z : ℕ) → z < shards w → Inv (view w z) (offers z)
  pub wedges : (z j : ℕ) → z < shards w → suc j < installed w z → Wedged w z j

-- the offers after an accepted step
unfoldable pub offers_after : Step → (ℕ → List ℕ) → ℕ → List ℕ
offers_after s offers z = cond (is_add_in z s 0) (s.c ∷ offers z) (offers z)

-- the step is an install of shard z
pub record Installs (s : Step) (z : ℕ) : Type 0 where
  pub kind : kind_of s.kind ≡ (Ok Install)
  pub shard : shard_of s ≡ z
