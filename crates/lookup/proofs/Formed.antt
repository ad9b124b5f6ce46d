-- A state that passed the tests of its length and its form is well-formed, with a known number of shards.
-- Assumes nothing.
use Prim.Native.Nat.{ℕ}
use mathlib.Core.Path.{◌≡◌, refl}
use mathlib.Core.Bool.{true}
use mathlib.Core.List.{List}
use lib.ListN.{length}
use Rattle.model.specs.Layout.{shards_of}
use Rattle.model.specs.WellFormed.{well_formed}
use Rattle.model.proofs.Lengths.{several, length_of_shards}
use Rattle.lookup.specs.Ready.{Formed}

pub formed_of : (w : List ℕ) → (shards_of (length w) ≡ 0 → ⊥) → well_formed w ≡ true → Formed w
formed_of w n f =
    let s = several (length w) n in
    let l = length_of_shards w (shards_of (length w)) refl s in
    record { formed = f; several = s; most = l.1; long = l.0 }
