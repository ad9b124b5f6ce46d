-- Words of a state as fields of the replica that they belong to.
-- Assumes nothing.
use Prim.Native.Nat.{ℕ, ◌+◌}
use native.Mathlib.Nat.{add-zero}
use native.Mathlib.Omega.{arith}
use mathlib.Core.Path.{◌≡◌, ap, ◌∙◌}
use mathlib.Core.List.{List}
use lib.Dec.{eqb}
use lib.ListN.{get_or}
use Rattle.model.specs.Replicas.{read_replica, is_active, is_pending, is_immutable}
use Rattle.model.specs.Layout.{replica_at}
use Rattle.model.proofs.Parts.{part_word}

pub mode_word_lem : (w : List ℕ) (at : ℕ) → (replica_at w at).mode ≡ get_or w at 0
unfolding replica_at read_replica
mode_word_lem w at = part_word w at 0 (omega arith) ∙ ap (λ (i : ℕ). get_or w i 0) (add-zero at)

pub stable_word : (w : List ℕ) (at : ℕ) → (replica_at w at).stable ≡ get_or w (at + 2) 0
unfolding replica_at read_replica
stable_word w at = part_word w at 2 (omega arith)

pub origin_word_lem : (w : List ℕ) (at : ℕ) → (replica_at w at).origin ≡ get_or w (at + 3) 0
unfolding replica_at read_replica
origin_word_lem w at = part_word w at 3 (omega arith)

-- tests of a replica's mode are tests of its first word
pub active_word : (w : List ℕ) (at : ℕ) → is_active (replica_at w at) ≡ eqb (get_or w at 0) 2
unfolding is_active
active_word w at = ap (λ (m : ℕ). eqb m 2) (mode_word_lem w at)

pub pending_word : (w : List ℕ) (at : ℕ) → is_pending (replica_at w at) ≡ eqb (get_or w at 0) 1
unfolding is_pending
pending_word w at = ap (λ (m : ℕ). eqb m 1) (mode_word_lem w at)

pub immutable_word : (w : List ℕ) (at : ℕ) → is_immutable (replica_at w at) ≡ eqb (get_or w at 0) 3
unfolding is_immutable
immutable_word w at = ap (λ (m : ℕ). eqb m 3) (mode_word_lem w at)
