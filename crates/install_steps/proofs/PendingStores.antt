-- Stores of the modes of unused replicas make them pending.
-- Assumes nothing.
use Prim.Native.Nat.{ℕ, zero, suc, ◌+◌, ◌*◌, ◌≤◌, ◌<◌}
use native.Mathlib.Numerals.{add-one}
use native.Mathlib.Omega.{arith}
use mathlib.Core.Path.{◌≡◌, refl, ap₂, ◌∙◌}
use mathlib.Core.List.{List}
use lib.ListN.{length, set}
use Rattle.model.specs.Replicas.{unused, pending}
use Rattle.types.specs.ReplicaPlace.{part_words}
use Rattle.model.specs.Layout.{place, part, put_replica}
use Rattle.model.specs.Install.{put_pending}
use Rattle.model.proofs.Parts.{put_length, part_put_other, behind}
use Rattle.lookup.proofs.Stores.{store_mode}
use Rattle.install_steps.specs.Next.{Unused, pending_from}

short : length pending.history ≤ 56
unfolding pending
short = omega arith

module _ {w : List ℕ} {first n : ℕ} (r : Unused w first n) where
  pub pending_long : (k : ℕ) → k ≤ n → length (pending_from w first k) ≡ length w
  unfolding pending_from
  pending_long zero h = refl
  pending_long (suc k) h =
      let e = pending_long k (omega arith) in
      put_length (pending_from w first k) (first + k * part_words) pending (omega (arith, r.fits, e)) short ∙ e

  -- replicas behind those that were changed are as they were
  pending_behind : (k : ℕ) → k ≤ n → (i : ℕ) → k ≤ i → part (pending_from w first k) (first + i * part_words) ≡ part w (first + i * part_words)
  unfolding pending_from
  pending_behind zero h i l = refl
  pending_behind (suc k) h i l =
      part_put_other (pending_from w first k) (first + k * part_words) pending (omega (arith, r.fits, pending_long k (omega arith))) short
      (behind (omega arith))
      ∙ pending_behind k (omega arith) i (omega arith)

  -- one more
  pub pending_stored : (k : ℕ) → k < n → set (pending_from w first k) (first + k * part_words) 1 ≡ pending_from w first (k + 1)
  unfolding pending_from pending unused
  pending_stored k h =
      rw add-one
      (store_mode (pending_from w first k) (first + k * part_words) unused
      (pending_behind k (omega arith) k (omega arith) ∙ r.vacant k h) 1)

-- so many replicas of a configuration
pub pending-from : (w : List ℕ) (z j : ℕ) {first : ℕ} → first ≡ place z j 0 → (n : ℕ) → pending_from w first n ≡ put_pending w z j n
unfolding pending_from put_pending place
pending-from w z j e zero = refl
pending-from w z j {first} e (suc n) =
    ap₂ (λ (u : List ℕ) (at : ℕ). put_replica u at pending) (pending-from w z j e n) (next n)
  where
    next : (k : ℕ) → first + k * part_words ≡ place z j k
    next k = omega (arith, e)
