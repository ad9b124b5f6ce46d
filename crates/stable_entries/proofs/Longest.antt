-- A shard's stable history is that of the replica which the pick finds: words of the state.
use Prim.Native.Nat.{ℕ, zero, suc, ◌+◌, ◌<◌}
use native.Mathlib.Omega.{arith}
use mathlib.Core.Path.{◌≡◌, refl, ap, ◌∙◌}
use mathlib.Core.Bool.{Bool, true, false, cond}
use mathlib.Core.List.{List, [], ◌∷◌}
use lib.Dec.{ltb}
use lib.ListN.{length, get_or}
use borrow.Author.Tests.{lt-ltb}
use Rattle.model.specs.Replicas.{stable_prefix}
use Rattle.model.specs.Layout.{place, replica_at}
use Rattle.model.specs.StableHistory.{longer, longest_of, stable_history}
use Rattle.stable_entries.specs.StableEntries.{entries_at, HasEntries}
use Rattle.stable_entries.specs.Pick.{longest_place, OfShard}
use Rattle.stable_entries.proofs.Stable.{Settled, shard_settled}

longer_none : (p : List ℕ) → longer [] p ≡ p
unfolding longer
longer_none [] = refl
longer_none (x ∷ p) = rw (lt-ltb 0 (length (x ∷ p)) (omega arith))

module _ (w : List ℕ) where
  chosen_settled : (b : Bool) {p q : ℕ} → Settled w p → Settled w q → Settled w (cond b p q)
  chosen_settled true s t = s
  chosen_settled false s t = t

  chosen_prefix : (b : Bool) (p q : ℕ)
      → cond b (stable_prefix (replica_at w p)) (stable_prefix (replica_at w q)) ≡ stable_prefix (replica_at w (cond b p q))
  chosen_prefix true p q = refl
  chosen_prefix false p q = refl

module _ {w : List ℕ} {z : ℕ} (s : OfShard w z) where
  pub pick_settled : (n : ℕ) → n < 32 → Settled w (longest_place w z n)
  unfolding longest_place
  pick_settled zero h = shard_settled s 0 h
  pick_settled (suc n) h =
      chosen_settled w (ltb (get_or w (longest_place w z n + 2) 0) (get_or w (place z 0 (suc n) + 2) 0)) (shard_settled s (suc n) h)
      (pick_settled n (omega arith))

  pick_prefix : (n : ℕ) → n < 32 → longest_of w z (suc n) ≡ stable_prefix (replica_at w (longest_place w z n))
  unfolding longest_of longest_place longer
  pick_prefix zero h = longer_none (stable_prefix (replica_at w (place z 0 0)))
  pick_prefix (suc n) h =
      let hn : n < 32 = omega arith in
      rw (pick_prefix n hn, (pick_settled n hn).count, (shard_settled s (suc n) h).count)
      (chosen_prefix w (ltb (get_or w (longest_place w z n + 2) 0) (get_or w (place z 0 (suc n) + 2) 0)) (place z 0 (suc n)) (longest_place w z n))

-- the place that the pick finds, and the stable history there
pub record Longest (w : List ℕ) (z : ℕ) : Type 0 where
  pub has : HasEntries w (longest_place w z 31)
  pub entries : stable_history w z ≡ entries_at w (longest_place w z 31)
  pub count : length (stable_history w z) ≡ get_or w (longest_place w z 31 + 2) 0

pub longest : {w : List ℕ} {z : ℕ} → OfShard w z → Longest w z
unfolding stable_history
longest {w} {z} s =
    let t = pick_settled s 31 (omega arith) in
    let p = pick_prefix s 31 (omega arith) in
    record { has = t.has; entries = p ∙ t.entries; count = ap length p ∙ t.count }

-- the same of a place that is known to be the pick's
module _ {w : List ℕ} {z p : ℕ} (s : OfShard w z) (e : p ≡ longest_place w z 31) where
  pub picked : HasEntries w p
  picked = rw e (longest s).has

  pub picked_entries : stable_history w z ≡ entries_at w p
  picked_entries = rw e (longest s).entries
