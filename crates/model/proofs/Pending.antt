-- The first c replicas of a configuration are made pending: what is written, and what is left alone.
use Prim.Native.Nat.{ℕ, zero, suc, ◌+◌, ◌*◌, ◌≤◌, ◌<◌}
use native.Mathlib.Omega.{arith}
use native.Mathlib.Decide.{ℕ_discrete}
use mathlib.Core.Path.{◌≡◌, refl, sym, ◌∙◌, subst}
use mathlib.Core.List.{List}
use lib.ListN.{length}
use Rattle.model.specs.Replicas.{replica_words, pending}
use Rattle.model.specs.Layout.{place, head_word, part}
use Rattle.model.specs.Install.{put_pending}
use Rattle.model.proofs.Parts.{put_length, part_put, part_put_other}
use Rattle.model.proofs.Places.{place_fits, place_apart, head_put}

short : length pending.history ≤ 56
unfolding pending
short = omega arith

module _ (w : List ℕ) {z j Z : ℕ} (l : length w ≡ Z * 2112) (hz : z < Z) (hj : j < 8) where
  pub pending-length : (c : ℕ) → c ≤ 4 → length (put_pending w z j c) ≡ Z * 2112
  unfolding put_pending
  pending-length zero h = l
  pending-length (suc c) h =
      let e = pending-length c (omega arith) in
      put_length (put_pending w z j c) (place z j c) pending (place_fits (put_pending w z j c) e hz hj h) short ∙ e

  pub pending_head : (c : ℕ) → c ≤ 4 → (z' : ℕ) {i : ℕ} → i < 64 → head_word (put_pending w z j c) z' i ≡ head_word w z' i
  unfolding put_pending
  pending_head zero h z' hi = refl
  pending_head (suc c) h z' hi =
      head_put (put_pending w z j c) (pending-length c (omega arith)) hz hj h pending short z' hi ∙ pending_head c (omega arith) z' hi

  pub pending_other : (c : ℕ) → c ≤ 4 → (z' j' k' : ℕ) → j' < 8 → k' < 4 → (z ≡ z' → j ≡ j' → k' < c → ⊥)
      → part (put_pending w z j c) (place z' j' k') ≡ part w (place z' j' k')
  unfolding put_pending
  pending_other zero h z' j' k' hj' hk' ne = refl
  pending_other (suc c) h z' j' k' hj' hk' ne =
      part_put_other (put_pending w z j c) (place z j c) pending
      (place_fits (put_pending w z j c) (pending-length c (omega arith)) hz hj h) short
      (place_apart z z' hj h hj' hk' (λ a b d. ne a b (omega arith)))
      ∙ pending_other c (omega arith) z' j' k' hj' hk' (λ a b d. ne a b (omega arith))

  pub pending_here : (c : ℕ) → c ≤ 4 → (k : ℕ) → k < c → part (put_pending w z j c) (place z j k) ≡ replica_words pending
  unfolding put_pending
  pending_here zero h k hk = absurd (omega arith)
  pending_here (suc c) h k hk = go (ℕ_discrete k c) (pending_here c (omega arith) k)
    where
      fits : place z j c + 64 ≤ length (put_pending w z j c)
      fits = place_fits (put_pending w z j c) (pending-length c (omega arith)) hz hj h

      go : Dec (k ≡ c) → (k < c → part (put_pending w z j c) (place z j k) ≡ replica_words pending)
          → part (put_pending w z j (suc c)) (place z j k) ≡ replica_words pending
      go (yes e) rest =
          subst (λ (x : ℕ). part (put_pending w z j (suc c)) (place z j x) ≡ replica_words pending) (sym e)
          (part_put (put_pending w z j c) (place z j c) pending fits short)
      go (no e) rest =
          part_put_other (put_pending w z j c) (place z j c) pending fits short
          (place_apart z z hj h hj (omega arith) (λ a b d. e (sym d)))
          ∙ rest (omega arith)
