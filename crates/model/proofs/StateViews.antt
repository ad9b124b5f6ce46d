-- The view of a shard in a state, and the shard's stable history over that view: the longest stable prefix, which every other begins.
-- Assumes nothing.
use Prim.Native.Nat.{ℕ, zero, suc, ◌+◌, ◌*◌, ◌/◌, ◌%◌, ◌≤◌, ◌<◌}
use native.Mathlib.Nat.{le_refl, le_of_lt, le_trans}
use native.Mathlib.Omega.{arith}
use mathlib.Core.Path.{◌≡◌, refl, sym, ap, ◌∙◌}
use mathlib.Core.Bool.{Bool, true, false, cond, ◌&&◌}
use mathlib.Core.List.{List, []}
use mathlib.Core.Logic.{inr}
use lib.Dec.{ltb}
use borrow.Author.Tests.{lt-ltb, ltb-true, ltb-false}
use lib.ListN.{length}
use Rattle.model.specs.Replicas.{stable_prefix, unused}
use Rattle.model.specs.Layout.{place, replica_at}
use Rattle.model.specs.StableHistory.{longer, longest_of, stable_history}
use Rattle.model.specs.Prefixes.{Begins, Share}
use Rattle.model.proofs.Places.{place_through}
use Rattle.model.proofs.Prefixes.{begins_nil, begins_trans, share_le}
use Rattle.model.proofs.Histories.{Once, Offered, once_nil, offered_nil}
use Rattle.model.proofs.Views.{View, Inv}
use Rattle.model.proofs.Agreement.{agreed, prefix_once, prefix_offered}

-- the replicas of shard z: 8 configurations of 4, unused past them
unfoldable pub view : List ℕ → ℕ → View
view w z j k = cond (ltb j 8 && ltb k 4) (replica_at w (place z j k)) unused

pub view_in : (w : List ℕ) (z : ℕ) {j k : ℕ} → j < 8 → k < 4 → view w z j k ≡ replica_at w (place z j k)
unfolding view
view_in w z {j} {k} a b = rw (lt-ltb j 8 a, lt-ltb k 4 b)

-- a place of a view is in range, or unused
pub data InView (w : List ℕ) (z j k : ℕ) : Type 0 where
  inside : j < 8 → k < 4 → view w z j k ≡ replica_at w (place z j k) → InView w z j k
  outside : ((j < 8) × (k < 4) → ⊥) → ((u : List ℕ) → view u z j k ≡ unused) → InView w z j k

pub in_view : (w : List ℕ) (z j k : ℕ) → InView w z j k
unfolding view
in_view w z j k = go (ltb j 8) (ltb k 4) refl refl
  where
    go : (s t : Bool) → ltb j 8 ≡ s → ltb k 4 ≡ t → InView w z j k
    go true true a b = inside (ltb-true j 8 a) (ltb-true k 4 b) (view_in w z (ltb-true j 8 a) (ltb-true k 4 b))
    go true false a b = outside (λ h. let g : 4 ≤ k = ltb-false k 4 b in omega (arith, h.1)) (λ u. rw (a, b))
    go false t a b = outside (λ h. let g : 8 ≤ j = ltb-false j 8 a in omega (arith, h.0)) (λ u. rw a)

-- replica n of the 32, counted from 0, is replica n % 4 of configuration n / 4
seat : (w : List ℕ) (z n : ℕ) → n < 32 → replica_at w (place z 0 n) ≡ view w z (n / 4) (n % 4)
seat w z n h = ap (replica_at w) (place_through z n) ∙ sym (view_in w z {j = n / 4} {k = n % 4} (omega arith) (omega arith))

-- which of two lists `longer` picks
longer_cases : (P : List ℕ → Type 0) (p q : List ℕ) → (length q ≤ length p → P p) → (length p < length q → P q) → P (longer p q)
unfolding longer
longer_cases P p q f g = go (ltb (length p) (length q)) refl
  where
    go : (t : Bool) → ltb (length p) (length q) ≡ t → P (cond (ltb (length p) (length q)) q p)
    go true e = rw e (g (ltb-true _ _ e))
    go false e = rw e (f (ltb-false _ _ e))

-- the longest is empty or the stable prefix of one of the replicas
pub data Picked (w : List ℕ) (z : ℕ) (l : List ℕ) : Type 0 where
  nothing : l ≡ [] → Picked w z l
  prefix_of : (j k : ℕ) → l ≡ stable_prefix (view w z j k) → Picked w z l

picked : (w : List ℕ) (z n : ℕ) → n ≤ 32 → Picked w z (longest_of w z n)
unfolding longest_of
picked w z zero h = nothing refl
picked w z (suc n) h =
    longer_cases (Picked w z) (longest_of w z n) (stable_prefix (replica_at w (place z 0 n))) (λ g. picked w z n (omega arith))
    (λ g. prefix_of (n / 4) (n % 4) (ap stable_prefix (seat w z n (omega arith))))

-- it is at least as long as each of them
longest_le : (w : List ℕ) (z n m : ℕ) → n ≤ 32 → m < n → length (stable_prefix (view w z (m / 4) (m % 4))) ≤ length (longest_of w z n)
unfolding longest_of
longest_le w z zero m h l = absurd (omega arith)
longest_le w z (suc n) m h l =
    longer_cases (λ (x : List ℕ). length (stable_prefix (view w z (m / 4) (m % 4))) ≤ length x) (longest_of w z n)
    (stable_prefix (replica_at w (place z 0 n)))
    (λ g. go (ltb m n) refl (λ e. longest_le w z n m (omega arith) e) g)
    (λ g. go (ltb m n) refl (λ e. le_trans (longest_le w z n m (omega arith) e) (le_of_lt g)) (le_refl _))
  where
    last : ltb m n ≡ false → length (stable_prefix (view w z (m / 4) (m % 4))) ≡ length (stable_prefix (replica_at w (place z 0 n)))
    last e = let q : m ≡ n = omega (arith, ltb-false m n e) in rw (q, seat w z n (omega arith))

    go : {x : ℕ} (t : Bool) → ltb m n ≡ t → (m < n → length (stable_prefix (view w z (m / 4) (m % 4))) ≤ x)
        → length (stable_prefix (replica_at w (place z 0 n))) ≤ x
        → length (stable_prefix (view w z (m / 4) (m % 4))) ≤ x
    go true e f g = f (ltb-true m n e)
    go false e f g = rw (last e) g

pub stable_picked : (w : List ℕ) (z : ℕ) → Picked w z (stable_history w z)
unfolding stable_history
stable_picked w z = picked w z 32 (le_refl 32)

module _ (w : List ℕ) (z : ℕ) {offer : List ℕ} (i : Inv (view w z) offer) where
  -- every stable prefix is comparable with the stable history, and no longer
  stable_share : (j k : ℕ) → Share (stable_prefix (view w z j k)) (stable_history w z)
  stable_share j k = go (stable_picked w z)
    where
      go : {l : List ℕ} → Picked w z l → Share (stable_prefix (view w z j k)) l
      go (nothing e) = rw e (record { either = inr begins_nil })
      go (prefix_of a b e) = rw e (agreed i j k a b)

  pub stable_begins : (j k : ℕ) → Begins (stable_prefix (view w z j k)) (stable_history w z)
  unfolding stable_history unused stable_prefix
  stable_begins j k = go (in_view w z j k)
    where
      same : (a b c d : ℕ) → a ≡ c → b ≡ d → view w z a b ≡ view w z c d
      same a b c d p q = rw (p, q)

      go : InView w z j k → Begins (stable_prefix (view w z j k)) (stable_history w z)
      go (inside a b e) =
          share_le (stable_share j k)
          (rw (same j k ((j * 4 + k) / 4) ((j * 4 + k) % 4) (omega arith) (omega arith))
          (longest_le w z 32 (j * 4 + k) (le_refl 32) (omega arith)))
      go (outside n e) = rw (e w) begins_nil

  pub stable_once : Once (stable_history w z)
  stable_once = go (stable_picked w z)
    where
      go : {l : List ℕ} → Picked w z l → Once l
      go (nothing e) = rw e once_nil
      go (prefix_of a b e) = rw e (prefix_once i a b)

  pub stable_offered : Offered offer (stable_history w z)
  stable_offered = go (stable_picked w z)
    where
      go : {l : List ℕ} → Picked w z l → Offered offer l
      go (nothing e) = rw e offered_nil
      go (prefix_of a b e) = rw e (prefix_offered i a b)

-- where stable prefixes grow, the stable history grows
pub stable_grows : (w w' : List ℕ) (z : ℕ) {offer : List ℕ} → Inv (view w' z) offer
    → ((j k : ℕ) → Begins (stable_prefix (view w z j k)) (stable_prefix (view w' z j k))) → Begins (stable_history w z) (stable_history w' z)
stable_grows w w' z i g = go (stable_picked w z)
  where
    go : {l : List ℕ} → Picked w z l → Begins l (stable_history w' z)
    go (nothing e) = rw e begins_nil
    go (prefix_of a b e) = rw e (begins_trans (g a b) (stable_begins w' z i a b))
