-- The stores of an install: three head words, after which the replicas of the next configuration are still unused.
-- Assumes nothing.
use Prim.Native.Nat.{ℕ, ◌+◌, ◌*◌, ◌<◌}
use native.Mathlib.Omega.{arith}
use mathlib.Core.Path.{◌≡◌, ap, ◌∙◌}
use mathlib.Core.List.{List}
use lib.ListN.{length, get_or, set, length-set}
use Rattle.types.specs.Members.{size}
use Rattle.model.specs.Replicas.{read_replica, replica_words, unused}
use Rattle.model.specs.Layout.{shards_of, place, part, head_place, installed, put_head}
use Rattle.model.specs.Install.{install_next}
use Rattle.model.proofs.Parts.{replica_set_other}
use Rattle.model.proofs.Places.{head_outside}
use Rattle.model.proofs.Heads.{installed_word}
use Rattle.model.proofs.WellFormedParts.{vacant_unused, part_is_words, part_vacant}
use Rattle.model.proofs.WellFormedMembers.{configured}
use Rattle.model.proofs.WellFormedInstall.{old_vacant}
use Rattle.install_steps.specs.Next.{ReadyNext, Unused, pending_from}
use Rattle.lookup.proofs.ReadyFields.{formed}
use Rattle.install_steps.proofs.PendingStores.{pending-from}

-- the state with the three head words of configuration n
abbrev pub headed : List ℕ → ℕ → ℕ → ℕ → ℕ → List ℕ
headed w z n m o = set (set (set w (z * 2112 + 2 + n) m) (z * 2112 + 10 + n) o) (z * 2112 + 1) (n + 1)

pub headed_long : (w : List ℕ) (z n m o : ℕ) → length (headed w z n m o) ≡ length w
headed_long w z n m o = simp length-set

-- a head word is in no part
head_apart : (w : List ℕ) (z i x : ℕ) {n k : ℕ} → i < 64 → n < 8 → k < 4 → part (set w (z * 2112 + i) x) (place z n k) ≡ part w (place z n k)
unfolding head_place
head_apart w z i x {n} {k} hi hn hk = replica_set_other w (place z n k) (z * 2112 + i) x (head_outside z z hn hk hi)

module _ {w : List ℕ} {z m o : ℕ} (r : ReadyNext w z m o) where
  n : ℕ
  n = get_or w (z * 2112 + 1) 0

  next_vacant : (k : ℕ) → k < 4 → part w (place z n k) ≡ replica_words unused
  unfolding n
  next_vacant k h =
      let p = part w (place z (installed w z) k) in
      let e = old_vacant (formed r.state) r.shard (rw (installed_word w z) r.next) m o r.configured k h in
      let q = part_vacant (shards_of (length w)) (installed w z) p e in
      rw installed_word at (part_is_words (shards_of (length w)) (installed w z) _ p e ∙ ap replica_words (vacant_unused (read_replica p) q))

  headed_vacant : (k : ℕ) → k < 4 → part (headed w z n m o) (place z n k) ≡ replica_words unused
  unfolding n
  headed_vacant k h =
      let a : z * 2112 + 2 + n ≡ z * 2112 + (2 + n) = omega arith in
      let b : z * 2112 + 10 + n ≡ z * 2112 + (10 + n) = omega arith in
      let s : n < 8 = r.next in
      rw (a, b)
      (head_apart (set (set w (z * 2112 + (2 + n)) m) (z * 2112 + (10 + n)) o) z 1 (n + 1) (omega arith) s h
      ∙ head_apart (set w (z * 2112 + (2 + n)) m) z (10 + n) o (omega arith) s h ∙ head_apart w z (2 + n) m (omega arith) s h
      ∙ next_vacant k h)

  long : length (headed w z n m o) ≡ length w
  long = headed_long w z n m o

  -- where the replicas of the next configuration begin at p
  pub next_unused : {p : ℕ} → p ≡ place z (get_or w (z * 2112 + 1) 0) 0 → Unused (headed w z (get_or w (z * 2112 + 1) 0) m o) p (size m)
  unfolding n place
  next_unused {p} e =
      let few = (configured m o r.configured).size_most in
      record {
        few = few;
        fits = omega (arith, e, few, long, r.state.long, r.shard, r.next);
        vacant = λ k h. let q : p + k * 64 ≡ place z n k = omega (arith, e) in rw q (headed_vacant k (omega arith));
      }

-- the head words, then the pending replicas, are the whole install
pub next_stored : (w : List ℕ) (z m o : ℕ) {p k : ℕ} → p ≡ place z (get_or w (z * 2112 + 1) 0) 0 → k ≡ size m
    → pending_from (headed w z (get_or w (z * 2112 + 1) 0) m o) p k ≡ install_next w z m o
unfolding install_next put_head head_place
next_stored w z m o p e =
    let n = get_or w (z * 2112 + 1) 0 in
    let a : z * 2112 + 2 + n ≡ z * 2112 + (2 + n) = omega arith in
    let b : z * 2112 + 10 + n ≡ z * 2112 + (10 + n) = omega arith in
    pending-from (headed w z n m o) z n p _ ∙ rw (e, installed_word, a, b)
