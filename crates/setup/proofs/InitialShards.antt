-- The state that setup writes, shard after shard.
-- Assumes nothing.
use Prim.Native.Nat.{ℕ, zero, ◌+◌, ◌-◌, ◌*◌, ◌<◌}
use native.Mathlib.Numerals.{add-one}
use native.Mathlib.Omega.{arith}
use mathlib.Core.Path.{◌≡◌, refl, sym, ap, ap₂, ◌∙◌}
use mathlib.Core.List.{List, ◌++◌, append_assoc, append-nil}
use lib.ListN.{length, take, drop, replicate, drop_of_length-le, length-replicate, replicate-append-replicate}
use lib.Seq.{take_at, drop_at, drop-append-add, drop-drop}
use borrow.Rule.Slice.PartMut.{put_mid, Post-is}
use Rattle.model.specs.Tests.{concat_below}
use Rattle.model.specs.Setup.{plan_sequencer, plan_members, plan_orderer, initial_shard, initial_state}
use Rattle.model.proofs.InitialState.{initial_length}

-- the words of shard z
unfoldable pub planned_shard : List ℕ → ℕ → List ℕ
planned_shard plan z = initial_shard (plan_sequencer plan z) (plan_members plan z) (plan_orderer plan z)

next_shard : (plan : List ℕ) (z : ℕ) → initial_state (z + 1) plan ≡ initial_state z plan ++ planned_shard plan z
unfolding initial_state concat_below planned_shard
next_shard plan z = rw add-one refl

-- v is w with its first z shards written
pub record Written (Z : ℕ) (plan w : List ℕ) (z : ℕ) (v : List ℕ) : Type 0 where
  pub long : length v ≡ Z * 2112
  pub words : v ≡ initial_state z plan ++ drop (z * 2112) w

-- a part of zeros is so many zeros
zeros-part : (a n b : ℕ) → take n (drop a (replicate (a + (n + b)) zero)) ≡ replicate n zero
zeros-part a n b =
    ap (λ (l : List ℕ). take n (drop a l)) (sym (replicate-append-replicate a (n + b) zero))
    ∙ ap (take n) (drop_at (replicate a zero) (replicate (n + b) zero) a (length-replicate a zero))
    ∙ ap (take n) (sym (replicate-append-replicate n b zero)) ∙ take_at (replicate n zero) (replicate b zero) n (length-replicate n zero)

module _ (Z : ℕ) (plan w : List ℕ) (h : length w ≡ Z * 2112) where
  pub none_written : Written Z plan w 0 w
  unfolding initial_state concat_below
  none_written = record { long = h; words = refl }

  -- the state with shard z written
  written : (z : ℕ) (v : List ℕ) → Written Z plan w z v
      → put_mid (z * 2112) (z * 2112 + 2112 - z * 2112) v (planned_shard plan z) ≡ initial_state (z + 1) plan ++ drop ((z + 1) * 2112) w
  written z v s =
      ap (λ (l : List ℕ). take at v ++ (planned_shard plan z ++ l)) (Post-is at (at + 2112) v (omega arith))
      ∙ ap₂ (λ (k l : List ℕ). k ++ (planned_shard plan z ++ l)) before behind ∙ sym (append_assoc done (planned_shard plan z) (drop ((z + 1) * 2112) w))
      ∙ ap (λ (l : List ℕ). l ++ drop ((z + 1) * 2112) w) (sym (next_shard plan z))
    where
      at : ℕ
      at = z * 2112

      done : List ℕ
      done = initial_state z plan

      before : take at v ≡ done
      before = ap (take at) s.words ∙ take_at done (drop at w) at (initial_length z plan)

      next : z * 2112 + 2112 ≡ (z + 1) * 2112
      next = omega arith

      behind : drop (at + 2112) v ≡ drop ((z + 1) * 2112) w
      behind =
          ap (drop (at + 2112)) s.words ∙ ap (λ (n : ℕ). drop (n + 2112) (done ++ drop at w)) (sym (initial_length z plan))
          ∙ drop-append-add done (drop at w) 2112 ∙ drop-drop 2112 at w ∙ ap (λ (n : ℕ). drop n w) next

  pub next_written : (z : ℕ) (v part : List ℕ) → z < Z → part ≡ planned_shard plan z
      → length (put_mid (z * 2112) (z * 2112 + 2112 - z * 2112) v part) ≡ length v
      → Written Z plan w z v → Written Z plan w (z + 1) (put_mid (z * 2112) (z * 2112 + 2112 - z * 2112) v part)
  next_written z v part l e same s =
      record {
        long = same ∙ s.long;
        words = ap (put_mid (z * 2112) (z * 2112 + 2112 - z * 2112) v) e ∙ written z v s;
      }

  -- where they were all 0, the words of shard z still are
  pub still_zero : (z : ℕ) (v : List ℕ) → w ≡ replicate (Z * 2112) 0 → z < Z → Written Z plan w z v
      → take (z * 2112 + 2112 - z * 2112) (drop (z * 2112) v) ≡ replicate 2112 0
  still_zero z v e l s =
      let n : z * 2112 + 2112 - z * 2112 ≡ 2112 = omega arith in
      let m : Z * 2112 ≡ z * 2112 + (2112 + (Z * 2112 - (z * 2112 + 2112))) = omega (arith, l) in
      ap₂ (λ (k : ℕ) (x : List ℕ). take k x) n
      (ap (drop (z * 2112)) s.words ∙ drop_at (initial_state z plan) (drop (z * 2112) w) (z * 2112) (initial_length z plan))
      ∙ ap (λ (x : List ℕ). take 2112 (drop (z * 2112) x)) (e ∙ ap (λ (k : ℕ). replicate k 0) m)
      ∙ zeros-part (z * 2112) 2112 (Z * 2112 - (z * 2112 + 2112))
