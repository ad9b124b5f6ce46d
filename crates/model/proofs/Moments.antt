-- Every moment of a run is safe, and every later one is forward of it.
-- Assumes nothing.
use Prim.Native.Nat.{ℕ, zero, suc, ◌+◌, ◌-◌, ◌≤◌, zero-le}
use native.Mathlib.Nat.{add-zero, add-suc}
use native.Mathlib.Omega.{arith}
use mathlib.Core.Path.{◌≡◌, refl, ap, ◌∙◌}
use mathlib.Core.Bool.{cond}
use mathlib.Core.List.{List, ◌∷◌}
use Rattle.types.specs.declared.step.Step.{Step}
use Rattle.model.specs.Runs.{Moment, state_at}
use Rattle.model.specs.Reference.{Reference, at_setup, is_add_in, fed, fed_at, before_accepting, accept_all}
use Rattle.model.specs.OneList.{shards}
use Rattle.model.proofs.RunSteps.{Next, stepped, rested, next}
use Rattle.model.proofs.SetupRuns.{FromSetup}
use Rattle.model.proofs.ReferenceShard.{accepted_offer}
use Rattle.model.proofs.Forward.{Forward, forward_refl, forward_trans, forward_shards}
use Rattle.model.proofs.Safe.{Safe, offers_after}
use Rattle.model.proofs.SafeStep.{safe_step}

-- what is on offer in each shard at moment n, whatever was accepted before
unfoldable pub offers_at : List Moment → (ℕ → ℕ → List ℕ) → ℕ → ℕ → List ℕ
offers_at ms choice n z = (before_accepting z (choice z) ms n).offered

-- the same offers, shard by shard
safe_as : {w : List ℕ} {o o' : ℕ → List ℕ} → ((z : ℕ) → o' z ≡ o z) → Safe w o → Safe w o'
safe_as e x =
    record { several = x.several; formed = x.formed; inv = λ z h. rw (e z) (x.inv z h); wedges = x.wedges }

-- from one moment to the next
record Onward (ms : List Moment) (choice : ℕ → ℕ → List ℕ) (n : ℕ) (u u' : List ℕ) : Type 0 where
  safe : Safe u' (offers_at ms choice (suc n))
  forward : Forward u u'

module _ (ms : List Moment) (choice : ℕ → ℕ → List ℕ) where
  offers_stepped : (n z : ℕ) (s : Step) → ((r : Reference) → fed_at z ms n r ≡ fed z s 0 r)
      → offers_at ms choice (suc n) z ≡ offers_after s (offers_at ms choice n) z
  unfolding offers_at before_accepting offers_after fed
  offers_stepped n z s f =
      ap (λ (q : Reference). q.offered) (f (accept_all (choice z n) (before_accepting z (choice z) ms n)))
      ∙ ap (λ (o : List ℕ). cond (is_add_in z s 0) (s.c ∷ o) o) (accepted_offer (choice z n) (before_accepting z (choice z) ms n))

  offers_rested : (n z : ℕ) → ((r : Reference) → fed_at z ms n r ≡ r) → offers_at ms choice (suc n) z ≡ offers_at ms choice n z
  unfolding offers_at before_accepting
  offers_rested n z f =
      ap (λ (q : Reference). q.offered) (f (accept_all (choice z n) (before_accepting z (choice z) ms n)))
      ∙ accepted_offer (choice z n) (before_accepting z (choice z) ms n)

  onward : (n : ℕ) {u u' : List ℕ} → Next ms n u u' → Safe u (offers_at ms choice n) → Onward ms choice n u u'
  onward n (stepped s a b f) x =
      record {
        safe = rw b (safe_as (λ z. offers_stepped n z s (f z)) (safe_step x s a).safe);
        forward = rw b (safe_step x s a).forward;
      }
  onward n (rested b f) x =
      record { safe = rw b (safe_as (λ z. offers_rested n z (f z)) x); forward = rw b forward_refl }

module _ {w : List ℕ} {ms : List Moment} (r : FromSetup w ms) (choice : ℕ → ℕ → List ℕ) where
  pub safe_at : (n : ℕ) → Safe (state_at w ms n) (offers_at ms choice n)
  unfolding state_at offers_at before_accepting at_setup
  safe_at zero = safe_as (λ z. refl) r.start
  safe_at (suc n) = (onward ms choice n (next r.run n) (safe_at n)).safe

  forward_next : (n : ℕ) → Forward (state_at w ms n) (state_at w ms (suc n))
  forward_next n = (onward ms choice n (next r.run n) (safe_at n)).forward

  forward_by : (m d : ℕ) → Forward (state_at w ms m) (state_at w ms (m + d))
  forward_by m zero = rw (add-zero m) forward_refl
  forward_by m (suc d) = rw (add-suc m d) (forward_trans (forward_by m d) (forward_next (m + d)))

  pub forward_to : (m n : ℕ) → m ≤ n → Forward (state_at w ms m) (state_at w ms n)
  forward_to m n h =
      let e : m + (n - m) ≡ n = omega arith in
      rw e at (forward_by m (n - m))

  -- every moment has as many shards as the first
  pub shards_at : (n : ℕ) → shards (state_at w ms n) ≡ shards w
  unfolding state_at
  shards_at n = forward_shards (forward_to zero n zero-le)
