-- Who appointed a configuration, over the moments of a run: every configuration after a shard's first was made by an install, and at every later moment it
-- is the first issue for its shard and index in the stable history of the sequencer that the shard had then. No step changes a sequencer, so that is the
-- shard's sequencer at any moment.
-- Assumes nothing.
use Prim.Native.Nat.{ℕ, zero, suc, ◌+◌, ◌≤◌, ◌<◌}
use native.Mathlib.Nat.{le_refl, le_of_lt}
use native.Mathlib.Omega.{arith}
use mathlib.Core.Path.{◌≡◌, refl, sym, ◌∙◌}
use mathlib.Core.List.{List, []}
use Rattle.types.specs.declared.step.Step.{Step}
use Rattle.model.specs.Entries.{issue, first_issue}
use Rattle.model.specs.Layout.{sequencer, installed, members, orderer}
use Rattle.model.specs.Steps.{rejection, effect}
use Rattle.model.specs.StableHistory.{stable_history}
use Rattle.model.specs.Prefixes.{Begins}
use Rattle.model.specs.Runs.{Moment, state_at}
use Rattle.model.specs.OneList.{shards}
use Rattle.model.proofs.StateViews.{stable_grows}
use Rattle.model.proofs.Issues.{first_stays, issue_not_zero}
use Rattle.model.proofs.Forward.{Forward}
use Rattle.model.proofs.Safe.{Safe, Installs}
use Rattle.model.proofs.SafeChange.{There, had, got, there, sequencer_below}
use Rattle.model.proofs.Appoints.{Appoints, step_appoints}
use Rattle.model.proofs.SafeStep.{safe_step}
use Rattle.model.proofs.RunSteps.{Next, stepped, rested, next}
use Rattle.model.proofs.SetupRuns.{FromSetup}
use Rattle.model.proofs.Moments.{offers_at, safe_at, forward_to, shards_at}

-- the step at moment m makes configuration j + 1 of shard z: it is an install of that shard, is accepted, and meets a state with j + 1 configurations of it
pub record Makes (w : List ℕ) (ms : List Moment) (z j m : ℕ) : Type 0 where
  pub step : Step
  pub installs : Installs step z
  pub accepted : rejection (state_at w ms m) step ≡ 0
  pub leaves : state_at w ms (suc m) ≡ effect (state_at w ms m) step
  pub count : installed (state_at w ms m) z ≡ suc j

-- some step before moment n made it
pub record Made (w : List ℕ) (ms : List Moment) (z j n : ℕ) : Type 0 where
  pub moment : ℕ
  pub earlier : moment < n
  pub makes : Makes w ms z j moment

made_onward : {w : List ℕ} {ms : List Moment} {z j n : ℕ} → Made w ms z j n → Made w ms z j (suc n)
made_onward d = record { moment = d.moment; earlier = omega (arith, d.earlier); makes = d.makes }

-- what is there after an accepted step was there before, or the step makes it
made_by : {w : List ℕ} {ms : List Moment} {z j n : ℕ} {s : Step} → There (Installs s z) (installed (state_at w ms n) z) j
    → rejection (state_at w ms n) s ≡ 0 → state_at w ms (suc n) ≡ effect (state_at w ms n) s
    → (suc j < installed (state_at w ms n) z → Made w ms z j n) → Made w ms z j (suc n)
made_by (had q) a b rest = made_onward (rest q)
made_by {n = n} {s = s} (got t e) a b rest =
    record {
      moment = n;
      earlier = le_refl (suc n);
      makes = record { step = s; installs = t; accepted = a; leaves = b; count = sym e };
    }

module _ {w : List ℕ} {ms : List Moment} (r : FromSetup w ms) where
  at : ℕ → List ℕ
  at n = state_at w ms n

  safe : (n : ℕ) → Safe (at n) (offers_at ms (λ z n. []) n)
  unfolding at
  safe n = safe_at r (λ z n. []) n

  forward : (m n : ℕ) → m ≤ n → Forward (at m) (at n)
  unfolding at
  forward m n h = forward_to r (λ z n. []) m n h

  shard_at : (n : ℕ) {z : ℕ} → z < shards w → z < shards (at n)
  unfolding at
  shard_at n h = rw (shards_at r (λ z n. []) n) h

  -- a configuration after the first was made
  pub made : (z j n : ℕ) → z < shards w → suc j < installed (state_at w ms n) z → Made w ms z j n
  unfolding state_at at
  made z j zero h l = let one = r.alone z h in absurd (omega (arith, l, one))
  made z j (suc n) h l = go (next r.run n) (made z j n h)
    where
      go : Next ms n (state_at w ms n) (state_at w ms (suc n)) → (suc j < installed (state_at w ms n) z → Made w ms z j n) → Made w ms z j (suc n)
      go (stepped s a b f) rest = made_by (there ((safe_step (safe n) s a).counts z (shard_at n h)) j (rw b at l)) a b rest
      go (rested b f) rest = made_onward (rest (rw b at l))

  module _ {z j m : ℕ} (h : z < shards w) (k : Makes w ms z j m) where
    appoints : Appoints (at m) (at (suc m)) z
    unfolding at
    appoints = rw k.leaves (step_appoints (safe m) k.step k.accepted z k.installs)

    -- what was first issued then is so at every later moment
    pub made_issued : (n : ℕ) → m < n
        → first_issue z (j + 2) (stable_history (state_at w ms n) (sequencer (state_at w ms m) z))
        ≡ issue (j + 2) z (orderer (state_at w ms n) z (suc j)) (members (state_at w ms n) z (suc j))
    unfolding at
    made_issued n l =
        rw (f.orderers z (suc j) (shard_at (suc m) h) now, f.memberships z (suc j) (shard_at (suc m) h) now)
        (first_stays z (j + 2) grown (rw (k.count, index) at appoints.first)
        (issue_not_zero (j + 2) z (orderer (at (suc m)) z (suc j)) (members (at (suc m)) z (suc j))))
      where
        index : suc j + 1 ≡ j + 2
        index = omega arith

        f : Forward (at (suc m)) (at n)
        f = forward (suc m) n l

        now : suc j < installed (at (suc m)) z
        now = omega (arith, appoints.gets, k.count)

        q : sequencer (at m) z < shards (at m)
        q = sequencer_below (safe m) z (shard_at m h)

        grown : Begins (stable_history (at m) (sequencer (at m) z)) (stable_history (at n) (sequencer (at m) z))
        grown =
            stable_grows (at m) (at n) (sequencer (at m) z)
            ((safe n).inv (sequencer (at m) z) (rw (shards_at r (λ z n. []) n, ← shards_at r (λ z n. []) m) q))
            (λ a b. (forward m n (le_of_lt l)).prefixes (sequencer (at m) z) a b q)

  -- a sequencer is at every moment the one at setup
  sequencer_stays : (z n : ℕ) → z < shards w → sequencer (state_at w ms n) z ≡ sequencer w z
  unfolding state_at at
  sequencer_stays z zero h = refl
  sequencer_stays z (suc n) h = go (next r.run n) ∙ sequencer_stays z n h
    where
      go : {u : List ℕ} → Next ms n (state_at w ms n) u → sequencer u z ≡ sequencer (state_at w ms n) z
      go (stepped s a b f) = rw b ((safe_step (safe n) s a).sequencers z (shard_at n h))
      go (rested b f) = rw b

  pub issued_at_lem : (z j n : ℕ) → z < shards w → suc j < installed (state_at w ms n) z
      → first_issue z (j + 2) (stable_history (state_at w ms n) (sequencer (state_at w ms n) z))
      ≡ issue (j + 2) z (orderer (state_at w ms n) z (suc j)) (members (state_at w ms n) z (suc j))
  issued_at_lem z j n h l =
      let d = made z j n h l in
      let same : sequencer (state_at w ms n) z ≡ sequencer (state_at w ms d.moment) z = sequencer_stays z n h ∙ sym (sequencer_stays z d.moment h) in
      rw same (made_issued h d.makes n d.earlier)
