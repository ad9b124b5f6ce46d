-- A replay is rejected, or is the run of its log.
-- Assumes nothing.
use Prim.Native.Nat.{ℕ, ◌≤◌}
use native.Mathlib.Omega.{arith}
use mathlib.Core.Path.{◌≡◌, refl, ap, ◌∙◌}
use mathlib.Core.List.{List, [], ◌∷◌}
use lib.ListN.{length}
use borrow.Author.Tests.{leb-true}
use Rattle.types.specs.declared.Report.{Report}
use Rattle.std.specs.Prelude.{Result, Ok, Err}
use Rattle.types.specs.declared.rejection.Rejection.{Rejection}
use Rattle.types.specs.Rejections.{rejection_number, answered}
use Rattle.types.proofs.Rejections.{number_not_0, rejected_answer}
use Rattle.model.specs.Checks.{◌or_else◌}
use Rattle.model.specs.Layout.{shards_of, is_state_length}
use Rattle.model.specs.WellFormed.{well_formed}
use Rattle.model.specs.Replay.{after_all, replay_rejection, replayed, report, after_replay}
use Rattle.model.proofs.Checks.{passed}
use Rattle.model.proofs.Results.{Told, replays}
use Rattle.lookup.proofs.Formed.{formed_of}
use Rattle.lookup.specs.Ready.{Formed}
use Rattle.replay.specs.Run.{run_report, after_run}

-- what is answered and left, in numbers and as a value
abbrev pub Reports : List ℕ → List ℕ → ℕ → Result Report Rejection → List ℕ → Type 0
Reports w log budget r v = Told r w log budget × ((r ≡ report w log budget) × (v ≡ after_replay w log budget))

pub reports : (w log : List ℕ) (budget : ℕ) {x : Result Report Rejection} {v : List ℕ} → x ≡ report w log budget → v ≡ after_replay w log budget
    → Reports w log budget x v
reports w log budget p q = (replays w log budget p, (p, q))

module _ (w log : List ℕ) (budget : ℕ) where
  -- the test of the state rejected
  pub rejects : {r : Rejection} → rejection_number r ≡ replay_rejection w → Reports w log budget (Err r) w
  unfolding report after_replay replayed after_all
  rejects {r} e = reports w log budget (rw (← e) (rejected_answer r _)) (rw (← e, number_not_0 r))

  -- .. or passed
  module _ (z : replay_rejection w ≡ 0) where
    pub runs : {x : Report} {v : List ℕ} → (x ≡ run_report w log budget) × (v ≡ after_run w log budget) → Reports w log budget (Ok x) v
    unfolding report answered after_replay replayed run_report after_run
    runs p = reports w log budget (ap (λ (x : Report). Ok x) p.0 ∙ rw z) (p.1 ∙ rw z)

    pub formed : Formed w
    unfolding replay_rejection is_state_length
    formed =
        let p = passed (is_state_length (length w) or_else 1 ∷ well_formed w or_else 9 ∷ []) refl z in
        let s : 2 ≤ shards_of (length w) = leb-true 2 (shards_of (length w)) p.0 in
        formed_of w (λ q. omega (arith, s, q)) p.1.0
