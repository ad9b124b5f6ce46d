-- The proof of `specs/OneIssue.antt`: in a safe state the test of 22 passes wherever install comes to it.
-- Assumes nothing.
use Rattle.std.specs.Prelude.{Ok, Err}
use Prim.Native.Nat.{ℕ, ◌<◌}
use native.Mathlib.Omega.{arith}
use mathlib.Core.Path.{◌≡◌, refl, sym, ◌∙◌}
use mathlib.Core.Bool.{true}
use mathlib.Core.List.{List, []}
use lib.ListN.{length}
use Rattle.types.specs.declared.kind.Kind.TheVariants.{Add, Adopt, Learn, Wedge, Install, Inherit, CatchUp}
use Rattle.types.specs.declared.kind.NoKind.TheVariants.{Kept, Unknown}
use Rattle.types.specs.declared.step.Step.{Step}
use Rattle.types.specs.Kinds.{NamedKind, kind_of}
use Rattle.types.specs.Members.{has_member, replica_number}
use Rattle.model.specs.Entries.{issue_index, names}
use Rattle.model.specs.Layout.{shards_of, sequencer, members}
use Rattle.model.specs.Add.{add_checks}
use Rattle.model.specs.Adopt.{adopt_checks}
use Rattle.model.specs.Learn.{learn_checks}
use Rattle.model.specs.Wedge.{wedge_checks}
use Rattle.model.specs.Install.{issuer, issued_at, is_stable_issue, none_before, install_checks}
use Rattle.model.specs.Inherit.{inherit_checks}
use Rattle.model.specs.CatchUp.{catch_up_checks}
use Rattle.types.specs.StepNames.{shard_of, configuration_of}
use Rattle.model.specs.Steps.{in_range, kind_checks, step_checks, rejection}
use Rattle.model.specs.Setup.{after_setup}
use Rattle.model.specs.Runs.{played, state_at, answer_at}
use Rattle.model.specs.OneList.{shards, Seated}
use Rattle.model.specs.OneIssue.{entry_of, OneIssueClaim}
use Rattle.model.proofs.Checks.{told, never, in_range_lem}
use Rattle.model.proofs.Rivals.{names_own, Single, single_first, single_place}
use Rattle.model.proofs.WellFormedMembers.{member_proper}
use Rattle.model.proofs.WellFormedInstall.{stable_tells}
use Rattle.model.proofs.SeatedReplica.{member_view, seated_view}
use Rattle.model.proofs.Safe.{Safe}
use Rattle.model.proofs.SafeChange.{formed, sequencer_below}
use Rattle.model.proofs.RunSteps.{Answered, answered, silent, answer}
use Rattle.model.proofs.SetupRuns.{FromSetup, from_setup}
use Rattle.model.proofs.Moments.{offers_at, safe_at}

module _ {w : List ℕ} {offers : ℕ → List ℕ} (x : Safe w offers) where
  -- a stable issue in the sequencer of shard z has none for its shard and index before it
  module _ {z j : ℕ} (hz : z < shards w) (hj : j < 8) (h p : ℕ) (m : has_member (members w (sequencer w z) j) h ≡ true)
      (i : is_stable_issue w z j h p ≡ true) where
    y : sequencer w z < shards w
    y = sequencer_below x z hz

    issuer_single : Single (issuer w z j h).history
    unfolding issuer
    issuer_single =
        rw (member_view (formed x) y hj h m) ((x.inv (sequencer w z) y).single j (replica_number (members w (sequencer w z) j) h))

    -- the entry at the place stands in the history, and names this shard and its own index
    first_there : none_before z (issue_index (issued_at w z j h p)) p (issuer w z j h).history ≡ true
    unfolding issuer issued_at
    first_there =
        let t = stable_tells w z j h p i in
        single_first issuer_single z (issue_index (issued_at w z j h p)) p
        (omega (arith, t.0, (member_proper (formed x) y hj h m).stable_most))
        (rw t.2 at (names_own (issued_at w z j h p) t.1))

  -- of the kinds only install tells 22, and it has passed the checks before by then
  install_passes : (s : Step) → kind_of s.kind ≡ (Ok Install) → rejection w s ≡ 22
      → none_before (shard_of s) (issue_index (issued_at w (shard_of s) (configuration_of s) s.c s.d)) s.d
      (issuer w (shard_of s) (configuration_of s) s.c).history
      ≡ true
  unfolding rejection step_checks kind_checks install_checks shards
  install_passes s e r =
      let p = rw e at (told 22 (step_checks w s) r) in
      let ranged : in_range (shards_of (length w)) s ≡ true = search in
      let range = in_range_lem (shards_of (length w)) s ranged in
      first_there range.shard range.configuration s.c s.d (search) (search)

  not_told : (s : Step) (k : NamedKind) → kind_of s.kind ≡ k → rejection w s ≡ 22 → ⊥
  unfolding rejection step_checks kind_checks add_checks adopt_checks learn_checks wedge_checks install_checks inherit_checks catch_up_checks
  not_told s (Ok Add) e r = never 22 (step_checks w s) (omega arith) (rw e) r
  not_told s (Ok Adopt) e r = never 22 (step_checks w s) (omega arith) (rw e) r
  not_told s (Ok Learn) e r = never 22 (step_checks w s) (omega arith) (rw e) r
  not_told s (Ok Wedge) e r = never 22 (step_checks w s) (omega arith) (rw e) r
  not_told s (Ok Install) e r = never 22 (step_checks w s) (omega arith) (rw (e, install_passes s e r)) r
  not_told s (Ok Inherit) e r = never 22 (step_checks w s) (omega arith) (rw e) r
  not_told s (Ok CatchUp) e r = never 22 (step_checks w s) (omega arith) (rw e) r
  not_told s (Err Kept) e r = never 22 (step_checks w s) (omega arith) (rw e) r
  not_told s (Err Unknown) e r = never 22 (step_checks w s) (omega arith) (rw e) r

  -- the history of a host is one of the view
  seated_single : {z j h : ℕ} → Seated w z j h → (y i p q : ℕ) → names y i (entry_of w z j h p) ≡ true → names y i (entry_of w z j h q) ≡ true
      → p ≡ q
  unfolding entry_of
  seated_single {z} {j} {h} d y i p q =
      rw (seated_view x.formed x.several d)
      (single_place ((x.inv z d.shard).single j (replica_number (members w z j) h)) y i p q)

pub one_issue : OneIssueClaim
unfolding OneIssueClaim
one_issue w p e calls =
    record {
      single = λ z j h n d. seated_single (safe n) d;
      never = λ n q. go n (answer run.run n) q;
    }
  where
    run : FromSetup (after_setup w p) (played (after_setup w p) calls)
    run = from_setup w p e calls

    safe : (n : ℕ) → Safe (state_at (after_setup w p) (played (after_setup w p) calls) n) (offers_at (played (after_setup w p) calls) (λ z n. []) n)
    safe n = safe_at run (λ z n. []) n

    go : (n : ℕ) → Answered (state_at (after_setup w p) (played (after_setup w p) calls) n) (answer_at (played (after_setup w p) calls) n)
        → answer_at (played (after_setup w p) calls) n ≡ 22 → ⊥
    go n (answered s r) q = not_told (safe n) s (kind_of s.kind) refl (sym r ∙ q)
    go n (silent r) q = omega (arith, r, q)
