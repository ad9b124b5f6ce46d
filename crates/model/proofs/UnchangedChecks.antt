-- On two well-formed states that differ in words 3 alone, the checks of every kind pass alike, so every step gets the same answer.
-- Assumes nothing.
use Rattle.std.specs.Prelude.{Ok, Err}
use Prim.Native.Nat.{ℕ, ◌-◌, ◌≤◌, ◌<◌}
use native.Mathlib.Omega.{arith}
use mathlib.Core.Path.{◌≡◌, refl, ap, subst}
use mathlib.Core.Bool.{Bool, true, false, cond}
use mathlib.Core.List.{List}
use lib.ListN.{length}
use Rattle.types.specs.declared.kind.Kind.TheVariants.{Add, Adopt, Learn, Wedge, Install, Inherit, CatchUp}
use Rattle.types.specs.declared.kind.NoKind.TheVariants.{Kept, Unknown}
use Rattle.types.specs.declared.step.Step.{Step}
use Rattle.model.specs.Checks.{first_of}
use Rattle.types.specs.Kinds.{NamedKind, kind_of}
use Rattle.types.specs.Members.{replica_number}
use Rattle.model.specs.Entries.{issue_shard}
use Rattle.model.specs.Replicas.{Replica, is_active, is_pending, is_immutable}
use Rattle.model.specs.Layout.{shards_of, place, sequencer, installed, is_installed, members, orderer, replica_at}
use Rattle.model.specs.Configuration.{configuration, replica_of, replica_in}
use Rattle.model.specs.WellFormed.{well_formed}
use Rattle.model.specs.Add.{orderer_replica, may_issue, add_checks}
use Rattle.model.specs.Adopt.{adopt_checks}
use Rattle.model.specs.Learn.{all_alike, learn_checks}
use Rattle.model.specs.Wedge.{wedge_checks}
use Rattle.model.specs.Install.{issuer, issued_at, is_stable_issue, is_wedged, is_newest_wedged, install_checks}
use Rattle.model.specs.Inherit.{source, is_source, inherit_checks}
use Rattle.model.specs.CatchUp.{is_peer, catch_up_checks}
use Rattle.types.specs.StepNames.{shard_of, configuration_of}
use Rattle.model.specs.Steps.{in_range, kind_checks, step_checks, rejection}
use Rattle.model.specs.Unchanged.{OriginsAlone}
use Rattle.model.proofs.Checks.{in_range_lem}
use Rattle.model.proofs.Places.{replica_place_lem}
use Rattle.model.proofs.Lengths.{several}
use Rattle.model.proofs.WellFormed.{well_formed_lem}
use Rattle.model.proofs.OriginsAlone.{OriginAlone, place_aligned, sequencer-same, installed-same, members-same, orderer-same, replica_same}

-- tests of a replica's mode
module _ {r s : Replica} (e : OriginAlone r s) where
  active_alike : is_active r ≡ is_active s
  unfolding is_active
  active_alike = rw e.mode

  pending-alike : is_pending r ≡ is_pending s
  unfolding is_pending
  pending-alike = rw e.mode

  immutable_alike : is_immutable r ≡ is_immutable s
  unfolding is_immutable
  immutable_alike = rw e.mode

module _ {v w : List ℕ} (a : OriginsAlone v w) where
  -- a replica by its number
  pub numbered_same : (z j k : ℕ) → OriginAlone (replica_at v (place z j k)) (replica_at w (place z j k))
  numbered_same z j k = replica_same a (place z j k) (place_aligned z j k)

  numbered_history : (z j k : ℕ) → (replica_at v (place z j k)).history ≡ (replica_at w (place z j k)).history
  numbered_history z j k = (numbered_same z j k).history

  numbered_immutable : (z j k : ℕ) → is_immutable (replica_at v (place z j k)) ≡ is_immutable (replica_at w (place z j k))
  numbered_immutable z j k = immutable_alike (numbered_same z j k)

  module _ (z : ℕ) {j : ℕ} (hj : j < 8) where
    -- the replica of a host, and the orderer's
    pub host_same : (h : ℕ) → OriginAlone (replica_of v (configuration v z j) h) (replica_of w (configuration w z j) h)
    unfolding replica_of
    host_same h = rw (replica_place_lem v z j h, replica_place_lem w z j h, members-same a z hj) (numbered_same z j (replica_number (members w z j) h))

    pub orderer_replica_same : OriginAlone (orderer_replica v z j) (orderer_replica w z j)
    unfolding orderer_replica configuration
    orderer_replica_same =
        subst (λ (o : ℕ). OriginAlone (orderer_replica v z j) (replica_of w (configuration w z j) o)) (orderer-same a z hj) (host_same (orderer v z j))

    -- ---- the tests that look at more

    installed-alike : is_installed v z j ≡ is_installed w z j
    unfolding is_installed
    installed-alike = rw (installed-same a z)

    all_alike-same : (n : ℕ) (f : List ℕ) → all_alike v z j n f ≡ all_alike w z j n f
    unfolding all_alike
    all_alike-same n f = simp (members-same a z hj, numbered_history)

    wedged-alike : is_wedged v z j ≡ is_wedged w z j
    unfolding is_wedged
    wedged-alike = simp (members-same a z hj, numbered_immutable)

    -- ---- the checks of each kind but install

    adopt_checks_lem : (h : ℕ) → adopt_checks v z j h ≡ adopt_checks w z j h
    unfolding adopt_checks
    adopt_checks_lem h =
        rw (installed-alike, members-same a z hj, orderer-same a z hj, active_alike (host_same h), pending-alike orderer_replica_same)

    learn_checks_lem : (h n : ℕ) → learn_checks v z j h n ≡ learn_checks w z j h n
    unfolding learn_checks
    learn_checks_lem h n =
        rw (installed-alike, members-same a z hj, active_alike (host_same h), (host_same h).stable, (host_same h).history, all_alike-same n _)

    wedge_checks_lem : (h : ℕ) → wedge_checks v z j h ≡ wedge_checks w z j h
    unfolding wedge_checks
    wedge_checks_lem h = rw (installed-alike, members-same a z hj, active_alike (host_same h))

    add_checks_lem : (e : ℕ) → add_checks v z j e ≡ add_checks w z j e
    unfolding add_checks may_issue
    add_checks_lem e =
        rw (installed-alike, active_alike orderer_replica_same, sequencer-same a (issue_shard e), orderer_replica_same.history)

    catch_up_checks_lem : (h g : ℕ) → catch_up_checks v z j h g ≡ catch_up_checks w z j h g
    unfolding catch_up_checks is_peer replica_in
    catch_up_checks_lem h g = rw (installed-alike, members-same a z hj, pending-alike (host_same h), pending-alike (host_same g))

  module _ (z : ℕ) {j : ℕ} (hj : j < 8) where
    pub source-same : (g : ℕ) → OriginAlone (source v z j g) (source w z j g)
    unfolding source
    source-same g = host_same z (omega arith) g

    inherit_checks_lem : (h g : ℕ) → inherit_checks v z j h g ≡ inherit_checks w z j h g
    unfolding inherit_checks is_source
    inherit_checks_lem h g =
        rw (
          installed-alike z hj,
          members-same a z hj,
          pending-alike (host_same z hj h),
          members-same a z {j = j - 1} (omega arith),
          immutable_alike (source-same g),
        )

    issuer-same : (h : ℕ) → OriginAlone (issuer v z j h) (issuer w z j h)
    unfolding issuer
    issuer-same h = rw (sequencer-same a z) (host_same (sequencer w z) hj h)

    pub issued_same : (h p : ℕ) → issued_at v z j h p ≡ issued_at w z j h p
    unfolding issued_at
    issued_same h p = rw (issuer-same h).history

    newest_alike : installed w z ≤ 8 → is_newest_wedged v z ≡ is_newest_wedged w z
    unfolding is_newest_wedged
    newest_alike l = rw (installed-same a z) (wedged-alike z (omega (arith, l)))

    install_checks_lem : installed w z ≤ 8 → (h p : ℕ) → install_checks v z j h p ≡ install_checks w z j h p
    unfolding install_checks is_stable_issue
    install_checks_lem l h p =
        rw (
          sequencer-same a z,
          installed-alike (sequencer w z) hj,
          members-same a (sequencer w z) hj,
          (issuer-same h).stable,
          issued_same h p,
          installed-same a z,
          newest_alike l,
          (issuer-same h).history,
        )

    -- ---- every kind

    kind_checks_lem : installed w z ≤ 8 → (k : NamedKind) (c d : ℕ) → kind_checks k v z j c d ≡ kind_checks k w z j c d
    unfolding kind_checks
    kind_checks_lem l (Ok Add) c d = add_checks_lem z hj c
    kind_checks_lem l (Ok Adopt) c d = adopt_checks_lem z hj c
    kind_checks_lem l (Ok Learn) c d = learn_checks_lem z hj c d
    kind_checks_lem l (Ok Wedge) c d = wedge_checks_lem z hj c
    kind_checks_lem l (Ok Install) c d = install_checks_lem l c d
    kind_checks_lem l (Ok Inherit) c d = inherit_checks_lem c d
    kind_checks_lem l (Ok CatchUp) c d = catch_up_checks_lem z hj c d
    kind_checks_lem l (Err Kept) c d = refl
    kind_checks_lem l (Err Unknown) c d = refl

-- ---- every step

-- a check, and others behind it that matter where it passes
pub decided : (t : Bool) (x y n : ℕ) → (t ≡ true → x ≡ y) → cond t x n ≡ cond t y n
decided true x y n e = e refl
decided false x y n e = refl

pub answer_same : {v w : List ℕ} → well_formed v ≡ true → well_formed w ≡ true → OriginsAlone v w → (s : Step) → rejection v s ≡ rejection w s
unfolding rejection step_checks first_of
answer_same {v} {w} e f a s = rw (a.long, e, f, decided (in_range (shards_of (length w)) s) _ _ 7 kinds)
  where
    kinds : in_range (shards_of (length w)) s ≡ true
        → first_of (kind_checks (kind_of s.kind) v (shard_of s) (configuration_of s) s.c s.d)
        ≡ first_of (kind_checks (kind_of s.kind) w (shard_of s) (configuration_of s) s.c s.d)
    kinds t =
        let r = in_range_lem (shards_of (length w)) s t in
        let g = well_formed_lem w (shards_of (length w)) refl (several (length w) (λ q. omega (arith, r.shard, q))) f in
        ap first_of (kind_checks_lem a (shard_of s) r.configuration (g.head (shard_of s) r.shard).most (kind_of s.kind) s.c s.d)
