-- The proof of `specs/TraceLaws.antt`: a trace goes through replicas that are there to start from.
-- Assumes nothing.
use Prim.Native.Nat.{ℕ, suc, ◌-◌, ◌≤◌}
use native.Mathlib.Omega.{arith}
use mathlib.Core.Path.{◌≡◌, refl, sym, ap, subst, ◌∙◌}
use mathlib.Core.Bool.{Bool, true, false}
use mathlib.Core.List.{List, ◌∷◌}
use lib.ListN.{length, get_or}
use borrow.Author.Tests.{ltb-true}
use Rattle.model.specs.Replicas.{is_pending}
use Rattle.model.specs.Layout.{installed, is_installed}
use Rattle.model.specs.Inherit.{source}
use Rattle.model.specs.Setup.{after_setup}
use Rattle.model.specs.Runs.{played, state_at}
use Rattle.model.specs.OneList.{shards, Seated}
use Rattle.model.specs.Configuration.{replica_in}
use Rattle.model.specs.Sources.{SourcesClaim}
use Rattle.model.proofs.Sources.{sources}
use Rattle.histories.specs.Traces.{source_host, sources_of, trace_of, trace_rejection, Started}
use Rattle.histories.specs.TraceLaws.{host_of, ImmutableHosts, TraceLaws}
use Rattle.histories.proofs.NamedReplicas.{IsNamed, is_named}
use Rattle.histories.proofs.Traces.{started, names, along, next_host, sources_length}

-- a call that is accepted has found its replica
there : (w : List ℕ) (z i h : ℕ) → trace_rejection w z i h ≡ 0 → IsNamed w z i h
unfolding trace_rejection
there w z i h e = is_named w z i h e

module _ (w : List ℕ) (z i h : ℕ) (e : trace_rejection w z i h ≡ 0) where
  -- the trace of a replica that is not pending
  module _ (r : is_pending (replica_in w z (i - 1) h) ≡ false) where
    whole : trace_of w z (i - 1) h ≡ sources_of w z (i - 1) h
    unfolding trace_of
    whole = rw r

    start : Started w z (i - 1) h
    start = started (there w z i h e) r

    is_long : (length (trace_of w z (i - 1) h) ≡ i - 1) × (i - 1 ≤ 7)
    is_long = (ap length whole ∙ sources_length w z (i - 1) h, omega (arith, (there w z i h e).in_range.most))

  -- a trace that has a host is of such a one
  has_hosts : 1 ≤ length (trace_of w z (i - 1) h) → is_pending (replica_in w z (i - 1) h) ≡ false
  unfolding trace_of
  has_hosts = go (is_pending (replica_in w z (i - 1) h)) refl
    where
      go : (b : Bool) → is_pending (replica_in w z (i - 1) h) ≡ b → 1 ≤ length (trace_of w z (i - 1) h) → is_pending (replica_in w z (i - 1) h) ≡ false
      go true q l = absurd (let n : 1 ≤ 0 = rw q at l in omega arith)
      go false q l = q

  module _ (k : ℕ) (l : 1 ≤ k) (m : k ≤ length (trace_of w z (i - 1) h)) where
    runs : is_pending (replica_in w z (i - 1) h) ≡ false
    runs = has_hosts (omega arith)

    -- the replica before the k-th, and the k-th
    before : ℕ
    before = get_or (h ∷ sources_of w z (i - 1) h) (k - 1) 0

    within : k ≤ i - 1
    within = omega (arith, (is_long runs).0)

    at_before : Started w z (i - 1 - (k - 1)) before
    unfolding before
    at_before = along w z (i - 1) h (start runs) (k - 1) (omega (arith, within))

    is_next : host_of w z i h k ≡ source_host w z (i - 1 - (k - 1)) before
    unfolding host_of before
    is_next = ap (λ (t : List ℕ). get_or t (k - 1) 0) (whole runs) ∙ next_host w z (i - 1) h (k - 1) (omega (arith, within))

    at_host : Started w z (i - 1 - k) (host_of w z i h k)
    unfolding host_of
    at_host =
        let next : k ≡ suc (k - 1) = omega arith in
        rw (whole runs)
        (subst (λ (n : ℕ). Started w z (i - 1 - n) (get_or (sources_of w z (i - 1) h) (k - 1) 0)) (sym next)
        (along w z (i - 1) h (start runs) (suc (k - 1)) (omega (arith, within))))

    -- the one before it is seated, and names it
    seated : Seated w z (i - 1 - (k - 1)) before
    unfolding shards is_installed
    seated =
        let s = at_before in
        record { shard = s.ready.ready.shard; configured = ltb-true _ (installed w z) s.there; member = s.member }

    named : (replica_in w z (i - 1 - (k - 1)) before).origin ≡ suc (host_of w z i h k)
    unfolding source_host
    named = omega (arith, is_next, (names at_before (omega (arith, within))).least)

    source_is : source w z (i - 1 - (k - 1)) (host_of w z i h k) ≡ replica_in w z (i - 1 - k) (host_of w z i h k)
    unfolding source replica_in
    source_is =
        let back : i - 1 - (k - 1) - 1 ≡ i - 1 - k = omega (arith, within) in
        rw back

pub trace_laws : TraceLaws
unfolding SourcesClaim ImmutableHosts
trace_laws =
    record {
      long = is_long;
      hosts = λ w z i h k e l m. let s = at_host w z i h e k l m in (s.member, s.running);
      immutable = λ w p q calls n z i h k e l m.
          let u = state_at (after_setup w p) (played (after_setup w p) calls) n in
          rw (← source_is u z i h e k l m)
          ((sources w p q calls).immutable z _ _ _ n (seated u z i h e k l m) (named u z i h e k l m)).1;
    }

-- an accepted call lists at most seven hosts
pub trace_few : (w : List ℕ) (z i h : ℕ) → trace_rejection w z i h ≡ 0 → length (trace_of w z (i - 1) h) ≤ 7
unfolding trace_of
trace_few w z i h e = go (is_pending (replica_in w z (i - 1) h)) refl
  where
    go : (b : Bool) → is_pending (replica_in w z (i - 1) h) ≡ b → length (trace_of w z (i - 1) h) ≤ 7
    go true q = rw q (omega arith)
    go false q = omega (arith, is_long w z i h e q)
