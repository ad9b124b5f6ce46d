-- The tests of a trace in turn, by the look-up: what the function answers at each of its exits.
use Prim.Native.Nat.{ℕ, ◌+◌, ◌-◌, ◌≤◌}
use mathlib.Core.Path.{◌≡◌, sym, ap, ◌∙◌}
use mathlib.Core.Bool.{false}
use mathlib.Core.List.{List, []}
use lib.Dec.{eqb}
use lib.ListN.{length, get_or}
use borrow.Author.Tests.{eq-eqb, ne_eqb}
use Rattle.std.specs.Prelude.{Ok, Err}
use Rattle.types.specs.declared.rejection.Rejection.{Rejection}
use Rattle.types.specs.Rejections.{rejection_number}
use Rattle.types.proofs.Rejections.{number_not_0}
use Rattle.model.specs.Replicas.{is_pending}
use Rattle.model.specs.Layout.{replica_at}
use Rattle.model.specs.Configuration.{configuration, replica_of, replica_in}
use Rattle.types.specs.ReplicaPlace.{replica_place}
use Rattle.model.proofs.Fields.{pending_word}
use Rattle.lookup.proofs.FoundReplicas.{member_placed}
use Rattle.histories.specs.NamedReplicas.{found_named}
use Rattle.histories.specs.Traces.{sources_of, trace_of, trace_rejection, traced, Started}
use Rattle.histories.proofs.NamedReplicas.{IsNamed, is_named, found_at, found_not}
use Rattle.histories.proofs.Traces.{started}

module _ (w : List ℕ) (z i h : ℕ) (before : List ℕ) where
  -- what is told: the number of the answer, and hosts
  abbrev Tells : ℕ → List ℕ → Type 0
  Tells n l = (n ≡ trace_rejection w z i h) × (l ≡ traced w z i h before)

  pub rejected : {r : Rejection} → Err r ≡ found_named w z i h → Tells (rejection_number r) before
  unfolding traced trace_rejection
  rejected {r} e = let n = found_not w z i h e in (sym n, rw (n, number_not_0 r))

  module _ {p : ℕ} (e : Ok p ≡ found_named w z i h) where
    at : IsNamed w z i h
    at = is_named w z i h (found_at w z i h e).0

    place_is : p ≡ replica_place (configuration w z (i - 1)) h
    place_is = (found_at w z i h e).1

    pub fits : p + 64 ≤ length w
    fits = rw place_is (member_placed at.ready h at.member).fits

    pub least : 1 ≤ i
    least = at.in_range.least

    -- its mode tells whether the replica is pending
    mode_is : is_pending (replica_in w z (i - 1) h) ≡ eqb (get_or w p 0) 1
    unfolding replica_in replica_of
    mode_is = ap (λ (p : ℕ). is_pending (replica_at w p)) (sym place_is) ∙ pending_word w p

    accepted : {l : List ℕ} → l ≡ trace_of w z (i - 1) h → Tells 0 l
    unfolding traced trace_rejection
    accepted q = let n = (found_at w z i h e).0 in (sym n, rw n q)

    pub waits : get_or w p 0 ≡ 1 → {l : List ℕ} → l ≡ [] → Tells 0 l
    unfolding trace_of
    waits m q = accepted (rw (mode_is, eq-eqb (get_or w p 0) 1 m) q)

    module _ (m : get_or w p 0 ≡ 1 → ⊥) where
      runs : is_pending (replica_in w z (i - 1) h) ≡ false
      runs = mode_is ∙ ne_eqb (get_or w p 0) 1 m

      pub starts : Started w z (i - 1) h
      starts = started at runs

      pub lists : {l : List ℕ} → l ≡ sources_of w z (i - 1) h → Tells 0 l
      unfolding trace_of
      lists q = accepted (rw runs q)
