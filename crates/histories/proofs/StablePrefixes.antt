-- The ladder of a replica's stable prefix: what is answered and left where the replica is not found, and where it is.
use Rattle.std.specs.Prelude.{Ok, Err}
use Rattle.types.specs.declared.rejection.Rejection.{Rejection}
use Rattle.types.specs.Rejections.{Written, answer_count, answer_number}
use Prim.Native.Nat.{ℕ, ◌-◌}
use mathlib.Core.Path.{◌≡◌, refl, sym, ap, ◌∙◌}
use mathlib.Core.Bool.{true}
use mathlib.Core.List.{List, [], ◌∷◌, ◌++◌}
use lib.Dec.{ltb}
use Rattle.model.specs.Checks.{first_of}
use Rattle.model.specs.Replicas.{stable_prefix}
use Rattle.model.specs.Layout.{replica_at}
use Rattle.model.specs.Configuration.{configuration, replica_of}
use Rattle.types.specs.ReplicaPlace.{replica_place}
use Rattle.model.specs.OneList.{stable_of}
use Rattle.model.proofs.Checks.{passed, first_before, first_after}
use Rattle.model.proofs.Results.{first_below}
use Rattle.stable_entries.specs.Listing.{has_room}
use Rattle.stable_entries.specs.StableEntries.{entries_at, HasEntries, copying_rejection, copying, after_copying}
use Rattle.histories.specs.NamedReplicas.{replica_checks, found_named}
use Rattle.histories.specs.Prefix.{shown, prefix_rejection, prefix_count, prefix_listing, after_prefix}
use Rattle.stable_entries.proofs.Stable.{Settled, host_settled}
use Rattle.stable_entries.proofs.Listings.{rejects, told}
use Rattle.types.proofs.Rejections.{number_not_0}
use borrow.Author.Tests.{eqb-false}
use Rattle.histories.proofs.NamedReplicas.{IsNamed, is_named, found_at, found_not}

-- what is answered and left, in numbers and as a value
abbrev Answers : List ℕ → ℕ → ℕ → ℕ → List ℕ → Written → List ℕ → Type 0
Answers w z i h out r v =
    (answer_number r ≡ prefix_rejection w z i h out)
    × ((answer_count r ≡ prefix_count w z i h out) × ((r ≡ prefix_listing w z i h out) × (v ≡ after_prefix w z i h out)))

module _ (w : List ℕ) (z i h : ℕ) (out : List ℕ) where
  below : ltb (prefix_rejection w z i h out) 25 ≡ true
  unfolding prefix_rejection replica_checks has_room
  below = first_below (replica_checks w z i h ++ (has_room (shown w z i h) out ∷ [])) refl

  pub answers : {r : Written} {v : List ℕ} → r ≡ prefix_listing w z i h out → v ≡ after_prefix w z i h out → Answers w z i h out r v
  unfolding prefix_listing after_prefix prefix_count
  answers e f = told (prefix_rejection w z i h out) (shown w z i h) out below e f

  pub rejects_named : {x : Rejection} → Err x ≡ found_named w z i h → Answers w z i h out (Err x) out
  unfolding prefix_listing after_prefix prefix_rejection
  rejects_named {x} e =
      let is = found_not w z i h e in
      let q = first_before (replica_checks w z i h) (has_room (shown w z i h) out ∷ []) (λ m. eqb-false _ _ (number_not_0 x) (sym is ∙ m)) ∙ is in
      let p = rejects x (shown w z i h) out q in
      answers p.0 p.1

  module _ {p : ℕ} (e : Ok p ≡ found_named w z i h) where
    none : first_of (replica_checks w z i h) ≡ 0
    none = (found_at w z i h e).0

    place_is : p ≡ replica_place (configuration w z (i - 1)) h
    place_is = (found_at w z i h e).1

    at_host : IsNamed w z i h
    at_host = is_named w z i h none

    settled : Settled w p
    settled = rw place_is (host_settled at_host.ready h at_host.member)

    pub placed : HasEntries w p
    placed = settled.has

    shown_is : entries_at w p ≡ shown w z i h
    unfolding shown stable_of replica_of
    shown_is = sym settled.entries ∙ ap (λ (p : ℕ). stable_prefix (replica_at w p)) place_is

    room_left : prefix_rejection w z i h out ≡ first_of (has_room (shown w z i h) out ∷ [])
    unfolding prefix_rejection replica_checks
    room_left = first_after (replica_checks w z i h) (has_room (shown w z i h) out ∷ []) (passed (replica_checks w z i h) refl none)

    pub shows : (copying w p out ≡ prefix_listing w z i h out) × (after_copying w p out ≡ after_prefix w z i h out)
    unfolding copying after_copying copying_rejection prefix_listing after_prefix
    shows = (rw (shown_is, room_left), rw (shown_is, room_left))
