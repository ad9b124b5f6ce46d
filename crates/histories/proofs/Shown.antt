-- The proof of `specs/Shown.antt`, from the one list: a host that is read has a replica.
use Prim.Native.Nat.{ℕ, ◌-◌}
use mathlib.Core.Path.{◌≡◌, refl}
use mathlib.Core.Bool.{Bool, true, false}
use mathlib.Core.List.{List, [], ◌∷◌, ◌++◌}
use mathlib.Core.Logic.{◌⊎◌, inl, inr}
use lib.Dec.{eqb}
use lib.ListN.{length, drop}
use lib.Seq.{take-append_seam}
use borrow.Author.Tests.{eqb-true, ltb-true}
use Rattle.model.specs.Layout.{shards_of, installed, is_installed}
use Rattle.model.specs.Setup.{setup_rejection, after_setup}
use Rattle.model.specs.Prefixes.{Share}
use Rattle.model.specs.Runs.{Call, played, state_at}
use Rattle.model.specs.OneList.{shards, Seated, OneListClaim}
use Rattle.model.proofs.Prefixes.{begins_nil}
use Rattle.model.proofs.Checks.{passed}
use Rattle.model.proofs.OneList.{one_list}
use Rattle.model.specs.Results.{count_beside}
use Rattle.stable_entries.specs.Listing.{has_room, after_listing_of}
use Rattle.histories.specs.NamedReplicas.{replica_checks}
use Rattle.histories.specs.Prefix.{shown, prefix_rejection, prefix_count, after_prefix}
use Rattle.histories.specs.Shown.{returned, ShownShare, ShownClaim}
use Rattle.histories.proofs.NamedReplicas.{named}

seated : (w : List ℕ) (z i h : ℕ) (out : List ℕ) → prefix_rejection w z i h out ≡ 0 → Seated w z (i - 1) h
unfolding prefix_rejection replica_checks is_installed shards has_room
seated w z i h out e =
    let p = passed (replica_checks w z i h ++ (has_room (shown w z i h) out ∷ [])) refl e in
    record {
      shard = (named (shards_of (length w)) z i h p.1.0).shard;
      configured = ltb-true (i - 1) (installed w z) p.1.1.1.0;
      member = p.1.1.1.1.0;
    }

-- ---- what a call returns

returned_accepted : (w : List ℕ) (z i h : ℕ) (out : List ℕ) → prefix_rejection w z i h out ≡ 0 → returned w z i h out ≡ shown w z i h
unfolding returned prefix_count after_prefix after_listing_of count_beside
returned_accepted w z i h out e = rw e (take-append_seam (shown w z i h) (drop (length (shown w z i h)) out))

returned_rejected : (w : List ℕ) (z i h : ℕ) (out : List ℕ) → eqb (prefix_rejection w z i h out) 0 ≡ false → returned w z i h out ≡ []
unfolding returned prefix_count count_beside
returned_rejected w z i h out e = rw e

-- nothing, or what a host with a replica shows
Returned : List ℕ → ℕ → ℕ → ℕ → List ℕ → Type 0
Returned w z i h out = (returned w z i h out ≡ []) ⊎ (Seated w z (i - 1) h × (returned w z i h out ≡ shown w z i h))

what_returns : (w : List ℕ) (z i h : ℕ) (out : List ℕ) → Returned w z i h out
unfolding Returned
what_returns w z i h out = go (eqb (prefix_rejection w z i h out) 0) refl
  where
    go : (t : Bool) → eqb (prefix_rejection w z i h out) 0 ≡ t
        → (returned w z i h out ≡ []) ⊎ (Seated w z (i - 1) h × (returned w z i h out ≡ shown w z i h))
    go true e = let q = eqb-true (prefix_rejection w z i h out) 0 e in inr (seated w z i h out q, returned_accepted w z i h out q)
    go false e = inl (returned_rejected w z i h out e)

-- ---- two calls

shares : (w p : List ℕ) → setup_rejection w p ≡ 0 → (calls : List Call) → ShownShare (after_setup w p) (played (after_setup w p) calls)
unfolding ShownShare OneListClaim Returned shown
shares w p e calls z i g m j h n out out' = go (what_returns u z i g out) (what_returns v z j h out')
  where
    u : List ℕ
    u = state_at (after_setup w p) (played (after_setup w p) calls) m

    v : List ℕ
    v = state_at (after_setup w p) (played (after_setup w p) calls) n

    go : Returned u z i g out → Returned v z j h out' → Share (returned u z i g out) (returned v z j h out')
    go (inl a) b = rw a (record { either = inl begins_nil })
    go (inr a) (inl b) = rw b (record { either = inr begins_nil })
    go (inr a) (inr b) = rw (a.1, b.1) ((one_list w p e calls).agree z (i - 1) g m (j - 1) h n a.0 b.0)

pub shown_share : ShownClaim
shown_share = record { accepted = returned_accepted; share = shares }
