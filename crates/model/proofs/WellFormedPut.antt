-- A proper replica with a proper origin that is not pending, written where a member's replica is, keeps a state well-formed.
use Prim.Native.Nat.{ℕ, ◌+◌, ◌-◌, ◌≤◌, ◌<◌}
use native.Mathlib.Omega.{arith}
use native.Mathlib.Decide.{ℕ_discrete}
use mathlib.Core.Path.{◌≡◌, sym, ap, ◌∙◌, subst, subst₃}
use mathlib.Core.Bool.{true, false}
use mathlib.Core.List.{List}
use lib.Dec.{ltb}
use lib.ListN.{length}
use borrow.Author.Tests.{lt-ltb}
use Rattle.types.specs.Members.{size, has_member, replica_number}
use Rattle.model.specs.Replicas.{Replica, is_pending}
use Rattle.model.specs.Layout.{shards_of, place, head_word, sequencer, installed, members, orderer, is_installed, part, replica_at, put_replica}
use Rattle.model.specs.Inherit.{source}
use Rattle.model.specs.Origins.{is_origin_of}
use Rattle.model.specs.WellFormed.{is_part, is_sequencer, is_head_of}
use Rattle.model.proofs.Members.{number_below}
use Rattle.model.proofs.Parts.{put_length, part_put, part_put_other, replica_put, replica_put_other}
use Rattle.model.proofs.Places.{place_fits, place_apart, head_put, sequencer_put, members_put}
use Rattle.model.proofs.Origins.{source-place, origin_stays}
use Rattle.model.proofs.WellFormedParts.{Proper, is_proper, replica_part}
use Rattle.model.proofs.WellFormed.{Head, WellFormed, size_of}
use Rattle.model.proofs.WellFormedMembers.{size_few}

-- what holds of one replica, and of every other, holds of each
pub each_place : (P : ℕ → ℕ → ℕ → Type 0) (z j k z' j' k' : ℕ) → P z j k → ((z ≡ z' → j ≡ j' → k ≡ k' → ⊥) → P z' j' k') → P z' j' k'
each_place P z j k z' j' k' here other = go (ℕ_discrete z z') (ℕ_discrete j j') (ℕ_discrete k k')
  where
    go : Dec (z ≡ z') → Dec (j ≡ j') → Dec (k ≡ k') → P z' j' k'
    go (yes a) (yes b) (yes c) = subst₃ P a b c here
    go (yes a) (yes b) (no c) = other (λ x y z. c z)
    go (yes a) (no b) d = other (λ x y z. b y)
    go (no a) d e = other (λ x y z. a x)

-- two states with the same head words of a shard
module _ (u w : List ℕ) (z : ℕ) (same : (i : ℕ) → i < 64 → head_word u z i ≡ head_word w z i) where
  is_head_same : {j : ℕ} → j < 8 → is_head_of u z j ≡ is_head_of w z j
  unfolding is_head_of is_installed installed members orderer
  is_head_same {j} h = simp (same 1 (omega arith), same (2 + j) (omega arith), same (10 + j) (omega arith))

  pub head_same_words : {Z : ℕ} → Head Z w z → Head Z u z
  unfolding sequencer installed
  head_same_words {Z} f =
      record {
        sequenced = subst (λ (q : ℕ). is_sequencer Z z q ≡ true) (sym (same 0 (omega arith))) f.sequenced;
        least = omega (arith, same 1 (omega arith), f.least);
        most = omega (arith, same 1 (omega arith), f.most);
        configured = λ j h. is_head_same h ∙ f.configured j h;
        rest = λ i h. same (18 + i) (omega arith) ∙ f.rest i h;
      }

module _ {Z : ℕ} {w : List ℕ} (f : WellFormed Z w) {z j k : ℕ} (hz : z < Z) (hj : j < 8) (hk : k < size (members w z j)) (r : Replica)
    (p : Proper Z j r) (live : is_pending r ≡ false) (own : is_origin_of w z j r ≡ true) where
  few : k < 4
  few = omega (arith, size_few f hz hj)

  u : List ℕ
  u = put_replica w (place z j k) r

  u_length : length u ≡ length w
  unfolding u
  u_length = put_length w (place z j k) r (place_fits w (size_of f) hz hj few) p.few

  u_members : (z' : ℕ) {j' : ℕ} → j' < 8 → members u z' j' ≡ members w z' j'
  unfolding u
  u_members z' h = members_put w (size_of f) hz hj few r p.few z' h

  Good : ℕ → ℕ → ℕ → Type 0
  Good z' j' k' = is_part Z j' (ltb k' (size (members u z' j'))) (part u (place z' j' k')) ≡ true

  good_here : Good z j k
  unfolding Good u
  good_here =
      rw (part_put w (place z j k) r (place_fits w (size_of f) hz hj few) p.few, u_members z hj, lt-ltb k (size (members w z j)) hk)
      (replica_part Z j r (is_proper Z j r p))

  good_other : (z' j' k' : ℕ) → z' < Z → j' < 8 → k' < 4 → (z ≡ z' → j ≡ j' → k ≡ k' → ⊥) → Good z' j' k'
  unfolding Good u
  good_other z' j' k' hz' hj' hk' ne =
      rw (part_put_other w (place z j k) r (place_fits w (size_of f) hz hj few) p.few (place_apart z z' hj few hj' hk' ne), u_members z' hj')
      (f.parts z' j' k' hz' hj' hk')

  -- the replica that was written, and any other
  u_here : replica_at u (place z j k) ≡ r
  unfolding u
  u_here = replica_put w (place z j k) r (place_fits w (size_of f) hz hj few) p.few

  u_there : (z' j' k' : ℕ) → j' < 8 → k' < 4 → (z ≡ z' → j ≡ j' → k ≡ k' → ⊥) → replica_at u (place z' j' k') ≡ replica_at w (place z' j' k')
  unfolding u
  u_there z' j' k' hj' hk' ne =
      replica_put_other w (place z j k) r (place_fits w (size_of f) hz hj few) p.few (place_apart z z' hj few hj' hk' ne)

  -- what was not pending is not
  Live : ℕ → ℕ → ℕ → Type 0
  Live z' j' k' = is_pending (replica_at u (place z' j' k')) ≡ false

  still_live : (z' j' k' : ℕ) → j' < 8 → k' < 4 → is_pending (replica_at w (place z' j' k')) ≡ false → Live z' j' k'
  unfolding Live
  still_live z' j' k' hj' hk' e = each_place Live z j k z' j' k' (rw u_here live) (λ ne. rw (u_there z' j' k' hj' hk' ne) e)

  -- so sources stay sources
  source_kept : (z' j' : ℕ) → z' < Z → j' < 8 → (g : ℕ) → 1 ≤ j' → has_member (members w z' (j' - 1)) g ≡ true
      → is_pending (source w z' j' g) ≡ false
      → (has_member (members u z' (j' - 1)) g ≡ true) × (is_pending (source u z' j' g) ≡ false)
  unfolding Live
  source_kept z' j' hz' hj' g h e q =
      let hj'' : j' - 1 < 8 = omega arith in
      let m = u_members z' hj'' in
      let n : replica_number (members w z' (j' - 1)) g < 4 =
      omega (arith, number_below (members w z' (j' - 1)) g e, size_few f hz' hj'') in (
        rw m e,
        rw (source-place u z' j' g, m)
            (still_live z' (j' - 1) (replica_number (members w z' (j' - 1)) g) hj'' n (rw (source-place w z' j' g) at q)),
      )

  Sourced : ℕ → ℕ → ℕ → Type 0
  Sourced z' j' k' = is_origin_of u z' j' (replica_at u (place z' j' k')) ≡ true

  sourced : (z' j' k' : ℕ) → z' < Z → j' < 8 → k' < size (members w z' j') → Sourced z' j' k'
  unfolding Sourced
  sourced z' j' k' hz' hj' hk' =
      each_place Sourced z j k z' j' k' (rw u_here (origin_stays w u z j r (source_kept z j hz hj) own))
      (λ ne. rw (u_there z' j' k' hj' (omega (arith, size_few f hz' hj')) ne)
      (origin_stays w u z' j' _ (source_kept z' j' hz' hj') (f.origins z' j' k' hz' hj' hk')))

  pub put_keeps : WellFormed Z (put_replica w (place z j k) r)
  unfolding Good Sourced u
  put_keeps =
      record {
        shards = ap shards_of u_length ∙ f.shards;
        several = f.several;
        head = λ z' hz'. head_same_words u w z' (λ i hi. head_put w (size_of f) hz hj few r p.few z' hi) (f.head z' hz');
        differ = λ a b ha hb e. f.differ a b ha hb (sym (same-sequencer b) ∙ e ∙ same-sequencer a);
        parts = λ z' j' k' hz' hj' hk'. each_place Good z j k z' j' k' good_here (good_other z' j' k' hz' hj' hk');
        origins = λ z' j' k' hz' hj' hk'. sourced z' j' k' hz' hj' (rw (u_members z' hj') at hk');
      }
    where
      same-sequencer : (a : ℕ) → sequencer u a ≡ sequencer w a
      same-sequencer a = sequencer_put w (size_of f) hz hj few r p.few a
