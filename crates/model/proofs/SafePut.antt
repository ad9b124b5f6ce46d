-- One replica of a safe state is replaced by a move of its shard's view.
-- Assumes nothing.
use Prim.Native.Nat.{ℕ, suc, ◌*◌, ◌≤◌, ◌<◌}
use native.Mathlib.Nat.{le_of_eq, lt_of_lt_of_le}
use native.Mathlib.Decide.{ℕ_discrete}
use mathlib.Core.Path.{◌≡◌, sym, ◌∙◌}
use mathlib.Core.List.{List}
use lib.ListN.{length}
use Rattle.model.specs.Replicas.{Replica, stable_prefix}
use Rattle.model.specs.Layout.{place, installed, put_replica}
use Rattle.model.specs.Prefixes.{Begins}
use Rattle.model.specs.OneList.{shards}
use Rattle.model.proofs.Parts.{put_length, replica_put, replica_put_other}
use Rattle.model.proofs.Places.{place_fits, place_apart, sequencer_put, installed_put, members_put, orderer_put}
use Rattle.model.proofs.Prefixes.{begins_refl}
use Rattle.model.proofs.Histories.{Wider}
use Rattle.model.proofs.Views.{Inv}
use Rattle.model.proofs.Moves.{Seen, here, there, Moved, Move, keeps, moved_grows, immutable_stays}
use Rattle.model.proofs.StateViews.{view, view_in, InView, inside, outside, in_view}
use Rattle.model.proofs.Forward.{Forward}
use Rattle.model.proofs.WellFormed.{size_of}
use Rattle.model.proofs.Safe.{Safe}
use Rattle.model.proofs.SafeChange.{From, stood, as_many, SafeChange, formed, each_shard, inv_same, wedged_stays}

module _ {w : List ℕ} {offers offers' : ℕ → List ℕ} (x : Safe w offers) {z j k : ℕ} (hz : z < shards w) (hj : j < 8) (hk : k < 4)
    (r : Replica) (few : length r.history ≤ 56) (wide : (a : ℕ) → Wider (offers a) (offers' a)) (m : Move (view w z) (offers' z) j k r)
    (from : (g : ℕ) → r.origin ≡ suc g → From w z j k r g) where
  long : length w ≡ shards w * 2112
  long = size_of (formed x)

  new : List ℕ
  new = put_replica w (place z j k) r

  -- any other place shows what it did
  elsewhere : (y a b : ℕ) → (z ≡ y → j ≡ a → k ≡ b → ⊥) → view new y a b ≡ view w y a b
  unfolding new
  elsewhere y a b n = go (in_view w y a b)
    where
      go : InView w y a b → view new y a b ≡ view w y a b
      go (inside ha hb e) =
          view_in new y ha hb
          ∙ replica_put_other w (place z j k) r (place_fits w long hz hj hk) few (place_apart z y hj hk ha hb n)
          ∙ sym e
      go (outside h e) = e new ∙ sym (e w)

  moved : Moved (view w z) (view new z) j k r
  unfolding new
  moved = record { seen = λ a b. go a b (ℕ_discrete a j) (ℕ_discrete b k) }
    where
      go : (a b : ℕ) → Dec (a ≡ j) → Dec (b ≡ k) → Seen (view w z) (view new z) j k r a b
      go a b (yes p) (yes q) =
          here p q (rw (p, q) (view_in new z hj hk ∙ replica_put w (place z j k) r (place_fits w long hz hj hk) few))
      go a b (yes p) (no q) = there (λ s t. q t) (elsewhere z a b (λ s t u. q (sym u)))
      go a b (no p) q = there (λ s t. p s) (elsewhere z a b (λ s t u. p (sym t)))

  new_inv : (y : ℕ) → y < shards w → Inv (view new y) (offers' y)
  new_inv y h =
      each_shard (λ (q : ℕ). Inv (view new q) (offers' q)) z y (keeps (x.inv z hz) (wide z) m moved)
      (λ n. inv_same (x.inv y h) (λ a b. elsewhere y a b (λ s t u. n s)) (wide y))

  new_prefixes : (y a b : ℕ) → y < shards w → Begins (stable_prefix (view w y a b)) (stable_prefix (view new y a b))
  new_prefixes y a b h =
      each_shard (λ (q : ℕ). Begins (stable_prefix (view w q a b)) (stable_prefix (view new q a b))) z y
      (moved_grows (x.inv z hz) (wide z) m moved a b)
      (λ n. rw (elsewhere y a b (λ s t u. n s)) begins_refl)

  new_immutables : (y a b : ℕ) → y < shards w → (view w y a b).mode ≡ 3 → view new y a b ≡ view w y a b
  new_immutables y a b h =
      each_shard (λ (q : ℕ). (view w q a b).mode ≡ 3 → view new q a b ≡ view w q a b) z y
      (immutable_stays (x.inv z hz) (wide z) m moved a b)
      (λ n i. elsewhere y a b (λ s t u. n s))

  new_origins : (y a b g : ℕ) → y < shards w → (view new y a b).origin ≡ suc g → From w y a b (view new y a b) g
  new_origins y a b g h =
      each_shard (λ (q : ℕ). (view new q a b).origin ≡ suc g → From w q a b (view new q a b) g) z y (go (moved.seen a b))
      (λ n o. stood (rw (elsewhere y a b (λ s t u. n s)) at o))
    where
      go : Seen (view w z) (view new z) j k r a b → (view new z a b).origin ≡ suc g → From w z a b (view new z a b) g
      go (there n q) o = stood (rw q at o)
      go (here p q s) o = rw (s, p, q) (from g (rw s at o))

  below_eight : (y a : ℕ) → y < shards w → a < installed w y → a < 8
  below_eight y a h l = lt_of_lt_of_le l ((formed x).head y h).most

  new_forward : Forward w new
  unfolding new
  new_forward =
      record {
        long = put_length w (place z j k) r (place_fits w long hz hj hk) few;
        installs = λ y h. le_of_eq (sym (installed_put w long hz hj hk r few y));
        memberships = λ y a h l. members_put w long hz hj hk r few y (below_eight y a h l);
        orderers = λ y a h l. orderer_put w long hz hj hk r few y (below_eight y a h l);
        prefixes = new_prefixes;
        immutables = new_immutables;
      }

  pub kept_put : {gets : ℕ → Type 0} → SafeChange gets w offers (put_replica w (place z j k) r) offers'
  unfolding new
  kept_put =
      record {
        forward = new_forward;
        inv = new_inv;
        wedges = λ y a h l. wedged_stays new_forward y a h (x.wedges y a h (rw (installed_put w long hz hj hk r few y) at l));
        origins = new_origins;
        counts = λ y h. as_many (installed_put w long hz hj hk r few y);
        sequencers = λ y h. sequencer_put w long hz hj hk r few y;
      }
