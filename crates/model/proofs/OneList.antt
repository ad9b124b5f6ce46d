-- The one list: the claim of `specs/OneList.antt`, proved of every run.
-- Assumes nothing.
use Prim.Native.Nat.{ℕ, zero, suc, ◌+◌, ◌-◌, ◌≤◌, ◌<◌, zero-le}
use native.Mathlib.Nat.{le_refl, le_of_lt, lt_of_lt_of_le}
use native.Mathlib.Omega.{arith}
use mathlib.Core.Path.{◌≡◌, refl, sym, ap, ◌∙◌}
use mathlib.Core.Bool.{Bool, true, false}
use mathlib.Core.List.{List, [], ◌++◌}
use mathlib.Core.Logic.{◌⊎◌, inl, inr}
use lib.Dec.{leb}
use borrow.Author.Tests.{leb-true, leb-false}
use lib.ListN.{length, take, drop}
use lib.Seq.{take-add}
use Rattle.types.specs.Members.{replica_number}
use Rattle.model.specs.Replicas.{stable_prefix}
use Rattle.model.specs.Layout.{members}
use Rattle.model.specs.StableHistory.{stable_history}
use Rattle.model.specs.Prefixes.{Begins, Share}
use Rattle.model.specs.Runs.{Moment, state_at}
use Rattle.model.specs.Reference.{MayAcceptAll, none, at_setup, before_accepting, reference_at, point_at, accept_all}
use Rattle.model.specs.OneList.{shards, Seated, stable_of, Held, OneList, OneListClaim}
use Rattle.model.proofs.Prefixes.{begins_le, begins_rest, begins_empty, share_both, share_prefix, share_swap}
use Rattle.model.proofs.Histories.{none_offered}
use Rattle.model.proofs.Views.{Inv}
use Rattle.model.proofs.StateViews.{view, stable_begins, stable_once, stable_offered, stable_grows}
use Rattle.model.proofs.Forward.{Forward, forward_shards}
use Rattle.model.proofs.SetupRuns.{FromSetup, from_setup}
use Rattle.model.proofs.ReferenceShard.{accepted_history, fed_history, may_accept}
use Rattle.model.proofs.Safe.{Safe}
use Rattle.model.proofs.Moments.{offers_at, safe_at, forward_to, shards_at}
use Rattle.model.proofs.Makes.{issued_at_lem}
use Rattle.model.proofs.SeatedReplica.{seated_view}

-- a seated host's stable prefix is one of the view
seated_prefix : {u : List ℕ} {offers : ℕ → List ℕ} {z j h : ℕ} → Safe u offers → Seated u z j h
    → stable_of u z j h ≡ stable_prefix (view u z j (replica_number (members u z j) h))
unfolding stable_of
seated_prefix x d = ap stable_prefix (seated_view x.formed x.several d)

-- a host that is seated stays seated, and its stable prefix only grows
seated_forward : {u v : List ℕ} {offers : ℕ → List ℕ} {z j h : ℕ} → Forward u v → Safe u offers → Seated u z j h → Seated v z j h
seated_forward {z = z} {j = j} {h = h} f x d =
    record {
      shard = rw (forward_shards f) d.shard;
      configured = lt_of_lt_of_le d.configured (f.installs z d.shard);
      member = rw (f.memberships z j d.shard d.configured) d.member;
    }

prefix_forward : {u v : List ℕ} {o o' : ℕ → List ℕ} {z j h : ℕ} → Forward u v → Safe u o → Safe v o' → Seated u z j h
    → Begins (stable_of u z j h) (stable_of v z j h)
prefix_forward {u} {v} {z = z} {j = j} {h = h} f x y d =
    rw (seated_prefix x d, seated_prefix y (seated_forward f x d), f.memberships z j d.shard d.configured)
    (f.prefixes z j (replica_number (members u z j) h) d.shard)

points_start : (z : ℕ) (choice : ℕ → List ℕ) (ms : List Moment) → point_at z choice ms 0 0 ≡ []
unfolding point_at accept_all before_accepting at_setup
points_start z choice ms = refl

module _ {w : List ℕ} {ms : List Moment} (r : FromSetup w ms) where
  -- the stable history of shard z at moment n
  history_at : ℕ → ℕ → List ℕ
  history_at z n = stable_history (state_at w ms n) z

  -- at each moment the reference shard accepts what has become stable
  choices : ℕ → ℕ → List ℕ
  choices z zero = []
  choices z (suc n) = drop (length (history_at z n)) (history_at z (suc n))

  safe_state : (n : ℕ) → Safe (state_at w ms n) (offers_at ms choices n)
  safe_state n = safe_at r choices n

  forward : (m n : ℕ) → m ≤ n → Forward (state_at w ms m) (state_at w ms n)
  forward m n h = forward_to r choices m n h

  shard_at : (z n : ℕ) → z < shards w → z < shards (state_at w ms n)
  shard_at z n h = rw (shards_at r choices n) h

  shard_of_lem : (z n : ℕ) → z < shards (state_at w ms n) → z < shards w
  shard_of_lem z n h = rw (shards_at r choices n) at h

  inv_at : (z n : ℕ) → z < shards w → Inv (view (state_at w ms n) z) (offers_at ms choices n z)
  inv_at z n h = (safe_state n).inv z (shard_at z n h)

  history_grows : (z n : ℕ) → z < shards w → Begins (history_at z n) (history_at z (suc n))
  unfolding history_at
  history_grows z n h =
      stable_grows (state_at w ms n) (state_at w ms (suc n)) z (inv_at z (suc n) h)
      (λ j k. (forward n (suc n) (omega arith)).prefixes z j k (shard_at z n h))

  prefix_in_history : {z j h : ℕ} (m : ℕ) → Seated (state_at w ms m) z j h → Begins (stable_of (state_at w ms m) z j h) (history_at z m)
  unfolding history_at
  prefix_in_history {z} {j} {h} m d =
      rw (seated_prefix (safe_state m) d)
      (stable_begins (state_at w ms m) z ((safe_state m).inv z d.shard) j (replica_number (members (state_at w ms m) z j) h))

  -- two hosts at one moment, and then at two
  agree_at : {z i g j h : ℕ} (n : ℕ) → Seated (state_at w ms n) z i g → Seated (state_at w ms n) z j h
      → Share (stable_of (state_at w ms n) z i g) (stable_of (state_at w ms n) z j h)
  agree_at n d e = share_both (prefix_in_history n d) (prefix_in_history n e)

  agree_later : {z i g j h : ℕ} (m n : ℕ) → m ≤ n → Seated (state_at w ms m) z i g → Seated (state_at w ms n) z j h
      → Share (stable_of (state_at w ms m) z i g) (stable_of (state_at w ms n) z j h)
  agree_later m n l d e =
      share_prefix (prefix_forward (forward m n l) (safe_state m) (safe_state n) d)
      (agree_at n (seated_forward (forward m n l) (safe_state m) d) e)

  agrees : (z i g m j h n : ℕ) → Seated (state_at w ms m) z i g → Seated (state_at w ms n) z j h
      → Share (stable_of (state_at w ms m) z i g) (stable_of (state_at w ms n) z j h)
  agrees z i g m j h n d e = go (leb m n) refl
    where
      go : (t : Bool) → leb m n ≡ t → Share (stable_of (state_at w ms m) z i g) (stable_of (state_at w ms n) z j h)
      go true q = agree_later m n (leb-true m n q) d e
      go false q = share_swap (agree_later n m (le_of_lt (leb-false m n q)) e d)

  -- at setup nothing is stable: nothing was offered
  history_start : (z : ℕ) → z < shards w → history_at z 0 ≡ []
  unfolding history_at state_at
  history_start z h = none_offered (stable_offered w z (r.start.inv z h))

  -- the reference shard's list is the stable history
  lone_before : (z n : ℕ) → z < shards w → (accept_all (choices z n) (before_accepting z (choices z) ms n)).history ≡ history_at z n
  unfolding choices before_accepting at_setup accept_all
  lone_before z zero h = sym (history_start z h)
  lone_before z (suc n) h =
      accepted_history (choices z (suc n)) (before_accepting z (choices z) ms (suc n))
      ∙ ap (λ (l : List ℕ). l ++ choices z (suc n))
      (fed_history z ms n (accept_all (choices z n) (before_accepting z (choices z) ms n)) ∙ lone_before z n h)
      ∙ begins_rest (history_grows z n h)

  -- before it accepts at moment n + 1, its list is the stable history of moment n
  before_next : (z n : ℕ) → z < shards w → (before_accepting z (choices z) ms (suc n)).history ≡ history_at z n
  unfolding before_accepting
  before_next z n h = fed_history z ms n (accept_all (choices z n) (before_accepting z (choices z) ms n)) ∙ lone_before z n h

  may : (z n : ℕ) → z < shards w → MayAcceptAll (choices z n) (before_accepting z (choices z) ms n)
  unfolding choices offers_at history_at
  may z zero h = none
  may z (suc n) h =
      may_accept (choices z (suc n)) (history_at z n) (before_accepting z (choices z) ms (suc n)) (before_next z n h)
      (rw (begins_rest (history_grows z n h)) (stable_once (state_at w ms (suc n)) z (inv_at z (suc n) h)))
      (rw (begins_rest (history_grows z n h)) (stable_offered (state_at w ms (suc n)) z (inv_at z (suc n) h)))

  -- a list that begins the stable history of moment m was held up to then
  held_next : (z n : ℕ) (l : List ℕ) → z < shards w → Begins l (history_at z (suc n)) → Begins (history_at z n) l
      → point_at z (choices z) ms (suc n) (length l - length (history_at z n)) ≡ l
  unfolding point_at choices
  held_next z n l h b a =
      accepted_history (take (length l - length (history_at z n)) (choices z (suc n))) (before_accepting z (choices z) ms (suc n))
      ∙ ap (λ (x : List ℕ). x ++ take (length l - length (history_at z n)) (choices z (suc n)))
      (before_next z n h ∙ sym (history_grows z n h).starts)
      ∙ sym (take-add (length (history_at z n)) (length l - length (history_at z n)) (history_at z (suc n)))
      ∙ ap (λ (k : ℕ). take k (history_at z (suc n))) together
      ∙ b.starts
    where
      together : length (history_at z n) + (length l - length (history_at z n)) ≡ length l
      together = omega (arith, begins_le a)

  held_up_to : (z m : ℕ) (l : List ℕ) → z < shards w → Begins l (history_at z m) → Held z (choices z) ms m l
  held_up_to z zero l h b =
      record { moment = 0; accepted = 0; up_to = zero-le; is_point = start ∙ sym (begins_empty (rw (history_start z h) at b)) }
    where
      start : point_at z (choices z) ms 0 0 ≡ []
      start = points_start z (choices z) ms
  held_up_to z (suc m) l h b = go (share_both b (history_grows z m h)).either (held_up_to z m l h)
    where
      go : Begins l (history_at z m) ⊎ Begins (history_at z m) l → (Begins l (history_at z m) → Held z (choices z) ms m l)
          → Held z (choices z) ms (suc m) l
      go (inl a) f =
          let x = f a in
          record { moment = x.moment; accepted = x.accepted; up_to = omega (arith, x.up_to); is_point = x.is_point }
      go (inr a) f =
          record {
            moment = suc m;
            accepted = length l - length (history_at z m);
            up_to = le_refl (suc m);
            is_point = held_next z m l h b a;
          }

  pub run_one_list : OneList w ms
  unfolding history_at reference_at
  run_one_list =
      record {
        grows = λ z j h m n d l. (
          seated_forward (forward m n l) (safe_state m) d,
          prefix_forward (forward m n l) (safe_state m) (safe_state n) d,
        );
        agree = agrees;
        choice = choices;
        allowed = may;
        lone = lone_before;
        held = λ z j h m d.
            held_up_to z m (stable_of (state_at w ms m) z j h) (shard_of_lem z m d.shard) (prefix_in_history m d);
        issued = issued_at_lem r;
      }

-- the third demand
pub one_list : OneListClaim
unfolding OneListClaim
one_list w p e calls = run_one_list (from_setup w p e calls)
