-- Add, adopt, learn, wedge, inherit and catch up on a safe state: each is a move of its shard's view.
-- Assumes nothing.
use Prim.Native.Nat.{ℕ, suc, ◌-◌, ◌≤◌, ◌<◌}
use native.Mathlib.Omega.{arith}
use mathlib.Core.Path.{◌≡◌, refl, sym, ap, subst}
use mathlib.Core.Bool.{true, false, not}
use mathlib.Core.List.{List, [], ◌∷◌}
use lib.Dec.{ltb}
use borrow.Author.Tests.{ltb-true, eqb-false, not-true}
use lib.Arith.{lt_of_le-ne}
use lib.ListN.{length, take, length-append}
use Rattle.model.specs.Tests.{contains}
use Rattle.types.specs.Members.{size, has_member, replica_number}
use Rattle.model.specs.Replicas.{Replica, unused, is_active, is_pending, is_immutable, added, adopted, learned, wedged, inherited, caught_up}
use Rattle.model.specs.Layout.{place, installed, is_installed, members, orderer, put_replica}
use Rattle.model.specs.Configuration.{configuration, replica_of, replica_in}
use Rattle.types.specs.ReplicaPlace.{replica_place}
use Rattle.model.specs.Add.{orderer_place, orderer_replica, no_rival, add_checks, add_effect}
use Rattle.model.specs.Adopt.{adopt_checks, adopt_effect}
use Rattle.model.specs.Learn.{alike, all_alike, learn_checks, learn_effect}
use Rattle.model.specs.Wedge.{wedge_checks, wedge_effect}
use Rattle.model.specs.Inherit.{source, is_source, inherit_checks, inherit_effect}
use Rattle.model.specs.CatchUp.{is_peer, catch_up_checks, catch_up_effect}
use Rattle.model.specs.Prefixes.{Begins}
use Rattle.model.specs.OneList.{shards}
use Rattle.model.proofs.Tests.{and_left, and_right}
use Rattle.model.proofs.Members.{number_below}
use Rattle.model.proofs.Checks.{AllPass}
use Rattle.model.proofs.Parts.{short}
use Rattle.model.proofs.Places.{replica_place_lem}
use Rattle.model.proofs.Histories.{Wider, wider_refl}
use Rattle.model.proofs.Moves.{Move}
use Rattle.model.proofs.KindMoves.{add_move, adopt_move, learn_move, wedge_move, inherit_move, catch_up_move}
use Rattle.model.proofs.StateViews.{view, view_in, InView, inside, outside, in_view}
use Rattle.model.proofs.WellFormedMembers.{orderer_is_member, number_in_use, member_proper}
use Rattle.model.proofs.SeatedReplica.{number_small, member_view}
use Rattle.model.proofs.Safe.{Safe}
use Rattle.model.proofs.ProperReplicas.{active_mode, pending_mode, immutable_mode}
use Rattle.model.proofs.Alike.{every_alike, alike_long, alike_begins}
use Rattle.model.proofs.SafeChange.{From, stood, inherits, catches_up, SafeChange, formed}
use Rattle.model.proofs.SafePut.{kept_put}

added_short : (e : ℕ) (r : Replica) → length r.history < 56 → length (added e r).history ≤ 56
unfolding added
added_short e r h = omega (arith, length-append r.history (e ∷ []))

module _ {w : List ℕ} {offers : ℕ → List ℕ} (x : Safe w offers) {z j : ℕ} (hz : z < shards w) (hj : j < 8) where
  -- the replica of a member h: its number, and that the view shows it
  number : ℕ → ℕ
  number h = replica_number (members w z j) h

  -- a replica of the view is short
  view_short : (a k : ℕ) → a < 8 → k < 4 → length (view w z a k).history ≤ 56
  view_short a k ha hk = rw (view_in w z ha hk) (short w (place z a k))

  -- what replaces the replica of a member h: a move of the view
  at_member : {gets : ℕ → Type 0} {offers' : ℕ → List ℕ} (h : ℕ) → has_member (members w z j) h ≡ true → (r : Replica) → length r.history ≤ 56
      → ((a : ℕ) → Wider (offers a) (offers' a)) → Move (view w z) (offers' z) j (number h) r
      → ((g : ℕ) → r.origin ≡ suc g → From w z j (number h) r g)
      → SafeChange gets w offers (put_replica w (replica_place (configuration w z j) h) r) offers'
  unfolding number
  at_member h e r few wide m from =
      rw (replica_place_lem w z j h) (kept_put x hz hj (number_small (formed x) hz hj h e) r few wide m from)

  shown : (h : ℕ) → has_member (members w z j) h ≡ true → replica_of w (configuration w z j) h ≡ view w z j (number h)
  unfolding number
  shown h e = member_view (formed x) hz hj h e

  pub kept_wedge : {gets : ℕ → Type 0} (h : ℕ) → AllPass (wedge_checks w z j h) → SafeChange gets w offers (wedge_effect w z j h) offers
  unfolding wedge_checks wedge_effect wedged number
  kept_wedge h p =
      let member : has_member (members w z j) h ≡ true = search in
      let active : is_active (replica_of w (configuration w z j) h) ≡ true = search in
      rw (shown h member)
      (at_member h member (wedged (view w z j (number h))) (view_short j (number h) hj (number_small (formed x) hz hj h member))
      (λ a. wider_refl)
      (wedge_move (x.inv z hz) j (number h) (active_mode _ (rw (shown h member) at active)))
      (λ g. stood))

  -- a replica with a mode is a member's
  pub in_use : (k : ℕ) → 1 ≤ (view w z j k).mode → (k < size (members w z j)) × (k < 4)
  unfolding unused
  in_use k l = go (in_view w z j k)
    where
      go : InView w z j k → (k < size (members w z j)) × (k < 4)
      go (inside a b e) = (number_in_use (formed x) hz hj b (rw e at l), b)
      go (outside n e) = absurd (omega (arith, ap (λ (r : Replica). r.mode) (e w)))

  -- a member's replica that is not pending has a history
  past_pending : (h : ℕ) → has_member (members w z j) h ≡ true → is_pending (replica_of w (configuration w z j) h) ≡ false
      → 2 ≤ (replica_of w (configuration w z j) h).mode
  unfolding is_pending
  past_pending h e q =
      lt_of_le-ne (member_proper (formed x) hz hj h e).mode_least
      (λ d. eqb-false (replica_of w (configuration w z j) h).mode 1 q (sym d))

  -- all histories of the configuration begin with the first n entries of one of them
  all_begin : (n k : ℕ) → k < size (members w z j) → k < 4 → all_alike w z j n (view w z j k).history ≡ true
      → (l : ℕ) → l < size (members w z j) → l < 4
      → (n ≤ length (view w z j l).history) × Begins (take n (view w z j k).history) (view w z j l).history
  all_begin n k hk k4 e l hl l4 = (alike_long n own_history other (test l hl l4), alike_begins n own_history other own (test l hl l4))
    where
      own_history : List ℕ
      own_history = (view w z j k).history

      other : List ℕ
      other = (view w z j l).history

      test : (l : ℕ) → l < size (members w z j) → l < 4 → alike n (view w z j k).history (view w z j l).history ≡ true
      test l hl l4 = rw (view_in w z hj l4) (every_alike w z j n own_history e l hl)

      own : n ≤ length (view w z j k).history
      own = alike_long n (view w z j k).history (view w z j k).history (test k hk k4)

  pub kept_add : {gets : ℕ → Type 0} {offers' : ℕ → List ℕ} (e : ℕ) → AllPass (add_checks w z j e) → ((a : ℕ) → Wider (offers a) (offers' a))
      → contains e (offers' z) ≡ true → SafeChange gets w offers (add_effect w z j e) offers'
  unfolding add_checks add_effect orderer_place orderer_replica configuration added number
  kept_add e p wide o =
      let there : is_installed w z j ≡ true = search in
      let member : has_member (members w z j) h ≡ true = orderer_is_member (formed x) hz hj there in
      let active : is_active (replica_of w (configuration w z j) h) ≡ true = search in
      let new : not (contains e (replica_of w (configuration w z j) h).history) ≡ true = search in
      let first : no_rival e (replica_of w (configuration w z j) h).history ≡ true = search in
      let room : ltb (length (replica_of w (configuration w z j) h).history) 56 ≡ true = search in
      rw (shown h member)
      (at_member h member (added e (view w z j (number h)))
      (added_short e (view w z j (number h)) (ltb-true _ _ (rw (shown h member) at room)))
      wide
      (add_move (x.inv z hz) j (number h) e (active_mode _ (rw (shown h member) at active))
      (not-true _ (rw (shown h member) at new))
      (rw (shown h member) at first)
      (wide z)
      o)
      (λ g. stood))
    where
      h : ℕ
      h = orderer w z j

  pub kept_adopt : {gets : ℕ → Type 0} (h : ℕ) → AllPass (adopt_checks w z j h) → SafeChange gets w offers (adopt_effect w z j h) offers
  unfolding adopt_checks adopt_effect orderer_replica configuration adopted number
  kept_adopt h p =
      let there : is_installed w z j ≡ true = search in
      let member : has_member (members w z j) h ≡ true = search in
      let active : is_active (replica_of w (configuration w z j) h) ≡ true = search in
      let waits : not (is_pending (replica_of w (configuration w z j) o)) ≡ true = search in
      let led : has_member (members w z j) o ≡ true = orderer_is_member (formed x) hz hj there in
      rw (shown h member, shown o led)
      (at_member h member (adopted (view w z j (number o)) (view w z j (number h)))
      (view_short j (number o) hj (number_small (formed x) hz hj o led))
      (λ a. wider_refl)
      (adopt_move (x.inv z hz) j (number h) (number o) (active_mode _ (rw (shown h member) at active))
      (rw (shown o led) at (past_pending o led (not-true _ waits))))
      (λ g. stood))
    where
      o : ℕ
      o = orderer w z j

  pub kept_learn : {gets : ℕ → Type 0} (h n : ℕ) → AllPass (learn_checks w z j h n) → SafeChange gets w offers (learn_effect w z j h n) offers
  unfolding learn_checks learn_effect learned number
  kept_learn h n p =
      let member : has_member (members w z j) h ≡ true = search in
      let active : is_active (replica_of w (configuration w z j) h) ≡ true = search in
      let more : ltb (replica_of w (configuration w z j) h).stable n ≡ true = search in
      let same : all_alike w z j n (replica_of w (configuration w z j) h).history ≡ true = search in
      let all = all_begin n (number h) (number_below (members w z j) h member) (number_small (formed x) hz hj h member) (rw (shown h member) at same) in
      let grows = ltb-true _ _ (rw (shown h member) at more) in
      rw (shown h member)
      (at_member h member (learned n (view w z j (number h))) (view_short j (number h) hj (number_small (formed x) hz hj h member))
      (λ a. wider_refl)
      (learn_move (x.inv z hz) j (number h) n (active_mode _ (rw (shown h member) at active)) grows
      (all (number h) (number_below (members w z j) h member) (number_small (formed x) hz hj h member)).0
      (λ l q. let u = in_use l (omega (arith, q)) in (all l u.0 u.1).1)
      (λ l q.
      let u = in_use l (omega (arith, q)) in
      let e = ap length ((x.inv z hz).blank j l (omega (arith, q))) in
      omega (arith, (all l u.0 u.1).0, e, grows)))
      (λ g. stood))

  pub kept_inherit : {gets : ℕ → Type 0} (h g : ℕ) → AllPass (inherit_checks w z j h g) → SafeChange gets w offers (inherit_effect w z j h g) offers
  unfolding inherit_checks inherit_effect source is_source is_installed inherited number
  kept_inherit h g p =
      let member : has_member (members w z j) h ≡ true = search in
      let waits : is_pending (replica_of w (configuration w z j) h) ≡ true = search in
      let there : has_member (members w z (j - 1)) g ≡ true = search (and_left, and_right) in
      let wedged : is_immutable (replica_of w (configuration w z (j - 1)) g) ≡ true = search (and_left, and_right) in
      let installs : is_installed w z j ≡ true = search in
      let later : 1 ≤ j = ((member_proper (formed x) hz hj h member).waits waits).1 in
      let before-installed : j - 1 < installed w z = omega (arith, ltb-true j (installed w z) installs) in
      let next : suc (j - 1) ≡ j = omega arith in
      let before : j - 1 < 8 = omega arith in
      let few = number_small (formed x) hz before g there in
      let old = member_view (formed x) hz before g there in
      rw old
      (at_member h member (inherited g (view w z (j - 1) (replica_number (members w z (j - 1)) g)))
      (view_short (j - 1) (replica_number (members w z (j - 1)) g) before few)
      (λ a. wider_refl)
      (subst (λ (q : ℕ). Move (view w z) (offers z) q (number h) (inherited g (view w z (j - 1) (replica_number (members w z (j - 1)) g)))) next
      (inherit_move (x.inv z hz) (j - 1) (number h) (replica_number (members w z (j - 1)) g)
      (subst (λ (q : ℕ). (view w z q (number h)).mode ≡ 1) (sym next) (pending_mode _ (rw (shown h member) at waits)))
      (immutable_mode _ (rw old at wedged))
      g))
      (λ q e.
      let same : g ≡ q = omega (arith, e) in
      subst (λ (c : ℕ). From w z j (number h) (inherited g (view w z (j - 1) (replica_number (members w z (j - 1)) g))) c) same
      (inherits (j - 1) (sym next)
      (record {
        there = before-installed;
        member = there;
        is_immutable = immutable_mode _ (rw old at wedged);
      })
      (pending_mode _ (rw (shown h member) at waits))
      refl)))

  pub kept_catch_up : {gets : ℕ → Type 0} (h g : ℕ) → AllPass (catch_up_checks w z j h g) → SafeChange gets w offers (catch_up_effect w z j h g) offers
  unfolding catch_up_checks catch_up_effect is_peer replica_in is_installed caught_up number
  kept_catch_up h g p =
      let installs : is_installed w z j ≡ true = search in
      let member : has_member (members w z j) h ≡ true = search in
      let waits : is_pending (replica_of w (configuration w z j) h) ≡ true = search in
      let there : has_member (members w z j) g ≡ true = search (and_left, and_right) in
      let runs : not (is_pending (replica_of w (configuration w z j) g)) ≡ true = search (and_left, and_right) in
      let pending : (view w z j (number h)).mode ≡ 1 = pending_mode _ (rw (shown h member) at waits) in
      rw (shown g there)
      (at_member h member (caught_up (view w z j (number g))) (view_short j (number g) hj (number_small (formed x) hz hj g there))
      (λ a. wider_refl)
      (catch_up_move (x.inv z hz) j (number h) (number g) pending (rw (shown g there) at (past_pending g there (not-true _ runs))))
      (λ q e. catches_up g (ltb-true j (installed w z) installs) there pending refl))
