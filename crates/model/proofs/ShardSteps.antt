-- What a step of any kind but install answers and writes depends on its own shard's block and on the sequencers alone: on two well-formed states that have
-- these alike it gets the same answer, and where it is accepted it writes the same replica to the same place of both.
-- Assumes nothing.
use Rattle.std.specs.Prelude.{Ok, Err}
use Prim.Native.Nat.{ℕ, ◌-◌, ◌≤◌, ◌<◌}
use native.Mathlib.Nat.{lt_of_lt_of_le}
use native.Mathlib.Omega.{arith}
use mathlib.Core.Path.{◌≡◌, refl, sym, ap, ap₂, subst}
use mathlib.Core.Bool.{Bool, true, false, cond, not, ◌&&◌}
use mathlib.Core.List.{List, [], ◌∷◌}
use lib.ListN.{length, length-append}
use borrow.Author.Tests.{ltb-true}
use Rattle.types.specs.declared.kind.Kind.TheVariants.{Add, Adopt, Learn, Wedge, Install, Inherit, CatchUp}
use Rattle.types.specs.declared.kind.NoKind.TheVariants.{Kept, Unknown}
use Rattle.types.specs.declared.step.Step.{Step}
use Rattle.model.specs.Checks.{Check, first_of}
use Rattle.types.specs.Kinds.{NamedKind, kind_of}
use Rattle.types.specs.Members.{size, has_member, replica_number}
use Rattle.model.specs.Entries.{issue_shard}
use Rattle.model.specs.Replicas.{Replica, is_pending, is_immutable, added, adopted, learned, wedged, inherited, caught_up}
use Rattle.model.specs.Layout.{shards_of, place, is_installed, members, orderer, put_replica}
use Rattle.model.specs.Configuration.{configuration, replica_of, replica_in}
use Rattle.types.specs.ReplicaPlace.{replica_place}
use Rattle.model.specs.WellFormed.{well_formed}
use Rattle.model.specs.Add.{orderer_place, orderer_replica, may_issue, add_checks, add_effect}
use Rattle.model.specs.Adopt.{adopt_checks, adopt_effect}
use Rattle.model.specs.Learn.{alike, all_alike, learn_checks, learn_effect}
use Rattle.model.specs.Wedge.{wedge_checks, wedge_effect}
use Rattle.model.specs.Inherit.{source, is_source, inherit_checks, inherit_effect}
use Rattle.model.specs.CatchUp.{is_peer, catch_up_checks, catch_up_effect}
use Rattle.types.specs.StepNames.{shard_of, configuration_of}
use Rattle.model.specs.Steps.{in_range, kind_checks, kind_effect, step_checks, rejection, effect}
use Rattle.model.proofs.Tests.{and_left, and_right}
use Rattle.model.proofs.Ranges.{alike as range-alike}
use Rattle.model.proofs.Checks.{AllPass, in_range_lem, Accepted}
use Rattle.model.proofs.Places.{replica_place_lem}
use Rattle.model.proofs.Lengths.{several}
use Rattle.model.proofs.WellFormed.{WellFormed, well_formed_lem}
use Rattle.model.proofs.WellFormedMembers.{size_few, orderer_is_member}
use Rattle.model.proofs.WellFormedSteps.{accepted_formed}
use Rattle.model.proofs.SeatedReplica.{number_small}
use Rattle.model.proofs.UnchangedChecks.{decided}
use Rattle.model.proofs.UnchangedEffects.{host_short, orderer_short}
use Rattle.model.proofs.ShardAlike.{ShardAlike, installed-alike, members_alike, orderer-alike, replica_alike}

-- one replica is written to shard z of v and of w, which become v' and w'; or nothing is, by kinds of which no step is accepted
pub data SameWrite (z : ℕ) (v w v' w' : List ℕ) : Type 0 where
  nothing : v' ≡ v → w' ≡ w → SameWrite z v w v' w'
  one : (j k : ℕ) (r : Replica) → j < 8 → k < 4 → length r.history ≤ 56 → v' ≡ put_replica v (place z j k) r → w' ≡ put_replica w (place z j k) r
      → SameWrite z v w v' w'

-- what a kind does to shard z, by its checks on v and on w and by what it leaves
record SameKind (z : ℕ) (v w : List ℕ) (cs ds : List Check) (v' w' : List ℕ) : Type 0 where
  answer : first_of cs ≡ first_of ds
  write : AllPass ds → SameWrite z v w v' w'

-- a test that matters where one before it passes
and_alike : (t a b : Bool) → (t ≡ true → a ≡ b) → t && a ≡ t && b
and_alike true a b e = e refl
and_alike false a b e = refl

module _ {Z : ℕ} {v w : List ℕ} (g : WellFormed Z w) {z : ℕ} (a : ShardAlike z v w) (hz : z < Z) where
  -- the replica of a member
  host_alike : {j : ℕ} → j < 8 → (h : ℕ) → has_member (members w z j) h ≡ true
      → replica_of v (configuration v z j) h ≡ replica_of w (configuration w z j) h
  unfolding replica_of
  host_alike {j} hj h m =
      rw (replica_place_lem v z j h, replica_place_lem w z j h, members_alike a hj) (replica_alike a hj (number_small g hz hj h m))

  module _ {j : ℕ} (hj : j < 8) where
    there_alike : is_installed v z j ≡ is_installed w z j
    unfolding is_installed
    there_alike = rw (installed-alike a)

    -- the orderer's, which is a member
    led : is_installed w z j ≡ true → orderer_replica v z j ≡ orderer_replica w z j
    unfolding orderer_replica configuration
    led i =
        let same = orderer-alike a hj in
        let member : has_member (members w z j) (orderer v z j) ≡ true = rw same (orderer_is_member g hz hj i) in
        subst (λ (o : ℕ). orderer_replica v z j ≡ replica_of w (configuration w z j) o) same (host_alike hj (orderer v z j) member)

    all_alike_lem : (n : ℕ) (f : List ℕ) → all_alike v z j n f ≡ all_alike w z j n f
    unfolding all_alike
    all_alike_lem n f =
        rw (members_alike a hj)
        (range-alike (size (members w z j)) _ _
        (λ k h. ap (λ (r : Replica). alike n f r.history) (replica_alike a hj (lt_of_lt_of_le h (size_few g hz hj)))))

    peer_alike : (p : ℕ) → is_peer v z j p ≡ is_peer w z j p
    unfolding is_peer replica_in
    peer_alike p =
        rw (members_alike a hj)
        (and_alike (has_member (members w z j) p) _ _ (λ m. ap (λ (r : Replica). not (is_pending r)) (host_alike hj p m)))

    source-alike : (p : ℕ) → is_source v z j p ≡ is_source w z j p
    unfolding is_source source
    source-alike p =
        let before : j - 1 < 8 = omega arith in
        rw (members_alike a before) (and_alike (has_member (members w z (j - 1)) p) _ _ (λ m. ap is_immutable (host_alike before p m)))

    -- ---- the answer of each kind but install

    -- checks behind the two that the configuration is installed and the host a member
    behind : (h x y : ℕ) → (is_installed w z j ≡ true → has_member (members w z j) h ≡ true → x ≡ y)
        → cond (is_installed w z j) (cond (has_member (members w z j) h) x 11) 10 ≡ cond (is_installed w z j) (cond (has_member (members w z j) h) y 11) 10
    behind h x y e = decided (is_installed w z j) _ _ 10 (λ i. decided (has_member (members w z j) h) x y 11 (e i))

    add_answer : (e : ℕ) → first_of (add_checks v z j e) ≡ first_of (add_checks w z j e)
    unfolding add_checks may_issue first_of
    add_answer e = rw (there_alike, a.sequencers (issue_shard e)) (decided (is_installed w z j) _ _ 10 (λ i. rw (led i)))

    adopt_answer : (h : ℕ) → first_of (adopt_checks v z j h) ≡ first_of (adopt_checks w z j h)
    unfolding adopt_checks first_of
    adopt_answer h =
        rw (there_alike, members_alike a hj, orderer-alike a hj) (behind h _ _ (λ i m. rw (host_alike hj h m, led i)))

    learn_answer : (h n : ℕ) → first_of (learn_checks v z j h n) ≡ first_of (learn_checks w z j h n)
    unfolding learn_checks first_of
    learn_answer h n = rw (there_alike, members_alike a hj) (behind h _ _ (λ i m. rw (host_alike hj h m, all_alike_lem n _)))

    wedge_answer : (h : ℕ) → first_of (wedge_checks v z j h) ≡ first_of (wedge_checks w z j h)
    unfolding wedge_checks first_of
    wedge_answer h = rw (there_alike, members_alike a hj) (behind h _ _ (λ i m. rw (host_alike hj h m)))

    inherit_answer : (h p : ℕ) → first_of (inherit_checks v z j h p) ≡ first_of (inherit_checks w z j h p)
    unfolding inherit_checks first_of
    inherit_answer h p = rw (there_alike, members_alike a hj, source-alike p) (behind h _ _ (λ i m. rw (host_alike hj h m)))

    catch_up_answer : (h p : ℕ) → first_of (catch_up_checks v z j h p) ≡ first_of (catch_up_checks w z j h p)
    unfolding catch_up_checks replica_in first_of
    catch_up_answer h p = rw (there_alike, members_alike a hj, peer_alike p) (behind h _ _ (λ i m. rw (host_alike hj h m)))

    -- ---- what each writes

    member_write : (h : ℕ) → has_member (members w z j) h ≡ true → {r s : Replica} → length s.history ≤ 56 → r ≡ s
        → SameWrite z v w (put_replica v (replica_place (configuration v z j) h) r) (put_replica w (replica_place (configuration w z j) h) s)
    member_write h m {r} {s} few e =
        one j (replica_number (members w z j) h) s hj (number_small g hz hj h m) few (rw (replica_place_lem v z j h, members_alike a hj, e))
        (rw (replica_place_lem w z j h))

    add_write : (e : ℕ) → AllPass (add_checks w z j e) → SameWrite z v w (add_effect v z j e) (add_effect w z j e)
    unfolding add_checks add_effect orderer_place configuration added
    add_write e p =
        let there : is_installed w z j ≡ true = search in
        let room = ltb-true (length (orderer_replica w z j).history) 56 (search) in
        let long = length-append (orderer_replica w z j).history (e ∷ []) in
        subst (λ (o : ℕ). SameWrite z v w (put_replica v (replica_place (configuration v z j) o) (added e (orderer_replica v z j))) (add_effect w z j e))
        (sym (orderer-alike a hj))
        (member_write (orderer w z j) (orderer_is_member g hz hj there) (omega (arith, room, long)) (ap (added e) (led there)))

    adopt_write : (h : ℕ) → AllPass (adopt_checks w z j h) → SameWrite z v w (adopt_effect v z j h) (adopt_effect w z j h)
    unfolding adopt_checks adopt_effect adopted
    adopt_write h p = member_write h (search) (orderer_short w z j) (ap₂ adopted (led (search)) (host_alike hj h (search)))

    learn_write : (h n : ℕ) → AllPass (learn_checks w z j h n) → SameWrite z v w (learn_effect v z j h n) (learn_effect w z j h n)
    unfolding learn_checks learn_effect learned
    learn_write h n p = member_write h (search) (host_short w z j h) (ap (learned n) (host_alike hj h (search)))

    wedge_write : (h : ℕ) → AllPass (wedge_checks w z j h) → SameWrite z v w (wedge_effect v z j h) (wedge_effect w z j h)
    unfolding wedge_checks wedge_effect wedged
    wedge_write h p = member_write h (search) (host_short w z j h) (ap wedged (host_alike hj h (search)))

    inherit_write : (h p : ℕ) → AllPass (inherit_checks w z j h p) → SameWrite z v w (inherit_effect v z j h p) (inherit_effect w z j h p)
    unfolding inherit_checks inherit_effect is_source source inherited
    inherit_write h p c =
        let member : has_member (members w z (j - 1)) p ≡ true = search (and_left, and_right) in
        member_write h (search) (host_short w z (j - 1) p) (ap (inherited p) (host_alike (omega arith) p member))

    catch_up_write : (h p : ℕ) → AllPass (catch_up_checks w z j h p) → SameWrite z v w (catch_up_effect v z j h p) (catch_up_effect w z j h p)
    unfolding catch_up_checks catch_up_effect is_peer replica_in caught_up
    catch_up_write h p c =
        let member : has_member (members w z j) p ≡ true = search (and_left, and_right) in
        member_write h (search) (host_short w z j p) (ap caught_up (host_alike hj p member))

    kind_alike : (k : NamedKind) → (k ≡ (Ok Install) → ⊥) → (c d : ℕ)
        → SameKind z v w (kind_checks k v z j c d) (kind_checks k w z j c d) (kind_effect k v z j c d) (kind_effect k w z j c d)
    unfolding kind_checks kind_effect
    kind_alike (Ok Add) n c d = record { answer = add_answer c; write = add_write c }
    kind_alike (Ok Adopt) n c d = record { answer = adopt_answer c; write = adopt_write c }
    kind_alike (Ok Learn) n c d = record { answer = learn_answer c d; write = learn_write c d }
    kind_alike (Ok Wedge) n c d = record { answer = wedge_answer c; write = wedge_write c }
    kind_alike (Ok Install) n c d = absurd (n refl)
    kind_alike (Ok Inherit) n c d = record { answer = inherit_answer c d; write = inherit_write c d }
    kind_alike (Ok CatchUp) n c d = record { answer = catch_up_answer c d; write = catch_up_write c d }
    kind_alike (Err Kept) n c d = record { answer = refl; write = λ p. nothing refl refl }
    kind_alike (Err Unknown) n c d = record { answer = refl; write = λ p. nothing refl refl }

pub step_answer : {v w : List ℕ} → well_formed v ≡ true → well_formed w ≡ true → (s : Step) → ShardAlike (shard_of s) v w → (kind_of s.kind ≡ (Ok Install) → ⊥)
    → rejection v s ≡ rejection w s
unfolding rejection step_checks first_of
step_answer {v} {w} e f s a n = rw (a.long, e, f, decided (in_range (shards_of (length w)) s) _ _ 7 kinds)
  where
    kinds : in_range (shards_of (length w)) s ≡ true
        → first_of (kind_checks (kind_of s.kind) v (shard_of s) (configuration_of s) s.c s.d)
        ≡ first_of (kind_checks (kind_of s.kind) w (shard_of s) (configuration_of s) s.c s.d)
    kinds t =
        let r = in_range_lem (shards_of (length w)) s t in
        let g = well_formed_lem w (shards_of (length w)) refl (several (length w) (λ q. omega (arith, r.shard, q))) f in
        (kind_alike g a r.shard r.configuration (kind_of s.kind) n s.c s.d).answer

pub step_write : {v w : List ℕ} (s : Step) → Accepted w s → ShardAlike (shard_of s) v w → (kind_of s.kind ≡ (Ok Install) → ⊥)
    → SameWrite (shard_of s) v w (effect v s) (effect w s)
unfolding effect
step_write {v} {w} s x a n =
    (kind_alike (accepted_formed w s x) a x.range.shard x.range.configuration (kind_of s.kind) n s.c s.d).write x.checks
