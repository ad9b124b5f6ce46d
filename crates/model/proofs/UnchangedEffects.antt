-- Steps that are accepted on two well-formed states that differ in words 3 alone leave states that differ there alone.
-- Assumes nothing.
use Rattle.std.specs.Prelude.{Ok, Err}
use Prim.Native.Nat.{ℕ, zero, suc, ◌+◌, ◌-◌, ◌*◌, ◌≤◌, ◌<◌}
use native.Mathlib.Omega.{arith}
use mathlib.Core.Path.{◌≡◌, refl, sym, subst}
use mathlib.Core.Bool.{true}
use mathlib.Core.List.{List, [], ◌∷◌}
use lib.ListN.{length, length-append, length-set}
use borrow.Author.Tests.{ltb-true}
use Rattle.types.specs.declared.kind.Kind.TheVariants.{Add, Adopt, Learn, Wedge, Install, Inherit, CatchUp}
use Rattle.types.specs.declared.kind.NoKind.TheVariants.{Kept, Unknown}
use Rattle.types.specs.declared.step.Step.{Step}
use Rattle.types.specs.Kinds.{NamedKind, kind_of}
use Rattle.types.specs.Members.{size, has_member, replica_number}
use Rattle.model.specs.Replicas.{Replica, pending, added, adopted, learned, wedged, inherited, caught_up}
use Rattle.model.specs.Layout.{installed, members, orderer, put_replica, put_head}
use Rattle.model.specs.Configuration.{configuration, replica_of, replica_in}
use Rattle.types.specs.ReplicaPlace.{replica_place}
use Rattle.model.specs.Add.{orderer_place, orderer_replica, add_checks, add_effect}
use Rattle.model.specs.Adopt.{adopt_checks, adopt_effect}
use Rattle.model.specs.Learn.{learn_checks, learn_effect}
use Rattle.model.specs.Wedge.{wedge_checks, wedge_effect}
use Rattle.model.specs.Install.{install_checks, put_pending, install_next, install_effect}
use Rattle.model.specs.Inherit.{source, inherit_checks, inherit_effect}
use Rattle.model.specs.CatchUp.{catch_up_checks, catch_up_effect}
use Rattle.model.specs.Steps.{kind_checks, kind_effect, effect}
use Rattle.model.specs.Unchanged.{OriginsAlone}
use Rattle.model.proofs.Checks.{AllPass, Accepted}
use Rattle.model.proofs.Members.{number_below}
use Rattle.model.proofs.Parts.{short}
use Rattle.model.proofs.Places.{replica_place_lem}
use Rattle.model.proofs.Pending.{pending-length}
use Rattle.model.proofs.WellFormed.{WellFormed, size_of}
use Rattle.model.proofs.WellFormedMembers.{configured, size_few, orderer_is_member}
use Rattle.model.proofs.WellFormedInstall.{issue_proper, next_index}
use Rattle.model.proofs.WellFormedSteps.{accepted_formed}
use Rattle.model.proofs.OriginsAlone.{OriginAlone, installed-same, members-same, orderer-same, put_alone, head_alone}
use Rattle.model.proofs.UnchangedChecks.{host_same, orderer_replica_same, source-same, issued_same}

-- ---- the builders

module _ {r s : Replica} (e : OriginAlone r s) where
  added_alone : (x : ℕ) → OriginAlone (added x r) (added x s)
  unfolding added
  added_alone x = record { mode = e.mode; history = rw e.history; stable = e.stable }

  adopted_alone : {o p : Replica} → OriginAlone o p → OriginAlone (adopted o r) (adopted p s)
  unfolding adopted
  adopted_alone d = record { mode = e.mode; history = d.history; stable = rw (e.stable, d.stable, d.history) }

  learned_alone : (n : ℕ) → OriginAlone (learned n r) (learned n s)
  unfolding learned
  learned_alone n = record { mode = e.mode; history = e.history; stable = refl }

  wedged_alone : OriginAlone (wedged r) (wedged s)
  unfolding wedged
  wedged_alone = record { mode = refl; history = e.history; stable = e.stable }

  inherited_alone : (g : ℕ) → OriginAlone (inherited g r) (inherited g s)
  unfolding inherited
  inherited_alone g = record { mode = refl; history = e.history; stable = e.stable }

  caught_up_alone : OriginAlone (caught_up r) (caught_up s)
  unfolding caught_up
  caught_up_alone = record { mode = refl; history = e.history; stable = e.stable }

-- a replica's history is short, wherever it is read
pub host_short : (w : List ℕ) (z j h : ℕ) → length (replica_of w (configuration w z j) h).history ≤ 56
unfolding replica_of
host_short w z j h = short w (replica_place (configuration w z j) h)

pub orderer_short : (w : List ℕ) (z j : ℕ) → length (orderer_replica w z j).history ≤ 56
unfolding orderer_replica
orderer_short w z j = host_short w z j (configuration w z j).orderer

-- ---- the kinds that write one replica

module _ {Z : ℕ} {v w : List ℕ} (f : WellFormed Z v) (a : OriginsAlone v w) {z j : ℕ} (hz : z < Z) (hj : j < 8) where
  member_alone : (h : ℕ) → has_member (members v z j) h ≡ true → {r s : Replica} → length r.history ≤ 56 → OriginAlone r s
      → OriginsAlone (put_replica v (replica_place (configuration v z j) h) r) (put_replica w (replica_place (configuration w z j) h) s)
  member_alone h m few e =
      let small : replica_number (members v z j) h < 4 = omega (arith, number_below (members v z j) h m, size_few f hz hj) in
      rw (replica_place_lem v z j h, replica_place_lem w z j h, sym (members-same a z hj)) (put_alone a (size_of f) hz hj small few e)

  add_alone : (x : ℕ) → AllPass (add_checks v z j x) → OriginsAlone (add_effect v z j x) (add_effect w z j x)
  unfolding add_checks add_effect orderer_place configuration added
  add_alone x p =
      let room = ltb-true (length (orderer_replica v z j).history) 56 (search) in
      let long = length-append (orderer_replica v z j).history (x ∷ []) in
      subst (λ (o : ℕ). OriginsAlone (add_effect v z j x) (put_replica w (replica_place (configuration w z j) o) (added x (orderer_replica w z j))))
      (orderer-same a z hj)
      (member_alone (orderer v z j) (orderer_is_member f hz hj (search)) (omega (arith, room, long)) (added_alone (orderer_replica_same a z hj) x))

  adopt_alone : (h : ℕ) → AllPass (adopt_checks v z j h) → OriginsAlone (adopt_effect v z j h) (adopt_effect w z j h)
  unfolding adopt_checks adopt_effect adopted
  adopt_alone h p = member_alone h (search) (orderer_short v z j) (adopted_alone (host_same a z hj h) (orderer_replica_same a z hj))

  learn_alone : (h n : ℕ) → AllPass (learn_checks v z j h n) → OriginsAlone (learn_effect v z j h n) (learn_effect w z j h n)
  unfolding learn_checks learn_effect learned
  learn_alone h n p = member_alone h (search) (host_short v z j h) (learned_alone (host_same a z hj h) n)

  wedge_alone : (h : ℕ) → AllPass (wedge_checks v z j h) → OriginsAlone (wedge_effect v z j h) (wedge_effect w z j h)
  unfolding wedge_checks wedge_effect wedged
  wedge_alone h p = member_alone h (search) (host_short v z j h) (wedged_alone (host_same a z hj h))

  inherit_alone : (h g : ℕ) → AllPass (inherit_checks v z j h g) → OriginsAlone (inherit_effect v z j h g) (inherit_effect w z j h g)
  unfolding inherit_checks inherit_effect inherited source
  inherit_alone h g p = member_alone h (search) (host_short v z (j - 1) g) (inherited_alone (source-same a z hj g) g)

  catch_up_alone : (h g : ℕ) → AllPass (catch_up_checks v z j h g) → OriginsAlone (catch_up_effect v z j h g) (catch_up_effect w z j h g)
  unfolding catch_up_checks catch_up_effect caught_up replica_in
  catch_up_alone h g p = member_alone h (search) (host_short v z j g) (caught_up_alone (host_same a z hj g))

-- ---- install

pending_alone : {v w : List ℕ} → OriginsAlone v w → {Z z j : ℕ} → length v ≡ Z * 2112 → z < Z → j < 8 → (n : ℕ) → n ≤ 4
    → OriginsAlone (put_pending v z j n) (put_pending w z j n)
unfolding put_pending pending
pending_alone a l hz hj zero h = a
pending_alone {v} a l hz hj (suc n) h =
    put_alone (pending_alone a l hz hj n (omega arith)) (pending-length v l hz hj n (omega arith)) hz hj h (omega arith)
    (record { mode = refl; history = refl; stable = refl })

next_alone : {Z : ℕ} {v w : List ℕ} → OriginsAlone v w → length v ≡ Z * 2112 → {z : ℕ} → z < Z → installed w z < 8 → (m o : ℕ) → size m ≤ 4
    → OriginsAlone (install_next v z m o) (install_next w z m o)
unfolding install_next put_head
next_alone {v = v} {w = w} a l {z} hz hn m o few =
    rw (installed-same a z)
    (pending_alone (head_alone (head_alone (head_alone a z (2 + installed w z) m) z (10 + installed w z) o) z 1 (installed w z + 1))
    (simp length-set l) hz hn (size m) few)

module _ {Z : ℕ} {v w : List ℕ} (f : WellFormed Z v) (a : OriginsAlone v w) {z j : ℕ} (hz : z < Z) (hj : j < 8) where
  install_alone : (h p : ℕ) → AllPass (install_checks v z j h p) → OriginsAlone (install_effect v z j h p) (install_effect w z j h p)
  unfolding install_effect
  install_alone h p c =
      let i = issue_proper f hz hj h p c in
      rw (sym (issued_same a z hj h p))
      (next_alone a (size_of f) hz (omega (arith, installed-same a z, next_index f hz hj h p c, i.index_most)) _ _
      (configured _ _ i.configuration).size_most)

  -- ---- every kind

  kind_alone : (k : NamedKind) (c d : ℕ) → AllPass (kind_checks k v z j c d) → OriginsAlone (kind_effect k v z j c d) (kind_effect k w z j c d)
  unfolding kind_checks kind_effect
  kind_alone (Ok Add) c d p = add_alone f a hz hj c p
  kind_alone (Ok Adopt) c d p = adopt_alone f a hz hj c p
  kind_alone (Ok Learn) c d p = learn_alone f a hz hj c d p
  kind_alone (Ok Wedge) c d p = wedge_alone f a hz hj c p
  kind_alone (Ok Install) c d p = install_alone c d p
  kind_alone (Ok Inherit) c d p = inherit_alone f a hz hj c d p
  kind_alone (Ok CatchUp) c d p = catch_up_alone f a hz hj c d p
  kind_alone (Err Kept) c d p = a
  kind_alone (Err Unknown) c d p = a

pub effect_alone : {v w : List ℕ} → OriginsAlone v w → (s : Step) → Accepted v s → OriginsAlone (effect v s) (effect w s)
unfolding effect
effect_alone {v} a s x =
    kind_alone (accepted_formed v s x) a x.range.shard x.range.configuration (kind_of s.kind) s.c s.d x.checks
