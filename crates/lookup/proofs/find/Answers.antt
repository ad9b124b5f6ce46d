-- `lookup::find` meets its contract.
use Prim.Native.Nat.{ℕ}
use mathlib.Core.Path.{◌≡◌, sym, ap, ◌∙◌}
use mathlib.Core.Bool.{Bool}
use Rattle.types.specs.Members.{has_member}
use Rattle.types.specs.declared.configuration.Configuration.{Configuration}
use Rattle.model.specs.Configuration.{configuration}
use Rattle.types.specs.ReplicaPlace.{replica_place}
use Rattle.lookup.specs.FoundReplicas.{found_of}
use Rattle.lookup.proofs.FoundReplicas.{small_place, member_placed}
use Rattle.lookup.proofs.find.Goals as goal

-- the test of membership is that of the configuration that was found
has-member : (h : ℕ) {r : Bool} {k x : Configuration} → k ≡ x → r ≡ has_member k.members h → r ≡ has_member x.members h
has-member h e f = f ∙ ap (λ (y : Configuration). has_member y.members h) e

pub returns-then-not-is_installed : goal.returns-then-not-is_installed
unfolding found_of
returns-then-not-is_installed c = record { value = simp (sym c.is_installed.ensures ∙ c.if-not-is_installed.true); placed = tt }

pub returns-then-not-has : goal.returns-then-not-has
unfolding found_of configuration
returns-then-not-has c =
    let m = has-member c.args.host c.configuration_of-c.ensures c.has.ensures in
    record { value = simp (sym c.is_installed.ensures ∙ c.if-not-is_installed.false, sym m ∙ c.if-not-has.true); placed = tt }

pub replica-requires : goal.replica-requires
replica-requires c = (c.requires.host, rw c.configuration_of-c.ensures (small_place c.requires.ready))

pub returns : goal.returns
unfolding found_of configuration
returns c =
    let h = c.args.host in
    let m = sym (has-member h c.configuration_of-c.ensures c.has.ensures) ∙ c.if-not-has.false in
    let p = c.replica.ensures ∙ ap (λ (x : Configuration). replica_place x h) c.configuration_of-c.ensures in
    record {
      value = simp (p, sym c.is_installed.ensures ∙ c.if-not-is_installed.false, m);
      placed = rw p (member_placed c.requires.ready h m);
    }
