-- The ladder of finding a named replica, and what it says where it is found.
use Prim.Native.Nat.{ℕ, ◌-◌, ◌≤◌, ◌<◌}
use native.Mathlib.Omega.{arith}
use mathlib.Core.Path.{◌≡◌, refl, sym, ap, ◌∙◌}
use mathlib.Core.Bool.{Bool, true, false, cond}
use mathlib.Core.List.{List, [], ◌∷◌}
use lib.Dec.{leb, ltb}
use lib.ListN.{length}
use borrow.Author.Tests.{leb-true, ltb-true, le-leb}
use Rattle.std.specs.Prelude.{Ok, Err}
use Rattle.types.specs.declared.rejection.Rejection.{Rejection}
use Rattle.types.specs.declared.rejection.Rejection.TheVariants.{StateLength, OutOfRange, NotWellFormed, NotInstalled, NotMember}
use Rattle.types.specs.Rejections.{rejection_number, numbered, answered}
use Rattle.types.proofs.Rejections.{rejected_answer}
use Rattle.model.specs.Checks.{first_of}
use Rattle.types.specs.Members.{is_host, has_member}
use Rattle.model.specs.Layout.{shards_of, is_state_length, is_installed, members}
use Rattle.model.specs.Configuration.{configuration}
use Rattle.types.specs.ReplicaPlace.{replica_place}
use Rattle.model.specs.WellFormed.{well_formed}
use Rattle.model.proofs.Tests.{all_pass}
use Rattle.model.proofs.Checks.{passed}
use Rattle.model.proofs.Results.{first_below}
use Rattle.lookup.specs.Ready.{Ready, ReadyHost}
use Rattle.lookup.specs.FoundReplicas.{found_of}
use Rattle.step_numbers.specs.StepRanges.{is_index_of}
use Rattle.lookup.proofs.Formed.{formed_of}
use Rattle.histories.proofs.Answered.{answered_ok, answered_err}
use Rattle.wellformed.specs.Checked.{shard_count_of}
use Rattle.wellformed.proofs.Checked.{count_passed, count_rejected}
use Rattle.histories.specs.NamedReplicas.{is_replica_name, replica_checks, found_named}

-- a shard, an index and a host that are in range
pub record Named (Z z i h : ℕ) : Type 0 where
  pub shard : z < Z
  pub least : 1 ≤ i
  pub most : i ≤ 8
  pub host : h < 16

pub named : (Z z i h : ℕ) → is_replica_name Z z i h ≡ true → Named Z z i h
unfolding is_replica_name is_index_of is_host
named Z z i h e =
    let p = all_pass (ltb z Z) (leb 1 i ∷ leb i 8 ∷ ltb h 16 ∷ []) e in
    record {
      shard = ltb-true z Z p.0;
      least = leb-true 1 i p.1.0;
      most = leb-true i 8 p.1.1.0;
      host = ltb-true h 16 p.1.1.1.0;
    }

-- what the look-up chooses by its two tests
chosen : (s t : Bool) (p : ℕ) → cond s (cond t (Ok p) (Err NotMember)) (Err NotInstalled) ≡ answered (cond s (cond t 0 11) 10) p
unfolding answered numbered
chosen true true p = refl
chosen true false p = refl
chosen false t p = refl

module _ (w : List ℕ) (z i h : ℕ) where
  abbrev Z : ℕ
  Z = shards_of (length w)

  abbrev place : ℕ
  place = replica_place (configuration w z (i - 1)) h

  -- a rejection of the checks has no place
  rejected_as : (r : Rejection) → first_of (replica_checks w z i h) ≡ rejection_number r → Err r ≡ found_named w z i h
  unfolding found_named
  rejected_as r e = rw e (rejected_answer r place)

  -- what a caller named, in a state of a known length and form
  ready_as : 2 ≤ Z → is_replica_name Z z i h ≡ true → well_formed w ≡ true → ReadyHost w z (i - 1) h
  ready_as two e f =
      let a = named Z z i h e in
      record {
        ready = record { state = formed_of w (λ q. omega arith) f; shard = a.shard; configuration = omega (arith, a.most) };
        host = a.host;
      }

  pub no_length : {r : Rejection} → Err r ≡ shard_count_of (length w) → Err r ≡ found_named w z i h
  unfolding replica_checks first_of is_state_length
  no_length e = let c = count_rejected _ e in rw c.0 (rejected_as StateLength (rw c.1))

  -- n shards were counted
  module _ {n : ℕ} (count : Ok n ≡ shard_count_of (length w)) where
    two : 2 ≤ Z
    two = (count_passed _ count).1

    name_is : {t : Bool} → is_replica_name n z i h ≡ t → is_replica_name Z z i h ≡ t
    name_is e = ap (λ (m : ℕ). is_replica_name m z i h) (sym (count_passed _ count).0) ∙ e

    pub no_name : is_replica_name n z i h ≡ false → Err OutOfRange ≡ found_named w z i h
    unfolding replica_checks first_of is_state_length
    no_name e = rejected_as OutOfRange (rw (le-leb 2 Z two, name_is e))

    module _ (e : is_replica_name n z i h ≡ true) where
      pub no_form : well_formed w ≡ false → Err NotWellFormed ≡ found_named w z i h
      unfolding replica_checks first_of is_state_length
      no_form f = rejected_as NotWellFormed (rw (le-leb 2 Z two, name_is e, f))

      module _ (f : well_formed w ≡ true) where
        pub ready_host : ReadyHost w z (i - 1) h
        ready_host = ready_as two (name_is e) f

        -- the checks that are left are those of the look-up
        pub found_as : found_of w z (i - 1) h ≡ found_named w z i h
        unfolding found_named found_of replica_checks first_of is_state_length
        found_as =
            rw (le-leb 2 Z two, name_is e, f) (chosen (is_installed w z (i - 1)) (has_member (members w z (i - 1)) h) place)

  below : ltb (first_of (replica_checks w z i h)) 25 ≡ true
  unfolding replica_checks
  below = first_below (replica_checks w z i h) refl

  pub found_not : {r : Rejection} → Err r ≡ found_named w z i h → first_of (replica_checks w z i h) ≡ rejection_number r
  unfolding found_named
  found_not e = answered_err _ place below e

  pub found_at : {p : ℕ} → Ok p ≡ found_named w z i h → (first_of (replica_checks w z i h) ≡ 0) × (p ≡ place)
  unfolding found_named
  found_at e = answered_ok _ place e

-- a replica that was found is that of a member
pub record IsNamed (w : List ℕ) (z i h : ℕ) : Type 0 where
  pub in_range : Named (shards_of (length w)) z i h
  pub ready : Ready w z (i - 1)
  pub there : is_installed w z (i - 1) ≡ true
  pub member : has_member (members w z (i - 1)) h ≡ true

pub is_named : (w : List ℕ) (z i h : ℕ) → first_of (replica_checks w z i h) ≡ 0 → IsNamed w z i h
unfolding replica_checks is_state_length
is_named w z i h e =
    let p = passed (replica_checks w z i h) refl e in
    record {
      in_range = named (shards_of (length w)) z i h p.1.0;
      ready = (ready_as w z i h (leb-true 2 (shards_of (length w)) p.0) p.1.0 p.1.1.0).ready;
      there = p.1.1.1.0;
      member = p.1.1.1.1.0;
    }
