-- What the answer of a look-up says of the checks 10 and 11, and of the replica's place.
-- Assumes nothing.
use Prim.Native.Nat.{ℕ, ◌^◌, ◌<◌}
use native.Mathlib.Omega.{arith}
use mathlib.Core.Path.{◌≡◌, refl, sym, ap, ◌∙◌}
use mathlib.Core.Bool.{Bool, true, false, cond}
use mathlib.Core.List.{List, ◌∷◌}
use Rattle.std.specs.Prelude.{Result, Ok, Err}
use Rattle.types.specs.declared.rejection.Rejection.{Rejection}
use Rattle.types.specs.declared.rejection.Rejection.TheVariants.{NotInstalled, NotMember}
use Rattle.types.specs.Rejections.{rejection_number}
use Rattle.types.proofs.OkErr.{ok_is, ok_err, err_is, err_ok}
use Rattle.model.specs.Checks.{Check, first_of, ◌or_else◌}
use Rattle.types.specs.Members.{has_member}
use Rattle.model.specs.Layout.{is_installed, members, place, part, replica_at}
use Rattle.model.specs.Replicas.{replica_words}
use Rattle.model.specs.Configuration.{configuration, replica_of}
use Rattle.types.specs.ReplicaPlace.{replica_place}
use Rattle.model.proofs.Places.{replica_place_lem, place_fits}
use Rattle.model.proofs.SeatedReplica.{number_small}
use Rattle.lookup.specs.Ready.{Ready, Placed}
use Rattle.lookup.specs.FoundReplicas.{found_of}
use Rattle.lookup.proofs.ReadyFields.{formed, member_words}

-- a configuration's place is small
pub small_place : {w : List ℕ} {z j : ℕ} → Ready w z j → (configuration w z j).place < 2 ^ 32
unfolding configuration place
small_place r = omega (arith, r.shard, r.state.most, r.configuration)

-- a member's replica is placed
pub member_placed : {w : List ℕ} {z j : ℕ} → Ready w z j → (h : ℕ) → has_member (members w z j) h ≡ true → Placed w (replica_place (configuration w z j) h)
member_placed {w} {z} {j} r h e =
    record {
      fits =
          rw (replica_place_lem w z j h)
          (place_fits w r.state.long r.shard r.configuration (number_small (formed r.state) r.shard r.configuration h e));
    }

-- the replica of host h is at p
pub record At (w : List ℕ) (z j h p : ℕ) : Type 0 where
  pub there : is_installed w z j ≡ true
  pub member : has_member (members w z j) h ≡ true
  pub place_is : replica_place (configuration w z j) h ≡ p
  pub replica_is : replica_of w (configuration w z j) h ≡ replica_at w p

-- what a look-up gives, by its two tests
module _ (w : List ℕ) (z j h : ℕ) {r : Result ℕ Rejection} (e : r ≡ found_of w z j h) where
  abbrev by_tests : Bool → Bool → Result ℕ Rejection
  by_tests s t = cond s (cond t (Ok (replica_place (configuration w z j) h)) (Err NotMember)) (Err NotInstalled)

  pub at_found : (p : ℕ) → r ≡ Ok p → At w z j h p
  unfolding found_of replica_of
  at_found p q = go (is_installed w z j) (has_member (members w z j) h) refl refl (sym q ∙ e)
    where
      go : (s t : Bool) → is_installed w z j ≡ s → has_member (members w z j) h ≡ t → Ok p ≡ by_tests s t → At w z j h p
      go true true a b f =
          let g : p ≡ replica_place (configuration w z j) h = ok_is f in
          record { there = a; member = b; place_is = sym g; replica_is = ap (replica_at w) (sym g) }
      go true false a b f = absurd (ok_err f)
      go false t a b f = absurd (ok_err f)

  -- the checks of most kinds begin with 10 and 11
  pub early : (x : Rejection) (rest : List Check) → r ≡ Err x
      → rejection_number x ≡ first_of (is_installed w z j or_else 10 ∷ has_member (members w z j) h or_else 11 ∷ rest)
  unfolding found_of first_of
  early x rest q = go (is_installed w z j) (has_member (members w z j) h) (sym q ∙ e)
    where
      go : (s t : Bool) → Err x ≡ by_tests s t → rejection_number x ≡ cond s (cond t (first_of rest) 11) 10
      go true true f = absurd (err_ok f)
      go true false f = ap rejection_number (err_is f)
      go false t f = ap rejection_number (err_is f)

  -- in an installed configuration, a host without a replica is no member
  pub no_member_lem : is_installed w z j ≡ true → (x : Rejection) → r ≡ Err x → has_member (members w z j) h ≡ false
  unfolding found_of
  no_member_lem i x q = go (has_member (members w z j) h) (rw i at (sym q ∙ e))
    where
      go : (t : Bool) → Err x ≡ by_tests true t → t ≡ false
      go true f = absurd (err_ok f)
      go false f = refl

-- the words of a replica that was found are just its words
pub words_at : {w : List ℕ} {z j h p : ℕ} → At w z j h p → Ready w z j → part w p ≡ replica_words (replica_at w p)
words_at {w} {z} {j} {h} {p} a r = rw (sym a.place_is) (member_words r h a.member)

-- where all checks pass, the answer of a look-up is 0
pub passed_found : (w : List ℕ) (z j h : ℕ) (rest : List Check)
    → first_of (is_installed w z j or_else 10 ∷ has_member (members w z j) h or_else 11 ∷ rest) ≡ 0
    → found_of w z j h ≡ Ok (replica_place (configuration w z j) h)
unfolding found_of first_of
passed_found w z j h rest = go (is_installed w z j) (has_member (members w z j) h) refl refl
  where
    go : (s t : Bool) → is_installed w z j ≡ s → has_member (members w z j) h ≡ t
        → first_of (is_installed w z j or_else 10 ∷ has_member (members w z j) h or_else 11 ∷ rest) ≡ 0
        → found_of w z j h ≡ Ok (replica_place (configuration w z j) h)
    go true true a b e = rw (a, b)
    go true false a b e = absurd (let q : ◌≡◌ {A = ℕ} 11 0 = rw (a, b) at e in omega arith)
    go false t a b e = absurd (let q : ◌≡◌ {A = ℕ} 10 0 = rw a at e in omega arith)
