-- What the tests of an origin say, and what keeps them: the named source is a member of the configuration before and not pending.
use Prim.Native.Nat.{ℕ, ◌-◌, ◌≤◌, ◌<◌}
use native.Mathlib.Omega.{arith}
use mathlib.Core.Path.{◌≡◌, refl, ap, ◌∙◌}
use mathlib.Core.Bool.{Bool, true, false, cond, not, ◌||◌, or-true}
use mathlib.Core.List.{List}
use lib.Dec.{leb, eqb}
use borrow.Author.Tests.{leb-true, le-leb, eqb-true, eqb-false, ne_eqb, not-true}
use Rattle.types.specs.Members.{has_member, replica_number}
use Rattle.model.specs.Replicas.{Replica, is_pending, is_active, is_immutable, pending, added, adopted, learned, wedged, inherited, caught_up}
use Rattle.model.specs.Layout.{place, members, replica_at}
use Rattle.model.specs.Configuration.{replica_of}
use Rattle.model.specs.Inherit.{source}
use Rattle.model.specs.Origins.{names_member, names_source, is_origin_of}
use Rattle.model.proofs.Tests.{and_left, and_right}
use Rattle.model.proofs.Places.{replica_place_lem}

-- where a source is
pub source-place : (w : List ℕ) (z j g : ℕ) → source w z j g ≡ replica_at w (place z (j - 1) (replica_number (members w z (j - 1)) g))
unfolding source replica_of
source-place w z j g = ap (replica_at w) (replica_place_lem w z (j - 1) g)

-- ---- the tests of an origin x in configuration j

pub member_named : (m x : ℕ) → names_member m x ≡ true → (1 ≤ x) × (x ≤ 16) × (has_member m (x - 1) ≡ true)
unfolding names_member
member_named m x e =
    let least : leb 1 x ≡ true = search (and_left, and_right) in
    let most : leb x 16 ≡ true = search (and_left, and_right) in
    (leb-true 1 x least, leb-true x 16 most, search (and_left, and_right))

pub record Named (w : List ℕ) (z j x : ℕ) : Type 0 where
  pub least : 1 ≤ x
  pub most : x ≤ 16
  pub member : has_member (members w z (j - 1)) (x - 1) ≡ true
  pub running : is_pending (source w z j (x - 1)) ≡ false

pub named : (w : List ℕ) (z j x : ℕ) → names_source w z j x ≡ true → Named w z j x
unfolding names_source
named w z j x e =
    let host = member_named (members w z (j - 1)) x (search (and_left, and_right)) in
    let running : not (is_pending (source w z j (x - 1))) ≡ true = search (and_left, and_right) in
    record {
      least = host.0;
      most = host.1;
      member = host.2;
      running = not-true (is_pending (source w z j (x - 1))) running;
    }

pub names-source : (w : List ℕ) (z j x : ℕ) → Named w z j x → names_source w z j x ≡ true
unfolding names_source names_member
names-source w z j x n = rw (le-leb 1 x n.least, le-leb x 16 n.most, n.member, n.running)

-- ---- the test of a replica

-- a replica of a later configuration that is not pending has a source
pub has_source : (w : List ℕ) (z j : ℕ) (r : Replica) → 1 ≤ j → is_pending r ≡ false → is_origin_of w z j r ≡ names_source w z j r.origin
unfolding is_origin_of
has_source w z j r h e = rw (ne_eqb j 0 (λ q. omega (arith, q)), e)

-- any other has none
pub no_source_lem : (w : List ℕ) (z j : ℕ) (r : Replica) → (eqb j 0 || is_pending r) ≡ true → r.origin ≡ 0 → is_origin_of w z j r ≡ true
unfolding is_origin_of
no_source_lem w z j r e o = rw (e, o)

-- the test stays where sources stay members and not pending
pub origin_stays : (w u : List ℕ) (z j : ℕ) (r : Replica)
    → ((g : ℕ) → 1 ≤ j → has_member (members w z (j - 1)) g ≡ true → is_pending (source w z j g) ≡ false
    → (has_member (members u z (j - 1)) g ≡ true) × (is_pending (source u z j g) ≡ false))
    → is_origin_of w z j r ≡ true → is_origin_of u z j r ≡ true
unfolding is_origin_of
origin_stays w u z j r f e = go (eqb j 0) (is_pending r) refl refl
  where
    stays : 1 ≤ j → names_source w z j r.origin ≡ true → names_source u z j r.origin ≡ true
    stays h d =
        let n = named w z j r.origin d in
        let g = f (r.origin - 1) h n.member n.running in
        names-source u z j r.origin (record { least = n.least; most = n.most; member = g.0; running = g.1 })

    go : (a b : Bool) → eqb j 0 ≡ a → is_pending r ≡ b
        → cond (eqb j 0 || is_pending r) (eqb r.origin 0) (names_source u z j r.origin) ≡ true
    go true b p q = rw p (rw p at e)
    go false true p q = rw (p, q) (rw (p, q) at e)
    go false false p q = rw (p, q) (stays (omega (arith, eqb-false j 0 p)) (rw (p, q) at e))

-- ---- what each kind of step makes of a replica

-- an active or immutable replica is not pending
pub active_runs : (r : Replica) → is_active r ≡ true → is_pending r ≡ false
unfolding is_active is_pending
active_runs r e = rw (eqb-true r.mode 2 e)

pub immutable_runs : (r : Replica) → is_immutable r ≡ true → is_pending r ≡ false
unfolding is_immutable is_pending
immutable_runs r e = rw (eqb-true r.mode 3 e)

module _ (w : List ℕ) (z j : ℕ) (r : Replica) (a : is_active r ≡ true) (o : is_origin_of w z j r ≡ true) where
  pub added_origin : (e : ℕ) → (is_pending (added e r) ≡ false) × (is_origin_of w z j (added e r) ≡ true)
  unfolding added is_pending is_origin_of
  added_origin e = (active_runs r a, o)

  pub adopted_origin : (s : Replica) → (is_pending (adopted s r) ≡ false) × (is_origin_of w z j (adopted s r) ≡ true)
  unfolding adopted is_pending is_origin_of
  adopted_origin s = (active_runs r a, o)

  pub learned_origin : (n : ℕ) → (is_pending (learned n r) ≡ false) × (is_origin_of w z j (learned n r) ≡ true)
  unfolding learned is_pending is_origin_of
  learned_origin n = (active_runs r a, o)

  pub wedged_origin : (is_pending (wedged r) ≡ false) × (is_origin_of w z j (wedged r) ≡ true)
  unfolding wedged is_pending is_origin_of
  wedged_origin = (refl, rw (active_runs r a) at o)

pub pending_origin : (w : List ℕ) (z j : ℕ) → is_origin_of w z j pending ≡ true
unfolding pending is_pending is_origin_of
pending_origin w z j = rw (or-true (eqb j 0))

-- catching up names what the peer names, which is not pending
pub caught_up_origin : (w : List ℕ) (z j : ℕ) (r : Replica) → is_pending r ≡ false → is_origin_of w z j r ≡ true
    → (is_pending (caught_up r) ≡ false) × (is_origin_of w z j (caught_up r) ≡ true)
unfolding caught_up is_pending is_origin_of
caught_up_origin w z j r a o = (refl, rw a at o)

-- inherit names an immutable member of the configuration before
pub inherited_origin : (w : List ℕ) (z j g : ℕ) → 1 ≤ j → g < 16 → has_member (members w z (j - 1)) g ≡ true → is_immutable (source w z j g) ≡ true
    → (is_pending (inherited g (source w z j g)) ≡ false) × (is_origin_of w z j (inherited g (source w z j g)) ≡ true)
unfolding inherited is_pending
inherited_origin w z j g h l m i =
    let r = inherited g (source w z j g) in
    let back : r.origin - 1 ≡ g = omega arith in (
      refl,
      has_source w z j r h refl
          ∙ names-source w z j r.origin
          (record { least = omega arith; most = omega arith; member = rw back m; running = rw back (immutable_runs (source w z j g) i) }),
    )
