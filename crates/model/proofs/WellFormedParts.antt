-- What the tests of a replica's words say, and which replicas pass them.
use Prim.Native.Nat.{ℕ, zero, suc, ◌≤◌, ◌<◌}
use native.Mathlib.Omega.{arith}
use mathlib.Core.Path.{◌≡◌, refl}
use mathlib.Core.Bool.{Bool, true, false, cond, not, ◌&&◌, ◌||◌}
use mathlib.Core.List.{List, [], ◌∷◌, ◌++◌}
use lib.Dec.{leb, eqb}
use lib.ListN.{length, get_or}
use borrow.Author.Tests.{leb-true, le-leb, eqb-true, eq-eqb}
use Rattle.model.specs.Tests.{all_of, same}
use Rattle.model.specs.Entries.{is_entry}
use Rattle.model.specs.Replicas.{Replica, replica_words, read_replica, unused, is_pending}
use Rattle.model.specs.WellFormed.{is_replica, is_unused, is_part}
use Rattle.model.proofs.Tests.{both, ◌also◌, all_pass, pass_all}
use Rattle.model.proofs.Parts.{read_words}

-- ---- lists that are the same, and tests of every element

pub same_lists : (l m : List ℕ) → same l m ≡ true → l ≡ m
unfolding same
same_lists [] [] e = refl
same_lists [] (y ∷ m) e = cc
same_lists (x ∷ l) [] e = cc
same_lists (x ∷ l) (y ∷ m) e =
    let t = (both (eqb x y) (same l m)).0 e in
    cc (eqb-true x y t.0, same_lists l m t.1)

pub same_self : (l : List ℕ) → same l l ≡ true
unfolding same
same_self [] = refl
same_self (x ∷ l) = (both (eqb x x) (same l l)).1 (eq-eqb x x refl, same_self l)

pub all_append : (f : ℕ → Bool) (l m : List ℕ) → all_of f l ≡ true → all_of f m ≡ true → all_of f (l ++ m) ≡ true
unfolding all_of
all_append f [] m e d = d
all_append f (x ∷ l) m e d =
    let t = (both (f x) (all_of f l)).0 e in
    (both (f x) (all_of f (l ++ m))).1 (t.0, all_append f l m t.1 d)

pub all_at : (f : ℕ → Bool) (l : List ℕ) (i : ℕ) → all_of f l ≡ true → i < length l → f (get_or l i 0) ≡ true
unfolding all_of
all_at f [] i e h = absurd (omega arith)
all_at f (x ∷ l) zero e h = ((both (f x) (all_of f l)).0 e).0
all_at f (x ∷ l) (suc i) e h = all_at f l i ((both (f x) (all_of f l)).0 e).1 (omega arith)

pub at_all : (f : ℕ → Bool) (l : List ℕ) → ((i : ℕ) → i < length l → f (get_or l i 0) ≡ true) → all_of f l ≡ true
unfolding all_of
at_all f [] h = refl
at_all f (x ∷ l) h = (both (f x) (all_of f l)).1 (h 0 (omega arith), at_all f l (λ i g. h (suc i) (omega arith)))

-- ---- a replica

-- a member's replica of configuration j, of Z shards
pub record Proper (Z j : ℕ) (r : Replica) : Type 0 where
  pub mode_least : 1 ≤ r.mode
  pub mode_most : r.mode ≤ 3
  pub few : length r.history ≤ 56
  pub stable_most : r.stable ≤ length r.history
  pub entries : all_of (is_entry Z) r.history ≡ true
  pub waits : is_pending r ≡ true → (length r.history ≡ 0) × (1 ≤ j)

-- a passed `not a || b`, and back
implied : (a b : Bool) → (not a || b) ≡ true → a ≡ true → b ≡ true
implied true b e d = e
implied false b e d = cc

implies : (a b : Bool) → (a ≡ true → b ≡ true) → (not a || b) ≡ true
implies true b f = f refl
implies false b f = refl

module _ (Z j : ℕ) (r : Replica) where
  waiting : Bool
  waiting = eqb (length r.history) 0 && leb 1 j

  tests : List Bool
  tests =
      leb r.mode 3 ∷ leb (length r.history) 56 ∷ leb r.stable (length r.history) ∷ all_of (is_entry Z) r.history
      ∷ (not (is_pending r) || waiting) ∷ []

  pub proper : is_replica Z j r ≡ true → Proper Z j r
  unfolding is_replica waiting tests
  proper e =
      let p = all_pass (leb 1 r.mode) tests e in
      record {
        mode_least = leb-true 1 r.mode p.0;
        mode_most = leb-true r.mode 3 p.1.0;
        few = leb-true (length r.history) 56 p.1.1.0;
        stable_most = leb-true r.stable (length r.history) p.1.1.1.0;
        entries = p.1.1.1.1.0;
        waits = λ d.
            let t = (both (eqb (length r.history) 0) (leb 1 j)).0 (implied (is_pending r) waiting p.1.1.1.1.1.0 d) in
            (eqb-true (length r.history) 0 t.0, leb-true 1 j t.1);
      }

  still : Proper Z j r → is_pending r ≡ true → waiting ≡ true
  unfolding waiting
  still p d =
      (both (eqb (length r.history) 0) (leb 1 j)).1 (eq-eqb (length r.history) 0 (p.waits d).0, le-leb 1 j (p.waits d).1)

  pub is_proper : Proper Z j r → is_replica Z j r ≡ true
  unfolding is_replica waiting tests
  is_proper p =
      pass_all (leb 1 r.mode) tests
      (le-leb 1 r.mode p.mode_least also le-leb r.mode 3 p.mode_most also le-leb (length r.history) 56 p.few
      also le-leb r.stable (length r.history) p.stable_most also p.entries also implies (is_pending r) waiting (still p)
      also tt)

-- a replica of no member
pub record Vacant (r : Replica) : Type 0 where
  pub mode_none : r.mode ≡ 0
  pub history_none : length r.history ≡ 0
  pub stable_none : r.stable ≡ 0
  pub origin_none : r.origin ≡ 0

pub vacant : (r : Replica) → is_unused r ≡ true → Vacant r
unfolding is_unused
vacant r e =
    let p = all_pass (eqb r.mode 0) (eqb (length r.history) 0 ∷ eqb r.stable 0 ∷ eqb r.origin 0 ∷ []) e in
    record {
      mode_none = eqb-true r.mode 0 p.0;
      history_none = eqb-true (length r.history) 0 p.1.0;
      stable_none = eqb-true r.stable 0 p.1.1.0;
      origin_none = eqb-true r.origin 0 p.1.1.1.0;
    }

-- .. is unused
pub vacant_unused : (r : Replica) → Vacant r → r ≡ unused
unfolding unused
vacant_unused r v =
    λ i. record {
      mode = v.mode_none i;
      history = empty r.history v.history_none i;
      stable = v.stable_none i;
      origin = v.origin_none i;
    }
  where
    empty : (l : List ℕ) → length l ≡ 0 → l ≡ []
    empty [] e = refl
    empty (x ∷ l) e = absurd (omega arith)

-- ---- a replica's 64 words

pub part_is_words : (Z j : ℕ) (b : Bool) (p : List ℕ) → is_part Z j b p ≡ true → p ≡ replica_words (read_replica p)
unfolding is_part
part_is_words Z j b p e =
    same_lists p (replica_words (read_replica p))
    ((both (same p (replica_words (read_replica p))) (cond b (is_replica Z j (read_replica p)) (is_unused (read_replica p)))).0 e).0

-- the words of a member, and of another
pub part_proper : (Z j : ℕ) (p : List ℕ) → is_part Z j true p ≡ true → Proper Z j (read_replica p)
unfolding is_part
part_proper Z j p e =
    proper Z j (read_replica p) ((both (same p (replica_words (read_replica p))) (is_replica Z j (read_replica p))).0 e).1

pub part_vacant : (Z j : ℕ) (p : List ℕ) → is_part Z j false p ≡ true → Vacant (read_replica p)
unfolding is_part
part_vacant Z j p e =
    vacant (read_replica p) ((both (same p (replica_words (read_replica p))) (is_unused (read_replica p))).0 e).1

pub replica_part : (Z j : ℕ) (r : Replica) → is_replica Z j r ≡ true → is_part Z j true (replica_words r) ≡ true
unfolding is_part
replica_part Z j r e =
    rw (read_words r (proper Z j r e).few)
    ((both (same (replica_words r) (replica_words r)) (is_replica Z j r)).1 (same_self (replica_words r), e))

pub unused-part : (Z j : ℕ) → is_part Z j false (replica_words unused) ≡ true
unfolding is_part replica_words unused read_replica same is_unused
unused-part Z j = refl
