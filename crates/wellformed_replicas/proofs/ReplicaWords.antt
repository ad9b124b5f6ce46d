-- The test of a replica's 64 words, as tests of these words.
use Prim.Native.Nat.{ℕ, ◌+◌, ◌-◌, ◌≤◌}
use native.Mathlib.Omega.{arith}
use mathlib.Core.Path.{◌≡◌, refl, sym, ap, ◌∙◌}
use mathlib.Core.Bool.{Bool, true, false, not, ◌&&◌, ◌||◌}
use mathlib.Core.List.{List, [], ◌∷◌, ◌++◌}
use lib.Dec.{leb, eqb}
use lib.ListN.{length, get_or, take, drop, replicate, length-drop, take-append-drop}
use lib.Seq.{length-take-le, drop-drop, drop_at}
use borrow.Author.Tests.{eqb-true, eq-eqb, leb-true, le-leb}
use Rattle.model.specs.Tests.{all_of, same}
use Rattle.model.specs.Entries.{is_entry}
use Rattle.model.specs.Replicas.{read_replica, replica_words, is_pending, unused}
use Rattle.model.specs.WellFormed.{is_replica, is_part}
use Rattle.model.proofs.Tests.{both}
use Rattle.model.proofs.WellFormedParts.{same_self, Proper, is_proper, part_is_words, part_proper, part_vacant, unused-part}
use Rattle.model.proofs.Ranges.{same_test}
use Rattle.wellformed_entries.specs.Zeros.{zeros}
use Rattle.wellformed_entries.proofs.Zeros.{zeros_replicate, replicate_zeros}

-- what a member's replica in configuration j has in its words, but for its entries
pub record Shaped (j : ℕ) (p : List ℕ) : Type 0 where
  pub mode_least : 1 ≤ get_or p 0 0
  pub mode_most : get_or p 0 0 ≤ 3
  pub few : get_or p 1 0 ≤ 56
  pub stable_most : get_or p 2 0 ≤ get_or p 1 0
  pub waits : get_or p 0 0 ≡ 1 → (get_or p 1 0 ≡ 0) × (1 ≤ j)
  pub reserved : zeros (take 4 (drop 4 p)) ≡ true
  pub rest : zeros (drop (8 + get_or p 1 0) p) ≡ true

-- the same with proper entries, of Z shards
pub record Used (Z j : ℕ) (p : List ℕ) : Type 0 where
  pub shape : Shaped j p
  pub entries : all_of (is_entry Z) (take (get_or p 1 0) (drop 8 p)) ≡ true

-- a list's first eight words, and the others
data Eight : List ℕ → Type 0 where
  eight : (a b c d e f g h : ℕ) (t : List ℕ) → Eight (a ∷ b ∷ c ∷ d ∷ e ∷ f ∷ g ∷ h ∷ t)

opened : (p : List ℕ) → length p ≡ 64 → Eight p
opened [] l = absurd (omega arith)
opened (a ∷ []) l = absurd (omega arith)
opened (a ∷ b ∷ []) l = absurd (omega arith)
opened (a ∷ b ∷ c ∷ []) l = absurd (omega arith)
opened (a ∷ b ∷ c ∷ d ∷ []) l = absurd (omega arith)
opened (a ∷ b ∷ c ∷ d ∷ e ∷ []) l = absurd (omega arith)
opened (a ∷ b ∷ c ∷ d ∷ e ∷ f ∷ []) l = absurd (omega arith)
opened (a ∷ b ∷ c ∷ d ∷ e ∷ f ∷ g ∷ []) l = absurd (omega arith)
opened (a ∷ b ∷ c ∷ d ∷ e ∷ f ∷ g ∷ h ∷ t) l = eight a b c d e f g h t

-- ---- a member's words

-- what the words past the entries are
tail_of : (b : ℕ) (t : List ℕ) → b ≡ length (take b t) → t ≡ take b t ++ replicate (56 - length (take b t)) 0
    → drop b t ≡ replicate (56 - length (take b t)) 0
tail_of b t n e = ap (drop b) e ∙ drop_at (take b t) (replicate (56 - length (take b t)) 0) b (sym n)

used_of : (Z j : ℕ) {p : List ℕ} → Eight p → is_part Z j true p ≡ true → Used Z j p
unfolding replica_words read_replica is_pending
used_of Z j (eight a b c d e f g h t) pass =
    let p : List ℕ = a ∷ b ∷ c ∷ d ∷ e ∷ f ∷ g ∷ h ∷ t in
    let r : Proper Z j (read_replica p) = part_proper Z j p pass in
    let w : p ≡ replica_words (read_replica p) = part_is_words Z j true p pass in
    let n : b ≡ length (take b t) = cc in
    let s : t ≡ take b t ++ replicate (56 - length (take b t)) 0 = cc in
    let z : e ∷ f ∷ g ∷ h ∷ [] ≡ 0 ∷ 0 ∷ 0 ∷ 0 ∷ [] = cc in
    record {
      shape = record {
        mode_least = r.mode_least;
        mode_most = r.mode_most;
        few = omega (arith, r.few);
        stable_most = omega (arith, r.stable_most);
        waits = λ m. let k = r.waits (eq-eqb a 1 m) in (n ∙ k.0, k.1);
        reserved = ap zeros z ∙ zeros_replicate 4;
        rest = ap zeros (sym (drop-drop b 8 p) ∙ tail_of b t n s) ∙ zeros_replicate (56 - length (take b t));
      };
      entries = r.entries;
    }

-- words that are those of the replica in them, which is proper
proper_words : (Z j : ℕ) (p : List ℕ) → p ≡ replica_words (read_replica p) → Proper Z j (read_replica p) → is_part Z j true p ≡ true
unfolding is_part
proper_words Z j p w r =
    (both (same p (replica_words (read_replica p))) (is_replica Z j (read_replica p))).1 (
      ap (same p) (sym w) ∙ same_self p,
      is_proper Z j (read_replica p) r,
    )

of_used : (Z j : ℕ) {p : List ℕ} → Eight p → length p ≡ 64 → Used Z j p → is_part Z j true p ≡ true
unfolding replica_words read_replica is_pending
of_used Z j (eight a b c d e f g h t) l u =
    let p : List ℕ = a ∷ b ∷ c ∷ d ∷ e ∷ f ∷ g ∷ h ∷ t in
    let q : Shaped j p = u.shape in
    let m : length t ≡ 56 = omega arith in
    let n : length (take b t) ≡ b = length-take-le b t (omega (arith, q.few)) in
    let z : e ∷ f ∷ g ∷ h ∷ [] ≡ 0 ∷ 0 ∷ 0 ∷ 0 ∷ [] = replicate_zeros (e ∷ f ∷ g ∷ h ∷ []) 4 refl q.reserved in
    let k : length (drop b t) ≡ 56 - length (take b t) = omega (arith, length-drop b t) in
    let x : drop b t ≡ replicate (56 - length (take b t)) 0 =
    replicate_zeros (drop b t) (56 - length (take b t)) k (ap zeros (drop-drop b 8 p) ∙ q.rest) in
    let s : t ≡ take b t ++ replicate (56 - length (take b t)) 0 = sym (take-append-drop b t) ∙ ap (λ (q : List ℕ). take b t ++ q) x in
    let w : p ≡ replica_words (read_replica p) = cc in
    proper_words Z j p w
    (record {
      mode_least = q.mode_least;
      mode_most = q.mode_most;
      few = omega (arith, q.few);
      stable_most = omega (arith, q.stable_most);
      entries = u.entries;
      waits = λ y. let v = q.waits (eqb-true a 1 y) in (n ∙ v.0, v.1);
    })

-- ---- the words of no member

unused_of : (Z j : ℕ) {p : List ℕ} → Eight p → is_part Z j false p ≡ true → p ≡ replicate 64 0
unfolding replica_words read_replica
unused_of Z j (eight a b c d e f g h t) pass =
    let p : List ℕ = a ∷ b ∷ c ∷ d ∷ e ∷ f ∷ g ∷ h ∷ t in
    let w : p ≡ replica_words (read_replica p) = part_is_words Z j false p pass in
    let r = part_vacant Z j p pass in
    let n : b ≡ length (take b t) = cc in
    let y : b ≡ 0 = n ∙ r.history_none in
    let s : t ≡ take b t ++ replicate (56 - length (take b t)) 0 = cc in
    let x : t ≡ replicate 56 0 = rw y at s in
    cc (r.mode_none, r.stable_none, r.origin_none)

-- ---- both

pub used : (Z j : ℕ) (p : List ℕ) → length p ≡ 64 → is_part Z j true p ≡ true → Used Z j p
used Z j p l e = used_of Z j (opened p l) e

pub is_used : (Z j : ℕ) (p : List ℕ) → length p ≡ 64 → Used Z j p → is_part Z j true p ≡ true
is_used Z j p l u = of_used Z j (opened p l) l u

zeros-part : (Z j : ℕ) → is_part Z j false (replicate 64 0) ≡ true
unfolding replica_words unused
zeros-part Z j = unused-part Z j

pub unused_words : (Z j : ℕ) (p : List ℕ) → length p ≡ 64 → is_part Z j false p ≡ zeros p
unused_words Z j p l =
    same_test (is_part Z j false p) (zeros p) (λ e. ap zeros (unused_of Z j (opened p l) e) ∙ zeros_replicate 64)
    (λ e. ap (is_part Z j false) (replicate_zeros p 64 l e) ∙ zeros-part Z j)

-- ---- a pending replica, as one test

pub waits_test : (m n j : ℕ) → (m ≡ 1 → (n ≡ 0) × (1 ≤ j)) → (not (eqb m 1) || (eqb n 0 && leb 1 j)) ≡ true
waits_test m n j f = go (eqb m 1) refl
  where
    go : (b : Bool) → eqb m 1 ≡ b → (not b || (eqb n 0 && leb 1 j)) ≡ true
    go true e = let k = f (eqb-true m 1 e) in (both (eqb n 0) (leb 1 j)).1 (eq-eqb n 0 k.0, le-leb 1 j k.1)
    go false e = refl

pub test_waits : (m n j : ℕ) → (not (eqb m 1) || (eqb n 0 && leb 1 j)) ≡ true → m ≡ 1 → (n ≡ 0) × (1 ≤ j)
test_waits m n j e d =
    let k = (both (eqb n 0) (leb 1 j)).0 (rw (eq-eqb m 1 d) at e) in
    (eqb-true n 0 k.0, leb-true 1 j k.1)
