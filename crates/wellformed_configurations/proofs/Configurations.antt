-- The test of a configuration of a state, as tests of the words where the code reads them.
use Prim.Native.Nat.{ℕ, ◌+◌, ◌*◌, ◌-◌, ◌/◌, ◌%◌, ◌≤◌, ◌<◌}
use native.Mathlib.Nat.{div-add-mod', mod-lt}
use native.Mathlib.Omega.{arith}
use mathlib.Core.Path.{◌≡◌, sym, ap, ap₂, subst, ◌∙◌}
use mathlib.Core.Bool.{Bool, true, false, ◌&&◌, and-true, and-false}
use mathlib.Core.List.{List}
use lib.Dec.{ltb, eqb}
use lib.Count.{ones}
use lib.ListN.{length, get_or, take, drop}
use borrow.Author.Tests.{lt-ltb, le-ltb, ne_eqb}
use Rattle.model.specs.Tests.{all_below}
use Rattle.types.specs.Members.{is_configuration}
use Rattle.model.specs.Layout.{place, is_installed, part, replica_at}
use Rattle.model.specs.Origins.{is_origin_of}
use Rattle.model.specs.WellFormed.{is_part, is_head_of, is_configuration_of}
use Rattle.model.proofs.Tests.{and_left, and_right, all_below_lem, below_all}
use Rattle.model.proofs.Ranges.{same_test, parted, alike}
use Rattle.model.proofs.Heads.{installed_word, members_word_lem, orderer_word_lem}
use Rattle.model.proofs.WellFormedMembers.{configured, head_few}
use Rattle.wellformed_entries.specs.Zeros.{zeros}
use Rattle.wellformed_entries.proofs.Zeros.{part_length, zeros_at}
use Rattle.wellformed_replicas.proofs.ReplicaWords.{unused_words}
use Rattle.wellformed_origins.specs.Before.{Within, HasBefore}

-- ---- parts in a row

rows : (n : ℕ) (f : ℕ → Bool) → all_below n (λ k. all_below 64 (λ i. f (k * 64 + i))) ≡ all_below (n * 64) f
rows n f =
    same_test (all_below n (λ k. all_below 64 (λ i. f (k * 64 + i)))) (all_below (n * 64) f)
    (λ e. below_all (n * 64) f
    (λ i h.
    let r : i % 64 < 64 = mod-lt i (omega arith) in
    let q : i / 64 < n = omega (arith, div-add-mod' i 64, r, h) in
    subst (λ (x : ℕ). f x ≡ true) (div-add-mod' i 64)
    (all_below_lem 64 (λ r. f (i / 64 * 64 + r)) (all_below_lem n (λ k. all_below 64 (λ i. f (k * 64 + i))) e (i / 64) q) (i % 64) r)))
    (λ e. below_all n (λ k. all_below 64 (λ i. f (k * 64 + i)))
    (λ k hk. below_all 64 (λ i. f (k * 64 + i)) (λ i hi. all_below_lem (n * 64) f e (k * 64 + i) (omega (arith, hk, hi)))))

-- n parts of no member are all 0
no_parts : (w : List ℕ) (Z j at n : ℕ) → at + n * 64 ≤ length w
    → zeros (take (n * 64) (drop at w)) ≡ all_below n (λ k. is_part Z j false (part w (at + k * 64)))
unfolding part
no_parts w Z j at n fits =
    zeros_at (n * 64) at w fits ∙ sym (rows n (λ i. eqb (get_or w (at + i) 0) 0))
    ∙ alike n (λ k. all_below 64 (λ i. eqb (get_or w (at + (k * 64 + i)) 0) 0)) (λ k. is_part Z j false (take 64 (drop (at + k * 64) w))) one
  where
    one : (k : ℕ) → k < n → all_below 64 (λ i. eqb (get_or w (at + (k * 64 + i)) 0) 0) ≡ is_part Z j false (take 64 (drop (at + k * 64) w))
    one k h =
        let f : at + k * 64 + 64 ≤ length w = omega (arith, h, fits) in
        alike 64 (λ i. eqb (get_or w (at + (k * 64 + i)) 0) 0) (λ i. eqb (get_or w (at + k * 64 + i) 0) 0)
        (λ i l. ap (λ (x : ℕ). eqb (get_or w x 0) 0) (omega arith))
        ∙ sym (zeros_at 64 (at + k * 64) w f)
        ∙ sym (unused_words Z j (take 64 (drop (at + k * 64) w)) (part_length 64 (at + k * 64) w f))

-- ---- a configuration

-- its member set and orderer, and the count of configurations, where the shard's words begin at h
abbrev pub members_word : List ℕ → ℕ → ℕ → ℕ
members_word w h j = get_or w (h + 2 + j) 0

abbrev pub orderer_word : List ℕ → ℕ → ℕ → ℕ
orderer_word w h j = get_or w (h + 10 + j) 0

abbrev pub count_word : List ℕ → ℕ → ℕ
count_word w h = get_or w (h + 1) 0

-- the four parts, the first n of them members'
abbrev pub are_parts : List ℕ → ℕ → ℕ → ℕ → ℕ → Bool
are_parts w Z j p n = all_below 4 (λ k. is_part Z j (ltb k n) (part w (p + k * 64)))

-- members' replicas, the first n
abbrev pub are_replicas : List ℕ → ℕ → ℕ → ℕ → ℕ → Bool
are_replicas w Z j p n = all_below n (λ k. is_part Z j true (part w (p + k * 64)))

-- the words past those
abbrev pub rest_of : List ℕ → ℕ → ℕ → List ℕ
rest_of w p n = take (p + 256 - (p + n * 64)) (drop (p + n * 64) w)

-- the members' replicas, and then nothing but 0
parts_of : (w : List ℕ) (Z j p n : ℕ) → p + 256 ≤ length w → n ≤ 4 → (are_replicas w Z j p n && zeros (rest_of w p n)) ≡ are_parts w Z j p n
parts_of w Z j p n fits few =
    ap₂ ◌&&◌ (alike n (λ k. is_part Z j true (at k)) test (λ k h. ap (λ (b : Bool). is_part Z j b (at k)) (sym (lt-ltb k n h)))) rest
    ∙ sym (parted n (4 - n) test) ∙ ap (λ (m : ℕ). all_below m test) whole
  where
    at : ℕ → List ℕ
    at k = part w (p + k * 64)

    test : ℕ → Bool
    test k = is_part Z j (ltb k n) (at k)

    whole : n + (4 - n) ≡ 4
    whole = omega (arith, few)

    left : p + 256 - (p + n * 64) ≡ (4 - n) * 64
    left = omega (arith, few)

    past : (k : ℕ) → is_part Z j false (part w (p + n * 64 + k * 64)) ≡ test (n + k)
    past k =
        let moved : p + n * 64 + k * 64 ≡ p + (n + k) * 64 = omega arith in
        ap₂ (λ (b : Bool) (x : ℕ). is_part Z j b (part w x)) (sym (le-ltb (n + k) n (omega arith))) moved

    rest : zeros (rest_of w p n) ≡ all_below (4 - n) (λ k. test (n + k))
    rest =
        ap (λ (m : ℕ). zeros (take m (drop (p + n * 64) w))) left ∙ no_parts w Z j (p + n * 64) (4 - n) (omega (arith, few, fits))
        ∙ alike (4 - n) (λ k. is_part Z j false (part w (p + n * 64 + k * 64))) (λ k. test (n + k)) (λ k h. past k)

pub wrong_replicas : (w : List ℕ) (Z j p n : ℕ) → p + 256 ≤ length w → n ≤ 4 → false ≡ are_replicas w Z j p n → false ≡ are_parts w Z j p n
wrong_replicas w Z j p n fits few e = ap (λ (b : Bool). b && zeros (rest_of w p n)) e ∙ parts_of w Z j p n fits few

pub right_replicas : (w : List ℕ) (Z j p n : ℕ) → p + 256 ≤ length w → n ≤ 4 → true ≡ are_replicas w Z j p n → zeros (rest_of w p n) ≡ are_parts w Z j p n
right_replicas w Z j p n fits few e = ap (λ (b : Bool). b && zeros (rest_of w p n)) e ∙ parts_of w Z j p n fits few

-- the origins of the first n
abbrev pub are_origins : List ℕ → ℕ → ℕ → ℕ → Bool
are_origins w z j n = all_below n (λ k. is_origin_of w z j (replica_at w (place z j k)))

-- a proper member set is small
pub proper_few : (m o n : ℕ) → true ≡ is_configuration m o → n ≡ ones m → n ≤ 4
proper_few m o n e d = omega (arith, d, (configured m o (sym e)).size_most)

-- the words of shard z begin at h, those of the configuration's replicas at p
module _ (w : List ℕ) (Z z j h p : ℕ) (head : h ≡ z * 2112) (first : p ≡ place z j 0) where
  -- the tests of a configuration whose head words are as they should be, or not
  by_head : Bool → Bool
  by_head b = b && are_parts w Z j p (ones (members_word w h j)) && are_origins w z j (ones (members_word w h j))

  here : p ≡ z * 2112 + 64 + j * 256
  unfolding place
  here = omega (arith, first)

  pub lies_within : Within w z j → p + 256 ≤ length w
  lies_within r = omega (arith, here, r.shard, r.configuration)

  -- where the configuration is installed
  in_place : j < count_word w h → is_configuration_of w Z z j ≡ by_head (is_configuration (members_word w h j) (orderer_word w h j))
  unfolding is_configuration_of is_head_of is_installed place by_head
  in_place l =
      let i : j < count_word w (z * 2112) = rw head at l in
      rw (head, here) (rw (installed_word w z, members_word_lem w z j, orderer_word_lem w z j, lt-ltb j (count_word w (z * 2112)) i))

  -- where it is not
  not_in_place : count_word w h ≤ j → is_configuration_of w Z z j ≡ by_head (eqb (members_word w h j) 0 && eqb (orderer_word w h j) 0)
  unfolding is_configuration_of is_head_of is_installed place by_head
  not_in_place l =
      let i : count_word w (z * 2112) ≤ j = rw head at l in
      rw (head, here) (rw (installed_word w z, members_word_lem w z j, orderer_word_lem w z j, le-ltb j (count_word w (z * 2112)) i))

  pub improper : j < count_word w h → false ≡ is_configuration (members_word w h j) (orderer_word w h j) → false ≡ is_configuration_of w Z z j
  unfolding by_head
  improper l e = rw (in_place l, ← e)

  module _ (n : ℕ) (l : j < count_word w h) (e : true ≡ is_configuration (members_word w h j) (orderer_word w h j)) (d : n ≡ ones (members_word w h j)) where
    pub wrong_parts : false ≡ are_parts w Z j p n → false ≡ is_configuration_of w Z z j
    unfolding by_head
    wrong_parts f = rw (in_place l, ← e, ← d, ← f)

    pub proper_parts : true ≡ are_parts w Z j p n → are_origins w z j n ≡ is_configuration_of w Z z j
    unfolding by_head
    proper_parts f = rw (in_place l, ← e, ← d, ← f)

  pub some_members : count_word w h ≤ j → (members_word w h j ≡ 0 → ⊥) → false ≡ is_configuration_of w Z z j
  unfolding by_head
  some_members l n = rw (not_in_place l, ne_eqb (members_word w h j) 0 n)

  pub some_orderer : count_word w h ≤ j → (orderer_word w h j ≡ 0 → ⊥) → false ≡ is_configuration_of w Z z j
  unfolding by_head
  some_orderer l n = rw (not_in_place l, ne_eqb (orderer_word w h j) 0 n, and-false)

  none : p + 256 ≤ length w → zeros (take 256 (drop p w)) ≡ are_parts w Z j p 0
  none f =
      no_parts w Z j p 4 f
      ∙ alike 4 (λ k. is_part Z j false (part w (p + k * 64))) (λ k. is_part Z j (ltb k 0) (part w (p + k * 64)))
      (λ k h. ap (λ (b : Bool). is_part Z j b (part w (p + k * 64))) (sym (le-ltb k 0 (omega arith))))

  pub no_members : p + 256 ≤ length w → count_word w h ≤ j → members_word w h j ≡ 0 → orderer_word w h j ≡ 0
      → zeros (take (p + 256 - p) (drop p w)) ≡ is_configuration_of w Z z j
  unfolding ones all_below by_head
  no_members f l m o =
      let n : p + 256 - p ≡ 256 = omega arith in
      rw (not_in_place l, m, o) (ap (λ (i : ℕ). zeros (take i (drop p w))) n ∙ none f ∙ sym (and-true _))

-- what the tests say, made in turn
pub ruleset configuration_tests = (lies_within, improper, wrong_parts, proper_parts, proper_few, some_members, some_orderer, no_members)

-- ---- the configurations before are well-formed, so the one before has few members

pub has_before : (w : List ℕ) (Z z j : ℕ) → Within w z j → true ≡ all_below j (is_configuration_of w Z z) → HasBefore w z j
unfolding is_configuration_of
has_before w Z z j r e =
    record {
      within = r;
      few = λ h.
          let before = all_below_lem j (is_configuration_of w Z z) (sym e) (j - 1) (omega arith) in
          head_few w z (j - 1) (search (and_left, and_right));
    }
