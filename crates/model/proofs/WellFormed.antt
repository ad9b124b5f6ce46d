-- Well-formedness as propositions: what the test of a whole state says, and that this is enough for it.
use Prim.Native.Nat.{ℕ, ◌+◌, ◌*◌, ◌≤◌, ◌<◌}
use mathlib.Core.Path.{◌≡◌, ap}
use mathlib.Core.Bool.{Bool, true, not}
use mathlib.Core.List.{List, [], ◌∷◌}
use lib.Dec.{leb, ltb, eqb}
use lib.ListN.{length}
use borrow.Author.Tests.{leb-true, le-leb, eqb-true, eq-eqb, eqb-false, ne_eqb, not-true}
use Rattle.model.specs.Tests.{all_below}
use Rattle.types.specs.Members.{size}
use Rattle.model.specs.Layout.{shards_of, place, head_word, sequencer, installed, members, part, replica_at}
use Rattle.model.specs.Origins.{is_origin_of}
use Rattle.model.specs.WellFormed.{is_part, is_sequencer, all_differ, is_head_of, is_configuration_of, is_shard, well_formed}
use Rattle.model.proofs.Tests.{both, Passing, ◌also◌, all_pass, pass_all, all_below_lem, below_all}
use Rattle.model.proofs.Lengths.{length_of_shards}

-- the head words of shard z
pub record Head (Z : ℕ) (w : List ℕ) (z : ℕ) : Type 0 where
  pub sequenced : is_sequencer Z z (sequencer w z) ≡ true
  pub least : 1 ≤ installed w z
  pub most : installed w z ≤ 8
  pub configured : (j : ℕ) → j < 8 → is_head_of w z j ≡ true
  pub rest : (i : ℕ) → i < 46 → head_word w z (18 + i) ≡ 0

-- the state w of Z shards: their head words, their sequencers, no two alike, their replicas, and the origins of members' replicas
pub record WellFormed (Z : ℕ) (w : List ℕ) : Type 0 where
  pub shards : shards_of (length w) ≡ Z
  pub several : 2 ≤ Z
  pub head : (z : ℕ) → z < Z → Head Z w z
  pub differ : (a b : ℕ) → a < Z → b < a → sequencer w b ≡ sequencer w a → ⊥
  pub parts : (z j k : ℕ) → z < Z → j < 8 → k < 4 → is_part Z j (ltb k (size (members w z j))) (part w (place z j k)) ≡ true
  pub origins : (z j k : ℕ) → z < Z → j < 8 → k < size (members w z j) → is_origin_of w z j (replica_at w (place z j k)) ≡ true

pub size_of : {Z : ℕ} {w : List ℕ} → WellFormed Z w → length w ≡ Z * 2112
size_of {Z} {w} f = (length_of_shards w Z f.shards f.several).0

-- ---- sequencers that differ

pub all_differ_lem : (Z : ℕ) (q : ℕ → ℕ) → all_differ Z q ≡ true → (a b : ℕ) → a < Z → b < a → q b ≡ q a → ⊥
unfolding all_differ
all_differ_lem Z q e a b ha hb =
    eqb-false (q b) (q a)
    (not-true (eqb (q b) (q a))
    (all_below_lem a (λ b. not (eqb (q b) (q a))) (all_below_lem Z (λ a. all_below a (λ b. not (eqb (q b) (q a)))) e a ha) b hb))

pub differ_all : (Z : ℕ) (q : ℕ → ℕ) → ((a b : ℕ) → a < Z → b < a → q b ≡ q a → ⊥) → all_differ Z q ≡ true
unfolding all_differ
differ_all Z q f =
    below_all Z (λ a. all_below a (λ b. not (eqb (q b) (q a))))
    (λ a ha. below_all a (λ b. not (eqb (q b) (q a))) (λ b hb. ap not (ne_eqb (q b) (q a) (f a b ha hb))))

-- ---- a shard

module _ (w : List ℕ) (Z z : ℕ) where
  -- replica k of configuration j
  is_part_of : ℕ → ℕ → Bool
  is_part_of j k = is_part Z j (ltb k (size (members w z j))) (part w (place z j k))

  is_origin : ℕ → ℕ → Bool
  is_origin j k = is_origin_of w z j (replica_at w (place z j k))

  is_rest : ℕ → Bool
  is_rest i = eqb (head_word w z (18 + i)) 0

  tests : List Bool
  tests = leb 1 (installed w z) ∷ leb (installed w z) 8 ∷ all_below 8 (is_configuration_of w Z z) ∷ all_below 46 is_rest ∷ []

  configuration_tests : ℕ → List Bool
  configuration_tests j = all_below 4 (is_part_of j) ∷ all_below (size (members w z j)) (is_origin j) ∷ []

  shard_configuration : is_shard w Z z ≡ true → (j : ℕ) → j < 8 → Passing (is_head_of w z j ∷ configuration_tests j)
  unfolding is_shard is_configuration_of is_part_of is_origin is_rest tests configuration_tests
  shard_configuration e j h =
      let p = all_pass (is_sequencer Z z (sequencer w z)) tests e in
      all_pass (is_head_of w z j) (configuration_tests j) (all_below_lem 8 (is_configuration_of w Z z) p.1.1.1.0 j h)

  shard_head : is_shard w Z z ≡ true → Head Z w z
  unfolding is_shard is_rest tests
  shard_head e =
      let p = all_pass (is_sequencer Z z (sequencer w z)) tests e in
      record {
        sequenced = p.0;
        least = leb-true 1 (installed w z) p.1.0;
        most = leb-true (installed w z) 8 p.1.1.0;
        configured = λ j h. (shard_configuration e j h).0;
        rest = λ i h. eqb-true (head_word w z (18 + i)) 0 (all_below_lem 46 is_rest p.1.1.1.1.0 i h);
      }

  shard_part : is_shard w Z z ≡ true → (j k : ℕ) → j < 8 → k < 4 → is_part_of j k ≡ true
  unfolding configuration_tests
  shard_part e j k hj hk = all_below_lem 4 (is_part_of j) (shard_configuration e j hj).1.0 k hk

  shard_origin : is_shard w Z z ≡ true → (j k : ℕ) → j < 8 → k < size (members w z j) → is_origin j k ≡ true
  unfolding configuration_tests
  shard_origin e j k hj hk = all_below_lem (size (members w z j)) (is_origin j) (shard_configuration e j hj).1.1.0 k hk

  head_configuration : (j : ℕ) → is_head_of w z j ≡ true → ((k : ℕ) → k < 4 → is_part_of j k ≡ true)
      → ((k : ℕ) → k < size (members w z j) → is_origin j k ≡ true) → is_configuration_of w Z z j ≡ true
  unfolding is_configuration_of is_part_of is_origin configuration_tests
  head_configuration j e g o =
      pass_all (is_head_of w z j) (configuration_tests j)
      (e also below_all 4 (is_part_of j) g also below_all (size (members w z j)) (is_origin j) o also tt)

  head_shard : Head Z w z → ((j k : ℕ) → j < 8 → k < 4 → is_part_of j k ≡ true)
      → ((j k : ℕ) → j < 8 → k < size (members w z j) → is_origin j k ≡ true) → is_shard w Z z ≡ true
  unfolding is_shard is_rest tests
  head_shard f g o =
      pass_all (is_sequencer Z z (sequencer w z)) tests
      (f.sequenced also le-leb 1 (installed w z) f.least also le-leb (installed w z) 8 f.most
      also below_all 8 (is_configuration_of w Z z) (λ j hj. head_configuration j (f.configured j hj) (λ k hk. g j k hj hk) (λ k hk. o j k hj hk))
      also below_all 46 is_rest (λ i h. eq-eqb (head_word w z (18 + i)) 0 (f.rest i h)) also tt)

-- ---- a whole state

pub well_formed_lem : (w : List ℕ) (Z : ℕ) → shards_of (length w) ≡ Z → 2 ≤ Z → well_formed w ≡ true → WellFormed Z w
unfolding well_formed is_part_of is_origin
well_formed_lem w Z c h e =
    let t = (both (all_below Z (is_shard w Z)) (all_differ Z (sequencer w))).0 (rw c at e) in
    let s : (z : ℕ) → z < Z → is_shard w Z z ≡ true = all_below_lem Z (is_shard w Z) t.0 in
    record {
      shards = c;
      several = h;
      head = λ z hz. shard_head w Z z (s z hz);
      differ = all_differ_lem Z (sequencer w) t.1;
      parts = λ z j k hz hj hk. shard_part w Z z (s z hz) j k hj hk;
      origins = λ z j k hz hj hk. shard_origin w Z z (s z hz) j k hj hk;
    }

pub is_well_formed : {Z : ℕ} {w : List ℕ} → WellFormed Z w → well_formed w ≡ true
unfolding well_formed is_part_of is_origin
is_well_formed {Z} {w} f =
    rw f.shards
    ((both (all_below Z (is_shard w Z)) (all_differ Z (sequencer w))).1 (
      below_all Z (is_shard w Z)
          (λ z hz. head_shard w Z z (f.head z hz) (λ j k hj hk. f.parts z j k hz hj hk) (λ j k hj hk. f.origins z j k hz hj hk)),
      differ_all Z (sequencer w) f.differ,
    ))
