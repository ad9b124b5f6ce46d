-- The state that setup writes, part by part and head word by head word.
use Prim.Native.Nat.{ℕ, ◌+◌, ◌-◌, ◌*◌, ◌≤◌, ◌<◌}
use native.Mathlib.Omega.{arith}
use mathlib.Core.Path.{◌≡◌, refl, sym, ap, ◌∙◌, subst}
use mathlib.Core.Bool.{Bool, true, false, cond}
use mathlib.Core.List.{List}
use lib.Dec.{ltb, eqb}
use lib.ListN.{length, get_or, take, drop, length-append, get_or-append}
use lib.Seq.{drop-drop, get_or-drop, get_or-take, drop-append-add}
use borrow.Author.Tests.{eqb-true}
use Rattle.model.specs.Tests.{all_below, concat_below}
use Rattle.types.specs.Members.{size}
use Rattle.model.specs.Replicas.{replica_words, fresh, unused}
use Rattle.model.specs.Layout.{place, head_place, head_word, sequencer, installed, members, orderer, part}
use Rattle.model.specs.Setup.{plan_sequencer, plan_members, plan_orderer, initial_head, initial_replica, initial_shard, initial_state}
use Rattle.model.proofs.Tests.{all_below_lem}
use Rattle.model.proofs.Parts.{words_length}
use Rattle.model.proofs.Concat.{concat_length, concat_part, part_of_part}

-- ---- lengths

head_length : (q m o : ℕ) → length (initial_head q m o) ≡ 64
unfolding initial_head
head_length q m o = refl

either_few : (b : Bool) → length (cond b fresh unused).history ≤ 56
unfolding fresh unused
either_few true = omega arith
either_few false = omega arith

-- the words of replica n
words : ℕ → ℕ → List ℕ
words m n = replica_words (initial_replica m n)

words_long : (m n : ℕ) → length (words m n) ≡ 64
unfolding words initial_replica
words_long m n = words_length (initial_replica m n) (either_few (ltb n (size m)))

shard_length : (q m o : ℕ) → length (initial_shard q m o) ≡ 2112
unfolding initial_shard words
shard_length q m o =
    length-append (initial_head q m o) (concat_below 32 (words m))
    ∙ omega (arith, head_length q m o, concat_length 64 (words m) 32 (λ i h. words_long m i))

-- ---- a shard's words

-- a run of head words that are 0: `refl` proves the test
zeros : (q m o from n : ℕ) → all_below n (λ t. eqb (get_or (initial_head q m o) (from + t) 0) 0) ≡ true → (i : ℕ) → from ≤ i → i < from + n
    → get_or (initial_head q m o) i 0 ≡ 0
zeros q m o from n e i a b =
    let at : from + (i - from) ≡ i = omega arith in
    subst (λ (k : ℕ). get_or (initial_head q m o) k 0 ≡ 0) at
    (eqb-true (get_or (initial_head q m o) (from + (i - from)) 0) 0
    (all_below_lem n (λ t. eqb (get_or (initial_head q m o) (from + t) 0) 0) e (i - from) (omega arith)))

shard_part : (q m o n : ℕ) → n < 32 → take 64 (drop (64 + n * 64) (initial_shard q m o)) ≡ words m n
unfolding initial_shard initial_head words
shard_part q m o n h =
    ap (take 64) (drop-append-add (initial_head q m o) (concat_below 32 (words m)) (n * 64))
    ∙ concat_part 64 (words m) 32 (λ i l. words_long m i) n h

shard_head : (q m o i : ℕ) → i < 64 → get_or (initial_shard q m o) i 0 ≡ get_or (initial_head q m o) i 0
unfolding initial_shard
shard_head q m o i h = get_or-append (initial_head q m o) _ 0 i (omega (arith, head_length q m o))

-- ---- the whole state

module _ (Z : ℕ) (p : List ℕ) where
  shard : ℕ → List ℕ
  shard z = initial_shard (plan_sequencer p z) (plan_members p z) (plan_orderer p z)

  shard_long : (z : ℕ) → z < Z → length (shard z) ≡ 2112
  unfolding shard
  shard_long z h = shard_length (plan_sequencer p z) (plan_members p z) (plan_orderer p z)

  pub initial_length : length (initial_state Z p) ≡ Z * 2112
  unfolding initial_state shard
  initial_length = concat_length 2112 shard Z shard_long

  initial_shard_lem : (z : ℕ) → z < Z → take 2112 (drop (z * 2112) (initial_state Z p)) ≡ shard z
  unfolding initial_state shard
  initial_shard_lem z h = concat_part 2112 shard Z shard_long z h

  pub initial_part : {z j k : ℕ} → z < Z → j < 8 → k < 4
      → part (initial_state Z p) (place z j k) ≡ replica_words (initial_replica (plan_members p z) (j * 4 + k))
  unfolding part place shard words
  initial_part {z} {j} {k} hz hj hk =
      let b = 64 + (j * 4 + k) * 64 in
      let at : z * 2112 + 64 + j * 256 + k * 64 ≡ z * 2112 + b = omega arith in
      ap (λ (a : ℕ). take 64 (drop a (initial_state Z p))) at
      ∙ ap (take 64) (sym (drop-drop b (z * 2112) (initial_state Z p)))
      ∙ sym (part_of_part b 64 2112 (drop (z * 2112) (initial_state Z p)) (omega arith))
      ∙ ap (λ (l : List ℕ). take 64 (drop b l)) (initial_shard_lem z hz)
      ∙ shard_part (plan_sequencer p z) (plan_members p z) (plan_orderer p z) (j * 4 + k) (omega arith)

  initial_head_lem : (z i : ℕ) → z < Z → i < 64
      → head_word (initial_state Z p) z i ≡ get_or (initial_head (plan_sequencer p z) (plan_members p z) (plan_orderer p z)) i 0
  unfolding head_word head_place shard
  initial_head_lem z i hz hi =
      sym (get_or-drop (z * 2112) (initial_state Z p) i 0)
      ∙ sym (get_or-take 2112 (drop (z * 2112) (initial_state Z p)) i 0 (omega arith))
      ∙ ap (λ (l : List ℕ). get_or l i 0) (initial_shard_lem z hz)
      ∙ shard_head (plan_sequencer p z) (plan_members p z) (plan_orderer p z) i hi

  module _ {z : ℕ} (hz : z < Z) where
    pub initial_sequencer : sequencer (initial_state Z p) z ≡ plan_sequencer p z
    unfolding sequencer initial_head
    initial_sequencer = initial_head_lem z 0 hz (omega arith)

    pub initial_installed : installed (initial_state Z p) z ≡ 1
    unfolding installed initial_head
    initial_installed = initial_head_lem z 1 hz (omega arith)

    pub initial_members : members (initial_state Z p) z 0 ≡ plan_members p z
    unfolding members initial_head
    initial_members = initial_head_lem z 2 hz (omega arith)

    pub initial_orderer : orderer (initial_state Z p) z 0 ≡ plan_orderer p z
    unfolding orderer initial_head
    initial_orderer = initial_head_lem z 10 hz (omega arith)

    -- the head words from 3 to 9 and from 11 on are 0
    initial_zeros : (from n i : ℕ)
        → all_below n (λ t. eqb (get_or (initial_head (plan_sequencer p z) (plan_members p z) (plan_orderer p z)) (from + t) 0) 0) ≡ true
        → from ≤ i → i < from + n → i < 64 → head_word (initial_state Z p) z i ≡ 0
    initial_zeros from n i e a b h =
        initial_head_lem z i hz h ∙ zeros (plan_sequencer p z) (plan_members p z) (plan_orderer p z) from n e i a b

    pub initial_members_later : {j : ℕ} → 1 ≤ j → j < 8 → members (initial_state Z p) z j ≡ 0
    unfolding members initial_head all_below
    initial_members_later {j} a b = initial_zeros 3 7 (2 + j) refl (omega arith) (omega arith) (omega arith)

    pub initial_orderer_later : {j : ℕ} → 1 ≤ j → j < 8 → orderer (initial_state Z p) z j ≡ 0
    unfolding orderer initial_head all_below
    initial_orderer_later {j} a b = initial_zeros 11 53 (10 + j) refl (omega arith) (omega arith) (omega arith)

    pub initial_rest : {i : ℕ} → i < 46 → head_word (initial_state Z p) z (18 + i) ≡ 0
    unfolding initial_head all_below
    initial_rest {i} h = initial_zeros 11 53 (18 + i) refl (omega arith) (omega arith) (omega arith)
