-- The words of a configuration's replicas are alike where their histories are.
-- Assumes nothing.
use Prim.Native.Nat.{ℕ, ◌+◌, ◌*◌, ◌≤◌, ◌<◌}
use native.Mathlib.Omega.{arith}
use mathlib.Core.Path.{◌≡◌, sym, ap, ap₂, ◌∙◌}
use mathlib.Core.Bool.{◌&&◌}
use mathlib.Core.List.{List}
use lib.Dec.{leb, eqb}
use lib.ListN.{length}
use Rattle.types.specs.Members.{size}
use Rattle.model.specs.Replicas.{replica_words}
use Rattle.model.specs.Layout.{part, place, replica_at, shards_of, members}
use Rattle.types.specs.declared.configuration.Configuration.{Configuration}
use Rattle.model.specs.Configuration.{configuration}
use Rattle.model.specs.Learn.{alike, all_alike}
use Rattle.model.proofs.Ranges.{alike as same-below}
use Rattle.model.proofs.WellFormedParts.{part_is_words}
use Rattle.model.proofs.WellFormedMembers.{size_few}
use Rattle.lookup.specs.Ready.{Ready, Placed}
use Rattle.learn_steps.specs.AlikeWords.{Compared, alike_entry, alike_at, all_alike_at}
use Rattle.lookup.proofs.ReadyFields.{formed}
use Rattle.lookup.proofs.StateWords.{length_word, entry_word_lem}

alike_words : (w : List ℕ) (n own q : ℕ) → n ≤ 56 → part w own ≡ replica_words (replica_at w own) → part w q ≡ replica_words (replica_at w q)
    → alike_at w n own q ≡ alike n (replica_at w own).history (replica_at w q).history
unfolding alike_at alike_entry alike
alike_words w n own q h d e =
    ap₂ ◌&&◌ (ap (leb n) (sym (length_word w q e)))
    (same-below n _ _ (λ p l. ap₂ eqb (entry_word_lem w q e p (omega arith)) (entry_word_lem w own d p (omega arith))))

-- ---- the replicas of a configuration

replica_at_lem : (z j k : ℕ) → place z j 0 + k * 64 ≡ place z j k
unfolding place
replica_at_lem z j k = omega arith

module _ {w : List ℕ} {z j : ℕ} (r : Ready w z j) where
  few : size (members w z j) ≤ 4
  few = size_few (formed r.state) r.shard r.configuration

  replica_words_lem : (k : ℕ) → k < size (members w z j) → part w (place z j k) ≡ replica_words (replica_at w (place z j k))
  unfolding replica_at
  replica_words_lem k h =
      part_is_words (shards_of (length w)) j _ (part w (place z j k))
      ((formed r.state).parts z j k r.shard r.configuration (omega (arith, few)))

  -- c and s are the configuration and its size, as the code has them
  module _ (c : Configuration) (s n own : ℕ) (ec : c ≡ configuration w z j) (es : s ≡ size c.members) (h : n ≤ 56) where
    size_is : s ≡ size (members w z j)
    unfolding configuration
    size_is = es ∙ ap (λ (k : Configuration). size k.members) ec

    place_is : c.place ≡ place z j 0
    unfolding configuration
    place_is = ap (λ (k : Configuration). k.place) ec

    pub compared : Placed w own → Compared w c.place s n own
    unfolding place
    compared p =
        record {
          fits = omega (arith, few, size_is, place_is, r.shard, r.configuration, r.state.long);
          own_fits = p.fits;
          few = h;
        }

    pub all_alike_words : part w own ≡ replica_words (replica_at w own)
        → all_alike_at w c.place s n own ≡ all_alike w z j n (replica_at w own).history
    unfolding all_alike_at all_alike
    all_alike_words d =
        ap₂ (λ (first size : ℕ). all_alike_at w first size n own) place_is size_is
        ∙ same-below (size (members w z j)) _ _
        (λ k l. ap (alike_at w n own) (replica_at_lem z j k) ∙ alike_words w n own (place z j k) h d (replica_words_lem k l))
