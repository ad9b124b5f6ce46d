-- What a search by the bits from one on tells: of an entry itself, and of an issue for the shard and the index of another.
-- Assumes nothing.
use Prim.Native.Nat.{ℕ, zero, suc, ◌+◌, ◌*◌, ◌/◌, ◌^◌, ◌<◌}
use native.Mathlib.Nat.{not-suc-le-zero}
use native.Mathlib.Omega.{arith}
use mathlib.Core.Path.{◌≡◌, refl, sym, ap, ◌∙◌}
use mathlib.Core.Bool.{Bool, true, false, not, ◌||◌, or-false, or_assoc, true≢false}
use mathlib.Core.List.{List, [], ◌∷◌}
use lib.ListN.{length, get_or}
use lib.Pow.{shr-shr}
use lib.Dec.{eqb}
use borrow.Author.Tests.{eqb-true, eqb-false}
use Rattle.std.specs.List.{fold, list_any}
use Rattle.model.specs.Tests.{contains}
use Rattle.model.specs.Entries.{is_issue, is_issue_for, issue_shard, issue_index, names}
use Rattle.model.specs.Install.{none_before}
use Rattle.model.proofs.Tests.{or_left, or_right}
use Rattle.model.proofs.Issues.{none_before_lem, none_there}
use Rattle.model.proofs.Rivals.{Named, named, names_own}
use Rattle.entry_search.specs.Searches.{issued_in}

-- ---- one word

-- what the word of an issue has above its orderer and members is the mark, the index and the shard
name_is : (z i x : ℕ) → Named z i x → x / 2 ^ 20 ≡ 4096 + i * 16 + z
unfolding is_issue issue_shard issue_index
name_is z i x n = omega (arith, eqb-true (x / 2 ^ 32) 1 n.is_issue_word, n.its_shard, n.its_index)

module _ (e x : ℕ) (is : is_issue e ≡ true) where
  named_alike : x / 2 ^ 20 ≡ e / 2 ^ 20 → names (issue_shard e) (issue_index e) x ≡ true
  unfolding names is_issue_for is_issue issue_shard issue_index
  named_alike q =
      let mark : x / 2 ^ 32 ≡ e / 2 ^ 32 = sym (shr-shr x 20 12) ∙ ap (λ (k : ℕ). k / 2 ^ 12) q ∙ shr-shr e 20 12 in
      let index : x / 2 ^ 24 ≡ e / 2 ^ 24 = sym (shr-shr x 20 4) ∙ ap (λ (k : ℕ). k / 2 ^ 4) q ∙ shr-shr e 20 4 in
      rw (mark, index, q) (names_own e is)

  named_unlike : (x / 2 ^ 20 ≡ e / 2 ^ 20 → ⊥) → names (issue_shard e) (issue_index e) x ≡ false
  named_unlike d = go (names (issue_shard e) (issue_index e) x) refl
    where
      go : (t : Bool) → names (issue_shard e) (issue_index e) x ≡ t → t ≡ false
      go false h = refl
      go true h =
          absurd (d (name_is (issue_shard e) (issue_index e) x (named (issue_shard e) (issue_index e) x h)
          ∙ sym (name_is (issue_shard e) (issue_index e) e (named (issue_shard e) (issue_index e) e (names_own e is)))))

  -- one comparison tells
  name_tells : eqb (x / 2 ^ 20) (e / 2 ^ 20) ≡ names (issue_shard e) (issue_index e) x
  name_tells = go (eqb (x / 2 ^ 20) (e / 2 ^ 20)) refl
    where
      go : (t : Bool) → eqb (x / 2 ^ 20) (e / 2 ^ 20) ≡ t → t ≡ names (issue_shard e) (issue_index e) x
      go true h = sym (named_alike (eqb-true (x / 2 ^ 20) (e / 2 ^ 20) h))
      go false h = sym (named_unlike (eqb-false (x / 2 ^ 20) (e / 2 ^ 20) h))

-- ---- a list

contained : (e : ℕ) (l : List ℕ) → list_any (λ x. eqb x e) l ≡ contains e l
unfolding contains
contained e [] = refl
contained e (x ∷ l) = ap (λ (b : Bool). eqb x e || b) (contained e l)

-- from bit 20 on, an issue for the same shard and index
alike_issued : (e : ℕ) (l : List ℕ) → is_issue e ≡ true → list_any (λ x. eqb (x / 2 ^ 20) (e / 2 ^ 20)) l ≡ issued_in (issue_shard e) (issue_index e) l
unfolding issued_in
alike_issued e [] is = refl
alike_issued e (x ∷ l) is = rw (name_tells e x is, alike_issued e l is)

-- tests joined by `|` in a fold
any_joined : (f : ℕ → Bool) (b : Bool) (l : List ℕ) → fold (λ found x. found || f x) b l ≡ (b || list_any f l)
any_joined f b [] = sym (or-false b)
any_joined f b (x ∷ l) = any_joined f (b || f x) l ∙ or_assoc b (f x) (list_any f l)

pub entry_joined : (e : ℕ) (l : List ℕ) → fold (λ found x. found || eqb x e) false l ≡ contains e l
entry_joined e l = any_joined (λ x. eqb x e) false l ∙ contained e l

pub issue_joined : (e : ℕ) (l : List ℕ) → is_issue e ≡ true
    → fold (λ found x. found || eqb (x / 2 ^ 20) (e / 2 ^ 20)) false l ≡ issued_in (issue_shard e) (issue_index e) l
issue_joined e l is = any_joined (λ x. eqb (x / 2 ^ 20) (e / 2 ^ 20)) false l ∙ alike_issued e l is

-- no issue for a shard and an index is in a list: there is none at any of its places
pub issued_nowhere : (z i : ℕ) (l : List ℕ) → issued_in z i l ≡ false → (q : ℕ) → q < length l → names z i (get_or l q 0) ≡ false
unfolding issued_in
issued_nowhere z i [] h q g = absurd (not-suc-le-zero g)
issued_nowhere z i (x ∷ l) h zero g = or_left (names z i x) (issued_in z i l) h
issued_nowhere z i (x ∷ l) h (suc q) g = issued_nowhere z i l (or_right (names z i x) (issued_in z i l) h) q (omega arith)

pub nowhere_issued : (z i : ℕ) (l : List ℕ) → ((q : ℕ) → q < length l → names z i (get_or l q 0) ≡ false) → issued_in z i l ≡ false
unfolding issued_in
nowhere_issued z i [] h = refl
nowhere_issued z i (x ∷ l) h = rw (h 0 (omega arith)) (nowhere_issued z i l (λ q g. h (suc q) (omega arith)))

-- the test of 22 at a place of a history l, by the entries m before it
pub none_issued : (z i : ℕ) (l m : List ℕ) → ((q : ℕ) → q < length m → get_or l q 0 ≡ get_or m q 0) → none_before z i (length m) l ≡ not (issued_in z i m)
none_issued z i l m f = go (issued_in z i m) refl (none_before z i (length m) l) refl
  where
    go : (s : Bool) → issued_in z i m ≡ s → (t : Bool) → none_before z i (length m) l ≡ t → t ≡ not s
    go false h true n = refl
    go false h false n =
        sym n ∙ none_there z i (length m) l (λ q g. rw (f q g) (issued_nowhere z i m h q g))
    go true h false n = refl
    go true h true n =
        absurd (true≢false (sym h ∙ nowhere_issued z i m (λ q g. rw (← f q g) (none_before_lem z i (length m) l n q g))))
