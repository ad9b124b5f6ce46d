-- Laws of words that are all takes: joined by `|` with the numbers before them they are below 2 ^ 32.
use Rattle.std.proofs.Common.{◌≡◌, ℕ, ◌+◌, ◌-◌, ◌%◌, ◌^◌, Bool, true, ◌&&◌, ◌||◌, ltb, leb, List, [], ◌∷◌, sym, refl, ap, ◌∙◌, arith, ltb-true, lt-ltb, le-leb, leb-true}
use mathlib.Core.Bool.{and_assoc}
use lib.Bits.{bit_or}
use lib.Dec.{leb-suc-suc}
use Rattle.std.specs.List.{fold}
use Rattle.model.specs.Tests.{all_of}
use Rattle.model.specs.Entries.{is_take, is_proper_issue, is_entry}
use Rattle.model.proofs.Tests.{both}
use Rattle.model.proofs.Ranges.{same_test}
use Rattle.model.proofs.Joined.{or_below}
use Rattle.wellformed_entries.proofs.Folds.{all_listed, fold_tested}

-- the number before a word, which is the largest of all before 0
abbrev pub before : ℕ → ℕ
before e = (e + (2 ^ 64 - 1)) % 2 ^ 64

abbrev below : ℕ → Bool
below x = ltb x 4294967296

take_joined : (e : ℕ) → (below e && below (before e)) ≡ is_take e
unfolding is_take
take_joined e =
    same_test (below e && below (before e)) (leb 1 e && leb e 4294967295)
    (λ t.
    let k = (both (below e) (below (before e))).0 t in
    let a = ltb-true e 4294967296 k.0 in
    let b = ltb-true (before e) 4294967296 k.1 in
    (both (leb 1 e) (leb e 4294967295)).1 (le-leb 1 e (omega arith), le-leb e 4294967295 (omega arith)))
    (λ t.
    let k = (both (leb 1 e) (leb e 4294967295)).0 t in
    let a = leb-true 1 e k.0 in
    let b = leb-true e 4294967295 k.1 in
    (both (below e) (below (before e))).1 (lt-ltb e 4294967296 (omega arith), lt-ltb (before e) 4294967296 (omega arith)))

-- a word more and the number before it, joined to x
abbrev pub join : ℕ → ℕ → ℕ
join x e = bit_or (bit_or x e) (before e)

below_joined : (x e : ℕ) → below (join x e) ≡ (below x && is_take e)
below_joined x e =
    or_below 32 (bit_or x e) (before e) ∙ ap (λ (b : Bool). b && below (before e)) (or_below 32 x e)
    ∙ and_assoc (below x) (below e) (below (before e)) ∙ ap (λ (b : Bool). below x && b) (take_joined e)

pub joined_takes : (l : List ℕ) → leb (fold join 0 l) 4294967295 ≡ all_of is_take l
joined_takes l =
    sym (leb-suc-suc (fold join 0 l) 4294967295) ∙ fold_tested join below is_take below_joined 0 l ∙ all_listed is_take l

-- takes are proper entries
pub takes_entries : (Z : ℕ) (l : List ℕ) → all_of is_take l ≡ true → all_of (is_entry Z) l ≡ true
unfolding all_of is_entry
takes_entries Z [] e = refl
takes_entries Z (x ∷ l) e =
    let t = (both (is_take x) (all_of is_take l)).0 e in
    (both (is_take x || is_proper_issue Z x) (all_of (is_entry Z) l)).1 (rw t.0, takes_entries Z l t.1)
