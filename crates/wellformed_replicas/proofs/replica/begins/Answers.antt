-- Answers of `begins`.
use Rattle.std.proofs.Common.{◌≡◌, ◌∙◌, ◌-◌, ◌<◌, sym, ap, List, ℕ, length, take, arith}
use Rattle.std.proofs.lemmas.Bool.{lt-leb, false≢true}
use Rattle.std.specs.List.{slice_get}
use Rattle.model.proofs.Ranges.{not_passed}
use Rattle.wellformed_replicas.specs.Shapes.{are_first_of}
use Rattle.wellformed_replicas.proofs.FirstWords.{first_same, first_part, same_read}
use Rattle.wellformed_replicas.proofs.replica.begins.Goals as goal

pub returns-in_default : goal.returns-in_default
unfolding are_first_of
returns-in_default c =
    let few : length c.args.others.now < length c.args.words.now = grind (arith, c.in_default.ensures.lookup.0) in
    rw (lt-leb _ _ few)

pub returns-then-eq : goal.returns-then-eq
returns-then-eq c =
    let words = c.args.words.now in
    let others = c.args.others.now in
    let found = c.in-Some.ensures.lookup.0 in
    let part : c.in-Some.others.now ≡ take (length words) others = grind (arith, found.2) in
    c.are_alike.ensures ∙ rw part (first_same words others found.1)

pub returns-else-eq : goal.returns-else-eq
returns-else-eq c =
    let words = c.args.words.now in
    let others = c.args.others.now in
    let part : c.in-Some.others.now ≡ take (length words) others = grind (arith, c.in-Some.ensures.lookup.0.2) in
    c.if-eq.false
    ∙ not_passed (are_first_of words others)
    (λ e.
    let same = ap (λ (l : List ℕ). slice_get l (length l - 1)) (sym (part ∙ first_part words others e)) in
    false≢true (sym c.if-eq.false ∙ c.eq.ensures ∙ same_read _ _ (c.last.ensures.value ∙ same ∙ sym c.last-2.ensures.value)))
