-- Answers of `each_entry`.
use Rattle.std.proofs.Common.{◌≡◌, ◌∙◌, ◌/◌, sym, ap, length, rules}
use Rattle.std.proofs.lemmas.Iterator.{YieldsList-from_slice}
use Rattle.std.proofs.lemmas.Iterator.Search.{all_from_yields_List}
use Rattle.std.specs.List.{list_all}
use Rattle.std.specs.Simd.{first_chunks}
use borrow.Author.Tests.{tests}
use Rattle.model.specs.Tests.{all_of}
use Rattle.model.specs.Entries.{is_entry}
use Rattle.wellformed_entries.proofs.Folds.{all_in_fours}
use Rattle.wellformed_entries.proofs.entry.each_entry.Goals as goal

pub returns-then-all : goal.returns-then-all
returns-then-all c =
    let words = c.args.words.now in
    let f = is_entry c.args.shards in
    let fours : c.all.result ≡ list_all (all_of f) (first_chunks 4 (length words / 4) words) =
    all_from_yields_List (all_of f) _ _ _ c.all.ensures.ran
    (YieldsList-from_slice (first_chunks 4 (length words / 4) words) cc) (λ x b q k. search (rules, tests)) in
    c.are_entries.ensures ∙ ap (all_of f) c.as_chunks.ensures.back ∙ rw (sym fours ∙ c.if-all.true) at (all_in_fours f (length words / 4) words)

pub returns-else-all : goal.returns-else-all
returns-else-all c =
    let words = c.args.words.now in
    let f = is_entry c.args.shards in
    let fours : c.all.result ≡ list_all (all_of f) (first_chunks 4 (length words / 4) words) =
    all_from_yields_List (all_of f) _ _ _ c.all.ensures.ran
    (YieldsList-from_slice (first_chunks 4 (length words / 4) words) cc) (λ x b q k. search (rules, tests)) in
    c.if-all.false ∙ rw (sym fours ∙ c.if-all.false) at (all_in_fours f (length words / 4) words)
