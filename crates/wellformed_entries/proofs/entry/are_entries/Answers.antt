-- Answers of `are_entries`.
use Rattle.std.proofs.Common.{◌∙◌, rules}
use Rattle.std.proofs.lemmas.Iterator.{YieldsList-from_slice}
use Rattle.std.proofs.lemmas.Iterator.Search.{all_from_yields_List}
use borrow.Author.Tests.{tests}
use Rattle.model.specs.Entries.{is_entry}
use Rattle.wellformed_entries.proofs.Folds.{all_listed}
use Rattle.wellformed_entries.proofs.entry.are_entries.Goals as goal

pub returns : goal.returns
returns c =
    let words = c.args.words.now in
    all_from_yields_List (is_entry c.args.shards) _ _ _ c.all.ensures.ran
    (YieldsList-from_slice words cc) (λ x b q k. search (rules, tests))
    ∙ all_listed _ words
