-- Answers of `is_issued`.
use Rattle.std.proofs.Common.{◌∙◌, ◌||◌, ◌/◌, ◌^◌, eqb, rules}
use Rattle.std.proofs.lemmas.Iterator.{YieldsList-from_slice}
use Rattle.std.proofs.lemmas.Iterator.Consumers.{fold_from_yields_List}
use borrow.Author.Tests.{tests}
use Rattle.entry_search.proofs.Searches.{issue_joined}
use Rattle.entry_search.proofs.is_issued.Goals as goal

pub returns : goal.returns
returns c =
    let e = c.args.e in
    let history = c.args.history.now in
    fold_from_yields_List _ (λ found x. found || eqb (x / 2 ^ 20) (e / 2 ^ 20)) _ _ c.fold.ensures.ran
    (YieldsList-from_slice history cc) (λ a x b q k. search (rules, tests))
    ∙ issue_joined e history c.requires
