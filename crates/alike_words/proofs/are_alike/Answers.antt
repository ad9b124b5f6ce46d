-- Answers of `are_alike`.
use Rattle.std.proofs.Common.{◌≡◌, rules}
use Rattle.std.proofs.lemmas.Iterator.{YieldsList-from_slice, YieldsList-from_zip}
use Rattle.std.proofs.lemmas.Iterator.Consumers.{YieldsList-at, fold_from_yields_List}
use Rattle.std.specs.List.{fold, zip}
use borrow.Author.Tests.{tests}
use Rattle.alike_words.proofs.Alike.{differ, joined_same}
use Rattle.alike_words.proofs.are_alike.Goals as goal

pub returns : goal.returns
returns c =
    let a = c.args.a.now in
    let b = c.args.b.now in
    let pairs = YieldsList-from_zip (YieldsList-at c.zip-pairs.ensures.first (YieldsList-from_slice a cc)) (YieldsList-from_slice b c.zip-pairs.ensures.second.0) in
    let joined : c.fold.result ≡ fold differ 0 (zip a b) =
    fold_from_yields_List _ differ 0 _ c.fold.ensures.ran pairs (λ a x b q k. search (rules, tests)) in
    rw joined (joined_same a b c.requires)
