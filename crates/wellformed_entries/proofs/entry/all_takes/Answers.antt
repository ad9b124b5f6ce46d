-- Answers of `all_takes`.
use Rattle.std.proofs.Common.{◌≡◌, rules}
use Rattle.std.specs.List.{fold}
use Rattle.wellformed_entries.proofs.Takes.{join, joined_takes}
use Rattle.wellformed_entries.proofs.entry.all_takes.Goals as goal

pub returns : goal.returns
returns c =
    let joined : c.fold-joined.result ≡ fold join 0 c.args.words.now = search rules in
    rw joined (joined_takes c.args.words.now)
