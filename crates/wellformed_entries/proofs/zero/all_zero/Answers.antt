-- Answers of `all_zero`.
use Rattle.std.proofs.Common.{◌≡◌, bit_or, rules}
use Rattle.std.specs.List.{fold}
use Rattle.wellformed_entries.proofs.Zeros.{joined_zeros}
use Rattle.wellformed_entries.proofs.zero.all_zero.Goals as goal

pub returns : goal.returns
returns c =
    let joined : c.fold.result ≡ fold bit_or 0 c.args.words.now = search rules in
    rw joined (joined_zeros c.args.words.now)
