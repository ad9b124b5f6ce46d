-- `quick_reader::long::LongAdd::byte_count` meets its contract: from the entry's last bytes back, each is counted with those after it. Assumes nothing.
use Prim.Native.Nat.{ℕ, ◌+◌}
use mathlib.Core.Path.{ap}
use Rattle.quick_reader.specs.Long.{entry_bytes, long_length}
use Rattle.quick_reader.proofs.Groups.{count_one, count_more}
use Rattle.quick_reader.proofs.LongAdds.{long_last}
use Rattle.quick_reader.proofs.long.LongAdd.byte_count.Goals as goal

pub returns : goal.returns
unfolding long_length entry_bytes
returns c =
    let d = count_more _ _ (count_one _ (long_last _ _ c.args.self.now.is_long_add)) c.counted-d.ensures in
    ap (λ (n : ℕ). 3 + n) (count_more _ _ (count_more _ _ (count_more _ _ d c.counted-c.ensures) c.counted-b.ensures) c.counted.ensures)
