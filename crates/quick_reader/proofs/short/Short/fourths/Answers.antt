-- `quick_reader::short::Short::fourths` meets its contract: its kind is known. Assumes nothing.
use Rattle.quick_reader.proofs.ShortSteps.{short_kind}
use Rattle.quick_reader.proofs.short.Short.fourths.Goals as goal

pub fourths-requires : goal.fourths-requires
fourths-requires c = rw c.from.ensures (short_kind _ _ c.args.self.now.is_short)
