-- `quick_reader::read_step` meets its contract: a usual step, or any. Assumes nothing.
use Rattle.model.proofs.Results.{reads_at}
use Rattle.quick_reader.proofs.read_step.Goals as goal

pub returns-in-Some : goal.returns-in-Some
returns-in-Some c =
    let t = reads_at c.args.log.now c.args.at c.in-Some.ensures.value in
    record { result_value = t.0; result_value_2 = t.1.0; result_value_3 = t.1.1.0; value = t.1.1.1 }
