-- `log_reader::Reader::number` meets its contract.
use native.Mathlib.Omega.{arith}
use mathlib.Core.Path.{refl}
use Rattle.std.proofs.lemmas.Result.{err_from_is_err_and}
use Rattle.log_reader.specs.ReadInParts.{taken_value, taken_bytes}
use Rattle.log_reader.proofs.StepParts.{number_inside}
use Rattle.log_reader.proofs.Reader.number.Goals as goal

pub returns-in_err-number : goal.returns-in_err-number
unfolding taken_value taken_bytes
returns-in_err-number c =
    let p = err_from_is_err_and c.from_residual.result c.from_residual.ensures.1 in
    record {
      log = refl;
      value = rw (p.1, p.2, ← c.read_number.ensures, c.in_err-number.was);
      position = rw (← c.read_number.ensures, c.in_err-number.was) (omega arith);
    }

pub overflow_add-self : goal.overflow_add-self
overflow_add-self c = let a = c.args.self.now in omega (arith, number_inside a.log.now a.at c.read_number.ensures c.in_ok-number.was)

pub returns : goal.returns
unfolding taken_value taken_bytes
returns c =
    record {
      log = refl;
      value = rw (← c.read_number.ensures, c.in_ok-number.was);
      position = rw (← c.read_number.ensures, c.in_ok-number.was);
    }
