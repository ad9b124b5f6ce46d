-- `quick_reader::usual_step` meets its contract: a short step, or an add of a longer entry. Assumes nothing.
use Rattle.std.proofs.Common.{sym}
use Rattle.std.proofs.lemmas.Bool.{or_right}
use Rattle.quick_reader.proofs.ShortSteps.{short_read}
use Rattle.quick_reader.proofs.LongAdds.{long_read}
use Rattle.quick_reader.proofs.Readings.{is_read}
use Rattle.quick_reader.proofs.usual_step.Goals as goal

pub returns-in-Some : goal.returns-in-Some
returns-in-Some c =
    let s = c.in-Some.short in
    let here = c.in-Some.ensures.place in
    let e = is_read (short_read s.log.now s.at s.is_short) c.reading.ensures.step c.reading.ensures.next in
    let t = rw (here.0, here.1) at s.is_short in
    record { found = rw t; value = rw (here.0, here.1) at e }

pub returns-in-Some-at : goal.returns-in-Some-at
returns-in-Some-at c =
    let s = c.in-Some-at.add in
    let here = c.in-Some-at.ensures.place in
    let e = is_read (long_read s.log.now s.at s.is_long_add) c.reading-in-Some-at.ensures.step c.reading-in-Some-at.ensures.next in
    let t = rw (here.0, here.1) at s.is_long_add in
    record { found = sym (or_right _ _ t); value = rw (here.0, here.1) at e }
