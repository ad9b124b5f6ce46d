-- Answers of `write_number`.
use Rattle.numbers.proofs.NumberWrites.{none_written, more_room, more_written, last_room, last_written}
use Rattle.numbers.proofs.write.write_number.Goals as goal

pub loop-rest-init : goal.loop-rest-init
loop-rest-init c = none_written _ _ c.requires.0

pub byte-requires : goal.byte-requires
byte-requires c = more_room c.loop-rest.invariant c.loop-rest-test.true c.requires.1

pub loop-rest-preserved : goal.loop-rest-preserved
loop-rest-preserved c = more_written c.loop-rest.invariant c.loop-rest-test.true c.byte.ensures

pub byte-requires-2 : goal.byte-requires-2
byte-requires-2 c = last_room c.loop-rest.invariant c.loop-rest-test.false c.requires.1

pub returns : goal.returns
returns c = last_written c.loop-rest.invariant c.loop-rest-test.false c.byte-2.ensures
