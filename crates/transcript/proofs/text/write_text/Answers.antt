-- `transcript::text::write_text` meets its contract.
use native.Mathlib.Omega.{arith}
use Rattle.std.proofs.lemmas.Grind.{common_steps}
use Rattle.decimal_text.proofs.Appending.{appending}
use Rattle.transcript.proofs.WholeText.{text_too_long, text_lines}
use Rattle.transcript.proofs.text.write_text.Goals as goal

pub bytes-requires : goal.bytes-requires
bytes-requires c = let e = text_too_long c.args.log.now (omega (arith, c.if-log-gt-LONGEST_LOG.true)) in grind (arith, common_steps, appending)

pub returns-then-log-gt-LONGEST_LOG : goal.returns-then-log-gt-LONGEST_LOG
returns-then-log-gt-LONGEST_LOG c =
    let e = text_too_long c.args.log.now (omega (arith, c.if-log-gt-LONGEST_LOG.true)) in
    record { value = grind (arith, common_steps, appending); out_after = grind (arith, common_steps, appending) }

pub write_lines-requires : goal.write_lines-requires
write_lines-requires c = rw (text_lines c.args.log.now (omega (arith, c.if-log-gt-LONGEST_LOG.false))) at c.requires

pub returns : goal.returns
returns c = rw (text_lines c.args.log.now (omega (arith, c.if-log-gt-LONGEST_LOG.false))) c.write_lines.ensures
