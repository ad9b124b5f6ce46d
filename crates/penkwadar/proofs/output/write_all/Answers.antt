use Rattle.std.proofs.Common.{◌≡◌, ◌+◌, ◌-◌, ◌≤◌, ◌++◌, rules, length, take, drop, sym, ap, ◌∙◌, subst}
use Rattle.std.proofs.lemmas.List.{take_rest, length-drop}
use Rattle.std.specs.Io.KnownBytes.{Appends}
use Rattle.std.proofs.KnownBytes.{Appends-trans}
use lib.Seq.{take-add, drop-drop}
use Rattle.penkwadar.proofs.output.write_all.Goals as goal

pub loop-rest-preserved : goal.loop-rest-preserved
loop-rest-preserved g c =
    let bytes = c.args.bytes.now in
    let rest = c.loop-rest.rest.now in
    let more = c.in_ok-count.count in
    let (n, within, split, appended) = c.loop-rest.invariant in
    let fits : n + more ≤ length bytes = search (rules, length-drop) in
    let left : take (length rest - more) (drop more rest) ≡ drop (n + more) bytes = take_rest rest more ∙ ap (drop more) split ∙ drop-drop more n bytes in
    let written : take n bytes ++ take more rest ≡ take (n + more) bytes = ap (λ l. take n bytes ++ take more l) split ∙ sym (take-add n more bytes) in
    (n + more, fits, left, subst (Appends _ _) written (Appends-trans _ _ _ _ _ appended c.in_ok-count.ensures.bytes))
