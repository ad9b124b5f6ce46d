-- `log_writer::write_step` meets its contract.
use Prim.Native.Nat.{◌-◌}
use native.Mathlib.Omega.{arith}
use mathlib.Core.Path.{◌≡◌, sym, ◌∙◌}
use lib.ListN.{length}
use borrow.Author.Tests.{leb-true, leb-false}
use Rattle.std.specs.Prelude.{Ok}
use Rattle.std.proofs.lemmas.Result.{err_from_is_err_and}
use Rattle.types.specs.Kinds.{kind_of}
use Rattle.model.proofs.Results.{writes_at}
use Rattle.types.proofs.KindRules.{ok_known, known_below}
use Rattle.log_writer.specs.WriteInParts.{bytes_of}
use Rattle.log_writer.proofs.Rejections.{used_by, kind_refused, numbers_refused, room_refused, room, written, left}
use Rattle.log_writer.proofs.write_step.Goals as goal

pub returns-in_err-try_from : goal.returns-in_err-try_from
returns-in_err-try_from c =
    let a = c.args in
    let p = err_from_is_err_and c.from_residual.result c.from_residual.ensures.1 in
    let f = kind_refused a.out.now a.at a.s (sym c.in_err-try_from.was ∙ c.try_from.ensures.kind) in
    let t = writes_at a.out.now a.at a.s (rw (p.1, p.2) f.answer) f.untouched in
    record { result_value = t.0; result_value_2 = t.1.0; value = t.1.1.0; out_after = t.1.1.1 }

pub returns-then-not-is_writable : goal.returns-then-not-is_writable
returns-then-not-is_writable c =
    let a = c.args in
    let k : Ok c.in_ok-try_from.field-0 ≡ kind_of a.s.kind = sym c.in_ok-try_from.was ∙ c.try_from.ensures.kind in
    let e = rw (c.used-used.ensures, k) at (sym c.if-not-is_writable.ensures) in
    let r = numbers_refused a.out.now a.at a.s (ok_known _ _ k) e in
    let t = writes_at a.out.now a.at a.s r.answer r.untouched in
    record { result_value = t.0; result_value_2 = t.1.0; value = t.1.1.0; out_after = t.1.1.1 }

pub invariant_of-step : goal.invariant_of-step
invariant_of-step c =
    omega (arith, known_below _ (ok_known _ _ (sym c.in_ok-try_from.was ∙ c.try_from.ensures.kind)))

pub returns-then-not-has_room : goal.returns-then-not-has_room
returns-then-not-has_room c =
    let a = c.args in
    let k : Ok c.in_ok-try_from.field-0 ≡ kind_of a.s.kind = sym c.in_ok-try_from.was ∙ c.try_from.ensures.kind in
    let small = rw (c.used-used.ensures, k) at (sym c.if-not-is_writable.ensures) in
    let h = leb-false _ _ (rw (c.used-used.ensures, k) at (sym c.if-not-has_room.ensures)) in
    let r = room_refused a.out.now a.at a.s (ok_known _ _ k) small h in
    let t = writes_at a.out.now a.at a.s r.answer r.untouched in
    record { result_value = t.0; result_value_2 = t.1.0; value = t.1.1.0; out_after = t.1.1.1 }

pub write-end-requires : goal.write-end-requires
write-end-requires c =
    let a = c.args in
    let k : Ok c.in_ok-try_from.field-0 ≡ kind_of a.s.kind = sym c.in_ok-try_from.was ∙ c.try_from.ensures.kind in
    let small = rw (c.used-used.ensures, k) at (sym c.if-not-is_writable.ensures) in
    let h = leb-true _ _ (rw (c.used-used.ensures, k) at (sym c.if-not-has_room.ensures)) in
    rw (c.used-used.ensures, k) (room a.out.now a.at a.s (ok_known _ _ k) small h)

pub returns : goal.returns
returns c =
    let a = c.args in
    let k : Ok c.in_ok-try_from.field-0 ≡ kind_of a.s.kind = sym c.in_ok-try_from.was ∙ c.try_from.ensures.kind in
    let end = rw (c.used-used.ensures, k) at c.write-end.ensures.value in
    let count : c.write-end.result - a.at ≡ length (bytes_of a.s (used_by a.s)) = omega (arith, end) in
    let stored = rw (c.used-used.ensures, k) at c.write-end.ensures.out_after in
    let small = rw (c.used-used.ensures, k) at (sym c.if-not-is_writable.ensures) in
    let h = leb-true _ _ (rw (c.used-used.ensures, k) at (sym c.if-not-has_room.ensures)) in
    let t =
    writes_at a.out.now a.at a.s (rw count (written a.out.now a.at a.s (ok_known _ _ k) small h))
    (stored ∙ left a.out.now a.at a.s (ok_known _ _ k) small h) in
    record { result_value = t.0; result_value_2 = t.1.0; value = t.1.1.0; out_after = t.1.1.1 }
