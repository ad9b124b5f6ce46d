-- `stable_entries::copy::copy_entries` meets its contract.
use native.Mathlib.Omega.{arith}
use Rattle.stable_entries.proofs.Listings.{copied, rejects_room, copies}
use Rattle.stable_entries.proofs.copy.copy_entries.Goals as goal

pub returns-then-out-count : goal.returns-then-out-count
returns-then-out-count c =
    let e = rejects_room c.args.state.now c.args.place c.args.out.now c.stable_prefix-entries.ensures.value (omega (arith, c.if-out-count)) in
    let t = copied _ _ _ e.0 e.1 in
    record { result_value = t.0; result_value_2 = t.1.0; value = t.1.1.0; out_after = t.1.1.1 }

pub returns : goal.returns
returns c =
    let e = copies c.args.state.now c.args.place c.args.out.now c.stable_prefix-entries.ensures.value (omega (arith, c.if-out-count)) in
    let t = copied _ _ _ e.0 e.1 in
    record { result_value = t.0; result_value_2 = t.1.0; value = t.1.1.0; out_after = rw c.copy_from_slice.ensures.after t.1.1.1 }
