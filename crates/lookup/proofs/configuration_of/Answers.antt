-- `lookup::configuration_of` meets its contract.
use Prim.Native.Nat.{◌+◌, ◌*◌}
use native.Mathlib.Omega.{arith}
use mathlib.Core.Path.{◌≡◌}
use lib.ListN.{get_or}
use Rattle.model.specs.Layout.{members, orderer, head_word, head_place}
use Rattle.model.specs.Configuration.{configuration}
use Rattle.lookup.proofs.configuration_of.Goals as goal

pub returns : goal.returns
unfolding configuration members orderer head_word head_place
returns c =
    let a = c.args in
    let m : c.head-head.result + 2 + a.at.j ≡ a.at.z * 2112 + (2 + a.at.j) = omega (arith, c.head-head.ensures) in
    let o : c.head-head.result + 10 + a.at.j ≡ a.at.z * 2112 + (10 + a.at.j) = omega (arith, c.head-head.ensures) in
    λ i. record { place = c.first.ensures i; members = get_or a.state.now (m i) 0; orderer = get_or a.state.now (o i) 0 }
