-- `machine::act` meets its contract.
use mathlib.Core.Path.{ap}
use Rattle.types.specs.declared.configuration.Configuration.{Configuration}
use Rattle.model.specs.Configuration.{configuration}
use Rattle.machine.proofs.ByKind.{least, ready, by_kind}
use Rattle.machine.proofs.act.Goals as goal

pub overflow_sub-at : goal.overflow_sub-at
overflow_sub-at c = least c.requires

pub configuration_of-orderer-requires : goal.configuration_of-orderer-requires
configuration_of-orderer-requires c = (ready c.requires c.shard.ensures).ready

pub add-requires : goal.add-requires
unfolding configuration
add-requires c =
    record { kind = ready c.requires c.shard.ensures; ordered = ap (λ (k : Configuration). k.orderer) c.configuration_of-orderer.ensures }

pub adopt-requires : goal.adopt-requires
adopt-requires c = ready c.requires c.shard.ensures

pub learn-requires : goal.learn-requires
learn-requires c = ready c.requires c.shard.ensures

pub wedge-requires : goal.wedge-requires
wedge-requires c = ready c.requires c.shard.ensures

pub install-requires : goal.install-requires
install-requires c = ready c.requires c.shard.ensures

pub inherit-requires : goal.inherit-requires
inherit-requires c = ready c.requires c.shard.ensures

pub catch_up-requires : goal.catch_up-requires
catch_up-requires c = ready c.requires c.shard.ensures

pub returns-in-Add : goal.returns-in-Add
returns-in-Add c =
    let t = by_kind c.requires c.shard.ensures c.in-Add.is c.add.ensures.value c.add.ensures.state_after in
    record { value = t.0; state_after = t.1 }

pub returns-in-Adopt : goal.returns-in-Adopt
returns-in-Adopt c =
    let t = by_kind c.requires c.shard.ensures c.in-Adopt.is c.adopt.ensures.value c.adopt.ensures.state_after in
    record { value = t.0; state_after = t.1 }

pub returns-in-Learn : goal.returns-in-Learn
returns-in-Learn c =
    let t = by_kind c.requires c.shard.ensures c.in-Learn.is c.learn.ensures.value c.learn.ensures.state_after in
    record { value = t.0; state_after = t.1 }

pub returns-in-Wedge : goal.returns-in-Wedge
returns-in-Wedge c =
    let t = by_kind c.requires c.shard.ensures c.in-Wedge.is c.wedge.ensures.value c.wedge.ensures.state_after in
    record { value = t.0; state_after = t.1 }

pub returns-in-Install : goal.returns-in-Install
returns-in-Install c =
    let t = by_kind c.requires c.shard.ensures c.in-Install.is c.install.ensures.value c.install.ensures.state_after in
    record { value = t.0; state_after = t.1 }

pub returns-in-Inherit : goal.returns-in-Inherit
returns-in-Inherit c =
    let t = by_kind c.requires c.shard.ensures c.in-Inherit.is c.inherit.ensures.value c.inherit.ensures.state_after in
    record { value = t.0; state_after = t.1 }

pub returns-in-CatchUp : goal.returns-in-CatchUp
returns-in-CatchUp c =
    let t = by_kind c.requires c.shard.ensures c.in-CatchUp.is c.catch_up.ensures.value c.catch_up.ensures.state_after in
    record { value = t.0; state_after = t.1 }
