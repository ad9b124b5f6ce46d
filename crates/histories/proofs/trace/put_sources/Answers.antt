-- Answers of `put_sources`.
use native.Mathlib.Omega.{arith}
use Rattle.lookup.proofs.FoundReplicas.{small_place}
use Rattle.histories.proofs.Traces.{walk_start, walk_at, walk_length, walk_more, walk_end, place_within, origin_least, host_read}
use Rattle.histories.proofs.trace.put_sources.Goals as goal

pub loop-j-init : goal.loop-j-init
loop-j-init c = rw c.requires.none (walk_start _ _ _ _)

pub replica-place-requires : goal.replica-place-requires
replica-place-requires c =
    let s = walk_at _ _ _ _ c.requires.started c.loop-j.invariant in
    (s.ready.host, rw c.configuration_of.ensures (small_place s.ready.ready))

pub overflow_add-g : goal.overflow_add-g
overflow_add-g c =
    let s = walk_at _ _ _ _ c.requires.started c.loop-j.invariant in
    omega (arith, place_within s c.configuration_of.ensures c.replica-place.ensures)

pub offset_bounds-state-place : goal.offset_bounds-state-place
offset_bounds-state-place c =
    let s = walk_at _ _ _ _ c.requires.started c.loop-j.invariant in
    omega (arith, place_within s c.configuration_of.ensures c.replica-place.ensures)

pub bounds-state-place : goal.bounds-state-place
bounds-state-place c =
    let s = walk_at _ _ _ _ c.requires.started c.loop-j.invariant in
    omega (arith, place_within s c.configuration_of.ensures c.replica-place.ensures)

pub overflow_sub-g : goal.overflow_sub-g
overflow_sub-g c =
    let s = walk_at _ _ _ _ c.requires.started c.loop-j.invariant in
    origin_least s c.configuration_of.ensures c.replica-place.ensures (omega arith)

pub push-requires : goal.push-requires
push-requires c =
    let n = walk_length _ _ _ _ c.loop-j.invariant in
    (omega arith, omega (arith, n, c.requires.started.ready.ready.configuration))

pub loop-j-preserved : goal.loop-j-preserved
loop-j-preserved c =
    let s = walk_at _ _ _ _ c.requires.started c.loop-j.invariant in
    rw c.push.ensures.items
    (walk_more _ _ _ _ c.loop-j.invariant (omega arith) (host_read s c.configuration_of.ensures c.replica-place.ensures))

pub returns : goal.returns
returns c = walk_end _ _ _ _ c.loop-j.invariant (omega arith)
