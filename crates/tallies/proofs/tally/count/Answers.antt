-- `tallies::tally::count` meets its contract: one count is one more, that of a host or that of none.
use mathlib.Core.Path.{◌≡◌}
use Prim.Native.Nat.{ℕ, ◌+◌, ◌≤◌, ◌<◌, ◌^◌}
use lib.ListN.{get_or}
use borrow.Author.Tests.{lt-ltb, le-ltb}
use Rattle.types.specs.Members.{is_host}
use Rattle.tallies.specs.declared.tally.Tally.{Tally}
use Rattle.tallies.specs.TallyCounts.{count_at, counted_in, CountRoom}
use Rattle.std.specs.Prelude.{Option, Some, None, unwrap_or}
use Rattle.rejection_hosts.specs.RejectionHosts.{no_host}
use native.Mathlib.Omega.{arith}
use Rattle.tallies.proofs.tally.count.Goals as goal
use Rattle.tallies.proofs.tally.count.Goals.{in_default-via-in-Some+else-host, in_default-via-in_default}

-- the count that is one more has room for it
host_fits : (t : Tally) {o : Option ℕ} (k : ℕ) → o ≡ Some k → k < 16 → CountRoom t (unwrap_or o no_host) → get_or t.hosts k 0 + 1 < 2 ^ 64
unfolding count_at is_host
host_fits t k e l r = rw (e, lt-ltb k 16 l) at r.fits

none_fits : (t : Tally) (k : ℕ) → 16 ≤ k → CountRoom t k → t.none + 1 < 2 ^ 64
unfolding count_at is_host
none_fits t k l r = rw (le-ltb k 16 l) at r.fits

-- no host's number is 16 or above
no_host_least : {o : Option ℕ} → o ≡ None → 16 ≤ unwrap_or o no_host
no_host_least e = rw e (omega arith)

other_least : {o : Option ℕ} {k : ℕ} → o ≡ Some k → 16 ≤ k → 16 ≤ unwrap_or o no_host
other_least e l = rw e l

pub overflow_add-tally : goal.overflow_add-tally
overflow_add-tally c = record { fits = host_fits c.args.tally.now c.in-Some.host c.in-Some.is c.if-host.true c.requires }

least : (c : goal.In_default) → 16 ≤ unwrap_or c.args.host no_host
least c =
    elim c.in_default.branch [
      | in_default-via-in-Some+else-host w ↦ other_least w.in-Some.is w.if-host.false
      | in_default-via-in_default w ↦ no_host_least w.in_default.is
    ]

pub overflow_add-tally-in_default : goal.overflow_add-tally-in_default
overflow_add-tally-in_default c = record { fits = none_fits c.args.tally.now (unwrap_or c.args.host no_host) (least c) c.requires }

pub returns-in-Some : goal.returns-in-Some
unfolding counted_in count_at is_host
returns-in-Some c = rw (c.in-Some.is, lt-ltb c.in-Some.host 16 c.if-host.true)

pub returns-in_default : goal.returns-in_default
unfolding counted_in count_at is_host
returns-in_default c =
    let e : 16 ≤ unwrap_or c.args.host no_host =
    elim c.in_default.branch [
      | in_default-via-in-Some+else-host w ↦ other_least w.in-Some.is w.if-host.false
      | in_default-via-in_default w ↦ no_host_least w.in_default.is
    ] in
    rw (le-ltb (unwrap_or c.args.host no_host) 16 e)
