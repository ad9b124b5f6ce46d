-- A tally as the functions inside count: nothing counted, and one more in a count.
use Rattle.std.specs.Prelude.{ℕ, ◌+◌, ◌<◌, ◌^◌, cond, get_or, set, replicate}
use Rattle.types.specs.Members.{is_host}
use Rattle.tallies.specs.declared.tally.Tally.{Tally}
use Rattle.rejection_hosts.specs.RejectionHosts.{no_host}

-- nothing counted yet
unfoldable pub nothing_counted : Tally
nothing_counted = record { hosts = replicate no_host 0; none = 0 }

-- the count with a number
unfoldable pub count_at : Tally → ℕ → ℕ
count_at t k = cond (is_host k) (get_or t.hosts k 0) t.none

-- one more in that count
unfoldable pub counted_in : Tally → ℕ → Tally
counted_in t k = record { hosts = cond (is_host k) (set t.hosts k (count_at t k + 1)) t.hosts; none = cond (is_host k) t.none (count_at t k + 1) }

-- the count can be one more
pub record CountRoom (t : Tally) (k : ℕ) : Type 0 where
  pub fits : count_at t k + 1 < 2 ^ 64
