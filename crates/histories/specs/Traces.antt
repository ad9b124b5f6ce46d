-- Request A3: "a trace that starts at a seat and returns the boxes, at most seven, back to index 1, nearest first".
use Rattle.std.specs.Prelude.{ℕ, zero, suc, ◌-◌, ◌≡◌, true, false, cond, List, [], ◌∷◌, eqb}
use Rattle.model.specs.Checks.{first_of}
use Rattle.types.specs.Members.{has_member}
use Rattle.model.specs.Replicas.{is_pending}
use Rattle.model.specs.Layout.{is_installed, members}
use Rattle.model.specs.Configuration.{replica_in}
use Rattle.lookup.specs.Ready.{ReadyHost}
use Rattle.histories.specs.NamedReplicas.{replica_checks}

-- the host from which the replica of host h in configuration j began: its word 3 is "the source box + 1"
unfoldable pub source_host : List ℕ → ℕ → ℕ → ℕ → ℕ
source_host w z j h = (replica_in w z j h).origin - 1

-- "back to index 1, nearest first": that host, then the one from which its replica in the configuration before began, ..
unfoldable pub sources_of : List ℕ → ℕ → ℕ → ℕ → List ℕ
sources_of w z zero h = []
sources_of w z (suc j) h = source_host w z (suc j) h ∷ sources_of w z j (source_host w z (suc j) h)

-- "A pending seat gives an empty trace."
unfoldable pub trace_of : List ℕ → ℕ → ℕ → ℕ → List ℕ
trace_of w z j h = cond (is_pending (replica_in w z j h)) [] (sources_of w z j h)

-- "Checks are 1, 7, 9, 10, 11"
unfoldable pub trace_rejection : List ℕ → ℕ → ℕ → ℕ → ℕ
trace_rejection w z i h = first_of (replica_checks w z i h)

-- "at most seven": one for each configuration after the first
abbrev pub most_hosts : ℕ
most_hosts = 7

-- the hosts that the function tells for index i: those of the trace from configuration i − 1 on; at a rejection, what was there before
unfoldable pub traced : List ℕ → ℕ → ℕ → ℕ → List ℕ → List ℕ
traced w z i h before = cond (eqb (trace_rejection w z i h) 0) (trace_of w z (i - 1) h) before

-- where the function inside begins: a member's replica that is not pending, in a well-formed state
pub record Started (w : List ℕ) (z j h : ℕ) : Type 0 where
  pub ready : ReadyHost w z j h
  pub there : is_installed w z j ≡ true
  pub member : has_member (members w z j) h ≡ true
  pub running : is_pending (replica_in w z j h) ≡ false
