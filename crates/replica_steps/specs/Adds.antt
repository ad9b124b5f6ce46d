-- What an add requires: the orderer of the configuration, which acts; what its test of issues requires: a proper entry; and what the orderer's history
-- tells of the entry.
use Rattle.std.specs.Prelude.{ℕ, ◌≡◌, true, not, List, [], ◌∷◌, length}
use Rattle.model.specs.Tests.{contains}
use Rattle.model.specs.Checks.{Check, ◌or_else◌}
use Rattle.model.specs.Entries.{is_entry}
use Rattle.model.specs.Layout.{shards_of, orderer}
use Rattle.model.specs.Add.{no_rival}
use Rattle.lookup.specs.Ready.{Formed}
use Rattle.lookup.specs.KindContracts.{ReadyKind}

-- a well-formed state and a proper entry
pub record FormedEntry (w : List ℕ) (e : ℕ) : Type 0 where
  pub state : Formed w
  pub entry : is_entry (shards_of (length w)) e ≡ true

-- the orderer o of configuration j of a shard z
pub record ReadyAdd (w : List ℕ) (shards z j o : ℕ) : Type 0 where
  pub kind : ReadyKind w shards z j
  pub ordered : o ≡ orderer w z j

-- the checks of an add that look for entries in the history
unfoldable pub held_checks : ℕ → List ℕ → List Check
held_checks e l = not (contains e l) or_else 15 ∷ no_rival e l or_else 23 ∷ []
