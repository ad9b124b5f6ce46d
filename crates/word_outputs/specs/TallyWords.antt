-- A tally in an output. Request A7: seventeen words, "one for each box, and one for steps with no box to name".
use Rattle.std.specs.Prelude.{ℕ, List, [], ◌∷◌, ◌++◌, get_or, take}
use Rattle.tallies.specs.declared.tally.Tally.{Tally}
use Rattle.rejection_hosts.specs.RejectionHosts.{no_host}

-- the words of a tally, and the tally that an output's first words are
unfoldable pub tally_words : Tally → List ℕ
tally_words t = t.hosts ++ t.none ∷ []

unfoldable pub tally_in : List ℕ → Tally
tally_in out = record { hosts = take no_host out; none = get_or out no_host 0 }
