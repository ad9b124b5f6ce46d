-- Kind 5, install: the next configuration of a shard, issued in the history of its sequencer.
use Rattle.std.specs.Prelude.{ℕ, zero, suc, ◌+◌, ◌-◌, Bool, not, ◌&&◌, List, [], ◌∷◌, ltb, eqb, get_or}
use Rattle.model.specs.Tests.{all_below, any_below}
use Rattle.model.specs.Checks.{Check, ◌or_else◌}
use Rattle.types.specs.Members.{size, has_member}
use Rattle.model.specs.Entries.{is_issue_for, names, issue_index, issue_orderer, issue_members}
use Rattle.model.specs.Replicas.{Replica, is_immutable, pending}
use Rattle.model.specs.Layout.{place, sequencer, installed, is_installed, members, replica_at, put_replica, put_head}
use Rattle.model.specs.Configuration.{configuration, replica_of}

-- the replica in the sequencer of shard z that the step names, and the entry at place p of its history
unfoldable pub issuer : List ℕ → ℕ → ℕ → ℕ → Replica
issuer w z j h = replica_of w (configuration w (sequencer w z) j) h

unfoldable pub issued_at : List ℕ → ℕ → ℕ → ℕ → ℕ → ℕ
issued_at w z j h p = get_or (issuer w z j h).history p 0

-- "the entry at place is confirmed in that seat", and is an "issue for this zone"
unfoldable pub is_stable_issue : List ℕ → ℕ → ℕ → ℕ → ℕ → Bool
is_stable_issue w z j h p = ltb p (issuer w z j h).stable && is_issue_for z (issued_at w z j h p)

-- "22. An earlier issue there has the same zone and index": passes where there is none
unfoldable pub none_before : ℕ → ℕ → ℕ → List ℕ → Bool
none_before z i p l = all_below p (λ q. not (names z i (get_or l q 0)))

-- configuration j of shard z has "an immutable seat"
unfoldable pub is_wedged : List ℕ → ℕ → ℕ → Bool
is_wedged w z j = any_below (size (members w z j)) (λ k. is_immutable (replica_at w (place z j k)))

-- request A6, "Install now needs an immutable seat in the zone's newest configuration", that of the highest index installed
unfoldable pub is_newest_wedged : List ℕ → ℕ → Bool
is_newest_wedged w z = is_wedged w z (installed w z - 1)

-- "install 10, 11, 20, 21, 22"; request A6: "24, newest configuration not wedged, in install after 21 and before 22"
unfoldable pub install_checks : List ℕ → ℕ → ℕ → ℕ → ℕ → List Check
install_checks w z j h p =
    is_installed w (sequencer w z) j or_else 10
    ∷ has_member (members w (sequencer w z) j) h or_else 11
    ∷ is_stable_issue w z j h p or_else 20
    ∷ eqb (issue_index (issued_at w z j h p)) (installed w z + 1) or_else 21
    ∷ is_newest_wedged w z or_else 24
    ∷ none_before z (issue_index (issued_at w z j h p)) p (issuer w z j h).history or_else 22
    ∷ []

-- the first n replicas of configuration j become pending
unfoldable pub put_pending : List ℕ → ℕ → ℕ → ℕ → List ℕ
put_pending w z j zero = w
put_pending w z j (suc n) = put_replica (put_pending w z j n) (place z j n) pending

-- "members and orderer written, installed count one more, members' seats pending", for the next configuration of shard z
unfoldable pub install_next : List ℕ → ℕ → ℕ → ℕ → List ℕ
install_next w z m o =
    put_pending (put_head (put_head (put_head w z (2 + installed w z) m) z (10 + installed w z) o) z 1 (installed w z + 1)) z
    (installed w z)
    (size m)

unfoldable pub install_effect : List ℕ → ℕ → ℕ → ℕ → ℕ → List ℕ
install_effect w z j h p =
    install_next w z (issue_members (issued_at w z j h p)) (issue_orderer (issued_at w z j h p))
