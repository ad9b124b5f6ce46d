-- A replica (a "seat": a host in a configuration), its 64 words, and what each kind of step makes of it.
use Rattle.std.specs.Prelude.{ℕ, ◌+◌, ◌-◌, min, max, Bool, List, [], ◌∷◌, ◌++◌, eqb, length, get_or, take, drop, replicate}

-- mode: 0 unused, 1 pending, 2 active, 3 immutable; history: the "list"; stable: the "confirmed length"; origin: the host from which the replica
-- inherited, plus 1, or 0 (request A3, "the source box + 1 once inherit is accepted"), or that of the peer with which it caught up (request A4)
pub record Replica : Type 0 where
  pub mode : ℕ
  pub history : List ℕ
  pub stable : ℕ
  pub origin : ℕ

-- "list length, 0 to 56"
abbrev pub most_entries : ℕ
most_entries = 56

-- "Seat word 0: mode .. Word 1: list length .. Word 2: confirmed length. Words 3 to 7: 0. Words 8 to 63: entries, 0 past the length."; request A3:
-- "Seat word 3 becomes the source box + 1", so that words 4 to 7 are 0
unfoldable pub replica_words : Replica → List ℕ
replica_words r =
    (r.mode ∷ length r.history ∷ r.stable ∷ r.origin ∷ 0 ∷ 0 ∷ 0 ∷ 0 ∷ [])
    ++ (r.history ++ replicate (most_entries - length r.history) 0)

-- the replica that 64 words hold
unfoldable pub read_replica : List ℕ → Replica
read_replica p = record { mode = get_or p 0 0; history = take (get_or p 1 0) (drop 8 p); stable = get_or p 2 0; origin = get_or p 3 0 }

-- "Its confirmed part is the seat's first entries, as many as its confirmed length"
unfoldable pub stable_prefix : Replica → List ℕ
stable_prefix r = take r.stable r.history

unfoldable pub is_pending : Replica → Bool
is_pending r = eqb r.mode 1

unfoldable pub is_active : Replica → Bool
is_active r = eqb r.mode 2

unfoldable pub is_immutable : Replica → Bool
is_immutable r = eqb r.mode 3

-- ---- the builders

unfoldable pub unused : Replica
unused = record { mode = 0; history = []; stable = 0; origin = 0 }

-- setup: "its seats active, lists empty"
unfoldable pub fresh : Replica
fresh = record { mode = 2; history = []; stable = 0; origin = 0 }

-- install: "members' seats pending"
unfoldable pub pending : Replica
pending = record { mode = 1; history = []; stable = 0; origin = 0 }

-- add: "entry goes last in its list"
unfoldable pub added : ℕ → Replica → Replica
added e r = record { mode = r.mode; history = r.history ++ (e ∷ []); stable = r.stable; origin = r.origin }

-- adopt: "the orderer's list replaces the seat's; confirmed becomes the larger of both, capped at the new length"; the origin stays the seat's own
unfoldable pub adopted : Replica → Replica → Replica
adopted o r =
    record {
      mode = r.mode;
      history = o.history;
      stable = min (max r.stable o.stable) (length o.history);
      origin = r.origin;
    }

-- confirm: "confirmed becomes that length"
unfoldable pub learned : ℕ → Replica → Replica
learned n r = record { mode = r.mode; history = r.history; stable = n; origin = r.origin }

-- wedge: "immutable"
unfoldable pub wedged : Replica → Replica
wedged r = record { mode = 3; history = r.history; stable = r.stable; origin = r.origin }

-- inherit: "list and confirmed copied, seat active"; request A3: "Seat word 3 becomes the source box + 1", of the source host g
unfoldable pub inherited : ℕ → Replica → Replica
inherited g source = record { mode = 2; history = source.history; stable = source.stable; origin = g + 1 }

-- catch up (request A4): "copy list and confirmed length .., and become active. Word 3 is copied too", of a peer
unfoldable pub caught_up : Replica → Replica
caught_up peer = record { mode = 2; history = peer.history; stable = peer.stable; origin = peer.origin }
