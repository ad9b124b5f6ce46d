-- States that the rows are about. Replicas of shard 0 begin at words 64 (host 0 of index 1), 128 (host 1), 320 (the first of index 2), 384, .., of index 6
-- at 1,344, of index 7 from 1,600 on, of index 8 from 1,856 on; shard 1 begins at word 2,112, its replicas of index 1 at 2,176 (host 2) and 2,240 (host 3),
-- of index 2 at 2,432 and 2,496.
use Rattle.std.specs.Prelude.{ℕ, List, [], ◌∷◌, ◌++◌}
use Rattle.model.specs.Replay.{after_all}
use Rattle.model.specs.Transcript.{program_start}
use Rattle.model.specs.Marked.{next_issue}
use Rattle.cases.specs.CaseRows.{changed}
use Rattle.cases.specs.Scripts.{rival_issue, last_issue, four_hosts, replaced, up_to}

-- no state of this length
unfoldable pub too_short : List ℕ
too_short = 0 ∷ []

-- a head word that has to be 0 is 1
unfoldable pub ill_formed : List ℕ
ill_formed = changed program_start ((18, 1 ∷ []) ∷ [])

-- the orderer of shard 1 has an issue for shard 1 in its history, which add would not put there
unfoldable pub borrowed : List ℕ
borrowed = changed program_start ((2177, 1 ∷ []) ∷ (2184, next_issue ∷ []) ∷ [])

-- the orderer of shard 0 has two issues for index 2 of shard 1, both stable; add would not put the second there
unfoldable pub two_issues : List ℕ
two_issues = changed program_start ((65, 2 ∷ 2 ∷ []) ∷ (72, next_issue ∷ rival_issue ∷ []) ∷ [])

-- the orderer of shard 0 has 56 entries: 55 takes and an issue for index 2 of shard 1
unfoldable pub full : List ℕ
full = changed program_start ((65, 56 ∷ []) ∷ (72, up_to 55 ++ (next_issue ∷ [])) ∷ [])

-- stable histories that are equally long and unlike: of shard 0 at the second host of index 1 and at the first of index 2, hosts 4 and 5; of shard 1 at
-- both hosts of index 1
unfoldable pub unlike : List ℕ
unlike =
    changed program_start
    ((1, 2 ∷ [])
    ∷ (3, 48 ∷ [])
    ∷ (11, 4 ∷ [])
    ∷ (129, 1 ∷ 1 ∷ [])
    ∷ (136, 8 ∷ [])
    ∷ (320, 2 ∷ 1 ∷ 1 ∷ 2 ∷ [])
    ∷ (328, 9 ∷ [])
    ∷ (384, 2 ∷ 0 ∷ 0 ∷ 2 ∷ [])
    ∷ (2177, 1 ∷ 1 ∷ [])
    ∷ (2184, 7 ∷ [])
    ∷ (2241, 1 ∷ 1 ∷ [])
    ∷ (2248, 5 ∷ [])
    ∷ [])

-- what the steps `replaced` leave
unfoldable pub after_replaced : List ℕ
after_replaced = after_all program_start replaced

-- an active replica that began from host 1 and has no entries
unfoldable pub began_empty : List ℕ
began_empty = 2 ∷ 0 ∷ 0 ∷ 2 ∷ []

-- shard 0 has seven indices: 2 to 6 of host 1 alone, 7 of four hosts, of which host 15 has take 21, not stable. Shard 1 has index 2, hosts 4 and 5,
-- orderer 4; host 5 has 50 takes and then `last_issue`, all stable. All replicas are active
unfoldable pub late : List ℕ
late =
    changed program_start
    ((1, 7 ∷ [])
    ∷ (3, 2 ∷ 2 ∷ 2 ∷ 2 ∷ 2 ∷ four_hosts ∷ [])
    ∷ (11, 1 ∷ 1 ∷ 1 ∷ 1 ∷ 1 ∷ 3 ∷ [])
    ∷ (320, began_empty)
    ∷ (576, began_empty)
    ∷ (832, began_empty)
    ∷ (1088, began_empty)
    ∷ (1344, began_empty)
    ∷ (1600, began_empty)
    ∷ (1664, began_empty)
    ∷ (1728, began_empty)
    ∷ (1792, 2 ∷ 1 ∷ 0 ∷ 2 ∷ [])
    ∷ (1800, 21 ∷ [])
    ∷ (2113, 2 ∷ [])
    ∷ (2115, 48 ∷ [])
    ∷ (2123, 4 ∷ [])
    ∷ (2432, 2 ∷ 0 ∷ 0 ∷ 3 ∷ [])
    ∷ (2496, 2 ∷ 51 ∷ 51 ∷ 3 ∷ [])
    ∷ (2504, up_to 50 ++ (last_issue ∷ []))
    ∷ [])
