-- The entries of a history (document 01, "State"): takes, and issues of configurations. One classification, cited everywhere.
use Rattle.std.specs.Prelude.{ℕ, ◌+◌, ◌*◌, ◌/◌, ◌%◌, ◌^◌, Bool, not, ◌&&◌, ◌||◌, cond, List, [], ◌∷◌, leb, ltb, eqb}
use Rattle.types.specs.Members.{is_configuration}

-- "a take, 1 to 4,294,967,295"
unfoldable pub is_take : ℕ → Bool
is_take e = leb 1 e && leb e 4294967295

-- "an issue: 2^32 + index × 2^24 + zone × 2^20 + orderer × 2^16 + members"
unfoldable pub issue : ℕ → ℕ → ℕ → ℕ → ℕ
issue index shard orderer members = 2 ^ 32 + index * 2 ^ 24 + shard * 2 ^ 20 + orderer * 2 ^ 16 + members

-- an issue's word, of whatever content; its four fields
unfoldable pub is_issue : ℕ → Bool
is_issue e = eqb (e / 2 ^ 32) 1

unfoldable pub issue_index : ℕ → ℕ
issue_index e = e / 2 ^ 24 % 2 ^ 8

unfoldable pub issue_shard : ℕ → ℕ
issue_shard e = e / 2 ^ 20 % 2 ^ 4

unfoldable pub issue_orderer : ℕ → ℕ
issue_orderer e = e / 2 ^ 16 % 2 ^ 4

unfoldable pub issue_members : ℕ → ℕ
issue_members e = e % 2 ^ 16

-- ".. with index 2 to 8, zone below Z, a proper member set and its orderer"
unfoldable pub is_proper_issue : ℕ → ℕ → Bool
is_proper_issue Z e =
    is_issue e && leb 2 (issue_index e) && leb (issue_index e) 8 && ltb (issue_shard e) Z
    && is_configuration (issue_members e) (issue_orderer e)

-- a proper entry: "a take .. or an issue"
unfoldable pub is_entry : ℕ → ℕ → Bool
is_entry Z e = is_take e || is_proper_issue Z e

-- an issue that names a shard
unfoldable pub is_issue_for : ℕ → ℕ → Bool
is_issue_for z e = is_issue e && eqb (issue_shard e) z

-- an issue that names a shard and an index
unfoldable pub names : ℕ → ℕ → ℕ → Bool
names z i e = is_issue_for z e && eqb (issue_index e) i

-- request A2: where e is an issue, x is "an issue for that zone and index with other content"
unfoldable pub rivals : ℕ → ℕ → Bool
rivals e x = is_issue e && names (issue_shard e) (issue_index e) x && not (eqb x e)

-- "The first issue for a zone and index in a list is the issue naming both that has no issue naming both before it"; 0 where there is none
unfoldable pub first_issue : ℕ → ℕ → List ℕ → ℕ
first_issue z i [] = 0
first_issue z i (e ∷ l) = cond (names z i e) e (first_issue z i l)
