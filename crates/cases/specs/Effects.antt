-- What accepted steps leave, word by word; `States.antt` says where replicas begin.
use Rattle.std.specs.Prelude.{ℕ, ◌≡◌, List, [], ◌∷◌, ◌++◌}
use Rattle.types.specs.declared.step.Step.{Step}
use Rattle.model.specs.Replay.{after_all}
use Rattle.model.specs.Transcript.{program_start}
use Rattle.model.specs.Marked.{add, adopt, learn, wedge, next_issue}
use Rattle.cases.specs.CaseRows.{changed, Leaves, LeavesOf}
use Rattle.cases.specs.Scripts.{one_take, gone_on, two_sources, caught_up_after, last_index, four_hosts}
use Rattle.cases.specs.States.{after_replaced, late}

-- what `replaced` changes
unfoldable pub replaced_words : List (ℕ × List ℕ)
replaced_words =
    (65, 1 ∷ 1 ∷ [])
    ∷ (72, next_issue ∷ [])
    ∷ (129, 1 ∷ [])
    ∷ (136, next_issue ∷ [])
    ∷ (2113, 2 ∷ [])
    ∷ (2115, 40 ∷ [])
    ∷ (2123, 3 ∷ [])
    ∷ (2177, 1 ∷ [])
    ∷ (2184, 12 ∷ [])
    ∷ (2240, 3 ∷ 1 ∷ 1 ∷ [])
    ∷ (2248, 12 ∷ [])
    ∷ (2432, 1 ∷ [])
    ∷ (2496, 1 ∷ [])
    ∷ []

-- what `last_index` changes
unfoldable pub last_index_words : List (ℕ × List ℕ)
last_index_words =
    (1, 8 ∷ [])
    ∷ (9, four_hosts ∷ [])
    ∷ (17, 3 ∷ [])
    ∷ (1792, 3 ∷ [])
    ∷ (1856, 3 ∷ 1 ∷ 0 ∷ 16 ∷ [])
    ∷ (1864, 21 ∷ [])
    ∷ (1920, 2 ∷ 1 ∷ 0 ∷ 16 ∷ [])
    ∷ (1928, 21 ∷ [])
    ∷ (1984, 2 ∷ 1 ∷ 0 ∷ 16 ∷ [])
    ∷ (1992, 21 ∷ [])
    ∷ (2048, 1 ∷ [])
    ∷ []

-- these steps, tried after those, change these words too
abbrev pub AfterReplaced : List Step → List (ℕ × List ℕ) → Type 0
AfterReplaced ss cs = after_all after_replaced ss ≡ changed program_start (replaced_words ++ cs)

pub record Effects : Type 0 where
  -- length and entry
  pub adds : Leaves (add 0 1 7 ∷ []) ((65, 1 ∷ []) ∷ (72, 7 ∷ []) ∷ [])
  -- the same at the other host
  pub adopts : Leaves (add 0 1 7 ∷ adopt 0 1 1 ∷ []) ((65, 1 ∷ []) ∷ (72, 7 ∷ []) ∷ (129, 1 ∷ []) ∷ (136, 7 ∷ []) ∷ [])
  -- .. and from an orderer that is wedged
  pub adopts_wedged : Leaves (add 0 1 7 ∷ wedge 0 1 0 ∷ adopt 0 1 1 ∷ []) ((64, 3 ∷ 1 ∷ []) ∷ (72, 7 ∷ []) ∷ (129, 1 ∷ []) ∷ (136, 7 ∷ []) ∷ [])
  -- the stable length
  pub learns : Leaves one_take ((65, 1 ∷ []) ∷ (72, 7 ∷ []) ∷ (129, 1 ∷ 1 ∷ []) ∷ (136, 7 ∷ []) ∷ [])
  -- .. two at once
  pub learns_two : Leaves (add 0 1 7 ∷ add 0 1 8 ∷ adopt 0 1 1 ∷ learn 0 1 1 2 ∷ [])
      ((65, 2 ∷ []) ∷ (72, 7 ∷ 8 ∷ []) ∷ (129, 2 ∷ 2 ∷ []) ∷ (136, 7 ∷ 8 ∷ []) ∷ [])
  -- .. in a configuration of one host
  pub learns_alone : LeavesOf late (add 0 6 9 ∷ learn 0 6 1 1 ∷ []) ((1345, 1 ∷ 1 ∷ []) ∷ (1352, 9 ∷ []) ∷ [])
  -- the mode
  pub wedges : Leaves (wedge 0 1 1 ∷ []) ((128, 3 ∷ []) ∷ [])
  -- count, member set and orderer; the members' replicas pending
  pub installs : after_replaced ≡ changed program_start replaced_words
  -- the history and the stable length of the source, and its host + 1; then what the new configuration adds, adopts and confirms
  pub inherits : AfterReplaced gone_on
      ((2432, 2 ∷ 2 ∷ 1 ∷ 4 ∷ []) ∷ (2440, 12 ∷ 13 ∷ []) ∷ (2496, 2 ∷ 2 ∷ 2 ∷ 4 ∷ []) ∷ (2504, 12 ∷ 13 ∷ []) ∷ [])
  -- two sources: the host that adopts keeps its own
  pub origins : AfterReplaced two_sources
      ((2176, 3 ∷ []) ∷ (2432, 2 ∷ 2 ∷ 1 ∷ 4 ∷ []) ∷ (2440, 12 ∷ 13 ∷ []) ∷ (2496, 2 ∷ 2 ∷ 1 ∷ 3 ∷ []) ∷ (2504, 12 ∷ 13 ∷ []) ∷ [])
  -- the history, the stable length and the origin of the peer
  pub catches_up : AfterReplaced caught_up_after
      ((2432, 2 ∷ 2 ∷ 1 ∷ 4 ∷ []) ∷ (2440, 12 ∷ 13 ∷ []) ∷ (2496, 2 ∷ 2 ∷ 1 ∷ 4 ∷ []) ∷ (2504, 12 ∷ 13 ∷ []) ∷ [])
  -- the last index, installed from place 50 of the list of a host that is not the orderer, in its sequencer's second index; an entry that is not stable
  -- is inherited. Hosts catch up from host 0, which is not the orderer and has nothing stable, also where it is wedged, and become active
  pub last_indices : LeavesOf late last_index last_index_words
