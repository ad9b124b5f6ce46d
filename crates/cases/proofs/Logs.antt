-- Rows about the log: reader, writer and replay.
use Rattle.types.specs.Rejections.{answer_number}
use Prim.Native.Nat.{ℕ}
use mathlib.Core.Path.{◌≡◌, refl}
use mathlib.Core.List.{List, [], ◌∷◌}
use lib.ListN.{length}
use Rattle.model.specs.Checks.{first_of}
use Rattle.model.specs.Layout.{is_state_length, shards_of}
use Rattle.model.specs.Numbers.{groups_of, number_bytes, numbers_bytes}
use Rattle.model.specs.Log.{read_log}
use Rattle.model.specs.Writer.{is_writable, are_writable, step_bytes, write_rejection}
use Rattle.model.specs.Results.{reading_step, reading_next, read_rejection, step_read, bytes_read, next_read, count_beside}
use Rattle.model.specs.Results.{stop_number, stop_code, replay_number, replay_code, replay_bytes}
use Rattle.model.specs.Replay.{replay_rejection, replayed, rejected_in}
use Rattle.model.specs.Transcript.{program_start}
use Rattle.model.proofs.StaysWellFormed.{replay_accepted}
use Rattle.model.proofs.ProgramStart.{start_formed}
use Rattle.cases.specs.CaseRows.{replay_words}
use Rattle.cases.specs.States.{too_short, ill_formed}
use Rattle.cases.specs.Logs.{ReaderOrder, WriterOrder, ReplayOrder}
use Rattle.cases.proofs.Quick.{quick_rejected_in, quick_rejected_in_lem}
use Rattle.cases.proofs.Computing.{given_cases, step_trying, log_reading}
use Rattle.cases.proofs.States.{ill_shards, ill_formed_lem}

-- ---- replays

replayed_start : (log : List ℕ) (budget : ℕ) {ns : List ℕ}
    → stop_number (read_log budget log).stop ∷ stop_code (read_log budget log).stop ∷ length (read_log budget log).steps
    ∷ quick_rejected_in 2 program_start (read_log budget log).steps ∷ (read_log budget log).bytes ∷ []
    ≡ ns
    → replay_words program_start log budget ≡ ns
unfolding replay_words replay_number replay_code replay_bytes replayed
replayed_start log budget e = rw (replay_accepted start_formed, quick_rejected_in_lem start_formed (read_log budget log).steps) e

replayed_short : (log : List ℕ) (budget : ℕ) → replay_words too_short log budget ≡ 1 ∷ 0 ∷ 0 ∷ 0 ∷ 0 ∷ []
unfolding replay_words replay_number replay_code replay_bytes replayed rejected_in replay_rejection first_of is_state_length shards_of too_short
replayed_short log budget = refl

pub rejected_ill : replay_rejection ill_formed ≡ 9
unfolding replay_rejection first_of is_state_length
rejected_ill = rw (ill_shards, ill_formed_lem)

replayed_ill : (log : List ℕ) (budget : ℕ) → replay_words ill_formed log budget ≡ 9 ∷ 0 ∷ 0 ∷ 0 ∷ 0 ∷ []
unfolding replay_words replay_number replay_code replay_bytes replayed rejected_in
replayed_ill log budget = rw rejected_ill

-- ---- the rows

pub reader_order : ReaderOrder
unfolding log_reading read_rejection step_read reading_step bytes_read reading_next next_read
reader_order =
    record {
      kind = refl;
      kept = (refl, refl);
      unknown = (refl, refl);
      bytes = (refl, refl, refl);
      step = (refl, refl, refl);
      catches_up = (refl, refl, refl);
      end = (refl, refl, refl);
      position = (refl, refl);
    }

pub writer_order : WriterOrder
unfolding log_reading write_rejection count_beside step_bytes first_of are_writable is_writable number_bytes numbers_bytes groups_of
writer_order =
    record {
      kept = (refl, refl);
      unknown = (refl, refl);
      numbers = (refl, refl);
      room = (refl, refl);
      step = (refl, refl);
      catches_up = (refl, refl);
    }

pub replay_order : ReplayOrder
unfolding given_cases step_trying log_reading stop_number stop_code quick_rejected_in
replay_order =
    record {
      wrong_length = replayed_short _ _;
      form = replayed_ill _ _;
      ended = replayed_start _ _ refl;
      spent = replayed_start _ _ refl;
      damaged = replayed_start _ _ refl;
    }
