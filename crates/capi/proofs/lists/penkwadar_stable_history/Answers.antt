-- `capi::lists::penkwadar_stable_history` meets its contract.
use mathlib.Core.Path.{◌∙◌}
use Rattle.histories.specs.History.{listing}
use Rattle.stable_entries.specs.Listing.{listing_of}
use Rattle.word_outputs.specs.ListOutputs.{history_answer, entries_after, entry_count_after}
use Rattle.capi.proofs.Counts.{no_word, counted, count_written}
use Rattle.capi.proofs.lists.penkwadar_stable_history.Goals as goal

pub returns-then-count-lt1 : goal.returns-then-count-lt1
unfolding history_answer entries_after entry_count_after
returns-then-count-lt1 c =
    let t = no_word _ _ _ _ _ c.if-count-lt1.true in
    record { value = c.from.ensures ∙ t.0; out_after = t.1.0; count_after = t.1.1 }

pub returns : goal.returns
unfolding history_answer entries_after entry_count_after listing listing_of
returns c =
    let t = counted _ _ _ _ _ c.if-count-lt1.false (c.put_count.ensures.value ∙ c.stable_history.ensures.result_value) c.stable_history.ensures.out_after (c.put_count.ensures.out_after ∙ count_written _ _ _ c.stable_history.ensures.value) in
    record { value = t.0; out_after = t.1.0; count_after = t.1.1 }
