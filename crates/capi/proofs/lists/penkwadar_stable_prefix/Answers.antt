-- `capi::lists::penkwadar_stable_prefix` meets its contract.
use mathlib.Core.Path.{◌∙◌}
use Rattle.histories.specs.Prefix.{prefix_listing}
use Rattle.stable_entries.specs.Listing.{listing_of}
use Rattle.word_outputs.specs.ListOutputs.{prefix_answer, prefix_after, prefix_count_after}
use Rattle.capi.proofs.Counts.{no_word, counted, count_written}
use Rattle.capi.proofs.lists.penkwadar_stable_prefix.Goals as goal

pub returns-then-count-lt1 : goal.returns-then-count-lt1
unfolding prefix_answer prefix_after prefix_count_after
returns-then-count-lt1 c =
    let t = no_word _ _ _ _ _ c.if-count-lt1.true in
    record { value = c.from.ensures ∙ t.0; out_after = t.1.0; count_after = t.1.1 }

pub returns : goal.returns
unfolding prefix_answer prefix_after prefix_count_after prefix_listing listing_of
returns c =
    let t = counted _ _ _ _ _ c.if-count-lt1.false (c.put_count.ensures.value ∙ c.stable_prefix.ensures.result_value) c.stable_prefix.ensures.out_after (c.put_count.ensures.out_after ∙ count_written _ _ _ c.stable_prefix.ensures.value) in
    record { value = t.0; out_after = t.1.0; count_after = t.1.1 }
