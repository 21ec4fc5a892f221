use Rattle.std.proofs.Common.{◌∙◌}
use Rattle.dr_table.proofs.TextLemmas.{text_is_written}
use Rattle.dr_table.proofs.writing.table_text_of.Goals as goal

pub returns : goal.returns
returns c =
    text_is_written _ _ _ _ _ _ c.as_str.result.now c.new-text.ensures.bytes c.in_ok-write_head.ensures c.in_ok-write_leaves.ensures c.in_ok-push_str.ensures.bytes
    c.in_ok-push_str-2.ensures.bytes (c.as_str.ensures.value ∙ c.in_ok-schema.ensures)
