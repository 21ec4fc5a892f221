use Rattle.std.proofs.Common.{ap, ◌∙◌, ◌++◌, map, string_bytes}
use Rattle.dr_formats.specs.Reports.{left_leaves_text}
use Rattle.dr_reading.specs.LeftText.{told_leaf, ascending}
use Rattle.dr_table.specs.LeftViews.{all_tried_view}
use Rattle.std.specs.Fmt.{styled_decimal}
use Rattle.dr_table.proofs.ReportLemmas.{line_done}
use Rattle.dr_table.proofs.report.push_line.Goals as goal

-- src/report.rt:68:1
pub returns : goal.returns
returns c =
    line_done c.push_str-2.result _ _ _ _ _ _ _ c.args.left.now.tablet (ap (λ s. styled_decimal s c.args.left.now.tablet) c.laid_out.ensures) c.in_ok-head.ensures.ok (c.in_ok-push_str.ensures.bytes ∙ ap (λ x. string_bytes c.args.text.now ++ x) c.as_str.ensures.value)
    (c.in_ok-push_leaves.ensures ∙ ap (λ ts. string_bytes c.push_str.new.self ++ left_leaves_text (map told_leaf (ascending (all_tried_view ts)))) c.deref.ensures.value) c.push_str-2.ensures.bytes
