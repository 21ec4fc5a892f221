use Rattle.std.proofs.Common.{ap, ◌∙◌, string_bytes}
use Rattle.dr_table.proofs.ReportLemmas.{told_there, passed_over, views_next}
use Rattle.dr_table.proofs.report.push_directory.Goals as goal
use Rattle.dr_table.proofs.report.push_directory.Goals.{then-copy-directory+in_ok-push_tried, else-copy-directory}

-- src/report.rt:47:5
pub tried-preserved : goal.tried-preserved
tried-preserved c = elim c.if-copy-directory.branch [
  | then-copy-directory+in_ok-push_tried w ↦
      let there = told_there _ _ _ _ _ _ _ _ c.args.directory (views_next c.args.tried.now c.tried.copy-index _ c.tried-test.true) w.if-copy-directory.true c.tried.invariant.0 c.tried.invariant.1 w.in_ok-push_tried.ensures in
      (ap string_bytes w.text-is ∙ there.0, w.first-is ∙ there.1)
  | else-copy-directory w ↦
      let over = passed_over _ _ _ _ _ _ _ c.args.directory (views_next c.args.tried.now c.tried.copy-index _ c.tried-test.true) w.if-copy-directory.false c.tried.invariant.0 c.tried.invariant.1 in
      (ap string_bytes w.text-is ∙ over.0, w.first-is ∙ over.1)
]
