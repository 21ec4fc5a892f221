use Rattle.std.proofs.Common.{◌≡◌, arith}
use Rattle.dr_table.specs.LeftViews.{all_tried_view}
use Rattle.dr_table.proofs.ReportLemmas.{next_directory, told_ascending}
use Rattle.dr_table.proofs.report.push_leaves.Goals as goal

-- src/report.rt:61:5
pub directories-preserved : goal.directories-preserved
directories-preserved c = next_directory _ _ _ _ _ (all_tried_view c.args.tried.now) c.directories.directory c.directories.invariant.0 c.directories.invariant.1 c.in_ok-first.ensures.text c.in_ok-first.ensures.first

-- src/report.rt:57:1
pub returns : goal.returns
returns c =
    told_ascending c.directories.directory _ _ (all_tried_view c.args.tried.now) (let e : c.directories.directory ≡ 64 = omega (arith, c.directories-test.false, c.directories.auto.directory-end) in e) c.directories.invariant.0
