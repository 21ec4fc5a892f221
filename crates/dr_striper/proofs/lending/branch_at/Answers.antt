use Rattle.std.proofs.Common.{sym, ap, ◌∙◌}
use Rattle.dr_striper.specs.Views.{shape_view, twig_view}
use Rattle.dr_striper.proofs.PassingLemmas.{shape-here}
use Rattle.dr_striper.proofs.LentLemmas.{twig_there}
use Rattle.dr_striper.proofs.lending.branch_at.Goals as goal

pub returns-clause-shape : goal.returns-clause-shape
returns-clause-shape c = ap shape_view c.index-branches-place.is ∙ sym (shape-here c.args.place c.args.branches.now c.index-branches-place.result c.requires)

pub returns-clause-twig : goal.returns-clause-twig
returns-clause-twig c = ap twig_view c.index-branches-place.is ∙ twig_there c.args.place c.args.branches.now c.index-branches-place.result c.requires
