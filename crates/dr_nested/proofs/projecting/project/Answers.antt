use Rattle.std.proofs.Common.{◌∙◌}
use Rattle.dr_nested.proofs.ProjectingLemmas.{kept_projects}
use Rattle.dr_nested.proofs.projecting.project.Goals as goal

pub returns : goal.returns
returns c = c.in_ok-project_node.ensures ∙ kept_projects _ _ _ c.in_ok-selected.ensures
