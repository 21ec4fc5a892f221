use Rattle.std.proofs.Common.{◌∙◌, ap₂}
use Rattle.dr_meaning.specs.Expression.{occurs_in}
use Rattle.dr_scalar.proofs.OccursLemmas.{occurs_as_found}
use Rattle.dr_scalar.proofs.contains.occurs.Goals as goal

pub returns : goal.returns
returns c = c.is_some.ensures ∙ (occurs_as_found c.as_bytes-2.result.now c.as_bytes.result.now c.find.result c.find.ensures ∙ ap₂ occurs_in c.as_bytes-2.ensures.value c.as_bytes.ensures.value)
