use Rattle.std.proofs.Common.{◌∙◌, ap, ap₂, sym}
use Rattle.dr_scalar.specs.Leaves.{greater}
use Rattle.dr_columns.specs.Takings.{taken_at}
use Rattle.dr_columns.proofs.FiringLemmas.{taken_of, taken_rows}
use Rattle.dr_columns.proofs.firing.leaf_of.Goals as goal

pub returns-in-Rows : goal.returns-in-Rows
returns-in-Rows c = c.last_of.ensures ∙ taken_rows c.args.keys.now c.args.aggregate.now c.in-Rows.is

pub returns-in-Of : goal.returns-in-Of
returns-in-Of c =
    c.later.ensures
    ∙ (ap₂ greater c.last_of-in-Of.ensures c.last_leaf.ensures
    ∙ (taken_of c.args.keys.now c.in-Of.field-0 c.in-Of.expression ∙ ap (taken_at c.args.keys.now) (sym c.in-Of.is)))
