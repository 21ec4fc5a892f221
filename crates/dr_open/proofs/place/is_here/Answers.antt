use Rattle.std.proofs.Common.{◌∙◌, sym, map}
use Rattle.std.specs.Prelude.{string_bytes}
use Rattle.std.proofs.lemmas.Bool.{eqb-false}
use Rattle.dr_meta.specs.Views.{item_view}
use Rattle.dr_nested.specs.Views.{kind_view}
use Rattle.dr_nested.specs.PathView.{step_view}
use Rattle.dr_open.proofs.FieldLemmas.{names_left, steps_left}
use Rattle.dr_open.proofs.place.is_here.Goals as goal
use Rattle.dr_open.proofs.place.is_here.Goals.{then-is_empty, else-is_empty}

pub returns-else-is_empty-2 : goal.returns-else-is_empty-2
returns-else-is_empty-2 c =
    c.if-is_empty-2.false ∙ sym (elim c.if-is_empty.branch [
      | then-is_empty w ↦
          steps_left step_view c.args.steps.now (map string_bytes c.args.names.now) (kind_view c.args.kind) (item_view c.args.item.now) (eqb-false _ _ (sym w.is_empty-then-is_empty.ensures ∙ (sym w.value-is ∙ c.if-is_empty-2.false)))
      | else-is_empty w ↦
          names_left string_bytes c.args.names.now (map step_view c.args.steps.now) (kind_view c.args.kind) (item_view c.args.item.now) (eqb-false _ _ (sym c.is_empty.ensures ∙ w.if-is_empty.false))
    ])
