use Rattle.std.proofs.Common.{◌∙◌, ap, sym, [], List}
use Rattle.dr_planning.specs.declared.listed.Listed.{Listed}
use Rattle.dr_nested.specs.Views.{fields_view}
use Rattle.dr_planning.specs.NamedLevels.{append_named, fields_named, levels_view}
use Rattle.dr_planning.proofs.LevelLemmas.{joined-fields}
use Rattle.dr_planning.proofs.levels.levels_of.Goals as goal

pub returns : goal.returns
returns c =
    let fs = fields_view c.args.schema.now.fields.items in
    c.in_ok-push_fields.ensures ∙ ap (λ (ls : List Listed). append_named (levels_view ls) (fields_named fs 0 [] [])) c.new-levels.ensures.items ∙ sym (joined-fields fs 0 [] [])
