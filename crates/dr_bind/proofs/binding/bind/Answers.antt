use Rattle.std.proofs.Common.{[], sym, ap, ◌∙◌}
use Rattle.std.specs.Prelude.{option_map}
use Rattle.dr_meaning.specs.Binding as meant
use Rattle.dr_meaning.specs.Schema.{Schema}
use Rattle.dr_meaning.specs.Syntax.{QuerySyntax}
use Rattle.dr_nested.specs.SchemaView.{schema_view}
use Rattle.dr_planning.specs.NamedLevels.{levels_view}
use Rattle.dr_sql.specs.Views as syntax
use Rattle.dr_resolve.specs.Faults.{first_view, fault_view}
use Rattle.dr_bind.proofs.BindLemmas.{all_noted, refused_with, bound_without_faults}
use Rattle.dr_bind.proofs.binding.bind.Goals as goal

pub returns-in-Some : goal.returns-in-Some
returns-in-Some c =
    let s : Schema = schema_view c.args.schema.now in
    let q : QuerySyntax = syntax.query_view c.args.query.now in
    refused_with s q (fault_view c.in-Some.fault)
    (sym (all_noted s q (first_view c.none-first.result) (first_view c.note_table.new.first) (first_view c.parts.new.first) (first_view c.note_rules.new.first) c.none-first.ensures c.note_table.ensures c.in_ok-parts.ensures.first (c.note_rules.ensures s.fields [] (meant.bind_parts s.fields q) (rw (c.deref-2.ensures, c.in_ok-parts-2.ensures.ok) c.in_ok-parts.ensures.parts) (ap levels_view c.deref.ensures.value ∙ c.in_ok-levels.ensures)))
    ∙ ap (option_map fault_view) c.in-Some.is)

pub returns : goal.returns
returns c =
    let s : Schema = schema_view c.args.schema.now in
    let q : QuerySyntax = syntax.query_view c.args.query.now in (
      meant.query_of (meant.bind_parts s.fields q),
      bound_without_faults s q
          (sym (all_noted s q (first_view c.none-first.result) (first_view c.note_table.new.first) (first_view c.parts.new.first) (first_view c.note_rules.new.first) c.none-first.ensures c.note_table.ensures c.in_ok-parts.ensures.first (c.note_rules.ensures s.fields [] (meant.bind_parts s.fields q) (rw (c.deref-2.ensures, c.in_ok-parts-2.ensures.ok) c.in_ok-parts.ensures.parts) (ap levels_view c.deref.ensures.value ∙ c.in_ok-levels.ensures)))
          ∙ ap (option_map fault_view) c.in-None.is),
      c.in_ok-plan_without_faults-in-None.ensures,
    )
