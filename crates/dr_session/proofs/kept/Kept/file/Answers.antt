use Rattle.std.proofs.Common.{sym, ap, ◌∙◌}
use Rattle.dr_nested.specs.SchemaView.{schema_view}
use Rattle.dr_levels.specs.Views.{columns_view, forms_view}
use Rattle.dr_striper.specs.Striping.{forms_of}
use Rattle.dr_striper.specs.Stripers.{striped, striped_leaves}
use Rattle.dr_striper.proofs.SchemaLeafLemmas.{leaves_of_schema}
use Rattle.dr_session.proofs.KeptLemmas.{kept_columns_fit, kept_have_columns, file_is, none_kept, on_ok}
use Rattle.dr_session.proofs.kept.Kept.file.Goals as goal

pub new-requires : goal.new-requires
new-requires c = leaves_of_schema (schema_view c.args.schema.now).fields _ c.requires.kept.1.fields_are

pub write_file_as-requires : goal.write_file_as-requires
write_file_as-requires c =
    let s = schema_view c.args.schema.now in
    record {
      columns = kept_columns_fit s c.requires.kept.0 c.args.self.now c.deref.result.now c.requires.kept.1
          (ap columns_view c.deref.ensures.value ∙ c.in_ok-columns.ensures.columns ∙ ap striped c.replace.ensures.value)
          (ap forms_view c.deref.ensures.value ∙ c.in_ok-columns.ensures.forms ∙ ap (λ x. forms_of (striped_leaves x)) c.replace.ensures.value);
    }

pub returns-clause-file : goal.returns-clause-file
returns-clause-file c = λ R h.
    let s = schema_view c.args.schema.now in
    file_is s R c.args.self.now c.write_file_as.result h c.args.schema.now.valid
    (c.write_file_as.ensures.bytes R
    (kept_have_columns s R c.args.self.now _ h (ap columns_view c.deref.ensures.value ∙ c.in_ok-columns.ensures.columns ∙ ap striped c.replace.ensures.value))
    (h.count_is ∙ sym (c.from.ensures ∙ c.replace-count.ensures.value)))

pub returns-clause-none : goal.returns-clause-none
returns-clause-none c =
    let s = schema_view c.args.schema.now in
    let h = c.requires.kept.1 in
    on_ok _ c.write_file_as.result
    (none_kept s _ h.fields_are (ap striped_leaves c.replace.ensures.after ∙ c.in_ok-next.ensures.leaves) (ap striped c.replace.ensures.after ∙ c.in_ok-next.ensures.columns) c.replace-count.ensures.after)
