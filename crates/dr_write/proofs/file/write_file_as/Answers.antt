use Rattle.std.proofs.Common.{◌∙◌, ap, ◌++◌}
use Rattle.dr_formats.specs.File.{magic}
use Rattle.dr_nested.specs.SchemaView.{schema_view}
use Rattle.dr_levels.specs.Views.{columns_view}
use Rattle.dr_meta.specs.Views.{groups_view}
use Rattle.dr_page.specs.Views.{page_form_view}
use Rattle.dr_write.specs.Leaves.{leaves_view}
use Rattle.dr_write.proofs.RecordLemmas.{file_is_written}
use Rattle.dr_write.proofs.file.write_file_as.Goals as goal

pub returns : goal.returns
returns c = record {
  bytes = λ R h e. file_is_written (page_form_view c.args.form) (schema_view c.args.schema.now) R (leaves_view c.deref.result.now) (columns_view c.args.columns.now) c.in_ok-rows.rows.number c.args.rows
      c.extend_from_slice.new.self.items c.append_groups.new.out.items c.append_footer.new.out.items (groups_view c.in_ok-groups.groups)
      (ap leaves_view c.deref.ensures.value ∙ c.in_ok-leaves.ensures) h e c.in_ok-rows.ensures (c.in_ok-extend_from_slice.ensures.items ∙ ap (λ xs. xs ++ magic) c.new-out.ensures.items)
      c.in_ok-groups.ensures.bytes c.in_ok-groups.ensures.groups c.in_ok-append_footer.ensures;
}
