-- What a plan stands for.
use Rattle.std.specs.Prelude.{map, string_bytes, option_map}
use Rattle.dr_formats.specs.Loading as meant
use Rattle.dr_nested.specs.SchemaView.{schema_view}
use Rattle.dr_page.specs.Views.{page_form_view}
use Rattle.dr_load.specs.declared.plan.Plan.{Plan}

abbrev pub plan_view : Plan → meant.Plan
plan_view p = record {
  schema = schema_view p.schema.now;
  directories = map string_bytes p.leaves.now;
  copies = p.copies;
  rows = p.rows;
  table = option_map (λ path. path.now) p.table;
  form = page_form_view p.form;
}
