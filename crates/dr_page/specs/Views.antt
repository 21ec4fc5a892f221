-- What pages and dictionaries stand for.
use Rattle.std.specs.Prelude.{List, map, Bool, true, false}
use Rattle.dr_meaning.specs.Schema as tree
use Rattle.dr_meaning.specs.Record.{Value, bool_value, int_value}
use Rattle.dr_nested.specs.Views.{kind_view}
use Rattle.dr_levels.specs.Dense.{text_values}
use Rattle.dr_levels.specs.Views.{LeafForm, form}
use Rattle.dr_formats.specs.Page as page
use Rattle.dr_formats.specs.Page.{PageShape, data_page_v1, data_page_v2}
use Rattle.dr_page.specs.declared.shape.PageForm.{PageForm}
use Rattle.dr_page.specs.declared.shape.Shape.{Shape}
use Rattle.dr_page.specs.declared.dictionary.Entries.{Entries}
use Rattle.dr_page.specs.declared.dictionary.Dictionary.{Dictionary}

abbrev pub page_form_view : PageForm → page.PageForm
page_form_view PageForm.V1 = data_page_v1
page_form_view PageForm.V2 = data_page_v2

abbrev pub shape_view : Shape → PageShape
shape_view s = record {
  form = page_form_view s.form;
  triplets = s.triplets;
  encoding = s.encoding;
  definition_encoding = s.definition_encoding;
  repetition_encoding = s.repetition_encoding;
  definition_bytes = s.definition_bytes;
  repetition_bytes = s.repetition_bytes;
  kind = kind_view s.kind;
  max_repetition = s.max_repetition;
  max_definition = s.max_definition;
}

-- the form of columns that take a page's triplets
abbrev pub shape_form : Shape → LeafForm
shape_form s = form (kind_view s.kind) s.max_definition

abbrev pub entries_view : Entries → List Value
entries_view (Entries.Bools v) = map bool_value v.items
entries_view (Entries.Integers v) = map int_value v.items
entries_view (Entries.Texts ts) = text_values ts.bytes.items ts.places.items

-- the values of a dictionary
abbrev pub dictionary_view : Dictionary → List Value
dictionary_view d = entries_view d.entries

abbrev pub are_entries_of : tree.Kind → Entries → Bool
are_entries_of tree.bool_kind (Entries.Bools v) = true
are_entries_of tree.int32_kind (Entries.Integers v) = true
are_entries_of tree.int64_kind (Entries.Integers v) = true
are_entries_of tree.text_kind (Entries.Texts ts) = true
are_entries_of k es = false

-- whether a dictionary is one of a kind: whole numbers of either size alike
abbrev pub is_dictionary_of : tree.Kind → Dictionary → Bool
is_dictionary_of k d = are_entries_of k d.entries
