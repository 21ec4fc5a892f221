use Rattle.std.proofs.Common.{◌≡◌, ◌≤◌, ◌-◌, ◌∙◌, map, take, length, sym, ap, arith}
use Rattle.std.specs.Prelude.{Option, option_map}
use Rattle.std.proofs.lemmas.List.{length-map}
use Rattle.dr_meaning.specs.Schema.{greatest_depth}
use Rattle.dr_meaning.specs.Path.{max_repetition, max_definition}
use Rattle.dr_formats.specs.FileSchema.{file_schema}
use Rattle.dr_meta.specs.Views.{item_view}
use Rattle.dr_nested.specs.declared.path.Path.{Path}
use Rattle.dr_nested.specs.Views.{fields_view}
use Rattle.dr_nested.specs.PathView.{path_view, step_view}
use Rattle.dr_open.specs.OpenViews.{fields_part_view}
use Rattle.dr_open.specs.Sources.{first_leaf, first_opened}
use Rattle.dr_open.proofs.SourceLemmas.{part_first, opened_is_short, leaf_there, source_told, taken}
use Rattle.dr_open.proofs.source.other_source.Goals as goal

pub first_leaf_behind-requires-clause-short : goal.first_leaf_behind-requires-clause-short
first_leaf_behind-requires-clause-short c = λ l h.
    let g = c.requires.group in
    let k = c.args.group.parts in
    let p = c.args.path.now in
    let first : first_leaf (fields_view c.in_ok-opened.field-0.fields.items) ≡ first_opened (greatest_depth - k) (g.0).fields =
    part_first (greatest_depth - k) c.args.group.fields (map item_view c.args.group.items.now) g.0 (fields_part_view c.in_ok-opened.field-0 c.args.group.items.now) g.1 c.in_ok-opened.ensures.part in
    let short : length l.path ≤ greatest_depth - k = opened_is_short (greatest_depth - k) (g.0).fields l (sym first ∙ h) in
    omega (arith, short, c.requires.steps, p.within)

pub unreachable-requires : goal.unreachable-requires
unreachable-requires c =
    let g = c.requires.group in
    let k = c.args.group.parts in
    let p = c.args.path.now in
    let first : first_leaf (fields_view c.in_ok-opened.field-0.fields.items) ≡ first_opened (greatest_depth - k) (g.0).fields =
    part_first (greatest_depth - k) c.args.group.fields (map item_view c.args.group.items.now) g.0 (fields_part_view c.in_ok-opened.field-0 c.args.group.items.now) g.1 c.in_ok-opened.ensures.part in
    let deep : length (map step_view p.steps.items) ≤ greatest_depth = omega (arith, p.within, length-map p.steps.items step_view) in
    leaf_there (path_view p) (file_schema (map item_view c.args.items.now)) k (g.0).fields (path_view c.in-Some.leaf) (first_leaf (fields_view c.in_ok-opened.field-0.fields.items)) deep c.requires.inner g.2 first
    (sym (ap (λ (o : Option Path). option_map path_view o) c.in-Some.is) ∙ c.in_ok-leaf.ensures) (sym c.leaf_place.ensures ∙ c.in_default-leaf_place.is)

pub returns-clause-source : goal.returns-clause-source
returns-clause-source c =
    let g = c.requires.group in
    let k = c.args.group.parts in
    let p = c.args.path.now in
    let first : first_leaf (fields_view c.in_ok-opened.field-0.fields.items) ≡ first_opened (greatest_depth - k) (g.0).fields =
    part_first (greatest_depth - k) c.args.group.fields (map item_view c.args.group.items.now) g.0 (fields_part_view c.in_ok-opened.field-0 c.args.group.items.now) g.1 c.in_ok-opened.ensures.part in
    let repetition : c.group_levels-levels.result.repetition ≡ max_repetition (take k (path_view p).path) =
    c.group_levels-levels.ensures.repetition ∙ (ap (λ xs. max_repetition (map step_view (take k xs))) c.deref.ensures.value ∙ ap max_repetition (taken step_view k p.steps.items)) in
    let definition : c.group_levels-levels.result.definition ≡ max_definition (take k (path_view p).path) =
    c.group_levels-levels.ensures.definition ∙ (ap (λ xs. max_definition (map step_view (take k xs))) c.deref.ensures.value ∙ ap max_definition (taken step_view k p.steps.items)) in
    source_told (path_view p) (file_schema (map item_view c.args.items.now)) k (g.0).fields (path_view c.in-Some.leaf) (first_leaf (fields_view c.in_ok-opened.field-0.fields.items)) c.group_levels-levels.result.repetition
    c.group_levels-levels.result.definition c.requires.inner g.2 first (sym (ap (λ (o : Option Path). option_map path_view o) c.in-Some.is) ∙ c.in_ok-leaf.ensures) repetition definition
