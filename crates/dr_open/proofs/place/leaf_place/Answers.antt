use Rattle.std.proofs.Common.{◌≤◌, List, ◌∷◌, ◌∙◌, sym, ap, subst, map, length, arith}
use Rattle.std.specs.Prelude.{IsSome, string_bytes}
use Rattle.std.proofs.lemmas.List.{length-map}
use Rattle.dr_meaning.specs.Schema.{greatest_depth}
use Rattle.dr_formats.specs.FileSchema.{file_schema}
use Rattle.dr_meta.specs.declared.file.SchemaItem.{SchemaItem}
use Rattle.dr_meta.specs.Views.{item_view}
use Rattle.dr_nested.specs.declared.path.Step.{Step}
use Rattle.dr_nested.specs.Views.{kind_view}
use Rattle.dr_nested.specs.PathView.{path_view, step_view}
use Rattle.dr_open.specs.Places.{place_in_file, place_in_shape}
use Rattle.dr_open.proofs.PlaceLemmas.{leaf_at}
use Rattle.dr_open.proofs.FieldLemmas.{root_place}
use Rattle.dr_open.proofs.place.leaf_place.Goals as goal

pub returns : goal.returns
returns c =
    let p = c.args.path.now in
    let parts : length (map step_view p.steps.items) ≤ greatest_depth = omega (arith, p.within, length-map p.steps.items step_view) in
    let tree : IsSome (file_schema (map item_view (c.in_ok-root.root.now ∷ c.in_ok-root.rest.now))) = subst (λ (xs : List SchemaItem). IsSome (file_schema (map item_view xs))) c.in_ok-root.ensures.cases.0 c.requires in
    c.place_below.ensures.place
    ∙ (ap (λ ns. place_in_shape (leaf_at (map string_bytes ns) (map step_view c.deref-2.result.now) (kind_view p.kind)) (item_view c.in_ok-root.root.now) (map item_view c.in_ok-root.rest.now)) c.deref.ensures.value
    ∙ (ap (λ (ss : List Step). place_in_shape (leaf_at (map string_bytes p.names.items) (map step_view ss) (kind_view p.kind)) (item_view c.in_ok-root.root.now) (map item_view c.in_ok-root.rest.now)) c.deref-2.ensures.value
    ∙ (sym (root_place (path_view p) (item_view c.in_ok-root.root.now) (map item_view c.in_ok-root.rest.now) parts tree)
    ∙ ap (λ (xs : List SchemaItem). place_in_file (path_view p) (file_schema (map item_view xs))) (sym c.in_ok-root.ensures.cases.0))))
