use Rattle.std.proofs.Common.{◌≡◌, ◌∷◌, ◌∙◌, List, map, sym, ap, ap₂, subst}
use Rattle.std.specs.Prelude.{IsSome, string_bytes}
use Rattle.dr_formats.specs.FileSchema.{file_schema}
use Rattle.dr_meta.specs.declared.file.SchemaItem.{SchemaItem}
use Rattle.dr_meta.specs.Views.{item_view}
use Rattle.dr_nested.specs.PathView.{path_view, step_view}
use Rattle.dr_open.specs.Sources.{lacking_among, lacking_in_file, IsLackingGroup}
use Rattle.dr_open.proofs.SourceLemmas.{root_lacking, if_none, if_some}
use Rattle.dr_open.proofs.source.lacking_in.Goals as goal

pub returns-clause-none : goal.returns-clause-none
returns-clause-none c =
    let l = path_view c.args.path.now in
    let root = c.in_ok-root.root.now in
    let rest = c.in_ok-root.rest.now in
    let tree : IsSome (file_schema (map item_view (root ∷ rest))) = subst (λ (xs : List SchemaItem). IsSome (file_schema (map item_view xs))) c.in_ok-root.ensures.cases.0 c.requires in
    let whole : lacking_in_file l (file_schema (map item_view c.args.items.now)) ≡ lacking_among (map string_bytes c.deref.result.now) (map step_view c.deref-2.result.now) c.in_ok-fields.fields (map item_view rest) =
    ap (λ (xs : List SchemaItem). lacking_in_file l (file_schema (map item_view xs))) c.in_ok-root.ensures.cases.0
    ∙ (root_lacking l c.in_ok-fields.fields (item_view root) (map item_view rest) tree c.in_ok-fields.ensures
    ∙ sym (ap₂ (λ ns q. lacking_among (map string_bytes ns) (map step_view q) c.in_ok-fields.fields (map item_view rest)) c.deref.ensures.value c.deref-2.ensures.value)) in
    if_none c.lacking_group.result _ _ (λ e. whole ∙ e) c.lacking_group.ensures.none

pub returns-clause-some : goal.returns-clause-some
returns-clause-some c =
    let l = path_view c.args.path.now in
    let root = c.in_ok-root.root.now in
    let rest = c.in_ok-root.rest.now in
    let tree : IsSome (file_schema (map item_view (root ∷ rest))) = subst (λ (xs : List SchemaItem). IsSome (file_schema (map item_view xs))) c.in_ok-root.ensures.cases.0 c.requires in
    let whole : lacking_in_file l (file_schema (map item_view c.args.items.now)) ≡ lacking_among (map string_bytes c.deref.result.now) (map step_view c.deref-2.result.now) c.in_ok-fields.fields (map item_view rest) =
    ap (λ (xs : List SchemaItem). lacking_in_file l (file_schema (map item_view xs))) c.in_ok-root.ensures.cases.0
    ∙ (root_lacking l c.in_ok-fields.fields (item_view root) (map item_view rest) tree c.in_ok-fields.ensures
    ∙ sym (ap₂ (λ ns q. lacking_among (map string_bytes ns) (map step_view q) c.in_ok-fields.fields (map item_view rest)) c.deref.ensures.value c.deref-2.ensures.value)) in
    if_some c.lacking_group.result (λ g. IsLackingGroup g.parts g.fields (map item_view g.items.now) (lacking_among (map string_bytes c.deref.result.now) (map step_view c.deref-2.result.now) c.in_ok-fields.fields (map item_view rest)))
    (λ g. IsLackingGroup g.parts g.fields (map item_view g.items.now) (lacking_in_file l (file_schema (map item_view c.args.items.now))))
    (λ g h. (h.0, h.1, whole ∙ h.2)) c.lacking_group.ensures.some
