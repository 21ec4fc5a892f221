use Rattle.std.proofs.Common.{◌≡◌, ◌∙◌, List, map, length, sym, ap, ap₂, subst, Bool}
use Rattle.std.proofs.lemmas.List.{length-map}
use Rattle.std.specs.Prelude.{is_some}
use Rattle.std.specs.List.{list_all, flat_map}
use Rattle.std.proofs.lemmas.Result.{err_from_is_err_and}
use Rattle.dr_formats.specs.FileSchema.{file_schema, file_leaves}
use Rattle.dr_formats.specs.Lacking.{source_in, has_source, leaf_read}
use Rattle.dr_meta.specs.declared.file.SchemaItem.{SchemaItem}
use Rattle.dr_meta.specs.Views.{item_view, group_view, file_view}
use Rattle.dr_nested.specs.PathView.{path_view}
use Rattle.dr_open.specs.Sources.{source_in_file}
use Rattle.dr_file.specs.Groups.{chunk_of, are_uncompressed_at, are_numbers_at}
use Rattle.dr_file.specs.Sources.{AreSources, places_read, AreBelow}
use Rattle.dr_open.specs.declared.column_source.LeafSource.{LeafSource}
use Rattle.dr_file.specs.Openings.{opened_field_view, shown_by_each, footer_with, footer_cause, IsOpenedAs, IsOpenFault, IsPlacesFault}
use Rattle.dr_file.proofs.OpeningLemmas.{no_footer, tree_there, chunks_there, as_many_sources, read_places, all_below, sources_there, schema_cause, opened_by_sources, fault_by_sources, ok_both, err_by}
use Rattle.dr_file.proofs.opening.open_meta.Goals as goal

pub returns-in_err-whole_leaves-clause-fault : goal.returns-in_err-whole_leaves-clause-fault
returns-in_err-whole_leaves-clause-fault c = λ place.
    let p = err_from_is_err_and c.from_residual.result c.from_residual.ensures.1 in
    rw (p.1, p.2) (no_footer c.in_err-whole_leaves.field-0.0 (map path_view c.args.fields.now) _ (c.in_err-whole_leaves.ensures.fault place))

pub returns-in-None-clause-fault : goal.returns-in-None-clause-fault
returns-in-None-clause-fault c = λ place.
    let m = file_view c.args.meta.now in
    let F = map path_view c.args.fields.now in
    let leaves = c.in_ok-whole_leaves.field-0 in
    let t = tree_there (file_schema m.schema) leaves c.in_ok-whole_leaves.ensures.leaves in
    let w = c.in_ok-whole_leaves.ensures.whole in
    let n = rw c.in-None.is at c.in_ok-sources.ensures.none in
    schema_cause place m t.0 leaves F t.1 t.2 w (ap (λ xs. list_all (λ l. has_source (source_in_file l (file_schema (map item_view xs)))) F) (sym c.deref.ensures.value) ∙ n)

pub returns-in-Some-clause-opened : goal.returns-in-Some-clause-opened
returns-in-Some-clause-opened c = λ place.
    let m = file_view c.args.meta.now in
    let F = map path_view c.args.fields.now in
    let is = c.in-Some.sources.items in
    let leaves = c.in_ok-whole_leaves.field-0 in
    let t = tree_there (file_schema m.schema) leaves c.in_ok-whole_leaves.ensures.leaves in
    let w = c.in_ok-whole_leaves.ensures.whole in
    let n = rw c.in-Some.is at c.in_ok-sources.ensures.found in
    let h = subst (λ (xs : List SchemaItem). AreSources (file_schema (map item_view xs)) F is) c.deref.ensures.value n in
    let e = ap₂ (λ xs ys. shown_by_each (map group_view xs) F ys) c.deref-in-Some.ensures.value c.deref-in-Some-2.ensures.value in
    ok_both c.open_sources.result (λ v. map opened_field_view v.items) _ (shown_by_each m.groups F is) _ (λ v. IsOpenedAs (footer_with place m) F m.rows (map opened_field_view v.items)) e c.open_sources.ensures.shown c.open_sources.ensures.good
    (λ v s b. opened_by_sources place m t.0 leaves F is (map opened_field_view v.items) t.1 t.2 w h
    (ap₂ (λ xs ys. are_uncompressed_at (map group_view xs) (places_read ys)) (sym c.deref-in-Some.ensures.value) (sym c.deref-in-Some-2.ensures.value) ∙ b.0)
    (ap₂ (λ xs ys. are_numbers_at (map group_view xs) m.rows (places_read ys)) (sym c.deref-in-Some.ensures.value) (sym c.deref-in-Some-2.ensures.value)
    ∙ (ap (λ r. are_numbers_at (map group_view c.deref-in-Some.result.now) r (places_read c.deref-in-Some-2.result.now)) (sym c.get.ensures) ∙ b.1)) s)

pub returns-in-Some-clause-fault : goal.returns-in-Some-clause-fault
returns-in-Some-clause-fault c = λ place.
    let m = file_view c.args.meta.now in
    let F = map path_view c.args.fields.now in
    let is = c.in-Some.sources.items in
    let leaves = c.in_ok-whole_leaves.field-0 in
    let t = tree_there (file_schema m.schema) leaves c.in_ok-whole_leaves.ensures.leaves in
    let w = c.in_ok-whole_leaves.ensures.whole in
    let n = rw c.in-Some.is at c.in_ok-sources.ensures.found in
    let h = subst (λ (xs : List SchemaItem). AreSources (file_schema (map item_view xs)) F is) c.deref.ensures.value n in
    let gs = map group_view c.deref-in-Some.result.now in
    let js = c.deref-in-Some-2.result.now in
    let u : are_uncompressed_at gs (places_read js) ≡ are_uncompressed_at m.groups (places_read is) = ap₂ (λ xs ys. are_uncompressed_at (map group_view xs) (places_read ys)) c.deref-in-Some.ensures.value c.deref-in-Some-2.ensures.value in
    let v : are_numbers_at gs c.get.result (places_read js) ≡ are_numbers_at m.groups m.rows (places_read is) =
    ap (λ r. are_numbers_at gs r (places_read js)) c.get.ensures ∙ ap₂ (λ xs ys. are_numbers_at (map group_view xs) m.rows (places_read ys)) c.deref-in-Some.ensures.value c.deref-in-Some-2.ensures.value in
    err_by c.open_sources.result (λ e. IsPlacesFault e (are_uncompressed_at gs (places_read js)) (are_numbers_at gs c.get.result (places_read js))) (λ e. IsOpenFault e (footer_cause F (footer_with place m))) c.open_sources.ensures.fault
    (λ e a.
    let P : Bool → Type 0 = λ b. IsPlacesFault e b (are_numbers_at gs c.get.result (places_read js)) in
    let Q : Bool → Type 0 = λ b. IsPlacesFault e (are_uncompressed_at m.groups (places_read is)) b in
    fault_by_sources e place m t.0 leaves F is t.1 t.2 w h (subst Q v (subst P u a)))

pub open_sources-requires-clause-there : goal.open_sources-requires-clause-there
open_sources-requires-clause-there c =
    let m = file_view c.args.meta.now in
    let F = map path_view c.args.fields.now in
    let is = c.in-Some.sources.items in
    let leaves = c.in_ok-whole_leaves.field-0 in
    let t = tree_there (file_schema m.schema) leaves c.in_ok-whole_leaves.ensures.leaves in
    let w = c.in_ok-whole_leaves.ensures.whole in
    let n = rw c.in-Some.is at c.in_ok-sources.ensures.found in
    let h = subst (λ (xs : List SchemaItem). AreSources (file_schema (map item_view xs)) F is) c.deref.ensures.value n in
    ap₂ (λ xs ys. list_all (λ i. list_all (λ g. is_some (chunk_of i g)) (map group_view xs)) (places_read ys)) c.deref-in-Some.ensures.value c.deref-in-Some-2.ensures.value
    ∙ chunks_there m.groups (file_leaves (t.0).fields) leaves (flat_map (λ l. leaf_read l (source_in t.0 l)) F) (places_read is) t.2 w (read_places t.0 F is (sources_there (file_schema m.schema) t.0 F is t.1 h))

pub open_sources-requires-clause-as_many : goal.open_sources-requires-clause-as_many
open_sources-requires-clause-as_many c =
    let m = file_view c.args.meta.now in
    let F = map path_view c.args.fields.now in
    let is = c.in-Some.sources.items in
    let n = rw c.in-Some.is at c.in_ok-sources.ensures.found in
    sym (length-map c.args.fields.now path_view) ∙ (as_many_sources (file_schema (map item_view c.deref.result.now)) F is n ∙ sym (ap (λ (xs : List LeafSource). length xs) c.deref-in-Some-2.ensures.value))

pub open_sources-requires-clause-below : goal.open_sources-requires-clause-below
open_sources-requires-clause-below c =
    let m = file_view c.args.meta.now in
    let F = map path_view c.args.fields.now in
    let is = c.in-Some.sources.items in
    let leaves = c.in_ok-whole_leaves.field-0 in
    let t = tree_there (file_schema m.schema) leaves c.in_ok-whole_leaves.ensures.leaves in
    let n = rw c.in-Some.is at c.in_ok-sources.ensures.found in
    let h = subst (λ (xs : List SchemaItem). AreSources (file_schema (map item_view xs)) F is) c.deref.ensures.value n in
    subst (λ (xs : List LeafSource). AreBelow F xs) (sym c.deref-in-Some-2.ensures.value) (all_below t.0 F is (sources_there (file_schema m.schema) t.0 F is t.1 h))
