-- The values in a row's slots are those of the plan's leaves in that row.
use Rattle.std.specs.Prelude.{◌≡◌, List, map, true}
use Rattle.std.proofs.Common.{sym, ap, ◌∙◌, subst}
use Rattle.std.proofs.lemmas.Simd.{map-map}
use Rattle.dr_meaning.specs.Path.{Step, Leaf}
use Rattle.dr_meaning.specs.Schema.{Fields}
use Rattle.dr_meaning.specs.Record.{Node}
use Rattle.dr_meaning.specs.Rows.{value_at}
use Rattle.dr_meaning.specs.Query.{Query}
use Rattle.dr_meaning.specs.QueryLeaves.{query_leaves}
use Rattle.dr_meaning.specs.BindingLaws.{has_shapes}
use Rattle.dr_nested.specs.PathView.{path_view, step_view, paths_view}
use Rattle.dr_nested.specs.declared.path.Path.{Path}
use Rattle.dr_scalar.specs.Slots.{AreValues}
use Rattle.dr_scalar.proofs.TypeLemmas.{rows_give_values}
use Rattle.dr_rows.specs.Known.{Known, known}
use Rattle.dr_rows.specs.Views.{lent_cells, row_view}
use Rattle.dr_rows.specs.declared.row.Row.{Row}

-- values of leaves, by their paths
pub values_of_leaves : (ls : List Path) (row : Node) → map (λ p. value_at p row) (paths_view ls) ≡ map (λ (l : Leaf). value_at l.path row) (map path_view ls)
values_of_leaves ls row = map-map (λ p. value_at p row) (λ (l : Path). map step_view l.steps.items) ls ∙ sym (map-map (λ (l : Leaf). value_at l.path row) path_view ls)

-- what is known of a row gives the values in its slots
pub slots_are : (fs : Fields) (q : Query) (ls : List Path) (chain : List Step) (row : Node) (r : Row) → map path_view ls ≡ query_leaves fs q → has_shapes fs row ≡ true
    → row_view r ≡ known (paths_view ls) chain row → AreValues (map path_view ls) r.values.now row
slots_are fs q ls chain row r e h k =
    let values : lent_cells r.values.now ≡ map (λ (l : Leaf). value_at l.path row) (query_leaves fs q) =
    ap (λ (x : Known). x.values) k ∙ values_of_leaves ls row ∙ ap (map (λ (l : Leaf). value_at l.path row)) e in
    let P : List Leaf → Type 0 = λ ms. AreValues ms r.values.now row in
    subst P (sym e) (rows_give_values fs q r.values.now row h values)
