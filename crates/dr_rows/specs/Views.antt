-- What rows of values stand for.
use Rattle.std.specs.Prelude.{ℕ, List, [], ◌∷◌, map, take, drop, Option, option_map, ◌≡◌, ◌++◌, true}
use Rattle.dr_meaning.specs.Path as path
use Rattle.dr_meaning.specs.Record as record_tree
use Rattle.dr_meaning.specs.Rows.{rows}
use Rattle.dr_nested.specs.Views.{value_view, node_view}
use Rattle.dr_nested.specs.PathView.{step_view, paths_view}
use Rattle.dr_nested.specs.declared.path.Path.{Path}
use Rattle.dr_levels.specs.Views.{lent_value}
use Rattle.dr_levels.specs.declared.triplet.ValueRef.{ValueRef}
use Rattle.dr_rows.specs.declared.instance_ref.InstanceRef.{InstanceRef}
use Rattle.dr_rows.specs.declared.row.Row.{Row}
use Rattle.dr_rows.specs.declared.table.Rows.{Rows}
use Rattle.dr_rows.specs.Known.{Known, known, is_cut}

-- an instance that is lent
abbrev pub lent_instance : InstanceRef → record_tree.Instance
lent_instance (InstanceRef.Atom v) = record_tree.atom (value_view v.now)
lent_instance (InstanceRef.Group n) = record_tree.inner (node_view n.now)

-- values that are lent, NULL where there is none
abbrev pub lent_cells : List (Option ValueRef) → List (Option record_tree.Value)
lent_cells vs = map (option_map lent_value) vs

-- what a lent row tells
abbrev pub row_view : Row → Known
row_view r = record { values = lent_cells r.values.now; end = option_map lent_instance r.end }

-- rows whose values stand one behind another, so many of each
abbrev pub rows_from : ℕ → List (Option ValueRef) → List (Option InstanceRef) → List Known
rows_from width vs [] = []
rows_from width vs (e ∷ es) = record { values = lent_cells (take width vs); end = option_map lent_instance e } ∷ rows_from width (drop width vs) es

-- what is known of each row, in order
abbrev pub rows_view : Rows → List Known
rows_view t = rows_from t.width t.values.items t.ends.items

-- how many values each row has
abbrev pub rows_width : Rows → ℕ
rows_width t = t.width

-- these rows join others
abbrev pub RowsJoin : List Known → Rows → Rows → Type 0
RowsJoin more before after = rows_view after ≡ rows_view before ++ more

-- these are what is known of the rows of a chain
abbrev pub AreRowsOf : List Path → List path.Step → record_tree.Node → Rows → Type 0
AreRowsOf leaves chain whole t = rows_view t ≡ map (known (paths_view leaves) chain) (rows chain whole)

-- what is said of a row that is cut along a chain, of which this is what is known
abbrev pub OverCut : List Path → List path.Step → Row → (record_tree.Node → Type 0) → Type 0
OverCut leaves chain row says = (whole : record_tree.Node) → is_cut chain whole ≡ true → row_view row ≡ known (paths_view leaves) chain whole → says whole
