-- The cells of an object: its items', its counts, its lists'.
use Rattle.std.specs.Prelude.{◌≡◌, ℕ, List, [], ◌∷◌, ◌++◌, map, filter, Bool, true, false, if◌then◌else◌, Option, Some, None, option_map, is_some}
use Rattle.std.specs.List.{slice_get, flat_map}
use Rattle.std.proofs.Common.{refl, sym, ap, ap₂, ◌∙◌, append_assoc, append-nil}
use Rattle.std.proofs.lemmas.Bool.{and_parts}
use Rattle.dr_meaning.specs.Path.{Step}
use Rattle.dr_meaning.specs.Record.{Node}
use Rattle.dr_meaning.specs.Rows.{is_present}
use Rattle.dr_meaning.specs.Query.{RecordItem, Object, objects_of}
use Rattle.dr_nested.specs.declared.path.Path.{Path}
use Rattle.dr_plan.specs.Objects.{ObjectTree, object_tree, ListTrees, no_lists, list_tree, cell_of, tree_cells, tree_object, tree_lists}
use Rattle.dr_cells.specs.Results.{ResultCell, own_values, own_counts, inner_cells, all_cells, object_cells}
use Rattle.dr_rows.specs.Known.{Known}
use Rattle.dr_rows.specs.Views.{row_view, lent_instance}
use Rattle.dr_rows.specs.declared.row.Row.{Row}
use Rattle.dr_rows.specs.declared.instance_ref.InstanceRef.{InstanceRef}
use Rattle.dr_rows.proofs.RowLawLemmas.{present_end}
use Rattle.dr_mean.specs.Nested.{items_are_below, is_nested, are_nested}
use Rattle.dr_mean.specs.ObjectCells.{item_cells, items_cells, instance_cells}
use Rattle.dr_mean.specs.RowsOf.{IsRow}

one_value : (o : Option RecordItem) (row : Node) (rest : Object) → own_values (cell_of o row rest) ≡ item_cells o row ++ own_values rest
one_value None row rest = refl
one_value (Some i) row rest = refl

one_count : (o : Option RecordItem) (row : Node) (rest : Object) → own_counts (cell_of o row rest) ≡ own_counts rest
one_count None row rest = refl
one_count (Some i) row rest = refl

one_inner : (o : Option RecordItem) (row : Node) (rest : Object) → inner_cells (cell_of o row rest) ≡ inner_cells rest
one_inner None row rest = refl
one_inner (Some i) row rest = refl

values_of_cells : (items : List RecordItem) (ns : List ℕ) (row : Node) (rest : Object) → own_values (tree_cells items ns row rest) ≡ items_cells items ns row ++ own_values rest
values_of_cells items [] row rest = refl
values_of_cells items (n ∷ ns) row rest =
    one_value (slice_get items n) row (tree_cells items ns row rest) ∙ ap (λ (cs : List ResultCell). item_cells (slice_get items n) row ++ cs) (values_of_cells items ns row rest)
    ∙ sym (append_assoc (item_cells (slice_get items n) row) (items_cells items ns row) (own_values rest))

counts_of_cells : (items : List RecordItem) (ns : List ℕ) (row : Node) (rest : Object) → own_counts (tree_cells items ns row rest) ≡ own_counts rest
counts_of_cells items [] row rest = refl
counts_of_cells items (n ∷ ns) row rest = one_count (slice_get items n) row (tree_cells items ns row rest) ∙ counts_of_cells items ns row rest

inner_of_cells : (items : List RecordItem) (ns : List ℕ) (row : Node) (rest : Object) → inner_cells (tree_cells items ns row rest) ≡ inner_cells rest
inner_of_cells items [] row rest = refl
inner_of_cells items (n ∷ ns) row rest = one_inner (slice_get items n) row (tree_cells items ns row rest) ∙ inner_of_cells items ns row rest

no_values : (items : List RecordItem) (ls : ListTrees) (row : Node) → own_values (tree_lists items ls row) ≡ []
no_values items no_lists row = refl
no_values items (list_tree n p o ls) row = no_values items ls row

pub cells_of_object : (items : List RecordItem) (ns : List ℕ) (ls : ListTrees) (row : Node)
    → object_cells (tree_object items (object_tree ns ls) row) ≡ items_cells items ns row ++ (own_counts (tree_lists items ls row) ++ inner_cells (tree_lists items ls row))
cells_of_object items ns ls row =
    let rest : Object = tree_lists items ls row in
    ap₂ (λ (vs : List ResultCell) (cs : List ResultCell). vs ++ cs)
    (values_of_cells items ns row rest ∙ ap (λ (cs : List ResultCell). items_cells items ns row ++ cs) (no_values items ls row) ∙ append-nil (items_cells items ns row))
    (ap₂ (λ (cs : List ResultCell) (ds : List ResultCell). cs ++ ds) (counts_of_cells items ns row rest) (inner_of_cells items ns row rest))

-- ---- where an instance stands

is_there : (o : Option InstanceRef) → is_some (option_map lent_instance o) ≡ is_some o
is_there None = refl
is_there (Some x) = refl

pub present_row : (ls : List Path) (p : List Step) (r : Row) (whole : Node) → IsRow ls p (row_view r) whole → is_present p whole ≡ is_some r.end
present_row ls p r whole h = present_end p whole ∙ ap (λ (k : Known). is_some k.end) (sym h.is) ∙ is_there r.end

pub absent_cells : (items : List RecordItem) (p : List Step) (o : ObjectTree) (whole : Node) (before : List ResultCell) → is_present p whole ≡ false → before ≡ before ++ instance_cells items p o whole
absent_cells items p o whole before h = sym (append-nil before) ∙ ap (λ (b : Bool). before ++ (if b then object_cells (tree_object items o whole) else [])) (sym h)

pub present_cells : (items : List RecordItem) (p : List Step) (o : ObjectTree) (ns : List ℕ) (ls : ListTrees) (whole : Node) (a b c d : List ResultCell) → is_present p whole ≡ true → o ≡ object_tree ns ls
    → b ≡ a ++ items_cells items ns whole → c ≡ b ++ own_counts (tree_lists items ls whole) → d ≡ c ++ inner_cells (tree_lists items ls whole)
    → d ≡ a ++ instance_cells items p o whole
present_cells items p o ns ls whole a b c d h v e f g =
    let i = items_cells items ns whole in
    let j = own_counts (tree_lists items ls whole) in
    let k = inner_cells (tree_lists items ls whole) in
    g ∙ ap (λ (x : List ResultCell). x ++ k) (f ∙ ap (λ (x : List ResultCell). x ++ j) e) ∙ append_assoc (a ++ i) j k ∙ append_assoc a i (j ++ k)
    ∙ ap (λ (x : List ResultCell). a ++ x) (sym (cells_of_object items ns ls whole) ∙ ap (λ (t : ObjectTree). object_cells (tree_object items t whole)) (sym v))
    ∙ ap (λ (x : Bool). a ++ (if x then object_cells (tree_object items o whole) else [])) (sym h)

pub nested_parts : (items : List RecordItem) (p : List Step) (o : ObjectTree) (ns : List ℕ) (ls : ListTrees) → o ≡ object_tree ns ls → is_nested items p o ≡ true
    → (items_are_below items p ns ≡ true) × (are_nested items p ls ≡ true)
nested_parts items p o ns ls v h = and_parts _ _ (ap (is_nested items p) (sym v) ∙ h)

-- ---- the instances of a level

by_present : (b : Bool) (f : Node → Object) (r : Node) (rs : List Node) → (if b then object_cells (f r) else []) ++ all_cells (objects_of (map f rs)) ≡ all_cells (objects_of (map f (if b then r ∷ rs else rs)))
by_present true f r rs = refl
by_present false f r rs = refl

pub cells_of_instances : (items : List RecordItem) (p : List Step) (o : ObjectTree) (rs : List Node) → flat_map (instance_cells items p o) rs ≡ all_cells (objects_of (map (tree_object items o) (filter (is_present p) rs)))
cells_of_instances items p o [] = refl
cells_of_instances items p o (r ∷ rs) =
    ap (λ (cs : List ResultCell). instance_cells items p o r ++ cs) (cells_of_instances items p o rs) ∙ by_present (is_present p r) (tree_object items o) r (filter (is_present p) rs)
