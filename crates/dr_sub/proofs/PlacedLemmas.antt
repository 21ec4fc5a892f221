-- Objects that are read of cells: what their fields have.
use Rattle.std.specs.Prelude.{◌≡◌, ◌<◌, ◌≤◌, ℕ, zero, suc, ◌+◌, List, [], ◌∷◌, map, length, get_or, drop, take, string_bytes}
use Rattle.std.proofs.Common.{refl, sym, ap, ◌∙◌, arith}
use Rattle.std.proofs.lemmas.List.{length-map}
use Rattle.dr_meaning.specs.Query.{Object, objects_of}
use Rattle.dr_meaning.specs.Record.{no_instances, instances_at}
use Rattle.dr_cells.specs.Results.{ResultCell, first_value, first_count, ShapeTree, shape_tree, ListShapes, count_lists, ReadObjects, with_values, read_object, read_lists, read_times}
use Rattle.dr_cells.specs.Shapes.{shape_view, list_view, lists_view}
use Rattle.dr_cells.specs.declared.shape.Shape as shapes
use Rattle.dr_cells.specs.declared.shape.ListShape as lists
use Rattle.dr_cells.proofs.ShapeLemmas.{view-shape_of}
use Rattle.dr_ends.proofs.EndLemmas.{later_value, shape_at, same_shape}
use Rattle.dr_sub_meaning.specs.ResultRecords.{record_of, list_instances, cell_instances}

-- ---- values

-- the field of a value
pub value_there : (ns : List (List ℕ)) (cs : List ResultCell) (o : Object) (k : ℕ) → k < length ns
    → instances_at k (record_of (with_values ns cs o)) ≡ cell_instances (first_value (drop k cs))
value_there [] cs o k h = absurd (omega (arith, h))
value_there (n ∷ ns) cs o zero h = refl
value_there (n ∷ ns) cs o (suc k) h =
    value_there ns (drop 1 cs) o k (omega (arith, h)) ∙ ap (λ (xs : List ResultCell). cell_instances (first_value xs)) (later_value k cs)

-- the fields behind the values
pub behind_values : (ns : List (List ℕ)) (cs : List ResultCell) (o : Object) (j : ℕ) → instances_at (length ns + j) (record_of (with_values ns cs o)) ≡ instances_at j (record_of o)
behind_values [] cs o j =
    let e : 0 + j ≡ j = omega arith in
    ap (λ k. instances_at k (record_of o)) e
behind_values (n ∷ ns) cs o j =
    let e : length (n ∷ ns) + j ≡ suc (length ns + j) = omega arith in
    ap (λ k. instances_at k (record_of (with_values (n ∷ ns) cs o))) e ∙ behind_values ns (drop 1 cs) o j

-- ---- lists

-- the objects of the list of a number
pub list_there : (ls : List lists.ListShape) (counts cs : List ResultCell) (j : ℕ) (l : lists.ListShape) → j < length ls → l ≡ get_or ls j l
    → instances_at j (record_of (read_lists (lists_view ls) counts cs).object)
    ≡ list_instances (objects_of (read_times (read_object (shape_at l)) (first_count (drop j counts)) (read_lists (lists_view (take j ls)) counts cs).rest).objects)
list_there [] counts cs j l h e = absurd (omega (arith, h))
list_there (m ∷ ls) counts cs zero l h e =
    ap (λ (s : ShapeTree). list_instances (objects_of (read_times (read_object s) (first_count counts) cs).objects)) (same_shape m ∙ ap shape_at (sym e))
list_there (m ∷ ls) counts cs (suc j) l h e =
    let here : ReadObjects = read_times (read_object (list_view m).shape) (first_count counts) cs in
    list_there ls (drop 1 counts) here.rest j l (omega (arith, h)) e
    ∙ ap (λ (xs : List ResultCell). list_instances (objects_of (read_times (read_object (shape_at l)) (first_count xs) (read_lists (lists_view (take j ls)) (drop 1 counts) here.rest).rest).objects)) (later_value j counts)

-- behind the lists there is nothing
pub no_list_there : (ls : List lists.ListShape) (counts cs : List ResultCell) (j : ℕ) → length ls ≤ j → instances_at j (record_of (read_lists (lists_view ls) counts cs).object) ≡ no_instances
no_list_there [] counts cs j h = refl
no_list_there (m ∷ ls) counts cs zero h = absurd (omega (arith, h))
no_list_there (m ∷ ls) counts cs (suc j) h = no_list_there ls (drop 1 counts) (read_times (read_object (list_view m).shape) (first_count counts) cs).rest j (omega (arith, h))

-- ---- objects

-- the object's fields: its values, and its lists by the cells from their counts and from their objects on
pub object_parts : (s : ShapeTree) (ns : List (List ℕ)) (ls : ListShapes) (cs ks ds : List ResultCell) → s ≡ shape_tree ns ls → ks ≡ drop (length ns) cs → ds ≡ drop (count_lists ls) ks
    → (read_object s cs).object ≡ with_values ns cs (read_lists ls ks ds).object
object_parts s ns ls cs ks ds e f g =
    ap (λ (x : ShapeTree). (read_object x cs).object) e
    ∙ sym (ap (λ (xs : List ResultCell). with_values ns cs (read_lists ls ks xs).object) g ∙ ap (λ (xs : List ResultCell). with_values ns cs (read_lists ls xs (drop (count_lists ls) xs)).object) f)

-- ---- the fields of an object

-- its values, and its lists behind them
abbrev names_of : shapes.Shape → List (List ℕ)
names_of s = map string_bytes (shapes.out-Shape s).names.items

abbrev lists_in : shapes.Shape → ListShapes
lists_in s = lists_view (shapes.out-Shape s).lists.items

same_length : (s : shapes.Shape) → length (names_of s) ≡ length (shapes.out-Shape s).names.items
same_length s = length-map (shapes.out-Shape s).names.items string_bytes

pub value_is : (s : shapes.Shape) (cs ds : List ResultCell) (k : ℕ) → k < length (shapes.out-Shape s).names.items → ds ≡ drop k cs
    → cell_instances (first_value ds) ≡ instances_at k (record_of (read_object (shape_view s) cs).object)
value_is s cs ds k h e =
    let ks : List ResultCell = drop (length (names_of s)) cs in
    let ls : Object = (read_lists (lists_in s) ks (drop (count_lists (lists_in s)) ks)).object in
    ap (λ (xs : List ResultCell). cell_instances (first_value xs)) e
    ∙ sym (value_there (names_of s) cs ls k (omega (arith, h, same_length s)))
    ∙ ap (λ (o : Object). instances_at k (record_of o)) (sym (object_parts (shape_view s) (names_of s) (lists_in s) cs ks (drop (count_lists (lists_in s)) ks) (view-shape_of s) refl refl))

behind_object : (s : shapes.Shape) (cs ks ds : List ResultCell) (j : ℕ) → ks ≡ drop (length (names_of s)) cs → ds ≡ drop (count_lists (lists_in s)) ks
    → instances_at (length (shapes.out-Shape s).names.items + j) (record_of (read_object (shape_view s) cs).object) ≡ instances_at j (record_of (read_lists (lists_in s) ks ds).object)
behind_object s cs ks ds j e f =
    let ls : Object = (read_lists (lists_in s) ks ds).object in
    ap (λ (o : Object). instances_at (length (shapes.out-Shape s).names.items + j) (record_of o)) (object_parts (shape_view s) (names_of s) (lists_in s) cs ks ds (view-shape_of s) e f)
    ∙ ap (λ n. instances_at (n + j) (record_of (with_values (names_of s) cs ls))) (sym (same_length s))
    ∙ behind_values (names_of s) cs ls j

pub list_missing : (s : shapes.Shape) (cs : List ResultCell) (j : ℕ) → length (shapes.out-Shape s).lists.items ≤ j
    → no_instances ≡ instances_at (length (shapes.out-Shape s).names.items + j) (record_of (read_object (shape_view s) cs).object)
list_missing s cs j h =
    let ks : List ResultCell = drop (length (names_of s)) cs in
    let ds : List ResultCell = drop (count_lists (lists_in s)) ks in
    sym (behind_object s cs ks ds j refl refl ∙ no_list_there (shapes.out-Shape s).lists.items ks ds j h)

pub list_is : (s : shapes.Shape) (cs ks ds xs : List ResultCell) (j n : ℕ) (l : lists.ListShape) → ks ≡ drop (length (names_of s)) cs → ds ≡ drop (count_lists (lists_in s)) ks
    → j < length (shapes.out-Shape s).lists.items → l ≡ get_or (shapes.out-Shape s).lists.items j l
    → xs ≡ (read_lists (lists_view (take j (shapes.out-Shape s).lists.items)) ks ds).rest → n ≡ first_count (drop j ks)
    → list_instances (objects_of (read_times (read_object (shape_at l)) n xs).objects)
    ≡ instances_at (length (shapes.out-Shape s).names.items + j) (record_of (read_object (shape_view s) cs).object)
list_is s cs ks ds xs j n l e f h g x c =
    ap (λ (ys : List ResultCell). list_instances (objects_of (read_times (read_object (shape_at l)) n ys).objects)) x
    ∙ ap (λ m. list_instances (objects_of (read_times (read_object (shape_at l)) m (read_lists (lists_view (take j (shapes.out-Shape s).lists.items)) ks ds).rest).objects)) c
    ∙ sym (behind_object s cs ks ds j e f ∙ list_there (shapes.out-Shape s).lists.items ks ds j l h g)
