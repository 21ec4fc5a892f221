-- Results as cells, one after another: an object's values, then how many objects each of its lists has, then those objects.
use Rattle.std.specs.Prelude.{◌≡◌, ℕ, zero, suc, List, [], ◌∷◌, ◌++◌, length, drop, Option, None}
use Rattle.std.specs.List.{flat_map}
use Rattle.dr_meaning.specs.Record.{Value}
use Rattle.dr_meaning.specs.Query.{Object, no_entries, cell, list, Objects, no_objects, object, objects_of}

-- a value, or NULL, or how many objects a list has
pub data ResultCell : Type 0 where
  value_cell : Option Value → ResultCell
  count_cell : ℕ → ResultCell

-- ---- the cells of an object

-- the values in it, in order
abbrev pub own_values : Object → List ResultCell
own_values no_entries = []
own_values (cell n v o) = value_cell v ∷ own_values o
own_values (list n os o) = own_values o

-- how many there are
abbrev pub count_objects : Objects → ℕ
count_objects no_objects = 0
count_objects (object o os) = suc (count_objects os)

-- how many objects its lists have, list by list
abbrev pub own_counts : Object → List ResultCell
own_counts no_entries = []
own_counts (cell n v o) = own_counts o
own_counts (list n os o) = count_cell (count_objects os) ∷ own_counts o

abbrev mutual
  -- the cells of the objects in its lists
  pub inner_cells : Object → List ResultCell
  inner_cells no_entries = []
  inner_cells (cell n v o) = inner_cells o
  inner_cells (list n os o) = all_cells os ++ inner_cells o

  -- the cells of objects, one after another
  pub all_cells : Objects → List ResultCell
  all_cells no_objects = []
  all_cells (object o os) = (own_values o ++ (own_counts o ++ inner_cells o)) ++ all_cells os

-- an object's values, then how many objects each of its lists has, then the cells of those
abbrev pub object_cells : Object → List ResultCell
object_cells o = own_values o ++ (own_counts o ++ inner_cells o)

-- the cells of a result's objects
abbrev pub result_cells : List Object → List ResultCell
result_cells os = flat_map object_cells os

-- ---- shapes

mutual
  -- the names of an object's values, and its lists
  pub data ShapeTree : Type 0 where
    shape_tree : List (List ℕ) → ListShapes → ShapeTree

  -- lists, each by its name, with the shape of its objects
  pub data ListShapes : Type 0 where
    no_list_shapes : ListShapes
    list_shape : List ℕ → ShapeTree → ListShapes → ListShapes

-- how many lists there are
abbrev pub count_lists : ListShapes → ℕ
count_lists no_list_shapes = 0
count_lists (list_shape n s ls) = suc (count_lists ls)

-- an object begins with values of these names, and what is behind them fits
abbrev pub FitsNames : List (List ℕ) → (Object → Type 0) → Object → Type 0
FitsNames [] Behind o = Behind o
FitsNames (n ∷ ns) Behind no_entries = ⊥
FitsNames (n ∷ ns) Behind (cell m v o) = (m ≡ n) × FitsNames ns Behind o
FitsNames (n ∷ ns) Behind (list m os o) = ⊥

-- each object of a list fits
abbrev pub EachObject : (Object → Type 0) → Objects → Type 0
EachObject Fits no_objects = Unit {0}
EachObject Fits (object o os) = Fits o × EachObject Fits os

abbrev mutual
  -- an object has the values and the lists of a shape, and nothing else
  pub FitsShape : ShapeTree → Object → Type 0
  FitsShape (shape_tree ns ls) o = FitsNames ns (FitsLists ls) o

  -- an object has these lists, and nothing else
  pub FitsLists : ListShapes → Object → Type 0
  FitsLists no_list_shapes no_entries = Unit {0}
  FitsLists no_list_shapes (cell m v o) = ⊥
  FitsLists no_list_shapes (list m os o) = ⊥
  FitsLists (list_shape n s ls) no_entries = ⊥
  FitsLists (list_shape n s ls) (cell m v o) = ⊥
  FitsLists (list_shape n s ls) (list m os o) = (m ≡ n) × EachObject (FitsShape s) os × FitsLists ls o

-- each object of a result has the shape
abbrev pub AllFitShape : ShapeTree → List Object → Type 0
AllFitShape s os = EachObject (FitsShape s) (objects_of os)

-- ---- reading

-- an object, or objects, and the cells behind those that were read
pub record ReadObject : Type 0 where
  pub object : Object
  pub rest : List ResultCell

pub record ReadObjects : Type 0 where
  pub objects : List Object
  pub rest : List ResultCell

-- the value in the first cell; NULL where there is none
abbrev pub first_value : List ResultCell → Option Value
first_value [] = None
first_value (value_cell v ∷ cs) = v
first_value (count_cell k ∷ cs) = None

-- the count in the first cell; 0 where there is none
abbrev pub first_count : List ResultCell → ℕ
first_count [] = 0
first_count (value_cell v ∷ cs) = 0
first_count (count_cell k ∷ cs) = k

-- values of these names before the rest of an object
abbrev pub with_values : List (List ℕ) → List ResultCell → Object → Object
with_values [] cs rest = rest
with_values (n ∷ ns) cs rest = cell n (first_value cs) (with_values ns (drop 1 cs) rest)

-- so many objects, one after another
abbrev pub read_times : (List ResultCell → ReadObject) → ℕ → List ResultCell → ReadObjects
read_times read zero cs = record { objects = []; rest = cs }
read_times read (suc k) cs =
    let first : ReadObject = read cs in
    let others : ReadObjects = read_times read k first.rest in
    record { objects = first.object ∷ others.objects; rest = others.rest }

abbrev mutual
  -- the object of a shape that begins here
  pub read_object : ShapeTree → List ResultCell → ReadObject
  read_object (shape_tree ns ls) cs =
      let lists : ReadObject = read_lists ls (drop (length ns) cs) (drop (count_lists ls) (drop (length ns) cs)) in
      record { object = with_values ns cs lists.object; rest = lists.rest }

  -- lists, by the cells from their counts on, and the cells from their objects on
  pub read_lists : ListShapes → List ResultCell → List ResultCell → ReadObject
  read_lists no_list_shapes counts cs = record { object = no_entries; rest = cs }
  read_lists (list_shape n s ls) counts cs =
      let here : ReadObjects = read_times (read_object s) (first_count counts) cs in
      let others : ReadObject = read_lists ls (drop 1 counts) here.rest in
      record { object = list n (objects_of here.objects) others.object; rest = others.rest }

-- the first so many objects of a shape
unfoldable pub read_rows : ShapeTree → ℕ → List ResultCell → ReadObjects
read_rows s k cs = read_times (read_object s) k cs

-- the cells are those of so many objects of the shape
abbrev pub AreRows : ShapeTree → ℕ → List ResultCell → Type 0
AreRows s k cs = cs ≡ result_cells (read_rows s k cs).objects

-- ---- laws

-- from the cells of objects of a shape, whatever follows, these objects are read
abbrev pub ReadsBack : Type 0
ReadsBack = (s : ShapeTree) (os : List Object) (more : List ResultCell) → AllFitShape s os
    → read_rows s (length os) (result_cells os ++ more) ≡ record { objects = os; rest = more }

-- what is read fits the shape
abbrev pub ReadsFitting : Type 0
ReadsFitting = (s : ShapeTree) (k : ℕ) (cs : List ResultCell) → AllFitShape s (read_rows s k cs).objects
