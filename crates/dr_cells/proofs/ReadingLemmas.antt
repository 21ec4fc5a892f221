-- Objects are read back from their cells.
use Rattle.std.specs.Prelude.{◌≡◌, ℕ, zero, suc, ◌+◌, List, [], ◌∷◌, ◌++◌, length, drop}
use Rattle.std.proofs.Common.{refl, sym, ap, ap₂, ◌∙◌, subst, append_assoc, append-nil, length-append}
use Rattle.dr_meaning.specs.Query.{Object, no_entries, cell, list, Objects, no_objects, object, objects_of}
use Rattle.dr_cells.specs.Results.{ResultCell, own_values, count_objects, own_counts, inner_cells, all_cells, object_cells, result_cells}
use Rattle.dr_cells.specs.Results.{ShapeTree, shape_tree, ListShapes, no_list_shapes, list_shape, count_lists, FitsNames, EachObject, FitsShape, FitsLists, AllFitShape}
use Rattle.dr_cells.specs.Results.{ReadObject, ReadObjects, first_count, with_values, read_times, read_object, read_lists, read_rows, AreRows, ReadsBack, ReadsFitting}

-- ---- what is read back

abbrev read_so : Object → List ResultCell → ReadObject
read_so o more = record { object = o; rest = more }

abbrev all_read_so : List Object → List ResultCell → ReadObjects
all_read_so os more = record { objects = os; rest = more }

abbrev pub list_of : Objects → List Object
list_of no_objects = []
list_of (object o os) = o ∷ list_of os

pub objects_of-list_of : (os : Objects) → objects_of (list_of os) ≡ os
objects_of-list_of no_objects = refl
objects_of-list_of (object o os) = ap (object o) (objects_of-list_of os)

-- an object that begins with lists has no values
no_values : (ls : ListShapes) (o : Object) → FitsLists ls o → own_values o ≡ []
no_values no_list_shapes no_entries h = refl
no_values no_list_shapes (cell m v o) h = absurd h
no_values no_list_shapes (list m os o) h = absurd h
no_values (list_shape n s ls) no_entries h = absurd h
no_values (list_shape n s ls) (cell m v o) h = absurd h
no_values (list_shape n s ls) (list m os o) h = no_values ls o h.2

-- the lists behind an object's values
record Behind (ns : List (List ℕ)) (ls : ListShapes) (o : Object) (tail : List ResultCell) : Type 0 where
  lists : Object
  fits : FitsLists ls lists
  counts : own_counts o ≡ own_counts lists
  inner : inner_cells o ≡ inner_cells lists
  dropped : drop (length ns) (own_values o ++ tail) ≡ tail
  joined : with_values ns (own_values o ++ tail) lists ≡ o

behind : (ns : List (List ℕ)) (ls : ListShapes) (o : Object) (tail : List ResultCell) → FitsNames ns (FitsLists ls) o → Behind ns ls o tail
behind [] ls o tail h = record { lists = o; fits = h; counts = refl; inner = refl; dropped = ap (λ (vs : List ResultCell). vs ++ tail) (no_values ls o h); joined = refl }
behind (n ∷ ns) ls no_entries tail h = absurd h
behind (n ∷ ns) ls (cell m v o) tail h =
    let b : Behind ns ls o tail = behind ns ls o tail h.1 in
    record { lists = b.lists; fits = b.fits; counts = b.counts; inner = b.inner; dropped = b.dropped; joined = ap₂ (λ (k : List ℕ) (p : Object). cell k v p) (sym h.0) b.joined }
behind (n ∷ ns) ls (list m os o) tail h = absurd h

counts_dropped : (ls : ListShapes) (o : Object) (tail : List ResultCell) → FitsLists ls o → drop (count_lists ls) (own_counts o ++ tail) ≡ tail
counts_dropped no_list_shapes no_entries tail h = refl
counts_dropped no_list_shapes (cell m v o) tail h = absurd h
counts_dropped no_list_shapes (list m os o) tail h = absurd h
counts_dropped (list_shape n s ls) no_entries tail h = absurd h
counts_dropped (list_shape n s ls) (cell m v o) tail h = absurd h
counts_dropped (list_shape n s ls) (list m os o) tail h = counts_dropped ls o tail h.2

-- so many objects, if each is read back
times_read : (read : List ResultCell → ReadObject) (Fits : Object → Type 0) → ((o : Object) (more : List ResultCell) → Fits o → read (object_cells o ++ more) ≡ read_so o more)
    → (os : Objects) (more : List ResultCell) → EachObject Fits os → read_times read (count_objects os) (all_cells os ++ more) ≡ all_read_so (list_of os) more
times_read read Fits one no_objects more h = refl
times_read read Fits one (object o os) more h =
    let others : List ResultCell = all_cells os ++ more in
    let first : read (all_cells (object o os) ++ more) ≡ read_so o others = ap read (append_assoc (object_cells o) (all_cells os) more) ∙ one o others h.0 in
    ap (λ (r : ReadObject). all_read_so (r.object ∷ (read_times read (count_objects os) r.rest).objects) (read_times read (count_objects os) r.rest).rest) first
    ∙ ap (λ (r : ReadObjects). all_read_so (o ∷ r.objects) r.rest) (times_read read Fits one os more h.1)

mutual
  object_read : (s : ShapeTree) (o : Object) (more : List ResultCell) → FitsShape s o → read_object s (object_cells o ++ more) ≡ read_so o more
  object_read (shape_tree ns ls) o more h =
      let tail : List ResultCell = own_counts o ++ (inner_cells o ++ more) in
      let b : Behind ns ls o tail = behind ns ls o tail h in
      let cs : List ResultCell = own_values o ++ tail in
      let cut : object_cells o ++ more ≡ cs =
      append_assoc (own_values o) (own_counts o ++ inner_cells o) more ∙ ap (λ (t : List ResultCell). own_values o ++ t) (append_assoc (own_counts o) (inner_cells o) more) in
      let seen : tail ≡ own_counts b.lists ++ (inner_cells b.lists ++ more) = ap₂ (λ (ks xs : List ResultCell). ks ++ (xs ++ more)) b.counts b.inner in
      let left : drop (count_lists ls) tail ≡ inner_cells b.lists ++ more =
      ap (drop (count_lists ls)) seen ∙ counts_dropped ls b.lists (inner_cells b.lists ++ more) b.fits in
      let lists : read_lists ls (drop (length ns) cs) (drop (count_lists ls) (drop (length ns) cs)) ≡ read_so b.lists more =
      ap (λ (t : List ResultCell). read_lists ls t (drop (count_lists ls) t)) b.dropped
      ∙ ap₂ (read_lists ls) seen left
      ∙ lists_read ls b.lists (inner_cells b.lists ++ more) more b.fits in
      ap (read_object (shape_tree ns ls)) cut
      ∙ ap (λ (r : ReadObject). read_so (with_values ns cs r.object) r.rest) lists
      ∙ ap (λ (p : Object). read_so p more) b.joined

  lists_read : (ls : ListShapes) (o : Object) (counts more : List ResultCell) → FitsLists ls o → read_lists ls (own_counts o ++ counts) (inner_cells o ++ more) ≡ read_so o more
  lists_read no_list_shapes no_entries counts more h = refl
  lists_read no_list_shapes (cell m v o) counts more h = absurd h
  lists_read no_list_shapes (list m os o) counts more h = absurd h
  lists_read (list_shape n s ls) no_entries counts more h = absurd h
  lists_read (list_shape n s ls) (cell m v o) counts more h = absurd h
  lists_read (list_shape n s ls) (list m os o) counts more h =
      let ks : List ResultCell = own_counts o ++ counts in
      let here : read_times (read_object s) (count_objects os) ((all_cells os ++ inner_cells o) ++ more) ≡ all_read_so (list_of os) (inner_cells o ++ more) =
      ap (read_times (read_object s) (count_objects os)) (append_assoc (all_cells os) (inner_cells o) more)
      ∙ times_read (read_object s) (FitsShape s) (object_read s) os (inner_cells o ++ more) h.1 in
      ap (λ (r : ReadObjects). read_so (list n (objects_of r.objects) (read_lists ls ks r.rest).object) (read_lists ls ks r.rest).rest) here
      ∙ ap (λ (r : ReadObject). read_so (list n (objects_of (list_of os)) r.object) r.rest) (lists_read ls o counts more h.2)
      ∙ ap₂ (λ (k : List ℕ) (ps : Objects). read_so (list k ps o) more) (sym h.0) (objects_of-list_of os)

-- ---- lists of objects

cells_of-objects_of : (os : List Object) → all_cells (objects_of os) ≡ result_cells os
cells_of-objects_of [] = refl
cells_of-objects_of (o ∷ os) = ap (λ (cs : List ResultCell). object_cells o ++ cs) (cells_of-objects_of os)

count_of-objects_of : (os : List Object) → count_objects (objects_of os) ≡ length os
count_of-objects_of [] = refl
count_of-objects_of (o ∷ os) = ap suc (count_of-objects_of os)

list_of-objects_of : (os : List Object) → list_of (objects_of os) ≡ os
list_of-objects_of [] = refl
list_of-objects_of (o ∷ os) = ap (λ (ps : List Object). o ∷ ps) (list_of-objects_of os)

pub reads_back : ReadsBack
unfolding read_rows
reads_back s os more h =
    ap₂ (λ k (cs : List ResultCell). read_times (read_object s) k (cs ++ more)) (sym (count_of-objects_of os)) (sym (cells_of-objects_of os))
    ∙ times_read (read_object s) (FitsShape s) (object_read s) (objects_of os) more h
    ∙ ap (λ (ps : List Object). all_read_so ps more) (list_of-objects_of os)

-- ---- what is read fits

values_fit : (ns : List (List ℕ)) (Rest : Object → Type 0) (cs : List ResultCell) (o : Object) → Rest o → FitsNames ns Rest (with_values ns cs o)
values_fit [] Rest cs o h = h
values_fit (n ∷ ns) Rest cs o h = (refl, values_fit ns Rest (drop 1 cs) o h)

times_fit : (read : List ResultCell → ReadObject) (Fits : Object → Type 0) → ((cs : List ResultCell) → Fits (read cs).object) → (k : ℕ) (cs : List ResultCell) → EachObject Fits (objects_of (read_times read k cs).objects)
times_fit read Fits one zero cs = tt
times_fit read Fits one (suc k) cs = (one cs, times_fit read Fits one k (read cs).rest)

mutual
  object_fits : (s : ShapeTree) (cs : List ResultCell) → FitsShape s (read_object s cs).object
  object_fits (shape_tree ns ls) cs =
      values_fit ns (FitsLists ls) cs (read_lists ls (drop (length ns) cs) (drop (count_lists ls) (drop (length ns) cs))).object
      (lists_fit ls (drop (length ns) cs) (drop (count_lists ls) (drop (length ns) cs)))

  lists_fit : (ls : ListShapes) (counts cs : List ResultCell) → FitsLists ls (read_lists ls counts cs).object
  lists_fit no_list_shapes counts cs = tt
  lists_fit (list_shape n s ls) counts cs =
      (refl, times_fit (read_object s) (FitsShape s) (object_fits s) (first_count counts) cs, lists_fit ls (drop 1 counts) (read_times (read_object s) (first_count counts) cs).rest)

pub reads_fitting : ReadsFitting
unfolding read_rows
reads_fitting s k cs = times_fit (read_object s) (FitsShape s) (object_fits s) k cs

-- as many as were asked for
times_length : (read : List ResultCell → ReadObject) (k : ℕ) (cs : List ResultCell) → length (read_times read k cs).objects ≡ k
times_length read zero cs = refl
times_length read (suc k) cs = ap suc (times_length read k (read cs).rest)

pub rows_length : (s : ShapeTree) (k : ℕ) (cs : List ResultCell) → length (read_rows s k cs).objects ≡ k
unfolding read_rows
rows_length s k cs = times_length (read_object s) k cs

-- ---- results one after another

each_append : (Fits : Object → Type 0) (os ps : List Object) → EachObject Fits (objects_of os) → EachObject Fits (objects_of ps) → EachObject Fits (objects_of (os ++ ps))
each_append Fits [] ps f g = g
each_append Fits (o ∷ os) ps f g = (f.0, each_append Fits os ps f.1 g)

pub result_cells-append : (os ps : List Object) → result_cells (os ++ ps) ≡ result_cells os ++ result_cells ps
result_cells-append [] ps = refl
result_cells-append (o ∷ os) ps = ap (λ (cs : List ResultCell). object_cells o ++ cs) (result_cells-append os ps) ∙ sym (append_assoc (object_cells o) (result_cells os) (result_cells ps))

-- the cells of objects that fit are rows, and these objects are read
pub rows_of : (s : ShapeTree) (os : List Object) (k : ℕ) (cs : List ResultCell) → AllFitShape s os → cs ≡ result_cells os → k ≡ length os → (read_rows s k cs).objects ≡ os
rows_of s os k cs h e f =
    ap₂ (λ m (ds : List ResultCell). (read_rows s m ds).objects) f (e ∙ sym (append-nil (result_cells os))) ∙ ap (λ (r : ReadObjects). r.objects) (reads_back s os [] h)

pub are_rows : (s : ShapeTree) (os : List Object) (k : ℕ) (cs : List ResultCell) → AllFitShape s os → cs ≡ result_cells os → k ≡ length os → AreRows s k cs
are_rows s os k cs h e f = e ∙ ap result_cells (sym (rows_of s os k cs h e f))

-- rows before rows
pub record Joined (s : ShapeTree) (k m n : ℕ) (cs ds es : List ResultCell) : Type 0 where
  pub objects : (read_rows s n es).objects ≡ (read_rows s k cs).objects ++ (read_rows s m ds).objects
  pub are : AreRows s n es

pub rows_joined : (s : ShapeTree) (k m n : ℕ) (cs ds es : List ResultCell) → AreRows s k cs → AreRows s m ds → n ≡ k + m → es ≡ cs ++ ds → Joined s k m n cs ds es
rows_joined s k m n cs ds es e f g h =
    let os : List Object = (read_rows s k cs).objects in
    let ps : List Object = (read_rows s m ds).objects in
    let fits : AllFitShape s (os ++ ps) = each_append (FitsShape s) os ps (reads_fitting s k cs) (reads_fitting s m ds) in
    let all : es ≡ result_cells (os ++ ps) = h ∙ ap₂ (λ (xs ys : List ResultCell). xs ++ ys) e f ∙ sym (result_cells-append os ps) in
    let many : n ≡ length (os ++ ps) = g ∙ sym (length-append os ps ∙ ap₂ (λ i j. i + j) (rows_length s k cs) (rows_length s m ds)) in
    record { objects = rows_of s (os ++ ps) n es fits all many; are = are_rows s (os ++ ps) n es fits all many }

-- rows of a shape are those of the same shape
pub rows_of_same : (s t : ShapeTree) (k : ℕ) (cs : List ResultCell) → t ≡ s → AreRows t k cs → AreRows s k cs
rows_of_same s t k cs e h = subst (λ (u : ShapeTree). AreRows u k cs) e h
