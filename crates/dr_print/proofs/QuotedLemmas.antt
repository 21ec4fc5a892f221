-- Shapes with their names in quotes: their views, and that objects read by them print as those of the shapes themselves.
use Rattle.std.specs.Prelude.{◌≡◌, ◌<◌, ℕ, zero, suc, ◌+◌, List, [], ◌∷◌, ◌++◌, map, length, get_or, drop, Vec, String, string_bytes}
use Rattle.std.specs.declared.alloc.Global.{Global}
use Rattle.std.proofs.Common.{refl, sym, ap, ap₂, ◌∙◌, rules, append_assoc}
use Rattle.std.proofs.lemmas.List.{drop_more, length-map}
use Rattle.json.specs.Print.{quoted}
use Rattle.dr_meaning.specs.Query.{Object, objects_of}
use Rattle.dr_meaning.specs.Print.{member_text, cell_text, braced, bracketed, object_text, object_texts, entry_texts}
use Rattle.dr_cells.specs.Results.{ResultCell, first_value, first_count, ShapeTree, shape_tree, ListShapes, list_shape, no_list_shapes, count_lists, ReadObject, ReadObjects, with_values, read_object, read_lists, read_times}
use Rattle.dr_cells.specs.Shapes.{SeenList, shape_view, lists_view}
use Rattle.dr_cells.specs.PlanShapes.{append_shapes}
use Rattle.dr_cells.specs.declared.shape.ListShape as plain
use Rattle.dr_cells.proofs.ShapeLemmas.{view-list_shape}
use Rattle.dr_print.specs.declared.quoted_shape.QuotedShape as shapes
use Rattle.dr_print.specs.declared.quoted_shape.QuotedList as lists
use Rattle.dr_print.specs.Quoted.{name_in_quotes, in_quotes, lists_in_quotes, quoted_view, quoted_list_view, quoted_lists_view, entries_as_named, texts_as_named, text_as_named}

-- ---- the view

pub view-quoted : (ns : Vec (String Global) Global) (ls : Vec lists.QuotedList Global)
    → quoted_view (shapes.roll-QuotedShape (record { names = ns; lists = ls })) ≡ shape_tree (map string_bytes ns.items) (quoted_lists_view ls.items)
view-quoted ns ls = search (rules, shapes.the_lemmas, lists.the_lemmas)

pub view-quoted_of : (s : shapes.QuotedShape) → quoted_view s ≡ shape_tree (map string_bytes (shapes.out-QuotedShape s).names.items) (quoted_lists_view (shapes.out-QuotedShape s).lists.items)
view-quoted_of s = search (rules, shapes.the_lemmas, lists.the_lemmas)

view-made_list : (n : String Global) (s : shapes.QuotedShape) → quoted_list_view (lists.roll-QuotedList (record { name = n; shape = s })) ≡ record { name = string_bytes n; shape = quoted_view s }
view-made_list n s = search (rules, lists.the_lemmas, shapes.the_lemmas)

pub view-quoted_list : (l : lists.QuotedList) → quoted_list_view l ≡ record { name = string_bytes (lists.out-QuotedList l).name; shape = quoted_view (lists.out-QuotedList l).shape }
view-quoted_list l = search (rules, lists.the_lemmas, shapes.the_lemmas)

-- ---- lists in quotes, one after another

one_listed : (ks : List lists.QuotedList) (x : lists.QuotedList) (rest : ListShapes)
    → append_shapes (quoted_lists_view (ks ++ x ∷ [])) rest ≡ append_shapes (quoted_lists_view ks) (list_shape (quoted_list_view x).name (quoted_list_view x).shape rest)
one_listed [] x rest = refl
one_listed (k ∷ ks) x rest = ap (list_shape (quoted_list_view k).name (quoted_list_view k).shape) (one_listed ks x rest)

pub list_quoted : (ls : List plain.ListShape) (k : ℕ) (l : plain.ListShape) (before after : List lists.QuotedList) (n : String Global) (q : shapes.QuotedShape)
    → k < length ls → l ≡ get_or ls k l → string_bytes n ≡ name_in_quotes (string_bytes (plain.out-ListShape l).name) → quoted_view q ≡ in_quotes (shape_view (plain.out-ListShape l).shape)
    → after ≡ before ++ lists.roll-QuotedList (record { name = n; shape = q }) ∷ []
    → append_shapes (quoted_lists_view after) (lists_in_quotes (lists_view (drop (k + 1) ls))) ≡ append_shapes (quoted_lists_view before) (lists_in_quotes (lists_view (drop k ls)))
list_quoted ls k l before after n q h at e f pushed =
    let rest : ListShapes = lists_in_quotes (lists_view (drop (k + 1) ls)) in
    let done : ListShapes = quoted_lists_view before in
    let next : drop k ls ≡ l ∷ drop (k + 1) ls = drop_more ls k l h ∙ ap (λ (x : plain.ListShape). x ∷ drop (k + 1) ls) (sym at) in
    ap (λ (xs : List lists.QuotedList). append_shapes (quoted_lists_view xs) rest) pushed
    ∙ one_listed before (lists.roll-QuotedList (record { name = n; shape = q })) rest
    ∙ ap (λ (x : SeenList). append_shapes done (list_shape x.name x.shape rest)) (view-made_list n q)
    ∙ ap₂ (λ (m : List ℕ) (t : ShapeTree). append_shapes done (list_shape m t rest)) e f
    ∙ sym (ap (λ (xs : List plain.ListShape). append_shapes done (lists_in_quotes (lists_view xs))) next
    ∙ ap (λ (x : SeenList). append_shapes done (list_shape (name_in_quotes x.name) (in_quotes x.shape) rest)) (view-list_shape l))

-- ---- what is read by a shape in quotes prints as what is read by the shape

abbrev Same : ReadObject → ReadObject → Type 0
Same a b = (entries_as_named a.object ≡ entry_texts b.object) × (a.rest ≡ b.rest)

abbrev SameTimes : ReadObjects → ReadObjects → Type 0
SameTimes a b = (texts_as_named (objects_of a.objects) ≡ object_texts (objects_of b.objects)) × (a.rest ≡ b.rest)

member_same : (n t : List ℕ) → name_in_quotes n ++ t ≡ member_text n t
member_same n t = append_assoc (quoted n) (58 ∷ []) t

values_same : (ns : List (List ℕ)) (cs : List ResultCell) (o p : Object) → entries_as_named o ≡ entry_texts p
    → entries_as_named (with_values (map name_in_quotes ns) cs o) ≡ entry_texts (with_values ns cs p)
values_same [] cs o p h = h
values_same (n ∷ ns) cs o p h = ap₂ (λ (m : List ℕ) (ms : List (List ℕ)). m ∷ ms) (member_same n (cell_text (first_value cs))) (values_same ns (drop 1 cs) o p h)

times_same : (f g : List ResultCell → ReadObject) → ((cs : List ResultCell) → Same (f cs) (g cs)) → (k : ℕ) (cs : List ResultCell) → SameTimes (read_times f k cs) (read_times g k cs)
times_same f g same zero cs = (refl, refl)
times_same f g same (suc k) cs =
    let h : Same (f cs) (g cs) = same cs in
    let more : SameTimes (read_times f k (g cs).rest) (read_times g k (g cs).rest) = times_same f g same k (g cs).rest in (
      ap₂ (λ (es ts : List (List ℕ)). braced es ∷ ts) h.0 (ap (λ (xs : List ResultCell). texts_as_named (objects_of (read_times f k xs).objects)) h.1 ∙ more.0),
      ap (λ (xs : List ResultCell). (read_times f k xs).rest) h.1 ∙ more.1,
    )

count_same : (ls : ListShapes) → count_lists (lists_in_quotes ls) ≡ count_lists ls
count_same no_list_shapes = refl
count_same (list_shape n s ls) = ap suc (count_same ls)

mutual
  object_same : (s : ShapeTree) (cs : List ResultCell) → Same (read_object (in_quotes s) cs) (read_object s cs)
  object_same (shape_tree ns ls) cs =
      let counts : List ResultCell = drop (length ns) cs in
      let inner : List ResultCell = drop (count_lists ls) counts in
      let behind : drop (length (map name_in_quotes ns)) cs ≡ counts = ap (λ (n : ℕ). drop n cs) (length-map ns name_in_quotes) in
      let moved : read_lists (lists_in_quotes ls) (drop (length (map name_in_quotes ns)) cs) (drop (count_lists (lists_in_quotes ls)) (drop (length (map name_in_quotes ns)) cs))
      ≡ read_lists (lists_in_quotes ls) counts inner =
      ap₂ (λ (n : ℕ) (xs : List ResultCell). read_lists (lists_in_quotes ls) xs (drop n xs)) (count_same ls) behind in
      let lists : Same (read_lists (lists_in_quotes ls) counts inner) (read_lists ls counts inner) = lists_same ls counts inner in (
        values_same ns cs (read_lists (lists_in_quotes ls) (drop (length (map name_in_quotes ns)) cs) (drop (count_lists (lists_in_quotes ls)) (drop (length (map name_in_quotes ns)) cs))).object
            (read_lists ls counts inner).object (ap (λ (r : ReadObject). entries_as_named r.object) moved ∙ lists.0),
        ap (λ (r : ReadObject). r.rest) moved ∙ lists.1,
      )

  lists_same : (ls : ListShapes) (counts cs : List ResultCell) → Same (read_lists (lists_in_quotes ls) counts cs) (read_lists ls counts cs)
  lists_same no_list_shapes counts cs = (refl, refl)
  lists_same (list_shape n s ls) counts cs =
      let a : ReadObjects = read_times (read_object (in_quotes s)) (first_count counts) cs in
      let b : ReadObjects = read_times (read_object s) (first_count counts) cs in
      let here : SameTimes a b = times_same (read_object (in_quotes s)) (read_object s) (object_same s) (first_count counts) cs in
      let others : Same (read_lists (lists_in_quotes ls) (drop 1 counts) b.rest) (read_lists ls (drop 1 counts) b.rest) = lists_same ls (drop 1 counts) b.rest in
      let moved : read_lists (lists_in_quotes ls) (drop 1 counts) a.rest ≡ read_lists (lists_in_quotes ls) (drop 1 counts) b.rest = ap (read_lists (lists_in_quotes ls) (drop 1 counts)) here.1 in (
        ap₂ (λ (m : List ℕ) (ms : List (List ℕ)). m ∷ ms) (ap (λ (ts : List (List ℕ)). name_in_quotes n ++ bracketed ts) here.0 ∙ member_same n (bracketed (object_texts (objects_of b.objects))))
            (ap (λ (r : ReadObject). entries_as_named r.object) moved ∙ others.0),
        ap (λ (r : ReadObject). r.rest) moved ∙ others.1,
      )

-- ---- one object

pub object_quoted : (q s : ShapeTree) (cs : List ResultCell) (old new : List ℕ) → q ≡ in_quotes s → new ≡ old ++ text_as_named (read_object q cs).object → new ≡ old ++ object_text (read_object s cs).object
object_quoted q s cs old new e f =
    f ∙ ap (λ (x : ShapeTree). old ++ text_as_named (read_object x cs).object) e ∙ ap (λ (es : List (List ℕ)). old ++ braced es) (object_same s cs).0

pub rest_quoted : (q s : ShapeTree) (cs ds : List ResultCell) → q ≡ in_quotes s → ds ≡ (read_object q cs).rest → ds ≡ (read_object s cs).rest
rest_quoted q s cs ds e f = f ∙ ap (λ (x : ShapeTree). (read_object x cs).rest) e ∙ (object_same s cs).1
