-- Texts that grow part by part, as the cells of a result are read.
use Rattle.std.specs.Prelude.{◌≡◌, ◌<◌, ◌≤◌, ℕ, zero, suc, ◌+◌, ◌-◌, List, [], ◌∷◌, ◌++◌, map, length, get_or, drop, Bool, true, false, ◌||◌, not, nat_lt, nat_eq, String, string_bytes}
use Rattle.std.specs.declared.alloc.Global.{Global}
use Rattle.std.specs.List.{join_with_byte}
use Rattle.std.proofs.Common.{refl, sym, ap, ap₂, ◌∙◌, arith, append_assoc, append-nil}
use Rattle.std.proofs.lemmas.List.{drop_more, drop_all, drop-drop}
use Rattle.std.proofs.Math.Dec.{eqb-suc-zero}
use Rattle.dr_meaning.specs.Query.{Object, list, Objects, objects_of}
use Rattle.dr_meaning.specs.Print.{cell_text, bracketed, object_text, result_text}
use Rattle.dr_cells.specs.Results.{ResultCell, first_value, first_count, ShapeTree, shape_tree, ListShapes, list_shape, no_list_shapes, count_lists, ReadObject, ReadObjects, with_values, read_object, read_lists, read_times}
use Rattle.dr_cells.specs.Shapes.{SeenList}
use Rattle.dr_print.specs.declared.quoted_shape.QuotedList as lists
use Rattle.dr_print.specs.Quoted.{quoted_view, quoted_lists_view, entries_as_named, texts_as_named, text_as_named}
use Rattle.dr_print.proofs.QuotedLemmas.{view-quoted_list}
use Rattle.dr_print.specs.Parts.{value_members}
use Rattle.dr_meaning.specs.Lists.{comma_if, separated}

-- ---- parts

pub more_than_none : (k : ℕ) → nat_lt 0 (k + 1) ≡ true
more_than_none k = grind arith

some_suc : (k : ℕ) → nat_lt 0 (suc k) ≡ true
some_suc k = grind arith

pub not_empty : (n : ℕ) → not (nat_eq n 0) ≡ nat_lt 0 n
not_empty zero = refl
not_empty (suc n) = ap not (eqb-suc-zero n) ∙ sym (some_suc n)

-- parts behind a first one
pub after_part : (behind : Bool) (p : List ℕ) (ps : List (List ℕ)) (text t : List ℕ) → t ≡ (text ++ comma_if behind) ++ p → t ++ separated true ps ≡ text ++ separated behind (p ∷ ps)
after_part behind p ps text t e =
    ap (λ (x : List ℕ). x ++ separated true ps) e ∙ append_assoc (text ++ comma_if behind) p (separated true ps) ∙ append_assoc text (comma_if behind) (p ++ separated true ps)

commas : (p : List ℕ) (ps : List (List ℕ)) → join_with_byte 44 (p ∷ ps) ≡ p ++ separated true ps
commas p [] = sym (append-nil p)
commas p (q ∷ ps) = ap (λ (t : List ℕ). p ++ 44 ∷ t) (commas q ps)

pub separated-all : (ps : List (List ℕ)) → separated false ps ≡ join_with_byte 44 ps
separated-all [] = refl
separated-all (p ∷ ps) = sym (commas p ps)

parts_behind : (ps qs : List (List ℕ)) → separated true ps ++ separated true qs ≡ separated true (ps ++ qs)
parts_behind [] qs = refl
parts_behind (p ∷ ps) qs = ap (λ (t : List ℕ). 44 ∷ t) (append_assoc p (separated true ps) (separated true qs) ∙ ap (λ (t : List ℕ). p ++ t) (parts_behind ps qs))

-- ---- values

abbrev pub Values : List (List ℕ) → List ResultCell → ℕ → List ℕ → List ℕ → Type 0
Values ns cs k old text = text ++ separated (nat_lt 0 k) (value_members (drop k ns) (drop k cs)) ≡ old ++ separated false (value_members ns cs)

one_dropped : (k : ℕ) (cs : List ResultCell) → drop (k + 1) cs ≡ drop 1 (drop k cs)
one_dropped k cs = sym (drop-drop 1 k cs)

pub value_more : (ns : List (List ℕ)) (cs ds : List ResultCell) (k : ℕ) (n old text t u v : List ℕ) → k < length ns → n ≡ get_or ns k n → ds ≡ drop k cs
    → t ≡ text ++ comma_if (nat_lt 0 k) → u ≡ t ++ n → v ≡ u ++ cell_text (first_value ds) → Values ns cs k old text → Values ns cs (k + 1) old v
value_more ns cs ds k n old text t u v h at e f g i so_far =
    let own : List ℕ = cell_text (first_value (drop k cs)) in
    let rest : List (List ℕ) = value_members (drop (k + 1) ns) (drop 1 (drop k cs)) in
    let next : drop k ns ≡ n ∷ drop (k + 1) ns = drop_more ns k n h ∙ ap (λ (x : List ℕ). x ∷ drop (k + 1) ns) (sym at) in
    let all : v ≡ (text ++ comma_if (nat_lt 0 k)) ++ (n ++ own) =
    i ∙ ap₂ (λ (x : List ℕ) (xs : List ResultCell). x ++ cell_text (first_value xs)) (g ∙ ap (λ (x : List ℕ). x ++ n) f) e
    ∙ append_assoc (text ++ comma_if (nat_lt 0 k)) n own in
    ap₂ (λ (b : Bool) (xs : List ResultCell). v ++ separated b (value_members (drop (k + 1) ns) xs)) (more_than_none k) (one_dropped k cs)
    ∙ after_part (nat_lt 0 k) (n ++ own) rest text v all
    ∙ ap (λ (ms : List (List ℕ)). text ++ separated (nat_lt 0 k) (value_members ms (drop k cs))) (sym next)
    ∙ so_far

pub no_values_left : (ns : List (List ℕ)) (cs : List ResultCell) (k : ℕ) (old text : List ℕ) → length ns ≤ k → Values ns cs k old text → text ≡ old ++ separated false (value_members ns cs)
no_values_left ns cs k old text h so_far =
    sym (ap (λ (ms : List (List ℕ)). text ++ separated (nat_lt 0 k) (value_members ms (drop k cs))) (drop_all k ns h) ∙ append-nil text) ∙ so_far

-- ---- objects

entries : (ns : List (List ℕ)) (cs : List ResultCell) (o : Object) → entries_as_named (with_values ns cs o) ≡ value_members ns cs ++ entries_as_named o
entries [] cs o = refl
entries (n ∷ ns) cs o = ap (λ (ts : List (List ℕ)). (n ++ cell_text (first_value cs)) ∷ ts) (entries ns (drop 1 cs) o)

all_entries : (ns : List (List ℕ)) (cs : List ResultCell) (ts : List (List ℕ)) (b : Bool) → b ≡ nat_lt 0 (length ns) → separated false (value_members ns cs) ++ separated b ts ≡ separated false (value_members ns cs ++ ts)
all_entries [] cs ts b e = ap (λ c. separated c ts) e
all_entries (n ∷ ns) cs ts b e =
    let f : b ≡ true = e ∙ some_suc (length ns) in
    let m : List ℕ = n ++ cell_text (first_value cs) in
    let more : List (List ℕ) = value_members ns (drop 1 cs) in
    ap (λ c. (m ++ separated true more) ++ separated c ts) f
    ∙ append_assoc m (separated true more) (separated true ts)
    ∙ ap (λ (t : List ℕ). m ++ t) (parts_behind more ts)

braces : (old vs ls : List ℕ) → (((old ++ 123 ∷ []) ++ vs) ++ ls) ++ 125 ∷ [] ≡ old ++ 123 ∷ ((vs ++ ls) ++ 125 ∷ [])
braces old vs ls = simp append_assoc

pub object_more : (s : ShapeTree) (ns : List (List ℕ)) (ls : ListShapes) (cs ks ds : List ResultCell) (b : Bool) (old t u v w : List ℕ) → s ≡ shape_tree ns ls
    → ks ≡ drop (length ns) cs → ds ≡ drop (count_lists ls) ks → b ≡ nat_lt 0 (length ns) → t ≡ old ++ 123 ∷ [] → u ≡ t ++ separated false (value_members ns cs)
    → v ≡ u ++ separated b (entries_as_named (read_lists ls ks ds).object) → w ≡ v ++ 125 ∷ [] → w ≡ old ++ text_as_named (read_object s cs).object
object_more s ns ls cs ks ds b old t u v w e f g h i j k l =
    let values : List ℕ = separated false (value_members ns cs) in
    let lists : Object = (read_lists ls ks ds).object in
    let same : (read_lists ls ks ds).object ≡ (read_lists ls (drop (length ns) cs) (drop (count_lists ls) (drop (length ns) cs))).object =
    ap (λ (xs : List ResultCell). (read_lists ls ks xs).object) g ∙ ap (λ (xs : List ResultCell). (read_lists ls xs (drop (count_lists ls) xs)).object) f in
    l ∙ ap (λ (x : List ℕ). x ++ 125 ∷ []) (k ∙ ap (λ (x : List ℕ). x ++ separated b (entries_as_named lists)) (j ∙ ap (λ (x : List ℕ). x ++ values) i))
    ∙ braces old values (separated b (entries_as_named lists))
    ∙ ap (λ (x : List ℕ). old ++ 123 ∷ (x ++ 125 ∷ [])) (all_entries ns cs (entries_as_named lists) b h ∙ separated-all (value_members ns cs ++ entries_as_named lists)
    ∙ ap (join_with_byte 44) (sym (entries ns cs lists)))
    ∙ ap (λ (o : Object). old ++ text_as_named (with_values ns cs o)) same
    ∙ ap (λ (x : ShapeTree). old ++ text_as_named (read_object x cs).object) (sym e)

pub object_rest : (s : ShapeTree) (ns : List (List ℕ)) (ls : ListShapes) (cs ks ds : List ResultCell) → s ≡ shape_tree ns ls → ks ≡ drop (length ns) cs → ds ≡ drop (count_lists ls) ks
    → (read_lists ls ks ds).rest ≡ (read_object s cs).rest
object_rest s ns ls cs ks ds e f g =
    ap (λ (xs : List ResultCell). (read_lists ls ks xs).rest) g ∙ ap (λ (xs : List ResultCell). (read_lists ls xs (drop (count_lists ls) xs)).rest) f
    ∙ ap (λ (x : ShapeTree). (read_object x cs).rest) (sym e)

-- ---- lists

abbrev list_made : List ℕ → Objects → ReadObject → ReadObject
list_made n os r = record { object = list n os r.object; rest = r.rest }

abbrev list_read : List ℕ → ShapeTree → ListShapes → List ResultCell → ReadObjects → ReadObject
list_read n s others counts r = list_made n (objects_of r.objects) (read_lists others counts r.rest)

abbrev pub Lists : ListShapes → ListShapes → List ResultCell → ℕ → List ResultCell → List ResultCell → Bool → List ℕ → List ℕ → Type 0
Lists all left counts k begin cs behind old text =
    (text ++ separated (behind || nat_lt 0 k) (entries_as_named (read_lists left (drop k counts) cs).object) ≡ old ++ separated behind (entries_as_named (read_lists all counts begin).object))
    × ((read_lists left (drop k counts) cs).rest ≡ (read_lists all counts begin).rest)

or_false : (b : Bool) → b || false ≡ b
or_false true = refl
or_false false = refl

or_true : (b c : Bool) → c ≡ true → b || c ≡ true
or_true true c e = refl
or_true false c e = e

pub lists_begin : (all : ListShapes) (counts cs : List ResultCell) (behind : Bool) (text : List ℕ) → Lists all all counts 0 cs cs behind text text
lists_begin all counts cs behind text = (ap (λ b. text ++ separated b (entries_as_named (read_lists all counts cs).object)) (or_false behind), refl)

brackets : (front q j : List ℕ) → (((front ++ q) ++ 91 ∷ []) ++ j) ++ 93 ∷ [] ≡ front ++ (q ++ (91 ∷ (j ++ 93 ∷ [])))
brackets front q j = simp append_assoc

pub list_more : (all left : ListShapes) (n : List ℕ) (s : ShapeTree) (others : ListShapes) (counts : List ResultCell) (k m : ℕ) (begin cs ds : List ResultCell) (behind : Bool) (old text t u v w x : List ℕ)
    → left ≡ list_shape n s others → m ≡ first_count (drop k counts) → ds ≡ (read_times (read_object s) m cs).rest → t ≡ text ++ comma_if (behind || nat_lt 0 k) → u ≡ t ++ n → v ≡ u ++ 91 ∷ []
    → w ≡ v ++ separated false (texts_as_named (objects_of (read_times (read_object s) m cs).objects)) → x ≡ w ++ 93 ∷ []
    → Lists all left counts k begin cs behind old text → Lists all others counts (k + 1) begin ds behind old x
list_more all left n s others counts k m begin cs ds behind old text t u v w x e f g h i j p q so_far =
    let objects : List (List ℕ) = texts_as_named (objects_of (read_times (read_object s) m cs).objects) in
    let front : List ℕ = text ++ comma_if (behind || nat_lt 0 k) in
    let rest : ReadObject = read_lists others (drop 1 (drop k counts)) ds in
    let made : x ≡ front ++ (n ++ bracketed objects) =
    q ∙ ap (λ (y : List ℕ). y ++ 93 ∷ []) (p ∙ ap₂ (λ (y z : List ℕ). y ++ z) (j ∙ ap (λ (y : List ℕ). y ++ 91 ∷ []) (i ∙ ap (λ (y : List ℕ). y ++ n) h)) (separated-all objects))
    ∙ brackets front n (join_with_byte 44 objects) in
    let later : read_lists others (drop (k + 1) counts) ds ≡ rest = ap (λ (xs : List ResultCell). read_lists others xs ds) (one_dropped k counts) in
    let here : read_lists left (drop k counts) cs ≡ record { object = list n (objects_of (read_times (read_object s) m cs).objects) rest.object; rest = rest.rest } =
    ap (λ (y : ListShapes). read_lists y (drop k counts) cs) e
    ∙ ap (λ i. list_read n s others (drop 1 (drop k counts)) (read_times (read_object s) i cs)) (sym f)
    ∙ ap (λ (xs : List ResultCell). list_made n (objects_of (read_times (read_object s) m cs).objects) (read_lists others (drop 1 (drop k counts)) xs)) (sym g) in (
      ap₂ (λ (b : Bool) (r : ReadObject). x ++ separated b (entries_as_named r.object)) (or_true behind (nat_lt 0 (k + 1)) (more_than_none k)) later
          ∙ after_part (behind || nat_lt 0 k) (n ++ bracketed objects) (entries_as_named rest.object) text x made
          ∙ ap (λ (r : ReadObject). text ++ separated (behind || nat_lt 0 k) (entries_as_named r.object)) (sym here)
          ∙ so_far.0,
      ap (λ (r : ReadObject). r.rest) later ∙ ap (λ (r : ReadObject). r.rest) (sym here) ∙ so_far.1,
    )

pub no_lists_left : (all left : ListShapes) (counts : List ResultCell) (k : ℕ) (begin cs : List ResultCell) (behind : Bool) (old text : List ℕ) → left ≡ no_list_shapes → Lists all left counts k begin cs behind old text
    → (text ≡ old ++ separated behind (entries_as_named (read_lists all counts begin).object)) × (cs ≡ (read_lists all counts begin).rest)
no_lists_left all left counts k begin cs behind old text e so_far = (
  sym (ap (λ (y : ListShapes). text ++ separated (behind || nat_lt 0 k) (entries_as_named (read_lists y (drop k counts) cs).object)) e ∙ append-nil text) ∙ so_far.0,
  sym (ap (λ (y : ListShapes). (read_lists y (drop k counts) cs).rest) e) ∙ so_far.1,
)

-- ---- objects of a list

abbrev pub Times : (List ResultCell → ReadObject) → ℕ → ℕ → List ResultCell → List ResultCell → List ℕ → List ℕ → Type 0
Times read total k begin cs old text =
    (text ++ separated (nat_lt 0 k) (texts_as_named (objects_of (read_times read (total - k) cs).objects)) ≡ old ++ separated false (texts_as_named (objects_of (read_times read total begin).objects)))
    × ((read_times read (total - k) cs).rest ≡ (read_times read total begin).rest)

all_left : (n : ℕ) → n - 0 ≡ n
all_left n = omega arith

pub times_begin : (read : List ResultCell → ReadObject) (total : ℕ) (cs : List ResultCell) (text : List ℕ) → Times read total 0 cs cs text text
times_begin read total cs text =
    (ap (λ m. text ++ separated false (texts_as_named (objects_of (read_times read m cs).objects))) (all_left total), ap (λ m. (read_times read m cs).rest) (all_left total))

one_left : (n k : ℕ) → k < n → n - k ≡ suc (n - (k + 1))
one_left n k h = omega (arith, h)

pub times_more : (read : List ResultCell → ReadObject) (total k : ℕ) (begin cs ds : List ResultCell) (old text t u : List ℕ) → k < total → t ≡ text ++ comma_if (nat_lt 0 k) → u ≡ t ++ text_as_named (read cs).object → ds ≡ (read cs).rest
    → Times read total k begin cs old text → Times read total (k + 1) begin ds old u
times_more read total k begin cs ds old text t u h e f g so_far =
    let left : ReadObjects = read_times read (total - (k + 1)) (read cs).rest in
    let o : Object = (read cs).object in
    let here : read_times read (total - k) cs ≡ record { objects = o ∷ left.objects; rest = left.rest } = ap (λ m. read_times read m cs) (one_left total k h) in
    let later : read_times read (total - (k + 1)) ds ≡ left = ap (read_times read (total - (k + 1))) g in (
      ap₂ (λ (b : Bool) (r : ReadObjects). u ++ separated b (texts_as_named (objects_of r.objects))) (more_than_none k) later
          ∙ after_part (nat_lt 0 k) (text_as_named o) (texts_as_named (objects_of left.objects)) text u (f ∙ ap (λ (y : List ℕ). y ++ text_as_named o) e)
          ∙ ap (λ (r : ReadObjects). text ++ separated (nat_lt 0 k) (texts_as_named (objects_of r.objects))) (sym here)
          ∙ so_far.0,
      ap (λ (r : ReadObjects). r.rest) later ∙ ap (λ (r : ReadObjects). r.rest) (sym here) ∙ so_far.1,
    )

none_left : (n k : ℕ) → n ≤ k → n - k ≡ 0
none_left n k h = omega (arith, h)

pub no_times_left : (read : List ResultCell → ReadObject) (total k : ℕ) (begin cs : List ResultCell) (old text : List ℕ) → total ≤ k → Times read total k begin cs old text
    → (text ≡ old ++ separated false (texts_as_named (objects_of (read_times read total begin).objects))) × (cs ≡ (read_times read total begin).rest)
no_times_left read total k begin cs old text h so_far = (
  sym (ap (λ m. text ++ separated (nat_lt 0 k) (texts_as_named (objects_of (read_times read m cs).objects))) (none_left total k h) ∙ append-nil text) ∙ so_far.0,
  sym (ap (λ m. (read_times read m cs).rest) (none_left total k h)) ∙ so_far.1,
)

-- ---- lines

line_more : (o : Object) (os : List Object) → result_text (o ∷ os) ≡ (object_text o ++ 10 ∷ []) ++ result_text os
unfolding result_text
line_more o os = refl

no_lines : result_text [] ≡ []
unfolding result_text
no_lines = refl

abbrev pub Rows : (List ResultCell → ReadObject) → ℕ → ℕ → List ResultCell → List ResultCell → List ℕ → List ℕ → Type 0
Rows read total k begin cs old text = text ++ result_text (read_times read (total - k) cs).objects ≡ old ++ result_text (read_times read total begin).objects

pub rows_begin : (read : List ResultCell → ReadObject) (total : ℕ) (cs : List ResultCell) (text : List ℕ) → Rows read total 0 cs cs text text
rows_begin read total cs text = ap (λ m. text ++ result_text (read_times read m cs).objects) (all_left total)

pub rows_more : (read : List ResultCell → ReadObject) (total k : ℕ) (begin cs ds : List ResultCell) (old text t u : List ℕ) → k < total → t ≡ text ++ object_text (read cs).object → u ≡ t ++ 10 ∷ [] → ds ≡ (read cs).rest
    → Rows read total k begin cs old text → Rows read total (k + 1) begin ds old u
rows_more read total k begin cs ds old text t u h e f g so_far =
    let left : ReadObjects = read_times read (total - (k + 1)) (read cs).rest in
    let o : Object = (read cs).object in
    let here : read_times read (total - k) cs ≡ record { objects = o ∷ left.objects; rest = left.rest } = ap (λ m. read_times read m cs) (one_left total k h) in
    ap₂ (λ (y : List ℕ) (xs : List ResultCell). y ++ result_text (read_times read (total - (k + 1)) xs).objects) (f ∙ ap (λ (y : List ℕ). y ++ 10 ∷ []) e ∙ append_assoc text (object_text o) (10 ∷ [])) g
    ∙ append_assoc text (object_text o ++ 10 ∷ []) (result_text left.objects)
    ∙ ap (λ (y : List ℕ). text ++ y) (sym (line_more o left.objects))
    ∙ ap (λ (r : ReadObjects). text ++ result_text r.objects) (sym here)
    ∙ so_far

pub no_rows_left : (read : List ResultCell → ReadObject) (total k : ℕ) (begin cs : List ResultCell) (old text : List ℕ) → total ≤ k → Rows read total k begin cs old text → text ≡ old ++ result_text (read_times read total begin).objects
no_rows_left read total k begin cs old text h so_far =
    sym (ap (λ m. text ++ result_text (read_times read m cs).objects) (none_left total k h) ∙ ap (λ (y : List ℕ). text ++ y) no_lines ∙ append-nil text) ∙ so_far

-- ---- shapes

pub lists_from : (ls : List lists.QuotedList) (k : ℕ) (l : lists.QuotedList) → k < length ls → l ≡ get_or ls k l
    → quoted_lists_view (drop k ls) ≡ list_shape (string_bytes (lists.out-QuotedList l).name) (quoted_view (lists.out-QuotedList l).shape) (quoted_lists_view (drop (k + 1) ls))
lists_from ls k l h at =
    ap quoted_lists_view (drop_more ls k l h ∙ ap (λ (x : lists.QuotedList). x ∷ drop (k + 1) ls) (sym at))
    ∙ ap (λ (x : SeenList). list_shape x.name x.shape (quoted_lists_view (drop (k + 1) ls))) (view-quoted_list l)

pub no_lists_from : (ls : List lists.QuotedList) (k : ℕ) → length ls ≤ k → quoted_lists_view (drop k ls) ≡ no_list_shapes
no_lists_from ls k h = ap quoted_lists_view (drop_all k ls h)

pub count_lists-view : (ls : List lists.QuotedList) → count_lists (quoted_lists_view ls) ≡ length ls
count_lists-view [] = refl
count_lists-view (l ∷ ls) = ap suc (count_lists-view ls)

-- the text of a name among names
pub text_there : (ns : List (String Global)) (k : ℕ) (s : String Global) (t : List ℕ) → k < length ns → s ≡ get_or ns k s → t ≡ string_bytes s → t ≡ get_or (map string_bytes ns) k t
text_there [] k s t h e f = absurd (omega (arith, h))
text_there (n ∷ ns) zero s t h e f = f ∙ ap string_bytes e
text_there (n ∷ ns) (suc k) s t h e f = text_there ns k s t (omega (arith, h)) e f
