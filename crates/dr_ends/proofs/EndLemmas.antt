-- Where objects that are read of cells end.
use Rattle.std.specs.Prelude.{◌≡◌, ◌<◌, ℕ, zero, suc, ◌+◌, List, [], ◌∷◌, length, get_or, drop, take, min}
use Rattle.std.proofs.Common.{refl, sym, ap, ◌∙◌, arith}
use Rattle.std.proofs.lemmas.List.{drop-drop}
use Rattle.dr_cells.specs.Results.{ResultCell, first_count, ShapeTree, shape_tree, ListShapes, count_lists, ReadObject, ReadObjects, read_object, read_lists, read_times}
use Rattle.dr_cells.specs.Shapes.{shape_view, list_view, lists_view}
use Rattle.dr_cells.specs.declared.shape.ListShape as lists
use Rattle.dr_cells.proofs.ShapeLemmas.{view-list_shape}

pub later_value : (k : ℕ) (cs : List ResultCell) → drop k (drop 1 cs) ≡ drop (suc k) cs
later_value k cs = let e : 1 + k ≡ suc k = omega arith in drop-drop k 1 cs ∙ ap (λ n. drop n cs) e

abbrev pub shape_at : lists.ListShape → ShapeTree
shape_at l = shape_view (lists.out-ListShape l).shape

pub same_shape : (l : lists.ListShape) → (list_view l).shape ≡ shape_at l
same_shape l = ap (λ x. x.shape) (view-list_shape l)

-- what is behind one list more
pub list_passed : (ls : List lists.ListShape) (counts cs : List ResultCell) (k : ℕ) (l : lists.ListShape) → k < length ls → l ≡ get_or ls k l
    → (read_lists (lists_view (take (k + 1) ls)) counts cs).rest
    ≡ (read_times (read_object (shape_at l)) (first_count (drop k counts)) (read_lists (lists_view (take k ls)) counts cs).rest).rest
list_passed [] counts cs k l h e = absurd (omega (arith, h))
list_passed (m ∷ ls) counts cs zero l h e = ap (λ (s : ShapeTree). (read_times (read_object s) (first_count counts) cs).rest) (same_shape m ∙ ap shape_at (sym e))
list_passed (m ∷ ls) counts cs (suc k) l h e =
    let here : ReadObjects = read_times (read_object (list_view m).shape) (first_count counts) cs in
    let f : suc k + 1 ≡ suc (k + 1) = omega arith in
    ap (λ n. (read_lists (lists_view (take n (m ∷ ls))) counts cs).rest) f
    ∙ list_passed ls (drop 1 counts) here.rest k l (omega (arith, h)) e
    ∙ ap (λ (xs : List ResultCell). (read_times (read_object (shape_at l)) (first_count xs) (read_lists (lists_view (take k ls)) (drop 1 counts) here.rest).rest).rest) (later_value k counts)

take_none : (n : ℕ) → take {A = lists.ListShape} n [] ≡ []
take_none zero = refl
take_none (suc n) = refl

pub all_passed : (ls : List lists.ListShape) (k most : ℕ) → k ≡ min most (length ls) → take k ls ≡ take most ls
all_passed [] k most e = take_none k ∙ sym (take_none most)
all_passed (l ∷ ls) zero zero e = refl
all_passed (l ∷ ls) zero (suc most) e = absurd (omega (arith, e))
all_passed (l ∷ ls) (suc k) zero e = absurd (omega (arith, e))
all_passed (l ∷ ls) (suc k) (suc most) e = ap (λ (xs : List lists.ListShape). l ∷ xs) (all_passed ls k most (omega (arith, e)))

-- what is behind one object more
pub object_passed : (read : List ResultCell → ReadObject) (k : ℕ) (cs : List ResultCell) → (read_times read (k + 1) cs).rest ≡ (read (read_times read k cs).rest).rest
object_passed read zero cs = refl
object_passed read (suc k) cs =
    let f : suc k + 1 ≡ suc (k + 1) = omega arith in
    ap (λ n. (read_times read n cs).rest) f ∙ object_passed read k (read cs).rest

pub object_rest : (s : ShapeTree) (ns : List (List ℕ)) (ls : ListShapes) (cs ks ds : List ResultCell) → s ≡ shape_tree ns ls → ks ≡ drop (length ns) cs → ds ≡ drop (count_lists ls) ks
    → (read_lists ls ks ds).rest ≡ (read_object s cs).rest
object_rest s ns ls cs ks ds e f g =
    ap (λ (xs : List ResultCell). (read_lists ls ks xs).rest) g ∙ ap (λ (xs : List ResultCell). (read_lists ls xs (drop (count_lists ls) xs)).rest) f
    ∙ ap (λ (x : ShapeTree). (read_object x cs).rest) (sym e)

pub count_lists-view : (ls : List lists.ListShape) → count_lists (lists_view ls) ≡ length ls
count_lists-view [] = refl
count_lists-view (l ∷ ls) = ap suc (count_lists-view ls)
