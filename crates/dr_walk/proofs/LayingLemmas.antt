-- Laying out, part by part.
use Rattle.std.proofs.Common.{◌≡◌, ℕ, suc, ◌+◌, List, [], ◌∷◌, ◌++◌, map, length, Option, Some, None, Vec, Global, refl, sym, ap, ap₂, subst, ◌∙◌, append_assoc, add-one, arith}
use Rattle.std.specs.Prelude.{reverse}
use Rattle.std.proofs.lemmas.List.{map-append, reverse-append}
use Rattle.dr_meaning.specs.Schema.{required, repeated, Fields, Shape}
use Rattle.dr_meaning.specs.Path.{Step}
use Rattle.dr_meaning.specs.Automaton.{Pick, picks}
use Rattle.dr_moves.specs.Course.{Gate, Visit, Items, near_items, far_items, field_near_items, unless_repeated, shape_near_items, shape_far_items, course}
use Rattle.dr_moves.proofs.NodesMade.{required_items}
use Rattle.dr_walk.specs.Laying.{FlatItem, flat_look, flat_end, flat_visit, plain_visit, lap_of, Lap, Level, no_level, noted, with_items, nulls_of, Laid, laying, lay, closed, visited}
use Rattle.dr_walk.specs.Views.{items_view, item_view, groups_view, gates_view}
use Rattle.dr_walk.specs.Flat.{IsBody, is_laid, visit_at, far_of_field}
use Rattle.dr_walk.specs.declared.items.Item.{Item}
use Rattle.dr_walk.specs.declared.items.Lap as code_lap
use Rattle.dr_walk.specs.declared.items.Gate as code_gate
use Rattle.dr_walk.specs.declared.laying.Depth.{Depth}
use Rattle.dr_walk.proofs.FlatLemmas.{lay_followed, laid_body, HasLeaves}

map_reverse : {A B : Type 0} (f : A → B) (xs : List A) → map f (reverse xs) ≡ reverse (map f xs)
map_reverse f [] = refl
map_reverse f (x ∷ xs) =
    ap (map f) (reverse-append (x ∷ []) xs) ∙ map-append f (reverse xs) (x ∷ []) ∙ ap (λ ys. ys ++ f x ∷ []) (map_reverse f xs) ∙ sym (reverse-append (f x ∷ []) (map f xs))

-- a level's beginning, its items and its end, one after another behind others
pub closed_items : (code is : List Item) (G : List (Vec code_gate.Gate Global)) (g : Vec (Vec code_gate.Gate Global) Global) (e : Option code_lap.Lap) → g.items ≡ reverse G
    → items_view (((code ++ Item.Look g ∷ []) ++ is) ++ Item.End e ∷ []) ≡ items_view code ++ closed (is_laid e) (record { items = items_view is; gates = groups_view G })
closed_items code is G g e h =
    map-append item_view ((code ++ Item.Look g ∷ []) ++ is) (Item.End e ∷ [])
    ∙ ap (λ (xs : List FlatItem). xs ++ flat_end (is_laid e) ∷ []) (map-append item_view (code ++ Item.Look g ∷ []) is ∙ ap (λ (xs : List FlatItem). xs ++ items_view is) (map-append item_view code (Item.Look g ∷ [])))
    ∙ append_assoc (items_view code ++ flat_look (groups_view g.items) ∷ []) (items_view is) (flat_end (is_laid e) ∷ [])
    ∙ append_assoc (items_view code) (flat_look (groups_view g.items) ∷ []) (items_view is ++ flat_end (is_laid e) ∷ [])
    ∙ ap (λ (x : List (List Gate)). items_view code ++ (flat_look x ∷ (items_view is ++ flat_end (is_laid e) ∷ []))) (ap groups_view h ∙ map_reverse (λ (v : Vec code_gate.Gate Global). gates_view v.items) G)

-- a required field's leaves are of the same definition level
pub required_near : (h : Shape) (F : List Pick) (G : List Gate) (d : ℕ) → unless_repeated required (field_near_items required h F G d) ≡ shape_near_items h F G d
required_near h F G d = let e : d + 0 ≡ d = omega arith in required_items h F G d ∙ ap (λ (x : ℕ). shape_near_items h F G x) e

-- a repeated field, behind the level of its instances
pub far_repeated : (h : Shape) (F : List Pick) (at : Depth) (G : List Gate) (s b : Laid)
    → b ≡ lay (shape_far_items h F (at.number + 1) (at.level + 1) [] (at.definition + 1)) (lay (shape_near_items h F [] (at.definition + 1)) (laying s.code no_level))
    → visited (visit_at h F at G) b s.level ≡ lay (far_of_field repeated h F at G) s
far_repeated h F at G s b e =
    ap (λ (x : Laid). visited (visit_at h F at G) x s.level) (e
    ∙ ap (λ (n : ℕ). lay (shape_far_items h F n (at.level + 1) [] (at.definition + 1)) (lay (shape_near_items h F [] (at.definition + 1)) (laying s.code no_level))) (add-one at.number)
    ∙ sym (lay_followed (shape_near_items h F [] (at.definition + 1)) (shape_far_items h F (suc at.number) (at.level + 1) [] (at.definition + 1)) (laying s.code no_level)))

pub far_required : (h : Shape) (F : List Pick) (at : Depth) (G : List Gate) → far_of_field required h F at G ≡ shape_far_items h F at.number at.level G at.definition
far_required h F at G =
    let e : at.level + 0 ≡ at.level = omega arith in
    let f : at.definition + 0 ≡ at.definition = omega arith in
    ap₂ (λ (x y : ℕ). shape_far_items h F at.number x G y) e f

-- a repeated field that joins a level, with its NULLs
pub visit_joins : (v : Visit) (code : List FlatItem) (b L M N : Level) (c : List FlatItem) (xs : List FlatItem) (o : Option Lap) (item : FlatItem)
    → c ≡ code ++ closed o b → o ≡ Some (lap_of v (length code)) → xs ≡ nulls_of b.items → item ≡ flat_visit (plain_visit v (length xs) (length code)) → M ≡ with_items (item ∷ []) (noted v.gates L) → N ≡ with_items xs M
    → laying c N ≡ visited v (laying code b) L
visit_joins v code b L M N c xs o item e f g h m n =
    let x : N ≡ with_items (flat_visit (plain_visit v (length (nulls_of b.items)) (length code)) ∷ nulls_of b.items) (noted v.gates L) =
    n ∙ ap (with_items xs) (m ∙ ap (λ (i : FlatItem). with_items (i ∷ []) (noted v.gates L)) h)
    ∙ ap (λ (ys : List FlatItem). record { items = ys; gates = (noted v.gates L).gates }) (append_assoc L.items (flat_visit (plain_visit v (length xs) (length code)) ∷ []) xs)
    ∙ ap (λ (ys : List FlatItem). with_items (flat_visit (plain_visit v (length ys) (length code)) ∷ ys) (noted v.gates L)) g in
    ap₂ laying (e ∙ ap (λ (p : Option Lap). code ++ closed p b) f) x

-- the course, from nothing
pub course_laid : (fs : Fields) (F : List (List Step)) (a b : Laid) → a ≡ lay (near_items fs (picks F) [] 0) (laying [] no_level) → b ≡ lay (far_items fs (picks F) 1 0 [] 0) a → b ≡ lay (course fs F) (laying [] no_level)
course_laid fs F a b e f = f ∙ ap (lay (far_items fs (picks F) 1 0 [] 0)) e ∙ sym (lay_followed (near_items fs (picks F) [] 0) (far_items fs (picks F) 1 0 [] 0) (laying [] no_level))

pub table_stands : (I : Items) (t : Laid) (items : List FlatItem) (root : ℕ) → HasLeaves I → t ≡ lay I (laying [] no_level) → items ≡ t.code ++ closed None t.level → root ≡ length t.code → IsBody items None root I
table_stands I t items root h e f g =
    subst (λ (n : ℕ). IsBody items None n I) (sym g)
    (subst (λ (xs : List FlatItem). IsBody xs None (length t.code) I) (sym f)
    (subst (λ (s : Laid). IsBody (s.code ++ closed None s.level) None (length s.code) I) (sym e) (laid_body I h None)))
