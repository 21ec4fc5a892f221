-- ORDER BY and LIMIT: the objects of a result in the order of one of their values, and the first of them.
use Rattle.std.specs.Prelude.{ℕ, zero, suc, List, [], ◌∷◌, map, Bool, if◌then◌else◌, bytes_eq, Option, Some, None, option_map, take}
use Rattle.std.specs.Ordering.{is_lt}
use Rattle.dr_meaning.specs.Path.{same_path}
use Rattle.dr_meaning.specs.Record.{Value}
use Rattle.dr_meaning.specs.Query.{RecordItem, GroupItem, Selection, objects, groups, Object, no_entries, cell, list, cell_order, term_chain}

-- the item of the outermost object by which a result goes, counted from 0 among the items of that object; ascending, or
-- descending
pub record Order : Type 0 where
  pub item : ℕ
  pub descending : Bool

-- ---- the items of the outermost object

abbrev pub record_names : List RecordItem → List (List ℕ)
record_names [] = []
record_names (i ∷ is) = if same_path [] (term_chain i.term) then i.name ∷ record_names is else record_names is

-- their names: of a record query those of its items that stand in no list, of an aggregate query all
abbrev pub outermost_names : Selection → List (List ℕ)
outermost_names (objects items) = record_names items
outermost_names (groups keys items) = map (λ (i : GroupItem). i.name) items

-- the first of these names that is this one
abbrev pub place_of_name : List ℕ → List (List ℕ) → Option ℕ
place_of_name n [] = None
place_of_name n (m ∷ ms) = if bytes_eq n m then Some 0 else option_map (λ i. suc i) (place_of_name n ms)

-- the value of an item in an object; an object's values stand before its lists
abbrev pub item_value : ℕ → Object → Option Value
item_value i no_entries = None
item_value zero (cell m v o) = v
item_value (suc i) (cell m v o) = item_value i o
item_value i (list m os o) = None

-- ---- stable orders

-- x among ys, before those that don't go before it
abbrev pub insert_by : {A : Type 0} → (A → A → Bool) → A → List A → List A
insert_by before x [] = x ∷ []
insert_by before x (y ∷ ys) = if before y x then y ∷ insert_by before x ys else x ∷ y ∷ ys

-- all in order; those of which none goes before the other stay as they stand
abbrev pub in_order_by : {A : Type 0} → (A → A → Bool) → List A → List A
in_order_by before [] = []
in_order_by before (x ∷ xs) = insert_by before x (in_order_by before xs)

-- whether an object goes before another: by the order of values, NULL first; descending by its reverse, NULL last
abbrev pub goes_before : Order → Object → Object → Bool
goes_before r a b = if r.descending then is_lt (cell_order (item_value r.item b) (item_value r.item a)) else is_lt (cell_order (item_value r.item a) (item_value r.item b))

unfoldable pub in_order : Order → List Object → List Object
in_order r os = in_order_by (goes_before r) os

-- ---- a result

abbrev pub by_order : Option Order → List Object → List Object
by_order None os = os
by_order (Some r) os = in_order r os

-- the first so many
abbrev pub cut : Option ℕ → List Object → List Object
cut None os = os
cut (Some n) os = take n os

-- in order, then cut
abbrev pub arranged : Option Order → Option ℕ → List Object → List Object
arranged order limit os = cut limit (by_order order os)
