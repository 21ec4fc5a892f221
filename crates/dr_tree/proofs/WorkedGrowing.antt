-- A tree of five tablets grows in every order, by computation.
use Rattle.std.specs.Prelude.{◌≡◌, ℕ, ◌==◌, List, [], ◌∷◌, map, length, replicate, Bool, true, false, ◌&&◌, if◌then◌else◌, Option, Some, None, refl}
use Rattle.std.specs.List.{flat_map, list_all}
use Rattle.dr_meaning.specs.Query.{Query, objects, Object, no_entries, cell}
use Rattle.dr_partials.specs.Partials.{Partial, lines, grouped, merge, empty_partial}
use Rattle.dr_partials.specs.Trees.{of_fan, tablets_of, gathered}
use Rattle.dr_tree.specs.GrowingLaws.{fill_all}
use Rattle.dr_tree.specs.Places.{Place, free_places, has_free, filled, fill, merged}
use Rattle.dr_tree.specs.Subtrees.{tablets_by_child}

abbrev five : List ℕ
five = 0 ∷ 1 ∷ 2 ∷ 3 ∷ 4 ∷ []

-- the tablet t has t lines, each with its number as a name
abbrev lines_of_tablet : ℕ → List Object
lines_of_tablet t = replicate t (cell (t ∷ []) None no_entries)

abbrev piece : ℕ → Partial
piece t = lines (lines_of_tablet t)

-- ---- every order

-- the number at each place among others
abbrev everywhere : ℕ → List ℕ → List (List ℕ)
everywhere x [] = (x ∷ []) ∷ []
everywhere x (y ∷ ys) = (x ∷ y ∷ ys) ∷ map (λ zs. y ∷ zs) (everywhere x ys)

abbrev orders : List ℕ → List (List ℕ)
orders [] = [] ∷ []
orders (x ∷ xs) = flat_map (everywhere x) (orders xs)

-- how many lines a place has; 9 where none were added
abbrev count_lines : Option Partial → ℕ
count_lines None = 9
count_lines (Some (lines os)) = length os
count_lines (Some (grouped gs)) = 9

abbrev has_each : List Place → List ℕ → Bool
has_each [] [] = true
has_each (p ∷ ps) (t ∷ ts) = (p.tablet == t) && (count_lines p.piece == t) && has_each ps ts
has_each ps ts = false

pub there_are_120 : length (orders five) ≡ 120
there_are_120 = refl

pub any_order : list_all (λ order. has_each (fill_all piece order (free_places five)) five) (orders five) ≡ true
any_order = refl

-- ---- the trees

pub the_tablets : (tablets_of (of_fan 5 2) ≡ five) × (tablets_of (of_fan 5 3) ≡ five)
unfolding of_fan
the_tablets = (refl, refl)

-- the tablets below each child of their roots; a leaf server alone is its own
pub the_children : (tablets_by_child (of_fan 5 2) ≡ (0 ∷ 1 ∷ 2 ∷ 3 ∷ []) ∷ (4 ∷ []) ∷ []) × (tablets_by_child (of_fan 5 3) ≡ (0 ∷ 1 ∷ 2 ∷ []) ∷ (3 ∷ 4 ∷ []) ∷ []) × (tablets_by_child (of_fan 1 3) ≡ (0 ∷ []) ∷ [])
unfolding of_fan
the_children = (refl, refl, refl)

abbrev all_lines : Query
all_lines = record { condition = None; selection = objects [] }

-- all lines, in the order of the tablets
abbrev all_five : Partial
all_five = lines (flat_map lines_of_tablet five)

pub both_gather : (gathered piece (of_fan 5 2) ≡ all_five) × (gathered piece (of_fan 5 3) ≡ all_five)
unfolding of_fan merge
both_gather = (refl, refl)

-- what either gathers is what was added, in each of the orders
pub any_order_gathers : map (λ order. merged all_lines (fill_all piece order (free_places five))) (orders five) ≡ replicate 120 all_five
unfolding merge empty_partial
any_order_gathers = refl

-- ---- some alone

-- the fourth and the second: theirs, in the order of the tablets; their places take no others
pub two_of_five : (p r : Partial) → fill_all (λ t. if t == 3 then p else r) (3 ∷ 1 ∷ []) (free_places five)
    ≡ record { tablet = 0; piece = None } ∷ filled 1 r ∷ record { tablet = 2; piece = None } ∷ filled 3 p ∷ record { tablet = 4; piece = None } ∷ []
two_of_five p r = refl

pub no_second : (p : Partial) → (has_free 3 (fill 3 p (free_places five)) ≡ false) × (has_free 2 (fill 3 p (free_places five)) ≡ true) × (has_free 5 (free_places five) ≡ false)
no_second p = (refl, refl, refl)
