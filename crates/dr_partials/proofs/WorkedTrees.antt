-- Trees of a fan, and what trees gather, by computation.
use Rattle.std.specs.Prelude.{◌≡◌, ℕ, [], ◌∷◌, None, refl}
use Rattle.dr_meaning.specs.Query.{cell, no_entries, Object}
use Rattle.dr_partials.specs.Partials.{Partial, lines, merge}
use Rattle.dr_partials.specs.Trees.{Tree, leaf_server, intermediate_server, no_trees, next_tree, tablets_of, gathered, trees_of, of_fan}

abbrev pair : Tree → Tree → Tree
pair t u = intermediate_server t (next_tree u no_trees)

abbrev alone : Tree → Tree
alone t = intermediate_server t no_trees

abbrev leaf : ℕ → Tree
leaf t = leaf_server t

pub five_by_two : of_fan 5 2 ≡ pair (pair (pair (leaf 0) (leaf 1)) (pair (leaf 2) (leaf 3))) (alone (alone (leaf 4)))
unfolding of_fan
five_by_two = refl

pub one_by_two : of_fan 1 2 ≡ leaf 0
unfolding of_fan
one_by_two = refl

pub two_by_two : of_fan 2 2 ≡ pair (leaf 0) (leaf 1)
unfolding of_fan
two_by_two = refl

-- seven below servers of three: three, three and one
pub seven_by_three : of_fan 7 3 ≡ intermediate_server (intermediate_server (leaf 0) (trees_of (leaf 1 ∷ leaf 2 ∷ [])))
    (trees_of (intermediate_server (leaf 3) (trees_of (leaf 4 ∷ leaf 5 ∷ [])) ∷ alone (leaf 6) ∷ []))
unfolding of_fan
seven_by_three = refl

pub four_by_nine : of_fan 4 9 ≡ intermediate_server (leaf 0) (trees_of (leaf 1 ∷ leaf 2 ∷ leaf 3 ∷ []))
unfolding of_fan
four_by_nine = refl

abbrev uneven : Tree
uneven = pair (alone (leaf 3)) (intermediate_server (leaf 0) (trees_of (leaf 5 ∷ leaf 1 ∷ [])))

pub leaves_in_order : tablets_of uneven ≡ 3 ∷ 0 ∷ 5 ∷ 1 ∷ []
leaves_in_order = refl

-- the one line of a tablet, with its number for a name
abbrev named : ℕ → Object
named n = cell (n ∷ []) None no_entries

abbrev piece : ℕ → Partial
piece n = lines (named n ∷ [])

pub gathered_in_order : gathered piece uneven ≡ lines (named 3 ∷ named 0 ∷ named 5 ∷ named 1 ∷ [])
unfolding merge
gathered_in_order = refl
