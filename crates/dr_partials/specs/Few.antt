-- Queries that sum no great literal, and records with few triplets at leaves.
use Rattle.std.specs.Prelude.{ℕ, List, length, Bool, true, ◌&&◌, nat_le, Some}
use Rattle.std.specs.List.{list_all}
use Rattle.dr_meaning.specs.Path.{Leaf}
use Rattle.dr_meaning.specs.Record.{Node}
use Rattle.dr_meaning.specs.Column.{column}
use Rattle.dr_meaning.specs.Expression.{Expression, constant, conjunction, disjunction}
use Rattle.dr_meaning.specs.Query.{sum, GroupTerm, aggregate, GroupItem, Selection, objects, groups}
use Rattle.dr_partials.specs.PartialBounds.{is_of_64_bits}

-- whether no value of an expression is a literal of more than 64 bits; what is computed never is, since NULL comes in its place
abbrev pub is_small : Expression → Bool
is_small (constant v) = is_of_64_bits (Some v)
is_small (conjunction a b) = is_small a && is_small b
is_small (disjunction a b) = is_small a && is_small b
is_small e = true

-- only SUM adds up values
abbrev pub term_is_small : GroupTerm → Bool
term_is_small (aggregate sum e) = is_small e
term_is_small t = true

-- whether nothing that is selected sums a literal of more than 64 bits
abbrev pub sums_are_small : Selection → Bool
sums_are_small (objects items) = true
sums_are_small (groups keys items) = list_all (λ (i : GroupItem). term_is_small i.term) items

-- whether each of these leaves has at most n triplets in its column of the records
abbrev pub has_few : ℕ → List Leaf → List Node → Bool
has_few n F R = list_all (λ (l : Leaf). nat_le (length (column l.path R)) n) F
