-- Laws of partials.
use Rattle.std.specs.Prelude.{◌≡◌, ℕ, List, [], ◌∷◌, ◌++◌, map, Bool, true, false, ◌&&◌, Option, Some, Ok}
use Rattle.std.specs.List.{list_all}
use Rattle.dr_meaning.specs.Schema.{Schema, Fields}
use Rattle.dr_meaning.specs.Path.{Step, Leaf, is_leaf_path}
use Rattle.dr_meaning.specs.Record.{Node, is_record, project}
use Rattle.dr_meaning.specs.Expression.{Expression}
use Rattle.dr_meaning.specs.Query.{count, GroupTerm, key, count_rows, aggregate, GroupItem, Selection, objects, groups, Query, count_value, meaning}
use Rattle.dr_meaning.specs.MeaningLaws.{group_term_paths, covers}
use Rattle.dr_meaning.specs.QueryLeaves.{query_leaves}
use Rattle.dr_meaning.specs.Syntax.{QuerySyntax}
use Rattle.dr_meaning.specs.BoundExpression.{are_related}
use Rattle.dr_meaning.specs.Binding.{bind}
use Rattle.dr_partials.specs.Accumulators.{Accumulator, counted, result_of}
use Rattle.dr_partials.specs.Partials.{Group, Partial, grouped, partial_of, Stands, merge, empty_term, empty_partial, finished}
use Rattle.dr_partials.specs.PartialTypes.{is_accumulator, is_partial}

-- ---- of which queries partials can be merged: the repeated fields on their keys, and on an argument beside them, are nested in one another

-- the repeated fields of each two of these paths are nested in one another
abbrev pub all_related : List (List Step) → Bool
all_related [] = true
all_related (p ∷ ps) = list_all (are_related p) ps && all_related ps

-- the keys are leaves; they are related, and so they are together with the paths of any one item
abbrev pub is_mergeable_selection : Fields → Selection → Bool
is_mergeable_selection fs (objects items) = true
is_mergeable_selection fs (groups keys items) = list_all (is_leaf_path fs) keys && all_related keys
    && list_all (λ (i : GroupItem). all_related (keys ++ group_term_paths i.term)) items

abbrev pub is_mergeable : Fields → Query → Bool
is_mergeable fs q = is_mergeable_selection fs q.selection

-- each query that is bound is one
abbrev pub BoundIsMergeable : Type 0
BoundIsMergeable = (s : Schema) (q : QuerySyntax) (b : Query) → bind s q ≡ Ok b → is_mergeable s.fields b ≡ true

-- and the leaves that it uses are enough for it
abbrev pub BoundLeavesAreEnough : Type 0
BoundLeavesAreEnough = (s : Schema) (q : QuerySyntax) (b : Query) → bind s q ≡ Ok b
    → covers (map (λ (l : Leaf). l.path) (query_leaves s.fields b)) b ≡ true

-- ---- what partials mean

-- the partial of records, finished, is what the query means on them
abbrev pub FinishedPartialIsMeaning : Type 0
FinishedPartialIsMeaning = (fs : Fields) (q : Query) (R : List Node) → finished q (partial_of fs q R) ≡ meaning fs q R

-- the partial of records of the schema is a partial of a query that is bound
abbrev pub RecordsHavePartials : Type 0
RecordsHavePartials = (s : Schema) (q : QuerySyntax) (b : Query) (R : List Node) → bind s q ≡ Ok b → list_all (is_record s.fields) R ≡ true
    → is_partial s.fields b (partial_of s.fields b R) ≡ true

-- the empty partial stands for no records
abbrev pub EmptyStandsForNone : Type 0
EmptyStandsForNone = (fs : Fields) (q : Query) → Stands fs q [] (empty_partial q)

-- a partial that stands for R merged with one that stands for S stands for R followed by S
abbrev pub MergedStands : Type 0
MergedStands = (fs : Fields) (q : Query) (R S : List Node) (p r : Partial) → is_mergeable fs q ≡ true → list_all (is_record fs) R ≡ true
    → list_all (is_record fs) S ≡ true → Stands fs q R p → Stands fs q S r → Stands fs q (R ++ S) (merge p r)

-- of the projections of records to leaves that are enough for it a query has the partial that it has of the records
abbrev pub PartialOfProjection : Type 0
PartialOfProjection = (fs : Fields) (q : Query) (F : List (List Step)) (R : List Node) → covers F q ≡ true
    → partial_of fs q (map (project F) R) ≡ partial_of fs q R

-- ---- without GROUP BY

-- a partial of a query without GROUP BY is exactly one group, without keys
abbrev pub OneGroupWithoutKeys : Type 0
OneGroupWithoutKeys = (fs : Fields) (c : Option Expression) (items : List GroupItem) (p : Partial)
    → is_partial fs (record { condition = c; selection = groups [] items }) p ≡ true → (g : Group) × (p ≡ grouped (g ∷ [])) × (g.keys ≡ [])

abbrev pub is_count : GroupTerm → Bool
is_count (key i) = false
is_count count_rows = true
is_count (aggregate count e) = true
is_count (aggregate a e) = false

-- a COUNT has gathered 0 of nothing, and a whole number in any partial: it is never NULL
abbrev pub CountIsNumber : Type 0
CountIsNumber = (fs : Fields) (t : GroupTerm) → is_count t ≡ true
    → (empty_term t ≡ Some (counted 0)) × ((x : Accumulator) → is_accumulator fs t x ≡ true → (n : ℕ) × (result_of x ≡ count_value n))

-- ---- merging partials of one query

-- in any grouping
abbrev pub MergeIsAssociative : Type 0
MergeIsAssociative = (fs : Fields) (q : Query) (p r s : Partial) → is_partial fs q p ≡ true → is_partial fs q r ≡ true → is_partial fs q s ≡ true
    → merge (merge p r) s ≡ merge p (merge r s)

-- groups also in any order
abbrev pub MergeIsCommutative : Type 0
MergeIsCommutative = (fs : Fields) (q : Query) (gs hs : List Group) → is_partial fs q (grouped gs) ≡ true → is_partial fs q (grouped hs) ≡ true
    → merge (grouped gs) (grouped hs) ≡ merge (grouped hs) (grouped gs)

-- the empty partial adds nothing
abbrev pub EmptyMergesToSame : Type 0
EmptyMergesToSame = (fs : Fields) (q : Query) (p : Partial) → is_partial fs q p ≡ true → (merge (empty_partial q) p ≡ p) × (merge p (empty_partial q) ≡ p)

-- it is a partial of the query, and what is merged of two is one
abbrev pub EmptyIsPartial : Type 0
EmptyIsPartial = (fs : Fields) (q : Query) → is_partial fs q (empty_partial q) ≡ true

abbrev pub MergedIsPartial : Type 0
MergedIsPartial = (fs : Fields) (q : Query) (p r : Partial) → is_partial fs q p ≡ true → is_partial fs q r ≡ true → is_partial fs q (merge p r) ≡ true
