-- Plans of queries' texts, by computation.
use Rattle.std.specs.Prelude.{◌≡◌, ℕ, true, List, [], ◌∷◌, map, pos, Option, Some, None, Result, Ok, Err, option_map, codes, refl}
use Rattle.std.specs.Fmt.{digits}
use Rattle.dr_meaning.specs.Path.{Step, Leaf}
use Rattle.dr_meaning.specs.Record.{int_value, bool_value}
use Rattle.dr_meaning.specs.Expression.{Expression, constant, path_value, comparison, equal, less, like, conjunction, disjunction}
use Rattle.dr_meaning.specs.Query.{Query}
use Rattle.dr_meaning.specs.Syntax.{QuerySyntax}
use Rattle.dr_meaning.specs.Parse.{parse_query, items, keys, whole_expression, argument, QueryFault}
use Rattle.dr_meaning.specs.BoundExpression.{BindFault}
use Rattle.dr_meaning.specs.Binding.{bind}
use Rattle.dr_meaning.specs.QueryLeaves.{query_leaves}
use Rattle.dr_meaning.proofs.WorkedSchemas.{document, document_schema}
use Rattle.dr_meaning.proofs.WorkedPaths.{doc_id, backward, forward, name, language_level, code, url}
use Rattle.dr_plan.specs.Conjuncts.{conjuncts, condition_conjuncts, all_of, Joining, by_number, by_and, joining_from, condition_joining, rejoined, condition_written}
use Rattle.dr_plan.specs.Objects.{ObjectTree, object_tree, no_lists, list_tree}
use Rattle.dr_plan.specs.Planned.{Planned, planned, planned_query, written_query}

abbrev bound : Result Query BindFault → Option Query
bound (Ok q) = Some q
bound (Err e) = None

abbrev bound_syntax : Result QuerySyntax QueryFault → Option Query
bound_syntax (Ok q) = bound (bind document_schema q)
bound_syntax (Err e) = None

-- the plan of a text
abbrev plan_of : List ℕ → Option Planned
plan_of text = option_map (planned document) (bound_syntax (parse_query text))

abbrev leaf_paths : List ℕ → Option (List (List Step))
leaf_paths text = option_map (λ (p : Planned). map (λ (l : Leaf). l.path) p.leaves) (plan_of text)

abbrev tests : List ℕ → Option (List Expression)
tests text = option_map (λ (p : Planned). p.conjuncts) (plan_of text)

abbrev joining : List ℕ → Option (Option Joining)
joining text = option_map (λ (p : Planned). p.joining) (plan_of text)

-- the condition that it runs, and as it was written
abbrev run_condition : List ℕ → Option (Option Expression)
run_condition text = option_map (λ (p : Planned). (planned_query p).condition) (plan_of text)

abbrev own_condition : List ℕ → Option (Option Expression)
own_condition text = option_map (λ (p : Planned). (written_query p).condition) (plan_of text)

abbrev objects_of : Option Planned → Option ObjectTree
objects_of None = None
objects_of (Some p) = p.objects

abbrev objects : List ℕ → Option ObjectTree
objects text = objects_of (plan_of text)

abbrev is_number : List Step → ℕ → Expression
is_number p n = comparison equal (path_value p) (constant (int_value (pos n)))

-- ---- conjuncts

abbrev a : Expression
a = is_number doc_id 1

abbrev b : Expression
b = is_number doc_id 2

abbrev c : Expression
c = is_number doc_id 3

-- in their order, however they are grouped; what stands below an OR is not cut; without a condition there are none
pub cut_at_top : (conjuncts (conjunction a (conjunction b c)) ≡ a ∷ b ∷ c ∷ []) × (conjuncts (conjunction (conjunction a b) c) ≡ a ∷ b ∷ c ∷ []) × (conjuncts a ≡ a ∷ [])
    × (conjuncts (disjunction (conjunction a b) c) ≡ disjunction (conjunction a b) c ∷ []) × (condition_conjuncts None ≡ [])
cut_at_top = (refl, refl, refl, refl, refl)

pub joined_again : (all_of (a ∷ b ∷ c ∷ []) ≡ Some (conjunction (conjunction a b) c)) × (all_of (a ∷ []) ≡ Some a) × (all_of [] ≡ None)
joined_again = (refl, refl, refl)

-- ---- how they were joined

abbrev d : Expression
d = is_number doc_id 4

-- from the left, from the right, and both; one conjunct; what stands below an OR is one; numbers go on from the first's
pub joined_so : (joining_from 0 (conjunction (conjunction a b) c) ≡ by_and (by_and (by_number 0) (by_number 1)) (by_number 2))
    × (joining_from 0 (conjunction a (conjunction b c)) ≡ by_and (by_number 0) (by_and (by_number 1) (by_number 2)))
    × (joining_from 0 (conjunction (conjunction a b) (conjunction c d)) ≡ by_and (by_and (by_number 0) (by_number 1)) (by_and (by_number 2) (by_number 3)))
    × (joining_from 0 a ≡ by_number 0) × (joining_from 0 (disjunction (conjunction a b) c) ≡ by_number 0)
    × (joining_from 5 (conjunction a b) ≡ by_and (by_number 5) (by_number 6))
joined_so = (refl, refl, refl, refl, refl, refl)

pub condition_joined : (condition_joining None ≡ None) × (condition_joining (Some (conjunction a b)) ≡ Some (by_and (by_number 0) (by_number 1)))
condition_joined = (refl, refl)

-- each number has its own conjunct, also one that comes twice, or none; a number without a conjunct is TRUE
pub rejoined_so : (rejoined (a ∷ b ∷ c ∷ []) (by_and (by_number 0) (by_and (by_number 1) (by_number 2))) ≡ conjunction a (conjunction b c))
    × (rejoined (a ∷ b ∷ c ∷ []) (by_and (by_and (by_number 0) (by_number 1)) (by_number 2)) ≡ conjunction (conjunction a b) c)
    × (rejoined (a ∷ b ∷ []) (by_and (by_number 1) (by_number 1)) ≡ conjunction b b) × (rejoined (a ∷ []) (by_number 0) ≡ a)
    × (rejoined (a ∷ []) (by_number 1) ≡ constant (bool_value true)) × (rejoined [] (by_number 0) ≡ constant (bool_value true))
rejoined_so = (refl, refl, refl, refl, refl, refl)

pub written_so : (condition_written (a ∷ b ∷ []) (Some (by_and (by_number 0) (by_number 1))) ≡ Some (conjunction a b)) × (condition_written [] None ≡ None)
    × (condition_written (a ∷ []) None ≡ None)
written_so = (refl, refl, refl)

-- ---- whole plans

abbrev within_text : List ℕ
within_text = codes "SELECT DocId AS Id, COUNT(Name.Language.Code) WITHIN Name AS Cnt, Name.Url + ',' + Name.Language.Code AS Str FROM Document WHERE Name.Url LIKE 'http%' AND DocId < 20"

pub within_leaves : leaf_paths within_text ≡ Some (doc_id ∷ url ∷ code ∷ [])
unfolding bind parse_query items keys whole_expression argument digits query_leaves
within_leaves = refl

pub within_tests : tests within_text ≡ Some (like (path_value url) (codes "http%") ∷ comparison less (path_value doc_id) (constant (int_value (pos 20))) ∷ [])
unfolding bind parse_query items keys whole_expression argument digits query_leaves
within_tests = refl

pub within_objects : objects within_text ≡ Some (object_tree (0 ∷ []) (list_tree (codes "Name") name (object_tree (1 ∷ [])
    (list_tree (codes "Language") language_level (object_tree (2 ∷ []) no_lists) no_lists)) no_lists))
unfolding bind parse_query items keys whole_expression argument digits query_leaves
within_objects = refl

-- several items of one object, whatever stands between them; a list beside a list, in schema order; a level without items on the way to one with items
pub item_places : objects (codes "SELECT Name.Language.Code, DocId, Links.Forward AS f, DocId + 1 AS d, Links.Backward AS b FROM Document") ≡ Some (object_tree (1 ∷ 3 ∷ [])
    (list_tree (codes "Links.Backward") backward (object_tree (4 ∷ []) no_lists) (list_tree (codes "Links.Forward") forward (object_tree (2 ∷ []) no_lists)
    (list_tree (codes "Name") name (object_tree [] (list_tree (codes "Language") language_level (object_tree (0 ∷ []) no_lists) no_lists)) no_lists))))
unfolding bind parse_query items keys whole_expression argument digits query_leaves
item_places = refl

-- an aggregate query has no such tree, and without a condition no tests
pub groups : (objects (codes "SELECT COUNT(*) FROM Document") ≡ None) × (tests (codes "SELECT COUNT(*) FROM Document") ≡ Some []) × (leaf_paths (codes "SELECT COUNT(*) FROM Document") ≡ Some [])
unfolding bind parse_query items keys whole_expression argument digits query_leaves
groups = (refl, refl, refl)

-- what a plan runs takes the ANDs from the left; what it was made of is kept
abbrev right_text : List ℕ
right_text = codes "SELECT DocId FROM Document WHERE DocId = 1 AND (DocId = 2 AND DocId = 3)"

pub right_joined : (joining right_text ≡ Some (Some (by_and (by_number 0) (by_and (by_number 1) (by_number 2)))))
    × (run_condition right_text ≡ Some (Some (conjunction (conjunction a b) c))) × (own_condition right_text ≡ Some (Some (conjunction a (conjunction b c))))
unfolding bind parse_query items keys whole_expression argument digits query_leaves
right_joined = (refl, refl, refl)

pub not_joined : (joining (codes "SELECT COUNT(*) FROM Document") ≡ Some None) × (own_condition (codes "SELECT COUNT(*) FROM Document") ≡ Some None)
unfolding bind parse_query items keys whole_expression argument digits query_leaves
not_joined = (refl, refl)
