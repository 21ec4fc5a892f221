-- What a projection to leaves keeps, where a query's paths lead on to these leaves: what the query means; and the columns of these leaves.
use Rattle.std.specs.Prelude.{◌≡◌, List, [], ◌∷◌, ◌++◌, map, Bool, true, Option, Some, None}
use Rattle.std.specs.List.{list_all, flat_map}
use Rattle.dr_meaning.specs.Schema.{Fields}
use Rattle.dr_meaning.specs.Path.{Step, chain_end}
use Rattle.dr_meaning.specs.Record.{Node, project}
use Rattle.dr_meaning.specs.Expression.{Expression, paths_of}
use Rattle.dr_meaning.specs.Query.{RecordTerm, expression, within, GroupTerm, key, count_rows, aggregate, RecordItem, GroupItem, Selection, objects}
use Rattle.dr_meaning.specs.Query.{groups, Query, meaning}
use Rattle.dr_meaning.specs.Column.{record_column}
use Rattle.dr_meaning.specs.ProjectionLaws.{leads}

-- ---- the paths of a query: those of its condition, of its keys and of its items

abbrev pub condition_paths : Option Expression → List (List Step)
condition_paths None = []
condition_paths (Some e) = paths_of e

-- an aggregate within a node also has the path of that node's instances
abbrev pub record_term_paths : RecordTerm → List (List Step)
record_term_paths (expression e) = paths_of e
record_term_paths (within a e node) = chain_end node ∷ paths_of e

abbrev pub group_term_paths : GroupTerm → List (List Step)
group_term_paths (key i) = []
group_term_paths count_rows = []
group_term_paths (aggregate a e) = paths_of e

abbrev pub selection_paths : Selection → List (List Step)
selection_paths (objects items) = flat_map (λ (i : RecordItem). record_term_paths i.term) items
selection_paths (groups keys items) = keys ++ flat_map (λ (i : GroupItem). group_term_paths i.term) items

abbrev pub query_paths : Query → List (List Step)
query_paths q = condition_paths q.condition ++ selection_paths q.selection

-- whether each of these paths leads on to one of these leaves
abbrev pub all_lead : List (List Step) → List (List Step) → Bool
all_lead F ps = list_all (λ p. leads p F) ps

-- whether these leaves are enough for a query: each of its paths leads on to one of them
abbrev pub covers : List (List Step) → Query → Bool
covers F q = all_lead F (query_paths q)

-- ---- the laws

-- a query means on the projections of records what it means on the records
abbrev pub MeaningOfProjection : Type 0
MeaningOfProjection = (fs : Fields) (q : Query) (F : List (List Step)) (R : List Node) → covers F q ≡ true → meaning fs q (map (project F) R) ≡ meaning fs q R

-- a projection has the columns of the record
abbrev pub ColumnsOfProjection : Type 0
ColumnsOfProjection = (F : List (List Step)) (p : List Step) (n : Node) → leads p F ≡ true → record_column p (project F n) ≡ record_column p n
