-- Laws of queries over the results of others.
use Rattle.std.specs.Prelude.{◌≡◌, ℕ, List, [], ◌∷◌, ◌++◌, map, Bool, true, false, ◌&&◌, Option, Some, None, Ok}
use Rattle.std.specs.Str.{is_utf8}
use Rattle.std.specs.List.{list_all}
use Rattle.dr_meaning.specs.Schema.{Schema, Fields}
use Rattle.dr_meaning.specs.Path.{Step, is_leaf_path}
use Rattle.dr_meaning.specs.Record.{Value, bool_value, int_value, text_value, Node, is_record, project}
use Rattle.dr_meaning.specs.Expression.{Expression, constant, path_value, negative, arithmetic, comparison, like, contains, is_null, negation, conjunction, disjunction, evaluate, paths_of}
use Rattle.dr_meaning.specs.Query as plain
use Rattle.dr_meaning.specs.Query.{RecordTerm, expression, within, RecordItem, Selection, objects, groups}
use Rattle.dr_meaning.specs.Syntax.{QuerySyntax}
use Rattle.dr_meaning.specs.Binding.{bind}
use Rattle.dr_meaning.specs.BindingLaws.{has_shapes}
use Rattle.dr_meaning.specs.MeaningLaws as plain_laws
use Rattle.dr_partials.specs.Partials.{Partial, merge}
use Rattle.dr_partials.specs.PartialLaws.{is_mergeable}
use Rattle.dr_partials.specs.PartialTypes.{expression_type, has_type}
use Rattle.dr_partials.specs.Trees.{Tree, tablets_of, gathered}
use Rattle.dr_partials.specs.TreeLaws.{records_of}
use Rattle.dr_partials.specs.Rewriting as plain_rewriting
use Rattle.dr_sub_meaning.specs.ResultRecords.{result_fields, records_of as result_records}
use Rattle.dr_sub_meaning.specs.Nested.{NestedQuery, records_through, outer_fields, outer_records, innermost, answered, meaning, partial_of, Stands, finished, leaf_query}

abbrev pub is_record_selection : Selection → Bool
is_record_selection (objects items) = true
is_record_selection (groups keys items) = false

-- each inner query is a record query
abbrev pub are_record_queries : List plain.Query → Bool
are_record_queries qs = list_all (λ (q : plain.Query). is_record_selection q.selection) qs

-- record queries go record by record: what they give on records, and then others, is what they give on each, one behind
-- the other
abbrev pub RecordByRecord : Type 0
RecordByRecord = (fs : Fields) (qs : List plain.Query) (R S : List Node) → are_record_queries qs ≡ true
    → records_through fs qs (R ++ S) ≡ records_through fs qs R ++ records_through fs qs S

-- ---- the records of a result are records of its schema

-- a text of UTF-8, or no text
abbrev pub is_held_text : Option Value → Bool
is_held_text None = true
is_held_text (Some (bool_value b)) = true
is_held_text (Some (int_value z)) = true
is_held_text (Some (text_value t)) = is_utf8 t

-- the texts among an expression's literals are such texts
abbrev pub has_literals : Expression → Bool
has_literals (constant v) = is_held_text (Some v)
has_literals (path_value p) = true
has_literals (negative e) = has_literals e
has_literals (arithmetic o a b) = has_literals a && has_literals b
has_literals (comparison c a b) = has_literals a && has_literals b
has_literals (like e t) = has_literals e
has_literals (contains e t) = has_literals e
has_literals (is_null e) = has_literals e
has_literals (negation e) = has_literals e
has_literals (conjunction a b) = has_literals a && has_literals b
has_literals (disjunction a b) = has_literals a && has_literals b

-- an expression over a schema: its paths are those of leaves, its literals are texts, and in each node of the schema's
-- shapes its value has its type
pub record FitsSchema (fs : Fields) (e : Expression) : Type 0 where
  pub leaves : list_all (λ p. is_leaf_path fs p) (paths_of e) ≡ true
  pub literals : has_literals e ≡ true
  pub typed : (n : Node) → has_shapes fs n ≡ true → has_type (expression_type fs e) (evaluate e n) ≡ true

abbrev pub TermFits : Fields → RecordTerm → Type 0
TermFits fs (expression e) = FitsSchema fs e
TermFits fs (within a e node) = FitsSchema fs e

abbrev pub ItemsFit : Fields → List RecordItem → Type 0
ItemsFit fs [] = Unit {0}
ItemsFit fs (i ∷ is) = TermFits fs i.term × ItemsFit fs is

abbrev pub SelectionFits : Fields → Selection → Type 0
SelectionFits fs (objects items) = ItemsFit fs items
SelectionFits fs (groups keys items) = ⊥

-- what a record query gives on records of its schema are records of the result's
abbrev pub ResultsAreRecords : Type 0
ResultsAreRecords = (fs : Fields) (q : plain.Query) (R : List Node) → SelectionFits fs q.selection → list_all (is_record fs) R ≡ true
    → list_all (is_record (result_fields fs q)) (result_records (plain.meaning fs q R)) ≡ true

-- ---- tablets

-- of each of these tablets what the inner queries give are records of what the outermost query is over
abbrev pub GiveRecords : Fields → NestedQuery → (ℕ → List Node) → List ℕ → Type 0
GiveRecords fs n R [] = Unit {0}
GiveRecords fs n R (t ∷ ts) = (list_all (is_record (outer_fields fs n)) (outer_records fs n (R t)) ≡ true) × GiveRecords fs n R ts

abbrev pub StandForEach : Fields → NestedQuery → (ℕ → List Node) → (ℕ → Partial) → List ℕ → Type 0
StandForEach fs n R piece [] = Unit {0}
StandForEach fs n R piece (t ∷ ts) = Stands fs n (R t) (piece t) × StandForEach fs n R piece ts

-- whatever the tree, what it gathers of pieces that stand for their tablets' records stands for the records of all its
-- tablets, in order: the tablets' leaf queries, each over what the inner queries give on the tablet, come to the whole
abbrev pub NestedGatheredStands : Type 0
NestedGatheredStands = (fs : Fields) (n : NestedQuery) (R : ℕ → List Node) (piece : ℕ → Partial) (tree : Tree) → are_record_queries n.inner ≡ true
    → is_mergeable (outer_fields fs n) n.outer ≡ true → GiveRecords fs n R (tablets_of tree) → StandForEach fs n R piece (tablets_of tree)
    → Stands fs n (records_of R (tablets_of tree)) (gathered piece tree)

-- and, finished, it is what the query means on these
abbrev pub NestedGatheredMeans : Type 0
NestedGatheredMeans = (fs : Fields) (n : NestedQuery) (R : ℕ → List Node) (piece : ℕ → Partial) (tree : Tree) → are_record_queries n.inner ≡ true
    → is_mergeable (outer_fields fs n) n.outer ≡ true → GiveRecords fs n R (tablets_of tree) → StandForEach fs n R piece (tablets_of tree)
    → finished n (gathered piece tree) ≡ meaning fs n (records_of R (tablets_of tree))

-- the root query over the inner queries over the leaf query of each tablet's results, in order and cut, gives what the
-- query means on the records of all tablets
abbrev pub NestedRootMeans : Type 0
NestedRootMeans = (fs : Fields) (n : NestedQuery) (R : ℕ → List Node) (tree : Tree) → are_record_queries n.inner ≡ true
    → is_mergeable (outer_fields fs n) n.outer ≡ true → GiveRecords fs n R (tablets_of tree)
    → answered n (plain_rewriting.root_answer (outer_fields fs n) n.outer (λ t. outer_records fs n (R t)) tree) ≡ meaning fs n (records_of R (tablets_of tree))

-- ---- other laws of partials

abbrev pub NestedMergedStands : Type 0
NestedMergedStands = (fs : Fields) (n : NestedQuery) (R S : List Node) (p r : Partial) → are_record_queries n.inner ≡ true
    → is_mergeable (outer_fields fs n) n.outer ≡ true → list_all (is_record (outer_fields fs n)) (outer_records fs n R) ≡ true
    → list_all (is_record (outer_fields fs n)) (outer_records fs n S) ≡ true → Stands fs n R p → Stands fs n S r → Stands fs n (R ++ S) (merge p r)

abbrev pub NestedLeafHasPartials : Type 0
NestedLeafHasPartials = (fs : Fields) (n : NestedQuery) (R : List Node) → partial_of fs (leaf_query n) R ≡ partial_of fs n R

abbrev pub NestedFinishedIsMeaning : Type 0
NestedFinishedIsMeaning = (fs : Fields) (n : NestedQuery) (R : List Node) → finished n (partial_of fs n R) ≡ meaning fs n R

-- leaves that are enough for the innermost query are enough: the table's records are read by it alone
abbrev pub NestedMeaningOfProjection : Type 0
NestedMeaningOfProjection = (fs : Fields) (n : NestedQuery) (F : List (List Step)) (R : List Node) → plain_laws.covers F (innermost n.inner n.outer) ≡ true
    → meaning fs n (map (project F) R) ≡ meaning fs n R

abbrev pub NestedPartialOfProjection : Type 0
NestedPartialOfProjection = (fs : Fields) (n : NestedQuery) (F : List (List Step)) (R : List Node) → plain_laws.covers F (innermost n.inner n.outer) ≡ true
    → partial_of fs n (map (project F) R) ≡ partial_of fs n R

-- ---- bound queries

abbrev pub has_term_literals : RecordTerm → Bool
has_term_literals (expression e) = has_literals e
has_term_literals (within a e node) = has_literals e

abbrev pub has_selection_literals : Selection → Bool
has_selection_literals (objects items) = list_all (λ (i : RecordItem). has_term_literals i.term) items
has_selection_literals (groups keys items) = false

-- a record query that is bound, and whose texts are UTF-8, gives records of the result's schema on records of its own
abbrev pub BoundResultsAreRecords : Type 0
BoundResultsAreRecords = (s : Schema) (x : QuerySyntax) (q : plain.Query) (R : List Node) → bind s x ≡ Ok q → has_selection_literals q.selection ≡ true
    → list_all (is_record s.fields) R ≡ true → list_all (is_record (result_fields s.fields q)) (result_records (plain.meaning s.fields q R)) ≡ true
