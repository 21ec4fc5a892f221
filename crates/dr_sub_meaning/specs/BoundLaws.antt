-- What is bound over the results of others: it is sound, and what a tree of tablets gathers of it is, finished, what it
-- means.
use Rattle.std.specs.Prelude.{◌≡◌, ℕ, List, [], ◌∷◌, Bool, true, Ok}
use Rattle.std.specs.List.{list_all}
use Rattle.dr_meaning.specs.Schema.{Schema}
use Rattle.dr_meaning.specs.Record.{Node, is_record}
use Rattle.dr_meaning.specs.Query as plain
use Rattle.dr_partials.specs.Partials.{Partial}
use Rattle.dr_partials.specs.PartialLaws.{is_mergeable}
use Rattle.dr_partials.specs.Trees.{Tree, tablets_of, gathered}
use Rattle.dr_partials.specs.TreeLaws.{records_of}
use Rattle.dr_sub_meaning.specs.Nested.{NestedQuery, outer_fields, outer_records, meaning, Stands, finished}
use Rattle.dr_sub_meaning.specs.NestedParse.{NestedSyntax}
use Rattle.dr_sub_meaning.specs.NestedBinding.{bind_nested}
use Rattle.dr_sub_meaning.specs.NestedLaws.{are_record_queries, StandForEach, has_selection_literals}

-- the inner queries' texts are UTF-8
abbrev pub have_literals : List plain.Query → Bool
have_literals qs = list_all (λ (q : plain.Query). has_selection_literals q.selection) qs

-- inner queries are record queries, what the outermost gathers may be merged, and it is over records of its schema
-- where the innermost is
abbrev pub IsSound : Schema → NestedQuery → Type 0
IsSound s n = (are_record_queries n.inner ≡ true) × (is_mergeable (outer_fields s.fields n) n.outer ≡ true)
    × ((R : List Node) → list_all (is_record s.fields) R ≡ true → list_all (is_record (outer_fields s.fields n)) (outer_records s.fields n R) ≡ true)

abbrev pub BoundIsSound : Type 0
BoundIsSound = (s : Schema) (x : NestedSyntax) (n : NestedQuery) → bind_nested s x ≡ Ok n → have_literals n.inner ≡ true → IsSound s n

-- each of these tablets has records of the schema
abbrev pub HaveRecords : Schema → (ℕ → List Node) → List ℕ → Type 0
HaveRecords s R [] = Unit {0}
HaveRecords s R (t ∷ ts) = (list_all (is_record s.fields) (R t) ≡ true) × HaveRecords s R ts

-- whatever the tree, what it gathers of pieces, each of which stands for the query on its own tablet's records, stands
-- for the records of all tablets, and is, finished, what the query means on these
abbrev pub TabletsMeanBound : Type 0
TabletsMeanBound = (s : Schema) (x : NestedSyntax) (n : NestedQuery) (R : ℕ → List Node) (piece : ℕ → Partial) (tree : Tree) → bind_nested s x ≡ Ok n → have_literals n.inner ≡ true
    → HaveRecords s R (tablets_of tree) → StandForEach s.fields n R piece (tablets_of tree)
    → Stands s.fields n (records_of R (tablets_of tree)) (gathered piece tree) × (finished n (gathered piece tree) ≡ meaning s.fields n (records_of R (tablets_of tree)))
