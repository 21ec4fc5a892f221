-- Laws of rewriting.
use Rattle.std.specs.Prelude.{◌≡◌, ℕ, true, List}
use Rattle.std.specs.List.{list_all}
use Rattle.dr_meaning.specs.Schema.{Fields}
use Rattle.dr_meaning.specs.Path.{Step}
use Rattle.dr_meaning.specs.Record.{Node, is_record}
use Rattle.dr_meaning.specs.Query.{Query, meaning}
use Rattle.dr_meaning.specs.MeaningLaws.{covers}
use Rattle.dr_meaning.specs.QueryLeaves.{query_leaves}
use Rattle.dr_partials.specs.Partials.{Partial, partial_of}
use Rattle.dr_partials.specs.PartialTypes.{is_partial}
use Rattle.dr_partials.specs.PartialLaws.{is_mergeable}
use Rattle.dr_partials.specs.Trees.{Tree, tablets_of}
use Rattle.dr_partials.specs.TreeLaws.{records_of}
use Rattle.dr_partials.specs.Rewriting.{leaf_query, root_answer}

-- the leaf query has the partials of the query
abbrev pub LeafHasPartials : Type 0
LeafHasPartials = (fs : Fields) (q : Query) (R : List Node) → partial_of fs (leaf_query q) R ≡ partial_of fs q R

-- and the same partials are partials of both; it uses the same leaves, and the same are enough for it
abbrev pub LeafHasSamePartials : Type 0
LeafHasSamePartials = (fs : Fields) (q : Query) (p : Partial) → is_partial fs (leaf_query q) p ≡ is_partial fs q p

abbrev pub LeafCoveredAlike : Type 0
LeafCoveredAlike = (F : List (List Step)) (q : Query) → covers F (leaf_query q) ≡ covers F q

abbrev pub LeafUsesSameLeaves : Type 0
LeafUsesSameLeaves = (fs : Fields) (q : Query) → query_leaves fs (leaf_query q) ≡ query_leaves fs q

-- whatever the tree, the root query over the inner queries over the leaf query gives what the query means on the records of all tablets
abbrev pub RootMeansQuery : Type 0
RootMeansQuery = (fs : Fields) (q : Query) (R : ℕ → List Node) (tree : Tree) → is_mergeable fs q ≡ true
    → list_all (is_record fs) (records_of R (tablets_of tree)) ≡ true → root_answer fs q R tree ≡ meaning fs q (records_of R (tablets_of tree))
