-- What depends on related leaves of a query alone is known at the last of them, in the rows of their longest chain.
use Rattle.std.proofs.Common.{◌≡◌, ℕ, List, true, Option, sym, subst}
use Rattle.dr_meaning.specs.Schema.{Fields}
use Rattle.dr_meaning.specs.Path.{Leaf, paths_of_leaves}
use Rattle.dr_meaning.specs.Record.{Node}
use Rattle.dr_meaning.specs.Expression.{longest_chain}
use Rattle.dr_meaning.specs.Query.{Query}
use Rattle.dr_meaning.specs.QueryLeaves.{query_leaves}
use Rattle.dr_moves.specs.Context.{Context}
use Rattle.dr_kept_laws.specs.GroupFlowLaws.{MeansAt}
use Rattle.dr_partials.specs.PartialLaws.{all_related}
use Rattle.dr_made_laws.specs.LastRead.{paths_at}
use Rattle.dr_made_laws.proofs.LastReadLemmas.{meant_at_last}
use Rattle.dr_made_laws.proofs.LeavesInOrderLemmas.{query_leaves_in_order}
use Rattle.dr_scalar.specs.Leaves.{greatest}
use Rattle.dr_scalar.specs.LeafLaws.{SameRead}
use Rattle.dr_condition.specs.RowValues.{read_of}
use Rattle.dr_condition.proofs.GreatestLemmas.{same_greatest}
use Rattle.dr_condition.proofs.LeavesBelow.{are_below}
use Rattle.dr_condition.proofs.ReadRows.{below_paths, row_is_read, AreLeavesOf}

abbrev pub MeansAtLast : Type 0 → List Leaf → Type 0
MeansAtLast X ls = (K : List ℕ) (f : Context → X) → are_below ls K ≡ true → all_related (paths_at (paths_of_leaves ls) K) ≡ true
    → ((c d : Context) → SameRead K c d → f c ≡ f d)
    → MeansAt (paths_of_leaves ls) (greatest K) f (longest_chain (paths_at (paths_of_leaves ls) K)) (λ (row : Node). f (read_of ls row))

module _ (X : Type 0) where
  query_means : (fs : Fields) (q : Query) → MeansAtLast X (query_leaves fs q)
  query_means fs q K f b r same =
      let ls = query_leaves fs q in
      let F = paths_of_leaves ls in
      let o = query_leaves_in_order fs q in
      let g : Node → X = λ (row : Node). f (read_of ls row) in
      subst (λ (i : Option ℕ). MeansAt F i f (longest_chain (paths_at F K)) g) (sym (same_greatest K))
      (meant_at_last X fs F K f g o.0 o.1 o.2 (below_paths ls K b) r
      (λ c row h. same c (read_of ls row) (row_is_read ls K c row b h)))

  pub read_means : (fs : Fields) (ls : List Leaf) → AreLeavesOf fs ls → MeansAtLast X ls
  read_means fs ls o = subst (MeansAtLast X) (sym o.same) (query_means fs o.query)
