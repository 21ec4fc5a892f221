-- The rest of an opened file, where the columns of its first records were taken: the partials of both, and what ends the walk over the rest.
use Rattle.std.proofs.Common.{◌≡◌, ◌<◌, ◌≤◌, ◌^◌, ◌⊎◌, inl, inr, ℕ, suc, List, [], ◌∷◌, ◌++◌, length, Bool, true, Option, Some, None, refl, sym, ap, subst, ◌∙◌, length-append, arith}
use Rattle.std.specs.Prelude.{IfSome}
use Rattle.std.specs.List.{list_all}
use Rattle.std.proofs.lemmas.Bool.{and_from, le-leb, cases_lt}
use Rattle.std.proofs.lemmas.List.{length-map}
use Rattle.dr_meaning.specs.Schema.{Schema}
use Rattle.dr_meaning.specs.Path.{Step, Leaf, paths_of_leaves}
use Rattle.dr_meaning.specs.Record.{Node, is_record}
use Rattle.dr_meaning.specs.Column.{Triplet, column}
use Rattle.dr_meaning.specs.Query.{Query}
use Rattle.dr_formats.specs.File.{most_triplets}
use Rattle.dr_formats.specs.Writing.{triplet_count}
use Rattle.dr_moves.specs.Leading.{Left, columns_of, has_columns}
use Rattle.dr_partials.specs.Partials as meant
use Rattle.dr_partials.specs.PartialLaws.{is_mergeable, is_mergeable_selection}
use Rattle.dr_partials.specs.PartialBounds.{PartialCanBeOf}
use Rattle.dr_partials.specs.Few.{sums_are_small, has_few}
use Rattle.dr_partials.proofs.BoundLemmas.{bound_is_mergeable}
use Rattle.dr_partials.proofs.PartialLemmas.{merged_stands}
use Rattle.dr_partials.proofs.PartialBoundLemmas.{partial_of_few}
use Rattle.dr_group.specs.Partials.{IsPartialOf, partial_view}
use Rattle.dr_group.specs.declared.partial.Partial.{Partial}
use Rattle.dr_group.proofs.PartialLemmas.{alike}
use Rattle.dr_plan.specs.Planned.{Planned, IsOfSchema, plan_leaves, plan_view, planned_query}
use Rattle.dr_plan.specs.PlanOf.{IsPlanOf}
use Rattle.dr_plan.specs.declared.plan.Plan.{Plan}
use Rattle.dr_table.specs.Counting.{counted}
use Rattle.dr_walk.specs.Batches.{is_last}
use Rattle.dr_walk.specs.Walking.{HasColumns}
use Rattle.dr_agreement.specs.Behind.{IsBehind}
use Rattle.dr_scan.specs.Streamed.{IsWholeScan, NoneBegins}
use Rattle.dr_scan.specs.Rests.{IsMadeOf, HasGiven, MayJoin, joined}
use Rattle.dr_scan.specs.declared.making.Making.{Making}
use Rattle.dr_scan.proofs.FileLemmas.{IsWholeFile}
use Rattle.dr_scan.proofs.FrontLemmas.{path_columns, records_within, both_have, none_before}
use Rattle.dr_scan.proofs.LeafLemmas.{plan_leaf_paths}
use Rattle.dr_scan.proofs.LiteralLemmas.{sums_small}
use Rattle.dr_scan.proofs.ScanLemmas.{partial_is, leaves_are}
use Rattle.dr_scan.proofs.Tabulated.{tabulated, tabulated_length, tabulated_is, tabulated_of, tabulated_none}

-- ---- a plan's partials of the first records and of the others

mergeable : (s : Schema) (p : Plan) → IsOfSchema s p → is_mergeable s.fields (planned_query (plan_view p)) ≡ true
mergeable s p h = ap (is_mergeable_selection s.fields) (ap (λ (x : Planned). x.selection) h.3) ∙ bound_is_mergeable s h.0 h.1 h.2

merged_is : (s : Schema) (q : Query) (R S : List Node) (x y : meant.Partial) → is_mergeable s.fields q ≡ true → list_all (is_record s.fields) R ≡ true → list_all (is_record s.fields) S ≡ true
    → x ≡ meant.partial_of s.fields q R → y ≡ meant.partial_of s.fields q S → meant.merge x y ≡ meant.partial_of s.fields q (R ++ S)
unfolding meant.Stands
merged_is s q R S x y m r v e f = merged_stands s.fields q R S x y m r v e f

-- what is made of both is the partial of both
pub joins : (s : Schema) (p : Plan) (R S : List Node) (before : Option Partial) (y : meant.Partial) → IsOfSchema s p → IsMadeOf s p R before → list_all (is_record s.fields) R ≡ true → list_all (is_record s.fields) S ≡ true
    → y ≡ meant.partial_of s.fields (planned_query (plan_view p)) S → joined before y ≡ meant.partial_of s.fields (planned_query (plan_view p)) (R ++ S)
joins s p R S None y h made r v e = e ∙ ap (λ (Q : List Node). meant.partial_of s.fields (planned_query (plan_view p)) (Q ++ S)) (sym made)
joins s p R S (Some x) y h made r v e = merged_is s (planned_query (plan_view p)) R S (partial_view x) y (mergeable s p h) r v made.1 e

pub made_of_plan : (s : Schema) (p : Plan) (R : List Node) (before : Option Partial) → IsMadeOf s p R before → IfSome before (IsPartialOf (plan_view p))
made_of_plan s p R None made = tt
made_of_plan s p R (Some x) made = made.2

-- few values
few_columns : (n : ℕ) (F : List Leaf) (R : List Node) → ((i : ℕ) → length (has_columns (paths_of_leaves F) R i) ≤ n) → has_few n F R ≡ true
few_columns n [] R few = refl
few_columns n (l ∷ F) R few = and_from _ _ (le-leb (length (column l.path R)) n (few 0)) (few_columns n F R (λ i. few (suc i)))

few_values : (s : Schema) (p : Plan) (R : List Node) → IsOfSchema s p → 0 < length (plan_leaves p) → list_all (is_record s.fields) R ≡ true → ((i : ℕ) → length (has_columns (paths_of_leaves (plan_leaves p)) R i) ≤ most_triplets)
    → PartialCanBeOf (2 ^ 60) (meant.partial_of s.fields (planned_query (plan_view p)) R)
few_values s p R h leaf r few =
    let is : IsPlanOf s h.1 p = (h.0, h.2, h.3) in
    let within : (i : ℕ) → length (has_columns (paths_of_leaves (plan_leaves p)) R i) ≤ 2 ^ 60 = λ i. let k = few i in omega (arith, k) in
    let n = length-map (plan_leaves p) (λ (l : Leaf). l.path) in
    subst (PartialCanBeOf (2 ^ 60)) (sym (partial_is s h.1 p R (meant.partial_of s.fields (planned_query (plan_view p)) R) is refl))
    (partial_of_few s h.0 h.1 R (2 ^ 60) h.2 (sym (ap (λ (y : Planned). sums_are_small y.selection) h.3) ∙ sums_small p) r
    (records_within s.fields (paths_of_leaves (plan_leaves p)) R (2 ^ 60) (plan_leaf_paths s p h) r (omega (arith, n, leaf)) within)
    (subst (λ (F : List Leaf). has_few (2 ^ 60) F R ≡ true) (leaves_are s h.1 p is) (few_columns (2 ^ 60) (plan_leaves p) R within)))

pub may_join : (s : Schema) (p : Plan) (R S : List Node) (before : Option Partial) (y : Partial) → IsOfSchema s p → IsMadeOf s p R before → list_all (is_record s.fields) R ≡ true → list_all (is_record s.fields) S ≡ true
    → ((i : ℕ) → length (has_columns (paths_of_leaves (plan_leaves p)) R i) ≤ most_triplets) → ((i : ℕ) → length (has_columns (paths_of_leaves (plan_leaves p)) S i) ≤ most_triplets)
    → partial_view y ≡ meant.partial_of s.fields (planned_query (plan_view p)) S → IsPartialOf (plan_view p) y → MayJoin before y
may_join s p R S None y h made r v few fewer e of_plan = tt
may_join s p R S (Some x) y h made r v few fewer e of_plan = (
  alike (plan_view p) x y made.2 of_plan,
  subst (PartialCanBeOf (2 ^ 60)) (sym made.1) (few_values s p R h made.0 r few),
  subst (PartialCanBeOf (2 ^ 60)) (sym e) (few_values s p S h made.0 v fewer),
)

-- ---- what ends the walk over the rest

module _ (s : Schema) (p : Plan) (rows come : ℕ) (given back : Left) (ended : List Bool) (R : List Node) (h : IsBehind s.fields (paths_of_leaves (plan_leaves p)) rows given back (is_last ended) R come) where
  -- where all of it was given, all columns were
  pub whole_file : (m : Making) → (w : IsWholeScan s p come back ended m) → IsWholeFile s p rows given ended (R ++ w.records)
  whole_file m w =
      let both = both_have s.fields (paths_of_leaves (plan_leaves p)) rows given back (is_last ended) R w.records come w.columns h w.have w.given_all.1 in
      record {
        columns = path_columns (paths_of_leaves (plan_leaves p)) (R ++ w.records);
        have = both.0;
        given_all = (length-map (paths_of_leaves (plan_leaves p)) (λ (q : List Step). column q (R ++ w.records)) ∙ length-map (plan_leaves p) (λ (l : Leaf). l.path), both.1);
        ends = w.ends;
      }

  -- where none have columns that begin so, none have all
  pub none_begins : IsOfSchema s p → NoneBegins s p come back ended → NoneBegins s p rows given ended
  none_begins o none C later x =
      let n = length-map (plan_leaves p) (λ (l : Leaf). l.path) in
      none_before s.fields (paths_of_leaves (plan_leaves p)) rows given back (is_last ended) R come h (plan_leaf_paths s p o) (λ D more y. none D more (y.0 ∙ n, y.1, y.2)) C later (x.0 ∙ sym n, x.1, x.2)

-- ---- so many triplets

pub given_counted : (n : ℕ) (given : Left) (read : ℕ) → ((i : ℕ) → n ≤ i → given i ≡ []) → HasGiven n given read → read ≡ counted 0 (triplet_count (tabulated n given))
given_counted n given read past h = h (tabulated n given) (tabulated_length n given) (tabulated_is n given past)

pub counted_given : (n : ℕ) (given : Left) (read : ℕ) → read ≡ counted 0 (triplet_count (tabulated n given)) → HasGiven n given read
counted_given n given read e C m is = e ∙ sym (ap (λ (D : List (List Triplet)). counted 0 (triplet_count D)) (tabulated_of C given is ∙ ap (λ (k : ℕ). tabulated k given) m))

pub none_given : (n : ℕ) → HasGiven n (λ i. []) 0
none_given n C e is = sym (ap (counted 0) (ap triplet_count (tabulated_of C (λ i. []) is) ∙ tabulated_none (length C)))

-- ---- not too many

most_of_front : (xs ys zs : List Triplet) (n : ℕ) → zs ≡ xs ++ ys → length zs ≤ n → (length xs ≤ n) × (length ys ≤ n)
most_of_front xs ys zs n e h = let k = ap length e in let m = length-append xs ys in (omega (arith, k, m, h), omega (arith, k, m, h))

-- of neither the first records nor what lies behind them
pub both_few : (s : Schema) (p : Plan) (rows come : ℕ) (given back : Left) (ends : ℕ → Bool) (R : List Node) → IsBehind s.fields (paths_of_leaves (plan_leaves p)) rows given back ends R come
    → ((i : ℕ) → i < length (plan_leaves p) → length (given i) ≤ most_triplets) → (i : ℕ) → (length (has_columns (paths_of_leaves (plan_leaves p)) R i) ≤ most_triplets) × (length (back i) ≤ most_triplets)
both_few s p rows come given back ends R h few i = most_of_front (has_columns (paths_of_leaves (plan_leaves p)) R i) (back i) (given i) most_triplets (h.lies i) (by_side (cases_lt i (length (plan_leaves p))))
  where
    by_side : (i < length (plan_leaves p)) ⊎ (length (plan_leaves p) ≤ i) → length (given i) ≤ most_triplets
    by_side (inl l) = few i l
    by_side (inr l) = let n = length-map (plan_leaves p) (λ (l : Leaf). l.path) in let k = ap length (h.past i (omega (arith, l, n))) in omega (arith, k)

-- nor of records that have it
pub rest_few : (s : Schema) (p : Plan) (come : ℕ) (back : Left) (C : List (List Triplet)) (S : List Node) → HasColumns s.fields (paths_of_leaves (plan_leaves p)) C come S → ((i : ℕ) → columns_of C i ≡ back i)
    → ((i : ℕ) → length (back i) ≤ most_triplets) → (i : ℕ) → length (has_columns (paths_of_leaves (plan_leaves p)) S i) ≤ most_triplets
rest_few s p come back C S has is few i = let e = ap length (ap (λ (D : List (List Triplet)). columns_of D i) has.2 ∙ is i) in let k = few i in omega (arith, e, k)
