-- The leaf at whose rows a plan's aggregates take: the last of those that they and the keys read.
use Rattle.std.proofs.Common.{◌≡◌, ℕ, zero, suc, ◌+◌, ◌<◌, List, [], ◌∷◌, ◌++◌, map, length, Bool, true, false, Option, Some, None, refl, sym, ap, subst, ◌∙◌, true≢false, arith}
use Rattle.std.specs.Prelude.{◌==◌, nat_lt, filter, slice_index_or, if◌then◌else◌}
use Rattle.std.specs.List.{list_all, slice_get}
use Rattle.std.proofs.lemmas.Bool.{and_parts, eq-eqb, ne_eqb}
use Rattle.std.proofs.lemmas.List.{map-append}
use Rattle.dr_meaning.specs.Schema.{Fields}
use Rattle.dr_meaning.specs.Path.{Step, Leaf, paths_of_leaves, is_leaf_path, begins_with, chain_end, longer}
use Rattle.dr_meaning.specs.Expression.{longest_chain, expression_chain, evaluate}
use Rattle.dr_meaning.specs.AutomatonLaws.{AreInReadingOrder}
use Rattle.dr_meaning.specs.Record.{Node}
use Rattle.dr_moves.specs.Selection.{all_differ}
use Rattle.dr_partials.specs.PartialLaws.{all_related}
use Rattle.dr_partials.proofs.RelatedLemmas.{chains_begin}
use Rattle.dr_partials.proofs.RowLemmas.{Each}
use Rattle.dr_made_laws.specs.LastRead as last_read
use Rattle.dr_made_laws.proofs.LastReadLemmas.{last_reads_all, longest_of_both}
use Rattle.dr_made_laws.proofs.LeavesInOrderLemmas.{query_leaves_in_order}
use Rattle.dr_plan.specs.Views.{path_of, expr_view, aggregate_view}
use Rattle.dr_plan.specs.declared.aggregate.Aggregate.{Aggregate}
use Rattle.dr_scalar.specs.Leaves.{greatest}
use Rattle.dr_scalar.proofs.LeafPathLemmas.{leaves_are_paths}
use Rattle.dr_condition.proofs.GreatestLemmas.{same_greatest}
use Rattle.dr_condition.proofs.LeavesBelow.{are_below}
use Rattle.dr_condition.proofs.ReadRows.{same_paths, below_paths, AreLeavesOf}
use Rattle.dr_partials.specs.Readings.{Reading, readings_of}
use Rattle.dr_rows_beside.proofs.SourceLemmas.{less}
use Rattle.dr_columns.specs.RowPuts.{paths_at}
use Rattle.dr_rows_beside.specs.Sources.{AreOnItsChain}
use Rattle.dr_columns.specs.Takings.{Take, aggregate_leaves, taken_at, same_leaf, takings_at}

pub record AreInOrder (fs : Fields) (F : List (List Step)) : Type 0 where
  pub leaves : list_all (is_leaf_path fs) F ≡ true
  pub order : AreInReadingOrder fs F
  pub differ : all_differ F ≡ true

pub leaves_in_order : (fs : Fields) (ls : List Leaf) → AreLeavesOf fs ls → AreInOrder fs (paths_of_leaves ls)
leaves_in_order fs ls o =
    let a = query_leaves_in_order fs o.query in
    subst (λ (ms : List Leaf). AreInOrder fs (paths_of_leaves ms)) (sym o.same) (record { leaves = a.0; order = a.1; differ = a.2 })

-- ---- the last of some leaves

-- one of these leaves, on whose chain those of the numbers are, and which has their longest chain
pub record IsLastOf (F : List (List Step)) (K : List ℕ) (k : ℕ) : Type 0 where
  pub path : List Step
  pub is_path : slice_get F k ≡ Some path
  pub on_it : AreOnItsChain F path K
  pub longest : chain_end path ≡ longest_chain (last_read.paths_at F K)

pub path_there : (F : List (List Step)) (k : ℕ) → k < length F → slice_get F k ≡ Some (slice_index_or F k [])
path_there [] k h = absurd (omega (arith, h))
path_there (p ∷ F) zero h = refl
path_there (p ∷ F) (suc k) h = path_there F k (omega (arith, h))

each_on_it : (F : List (List Step)) (p : List Step) (K : List ℕ) → list_all (λ k. nat_lt k (length F)) K ≡ true
    → Each (λ (q : List Step). begins_with (chain_end q) (chain_end p) ≡ true) (last_read.paths_at F K) → AreOnItsChain F p K
each_on_it F p [] b e = tt
each_on_it F p (k ∷ K) b e =
    let w : (nat_lt k (length F) ≡ true) × (list_all (λ k. nat_lt k (length F)) K ≡ true) = and_parts _ _ b in
    ((slice_index_or F k [], path_there F k (less k (length F) w.0), e.0), each_on_it F p K w.1 e.1)

pub last_of : (fs : Fields) (ls : List Leaf) → AreInOrder fs (paths_of_leaves ls) → (K : List ℕ) (k : ℕ) → are_below ls K ≡ true → all_related (last_read.paths_at (paths_of_leaves ls) K) ≡ true → greatest K ≡ Some k
    → IsLastOf (paths_of_leaves ls) K k
last_of fs ls o K k b r g =
    let F = paths_of_leaves ls in
    let a = last_reads_all fs F K k o.leaves o.order o.differ (below_paths ls K b) r (sym (same_greatest K) ∙ g) in
    record {
      path = a.0;
      is_path = a.1;
      on_it = each_on_it F a.0 K (below_paths ls K b) (subst (λ (l : List Step). Each (λ (q : List Step). begins_with (chain_end q) l ≡ true) (last_read.paths_at F K)) (sym a.3) (chains_begin (last_read.paths_at F K) r));
      longest = a.3;
    }

-- ---- readings

module _ (ls : List Leaf) (ks : List ℕ) where
  abbrev K : List (List Step)
  K = paths_at ls ks

  -- what an aggregate of a number reads
  abbrev pub reading_by : ℕ → Aggregate → Reading
  reading_by i Aggregate.Rows = record { chain = longest_chain K; aggregate = i; value = λ (row : Node). None }
  reading_by i (Aggregate.Of f e) = record { chain = longer (longest_chain K) (expression_chain (expr_view ls e)); aggregate = i; value = evaluate (expr_view ls e) }

  abbrev pub reading_of : Take → Reading
  reading_of t = reading_by t.number t.aggregate

  pub chain_read : (i : ℕ) (a : Aggregate) → longest_chain (last_read.paths_at (paths_of_leaves ls) (ks ++ aggregate_leaves a)) ≡ (reading_by i a).chain
  chain_read i a =
      ap longest_chain (same_paths ls (ks ++ aggregate_leaves a) ∙ map-append (λ k. path_of (slice_get ls k)) ks (aggregate_leaves a))
      ∙ (longest_of_both K (map (λ k. path_of (slice_get ls k)) (aggregate_leaves a)) ∙ by_aggregate a)
    where
      nothing_longer : (p : List Step) → longer p [] ≡ p
      nothing_longer [] = refl
      nothing_longer (s ∷ p) = refl

      by_aggregate : (b : Aggregate) → longer (longest_chain K) (longest_chain (map (λ k. path_of (slice_get ls k)) (aggregate_leaves b))) ≡ (reading_by i b).chain
      by_aggregate Aggregate.Rows = nothing_longer (longest_chain K)
      by_aggregate (Aggregate.Of f e) = ap (λ (ps : List (List Step)). longer (longest_chain K) (longest_chain ps)) (leaves_are_paths ls e)

-- ---- by the leaf at which they are taken

abbrev pub or_end : ℕ → Option ℕ → ℕ
or_end n None = n
or_end n (Some k) = k

test_at : (n k : ℕ) (o : Option ℕ) → k < n → (or_end n o == k) ≡ same_leaf o (Some k)
test_at n k None h = ne_eqb n k (λ (e : n ≡ k). omega (arith, e, h))
test_at n k (Some j) h = refl

test_end : (n : ℕ) (o : Option ℕ) → ((j : ℕ) → o ≡ Some j → j < n) → (or_end n o == n) ≡ same_leaf o None
test_end n None h = eq-eqb n n refl
test_end n (Some j) h = ne_eqb j n (λ (e : j ≡ n). omega (arith, e, h j refl))

-- by the numbers of aggregates, of which the first is the ith
abbrev pub TakenAt : ℕ → List ℕ → (ℕ → ℕ) → ℕ → List Aggregate → Type 0
TakenAt n ks at i A = (j : ℕ) (a : Aggregate) → slice_get A j ≡ Some a → at (i + j) ≡ or_end n (taken_at ks a)

first_taken : (n : ℕ) (ks : List ℕ) (at : ℕ → ℕ) (i : ℕ) (a : Aggregate) (A : List Aggregate) → TakenAt n ks at i (a ∷ A) → at i ≡ or_end n (taken_at ks a)
first_taken n ks at i a A h = let e : i + 0 ≡ i = omega arith in ap at (sym e) ∙ h 0 a refl

rest_taken : (n : ℕ) (ks : List ℕ) (at : ℕ → ℕ) (i : ℕ) (a : Aggregate) (A : List Aggregate) → TakenAt n ks at i (a ∷ A) → TakenAt n ks at (suc i) A
rest_taken n ks at i a A h j b e = let f : suc i + j ≡ i + suc j = omega arith in ap at f ∙ h (suc j) b e

module _ (ls : List Leaf) (ks : List ℕ) (n : ℕ) (at : ℕ → ℕ) (k : ℕ) (o : Option ℕ) where
  readings_there : (i : ℕ) (A : List Aggregate) → TakenAt n ks at i A → ((j : ℕ) (a : Aggregate) → slice_get A j ≡ Some a → (or_end n (taken_at ks a) == k) ≡ same_leaf (taken_at ks a) o)
      → filter (λ (x : Reading). at x.aggregate == k) (readings_of (paths_at ls ks) i (map (aggregate_view ls) A)) ≡ map (reading_of ls ks) (takings_at ks o i A)
  readings_there i [] h t = refl
  readings_there i (a ∷ A) h t =
      by_aggregate a (ap (λ (j : ℕ). j == k) (first_taken n ks at i a A h) ∙ t 0 a refl) (readings_there (suc i) A (rest_taken n ks at i a A h) (λ j b e. t (suc j) b e))
    where
      rest : List Reading
      rest = readings_of (paths_at ls ks) (suc i) (map (aggregate_view ls) A)

      by_test : (b : Aggregate) (x y : Bool) → x ≡ y → filter (λ (r : Reading). at r.aggregate == k) rest ≡ map (reading_of ls ks) (takings_at ks o (suc i) A)
          → (if x then reading_by ls ks i b ∷ filter (λ (r : Reading). at r.aggregate == k) rest else filter (λ (r : Reading). at r.aggregate == k) rest)
          ≡ map (reading_of ls ks) (if y then record { number = i; aggregate = b } ∷ takings_at ks o (suc i) A else takings_at ks o (suc i) A)
      by_test b true true e r = ap (λ (rs : List Reading). reading_by ls ks i b ∷ rs) r
      by_test b false false e r = r
      by_test b true false e r = absurd (true≢false e)
      by_test b false true e r = absurd (true≢false (sym e))

      by_aggregate : (b : Aggregate) → (at i == k) ≡ same_leaf (taken_at ks b) o → filter (λ (r : Reading). at r.aggregate == k) rest ≡ map (reading_of ls ks) (takings_at ks o (suc i) A)
          → filter (λ (r : Reading). at r.aggregate == k) (readings_of (paths_at ls ks) i (map (aggregate_view ls) (b ∷ A))) ≡ map (reading_of ls ks) (takings_at ks o i (b ∷ A))
      by_aggregate Aggregate.Rows e r = by_test Aggregate.Rows (at i == k) (same_leaf (taken_at ks Aggregate.Rows) o) e r
      by_aggregate (Aggregate.Of f x) e r = by_test (Aggregate.Of f x) (at i == k) (same_leaf (taken_at ks (Aggregate.Of f x)) o) e r

pub readings_at_leaf : (ls : List Leaf) (ks : List ℕ) (n : ℕ) (at : ℕ → ℕ) (k i : ℕ) (A : List Aggregate) → k < n → TakenAt n ks at i A
    → filter (λ (x : Reading). at x.aggregate == k) (readings_of (paths_at ls ks) i (map (aggregate_view ls) A)) ≡ map (reading_of ls ks) (takings_at ks (Some k) i A)
readings_at_leaf ls ks n at k i A l h = readings_there ls ks n at k (Some k) i A h (λ j a e. test_at n k (taken_at ks a) l)

pub readings_at_end : (ls : List Leaf) (ks : List ℕ) (n : ℕ) (at : ℕ → ℕ) (i : ℕ) (A : List Aggregate) → TakenAt n ks at i A
    → ((j m : ℕ) (a : Aggregate) → slice_get A j ≡ Some a → taken_at ks a ≡ Some m → m < n)
    → filter (λ (x : Reading). at x.aggregate == n) (readings_of (paths_at ls ks) i (map (aggregate_view ls) A)) ≡ map (reading_of ls ks) (takings_at ks None i A)
readings_at_end ls ks n at i A h w = readings_there ls ks n at n None i A h (λ j a e. test_end n (taken_at ks a) (λ m f. w j m a e f))
