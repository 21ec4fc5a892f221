-- The tests of a plan, watched, are the condition of the query that it runs.
use Rattle.std.proofs.Common.{◌≡◌, ℕ, zero, suc, List, [], ◌∷◌, map, Bool, true, false, Option, Some, None}
use Rattle.std.proofs.Common.{refl, sym, ap, subst, ◌∙◌, true≢false}
use Rattle.std.specs.Prelude.{Ok, option_map}
use Rattle.std.specs.List.{list_all, flat_map, slice_get}
use Rattle.dr_meaning.specs.Schema.{Schema, Fields}
use Rattle.dr_meaning.specs.Path.{Step, Leaf, paths_of_leaves, chain_end}
use Rattle.dr_meaning.specs.Record.{Node, Instances, no_instances, instance, Instance, atom, inner, single, instances_at, put_at, is_record}
use Rattle.dr_meaning.specs.Expression.{Expression, evaluate, expression_chain, is_true, paths_of, longest_chain}
use Rattle.dr_meaning.specs.Kept.{with_kept, keep_each, if_some_kept, keep_below, keep_instance, kept, kept_along}
use Rattle.dr_meaning.specs.Query.{Query}
use Rattle.dr_meaning.specs.QueryLeaves.{query_leaves}
use Rattle.dr_meaning.specs.Syntax.{QuerySyntax}
use Rattle.dr_meaning.specs.Binding.{bind}
use Rattle.dr_meaning.specs.BindingLaws.{has_shapes}
use Rattle.dr_moves.specs.Condition.{Watch}
use Rattle.dr_kept_laws.specs.ChainNumbers.{chain_numbers}
use Rattle.dr_kept_laws.specs.TellingLaws.{StandsFor}
use Rattle.dr_partials.specs.PartialLaws.{all_related}
use Rattle.dr_made_laws.specs.LastRead.{paths_at}
use Rattle.dr_made_laws.proofs.AlikeLemmas.{alike_conditions, constant_conditions}
use Rattle.dr_made_laws.proofs.ConditionLemmas.{condition_is_related}
use Rattle.dr_made_laws.proofs.LastReadLemmas.{last_stands}
use Rattle.dr_made_laws.proofs.LeavesInOrderLemmas.{query_leaves_in_order}
use Rattle.dr_plan.specs.Conjuncts.{condition_conjuncts, joined, all_of}
use Rattle.dr_plan.specs.Fitting.{truth_fits}
use Rattle.dr_plan.specs.Planned.{Planned, plan_view, plan_leaves, planned_query}
use Rattle.dr_plan.specs.PlanOf.{IsPlanOf}
use Rattle.dr_plan.specs.Views.{truth_view}
use Rattle.dr_plan.specs.declared.expression.Truth.{Truth}
use Rattle.dr_plan.specs.declared.plan.Plan.{Plan}
use Rattle.dr_plan.proofs.ConjunctLemmas.{conjuncts_have_paths}
use Rattle.dr_scalar.specs.Leaves.{greatest, tests_leaves}
use Rattle.dr_scalar.specs.OverSlots.{tests_over}
use Rattle.dr_scalar.proofs.ConditionLemmas.{joined_paths, joined_true}
use Rattle.dr_scalar.proofs.LeafPathLemmas.{test_leaves_are_paths}
use Rattle.dr_scalar.proofs.SameReadLemmas.{same_test_leaves_tell}
use Rattle.dr_scalar.proofs.TestLemmas.{tests_mean}
use Rattle.dr_condition.specs.RowValues.{read_of}
use Rattle.dr_condition.specs.Parted.{constants_hold}
use Rattle.dr_condition.specs.ConditionLaws.{WatchKeeps}
use Rattle.dr_condition.proofs.GreatestLemmas.{same_greatest}
use Rattle.dr_condition.proofs.LeavesBelow.{are_below, test_leaves_below}
use Rattle.dr_condition.proofs.PartedLemmas.{no_greatest, constants_true, never_true}
use Rattle.dr_condition.proofs.ReadRows.{same_paths, below_paths, row_is_read, all_are_read, AreLeavesOf, plan_leaves_are, rows_typed}

-- ---- their leaves

related_conjuncts : (s : Schema) (x : QuerySyntax) (q : Query) → bind s x ≡ Ok q
    → all_related (flat_map paths_of (condition_conjuncts q.condition)) ≡ true
related_conjuncts s x q h = by_condition q.condition refl
  where
    by_condition : (c : Option Expression) → q.condition ≡ c → all_related (flat_map paths_of (condition_conjuncts c)) ≡ true
    by_condition None e = refl
    by_condition (Some c) e = ap all_related (conjuncts_have_paths c) ∙ condition_is_related s x q c h e

-- tests of leaves of a query, which fit; what they read is related
pub record AreTests (fs : Fields) (ls : List Leaf) (ts : List Truth) : Type 0 where
  pub of_query : AreLeavesOf fs ls
  pub fit : list_all (truth_fits ls) ts ≡ true
  pub related : all_related (paths_at (paths_of_leaves ls) (tests_leaves ts)) ≡ true

pub plan_tests : (s : Schema) (q : Query) (p : Plan) → IsPlanOf s q p → AreTests s.fields (plan_leaves p) p.test.items
plan_tests s q p h =
    let ls = plan_leaves p in
    record {
      of_query = plan_leaves_are s q p h;
      fit = p.tested;
      related =
          ap all_related (same_paths ls (tests_leaves p.test.items) ∙ (test_leaves_are_paths ls p.test.items
          ∙ ap (λ (x : Planned). flat_map paths_of x.conjuncts) h.2))
          ∙ related_conjuncts s h.0 q h.1;
    }

-- in a row of the schema's shapes they are what the condition of them all is
tests_are : (fs : Fields) (ls : List Leaf) (t : Truth) (ts : List Truth) → AreTests fs ls (t ∷ ts) → (row : Node) → has_shapes fs row ≡ true
    → tests_over (read_of ls row) (t ∷ ts) ≡ is_true (evaluate (joined (truth_view ls t) (map (truth_view ls) ts)) row)
tests_are fs ls t ts a row h =
    tests_mean ls (t ∷ ts) (read_of ls row) row a.fit (rows_typed fs ls a.of_query row h) (all_are_read ls (tests_leaves (t ∷ ts)) row)
    ∙ sym (joined_true (truth_view ls t) (map (truth_view ls) ts) row)

-- and its paths are those of their leaves
test_paths : (ls : List Leaf) (t : Truth) (ts : List Truth)
    → paths_at (paths_of_leaves ls) (tests_leaves (t ∷ ts)) ≡ paths_of (joined (truth_view ls t) (map (truth_view ls) ts))
test_paths ls t ts =
    same_paths ls (tests_leaves (t ∷ ts))
    ∙ (test_leaves_are_paths ls (t ∷ ts) ∙ sym (joined_paths (truth_view ls t) (map (truth_view ls) ts)))

-- ---- they are watched

-- as one test, with this chain, of whose leaves this is the last
abbrev pub watch_tests : List ℕ → ℕ → List Truth → Watch
watch_tests chain last ts = record { chain = chain; last = last; test = λ c. tests_over c ts }

-- a watch of these tests stands for them
abbrev Stands : Fields → List Leaf → Type 0
Stands fs ls = (ts : List Truth) (last : ℕ) (chain : List ℕ) → list_all (truth_fits ls) ts ≡ true
    → all_related (paths_at (paths_of_leaves ls) (tests_leaves ts)) ≡ true → greatest (tests_leaves ts) ≡ Some last
    → ((p : List Step) → slice_get (paths_of_leaves ls) last ≡ Some p → chain ≡ chain_numbers fs p)
    → (p : List Step)
    × StandsFor fs (paths_of_leaves ls) (watch_tests chain last ts) p (tests_leaves ts) (λ (row : Node). tests_over (read_of ls row) ts)
    × (chain_end p ≡ longest_chain (paths_at (paths_of_leaves ls) (tests_leaves ts)))

query_stands : (fs : Fields) (q : Query) → Stands fs (query_leaves fs q)
query_stands fs q ts last chain f r g c =
    let ls = query_leaves fs q in
    let K = tests_leaves ts in
    let o = query_leaves_in_order fs q in
    let b : are_below ls K ≡ true = test_leaves_below ls ts f in
    last_stands fs (paths_of_leaves ls) K (watch_tests chain last ts) (λ (row : Node). tests_over (read_of ls row) ts) o.0 o.1 o.2
    (below_paths ls K b) r (sym (same_greatest K) ∙ g) c
    (λ d row h. same_test_leaves_tell ts d (read_of ls row) (row_is_read ls K d row b h))

leaves_stand : (fs : Fields) (ls : List Leaf) → AreLeavesOf fs ls → Stands fs ls
leaves_stand fs ls o = subst (Stands fs) (sym o.same) (query_stands fs o.query)

-- a chain that is that of the leaf of this number
chain_of_path : (fs : Fields) (ls : List Leaf) (last : ℕ) (chain : List ℕ)
    → ((l : Leaf) → slice_get ls last ≡ Some l → chain ≡ chain_numbers fs l.path)
    → (p : List Step) → slice_get (paths_of_leaves ls) last ≡ Some p → chain ≡ chain_numbers fs p
chain_of_path fs [] last chain h p e = absurd (cc)
chain_of_path fs (l ∷ ls) zero chain h p e = let q : l.path ≡ p = cc in h l refl ∙ ap (chain_numbers fs) q
chain_of_path fs (l ∷ ls) (suc last) chain h p e = chain_of_path fs ls last chain h p e

none_or_some : (last : ℕ) → None ≡ Some last → ⊥
none_or_some last e = cc

tests_watch : (fs : Fields) (ls : List Leaf) (ts : List Truth) (last : ℕ) (chain : List ℕ) → AreTests fs ls ts
    → greatest (tests_leaves ts) ≡ Some last → ((l : Leaf) → slice_get ls last ≡ Some l → chain ≡ chain_numbers fs l.path)
    → WatchKeeps fs (paths_of_leaves ls) (watch_tests chain last ts) (all_of (map (truth_view ls) ts))
tests_watch fs ls [] last chain a g c = absurd (none_or_some last g)
tests_watch fs ls (t ∷ ts) last chain a g c =
    let e = joined (truth_view ls t) (map (truth_view ls) ts) in
    let test : Node → Bool = λ (row : Node). tests_over (read_of ls row) (t ∷ ts) in
    let x = leaves_stand fs ls a.of_query (t ∷ ts) last chain a.fit a.related g (chain_of_path fs ls last chain c) in (
      x.0,
      tests_leaves (t ∷ ts),
      test,
      x.1,
      λ n r. alike_conditions fs e (chain_end x.0) test (x.2 ∙ ap longest_chain (test_paths ls t ts)) (tests_are fs ls t ts a) n r,
    )

pub plan_watches : (s : Schema) (q : Query) (p : Plan) → IsPlanOf s q p → (last : ℕ) → greatest (tests_leaves p.test.items) ≡ Some last
    → (chain : List ℕ) → ((l : Leaf) → slice_get (plan_leaves p) last ≡ Some l → chain ≡ chain_numbers s.fields l.path)
    → WatchKeeps s.fields (paths_of_leaves (plan_leaves p)) (watch_tests chain last p.test.items) (planned_query (plan_view p)).condition
plan_watches s q p h last g chain c = tests_watch s.fields (plan_leaves p) p.test.items last chain (plan_tests s q p h) g c

-- ---- without leaves

tests_constant : (fs : Fields) (ls : List Leaf) (ts : List Truth) → AreTests fs ls ts → greatest (tests_leaves ts) ≡ None → constants_hold ts ≡ true
    → (n : Node) → is_record fs n ≡ true → kept (all_of (map (truth_view ls) ts)) n ≡ Some n
tests_constant fs ls [] a g b n r = refl
tests_constant fs ls (t ∷ ts) a g b n r =
    let none : tests_leaves (t ∷ ts) ≡ [] = no_greatest (tests_leaves (t ∷ ts)) g in
    let e = joined (truth_view ls t) (map (truth_view ls) ts) in
    constant_conditions fs e true
    (sym (test_paths ls t ts) ∙ ap (paths_at (paths_of_leaves ls)) none)
    (λ row h. sym (constants_true (t ∷ ts) none b (read_of ls row)) ∙ tests_are fs ls t ts a row h) n r

pub plan_constant : (s : Schema) (q : Query) (p : Plan) → IsPlanOf s q p → greatest (tests_leaves p.test.items) ≡ None → constants_hold p.test.items ≡ true
    → (n : Node) → is_record s.fields n ≡ true → kept (planned_query (plan_view p)).condition n ≡ Some n
plan_constant s q p h g b n r = tests_constant s.fields (plan_leaves p) p.test.items (plan_tests s q p h) g b n r

-- ---- where one without leaves isn't true

no_instance_kept : (p : List Step) → ((m : Node) → kept_along p (λ row. false) m ≡ None) → (row_of : Instance → Node) (xs : Instances)
    → keep_each (keep_instance (kept_along p) row_of (λ row. false)) xs ≡ no_instances
no_instance_kept p f row_of no_instances = refl
no_instance_kept p f row_of (instance (atom v) xs) = no_instance_kept p f row_of xs
no_instance_kept p f row_of (instance (inner m) xs) =
    ap (λ (o : Option Node). with_kept (option_map inner o) (keep_each (keep_instance (kept_along p) row_of (λ row. false)) xs)) (f m)
    ∙ no_instance_kept p f row_of xs

nothing_kept : (p : List Step) (n : Node) → kept_along p (λ row. false) n ≡ None
nothing_kept [] n = refl
nothing_kept (s ∷ p) n = by_instances (instances_at s.place n) (nothing_kept p)
  where
    by_instances : (xs : Instances) → ((m : Node) → kept_along p (λ row. false) m ≡ None)
        → keep_below (λ row. false) (λ ys. put_at s.place ys n) (keep_instance (kept_along p) (λ x. put_at s.place (single x) n) (λ row. false)) n xs ≡ None
    by_instances no_instances f = refl
    by_instances (instance x xs) f =
        ap (if_some_kept (λ ys. put_at s.place ys n)) (no_instance_kept p f (λ y. put_at s.place (single y) n) (instance x xs))

tests_never : (fs : Fields) (ls : List Leaf) (ts : List Truth) → AreTests fs ls ts → constants_hold ts ≡ false
    → (n : Node) → is_record fs n ≡ true → kept (all_of (map (truth_view ls) ts)) n ≡ None
tests_never fs ls [] a b n r = absurd (true≢false b)
tests_never fs ls (t ∷ ts) a b n r =
    let e = joined (truth_view ls t) (map (truth_view ls) ts) in
    alike_conditions fs e (expression_chain e) (λ row. false) refl
    (λ row h. sym (never_true (t ∷ ts) b (read_of ls row)) ∙ tests_are fs ls t ts a row h) n r
    ∙ nothing_kept (expression_chain e) n

pub plan_never : (s : Schema) (q : Query) (p : Plan) → IsPlanOf s q p → constants_hold p.test.items ≡ false
    → (n : Node) → is_record s.fields n ≡ true → kept (planned_query (plan_view p)).condition n ≡ None
plan_never s q p h b n r = tests_never s.fields (plan_leaves p) p.test.items (plan_tests s q p h) b n r
