-- What a plan's condition leaves of records: all of them, nothing, or what those of its tests that read leaves keep.
use Rattle.std.proofs.Common.{◌≡◌, ℕ, zero, suc, ◌<◌, ◌≤◌, List, [], ◌∷◌, ◌++◌, map, length, max, Bool, true, false, ◌&&◌, Option, Some, None, refl, sym, ap, ap₂, subst, ◌∙◌, true≢false, arith}
use Rattle.std.specs.Prelude.{◌||◌, nat_lt, is_some}
use Rattle.std.specs.List.{list_all, filter_map, cons_option, slice_get}
use Rattle.std.proofs.lemmas.Bool.{and_parts, and_from}
use Rattle.std.proofs.lemmas.Bool.Decides.{nat_tests}
use Rattle.std.proofs.lemmas.List.{map-append}
use Rattle.std.proofs.lemmas.List.Folds.{list_all-append}
use Rattle.dr_meaning.specs.Schema.{Schema, Fields}
use Rattle.dr_meaning.specs.Path.{Step, Leaf, paths_of_leaves, begins_with, chain_end}
use Rattle.dr_meaning.specs.Record.{Value, Node, is_record}
use Rattle.dr_meaning.specs.Expression.{Expression, evaluate, expression_chain, longest_chain, is_true, paths_of}
use Rattle.dr_meaning.specs.BoundExpression.{are_related}
use Rattle.dr_meaning.specs.BindingLaws.{has_shapes}
use Rattle.dr_meaning.specs.Kept.{kept, kept_along}
use Rattle.dr_meaning.specs.Query.{Query}
use Rattle.dr_partials.specs.PartialLaws.{all_related}
use Rattle.dr_made_laws.specs.LastRead as last_read
use Rattle.dr_made_laws.proofs.AlikeLemmas.{alike_conditions}
use Rattle.dr_plan.specs.Conjuncts.{joined, all_of}
use Rattle.dr_plan.specs.Fitting.{truth_fits}
use Rattle.dr_plan.specs.Planned.{IsOfSchema, plan_view, plan_leaves, planned_query}
use Rattle.dr_plan.specs.PlanOf.{IsPlanOf}
use Rattle.dr_plan.specs.Views.{path_of, truth_view}
use Rattle.dr_plan.specs.declared.expression.Truth.{Truth}
use Rattle.dr_plan.specs.declared.plan.Plan.{Plan}
use Rattle.dr_scalar.specs.Leaves.{greater, greatest, truth_leaves, tests_leaves}
use Rattle.dr_scalar.specs.LeafLaws.{are_typed, AreRead}
use Rattle.dr_scalar.specs.OverSlots.{truth_over}
use Rattle.dr_scalar.proofs.ConditionLemmas.{joined_paths, joined_true}
use Rattle.dr_scalar.proofs.LastLemmas.{greatest_append}
use Rattle.dr_scalar.proofs.LeafPathLemmas.{test_leaves_are_paths}
use Rattle.dr_scalar.proofs.TruthLemmas.{truth_means}
use Rattle.dr_condition.specs.Parted.{may_hold, constants_hold}
use Rattle.dr_condition.proofs.LeavesBelow.{are_below, test_leaves_below}
use Rattle.dr_condition.proofs.PartedLemmas.{no_greatest}
use Rattle.dr_condition.proofs.PlanCondition.{AreTests, plan_tests, plan_constant, plan_never}
use Rattle.dr_condition.proofs.ReadRows.{same_paths, AreLeavesOf, rows_typed}
use Rattle.dr_rows_beside.specs.Sources.{AreOnItsChain}
use Rattle.dr_rows_beside.specs.declared.keeping.Keeping.{Keeping}
use Rattle.dr_rows_beside.specs.Kept.{holds, all_hold, IsTestOf, AreTestsOf}
use Rattle.dr_rows_beside.specs.Keeps.{AreOnOneChain}
use Rattle.dr_rows_beside.specs.KeptRows.{left_of}
use Rattle.dr_rows_beside.specs.Makings.{onto_read, reading, IsKeepingOf}
use Rattle.dr_rows_beside.proofs.CommonLemmas.{reading_fits}
use Rattle.dr_rows_beside.proofs.KeepsLemmas.{keeping_holds}
use Rattle.dr_rows_beside.proofs.LastTestLemmas.{own_is_last}
use Rattle.dr_columns.specs.RowPuts.{paths_at}
use Rattle.dr_columns.specs.ChunksTaken.{left_by}
use Rattle.dr_columns.proofs.SourceReadLemmas.{AreInOrder, leaves_in_order, IsLastOf, last_of}
use Rattle.dr_columns.proofs.SourceMeansLemmas.{chain_parts}

-- ---- tests that read no leaf

one_constant : (ls : List Leaf) (t : Truth) (row : Node) → are_typed ls row ≡ true → truth_fits ls t ≡ true → greatest (truth_leaves t) ≡ None → may_hold t ≡ true → holds ls t row ≡ true
one_constant ls t row v f g m =
    let none : truth_leaves t ≡ [] = no_greatest (truth_leaves t) g in
    let nothing : ℕ → Option Value = λ i. None in
    ap is_true (sym (truth_means ls nothing row v t f (subst (λ (ks : List ℕ). AreRead ls ks nothing row) (sym none) tt)))
    ∙ sym (ap (λ (o : Option ℕ). is_some o || is_true (truth_over nothing t)) g)
    ∙ m

reading_hold : (ls : List Leaf) (row : Node) → are_typed ls row ≡ true → (ts : List Truth) → list_all (truth_fits ls) ts ≡ true → constants_hold ts ≡ true
    → list_all (λ (t : Truth). holds ls t row) ts ≡ list_all (λ (t : Truth). holds ls t row) (reading ts)
reading_hold ls row v [] f h = refl
reading_hold ls row v (t ∷ ts) f h =
    let a : (truth_fits ls t ≡ true) × (list_all (truth_fits ls) ts ≡ true) = and_parts _ _ f in
    let b : (may_hold t ≡ true) × (constants_hold ts ≡ true) = and_parts _ _ h in
    by_leaf (greatest (truth_leaves t)) refl a.0 b.0 (reading_hold ls row v ts a.1 b.1)
  where
    by_leaf : (o : Option ℕ) → greatest (truth_leaves t) ≡ o → truth_fits ls t ≡ true → may_hold t ≡ true → list_all (λ (u : Truth). holds ls u row) ts ≡ list_all (λ (u : Truth). holds ls u row) (reading ts)
        → (holds ls t row && list_all (λ (u : Truth). holds ls u row) ts) ≡ list_all (λ (u : Truth). holds ls u row) (onto_read o t (reading ts))
    by_leaf None g x m r = ap (λ (c : Bool). c && list_all (λ (u : Truth). holds ls u row) ts) (one_constant ls t row v x g m) ∙ r
    by_leaf (Some k) g x m r = ap (λ (c : Bool). holds ls t row && c) r

nothing_read : (ts : List Truth) → reading ts ≡ [] → greatest (tests_leaves ts) ≡ None
nothing_read [] e = refl
nothing_read (t ∷ ts) e = greatest_append (truth_leaves t) (tests_leaves ts) ∙ by_leaf (greatest (truth_leaves t)) refl (nothing_read ts) e
  where
    by_leaf : (o : Option ℕ) → greatest (truth_leaves t) ≡ o → (reading ts ≡ [] → greatest (tests_leaves ts) ≡ None) → onto_read o t (reading ts) ≡ [] → greater o (greatest (tests_leaves ts)) ≡ None
    by_leaf None g r h = r h
    by_leaf (Some k) g r h = absurd (cc)

-- ---- leaves on one chain

first_related : (J K : List (List Step)) → all_related (J ++ K) ≡ true → (all_related J ≡ true) × (all_related K ≡ true)
first_related [] K h = (refl, h)
first_related (p ∷ J) K h =
    let x : (list_all (are_related p) (J ++ K) ≡ true) × (all_related (J ++ K) ≡ true) = and_parts _ _ h in
    let y = first_related J K x.1 in
    let z : (list_all (are_related p) J ≡ true) × (list_all (are_related p) K ≡ true) = and_parts _ _ (sym (list_all-append (are_related p) J K) ∙ x.0) in
    (and_from _ _ z.0 y.0, y.1)

less_max : (j m : ℕ) → nat_lt j m ≡ true → max j m ≡ m
less_max j m e = grind (arith, nat_tests)

not_less_max : (j m : ℕ) → nat_lt j m ≡ false → max j m ≡ j
not_less_max j m e = grind (arith, nat_tests)

-- the last of some leaves is one of them
abbrev IsOnIt : List (List Step) → List Step → ℕ → Type 0
IsOnIt F l k = (p : List Step) × (slice_get F k ≡ Some p) × (begins_with (chain_end p) (chain_end l) ≡ true)

last_on_it : (F : List (List Step)) (l : List Step) (K : List ℕ) (k : ℕ) → greatest K ≡ Some k → AreOnItsChain F l K → IsOnIt F l k
last_on_it F l [] k e h = absurd (cc)
last_on_it F l (j ∷ K) k e h = by_rest (greatest K) refl e (λ m g. last_on_it F l K m g h.1)
  where
    same : (m n : ℕ) → Some m ≡ Some n → m ≡ n
    same m n u = cc

    by_test : (m : ℕ) (b : Bool) → nat_lt j m ≡ b → max j m ≡ k → IsOnIt F l m → IsOnIt F l k
    by_test m true t f r = subst (IsOnIt F l) (sym (less_max j m t) ∙ f) r
    by_test m false t f r = subst (IsOnIt F l) (sym (not_less_max j m t) ∙ f) h.0

    by_rest : (o : Option ℕ) → greatest K ≡ o → greater (Some j) o ≡ Some k → ((m : ℕ) → greatest K ≡ Some m → IsOnIt F l m) → IsOnIt F l k
    by_rest None g f r = subst (IsOnIt F l) (same j k f) h.0
    by_rest (Some m) g f r = by_test m (nat_lt j m) refl (same (max j m) k f) (r m g)

module _ (fs : Fields) (ls : List Leaf) (o : AreInOrder fs (paths_of_leaves ls)) (l : List Step) where
  abbrev F : List (List Step)
  F = paths_of_leaves ls

  on_one_chain : (ts : List Truth) → list_all (truth_fits ls) ts ≡ true → all_related (paths_at ls (tests_leaves ts)) ≡ true → AreOnItsChain F l (tests_leaves ts) → AreOnOneChain ls l (reading ts)
  on_one_chain [] f r c = tt
  on_one_chain (t ∷ ts) f r c =
      let a : (truth_fits ls t ≡ true) × (list_all (truth_fits ls) ts ≡ true) = and_parts _ _ f in
      let b : (all_related (paths_at ls (truth_leaves t)) ≡ true) × (all_related (paths_at ls (tests_leaves ts)) ≡ true) =
      first_related (paths_at ls (truth_leaves t)) (paths_at ls (tests_leaves ts)) (ap all_related (sym (map-append (λ k. path_of (slice_get ls k)) (truth_leaves t) (tests_leaves ts))) ∙ r) in
      let d : AreOnItsChain F l (truth_leaves t) × AreOnItsChain F l (tests_leaves ts) = chain_parts F l (truth_leaves t) (tests_leaves ts) c in
      by_leaf (greatest (truth_leaves t)) refl a.0 b.0 d.0 (on_one_chain ts a.1 b.1 d.1)
    where
      by_leaf : (n : Option ℕ) → greatest (truth_leaves t) ≡ n → truth_fits ls t ≡ true → all_related (paths_at ls (truth_leaves t)) ≡ true → AreOnItsChain F l (truth_leaves t) → AreOnOneChain ls l (reading ts) → AreOnOneChain ls l (onto_read n t (reading ts))
      by_leaf None g x y z rest = rest
      by_leaf (Some k) g x y z rest = (one, rest)
        where
          one : (j : ℕ) → greatest (truth_leaves t) ≡ Some j → (p : List Step) × (slice_get F j ≡ Some p) × AreOnItsChain F p (truth_leaves t) × (begins_with (chain_end p) (chain_end l) ≡ true)
          one j e =
              let below : are_below ls (truth_leaves t) ≡ true = first_below in
              let w : IsLastOf F (truth_leaves t) j = last_of fs ls o (truth_leaves t) j below (ap all_related (same_paths ls (truth_leaves t)) ∙ y) e in
              let v : IsOnIt F l j = last_on_it F l (truth_leaves t) j e z in
              let same : v.0 ≡ w.path = same_there j v.0 w.path v.1 w.is_path in
              (w.path, w.is_path, w.on_it, subst (λ (p : List Step). begins_with (chain_end p) (chain_end l) ≡ true) same v.2)
            where
              same_there : (i : ℕ) (p q : List Step) → slice_get F i ≡ Some p → slice_get F i ≡ Some q → p ≡ q
              same_there i p q a b = cc

              none_more : (ks : List ℕ) → ks ++ [] ≡ ks
              none_more [] = refl
              none_more (i ∷ ks) = ap (λ (js : List ℕ). i ∷ js) (none_more ks)

              first_below : are_below ls (truth_leaves t) ≡ true
              first_below = ap (are_below ls) (sym (none_more (truth_leaves t))) ∙ test_leaves_below ls (t ∷ []) (and_from _ _ x refl)

-- ---- what is left

each_left : (fs : Fields) (f g : Node → Option Node) → ((n : Node) → is_record fs n ≡ true → f n ≡ g n) → (R : List Node) → list_all (is_record fs) R ≡ true → filter_map f R ≡ filter_map g R
each_left fs f g h [] v = refl
each_left fs f g h (n ∷ R) v =
    let w : (is_record fs n ≡ true) × (list_all (is_record fs) R ≡ true) = and_parts _ _ v in
    ap₂ (λ (o : Option Node) (ns : List Node). cons_option o ns) (h n w.0) (each_left fs f g h R w.1)

some_left : (R : List Node) → filter_map (λ (n : Node). Some n) R ≡ R
some_left [] = refl
some_left (n ∷ R) = ap (λ (ns : List Node). n ∷ ns) (some_left R)

nothing_left : (R : List Node) → filter_map (λ (n : Node). let o : Option Node = None in o) R ≡ []
nothing_left [] = refl
nothing_left (n ∷ R) = nothing_left R

pub all_are_left : (s : Schema) (p : Plan) → IsOfSchema s p → constants_hold p.test.items ≡ true → reading p.test.items ≡ [] → (R : List Node) → list_all (is_record s.fields) R ≡ true → left_by p R ≡ R
all_are_left s p h c e R v =
    let q : Query = h.1 in
    let w : IsPlanOf s q p = (h.0, h.2, h.3) in
    each_left s.fields (kept (planned_query (plan_view p)).condition) (λ (n : Node). Some n) (plan_constant s q p w (nothing_read p.test.items e) c) R v ∙ some_left R

pub none_are_left : (s : Schema) (p : Plan) → IsOfSchema s p → constants_hold p.test.items ≡ false → (R : List Node) → list_all (is_record s.fields) R ≡ true → left_by p R ≡ []
none_are_left s p h c R v =
    let q : Query = h.1 in
    let w : IsPlanOf s q p = (h.0, h.2, h.3) in
    each_left s.fields (kept (planned_query (plan_view p)).condition) (λ (n : Node). None) (plan_never s q p w c) R v ∙ nothing_left R

-- the tests of a plan that read leaves, made ready, leave of records what its condition leaves
pub record LeavesFor (s : Schema) (p : Plan) (k : Keeping) : Type 0 where
  pub own : IsTestOf (plan_leaves p) k.own
  pub others : AreTestsOf (plan_leaves p) own.path k.others.items
  pub left : (R : List Node) → list_all (is_record s.fields) R ≡ true → left_by p R ≡ left_of (chain_end own.path) (all_hold (plan_leaves p) (k.own ∷ k.others.items)) R

all_true_each : (ls : List Leaf) (row : Node) (ts : List Truth) → list_all (λ (e : Expression). is_true (evaluate e row)) (map (truth_view ls) ts) ≡ list_all (λ (t : Truth). holds ls t row) ts
all_true_each ls row [] = refl
all_true_each ls row (t ∷ ts) = ap (λ (b : Bool). holds ls t row && b) (all_true_each ls row ts)

tests_leave : (fs : Fields) (ls : List Leaf) (ts : List Truth) (c : List Step) (test : Node → Bool) → AreTests fs ls ts → c ≡ longest_chain (last_read.paths_at (paths_of_leaves ls) (tests_leaves ts)) → (k : ℕ) → greatest (tests_leaves ts) ≡ Some k
    → ((row : Node) → has_shapes fs row ≡ true → test row ≡ list_all (λ (t : Truth). holds ls t row) ts) → (n : Node) → is_record fs n ≡ true → kept (all_of (map (truth_view ls) ts)) n ≡ kept_along c test n
tests_leave fs ls [] c test a e k g h n v = absurd (cc)
tests_leave fs ls (t ∷ ts) c test a e k g h n v =
    let j : Expression = joined (truth_view ls t) (map (truth_view ls) ts) in
    let paths : last_read.paths_at (paths_of_leaves ls) (tests_leaves (t ∷ ts)) ≡ paths_of j =
    same_paths ls (tests_leaves (t ∷ ts)) ∙ (test_leaves_are_paths ls (t ∷ ts) ∙ sym (joined_paths (truth_view ls t) (map (truth_view ls) ts))) in
    alike_conditions fs j c test (e ∙ ap longest_chain paths)
    (λ row z. h row z ∙ sym (all_true_each ls row (t ∷ ts)) ∙ sym (joined_true (truth_view ls t) (map (truth_view ls) ts) row)) n v

pub plan_leaves_left : (s : Schema) (p : Plan) (k : Keeping) → IsOfSchema s p → constants_hold p.test.items ≡ true → IsKeepingOf (paths_of_leaves (plan_leaves p)) p.test.items k → LeavesFor s p k
plan_leaves_left s p k h c w =
    let ls = plan_leaves p in
    let F = paths_of_leaves ls in
    let ts = p.test.items in
    let q : Query = h.1 in
    let a : AreTests s.fields ls ts = plan_tests s q p (h.0, h.2, h.3) in
    let o : AreInOrder s.fields F = leaves_in_order s.fields ls a.of_query in
    let g : greatest (tests_leaves ts) ≡ Some k.own.source.leaf = own_is_last F ts k w in
    let l : IsLastOf F (tests_leaves ts) k.own.source.leaf = last_of s.fields ls o (tests_leaves ts) k.own.source.leaf (test_leaves_below ls ts a.fit) a.related g in
    let one : AreOnOneChain ls l.path (reading ts) = on_one_chain s.fields ls o l.path ts a.fit (ap all_related (sym (same_paths ls (tests_leaves ts))) ∙ a.related) l.on_it in
    let v = keeping_holds ls ts k l.path w l.is_path (reading_fits ls ts a.fit) one in
    record {
      own = v.0;
      others = v.2;
      left = λ R r. each_left s.fields (kept (planned_query (plan_view p)).condition) (kept_along (chain_end v.0.path) (all_hold ls (k.own ∷ k.others.items)))
          (tests_leave s.fields ls ts (chain_end v.0.path) (all_hold ls (k.own ∷ k.others.items)) a (ap chain_end v.1 ∙ l.longest) k.own.source.leaf g
          (λ row z. v.3 row ∙ sym (reading_hold ls row (rows_typed s.fields ls a.of_query row z) ts a.fit c))) R r;
    }
