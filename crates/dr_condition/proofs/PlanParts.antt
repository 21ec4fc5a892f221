-- A plan's condition, watched in parts, tells along the walk of records what its tests tell, watched as one.
use Rattle.std.proofs.Common.{◌≡◌, ℕ, List, [], ◌∷◌, ◌++◌, length, Bool, true, false, ◌&&◌, Option, Some, None, refl, sym, ap, subst, ◌∙◌}
use Rattle.std.specs.Prelude.{nat_lt, if◌then◌else◌}
use Rattle.std.specs.List.{list_all, slice_get}
use Rattle.std.proofs.lemmas.Bool.{and_parts}
use Rattle.std.proofs.lemmas.List.{map-append}
use Rattle.std.proofs.lemmas.List.Folds.{list_all-append}
use Rattle.dr_meaning.specs.Schema.{Schema, Fields}
use Rattle.dr_meaning.specs.Path.{Step, Leaf, paths_of_leaves, is_leaf_path}
use Rattle.dr_meaning.specs.Record.{Node, is_record}
use Rattle.dr_meaning.specs.Expression.{is_true}
use Rattle.dr_meaning.specs.BoundExpression.{are_related}
use Rattle.dr_meaning.specs.Query.{Query}
use Rattle.dr_meaning.specs.QueryLeaves.{query_leaves}
use Rattle.dr_meaning.specs.Walk.{Move, walk}
use Rattle.dr_moves.specs.Context.{Context}
use Rattle.dr_moves.specs.Firing.{AllTogether}
use Rattle.dr_moves.specs.Together.{Together}
use Rattle.dr_kept_laws.specs.Parts.{Part, SameAt, ArePartsOf, no_part, one_part, pruning_tells}
use Rattle.dr_kept_laws.specs.Telling.{told}
use Rattle.dr_kept_laws.proofs.PartTelling.{parts_tell_told}
use Rattle.dr_partials.specs.PartialLaws.{all_related}
use Rattle.dr_made_laws.specs.LastRead as of_last
use Rattle.dr_made_laws.specs.LastRead.{paths_at}
use Rattle.dr_made_laws.proofs.LastReadLemmas.{last_reads_all}
use Rattle.dr_made_laws.proofs.LeavesInOrderLemmas.{query_leaves_in_order}
use Rattle.dr_plan.specs.Planned.{plan_leaves}
use Rattle.dr_plan.specs.PlanOf.{IsPlanOf}
use Rattle.dr_plan.specs.declared.expression.Truth.{Truth}
use Rattle.dr_plan.specs.declared.plan.Plan.{Plan}
use Rattle.dr_scalar.specs.Leaves.{greatest, truth_leaves, tests_leaves}
use Rattle.dr_scalar.specs.LeafLaws.{SameRead}
use Rattle.dr_scalar.proofs.SameReadLemmas.{same_truth}
use Rattle.dr_condition.specs.Parted.{last_read, reading, lasts_read, constants_hold, watch_parts}
use Rattle.dr_condition.specs.Watching.{pruned_behind}
use Rattle.dr_condition.proofs.GreatestLemmas.{same_greatest}
use Rattle.dr_condition.proofs.LeavesBelow.{test_leaves_below}
use Rattle.dr_condition.proofs.ReadRows.{below_paths, AreLeavesOf}
use Rattle.dr_condition.proofs.PartedLemmas.{parts_of_tests, part_with, one_part_more, no_part_more, parts_are_tests}
use Rattle.dr_condition.proofs.PlanCondition.{watch_tests, AreTests, plan_tests}

-- ---- watched as one

pub same_watch : (chain : List ℕ) (last : ℕ) (ts : List Truth) → constants_hold ts ≡ true → (watch_parts chain last (reading ts) (lasts_read ts)).watch ≡ watch_tests chain last ts
same_watch chain last ts h = ap (λ (t : Context → Bool). record { chain = chain; last = last; test = t }) (λ j c. (parts_are_tests ts h c) j)

-- ---- of two lists of leaves

first_related : (J K : List (List Step)) → all_related (J ++ K) ≡ true → (all_related J ≡ true) × (all_related K ≡ true)
first_related [] K h = (refl, h)
first_related (p ∷ J) K h =
    let x : (list_all (are_related p) (J ++ K) ≡ true) × (all_related (J ++ K) ≡ true) = and_parts _ _ h in
    let y = first_related J K x.1 in
    let z : (list_all (are_related p) J ≡ true) × (list_all (are_related p) K ≡ true) = and_parts _ _ (sym (list_all-append (are_related p) J K) ∙ x.0) in
    (both z.0 y.0, y.1)
  where
    both : {a b : Bool} → a ≡ true → b ≡ true → (a && b) ≡ true
    both {a} {b} e f = ap (λ (x : Bool). x && b) e ∙ f

both_together : (F : List (List Step)) (i : ℕ) (p : List Step) (J K : List ℕ) → AllTogether F i p (J ++ K) → AllTogether F i p J × AllTogether F i p K
both_together F i p [] K h = (tt, h)
both_together F i p (j ∷ J) K h = let x = both_together F i p J K h.1 in ((h.0, x.0), x.1)

-- the last of some leaves is one of them
last_together : (F : List (List Step)) (i : ℕ) (p : List Step) (K : List ℕ) (l : ℕ) → of_last.greatest K ≡ Some l → AllTogether F i p K
    → (q : List Step) × (slice_get F l ≡ Some q) × Together (l ≡ i) (Unit {0}) q p
last_together F i p [] l e h = absurd (cc)
last_together F i p (k ∷ K) l e h = by_rest (of_last.greatest K) refl e (last_together F i p K)
  where
    same : (a b : ℕ) → Some a ≡ Some b → a ≡ b
    same a b e = cc

    by_rest : (o : Option ℕ) → of_last.greatest K ≡ o → Some (of_last.greater_of k o) ≡ Some l
        → ((j : ℕ) → of_last.greatest K ≡ Some j → AllTogether F i p K → (q : List Step) × (slice_get F j ≡ Some q) × Together (j ≡ i) (Unit {0}) q p)
        → (q : List Step) × (slice_get F l ≡ Some q) × Together (l ≡ i) (Unit {0}) q p
    by_rest None z e r = subst (λ (j : ℕ). (q : List Step) × (slice_get F j ≡ Some q) × Together (j ≡ i) (Unit {0}) q p) (same k l e) h.0
    by_rest (Some m) z e r = by_test (nat_lt k m) e
      where
        by_test : (b : Bool) → Some (if b then m else k) ≡ Some l → (q : List Step) × (slice_get F l ≡ Some q) × Together (l ≡ i) (Unit {0}) q p
        by_test true e = r l (z ∙ ap (λ (x : ℕ). Some x) (same m l e)) h.1
        by_test false e = subst (λ (j : ℕ). (q : List Step) × (slice_get F j ≡ Some q) × Together (j ≡ i) (Unit {0}) q p) (same k l e) h.0

same_read : (K : List ℕ) (c d : Context) → SameAt K c d → SameRead K c d
same_read [] c d h = tt
same_read (k ∷ K) c d h = (h.0, same_read K c d h.1)

-- ---- the parts of tests

-- the last of some leaves that are related is read together with each of them
abbrev LastReads : List (List Step) → Type 0
LastReads F = (K : List ℕ) (l : ℕ) → list_all (λ k. nat_lt k (length F)) K ≡ true → all_related (paths_at F K) ≡ true → of_last.greatest K ≡ Some l
    → (p : List Step) × (slice_get F l ≡ Some p) × AllTogether F l p K

module _ (fs : Fields) (F : List (List Step)) (i : ℕ) (p : List Step) (reads : LastReads F) where
  one_is_part : (t : Truth) (ps : List Part) (l : ℕ) → last_read t ≡ Some l → list_all (λ k. nat_lt k (length F)) (truth_leaves t) ≡ true
      → all_related (paths_at F (truth_leaves t)) ≡ true → AllTogether F i p (truth_leaves t) → ArePartsOf fs F i p ps → ArePartsOf fs F i p (part_with l t ∷ ps)
  one_is_part t ps l e b r a others =
      let K = truth_leaves t in
      let g : of_last.greatest K ≡ Some l = sym (same_greatest K) ∙ e in
      let x = reads K l b r g in
      one_part (part_with l t) x.0 K ps x.1 x.2 (last_together F i p K l g a, a) (λ c e s. ap is_true (same_truth c e t (same_read K c e s))) others

  pub tests_are_parts : (ts : List Truth) → list_all (λ k. nat_lt k (length F)) (tests_leaves ts) ≡ true → all_related (paths_at F (tests_leaves ts)) ≡ true
      → AllTogether F i p (tests_leaves ts) → ArePartsOf fs F i p (parts_of_tests ts)
  tests_are_parts [] b r a = no_part
  tests_are_parts (t ∷ ts) b r a =
      let K = truth_leaves t in
      let L = tests_leaves ts in
      let x : (list_all (λ k. nat_lt k (length F)) K ≡ true) × (list_all (λ k. nat_lt k (length F)) L ≡ true) = and_parts _ _ (sym (list_all-append (λ k. nat_lt k (length F)) K L) ∙ b) in
      let y = first_related (paths_at F K) (paths_at F L) (sym (ap all_related (map-append _ K L)) ∙ r) in
      let z = both_together F i p K L a in
      by_last (last_read t) refl x.0 y.0 z.0 (tests_are_parts ts x.1 y.1 z.1)
    where
      by_last : (q : Option ℕ) → last_read t ≡ q → list_all (λ k. nat_lt k (length F)) (truth_leaves t) ≡ true → all_related (paths_at F (truth_leaves t)) ≡ true
          → AllTogether F i p (truth_leaves t) → ArePartsOf fs F i p (parts_of_tests ts) → ArePartsOf fs F i p (parts_of_tests (t ∷ ts))
      by_last None e x y z others = subst (ArePartsOf fs F i p) (sym (no_part_more t ts e)) others
      by_last (Some l) e x y z others = subst (ArePartsOf fs F i p) (sym (one_part_more t ts l e)) (one_is_part t (parts_of_tests ts) l e x y z others)

-- ---- of a plan

abbrev AreLast : Fields → List Leaf → Type 0
AreLast fs ls = (list_all (is_leaf_path fs) (paths_of_leaves ls) ≡ true) × LastReads (paths_of_leaves ls)

query_last : (fs : Fields) (q : Query) → AreLast fs (query_leaves fs q)
query_last fs q =
    let o = query_leaves_in_order fs q in
    (o.0, λ K l b r g. let x = last_reads_all fs (paths_of_leaves (query_leaves fs q)) K l o.0 o.1 o.2 b r g in (x.0, x.1, x.2))

leaves_last : (fs : Fields) (ls : List Leaf) → AreLeavesOf fs ls → AreLast fs ls
leaves_last fs ls o = subst (AreLast fs) (sym o.same) (query_last fs o.query)

pub plan_parts_tell : (s : Schema) (q : Query) (p : Plan) → IsPlanOf s q p → (chain : List ℕ) (last : ℕ) → greatest (tests_leaves p.test.items) ≡ Some last
    → (R : List Node) → list_all (is_record s.fields) R ≡ true
    → (let w = watch_parts chain last (reading p.test.items) (lasts_read p.test.items) in
    (ms rest : List Move) (m : Move) → walk s.fields (paths_of_leaves (plan_leaves p)) R ≡ ms ++ m ∷ rest
    → pruning_tells w.watch (pruned_behind w ms) m ≡ told w.watch ms m)
plan_parts_tell s q p h chain last g R r ms rest m e =
    let fs = s.fields in
    let ls = plan_leaves p in
    let F = paths_of_leaves ls in
    let ts = p.test.items in
    let K = tests_leaves ts in
    let w = watch_parts chain last (reading ts) (lasts_read ts) in
    let a : AreTests fs ls ts = plan_tests s q p h in
    let o = leaves_last fs ls a.of_query in
    let b = below_paths ls K (test_leaves_below ls ts a.fit) in
    let x = o.1 K last b a.related (sym (same_greatest K) ∙ g) in
    parts_tell_told fs F w.watch x.0 w.parts R o.0 x.1 r (tests_are_parts fs F last x.0 o.1 ts b a.related x.2) (λ c. refl) ms rest m e
