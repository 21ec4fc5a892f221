-- The leaves of a bound query are enough for it: each of its paths leads on to one of them.
use Rattle.std.proofs.Common.{◌≡◌, inl, inr, ℕ, zero, suc, ◌+◌, List, [], ◌∷◌, ◌++◌, map, Bool, true, false, ◌&&◌, ◌||◌, Option, Some, None, cond, refl, sym, ap, ap₂, ◌∙◌, subst, true≢false, arith}
use Rattle.std.specs.Prelude.{◌==◌, if◌then◌else◌, option_map, filter, Ok}
use Rattle.std.specs.List.{list_all, list_any, slice_get, filter_map, flat_map, cons_option}
use Rattle.std.proofs.lemmas.Bool.{and_parts, eqb-true}
use Rattle.std.proofs.lemmas.Bool.Decides.{nat_tests}
use Rattle.std.proofs.lemmas.List.Folds.{list_all-append}
use Rattle.dr_meaning.specs.Schema.{Schema, Repetition, Kind, Fields, no_fields, field, Shape, leaf, group}
use Rattle.dr_meaning.specs.Path.{Step, Leaf, chain_end, begins_with, same_path, same_repetition, is_leaf_path, is_shape_path, leaves}
use Rattle.dr_meaning.specs.Expression.{Expression, paths_of, expression_chain}
use Rattle.dr_meaning.specs.Query.{RecordTerm, RecordItem, Selection, objects, groups, Query}
use Rattle.dr_meaning.specs.MeaningLaws.{condition_paths, record_term_paths, selection_paths, query_paths, all_lead}
use Rattle.dr_meaning.specs.ProjectionLaws.{leads}
use Rattle.dr_meaning.specs.Automaton.{reading_order}
use Rattle.dr_meaning.specs.OrderLaws.{times}
use Rattle.dr_meaning.specs.Syntax.{QuerySyntax}
use Rattle.dr_meaning.specs.BoundExpression.{bad_within, fault_at, BoundPath, bind_path}
use Rattle.dr_meaning.specs.Binding.{BoundWithin, BoundTerm, plain, rows_counted, aggregated, BoundItem, bind_items, is_record_syntax, bind_parts, passing, within_faults, holds_rows, record_term, record_item, group_item, query_of, bind}
use Rattle.dr_meaning.specs.QueryLeaves.{value_paths, selection_values, used_paths, in_reading_order, query_leaves}
use Rattle.dr_meaning.specs.BindingLaws.{LeavesAreEnough, QueryLeavesAreLeaves}
use Rattle.dr_meaning.proofs.FindingLemmas.{In, in_at, at_in}
use Rattle.dr_meaning.proofs.LeafKinds.{kind_if_some, leaf_kind, shape_kind, kind_of_leaf}
use Rattle.dr_meaning.proofs.ProjectionLemmas.{step}
use Rattle.dr_meaning.proofs.MeaningLemmas.{front-leads, level-front, longest_chain-leads, both_lead, meaning_of_projection}
use Rattle.dr_meaning.proofs.OrderLemmas.{orders_have_each_once}
use Rattle.dr_meaning.proofs.BindingFaultLemmas.{bound_is}
use Rattle.dr_meaning.proofs.BindingLemmas.{LeafPaths}
use Rattle.dr_meaning.proofs.BoundPartsLemmas.{both_empty, no_part_faults, used_leaf_paths}

abbrev pub steps_of : List Leaf → List (List Step)
steps_of ls = map (λ (l : Leaf). l.path) ls

-- ---- a used leaf is among the leaves in reading order

same_number : (n : ℕ) → (n == n) ≡ true
same_number n = grind (arith, nat_tests)

begins_itself : (p : List Step) → begins_with p p ≡ true
begins_itself [] = refl
begins_itself (s ∷ p) = ap₂ (λ a b. a && b) (same_number s.place) (begins_itself p)

same_itself : (p : List Step) → same_path p p ≡ true
same_itself p = ap₂ (λ a b. a && b) (begins_itself p) (begins_itself p)

or_right : (a b : Bool) → b ≡ true → (a || b) ≡ true
or_right true b h = refl
or_right false b h = h

or_left : (a b : Bool) → a ≡ true → (a || b) ≡ true
or_left true b h = refl
or_left false b h = absurd (true≢false (sym h))

in_filter : (f : Leaf → Bool) (l : Leaf) (ls : List Leaf) → In l ls → f l ≡ true → In l (filter f ls)
in_filter f l [] h k = h
in_filter f l (m ∷ ls) (inl h) k = by_test (f m) (ap f h ∙ k)
  where
    by_test : (b : Bool) → b ≡ true → In l (cond b (m ∷ filter f ls) (filter f ls))
    by_test true e = inl h
    by_test false e = absurd (true≢false (sym e))
in_filter f l (m ∷ ls) (inr h) k = by_test (f m) (in_filter f l ls h k)
  where
    by_test : (b : Bool) → In l (filter f ls) → In l (cond b (m ∷ filter f ls) (filter f ls))
    by_test true g = inr g
    by_test false g = g

steps_at : (ls : List Leaf) (i : ℕ) (l : Leaf) → slice_get ls i ≡ Some l → slice_get (steps_of ls) i ≡ Some l.path
steps_at [] i l h = absurd (cc)
steps_at (m ∷ ls) zero l h = let q : m ≡ l = cc in ap (λ (x : Leaf). Some x.path) q
steps_at (m ∷ ls) (suc i) l h = steps_at ls i l h

-- a place that comes once among some gives its leaf
once_leads : (ls : List Leaf) (i : ℕ) (l : Leaf) (js : List ℕ) → slice_get ls i ≡ Some l → times i js ≡ 1 → list_any (begins_with l.path) (steps_of (filter_map (slice_get ls) js)) ≡ true
once_leads ls i l [] h k = absurd (let z : 0 ≡ 1 = k in omega (arith, z))
once_leads ls i l (j ∷ js) h k = by_test (j == i) refl k (once_leads ls i l js h)
  where
    this_one : (o : Option Leaf) → o ≡ Some l → list_any (begins_with l.path) (steps_of (cons_option o (filter_map (slice_get ls) js))) ≡ true
    this_one None e = absurd (cc)
    this_one (Some m) e = let q : m ≡ l = cc in or_left _ _ (ap (λ (x : Leaf). begins_with l.path x.path) q ∙ begins_itself l.path)

    later : (o : Option Leaf) → list_any (begins_with l.path) (steps_of (filter_map (slice_get ls) js)) ≡ true → list_any (begins_with l.path) (steps_of (cons_option o (filter_map (slice_get ls) js))) ≡ true
    later None g = g
    later (Some m) g = or_right _ _ g

    by_test : (b : Bool) → (j == i) ≡ b → (if b then 1 else 0) + times i js ≡ 1 → (times i js ≡ 1 → list_any (begins_with l.path) (steps_of (filter_map (slice_get ls) js)) ≡ true)
        → list_any (begins_with l.path) (steps_of (filter_map (slice_get ls) (j ∷ js))) ≡ true
    by_test true e c r = this_one (slice_get ls j) (ap (slice_get ls) (eqb-true j i e) ∙ h)
    by_test false e c r = later (slice_get ls j) (r (omega (arith, c)))

in_reading_order-leads : (fs : Fields) (ls : List Leaf) (l : Leaf) → In l ls → is_leaf_path fs l.path ≡ true → list_any (begins_with l.path) (steps_of (in_reading_order fs ls)) ≡ true
in_reading_order-leads fs ls l h k =
    let a : (i : ℕ) × (slice_get ls i ≡ Some l) = in_at l ls h in
    once_leads ls a.0 l (reading_order fs (steps_of ls)) a.1 (orders_have_each_once fs (steps_of ls) a.0 l.path (steps_at ls a.0 l a.1) k).1

leads_if_any : (p : List Step) (F : List (List Step)) → list_any (begins_with p) F ≡ true → leads p F ≡ true
leads_if_any [] F h = refl
leads_if_any (s ∷ p) F h = h

-- each of some paths of leaves, that are among the used ones, leads on to the used leaves
abbrev pub Used : List (List Step) → List (List Step) → Type 0
Used all ps = (p : List Step) → list_any (same_path p) ps ≡ true → list_any (same_path p) all ≡ true

pub used_lead : (fs : Fields) (all ps : List (List Step)) → LeafPaths fs ps → Used all ps
    → all_lead (steps_of (in_reading_order fs (filter (λ (l : Leaf). list_any (same_path l.path) all) (leaves fs)))) ps ≡ true
used_lead fs all [] h u = refl
used_lead fs all (p ∷ ps) h u =
    let l : Leaf = h.0.0 in
    let k : list_any (same_path l.path) all ≡ true = u l.path (or_left (same_path l.path p) (list_any (same_path l.path) ps) (ap (same_path l.path) (sym h.0.3) ∙ same_itself l.path)) in
    let i : In l (filter (λ (l : Leaf). list_any (same_path l.path) all) (leaves fs)) = in_filter (λ (l : Leaf). list_any (same_path l.path) all) l (leaves fs) h.0.1 k in
    let F = steps_of (in_reading_order fs (filter (λ (l : Leaf). list_any (same_path l.path) all) (leaves fs))) in
    let g : leads p F ≡ true = subst (λ (x : List Step). leads x F ≡ true) h.0.3 (leads_if_any l.path F (in_reading_order-leads fs _ l i h.0.2)) in
    ap₂ (λ a b. a && b) g (used_lead fs all ps h.1 (λ q e. u q (or_right (same_path q p) (list_any (same_path q) ps) e)))

-- ---- the nodes of WITHIN

held_rows : (e : Expression) (w : BoundWithin) → (if holds_rows e w then [] else fault_at w.place bad_within) ≡ [] → begins_with w.node (expression_chain e) ≡ true
held_rows e w h = by_test (holds_rows e w) refl h
  where
    by_test : (b : Bool) → holds_rows e w ≡ b → (if b then [] else fault_at w.place bad_within) ≡ [] → begins_with w.node (expression_chain e) ≡ true
    by_test true k g = (and_parts w.is_whole (begins_with w.node (expression_chain e)) k).1
    by_test false k g = absurd (cc)

-- a node that holds the rows of an expression leads on where the expression's paths do
node_leads : (F : List (List Step)) (e : Expression) (node : List Step) → begins_with node (expression_chain e) ≡ true → all_lead F (paths_of e) ≡ true → leads (chain_end node) F ≡ true
node_leads F e node h k = front-leads (chain_end node) node F (level-front node) (front-leads node (expression_chain e) F h (longest_chain-leads (paths_of e) F k))

all_lead-append : (F ps qs : List (List Step)) → all_lead F ps ≡ true → all_lead F qs ≡ true → all_lead F (ps ++ qs) ≡ true
all_lead-append F ps qs h k = list_all-append (λ (p : List Step). leads p F) ps qs ∙ ap₂ (λ a b. a && b) h k

abbrev record_values : List BoundItem → List (List Step)
record_values vs = flat_map (λ (i : RecordItem). value_paths i.term) (filter_map record_item vs)

abbrev record_paths : List BoundItem → List (List Step)
record_paths vs = flat_map (λ (i : RecordItem). record_term_paths i.term) (filter_map record_item vs)

record_paths-lead : (F : List (List Step)) (vs : List BoundItem) → flat_map (λ (i : BoundItem). within_faults i.term) vs ≡ [] → all_lead F (record_values vs) ≡ true → all_lead F (record_paths vs) ≡ true
record_paths-lead F [] w h = refl
record_paths-lead F (v ∷ vs) w h = let k = both_empty (within_faults v.term) (flat_map (λ (i : BoundItem). within_faults i.term) vs) w in by_term v.term k.0 h (record_paths-lead F vs k.1)
  where
    by_term : (t : BoundTerm) → within_faults t ≡ [] → all_lead F (flat_map (λ (i : RecordItem). value_paths i.term) (cons_option (option_map (λ (r : RecordTerm). record { name = v.name; term = r }) (record_term t)) (filter_map record_item vs))) ≡ true
        → (all_lead F (record_values vs) ≡ true → all_lead F (record_paths vs) ≡ true)
        → all_lead F (flat_map (λ (i : RecordItem). record_term_paths i.term) (cons_option (option_map (λ (r : RecordTerm). record { name = v.name; term = r }) (record_term t)) (filter_map record_item vs))) ≡ true
    by_term (plain e) x k r = let q = both_lead (paths_of e.expression) (record_values vs) F k in all_lead-append F (paths_of e.expression) (record_paths vs) q.0 (r q.1)
    by_term (rows_counted o) x k r = r k
    by_term (aggregated a e None) x k r = r k
    by_term (aggregated a e (Some o)) x k r =
        let q = both_lead (paths_of e.expression) (record_values vs) F k in
        all_lead-append F (chain_end o.node ∷ paths_of e.expression) (record_paths vs) (ap₂ (λ a b. a && b) (node_leads F e.expression o.node (held_rows e.expression o x) q.0) q.0) (r q.1)

abbrev selection_of_kind : Bool → List BoundPath → List BoundItem → Selection
selection_of_kind b keys vs = if b then objects (filter_map record_item vs) else groups (map (λ (k : BoundPath). k.leaf.path) keys) (filter_map (group_item keys) vs)

selection-leads : (F : List (List Step)) (b : Bool) (keys : List BoundPath) (vs : List BoundItem) → flat_map (λ (i : BoundItem). within_faults i.term) vs ≡ []
    → all_lead F (selection_values (selection_of_kind b keys vs)) ≡ true → all_lead F (selection_paths (selection_of_kind b keys vs)) ≡ true
selection-leads F true keys vs w h = record_paths-lead F vs w h
selection-leads F false keys vs w h = h

-- where the used paths of what is bound without a fault lead on, all of its paths do
pub paths-lead : (F : List (List Step)) (s : Schema) (q : QuerySyntax) (b : Query) → bind s q ≡ Ok b → all_lead F (used_paths b) ≡ true → all_lead F (query_paths b) ≡ true
paths-lead F s q b h k =
    let e = bound_is s q b h in
    let parts = bind_parts s.fields q in
    let w = both_empty _ _ (no_part_faults s q e.0).1 in
    let x : Query = query_of parts in
    let a = both_lead (condition_paths x.condition) (selection_values x.selection) F (subst (λ (x : Query). all_lead F (used_paths x) ≡ true) (sym e.1) k) in
    subst (λ (x : Query). all_lead F (query_paths x) ≡ true) e.1
    (all_lead-append F (condition_paths x.condition) (selection_paths x.selection) a.0 (selection-leads F (is_record_syntax q) (passing (map (bind_path s.fields) q.keys)) (passing (bind_items s.fields 0 q.items)) w.0 a.1))

pub leaves_are_enough : LeavesAreEnough
unfolding query_leaves
leaves_are_enough s q b R h =
    let F = steps_of (in_reading_order s.fields (filter (λ (l : Leaf). list_any (same_path l.path) (used_paths b)) (leaves s.fields))) in
    meaning_of_projection s.fields b F R (paths-lead F s q b h (used_lead s.fields (used_paths b) (used_paths b) (used_leaf_paths s q b h) (λ p e. e)))

-- ---- the leaves of a query are leaves

mutual
  field_path : (fs : Fields) (i : ℕ) (r : Repetition) (p : List Step) (k : Kind) → leaf_kind fs (step i r ∷ p) ≡ Some k → is_leaf_path fs (step i r ∷ p) ≡ true
  field_path no_fields i r p k h = absurd (cc)
  field_path (field n q s fs) zero r p k h =
      let g : (same_repetition r q ≡ true) × (shape_kind s p ≡ Some k) = kind_if_some (same_repetition r q) (shape_kind s p) k h in
      ap₂ (λ a b. a && b) g.0 (shape_path s p k g.1)
  field_path (field n q s fs) (suc i) r p k h = field_path fs i r p k h

  shape_path : (s : Shape) (p : List Step) (k : Kind) → shape_kind s p ≡ Some k → is_shape_path s p ≡ true
  shape_path (leaf j) [] k h = refl
  shape_path (leaf j) (t ∷ p) k h = absurd (cc)
  shape_path (group no_fields) [] k h = absurd (cc)
  shape_path (group (field n q s fs)) [] k h = absurd (cc)
  shape_path (group fs) (t ∷ p) k h = field_path fs t.place t.repetition p k h

in_leaves-path : (fs : Fields) (l : Leaf) → In l (leaves fs) → is_leaf_path fs l.path ≡ true
in_leaves-path fs l h =
    let a : (i : ℕ) × (slice_get (leaves fs) i ≡ Some l) = in_at l (leaves fs) h in
    shape_path (group fs) l.path l.kind (kind_of_leaf fs a.0 l a.1)

filter_in : (f : Leaf → Bool) (l : Leaf) (ls : List Leaf) → In l (filter f ls) → In l ls
filter_in f l [] h = h
filter_in f l (m ∷ ls) h = by_test (f m) h (filter_in f l ls)
  where
    by_test : (b : Bool) → In l (cond b (m ∷ filter f ls) (filter f ls)) → (In l (filter f ls) → In l ls) → In l (m ∷ ls)
    by_test true (inl e) r = inl e
    by_test true (inr g) r = inr (r g)
    by_test false g r = inr (r g)

picked_paths : (fs : Fields) (ls : List Leaf) (js : List ℕ) → ((l : Leaf) → In l ls → is_leaf_path fs l.path ≡ true) → list_all (λ (l : Leaf). is_leaf_path fs l.path) (filter_map (slice_get ls) js) ≡ true
picked_paths fs ls [] h = refl
picked_paths fs ls (j ∷ js) h = by_item (slice_get ls j) refl (picked_paths fs ls js h)
  where
    by_item : (o : Option Leaf) → slice_get ls j ≡ o → list_all (λ (l : Leaf). is_leaf_path fs l.path) (filter_map (slice_get ls) js) ≡ true
        → list_all (λ (l : Leaf). is_leaf_path fs l.path) (cons_option o (filter_map (slice_get ls) js)) ≡ true
    by_item None e g = g
    by_item (Some l) e g = ap₂ (λ a b. a && b) (h l (at_in l ls j e)) g

pub query_leaves_are_leaves : QueryLeavesAreLeaves
unfolding query_leaves
query_leaves_are_leaves fs q =
    let f : Leaf → Bool = λ (l : Leaf). list_any (same_path l.path) (used_paths q) in
    picked_paths fs (filter f (leaves fs)) (reading_order fs (steps_of (filter f (leaves fs)))) (λ (l : Leaf) (h : In l (filter f (leaves fs))). in_leaves-path fs l (filter_in f l (leaves fs) h))
