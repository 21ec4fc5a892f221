-- Records put into groups, one after another.
use Rattle.std.specs.Prelude.{◌≡◌, ℕ, suc, List, [], ◌∷◌, ◌++◌, map, Bool, true, ◌&&◌, Option, Some, None, option_map}
use Rattle.std.specs.List.{list_all, flat_map, filter_map, cons_option}
use Rattle.std.proofs.Common.{refl, sym, ap, ap₂, ◌∙◌}
use Rattle.std.proofs.Math.Path.{fun_ext}
use Rattle.std.proofs.lemmas.Bool.{and_parts}
use Rattle.std.proofs.lemmas.List.{map-append}
use Rattle.std.proofs.lemmas.Simd.{map-map}
use Rattle.dr_meaning.specs.Schema.{Fields}
use Rattle.dr_meaning.specs.Path.{Step, longer}
use Rattle.dr_meaning.specs.Record.{Value, Node, is_record, project}
use Rattle.dr_meaning.specs.Rows.{rows}
use Rattle.dr_meaning.specs.Expression.{Expression, paths_of, evaluate, expression_chain, longest_chain}
use Rattle.dr_meaning.specs.Kept.{kept}
use Rattle.dr_meaning.specs.Query.{GroupTerm, key, count_rows, aggregate, GroupItem, Selection, objects, groups, Query, key_tuple, levels_of}
use Rattle.dr_meaning.specs.ProjectionLaws.{leads}
use Rattle.dr_meaning.specs.MeaningLaws.{condition_paths, group_term_paths, all_lead, covers}
use Rattle.dr_meaning.proofs.ProjectionLemmas.{rows_of_projection, values_of_projection}
use Rattle.dr_meaning.proofs.MeaningLemmas.{evaluate-project, kept-project, longest_chain-leads, longer-leads, both_lead}
use Rattle.dr_partials.specs.Partials.{Partial, grouped, partial_of, selected_partial, merge, Stands}
use Rattle.dr_partials.specs.PartialLaws.{is_mergeable}
use Rattle.dr_partials.specs.PartialTypes.{aggregates_among, with_aggregate, is_partial}
use Rattle.dr_partials.specs.Putting.{Put, puts_of, puts_of_selection, puts_of_terms, puts_of_rows}
use Rattle.dr_partials.proofs.BoundLemmas.{bound_is_mergeable}
use Rattle.dr_partials.proofs.PartialLemmas.{merged_stands}
use Rattle.dr_partials.proofs.PutLemmas.{puts_are_merged}
use Rattle.dr_partials.proofs.TypedLemmas.{records_have_partials}
use Rattle.dr_plan.specs.Conjuncts.{condition_conjuncts, all_of}
use Rattle.dr_plan.specs.Planned.{planned, planned_query}
use Rattle.dr_scalar.proofs.ConditionLemmas.{condition_rejoined}
use Rattle.dr_mean.specs.GroupLaws.{PutsOfProjection, OneRecordMore}

-- ---- projections

map_projected {ℓ} : {A : Type ℓ} (F : List (List Step)) (f : Node → A) → ((m : Node) → f (project F m) ≡ f m) → (ns : List Node) → map f (map (project F) ns) ≡ map f ns
map_projected F f h ns = map-map f (project F) ns ∙ ap (λ g. map g ns) (fun_ext h)

kept_projected : (F : List (List Step)) (c : Option Expression) → all_lead F (condition_paths c) ≡ true → (ns : List Node) → filter_map (kept c) (map (project F) ns) ≡ map (project F) (filter_map (kept c) ns)
kept_projected F c h [] = refl
kept_projected F c h (n ∷ ns) = ap₂ cons_option (kept-project F c n h) (kept_projected F c h ns) ∙ by_kept (kept c n)
  where
    by_kept : (o : Option Node) → cons_option (option_map (project F) o) (map (project F) (filter_map (kept c) ns)) ≡ map (project F) (cons_option o (filter_map (kept c) ns))
    by_kept None = refl
    by_kept (Some m) = refl

rows_projected : (F : List (List Step)) (p : List Step) → leads p F ≡ true → (ns : List Node) → flat_map (rows p) (map (project F) ns) ≡ map (project F) (flat_map (rows p) ns)
rows_projected F p h [] = refl
rows_projected F p h (n ∷ ns) = ap₂ (λ a b. a ++ b) (rows_of_projection F p n h) (rows_projected F p h ns) ∙ sym (map-append (project F) (rows p n) (flat_map (rows p) ns))

tuple_projected : (F : List (List Step)) (keys : List (List Step)) (n : Node) → all_lead F keys ≡ true → key_tuple keys (project F n) ≡ key_tuple keys n
tuple_projected F [] n h = refl
tuple_projected F (p ∷ ps) n h =
    let k : (leads p F ≡ true) × (all_lead F ps ≡ true) = and_parts _ _ h in
    ap₂ (λ v t. v ∷ t) (values_of_projection F p n k.0) (tuple_projected F ps n k.1)

rows_put : (F : List (List Step)) (keys : List (List Step)) (i : ℕ) (value : Node → Option Value) (p : List Step) (ns : List Node) → all_lead F keys ≡ true → leads p F ≡ true → ((m : Node) → value (project F m) ≡ value m)
    → puts_of_rows keys i value (flat_map (rows p) (map (project F) ns)) ≡ puts_of_rows keys i value (flat_map (rows p) ns)
rows_put F keys i value p ns h l v =
    ap (puts_of_rows keys i value) (rows_projected F p l ns)
    ∙ map_projected F (λ (row : Node). record { keys = key_tuple keys row; taken = Some (record { aggregate = i; value = value row }) })
    (λ (m : Node). ap₂ (λ (t : List (Option Value)) (x : Option Value). record { keys = t; taken = Some (record { aggregate = i; value = x }) }) (tuple_projected F keys m h) (v m)) (flat_map (rows p) ns)

terms_put : (F : List (List Step)) (keys : List (List Step)) (i : ℕ) (ts : List GroupTerm) (ns : List Node) → all_lead F keys ≡ true → all_lead F (flat_map group_term_paths ts) ≡ true
    → puts_of_terms keys i ts (map (project F) ns) ≡ puts_of_terms keys i ts ns
terms_put F keys i [] ns h k = refl
terms_put F keys i (key j ∷ ts) ns h k = terms_put F keys (suc i) ts ns h k
terms_put F keys i (count_rows ∷ ts) ns h k =
    ap₂ ◌++◌ (rows_put F keys i (λ row. None) (longest_chain keys) ns h (longest_chain-leads keys F h) (λ m. refl)) (terms_put F keys (suc i) ts ns h k)
terms_put F keys i (aggregate a e ∷ ts) ns h k =
    let b = both_lead (paths_of e) (flat_map group_term_paths ts) F k in
    ap₂ ◌++◌
    (rows_put F keys i (evaluate e) (longer (longest_chain keys) (expression_chain e)) ns h (longer-leads (longest_chain keys) (expression_chain e) F (longest_chain-leads keys F h) (longest_chain-leads (paths_of e) F b.0)) (λ m. evaluate-project F e m b.0))
    (terms_put F keys (suc i) ts ns h b.1)

-- the paths of the aggregates are among those of the items
among_lead : (F : List (List Step)) (items : List GroupItem) → all_lead F (flat_map (λ (i : GroupItem). group_term_paths i.term) items) ≡ true → all_lead F (flat_map group_term_paths (aggregates_among items)) ≡ true
among_lead F [] h = refl
among_lead F (i ∷ is) h = by_term i.term h (among_lead F is)
  where
    by_term : (t : GroupTerm) → all_lead F (group_term_paths t ++ flat_map (λ (j : GroupItem). group_term_paths j.term) is) ≡ true
        → (all_lead F (flat_map (λ (j : GroupItem). group_term_paths j.term) is) ≡ true → all_lead F (flat_map group_term_paths (aggregates_among is)) ≡ true)
        → all_lead F (flat_map group_term_paths (with_aggregate t (aggregates_among is))) ≡ true
    by_term (key j) k r = r k
    by_term count_rows k r = r k
    by_term (aggregate a e) k r =
        let b = both_lead (paths_of e) (flat_map (λ (j : GroupItem). group_term_paths j.term) is) F k in
        join_lead (paths_of e) (flat_map group_term_paths (aggregates_among is)) b.0 (r b.1)
      where
        join_lead : (ps qs : List (List Step)) → all_lead F ps ≡ true → all_lead F qs ≡ true → all_lead F (ps ++ qs) ≡ true
        join_lead [] qs x y = y
        join_lead (p ∷ ps) qs x y = let d : (leads p F ≡ true) × (all_lead F ps ≡ true) = and_parts _ _ x in ap₂ ◌&&◌ d.0 (join_lead ps qs d.1 y)

selection_put : (F : List (List Step)) (c : Option Expression) (s : Selection) (R : List Node) → covers F (record { condition = c; selection = s }) ≡ true
    → puts_of (record { condition = c; selection = s }) (map (project F) R) ≡ puts_of (record { condition = c; selection = s }) R
selection_put F c (objects items) R h = refl
selection_put F c (groups keys items) R h =
    let k = both_lead (condition_paths c) (keys ++ flat_map (λ (i : GroupItem). group_term_paths i.term) items) F h in
    let l = both_lead keys (flat_map (λ (i : GroupItem). group_term_paths i.term) items) F k.1 in
    let ns : List Node = filter_map (kept c) R in
    let alone : Node → Put = λ (row : Node). record { keys = key_tuple keys row; taken = None } in
    ap (puts_of_selection (groups keys items)) (kept_projected F c k.0 R)
    ∙ ap₂ ◌++◌
    (ap (map alone) (rows_projected F (longest_chain keys) (longest_chain-leads keys F l.0) ns)
    ∙ map_projected F alone (λ (m : Node). ap (λ (t : List (Option Value)). record { keys = t; taken = None }) (tuple_projected F keys m l.0)) (flat_map (rows (longest_chain keys)) ns))
    (terms_put F keys 0 (aggregates_among items) ns l.0 (among_lead F items l.1))

pub puts_of_projection : PutsOfProjection
puts_of_projection F q R h = selection_put F q.condition q.selection R h

-- ---- a condition cut into its parts keeps the same

all_rejoined : (c : Option Expression) (R : List Node) → filter_map (kept (all_of (condition_conjuncts c))) R ≡ filter_map (kept c) R
all_rejoined c R = ap (λ (f : Node → Option Node). filter_map f R) (fun_ext (condition_rejoined c))

-- and so puts the same
pub puts_rejoined : (fs : Fields) (b : Query) (R : List Node) → puts_of (planned_query (planned fs b)) R ≡ puts_of b R
puts_rejoined fs b R = ap (puts_of_selection b.selection) (all_rejoined b.condition R)

-- ---- one record more

pub partials_rejoined : (fs : Fields) (b : Query) (R : List Node) → partial_of fs (planned_query (planned fs b)) R ≡ partial_of fs b R
unfolding partial_of
partials_rejoined fs b R = ap (selected_partial b.selection (levels_of fs)) (all_rejoined b.condition R)

mergeable_planned : (fs : Fields) (b : Query) → is_mergeable fs b ≡ true → is_mergeable fs (planned_query (planned fs b)) ≡ true
mergeable_planned fs b h = h

partial_planned : (fs : Fields) (b : Query) (p : Partial) → is_partial fs b p ≡ true → is_partial fs (planned_query (planned fs b)) p ≡ true
unfolding is_partial
partial_planned fs b p h = h

pub stands_is : (fs : Fields) (q : Query) (R : List Node) (p : Partial) → Stands fs q R p → p ≡ partial_of fs q R
unfolding Stands
stands_is fs q R p h = h

is_standing : (fs : Fields) (q : Query) (R : List Node) (p : Partial) → p ≡ partial_of fs q R → Stands fs q R p
unfolding Stands
is_standing fs q R p h = h

pub one_record_more : OneRecordMore
one_record_more s q b R r gs h rec one e =
    let fs = s.fields in
    let p = planned_query (planned fs b) in
    let m = mergeable_planned fs b (bound_is_mergeable s q b h) in
    let single : list_all (is_record fs) (r ∷ []) ≡ true = ap (λ (x : Bool). x && true) one in
    let typed : is_partial fs p (grouped gs) ≡ true = partial_planned fs b (grouped gs) (ap (is_partial fs b) (e ∙ partials_rejoined fs b R) ∙ records_have_partials s q b R h rec) in
    puts_are_merged fs p (r ∷ []) gs m single typed
    ∙ stands_is fs p (R ++ r ∷ []) (merge (grouped gs) (partial_of fs p (r ∷ [])))
    (merged_stands fs p R (r ∷ []) (grouped gs) (partial_of fs p (r ∷ [])) m rec single (is_standing fs p R (grouped gs) e) (is_standing fs p (r ∷ []) (partial_of fs p (r ∷ [])) refl))
