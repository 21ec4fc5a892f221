-- A tree that says the leaf query of a bound query has no fault but items of one name.
use Rattle.std.proofs.Common.{◌≡◌, ℕ, zero, suc, List, [], ◌∷◌, ◌++◌, map, Bool, true, false, Option, Some, None, refl, sym, ap, ap₂, ◌∙◌, subst, true≢false}
use Rattle.std.specs.Prelude.{◌==◌, ◌||◌, if◌then◌else◌, option_map, is_some}
use Rattle.std.specs.List.{list_all, list_any, filter_map, flat_map, cons_option, slice_get}
use Rattle.std.proofs.lemmas.Bool.{and_from, eq-eqb}
use Rattle.std.proofs.lemmas.List.{map-append}
use Rattle.std.proofs.lemmas.Slice.Eq.{bytes_eq-Decides}
use Rattle.dr_meaning.specs.Schema.{Schema, Fields}
use Rattle.dr_meaning.specs.Path.{Step, begins_with, same_path}
use Rattle.dr_meaning.specs.Expression.{Expression, paths_of}
use Rattle.dr_meaning.specs.Query.{Aggregate, RecordTerm, expression as record_expression, within, RecordItem, GroupTerm, key, count_rows as rows_of_group, aggregate as aggregate_of_group, GroupItem, Query, Levels, levels_of}
use Rattle.dr_meaning.specs.Syntax.{PathSyntax, TermSyntax, expression, count_rows, aggregate, ItemSyntax, ConditionSyntax, QuerySyntax}
use Rattle.dr_meaning.specs.BoundExpression.{duplicate_name, not_grouped, BindFault, fault_at, unknown_table, Checked, passes, fails, checked_map, then_check, together, truth_type, BoundPath, BoundExpression, bind_path, bind_expression, of_type, unrelated_among}
use Rattle.dr_meaning.specs.Binding.{bind_condition, BoundWithin, bind_within, bind_argument, alone, argument_alone, arguments_alone, unrelated_behind, BoundTerm, plain, rows_counted, aggregated, argument_of, bind_term, item_name, BoundItem, bind_item, bind_items, is_of_record, has_keys, is_record_syntax, bind_parts, faults_in, if_passed, passing, where_passed, all_passed, paths_of_condition, unrelated_in_term, within_faults, place_among, key_of, group_term, grouping_faults, has_name_of, has_name_of_list, duplicates_behind, table_faults, part_faults, unrelated_faults, item_faults, record_term, record_item, group_item, condition_of, query_of}
use Rattle.dr_meaning.specs.BindingLaws.{faults_of}
use Rattle.dr_meaning.proofs.BindingFaultLemmas.{bound_is, first_fault_is_told}
use Rattle.dr_meaning.proofs.BoundPartsLemmas.{both_empty, no_part_faults, no_faults_in}
use Rattle.dr_partials.specs.PartialTypes.{aggregates_among}
use Rattle.dr_partials.specs.Rewriting.{key_items, aggregate_items, leaf_selection, leaf_query}
use Rattle.dr_query_laws.specs.ReadBack.{SaysCondition, LeadsTo, SaysRecordItem, GivesGroupTerm, SaysGroupItem, OneByOne, SaysSelection, SaysQuery, BindsButForNames, LeafTreeBinds}
use Rattle.dr_query_laws.proofs.Writable.{Every, every_append}
use Rattle.dr_query_laws.proofs.WrittenExpressions.{same_inside}
use Rattle.dr_query_laws.proofs.WrittenQueries.{no_key, selection_of_kind}
use Rattle.dr_query_laws.proofs.BoundItems.{same_term, passed_without_fault, mapped_passes, together_passes, then_passes, of_type_same, item_passes}
use Rattle.dr_query_laws.proofs.Relations.{paths, Related, related_from, from_related, expression_fits, TermFits, term_fits}

-- ---- lists without faults

every_empty : {A : Type 0} (P : A → Type 0) (list : List A) → list ≡ [] → Every P list
every_empty P [] h = tt
every_empty P (a ∷ list) h = absurd (cc)

all_empty : {A B : Type 0} (f : A → List B) (list : List A) → Every (λ a. f a ≡ []) list → flat_map f list ≡ []
all_empty f [] h = refl
all_empty f (a ∷ list) h = ap₂ (λ x y. x ++ y) h.0 (all_empty f list h.1)

every_weaker : {A : Type 0} (P R : A → Type 0) (list : List A) → ((a : A) → P a → R a) → Every P list → Every R list
every_weaker P R [] f h = tt
every_weaker P R (a ∷ list) f h = (f a h.0, every_weaker P R list f h.1)

every_get : {A : Type 0} (P : A → Type 0) (list : List A) (i : ℕ) (a : A) → Every P list → slice_get list i ≡ Some a → P a
every_get P [] i a h e = absurd (cc)
every_get {A} P (b ∷ list) zero a h e = subst P (same b e) h.0
  where
    same : (b : A) → ◌≡◌ {A = Option A} (Some b) (Some a) → b ≡ a
    same b k = cc
every_get P (b ∷ list) (suc i) a h e = every_get P list i a h.1 e

-- ---- the condition

abbrev paths_in : Option Expression → List (List Step)
paths_in None = []
paths_in (Some e) = paths_of e

abbrev expression_in : Option BoundExpression → Option Expression
expression_in o = option_map (λ (e : BoundExpression). e.expression) o

condition_fits : (fs : Fields) (c : Option ConditionSyntax) (b : Option BoundExpression) → bind_condition fs c ≡ passes b → paths (paths_of_condition b) ≡ paths_in (expression_in b)
condition_fits fs None b h = subst (λ o. paths (paths_of_condition o) ≡ paths_in (expression_in o)) (same_inside None b h) refl
condition_fits fs (Some c) b h =
    let q = mapped_passes (λ (e : BoundExpression). Some e) (then_check (of_type truth_type c.place) (bind_expression fs c.expression)) b h in
    let r = then_passes (of_type truth_type c.place) (bind_expression fs c.expression) q.0 q.1 in
    subst (λ o. paths (paths_of_condition o) ≡ paths_in (expression_in o)) q.2
    (subst (λ (x : BoundExpression). paths x.paths ≡ paths_of x.expression) (of_type_same truth_type c.place r.0 q.0 r.2) (expression_fits fs c.expression r.0 r.1))

abbrev unrelated_condition : Checked (Option BoundExpression) → List BindFault
unrelated_condition c = where_passed (λ o. unrelated_among (paths_of_condition o)) c

condition_related : (fs : Fields) (c : Option ConditionSyntax) → faults_in (bind_condition fs c) ≡ [] → unrelated_condition (bind_condition fs c) ≡ [] → Related (paths_in (condition_of (bind_condition fs c)))
condition_related fs c f u =
    let q : (b : Option BoundExpression) × (bind_condition fs c ≡ passes b) = passed_without_fault (bind_condition fs c) f in
    subst (λ (x : Checked (Option BoundExpression)). Related (paths_in (condition_of x))) (sym q.1)
    (subst Related (condition_fits fs c q.0 q.1) (related_from (paths_of_condition q.0) (ap unrelated_condition (sym q.1) ∙ u)))

condition_binds : (fs : Fields) (c : Option Expression) (w : Option ConditionSyntax) → SaysCondition fs c w → Related (paths_in c) → (faults_in (bind_condition fs w) ≡ []) × (unrelated_condition (bind_condition fs w) ≡ [])
condition_binds fs c w s r =
    (ap faults_in s.1, ap unrelated_condition s.1 ∙ from_related (paths_of_condition s.0) (paths_in c) (condition_fits fs w s.0 s.1 ∙ ap paths_in s.2) r)

-- ---- keys

-- keys that all pass, as these, with these paths
record KeysBound (fs : Fields) (keys : List (List Step)) (bound : List BoundPath) (ks : List PathSyntax) : Type 0 where
  no_faults : flat_map faults_in (map (bind_path fs) ks) ≡ []
  passed : all_passed (map (bind_path fs) ks) ≡ passes bound
  passing_all : passing (map (bind_path fs) ks) ≡ bound
  same_paths : paths bound ≡ keys

no_keys_bind : (fs : Fields) → KeysBound fs [] [] []
no_keys_bind fs = record { no_faults = refl; passed = refl; passing_all = refl; same_paths = refl }

keys_bind : (fs : Fields) (keys : List (List Step)) (ks : List PathSyntax) → OneByOne (LeadsTo fs) keys ks → (bound : List BoundPath) × KeysBound fs keys bound ks
keys_bind fs [] [] h = ([], no_keys_bind fs)
keys_bind fs [] (k ∷ ks) h = absurd h
keys_bind fs (p ∷ keys) [] h = absurd h
keys_bind fs (p ∷ keys) (k ∷ ks) h =
    let b = h.0.0 in
    let more = keys_bind fs keys ks h.1 in
    let r = more.1 in (
      b ∷ more.0,
      record {
        no_faults = ap (λ (c : Checked BoundPath). faults_in c ++ flat_map faults_in (map (bind_path fs) ks)) h.0.1 ∙ r.no_faults;
        passed = ap₂ (λ (c : Checked BoundPath) (cs : Checked (List BoundPath)). together (λ a rest. a ∷ rest) c cs) h.0.1 r.passed;
        passing_all = ap (λ (c : Checked BoundPath). cons_option (if_passed c) (passing (map (bind_path fs) ks))) h.0.1 ∙ ap (λ bs. b ∷ bs) r.passing_all;
        same_paths = ap₂ (λ q qs. q ∷ qs) h.0.2 r.same_paths;
      },
    )

-- keys without faults all pass
all_pass : {A : Type 0} (cs : List (Checked A)) → flat_map faults_in cs ≡ [] → all_passed cs ≡ passes (passing cs)
all_pass [] h = refl
all_pass (passes a ∷ cs) h = ap (together (λ x rest. x ∷ rest) (passes a)) (all_pass cs h)
all_pass (fails e es ∷ cs) h = absurd (cc)

-- ---- items

-- an item that passes with a term of this kind
abbrev Good : Fields → (BoundTerm → Type 0) → ItemSyntax → Type 0
Good fs P i = (c : BoundTerm) × (bind_term fs i.place i.term ≡ passes c) × P c

items_bind : (fs : Fields) (P : BoundTerm → Type 0) (n : ℕ) (is : List ItemSyntax) → Every (Good fs P) is
    → (flat_map faults_in (bind_items fs n is) ≡ []) × Every (λ (v : BoundItem). P v.term) (passing (bind_items fs n is))
items_bind fs P n [] h = (refl, tt)
items_bind fs P n (i ∷ is) h =
    let g = h.0 in
    let r = items_bind fs P (suc n) is h.1 in
    let e : bind_item fs n i ≡ passes (record { place = i.place; name = item_name n i.term i.name; term = g.0 }) =
    ap (λ (c : Checked BoundTerm). checked_map (λ t. record { place = i.place; name = item_name n i.term i.name; term = t }) c) g.1 in (
      ap (λ (c : Checked BoundItem). faults_in c ++ flat_map faults_in (bind_items fs (suc n) is)) e ∙ r.0,
      subst (λ (c : Checked BoundItem). Every (λ (v : BoundItem). P v.term) (cons_option (if_passed c) (passing (bind_items fs (suc n) is)))) (sym e) (g.2, r.1),
    )

-- the terms of a query without faults have the paths of their expressions
terms_fit : (fs : Fields) (n : ℕ) (is : List ItemSyntax) → flat_map faults_in (bind_items fs n is) ≡ [] → Every (λ (v : BoundItem). TermFits v.term) (passing (bind_items fs n is))
terms_fit fs n [] f = tt
terms_fit fs n (i ∷ is) f =
    let e = both_empty (faults_in (bind_item fs n i)) (flat_map faults_in (bind_items fs (suc n) is)) f in
    let q = item_passes fs n i e.0 in
    subst (λ (c : Checked BoundItem). Every (λ (v : BoundItem). TermFits v.term) (cons_option (if_passed c) (passing (bind_items fs (suc n) is)))) (sym q.2)
    (term_fits fs i.place i.term q.0 q.1, terms_fit fs (suc n) is e.1)

abbrev unrelated_items : List BoundPath → List BoundItem → List BindFault
unrelated_items keys vs = flat_map (λ (v : BoundItem). unrelated_in_term (passes keys) v.term) vs

-- ---- items of a record query

abbrev RecordRelated : RecordTerm → Type 0
RecordRelated (record_expression e) = Related (paths_of e)
RecordRelated (within a e node) = Related (paths_of e)

records_related : (vs : List BoundItem) → Every (λ (v : BoundItem). TermFits v.term) vs → unrelated_items [] vs ≡ [] → Every (λ (i : RecordItem). RecordRelated i.term) (filter_map record_item vs)
records_related [] f u = tt
records_related (v ∷ vs) f u =
    let k = both_empty (unrelated_in_term (passes []) v.term) (unrelated_items [] vs) u in
    by_term v.term f.0 k.0 (records_related vs f.1 k.1)
  where
    by_term : (t : BoundTerm) → TermFits t → unrelated_in_term (passes []) t ≡ [] → Every (λ (i : RecordItem). RecordRelated i.term) (filter_map record_item vs)
        → Every (λ (i : RecordItem). RecordRelated i.term) (cons_option (option_map (λ (r : RecordTerm). record { name = v.name; term = r }) (record_term t)) (filter_map record_item vs))
    by_term (plain e) g h r = (subst Related g (related_from e.paths h), r)
    by_term (rows_counted w) g h r = r
    by_term (aggregated a e None) g h r = r
    by_term (aggregated a e (Some w)) g h r = (subst Related g (related_from e.paths h), r)

-- a term held by its node, and related to these keys
abbrev Held : List BoundPath → BoundTerm → Type 0
Held bound c = (within_faults c ≡ []) × (unrelated_in_term (passes bound) c ≡ [])

record_unrelated : (c : BoundTerm) (t : RecordTerm) → TermFits c → record_term c ≡ Some t → RecordRelated t → unrelated_in_term (passes []) c ≡ []
record_unrelated (plain e) t g h r = from_related e.paths (paths_of e.expression) g (subst RecordRelated (sym (same_term (record_expression e.expression) t h)) r)
record_unrelated (rows_counted w) t g h r = refl
record_unrelated (aggregated a e None) t g h r = absurd (cc)
record_unrelated (aggregated a e (Some w)) t g h r = from_related e.paths (paths_of e.expression) g (subst RecordRelated (sym (same_term (within a e.expression w.node) t h)) r)

-- an item that gives a term of a record query stands in one
stands_in_record : (fs : Fields) (i : ℕ) (y : TermSyntax) (c : BoundTerm) (t : RecordTerm) → bind_term fs i y ≡ passes c → record_term c ≡ Some t → is_of_record y ≡ true
stands_in_record fs i (expression e) c t h k = refl
stands_in_record fs i (count_rows w) c t h k =
    let q = mapped_passes rows_counted (bind_within fs w) c h in
    let z : None ≡ Some t = ap record_term q.2 ∙ k in
    absurd (cc)
stands_in_record fs i (aggregate a e (Some w)) c t h k = refl
stands_in_record fs i (aggregate a e None) c t h k =
    let q = together_passes (aggregated a) (then_check (argument_of a i) (bind_expression fs e)) (passes None) c h in
    let o : None ≡ q.1 = same_inside None q.1 q.3 in
    let z : None ≡ Some t = ap (λ w. record_term (aggregated a q.0 w)) o ∙ ap record_term q.4 ∙ k in
    absurd (cc)

records_good : (fs : Fields) (items : List RecordItem) (is : List ItemSyntax) → OneByOne (SaysRecordItem fs) items is → Every (λ (i : RecordItem). RecordRelated i.term) items
    → Every (Good fs (Held [])) is × (list_all (λ (i : ItemSyntax). is_of_record i.term) is ≡ true)
records_good fs [] [] h r = (tt, refl)
records_good fs [] (i ∷ is) h r = absurd h
records_good fs (i ∷ items) [] h r = absurd h
records_good fs (i ∷ items) (x ∷ is) h r =
    let s = h.0 in
    let k = records_good fs items is h.1 r.1 in (
      ((s.0, s.1, (s.2, record_unrelated s.0 i.term (term_fits fs x.place x.term s.0 s.1) s.3 r.0)), k.0),
      and_from (is_of_record x.term) (list_all (λ (i : ItemSyntax). is_of_record i.term) is) (stands_in_record fs x.place x.term s.0 i.term s.1 s.3) k.1,
    )

-- ---- items of an aggregate query

abbrev GroupRelated : List (List Step) → GroupTerm → Type 0
GroupRelated keys (key n) = Unit {0}
GroupRelated keys rows_of_group = Unit {0}
GroupRelated keys (aggregate_of_group a e) = Related (keys ++ paths_of e)

abbrev AggregatesRelated : List BoundPath → List BoundItem → Type 0
AggregatesRelated bound vs = Every (GroupRelated (paths bound)) (aggregates_among (filter_map (group_item bound) vs))

-- the paths of keys and of an argument
together_paths : (bound ps : List BoundPath) (keys qs : List (List Step)) → paths bound ≡ keys → paths ps ≡ qs → paths (bound ++ ps) ≡ keys ++ qs
together_paths bound ps keys qs h k = map-append (λ (p : BoundPath). p.leaf.path) bound ps ∙ ap₂ (λ x y. x ++ y) h k

aggregate_related : (bound : List BoundPath) (v : BoundItem) (vs : List BoundItem) → TermFits v.term → unrelated_in_term (passes bound) v.term ≡ [] → AggregatesRelated bound vs → AggregatesRelated bound (v ∷ vs)
aggregate_related bound v vs f u r = by_term v.term f u
  where
    by_key : (o : Option ℕ) → Every (GroupRelated (paths bound)) (aggregates_among (cons_option (option_map (λ (t : GroupTerm). record { name = v.name; term = t }) (option_map key o)) (filter_map (group_item bound) vs)))
    by_key None = r
    by_key (Some n) = r

    by_term : (t : BoundTerm) → TermFits t → unrelated_in_term (passes bound) t ≡ []
        → Every (GroupRelated (paths bound)) (aggregates_among (cons_option (option_map (λ (t : GroupTerm). record { name = v.name; term = t }) (group_term bound t)) (filter_map (group_item bound) vs)))
    by_term (plain e) g h = by_key (key_of bound e.expression)
    by_term (rows_counted None) g h = (tt, r)
    by_term (rows_counted (Some w)) g h = r
    by_term (aggregated a e None) g h = (subst Related (together_paths bound e.paths (paths bound) (paths_of e.expression) refl g) (related_from (bound ++ e.paths) h), r)
    by_term (aggregated a e (Some w)) g h = r

aggregates_related : (bound : List BoundPath) (vs : List BoundItem) → Every (λ (v : BoundItem). TermFits v.term) vs → unrelated_items bound vs ≡ [] → AggregatesRelated bound vs
aggregates_related bound [] f u = tt
aggregates_related bound (v ∷ vs) f u =
    let k = both_empty (unrelated_in_term (passes bound) v.term) (unrelated_items bound vs) u in
    aggregate_related bound v vs f.0 k.0 (aggregates_related bound vs f.1 k.1)

key_items_related : (keys : List (List Step)) (n : ℕ) (ks : List (List Step)) → Every (λ (i : GroupItem). GroupRelated keys i.term) (key_items n ks)
key_items_related keys n [] = tt
key_items_related keys n (k ∷ ks) = (tt, key_items_related keys (suc n) ks)

aggregate_items_related : (keys : List (List Step)) (n : ℕ) (terms : List GroupTerm) → Every (GroupRelated keys) terms → Every (λ (i : GroupItem). GroupRelated keys i.term) (aggregate_items n terms)
aggregate_items_related keys n [] h = tt
aggregate_items_related keys n (t ∷ terms) h = (h.0, aggregate_items_related keys (suc n) terms h.1)

abbrev GroupGood : List BoundPath → BoundTerm → Type 0
GroupGood bound c = (within_faults c ≡ []) × (unrelated_in_term (passes bound) c ≡ []) × (is_some (group_term bound c) ≡ true)

-- ---- a key is found among the keys

same_step : (p : List Step) → begins_with p p ≡ true
same_step [] = refl
same_step (t ∷ p) = and_from (t.place == t.place) (begins_with p p) (eq-eqb t.place t.place refl) (same_step p)

is_there : (bound : List BoundPath) (n : ℕ) (p : List Step) → slice_get (paths bound) n ≡ Some p → is_some (place_among bound p) ≡ true
is_there [] n p h = absurd (cc)
is_there (b ∷ bound) zero p h =
    let e : b.leaf.path ≡ p = same_term b.leaf.path p h in
    let s : same_path b.leaf.path p ≡ true = subst (λ q. same_path b.leaf.path q ≡ true) e (and_from _ _ (same_step b.leaf.path) (same_step b.leaf.path)) in
    ap (λ t. is_some (if t then Some 0 else option_map (λ i. suc i) (place_among bound p))) s
is_there (b ∷ bound) (suc n) p h = by_test (same_path b.leaf.path p) (place_among bound p) (is_there bound n p h)
  where
    by_test : (t : Bool) (o : Option ℕ) → is_some o ≡ true → is_some (if t then Some 0 else option_map (λ i. suc i) o) ≡ true
    by_test true o k = refl
    by_test false (Some i) k = refl
    by_test false None k = absurd (true≢false (sym k))

some_key : (o : Option ℕ) → is_some o ≡ true → is_some (option_map key o) ≡ true
some_key (Some n) h = refl
some_key None h = absurd (true≢false (sym h))

key_good : (bound : List BoundPath) (keys : List (List Step)) (n : ℕ) (c : BoundTerm) → paths bound ≡ keys → TermFits c → GivesGroupTerm keys (key n) c → GroupGood bound c
key_good bound keys n c e f h =
    let x = h.0 in
    let p = h.1 in
    subst (GroupGood bound) (sym h.2) (
      refl,
      from_related x.paths (p ∷ []) (subst TermFits h.2 f ∙ ap paths_of h.3) refl,
      ap (λ y. is_some (option_map key (key_of bound y))) h.3 ∙ some_key (place_among bound p) (is_there bound n p (ap (λ ks. slice_get ks n) e ∙ h.4)),
    )

aggregate_good : (bound : List BoundPath) (keys : List (List Step)) (g : GroupTerm) (c : BoundTerm) → paths bound ≡ keys → TermFits c → GroupRelated keys g → group_term [] c ≡ Some g → GroupGood bound c
aggregate_good bound keys g (plain e) b f r h = let z : None ≡ Some g = ap (option_map key) (sym (no_key e.expression)) ∙ h in absurd (cc)
aggregate_good bound keys g (rows_counted None) b f r h = (refl, refl, refl)
aggregate_good bound keys g (rows_counted (Some w)) b f r h = absurd (cc)
aggregate_good bound keys g (aggregated a e None) b f r h = (
  refl,
  from_related (bound ++ e.paths) (keys ++ paths_of e.expression) (together_paths bound e.paths keys (paths_of e.expression) b f)
      (subst (GroupRelated keys) (sym (same_term (aggregate_of_group a e.expression) g h)) r),
  refl,
)
aggregate_good bound keys g (aggregated a e (Some w)) b f r h = absurd (cc)

group_good : (bound : List BoundPath) (keys : List (List Step)) (g : GroupTerm) (c : BoundTerm) → paths bound ≡ keys → TermFits c → GroupRelated keys g → GivesGroupTerm keys g c → GroupGood bound c
group_good bound keys (key n) c b f r h = key_good bound keys n c b f h
group_good bound keys rows_of_group c b f r h = aggregate_good bound keys rows_of_group c b f r h
group_good bound keys (aggregate_of_group a e) c b f r h = aggregate_good bound keys (aggregate_of_group a e) c b f r h

groups_good : (fs : Fields) (bound : List BoundPath) (keys : List (List Step)) (items : List GroupItem) (is : List ItemSyntax) → paths bound ≡ keys → OneByOne (SaysGroupItem fs keys) items is
    → Every (λ (i : GroupItem). GroupRelated keys i.term) items → Every (Good fs (GroupGood bound)) is
groups_good fs bound keys [] [] b h r = tt
groups_good fs bound keys [] (i ∷ is) b h r = absurd h
groups_good fs bound keys (i ∷ items) [] b h r = absurd h
groups_good fs bound keys (i ∷ items) (x ∷ is) b h r =
    let s = h.0 in
    ((s.0, s.1, group_good bound keys i.term s.0 b (term_fits fs x.place x.term s.0 s.1) r.0 s.2), groups_good fs bound keys items is b h.1 r.1)

-- ---- faults of names alone

abbrev Named : BindFault → Type 0
Named f = f.problem ≡ duplicate_name

duplicates_named : (ls : Levels) (b : Bool) (all earlier is : List BoundItem) → Every Named (duplicates_behind ls b all earlier is)
duplicates_named ls b all earlier [] = tt
duplicates_named ls b all earlier (i ∷ is) = by_test (list_any (has_name_of b i) earlier || list_any (has_name_of_list ls b i) all) (duplicates_named ls b all (i ∷ earlier) is)
  where
    by_test : (t : Bool) → Every Named (duplicates_behind ls b all (i ∷ earlier) is) → Every Named ((if t then fault_at i.place duplicate_name else []) ++ duplicates_behind ls b all (i ∷ earlier) is)
    by_test true k = (refl, k)
    by_test false k = k

-- a tree without other faults
but_for_names : (s : Schema) (y : QuerySyntax) → table_faults s.name y.table ≡ [] → part_faults (bind_parts s.fields y) ≡ [] → unrelated_faults (bind_parts s.fields y) ≡ [] → item_faults (bind_parts s.fields y) ≡ [] → BindsButForNames s y
but_for_names s y t p u i f h =
    let parts = bind_parts s.fields y in
    let first = first_fault_is_told s y f h in
    let names = duplicates_named (levels_of s.fields) parts.is_record_query (passing parts.items) [] (passing parts.items) in
    let all : Every Named (faults_of s y) = every_append Named _ _ (every_append Named _ _ (every_append Named _ _ (every_append Named _ _ (every_empty Named _ t) (every_empty Named _ p)) (every_empty Named _ u)) (every_empty Named _ i)) names in
    every_get Named (faults_of s y) first.0.0 f all first.0.1

-- ---- the law

abbrev grouping_if : Bool → List BoundPath → List BoundItem → List BindFault
grouping_if b keys vs = if b then [] else flat_map (grouping_faults keys) vs

-- an argument stands alone beside a WITHIN that fails, and there the item fails
none_alone : (c : Checked BoundExpression) (d : Checked (Option BoundWithin)) (a : Aggregate) → faults_in (together (aggregated a) c d) ≡ [] → alone c d ≡ []
none_alone (passes e) (passes w) a h = refl
none_alone (passes e) (fails f fs) a h = absurd (cc)
none_alone (fails f fs) d a h = refl

no_argument_alone : (fs : Fields) (i : ℕ) (t : TermSyntax) → faults_in (bind_term fs i t) ≡ [] → argument_alone fs i t ≡ []
no_argument_alone fs i (expression e) h = refl
no_argument_alone fs i (count_rows w) h = refl
no_argument_alone fs i (aggregate a e w) h = none_alone (bind_argument fs i a e) (bind_within fs w) a h

mapped_faults : {A B : Type 0} (f : A → B) (c : Checked A) → faults_in (checked_map f c) ≡ faults_in c
mapped_faults f (passes a) = refl
mapped_faults f (fails e es) = refl

no_arguments_alone : (fs : Fields) (n : ℕ) (is : List ItemSyntax) → flat_map faults_in (bind_items fs n is) ≡ [] → arguments_alone fs is ≡ []
no_arguments_alone fs n [] h = refl
no_arguments_alone fs n (i ∷ is) h =
    let k = both_empty (faults_in (bind_item fs n i)) (flat_map faults_in (bind_items fs (suc n) is)) h in
    ap₂ (λ a b. a ++ b) (no_argument_alone fs i.place i.term (sym (mapped_faults _ (bind_term fs i.place i.term)) ∙ k.0)) (no_arguments_alone fs (suc n) is k.1)

-- a tree whose parts pass, are related, and are held by their nodes
tree_binds : (s : Schema) (y : QuerySyntax) (keys : List (List Step)) (bound : List BoundPath) → y.table.name ≡ s.name → (faults_in (bind_condition s.fields y.condition) ≡ []) × (unrelated_condition (bind_condition s.fields y.condition) ≡ [])
    → flat_map faults_in (bind_items s.fields 0 y.items) ≡ [] → KeysBound s.fields keys bound y.keys → Related keys
    → Every (λ (v : BoundItem). Held bound v.term) (passing (bind_items s.fields 0 y.items)) → grouping_if (is_record_syntax y) bound (passing (bind_items s.fields 0 y.items)) ≡ [] → BindsButForNames s y
tree_binds s y keys bound t c f k r e g =
    let vs = passing (bind_items s.fields 0 y.items) in
    let unrelated_items_of : Checked (List BoundPath) → List BindFault = λ ks. flat_map (λ (v : BoundItem). unrelated_in_term ks v.term) vs in
    but_for_names s y (ap (λ b. if b then [] else fault_at y.table.place unknown_table) ((bytes_eq-Decides y.table.name s.name).1 t))
    (ap₂ (λ a b. a ++ b) (ap₂ (λ a b. a ++ b) c.0 f) k.no_faults)
    (ap₂ (λ a b. a ++ b) (ap₂ (λ a b. a ++ b) (ap₂ (λ a b. a ++ b) c.1 (ap unrelated_items_of k.passed ∙ all_empty (λ (v : BoundItem). unrelated_in_term (passes bound) v.term) vs (every_weaker (λ (v : BoundItem). Held bound v.term) (λ (v : BoundItem). unrelated_in_term (passes bound) v.term ≡ []) vs (λ v h. h.1) e)))
    (ap (λ es. flat_map (unrelated_behind (all_passed (map (bind_path s.fields) y.keys))) es) (no_arguments_alone s.fields 0 y.items f)))
    (ap (where_passed unrelated_among) k.passed ∙ from_related bound keys k.same_paths r))
    (ap₂ (λ a b. a ++ b) (all_empty (λ (v : BoundItem). within_faults v.term) vs (every_weaker (λ (v : BoundItem). Held bound v.term) (λ (v : BoundItem). within_faults v.term ≡ []) vs (λ v h. h.0) e))
    (ap (λ ks. grouping_if (is_record_syntax y) ks vs) k.passing_all ∙ g))

grouped_all : (bound : List BoundPath) (vs : List BoundItem) → Every (λ (v : BoundItem). GroupGood bound v.term) vs → flat_map (grouping_faults bound) vs ≡ []
grouped_all bound vs h = all_empty (grouping_faults bound) vs (every_weaker (λ (v : BoundItem). GroupGood bound v.term) (λ (v : BoundItem). grouping_faults bound v ≡ []) vs
    (λ v g. ap (λ b. if b then [] else fault_at v.place not_grouped) g.2) h)

no_grouping : (b : Bool) (bound : List BoundPath) (vs : List BoundItem) → flat_map (grouping_faults bound) vs ≡ [] → grouping_if b bound vs ≡ []
no_grouping true bound vs h = refl
no_grouping false bound vs h = h

-- a record query has no keys
record_has_no_keys : (x : QuerySyntax) → is_record_syntax x ≡ true → x.keys ≡ []
record_has_no_keys x h = by_keys x.keys h
  where
    by_keys : (ks : List PathSyntax) → (if has_keys ks then false else list_all (λ (i : ItemSyntax). is_of_record i.term) x.items) ≡ true → ks ≡ []
    by_keys [] k = refl
    by_keys (p ∷ ks) k = absurd (true≢false (sym k))

is_record_again : (y : QuerySyntax) → y.keys ≡ [] → list_all (λ (i : ItemSyntax). is_of_record i.term) y.items ≡ true → is_record_syntax y ≡ true
is_record_again y e h = ap (λ ks. if has_keys ks then false else list_all (λ (i : ItemSyntax). is_of_record i.term) y.items) e ∙ h

abbrev unrelated_of : Checked (List BoundPath) → List BoundItem → List BindFault
unrelated_of ks vs = flat_map (λ (v : BoundItem). unrelated_in_term ks v.term) vs

-- the tree of what is bound by the parts of a query
parts_bind : (s : Schema) (x y : QuerySyntax) (b : Bool) → is_record_syntax x ≡ b → y.table.name ≡ s.name → (faults_in (bind_condition s.fields y.condition) ≡ []) × (unrelated_condition (bind_condition s.fields y.condition) ≡ [])
    → flat_map faults_in (bind_items s.fields 0 x.items) ≡ [] → flat_map faults_in (map (bind_path s.fields) x.keys) ≡ []
    → unrelated_of (all_passed (map (bind_path s.fields) x.keys)) (passing (bind_items s.fields 0 x.items)) ≡ [] → where_passed unrelated_among (all_passed (map (bind_path s.fields) x.keys)) ≡ []
    → SaysSelection s.fields (leaf_selection (selection_of_kind b (passing (map (bind_path s.fields) x.keys)) (passing (bind_items s.fields 0 x.items)))) y → BindsButForNames s y
parts_bind s x y true e t c fi fk ui uk h =
    let fs = s.fields in
    let vs = passing (bind_items fs 0 x.items) in
    let none : all_passed (map (bind_path fs) x.keys) ≡ passes [] = ap (λ ks. all_passed (map (bind_path fs) ks)) (record_has_no_keys x e) in
    let related = records_related vs (terms_fit fs 0 x.items fi) (ap (λ ks. unrelated_of ks vs) (sym none) ∙ ui) in
    let good = records_good fs (filter_map record_item vs) y.items h.0 related in
    let items = items_bind fs (Held []) 0 y.items good.0 in
    let kind : is_record_syntax y ≡ true = is_record_again y h.1 good.1 in
    tree_binds s y [] [] t c items.0 (subst (KeysBound fs [] []) (sym h.1) (no_keys_bind fs)) refl items.1 (ap (λ b. grouping_if b [] (passing (bind_items fs 0 y.items))) kind)
parts_bind s x y false e t c fi fk ui uk h =
    let fs = s.fields in
    let vs = passing (bind_items fs 0 x.items) in
    let bound = passing (map (bind_path fs) x.keys) in
    let all : all_passed (map (bind_path fs) x.keys) ≡ passes bound = all_pass (map (bind_path fs) x.keys) fk in
    let terms : List GroupTerm = aggregates_among (filter_map (group_item bound) vs) in
    let related = aggregates_related bound vs (terms_fit fs 0 x.items fi) (ap (λ ks. unrelated_of ks vs) (sym all) ∙ ui) in
    let keys = keys_bind fs (paths bound) y.keys h.1 in
    let among = every_append (λ (i : GroupItem). GroupRelated (paths bound) i.term) (key_items 0 (paths bound)) (aggregate_items 0 terms) (key_items_related (paths bound) 0 (paths bound)) (aggregate_items_related (paths bound) 0 terms related) in
    let good = groups_good fs keys.0 (paths bound) (key_items 0 (paths bound) ++ aggregate_items 0 terms) y.items keys.1.same_paths h.0 among in
    let items = items_bind fs (GroupGood keys.0) 0 y.items good in
    let others = passing (bind_items fs 0 y.items) in
    tree_binds s y (paths bound) keys.0 t c items.0 keys.1 (related_from bound (ap (where_passed unrelated_among) (sym all) ∙ uk))
    (every_weaker (λ (v : BoundItem). GroupGood keys.0 v.term) (λ (v : BoundItem). Held keys.0 v.term) others (λ v g. (g.0, g.1)) items.1)
    (no_grouping (is_record_syntax y) keys.0 others (grouped_all keys.0 others items.1))

pub leaf_tree_binds : LeafTreeBinds
unfolding leaf_query
leaf_tree_binds s x y q h says =
    let b = bound_is s x q h in
    let parts = bind_parts s.fields x in
    let f = no_faults_in parts (no_part_faults s x b.0).0 in
    let u = both_empty _ _ (both_empty _ _ (both_empty _ _ (both_empty _ _ b.0).0).0).1 in
    let v = both_empty _ _ (both_empty _ _ u.0).0 in
    let told : SaysQuery s (leaf_query (query_of parts)) y = subst (λ (z : Query). SaysQuery s (leaf_query z) y) (sym b.1) says in
    parts_bind s x y (is_record_syntax x) refl told.0 (condition_binds s.fields (condition_of (bind_condition s.fields x.condition)) y.condition told.1 (condition_related s.fields x.condition f.0 v.0)) f.1 f.2 v.1 u.1 told.2
