-- What is bound of a query without a fault: each item, and a condition where there is one; and its paths, which are those of leaves.
use Rattle.std.proofs.Common.{◌≡◌, ℕ, suc, List, [], ◌∷◌, ◌++◌, map, Bool, true, false, ◌&&◌, Option, Some, None, refl, sym, ap, ap₂, ◌∙◌, subst, true≢false}
use Rattle.std.specs.Prelude.{if◌then◌else◌, option_map, is_some, Ok}
use Rattle.std.specs.List.{list_all, filter_map, flat_map, cons_option}
use Rattle.std.proofs.lemmas.Bool.{and_parts}
use Rattle.dr_meaning.specs.Schema.{Schema, Fields}
use Rattle.dr_meaning.specs.Path.{Step, Found, find_path, is_leaf_path}
use Rattle.dr_meaning.specs.Expression.{paths_of}
use Rattle.dr_meaning.specs.Query.{Aggregate, count, sum, least, greatest, RecordTerm, expression as record_expression, within, RecordItem, GroupTerm, key, GroupItem, Selection, objects, groups, Query}
use Rattle.dr_meaning.specs.MeaningLaws.{condition_paths, group_term_paths}
use Rattle.dr_meaning.specs.Syntax.{PathSyntax, NodeSyntax, whole_record, node, WithinSyntax, TermSyntax, expression, count_rows, aggregate, ItemSyntax, ConditionSyntax, QuerySyntax}
use Rattle.dr_meaning.specs.BoundExpression.{type_mismatch, BindFault, fault_at, bad_within, not_grouped, Checked, passes, fails, checked_map, then_check, together, ValueType, same_type, truth_type, number_type, BoundPath, BoundExpression, bind_path, bind_expression, of_type}
use Rattle.dr_meaning.specs.Binding.{bind_condition, BoundWithin, found_node, bind_node, bind_within, BoundTerm, plain, rows_counted, aggregated, argument_of, bind_term, item_name, BoundParts, BoundItem, bind_item, bind_items, is_of_record, has_keys, is_record_syntax, bind_parts, faults_in, if_passed, passing, within_faults, group_term, grouping_faults, part_faults, item_faults, record_term, record_item, group_item, condition_of, bind}
use Rattle.dr_meaning.specs.QueryLeaves.{value_paths, selection_values, used_paths}
use Rattle.dr_meaning.specs.BindingLaws.{faults_of, selection_names, names_from, ItemsAreKept, ConditionIsKept, UsedPathsAreLeaves}
use Rattle.dr_meaning.proofs.BindingFaultLemmas.{bound_is}
use Rattle.dr_meaning.proofs.BindingLemmas.{FoundAt, path_passes, LeafPaths, leaf_paths_append, leaf_path, expression_leaf_paths}

-- ---- no faults

pub both_empty : {A : Type 0} (xs ys : List A) → xs ++ ys ≡ [] → (xs ≡ []) × (ys ≡ [])
both_empty [] ys h = (refl, h)
both_empty (x ∷ xs) ys h = absurd (cc)

-- the parts of all faults, where there are none: of paths and operators, and of items by themselves
pub no_part_faults : (s : Schema) (q : QuerySyntax) → faults_of s q ≡ [] → (part_faults (bind_parts s.fields q) ≡ []) × (item_faults (bind_parts s.fields q) ≡ [])
no_part_faults s q h =
    let k = both_empty _ _ h in
    let l = both_empty _ _ k.0 in
    let m = both_empty _ _ l.0 in
    let n = both_empty _ _ m.0 in
    (n.1, l.1)

-- of the condition, the items and the keys
pub no_faults_in : (b : BoundParts) → part_faults b ≡ [] → (faults_in b.condition ≡ []) × (flat_map faults_in b.items ≡ []) × (flat_map faults_in b.keys ≡ [])
no_faults_in b h =
    let k = both_empty _ _ h in
    let l = both_empty _ _ k.0 in
    (l.0, l.1, k.1)

passed_without_fault : {A : Type 0} (c : Checked A) → faults_in c ≡ [] → (a : A) × (c ≡ passes a)
passed_without_fault (passes a) h = (a, refl)
passed_without_fault (fails e es) h = absurd (cc)

-- ---- the condition

pub condition_is_kept : ConditionIsKept
condition_is_kept s q b h =
    let k = bound_is s q b h in
    let f = no_faults_in (bind_parts s.fields q) (no_part_faults s q k.0).0 in
    ap (λ (x : Query). is_some x.condition) (sym k.1) ∙ by_condition q.condition f.0
  where
    by_checked : (c : Checked BoundExpression) → faults_in (checked_map (λ e. Some e) c) ≡ [] → is_some (condition_of (checked_map (λ e. Some e) c)) ≡ true
    by_checked (passes e) g = refl
    by_checked (fails e es) g = absurd (cc)

    by_condition : (c : Option ConditionSyntax) → faults_in (bind_condition s.fields c) ≡ [] → is_some (condition_of (bind_condition s.fields c)) ≡ is_some c
    by_condition None g = refl
    by_condition (Some c) g = by_checked (then_check (of_type truth_type c.place) (bind_expression s.fields c.expression)) g

-- ---- terms

same_inside : {A : Type 0} (a b : A) → passes a ≡ passes b → a ≡ b
same_inside a b h = cc

mapped_passes : {A B : Type 0} (f : A → B) (c : Checked A) (b : B) → checked_map f c ≡ passes b → (a : A) × (c ≡ passes a) × (f a ≡ b)
mapped_passes f (passes a) b h = (a, refl, same_inside (f a) b h)
mapped_passes f (fails e es) b h = absurd (cc)

together_passes : {A B C : Type 0} (f : A → B → C) (c : Checked A) (d : Checked B) (r : C) → together f c d ≡ passes r → (a : A) × (b : B) × (c ≡ passes a) × (d ≡ passes b) × (f a b ≡ r)
together_passes f (passes a) (passes b) r h = (a, b, refl, refl, same_inside (f a b) r h)
together_passes f (passes a) (fails e es) r h = absurd (cc)
together_passes f (fails e es) (passes b) r h = absurd (cc)
together_passes f (fails e es) (fails g gs) r h = absurd (cc)

-- a part that passes a further rule passed before
then_passes : {A B : Type 0} (rule : A → Checked B) (c : Checked A) (b : B) → then_check rule c ≡ passes b → (a : A) × (c ≡ passes a) × (rule a ≡ passes b)
then_passes rule (passes a) b h = (a, refl, h)
then_passes rule (fails e es) b h = absurd (cc)

of_type_same : (t : ValueType) (i : ℕ) (a b : BoundExpression) → of_type t i a ≡ passes b → a ≡ b
of_type_same t i a b h = by_test (same_type a.gives t) h
  where
    by_test : (x : Bool) → (if x then passes a else fails (record { place = i; problem = type_mismatch }) []) ≡ passes b → a ≡ b
    by_test true e = cc
    by_test false e = absurd (cc)

argument_same : (a : Aggregate) (i : ℕ) (x y : BoundExpression) → argument_of a i x ≡ passes y → x ≡ y
argument_same count i x y h = cc
argument_same sum i x y h = of_type_same number_type i x y h
argument_same least i x y h = cc
argument_same greatest i x y h = cc

-- WITHIN is bound to a node
within_there : (fs : Fields) (w : WithinSyntax) (o : Option BoundWithin) → bind_within fs (Some w) ≡ passes o → (v : BoundWithin) × (o ≡ Some v)
within_there fs w o h = by_node w.node h
  where
    inside : (v : BoundWithin) → passes (Some v) ≡ passes o → (v : BoundWithin) × (o ≡ Some v)
    inside v e = (v, sym (same_inside (Some v) o e))

    by_found : (j : ℕ) (f : Option Found) → found_node w.place j f ≡ passes o → (v : BoundWithin) × (o ≡ Some v)
    by_found j None e = absurd (cc)
    by_found j (Some f) e = inside _ e

    by_node : (n : NodeSyntax) → bind_node fs w.place n ≡ passes o → (v : BoundWithin) × (o ≡ Some v)
    by_node whole_record e = inside _ e
    by_node (node p) e = by_found p.place (find_path p.names fs) e

-- ---- items

-- in a record query each term without a fault is one of a record
term_recorded : (fs : Fields) (i : ℕ) (t : TermSyntax) (b : BoundTerm) → is_of_record t ≡ true → bind_term fs i t ≡ passes b → within_faults b ≡ [] → (r : RecordTerm) × (record_term b ≡ Some r)
term_recorded fs i (expression e) b r h w = let q = mapped_passes plain (bind_expression fs e) b h in (record_expression q.0.expression, ap record_term (sym q.2))
term_recorded fs i (count_rows None) b r h w = absurd (true≢false (sym r))
term_recorded fs i (count_rows (Some v)) b r h w =
    let q = mapped_passes rows_counted (bind_within fs (Some v)) b h in
    let n = within_there fs v q.0 q.1 in
    let e : rows_counted (Some n.0) ≡ b = ap rows_counted (sym n.1) ∙ q.2 in
    let z : fault_at n.0.place bad_within ≡ [] = ap within_faults e ∙ w in
    absurd (cc)
term_recorded fs i (aggregate a e None) b r h w = absurd (true≢false (sym r))
term_recorded fs i (aggregate a e (Some v)) b r h w =
    let q = together_passes (aggregated a) (then_check (argument_of a i) (bind_expression fs e)) (bind_within fs (Some v)) b h in
    let n = within_there fs v q.1 q.3 in
    let k : aggregated a q.0 (Some n.0) ≡ b = ap (aggregated a q.0) (sym n.1) ∙ q.4 in
    (within a q.0.expression n.0.node, ap record_term (sym k))

-- an item that passes, and its term
item_passes : (fs : Fields) (n : ℕ) (i : ItemSyntax) → faults_in (bind_item fs n i) ≡ [] → (t : BoundTerm) × (bind_term fs i.place i.term ≡ passes t)
    × (bind_item fs n i ≡ passes (record { place = i.place; name = item_name n i.term i.name; term = t }))
item_passes fs n i h =
    let q = passed_without_fault (bind_item fs n i) h in
    let m = mapped_passes (λ t. record { place = i.place; name = item_name n i.term i.name; term = t }) (bind_term fs i.place i.term) q.0 q.1 in
    (m.0, m.1, q.1 ∙ ap passes (sym m.2))

abbrev record_names : List BoundItem → List (List ℕ)
record_names vs = map (λ (i : RecordItem). i.name) (filter_map record_item vs)

abbrev group_names : List BoundPath → List BoundItem → List (List ℕ)
group_names keys vs = map (λ (i : GroupItem). i.name) (filter_map (group_item keys) vs)

abbrev all_within_faults : List BoundItem → List BindFault
all_within_faults vs = flat_map (λ (i : BoundItem). within_faults i.term) vs

names_of_record : (fs : Fields) (n : ℕ) (is : List ItemSyntax) → list_all (λ (i : ItemSyntax). is_of_record i.term) is ≡ true → flat_map faults_in (bind_items fs n is) ≡ []
    → all_within_faults (passing (bind_items fs n is)) ≡ [] → record_names (passing (bind_items fs n is)) ≡ names_from n is
names_of_record fs n [] a f w = refl
names_of_record fs n (i ∷ is) a f w =
    let e = both_empty (faults_in (bind_item fs n i)) (flat_map faults_in (bind_items fs (suc n) is)) f in
    let q = item_passes fs n i e.0 in
    let v : BoundItem = record { place = i.place; name = item_name n i.term i.name; term = q.0 } in
    let vs : List BoundItem = passing (bind_items fs (suc n) is) in
    let p : passing (bind_items fs n (i ∷ is)) ≡ v ∷ vs = ap (λ c. cons_option (if_passed c) vs) q.2 in
    let g = both_empty (within_faults q.0) (all_within_faults vs) (sym (ap all_within_faults p) ∙ w) in
    let b = and_parts (is_of_record i.term) (list_all (λ (j : ItemSyntax). is_of_record j.term) is) a in
    let r = term_recorded fs i.place i.term q.0 b.0 q.1 g.0 in
    ap record_names p
    ∙ ap (λ o. map (λ (j : RecordItem). j.name) (cons_option (option_map (λ (t : RecordTerm). record { name = v.name; term = t }) o) (filter_map record_item vs))) r.1
    ∙ ap (λ ns. item_name n i.term i.name ∷ ns) (names_of_record fs (suc n) is b.1 e.1 g.1)

grouped : (keys : List BoundPath) (i : BoundItem) → grouping_faults keys i ≡ [] → (g : GroupTerm) × (group_term keys i.term ≡ Some g)
grouped keys i h = by_term (group_term keys i.term) h
  where
    by_term : (o : Option GroupTerm) → (if is_some o then [] else fault_at i.place not_grouped) ≡ [] → (g : GroupTerm) × (o ≡ Some g)
    by_term None k = absurd (cc)
    by_term (Some g) k = (g, refl)

names_of_groups : (keys : List BoundPath) (fs : Fields) (n : ℕ) (is : List ItemSyntax) → flat_map faults_in (bind_items fs n is) ≡ [] → flat_map (grouping_faults keys) (passing (bind_items fs n is)) ≡ []
    → group_names keys (passing (bind_items fs n is)) ≡ names_from n is
names_of_groups keys fs n [] f w = refl
names_of_groups keys fs n (i ∷ is) f w =
    let e = both_empty (faults_in (bind_item fs n i)) (flat_map faults_in (bind_items fs (suc n) is)) f in
    let q = item_passes fs n i e.0 in
    let v : BoundItem = record { place = i.place; name = item_name n i.term i.name; term = q.0 } in
    let vs : List BoundItem = passing (bind_items fs (suc n) is) in
    let p : passing (bind_items fs n (i ∷ is)) ≡ v ∷ vs = ap (λ c. cons_option (if_passed c) vs) q.2 in
    let g = both_empty (grouping_faults keys v) (flat_map (grouping_faults keys) vs) (sym (ap (flat_map (grouping_faults keys)) p) ∙ w) in
    let r = grouped keys v g.0 in
    ap (group_names keys) p
    ∙ ap (λ o. map (λ (j : GroupItem). j.name) (cons_option (option_map (λ (t : GroupTerm). record { name = v.name; term = t }) o) (filter_map (group_item keys) vs))) r.1
    ∙ ap (λ ns. item_name n i.term i.name ∷ ns) (names_of_groups keys fs (suc n) is e.1 g.1)

record_is : (q : QuerySyntax) → is_record_syntax q ≡ true → list_all (λ (i : ItemSyntax). is_of_record i.term) q.items ≡ true
record_is q h = by_keys (has_keys q.keys) h
  where
    by_keys : (b : Bool) → (if b then false else list_all (λ (i : ItemSyntax). is_of_record i.term) q.items) ≡ true → list_all (λ (i : ItemSyntax). is_of_record i.term) q.items ≡ true
    by_keys true k = absurd (true≢false (sym k))
    by_keys false k = k

-- the faults of items by themselves, of a query of either kind
abbrev faults_of_kind : Bool → List BoundPath → List BoundItem → List BindFault
faults_of_kind b keys vs = all_within_faults vs ++ (if b then [] else flat_map (grouping_faults keys) vs)

abbrev selection_of_kind : Bool → List BoundPath → List BoundItem → Selection
selection_of_kind b keys vs = if b then objects (filter_map record_item vs) else groups (map (λ (k : BoundPath). k.leaf.path) keys) (filter_map (group_item keys) vs)

pub items_are_kept : ItemsAreKept
items_are_kept s q b h =
    let k = bound_is s q b h in
    let parts = bind_parts s.fields q in
    let n = no_part_faults s q k.0 in
    let f = no_faults_in parts n.0 in
    ap (λ (x : Query). selection_names x.selection) (sym k.1) ∙ by_kind (is_record_syntax q) refl f.1 n.1
  where
    by_kind : (x : Bool) → is_record_syntax q ≡ x → flat_map faults_in (bind_items s.fields 0 q.items) ≡ [] → faults_of_kind x (passing (map (bind_path s.fields) q.keys)) (passing (bind_items s.fields 0 q.items)) ≡ []
        → selection_names (selection_of_kind x (passing (map (bind_path s.fields) q.keys)) (passing (bind_items s.fields 0 q.items))) ≡ names_from 0 q.items
    by_kind true e f g = names_of_record s.fields 0 q.items (record_is q e) f (both_empty _ _ g).0
    by_kind false e f g = names_of_groups (passing (map (bind_path s.fields) q.keys)) s.fields 0 q.items f (both_empty _ _ g).1

-- ---- paths

abbrev TermLeafPaths : Fields → BoundTerm → Type 0
TermLeafPaths fs (plain e) = LeafPaths fs (paths_of e.expression)
TermLeafPaths fs (rows_counted w) = Unit {0}
TermLeafPaths fs (aggregated a e w) = LeafPaths fs (paths_of e.expression)

term_leaf_paths : (fs : Fields) (i : ℕ) (t : TermSyntax) (b : BoundTerm) → bind_term fs i t ≡ passes b → TermLeafPaths fs b
term_leaf_paths fs i (expression e) b h = let q = mapped_passes plain (bind_expression fs e) b h in subst (TermLeafPaths fs) q.2 (expression_leaf_paths fs e q.0 q.1)
term_leaf_paths fs i (count_rows w) b h = let q = mapped_passes rows_counted (bind_within fs w) b h in subst (TermLeafPaths fs) q.2 tt
term_leaf_paths fs i (aggregate a e w) b h =
    let q = together_passes (aggregated a) (then_check (argument_of a i) (bind_expression fs e)) (bind_within fs w) b h in
    let r = then_passes (argument_of a i) (bind_expression fs e) q.0 q.2 in
    subst (TermLeafPaths fs) q.4 (subst (λ (x : BoundExpression). LeafPaths fs (paths_of x.expression)) (argument_same a i r.0 q.0 r.2) (expression_leaf_paths fs e r.0 r.1))

abbrev EachTerm : Fields → List BoundItem → Type 0
EachTerm fs [] = Unit {0}
EachTerm fs (i ∷ is) = TermLeafPaths fs i.term × EachTerm fs is

each_term : (fs : Fields) (n : ℕ) (is : List ItemSyntax) → EachTerm fs (passing (bind_items fs n is))
each_term fs n [] = tt
each_term fs n (i ∷ is) = by_term (bind_term fs i.place i.term) (term_leaf_paths fs i.place i.term) (each_term fs (suc n) is)
  where
    by_term : (c : Checked BoundTerm) → ((b : BoundTerm) → c ≡ passes b → TermLeafPaths fs b) → EachTerm fs (passing (bind_items fs (suc n) is))
        → EachTerm fs (cons_option (if_passed (checked_map (λ t. record { place = i.place; name = item_name n i.term i.name; term = t }) c)) (passing (bind_items fs (suc n) is)))
    by_term (passes t) h g = (h t refl, g)
    by_term (fails e es) h g = g

abbrev record_values : List BoundItem → List (List Step)
record_values vs = flat_map (λ (i : RecordItem). value_paths i.term) (filter_map record_item vs)

abbrev group_values : List BoundPath → List BoundItem → List (List Step)
group_values keys vs = flat_map (λ (i : GroupItem). group_term_paths i.term) (filter_map (group_item keys) vs)

record_values_leaf : (fs : Fields) (vs : List BoundItem) → EachTerm fs vs → LeafPaths fs (record_values vs)
record_values_leaf fs [] h = tt
record_values_leaf fs (v ∷ vs) h = by_term v.term h.0 (record_values_leaf fs vs h.1)
  where
    by_term : (t : BoundTerm) → TermLeafPaths fs t → LeafPaths fs (record_values vs)
        → LeafPaths fs (flat_map (λ (i : RecordItem). value_paths i.term) (cons_option (option_map (λ (r : RecordTerm). record { name = v.name; term = r }) (record_term t)) (filter_map record_item vs)))
    by_term (plain e) k g = leaf_paths_append fs (paths_of e.expression) (record_values vs) k g
    by_term (rows_counted w) k g = g
    by_term (aggregated a e None) k g = g
    by_term (aggregated a e (Some w)) k g = leaf_paths_append fs (paths_of e.expression) (record_values vs) k g

group_values_leaf : (fs : Fields) (keys : List BoundPath) (vs : List BoundItem) → EachTerm fs vs → LeafPaths fs (group_values keys vs)
group_values_leaf fs keys [] h = tt
group_values_leaf fs keys (v ∷ vs) h = by_term v.term h.0 (group_values_leaf fs keys vs h.1)
  where
    by_key : (o : Option ℕ) → LeafPaths fs (group_values keys vs) → LeafPaths fs (flat_map (λ (i : GroupItem). group_term_paths i.term) (cons_option (option_map (λ (r : GroupTerm). record { name = v.name; term = r }) (option_map key o)) (filter_map (group_item keys) vs)))
    by_key None g = g
    by_key (Some k) g = g

    by_term : (t : BoundTerm) → TermLeafPaths fs t → LeafPaths fs (group_values keys vs)
        → LeafPaths fs (flat_map (λ (i : GroupItem). group_term_paths i.term) (cons_option (option_map (λ (r : GroupTerm). record { name = v.name; term = r }) (group_term keys t)) (filter_map (group_item keys) vs)))
    by_term (plain e) k g = by_key _ g
    by_term (rows_counted None) k g = g
    by_term (rows_counted (Some w)) k g = g
    by_term (aggregated a e None) k g = leaf_paths_append fs (paths_of e.expression) (group_values keys vs) k g
    by_term (aggregated a e (Some w)) k g = g

keys_leaf : (fs : Fields) (ks : List PathSyntax) → LeafPaths fs (map (λ (k : BoundPath). k.leaf.path) (passing (map (bind_path fs) ks)))
keys_leaf fs [] = tt
keys_leaf fs (k ∷ ks) = by_path (bind_path fs k) (path_passes fs k) (keys_leaf fs ks)
  where
    by_path : (c : Checked BoundPath) → ((b : BoundPath) → c ≡ passes b → FoundAt fs k.names b) → LeafPaths fs (map (λ (k : BoundPath). k.leaf.path) (passing (map (bind_path fs) ks)))
        → LeafPaths fs (map (λ (k : BoundPath). k.leaf.path) (cons_option (if_passed c) (passing (map (bind_path fs) ks))))
    by_path (passes b) h g = (leaf_path fs k.names b (h b refl), g)
    by_path (fails e es) h g = g

condition_leaf : (fs : Fields) (c : Option ConditionSyntax) → LeafPaths fs (condition_paths (condition_of (bind_condition fs c)))
condition_leaf fs None = tt
condition_leaf fs (Some c) = by_checked (then_check (of_type truth_type c.place) (bind_expression fs c.expression)) passed
  where
    passed : (b : BoundExpression) → then_check (of_type truth_type c.place) (bind_expression fs c.expression) ≡ passes b → LeafPaths fs (paths_of b.expression)
    passed b h =
        let r = then_passes (of_type truth_type c.place) (bind_expression fs c.expression) b h in
        subst (λ (x : BoundExpression). LeafPaths fs (paths_of x.expression)) (of_type_same truth_type c.place r.0 b r.2) (expression_leaf_paths fs c.expression r.0 r.1)

    by_checked : (d : Checked BoundExpression) → ((b : BoundExpression) → d ≡ passes b → LeafPaths fs (paths_of b.expression)) → LeafPaths fs (condition_paths (condition_of (checked_map (λ e. Some e) d)))
    by_checked (passes e) h = h e refl
    by_checked (fails e es) h = tt

selection_leaf : (fs : Fields) (b : Bool) (ks : List PathSyntax) (is : List ItemSyntax) → LeafPaths fs (selection_values (selection_of_kind b (passing (map (bind_path fs) ks)) (passing (bind_items fs 0 is))))
selection_leaf fs true ks is = record_values_leaf fs (passing (bind_items fs 0 is)) (each_term fs 0 is)
selection_leaf fs false ks is = leaf_paths_append fs _ _ (keys_leaf fs ks) (group_values_leaf fs (passing (map (bind_path fs) ks)) (passing (bind_items fs 0 is)) (each_term fs 0 is))

-- the paths whose values a bound query uses are those of leaves
pub used_leaf_paths : (s : Schema) (q : QuerySyntax) (b : Query) → bind s q ≡ Ok b → LeafPaths s.fields (used_paths b)
used_leaf_paths s q b h =
    subst (λ (x : Query). LeafPaths s.fields (used_paths x)) (bound_is s q b h).1
    (leaf_paths_append s.fields _ _ (condition_leaf s.fields q.condition) (selection_leaf s.fields (is_record_syntax q) q.keys q.items))

all_leaf_paths : (fs : Fields) (ps : List (List Step)) → LeafPaths fs ps → list_all (is_leaf_path fs) ps ≡ true
all_leaf_paths fs [] h = refl
all_leaf_paths fs (p ∷ ps) h = ap₂ (λ a b. a && b) (subst (λ (x : List Step). is_leaf_path fs x ≡ true) h.0.3 h.0.2) (all_leaf_paths fs ps h.1)

pub used_paths_are_leaves : UsedPathsAreLeaves
used_paths_are_leaves s q b h = all_leaf_paths s.fields (used_paths b) (used_leaf_paths s q b h)
