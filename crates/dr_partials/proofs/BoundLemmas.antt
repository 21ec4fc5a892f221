-- The partials of a bound query can be merged: what binding asks of its paths is what merging needs.
use Rattle.std.proofs.Common.{◌≡◌, ℕ, suc, List, [], ◌∷◌, ◌++◌, map, Bool, true, false, ◌&&◌, ◌||◌, Option, Some, None, refl, sym, ap, ap₂, ◌∙◌, subst, append-nil}
use Rattle.std.specs.Prelude.{if◌then◌else◌, option_map, filter}
use Rattle.std.specs.List.{list_all, list_any, filter_map, flat_map, cons_option}
use Rattle.std.proofs.lemmas.Bool.{and_parts}
use Rattle.std.proofs.lemmas.List.{map-append}
use Rattle.std.proofs.lemmas.List.Folds.{list_all-append}
use Rattle.dr_meaning.specs.Schema.{Schema, Fields}
use Rattle.dr_meaning.specs.Path.{Step, Leaf, same_path, leaves, is_leaf_path, chain_end, begins_with}
use Rattle.dr_meaning.specs.Expression.{Expression, paths_of, negative as negative_expression, is_null as is_null_expression, negation as negation_expression}
use Rattle.dr_meaning.specs.Expression.{like as like_expression, contains as contains_expression, arithmetic as arithmetic_expression, comparison as comparison_expression}
use Rattle.dr_meaning.specs.Expression.{conjunction as conjunction_expression, disjunction as disjunction_expression}
use Rattle.dr_meaning.specs.Query.{Aggregate, count, sum, least, greatest, GroupTerm, key, GroupItem, Selection, objects, groups, Query}
use Rattle.dr_meaning.specs.MeaningLaws.{condition_paths, group_term_paths}
use Rattle.dr_meaning.specs.Syntax.{ExpressionSyntax, number_literal, text_literal, truth_literal, path, negative, arithmetic, comparison, like, contains, is_null, negation, conjunction, disjunction}
use Rattle.dr_meaning.specs.Syntax.{TermSyntax, expression, count_rows, aggregate, ItemSyntax, QuerySyntax}
use Rattle.dr_meaning.specs.BoundExpression.{fault_at, unrelated, type_mismatch, Checked, passes, fails, checked_map, then_check, together, ValueType, same_type, truth_type, number_type, text_type, type_from, null_test_type, logic_type, comparison_type, arithmetic_type, BoundPath, BoundExpression, bind_path, path_expression, operator, one_operand, two_operands, bind_expression, of_type, are_related, unrelated_after, unrelated_among}
use Rattle.dr_meaning.specs.Binding.{BoundWithin, bind_within, BoundTerm, plain, rows_counted, aggregated, argument_of, bind_term, item_name, BoundItem, bind_items, is_record_syntax, bind_parts, faults_in, if_passed, passing, where_passed, all_passed, unrelated_in_term, unrelated_faults, record_item, key_of, group_term, group_item, query_of}
use Rattle.dr_meaning.specs.QueryLeaves.{used_paths, selection_values, in_reading_order, query_leaves}
use Rattle.dr_meaning.specs.BindingLaws.{faults_of}
use Rattle.dr_meaning.proofs.BindingFaultLemmas.{bound_is}
use Rattle.dr_meaning.proofs.BoundPartsLemmas.{both_empty, no_part_faults, no_faults_in, used_leaf_paths, used_paths_are_leaves}
use Rattle.dr_meaning.proofs.QueryLeavesLemmas.{steps_of, used_lead, paths-lead}
use Rattle.dr_partials.specs.PartialLaws.{all_related, is_mergeable_selection, is_mergeable, BoundIsMergeable, BoundLeavesAreEnough}
use Rattle.dr_partials.proofs.RowLemmas.{Each}

abbrev paths : List BoundPath → List (List Step)
paths ps = map (λ (p : BoundPath). p.leaf.path) ps

-- ---- the paths of a bound expression are its expression's

abbrev PathsFit : Checked BoundExpression → Type 0
PathsFit (passes b) = paths b.paths ≡ paths_of b.expression
PathsFit (fails e es) = Unit {0}

operator_fits : (i : ℕ) (o : Option ValueType) (e : Expression) (ps : List BoundPath) → paths ps ≡ paths_of e → PathsFit (operator i o e ps)
operator_fits i None e ps h = tt
operator_fits i (Some t) e ps h = h

one_fits : (i : ℕ) (type : ValueType → Option ValueType) (make : Expression → Expression) → ((e : Expression) → paths_of e ≡ paths_of (make e)) → (c : Checked BoundExpression) → PathsFit c → PathsFit (one_operand i type make c)
one_fits i type make f (fails e es) h = tt
one_fits i type make f (passes a) h = operator_fits i (type a.gives) (make a.expression) a.paths (h ∙ f a.expression)

two_fit : (i : ℕ) (type : ValueType → ValueType → Option ValueType) (make : Expression → Expression → Expression) → ((e f : Expression) → paths_of e ++ paths_of f ≡ paths_of (make e f)) → (c d : Checked BoundExpression) → PathsFit c → PathsFit d
    → PathsFit (two_operands i type make c d)
two_fit i type make f (fails e es) (fails g gs) h k = tt
two_fit i type make f (fails e es) (passes b) h k = tt
two_fit i type make f (passes a) (fails g gs) h k = tt
two_fit i type make f (passes a) (passes b) h k = operator_fits i (type a.gives b.gives) (make a.expression b.expression) (a.paths ++ b.paths)
    (map-append (λ (p : BoundPath). p.leaf.path) a.paths b.paths ∙ (ap₂ (λ x y. x ++ y) h k ∙ f a.expression b.expression))

path_fits : (c : Checked BoundPath) → PathsFit (checked_map path_expression c)
path_fits (passes p) = refl
path_fits (fails e es) = tt

expression_fits : (fs : Fields) (e : ExpressionSyntax) → PathsFit (bind_expression fs e)
expression_fits fs (number_literal n) = refl
expression_fits fs (text_literal t) = refl
expression_fits fs (truth_literal b) = refl
expression_fits fs (path p) = path_fits (bind_path fs p)
expression_fits fs (negative i e) = one_fits i (type_from number_type number_type) negative_expression (λ x. refl) (bind_expression fs e) (expression_fits fs e)
expression_fits fs (arithmetic i o a b) = two_fit i (arithmetic_type o) (arithmetic_expression o) (λ x y. refl) (bind_expression fs a) (bind_expression fs b) (expression_fits fs a) (expression_fits fs b)
expression_fits fs (comparison i c a b) = two_fit i comparison_type (comparison_expression c) (λ x y. refl) (bind_expression fs a) (bind_expression fs b) (expression_fits fs a) (expression_fits fs b)
expression_fits fs (like i e t) = one_fits i (type_from text_type truth_type) (λ x. like_expression x t) (λ x. refl) (bind_expression fs e) (expression_fits fs e)
expression_fits fs (contains i e t) = one_fits i (type_from text_type truth_type) (λ x. contains_expression x t) (λ x. refl) (bind_expression fs e) (expression_fits fs e)
expression_fits fs (is_null i e) = one_fits i null_test_type is_null_expression (λ x. refl) (bind_expression fs e) (expression_fits fs e)
expression_fits fs (negation i e) = one_fits i (type_from truth_type truth_type) negation_expression (λ x. refl) (bind_expression fs e) (expression_fits fs e)
expression_fits fs (conjunction i a b) = two_fit i logic_type conjunction_expression (λ x y. refl) (bind_expression fs a) (bind_expression fs b) (expression_fits fs a) (expression_fits fs b)
expression_fits fs (disjunction i a b) = two_fit i logic_type disjunction_expression (λ x y. refl) (bind_expression fs a) (bind_expression fs b) (expression_fits fs a) (expression_fits fs b)

-- ---- terms

abbrev TermFits : BoundTerm → Type 0
TermFits (plain e) = Unit {0}
TermFits (rows_counted w) = Unit {0}
TermFits (aggregated a e w) = paths e.paths ≡ paths_of e.expression

abbrev TermPasses : Checked BoundTerm → Type 0
TermPasses (passes t) = TermFits t
TermPasses (fails e es) = Unit {0}

typed_fits : (t : ValueType) (i : ℕ) (b : BoundExpression) → paths b.paths ≡ paths_of b.expression → PathsFit (of_type t i b)
typed_fits t i b h = by_test (same_type b.gives t)
  where
    by_test : (x : Bool) → PathsFit (if x then passes b else fails (record { place = i; problem = type_mismatch }) [])
    by_test true = h
    by_test false = tt

argument_fits : (a : Aggregate) (i : ℕ) (c : Checked BoundExpression) → PathsFit c → PathsFit (then_check (argument_of a i) c)
argument_fits a i (fails e es) h = tt
argument_fits count i (passes b) h = h
argument_fits sum i (passes b) h = typed_fits number_type i b h
argument_fits least i (passes b) h = h
argument_fits greatest i (passes b) h = h

aggregate_fits : (a : Aggregate) (c : Checked BoundExpression) (d : Checked (Option BoundWithin)) → PathsFit c → TermPasses (together (aggregated a) c d)
aggregate_fits a (passes b) (passes w) h = h
aggregate_fits a (passes b) (fails e es) h = tt
aggregate_fits a (fails e es) (passes w) h = tt
aggregate_fits a (fails e es) (fails g gs) h = tt

plain_fits : (c : Checked BoundExpression) → TermPasses (checked_map plain c)
plain_fits (passes b) = tt
plain_fits (fails e es) = tt

rows_fit : (c : Checked (Option BoundWithin)) → TermPasses (checked_map rows_counted c)
rows_fit (passes w) = tt
rows_fit (fails e es) = tt

term_fits : (fs : Fields) (i : ℕ) (t : TermSyntax) → TermPasses (bind_term fs i t)
term_fits fs i (expression e) = plain_fits (bind_expression fs e)
term_fits fs i (count_rows w) = rows_fit (bind_within fs w)
term_fits fs i (aggregate a e w) = aggregate_fits a (then_check (argument_of a i) (bind_expression fs e)) (bind_within fs w) (argument_fits a i (bind_expression fs e) (expression_fits fs e))

abbrev EachTerm : List BoundItem → Type 0
EachTerm vs = Each (λ (v : BoundItem). TermFits v.term) vs

each_term : (fs : Fields) (n : ℕ) (is : List ItemSyntax) → EachTerm (passing (bind_items fs n is))
each_term fs n [] = tt
each_term fs n (i ∷ is) = by_term (bind_term fs i.place i.term) (term_fits fs i.place i.term) (each_term fs (suc n) is)
  where
    by_term : (c : Checked BoundTerm) → TermPasses c → EachTerm (passing (bind_items fs (suc n) is))
        → EachTerm (cons_option (if_passed (checked_map (λ t. record { place = i.place; name = item_name n i.term i.name; term = t }) c)) (passing (bind_items fs (suc n) is)))
    by_term (passes t) h g = (h, g)
    by_term (fails e es) h g = g

-- ---- related paths

or_turned : (a b : Bool) → (a || b) ≡ true → (b || a) ≡ true
or_turned true true h = refl
or_turned true false h = refl
or_turned false b h = ap (λ c. c || false) h

related_back : (p q : List Step) → are_related p q ≡ true → are_related q p ≡ true
related_back p q h = or_turned (begins_with (chain_end p) (chain_end q)) (begins_with (chain_end q) (chain_end p)) h

-- a path related to each of some is what each of these is related to
all_back : (p : List Step) (before : List (List Step)) (ps : List (List Step)) → list_all (are_related p) before ≡ true → Each (λ (q : List Step). list_all (are_related q) ps ≡ true) before
    → Each (λ (q : List Step). list_all (are_related q) (p ∷ ps) ≡ true) before
all_back p [] ps h e = tt
all_back p (q ∷ before) ps h e =
    let k = and_parts (are_related p q) (list_all (are_related p) before) h in
    (ap₂ (λ a b. a && b) (related_back p q k.0) e.0, all_back p before ps k.1 e.1)

none_related : (before : List (List Step)) → Each (λ (q : List Step). list_all (are_related q) [] ≡ true) before
none_related [] = tt
none_related (q ∷ before) = (refl, none_related before)

related_after : (before : List (List Step)) (ps : List BoundPath) → unrelated_after before ps ≡ [] → (all_related (paths ps) ≡ true) × Each (λ (q : List Step). list_all (are_related q) (paths ps) ≡ true) before
related_after before [] h = (refl, none_related before)
related_after before (p ∷ ps) h = by_test (list_all (are_related p.leaf.path) before) refl h (related_after (p.leaf.path ∷ before) ps)
  where
    by_test : (b : Bool) → list_all (are_related p.leaf.path) before ≡ b → (if b then unrelated_after (p.leaf.path ∷ before) ps else fault_at p.place unrelated) ≡ []
        → (unrelated_after (p.leaf.path ∷ before) ps ≡ [] → (all_related (paths ps) ≡ true) × Each (λ (q : List Step). list_all (are_related q) (paths ps) ≡ true) (p.leaf.path ∷ before))
        → (all_related (paths (p ∷ ps)) ≡ true) × Each (λ (q : List Step). list_all (are_related q) (paths (p ∷ ps)) ≡ true) before
    by_test true e k r = let x = r k in (ap₂ (λ a b. a && b) x.1.0 x.0, all_back p.leaf.path before (paths ps) e x.1.1)
    by_test false e k r = absurd (cc)

related_among : (ps : List BoundPath) → unrelated_among ps ≡ [] → all_related (paths ps) ≡ true
related_among ps h = (related_after [] ps h).0

-- ---- keys that all pass

all_pass : {A : Type 0} (cs : List (Checked A)) → flat_map faults_in cs ≡ [] → all_passed cs ≡ passes (passing cs)
all_pass [] h = refl
all_pass (passes a ∷ cs) h = ap (together (λ x rest. x ∷ rest) (passes a)) (all_pass cs h)
all_pass (fails e es ∷ cs) h = absurd (cc)

item_related : (keys : List BoundPath) (v : BoundItem) → all_related (paths keys) ≡ true → TermFits v.term → unrelated_in_term (passes keys) v.term ≡ []
    → (rest : List GroupItem) → list_all (λ (i : GroupItem). all_related (paths keys ++ group_term_paths i.term)) rest ≡ true
    → list_all (λ (i : GroupItem). all_related (paths keys ++ group_term_paths i.term)) (cons_option (group_item keys v) rest) ≡ true
item_related keys v a f u rest r = by_term v.term f u
  where
    alone : all_related (paths keys ++ []) ≡ true
    alone = ap all_related (append-nil (paths keys)) ∙ a

    by_key : (o : Option ℕ) → list_all (λ (i : GroupItem). all_related (paths keys ++ group_term_paths i.term)) (cons_option (option_map (λ (t : GroupTerm). record { name = v.name; term = t }) (option_map key o)) rest) ≡ true
    by_key None = r
    by_key (Some k) = ap₂ (λ x y. x && y) alone r

    by_term : (t : BoundTerm) → TermFits t → unrelated_in_term (passes keys) t ≡ []
        → list_all (λ (i : GroupItem). all_related (paths keys ++ group_term_paths i.term)) (cons_option (option_map (λ (t : GroupTerm). record { name = v.name; term = t }) (group_term keys t)) rest) ≡ true
    by_term (plain e) f u = by_key (key_of keys e.expression)
    by_term (rows_counted None) f u = ap₂ (λ x y. x && y) alone r
    by_term (rows_counted (Some w)) f u = r
    by_term (aggregated b e None) f u =
        ap₂ (λ x y. x && y) (ap all_related (ap (λ x. paths keys ++ x) (sym f) ∙ sym (map-append (λ (p : BoundPath). p.leaf.path) keys e.paths)) ∙ related_among (keys ++ e.paths) u) r
    by_term (aggregated b e (Some w)) f u = r

items_related : (keys : List BoundPath) (vs : List BoundItem) → all_related (paths keys) ≡ true → EachTerm vs → flat_map (λ (v : BoundItem). unrelated_in_term (passes keys) v.term) vs ≡ []
    → list_all (λ (i : GroupItem). all_related (paths keys ++ group_term_paths i.term)) (filter_map (group_item keys) vs) ≡ true
items_related keys [] a f u = refl
items_related keys (v ∷ vs) a f u =
    let k = both_empty (unrelated_in_term (passes keys) v.term) (flat_map (λ (v : BoundItem). unrelated_in_term (passes keys) v.term) vs) u in
    item_related keys v a f.0 k.0 (filter_map (group_item keys) vs) (items_related keys vs a f.1 k.1)

abbrev selection_of_kind : Bool → List BoundPath → List BoundItem → Selection
selection_of_kind b keys vs = if b then objects (filter_map record_item vs) else groups (paths keys) (filter_map (group_item keys) vs)

of_kind : (fs : Fields) (b : Bool) (keys : List BoundPath) (vs : List BoundItem) → list_all (is_leaf_path fs) (selection_values (selection_of_kind b keys vs)) ≡ true → all_related (paths keys) ≡ true → EachTerm vs
    → flat_map (λ (v : BoundItem). unrelated_in_term (passes keys) v.term) vs ≡ [] → is_mergeable_selection fs (selection_of_kind b keys vs) ≡ true
of_kind fs true keys vs l a f u = refl
of_kind fs false keys vs l a f u =
    let values : List (List Step) = flat_map (λ (i : GroupItem). group_term_paths i.term) (filter_map (group_item keys) vs) in
    let k = and_parts (list_all (is_leaf_path fs) (paths keys)) (list_all (is_leaf_path fs) values) (sym (list_all-append (is_leaf_path fs) (paths keys) values) ∙ l) in
    ap₂ (λ x y. x && y) (ap₂ (λ x y. x && y) k.0 a) (items_related keys vs a f u)

-- the faults of unrelated paths, where there are no faults
no_unrelated : (s : Schema) (q : QuerySyntax) → faults_of s q ≡ [] → unrelated_faults (bind_parts s.fields q) ≡ []
no_unrelated s q h =
    let k = both_empty _ _ h in
    let l = both_empty _ _ k.0 in
    let m = both_empty _ _ l.0 in
    m.1

pub bound_is_mergeable : BoundIsMergeable
bound_is_mergeable s q b h =
    let e = bound_is s q b h in
    let parts = bind_parts s.fields q in
    let f = no_faults_in parts (no_part_faults s q e.0).0 in
    let keys = passing parts.keys in
    let vs = passing parts.items in
    let a = both_empty _ _ (no_unrelated s q e.0) in
    let c = both_empty _ _ (both_empty _ _ a.0).0 in
    let p = all_pass parts.keys f.2 in
    let x : Query = query_of parts in
    let u = used_paths_are_leaves s q b h in
    let v : list_all (is_leaf_path s.fields) (used_paths x) ≡ true = subst (λ (y : Query). list_all (is_leaf_path s.fields) (used_paths y) ≡ true) (sym e.1) u in
    let w = and_parts (list_all (is_leaf_path s.fields) (condition_paths x.condition)) (list_all (is_leaf_path s.fields) (selection_values x.selection))
    (sym (list_all-append (is_leaf_path s.fields) (condition_paths x.condition) (selection_values x.selection)) ∙ v) in
    subst (λ (y : Query). is_mergeable s.fields y ≡ true) e.1
    (of_kind s.fields (is_record_syntax q) keys vs w.1 (related_among keys (ap (λ d. where_passed unrelated_among d) (sym p) ∙ a.1)) (each_term s.fields 0 q.items)
    (ap (λ d. flat_map (λ (i : BoundItem). unrelated_in_term d i.term) vs) (sym p) ∙ c.1))

-- ---- leaves

pub bound_leaves_are_enough : BoundLeavesAreEnough
unfolding query_leaves
bound_leaves_are_enough s q b h =
    let F = steps_of (in_reading_order s.fields (filter (λ (l : Leaf). list_any (same_path l.path) (used_paths b)) (leaves s.fields))) in
    paths-lead F s q b h (used_lead s.fields (used_paths b) (used_paths b) (used_leaf_paths s q b h) (λ p e. e))
