-- What binding tells of WITHIN, and of the items of an aggregate query.
use Rattle.std.proofs.Common.{◌≡◌, inl, inr, ℕ, zero, suc, List, [], ◌∷◌, map, Bool, true, false, Option, Some, None, refl, sym, ap, ap₂, ◌∙◌, subst, true≢false}
use Rattle.std.specs.Prelude.{if◌then◌else◌, option_map, is_some}
use Rattle.std.specs.List.{flat_map, list_all, slice_get, cons_option}
use Rattle.std.proofs.lemmas.Bool.{and_parts, and_from}
use Rattle.dr_meaning.specs.Schema.{Fields, Shape, leaf, group}
use Rattle.dr_meaning.specs.Path.{Step, Found, find_path, chain_end, begins_with, same_path}
use Rattle.dr_meaning.specs.Expression.{paths_of, longest_chain, expression_chain, negative as negative_expression, arithmetic as arithmetic_expression, comparison as comparison_expression, like as like_expression, contains as contains_expression, is_null as is_null_expression, negation as negation_expression, conjunction as conjunction_expression, disjunction as disjunction_expression}
use Rattle.dr_meaning.specs.Query.{Aggregate, key}
use Rattle.dr_meaning.specs.Syntax.{PathSyntax, ExpressionSyntax, number_literal, text_literal, truth_literal, path, negative, arithmetic, comparison, like, contains, is_null, negation, conjunction, disjunction, NodeSyntax, whole_record, node, WithinSyntax, TermSyntax, expression, count_rows, aggregate, ItemSyntax, QuerySyntax}
use Rattle.dr_meaning.specs.BoundExpression.{bad_within, not_grouped, fault_at, Checked, passes, fails, truth_type, number_type, text_type, type_from, null_test_type, logic_type, comparison_type, arithmetic_type, BoundPath, BoundExpression, bind_path, path_expression, bind_expression}
use Rattle.dr_meaning.specs.Binding.{BoundWithin, is_group_shape, is_repeated_group, found_node, bind_node, bind_within, argument_of, bind_argument, BoundTerm, plain, rows_counted, aggregated, bind_term, item_name, BoundItem, bind_item, bind_items, is_of_record, has_keys, is_record_syntax, if_passed, passing, holds_rows, within_faults, place_among, key_of, group_term, grouping_faults}
use Rattle.dr_query_laws.specs.BindingRules.{IsBrokenKey}
use Rattle.dr_query_laws.specs.QueryRules.{Passes, HasKey, steps_to, steps_of, paths_in, all_steps_in, IsRepeatedGroup, IsWhole, node_steps, HoldsRows, HasBadWithin, IsBadWithin, IsOverGroup, IsAggregateQuery, IsKey, StandsInGroup, IsNotGrouped}
use Rattle.dr_query_laws.proofs.RulesOfQueries.{Exact, ItemRule, of_key, same_some}
use Rattle.dr_query_laws.proofs.RulesOfPaths.{passes_as, fails_as, Told, told_none, told_one, told_as, ForSome, told_some, path_read, expression_read, steps_read, item_is, passing_told}
use Rattle.dr_query_laws.proofs.Earlier.{Member, not_all_member, member_not_all}
use Rattle.dr_query_laws.proofs.Relations.{expression_fits}
use Rattle.dr_query_laws.proofs.WrittenExpressions.{same_inside, one_passes, two_pass}
use Rattle.dr_query_laws.proofs.BoundItems.{mapped_passes, together_passes, then_passes, argument_same}

-- ---- the steps of an expression

pub expression_steps : (fs : Fields) (e : ExpressionSyntax) (b : BoundExpression) → bind_expression fs e ≡ passes b → paths_of b.expression ≡ all_steps_in fs e
expression_steps fs e b h = sym (expression_fits fs e b h) ∙ steps_read fs b.paths (paths_in e) (expression_read fs e b h)

pub argument_steps : (fs : Fields) (j : ℕ) (a : Aggregate) (e : ExpressionSyntax) (b : BoundExpression) → bind_argument fs j a e ≡ passes b → paths_of b.expression ≡ all_steps_in fs e
argument_steps fs j a e b h =
    let r = then_passes (argument_of a j) (bind_expression fs e) b h in
    subst (λ (x : BoundExpression). paths_of x.expression ≡ all_steps_in fs e) (argument_same a j r.0 b r.2) (expression_steps fs e r.0 r.1)

-- ---- nodes

group_from : (s : Shape) → is_group_shape s ≡ true → (inner : Fields) × (s ≡ group inner)
group_from (leaf k) h = absurd (true≢false (sym h))
group_from (group fs) h = (fs, refl)

whole_from : (f : Found) → is_repeated_group f ≡ true → IsRepeatedGroup f
whole_from f h = let k = and_parts (is_group_shape f.shape) (same_path (chain_end f.path) f.path) h in (group_from f.shape k.0, k.1)

whole_to : (f : Found) → IsRepeatedGroup f → is_repeated_group f ≡ true
whole_to f h = and_from (is_group_shape f.shape) (same_path (chain_end f.path) f.path) (ap is_group_shape h.0.1) h.1

-- a node's place and path, and whether it is whole
abbrev pub NodeIs : Fields → ℕ → NodeSyntax → Option BoundWithin → Type 0
NodeIs fs i n None = ⊥
NodeIs fs i n (Some v) = (v.place ≡ i) × (v.node ≡ node_steps fs n) × (v.is_whole ≡ true → IsWhole fs n) × (IsWhole fs n → v.is_whole ≡ true)

node_is : (fs : Fields) (i : ℕ) (n : NodeSyntax) (v : Option BoundWithin) → bind_node fs i n ≡ passes v → NodeIs fs i n v
node_is fs i whole_record v h = subst (NodeIs fs i whole_record) (same_inside (Some (record { place = i; node = []; is_whole = true })) v h) (refl, refl, (λ k. tt), (λ k. refl))
node_is fs i (node x) v h = by_found (find_path x.names fs) refl h
  where
    by_found : (o : Option Found) → find_path x.names fs ≡ o → found_node i x.place o ≡ passes v → NodeIs fs i (node x) v
    by_found None e k = absurd (cc)
    by_found (Some f) e k =
        subst (NodeIs fs i (node x)) (same_inside (Some (record { place = i; node = f.path; is_whole = is_repeated_group f })) v k) (refl, sym (ap steps_to e), (λ w. (f, e, whole_from f w)), back)
      where
        back : IsWhole fs (node x) → is_repeated_group f ≡ true
        back w = whole_to f (subst IsRepeatedGroup (same_some w.0 f (sym w.1 ∙ e)) w.2)

abbrev pub WithinIs : Fields → Option WithinSyntax → Option BoundWithin → Type 0
WithinIs fs None None = Unit {0}
WithinIs fs None (Some v) = ⊥
WithinIs fs (Some w) v = NodeIs fs w.place w.node v

pub within_is : (fs : Fields) (o : Option WithinSyntax) (v : Option BoundWithin) → bind_within fs o ≡ passes v → WithinIs fs o v
within_is fs None v h = subst (WithinIs fs None) (same_inside None v h) tt
within_is fs (Some w) v h = node_is fs w.place w.node v h

-- ---- the rule of WITHIN

nothing : {A : Type 0} (a : A) → ◌≡◌ {A = Option A} None (Some a) → ⊥
nothing a h = absurd (cc)

rows_told : (fs : Fields) (o : Option WithinSyntax) (v : Option BoundWithin) → WithinIs fs o v → Exact (Told bad_within (HasBadWithin fs (count_rows o))) (within_faults (rows_counted v))
rows_told fs None None h = told_none bad_within _ (λ i m. nothing m.0 m.1)
rows_told fs None (Some v) h = absurd h
rows_told fs (Some w) None h = absurd h
rows_told fs (Some w) (Some v) h = told_one bad_within _ v.place (w, refl, sym h.0) (λ i m. h.0 ∙ ap (λ (x : WithinSyntax). x.place) (same_some w m.0 m.1) ∙ m.2)

holds_from : (fs : Fields) (w : WithinSyntax) (v : BoundWithin) (e : ExpressionSyntax) (b : BoundExpression) → NodeIs fs w.place w.node (Some v) → paths_of b.expression ≡ all_steps_in fs e
    → holds_rows b.expression v ≡ true → HoldsRows fs w.node e
holds_from fs w v e b n s h =
    let k = and_parts v.is_whole (begins_with v.node (expression_chain b.expression)) h in
    (n.2 k.0, sym (ap₂ (λ p ps. begins_with p (longest_chain ps)) n.1 s) ∙ k.1)

holds_to : (fs : Fields) (w : WithinSyntax) (v : BoundWithin) (e : ExpressionSyntax) (b : BoundExpression) → NodeIs fs w.place w.node (Some v) → paths_of b.expression ≡ all_steps_in fs e
    → HoldsRows fs w.node e → holds_rows b.expression v ≡ true
holds_to fs w v e b n s h = and_from v.is_whole (begins_with v.node (expression_chain b.expression)) (n.3 h.0) (ap₂ (λ p ps. begins_with p (longest_chain ps)) n.1 s ∙ h.1)

argument_told : (fs : Fields) (a : Aggregate) (e : ExpressionSyntax) (b : BoundExpression) (o : Option WithinSyntax) (v : Option BoundWithin) → paths_of b.expression ≡ all_steps_in fs e → WithinIs fs o v
    → Exact (Told bad_within (HasBadWithin fs (aggregate a e o))) (within_faults (aggregated a b v))
argument_told fs a e b None None s h = told_none bad_within _ (λ i m. nothing m.0 m.1)
argument_told fs a e b None (Some v) s h = absurd h
argument_told fs a e b (Some w) None s h = absurd h
argument_told fs a e b (Some w) (Some v) s h = by_test (holds_rows b.expression v) refl
  where
    by_test : (t : Bool) → holds_rows b.expression v ≡ t → Exact (Told bad_within (HasBadWithin fs (aggregate a e (Some w)))) (if t then [] else fault_at v.place bad_within)
    by_test true t = told_none bad_within _ (λ i m. m.3 (subst (λ (x : WithinSyntax). HoldsRows fs x.node e) (same_some w m.0 m.1) (holds_from fs w v e b h s t)))
    by_test false t = told_one bad_within _ v.place (w, refl, sym h.0, λ k. true≢false (sym (holds_to fs w v e b h s k) ∙ t)) (λ i m. h.0 ∙ ap (λ (x : WithinSyntax). x.place) (same_some w m.0 m.1) ∙ m.2)

within_told : (fs : Fields) (j : ℕ) (t : TermSyntax) (c : BoundTerm) → bind_term fs j t ≡ passes c → Exact (Told bad_within (HasBadWithin fs t)) (within_faults c)
within_told fs j (expression e) c h =
    let q = mapped_passes plain (bind_expression fs e) c h in
    subst (λ x. Exact (Told bad_within (HasBadWithin fs (expression e))) (within_faults x)) q.2 (told_none bad_within _ (λ i m. m))
within_told fs j (count_rows o) c h =
    let q = mapped_passes rows_counted (bind_within fs o) c h in
    subst (λ x. Exact (Told bad_within (HasBadWithin fs (count_rows o))) (within_faults x)) q.2 (rows_told fs o q.0 (within_is fs o q.0 q.1))
within_told fs j (aggregate a e o) c h =
    let q = together_passes (aggregated a) (bind_argument fs j a e) (bind_within fs o) c h in
    subst (λ x. Exact (Told bad_within (HasBadWithin fs (aggregate a e o))) (within_faults x)) q.4 (argument_told fs a e q.0 o q.1 (argument_steps fs j a e q.0 q.2) (within_is fs o q.1 q.3))

pub withins_told : (fs : Fields) (q : QuerySyntax) → Exact (Told bad_within (IsBadWithin fs q)) (flat_map (λ (v : BoundItem). within_faults v.term) (passing (bind_items fs 0 q.items)))
withins_told fs q =
    told_as bad_within (ForSome (λ x i. Passes (ItemRule fs x) × HasBadWithin fs x.term i) q.items) (IsBadWithin fs q) _ (λ i m. (m.0, m.1, (m.2, m.3.0), m.3.1)) (λ i m. (m.0, m.1, m.2.0, (m.2.1, m.3)))
    (told_some bad_within _ q.items _ (passing_told fs bad_within (λ x i. HasBadWithin fs x.term i) (λ (v : BoundItem). within_faults v.term) each 0 q.items))
  where
    each : (n : ℕ) (x : ItemSyntax) (v : BoundItem) → bind_item fs n x ≡ passes v → Exact (Told bad_within (HasBadWithin fs x.term)) (within_faults v.term)
    each n x v h = let t = item_is fs n x v h in
        subst (λ (y : BoundItem). Exact (Told bad_within (HasBadWithin fs x.term)) (within_faults y.term)) t.2 (within_told fs x.place x.term t.0 t.1)

-- ---- aggregate queries

member_at : {A : Type 0} (xs : List A) (x : A) → Member x xs → (n : ℕ) × (slice_get xs n ≡ Some x)
member_at [] x m = absurd m
member_at (y ∷ ys) x (inl e) = (0, ap Some e)
member_at (y ∷ ys) x (inr m) = let k = member_at ys x m in (suc k.0, k.1)

at_member : {A : Type 0} (xs : List A) (n : ℕ) (x : A) → slice_get xs n ≡ Some x → Member x xs
at_member [] n x h = absurd (cc)
at_member (y ∷ ys) zero x h = inl (same_some y x h)
at_member (y ∷ ys) (suc n) x h = inr (at_member ys n x h)

is_none : {A : Type 0} (o : Option A) → is_some o ≡ false → o ≡ None
is_none None h = refl
is_none (Some a) h = absurd (true≢false h)

over_from : (t : TermSyntax) → is_of_record t ≡ false → IsOverGroup t
over_from (expression e) h = absurd (true≢false h)
over_from (count_rows w) h = is_none w h
over_from (aggregate a e w) h = is_none w h

over_to : (t : TermSyntax) → IsOverGroup t → is_of_record t ≡ false
over_to (expression e) h = absurd h
over_to (count_rows w) h = ap is_some h
over_to (aggregate a e w) h = ap is_some h

abbrev stands_in_record : ItemSyntax → Bool
stands_in_record x = is_of_record x.term

pub is_aggregate : (q : QuerySyntax) → is_record_syntax q ≡ false → IsAggregateQuery q
is_aggregate q h = by_keys q.keys refl h
  where
    by_keys : (ks : List PathSyntax) → q.keys ≡ ks → (if has_keys ks then false else list_all stands_in_record q.items) ≡ false → IsAggregateQuery q
    by_keys (k ∷ ks) e g = inl other
      where
        other : q.keys ≡ [] → ⊥
        other z = let both : (k ∷ ks) ≡ [] = sym e ∙ z in absurd (cc)
    by_keys [] e g =
        let m = not_all_member stands_in_record q.items g in
        let n = member_at q.items m.0 m.1 in
        inr (n.0, m.0, n.1, over_from m.0.term m.2)

pub is_no_aggregate : (q : QuerySyntax) → is_record_syntax q ≡ true → IsAggregateQuery q → ⊥
is_no_aggregate q h m = by_keys q.keys refl h m
  where
    by_keys : (ks : List PathSyntax) → q.keys ≡ ks → (if has_keys ks then false else list_all stands_in_record q.items) ≡ true → IsAggregateQuery q → ⊥
    by_keys (k ∷ ks) e g n = absurd (true≢false (sym g))
    by_keys [] e g (inl n) = n e
    by_keys [] e g (inr (n, x, at, o)) = true≢false (sym g ∙ member_not_all stands_in_record q.items x (at_member q.items n x at) (over_to x.term o))

-- ---- keys

some_map : {A B : Type 0} (f : A → B) (o : Option A) → is_some (option_map f o) ≡ is_some o
some_map f None = refl
some_map f (Some a) = refl

abbrev passing_keys : Fields → List PathSyntax → List BoundPath
passing_keys fs ks = passing (map (bind_path fs) ks)

abbrev LeadsAsKey : Fields → List PathSyntax → List Step → Type 0
LeadsAsKey fs ks p = (n : ℕ) × (k : PathSyntax) × HasKey fs ks n k × (same_path (steps_of fs k) p ≡ true)

key_steps : (fs : Fields) (k : PathSyntax) (b : BoundPath) → bind_path fs k ≡ passes b → b.leaf.path ≡ steps_of fs k
key_steps fs k b e = ap (λ (m : ℕ × List Step). m.1) (path_read fs k b e)

key_found : (fs : Fields) (ks : List PathSyntax) (p : List Step) → is_some (place_among (passing_keys fs ks) p) ≡ true → LeadsAsKey fs ks p
key_found fs [] p h = absurd (true≢false (sym h))
key_found fs (k ∷ ks) p h = by_outcome (bind_path fs k) refl h (key_found fs ks p)
  where
    more : LeadsAsKey fs ks p → LeadsAsKey fs (k ∷ ks) p
    more m = (suc m.0, m.1, m.2, m.3)

    by_outcome : (c : Checked BoundPath) → bind_path fs k ≡ c → is_some (place_among (cons_option (if_passed c) (passing_keys fs ks)) p) ≡ true
        → (is_some (place_among (passing_keys fs ks) p) ≡ true → LeadsAsKey fs ks p) → LeadsAsKey fs (k ∷ ks) p
    by_outcome (fails f fs') e g r = more (r g)
    by_outcome (passes b) e g r = by_test (same_path b.leaf.path p) refl g
      where
        by_test : (t : Bool) → same_path b.leaf.path p ≡ t → is_some (if t then Some 0 else option_map (λ i. suc i) (place_among (passing_keys fs ks) p)) ≡ true → LeadsAsKey fs (k ∷ ks) p
        by_test true t z = (0, k, (refl, passes_as (IsBrokenKey fs k) (bind_path fs k) b (of_key fs k) e), subst (λ y. same_path y p ≡ true) (key_steps fs k b e) t)
        by_test false t z = more (r (sym (some_map (λ i. suc i) (place_among (passing_keys fs ks) p)) ∙ z))

key_leads : (fs : Fields) (ks : List PathSyntax) (p : List Step) (n : ℕ) (x : PathSyntax) → HasKey fs ks n x → same_path (steps_of fs x) p ≡ true → is_some (place_among (passing_keys fs ks) p) ≡ true
key_leads fs [] p n x h s = let e = h.0 in absurd (cc)
key_leads fs (k ∷ ks) p zero x h s = by_outcome (bind_path fs k) refl
  where
    same : k ≡ x
    same = same_some k x h.0

    by_outcome : (c : Checked BoundPath) → bind_path fs k ≡ c → is_some (place_among (cons_option (if_passed c) (passing_keys fs ks)) p) ≡ true
    by_outcome (fails f fs') e = absurd (fails_as (IsBrokenKey fs k) (bind_path fs k) f fs' (of_key fs k) e (subst (λ (y : PathSyntax). Passes (IsBrokenKey fs y)) (sym same) h.1))
    by_outcome (passes b) e =
        ap (λ t. is_some (if t then Some 0 else option_map (λ i. suc i) (place_among (passing_keys fs ks) p)))
        (ap (λ y. same_path y p) (key_steps fs k b e ∙ ap (steps_of fs) same) ∙ s)
key_leads fs (k ∷ ks) p (suc n) x h s = by_outcome (bind_path fs k) (key_leads fs ks p n x h s)
  where
    by_test : (t : Bool) → is_some (place_among (passing_keys fs ks) p) ≡ true → is_some (if t then Some 0 else option_map (λ i. suc i) (place_among (passing_keys fs ks) p)) ≡ true
    by_test true r = refl
    by_test false r = some_map (λ i. suc i) (place_among (passing_keys fs ks) p) ∙ r

    by_outcome : (c : Checked BoundPath) → is_some (place_among (passing_keys fs ks) p) ≡ true → is_some (place_among (cons_option (if_passed c) (passing_keys fs ks)) p) ≡ true
    by_outcome (fails f fs') r = r
    by_outcome (passes b) r = by_test (same_path b.leaf.path p) r

-- ---- what stands in a group

abbrev Both : Type 0 → Type 0 → Type 0
Both A B = (A → B) × (B → A)

no_key : (fs : Fields) (ks : List PathSyntax) (b : BoundExpression) → key_of (passing_keys fs ks) b.expression ≡ None → Both (is_some (key_of (passing_keys fs ks) b.expression) ≡ true) ⊥
no_key fs ks b e = (λ h. true≢false (sym h ∙ ap is_some e), λ m. absurd m)

key_told : (fs : Fields) (ks : List PathSyntax) (e : ExpressionSyntax) (b : BoundExpression) → bind_expression fs e ≡ passes b → Both (is_some (key_of (passing_keys fs ks) b.expression) ≡ true) (IsKey fs ks e)
key_told fs ks (number_literal n) b h = no_key fs ks b (subst (λ (x : BoundExpression). key_of (passing_keys fs ks) x.expression ≡ None) (same_inside _ b h) refl)
key_told fs ks (text_literal t) b h = no_key fs ks b (subst (λ (x : BoundExpression). key_of (passing_keys fs ks) x.expression ≡ None) (same_inside _ b h) refl)
key_told fs ks (truth_literal v) b h = no_key fs ks b (subst (λ (x : BoundExpression). key_of (passing_keys fs ks) x.expression ≡ None) (same_inside _ b h) refl)
key_told fs ks (path x) b h =
    let q = mapped_passes path_expression (bind_path fs x) b h in
    subst (λ (y : BoundExpression). Both (is_some (key_of (passing_keys fs ks) y.expression) ≡ true) (IsKey fs ks (path x))) q.2
    (subst (λ p. Both (is_some (place_among (passing_keys fs ks) p) ≡ true) (IsKey fs ks (path x))) (sym (key_steps fs x q.0 q.1))
    ((λ k. key_found fs ks (steps_of fs x) k), λ m. key_leads fs ks (steps_of fs x) m.0 m.1 m.2 m.3))
key_told fs ks (negative i e) b h = no_key fs ks b (subst (λ (x : BoundExpression). key_of (passing_keys fs ks) x.expression ≡ None) (one_passes i (type_from number_type number_type) negative_expression (bind_expression fs e) b h).4 refl)
key_told fs ks (arithmetic i o x y) b h = no_key fs ks b (subst (λ (x : BoundExpression). key_of (passing_keys fs ks) x.expression ≡ None) (two_pass i (arithmetic_type o) (arithmetic_expression o) (bind_expression fs x) (bind_expression fs y) b h).6 refl)
key_told fs ks (comparison i c x y) b h = no_key fs ks b (subst (λ (x : BoundExpression). key_of (passing_keys fs ks) x.expression ≡ None) (two_pass i comparison_type (comparison_expression c) (bind_expression fs x) (bind_expression fs y) b h).6 refl)
key_told fs ks (like i e t) b h = no_key fs ks b (subst (λ (x : BoundExpression). key_of (passing_keys fs ks) x.expression ≡ None) (one_passes i (type_from text_type truth_type) (λ x. like_expression x t) (bind_expression fs e) b h).4 refl)
key_told fs ks (contains i e t) b h = no_key fs ks b (subst (λ (x : BoundExpression). key_of (passing_keys fs ks) x.expression ≡ None) (one_passes i (type_from text_type truth_type) (λ x. contains_expression x t) (bind_expression fs e) b h).4 refl)
key_told fs ks (is_null i e) b h = no_key fs ks b (subst (λ (x : BoundExpression). key_of (passing_keys fs ks) x.expression ≡ None) (one_passes i null_test_type is_null_expression (bind_expression fs e) b h).4 refl)
key_told fs ks (negation i e) b h = no_key fs ks b (subst (λ (x : BoundExpression). key_of (passing_keys fs ks) x.expression ≡ None) (one_passes i (type_from truth_type truth_type) negation_expression (bind_expression fs e) b h).4 refl)
key_told fs ks (conjunction i x y) b h = no_key fs ks b (subst (λ (x : BoundExpression). key_of (passing_keys fs ks) x.expression ≡ None) (two_pass i logic_type conjunction_expression (bind_expression fs x) (bind_expression fs y) b h).6 refl)
key_told fs ks (disjunction i x y) b h = no_key fs ks b (subst (λ (x : BoundExpression). key_of (passing_keys fs ks) x.expression ≡ None) (two_pass i logic_type disjunction_expression (bind_expression fs x) (bind_expression fs y) b h).6 refl)

some_is : {A : Type 0} (a : A) → ◌≡◌ {A = Option A} (Some a) None → ⊥
some_is a h = absurd (cc)

rows_stand : (fs : Fields) (keys : List BoundPath) (w : Option WithinSyntax) (v : Option BoundWithin) → WithinIs fs w v → Both (is_some (group_term keys (rows_counted v)) ≡ true) (w ≡ None)
rows_stand fs keys None None h = ((λ k. refl), λ m. refl)
rows_stand fs keys None (Some v) h = absurd h
rows_stand fs keys (Some w) None h = absurd h
rows_stand fs keys (Some w) (Some v) h = ((λ k. absurd (true≢false (sym k))), λ m. absurd (some_is w m))

aggregate_stands : (fs : Fields) (keys : List BoundPath) (a : Aggregate) (b : BoundExpression) (w : Option WithinSyntax) (v : Option BoundWithin) → WithinIs fs w v
    → Both (is_some (group_term keys (aggregated a b v)) ≡ true) (w ≡ None)
aggregate_stands fs keys a b None None h = ((λ k. refl), λ m. refl)
aggregate_stands fs keys a b None (Some v) h = absurd h
aggregate_stands fs keys a b (Some w) None h = absurd h
aggregate_stands fs keys a b (Some w) (Some v) h = ((λ k. absurd (true≢false (sym k))), λ m. absurd (some_is w m))

stands_told : (fs : Fields) (ks : List PathSyntax) (j : ℕ) (t : TermSyntax) (c : BoundTerm) → bind_term fs j t ≡ passes c → Both (is_some (group_term (passing_keys fs ks) c) ≡ true) (StandsInGroup fs ks t)
stands_told fs ks j (expression e) c h =
    let q = mapped_passes plain (bind_expression fs e) c h in
    let k = key_told fs ks e q.0 q.1 in
    let s : is_some (group_term (passing_keys fs ks) (plain q.0)) ≡ is_some (key_of (passing_keys fs ks) q.0.expression) = some_map key (key_of (passing_keys fs ks) q.0.expression) in
    subst (λ x. Both (is_some (group_term (passing_keys fs ks) x) ≡ true) (IsKey fs ks e)) q.2 ((λ u. k.0 (sym s ∙ u)), λ m. s ∙ k.1 m)
stands_told fs ks j (count_rows w) c h =
    let q = mapped_passes rows_counted (bind_within fs w) c h in
    subst (λ x. Both (is_some (group_term (passing_keys fs ks) x) ≡ true) (w ≡ None)) q.2 (rows_stand fs (passing_keys fs ks) w q.0 (within_is fs w q.0 q.1))
stands_told fs ks j (aggregate a e w) c h =
    let q = together_passes (aggregated a) (bind_argument fs j a e) (bind_within fs w) c h in
    subst (λ x. Both (is_some (group_term (passing_keys fs ks) x) ≡ true) (w ≡ None)) q.4 (aggregate_stands fs (passing_keys fs ks) a q.0 w q.1 (within_is fs w q.1 q.3))

-- ---- the rule of aggregate queries

abbrev Ungrouped : Fields → List PathSyntax → ItemSyntax → ℕ → Type 0
Ungrouped fs ks x i = (x.place ≡ i) × (StandsInGroup fs ks x.term → ⊥)

each_told : (fs : Fields) (ks : List PathSyntax) (n : ℕ) (x : ItemSyntax) (v : BoundItem) → bind_item fs n x ≡ passes v → Exact (Told not_grouped (Ungrouped fs ks x)) (grouping_faults (passing_keys fs ks) v)
each_told fs ks n x v h =
    let t = item_is fs n x v h in
    subst (λ y. Exact (Told not_grouped (Ungrouped fs ks x)) (grouping_faults (passing_keys fs ks) y)) t.2 (by_term t.0 (stands_told fs ks x.place x.term t.0 t.1))
  where
    by_term : (c : BoundTerm) → Both (is_some (group_term (passing_keys fs ks) c) ≡ true) (StandsInGroup fs ks x.term)
        → Exact (Told not_grouped (Ungrouped fs ks x)) (grouping_faults (passing_keys fs ks) (record { place = x.place; name = item_name n x.term x.name; term = c }))
    by_term c s = by_test (is_some (group_term (passing_keys fs ks) c)) refl
      where
        by_test : (b : Bool) → is_some (group_term (passing_keys fs ks) c) ≡ b → Exact (Told not_grouped (Ungrouped fs ks x)) (if b then [] else fault_at x.place not_grouped)
        by_test true e = told_none not_grouped _ (λ i m. m.1 (s.0 e))
        by_test false e = told_one not_grouped _ x.place (refl, λ m. true≢false (sym (s.1 m) ∙ e)) (λ i m. m.0)

pub grouping_told : (fs : Fields) (q : QuerySyntax)
    → Exact (Told not_grouped (IsNotGrouped fs q)) (if is_record_syntax q then [] else flat_map (grouping_faults (passing_keys fs q.keys)) (passing (bind_items fs 0 q.items)))
grouping_told fs q = by_kind (is_record_syntax q) refl
  where
    by_kind : (b : Bool) → is_record_syntax q ≡ b → Exact (Told not_grouped (IsNotGrouped fs q)) (if b then [] else flat_map (grouping_faults (passing_keys fs q.keys)) (passing (bind_items fs 0 q.items)))
    by_kind true e = told_none not_grouped _ (λ i m. is_no_aggregate q e m.0)
    by_kind false e =
        told_as not_grouped (ForSome (λ x i. Passes (ItemRule fs x) × Ungrouped fs q.keys x i) q.items) (IsNotGrouped fs q) _ (λ i m. (is_aggregate q e, (m.0, m.1, (m.2, m.3.0), m.3.1.0, m.3.1.1)))
        (λ i m. (m.1.0, m.1.1, m.1.2.0, (m.1.2.1, (m.1.3, m.1.4))))
        (told_some not_grouped _ q.items _ (passing_told fs not_grouped (Ungrouped fs q.keys) (grouping_faults (passing_keys fs q.keys)) (each_told fs q.keys) 0 q.items))
