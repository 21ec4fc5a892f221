-- What binding a query tells of its table, its paths and its operators: just the rules that are broken.
use Rattle.std.proofs.Common.{◌≡◌, ◌⊎◌, inl, inr, ℕ, zero, suc, List, [], ◌∷◌, ◌++◌, map, Bool, true, false, Option, Some, None, refl, sym, ap, ap₂, ◌∙◌, subst, append-nil, true≢false}
use Rattle.std.specs.Prelude.{◌≢◌, if◌then◌else◌, bytes_eq}
use Rattle.std.specs.List.{flat_map, slice_get}
use Rattle.std.proofs.lemmas.Slice.Eq.{bytes_eq-Decides}
use Rattle.dr_meaning.specs.Schema.{Schema, Fields}
use Rattle.dr_meaning.specs.Path.{Found, find_path}
use Rattle.dr_meaning.specs.Query.{Aggregate, count, sum, least, greatest}
use Rattle.dr_meaning.specs.Syntax.{PathSyntax, ExpressionSyntax, number_literal, text_literal, truth_literal, path, negative, arithmetic, comparison, like, contains, is_null, negation, conjunction, disjunction, NodeSyntax, whole_record, node, WithinSyntax, TermSyntax, expression, count_rows, aggregate, ItemSyntax, ConditionSyntax, QuerySyntax}
use Rattle.dr_meaning.specs.BoundExpression.{BindProblem, unknown_table, unknown_field, type_mismatch, BindFault, fault_at, Checked, passes, fails, checked_map, then_check, together, ValueType, truth_type, number_type, text_type, same_type, BoundPath, BoundExpression, bind_path, bind_expression, of_type}
use Rattle.dr_meaning.specs.Binding.{bind_condition, found_node, bind_node, bind_within, plain, rows_counted, aggregated, bind_argument, bind_term, bind_item, bind_items, bind_parts, faults_in, table_faults, part_faults}
use Rattle.dr_query_laws.specs.BindingRules.{HasType, IsPathProblem, IsBrokenIn, IsOtherType, IsBrokenCondition, IsBrokenNode, IsBrokenWithin, IsBrokenArgument, IsBrokenTerm, IsBrokenKey, IsBrokenPart, IsUnknownTable}
use Rattle.dr_query_laws.proofs.RulesOfExpressions.{Among, among_left, among_right, among_either, Rule, Tells, PathTells, path_told, expression_told}

-- ---- faults that are just the broken rules

abbrev pub At : ℕ → BindProblem → BindFault
At i p = record { place = i; problem = p }

abbrev pub Exact : Rule → List BindFault → Type 0
Exact R fs = ((f : BindFault) → Among f fs → R f.problem f.place) × ((p : BindProblem) (i : ℕ) → R p i → Among (At i p) fs)

pub exact_append : (R S : Rule) (fs gs : List BindFault) → Exact R fs → Exact S gs → Exact (λ p i. R p i ⊎ S p i) (fs ++ gs)
exact_append R S fs gs h k = (λ f m. by_part f (among_either f fs gs m), told)
  where
    by_part : (f : BindFault) → Among f fs ⊎ Among f gs → R f.problem f.place ⊎ S f.problem f.place
    by_part f (inl m) = inl (h.0 f m)
    by_part f (inr m) = inr (k.0 f m)

    told : (p : BindProblem) (i : ℕ) → R p i ⊎ S p i → Among (At i p) (fs ++ gs)
    told p i (inl m) = among_left (At i p) fs gs (h.1 p i m)
    told p i (inr m) = among_right (At i p) fs gs (k.1 p i m)

pub exact_none : (R : Rule) → ((p : BindProblem) (i : ℕ) → R p i → ⊥) → Exact R []
exact_none R h = (λ f m. absurd m, h)

pub exact_as : (R S : Rule) (fs : List BindFault) → ((p : BindProblem) (i : ℕ) → R p i → S p i) → ((p : BindProblem) (i : ℕ) → S p i → R p i) → Exact R fs → Exact S fs
exact_as R S fs to back h = (λ f m. to f.problem f.place (h.0 f m), λ p i m. h.1 p i (back p i m))

pub one_fault : (j : ℕ) (q : BindProblem) (R : Rule) → R q j → ((p : BindProblem) (i : ℕ) → R p i → (j ≡ i) × (p ≡ q)) → Exact R (fault_at j q)
one_fault j q R h only = (here, λ p i m. let k = only p i m in inl (ap₂ At k.0 (sym k.1)))
  where
    here : (f : BindFault) → Among f (fault_at j q) → R f.problem f.place
    here f (inl e) = subst (λ (x : BindFault). R x.problem x.place) e h
    here f (inr m) = absurd m

pub of_expression : (Has : ValueType → Type 0) (B : Rule) (c : Checked BoundExpression) → Tells Has B c → Exact B (faults_in c)
of_expression Has B (passes b) h = exact_none B h.2
of_expression Has B (fails e es) h = (h.1, h.2)

-- ---- wanted types

same_types : (t u : ValueType) → same_type t u ≡ true → t ≡ u
same_types truth_type truth_type h = refl
same_types number_type number_type h = refl
same_types text_type text_type h = refl
same_types truth_type number_type h = absurd (true≢false (sym h))
same_types truth_type text_type h = absurd (true≢false (sym h))
same_types number_type truth_type h = absurd (true≢false (sym h))
same_types number_type text_type h = absurd (true≢false (sym h))
same_types text_type truth_type h = absurd (true≢false (sym h))
same_types text_type number_type h = absurd (true≢false (sym h))

itself : (t : ValueType) → same_type t t ≡ true
itself truth_type = refl
itself number_type = refl
itself text_type = refl

other_types : (t u : ValueType) → same_type t u ≡ false → t ≢ u
other_types t u h e = true≢false (sym (ap (λ x. same_type t x) (sym e) ∙ itself t) ∙ h)

of_wanted : (wanted : ValueType) (j : ℕ) (Has : ValueType → Type 0) (B : Rule) (c : Checked BoundExpression) → Tells Has B c
    → Exact (λ p i. B p i ⊎ IsOtherType wanted j Has p i) (faults_in (then_check (of_type wanted j) c))
of_wanted wanted j Has B (fails e es) h = (λ f m. inl (h.1 f m), told)
  where
    told : (p : BindProblem) (i : ℕ) → B p i ⊎ IsOtherType wanted j Has p i → Among (At i p) (e ∷ es)
    told p i (inl m) = h.2 p i m
    told p i (inr m) = absurd (h.0 m.2 m.3)
of_wanted wanted j Has B (passes b) h = by_test (same_type b.gives wanted) refl
  where
    by_test : (t : Bool) → same_type b.gives wanted ≡ t → Exact (λ p i. B p i ⊎ IsOtherType wanted j Has p i) (faults_in (if t then passes b else fails (At j type_mismatch) []))
    by_test true e = exact_none _ none
      where
        none : (p : BindProblem) (i : ℕ) → B p i ⊎ IsOtherType wanted j Has p i → ⊥
        none p i (inl m) = h.2 p i m
        none p i (inr m) = m.4 (h.1 m.2 m.3 ∙ same_types b.gives wanted e)
    by_test false e = one_fault j type_mismatch _ (inr (refl, refl, b.gives, h.0, other_types b.gives wanted e)) only
      where
        only : (p : BindProblem) (i : ℕ) → B p i ⊎ IsOtherType wanted j Has p i → (j ≡ i) × (p ≡ type_mismatch)
        only p i (inl m) = absurd (h.2 p i m)
        only p i (inr m) = (m.0, m.1)

-- ---- the condition, items and keys

pub mapped_faults : {A B : Type 0} (f : A → B) (c : Checked A) → faults_in (checked_map f c) ≡ faults_in c
mapped_faults f (passes a) = refl
mapped_faults f (fails e es) = refl

pub together_faults : {A B C : Type 0} (f : A → B → C) (c : Checked A) (d : Checked B) → faults_in (together f c d) ≡ faults_in c ++ faults_in d
together_faults f (passes a) (passes b) = refl
together_faults f (passes a) (fails g gs) = refl
together_faults f (fails e es) (passes b) = sym (append-nil (e ∷ es))
together_faults f (fails e es) (fails g gs) = refl

abbrev pub ConditionRule : Fields → Option ConditionSyntax → Rule
ConditionRule fs o p i = (c : ConditionSyntax) × (o ≡ Some c) × IsBrokenCondition fs c p i

pub same_some : {A : Type 0} (a b : A) → Some a ≡ Some b → a ≡ b
same_some a b h = cc

pub of_condition : (fs : Fields) (o : Option ConditionSyntax) → Exact (ConditionRule fs o) (faults_in (bind_condition fs o))
of_condition fs None = exact_none _ (λ p i m. absurd (nothing m.0 m.1))
  where
    nothing : (c : ConditionSyntax) → ◌≡◌ {A = Option ConditionSyntax} None (Some c) → ⊥
    nothing c h = absurd (cc)
of_condition fs (Some c) =
    subst (Exact (ConditionRule fs (Some c))) (sym (mapped_faults _ (then_check (of_type truth_type c.place) (bind_expression fs c.expression))))
    (exact_as (IsBrokenCondition fs c) (ConditionRule fs (Some c)) (faults_in (then_check (of_type truth_type c.place) (bind_expression fs c.expression))) (λ p i m. (c, refl, m))
    (λ p i m. subst (λ (x : ConditionSyntax). IsBrokenCondition fs x p i) (sym (same_some c m.0 m.1)) m.2)
    (of_wanted truth_type c.place (HasType fs c.expression) (IsBrokenIn fs c.expression) (bind_expression fs c.expression) (expression_told fs c.expression)))

of_node : (fs : Fields) (i : ℕ) (n : NodeSyntax) → Exact (IsBrokenNode fs n) (faults_in (bind_node fs i n))
of_node fs i whole_record = exact_none _ (λ p k m. m)
of_node fs i (node x) = by_found (find_path x.names fs) refl
  where
    by_found : (o : Option Found) → find_path x.names fs ≡ o → Exact (IsBrokenNode fs (node x)) (faults_in (found_node i x.place o))
    by_found None e = one_fault x.place unknown_field _ (refl, refl, e) (λ p k m. (m.0, m.1))
    by_found (Some f) e = exact_none _ (λ p k m. absurd (nothing (sym m.2 ∙ e)))
      where
        nothing : ◌≡◌ {A = Option Found} None (Some f) → ⊥
        nothing h = absurd (cc)

pub of_within : (fs : Fields) (o : Option WithinSyntax) → Exact (IsBrokenWithin fs o) (faults_in (bind_within fs o))
of_within fs None = exact_none _ (λ p i m. m)
of_within fs (Some w) = of_node fs w.place w.node

of_plain_argument : (fs : Fields) (e : ExpressionSyntax) → Exact (IsBrokenIn fs e) (faults_in (then_check (λ (b : BoundExpression). passes b) (bind_expression fs e)))
of_plain_argument fs e = by_outcome (bind_expression fs e) (expression_told fs e)
  where
    by_outcome : (c : Checked BoundExpression) → Tells (HasType fs e) (IsBrokenIn fs e) c → Exact (IsBrokenIn fs e) (faults_in (then_check (λ (b : BoundExpression). passes b) c))
    by_outcome (passes b) h = exact_none _ h.2
    by_outcome (fails f fs') h = (h.1, h.2)

pub of_argument : (fs : Fields) (j : ℕ) (a : Aggregate) (e : ExpressionSyntax) → Exact (IsBrokenArgument fs j a e) (faults_in (bind_argument fs j a e))
of_argument fs j sum e = of_wanted number_type j (HasType fs e) (IsBrokenIn fs e) (bind_expression fs e) (expression_told fs e)
of_argument fs j count e = of_plain_argument fs e
of_argument fs j least e = of_plain_argument fs e
of_argument fs j greatest e = of_plain_argument fs e

pub of_term : (fs : Fields) (j : ℕ) (t : TermSyntax) → Exact (IsBrokenTerm fs j t) (faults_in (bind_term fs j t))
of_term fs j (expression e) = subst (Exact (IsBrokenIn fs e)) (sym (mapped_faults plain (bind_expression fs e))) (of_expression (HasType fs e) (IsBrokenIn fs e) (bind_expression fs e) (expression_told fs e))
of_term fs j (count_rows w) = subst (Exact (IsBrokenWithin fs w)) (sym (mapped_faults rows_counted (bind_within fs w))) (of_within fs w)
of_term fs j (aggregate a e w) =
    subst (Exact (IsBrokenTerm fs j (aggregate a e w))) (sym (together_faults (aggregated a) (bind_argument fs j a e) (bind_within fs w)))
    (exact_append (IsBrokenArgument fs j a e) (IsBrokenWithin fs w) (faults_in (bind_argument fs j a e)) (faults_in (bind_within fs w)) (of_argument fs j a e) (of_within fs w))

-- of one of some, each of which has a rule
abbrev pub OneOf : {A : Type 0} → (A → Rule) → List A → Rule
OneOf R xs p i = (n : ℕ) × (x : _) × (slice_get xs n ≡ Some x) × R x p i

pub one_more : {A : Type 0} (R : A → Rule) (x : A) (xs : List A) (fs gs : List BindFault) → Exact (R x) fs → Exact (OneOf R xs) gs → Exact (OneOf R (x ∷ xs)) (fs ++ gs)
one_more {A} R x xs fs gs h k = exact_as (λ p i. R x p i ⊎ OneOf R xs p i) (OneOf R (x ∷ xs)) (fs ++ gs) to back (exact_append (R x) (OneOf R xs) fs gs h k)
  where
    to : (p : BindProblem) (i : ℕ) → R x p i ⊎ OneOf R xs p i → OneOf R (x ∷ xs) p i
    to p i (inl m) = (0, x, refl, m)
    to p i (inr m) = (suc m.0, m.1, m.2, m.3)

    by_place : (p : BindProblem) (i : ℕ) (n : ℕ) (y : A) → slice_get (x ∷ xs) n ≡ Some y → R y p i → R x p i ⊎ OneOf R xs p i
    by_place p i zero y e m = inl (subst (λ (z : A). R z p i) (sym (same_some x y e)) m)
    by_place p i (suc n) y e m = inr (n, y, e, m)

    back : (p : BindProblem) (i : ℕ) → OneOf R (x ∷ xs) p i → R x p i ⊎ OneOf R xs p i
    back p i m = by_place p i m.0 m.1 m.2 m.3

pub none_of : {A : Type 0} (R : A → Rule) → Exact (OneOf R []) []
none_of {A} R = exact_none _ (λ p i m. nothing m.0 m.1 m.2)
  where
    nothing : (n : ℕ) (x : A) → slice_get {X = A} [] n ≡ Some x → ⊥
    nothing n x h = absurd (cc)

abbrev pub ItemRule : Fields → ItemSyntax → Rule
ItemRule fs x p i = IsBrokenTerm fs x.place x.term p i

pub of_items : (fs : Fields) (n : ℕ) (xs : List ItemSyntax) → Exact (OneOf (ItemRule fs) xs) (flat_map faults_in (bind_items fs n xs))
of_items fs n [] = none_of (ItemRule fs)
of_items fs n (x ∷ xs) =
    one_more (ItemRule fs) x xs (faults_in (bind_item fs n x)) (flat_map faults_in (bind_items fs (suc n) xs))
    (subst (Exact (ItemRule fs x)) (sym (mapped_faults _ (bind_term fs x.place x.term))) (of_term fs x.place x.term)) (of_items fs (suc n) xs)

pub of_key : (fs : Fields) (x : PathSyntax) → Exact (IsBrokenKey fs x) (faults_in (bind_path fs x))
of_key fs x = by_outcome (bind_path fs x) (path_told fs x)
  where
    by_outcome : (c : Checked BoundPath) → PathTells fs x c → Exact (IsBrokenKey fs x) (faults_in c)
    by_outcome (passes b) h = exact_none _ (λ p i m. h.2 p m.1)
    by_outcome (fails e es) h = (here, λ p i m. inl (ap₂ At (h.2 ∙ m.0) (sym (h.4 p m.1))))
      where
        here : (f : BindFault) → Among f (e ∷ es) → IsBrokenKey fs x f.problem f.place
        here f (inl k) = (sym h.2 ∙ ap (λ (y : BindFault). y.place) k, subst (IsPathProblem fs x) (ap (λ (y : BindFault). y.problem) k) h.3)
        here f (inr k) = absurd (subst (Among f) h.1 k)

pub of_keys : (fs : Fields) (xs : List PathSyntax) → Exact (OneOf (IsBrokenKey fs) xs) (flat_map faults_in (map (bind_path fs) xs))
of_keys fs [] = none_of (IsBrokenKey fs)
of_keys fs (x ∷ xs) = one_more (IsBrokenKey fs) x xs (faults_in (bind_path fs x)) (flat_map faults_in (map (bind_path fs) xs)) (of_key fs x) (of_keys fs xs)

-- all parts
pub of_parts : (s : Schema) (q : QuerySyntax) → Exact (IsBrokenPart s.fields q) (part_faults (bind_parts s.fields q))
of_parts s q =
    let fs = s.fields in
    exact_as (λ p i. (ConditionRule fs q.condition p i ⊎ OneOf (ItemRule fs) q.items p i) ⊎ OneOf (IsBrokenKey fs) q.keys p i) (IsBrokenPart fs q) (part_faults (bind_parts fs q)) to back
    (exact_append (λ p i. ConditionRule fs q.condition p i ⊎ OneOf (ItemRule fs) q.items p i) (OneOf (IsBrokenKey fs) q.keys) (faults_in (bind_condition fs q.condition) ++ flat_map faults_in (bind_items fs 0 q.items))
    (flat_map faults_in (map (bind_path fs) q.keys))
    (exact_append (ConditionRule fs q.condition) (OneOf (ItemRule fs) q.items) (faults_in (bind_condition fs q.condition)) (flat_map faults_in (bind_items fs 0 q.items)) (of_condition fs q.condition) (of_items fs 0 q.items))
    (of_keys fs q.keys))
  where
    to : (p : BindProblem) (i : ℕ) → (ConditionRule s.fields q.condition p i ⊎ OneOf (ItemRule s.fields) q.items p i) ⊎ OneOf (IsBrokenKey s.fields) q.keys p i → IsBrokenPart s.fields q p i
    to p i (inl (inl m)) = inl m
    to p i (inl (inr m)) = inr (inl m)
    to p i (inr m) = inr (inr m)

    back : (p : BindProblem) (i : ℕ) → IsBrokenPart s.fields q p i → (ConditionRule s.fields q.condition p i ⊎ OneOf (ItemRule s.fields) q.items p i) ⊎ OneOf (IsBrokenKey s.fields) q.keys p i
    back p i (inl m) = inl (inl m)
    back p i (inr (inl m)) = inl (inr m)
    back p i (inr (inr m)) = inr m

-- ---- the table

abbrev pub TableRule : Schema → QuerySyntax → Rule
TableRule s q p i = (p ≡ unknown_table) × IsUnknownTable s q i

pub of_table : (s : Schema) (q : QuerySyntax) → Exact (TableRule s q) (table_faults s.name q.table)
of_table s q = by_test (bytes_eq q.table.name s.name) refl
  where
    by_test : (b : Bool) → bytes_eq q.table.name s.name ≡ b → Exact (TableRule s q) (if b then [] else fault_at q.table.place unknown_table)
    by_test true e = exact_none _ (λ p i m. m.1.1 ((bytes_eq-Decides q.table.name s.name).0 e))
    by_test false e = one_fault q.table.place unknown_table _ (refl, (refl, λ k. true≢false (sym ((bytes_eq-Decides q.table.name s.name).1 k) ∙ e))) (λ p i m. (m.1.0, m.0))

-- ---- places among faults

pub among_at : (f : BindFault) (fs : List BindFault) → Among f fs → (i : ℕ) × (slice_get fs i ≡ Some f)
among_at f [] h = absurd h
among_at f (g ∷ fs) (inl e) = (0, ap Some e)
among_at f (g ∷ fs) (inr h) = let k = among_at f fs h in (suc k.0, k.1)

pub at_among : (f : BindFault) (fs : List BindFault) (i : ℕ) → slice_get fs i ≡ Some f → Among f fs
at_among f [] i h = absurd (cc)
at_among f (g ∷ fs) zero h = inl (same_some g f h)
at_among f (g ∷ fs) (suc i) h = inr (at_among f fs i h)

-- no path or operator has a problem of another part
abbrev pub IsForeign : BindProblem → Type 0
IsForeign p = (p ≢ type_mismatch) × (p ≢ unknown_field) × ((fs : Fields) (x : PathSyntax) → IsPathProblem fs x p → ⊥)

not_of_expression : (p : BindProblem) → IsForeign p → (fs : Fields) (e : ExpressionSyntax) (i : ℕ) → IsBrokenIn fs e p i → ⊥
not_of_expression p away fs (number_literal n) i m = m
not_of_expression p away fs (text_literal t) i m = m
not_of_expression p away fs (truth_literal b) i m = m
not_of_expression p away fs (path x) i m = away.2 fs x m.1
not_of_expression p away fs (negative j e) i (inl m) = away.0 m.1
not_of_expression p away fs (negative j e) i (inr m) = not_of_expression p away fs e i m
not_of_expression p away fs (arithmetic j o a b) i (inl m) = away.0 m.1
not_of_expression p away fs (arithmetic j o a b) i (inr (inl m)) = not_of_expression p away fs a i m
not_of_expression p away fs (arithmetic j o a b) i (inr (inr m)) = not_of_expression p away fs b i m
not_of_expression p away fs (comparison j c a b) i (inl m) = away.0 m.1
not_of_expression p away fs (comparison j c a b) i (inr (inl m)) = not_of_expression p away fs a i m
not_of_expression p away fs (comparison j c a b) i (inr (inr m)) = not_of_expression p away fs b i m
not_of_expression p away fs (like j e t) i (inl m) = away.0 m.1
not_of_expression p away fs (like j e t) i (inr m) = not_of_expression p away fs e i m
not_of_expression p away fs (contains j e t) i (inl m) = away.0 m.1
not_of_expression p away fs (contains j e t) i (inr m) = not_of_expression p away fs e i m
not_of_expression p away fs (is_null j e) i (inl m) = away.0 m.1
not_of_expression p away fs (is_null j e) i (inr m) = not_of_expression p away fs e i m
not_of_expression p away fs (negation j e) i (inl m) = away.0 m.1
not_of_expression p away fs (negation j e) i (inr m) = not_of_expression p away fs e i m
not_of_expression p away fs (conjunction j a b) i (inl m) = away.0 m.1
not_of_expression p away fs (conjunction j a b) i (inr (inl m)) = not_of_expression p away fs a i m
not_of_expression p away fs (conjunction j a b) i (inr (inr m)) = not_of_expression p away fs b i m
not_of_expression p away fs (disjunction j a b) i (inl m) = away.0 m.1
not_of_expression p away fs (disjunction j a b) i (inr (inl m)) = not_of_expression p away fs a i m
not_of_expression p away fs (disjunction j a b) i (inr (inr m)) = not_of_expression p away fs b i m

not_of_node : (p : BindProblem) → IsForeign p → (fs : Fields) (n : NodeSyntax) (i : ℕ) → IsBrokenNode fs n p i → ⊥
not_of_node p away fs whole_record i m = m
not_of_node p away fs (node x) i m = away.1 m.1

not_of_within : (p : BindProblem) → IsForeign p → (fs : Fields) (o : Option WithinSyntax) (i : ℕ) → IsBrokenWithin fs o p i → ⊥
not_of_within p away fs None i m = m
not_of_within p away fs (Some w) i m = not_of_node p away fs w.node i m

not_of_argument : (p : BindProblem) → IsForeign p → (fs : Fields) (j : ℕ) (a : Aggregate) (e : ExpressionSyntax) (i : ℕ) → IsBrokenArgument fs j a e p i → ⊥
not_of_argument p away fs j sum e i (inl m) = not_of_expression p away fs e i m
not_of_argument p away fs j sum e i (inr m) = away.0 m.1
not_of_argument p away fs j count e i m = not_of_expression p away fs e i m
not_of_argument p away fs j least e i m = not_of_expression p away fs e i m
not_of_argument p away fs j greatest e i m = not_of_expression p away fs e i m

not_of_term : (p : BindProblem) → IsForeign p → (fs : Fields) (j : ℕ) (t : TermSyntax) (i : ℕ) → IsBrokenTerm fs j t p i → ⊥
not_of_term p away fs j (expression e) i m = not_of_expression p away fs e i m
not_of_term p away fs j (count_rows w) i m = not_of_within p away fs w i m
not_of_term p away fs j (aggregate a e w) i (inl m) = not_of_argument p away fs j a e i m
not_of_term p away fs j (aggregate a e w) i (inr m) = not_of_within p away fs w i m

pub not_of_part : (p : BindProblem) → IsForeign p → (fs : Fields) (q : QuerySyntax) (i : ℕ) → IsBrokenPart fs q p i → ⊥
not_of_part p away fs q i (inl (c, e, inl m)) = not_of_expression p away fs c.expression i m
not_of_part p away fs q i (inl (c, e, inr m)) = away.0 m.1
not_of_part p away fs q i (inr (inl m)) = not_of_term p away fs m.1.place m.1.term i m.3
not_of_part p away fs q i (inr (inr m)) = away.2 fs m.1 m.3.1
