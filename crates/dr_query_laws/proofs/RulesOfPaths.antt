-- What binding tells of paths that aren't related: the first that isn't nested with an earlier one.
use Rattle.std.proofs.Common.{◌≡◌, ◌⊎◌, inl, inr, ℕ, zero, suc, ◌<◌, List, [], ◌∷◌, ◌++◌, map, Bool, true, false, Option, Some, None, refl, sym, ap, ap₂, ◌∙◌, subst, true≢false, arith}
use Rattle.std.specs.Prelude.{◌||◌, if◌then◌else◌}
use Rattle.std.specs.List.{flat_map, list_all, slice_get, cons_option}
use Rattle.std.proofs.lemmas.List.{map-append}
use Rattle.dr_meaning.specs.Schema.{Fields, Shape, leaf, group}
use Rattle.dr_meaning.specs.Path.{Step, Found, find_path, leaf_at, found_leaf, chain_end, begins_with}
use Rattle.dr_meaning.specs.Expression.{Expression, negative as negative_expression, arithmetic as arithmetic_expression, comparison as comparison_expression, like as like_expression, contains as contains_expression, is_null as is_null_expression, negation as negation_expression, conjunction as conjunction_expression, disjunction as disjunction_expression}
use Rattle.dr_meaning.specs.Query.{Aggregate}
use Rattle.dr_meaning.specs.Syntax.{PathSyntax, ExpressionSyntax, number_literal, text_literal, truth_literal, path, negative, arithmetic, comparison, like, contains, is_null, negation, conjunction, disjunction, WithinSyntax, TermSyntax, expression, count_rows, aggregate, ItemSyntax, ConditionSyntax, QuerySyntax}
use Rattle.dr_meaning.specs.BoundExpression.{BindProblem, unrelated, BindFault, fault_at, Checked, passes, fails, then_check, together, ValueType, truth_type, number_type, text_type, type_from, null_test_type, logic_type, comparison_type, arithmetic_type, BoundPath, BoundExpression, at_place, bind_path, one_operand, two_operands, bind_expression, of_type, are_related, unrelated_after, unrelated_among}
use Rattle.dr_meaning.specs.Binding.{bind_condition, BoundWithin, bind_within, argument_of, bind_argument, alone, argument_alone, arguments_alone, unrelated_behind, BoundTerm, plain, rows_counted, aggregated, bind_term, item_name, BoundItem, bind_item, bind_items, BoundParts, bind_parts, faults_in, if_passed, passing, where_passed, all_passed, paths_of_condition, unrelated_in_term, unrelated_faults}
use Rattle.dr_query_laws.specs.BindingRules.{IsBrokenIn, IsBrokenCondition, IsBrokenArgument, IsBrokenWithin, IsBrokenTerm, IsBrokenKey, HasType}
use Rattle.dr_query_laws.specs.QueryRules.{Passes, KeysPass, steps_to, steps_of, paths_in, AreNested, IsStranger, IsFirstStranger, HasStrangerInCondition, HasStrangerInTerm, IsUnrelated}
use Rattle.dr_query_laws.proofs.RulesOfExpressions.{Rule, expression_told}
use Rattle.dr_query_laws.proofs.RulesOfQueries.{Exact, exact_append, exact_none, exact_as, one_fault, of_expression, ConditionRule, of_condition, of_within, of_argument, of_term, OneOf, one_more, none_of, ItemRule, of_key, mapped_faults, same_some}
use Rattle.dr_query_laws.proofs.Earlier.{not_all_member, member_not_all, AtFrom, from_later, from_start, at_start, below_next, Mirror, mirror_none, mirror_more}
use Rattle.dr_query_laws.proofs.Relations.{paths}
use Rattle.dr_query_laws.proofs.WrittenExpressions.{same_inside, OnePasses, one_passes, TwoPass, two_pass}
use Rattle.dr_query_laws.proofs.BoundItems.{mapped_passes, together_passes, then_passes, of_type_same, argument_same}

-- ---- what passes

pub passes_of : (R : Rule) → Exact R [] → Passes R
passes_of R h p i m = h.1 p i m

pub passes_as : {A : Type 0} (R : Rule) (c : Checked A) (a : A) → Exact R (faults_in c) → c ≡ passes a → Passes R
passes_as R c a h e = passes_of R (subst (λ x. Exact R (faults_in x)) e h)

pub fails_as : {A : Type 0} (R : Rule) (c : Checked A) (f : BindFault) (fs : List BindFault) → Exact R (faults_in c) → c ≡ fails f fs → Passes R → ⊥
fails_as R c f fs h e k = k f.problem f.place ((subst (λ x. Exact R (faults_in x)) e h).0 f (inl refl))

pub passes_or_fails : {A : Type 0} (R : Rule) (c : Checked A) → Exact R (faults_in c) → Passes R ⊎ (Passes R → ⊥)
passes_or_fails R (passes a) h = inl (passes_of R h)
passes_or_fails {A} R (fails f fs) h = inr (fails_as {A = A} R (fails f fs) f fs h refl)

-- ---- rules of one problem

abbrev pub Told : BindProblem → (ℕ → Type 0) → Rule
Told q Is p i = (p ≡ q) × Is i

pub told_none : (q : BindProblem) (Is : ℕ → Type 0) → ((i : ℕ) → Is i → ⊥) → Exact (Told q Is) []
told_none q Is h = exact_none _ (λ p i m. h i m.1)

pub told_one : (q : BindProblem) (Is : ℕ → Type 0) (j : ℕ) → Is j → ((i : ℕ) → Is i → j ≡ i) → Exact (Told q Is) (fault_at j q)
told_one q Is j h only = one_fault j q (Told q Is) (refl, h) (λ p i m. (only i m.1, m.0))

pub told_as : (q : BindProblem) (Is Js : ℕ → Type 0) (fs : List BindFault) → ((i : ℕ) → Is i → Js i) → ((i : ℕ) → Js i → Is i) → Exact (Told q Is) fs → Exact (Told q Js) fs
told_as q Is Js fs to back h = exact_as (Told q Is) (Told q Js) fs (λ p i m. (m.0, to i m.1)) (λ p i m. (m.0, back i m.1)) h

pub told_append : (q : BindProblem) (Is Js : ℕ → Type 0) (fs gs : List BindFault) → Exact (Told q Is) fs → Exact (Told q Js) gs → Exact (Told q (λ i. Is i ⊎ Js i)) (fs ++ gs)
told_append q Is Js fs gs h k = exact_as (λ p i. Told q Is p i ⊎ Told q Js p i) (Told q (λ i. Is i ⊎ Js i)) (fs ++ gs) to back (exact_append (Told q Is) (Told q Js) fs gs h k)
  where
    to : (p : BindProblem) (i : ℕ) → Told q Is p i ⊎ Told q Js p i → Told q (λ i. Is i ⊎ Js i) p i
    to p i (inl m) = (m.0, inl m.1)
    to p i (inr m) = (m.0, inr m.1)

    back : (p : BindProblem) (i : ℕ) → Told q (λ i. Is i ⊎ Js i) p i → Told q Is p i ⊎ Told q Js p i
    back p i (e, inl m) = inl (e, m)
    back p i (e, inr m) = inr (e, m)

-- one of some, each of which has a rule of this problem
abbrev pub ForSome : {A : Type 0} → (A → ℕ → Type 0) → List A → ℕ → Type 0
ForSome {A} Is xs i = (n : ℕ) × (x : A) × (slice_get xs n ≡ Some x) × Is x i

pub told_some : {A : Type 0} (q : BindProblem) (Is : A → ℕ → Type 0) (xs : List A) (fs : List BindFault) → Exact (OneOf (λ x. Told q (Is x)) xs) fs → Exact (Told q (ForSome Is xs)) fs
told_some q Is xs fs h = exact_as (OneOf (λ x. Told q (Is x)) xs) (Told q (ForSome Is xs)) fs (λ p i m. (m.3.0, (m.0, m.1, m.2, m.3.1))) (λ p i m. (m.1.0, m.1.1, m.1.2, (m.0, m.1.3))) h

-- a rule that is tested where a part passes
pub told_where : {A : Type 0} (R : Rule) (q : BindProblem) (Is : ℕ → Type 0) (c : Checked A) (g : A → List BindFault) → Exact R (faults_in c) → ((a : A) → c ≡ passes a → Exact (Told q Is) (g a))
    → Exact (Told q (λ i. Passes R × Is i)) (where_passed g c)
told_where R q Is (passes a) g h k = told_as q Is (λ i. Passes R × Is i) (g a) (λ i m. (passes_of R h, m)) (λ i m. m.1) (k a refl)
told_where {A} R q Is (fails f fs) g h k = told_none q _ (λ i m. fails_as {A = A} R (fails f fs) f fs h refl m.0)

-- ---- what is read of a path

abbrev pub mark : BoundPath → ℕ × List Step
mark p = (p.place, p.leaf.path)

abbrev pub marks : List BoundPath → List (ℕ × List Step)
marks ps = map mark ps

abbrev pub mark_of : Fields → PathSyntax → ℕ × List Step
mark_of fs x = (x.place, steps_of fs x)

abbrev pub marks_of : Fields → List PathSyntax → List (ℕ × List Step)
marks_of fs xs = map (mark_of fs) xs

pub path_read : (fs : Fields) (x : PathSyntax) (b : BoundPath) → bind_path fs x ≡ passes b → mark b ≡ mark_of fs x
path_read fs x b h = by_found (find_path x.names fs) h
  where
    by_shape : (f : Found) (s : Shape) → at_place x.place (leaf_at x.names f.path s) ≡ passes b → mark b ≡ (x.place, f.path)
    by_shape f (leaf k) e = ap mark (sym (same_inside _ b e))
    by_shape f (group g) e = absurd (cc)

    by_found : (o : Option Found) → at_place x.place (found_leaf x.names o) ≡ passes b → mark b ≡ (x.place, steps_to o)
    by_found None e = absurd (cc)
    by_found (Some f) e = by_shape f f.shape e

abbrev ReadsAs : List (ℕ × List Step) → Checked BoundExpression → Type 0
ReadsAs ms c = (b : BoundExpression) → c ≡ passes b → marks b.paths ≡ ms

literal_read : (a : BoundExpression) (ms : List (ℕ × List Step)) → marks a.paths ≡ ms → ReadsAs ms (passes a)
literal_read a ms f b h = subst (λ (x : BoundExpression). marks x.paths ≡ ms) (same_inside a b h) f

one_read : (i : ℕ) (type : ValueType → Option ValueType) (make : Expression → Expression) (c : Checked BoundExpression) (ms : List (ℕ × List Step)) → ReadsAs ms c → ReadsAs ms (one_operand i type make c)
one_read i type make c ms f b h =
    let q : OnePasses type make c b = one_passes i type make c b h in
    subst (λ (x : BoundExpression). marks x.paths ≡ ms) q.4 (f q.0 q.2)

two_read : (fs : Fields) (i : ℕ) (type : ValueType → ValueType → Option ValueType) (make : Expression → Expression → Expression) (c d : Checked BoundExpression) (xs ys : List PathSyntax)
    → ReadsAs (marks_of fs xs) c → ReadsAs (marks_of fs ys) d → ReadsAs (marks_of fs (xs ++ ys)) (two_operands i type make c d)
two_read fs i type make c d xs ys f g b h =
    let q : TwoPass type make c d b = two_pass i type make c d b h in
    subst (λ (x : BoundExpression). marks x.paths ≡ marks_of fs (xs ++ ys)) q.6
    (map-append mark q.0.paths q.1.paths ∙ ap₂ (λ us vs. us ++ vs) (f q.0 q.3) (g q.1 q.4) ∙ sym (map-append (mark_of fs) xs ys))

pub expression_read : (fs : Fields) (x : ExpressionSyntax) → ReadsAs (marks_of fs (paths_in x)) (bind_expression fs x)
expression_read fs (number_literal n) = literal_read _ [] refl
expression_read fs (text_literal t) = literal_read _ [] refl
expression_read fs (truth_literal v) = literal_read _ [] refl
expression_read fs (path p) = λ (b : BoundExpression) (h : bind_expression fs (path p) ≡ passes b). let q = mapped_passes _ (bind_path fs p) b h in
    subst (λ (x : BoundExpression). marks x.paths ≡ marks_of fs (p ∷ [])) q.2 (ap (λ m. m ∷ []) (path_read fs p q.0 q.1))
expression_read fs (negative i x) = one_read i (type_from number_type number_type) negative_expression (bind_expression fs x) _ (expression_read fs x)
expression_read fs (arithmetic i o x y) = two_read fs i (arithmetic_type o) (arithmetic_expression o) (bind_expression fs x) (bind_expression fs y) (paths_in x) (paths_in y) (expression_read fs x) (expression_read fs y)
expression_read fs (comparison i c x y) = two_read fs i comparison_type (comparison_expression c) (bind_expression fs x) (bind_expression fs y) (paths_in x) (paths_in y) (expression_read fs x) (expression_read fs y)
expression_read fs (like i x t) = one_read i (type_from text_type truth_type) (λ e. like_expression e t) (bind_expression fs x) _ (expression_read fs x)
expression_read fs (contains i x t) = one_read i (type_from text_type truth_type) (λ e. contains_expression e t) (bind_expression fs x) _ (expression_read fs x)
expression_read fs (is_null i x) = one_read i null_test_type is_null_expression (bind_expression fs x) _ (expression_read fs x)
expression_read fs (negation i x) = one_read i (type_from truth_type truth_type) negation_expression (bind_expression fs x) _ (expression_read fs x)
expression_read fs (conjunction i x y) = two_read fs i logic_type conjunction_expression (bind_expression fs x) (bind_expression fs y) (paths_in x) (paths_in y) (expression_read fs x) (expression_read fs y)
expression_read fs (disjunction i x y) = two_read fs i logic_type disjunction_expression (bind_expression fs x) (bind_expression fs y) (paths_in x) (paths_in y) (expression_read fs x) (expression_read fs y)

pub argument_read : (fs : Fields) (j : ℕ) (a : Aggregate) (e : ExpressionSyntax) (b : BoundExpression) → bind_argument fs j a e ≡ passes b → marks b.paths ≡ marks_of fs (paths_in e)
argument_read fs j a e b h =
    let r = then_passes (argument_of a j) (bind_expression fs e) b h in
    subst (λ (x : BoundExpression). marks x.paths ≡ marks_of fs (paths_in e)) (argument_same a j r.0 b r.2) (expression_read fs e r.0 r.1)

same_first : {A : Type 0} (a b : A) (us vs : List A) → (a ∷ us) ≡ (b ∷ vs) → a ≡ b
same_first a b us vs h = cc

same_rest : {A : Type 0} (a b : A) (us vs : List A) → (a ∷ us) ≡ (b ∷ vs) → us ≡ vs
same_rest a b us vs h = cc

pub steps_read : (fs : Fields) (ps : List BoundPath) (xs : List PathSyntax) → marks ps ≡ marks_of fs xs → paths ps ≡ map (steps_of fs) xs
steps_read fs [] [] h = refl
steps_read fs [] (x ∷ xs) h = absurd (cc)
steps_read fs (p ∷ ps) [] h = absurd (cc)
steps_read fs (p ∷ ps) (x ∷ xs) h =
    ap₂ (λ y ys. y ∷ ys) (ap (λ (m : ℕ × List Step). m.1) (same_first (mark p) (mark_of fs x) (marks ps) (marks_of fs xs) h))
    (steps_read fs ps xs (same_rest (mark p) (mark_of fs x) (marks ps) (marks_of fs xs) h))

-- ---- nested paths

nested_from : (p q : List Step) → are_related p q ≡ true → AreNested p q
nested_from p q h = by_first (begins_with (chain_end p) (chain_end q)) refl h
  where
    by_first : (b : Bool) → begins_with (chain_end p) (chain_end q) ≡ b → (b || begins_with (chain_end q) (chain_end p)) ≡ true → AreNested p q
    by_first true e k = inl e
    by_first false e k = inr k

or_true : (b : Bool) → (b || true) ≡ true
or_true true = refl
or_true false = refl

nested_to : (p q : List Step) → AreNested p q → are_related p q ≡ true
nested_to p q (inl h) = ap (λ b. b || begins_with (chain_end q) (chain_end p)) h
nested_to p q (inr h) = ap (λ b. begins_with (chain_end p) (chain_end q) || b) h ∙ or_true (begins_with (chain_end p) (chain_end q))

not_true : (b : Bool) → (b ≡ true → ⊥) → b ≡ false
not_true true h = absurd (h refl)
not_true false h = refl

-- ---- strangers

abbrev StepsAre : Fields → ℕ → PathSyntax → List Step → Type 0
StepsAre fs m x p = steps_of fs x ≡ p

is_stranger : (fs : Fields) (xs : List PathSyntax) (n : ℕ) (x : PathSyntax) (before : List (List Step)) → Mirror (StepsAre fs) xs n before → slice_get xs n ≡ Some x
    → list_all (are_related (steps_of fs x)) before ≡ false → IsStranger fs xs n
is_stranger fs xs n x before mi e h =
    let m = not_all_member (are_related (steps_of fs x)) before h in
    let r = (mi m.0).0 m.1 in
    (x, e, (r.0, r.1, r.2, r.3, λ k. true≢false (sym (nested_to (steps_of fs x) m.0 (subst (AreNested (steps_of fs x)) r.4 k)) ∙ m.2)))

stranger_fails : (fs : Fields) (xs : List PathSyntax) (n : ℕ) (x : PathSyntax) (before : List (List Step)) → Mirror (StepsAre fs) xs n before → slice_get xs n ≡ Some x
    → IsStranger fs xs n → list_all (are_related (steps_of fs x)) before ≡ false
stranger_fails fs xs n x before mi e s =
    let y : PathSyntax = s.2.1 in
    let same : s.0 ≡ x = same_some s.0 x (sym s.1 ∙ e) in
    member_not_all (are_related (steps_of fs x)) before (steps_of fs y) ((mi (steps_of fs y)).1 (s.2.0, y, s.2.2, s.2.3, refl))
    (not_true (are_related (steps_of fs x) (steps_of fs y)) (λ k. s.2.4 (subst (λ (z : PathSyntax). AreNested (steps_of fs z) (steps_of fs y)) (sym same) (nested_from (steps_of fs x) (steps_of fs y) k))))

-- the first stranger stands in the rest of some paths, at the place i of the text
abbrev FirstFrom : Fields → List PathSyntax → ℕ → List PathSyntax → ℕ → Type 0
FirstFrom fs xs n rest i = (k : ℕ) × (x : PathSyntax) × AtFrom n rest k x × (x.place ≡ i) × IsStranger fs xs k × ((m : ℕ) → m < k → IsStranger fs xs m → ⊥)

after_told : (fs : Fields) (xs : List PathSyntax) (n : ℕ) (rest : List PathSyntax) (ps : List BoundPath) (before : List (List Step)) → ((k : ℕ) (x : PathSyntax) → AtFrom n rest k x → slice_get xs k ≡ Some x)
    → Mirror (StepsAre fs) xs n before → ((m : ℕ) → m < n → IsStranger fs xs m → ⊥) → marks ps ≡ marks_of fs rest → Exact (Told unrelated (FirstFrom fs xs n rest)) (unrelated_after before ps)
after_told fs xs n [] [] before at mi none e = told_none unrelated _ (λ i m. m.2)
after_told fs xs n [] (p ∷ ps) before at mi none e = absurd (cc)
after_told fs xs n (x ∷ rest) [] before at mi none e = absurd (cc)
after_told fs xs n (x ∷ rest) (p ∷ ps) before at mi none e =
    by_test (list_all (are_related p.leaf.path) before) refl
    (λ t. after_told fs xs (suc n) rest ps (p.leaf.path ∷ before) (λ k y m. at k y (inr m)) (mirror_more (StepsAre fs) xs n before x p.leaf.path mi found (sym steps) (λ c k. steps ∙ k)) (none_yet t)
    (same_rest (mark p) (mark_of fs x) (marks ps) (marks_of fs rest) e))
  where
    here : mark p ≡ mark_of fs x
    here = same_first (mark p) (mark_of fs x) (marks ps) (marks_of fs rest) e

    steps : p.leaf.path ≡ steps_of fs x
    steps = ap (λ (m : ℕ × List Step). m.1) here

    place : p.place ≡ x.place
    place = ap (λ (m : ℕ × List Step). m.0) here

    found : slice_get xs n ≡ Some x
    found = at n x (inl (refl, refl))

    no_stranger : list_all (are_related p.leaf.path) before ≡ true → IsStranger fs xs n → ⊥
    no_stranger t s = true≢false (sym t ∙ subst (λ y. list_all (are_related y) before ≡ false) (sym steps) (stranger_fails fs xs n x before mi found s))

    none_yet : list_all (are_related p.leaf.path) before ≡ true → (m : ℕ) → m < suc n → IsStranger fs xs m → ⊥
    none_yet t m l s = by_place (below_next m n l)
      where
        by_place : (m ≡ n) ⊎ (m < n) → ⊥
        by_place (inl k) = no_stranger t (subst (IsStranger fs xs) k s)
        by_place (inr k) = none m k s

    by_test : (b : Bool) → list_all (are_related p.leaf.path) before ≡ b
        → (list_all (are_related p.leaf.path) before ≡ true → Exact (Told unrelated (FirstFrom fs xs (suc n) rest)) (unrelated_after (p.leaf.path ∷ before) ps))
        → Exact (Told unrelated (FirstFrom fs xs n (x ∷ rest))) (if b then unrelated_after (p.leaf.path ∷ before) ps else fault_at p.place unrelated)
    by_test true t r = told_as unrelated (FirstFrom fs xs (suc n) rest) (FirstFrom fs xs n (x ∷ rest)) (unrelated_after (p.leaf.path ∷ before) ps) (λ i m. (m.0, m.1, inr m.2, m.3, m.4, m.5)) back (r t)
      where
        back : (i : ℕ) → FirstFrom fs xs n (x ∷ rest) i → FirstFrom fs xs (suc n) rest i
        back i (k, y, inl m, o, s, first) = absurd (no_stranger t (subst (IsStranger fs xs) (sym m.0) s))
        back i (k, y, inr m, o, s, first) = (k, y, m, o, s, first)
    by_test false t r = told_one unrelated (FirstFrom fs xs n (x ∷ rest)) p.place (n, x, inl (refl, refl), sym place, stranger, none) only
      where
        stranger : IsStranger fs xs n
        stranger = is_stranger fs xs n x before mi found (subst (λ y. list_all (are_related y) before ≡ false) steps t)

        only : (i : ℕ) → FirstFrom fs xs n (x ∷ rest) i → p.place ≡ i
        only i (k, y, inl m, o, s, first) = place ∙ ap (λ (z : PathSyntax). z.place) m.1 ∙ o
        only i (k, y, inr m, o, s, first) = absurd (first n (from_later n rest k y m) stranger)

pub among_told : (fs : Fields) (xs : List PathSyntax) (ps : List BoundPath) → marks ps ≡ marks_of fs xs → Exact (Told unrelated (IsFirstStranger fs xs)) (unrelated_among ps)
among_told fs xs ps e =
    told_as unrelated (FirstFrom fs xs 0 xs) (IsFirstStranger fs xs) (unrelated_among ps) (λ i m. (m.0, m.1, from_start xs m.0 m.1 m.2, m.3, m.4, m.5)) (λ i m. (m.0, m.1, at_start xs m.0 m.1 m.2, m.3, m.4, m.5))
    (after_told fs xs 0 xs ps [] (λ k x m. from_start xs k x m) (mirror_none (StepsAre fs) xs) none e)
  where
    none : (m : ℕ) → m < 0 → IsStranger fs xs m → ⊥
    none m l s = absurd (omega (arith, l))

-- ---- the condition

condition_read : (fs : Fields) (c : ConditionSyntax) (b : Option BoundExpression) → bind_condition fs (Some c) ≡ passes b → marks (paths_of_condition b) ≡ marks_of fs (paths_in c.expression)
condition_read fs c b h =
    let q = mapped_passes (λ (e : BoundExpression). Some e) (then_check (of_type truth_type c.place) (bind_expression fs c.expression)) b h in
    let r = then_passes (of_type truth_type c.place) (bind_expression fs c.expression) q.0 q.1 in
    subst (λ o. marks (paths_of_condition o) ≡ marks_of fs (paths_in c.expression)) q.2
    (subst (λ (x : BoundExpression). marks x.paths ≡ marks_of fs (paths_in c.expression)) (of_type_same truth_type c.place r.0 q.0 r.2) (expression_read fs c.expression r.0 r.1))

abbrev InCondition : Fields → Option ConditionSyntax → ℕ → Type 0
InCondition fs o i = (c : ConditionSyntax) × (o ≡ Some c) × HasStrangerInCondition fs c i

condition_told : (fs : Fields) (o : Option ConditionSyntax) → Exact (Told unrelated (InCondition fs o)) (where_passed (λ c. unrelated_among (paths_of_condition c)) (bind_condition fs o))
condition_told fs None = told_none unrelated _ (λ i m. nothing m.0 m.1)
  where
    nothing : (c : ConditionSyntax) → ◌≡◌ {A = Option ConditionSyntax} None (Some c) → ⊥
    nothing c h = absurd (cc)
condition_told fs (Some c) =
    told_as unrelated (λ i. Passes (ConditionRule fs (Some c)) × IsFirstStranger fs (paths_in c.expression) i) (InCondition fs (Some c)) _ (λ i m. (c, refl, (λ p k b. m.0 p k (c, refl, b), m.1)))
    (λ i m. let e : m.0 ≡ c = sym (same_some c m.0 m.1) in
    (λ p k b. m.2.0 p k (subst (λ (x : ConditionSyntax). IsBrokenCondition fs x p k) (sym (same_some c b.0 b.1) ∙ sym e) b.2), subst (λ (x : ConditionSyntax). IsFirstStranger fs (paths_in x.expression) i) e m.2.1))
    (told_where (ConditionRule fs (Some c)) unrelated (IsFirstStranger fs (paths_in c.expression)) (bind_condition fs (Some c)) (λ b. unrelated_among (paths_of_condition b)) (of_condition fs (Some c))
    (λ b h. among_told fs (paths_in c.expression) (paths_of_condition b) (condition_read fs c b h)))

-- ---- keys

abbrev pub KeysOutcome : Fields → List PathSyntax → Checked (List BoundPath) → Type 0
KeysOutcome fs ks (passes bs) = KeysPass fs ks × (marks bs ≡ marks_of fs ks)
KeysOutcome fs ks (fails f fs') = KeysPass fs ks → ⊥

pub keys_outcome : (fs : Fields) (ks : List PathSyntax) → KeysOutcome fs ks (all_passed (map (bind_path fs) ks))
keys_outcome fs [] = (λ n k h. absurd (cc), refl)
keys_outcome fs (k ∷ ks) = by_parts (bind_path fs k) refl (all_passed (map (bind_path fs) ks)) (keys_outcome fs ks)
  where
    rest : KeysPass fs (k ∷ ks) → KeysPass fs ks
    rest h n x e = h (suc n) x e

    both : Passes (IsBrokenKey fs k) → KeysPass fs ks → KeysPass fs (k ∷ ks)
    both h r zero x e = subst (λ (y : PathSyntax). Passes (IsBrokenKey fs y)) (same_some k x e) h
    both h r (suc n) x e = r n x e

    by_parts : (c : Checked BoundPath) → bind_path fs k ≡ c → (d : Checked (List BoundPath)) → KeysOutcome fs ks d → KeysOutcome fs (k ∷ ks) (together (λ a more. a ∷ more) c d)
    by_parts (passes b) e (passes bs) h = (both (passes_as (IsBrokenKey fs k) (bind_path fs k) b (of_key fs k) e) h.0, ap₂ (λ m ms. m ∷ ms) (path_read fs k b e) h.1)
    by_parts (passes b) e (fails g gs) h = λ r. h (rest r)
    by_parts (fails f fs') e (passes bs) h = λ r. fails_as (IsBrokenKey fs k) (bind_path fs k) f fs' (of_key fs k) e (r 0 k refl)
    by_parts (fails f fs') e (fails g gs) h = λ r. h (rest r)

pub keys_told : (fs : Fields) (ks : List PathSyntax) (q : BindProblem) (Is : ℕ → Type 0) (g : List BoundPath → List BindFault) → ((bs : List BoundPath) → marks bs ≡ marks_of fs ks → Exact (Told q Is) (g bs))
    → Exact (Told q (λ i. KeysPass fs ks × Is i)) (where_passed g (all_passed (map (bind_path fs) ks)))
keys_told fs ks q Is g h = by_outcome (all_passed (map (bind_path fs) ks)) (keys_outcome fs ks)
  where
    by_outcome : (c : Checked (List BoundPath)) → KeysOutcome fs ks c → Exact (Told q (λ i. KeysPass fs ks × Is i)) (where_passed g c)
    by_outcome (passes bs) o = told_as q Is (λ i. KeysPass fs ks × Is i) (g bs) (λ i m. (o.0, m)) (λ i m. m.1) (h bs o.1)
    by_outcome (fails f fs') o = told_none q _ (λ i m. o m.0)

-- ---- items

-- an item that passes, and its term
pub item_is : (fs : Fields) (n : ℕ) (x : ItemSyntax) (v : BoundItem) → bind_item fs n x ≡ passes v → (t : BoundTerm) × (bind_term fs x.place x.term ≡ passes t)
    × (record { place = x.place; name = item_name n x.term x.name; term = t } ≡ v)
item_is fs n x v h = mapped_passes (λ t. record { place = x.place; name = item_name n x.term x.name; term = t }) (bind_term fs x.place x.term) v h

pub of_item : (fs : Fields) (n : ℕ) (x : ItemSyntax) → Exact (ItemRule fs x) (faults_in (bind_item fs n x))
of_item fs n x = subst (Exact (ItemRule fs x)) (sym (mapped_faults _ (bind_term fs x.place x.term))) (of_term fs x.place x.term)

-- a rule of each item that passes
pub passing_told : (fs : Fields) (q : BindProblem) (Is : ItemSyntax → ℕ → Type 0) (g : BoundItem → List BindFault)
    → ((n : ℕ) (x : ItemSyntax) (v : BoundItem) → bind_item fs n x ≡ passes v → Exact (Told q (Is x)) (g v)) → (n : ℕ) (xs : List ItemSyntax)
    → Exact (OneOf (λ x. Told q (λ i. Passes (ItemRule fs x) × Is x i)) xs) (flat_map g (passing (bind_items fs n xs)))
passing_told fs q Is g h n [] = none_of _
passing_told fs q Is g h n (x ∷ xs) = by_outcome (bind_item fs n x) refl (passing_told fs q Is g h (suc n) xs)
  where
    by_outcome : (c : Checked BoundItem) → bind_item fs n x ≡ c → Exact (OneOf (λ y. Told q (λ i. Passes (ItemRule fs y) × Is y i)) xs) (flat_map g (passing (bind_items fs (suc n) xs)))
        → Exact (OneOf (λ y. Told q (λ i. Passes (ItemRule fs y) × Is y i)) (x ∷ xs)) (flat_map g (cons_option (if_passed c) (passing (bind_items fs (suc n) xs))))
    by_outcome (passes v) e r =
        one_more (λ y. Told q (λ i. Passes (ItemRule fs y) × Is y i)) x xs (g v) (flat_map g (passing (bind_items fs (suc n) xs)))
        (told_as q (Is x) (λ i. Passes (ItemRule fs x) × Is x i) (g v) (λ i m. (passes_as (ItemRule fs x) (bind_item fs n x) v (of_item fs n x) e, m)) (λ i m. m.1) (h n x v e)) r
    by_outcome (fails f fs') e r =
        one_more (λ y. Told q (λ i. Passes (ItemRule fs y) × Is y i)) x xs [] (flat_map g (passing (bind_items fs (suc n) xs)))
        (told_none q _ (λ i m. fails_as (ItemRule fs x) (bind_item fs n x) f fs' (of_item fs n x) e m.0)) r

-- an argument, behind the keys
behind_told : (fs : Fields) (ks : List PathSyntax) (j : ℕ) (a : Aggregate) (e : ExpressionSyntax) (w : Option WithinSyntax) (b : BoundExpression) → bind_argument fs j a e ≡ passes b
    → Exact (Told unrelated (HasStrangerInTerm fs ks j (aggregate a e w))) (unrelated_behind (all_passed (map (bind_path fs) ks)) b)
behind_told fs ks j a e w b h =
    told_as unrelated (λ i. KeysPass fs ks × IsFirstStranger fs (ks ++ paths_in e) i) (HasStrangerInTerm fs ks j (aggregate a e w)) _
    (λ i m. (m.0, passes_as (IsBrokenArgument fs j a e) (bind_argument fs j a e) b (of_argument fs j a e) h, m.1)) (λ i m. (m.0, m.2))
    (keys_told fs ks unrelated (IsFirstStranger fs (ks ++ paths_in e)) (λ bs. unrelated_among (bs ++ b.paths)) (λ bs k. among_told fs (ks ++ paths_in e) (bs ++ b.paths)
    (map-append mark bs b.paths ∙ ap₂ (λ us vs. us ++ vs) k (argument_read fs j a e b h) ∙ sym (map-append (mark_of fs) ks (paths_in e)))))

term_told : (fs : Fields) (ks : List PathSyntax) (j : ℕ) (t : TermSyntax) (c : BoundTerm) → bind_term fs j t ≡ passes c
    → Exact (Told unrelated (HasStrangerInTerm fs ks j t)) (unrelated_in_term (all_passed (map (bind_path fs) ks)) c)
term_told fs ks j (expression e) c h =
    let q = mapped_passes plain (bind_expression fs e) c h in
    subst (λ (x : BoundTerm). Exact (Told unrelated (HasStrangerInTerm fs ks j (expression e))) (unrelated_in_term (all_passed (map (bind_path fs) ks)) x)) q.2
    (told_as unrelated (IsFirstStranger fs (paths_in e)) (HasStrangerInTerm fs ks j (expression e)) (unrelated_among q.0.paths)
    (λ i m. (passes_as (IsBrokenIn fs e) (bind_expression fs e) q.0 (of_expression (HasType fs e) (IsBrokenIn fs e) (bind_expression fs e) (expression_told fs e)) q.1, m)) (λ i m. m.1)
    (among_told fs (paths_in e) q.0.paths (expression_read fs e q.0 q.1)))
term_told fs ks j (count_rows w) c h =
    let q = mapped_passes rows_counted (bind_within fs w) c h in
    subst (λ (x : BoundTerm). Exact (Told unrelated (HasStrangerInTerm fs ks j (count_rows w))) (unrelated_in_term (all_passed (map (bind_path fs) ks)) x)) q.2 (told_none unrelated _ (λ i m. m))
term_told fs ks j (aggregate a e w) c h =
    let q = together_passes (aggregated a) (bind_argument fs j a e) (bind_within fs w) c h in
    subst (λ (x : BoundTerm). Exact (Told unrelated (HasStrangerInTerm fs ks j (aggregate a e w))) (unrelated_in_term (all_passed (map (bind_path fs) ks)) x)) q.4 (behind_told fs ks j a e w q.0 q.2)

abbrev InItem : Fields → List PathSyntax → ItemSyntax → ℕ → Type 0
InItem fs ks x i = HasStrangerInTerm fs ks x.place x.term i

items_told : (fs : Fields) (ks : List PathSyntax) (n : ℕ) (xs : List ItemSyntax)
    → Exact (OneOf (λ x. Told unrelated (λ i. Passes (ItemRule fs x) × InItem fs ks x i)) xs) (flat_map (λ (v : BoundItem). unrelated_in_term (all_passed (map (bind_path fs) ks)) v.term) (passing (bind_items fs n xs)))
items_told fs ks n xs = passing_told fs unrelated (InItem fs ks) (λ (v : BoundItem). unrelated_in_term (all_passed (map (bind_path fs) ks)) v.term) each n xs
  where
    each : (n : ℕ) (x : ItemSyntax) (v : BoundItem) → bind_item fs n x ≡ passes v → Exact (Told unrelated (InItem fs ks x)) (unrelated_in_term (all_passed (map (bind_path fs) ks)) v.term)
    each n x v h = let t = item_is fs n x v h in
        subst (λ (y : BoundItem). Exact (Told unrelated (InItem fs ks x)) (unrelated_in_term (all_passed (map (bind_path fs) ks)) y.term)) t.2 (term_told fs ks x.place x.term t.0 t.1)

-- arguments beside a WITHIN that leads nowhere
abbrev AloneRule : Fields → List PathSyntax → ItemSyntax → ℕ → Type 0
AloneRule fs ks x i = (Passes (ItemRule fs x) → ⊥) × InItem fs ks x i

alone_told : (fs : Fields) (ks : List PathSyntax) (xs : List ItemSyntax) → Exact (OneOf (λ x. Told unrelated (AloneRule fs ks x)) xs) (flat_map (unrelated_behind (all_passed (map (bind_path fs) ks))) (arguments_alone fs xs))
alone_told fs ks [] = none_of _
alone_told fs ks (x ∷ xs) = by_term x.term refl (alone_told fs ks xs)
  where
    g : BoundExpression → List BindFault
    g e = unrelated_behind (all_passed (map (bind_path fs) ks)) e

    R : ItemSyntax → Rule
    R y = Told unrelated (AloneRule fs ks y)

    rest : List BoundExpression
    rest = arguments_alone fs xs

    nothing : ((i : ℕ) → AloneRule fs ks x i → ⊥) → Exact (OneOf R xs) (flat_map g rest) → Exact (OneOf R (x ∷ xs)) (flat_map g rest)
    nothing h r = one_more R x xs [] (flat_map g rest) (told_none unrelated (AloneRule fs ks x) h) r

    term_of : (t : TermSyntax) → x.term ≡ t → (i : ℕ) → InItem fs ks x i → HasStrangerInTerm fs ks x.place t i
    term_of t e i m = subst (λ (y : TermSyntax). HasStrangerInTerm fs ks x.place y i) e m

    passes_term : (t : TermSyntax) → x.term ≡ t → Passes (IsBrokenTerm fs x.place t) → Passes (ItemRule fs x)
    passes_term t e h = subst (λ (y : TermSyntax). Passes (IsBrokenTerm fs x.place y)) (sym e) h

    by_term : (t : TermSyntax) → x.term ≡ t → Exact (OneOf R xs) (flat_map g rest) → Exact (OneOf R (x ∷ xs)) (flat_map g (argument_alone fs x.place t ++ rest))
    by_term (expression e) k r = nothing (λ i m. m.0 (passes_term (expression e) k (term_of (expression e) k i m.1).0)) r
    by_term (count_rows w) k r = nothing (λ i m. term_of (count_rows w) k i m.1) r
    by_term (aggregate a e w) k r = by_parts (bind_argument fs x.place a e) refl (bind_within fs w) refl
      where
        by_parts : (c : Checked BoundExpression) → bind_argument fs x.place a e ≡ c → (d : Checked (Option BoundWithin)) → bind_within fs w ≡ d → Exact (OneOf R (x ∷ xs)) (flat_map g (alone c d ++ rest))
        by_parts (passes b) u (passes v) z = nothing none r
          where
            whole : Passes (IsBrokenTerm fs x.place (aggregate a e w))
            whole p i (inl m) = passes_as (IsBrokenArgument fs x.place a e) (bind_argument fs x.place a e) b (of_argument fs x.place a e) u p i m
            whole p i (inr m) = passes_as (IsBrokenWithin fs w) (bind_within fs w) v (of_within fs w) z p i m

            none : (i : ℕ) → AloneRule fs ks x i → ⊥
            none i m = m.0 (passes_term (aggregate a e w) k whole)
        by_parts (passes b) u (fails f fs') z = one_more R x xs (g b) (flat_map g rest) here r
          where
            broken : Passes (ItemRule fs x) → ⊥
            broken h = fails_as (IsBrokenWithin fs w) (bind_within fs w) f fs' (of_within fs w) z (λ p i m. subst (λ (y : TermSyntax). Passes (IsBrokenTerm fs x.place y)) k h p i (inr m))

            here : Exact (Told unrelated (AloneRule fs ks x)) (g b)
            here = told_as unrelated (HasStrangerInTerm fs ks x.place (aggregate a e w)) (AloneRule fs ks x) (g b) (λ i m. (broken, subst (λ (y : TermSyntax). HasStrangerInTerm fs ks x.place y i) (sym k) m))
                (λ i m. term_of (aggregate a e w) k i m.1) (behind_told fs ks x.place a e w b u)
        by_parts (fails f fs') u d z = nothing none r
          where
            none : (i : ℕ) → AloneRule fs ks x i → ⊥
            none i m = fails_as (IsBrokenArgument fs x.place a e) (bind_argument fs x.place a e) f fs' (of_argument fs x.place a e) u (term_of (aggregate a e w) k i m.1).1

-- ---- all of them

pub unrelated_told : (fs : Fields) (q : QuerySyntax) → Exact (Told unrelated (IsUnrelated fs q)) (unrelated_faults (bind_parts fs q))
unrelated_told fs q =
    let b : BoundParts = bind_parts fs q in
    let keys : Checked (List BoundPath) = all_passed (map (bind_path fs) q.keys) in
    let c = condition_told fs q.condition in
    let is = told_some unrelated (λ x i. Passes (ItemRule fs x) × InItem fs q.keys x i) q.items _ (items_told fs q.keys 0 q.items) in
    let lone = told_some unrelated (AloneRule fs q.keys) q.items _ (alone_told fs q.keys q.items) in
    let ks = keys_told fs q.keys unrelated (IsFirstStranger fs q.keys) unrelated_among (λ bs e. among_told fs q.keys bs e) in
    told_as unrelated All (IsUnrelated fs q) (unrelated_faults b) to back
    (told_append unrelated _ _ _ _ (told_append unrelated _ _ _ _ (told_append unrelated _ _ _ _ c is) lone) ks)
  where
    Passing : ℕ → Type 0
    Passing i = ForSome (λ x i. Passes (ItemRule fs x) × InItem fs q.keys x i) q.items i

    Alone : ℕ → Type 0
    Alone i = ForSome (AloneRule fs q.keys) q.items i

    All : ℕ → Type 0
    All i = ((InCondition fs q.condition i ⊎ Passing i) ⊎ Alone i) ⊎ (KeysPass fs q.keys × IsFirstStranger fs q.keys i)

    to : (i : ℕ) → All i → IsUnrelated fs q i
    to i (inl (inl (inl m))) = inl m
    to i (inl (inl (inr m))) = inr (inl (m.0, m.1, m.2, m.3.1))
    to i (inl (inr m)) = inr (inl (m.0, m.1, m.2, m.3.1))
    to i (inr m) = inr (inr m)

    by_item : (i : ℕ) (n : ℕ) (x : ItemSyntax) → slice_get q.items n ≡ Some x → InItem fs q.keys x i → Passes (ItemRule fs x) ⊎ (Passes (ItemRule fs x) → ⊥) → All i
    by_item i n x e m (inl h) = inl (inl (inr (n, x, e, (h, m))))
    by_item i n x e m (inr h) = inl (inr (n, x, e, (h, m)))

    back : (i : ℕ) → IsUnrelated fs q i → All i
    back i (inl m) = inl (inl (inl m))
    back i (inr (inl m)) = by_item i m.0 m.1 m.2 m.3 (passes_or_fails (ItemRule fs m.1) (bind_term fs m.1.place m.1.term) (of_term fs m.1.place m.1.term))
    back i (inr (inr m)) = inr m
