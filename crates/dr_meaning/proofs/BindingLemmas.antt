-- What passes in binding an expression: its paths are those of leaves, and its values are of its type.
use Rattle.std.proofs.Common.{◌≡◌, ℕ, List, [], ◌∷◌, ◌++◌, Bool, true, false, Option, Some, None, refl, sym, ap, ◌∙◌, subst, true≢false}
use Rattle.std.specs.Prelude.{ℤ, pos, ◌+ℤ◌, ◌-ℤ◌, ◌*ℤ◌, chars, if◌then◌else◌, option_map, Ok, Err, Result}
use Rattle.std.specs.List.{slice_get}
use Rattle.std.specs.declared.cmp.Ordering.{Ordering}
use Rattle.dr_meaning.specs.Schema.{Fields}
use Rattle.dr_meaning.specs.Path.{Step, Leaf, PathFault, find_path, found_leaf, is_leaf_path, leaves}
use Rattle.dr_meaning.specs.Record.{Value, bool_value, int_value, text_value, Node, in_int64}
use Rattle.dr_meaning.specs.Expression.{Arithmetic, plus, minus, times, Comparison, Expression, negative as negative_expression, arithmetic as arithmetic_expression, comparison as comparison_expression, like as like_expression, contains as contains_expression, is_null as is_null_expression, negation as negation_expression, conjunction as conjunction_expression, disjunction as disjunction_expression, exact_int64, subtract_values, combine, on_both, compare_values, holds, compared, matches, occurs_in, on_text, not_value, and_values, or_values, null_test, evaluate, paths_of}
use Rattle.dr_meaning.specs.Syntax.{PathSyntax, ExpressionSyntax, number_literal, text_literal, truth_literal, path, negative, arithmetic, comparison, like, contains, is_null, negation, conjunction, disjunction}
use Rattle.dr_meaning.specs.BoundExpression.{Checked, passes, fails, checked_map, ValueType, truth_type, number_type, text_type, same_type, type_from, null_test_type, logic_type, comparison_type, arithmetic_type, BoundPath, BoundExpression, at_place, bind_path, path_expression, operator, one_operand, two_operands, bind_expression}
use Rattle.dr_meaning.specs.BindingLaws.{is_of_type, has_shapes, ValuesHaveTypes}
use Rattle.dr_meaning.proofs.FindingLemmas.{In, in_at, of_found}
use Rattle.dr_meaning.proofs.FoundLemmas.{leaf_is}
use Rattle.dr_meaning.proofs.LeafKinds.{kind_of_leaf}
use Rattle.dr_meaning.proofs.HasShapesLemmas.{leaf_typed}

same_bound : (a b : BoundExpression) → passes a ≡ passes b → a ≡ b
same_bound a b h = cc

same_path_bound : (a b : BoundPath) → passes a ≡ passes b → a ≡ b
same_path_bound a b h = cc

-- ---- what passed

-- a path's leaf, which is found
abbrev pub FoundAt : Fields → List (List ℕ) → BoundPath → Type 0
FoundAt fs ns b = found_leaf ns (find_path ns fs) ≡ Ok b.leaf

pub path_passes : (fs : Fields) (p : PathSyntax) (b : BoundPath) → bind_path fs p ≡ passes b → FoundAt fs p.names b
path_passes fs p b h = by_leaf (found_leaf p.names (find_path p.names fs)) h
  where
    by_leaf : (o : Result Leaf PathFault) → at_place p.place o ≡ passes b → o ≡ Ok b.leaf
    by_leaf (Ok l) e = let q : record { place = p.place; leaf = l } ≡ b = same_path_bound (record { place = p.place; leaf = l }) b e in let g : l ≡ b.leaf = ap (λ (x : BoundPath). x.leaf) q in ap Ok g
    by_leaf (Err f) e = absurd (cc)

-- the leaf at which a path was bound is among the schema's, and of its kind
pub found_among : (fs : Fields) (ns : List (List ℕ)) (b : BoundPath) → FoundAt fs ns b → In b.leaf (leaves fs)
found_among fs ns b h = (of_found ns fs (find_path ns fs) b.leaf refl h).0

abbrev OnePasses : (ValueType → Option ValueType) → (Expression → Expression) → Checked BoundExpression → BoundExpression → Type 0
OnePasses type make c b = (a : BoundExpression) × (t : ValueType) × (c ≡ passes a) × (type a.gives ≡ Some t) × (record { expression = make a.expression; gives = t; paths = a.paths } ≡ b)

abbrev TwoPass : (ValueType → ValueType → Option ValueType) → (Expression → Expression → Expression) → Checked BoundExpression → Checked BoundExpression → BoundExpression → Type 0
TwoPass type make c d b = (a : BoundExpression) × (e : BoundExpression) × (t : ValueType) × (c ≡ passes a) × (d ≡ passes e) × (type a.gives e.gives ≡ Some t)
    × (record { expression = make a.expression e.expression; gives = t; paths = a.paths ++ e.paths } ≡ b)

operator_passes : (i : ℕ) (o : Option ValueType) (e : Expression) (ps : List BoundPath) (b : BoundExpression) → operator i o e ps ≡ passes b → (t : ValueType) × (o ≡ Some t) × (record { expression = e; gives = t; paths = ps } ≡ b)
operator_passes i None e ps b h = absurd (cc)
operator_passes i (Some t) e ps b h = (t, refl, same_bound (record { expression = e; gives = t; paths = ps }) b h)

one_passes : (i : ℕ) (type : ValueType → Option ValueType) (make : Expression → Expression) (c : Checked BoundExpression) (b : BoundExpression) → one_operand i type make c ≡ passes b → OnePasses type make c b
one_passes i type make (passes a) b h = let q = operator_passes i (type a.gives) (make a.expression) a.paths b h in (a, q.0, refl, q.1, q.2)
one_passes i type make (fails e es) b h = absurd (cc)

two_pass : (i : ℕ) (type : ValueType → ValueType → Option ValueType) (make : Expression → Expression → Expression) (c d : Checked BoundExpression) (b : BoundExpression) → two_operands i type make c d ≡ passes b → TwoPass type make c d b
two_pass i type make (passes a) (passes e) b h = let q = operator_passes i (type a.gives e.gives) (make a.expression e.expression) (a.paths ++ e.paths) b h in (a, e, q.0, refl, refl, q.1, q.2)
two_pass i type make (passes a) (fails e es) b h = absurd (cc)
two_pass i type make (fails e es) (passes a) b h = absurd (cc)
two_pass i type make (fails e es) (fails f fs) b h = absurd (cc)

path_expression_passes : (fs : Fields) (p : PathSyntax) (b : BoundExpression) → checked_map path_expression (bind_path fs p) ≡ passes b → (x : BoundPath) × FoundAt fs p.names x × (path_expression x ≡ b)
path_expression_passes fs p b h = by_path (bind_path fs p) refl h
  where
    by_path : (c : Checked BoundPath) → bind_path fs p ≡ c → checked_map path_expression c ≡ passes b → (x : BoundPath) × FoundAt fs p.names x × (path_expression x ≡ b)
    by_path (passes x) e k = (x, path_passes fs p x e, same_bound (path_expression x) b k)
    by_path (fails f fs′) e k = absurd (cc)

-- ---- paths of leaves

-- each of these paths is that of a leaf of the schema
abbrev pub LeafPaths : Fields → List (List Step) → Type 0
LeafPaths fs [] = Unit {0}
LeafPaths fs (p ∷ ps) = ((l : Leaf) × In l (leaves fs) × (is_leaf_path fs l.path ≡ true) × (l.path ≡ p)) × LeafPaths fs ps

pub leaf_paths_append : (fs : Fields) (ps qs : List (List Step)) → LeafPaths fs ps → LeafPaths fs qs → LeafPaths fs (ps ++ qs)
leaf_paths_append fs [] qs h k = k
leaf_paths_append fs (p ∷ ps) qs h k = (h.0, leaf_paths_append fs ps qs h.1 k)

pub leaf_path : (fs : Fields) (ns : List (List ℕ)) (b : BoundPath) → FoundAt fs ns b → (l : Leaf) × In l (leaves fs) × (is_leaf_path fs l.path ≡ true) × (l.path ≡ b.leaf.path)
leaf_path fs ns b h = (b.leaf, found_among fs ns b h, leaf_is ns fs (find_path ns fs) b.leaf refl h, refl)

abbrev HasLeafPaths : Fields → Checked BoundExpression → Type 0
HasLeafPaths fs c = (b : BoundExpression) → c ≡ passes b → LeafPaths fs (paths_of b.expression)

one_leaf_paths : (fs : Fields) (i : ℕ) (type : ValueType → Option ValueType) (make : Expression → Expression) (c : Checked BoundExpression) → ((e : Expression) → paths_of (make e) ≡ paths_of e) → HasLeafPaths fs c → HasLeafPaths fs (one_operand i type make c)
one_leaf_paths fs i type make c same h b k =
    let q : OnePasses type make c b = one_passes i type make c b k in
    subst (λ (x : BoundExpression). LeafPaths fs (paths_of x.expression)) q.4 (subst (LeafPaths fs) (sym (same q.0.expression)) (h q.0 q.2))

two_leaf_paths : (fs : Fields) (i : ℕ) (type : ValueType → ValueType → Option ValueType) (make : Expression → Expression → Expression) (c d : Checked BoundExpression) → ((e f : Expression) → paths_of (make e f) ≡ paths_of e ++ paths_of f)
    → HasLeafPaths fs c → HasLeafPaths fs d → HasLeafPaths fs (two_operands i type make c d)
two_leaf_paths fs i type make c d same h g b k =
    let q : TwoPass type make c d b = two_pass i type make c d b k in
    subst (λ (x : BoundExpression). LeafPaths fs (paths_of x.expression)) q.6
    (subst (LeafPaths fs) (sym (same q.0.expression q.1.expression)) (leaf_paths_append fs (paths_of q.0.expression) (paths_of q.1.expression) (h q.0 q.3) (g q.1 q.4)))

literal_leaf_paths : (fs : Fields) (a : BoundExpression) → paths_of a.expression ≡ [] → HasLeafPaths fs (passes a)
literal_leaf_paths fs a e b k = subst (λ (x : BoundExpression). LeafPaths fs (paths_of x.expression)) (same_bound a b k) (subst (LeafPaths fs) (sym e) tt)

pub expression_leaf_paths : (fs : Fields) (e : ExpressionSyntax) → HasLeafPaths fs (bind_expression fs e)
expression_leaf_paths fs (number_literal n) = literal_leaf_paths fs _ refl
expression_leaf_paths fs (text_literal t) = literal_leaf_paths fs _ refl
expression_leaf_paths fs (truth_literal b) = literal_leaf_paths fs _ refl
expression_leaf_paths fs (path p) = λ (b : BoundExpression) (h : bind_expression fs (path p) ≡ passes b).
    let q : (x : BoundPath) × FoundAt fs p.names x × (path_expression x ≡ b) = path_expression_passes fs p b h in
    subst (λ (x : BoundExpression). LeafPaths fs (paths_of x.expression)) q.2 (leaf_path fs p.names q.0 q.1, tt)
expression_leaf_paths fs (negative i e) = one_leaf_paths fs i (type_from number_type number_type) negative_expression (bind_expression fs e) (λ x. refl) (expression_leaf_paths fs e)
expression_leaf_paths fs (arithmetic i o a b) = two_leaf_paths fs i (arithmetic_type o) (arithmetic_expression o) (bind_expression fs a) (bind_expression fs b) (λ x y. refl) (expression_leaf_paths fs a) (expression_leaf_paths fs b)
expression_leaf_paths fs (comparison i c a b) = two_leaf_paths fs i comparison_type (comparison_expression c) (bind_expression fs a) (bind_expression fs b) (λ x y. refl) (expression_leaf_paths fs a) (expression_leaf_paths fs b)
expression_leaf_paths fs (like i e t) = one_leaf_paths fs i (type_from text_type truth_type) (λ x. like_expression x t) (bind_expression fs e) (λ x. refl) (expression_leaf_paths fs e)
expression_leaf_paths fs (contains i e t) = one_leaf_paths fs i (type_from text_type truth_type) (λ x. contains_expression x t) (bind_expression fs e) (λ x. refl) (expression_leaf_paths fs e)
expression_leaf_paths fs (is_null i e) = one_leaf_paths fs i null_test_type is_null_expression (bind_expression fs e) (λ x. refl) (expression_leaf_paths fs e)
expression_leaf_paths fs (negation i e) = one_leaf_paths fs i (type_from truth_type truth_type) negation_expression (bind_expression fs e) (λ x. refl) (expression_leaf_paths fs e)
expression_leaf_paths fs (conjunction i a b) = two_leaf_paths fs i logic_type conjunction_expression (bind_expression fs a) (bind_expression fs b) (λ x y. refl) (expression_leaf_paths fs a) (expression_leaf_paths fs b)
expression_leaf_paths fs (disjunction i a b) = two_leaf_paths fs i logic_type disjunction_expression (bind_expression fs a) (bind_expression fs b) (λ x y. refl) (expression_leaf_paths fs a) (expression_leaf_paths fs b)

-- ---- types of values

abbrev Typed : (Node → Type 0) → Checked BoundExpression → Type 0
Typed H c = (b : BoundExpression) (n : Node) → c ≡ passes b → H n → is_of_type b.gives (evaluate b.expression n) ≡ true

-- a function of values that gives a value of the type that it tells
abbrev TypedFunction : (ValueType → Option ValueType) → (Option Value → Option Value) → Type 0
TypedFunction type f = (s t : ValueType) (v : Option Value) → type s ≡ Some t → is_of_type s v ≡ true → is_of_type t (f v) ≡ true

abbrev TypedFunctionOfTwo : (ValueType → ValueType → Option ValueType) → (Option Value → Option Value → Option Value) → Type 0
TypedFunctionOfTwo type f = (s r t : ValueType) (v w : Option Value) → type s r ≡ Some t → is_of_type s v ≡ true → is_of_type r w ≡ true → is_of_type t (f v w) ≡ true

one_typed : (H : Node → Type 0) (i : ℕ) (type : ValueType → Option ValueType) (make : Expression → Expression) (f : Option Value → Option Value) (c : Checked BoundExpression)
    → ((e : Expression) (n : Node) → evaluate (make e) n ≡ f (evaluate e n)) → TypedFunction type f → Typed H c → Typed H (one_operand i type make c)
one_typed H i type make f c same typed h b n k a =
    let q : OnePasses type make c b = one_passes i type make c b k in
    subst (λ (x : BoundExpression). is_of_type x.gives (evaluate x.expression n) ≡ true) q.4
    (ap (is_of_type q.1) (same q.0.expression n) ∙ typed q.0.gives q.1 (evaluate q.0.expression n) q.3 (h q.0 n q.2 a))

two_typed : (H : Node → Type 0) (i : ℕ) (type : ValueType → ValueType → Option ValueType) (make : Expression → Expression → Expression) (f : Option Value → Option Value → Option Value) (c d : Checked BoundExpression)
    → ((e g : Expression) (n : Node) → evaluate (make e g) n ≡ f (evaluate e n) (evaluate g n)) → TypedFunctionOfTwo type f → Typed H c → Typed H d → Typed H (two_operands i type make c d)
two_typed H i type make f c d same typed h g b n k a =
    let q : TwoPass type make c d b = two_pass i type make c d b k in
    subst (λ (x : BoundExpression). is_of_type x.gives (evaluate x.expression n) ≡ true) q.6
    (ap (is_of_type q.2) (same q.0.expression q.1.expression n) ∙ typed q.0.gives q.1.gives q.2 (evaluate q.0.expression n) (evaluate q.1.expression n) q.5 (h q.0 n q.3 a) (g q.1 n q.4 a))

literal_typed : (H : Node → Type 0) (a : BoundExpression) → ((n : Node) → is_of_type a.gives (evaluate a.expression n) ≡ true) → Typed H (passes a)
literal_typed H a h b n k g = subst (λ (x : BoundExpression). is_of_type x.gives (evaluate x.expression n) ≡ true) (same_bound a b k) (h n)

null_typed : (t : ValueType) → is_of_type t None ≡ true
null_typed truth_type = refl
null_typed number_type = refl
null_typed text_type = refl

same_value_type : (s t : ValueType) → Some s ≡ Some t → s ≡ t
same_value_type s t h = cc

type_from_is : (wanted result s t : ValueType) → type_from wanted result s ≡ Some t → (same_type s wanted ≡ true) × (result ≡ t)
type_from_is wanted result s t h = by_test (same_type s wanted) refl h
  where
    by_test : (b : Bool) → same_type s wanted ≡ b → (if b then Some result else None) ≡ Some t → (same_type s wanted ≡ true) × (result ≡ t)
    by_test true e k = (e, same_value_type result t k)
    by_test false e k = absurd (cc)

-- a truth value, or NULL
truth_or_null : (o : Option Bool) (t : ValueType) → truth_type ≡ t → is_of_type t (option_map bool_value o) ≡ true
truth_or_null None t e = null_typed t
truth_or_null (Some b) t e = subst (λ (x : ValueType). is_of_type x (Some (bool_value b)) ≡ true) e refl

exact_typed : (z : ℤ) → is_of_type number_type (exact_int64 z) ≡ true
exact_typed z = by_test (in_int64 z)
  where
    by_test : (b : Bool) → is_of_type number_type (if b then Some (int_value z) else None) ≡ true
    by_test true = refl
    by_test false = refl

opposite_typed : TypedFunction (type_from number_type number_type) (on_both subtract_values (Some (int_value (pos 0))))
opposite_typed s t v e h = subst (λ (x : ValueType). is_of_type x (on_both subtract_values (Some (int_value (pos 0))) v) ≡ true) (type_from_is number_type number_type s t e).1 (by_value v)
  where
    by_value : (v : Option Value) → is_of_type number_type (on_both subtract_values (Some (int_value (pos 0))) v) ≡ true
    by_value None = refl
    by_value (Some (bool_value b)) = refl
    by_value (Some (int_value z)) = exact_typed (pos 0 -ℤ z)
    by_value (Some (text_value u)) = refl

text_test_typed : (f : List ℕ → Bool) → TypedFunction (type_from text_type truth_type) (on_text f)
text_test_typed f s t v e h = subst (λ (x : ValueType). is_of_type x (on_text f v) ≡ true) (type_from_is text_type truth_type s t e).1 (by_value v)
  where
    by_value : (v : Option Value) → is_of_type truth_type (on_text f v) ≡ true
    by_value None = refl
    by_value (Some (bool_value b)) = refl
    by_value (Some (int_value z)) = refl
    by_value (Some (text_value u)) = refl

null_test_typed : TypedFunction null_test_type null_test
null_test_typed s t v e h = subst (λ (x : ValueType). is_of_type x (null_test v) ≡ true) (same_value_type truth_type t e) (by_value v)
  where
    by_value : (v : Option Value) → is_of_type truth_type (null_test v) ≡ true
    by_value None = refl
    by_value (Some w) = refl

not_typed : TypedFunction (type_from truth_type truth_type) not_value
not_typed s t v e h = subst (λ (x : ValueType). is_of_type x (not_value v) ≡ true) (type_from_is truth_type truth_type s t e).1 (by_value v)
  where
    by_value : (v : Option Value) → is_of_type truth_type (not_value v) ≡ true
    by_value None = refl
    by_value (Some (bool_value b)) = refl
    by_value (Some (int_value z)) = refl
    by_value (Some (text_value u)) = refl

logic_is : (s r t : ValueType) → logic_type s r ≡ Some t → (truth_type ≡ t) × (r ≡ truth_type)
logic_is truth_type truth_type t h = (same_value_type truth_type t h, refl)
logic_is truth_type number_type t h = absurd (cc)
logic_is truth_type text_type t h = absurd (cc)
logic_is number_type r t h = absurd (cc)
logic_is text_type r t h = absurd (cc)

and_typed : TypedFunctionOfTwo logic_type and_values
and_typed s r t v w e h k = let q = logic_is s r t e in subst (λ (x : ValueType). is_of_type x (and_values v w) ≡ true) q.0 (by_value v w (subst (λ (x : ValueType). is_of_type x w ≡ true) q.1 k))
  where
    by_value : (v w : Option Value) → is_of_type truth_type w ≡ true → is_of_type truth_type (and_values v w) ≡ true
    by_value (Some (bool_value false)) w k = refl
    by_value (Some (bool_value true)) w k = k
    by_value None None k = refl
    by_value None (Some (bool_value true)) k = refl
    by_value None (Some (bool_value false)) k = refl
    by_value None (Some (int_value z)) k = refl
    by_value None (Some (text_value u)) k = refl
    by_value (Some (int_value y)) None k = refl
    by_value (Some (int_value y)) (Some (bool_value true)) k = refl
    by_value (Some (int_value y)) (Some (bool_value false)) k = refl
    by_value (Some (int_value y)) (Some (int_value z)) k = refl
    by_value (Some (int_value y)) (Some (text_value u)) k = refl
    by_value (Some (text_value y)) None k = refl
    by_value (Some (text_value y)) (Some (bool_value true)) k = refl
    by_value (Some (text_value y)) (Some (bool_value false)) k = refl
    by_value (Some (text_value y)) (Some (int_value z)) k = refl
    by_value (Some (text_value y)) (Some (text_value u)) k = refl

or_typed : TypedFunctionOfTwo logic_type or_values
or_typed s r t v w e h k = let q = logic_is s r t e in subst (λ (x : ValueType). is_of_type x (or_values v w) ≡ true) q.0 (by_value v w (subst (λ (x : ValueType). is_of_type x w ≡ true) q.1 k))
  where
    by_value : (v w : Option Value) → is_of_type truth_type w ≡ true → is_of_type truth_type (or_values v w) ≡ true
    by_value (Some (bool_value true)) w k = refl
    by_value (Some (bool_value false)) w k = k
    by_value None None k = refl
    by_value None (Some (bool_value true)) k = refl
    by_value None (Some (bool_value false)) k = refl
    by_value None (Some (int_value z)) k = refl
    by_value None (Some (text_value u)) k = refl
    by_value (Some (int_value y)) None k = refl
    by_value (Some (int_value y)) (Some (bool_value true)) k = refl
    by_value (Some (int_value y)) (Some (bool_value false)) k = refl
    by_value (Some (int_value y)) (Some (int_value z)) k = refl
    by_value (Some (int_value y)) (Some (text_value u)) k = refl
    by_value (Some (text_value y)) None k = refl
    by_value (Some (text_value y)) (Some (bool_value true)) k = refl
    by_value (Some (text_value y)) (Some (bool_value false)) k = refl
    by_value (Some (text_value y)) (Some (int_value z)) k = refl
    by_value (Some (text_value y)) (Some (text_value u)) k = refl

comparison_is : (s r t : ValueType) → comparison_type s r ≡ Some t → truth_type ≡ t
comparison_is s r t h = by_test (same_type s r) h
  where
    by_test : (b : Bool) → (if b then Some truth_type else None) ≡ Some t → truth_type ≡ t
    by_test true k = same_value_type truth_type t k
    by_test false k = absurd (cc)

compared_typed : (c : Comparison) → TypedFunctionOfTwo comparison_type (on_both (compared c))
compared_typed c s r t v w e h k = subst (λ (x : ValueType). is_of_type x (on_both (compared c) v w) ≡ true) (comparison_is s r t e) (by_value v w)
  where
    by_order : (o : Option Ordering) → is_of_type truth_type (option_map (λ x. bool_value (holds c x)) o) ≡ true
    by_order None = refl
    by_order (Some x) = refl

    by_value : (v w : Option Value) → is_of_type truth_type (on_both (compared c) v w) ≡ true
    by_value None w = refl
    by_value (Some a) None = refl
    by_value (Some a) (Some b) = by_order (compare_values a b)

combined_numbers : (o : Arithmetic) (v w : Option Value) → is_of_type number_type v ≡ true → is_of_type number_type w ≡ true → is_of_type number_type (on_both (combine o) v w) ≡ true
combined_numbers o None w h k = refl
combined_numbers o (Some (bool_value a)) w h k = absurd (true≢false (sym h))
combined_numbers o (Some (text_value a)) w h k = absurd (true≢false (sym h))
combined_numbers o (Some (int_value a)) None h k = refl
combined_numbers o (Some (int_value a)) (Some (bool_value b)) h k = absurd (true≢false (sym k))
combined_numbers o (Some (int_value a)) (Some (text_value b)) h k = absurd (true≢false (sym k))
combined_numbers plus (Some (int_value a)) (Some (int_value b)) h k = exact_typed (a +ℤ b)
combined_numbers minus (Some (int_value a)) (Some (int_value b)) h k = exact_typed (a -ℤ b)
combined_numbers times (Some (int_value a)) (Some (int_value b)) h k = exact_typed (a *ℤ b)

joined_texts : (v w : Option Value) → is_of_type text_type v ≡ true → is_of_type text_type w ≡ true → is_of_type text_type (on_both (combine plus) v w) ≡ true
joined_texts None w h k = refl
joined_texts (Some (bool_value a)) w h k = absurd (true≢false (sym h))
joined_texts (Some (int_value a)) w h k = absurd (true≢false (sym h))
joined_texts (Some (text_value a)) None h k = refl
joined_texts (Some (text_value a)) (Some (bool_value b)) h k = absurd (true≢false (sym k))
joined_texts (Some (text_value a)) (Some (int_value b)) h k = absurd (true≢false (sym k))
joined_texts (Some (text_value a)) (Some (text_value b)) h k = refl

combined_typed : (o : Arithmetic) → TypedFunctionOfTwo (arithmetic_type o) (on_both (combine o))
combined_typed o number_type number_type t v w e h k = subst (λ (x : ValueType). is_of_type x (on_both (combine o) v w) ≡ true) (same_value_type number_type t (sum_type o e)) (combined_numbers o v w h k)
  where
    sum_type : (o : Arithmetic) → arithmetic_type o number_type number_type ≡ Some t → Some number_type ≡ Some t
    sum_type plus e = e
    sum_type minus e = e
    sum_type times e = e
combined_typed plus text_type text_type t v w e h k = subst (λ (x : ValueType). is_of_type x (on_both (combine plus) v w) ≡ true) (same_value_type text_type t e) (joined_texts v w h k)
combined_typed minus text_type text_type t v w e h k = absurd (cc)
combined_typed times text_type text_type t v w e h k = absurd (cc)
combined_typed plus truth_type r t v w e h k = absurd (cc)
combined_typed minus truth_type r t v w e h k = absurd (cc)
combined_typed times truth_type r t v w e h k = absurd (cc)
combined_typed plus number_type truth_type t v w e h k = absurd (cc)
combined_typed minus number_type truth_type t v w e h k = absurd (cc)
combined_typed times number_type truth_type t v w e h k = absurd (cc)
combined_typed plus number_type text_type t v w e h k = absurd (cc)
combined_typed minus number_type text_type t v w e h k = absurd (cc)
combined_typed times number_type text_type t v w e h k = absurd (cc)
combined_typed plus text_type truth_type t v w e h k = absurd (cc)
combined_typed minus text_type truth_type t v w e h k = absurd (cc)
combined_typed times text_type truth_type t v w e h k = absurd (cc)
combined_typed plus text_type number_type t v w e h k = absurd (cc)
combined_typed minus text_type number_type t v w e h k = absurd (cc)
combined_typed times text_type number_type t v w e h k = absurd (cc)

abbrev HasShapes : Fields → Node → Type 0
HasShapes fs n = has_shapes fs n ≡ true

path_typed : (fs : Fields) (p : PathSyntax) → Typed (HasShapes fs) (bind_expression fs (path p))
path_typed fs p b n k a =
    let q : (x : BoundPath) × FoundAt fs p.names x × (path_expression x ≡ b) = path_expression_passes fs p b k in
    let at : (i : ℕ) × (slice_get (leaves fs) i ≡ Some q.0.leaf) = in_at q.0.leaf (leaves fs) (found_among fs p.names q.0 q.1) in
    subst (λ (x : BoundExpression). is_of_type x.gives (evaluate x.expression n) ≡ true) q.2 (leaf_typed fs q.0.leaf.path q.0.leaf.kind n (kind_of_leaf fs at.0 q.0.leaf at.1) a)

expression_typed : (fs : Fields) (e : ExpressionSyntax) → Typed (HasShapes fs) (bind_expression fs e)
expression_typed fs (number_literal n) = literal_typed (HasShapes fs) _ (λ m. refl)
expression_typed fs (text_literal t) = literal_typed (HasShapes fs) _ (λ m. refl)
expression_typed fs (truth_literal b) = literal_typed (HasShapes fs) _ (λ m. refl)
expression_typed fs (path p) = path_typed fs p
expression_typed fs (negative i e) = one_typed (HasShapes fs) i (type_from number_type number_type) negative_expression (on_both subtract_values (Some (int_value (pos 0)))) (bind_expression fs e) (λ x m. refl) opposite_typed (expression_typed fs e)
expression_typed fs (arithmetic i o a b) = two_typed (HasShapes fs) i (arithmetic_type o) (arithmetic_expression o) (on_both (combine o)) (bind_expression fs a) (bind_expression fs b) (λ x y m. refl) (combined_typed o) (expression_typed fs a) (expression_typed fs b)
expression_typed fs (comparison i c a b) = two_typed (HasShapes fs) i comparison_type (comparison_expression c) (on_both (compared c)) (bind_expression fs a) (bind_expression fs b) (λ x y m. refl) (compared_typed c) (expression_typed fs a) (expression_typed fs b)
expression_typed fs (like i e t) = one_typed (HasShapes fs) i (type_from text_type truth_type) (λ x. like_expression x t) (on_text (λ u. matches (chars t) (chars u))) (bind_expression fs e) (λ x m. refl) (text_test_typed (λ u. matches (chars t) (chars u))) (expression_typed fs e)
expression_typed fs (contains i e t) = one_typed (HasShapes fs) i (type_from text_type truth_type) (λ x. contains_expression x t) (on_text (occurs_in t)) (bind_expression fs e) (λ x m. refl) (text_test_typed (occurs_in t)) (expression_typed fs e)
expression_typed fs (is_null i e) = one_typed (HasShapes fs) i null_test_type is_null_expression null_test (bind_expression fs e) (λ x m. refl) null_test_typed (expression_typed fs e)
expression_typed fs (negation i e) = one_typed (HasShapes fs) i (type_from truth_type truth_type) negation_expression not_value (bind_expression fs e) (λ x m. refl) not_typed (expression_typed fs e)
expression_typed fs (conjunction i a b) = two_typed (HasShapes fs) i logic_type conjunction_expression and_values (bind_expression fs a) (bind_expression fs b) (λ x y m. refl) and_typed (expression_typed fs a) (expression_typed fs b)
expression_typed fs (disjunction i a b) = two_typed (HasShapes fs) i logic_type disjunction_expression or_values (bind_expression fs a) (bind_expression fs b) (λ x y m. refl) or_typed (expression_typed fs a) (expression_typed fs b)

pub values_have_types : ValuesHaveTypes
values_have_types fs e b n h k = expression_typed fs e b n h k
