-- Expressions as they are written in the lines of a rewriting: each is read as a primary that is bound to it again.
use Rattle.std.proofs.Common.{◌≡◌, ℕ, ◌≤◌, List, [], ◌∷◌, ◌++◌, map, Bool, true, false, Option, Some, None, refl, sym, ap, ap₂, ◌∙◌, subst, append_assoc}
use Rattle.std.specs.Prelude.{◌==◌, pos, codes, Ok}
use Rattle.std.specs.List.{join_with_byte}
use Rattle.dr_meaning.specs.Schema.{Fields, Shape, leaf, group, continues_name}
use Rattle.dr_meaning.specs.Path.{Leaf, Found, find_path, found_leaf, leaf_at}
use Rattle.dr_meaning.specs.Record.{bool_value, int_value, text_value}
use Rattle.dr_meaning.specs.Expression.{Arithmetic, plus, minus, times, Comparison, equal, unequal, less, at_most, greater, at_least, Expression, constant, path_value, negative as negative_expression, arithmetic as arithmetic_expression, comparison as comparison_expression, like as like_expression, contains as contains_expression, is_null as is_null_expression, negation as negation_expression, conjunction as conjunction_expression, disjunction as disjunction_expression}
use Rattle.dr_meaning.specs.Tokens.{and_word, or_word, not_word, like_word, contains_word, is_word, null_word, true_word, false_word, Sign, open_parenthesis, close_parenthesis, dot, star, plus_sign, minus_sign, equals, differs, less_than, less_or_equal, greater_than, greater_or_equal, QueryToken, reserved, number, text, sign, PlacedToken, placed, greatest_number, is_digit}
use Rattle.dr_meaning.specs.TokenLaws.{begins_so}
use Rattle.dr_meaning.specs.Syntax.{PathSyntax, ExpressionSyntax, number_literal, text_literal as text_syntax, truth_literal, path, negative, arithmetic, comparison, like, contains, is_null, negation, conjunction, disjunction}
use Rattle.dr_meaning.specs.QueryGrammar.{SpellsNames, first_name, further_name, SpellsPath, IsComparison, is_equal, is_unequal, is_less, is_at_most, is_greater, is_at_least, SpellsExpression, one_and, or_and, SpellsAnd, one_not, and_not, SpellsNot, not_not, one_test, SpellsTest, one_sum, compared_sums, like_text, contains_text, is_null_word, SpellsSum, one_product, plus_product, minus_product, SpellsProduct, one_unary, times_unary, minus_unary, one_primary, SpellsPrimary, a_number, a_text, a_true, a_false, a_path, in_parentheses as between_parentheses, sign_at, name_at}
use Rattle.dr_meaning.specs.BoundExpression.{Checked, passes, fails, checked_map, ValueType, truth_type, number_type, text_type, kind_type, type_from, null_test_type, logic_type, comparison_type, arithmetic_type, BoundPath, BoundExpression, at_place, bind_path, path_expression, operator, one_operand, two_operands, bind_expression}
use Rattle.dr_partials.specs.RewritingText.{name_text, path_text, in_parentheses, text_literal, sign_of, comparison_sign, expression_text}
use Rattle.dr_meaning.proofs.BindingLemmas.{FoundAt, path_passes}
use Rattle.dr_query_laws.proofs.Lexing.{Reads, Both, both, One, one, read_both, read_as, read_token, read_after_blank, read_before_blank, read_word, read_word_before_blank, read_word_between, read_number}
use Rattle.dr_query_laws.proofs.WrittenNames.{read_text, read_names, path_has_names}
use Rattle.dr_query_laws.proofs.Writable.{WritableNames, Writable}

-- a rest that goes on with no word, number or text that stands before it
pub record Ends (rest : List ℕ) : Type 0 where
  pub word : begins_so continues_name rest ≡ false
  pub number : begins_so is_digit rest ≡ false
  pub text : begins_so (λ b. b == 39) rest ≡ false

-- ---- what is said

-- a tree is bound to this expression, of this type
abbrev pub Gives : Fields → ExpressionSyntax → Expression → ValueType → Type 0
Gives fs x e t = (ps : List BoundPath) × (bind_expression fs x ≡ passes (record { expression = e; gives = t; paths = ps }))

-- these tokens spell a primary, which is bound to this expression
abbrev pub Said : Fields → Expression → ValueType → List PlacedToken → Type 0
Said fs e t ts = (x : ExpressionSyntax) × SpellsPrimary ts x × Gives fs x e t

abbrev pub text_in : Fields → Expression → List ℕ
text_in fs e = expression_text (path_text fs) e

-- an expression, as written, is read so
abbrev pub Written : Fields → Expression → ValueType → Type 0
Written fs e t = (rest : List ℕ) → Ends rest → Reads (Said fs e t) (text_in fs e) rest

-- ---- a primary as an operand

product_of : (ts : List PlacedToken) (x : ExpressionSyntax) → SpellsPrimary ts x → SpellsProduct ts x
product_of ts x p = one_unary ts x (one_primary ts x p)

sum_of : (ts : List PlacedToken) (x : ExpressionSyntax) → SpellsPrimary ts x → SpellsSum ts x
sum_of ts x p = one_product ts x (product_of ts x p)

not_of : (ts : List PlacedToken) (x : ExpressionSyntax) → SpellsPrimary ts x → SpellsNot ts x
not_of ts x p = one_test ts x (one_sum ts x (sum_of ts x p))

and_of : (ts : List PlacedToken) (x : ExpressionSyntax) → SpellsPrimary ts x → SpellsAnd ts x
and_of ts x p = one_not ts x (not_of ts x p)

pub expression_of : (ts : List PlacedToken) (x : ExpressionSyntax) → SpellsPrimary ts x → SpellsExpression ts x
expression_of ts x p = one_and ts x (and_of ts x p)

of_sum : (ts : List PlacedToken) (x : ExpressionSyntax) → SpellsSum ts x → SpellsExpression ts x
of_sum ts x s = one_and ts x (one_not ts x (one_test ts x (one_sum ts x s)))

of_test : (ts : List PlacedToken) (x : ExpressionSyntax) → SpellsTest ts x → SpellsExpression ts x
of_test ts x s = one_and ts x (one_not ts x (one_test ts x s))

-- ---- in parentheses

-- tokens that spell an expression, which is bound to this one
abbrev Inside : Fields → Expression → ValueType → List PlacedToken → Type 0
Inside fs e t ts = (x : ExpressionSyntax) × SpellsExpression ts x × Gives fs x e t

enclosed : (fs : Fields) (e : Expression) (t : ValueType) (ts : List PlacedToken) → Both (One (sign open_parenthesis)) (Both (Inside fs e t) (One (sign close_parenthesis))) ts → Said fs e t ts
enclosed fs e t _ (both _ _ (one i) (both ts _ k (one j))) = (k.0, between_parentheses i j ts k.0 k.1, k.2)

read_enclosed : (fs : Fields) (e : Expression) (t : ValueType) (bytes rest : List ℕ) → Reads (Inside fs e t) bytes (41 ∷ rest) → Reads (Said fs e t) (in_parentheses bytes) rest
read_enclosed fs e t bytes rest f =
    read_as (Both (One (sign open_parenthesis)) (Both (Inside fs e t) (One (sign close_parenthesis)))) (Said fs e t) (in_parentheses bytes) rest (enclosed fs e t)
    (read_both (One (sign open_parenthesis)) (Both (Inside fs e t) (One (sign close_parenthesis))) (40 ∷ []) (bytes ++ 41 ∷ []) rest (read_token (sign open_parenthesis) (40 ∷ []) ((bytes ++ 41 ∷ []) ++ rest) refl)
    (read_both (Inside fs e t) (One (sign close_parenthesis)) bytes (41 ∷ []) rest f (read_token (sign close_parenthesis) (41 ∷ []) rest refl)))

closing : (rest : List ℕ) → Ends (41 ∷ rest)
closing rest = record { word = refl; number = refl; text = refl }

-- ---- an operator between two operands

record Infix (fs : Fields) (type : ValueType → ValueType → Option ValueType) (make : Expression → Expression → Expression) (between : List ℕ) : Type 0 where
  token : QueryToken
  reads : (rest : List ℕ) → Reads (One token) between rest
  ends : (rest : List ℕ) → Ends (between ++ rest)
  spells : (i : ℕ) (ts us : List PlacedToken) (x y : ExpressionSyntax) → SpellsPrimary ts x → SpellsPrimary us y
      → (z : ExpressionSyntax) × SpellsExpression (ts ++ placed i token ∷ us) z × (bind_expression fs z ≡ two_operands i type make (bind_expression fs x) (bind_expression fs y))

two_said : (fs : Fields) (type : ValueType → ValueType → Option ValueType) (make : Expression → Expression → Expression) (between : List ℕ) (o : Infix fs type make between) (a b : Expression) (r s t : ValueType) → type r s ≡ Some t
    → (ts : List PlacedToken) → Both (Said fs a r) (Both (One o.token) (Said fs b s)) ts → Inside fs (make a b) t ts
two_said fs type make between o a b r s t h _ (both ts _ p (both _ us (one i) q)) =
    let z = o.spells i ts us p.0 q.0 p.1 q.1 in
    (z.0, z.1, (p.2.0 ++ q.2.0, z.2 ∙ ap₂ (λ c d. two_operands i type make c d) p.2.1 q.2.1 ∙ ap (λ k. operator i k (make a b) (p.2.0 ++ q.2.0)) h))

two_written : (fs : Fields) (type : ValueType → ValueType → Option ValueType) (make : Expression → Expression → Expression) (between : List ℕ) (o : Infix fs type make between) (a b : Expression) (r s t : ValueType) → type r s ≡ Some t
    → text_in fs (make a b) ≡ in_parentheses (text_in fs a ++ (between ++ text_in fs b)) → Written fs a r → Written fs b s → Written fs (make a b) t
two_written fs type make between o a b r s t h e f g rest k =
    subst (λ x. Reads (Said fs (make a b) t) x rest) (sym e)
    (read_enclosed fs (make a b) t (text_in fs a ++ (between ++ text_in fs b)) rest
    (read_as (Both (Said fs a r) (Both (One o.token) (Said fs b s))) (Inside fs (make a b) t) (text_in fs a ++ (between ++ text_in fs b)) (41 ∷ rest) (two_said fs type make between o a b r s t h)
    (read_both (Said fs a r) (Both (One o.token) (Said fs b s)) (text_in fs a) (between ++ text_in fs b) (41 ∷ rest)
    (f ((between ++ text_in fs b) ++ 41 ∷ rest) (subst Ends (sym (append_assoc between (text_in fs b) (41 ∷ rest))) (o.ends (text_in fs b ++ 41 ∷ rest))))
    (read_both (One o.token) (Said fs b s) between (text_in fs b) (41 ∷ rest) (o.reads (text_in fs b ++ 41 ∷ rest)) (g (41 ∷ rest) (closing rest))))))

after_blank : (rest : List ℕ) → Ends (32 ∷ rest)
after_blank rest = record { word = refl; number = refl; text = refl }

read_sign_between : (s : Sign) (bs rest : List ℕ) → Reads (One (sign s)) bs (32 ∷ rest) → Reads (One (sign s)) (32 ∷ (bs ++ 32 ∷ [])) rest
read_sign_between s bs rest f = read_after_blank (One (sign s)) (bs ++ 32 ∷ []) rest (read_before_blank (One (sign s)) bs rest f)

sum_sign : (fs : Fields) (o : Arithmetic) → Infix fs (arithmetic_type o) (arithmetic_expression o) (sign_of o)
sum_sign fs plus = record {
  token = sign plus_sign;
  reads = λ rest. read_sign_between plus_sign (43 ∷ []) rest (read_token (sign plus_sign) (43 ∷ []) (32 ∷ rest) refl);
  ends = λ rest. after_blank _;
  spells = λ i ts us x y p q. (arithmetic i plus x y, of_sum _ _ (plus_product i ts us x y (sum_of ts x p) (product_of us y q)), refl);
}
sum_sign fs minus = record {
  token = sign minus_sign;
  reads = λ rest. read_sign_between minus_sign (45 ∷ []) rest (read_token (sign minus_sign) (45 ∷ []) (32 ∷ rest) refl);
  ends = λ rest. after_blank _;
  spells = λ i ts us x y p q. (arithmetic i minus x y, of_sum _ _ (minus_product i ts us x y (sum_of ts x p) (product_of us y q)), refl);
}
sum_sign fs times = record {
  token = sign star;
  reads = λ rest. read_sign_between star (42 ∷ []) rest (read_token (sign star) (42 ∷ []) (32 ∷ rest) refl);
  ends = λ rest. after_blank _;
  spells = λ i ts us x y p q. (arithmetic i times x y, of_sum _ _ (one_product _ _ (times_unary i ts us x y (product_of ts x p) (one_primary us y q))), refl);
}

compared : (fs : Fields) (s : Sign) (c : Comparison) (bs : List ℕ) → IsComparison s c → ((rest : List ℕ) → Reads (One (sign s)) bs (32 ∷ rest)) → Infix fs comparison_type (comparison_expression c) (32 ∷ (bs ++ 32 ∷ []))
compared fs s c bs k f = record {
  token = sign s;
  reads = λ rest. read_sign_between s bs rest (f rest);
  ends = λ rest. after_blank _;
  spells = λ i ts us x y p q. (comparison i c x y, of_test _ _ (compared_sums i s c ts us x y k (sum_of ts x p) (sum_of us y q)), refl);
}

comparing : (fs : Fields) (c : Comparison) → Infix fs comparison_type (comparison_expression c) (comparison_sign c)
comparing fs equal = compared fs equals equal (codes "=") is_equal (λ rest. read_token (sign equals) (codes "=") (32 ∷ rest) refl)
comparing fs unequal = compared fs differs unequal (codes "<>") is_unequal (λ rest. read_token (sign differs) (codes "<>") (32 ∷ rest) refl)
comparing fs less = compared fs less_than less (codes "<") is_less (λ rest. read_token (sign less_than) (codes "<") (32 ∷ rest) (refl, refl))
comparing fs at_most = compared fs less_or_equal at_most (codes "<=") is_at_most (λ rest. read_token (sign less_or_equal) (codes "<=") (32 ∷ rest) refl)
comparing fs greater = compared fs greater_than greater (codes ">") is_greater (λ rest. read_token (sign greater_than) (codes ">") (32 ∷ rest) (refl, refl))
comparing fs at_least = compared fs greater_or_equal at_least (codes ">=") is_at_least (λ rest. read_token (sign greater_or_equal) (codes ">=") (32 ∷ rest) refl)

both_hold : (fs : Fields) → Infix fs logic_type conjunction_expression (codes " AND ")
both_hold fs = record {
  token = reserved and_word;
  reads = λ rest. read_word_between and_word (codes "AND") rest refl refl;
  ends = λ rest. after_blank _;
  spells = λ i ts us x y p q. (conjunction i x y, one_and _ _ (and_not i ts us x y (and_of ts x p) (not_of us y q)), refl);
}

one_holds : (fs : Fields) → Infix fs logic_type disjunction_expression (codes " OR ")
one_holds fs = record {
  token = reserved or_word;
  reads = λ rest. read_word_between or_word (codes "OR") rest refl refl;
  ends = λ rest. after_blank _;
  spells = λ i ts us x y p q. (disjunction i x y, or_and i ts us x y (expression_of ts x p) (and_of us y q), refl);
}

-- ---- an operator before its operand

record Prefix (fs : Fields) (type : ValueType → Option ValueType) (make : Expression → Expression) (before : List ℕ) : Type 0 where
  token : QueryToken
  reads : (rest : List ℕ) → Reads (One token) before rest
  spells : (i : ℕ) (ts : List PlacedToken) (x : ExpressionSyntax) → SpellsPrimary ts x
      → (z : ExpressionSyntax) × SpellsExpression (placed i token ∷ ts) z × (bind_expression fs z ≡ one_operand i type make (bind_expression fs x))

before_said : (fs : Fields) (type : ValueType → Option ValueType) (make : Expression → Expression) (before : List ℕ) (o : Prefix fs type make before) (a : Expression) (r t : ValueType) → type r ≡ Some t
    → (ts : List PlacedToken) → Both (One o.token) (Said fs a r) ts → Inside fs (make a) t ts
before_said fs type make before o a r t h _ (both _ ts (one i) p) =
    let z = o.spells i ts p.0 p.1 in
    (z.0, z.1, (p.2.0, z.2 ∙ ap (λ c. one_operand i type make c) p.2.1 ∙ ap (λ k. operator i k (make a) p.2.0) h))

before_written : (fs : Fields) (type : ValueType → Option ValueType) (make : Expression → Expression) (before : List ℕ) (o : Prefix fs type make before) (a : Expression) (r t : ValueType) → type r ≡ Some t
    → text_in fs (make a) ≡ in_parentheses (before ++ text_in fs a) → Written fs a r → Written fs (make a) t
before_written fs type make before o a r t h e f rest k =
    subst (λ x. Reads (Said fs (make a) t) x rest) (sym e)
    (read_enclosed fs (make a) t (before ++ text_in fs a) rest
    (read_as (Both (One o.token) (Said fs a r)) (Inside fs (make a) t) (before ++ text_in fs a) (41 ∷ rest) (before_said fs type make before o a r t h)
    (read_both (One o.token) (Said fs a r) before (text_in fs a) (41 ∷ rest) (o.reads (text_in fs a ++ 41 ∷ rest)) (f (41 ∷ rest) (closing rest)))))

opposite : (fs : Fields) → Prefix fs (type_from number_type number_type) negative_expression (codes "-")
opposite fs = record {
  token = sign minus_sign;
  reads = λ rest. read_token (sign minus_sign) (codes "-") rest refl;
  spells = λ i ts x p. (negative i x, of_sum _ _ (one_product _ _ (one_unary _ _ (minus_unary i ts x (one_primary ts x p)))), refl);
}

denied : (fs : Fields) → Prefix fs (type_from truth_type truth_type) negation_expression (codes "NOT ")
denied fs = record {
  token = reserved not_word;
  reads = λ rest. read_word_before_blank not_word (codes "NOT") rest refl refl;
  spells = λ i ts x p. (negation i x, one_and _ _ (one_not _ _ (not_not i ts x (not_of ts x p))), refl);
}

-- ---- an operator of two tokens behind its operand

record Suffix (fs : Fields) (type : ValueType → Option ValueType) (make : Expression → Expression) (behind : List ℕ) : Type 0 where
  first : QueryToken
  second : QueryToken
  reads : (rest : List ℕ) → Reads (Both (One first) (One second)) behind (41 ∷ rest)
  ends : (rest : List ℕ) → Ends (behind ++ rest)
  spells : (i j : ℕ) (ts : List PlacedToken) (x : ExpressionSyntax) → SpellsPrimary ts x
      → (z : ExpressionSyntax) × SpellsExpression (ts ++ placed i first ∷ placed j second ∷ []) z × (bind_expression fs z ≡ one_operand i type make (bind_expression fs x))

behind_said : (fs : Fields) (type : ValueType → Option ValueType) (make : Expression → Expression) (behind : List ℕ) (o : Suffix fs type make behind) (a : Expression) (r t : ValueType) → type r ≡ Some t
    → (ts : List PlacedToken) → Both (Said fs a r) (Both (One o.first) (One o.second)) ts → Inside fs (make a) t ts
behind_said fs type make behind o a r t h _ (both ts _ p (both _ _ (one i) (one j))) =
    let z = o.spells i j ts p.0 p.1 in
    (z.0, z.1, (p.2.0, z.2 ∙ ap (λ c. one_operand i type make c) p.2.1 ∙ ap (λ k. operator i k (make a) p.2.0) h))

behind_written : (fs : Fields) (type : ValueType → Option ValueType) (make : Expression → Expression) (behind : List ℕ) (o : Suffix fs type make behind) (a : Expression) (r t : ValueType) → type r ≡ Some t
    → text_in fs (make a) ≡ in_parentheses (text_in fs a ++ behind) → Written fs a r → Written fs (make a) t
behind_written fs type make behind o a r t h e f rest k =
    subst (λ x. Reads (Said fs (make a) t) x rest) (sym e)
    (read_enclosed fs (make a) t (text_in fs a ++ behind) rest
    (read_as (Both (Said fs a r) (Both (One o.first) (One o.second))) (Inside fs (make a) t) (text_in fs a ++ behind) (41 ∷ rest) (behind_said fs type make behind o a r t h)
    (read_both (Said fs a r) (Both (One o.first) (One o.second)) (text_in fs a) behind (41 ∷ rest) (f (behind ++ 41 ∷ rest) (o.ends (41 ∷ rest))) (o.reads rest))))

likened : (fs : Fields) (t : List ℕ) → Suffix fs (type_from text_type truth_type) (λ x. like_expression x t) (codes " LIKE " ++ text_literal t)
likened fs t = record {
  first = reserved like_word;
  second = text t;
  reads = λ rest. read_both (One (reserved like_word)) (One (text t)) (codes " LIKE ") (text_literal t) (41 ∷ rest) (read_word_between like_word (codes "LIKE") _ refl refl) (read_text t (41 ∷ rest) refl);
  ends = λ rest. after_blank _;
  spells = λ i j ts x p. (like i x t, of_test _ _ (like_text i j ts x t (sum_of ts x p)), refl);
}

containing : (fs : Fields) (t : List ℕ) → Suffix fs (type_from text_type truth_type) (λ x. contains_expression x t) (codes " CONTAINS " ++ text_literal t)
containing fs t = record {
  first = reserved contains_word;
  second = text t;
  reads = λ rest. read_both (One (reserved contains_word)) (One (text t)) (codes " CONTAINS ") (text_literal t) (41 ∷ rest) (read_word_between contains_word (codes "CONTAINS") _ refl refl) (read_text t (41 ∷ rest) refl);
  ends = λ rest. after_blank _;
  spells = λ i j ts x p. (contains i x t, of_test _ _ (contains_text i j ts x t (sum_of ts x p)), refl);
}

absent : (fs : Fields) → Suffix fs null_test_type is_null_expression (codes " IS NULL")
absent fs = record {
  first = reserved is_word;
  second = reserved null_word;
  reads = λ rest. read_both (One (reserved is_word)) (One (reserved null_word)) (codes " IS ") (codes "NULL") (41 ∷ rest) (read_word_between is_word (codes "IS") _ refl refl) (read_word null_word (codes "NULL") (41 ∷ rest) refl refl refl);
  ends = λ rest. after_blank _;
  spells = λ i j ts x p. (is_null i x, of_test _ _ (is_null_word i j ts x (sum_of ts x p)), refl);
}

-- ---- literals

number_said : (fs : Fields) (n : ℕ) (ts : List PlacedToken) → One (number n) ts → Said fs (constant (int_value (pos n))) number_type ts
number_said fs n _ (one i) = (number_literal n, a_number i n, ([], refl))

number_written : (fs : Fields) (n : ℕ) → n ≤ greatest_number → Written fs (constant (int_value (pos n))) number_type
number_written fs n h rest k = read_as (One (number n)) (Said fs (constant (int_value (pos n))) number_type) (text_in fs (constant (int_value (pos n)))) rest (number_said fs n) (read_number n rest h k.number)

text_said : (fs : Fields) (t : List ℕ) (ts : List PlacedToken) → One (text t) ts → Said fs (constant (text_value t)) text_type ts
text_said fs t _ (one i) = (text_syntax t, a_text i t, ([], refl))

text_written : (fs : Fields) (t : List ℕ) → Written fs (constant (text_value t)) text_type
text_written fs t rest k = read_as (One (text t)) (Said fs (constant (text_value t)) text_type) (text_literal t) rest (text_said fs t) (read_text t rest k.text)

true_said : (fs : Fields) (ts : List PlacedToken) → One (reserved true_word) ts → Said fs (constant (bool_value true)) truth_type ts
true_said fs _ (one i) = (truth_literal true, a_true i, ([], refl))

false_said : (fs : Fields) (ts : List PlacedToken) → One (reserved false_word) ts → Said fs (constant (bool_value false)) truth_type ts
false_said fs _ (one i) = (truth_literal false, a_false i, ([], refl))

truth_written : (fs : Fields) (b : Bool) → Written fs (constant (bool_value b)) truth_type
truth_written fs true rest k = read_as (One (reserved true_word)) (Said fs (constant (bool_value true)) truth_type) (codes "TRUE") rest (true_said fs) (read_word true_word (codes "TRUE") rest refl refl k.word)
truth_written fs false rest k = read_as (One (reserved false_word)) (Said fs (constant (bool_value false)) truth_type) (codes "FALSE") rest (false_said fs) (read_word false_word (codes "FALSE") rest refl refl k.word)

-- ---- paths

-- tokens, one at least
abbrev pub Begun : List PlacedToken → Type 0
Begun ts = (t : PlacedToken) × (us : List PlacedToken) × (ts ≡ t ∷ us)

pub names_begin : (ts : List PlacedToken) (ns : List (List ℕ)) → SpellsNames ts ns → Begun ts
names_begin _ _ (first_name i n) = (name_at i n, [], refl)
names_begin _ _ (further_name i j ts ns n s) =
    let b = names_begin ts ns s in
    (b.0, b.1 ++ sign_at i dot ∷ name_at j n ∷ [], ap (λ x. x ++ sign_at i dot ∷ name_at j n ∷ []) b.2)

-- names are read as a path of these names
abbrev pub PathOf : List (List ℕ) → List PlacedToken → Type 0
PathOf ns ts = (p : PathSyntax) × SpellsPath ts p × (p.names ≡ ns)

path_of : (ns : List (List ℕ)) (ts : List PlacedToken) → SpellsNames ts ns → PathOf ns ts
path_of ns ts s = let b = names_begin ts ns s in (record { place = b.0.place; names = ns }, ((b.0, b.1, b.2, refl), s), refl)

-- the path to which names lead, as written, is read as a path of these names
pub path_written : (fs : Fields) (ns : List (List ℕ)) (f : Found) → WritableNames ns → find_path ns fs ≡ Some f → (rest : List ℕ) → Ends rest → Reads (PathOf ns) (path_text fs f.path) rest
path_written fs [] f w h rest k = absurd w
path_written fs (n ∷ ns) f w h rest k =
    subst (λ ms. Reads (PathOf (n ∷ ns)) (join_with_byte 46 (map name_text ms)) rest) (sym (path_has_names (n ∷ ns) (group fs) f h))
    (read_as (λ ts. SpellsNames ts (n ∷ ns)) (PathOf (n ∷ ns)) (join_with_byte 46 (map name_text (n ∷ ns))) rest (path_of (n ∷ ns)) (read_names n ns rest w k.word))

pub same_inside : {A : Type 0} (a b : A) → passes a ≡ passes b → a ≡ b
same_inside a b h = cc

-- a path leads to a leaf again, wherever it stands
pub leads_again : (fs : Fields) (ns : List (List ℕ)) (l : Leaf) (p : PathSyntax) → found_leaf ns (find_path ns fs) ≡ Ok l → p.names ≡ ns → bind_path fs p ≡ passes (record { place = p.place; leaf = l })
leads_again fs ns l p h e = ap (λ ms. at_place p.place (found_leaf ms (find_path ms fs))) e ∙ ap (at_place p.place) h

-- what is found at a leaf's names
pub leaf_found : (ns : List (List ℕ)) (o : Option Found) (l : Leaf) → found_leaf ns o ≡ Ok l → (f : Found) × (o ≡ Some f) × (f.path ≡ l.path)
leaf_found ns None l h = absurd (cc)
leaf_found ns (Some f) l h = (f, refl, by_shape f.shape h)
  where
    by_shape : (s : Shape) → leaf_at ns f.path s ≡ Ok l → f.path ≡ l.path
    by_shape (leaf k) e = cc
    by_shape (group fs) e = absurd (cc)

-- the path of a leaf, as written, is read as a path of the names that lead to it
pub leaf_written : (fs : Fields) (ns : List (List ℕ)) (l : Leaf) → WritableNames ns → found_leaf ns (find_path ns fs) ≡ Ok l → (rest : List ℕ) → Ends rest → Reads (PathOf ns) (path_text fs l.path) rest
leaf_written fs ns l w h rest k =
    let d = leaf_found ns (find_path ns fs) l h in
    subst (λ p. Reads (PathOf ns) (path_text fs p) rest) d.2 (path_written fs ns d.0 w d.1 rest k)

leaf_said : (fs : Fields) (ns : List (List ℕ)) (l : Leaf) → found_leaf ns (find_path ns fs) ≡ Ok l → (ts : List PlacedToken) → PathOf ns ts → Said fs (path_value l.path) (kind_type l.kind) ts
leaf_said fs ns l h ts k = (path k.0, a_path ts k.0 k.1, (record { place = k.0.place; leaf = l } ∷ [], ap (checked_map path_expression) (leads_again fs ns l k.0 h k.2)))

pub leaf_value_written : (fs : Fields) (ns : List (List ℕ)) (l : Leaf) → WritableNames ns → found_leaf ns (find_path ns fs) ≡ Ok l → Written fs (path_value l.path) (kind_type l.kind)
leaf_value_written fs ns l w h rest k = read_as (PathOf ns) (Said fs (path_value l.path) (kind_type l.kind)) (path_text fs l.path) rest (leaf_said fs ns l h) (leaf_written fs ns l w h rest k)

-- ---- each expression

abbrev pub OnePasses : (ValueType → Option ValueType) → (Expression → Expression) → Checked BoundExpression → BoundExpression → Type 0
OnePasses type make c b = (a : BoundExpression) × (t : ValueType) × (c ≡ passes a) × (type a.gives ≡ Some t) × (record { expression = make a.expression; gives = t; paths = a.paths } ≡ b)

abbrev pub TwoPass : (ValueType → ValueType → Option ValueType) → (Expression → Expression → Expression) → Checked BoundExpression → Checked BoundExpression → BoundExpression → Type 0
TwoPass type make c d b = (a : BoundExpression) × (e : BoundExpression) × (t : ValueType) × (c ≡ passes a) × (d ≡ passes e) × (type a.gives e.gives ≡ Some t)
    × (record { expression = make a.expression e.expression; gives = t; paths = a.paths ++ e.paths } ≡ b)

operator_passes : (i : ℕ) (o : Option ValueType) (e : Expression) (ps : List BoundPath) (b : BoundExpression) → operator i o e ps ≡ passes b → (t : ValueType) × (o ≡ Some t) × (record { expression = e; gives = t; paths = ps } ≡ b)
operator_passes i None e ps b h = absurd (cc)
operator_passes i (Some t) e ps b h = (t, refl, same_inside (record { expression = e; gives = t; paths = ps }) b h)

pub one_passes : (i : ℕ) (type : ValueType → Option ValueType) (make : Expression → Expression) (c : Checked BoundExpression) (b : BoundExpression) → one_operand i type make c ≡ passes b → OnePasses type make c b
one_passes i type make (passes a) b h = let q = operator_passes i (type a.gives) (make a.expression) a.paths b h in (a, q.0, refl, q.1, q.2)
one_passes i type make (fails e es) b h = absurd (cc)

pub two_pass : (i : ℕ) (type : ValueType → ValueType → Option ValueType) (make : Expression → Expression → Expression) (c d : Checked BoundExpression) (b : BoundExpression) → two_operands i type make c d ≡ passes b → TwoPass type make c d b
two_pass i type make (passes a) (passes e) b h = let q = operator_passes i (type a.gives e.gives) (make a.expression e.expression) (a.paths ++ e.paths) b h in (a, e, q.0, refl, refl, q.1, q.2)
two_pass i type make (passes a) (fails e es) b h = absurd (cc)
two_pass i type make (fails e es) (passes a) b h = absurd (cc)
two_pass i type make (fails e es) (fails f fs) b h = absurd (cc)

pub path_passed : (fs : Fields) (p : PathSyntax) (b : BoundExpression) → checked_map path_expression (bind_path fs p) ≡ passes b → (x : BoundPath) × FoundAt fs p.names x × (path_expression x ≡ b)
path_passed fs p b h = by_path (bind_path fs p) refl h
  where
    by_path : (c : Checked BoundPath) → bind_path fs p ≡ c → checked_map path_expression c ≡ passes b → (x : BoundPath) × FoundAt fs p.names x × (path_expression x ≡ b)
    by_path (passes x) e k = (x, path_passes fs p x e, same_inside (path_expression x) b k)
    by_path (fails f fs′) e k = absurd (cc)

-- what is bound, as written, is read so
abbrev pub BoundWritten : Fields → BoundExpression → Type 0
BoundWritten fs b = Written fs b.expression b.gives

abbrev PassedWritten : Fields → Checked BoundExpression → Type 0
PassedWritten fs c = (b : BoundExpression) → c ≡ passes b → BoundWritten fs b

two_passed_written : (fs : Fields) (i : ℕ) (type : ValueType → ValueType → Option ValueType) (make : Expression → Expression → Expression) (between : List ℕ) (o : Infix fs type make between) (c d : Checked BoundExpression)
    → ((e f : Expression) → text_in fs (make e f) ≡ in_parentheses (text_in fs e ++ (between ++ text_in fs f))) → PassedWritten fs c → PassedWritten fs d → PassedWritten fs (two_operands i type make c d)
two_passed_written fs i type make between o c d e f g b h =
    let q : TwoPass type make c d b = two_pass i type make c d b h in
    subst (BoundWritten fs) q.6 (two_written fs type make between o q.0.expression q.1.expression q.0.gives q.1.gives q.2 q.5 (e q.0.expression q.1.expression) (f q.0 q.3) (g q.1 q.4))

before_passed_written : (fs : Fields) (i : ℕ) (type : ValueType → Option ValueType) (make : Expression → Expression) (before : List ℕ) (o : Prefix fs type make before) (c : Checked BoundExpression)
    → ((e : Expression) → text_in fs (make e) ≡ in_parentheses (before ++ text_in fs e)) → PassedWritten fs c → PassedWritten fs (one_operand i type make c)
before_passed_written fs i type make before o c e f b h =
    let q : OnePasses type make c b = one_passes i type make c b h in
    subst (BoundWritten fs) q.4 (before_written fs type make before o q.0.expression q.0.gives q.1 q.3 (e q.0.expression) (f q.0 q.2))

behind_passed_written : (fs : Fields) (i : ℕ) (type : ValueType → Option ValueType) (make : Expression → Expression) (behind : List ℕ) (o : Suffix fs type make behind) (c : Checked BoundExpression)
    → ((e : Expression) → text_in fs (make e) ≡ in_parentheses (text_in fs e ++ behind)) → PassedWritten fs c → PassedWritten fs (one_operand i type make c)
behind_passed_written fs i type make behind o c e f b h =
    let q : OnePasses type make c b = one_passes i type make c b h in
    subst (BoundWritten fs) q.4 (behind_written fs type make behind o q.0.expression q.0.gives q.1 q.3 (e q.0.expression) (f q.0 q.2))

literal_written : (fs : Fields) (a : BoundExpression) → BoundWritten fs a → PassedWritten fs (passes a)
literal_written fs a f b h = subst (BoundWritten fs) (same_inside a b h) f

path_passed_written : (fs : Fields) (p : PathSyntax) → WritableNames p.names → PassedWritten fs (checked_map path_expression (bind_path fs p))
path_passed_written fs p w b h =
    let q : (x : BoundPath) × FoundAt fs p.names x × (path_expression x ≡ b) = path_passed fs p b h in
    subst (BoundWritten fs) q.2 (leaf_value_written fs p.names q.0.leaf w q.1)

-- each expression that a tree is bound to, as written, is read as a primary that is bound to it
pub expression_written : (fs : Fields) (x : ExpressionSyntax) → Writable x → (b : BoundExpression) → bind_expression fs x ≡ passes b → Written fs b.expression b.gives
expression_written fs (number_literal n) w = literal_written fs _ (number_written fs n w)
expression_written fs (text_syntax t) w = literal_written fs _ (text_written fs t)
expression_written fs (truth_literal v) w = literal_written fs _ (truth_written fs v)
expression_written fs (path p) w = path_passed_written fs p w
expression_written fs (negative i x) w = before_passed_written fs i (type_from number_type number_type) negative_expression (codes "-") (opposite fs) (bind_expression fs x) (λ e. refl) (expression_written fs x w)
expression_written fs (arithmetic i o x y) w = two_passed_written fs i (arithmetic_type o) (arithmetic_expression o) (sign_of o) (sum_sign fs o) (bind_expression fs x) (bind_expression fs y) (λ e f. refl)
    (expression_written fs x w.0) (expression_written fs y w.1)
expression_written fs (comparison i c x y) w = two_passed_written fs i comparison_type (comparison_expression c) (comparison_sign c) (comparing fs c) (bind_expression fs x) (bind_expression fs y) (λ e f. refl)
    (expression_written fs x w.0) (expression_written fs y w.1)
expression_written fs (like i x t) w = behind_passed_written fs i (type_from text_type truth_type) (λ e. like_expression e t) (codes " LIKE " ++ text_literal t) (likened fs t) (bind_expression fs x) (λ e. refl) (expression_written fs x w)
expression_written fs (contains i x t) w = behind_passed_written fs i (type_from text_type truth_type) (λ e. contains_expression e t) (codes " CONTAINS " ++ text_literal t) (containing fs t) (bind_expression fs x) (λ e. refl) (expression_written fs x w)
expression_written fs (is_null i x) w = behind_passed_written fs i null_test_type is_null_expression (codes " IS NULL") (absent fs) (bind_expression fs x) (λ e. refl) (expression_written fs x w)
expression_written fs (negation i x) w = before_passed_written fs i (type_from truth_type truth_type) negation_expression (codes "NOT ") (denied fs) (bind_expression fs x) (λ e. refl) (expression_written fs x w)
expression_written fs (conjunction i x y) w = two_passed_written fs i logic_type conjunction_expression (codes " AND ") (both_hold fs) (bind_expression fs x) (bind_expression fs y) (λ e f. refl) (expression_written fs x w.0) (expression_written fs y w.1)
expression_written fs (disjunction i x y) w = two_passed_written fs i logic_type disjunction_expression (codes " OR ") (one_holds fs) (bind_expression fs x) (bind_expression fs y) (λ e f. refl) (expression_written fs x w.0) (expression_written fs y w.1)
