-- The tokens before a fault in an expression begin an expression, production by production.
use Rattle.std.specs.Prelude.{◌≡◌, ℕ, zero, suc, List, [], ◌∷◌, ◌++◌, length, true, false, Option, Some, None}
use Rattle.std.proofs.Common.{refl, sym, ap, subst, ◌∙◌, append_assoc, append-nil}
use Rattle.dr_meaning.specs.Tokens.{or_word, and_word, not_word, dot, star, plus_sign, minus_sign, close_parenthesis, open_parenthesis, QueryToken, reserved}
use Rattle.dr_meaning.specs.Tokens.{identifier, number, text, sign, bad, true_word, false_word, Sign, PlacedToken, placed}
use Rattle.dr_meaning.specs.Tokens.{equals, differs, less_than, less_or_equal, greater_than, greater_or_equal, like_word, contains_word, is_word, null_word}
use Rattle.dr_meaning.specs.Expression.{plus, minus, times, Comparison, equal, unequal, less, at_most, greater, at_least}
use Rattle.dr_meaning.specs.Syntax.{PathSyntax, ExpressionSyntax, number_literal, text_literal, truth_literal, path, negative, arithmetic}
use Rattle.dr_meaning.specs.Syntax.{comparison, like, contains, is_null, negation, conjunction, disjunction}
use Rattle.dr_meaning.specs.Parse.{Unread, Production, give, ◌>>=◌, first_token, passes, place_of, problem_here, syntax, too_deep, if_next}
use Rattle.dr_meaning.specs.Parse.{any_token, operator, word, mark, name, quoted_text, is_the_word, is_the_sign, comparison_in, Joining, or_in, and_in, sum_in, product_in}
use Rattle.dr_meaning.specs.Parse.{further_names, names, path_names, Nesting, parenthesized, negated, signed, Inner, literal, path_operand, primary_at, primary, unary}
use Rattle.dr_meaning.specs.Parse.{further_operands, operands, product_of, sum_of, plain, like_test, contains_test, text_test, denied_test, denied_null, plain_null, null_test}
use Rattle.dr_meaning.specs.Parse.{comparison_test, word_test, tested, test_of, not_of, and_of, expression_of, nested}
use Rattle.dr_meaning.specs.QueryGrammar.{word_at, sign_at, name_at, text_at, SpellsNames, first_name, further_name, SpellsPath, IsComparison, is_equal, is_unequal}
use Rattle.dr_meaning.specs.QueryGrammar.{is_less, is_at_most, is_greater, is_at_least, SpellsExpression, one_and, or_and, SpellsAnd, one_not, and_not, SpellsNot, not_not, one_test}
use Rattle.dr_meaning.specs.QueryGrammar.{SpellsTest, one_sum, compared_sums, like_text, not_like_text, contains_text, not_contains_text, is_null_word, is_not_null, SpellsSum}
use Rattle.dr_meaning.specs.QueryGrammar.{one_product, plus_product, minus_product, SpellsProduct, one_unary, times_unary, SpellsUnary, minus_unary, one_primary, SpellsPrimary}
use Rattle.dr_meaning.specs.QueryGrammar.{a_number, a_text, a_true, a_false, a_path, in_parentheses, BeginsAt}
use Rattle.dr_meaning.proofs.SyntaxReading.{NextToken, next_token, word_is, sign_is_this}
use Rattle.dr_query_laws.proofs.Outcomes.{Filled, OneFirst, Outcome, weaker, Seq, seq, Nothing, gives, fills_nothing, stops_here, if_outcome, by_outcome, One, any_of, operator_of}
use Rattle.dr_query_laws.proofs.Outcomes.{known_word, known_sign, known_operator, word_outcome, mark_outcome, IsName, IsText, name_outcome, text_outcome, Behind, one_seq}
use Rattle.dr_query_laws.proofs.Outcomes.{fills_one, fills_seq, Begun, begun}

-- ---- paths

-- further names behind others
abbrev NamesMore : List (List ℕ) → List PlacedToken → List (List ℕ) → Type 0
NamesMore ns ws ms = (us : List PlacedToken) → SpellsNames us ns → SpellsNames (us ++ ws) ms

no_more_names : (ns : List (List ℕ)) (ws : List PlacedToken) (ms : List (List ℕ)) → Nothing (List (List ℕ)) ns ws ms → NamesMore ns ws ms
no_more_names ns ws ms x us s = subst (SpellsNames (us ++ ws)) x.same (subst (λ xs. SpellsNames xs ns) (sym (ap (λ xs. us ++ xs) x.none ∙ append-nil us)) s)

fills_names : (ns : List (List ℕ)) → Filled (List (List ℕ)) (NamesMore ns)
fills_names ns = record { tokens = []; value = ns; spelled = no_more_names ns [] ns (record { none = refl; same = refl }) }

-- a name and those behind it
abbrev NameAndMore : List (List ℕ) → ℕ → List PlacedToken → List (List ℕ) → Type 0
NameAndMore ns i = Seq (List ℕ) (List (List ℕ)) IsName (λ n. NamesMore (ns ++ n ∷ []))

fills_name : Filled (List ℕ) IsName
fills_name = record { tokens = name_at 0 (97 ∷ []) ∷ []; value = 97 ∷ []; spelled = record { place = 0; tokens = refl } }

dotted : (ns : List (List ℕ)) (ts : List PlacedToken) (ms : List (List ℕ)) → Behind (List (List ℕ)) (sign dot) (NameAndMore ns) ts ms → NamesMore ns ts ms
dotted ns ts ms x us s =
    let y = x.second in
    let two = sign_at x.place dot ∷ name_at y.first.place y.middle ∷ [] in
    let tokens : ts ≡ two ++ y.rest = x.tokens ∙ ap (λ xs. sign_at x.place dot ∷ xs) (y.tokens ∙ ap (λ xs. xs ++ y.rest) y.first.tokens) in
    let all = y.second (us ++ two) (further_name x.place y.first.place us ns y.middle s) in
    subst (λ xs. SpellsNames xs ms) (append_assoc us two y.rest ∙ ap (λ xs. us ++ xs) (sym tokens)) all

names_go : (k : ℕ) (ns : List (List ℕ)) (u : Unread) → Outcome (List (List ℕ)) (NamesMore ns) u (further_names k ns u)
names_go zero ns u = weaker (Nothing (List (List ℕ)) ns) (NamesMore ns) u (give ns u) (no_more_names ns) (gives ns u)
names_go (suc k) ns u = if_outcome (NamesMore ns) (is_the_sign dot) (any_token >>= (λ _. name >>= (λ n. further_names k (ns ++ n ∷ [])))) (give ns) u
    (λ m. weaker (Behind (List (List ℕ)) (sign dot) (NameAndMore ns)) (NamesMore ns) u ((any_token >>= (λ _. name >>= (λ n. further_names k (ns ++ n ∷ [])))) u) (dotted ns)
    (one_seq (sign dot) (NameAndMore ns) u (any_token u) (λ _. name >>= (λ n. further_names k (ns ++ n ∷ [])))
    (λ i. fills_seq IsName (λ n. NamesMore (ns ++ n ∷ [])) fills_name (λ n. fills_names (ns ++ n ∷ [])))
    (λ i v. seq IsName (λ n. NamesMore (ns ++ n ∷ [])) v (name v) (λ n. further_names k (ns ++ n ∷ [])) (λ n. fills_names (ns ++ n ∷ [])) (λ n w. names_go k (ns ++ n ∷ []) w) (name_outcome v))
    (known_sign dot u m)))
    (weaker (Nothing (List (List ℕ)) ns) (NamesMore ns) u (give ns u) (no_more_names ns) (gives ns u))

all_names : (ts : List PlacedToken) (ms : List (List ℕ)) → Seq (List ℕ) (List (List ℕ)) IsName (λ n. NamesMore (n ∷ [])) ts ms → SpellsNames ts ms
all_names ts ms x =
    let first = subst (λ xs. SpellsNames xs (x.middle ∷ [])) (sym x.first.tokens) (first_name x.first.place x.middle) in
    subst (λ xs. SpellsNames xs ms) (sym x.tokens) (x.second x.front first)

names_outcome : (u : Unread) → Outcome (List (List ℕ)) SpellsNames u (names u)
names_outcome u = weaker (Seq (List ℕ) (List (List ℕ)) IsName (λ n. NamesMore (n ∷ []))) SpellsNames u (names u) all_names
    (seq IsName (λ n. NamesMore (n ∷ [])) u (name u) (λ n v. further_names (length v.tokens) (n ∷ []) v) (λ n. fills_names (n ∷ [])) (λ n v. names_go (length v.tokens) (n ∷ []) v) (name_outcome u))

-- a path, wherever it says that it stands
record PathAt (i : ℕ) (ts : List PlacedToken) (p : PathSyntax) : Type 0 where
  place : p.place ≡ i
  names : SpellsNames ts p.names

abbrev pub path_of : ℕ → List (List ℕ) → PathSyntax
path_of i ns = record { place = i; names = ns }

named_path : (i : ℕ) (ts : List PlacedToken) (p : PathSyntax) → Seq (List (List ℕ)) PathSyntax SpellsNames (λ ns. Nothing PathSyntax (path_of i ns)) ts p → PathAt i ts p
named_path i ts p x =
    let tokens : x.front ≡ ts = sym (append-nil x.front) ∙ (ap (λ xs. x.front ++ xs) (sym x.second.none) ∙ sym x.tokens) in
    subst (PathAt i ts) x.second.same (record { place = refl; names = subst (λ xs. SpellsNames xs x.middle) tokens x.first })

begun_names : (ts : List PlacedToken) (ns : List (List ℕ)) → SpellsNames ts ns → Begun ts
begun_names _ _ (first_name i n) = record { first = name_at i n; others = []; tokens = refl }
begun_names _ _ (further_name i j ts ns n s) =
    let b = begun_names ts ns s in
    record { first = b.first; others = b.others ++ sign_at i dot ∷ name_at j n ∷ []; tokens = ap (λ xs. xs ++ sign_at i dot ∷ name_at j n ∷ []) b.tokens }

pub path_outcome : (u : Unread) → Outcome PathSyntax SpellsPath u (path_names u)
path_outcome u = begun PathAt SpellsPath (λ i ts p s. begun_names ts p.names s.names) (λ i j ts p s. (path_of j p.names, record { place = refl; names = s.names }))
    (λ i ts p b s. (subst (λ k. BeginsAt k ts) (sym s.place) b, s.names)) u (path_names u)
    (weaker (Seq (List (List ℕ)) PathSyntax SpellsNames (λ ns. Nothing PathSyntax (path_of (place_of u) ns))) (PathAt (place_of u)) u (path_names u) (named_path (place_of u))
    (seq SpellsNames (λ ns. Nothing PathSyntax (path_of (place_of u) ns)) u (names u) (λ ns. give (path_of (place_of u) ns)) (λ ns. fills_nothing (path_of (place_of u) ns))
    (λ ns v. gives (path_of (place_of u) ns) v) (names_outcome u)))

abbrev pub fills_path : Filled PathSyntax SpellsPath
fills_path = record { tokens = name_at 0 (97 ∷ []) ∷ []; value = path_of 0 ((97 ∷ []) ∷ []); spelled = ((name_at 0 (97 ∷ []), [], refl, refl), first_name 0 (97 ∷ [])) }

-- ---- something of each kind

abbrev nought : List PlacedToken
nought = placed 0 (number 0) ∷ []

abbrev a_primary : Filled ExpressionSyntax SpellsPrimary
a_primary = record { tokens = nought; value = number_literal 0; spelled = a_number 0 0 }

abbrev a_unary : Filled ExpressionSyntax SpellsUnary
a_unary = record { tokens = nought; value = number_literal 0; spelled = one_primary nought (number_literal 0) (a_number 0 0) }

abbrev a_product : Filled ExpressionSyntax SpellsProduct
a_product = record { tokens = nought; value = number_literal 0; spelled = one_unary nought (number_literal 0) a_unary.spelled }

abbrev a_sum : Filled ExpressionSyntax SpellsSum
a_sum = record { tokens = nought; value = number_literal 0; spelled = one_product nought (number_literal 0) a_product.spelled }

abbrev a_not : Filled ExpressionSyntax SpellsNot
a_not = record { tokens = nought; value = number_literal 0; spelled = one_test nought (number_literal 0) (one_sum nought (number_literal 0) a_sum.spelled) }

abbrev an_and : Filled ExpressionSyntax SpellsAnd
an_and = record { tokens = nought; value = number_literal 0; spelled = one_not nought (number_literal 0) a_not.spelled }

abbrev pub fills_expression : Filled ExpressionSyntax SpellsExpression
fills_expression = record { tokens = nought; value = number_literal 0; spelled = one_and nought (number_literal 0) an_and.spelled }

-- ---- primaries

-- how a nesting is spelled, and the token that opens it
abbrev SpellsNested : Nesting → List PlacedToken → ExpressionSyntax → Type 0
SpellsNested parenthesized ts e = SpellsPrimary ts e
SpellsNested negated ts e = SpellsNot ts e
SpellsNested signed ts e = SpellsUnary ts e

abbrev pub Opens : Nesting → Unread → Type 0
Opens parenthesized u = NextToken (is_the_sign open_parenthesis) u
Opens negated u = NextToken (is_the_word not_word) u
Opens signed u = NextToken (is_the_sign minus_sign) u

abbrev pub InnerGoes : Inner → Type 0
InnerGoes inner = (o : Nesting) (u : Unread) → Opens o u → Outcome ExpressionSyntax (SpellsNested o) u (inner o u)

literal_by : (e : ExpressionSyntax) (t : QueryToken) → ((i : ℕ) → SpellsPrimary (placed i t ∷ []) e) → (ts : List PlacedToken) (b : ExpressionSyntax)
    → Behind ExpressionSyntax t (λ i. Nothing ExpressionSyntax e) ts b → SpellsPrimary ts b
literal_by e t spelled ts b x =
    subst (SpellsPrimary ts) x.second.same (subst (λ xs. SpellsPrimary xs e) (sym (x.tokens ∙ ap (λ xs. placed x.place t ∷ xs) x.second.none)) (spelled x.place))

-- the next token, which is this one
pub record Next (t : QueryToken) (u : Unread) : Type 0 where
  pub first : PlacedToken
  pub rest : List PlacedToken
  pub tokens : u.tokens ≡ first ∷ rest
  pub this : first.token ≡ t

pub next_by : (t : QueryToken) (ts : List PlacedToken) (n k : ℕ) → first_token ts ≡ Some t → Next t (record { tokens = ts; size = n; operators = k })
next_by t [] n k h = absurd (cc h)
next_by t (s ∷ ts) n k h = let e : s.token ≡ t = cc in record { first = s; rest = ts; tokens = refl; this = e }

literal_goes : (e : ExpressionSyntax) (t : QueryToken) → ((i : ℕ) → SpellsPrimary (placed i t ∷ []) e) → (u : Unread) → first_token u.tokens ≡ Some t
    → Outcome ExpressionSyntax SpellsPrimary u (literal e u)
literal_goes e t spelled u h =
    let n = next_by t u.tokens u.size u.operators h in
    weaker (Behind ExpressionSyntax t (λ i. Nothing ExpressionSyntax e)) SpellsPrimary u (literal e u) (literal_by e t spelled)
    (one_seq t (λ i. Nothing ExpressionSyntax e) u (any_token u) (λ _. give e) (λ i. fills_nothing e) (λ i v. gives e v)
    (weaker (One n.first.token) (One t) u (any_token u) (λ ts i x. x ∙ ap (λ y. placed i y ∷ []) n.this) (any_of u n.first n.rest n.tokens)))

path_primary : (ts : List PlacedToken) (b : ExpressionSyntax) → Seq PathSyntax ExpressionSyntax SpellsPath (λ p. Nothing ExpressionSyntax (path p)) ts b → SpellsPrimary ts b
path_primary ts b x =
    let tokens : x.front ≡ ts = sym (append-nil x.front) ∙ (ap (λ xs. x.front ++ xs) (sym x.second.none) ∙ sym x.tokens) in
    subst (SpellsPrimary ts) x.second.same (subst (λ xs. SpellsPrimary xs (path x.middle)) tokens (a_path x.front x.middle x.first))

path_operand_goes : (u : Unread) → Outcome ExpressionSyntax SpellsPrimary u (path_operand u)
path_operand_goes u = weaker (Seq PathSyntax ExpressionSyntax SpellsPath (λ p. Nothing ExpressionSyntax (path p))) SpellsPrimary u (path_operand u) path_primary
    (seq SpellsPath (λ p. Nothing ExpressionSyntax (path p)) u (path_names u) (λ p. give (path p)) (λ p. fills_nothing (path p)) (λ p v. gives (path p) v) (path_outcome u))

primary_by : (inner : Inner) → InnerGoes inner → (o : Option QueryToken) (u : Unread) → first_token u.tokens ≡ o → Outcome ExpressionSyntax SpellsPrimary u (primary_at inner o u)
primary_by inner goes (Some (number n)) u f = literal_goes (number_literal n) (number n) (λ i. a_number i n) u f
primary_by inner goes (Some (text t)) u f = literal_goes (text_literal t) (text t) (λ i. a_text i t) u f
primary_by inner goes (Some (reserved true_word)) u f = literal_goes (truth_literal true) (reserved true_word) a_true u f
primary_by inner goes (Some (reserved false_word)) u f = literal_goes (truth_literal false) (reserved false_word) a_false u f
primary_by inner goes (Some (identifier n)) u f = path_operand_goes u
primary_by inner goes (Some (sign open_parenthesis)) u f = goes parenthesized u (next_token (is_the_sign open_parenthesis) u (ap (passes (is_the_sign open_parenthesis)) f))
primary_by inner goes (Some (sign s)) u f = stops_here SpellsPrimary syntax u a_primary tt
primary_by inner goes (Some (reserved w)) u f = stops_here SpellsPrimary syntax u a_primary tt
primary_by inner goes (Some bad) u f = stops_here SpellsPrimary syntax u a_primary tt
primary_by inner goes None u f = stops_here SpellsPrimary syntax u a_primary tt

primary_goes : (inner : Inner) → InnerGoes inner → (u : Unread) → Outcome ExpressionSyntax SpellsPrimary u (primary inner u)
primary_goes inner goes u = primary_by inner goes (first_token u.tokens) u refl

pub unary_goes : (inner : Inner) → InnerGoes inner → (u : Unread) → Outcome ExpressionSyntax SpellsUnary u (unary inner u)
unary_goes inner goes u = if_outcome SpellsUnary (is_the_sign minus_sign) (inner signed) (primary inner) u (goes signed u)
    (weaker SpellsPrimary SpellsUnary u (primary inner u) one_primary (primary_goes inner goes u))

-- ---- operands joined by operators

-- an operand behind an operator joins what is before them
abbrev pub JoinsAs : (List PlacedToken → ExpressionSyntax → Type 0) → (List PlacedToken → ExpressionSyntax → Type 0) → (QueryToken → Option Joining) → Type 0
JoinsAs R S joining = (i : ℕ) (t : QueryToken) (join : Joining) (ts us : List PlacedToken) (a b : ExpressionSyntax) → joining t ≡ Some join → R ts a → S us b → R (ts ++ placed i t ∷ us) (join i a b)

-- further operands behind an expression
abbrev OperandsMore : (List PlacedToken → ExpressionSyntax → Type 0) → ExpressionSyntax → List PlacedToken → ExpressionSyntax → Type 0
OperandsMore R a ws b = (us : List PlacedToken) → R us a → R (us ++ ws) b

no_operands : (R : List PlacedToken → ExpressionSyntax → Type 0) (a : ExpressionSyntax) (ws : List PlacedToken) (b : ExpressionSyntax) → Nothing ExpressionSyntax a ws b → OperandsMore R a ws b
no_operands R a ws b x us r = subst (R (us ++ ws)) x.same (subst (λ xs. R xs a) (sym (ap (λ xs. us ++ xs) x.none ∙ append-nil us)) r)

fills_operands : (R : List PlacedToken → ExpressionSyntax → Type 0) (a : ExpressionSyntax) → Filled ExpressionSyntax (OperandsMore R a)
fills_operands R a = record { tokens = []; value = a; spelled = no_operands R a [] a (record { none = refl; same = refl }) }

-- an operand behind an operator, and those behind it
abbrev OneAndMore : (List PlacedToken → ExpressionSyntax → Type 0) → (List PlacedToken → ExpressionSyntax → Type 0) → Joining → ExpressionSyntax → ℕ → List PlacedToken → ExpressionSyntax → Type 0
OneAndMore R S join a i = Seq ExpressionSyntax ExpressionSyntax S (λ c. OperandsMore R (join i a c))

joined : (R S : List PlacedToken → ExpressionSyntax → Type 0) (joining : QueryToken → Option Joining) → JoinsAs R S joining → (t : QueryToken) (join : Joining) → joining t ≡ Some join
    → (a : ExpressionSyntax) (ts : List PlacedToken) (b : ExpressionSyntax) → Behind ExpressionSyntax t (OneAndMore R S join a) ts b → OperandsMore R a ts b
joined R S joining step t join means a ts b x us r =
    let y = x.second in
    let front = placed x.place t ∷ y.front in
    let tokens : ts ≡ front ++ y.rest = x.tokens ∙ ap (λ xs. placed x.place t ∷ xs) y.tokens in
    let all = y.second (us ++ front) (step x.place t join us y.front a y.middle means r y.first) in
    subst (λ xs. R xs b) (append_assoc us front y.rest ∙ ap (λ xs. us ++ xs) (sym tokens)) all

operands_go : (R S : List PlacedToken → ExpressionSyntax → Type 0) (joining : QueryToken → Option Joining) (operand : Production ExpressionSyntax) → Filled ExpressionSyntax S
    → ((u : Unread) → Outcome ExpressionSyntax S u (operand u)) → JoinsAs R S joining → (k : ℕ) (a : ExpressionSyntax) (u : Unread)
    → Outcome ExpressionSyntax (OperandsMore R a) u (further_operands joining operand k a u)
operands_go R S joining operand fill goes step zero a u = weaker (Nothing ExpressionSyntax a) (OperandsMore R a) u (give a u) (no_operands R a) (gives a u)
operands_go R S joining operand fill goes step (suc k) a u =
    by_outcome (OperandsMore R a) joining (λ join. operator >>= (λ i. operand >>= (λ c. further_operands joining operand k (join i a c)))) (give a) u
    (λ join m. weaker (Behind ExpressionSyntax m.first.token (OneAndMore R S join a)) (OperandsMore R a) u ((operator >>= (λ i. operand >>= (λ c. further_operands joining operand k (join i a c)))) u)
    (joined R S joining step m.first.token join m.means a)
    (one_seq m.first.token (OneAndMore R S join a) u (operator u) (λ i. operand >>= (λ c. further_operands joining operand k (join i a c)))
    (λ i. fills_seq S (λ c. OperandsMore R (join i a c)) fill (λ c. fills_operands R (join i a c)))
    (λ i v. seq S (λ c. OperandsMore R (join i a c)) v (operand v) (λ c. further_operands joining operand k (join i a c)) (λ c. fills_operands R (join i a c))
    (λ c w. operands_go R S joining operand fill goes step k (join i a c) w) (goes v))
    (operator_of u m.first m.rest m.tokens)))
    (weaker (Nothing ExpressionSyntax a) (OperandsMore R a) u (give a u) (no_operands R a) (gives a u))

all_operands : (R S : List PlacedToken → ExpressionSyntax → Type 0) → ((ts : List PlacedToken) (e : ExpressionSyntax) → S ts e → R ts e) → (ts : List PlacedToken) (b : ExpressionSyntax)
    → Seq ExpressionSyntax ExpressionSyntax S (OperandsMore R) ts b → R ts b
all_operands R S embed ts b x = subst (λ xs. R xs b) (sym x.tokens) (x.second x.front (embed x.front x.middle x.first))

operands_outcome : (R S : List PlacedToken → ExpressionSyntax → Type 0) (joining : QueryToken → Option Joining) (operand : Production ExpressionSyntax) → Filled ExpressionSyntax S
    → ((u : Unread) → Outcome ExpressionSyntax S u (operand u)) → ((ts : List PlacedToken) (e : ExpressionSyntax) → S ts e → R ts e) → JoinsAs R S joining → (u : Unread)
    → Outcome ExpressionSyntax R u (operands joining operand u)
operands_outcome R S joining operand fill goes embed step u = weaker (Seq ExpressionSyntax ExpressionSyntax S (OperandsMore R)) R u (operands joining operand u) (all_operands R S embed)
    (seq S (OperandsMore R) u (operand u) (λ a v. further_operands joining operand (length v.tokens) a v) (fills_operands R)
    (λ a v. operands_go R S joining operand fill goes step (length v.tokens) a v) (goes u))

pub or_step : JoinsAs SpellsExpression SpellsAnd or_in
or_step i (reserved or_word) join ts us a b h r s = let e : disjunction ≡ join = cc in subst (λ j. SpellsExpression (ts ++ word_at i or_word ∷ us) (j i a b)) e (or_and i ts us a b r s)
or_step i (reserved w) join ts us a b h r s = absurd (cc h)
or_step i t join ts us a b h r s = absurd (cc h)

pub and_step : JoinsAs SpellsAnd SpellsNot and_in
and_step i (reserved and_word) join ts us a b h r s = let e : conjunction ≡ join = cc in subst (λ j. SpellsAnd (ts ++ word_at i and_word ∷ us) (j i a b)) e (and_not i ts us a b r s)
and_step i (reserved w) join ts us a b h r s = absurd (cc h)
and_step i t join ts us a b h r s = absurd (cc h)

pub sum_step : JoinsAs SpellsSum SpellsProduct sum_in
sum_step i (sign plus_sign) join ts us a b h r s =
    let e : (λ (k : ℕ). arithmetic k plus) ≡ join = cc in subst (λ j. SpellsSum (ts ++ sign_at i plus_sign ∷ us) (j i a b)) e (plus_product i ts us a b r s)
sum_step i (sign minus_sign) join ts us a b h r s =
    let e : (λ (k : ℕ). arithmetic k minus) ≡ join = cc in subst (λ j. SpellsSum (ts ++ sign_at i minus_sign ∷ us) (j i a b)) e (minus_product i ts us a b r s)
sum_step i (sign g) join ts us a b h r s = absurd (cc h)
sum_step i t join ts us a b h r s = absurd (cc h)

pub product_step : JoinsAs SpellsProduct SpellsUnary product_in
product_step i (sign star) join ts us a b h r s =
    let e : (λ (k : ℕ). arithmetic k times) ≡ join = cc in subst (λ j. SpellsProduct (ts ++ sign_at i star ∷ us) (j i a b)) e (times_unary i ts us a b r s)
product_step i (sign g) join ts us a b h r s = absurd (cc h)
product_step i t join ts us a b h r s = absurd (cc h)

pub product_goes : (inner : Inner) → InnerGoes inner → (u : Unread) → Outcome ExpressionSyntax SpellsProduct u (product_of inner u)
product_goes inner goes u = operands_outcome SpellsProduct SpellsUnary product_in (unary inner) a_unary (unary_goes inner goes) one_unary product_step u

pub sum_goes : (inner : Inner) → InnerGoes inner → (u : Unread) → Outcome ExpressionSyntax SpellsSum u (sum_of inner u)
sum_goes inner goes u = operands_outcome SpellsSum SpellsProduct sum_in (product_of inner) a_product (product_goes inner goes) one_product sum_step u

-- ---- tests

-- what stands behind a sum
abbrev TestMore : ExpressionSyntax → List PlacedToken → ExpressionSyntax → Type 0
TestMore a ws b = (us : List PlacedToken) → SpellsSum us a → SpellsTest (us ++ ws) b

no_test : (a : ExpressionSyntax) (ws : List PlacedToken) (b : ExpressionSyntax) → Nothing ExpressionSyntax a ws b → TestMore a ws b
no_test a ws b x us s = subst (SpellsTest (us ++ ws)) x.same (subst (λ xs. SpellsTest xs a) (sym (ap (λ xs. us ++ xs) x.none ∙ append-nil us)) (one_sum us a s))

-- tokens that are these, behind a sum, spell a test
tested_by : (ws vs us : List PlacedToken) (a b : ExpressionSyntax) → ws ≡ vs → a ≡ b → SpellsTest (us ++ vs) a → SpellsTest (us ++ ws) b
tested_by ws vs us a b e f s = subst (SpellsTest (us ++ ws)) f (subst (λ xs. SpellsTest (us ++ xs) a) (sym e) s)

-- a text, for the expression that is made of it
abbrev TextFor : (List ℕ → ExpressionSyntax) → List PlacedToken → ExpressionSyntax → Type 0
TextFor make = Seq (List ℕ) ExpressionSyntax IsText (λ t. Nothing ExpressionSyntax (make t))

fills_text : (make : List ℕ → ExpressionSyntax) → Filled ExpressionSyntax (TextFor make)
fills_text make = fills_seq IsText (λ t. Nothing ExpressionSyntax (make t)) (record { tokens = text_at 0 [] ∷ []; value = []; spelled = record { place = 0; tokens = refl } })
    (λ t. fills_nothing (make t))

text_for : (make : List ℕ → ExpressionSyntax) (u : Unread) → Outcome ExpressionSyntax (TextFor make) u ((quoted_text >>= (λ t. give (make t))) u)
text_for make u = seq IsText (λ t. Nothing ExpressionSyntax (make t)) u (quoted_text u) (λ t. give (make t)) (λ t. fills_nothing (make t)) (λ t v. gives (make t) v) (text_outcome u)

text_tokens : (make : List ℕ → ExpressionSyntax) (ts : List PlacedToken) (b : ExpressionSyntax) → (x : TextFor make ts b) → ts ≡ text_at x.first.place x.middle ∷ []
text_tokens make ts b x = x.tokens ∙ (ap (λ xs. xs ++ x.rest) x.first.tokens ∙ ap (λ xs. text_at x.first.place x.middle ∷ xs) x.second.none)

-- LIKE text; CONTAINS text
abbrev LikeTail : (ℕ → ExpressionSyntax → ExpressionSyntax) → ExpressionSyntax → List PlacedToken → ExpressionSyntax → Type 0
LikeTail shaped a = Behind ExpressionSyntax (reserved like_word) (λ i. TextFor (λ t. shaped i (like i a t)))

abbrev ContainsTail : (ℕ → ExpressionSyntax → ExpressionSyntax) → ExpressionSyntax → List PlacedToken → ExpressionSyntax → Type 0
ContainsTail shaped a = Behind ExpressionSyntax (reserved contains_word) (λ i. TextFor (λ t. shaped i (contains i a t)))

fills_like : (shaped : ℕ → ExpressionSyntax → ExpressionSyntax) (a : ExpressionSyntax) → Filled ExpressionSyntax (LikeTail shaped a)
fills_like shaped a = fills_one (reserved like_word) (λ i. TextFor (λ t. shaped i (like i a t))) (fills_text (λ t. shaped 0 (like 0 a t)))

like_tail : (shaped : ℕ → ExpressionSyntax → ExpressionSyntax) (a : ExpressionSyntax) (u : Unread) → NextToken (is_the_word like_word) u
    → Outcome ExpressionSyntax (LikeTail shaped a) u (like_test shaped a u)
like_tail shaped a u n = one_seq (reserved like_word) (λ i. TextFor (λ t. shaped i (like i a t))) u (any_token u) (λ i. quoted_text >>= (λ t. give (shaped i (like i a t))))
    (λ i. fills_text (λ t. shaped i (like i a t))) (λ i v. text_for (λ t. shaped i (like i a t)) v) (known_word like_word u n)

contains_tail : (shaped : ℕ → ExpressionSyntax → ExpressionSyntax) (a : ExpressionSyntax) (u : Unread) → NextToken (is_the_word contains_word) u
    → Outcome ExpressionSyntax (ContainsTail shaped a) u (contains_test shaped a u)
contains_tail shaped a u n = one_seq (reserved contains_word) (λ i. TextFor (λ t. shaped i (contains i a t))) u (any_token u) (λ i. quoted_text >>= (λ t. give (shaped i (contains i a t))))
    (λ i. fills_text (λ t. shaped i (contains i a t))) (λ i v. text_for (λ t. shaped i (contains i a t)) v) (known_word contains_word u n)

-- one of the two, or what else may stand there
text_test_goes : (S : List PlacedToken → ExpressionSyntax → Type 0) (shaped : ℕ → ExpressionSyntax → ExpressionSyntax) (a : ExpressionSyntax) (other : Production ExpressionSyntax) (u : Unread)
    → ((ts : List PlacedToken) (b : ExpressionSyntax) → LikeTail shaped a ts b → S ts b) → ((ts : List PlacedToken) (b : ExpressionSyntax) → ContainsTail shaped a ts b → S ts b)
    → Outcome ExpressionSyntax S u (other u) → Outcome ExpressionSyntax S u (text_test shaped a other u)
text_test_goes S shaped a other u of_like of_contains o =
    if_outcome S (is_the_word like_word) (like_test shaped a) (if_next (is_the_word contains_word) (contains_test shaped a) other) u
    (λ n. weaker (LikeTail shaped a) S u (like_test shaped a u) of_like (like_tail shaped a u n))
    (if_outcome S (is_the_word contains_word) (contains_test shaped a) other u
    (λ n. weaker (ContainsTail shaped a) S u (contains_test shaped a u) of_contains (contains_tail shaped a u n)) o)

like_tokens : (shaped : ℕ → ExpressionSyntax → ExpressionSyntax) (a : ExpressionSyntax) (ts : List PlacedToken) (b : ExpressionSyntax) → (x : LikeTail shaped a ts b)
    → ts ≡ word_at x.place like_word ∷ text_at x.second.first.place x.second.middle ∷ []
like_tokens shaped a ts b x = x.tokens ∙ ap (λ xs. word_at x.place like_word ∷ xs) (text_tokens (λ t. shaped x.place (like x.place a t)) x.rest b x.second)

contains_tokens : (shaped : ℕ → ExpressionSyntax → ExpressionSyntax) (a : ExpressionSyntax) (ts : List PlacedToken) (b : ExpressionSyntax) → (x : ContainsTail shaped a ts b)
    → ts ≡ word_at x.place contains_word ∷ text_at x.second.first.place x.second.middle ∷ []
contains_tokens shaped a ts b x = x.tokens ∙ ap (λ xs. word_at x.place contains_word ∷ xs) (text_tokens (λ t. shaped x.place (contains x.place a t)) x.rest b x.second)

plain_like : (a : ExpressionSyntax) (ts : List PlacedToken) (b : ExpressionSyntax) → LikeTail plain a ts b → TestMore a ts b
plain_like a ts b x us s =
    tested_by ts (word_at x.place like_word ∷ text_at x.second.first.place x.second.middle ∷ []) us (like x.place a x.second.middle) b (like_tokens plain a ts b x) x.second.second.same
    (like_text x.place x.second.first.place us a x.second.middle s)

plain_contains : (a : ExpressionSyntax) (ts : List PlacedToken) (b : ExpressionSyntax) → ContainsTail plain a ts b → TestMore a ts b
plain_contains a ts b x us s =
    tested_by ts (word_at x.place contains_word ∷ text_at x.second.first.place x.second.middle ∷ []) us (contains x.place a x.second.middle) b (contains_tokens plain a ts b x) x.second.second.same
    (contains_text x.place x.second.first.place us a x.second.middle s)

-- behind a sum and NOT
record DeniedTail (a : ExpressionSyntax) (i : ℕ) (ws : List PlacedToken) (b : ExpressionSyntax) : Type 0 where
  denies : (h : ℕ) (us : List PlacedToken) → SpellsSum us a → SpellsTest (us ++ word_at h not_word ∷ ws) b

denied_like : (a : ExpressionSyntax) (i : ℕ) (ts : List PlacedToken) (b : ExpressionSyntax) → LikeTail negation a ts b → DeniedTail a i ts b
denied_like a i ts b x = record {
  denies = λ h us s. tested_by (word_at h not_word ∷ ts) (word_at h not_word ∷ word_at x.place like_word ∷ text_at x.second.first.place x.second.middle ∷ []) us
      (negation x.place (like x.place a x.second.middle)) b (ap (λ xs. word_at h not_word ∷ xs) (like_tokens negation a ts b x)) x.second.second.same
      (not_like_text h x.place x.second.first.place us a x.second.middle s);
}

denied_contains : (a : ExpressionSyntax) (i : ℕ) (ts : List PlacedToken) (b : ExpressionSyntax) → ContainsTail negation a ts b → DeniedTail a i ts b
denied_contains a i ts b x = record {
  denies = λ h us s. tested_by (word_at h not_word ∷ ts) (word_at h not_word ∷ word_at x.place contains_word ∷ text_at x.second.first.place x.second.middle ∷ []) us
      (negation x.place (contains x.place a x.second.middle)) b (ap (λ xs. word_at h not_word ∷ xs) (contains_tokens negation a ts b x)) x.second.second.same
      (not_contains_text h x.place x.second.first.place us a x.second.middle s);
}

fills_denied : (a : ExpressionSyntax) (i : ℕ) → Filled ExpressionSyntax (DeniedTail a i)
fills_denied a i = let x = fills_like negation a in record { tokens = x.tokens; value = x.value; spelled = denied_like a i x.tokens x.value x.spelled }

denied_goes : (a : ExpressionSyntax) (u : Unread) → NextToken (is_the_word not_word) u → Outcome ExpressionSyntax (TestMore a) u (denied_test a u)
denied_goes a u n = weaker (Behind ExpressionSyntax (reserved not_word) (DeniedTail a)) (TestMore a) u (denied_test a u)
    (λ ts b x us s. subst (λ xs. SpellsTest (us ++ xs) b) (sym x.tokens) (x.second.denies x.place us s))
    (one_seq (reserved not_word) (DeniedTail a) u (any_token u) (λ _. text_test negation a (problem_here syntax)) (fills_denied a)
    (λ i v. text_test_goes (DeniedTail a i) negation a (problem_here syntax) v (denied_like a i) (denied_contains a i) (stops_here (DeniedTail a i) syntax v (fills_denied a i) tt))
    (known_word not_word u n))

-- behind a sum and IS, which stands at place i
abbrev NullTail : ℕ → ExpressionSyntax → List PlacedToken → ExpressionSyntax → Type 0
NullTail i a ws b = (us : List PlacedToken) → SpellsSum us a → SpellsTest (us ++ word_at i is_word ∷ ws) b

-- NULL; NOT NULL
abbrev NullWord : ExpressionSyntax → List PlacedToken → ExpressionSyntax → Type 0
NullWord b = Behind ExpressionSyntax (reserved null_word) (λ j. Nothing ExpressionSyntax b)

null_word_goes : (b : ExpressionSyntax) (u : Unread) → Outcome ExpressionSyntax (NullWord b) u ((word null_word >>= (λ _. give b)) u)
null_word_goes b u = one_seq (reserved null_word) (λ j. Nothing ExpressionSyntax b) u (word null_word u) (λ _. give b) (λ j. fills_nothing b) (λ j v. gives b v) (word_outcome null_word u)

fills_null : (b : ExpressionSyntax) → Filled ExpressionSyntax (NullWord b)
fills_null b = fills_one (reserved null_word) (λ j. Nothing ExpressionSyntax b) (fills_nothing b)

null_tail : (i : ℕ) (a : ExpressionSyntax) (ts : List PlacedToken) (b : ExpressionSyntax) → NullWord (is_null i a) ts b → NullTail i a ts b
null_tail i a ts b x us s =
    tested_by (word_at i is_word ∷ ts) (word_at i is_word ∷ word_at x.place null_word ∷ []) us (is_null i a) b
    (ap (λ xs. word_at i is_word ∷ xs) (x.tokens ∙ ap (λ xs. word_at x.place null_word ∷ xs) x.second.none)) x.second.same (is_null_word i x.place us a s)

not_null_tail : (i : ℕ) (a : ExpressionSyntax) (ts : List PlacedToken) (b : ExpressionSyntax) → Behind ExpressionSyntax (reserved not_word) (λ j. NullWord (negation i (is_null i a))) ts b
    → NullTail i a ts b
not_null_tail i a ts b x us s =
    let y = x.second in
    tested_by (word_at i is_word ∷ ts) (word_at i is_word ∷ word_at x.place not_word ∷ word_at y.place null_word ∷ []) us (negation i (is_null i a)) b
    (ap (λ xs. word_at i is_word ∷ xs) (x.tokens ∙ ap (λ xs. word_at x.place not_word ∷ xs) (y.tokens ∙ ap (λ xs. word_at y.place null_word ∷ xs) y.second.none))) y.second.same
    (is_not_null i x.place y.place us a s)

null_behind : (a : ExpressionSyntax) (i : ℕ) (u : Unread) → Outcome ExpressionSyntax (NullTail i a) u (if_next (is_the_word not_word) (denied_null i a) (plain_null i a) u)
null_behind a i u = if_outcome (NullTail i a) (is_the_word not_word) (denied_null i a) (plain_null i a) u
    (λ n. weaker (Behind ExpressionSyntax (reserved not_word) (λ j. NullWord (negation i (is_null i a)))) (NullTail i a) u (denied_null i a u) (not_null_tail i a)
    (one_seq (reserved not_word) (λ j. NullWord (negation i (is_null i a))) u (any_token u) (λ _. word null_word >>= (λ _. give (negation i (is_null i a))))
    (λ j. fills_null (negation i (is_null i a))) (λ j v. null_word_goes (negation i (is_null i a)) v) (known_word not_word u n)))
    (weaker (NullWord (is_null i a)) (NullTail i a) u (plain_null i a u) (null_tail i a) (null_word_goes (is_null i a) u))

fills_null_tail : (a : ExpressionSyntax) (i : ℕ) → Filled ExpressionSyntax (NullTail i a)
fills_null_tail a i = let x = fills_null (is_null i a) in record { tokens = x.tokens; value = x.value; spelled = null_tail i a x.tokens x.value x.spelled }

null_goes : (a : ExpressionSyntax) (u : Unread) → NextToken (is_the_word is_word) u → Outcome ExpressionSyntax (TestMore a) u (null_test a u)
null_goes a u n = weaker (Behind ExpressionSyntax (reserved is_word) (λ i. NullTail i a)) (TestMore a) u (null_test a u)
    (λ ts b x us s. subst (λ xs. SpellsTest (us ++ xs) b) (sym x.tokens) (x.second us s))
    (one_seq (reserved is_word) (λ i. NullTail i a) u (any_token u) (λ i. if_next (is_the_word not_word) (denied_null i a) (plain_null i a)) (fills_null_tail a)
    (null_behind a) (known_word is_word u n))

word_test_goes : (a : ExpressionSyntax) (u : Unread) → Outcome ExpressionSyntax (TestMore a) u (word_test a u)
word_test_goes a u = if_outcome (TestMore a) (is_the_word not_word) (denied_test a) (if_next (is_the_word is_word) (null_test a) (text_test plain a (give a))) u (denied_goes a u)
    (if_outcome (TestMore a) (is_the_word is_word) (null_test a) (text_test plain a (give a)) u (null_goes a u)
    (text_test_goes (TestMore a) plain a (give a) u (plain_like a) (plain_contains a)
    (weaker (Nothing ExpressionSyntax a) (TestMore a) u (give a u) (no_test a) (gives a u))))

-- a comparison
pub record Compares (t : QueryToken) (c : Comparison) : Type 0 where
  pub by : Sign
  pub this : t ≡ sign by
  pub is : IsComparison by c

pub compares : (t : QueryToken) (c : Comparison) → comparison_in t ≡ Some c → Compares t c
compares (sign equals) c h = let e : equal ≡ c = cc in record { by = equals; this = refl; is = subst (IsComparison equals) e is_equal }
compares (sign differs) c h = let e : unequal ≡ c = cc in record { by = differs; this = refl; is = subst (IsComparison differs) e is_unequal }
compares (sign less_than) c h = let e : less ≡ c = cc in record { by = less_than; this = refl; is = subst (IsComparison less_than) e is_less }
compares (sign less_or_equal) c h = let e : at_most ≡ c = cc in record { by = less_or_equal; this = refl; is = subst (IsComparison less_or_equal) e is_at_most }
compares (sign greater_than) c h = let e : greater ≡ c = cc in record { by = greater_than; this = refl; is = subst (IsComparison greater_than) e is_greater }
compares (sign greater_or_equal) c h = let e : at_least ≡ c = cc in record { by = greater_or_equal; this = refl; is = subst (IsComparison greater_or_equal) e is_at_least }
compares (sign s) c h = absurd (cc h)
compares t c h = absurd (cc h)

-- a sum behind a comparison's sign
abbrev SumFor : ExpressionSyntax → Comparison → ℕ → List PlacedToken → ExpressionSyntax → Type 0
SumFor a c i = Seq ExpressionSyntax ExpressionSyntax SpellsSum (λ b. Nothing ExpressionSyntax (comparison i c a b))

compared : (a : ExpressionSyntax) (c : Comparison) (t : QueryToken) → comparison_in t ≡ Some c → (ts : List PlacedToken) (b : ExpressionSyntax) → Behind ExpressionSyntax t (SumFor a c) ts b → TestMore a ts b
compared a c t means ts b x us s =
    let y = x.second in
    let k = compares t c means in
    tested_by ts (sign_at x.place k.by ∷ y.front) us (comparison x.place c a y.middle) b
    (x.tokens ∙ (ap (λ z. placed x.place z ∷ x.rest) k.this ∙ ap (λ xs. sign_at x.place k.by ∷ xs) (y.tokens ∙ (ap (λ xs. y.front ++ xs) y.second.none ∙ append-nil y.front))))
    y.second.same (compared_sums x.place k.by c us y.front a y.middle k.is s y.first)

tested_goes : (inner : Inner) → InnerGoes inner → (a : ExpressionSyntax) (u : Unread) → Outcome ExpressionSyntax (TestMore a) u (tested inner a u)
tested_goes inner goes a u = by_outcome (TestMore a) comparison_in (comparison_test inner a) (word_test a) u
    (λ c m. weaker (Behind ExpressionSyntax m.first.token (SumFor a c)) (TestMore a) u (comparison_test inner a c u) (compared a c m.first.token m.means)
    (one_seq m.first.token (SumFor a c) u (any_token u) (λ i. sum_of inner >>= (λ b. give (comparison i c a b)))
    (λ i. fills_seq SpellsSum (λ b. Nothing ExpressionSyntax (comparison i c a b)) a_sum (λ b. fills_nothing (comparison i c a b)))
    (λ i v. seq SpellsSum (λ b. Nothing ExpressionSyntax (comparison i c a b)) v (sum_of inner v) (λ b. give (comparison i c a b)) (λ b. fills_nothing (comparison i c a b))
    (λ b w. gives (comparison i c a b) w) (sum_goes inner goes v))
    (any_of u m.first m.rest m.tokens)))
    (word_test_goes a u)

fills_test_more : (a : ExpressionSyntax) → Filled ExpressionSyntax (TestMore a)
fills_test_more a = record { tokens = []; value = a; spelled = no_test a [] a (record { none = refl; same = refl }) }

test_goes : (inner : Inner) → InnerGoes inner → (u : Unread) → Outcome ExpressionSyntax SpellsTest u (test_of inner u)
test_goes inner goes u = weaker (Seq ExpressionSyntax ExpressionSyntax SpellsSum TestMore) SpellsTest u (test_of inner u)
    (λ ts b x. subst (λ xs. SpellsTest xs b) (sym x.tokens) (x.second x.front x.first))
    (seq SpellsSum TestMore u (sum_of inner u) (tested inner) fills_test_more (tested_goes inner goes) (sum_goes inner goes u))

-- ---- not, and, expr, and what opens a nesting

pub not_goes : (inner : Inner) → InnerGoes inner → (u : Unread) → Outcome ExpressionSyntax SpellsNot u (not_of inner u)
not_goes inner goes u = if_outcome SpellsNot (is_the_word not_word) (inner negated) (test_of inner) u (goes negated u)
    (weaker SpellsTest SpellsNot u (test_of inner u) one_test (test_goes inner goes u))

pub and_goes : (inner : Inner) → InnerGoes inner → (u : Unread) → Outcome ExpressionSyntax SpellsAnd u (and_of inner u)
and_goes inner goes u = operands_outcome SpellsAnd SpellsNot and_in (not_of inner) a_not (not_goes inner goes) one_not and_step u

expression_goes : (inner : Inner) → InnerGoes inner → (u : Unread) → Outcome ExpressionSyntax SpellsExpression u (expression_of inner u)
expression_goes inner goes u = operands_outcome SpellsExpression SpellsAnd or_in (and_of inner) an_and (and_goes inner goes) one_and or_step u

-- ")" behind an expression in parentheses
abbrev Closed : ExpressionSyntax → List PlacedToken → ExpressionSyntax → Type 0
Closed e = Behind ExpressionSyntax (sign close_parenthesis) (λ j. Nothing ExpressionSyntax e)

abbrev Inside : ℕ → List PlacedToken → ExpressionSyntax → Type 0
Inside i = Seq ExpressionSyntax ExpressionSyntax SpellsExpression Closed

fills_closed : (e : ExpressionSyntax) → Filled ExpressionSyntax (Closed e)
fills_closed e = fills_one (sign close_parenthesis) (λ j. Nothing ExpressionSyntax e) (fills_nothing e)

enclosed : (ts : List PlacedToken) (b : ExpressionSyntax) → Behind ExpressionSyntax (sign open_parenthesis) Inside ts b → SpellsPrimary ts b
enclosed ts b x =
    let y = x.second in
    let z = y.second in
    let tokens : ts ≡ sign_at x.place open_parenthesis ∷ (y.front ++ sign_at z.place close_parenthesis ∷ []) =
    x.tokens ∙ ap (λ xs. sign_at x.place open_parenthesis ∷ xs) (y.tokens ∙ ap (λ xs. y.front ++ xs) (z.tokens ∙ ap (λ xs. sign_at z.place close_parenthesis ∷ xs) z.second.none)) in
    subst (SpellsPrimary ts) z.second.same (subst (λ xs. SpellsPrimary xs y.middle) (sym tokens) (in_parentheses x.place z.place y.front y.middle y.first))

abbrev Negates : ℕ → List PlacedToken → ExpressionSyntax → Type 0
Negates i = Seq ExpressionSyntax ExpressionSyntax SpellsNot (λ e. Nothing ExpressionSyntax (negation i e))

abbrev Signs : ℕ → List PlacedToken → ExpressionSyntax → Type 0
Signs i = Seq ExpressionSyntax ExpressionSyntax SpellsUnary (λ e. Nothing ExpressionSyntax (negative i e))

-- all that stands in front of nothing
only_front : (ts us vs : List PlacedToken) → ts ≡ us ++ vs → vs ≡ [] → ts ≡ us
only_front ts us vs e f = e ∙ (ap (λ xs. us ++ xs) f ∙ append-nil us)

negates : (ts : List PlacedToken) (b : ExpressionSyntax) → Behind ExpressionSyntax (reserved not_word) Negates ts b → SpellsNot ts b
negates ts b x =
    let y = x.second in
    let tokens : ts ≡ word_at x.place not_word ∷ y.front = x.tokens ∙ ap (λ xs. word_at x.place not_word ∷ xs) (only_front x.rest y.front y.rest y.tokens y.second.none) in
    subst (SpellsNot ts) y.second.same (subst (λ xs. SpellsNot xs (negation x.place y.middle)) (sym tokens) (not_not x.place y.front y.middle y.first))

signs : (ts : List PlacedToken) (b : ExpressionSyntax) → Behind ExpressionSyntax (sign minus_sign) Signs ts b → SpellsUnary ts b
signs ts b x =
    let y = x.second in
    let tokens : ts ≡ sign_at x.place minus_sign ∷ y.front = x.tokens ∙ ap (λ xs. sign_at x.place minus_sign ∷ xs) (only_front x.rest y.front y.rest y.tokens y.second.none) in
    subst (SpellsUnary ts) y.second.same (subst (λ xs. SpellsUnary xs (negative x.place y.middle)) (sym tokens) (minus_unary x.place y.front y.middle y.first))

-- the token that opens a nesting, and something behind it
abbrev pub opens_parenthesis : (i : ℕ) → Filled ExpressionSyntax SpellsPrimary
opens_parenthesis i = record { tokens = sign_at i open_parenthesis ∷ (nought ++ sign_at 0 close_parenthesis ∷ []); value = number_literal 0; spelled = in_parentheses i 0 nought (number_literal 0) fills_expression.spelled }

abbrev pub opens_not : (i : ℕ) → Filled ExpressionSyntax SpellsNot
opens_not i = record { tokens = word_at i not_word ∷ nought; value = negation i (number_literal 0); spelled = not_not i nought (number_literal 0) a_not.spelled }

abbrev pub opens_sign : (i : ℕ) → Filled ExpressionSyntax SpellsUnary
opens_sign i = record { tokens = sign_at i minus_sign ∷ nought; value = negative i (number_literal 0); spelled = minus_unary i nought (number_literal 0) a_unary.spelled }

one_first : (t : QueryToken) (u : Unread) (first : PlacedToken) (rest vs : List PlacedToken) → u.tokens ≡ first ∷ rest → first.token ≡ t → OneFirst u.tokens (placed first.place t ∷ vs)
one_first t u first rest vs e h = (first, rest, vs, e, ap (λ k. placed first.place k ∷ vs) (sym h))

too_deep_goes : (o : Nesting) (u : Unread) → Opens o u → Outcome ExpressionSyntax (SpellsNested o) u (problem_here too_deep u)
too_deep_goes parenthesized u h = stops_here SpellsPrimary too_deep u (opens_parenthesis h.first.place)
    (one_first (sign open_parenthesis) u h.first h.rest (nought ++ sign_at 0 close_parenthesis ∷ []) h.tokens (sign_is_this open_parenthesis h.first.token h.passes_it))
too_deep_goes negated u h = stops_here SpellsNot too_deep u (opens_not h.first.place) (one_first (reserved not_word) u h.first h.rest nought h.tokens (word_is not_word h.first.token h.passes_it))
too_deep_goes signed u h = stops_here SpellsUnary too_deep u (opens_sign h.first.place) (one_first (sign minus_sign) u h.first h.rest nought h.tokens (sign_is_this minus_sign h.first.token h.passes_it))

pub nested_goes : (n : ℕ) → InnerGoes (nested n)
nested_goes zero o u h = too_deep_goes o u h
nested_goes (suc n) parenthesized u h = weaker (Behind ExpressionSyntax (sign open_parenthesis) Inside) SpellsPrimary u (nested (suc n) parenthesized u) enclosed
    (one_seq (sign open_parenthesis) Inside u (any_token u) (λ _. expression_of (nested n) >>= (λ e. mark close_parenthesis >>= (λ _. give e)))
    (λ i. fills_seq SpellsExpression Closed fills_expression fills_closed)
    (λ i v. seq SpellsExpression Closed v (expression_of (nested n) v) (λ e. mark close_parenthesis >>= (λ _. give e)) fills_closed
    (λ e w. one_seq (sign close_parenthesis) (λ j. Nothing ExpressionSyntax e) w (mark close_parenthesis w) (λ _. give e) (λ j. fills_nothing e) (λ j y. gives e y) (mark_outcome close_parenthesis w))
    (expression_goes (nested n) (nested_goes n) v))
    (known_sign open_parenthesis u h))
nested_goes (suc n) negated u h = weaker (Behind ExpressionSyntax (reserved not_word) Negates) SpellsNot u (nested (suc n) negated u) negates
    (one_seq (reserved not_word) Negates u (any_token u) (λ i. not_of (nested n) >>= (λ e. give (negation i e)))
    (λ i. fills_seq SpellsNot (λ e. Nothing ExpressionSyntax (negation i e)) a_not (λ e. fills_nothing (negation i e)))
    (λ i v. seq SpellsNot (λ e. Nothing ExpressionSyntax (negation i e)) v (not_of (nested n) v) (λ e. give (negation i e)) (λ e. fills_nothing (negation i e)) (λ e w. gives (negation i e) w)
    (not_goes (nested n) (nested_goes n) v))
    (known_word not_word u h))
nested_goes (suc n) signed u h = weaker (Behind ExpressionSyntax (sign minus_sign) Signs) SpellsUnary u (nested (suc n) signed u) signs
    (one_seq (sign minus_sign) Signs u (operator u) (λ i. unary (nested n) >>= (λ e. give (negative i e)))
    (λ i. fills_seq SpellsUnary (λ e. Nothing ExpressionSyntax (negative i e)) a_unary (λ e. fills_nothing (negative i e)))
    (λ i v. seq SpellsUnary (λ e. Nothing ExpressionSyntax (negative i e)) v (unary (nested n) v) (λ e. give (negative i e)) (λ e. fills_nothing (negative i e)) (λ e w. gives (negative i e) w)
    (unary_goes (nested n) (nested_goes n) v))
    (known_operator minus_sign u h))

-- an expression with at most so many nestings
pub nested_expression_goes : (n : ℕ) (u : Unread) → Outcome ExpressionSyntax SpellsExpression u (expression_of (nested n) u)
nested_expression_goes n = expression_goes (nested n) (nested_goes n)
