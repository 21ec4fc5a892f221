-- Each production of a query keeps the count of the operators, and its lists that of their elements; so does the whole query, and its fault is where it is told to be.
use Rattle.std.specs.Prelude.{◌≡◌, ℕ, zero, suc, ◌-◌, List, [], ◌∷◌, ◌++◌, length, Bool, true, false, nat_le, nat_lt, if◌then◌else◌, Option, Some, None}
use Rattle.std.specs.Prelude.{Result, Ok, Err, ◌+◌, ◌⊎◌}
use Rattle.std.proofs.Common.{refl, sym, ap, ap₂, subst, ◌∙◌, append_assoc, append-nil, length-append, add-zero, arith, inl, inr}
use Rattle.dr_meaning.specs.Tokens.{or_word, and_word, not_word, dot, star, plus_sign, minus_sign, close_parenthesis, open_parenthesis, comma, semicolon, QueryToken, reserved}
use Rattle.dr_meaning.specs.Tokens.{identifier, number, text, sign, bad, true_word, false_word, PlacedToken, placed, select_word, from_word, where_word, group_word, by_word, as_word}
use Rattle.dr_meaning.specs.Tokens.{equals, differs, less_than, less_or_equal, greater_than, greater_or_equal, like_word, contains_word, is_word, null_word, within_word, record_word}
use Rattle.dr_meaning.specs.Tokens.{count_word, sum_word, min_word, max_word, query_tokens, longest_query}
use Rattle.dr_meaning.specs.Expression.{Comparison}
use Rattle.dr_meaning.specs.Query.{Aggregate, count}
use Rattle.dr_meaning.specs.Syntax.{NameSyntax, PathSyntax, ExpressionSyntax, number_literal, text_literal, truth_literal, path, negative}
use Rattle.dr_meaning.specs.Syntax.{comparison, like, contains, is_null, negation, whole_record, node, WithinSyntax, TermSyntax, expression, count_rows, aggregate, ItemSyntax}
use Rattle.dr_meaning.specs.Syntax.{ConditionSyntax, QuerySyntax}
use Rattle.dr_meaning.specs.Parse.{Unread, Parsed, QueryFault, QueryProblem, Production, give, ◌>>=◌, here, first_place, first_token, place_of, problem_here, syntax, too_deep, too_many, too_long}
use Rattle.dr_meaning.specs.Parse.{goes_on, passes, without_first, if_next, next_is, either, any_token, operator, word, mark, name, quoted_text, is_the_word, is_the_sign, comparison_in, aggregate_in}
use Rattle.dr_meaning.specs.Parse.{Joining, or_in, and_in, sum_in, product_in, begins_item, begins_key, further_names, names, path_names, Nesting, parenthesized, negated, signed, Inner}
use Rattle.dr_meaning.specs.Parse.{literal, path_operand, primary_at, primary, unary, further_operands, operands, sum_of, plain, like_test, contains_test, text_test, denied_test}
use Rattle.dr_meaning.specs.Parse.{denied_null, plain_null, null_test, comparison_test, word_test, tested, test_of, not_of, expression_of, nested, further_elements, elements, too_many_of}
use Rattle.dr_meaning.specs.Parse.{within_record, within_path, within_part, counts_rows, rows_argument, argument, expression_argument, aggregate_term, whole_expression, expression_term, item_term}
use Rattle.dr_meaning.specs.Parse.{as_part, item, items, table_name, where_part, keys, group_part, text_end, end_part, query, result_of, unread_text, parse_query, greatest_nesting}
use Rattle.dr_meaning.specs.QueryGrammar.{word_at, sign_at, name_at, SpellsPath, SpellsItem, Separated, alone, and_one, SpellsWhere}
use Rattle.dr_meaning.proofs.SyntaxReading.{NextToken, next_token, sign_is_this}
use Rattle.dr_query_laws.specs.LimitLaws.{is_operator, operators_in, BeforeItem, before_further_item, BeforeKeys, before_keys, BeforeKey, before_further_key}
use Rattle.dr_query_laws.specs.FaultLaws.{IsAtToken, FewOperatorsBefore, FewOperatorsBeforeFault}
use Rattle.dr_query_laws.specs.LimitLaws.{IsExtraOperator, BeginsExtraItem, BeginsExtraKey, TooManyStandsAt, TooManyStandsAtItsToken, AcceptedHasFewOperators}
use Rattle.dr_query_laws.proofs.Outcomes.{Outcome, behind, One, known_word, known_sign, word_outcome}
use Rattle.dr_query_laws.proofs.ExpressionsGoOn.{path_outcome}
use Rattle.dr_query_laws.proofs.QueriesGoOn.{TableIs, table_goes, item_goes, items_go, where_goes}
use Rattle.dr_query_laws.proofs.OperatorsCounted.{Counted, few_before, Reads, went, stopped, Keeps, bind, bind_both, one_by_one, gives_counted, here_counted, no_limit, not_syntax, not_deep, if_counted, by_counted}
use Rattle.dr_query_laws.proofs.OperatorsCounted.{behind_counted, skip_word, skip_sign, word_counted, mark_counted, name_counted, text_counted, operator_counted}

-- a token is skipped, and a production keeps the count behind it
then_skipped : {A B : Type 0} (all : List PlacedToken) (next : A → Production B) (u : Unread) (p : Parsed A) → Reads A (Counted all) all p → ((a : A) → Keeps all B (next a))
    → Reads B (Counted all) all (goes_on p next)
then_skipped all next u p r step = bind (Counted all) (Counted all) all p next r (λ a v c. step a v c)

-- ---- paths

names_counted : (all : List PlacedToken) (k : ℕ) (ns : List (List ℕ)) → Keeps all (List (List ℕ)) (further_names k ns)
names_counted all zero ns = gives_counted all ns
names_counted all (suc k) ns = if_counted all (is_the_sign dot) (any_token >>= (λ _. name >>= (λ n. further_names k (ns ++ n ∷ [])))) (give ns)
    (λ u n c. then_skipped all (λ _. name >>= (λ m. further_names k (ns ++ m ∷ []))) u (any_token u) (skip_sign all dot refl u n c)
    (λ _. one_by_one all name (λ m. further_names k (ns ++ m ∷ [])) (name_counted all) (λ m. names_counted all k (ns ++ m ∷ [])))) (gives_counted all ns)

path_counted : (all : List PlacedToken) → Keeps all PathSyntax path_names
path_counted all = one_by_one all here (λ i. names >>= (λ ns. give (record { place = i; names = ns }))) (here_counted all)
    (λ i. one_by_one all names (λ ns. give (record { place = i; names = ns }))
    (one_by_one all name (λ n v. further_names (length v.tokens) (n ∷ []) v) (name_counted all) (λ n v. names_counted all (length v.tokens) (n ∷ []) v))
    (λ ns. gives_counted all (record { place = i; names = ns })))

-- ---- expressions

abbrev Opens : Nesting → Unread → Type 0
Opens parenthesized u = NextToken (is_the_sign open_parenthesis) u
Opens negated u = NextToken (is_the_word not_word) u
Opens signed u = NextToken (is_the_sign minus_sign) u

-- every nesting keeps the count
abbrev InnerKeeps : List PlacedToken → Inner → Type 0
InnerKeeps all inner = (o : Nesting) (u : Unread) → Opens o u → Counted all u → Reads ExpressionSyntax (Counted all) all (inner o u)

-- the next token, which is this one
record Next (t : QueryToken) (u : Unread) : Type 0 where
  first : PlacedToken
  rest : List PlacedToken
  tokens : u.tokens ≡ first ∷ rest
  this : first.token ≡ t

next_by : (t : QueryToken) (ts : List PlacedToken) (n k : ℕ) → first_token ts ≡ Some t → Next t (record { tokens = ts; size = n; operators = k })
next_by t [] n k h = absurd (cc h)
next_by t (s ∷ ts) n k h = let e : s.token ≡ t = cc in record { first = s; rest = ts; tokens = refl; this = e }

literal_counted : (all : List PlacedToken) (e : ExpressionSyntax) (t : QueryToken) → is_operator t ≡ false → (u : Unread) → first_token u.tokens ≡ Some t → Counted all u
    → Reads ExpressionSyntax (Counted all) all (literal e u)
literal_counted all e t o u h c =
    let n = next_by t u.tokens u.size u.operators h in
    went e (record u { tokens = without_first u.tokens }) (behind_counted all u n.first n.rest n.tokens (ap is_operator n.this ∙ o) c)

open_of : (u : Unread) → first_token u.tokens ≡ Some (sign open_parenthesis) → NextToken (is_the_sign open_parenthesis) u
open_of u f = next_token (is_the_sign open_parenthesis) u (ap (passes (is_the_sign open_parenthesis)) f)

operand_path : (all : List PlacedToken) → Keeps all ExpressionSyntax path_operand
operand_path all = one_by_one all path_names (λ p. give (path p)) (path_counted all) (λ p. gives_counted all (path p))

primary_by : (all : List PlacedToken) (inner : Inner) → InnerKeeps all inner → (o : Option QueryToken) (u : Unread) → first_token u.tokens ≡ o → Counted all u
    → Reads ExpressionSyntax (Counted all) all (primary_at inner o u)
primary_by all inner goes (Some (number n)) u f c = literal_counted all (number_literal n) (number n) refl u f c
primary_by all inner goes (Some (text t)) u f c = literal_counted all (text_literal t) (text t) refl u f c
primary_by all inner goes (Some (reserved true_word)) u f c = literal_counted all (truth_literal true) (reserved true_word) refl u f c
primary_by all inner goes (Some (reserved false_word)) u f c = literal_counted all (truth_literal false) (reserved false_word) refl u f c
primary_by all inner goes (Some (identifier n)) u f c = operand_path all u c
primary_by all inner goes (Some (sign open_parenthesis)) u f c = goes parenthesized u (open_of u f) c
primary_by all inner goes (Some (sign s)) u f c = no_limit all syntax not_syntax u c
primary_by all inner goes (Some (reserved w)) u f c = no_limit all syntax not_syntax u c
primary_by all inner goes (Some bad) u f c = no_limit all syntax not_syntax u c
primary_by all inner goes None u f c = no_limit all syntax not_syntax u c

unary_counted : (all : List PlacedToken) (inner : Inner) → InnerKeeps all inner → Keeps all ExpressionSyntax (unary inner)
unary_counted all inner goes = if_counted all (is_the_sign minus_sign) (inner signed) (primary inner) (goes signed)
    (λ u c. primary_by all inner goes (first_token u.tokens) u refl c)

-- what joins operands is an operator
abbrev JoinsByOperators : (QueryToken → Option Joining) → Type 0
JoinsByOperators joining = (t : QueryToken) (join : Joining) → joining t ≡ Some join → is_operator t ≡ true

or_joins : JoinsByOperators or_in
or_joins (reserved or_word) join h = refl
or_joins (reserved w) join h = absurd (cc h)
or_joins t join h = absurd (cc h)

and_joins : JoinsByOperators and_in
and_joins (reserved and_word) join h = refl
and_joins (reserved w) join h = absurd (cc h)
and_joins t join h = absurd (cc h)

sum_joins : JoinsByOperators sum_in
sum_joins (sign plus_sign) join h = refl
sum_joins (sign minus_sign) join h = refl
sum_joins (sign s) join h = absurd (cc h)
sum_joins t join h = absurd (cc h)

product_joins : JoinsByOperators product_in
product_joins (sign star) join h = refl
product_joins (sign s) join h = absurd (cc h)
product_joins t join h = absurd (cc h)

more_operands : (all : List PlacedToken) (joining : QueryToken → Option Joining) (operand : Production ExpressionSyntax) → JoinsByOperators joining → Keeps all ExpressionSyntax operand
    → (k : ℕ) (e : ExpressionSyntax) → Keeps all ExpressionSyntax (further_operands joining operand k e)
more_operands all joining operand joins goes zero e = gives_counted all e
more_operands all joining operand joins goes (suc k) e =
    by_counted all joining (λ join. operator >>= (λ i. operand >>= (λ b. further_operands joining operand k (join i e b)))) (give e)
    (λ join u m c. then_skipped all (λ i. operand >>= (λ b. further_operands joining operand k (join i e b))) u (operator u)
    (operator_counted all u m.first m.rest m.tokens (joins m.first.token join m.means) c)
    (λ i. one_by_one all operand (λ b. further_operands joining operand k (join i e b)) goes (λ b. more_operands all joining operand joins goes k (join i e b)))) (gives_counted all e)

operands_counted : (all : List PlacedToken) (joining : QueryToken → Option Joining) (operand : Production ExpressionSyntax) → JoinsByOperators joining → Keeps all ExpressionSyntax operand
    → Keeps all ExpressionSyntax (operands joining operand)
operands_counted all joining operand joins goes = one_by_one all operand (λ e u. further_operands joining operand (length u.tokens) e u) goes
    (λ e u c. more_operands all joining operand joins goes (length u.tokens) e u c)

sum_counted : (all : List PlacedToken) (inner : Inner) → InnerKeeps all inner → Keeps all ExpressionSyntax (sum_of inner)
sum_counted all inner goes = operands_counted all sum_in (operands product_in (unary inner)) sum_joins
    (operands_counted all product_in (unary inner) product_joins (unary_counted all inner goes))

like_counted : (all : List PlacedToken) (shaped : ℕ → ExpressionSyntax → ExpressionSyntax) (e : ExpressionSyntax) (u : Unread) → NextToken (is_the_word like_word) u → Counted all u
    → Reads ExpressionSyntax (Counted all) all (like_test shaped e u)
like_counted all shaped e u n c = then_skipped all (λ i. quoted_text >>= (λ t. give (shaped i (like i e t)))) u (any_token u) (skip_word all like_word refl u n c)
    (λ i. one_by_one all quoted_text (λ t. give (shaped i (like i e t))) (text_counted all) (λ t. gives_counted all (shaped i (like i e t))))

contains_counted : (all : List PlacedToken) (shaped : ℕ → ExpressionSyntax → ExpressionSyntax) (e : ExpressionSyntax) (u : Unread) → NextToken (is_the_word contains_word) u → Counted all u
    → Reads ExpressionSyntax (Counted all) all (contains_test shaped e u)
contains_counted all shaped e u n c = then_skipped all (λ i. quoted_text >>= (λ t. give (shaped i (contains i e t)))) u (any_token u) (skip_word all contains_word refl u n c)
    (λ i. one_by_one all quoted_text (λ t. give (shaped i (contains i e t))) (text_counted all) (λ t. gives_counted all (shaped i (contains i e t))))

text_test_counted : (all : List PlacedToken) (shaped : ℕ → ExpressionSyntax → ExpressionSyntax) (e : ExpressionSyntax) (other : Production ExpressionSyntax) → Keeps all ExpressionSyntax other
    → Keeps all ExpressionSyntax (text_test shaped e other)
text_test_counted all shaped e other o = if_counted all (is_the_word like_word) (like_test shaped e) (if_next (is_the_word contains_word) (contains_test shaped e) other) (like_counted all shaped e)
    (if_counted all (is_the_word contains_word) (contains_test shaped e) other (contains_counted all shaped e) o)

denied_counted : (all : List PlacedToken) (e : ExpressionSyntax) (u : Unread) → NextToken (is_the_word not_word) u → Counted all u → Reads ExpressionSyntax (Counted all) all (denied_test e u)
denied_counted all e u n c = then_skipped all (λ _. text_test negation e (problem_here syntax)) u (any_token u) (skip_word all not_word refl u n c)
    (λ _. text_test_counted all negation e (problem_here syntax) (no_limit all syntax not_syntax))

-- NULL, for an expression
null_counted : (all : List PlacedToken) (e : ExpressionSyntax) → Keeps all ExpressionSyntax (word null_word >>= (λ _. give e))
null_counted all e = one_by_one all (word null_word) (λ _. give e) (word_counted all null_word refl) (λ _. gives_counted all e)

null_test_counted : (all : List PlacedToken) (e : ExpressionSyntax) (u : Unread) → NextToken (is_the_word is_word) u → Counted all u → Reads ExpressionSyntax (Counted all) all (null_test e u)
null_test_counted all e u n c = then_skipped all (λ i. if_next (is_the_word not_word) (denied_null i e) (plain_null i e)) u (any_token u) (skip_word all is_word refl u n c)
    (λ i. if_counted all (is_the_word not_word) (denied_null i e) (plain_null i e)
    (λ v m d. then_skipped all (λ _. word null_word >>= (λ _. give (negation i (is_null i e)))) v (any_token v) (skip_word all not_word refl v m d) (λ _. null_counted all (negation i (is_null i e))))
    (null_counted all (is_null i e)))

word_test_counted : (all : List PlacedToken) (e : ExpressionSyntax) → Keeps all ExpressionSyntax (word_test e)
word_test_counted all e = if_counted all (is_the_word not_word) (denied_test e) (if_next (is_the_word is_word) (null_test e) (text_test plain e (give e))) (denied_counted all e)
    (if_counted all (is_the_word is_word) (null_test e) (text_test plain e (give e)) (null_test_counted all e) (text_test_counted all plain e (give e) (gives_counted all e)))

comparison_plain : (t : QueryToken) (x : Comparison) → comparison_in t ≡ Some x → is_operator t ≡ false
comparison_plain (sign equals) x h = refl
comparison_plain (sign differs) x h = refl
comparison_plain (sign less_than) x h = refl
comparison_plain (sign less_or_equal) x h = refl
comparison_plain (sign greater_than) x h = refl
comparison_plain (sign greater_or_equal) x h = refl
comparison_plain (sign s) x h = absurd (cc h)
comparison_plain t x h = absurd (cc h)

test_counted : (all : List PlacedToken) (inner : Inner) → InnerKeeps all inner → Keeps all ExpressionSyntax (test_of inner)
test_counted all inner goes = one_by_one all (sum_of inner) (tested inner) (sum_counted all inner goes)
    (λ e. by_counted all comparison_in (comparison_test inner e) (word_test e)
    (λ x u m c. then_skipped all (λ i. sum_of inner >>= (λ b. give (comparison i x e b))) u (any_token u)
    (went (place_of u) (record u { tokens = without_first u.tokens }) (behind_counted all u m.first m.rest m.tokens (comparison_plain m.first.token x m.means) c))
    (λ i. one_by_one all (sum_of inner) (λ b. give (comparison i x e b)) (sum_counted all inner goes) (λ b. gives_counted all (comparison i x e b)))) (word_test_counted all e))

not_counted : (all : List PlacedToken) (inner : Inner) → InnerKeeps all inner → Keeps all ExpressionSyntax (not_of inner)
not_counted all inner goes = if_counted all (is_the_word not_word) (inner negated) (test_of inner) (goes negated) (test_counted all inner goes)

expression_counted : (all : List PlacedToken) (inner : Inner) → InnerKeeps all inner → Keeps all ExpressionSyntax (expression_of inner)
expression_counted all inner goes = operands_counted all or_in (operands and_in (not_of inner)) or_joins
    (operands_counted all and_in (not_of inner) and_joins (not_counted all inner goes))

nested_counted : (all : List PlacedToken) (n : ℕ) → InnerKeeps all (nested n)
nested_counted all zero o u n c = no_limit all too_deep not_deep u c
nested_counted all (suc k) parenthesized u n c = then_skipped all (λ _. expression_of (nested k) >>= (λ e. mark close_parenthesis >>= (λ _. give e))) u (any_token u)
    (skip_sign all open_parenthesis refl u n c)
    (λ _. one_by_one all (expression_of (nested k)) (λ e. mark close_parenthesis >>= (λ _. give e)) (expression_counted all (nested k) (nested_counted all k))
    (λ e. one_by_one all (mark close_parenthesis) (λ _. give e) (mark_counted all close_parenthesis refl) (λ _. gives_counted all e)))
nested_counted all (suc k) negated u n c = then_skipped all (λ i. not_of (nested k) >>= (λ e. give (negation i e))) u (any_token u) (skip_word all not_word refl u n c)
    (λ i. one_by_one all (not_of (nested k)) (λ e. give (negation i e)) (not_counted all (nested k) (nested_counted all k)) (λ e. gives_counted all (negation i e)))
nested_counted all (suc k) signed u n c = then_skipped all (λ i. unary (nested k) >>= (λ e. give (negative i e))) u (operator u)
    (operator_counted all u n.first n.rest n.tokens (ap is_operator (sign_is_this minus_sign n.first.token n.passes_it)) c)
    (λ i. one_by_one all (unary (nested k)) (λ e. give (negative i e)) (unary_counted all (nested k) (nested_counted all k)) (λ e. gives_counted all (negative i e)))

whole_counted : (all : List PlacedToken) → Keeps all ExpressionSyntax whole_expression
unfolding whole_expression
whole_counted all = expression_counted all (nested greatest_nesting) (nested_counted all greatest_nesting)

argument_counted : (all : List PlacedToken) → Keeps all ExpressionSyntax argument
unfolding argument
argument_counted all = expression_counted all (nested (greatest_nesting - 1)) (nested_counted all (greatest_nesting - 1))

-- ---- items

within_counted : (all : List PlacedToken) → Keeps all (Option WithinSyntax) within_part
within_counted all = if_counted all (is_the_word within_word) (any_token >>= (λ i. if_next (is_the_word record_word) (within_record i) (within_path i))) (give None)
    (λ u n c. then_skipped all (λ i. if_next (is_the_word record_word) (within_record i) (within_path i)) u (any_token u) (skip_word all within_word refl u n c)
    (λ i. if_counted all (is_the_word record_word) (within_record i) (within_path i)
    (λ v m d. then_skipped all (λ _. give (Some (record { place = i; node = whole_record }))) v (any_token v) (skip_word all record_word refl v m d)
    (λ _. gives_counted all (Some (record { place = i; node = whole_record }))))
    (one_by_one all path_names (λ p. give (Some (record { place = i; node = node p }))) (path_counted all) (λ p. gives_counted all (Some (record { place = i; node = node p }))))))
    (gives_counted all None)

star_counts : (a : Aggregate) (t : QueryToken) → counts_rows a t ≡ true → is_operator t ≡ true
star_counts count t h = ap is_operator (sign_is_this star t h)
star_counts a t h = absurd (cc h)

aggregate_plain : (t : QueryToken) (a : Aggregate) → aggregate_in t ≡ Some a → is_operator t ≡ false
aggregate_plain (reserved count_word) a h = refl
aggregate_plain (reserved sum_word) a h = refl
aggregate_plain (reserved min_word) a h = refl
aggregate_plain (reserved max_word) a h = refl
aggregate_plain (reserved w) a h = absurd (cc h)
aggregate_plain t a h = absurd (cc h)

-- ")" and WITHIN, behind what an aggregate is of
closed_counted : (all : List PlacedToken) (make : Option WithinSyntax → TermSyntax) → Keeps all TermSyntax (mark close_parenthesis >>= (λ _. within_part >>= (λ w. give (make w))))
closed_counted all make = one_by_one all (mark close_parenthesis) (λ _. within_part >>= (λ w. give (make w))) (mark_counted all close_parenthesis refl)
    (λ _. one_by_one all within_part (λ w. give (make w)) (within_counted all) (λ w. gives_counted all (make w)))

inside_counted : (all : List PlacedToken) (a : Aggregate) → Keeps all TermSyntax (if_next (counts_rows a) rows_argument (expression_argument a))
inside_counted all a = if_counted all (counts_rows a) rows_argument (expression_argument a)
    (λ u n c. then_skipped all (λ _. mark close_parenthesis >>= (λ _. within_part >>= (λ w. give (count_rows w)))) u (operator u)
    (operator_counted all u n.first n.rest n.tokens (star_counts a n.first.token n.passes_it) c) (λ _. closed_counted all count_rows))
    (one_by_one all argument (λ e. mark close_parenthesis >>= (λ _. within_part >>= (λ w. give (aggregate a e w)))) (argument_counted all) (λ e. closed_counted all (aggregate a e)))

term_counted : (all : List PlacedToken) → Keeps all TermSyntax item_term
term_counted all = by_counted all aggregate_in aggregate_term expression_term
    (λ a u m c. then_skipped all (λ _. mark open_parenthesis >>= (λ _. if_next (counts_rows a) rows_argument (expression_argument a))) u (any_token u)
    (went (place_of u) (record u { tokens = without_first u.tokens }) (behind_counted all u m.first m.rest m.tokens (aggregate_plain m.first.token a m.means) c))
    (λ _. one_by_one all (mark open_parenthesis) (λ _. if_next (counts_rows a) rows_argument (expression_argument a)) (mark_counted all open_parenthesis refl) (λ _. inside_counted all a)))
    (one_by_one all whole_expression (λ e. give (expression e)) (whole_counted all) (λ e. gives_counted all (expression e)))

as_counted : (all : List PlacedToken) → Keeps all (Option (List ℕ)) as_part
as_counted all = if_counted all (is_the_word as_word) (any_token >>= (λ _. name >>= (λ n. give (Some n)))) (give None)
    (λ u n c. then_skipped all (λ _. name >>= (λ m. give (Some m))) u (any_token u) (skip_word all as_word refl u n c)
    (λ _. one_by_one all name (λ m. give (Some m)) (name_counted all) (λ m. gives_counted all (Some m)))) (gives_counted all None)

item_counted : (all : List PlacedToken) → Keeps all ItemSyntax item
item_counted all = one_by_one all here (λ i. item_term >>= (λ t. as_part >>= (λ n. give (record { place = i; term = t; name = n })))) (here_counted all)
    (λ i. one_by_one all item_term (λ t. as_part >>= (λ n. give (record { place = i; term = t; name = n }))) (term_counted all)
    (λ t. one_by_one all as_part (λ n. give (record { place = i; term = t; name = n })) (as_counted all) (λ n. gives_counted all (record { place = i; term = t; name = n }))))

-- ---- lists

-- what is told of a token behind some tokens of a text
abbrev IsExtra : List PlacedToken → PlacedToken → Type 0
IsExtra before t = IsExtraOperator before t ⊎ BeginsExtraItem before t ⊎ BeginsExtraKey before t

-- what is told of a token that begins an element behind 256 others, each with a comma behind it
abbrev TellsExtra : (A : Type 0) → (List PlacedToken → A → Type 0) → (QueryToken → Bool) → List PlacedToken → Type 0
TellsExtra A S begins front = (i : ℕ) (ts : List PlacedToken) (xs : List A) (t : PlacedToken) → Separated A S ts xs → length xs ≡ 256 → begins t.token ≡ true
    → IsExtra (front ++ (ts ++ sign_at i comma ∷ [])) t

-- behind a comma that was just read
comma_behind : {A B : Type 0} (all : List PlacedToken) (S : List PlacedToken → A → Type 0) (begins : QueryToken → Bool) (front ts : List PlacedToken) (xs : List A) → TellsExtra A S begins front
    → Separated A S ts xs → length xs ≡ 256 → (u : Unread) → NextToken (is_the_sign comma) u → all ≡ front ++ (ts ++ u.tokens) → Counted all u
    → Reads B (Counted all) all (too_many_of begins (record u { tokens = without_first u.tokens }))
comma_behind {A} {B} all S begins front ts xs tells s full u n z c = by_test (next_is begins v) refl
  where
    v : Unread
    v = record u { tokens = without_first u.tokens }

    d : Counted all v
    d = behind_counted all u n.first n.rest n.tokens (ap is_operator (sign_is_this comma n.first.token n.passes_it)) c

    last : n.first ≡ sign_at n.first.place comma
    last = ap (placed n.first.place) (sign_is_this comma n.first.token n.passes_it)

    tokens : u.tokens ≡ sign_at n.first.place comma ∷ v.tokens
    tokens = n.tokens ∙ ap₂ (λ x xs. x ∷ xs) last (sym (ap without_first n.tokens))

    by_test : (b : Bool) → next_is begins v ≡ b → Reads B (Counted all) all (either b (problem_here too_many) (problem_here syntax) v)
    by_test true e =
        let m = next_token begins v e in
        let before = front ++ (ts ++ sign_at n.first.place comma ∷ []) in
        let here : all ≡ before ++ v.tokens = behind all (ts ++ u.tokens) (ts ++ sign_at n.first.place comma ∷ []) front v.tokens z
        (behind (ts ++ u.tokens) u.tokens (sign_at n.first.place comma ∷ []) ts v.tokens refl tokens) in
        stopped (record { place = first_place v.size v.tokens; problem = too_many })
        ((λ _. (before, m.first, m.rest, here ∙ ap (λ xs. before ++ xs) m.tokens, sym (ap (first_place v.size) m.tokens), tells n.first.place ts xs m.first s full m.passes_it)), few_before all v d)
    by_test false e = no_limit all syntax not_syntax v d

one_fewer : {A : Type 0} (xs : List A) (x : A) (k : ℕ) → length xs + suc k ≡ 256 → length (xs ++ x ∷ []) + k ≡ 256
one_fewer xs x k h = let e : length (xs ++ x ∷ []) ≡ length xs + 1 = length-append xs (x ∷ []) in omega (arith, h, e)

-- what is told of further elements behind a front, of which so many may come
abbrev CountsMore : (A : Type 0) → List PlacedToken → (List PlacedToken → A → Type 0) → (QueryToken → Bool) → Production A → List PlacedToken → ℕ → Type 0
CountsMore A all S begins element front k = (xs : List A) (ts : List PlacedToken) → Separated A S ts xs → length xs + k ≡ 256 → (u : Unread) → all ≡ front ++ (ts ++ u.tokens) → Counted all u
    → Reads (List A) (Counted all) all (further_elements begins element k xs u)

elements_full : {A : Type 0} (all : List PlacedToken) (S : List PlacedToken → A → Type 0) (begins : QueryToken → Bool) (element : Production A) (front : List PlacedToken)
    → TellsExtra A S begins front → CountsMore A all S begins element front zero
elements_full {A} all S begins element front tells xs ts s full u z c = by_test (next_is (is_the_sign comma) u) refl
  where
    by_test : (b : Bool) → next_is (is_the_sign comma) u ≡ b → Reads (List A) (Counted all) all (either b (any_token >>= (λ _. too_many_of begins)) (give xs) u)
    by_test true e = comma_behind all S begins front ts xs tells s (sym (add-zero (length xs)) ∙ full) u (next_token (is_the_sign comma) u e) z c
    by_test false e = gives_counted all xs u c

elements_round : {A : Type 0} (all : List PlacedToken) (S : List PlacedToken → A → Type 0) (begins : QueryToken → Bool) (element : Production A) (front : List PlacedToken) → Keeps all A element
    → ((u : Unread) → Outcome A S u (element u)) → (k : ℕ) → CountsMore A all S begins element front k → CountsMore A all S begins element front (suc k)
elements_round {A} all S begins element front goes spells k again xs ts s full u z c = by_test (next_is (is_the_sign comma) u) refl
  where
    by_test : (b : Bool) → next_is (is_the_sign comma) u ≡ b
        → Reads (List A) (Counted all) all (either b (any_token >>= (λ _. element >>= (λ x. further_elements begins element k (xs ++ x ∷ [])))) (give xs) u)
    by_test true e =
        let n = next_token (is_the_sign comma) u e in
        bind_both (One (sign comma)) (Counted all) (Counted all) all u (any_token u) (λ _. element >>= (λ x. further_elements begins element k (xs ++ x ∷ []))) (known_sign comma u n) (skip_sign all comma refl u n c)
        (λ i v ws g o d. bind_both S (Counted all) (Counted all) all v (element v) (λ x. further_elements begins element k (xs ++ x ∷ [])) (spells v) (goes v d)
        (λ x w us h r f. again (xs ++ x ∷ []) (ts ++ sign_at i comma ∷ us) (and_one i ts us xs x s r) (one_fewer xs x k full) w
        (z ∙ ap (λ zs. front ++ zs) (behind (ts ++ u.tokens) u.tokens (sign_at i comma ∷ us) ts w.tokens refl (g ∙ (ap (λ zs. zs ++ v.tokens) o ∙ ap (λ zs. sign_at i comma ∷ zs) h)))) f))
    by_test false e = gives_counted all xs u c

more_elements : {A : Type 0} (all : List PlacedToken) (S : List PlacedToken → A → Type 0) (begins : QueryToken → Bool) (element : Production A) (front : List PlacedToken)
    → TellsExtra A S begins front → Keeps all A element → ((u : Unread) → Outcome A S u (element u)) → (k : ℕ) → CountsMore A all S begins element front k
more_elements all S begins element front tells goes spells zero = elements_full all S begins element front tells
more_elements all S begins element front tells goes spells (suc k) = elements_round all S begins element front goes spells k (more_elements all S begins element front tells goes spells k)

elements_counted : {A : Type 0} (all : List PlacedToken) (S : List PlacedToken → A → Type 0) (begins : QueryToken → Bool) (element : Production A) (front : List PlacedToken)
    → TellsExtra A S begins front → Keeps all A element → ((u : Unread) → Outcome A S u (element u)) → (u : Unread) → all ≡ front ++ u.tokens → Counted all u
    → Reads (List A) (Counted all) all (elements begins element 255 u)
elements_counted all S begins element front tells goes spells u z c =
    bind_both S (Counted all) (Counted all) all u (element u) (λ x. further_elements begins element 255 (x ∷ [])) (spells u) (goes u c)
    (λ x v ts g r d. more_elements all S begins element front tells goes spells 255 (x ∷ []) ts (alone ts x r) refl v (z ∙ ap (λ zs. front ++ zs) g) d)

item_is_extra : (h : ℕ) → TellsExtra ItemSyntax SpellsItem begins_item (word_at h select_word ∷ [])
item_is_extra h i ts xs t s full b =
    let before = word_at h select_word ∷ (ts ++ sign_at i comma ∷ []) in
    inr (inl (b, subst (λ n. BeforeItem n before) full (before_further_item h i ts xs s)))

key_is_extra : (front : List PlacedToken) → BeforeKeys front → TellsExtra PathSyntax SpellsPath begins_key front
key_is_extra front x i ts ks t s full b = inr (inr (b, subst (λ n. BeforeKey n (front ++ (ts ++ sign_at i comma ∷ []))) full (before_further_key i front ts ks x s)))

items_counted : (all : List PlacedToken) (h : ℕ) (u : Unread) → all ≡ word_at h select_word ∷ u.tokens → Counted all u → Reads (List ItemSyntax) (Counted all) all (items u)
unfolding items
items_counted all h u z c = elements_counted all SpellsItem begins_item item (word_at h select_word ∷ []) (item_is_extra h) (item_counted all) item_goes u z c

keys_counted : (all front : List PlacedToken) → BeforeKeys front → (u : Unread) → all ≡ front ++ u.tokens → Counted all u → Reads (List PathSyntax) (Counted all) all (keys u)
unfolding keys
keys_counted all front x u z c = elements_counted all SpellsPath begins_key path_names front (key_is_extra front x) (path_counted all) path_outcome u z c

-- ---- queries

table_counted : (all : List PlacedToken) → Keeps all NameSyntax table_name
table_counted all = one_by_one all here (λ i. name >>= (λ n. give (record { place = i; name = n }))) (here_counted all)
    (λ i. one_by_one all name (λ n. give (record { place = i; name = n })) (name_counted all) (λ n. gives_counted all (record { place = i; name = n })))

abbrev condition_of : ℕ → ExpressionSyntax → Option ConditionSyntax
condition_of i e = Some (record { place = i; expression = e })

where_counted : (all : List PlacedToken) → Keeps all (Option ConditionSyntax) where_part
where_counted all = if_counted all (is_the_word where_word) (any_token >>= (λ _. here >>= (λ i. whole_expression >>= (λ e. give (condition_of i e))))) (give None)
    (λ u n c. then_skipped all (λ _. here >>= (λ i. whole_expression >>= (λ e. give (condition_of i e)))) u (any_token u) (skip_word all where_word refl u n c)
    (λ _. one_by_one all here (λ i. whole_expression >>= (λ e. give (condition_of i e))) (here_counted all)
    (λ i. one_by_one all whole_expression (λ e. give (condition_of i e)) (whole_counted all) (λ e. gives_counted all (condition_of i e))))) (gives_counted all None)

-- a query's front: SELECT item {"," item} FROM name [WHERE expr]
record UpToClauses (front : List PlacedToken) : Type 0 where
  select_place : ℕ
  from_place : ℕ
  name_place : ℕ
  name : List ℕ
  item_tokens : List PlacedToken
  item_trees : List ItemSyntax
  condition_tokens : List PlacedToken
  condition_tree : Option ConditionSyntax
  tokens : front ≡ word_at select_place select_word ∷ (item_tokens ++ word_at from_place from_word ∷ name_at name_place name ∷ condition_tokens)
  spells_items : Separated ItemSyntax SpellsItem item_tokens item_trees
  spells_condition : SpellsWhere condition_tokens condition_tree

-- GROUP BY behind such a front
up_to_keys : (front : List PlacedToken) (k l : ℕ) → UpToClauses front → BeforeKeys (front ++ word_at k group_word ∷ word_at l by_word ∷ [])
up_to_keys front k l x =
    let two = word_at k group_word ∷ word_at l by_word ∷ [] in
    let clauses = word_at x.from_place from_word ∷ name_at x.name_place x.name ∷ x.condition_tokens in
    let tokens : front ++ two ≡ word_at x.select_place select_word ∷ (x.item_tokens ++ (clauses ++ two)) =
    ap (λ xs. xs ++ two) x.tokens ∙ ap (λ xs. word_at x.select_place select_word ∷ xs) (append_assoc x.item_tokens clauses two) in
    subst BeforeKeys (sym tokens) (before_keys x.select_place x.from_place x.name_place k l x.name x.item_tokens x.condition_tokens x.item_trees x.condition_tree x.spells_items x.spells_condition)

group_counted : (all front : List PlacedToken) → UpToClauses front → (u : Unread) → all ≡ front ++ u.tokens → Counted all u → Reads (List PathSyntax) (Counted all) all (group_part u)
group_counted all front x u z c = by_test (next_is (is_the_word group_word) u) refl
  where
    by_test : (b : Bool) → next_is (is_the_word group_word) u ≡ b → Reads (List PathSyntax) (Counted all) all (either b (any_token >>= (λ _. word by_word >>= (λ _. keys))) (give []) u)
    by_test true e =
        let n = next_token (is_the_word group_word) u e in
        bind_both (One (reserved group_word)) (Counted all) (Counted all) all u (any_token u) (λ _. word by_word >>= (λ _. keys)) (known_word group_word u n) (skip_word all group_word refl u n c)
        (λ k v ts g o d. bind_both (One (reserved by_word)) (Counted all) (Counted all) all v (word by_word v) (λ _. keys) (word_outcome by_word v) (word_counted all by_word refl v d)
        (λ l w us h r f.
        let two : u.tokens ≡ word_at k group_word ∷ word_at l by_word ∷ w.tokens =
        g ∙ (ap (λ zs. zs ++ v.tokens) o ∙ ap (λ zs. word_at k group_word ∷ zs) (h ∙ ap (λ zs. zs ++ w.tokens) r)) in
        keys_counted all (front ++ word_at k group_word ∷ word_at l by_word ∷ []) (up_to_keys front k l x) w
        (behind all u.tokens (word_at k group_word ∷ word_at l by_word ∷ []) front w.tokens z two) f))
    by_test false e = gives_counted all [] u c

-- the whole text was read
record Ended (all : List PlacedToken) (u : Unread) : Type 0 where
  few : nat_le (operators_in all) 512 ≡ true

ended_by : (all : List PlacedToken) (ts : List PlacedToken) (n k : ℕ) → Counted all (record { tokens = ts; size = n; operators = k })
    → Reads ℕ (Ended all) all (text_end (record { tokens = ts; size = n; operators = k }))
ended_by all [] n k c = went n (record { tokens = []; size = n; operators = k })
    (record { few = ap (λ m. nat_le m 512) (ap operators_in (c.tokens ∙ append-nil c.before) ∙ c.count) ∙ c.few })
ended_by all (t ∷ ts) n k c = stopped (record { place = t.place; problem = syntax })
    ((λ e. absurd (not_syntax e)), few_before all (record { tokens = t ∷ ts; size = n; operators = k }) c)

text_end_counted : (all : List PlacedToken) (u : Unread) → Counted all u → Reads ℕ (Ended all) all (text_end u)
text_end_counted all u c = ended_by all u.tokens u.size u.operators c

end_counted : (all : List PlacedToken) (u : Unread) → Counted all u → Reads ℕ (Ended all) all (end_part u)
end_counted all u c = by_test (next_is (is_the_sign semicolon) u) refl
  where
    by_test : (b : Bool) → next_is (is_the_sign semicolon) u ≡ b → Reads ℕ (Ended all) all (either b (any_token >>= (λ _. text_end)) text_end u)
    by_test true e = bind (Counted all) (Ended all) all (any_token u) (λ _. text_end) (skip_sign all semicolon refl u (next_token (is_the_sign semicolon) u e) c) (λ _ v d. text_end_counted all v d)
    by_test false e = text_end_counted all u c

-- one production behind another, to the text's end
ends : {A B : Type 0} (S : List PlacedToken → A → Type 0) (all : List PlacedToken) (p : Production A) (next : A → Production B) (u : Unread) → Outcome A S u (p u) → Reads A (Counted all) all (p u)
    → ((a : A) (v : Unread) (ts : List PlacedToken) → u.tokens ≡ ts ++ v.tokens → S ts a → Counted all v → Reads B (Ended all) all (next a v)) → Reads B (Ended all) all ((p >>= next) u)
ends S all p next u o r step = bind_both S (Counted all) (Ended all) all u (p u) next o r step

abbrev tree_of : List ItemSyntax → NameSyntax → Option ConditionSyntax → List PathSyntax → QuerySyntax
tree_of xs t c ks = record { items = xs; table = t; condition = c; keys = ks }

-- what stands behind the condition; behind the table's name; behind the items
abbrev behind_condition : List ItemSyntax → NameSyntax → Option ConditionSyntax → Production QuerySyntax
behind_condition xs t c = group_part >>= (λ ks. end_part >>= (λ _. give (tree_of xs t c ks)))

abbrev behind_table : List ItemSyntax → NameSyntax → Production QuerySyntax
behind_table xs t = where_part >>= behind_condition xs t

abbrev behind_items : List ItemSyntax → Production QuerySyntax
behind_items xs = word from_word >>= (λ _. table_name >>= behind_table xs)

clauses_end : (all front : List PlacedToken) (xs : List ItemSyntax) (t : NameSyntax) (x : Option ConditionSyntax) → UpToClauses front → (u : Unread) → all ≡ front ++ u.tokens → Counted all u
    → Reads QuerySyntax (Ended all) all (behind_condition xs t x u)
clauses_end all front xs t x f u z c =
    bind (Counted all) (Ended all) all (group_part u) (λ ks. end_part >>= (λ _. give (tree_of xs t x ks))) (group_counted all front f u z c)
    (λ ks v d. bind (Ended all) (Ended all) all (end_part v) (λ _. give (tree_of xs t x ks)) (end_counted all v d) (λ _ w e. went (tree_of xs t x ks) w e))

items_end : (all : List PlacedToken) (h : ℕ) (ts : List PlacedToken) (xs : List ItemSyntax) → Separated ItemSyntax SpellsItem ts xs → (u : Unread) → all ≡ word_at h select_word ∷ (ts ++ u.tokens)
    → Counted all u → Reads QuerySyntax (Ended all) all (behind_items xs u)
items_end all h ts xs s u z c = ends (One (reserved from_word)) all (word from_word) (λ _. table_name >>= behind_table xs) u (word_outcome from_word u) (word_counted all from_word refl u c)
    (λ i v f e o d. ends TableIs all table_name (behind_table xs) v (table_goes v) (table_counted all v d)
    (λ t w n g p b. ends SpellsWhere all where_part (behind_condition xs t) w (where_goes w) (where_counted all w b)
    (λ x y us k r a.
    let clauses = word_at i from_word ∷ name_at t.place t.name ∷ us in
    let tokens : u.tokens ≡ clauses ++ y.tokens =
    e ∙ (ap (λ zs. zs ++ v.tokens) o ∙ ap (λ zs. word_at i from_word ∷ zs) (g ∙ (ap (λ zs. zs ++ w.tokens) p ∙ ap (λ zs. name_at t.place t.name ∷ zs) k))) in
    clauses_end all (word_at h select_word ∷ (ts ++ clauses)) xs t x (record {
      select_place = h;
      from_place = i;
      name_place = t.place;
      name = t.name;
      item_tokens = ts;
      item_trees = xs;
      condition_tokens = us;
      condition_tree = x;
      tokens = refl;
      spells_items = s;
      spells_condition = r;
    }) y (z ∙ ap (λ zs. word_at h select_word ∷ zs) (behind (ts ++ u.tokens) u.tokens clauses ts y.tokens refl tokens)) a)))

query_counted : (all : List PlacedToken) (u : Unread) → all ≡ u.tokens → Counted all u → Reads QuerySyntax (Ended all) all (query u)
query_counted all u z c = ends (One (reserved select_word)) all (word select_word) (λ _. items >>= behind_items) u (word_outcome select_word u) (word_counted all select_word refl u c)
    (λ h v f e o d.
    let tokens : all ≡ word_at h select_word ∷ v.tokens = z ∙ (e ∙ ap (λ zs. zs ++ v.tokens) o) in
    ends (Separated ItemSyntax SpellsItem) all items behind_items v (items_go v) (items_counted all h v tokens d)
    (λ xs w ts g s b. items_end all h ts xs s w (tokens ∙ ap (λ zs. word_at h select_word ∷ zs) g) b))

-- ---- the laws

nothing_read : (bytes : List ℕ) → Counted (query_tokens bytes) (unread_text bytes)
nothing_read bytes = record { before = []; tokens = refl; count = refl; few = refl }

told_of : (all : List PlacedToken) (p : Parsed QuerySyntax) (i : ℕ) → Reads QuerySyntax (Ended all) all p → result_of p ≡ Err (record { place = i; problem = too_many }) → TooManyStandsAt all i
told_of all _ i (went a v e) h = absurd (cc h)
told_of all _ i (stopped f t) h =
    let k : f ≡ record { place = i; problem = too_many } = cc in
    subst (TooManyStandsAt all) (ap (λ (x : QueryFault). x.place) k) (t.0 (ap (λ (x : QueryFault). x.problem) k))

few_of : (all : List PlacedToken) (p : Parsed QuerySyntax) (q : QuerySyntax) → Reads QuerySyntax (Ended all) all p → result_of p ≡ Ok q → nat_le (operators_in all) 512 ≡ true
few_of all _ q (went a v e) h = e.few
few_of all _ q (stopped f t) h = absurd (cc h)

-- the problem of a refusal
abbrev problem_in : Result QuerySyntax QueryFault → QueryProblem
problem_in (Ok q) = syntax
problem_in (Err f) = f.problem

not_long : too_long ≡ too_many → ⊥
not_long e = absurd (cc e)

pub too_many_stands : TooManyStandsAtItsToken
unfolding parse_query
too_many_stands bytes i h = by_length (nat_lt longest_query (length bytes)) h
  where
    by_length : (b : Bool) → (if b then Err (record { place = longest_query; problem = too_long }) else result_of (query (unread_text bytes))) ≡ Err (record { place = i; problem = too_many })
        → TooManyStandsAt (query_tokens bytes) i
    by_length true g = absurd (not_long (ap problem_in g))
    by_length false g = told_of (query_tokens bytes) (query (unread_text bytes)) i (query_counted (query_tokens bytes) (unread_text bytes) refl (nothing_read bytes)) g

pub few_operators : AcceptedHasFewOperators
unfolding parse_query
few_operators bytes q h = by_length (nat_lt longest_query (length bytes)) h
  where
    by_length : (b : Bool) → (if b then Err (record { place = longest_query; problem = too_long }) else result_of (query (unread_text bytes))) ≡ Ok q
        → nat_le (operators_in (query_tokens bytes)) 512 ≡ true
    by_length true g = absurd (cc g)
    by_length false g = few_of (query_tokens bytes) (query (unread_text bytes)) q (query_counted (query_tokens bytes) (unread_text bytes) refl (nothing_read bytes)) g

before_of : (all : List PlacedToken) (p : Parsed QuerySyntax) (f : QueryFault) → Reads QuerySyntax (Ended all) all p → result_of p ≡ Err f → FewOperatorsBefore all f.place
before_of all _ f (went a v e) h = absurd (cc h)
before_of all _ f (stopped g t) h = let k : g ≡ f = cc in subst (FewOperatorsBefore all) (ap (λ (x : QueryFault). x.place) k) t.1

pub few_operators_before : FewOperatorsBeforeFault
unfolding parse_query
few_operators_before bytes f a h = by_length (nat_lt longest_query (length bytes)) h
  where
    by_length : (b : Bool) → (if b then Err (record { place = longest_query; problem = too_long }) else result_of (query (unread_text bytes))) ≡ Err f → FewOperatorsBefore (query_tokens bytes) f.place
    by_length true g = absurd (subst IsAtToken (sym (ap problem_in g)) a)
    by_length false g = before_of (query_tokens bytes) (query (unread_text bytes)) f (query_counted (query_tokens bytes) (unread_text bytes) refl (nothing_read bytes)) g
