-- What the grammar spells, parse_query accepts with the same tree, or refuses for a limit: expressions.
use Rattle.std.specs.Prelude.{◌≡◌, ℕ, zero, suc, ◌<◌, ◌≤◌, List, [], ◌∷◌, ◌++◌, length, Bool, true, false, nat_lt, Option, Some, None, option_and_then, ◌||◌}
use Rattle.std.proofs.Common.{refl, sym, ap, subst, ◌∙◌, append_assoc, arith, length-append, lit<}
use Rattle.dr_meaning.specs.Tokens.{Word, and_word, or_word}
use Rattle.dr_meaning.specs.Tokens.{not_word, like_word, contains_word, is_word, null_word, true_word, false_word}
use Rattle.dr_meaning.specs.Tokens.{Sign, open_parenthesis, close_parenthesis, dot, star, plus_sign, minus_sign, equals, differs, less_than}
use Rattle.dr_meaning.specs.Tokens.{less_or_equal, greater_than, greater_or_equal, QueryToken, reserved, identifier, number, sign}
use Rattle.dr_meaning.specs.Tokens.{PlacedToken, placed}
use Rattle.dr_meaning.specs.Expression.{plus, minus, times, Comparison}
use Rattle.dr_meaning.specs.Syntax.{PathSyntax, ExpressionSyntax, number_literal, text_literal, truth_literal, path, negative, arithmetic}
use Rattle.dr_meaning.specs.Syntax.{comparison, like, contains, is_null, negation, conjunction, disjunction}
use Rattle.dr_meaning.specs.Parse.{too_deep, too_many, syntax, QueryFault, Unread, Parsed, got, refused, Production, give, goes_on, ◌>>=◌, first_token}
use Rattle.dr_meaning.specs.Parse.{first_place, place_of, without_first, behind_token, behind_operator, passes, either, if_next, for_some, by_next, problem_here, any_token}
use Rattle.dr_meaning.specs.Parse.{operator, counted, most_operators, is_the_word, is_the_sign, word, mark, name, quoted_text, comparison_in, Joining, or_in, and_in, sum_in}
use Rattle.dr_meaning.specs.Parse.{product_in, further_names, names, path_names, negated, signed, Inner, literal, path_operand, primary_at, primary, unary}
use Rattle.dr_meaning.specs.Parse.{begins_primary, name_in, text_in, further_operands, product_of, sum_of, plain, like_test, contains_test, text_test, denied_test, denied_null, plain_null, null_test}
use Rattle.dr_meaning.specs.Parse.{comparison_test, word_test, tested, test_of, not_of, and_of, expression_of, nested}
use Rattle.dr_meaning.specs.SyntaxLaws.{IsLimit}
use Rattle.dr_meaning.specs.QueryGrammar.{word_at, sign_at, name_at, text_at, SpellsNames, first_name, further_name, SpellsPath, IsComparison, is_equal, is_unequal}
use Rattle.dr_meaning.specs.QueryGrammar.{is_less, is_at_most, is_greater, is_at_least, SpellsExpression, one_and, or_and, SpellsAnd, one_not, and_not, SpellsNot, not_not, one_test}
use Rattle.dr_meaning.specs.QueryGrammar.{SpellsTest, one_sum, compared_sums, like_text, not_like_text, contains_text, not_contains_text, is_null_word, is_not_null, SpellsSum}
use Rattle.dr_meaning.specs.QueryGrammar.{one_product, plus_product, minus_product, SpellsProduct, one_unary, times_unary, SpellsUnary, minus_unary, one_primary, SpellsPrimary}
use Rattle.dr_meaning.specs.QueryGrammar.{a_number, a_text, a_true, a_false, a_path, in_parentheses}

-- ---- what comes of reading what is spelled

-- this was read, and these tokens are left; or it is refused for a limit
pub data Reads (A : Type 0) (a : A) (rest : List PlacedToken) : Parsed A → Type 0 where
  read_all : (v : Unread) → v.tokens ≡ rest → Reads A a rest (got a v)
  limited : (f : QueryFault) → IsLimit f.problem → Reads A a rest (refused f)

-- going on behind what was read
pub reads_on : (A B : Type 0) (a : A) (b : B) (middle rest : List PlacedToken) (p : Parsed A) (next : A → Production B) → Reads A a middle p
    → ((v : Unread) → v.tokens ≡ middle → Reads B b rest (next a v)) → Reads B b rest (goes_on p next)
reads_on A B a b middle rest _ next (read_all v e) f = f v e
reads_on A B a b middle rest _ next (limited x l) f = limited x l

-- ---- single tokens

unread_of : List PlacedToken → ℕ → ℕ → Unread
unread_of ts size used = record { tokens = ts; size = size; operators = used }

pub any_complete : (t : PlacedToken) (rest : List PlacedToken) (u : Unread) → u.tokens ≡ t ∷ rest → Reads ℕ t.place rest (any_token u)
any_complete t rest u e = subst (λ (i : ℕ). Reads ℕ i rest (any_token u)) (ap (first_place u.size) e) (read_all (behind_token u) (ap without_first e))

pub operator_complete : (t : PlacedToken) (rest : List PlacedToken) (u : Unread) → u.tokens ≡ t ∷ rest → Reads ℕ t.place rest (operator u)
operator_complete t rest u e = by_count (nat_lt u.operators most_operators)
  where
    by_count : (b : Bool) → Reads ℕ t.place rest (either b counted (problem_here too_many) u)
    by_count true = subst (λ (i : ℕ). Reads ℕ i rest (counted u)) (ap (first_place u.size) e) (read_all (behind_operator u) (ap without_first e))
    by_count false = limited (record { place = place_of u; problem = too_many }) tt

-- whether the first of these tokens passes a test
abbrev pub starts : (QueryToken → Bool) → List PlacedToken → Bool
starts test ts = passes test (first_token ts)

pub if_yes : {A : Type 0} (test : QueryToken → Bool) (p q : Production A) (a : A) (rest : List PlacedToken) (u : Unread) (ts : List PlacedToken) → u.tokens ≡ ts → starts test ts ≡ true → Reads A a rest (p u)
    → Reads A a rest (if_next test p q u)
if_yes {A} test p q a rest u ts e s r = subst (λ (b : Bool). Reads A a rest (either b p q u)) (sym (ap (starts test) e ∙ s)) r

pub if_no : {A : Type 0} (test : QueryToken → Bool) (p q : Production A) (a : A) (rest : List PlacedToken) (u : Unread) (ts : List PlacedToken) → u.tokens ≡ ts → starts test ts ≡ false → Reads A a rest (q u)
    → Reads A a rest (if_next test p q u)
if_no {A} test p q a rest u ts e s r = subst (λ (b : Bool). Reads A a rest (either b p q u)) (sym (ap (starts test) e ∙ s)) r

-- what the first of these tokens stands for
abbrev pub meaning_in : {A : Type 0} → (QueryToken → Option A) → List PlacedToken → Option A
meaning_in f ts = option_and_then f (first_token ts)

pub by_some : {A B : Type 0} (f : QueryToken → Option A) (p : A → Production B) (q : Production B) (a : A) (b : B) (rest : List PlacedToken) (u : Unread) (ts : List PlacedToken) → u.tokens ≡ ts
    → meaning_in f ts ≡ Some a → Reads B b rest (p a u) → Reads B b rest (by_next f p q u)
by_some {A} {B} f p q a b rest u ts e s r = subst (λ (o : Option A). Reads B b rest (for_some o p q u)) (sym (ap (meaning_in f) e ∙ s)) r

pub by_none : {A B : Type 0} (f : QueryToken → Option A) (p : A → Production B) (q : Production B) (b : B) (rest : List PlacedToken) (u : Unread) (ts : List PlacedToken) → u.tokens ≡ ts
    → meaning_in f ts ≡ None → Reads B b rest (q u) → Reads B b rest (by_next f p q u)
by_none {A} {B} f p q b rest u ts e s r = subst (λ (o : Option A). Reads B b rest (for_some o p q u)) (sym (ap (meaning_in f) e ∙ s)) r

pub word_complete : (w : Word) (i : ℕ) (rest : List PlacedToken) (u : Unread) → is_the_word w (reserved w) ≡ true → u.tokens ≡ word_at i w ∷ rest → Reads ℕ i rest (word w u)
word_complete w i rest u s e = if_yes (is_the_word w) any_token (problem_here syntax) i rest u (word_at i w ∷ rest) e s (any_complete (word_at i w) rest u e)

pub sign_complete : (s : Sign) (i : ℕ) (rest : List PlacedToken) (u : Unread) → is_the_sign s (sign s) ≡ true → u.tokens ≡ sign_at i s ∷ rest → Reads ℕ i rest (mark s u)
sign_complete s i rest u k e = if_yes (is_the_sign s) any_token (problem_here syntax) i rest u (sign_at i s ∷ rest) e k (any_complete (sign_at i s) rest u e)

pub name_complete : (n : List ℕ) (i : ℕ) (rest : List PlacedToken) (u : Unread) → u.tokens ≡ name_at i n ∷ rest → Reads (List ℕ) n rest (name u)
name_complete n i rest u e = by_some name_in (λ m v. got m (behind_token v)) (problem_here syntax) n n rest u (name_at i n ∷ rest) e refl (read_all (behind_token u) (ap without_first e))

pub text_complete : (t : List ℕ) (i : ℕ) (rest : List PlacedToken) (u : Unread) → u.tokens ≡ text_at i t ∷ rest → Reads (List ℕ) t rest (quoted_text u)
text_complete t i rest u e = by_some text_in (λ m v. got m (behind_token v)) (problem_here syntax) t t rest u (text_at i t ∷ rest) e refl (read_all (behind_token u) (ap without_first e))

-- ---- what may stand behind

-- how far out a token goes on with what is before it: a path, a product, a sum, a test, AND, OR, or nothing of an expression
abbrev pub rank : QueryToken → ℕ
rank (sign dot) = 1
rank (sign star) = 2
rank (sign plus_sign) = 3
rank (sign minus_sign) = 3
rank (sign equals) = 4
rank (sign differs) = 4
rank (sign less_than) = 4
rank (sign less_or_equal) = 4
rank (sign greater_than) = 4
rank (sign greater_or_equal) = 4
rank (reserved not_word) = 4
rank (reserved like_word) = 4
rank (reserved contains_word) = 4
rank (reserved is_word) = 4
rank (reserved and_word) = 5
rank (reserved or_word) = 6
rank t = 7

abbrev pub rank_of : List PlacedToken → ℕ
rank_of [] = 7
rank_of (t ∷ ts) = rank t.token

-- a token of a high rank is none that goes on
no_dot : (ts : List PlacedToken) → 1 < rank_of ts → starts (is_the_sign dot) ts ≡ false
no_dot [] h = refl
no_dot (t ∷ ts) h = by_token t.token h
  where
    by_token : (q : QueryToken) → 1 < rank q → is_the_sign dot q ≡ false
    by_token (sign dot) g = absurd (omega (arith, g))
    by_token (sign s) g = refl
    by_token q g = refl

no_product : (ts : List PlacedToken) → 2 < rank_of ts → meaning_in product_in ts ≡ None
no_product [] h = refl
no_product (t ∷ ts) h = by_token t.token h
  where
    by_token : (q : QueryToken) → 2 < rank q → product_in q ≡ None
    by_token (sign star) g = absurd (omega (arith, g))
    by_token (sign s) g = refl
    by_token q g = refl

no_sum : (ts : List PlacedToken) → 3 < rank_of ts → meaning_in sum_in ts ≡ None
no_sum [] h = refl
no_sum (t ∷ ts) h = by_token t.token h
  where
    by_token : (q : QueryToken) → 3 < rank q → sum_in q ≡ None
    by_token (sign plus_sign) g = absurd (omega (arith, g))
    by_token (sign minus_sign) g = absurd (omega (arith, g))
    by_token (sign s) g = refl
    by_token q g = refl

no_and : (ts : List PlacedToken) → 5 < rank_of ts → meaning_in and_in ts ≡ None
no_and [] h = refl
no_and (t ∷ ts) h = by_token t.token h
  where
    by_token : (q : QueryToken) → 5 < rank q → and_in q ≡ None
    by_token (reserved and_word) g = absurd (omega (arith, g))
    by_token (reserved w) g = refl
    by_token q g = refl

no_or : (ts : List PlacedToken) → 6 < rank_of ts → meaning_in or_in ts ≡ None
no_or [] h = refl
no_or (t ∷ ts) h = by_token t.token h
  where
    by_token : (q : QueryToken) → 6 < rank q → or_in q ≡ None
    by_token (reserved or_word) g = absurd (omega (arith, g))
    by_token (reserved w) g = refl
    by_token q g = refl

-- no test goes on
record NoTest (ts : List PlacedToken) : Type 0 where
  no_comparison : meaning_in comparison_in ts ≡ None
  no_not : starts (is_the_word not_word) ts ≡ false
  no_is : starts (is_the_word is_word) ts ≡ false
  no_like : starts (is_the_word like_word) ts ≡ false
  no_contains : starts (is_the_word contains_word) ts ≡ false

no_tests : NoTest []
no_tests = record { no_comparison = refl; no_not = refl; no_is = refl; no_like = refl; no_contains = refl }

tests_end : (ts : List PlacedToken) → 4 < rank_of ts → NoTest ts
tests_end [] h = no_tests
tests_end (t ∷ ts) h = record { no_comparison = by_comparison t.token h; no_not = by_not t.token h; no_is = by_is t.token h; no_like = by_like t.token h; no_contains = by_contains t.token h }
  where
    by_comparison : (q : QueryToken) → 4 < rank q → comparison_in q ≡ None
    by_comparison (sign equals) g = absurd (omega (arith, g))
    by_comparison (sign differs) g = absurd (omega (arith, g))
    by_comparison (sign less_than) g = absurd (omega (arith, g))
    by_comparison (sign less_or_equal) g = absurd (omega (arith, g))
    by_comparison (sign greater_than) g = absurd (omega (arith, g))
    by_comparison (sign greater_or_equal) g = absurd (omega (arith, g))
    by_comparison (sign s) g = refl
    by_comparison q g = refl

    by_not : (q : QueryToken) → 4 < rank q → is_the_word not_word q ≡ false
    by_not (reserved not_word) g = absurd (omega (arith, g))
    by_not (reserved w) g = refl
    by_not q g = refl

    by_is : (q : QueryToken) → 4 < rank q → is_the_word is_word q ≡ false
    by_is (reserved is_word) g = absurd (omega (arith, g))
    by_is (reserved w) g = refl
    by_is q g = refl

    by_like : (q : QueryToken) → 4 < rank q → is_the_word like_word q ≡ false
    by_like (reserved like_word) g = absurd (omega (arith, g))
    by_like (reserved w) g = refl
    by_like q g = refl

    by_contains : (q : QueryToken) → 4 < rank q → is_the_word contains_word q ≡ false
    by_contains (reserved contains_word) g = absurd (omega (arith, g))
    by_contains (reserved w) g = refl
    by_contains q g = refl

-- ---- first tokens

-- the first of these tokens passes a test
abbrev pub First : (QueryToken → Bool) → List PlacedToken → Type 0
First p ts = (t : PlacedToken) × (us : List PlacedToken) × (ts ≡ t ∷ us) × (p t.token ≡ true)

abbrev pub begins_unary : QueryToken → Bool
begins_unary t = begins_primary t || is_the_sign minus_sign t

abbrev pub begins_expression : QueryToken → Bool
begins_expression t = begins_unary t || is_the_word not_word t

abbrev pub is_name : QueryToken → Bool
is_name (identifier n) = true
is_name t = false

pub first_before : (p : QueryToken → Bool) (ts us : List PlacedToken) → First p ts → First p (ts ++ us)
first_before p ts us f = (f.0, f.1 ++ us, ap (λ xs. xs ++ us) f.2, f.3)

pub first_as : (p q : QueryToken → Bool) (ts : List PlacedToken) → ((t : QueryToken) → p t ≡ true → q t ≡ true) → First p ts → First q ts
first_as p q ts g f = (f.0, f.1, f.2, g f.0.token f.3)

pub either_one : (a b : Bool) → a ≡ true → (a || b) ≡ true
either_one true b h = refl
either_one false b h = absurd (cc h)

pub first_name_is : (ts : List PlacedToken) (ns : List (List ℕ)) → SpellsNames ts ns → First is_name ts
first_name_is _ _ (first_name i n) = (name_at i n, [], refl, refl)
first_name_is _ _ (further_name i j ts ns n s) = first_before is_name ts _ (first_name_is ts ns s)

name_begins : (t : QueryToken) → is_name t ≡ true → begins_primary t ≡ true
name_begins (identifier n) h = refl
name_begins t h = absurd (cc h)

first_primary : (ts : List PlacedToken) (e : ExpressionSyntax) → SpellsPrimary ts e → First begins_primary ts
first_primary _ _ (a_number i n) = (_, _, refl, refl)
first_primary _ _ (a_text i t) = (_, _, refl, refl)
first_primary _ _ (a_true i) = (_, _, refl, refl)
first_primary _ _ (a_false i) = (_, _, refl, refl)
first_primary _ _ (a_path ts p s) = first_as is_name begins_primary ts name_begins (first_name_is ts p.names s.1)
first_primary _ _ (in_parentheses i j ts e s) = (_, _, refl, refl)

first_unary : (ts : List PlacedToken) (e : ExpressionSyntax) → SpellsUnary ts e → First begins_unary ts
first_unary _ _ (minus_unary i ts e s) = (_, _, refl, refl)
first_unary _ _ (one_primary ts e s) = first_as begins_primary begins_unary ts (λ t h. either_one (begins_primary t) (is_the_sign minus_sign t) h) (first_primary ts e s)

first_product : (ts : List PlacedToken) (e : ExpressionSyntax) → SpellsProduct ts e → First begins_unary ts
first_product _ _ (one_unary ts e s) = first_unary ts e s
first_product _ _ (times_unary i ts us a b r s) = first_before begins_unary ts _ (first_product ts a r)

first_sum : (ts : List PlacedToken) (e : ExpressionSyntax) → SpellsSum ts e → First begins_unary ts
first_sum _ _ (one_product ts e s) = first_product ts e s
first_sum _ _ (plus_product i ts us a b r s) = first_before begins_unary ts _ (first_sum ts a r)
first_sum _ _ (minus_product i ts us a b r s) = first_before begins_unary ts _ (first_sum ts a r)

first_test : (ts : List PlacedToken) (e : ExpressionSyntax) → SpellsTest ts e → First begins_unary ts
first_test _ _ (one_sum ts e s) = first_sum ts e s
first_test _ _ (compared_sums i g c ts us a b k r s) = first_before begins_unary ts _ (first_sum ts a r)
first_test _ _ (like_text i j ts e t s) = first_before begins_unary ts _ (first_sum ts e s)
first_test _ _ (not_like_text h i j ts e t s) = first_before begins_unary ts _ (first_sum ts e s)
first_test _ _ (contains_text i j ts e t s) = first_before begins_unary ts _ (first_sum ts e s)
first_test _ _ (not_contains_text h i j ts e t s) = first_before begins_unary ts _ (first_sum ts e s)
first_test _ _ (is_null_word i j ts e s) = first_before begins_unary ts _ (first_sum ts e s)
first_test _ _ (is_not_null i j k ts e s) = first_before begins_unary ts _ (first_sum ts e s)

first_not : (ts : List PlacedToken) (e : ExpressionSyntax) → SpellsNot ts e → First begins_expression ts
first_not _ _ (not_not i ts e s) = (_, _, refl, refl)
first_not _ _ (one_test ts e s) = first_as begins_unary begins_expression ts (λ t h. either_one (begins_unary t) (is_the_word not_word t) h) (first_test ts e s)

first_and : (ts : List PlacedToken) (e : ExpressionSyntax) → SpellsAnd ts e → First begins_expression ts
first_and _ _ (one_not ts e s) = first_not ts e s
first_and _ _ (and_not i ts us a b r s) = first_before begins_expression ts _ (first_and ts a r)

pub first_expression : (ts : List PlacedToken) (e : ExpressionSyntax) → SpellsExpression ts e → First begins_expression ts
first_expression _ _ (one_and ts e s) = first_and ts e s
first_expression _ _ (or_and i ts us a b r s) = first_before begins_expression ts _ (first_expression ts a r)

-- where the first token passes one test it doesn't pass another
pub other_first : (p q : QueryToken → Bool) (ts rest : List PlacedToken) → ((t : QueryToken) → p t ≡ true → q t ≡ false) → First p ts → starts q (ts ++ rest) ≡ false
other_first p q ts rest g f = ap (λ xs. starts q (xs ++ rest)) f.2 ∙ g f.0.token f.3

primary_is_no_minus : (t : QueryToken) → begins_primary t ≡ true → is_the_sign minus_sign t ≡ false
primary_is_no_minus (sign open_parenthesis) h = refl
primary_is_no_minus (sign s) h = absurd (cc h)
primary_is_no_minus t h = refl

unary_is_no_not : (t : QueryToken) → begins_unary t ≡ true → is_the_word not_word t ≡ false
unary_is_no_not (reserved true_word) h = refl
unary_is_no_not (reserved false_word) h = refl
unary_is_no_not (reserved w) h = absurd (cc h)
unary_is_no_not t h = refl

-- ---- paths

-- reading names has come so far
record NamesReached (ns : List (List ℕ)) (rest : List PlacedToken) (p : Parsed (List (List ℕ))) : Type 0 where
  fuel : ℕ
  left : Unread
  is : p ≡ further_names fuel ns left
  tokens : left.tokens ≡ rest
  enough : length rest ≤ fuel

name_is : (n : List ℕ) (i : ℕ) (rest : List PlacedToken) (u : Unread) → u.tokens ≡ name_at i n ∷ rest → name u ≡ got n (behind_token u)
name_is n i rest u e = ap (λ (o : Option (List ℕ)). for_some o (λ m v. got m (behind_token v)) (problem_here syntax) u) (ap (meaning_in name_in) e)

names_next : (k : ℕ) (ns : List (List ℕ)) (n : List ℕ) (i j : ℕ) (rest : List PlacedToken) (v : Unread) → v.tokens ≡ sign_at i dot ∷ name_at j n ∷ rest
    → further_names (suc k) ns v ≡ further_names k (ns ++ n ∷ []) (behind_token (behind_token v))
names_next k ns n i j rest v e =
    ap (λ (b : Bool). either b (any_token >>= (λ _. name >>= (λ m. further_names k (ns ++ m ∷ [])))) (give ns) v) (ap (starts (is_the_sign dot)) e)
    ∙ ap (λ (p : Parsed (List ℕ)). goes_on p (λ m. further_names k (ns ++ m ∷ []))) (name_is n j rest (behind_token v) (ap without_first e))

some_fuel : (k : ℕ) (t : PlacedToken) (ts : List PlacedToken) → length (t ∷ ts) ≤ k → (j : ℕ) × (k ≡ suc j) × (length ts ≤ j)
some_fuel zero t ts h = absurd (omega (arith, h))
some_fuel (suc j) t ts h = (j, refl, omega (arith, h))

names_reach : (ts : List PlacedToken) (ns : List (List ℕ)) → SpellsNames ts ns → (u : Unread) (rest : List PlacedToken) → u.tokens ≡ ts ++ rest → NamesReached ns rest (names u)
names_reach _ _ (first_name i n) u rest e = record {
  fuel = length (without_first u.tokens);
  left = behind_token u;
  is = ap (λ (p : Parsed (List ℕ)). goes_on p (λ m w. further_names (length w.tokens) (m ∷ []) w)) (name_is n i rest u e);
  tokens = ap without_first e;
  enough = subst (λ xs. length rest ≤ length xs) (sym (ap without_first e)) (omega arith);
}
names_reach _ _ (further_name i j ts ns n s) u rest e =
    let r = names_reach ts ns s u (sign_at i dot ∷ name_at j n ∷ rest) (e ∙ append_assoc ts (sign_at i dot ∷ name_at j n ∷ []) rest) in
    let f = some_fuel r.fuel (sign_at i dot) (name_at j n ∷ rest) r.enough in
    record {
      fuel = f.0;
      left = behind_token (behind_token r.left);
      is = r.is ∙ (ap (λ k. further_names k ns r.left) f.1 ∙ names_next f.0 ns n i j rest r.left r.tokens);
      tokens = ap (λ (xs : List PlacedToken). without_first (without_first xs)) r.tokens;
      enough = let l = f.2 in omega (arith, l);
    }

names_stop : (k : ℕ) (ns : List (List ℕ)) (v : Unread) → starts (is_the_sign dot) v.tokens ≡ false → further_names k ns v ≡ got ns v
names_stop zero ns v h = refl
names_stop (suc k) ns v h = ap (λ (b : Bool). either b (any_token >>= (λ _. name >>= (λ m. further_names k (ns ++ m ∷ [])))) (give ns) v) h

pub path_complete : (ts : List PlacedToken) (p : PathSyntax) → SpellsPath ts p → (u : Unread) (rest : List PlacedToken) → 1 < rank_of rest → u.tokens ≡ ts ++ rest → Reads PathSyntax p rest (path_names u)
path_complete ts p s u rest h e =
    let r = names_reach ts p.names s.1 u rest e in
    let stops : starts (is_the_sign dot) r.left.tokens ≡ false = ap (starts (is_the_sign dot)) r.tokens ∙ no_dot rest h in
    let read : names u ≡ got p.names r.left = r.is ∙ names_stop r.fuel p.names r.left stops in
    let place : place_of u ≡ p.place = ap (first_place u.size) (e ∙ ap (λ xs. xs ++ rest) s.0.2) ∙ s.0.3 in
    let path_read : path_names u ≡ got p r.left =
    ap (λ (q : Parsed (List (List ℕ))). goes_on q (λ ns. give (record { place = place_of u; names = ns }))) read ∙ ap (λ (i : ℕ). got (record { place = i; names = p.names }) r.left) place in
    subst (Reads PathSyntax p rest) (sym path_read) (read_all r.left r.tokens)

-- ---- operands joined by operators

-- reading operands has come so far, or is refused for a limit
data Reaches (joining : QueryToken → Option Joining) (operand : Production ExpressionSyntax) (a : ExpressionSyntax) (rest : List PlacedToken) : Parsed ExpressionSyntax → Type 0 where
  reached : (k : ℕ) (v : Unread) → v.tokens ≡ rest → length rest ≤ k → Reaches joining operand a rest (further_operands joining operand k a v)
  cut_short : (f : QueryFault) → IsLimit f.problem → Reaches joining operand a rest (refused f)

reach_first : (joining : QueryToken → Option Joining) (operand : Production ExpressionSyntax) (a : ExpressionSyntax) (rest : List PlacedToken) (p : Parsed ExpressionSyntax) → Reads ExpressionSyntax a rest p
    → Reaches joining operand a rest (goes_on p (λ e w. further_operands joining operand (length w.tokens) e w))
reach_first joining operand a rest _ (read_all v e) = reached (length v.tokens) v e (subst (λ xs. length rest ≤ length xs) (sym e) (omega arith))
reach_first joining operand a rest _ (limited f l) = cut_short f l

reach_operand : (joining : QueryToken → Option Joining) (operand : Production ExpressionSyntax) (k : ℕ) (b c : ExpressionSyntax) (rest : List PlacedToken) (join : ExpressionSyntax → ExpressionSyntax)
    (p : Parsed ExpressionSyntax) → length rest ≤ k → Reads ExpressionSyntax b rest p → Reaches joining operand (join b) rest (goes_on p (λ e. further_operands joining operand k (join e)))
reach_operand joining operand k b c rest join _ l (read_all v e) = reached k v e l
reach_operand joining operand k b c rest join _ l (limited f g) = cut_short f g

reach_operator : (joining : QueryToken → Option Joining) (operand : Production ExpressionSyntax) (k i : ℕ) (a b : ExpressionSyntax) (us rest : List PlacedToken) (join : Joining) (p : Parsed ℕ)
    → length rest ≤ k → Reads ℕ i (us ++ rest) p → ((w : Unread) → w.tokens ≡ us ++ rest → Reads ExpressionSyntax b rest (operand w))
    → Reaches joining operand (join i a b) rest (goes_on p (λ j. operand >>= (λ e. further_operands joining operand k (join j a e))))
reach_operator joining operand k i a b us rest join _ l (read_all v e) f = reach_operand joining operand k b b rest (join i a) (operand v) l (f v e)
reach_operator joining operand k i a b us rest join _ l (limited g h) f = cut_short g h

reach_more : (joining : QueryToken → Option Joining) (operand : Production ExpressionSyntax) (a b : ExpressionSyntax) (t : PlacedToken) (us rest : List PlacedToken) (join : Joining) (p : Parsed ExpressionSyntax)
    → joining t.token ≡ Some join → Reaches joining operand a (t ∷ (us ++ rest)) p → ((w : Unread) → w.tokens ≡ us ++ rest → Reads ExpressionSyntax b rest (operand w))
    → Reaches joining operand (join t.place a b) rest p
reach_more joining operand a b t us rest join _ j (cut_short f l) g = cut_short f l
reach_more joining operand a b t us rest join _ j (reached k v e l) g =
    let f = some_fuel k t (us ++ rest) l in
    let behind_all : length rest ≤ length (us ++ rest) = omega (arith, length-append us rest) in
    let enough : length rest ≤ f.0 = let m = f.2 in omega (arith, m, behind_all) in
    let meaning : meaning_in joining v.tokens ≡ Some join = ap (meaning_in joining) e ∙ j in
    let next : further_operands joining operand k a v ≡ goes_on (operator v) (λ i. operand >>= (λ c. further_operands joining operand f.0 (join i a c))) =
    ap (λ n. further_operands joining operand n a v) f.1
    ∙ ap (λ (o : Option Joining). for_some o (λ join. operator >>= (λ i. operand >>= (λ c. further_operands joining operand f.0 (join i a c)))) (give a) v) meaning in
    subst (Reaches joining operand (join t.place a b) rest) (sym next)
    (reach_operator joining operand f.0 t.place a b us rest join (operator v) enough (operator_complete t (us ++ rest) v e) g)

stop_here : (joining : QueryToken → Option Joining) (operand : Production ExpressionSyntax) (k : ℕ) (a : ExpressionSyntax) (v : Unread) → meaning_in joining v.tokens ≡ None
    → further_operands joining operand k a v ≡ got a v
stop_here joining operand zero a v h = refl
stop_here joining operand (suc k) a v h = ap (λ (o : Option Joining). for_some o (λ join. operator >>= (λ i. operand >>= (λ c. further_operands joining operand k (join i a c)))) (give a) v) h

reach_end : (joining : QueryToken → Option Joining) (operand : Production ExpressionSyntax) (a : ExpressionSyntax) (rest : List PlacedToken) (p : Parsed ExpressionSyntax) → Reaches joining operand a rest p
    → meaning_in joining rest ≡ None → Reads ExpressionSyntax a rest p
reach_end joining operand a rest _ (cut_short f l) h = limited f l
reach_end joining operand a rest _ (reached k v e l) h = subst (Reads ExpressionSyntax a rest) (sym (stop_here joining operand k a v (ap (meaning_in joining) e ∙ h))) (read_all v e)

-- ---- tests

comparison_ranks : (g : Sign) (c : Comparison) → IsComparison g c → 3 < rank (sign g)
comparison_ranks _ _ is_equal = lit< tt
comparison_ranks _ _ is_unequal = lit< tt
comparison_ranks _ _ is_less = lit< tt
comparison_ranks _ _ is_at_most = lit< tt
comparison_ranks _ _ is_greater = lit< tt
comparison_ranks _ _ is_at_least = lit< tt

comparison_means : (g : Sign) (c : Comparison) → IsComparison g c → comparison_in (sign g) ≡ Some c
comparison_means _ _ is_equal = refl
comparison_means _ _ is_unequal = refl
comparison_means _ _ is_less = refl
comparison_means _ _ is_at_most = refl
comparison_means _ _ is_greater = refl
comparison_means _ _ is_at_least = refl

-- nothing behind a sum
tested_nothing : (inner : Inner) (a : ExpressionSyntax) (rest : List PlacedToken) (v : Unread) → v.tokens ≡ rest → NoTest rest → Reads ExpressionSyntax a rest (tested inner a v)
tested_nothing inner a rest v e n =
    by_none comparison_in (comparison_test inner a) (word_test a) a rest v rest e n.no_comparison
    (if_no (is_the_word not_word) (denied_test a) (if_next (is_the_word is_word) (null_test a) (text_test plain a (give a))) a rest v rest e n.no_not
    (if_no (is_the_word is_word) (null_test a) (text_test plain a (give a)) a rest v rest e n.no_is
    (if_no (is_the_word like_word) (like_test plain a) (if_next (is_the_word contains_word) (contains_test plain a) (give a)) a rest v rest e n.no_like
    (if_no (is_the_word contains_word) (contains_test plain a) (give a) a rest v rest e n.no_contains (read_all v e)))))

like_reads : (shaped : ℕ → ExpressionSyntax → ExpressionSyntax) (a : ExpressionSyntax) (other : Production ExpressionSyntax) (i j : ℕ) (t : List ℕ) (rest : List PlacedToken) (v : Unread)
    → v.tokens ≡ word_at i like_word ∷ text_at j t ∷ rest → Reads ExpressionSyntax (shaped i (like i a t)) rest (text_test shaped a other v)
like_reads shaped a other i j t rest v e =
    if_yes (is_the_word like_word) (like_test shaped a) (if_next (is_the_word contains_word) (contains_test shaped a) other) (shaped i (like i a t)) rest v (word_at i like_word ∷ text_at j t ∷ rest) e refl
    (reads_on ℕ ExpressionSyntax i (shaped i (like i a t)) (text_at j t ∷ rest) rest (any_token v) (λ i. quoted_text >>= (λ t. give (shaped i (like i a t)))) (any_complete (word_at i like_word) (text_at j t ∷ rest) v e)
    (λ w x. reads_on (List ℕ) ExpressionSyntax t (shaped i (like i a t)) rest rest (quoted_text w) (λ t. give (shaped i (like i a t))) (text_complete t j rest w x) (λ z y. read_all z y)))

contains_reads : (shaped : ℕ → ExpressionSyntax → ExpressionSyntax) (a : ExpressionSyntax) (other : Production ExpressionSyntax) (i j : ℕ) (t : List ℕ) (rest : List PlacedToken) (v : Unread)
    → v.tokens ≡ word_at i contains_word ∷ text_at j t ∷ rest → Reads ExpressionSyntax (shaped i (contains i a t)) rest (text_test shaped a other v)
contains_reads shaped a other i j t rest v e =
    if_no (is_the_word like_word) (like_test shaped a) (if_next (is_the_word contains_word) (contains_test shaped a) other) (shaped i (contains i a t)) rest v (word_at i contains_word ∷ text_at j t ∷ rest) e refl
    (if_yes (is_the_word contains_word) (contains_test shaped a) other (shaped i (contains i a t)) rest v (word_at i contains_word ∷ text_at j t ∷ rest) e refl
    (reads_on ℕ ExpressionSyntax i (shaped i (contains i a t)) (text_at j t ∷ rest) rest (any_token v) (λ i. quoted_text >>= (λ t. give (shaped i (contains i a t)))) (any_complete (word_at i contains_word) (text_at j t ∷ rest) v e)
    (λ w x. reads_on (List ℕ) ExpressionSyntax t (shaped i (contains i a t)) rest rest (quoted_text w) (λ t. give (shaped i (contains i a t))) (text_complete t j rest w x) (λ z y. read_all z y))))

-- a word that is no comparison and not NOT, then IS or not
by_words : (inner : Inner) (a b : ExpressionSyntax) (w : Word) (i : ℕ) (behind rest : List PlacedToken) (v : Unread) → v.tokens ≡ word_at i w ∷ behind → is_the_word not_word (reserved w) ≡ false
    → is_the_word is_word (reserved w) ≡ false → Reads ExpressionSyntax b rest (text_test plain a (give a) v) → Reads ExpressionSyntax b rest (tested inner a v)
by_words inner a b w i behind rest v e n k r =
    by_none comparison_in (comparison_test inner a) (word_test a) b rest v (word_at i w ∷ behind) e refl
    (if_no (is_the_word not_word) (denied_test a) (if_next (is_the_word is_word) (null_test a) (text_test plain a (give a))) b rest v (word_at i w ∷ behind) e n
    (if_no (is_the_word is_word) (null_test a) (text_test plain a (give a)) b rest v (word_at i w ∷ behind) e k r))

tested_like : (inner : Inner) (a : ExpressionSyntax) (i j : ℕ) (t : List ℕ) (rest : List PlacedToken) (v : Unread) → v.tokens ≡ word_at i like_word ∷ text_at j t ∷ rest
    → Reads ExpressionSyntax (like i a t) rest (tested inner a v)
tested_like inner a i j t rest v e = by_words inner a (like i a t) like_word i (text_at j t ∷ rest) rest v e refl refl (like_reads plain a (give a) i j t rest v e)

tested_contains : (inner : Inner) (a : ExpressionSyntax) (i j : ℕ) (t : List ℕ) (rest : List PlacedToken) (v : Unread) → v.tokens ≡ word_at i contains_word ∷ text_at j t ∷ rest
    → Reads ExpressionSyntax (contains i a t) rest (tested inner a v)
tested_contains inner a i j t rest v e = by_words inner a (contains i a t) contains_word i (text_at j t ∷ rest) rest v e refl refl (contains_reads plain a (give a) i j t rest v e)

tested_denied : (inner : Inner) (a b : ExpressionSyntax) (h : ℕ) (middle rest : List PlacedToken) (v : Unread) → v.tokens ≡ word_at h not_word ∷ middle
    → ((w : Unread) → w.tokens ≡ middle → Reads ExpressionSyntax b rest (text_test negation a (problem_here syntax) w)) → Reads ExpressionSyntax b rest (tested inner a v)
tested_denied inner a b h middle rest v e f =
    by_none comparison_in (comparison_test inner a) (word_test a) b rest v (word_at h not_word ∷ middle) e refl
    (if_yes (is_the_word not_word) (denied_test a) (if_next (is_the_word is_word) (null_test a) (text_test plain a (give a))) b rest v (word_at h not_word ∷ middle) e refl
    (reads_on ℕ ExpressionSyntax h b middle rest (any_token v) (λ _. text_test negation a (problem_here syntax)) (any_complete (word_at h not_word) middle v e) f))

tested_is : (inner : Inner) (a b : ExpressionSyntax) (i : ℕ) (middle rest : List PlacedToken) (v : Unread) → v.tokens ≡ word_at i is_word ∷ middle
    → ((w : Unread) → w.tokens ≡ middle → Reads ExpressionSyntax b rest (if_next (is_the_word not_word) (denied_null i a) (plain_null i a) w)) → Reads ExpressionSyntax b rest (tested inner a v)
tested_is inner a b i middle rest v e f =
    by_none comparison_in (comparison_test inner a) (word_test a) b rest v (word_at i is_word ∷ middle) e refl
    (if_no (is_the_word not_word) (denied_test a) (if_next (is_the_word is_word) (null_test a) (text_test plain a (give a))) b rest v (word_at i is_word ∷ middle) e refl
    (if_yes (is_the_word is_word) (null_test a) (text_test plain a (give a)) b rest v (word_at i is_word ∷ middle) e refl
    (reads_on ℕ ExpressionSyntax i b middle rest (any_token v) (λ i. if_next (is_the_word not_word) (denied_null i a) (plain_null i a)) (any_complete (word_at i is_word) middle v e) f)))

null_reads : (a : ExpressionSyntax) (i j : ℕ) (rest : List PlacedToken) (w : Unread) → w.tokens ≡ word_at j null_word ∷ rest
    → Reads ExpressionSyntax (is_null i a) rest (if_next (is_the_word not_word) (denied_null i a) (plain_null i a) w)
null_reads a i j rest w e =
    if_no (is_the_word not_word) (denied_null i a) (plain_null i a) (is_null i a) rest w (word_at j null_word ∷ rest) e refl
    (reads_on ℕ ExpressionSyntax j (is_null i a) rest rest (word null_word w) (λ _. give (is_null i a)) (word_complete null_word j rest w refl e) (λ z y. read_all z y))

not_null_reads : (a : ExpressionSyntax) (i j k : ℕ) (rest : List PlacedToken) (w : Unread) → w.tokens ≡ word_at j not_word ∷ word_at k null_word ∷ rest
    → Reads ExpressionSyntax (negation i (is_null i a)) rest (if_next (is_the_word not_word) (denied_null i a) (plain_null i a) w)
not_null_reads a i j k rest w e =
    if_yes (is_the_word not_word) (denied_null i a) (plain_null i a) (negation i (is_null i a)) rest w (word_at j not_word ∷ word_at k null_word ∷ rest) e refl
    (reads_on ℕ ExpressionSyntax j (negation i (is_null i a)) (word_at k null_word ∷ rest) rest (any_token w) (λ _. word null_word >>= (λ _. give (negation i (is_null i a)))) (any_complete (word_at j not_word) (word_at k null_word ∷ rest) w e)
    (λ v x. reads_on ℕ ExpressionSyntax k (negation i (is_null i a)) rest rest (word null_word v) (λ _. give (negation i (is_null i a))) (word_complete null_word k rest v refl x) (λ z y. read_all z y)))

-- ---- literals and paths

literal_reads : (inner : Inner) (e : ExpressionSyntax) (t : PlacedToken) (rest : List PlacedToken) (u : Unread) → u.tokens ≡ t ∷ rest → primary_at inner (Some t.token) u ≡ literal e u
    → Reads ExpressionSyntax e rest (primary inner u)
literal_reads inner e t rest u q l =
    let same : primary inner u ≡ literal e u = ap (λ (ts : List PlacedToken). primary_at inner (first_token ts) u) q ∙ l in
    subst (Reads ExpressionSyntax e rest) (sym same) (reads_on ℕ ExpressionSyntax t.place e rest rest (any_token u) (λ _. give e) (any_complete t rest u q) (λ v x. read_all v x))

path_at : (inner : Inner) (u : Unread) (t : QueryToken) → is_name t ≡ true → primary_at inner (Some t) u ≡ path_operand u
path_at inner u (identifier n) h = refl
path_at inner u t h = absurd (cc h)

path_reads : (inner : Inner) (ts : List PlacedToken) (p : PathSyntax) → SpellsPath ts p → (rest : List PlacedToken) (u : Unread) → 1 < rank_of rest → u.tokens ≡ ts ++ rest
    → Reads ExpressionSyntax (path p) rest (primary inner u)
path_reads inner ts p s rest u h q =
    let f = first_name_is ts p.names s.1 in
    let same : primary inner u ≡ path_operand u = ap (λ (xs : List PlacedToken). primary_at inner (first_token xs) u) (q ∙ ap (λ xs. xs ++ rest) f.2) ∙ path_at inner u f.0.token f.3 in
    subst (Reads ExpressionSyntax (path p) rest) (sym same)
    (reads_on PathSyntax ExpressionSyntax p (path p) rest rest (path_names u) (λ p. give (path p)) (path_complete ts p s u rest h q) (λ v x. read_all v x))

-- going on behind a sum
summed_by : (n : ℕ) (a b : ExpressionSyntax) (u : Unread) (middle rest : List PlacedToken) (next : ExpressionSyntax → Production ExpressionSyntax) → Reaches sum_in (product_of (nested n)) a middle (sum_of (nested n) u)
    → 3 < rank_of middle → ((v : Unread) → v.tokens ≡ middle → Reads ExpressionSyntax b rest (next a v)) → Reads ExpressionSyntax b rest (goes_on (sum_of (nested n) u) next)
summed_by n a b u middle rest next r h f = reads_on ExpressionSyntax ExpressionSyntax a b middle rest (sum_of (nested n) u) next (reach_end sum_in (product_of (nested n)) a middle (sum_of (nested n) u) r (no_sum middle h)) f

summed : (n : ℕ) (a b : ExpressionSyntax) (u : Unread) (middle rest : List PlacedToken) → Reaches sum_in (product_of (nested n)) a middle (sum_of (nested n) u) → 3 < rank_of middle
    → ((v : Unread) → v.tokens ≡ middle → Reads ExpressionSyntax b rest (tested (nested n) a v)) → Reads ExpressionSyntax b rest (test_of (nested n) u)
summed n a b u middle rest r h f = summed_by n a b u middle rest (tested (nested n)) r h f

-- ---- each production, whatever is left of the nestings: read as it is spelled, or refused for a limit

mutual
  expression_reach : (ts : List PlacedToken) (e : ExpressionSyntax) → SpellsExpression ts e → (n : ℕ) (u : Unread) (rest : List PlacedToken) → 5 < rank_of rest → u.tokens ≡ ts ++ rest
      → Reaches or_in (and_of (nested n)) e rest (expression_of (nested n) u)
  expression_reach _ _ (one_and ts e s) n u rest h q =
      reach_first or_in (and_of (nested n)) e rest (and_of (nested n) u)
      (reach_end and_in (not_of (nested n)) e rest (and_of (nested n) u) (and_reach ts e s n u rest (omega (arith, h)) q) (no_and rest h))
  expression_reach _ _ (or_and i ts us a b r s) n u rest h q =
      reach_more or_in (and_of (nested n)) a b (word_at i or_word) us rest disjunction (expression_of (nested n) u) refl
      (expression_reach ts a r n u (word_at i or_word ∷ (us ++ rest)) (lit< tt) (q ∙ append_assoc ts (word_at i or_word ∷ us) rest))
      (λ w x. reach_end and_in (not_of (nested n)) b rest (and_of (nested n) w) (and_reach us b s n w rest (omega (arith, h)) x) (no_and rest h))

  and_reach : (ts : List PlacedToken) (e : ExpressionSyntax) → SpellsAnd ts e → (n : ℕ) (u : Unread) (rest : List PlacedToken) → 4 < rank_of rest → u.tokens ≡ ts ++ rest
      → Reaches and_in (not_of (nested n)) e rest (and_of (nested n) u)
  and_reach _ _ (one_not ts e s) n u rest h q = reach_first and_in (not_of (nested n)) e rest (not_of (nested n) u) (not_reads ts e s n u rest h q)
  and_reach _ _ (and_not i ts us a b r s) n u rest h q =
      reach_more and_in (not_of (nested n)) a b (word_at i and_word) us rest conjunction (and_of (nested n) u) refl
      (and_reach ts a r n u (word_at i and_word ∷ (us ++ rest)) (lit< tt) (q ∙ append_assoc ts (word_at i and_word ∷ us) rest))
      (λ w x. not_reads us b s n w rest h x)

  not_reads : (ts : List PlacedToken) (e : ExpressionSyntax) → SpellsNot ts e → (n : ℕ) (u : Unread) (rest : List PlacedToken) → 4 < rank_of rest → u.tokens ≡ ts ++ rest
      → Reads ExpressionSyntax e rest (not_of (nested n) u)
  not_reads _ _ (not_not i ts e s) zero u rest h q =
      if_yes (is_the_word not_word) (nested zero negated) (test_of (nested zero)) (negation i e) rest u (word_at i not_word ∷ (ts ++ rest)) q refl (limited (record { place = place_of u; problem = too_deep }) tt)
  not_reads _ _ (not_not i ts e s) (suc k) u rest h q =
      if_yes (is_the_word not_word) (nested (suc k) negated) (test_of (nested (suc k))) (negation i e) rest u (word_at i not_word ∷ (ts ++ rest)) q refl
      (reads_on ℕ ExpressionSyntax i (negation i e) (ts ++ rest) rest (any_token u) (λ i. not_of (nested k) >>= (λ e. give (negation i e))) (any_complete (word_at i not_word) (ts ++ rest) u q)
      (λ v x. reads_on ExpressionSyntax ExpressionSyntax e (negation i e) rest rest (not_of (nested k) v) (λ e. give (negation i e)) (not_reads ts e s k v rest h x) (λ w y. read_all w y)))
  not_reads _ _ (one_test ts e s) n u rest h q =
      if_no (is_the_word not_word) (nested n negated) (test_of (nested n)) e rest u (ts ++ rest) q (other_first begins_unary (is_the_word not_word) ts rest unary_is_no_not (first_test ts e s))
      (test_reads ts e s n u rest h q)

  test_reads : (ts : List PlacedToken) (e : ExpressionSyntax) → SpellsTest ts e → (n : ℕ) (u : Unread) (rest : List PlacedToken) → 4 < rank_of rest → u.tokens ≡ ts ++ rest
      → Reads ExpressionSyntax e rest (test_of (nested n) u)
  test_reads _ _ (one_sum ts e s) n u rest h q = summed n e e u rest rest (sum_reach ts e s n u rest (omega (arith, h)) q) (omega (arith, h)) (λ v x. tested_nothing (nested n) e rest v x (tests_end rest h))
  test_reads _ _ (compared_sums i g c ts us a b k r s) n u rest h q =
      let ranks = comparison_ranks g c k in
      summed n a (comparison i c a b) u (sign_at i g ∷ (us ++ rest)) rest (sum_reach ts a r n u (sign_at i g ∷ (us ++ rest)) (omega (arith, ranks)) (q ∙ append_assoc ts (sign_at i g ∷ us) rest)) ranks
      (λ v x. by_some comparison_in (comparison_test (nested n) a) (word_test a) c (comparison i c a b) rest v (sign_at i g ∷ (us ++ rest)) x (comparison_means g c k)
      (reads_on ℕ ExpressionSyntax i (comparison i c a b) (us ++ rest) rest (any_token v) (λ i. sum_of (nested n) >>= (λ e. give (comparison i c a e))) (any_complete (sign_at i g) (us ++ rest) v x)
      (λ w y. summed_by n b (comparison i c a b) w rest rest (λ e. give (comparison i c a e)) (sum_reach us b s n w rest (omega (arith, h)) y) (omega (arith, h)) (λ z t. read_all z t))))
  test_reads _ _ (like_text i j ts e t s) n u rest h q =
      summed n e (like i e t) u (word_at i like_word ∷ text_at j t ∷ rest) rest (sum_reach ts e s n u (word_at i like_word ∷ text_at j t ∷ rest) (lit< tt) (q ∙ append_assoc ts _ rest)) (lit< tt)
      (λ v x. tested_like (nested n) e i j t rest v x)
  test_reads _ _ (not_like_text g i j ts e t s) n u rest h q =
      summed n e (negation i (like i e t)) u (word_at g not_word ∷ word_at i like_word ∷ text_at j t ∷ rest) rest
      (sum_reach ts e s n u (word_at g not_word ∷ word_at i like_word ∷ text_at j t ∷ rest) (lit< tt) (q ∙ append_assoc ts _ rest)) (lit< tt)
      (λ v x. tested_denied (nested n) e (negation i (like i e t)) g (word_at i like_word ∷ text_at j t ∷ rest) rest v x (λ w y. like_reads negation e (problem_here syntax) i j t rest w y))
  test_reads _ _ (contains_text i j ts e t s) n u rest h q =
      summed n e (contains i e t) u (word_at i contains_word ∷ text_at j t ∷ rest) rest (sum_reach ts e s n u (word_at i contains_word ∷ text_at j t ∷ rest) (lit< tt) (q ∙ append_assoc ts _ rest)) (lit< tt)
      (λ v x. tested_contains (nested n) e i j t rest v x)
  test_reads _ _ (not_contains_text g i j ts e t s) n u rest h q =
      summed n e (negation i (contains i e t)) u (word_at g not_word ∷ word_at i contains_word ∷ text_at j t ∷ rest) rest
      (sum_reach ts e s n u (word_at g not_word ∷ word_at i contains_word ∷ text_at j t ∷ rest) (lit< tt) (q ∙ append_assoc ts _ rest)) (lit< tt)
      (λ v x. tested_denied (nested n) e (negation i (contains i e t)) g (word_at i contains_word ∷ text_at j t ∷ rest) rest v x (λ w y. contains_reads negation e (problem_here syntax) i j t rest w y))
  test_reads _ _ (is_null_word i j ts e s) n u rest h q =
      summed n e (is_null i e) u (word_at i is_word ∷ word_at j null_word ∷ rest) rest (sum_reach ts e s n u (word_at i is_word ∷ word_at j null_word ∷ rest) (lit< tt) (q ∙ append_assoc ts _ rest)) (lit< tt)
      (λ v x. tested_is (nested n) e (is_null i e) i (word_at j null_word ∷ rest) rest v x (λ w y. null_reads e i j rest w y))
  test_reads _ _ (is_not_null i j k ts e s) n u rest h q =
      summed n e (negation i (is_null i e)) u (word_at i is_word ∷ word_at j not_word ∷ word_at k null_word ∷ rest) rest
      (sum_reach ts e s n u (word_at i is_word ∷ word_at j not_word ∷ word_at k null_word ∷ rest) (lit< tt) (q ∙ append_assoc ts _ rest)) (lit< tt)
      (λ v x. tested_is (nested n) e (negation i (is_null i e)) i (word_at j not_word ∷ word_at k null_word ∷ rest) rest v x (λ w y. not_null_reads e i j k rest w y))

  sum_reach : (ts : List PlacedToken) (e : ExpressionSyntax) → SpellsSum ts e → (n : ℕ) (u : Unread) (rest : List PlacedToken) → 2 < rank_of rest → u.tokens ≡ ts ++ rest
      → Reaches sum_in (product_of (nested n)) e rest (sum_of (nested n) u)
  sum_reach _ _ (one_product ts e s) n u rest h q =
      reach_first sum_in (product_of (nested n)) e rest (product_of (nested n) u)
      (reach_end product_in (unary (nested n)) e rest (product_of (nested n) u) (product_reach ts e s n u rest (omega (arith, h)) q) (no_product rest h))
  sum_reach _ _ (plus_product i ts us a b r s) n u rest h q =
      reach_more sum_in (product_of (nested n)) a b (sign_at i plus_sign) us rest (λ i. arithmetic i plus) (sum_of (nested n) u) refl
      (sum_reach ts a r n u (sign_at i plus_sign ∷ (us ++ rest)) (lit< tt) (q ∙ append_assoc ts (sign_at i plus_sign ∷ us) rest))
      (λ w x. reach_end product_in (unary (nested n)) b rest (product_of (nested n) w) (product_reach us b s n w rest (omega (arith, h)) x) (no_product rest h))
  sum_reach _ _ (minus_product i ts us a b r s) n u rest h q =
      reach_more sum_in (product_of (nested n)) a b (sign_at i minus_sign) us rest (λ i. arithmetic i minus) (sum_of (nested n) u) refl
      (sum_reach ts a r n u (sign_at i minus_sign ∷ (us ++ rest)) (lit< tt) (q ∙ append_assoc ts (sign_at i minus_sign ∷ us) rest))
      (λ w x. reach_end product_in (unary (nested n)) b rest (product_of (nested n) w) (product_reach us b s n w rest (omega (arith, h)) x) (no_product rest h))

  product_reach : (ts : List PlacedToken) (e : ExpressionSyntax) → SpellsProduct ts e → (n : ℕ) (u : Unread) (rest : List PlacedToken) → 1 < rank_of rest → u.tokens ≡ ts ++ rest
      → Reaches product_in (unary (nested n)) e rest (product_of (nested n) u)
  product_reach _ _ (one_unary ts e s) n u rest h q = reach_first product_in (unary (nested n)) e rest (unary (nested n) u) (unary_reads ts e s n u rest h q)
  product_reach _ _ (times_unary i ts us a b r s) n u rest h q =
      reach_more product_in (unary (nested n)) a b (sign_at i star) us rest (λ i. arithmetic i times) (product_of (nested n) u) refl
      (product_reach ts a r n u (sign_at i star ∷ (us ++ rest)) (lit< tt) (q ∙ append_assoc ts (sign_at i star ∷ us) rest))
      (λ w x. unary_reads us b s n w rest h x)

  unary_reads : (ts : List PlacedToken) (e : ExpressionSyntax) → SpellsUnary ts e → (n : ℕ) (u : Unread) (rest : List PlacedToken) → 1 < rank_of rest → u.tokens ≡ ts ++ rest
      → Reads ExpressionSyntax e rest (unary (nested n) u)
  unary_reads _ _ (minus_unary i ts e s) zero u rest h q =
      if_yes (is_the_sign minus_sign) (nested zero signed) (primary (nested zero)) (negative i e) rest u (sign_at i minus_sign ∷ (ts ++ rest)) q refl (limited (record { place = place_of u; problem = too_deep }) tt)
  unary_reads _ _ (minus_unary i ts e s) (suc k) u rest h q =
      if_yes (is_the_sign minus_sign) (nested (suc k) signed) (primary (nested (suc k))) (negative i e) rest u (sign_at i minus_sign ∷ (ts ++ rest)) q refl
      (reads_on ℕ ExpressionSyntax i (negative i e) (ts ++ rest) rest (operator u) (λ i. unary (nested k) >>= (λ e. give (negative i e))) (operator_complete (sign_at i minus_sign) (ts ++ rest) u q)
      (λ v x. reads_on ExpressionSyntax ExpressionSyntax e (negative i e) rest rest (unary (nested k) v) (λ e. give (negative i e)) (unary_reads ts e s k v rest h x) (λ w y. read_all w y)))
  unary_reads _ _ (one_primary ts e s) n u rest h q =
      if_no (is_the_sign minus_sign) (nested n signed) (primary (nested n)) e rest u (ts ++ rest) q (other_first begins_primary (is_the_sign minus_sign) ts rest primary_is_no_minus (first_primary ts e s))
      (primary_reads ts e s n u rest h q)

  primary_reads : (ts : List PlacedToken) (e : ExpressionSyntax) → SpellsPrimary ts e → (n : ℕ) (u : Unread) (rest : List PlacedToken) → 1 < rank_of rest → u.tokens ≡ ts ++ rest
      → Reads ExpressionSyntax e rest (primary (nested n) u)
  primary_reads _ _ (a_number i m) n u rest h q = literal_reads (nested n) (number_literal m) (placed i (number m)) rest u q refl
  primary_reads _ _ (a_text i t) n u rest h q = literal_reads (nested n) (text_literal t) (text_at i t) rest u q refl
  primary_reads _ _ (a_true i) n u rest h q = literal_reads (nested n) (truth_literal true) (word_at i true_word) rest u q refl
  primary_reads _ _ (a_false i) n u rest h q = literal_reads (nested n) (truth_literal false) (word_at i false_word) rest u q refl
  primary_reads _ _ (a_path ts p s) n u rest h q = path_reads (nested n) ts p s rest u h q
  primary_reads _ _ (in_parentheses i j ts e s) zero u rest h q =
      subst (λ (xs : List PlacedToken). Reads ExpressionSyntax e rest (primary_at (nested zero) (first_token xs) u)) (sym q) (limited (record { place = place_of u; problem = too_deep }) tt)
  primary_reads _ _ (in_parentheses i j ts e s) (suc k) u rest h q =
      let middle = ts ++ sign_at j close_parenthesis ∷ rest in
      let tokens : u.tokens ≡ sign_at i open_parenthesis ∷ middle = q ∙ ap (λ (xs : List PlacedToken). sign_at i open_parenthesis ∷ xs) (append_assoc ts (sign_at j close_parenthesis ∷ []) rest) in
      subst (λ (xs : List PlacedToken). Reads ExpressionSyntax e rest (primary_at (nested (suc k)) (first_token xs) u)) (sym tokens)
      (reads_on ℕ ExpressionSyntax i e middle rest (any_token u) (λ _. expression_of (nested k) >>= (λ e. mark close_parenthesis >>= (λ _. give e))) (any_complete (sign_at i open_parenthesis) middle u tokens)
      (λ v x. reads_on ExpressionSyntax ExpressionSyntax e e (sign_at j close_parenthesis ∷ rest) rest (expression_of (nested k) v) (λ e. mark close_parenthesis >>= (λ _. give e))
      (reach_end or_in (and_of (nested k)) e (sign_at j close_parenthesis ∷ rest) (expression_of (nested k) v) (expression_reach ts e s k v (sign_at j close_parenthesis ∷ rest) (lit< tt) x) (no_or (sign_at j close_parenthesis ∷ rest) (lit< tt)))
      (λ w y. reads_on ℕ ExpressionSyntax j e rest rest (mark close_parenthesis w) (λ _. give e) (sign_complete close_parenthesis j rest w refl y) (λ z t. read_all z t))))

-- an expression, where nothing that goes on with one stands behind it
pub expression_complete : (ts : List PlacedToken) (e : ExpressionSyntax) → SpellsExpression ts e → (n : ℕ) (u : Unread) (rest : List PlacedToken) → 6 < rank_of rest → u.tokens ≡ ts ++ rest
    → Reads ExpressionSyntax e rest (expression_of (nested n) u)
expression_complete ts e s n u rest h q = reach_end or_in (and_of (nested n)) e rest (expression_of (nested n) u) (expression_reach ts e s n u rest (omega (arith, h)) q) (no_or rest h)
