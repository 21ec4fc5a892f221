-- Where TooDeep stands in an expression: production by production.
use Rattle.std.specs.Prelude.{◌≡◌, ℕ, zero, suc, List, [], ◌∷◌, ◌++◌, length, Bool, true, false, Option, Some, None, option_and_then}
use Rattle.std.proofs.Common.{refl, sym, ap, subst, append_assoc}
use Rattle.dr_meaning.specs.Tokens.{or_word, and_word, not_word, star, plus_sign, minus_sign, close_parenthesis, open_parenthesis, QueryToken, reserved, identifier, number, text, sign, bad}
use Rattle.dr_meaning.specs.Tokens.{true_word, false_word, PlacedToken, placed}
use Rattle.dr_meaning.specs.Syntax.{ExpressionSyntax, number_literal, text_literal, truth_literal, path, negative, comparison, negation}
use Rattle.dr_meaning.specs.Parse.{Unread, Parsed, got, refused, QueryFault, Production, give, goes_on, ◌>>=◌, first_token, first_place, passes, problem_here, syntax, too_deep, next_is, either, if_next}
use Rattle.dr_meaning.specs.Parse.{for_some, by_next, any_token, operator, mark, is_the_word, is_the_sign, comparison_in, Joining, or_in, and_in, sum_in, product_in, path_names, Nesting}
use Rattle.dr_meaning.specs.Parse.{parenthesized, negated, signed, literal, path_operand, primary_at, primary, unary, further_operands, operands, product_of, sum_of, comparison_test, word_test}
use Rattle.dr_meaning.specs.Parse.{tested, test_of, not_of, and_of, expression_of, nested}
use Rattle.dr_meaning.specs.QueryGrammar.{word_at, sign_at, SpellsExpression, one_and, SpellsAnd, one_not, SpellsNot, SpellsSum, one_product, SpellsProduct, one_unary, SpellsUnary}
use Rattle.dr_meaning.proofs.SyntaxReading.{NextToken, next_token, NextMeaning, next_meaning, word_is, sign_is_this}
use Rattle.dr_query_laws.specs.NestingLaws.{OpensInExpression, in_first_and, behind_or, OpensInAnd, in_first_not, behind_and, OpensInNot, not_itself, behind_not, in_test, OpensInTest}
use Rattle.dr_query_laws.specs.NestingLaws.{in_first_sum, behind_comparison, OpensInSum, in_first_product, behind_plus, behind_minus, OpensInProduct, in_first_unary, behind_star, OpensInUnary}
use Rattle.dr_query_laws.specs.NestingLaws.{sign_itself, behind_sign, parenthesis_itself, behind_parenthesis}
use Rattle.dr_query_laws.proofs.Outcomes.{Outcome, reads, stops, behind, One, any_of, operator_of, known_word, known_sign, known_operator}
use Rattle.dr_query_laws.proofs.ExpressionsGoOn.{Opens, JoinsAs, or_step, and_step, sum_step, product_step, compares, unary_goes, product_goes, sum_goes, not_goes, and_goes}
use Rattle.dr_query_laws.proofs.ExpressionsGoOn.{nested_goes, nested_expression_goes}
use Rattle.dr_query_laws.proofs.NeverDeep.{NotDeep, has_read, has_other, Shallow, then_shallow, give_shallow, syntax_shallow, any_shallow, operator_shallow, mark_shallow, path_shallow, word_test_shallow}

-- what is said of tokens and a token behind them
abbrev pub Sayings : Type 1
Sayings = List PlacedToken → PlacedToken → Type 0

-- a fault stands at a token, of which something is said
pub record At (E : Sayings) (u : Unread) (f : QueryFault) : Type 0 where
  pub before : List PlacedToken
  pub token : PlacedToken
  pub rest : List PlacedToken
  pub tokens : u.tokens ≡ before ++ token ∷ rest
  pub place : token.place ≡ f.place
  pub said : E before token

-- something was read; or the fault, if it is TooDeep, stands at such a token
pub data Tells (A : Type 0) (E : Sayings) (u : Unread) : Parsed A → Type 0 where
  went : (a : A) (v : Unread) → Tells A E u (got a v)
  stopped : (f : QueryFault) → (f.problem ≡ too_deep → At E u f) → Tells A E u (refused f)

-- ---- combining

pub never_deep : {A : Type 0} (E : Sayings) (u : Unread) (p : Parsed A) → NotDeep A p → Tells A E u p
never_deep E u _ (has_read a v) = went a v
never_deep E u _ (has_other f n) = stopped f (λ e. absurd (n e))

pub said_so : {A : Type 0} (E F : Sayings) (u : Unread) (p : Parsed A) → ((b : List PlacedToken) (t : PlacedToken) → E b t → F b t) → Tells A E u p → Tells A F u p
said_so E F u _ g (went a v) = went a v
said_so E F u _ g (stopped f h) =
    stopped f (λ e. let x = h e in record { before = x.before; token = x.token; rest = x.rest; tokens = x.tokens; place = x.place; said = g x.before x.token x.said })

-- what is said with some tokens in front
abbrev pub With : List PlacedToken → Sayings → Sayings
With ts E b t = E (ts ++ b) t

further : {B : Type 0} (E : Sayings) (u v : Unread) (ts : List PlacedToken) (q : Parsed B) → u.tokens ≡ ts ++ v.tokens → Tells B (With ts E) v q → Tells B E u q
further E u v ts _ e (went b w) = went b w
further E u v ts _ e (stopped f h) = stopped f (λ d.
    let x = h d in
    record { before = ts ++ x.before; token = x.token; rest = x.rest; tokens = behind u.tokens v.tokens x.before ts (x.token ∷ x.rest) e x.tokens; place = x.place; said = x.said })

-- one production behind another
pub tell_on : {A B : Type 0} (S : List PlacedToken → A → Type 0) (E : Sayings) (u : Unread) (p : Parsed A) (next : A → Production B) → Outcome A S u p → Tells A E u p
    → ((a : A) (v : Unread) (ts : List PlacedToken) → S ts a → Tells B (With ts E) v (next a v)) → Tells B E u (goes_on p next)
tell_on S E u _ next (reads ts v a e z s) t step = further E u v ts (next a v) e (step a v ts s)
tell_on S E u _ next (stops ts rest more a f e z s k) (stopped _ h) step = stopped f h

-- behind one token
pub tell_behind : {B : Type 0} (k : QueryToken) (E : Sayings) (u : Unread) (p : Parsed ℕ) (next : ℕ → Production B) → Outcome ℕ (One k) u p → NotDeep ℕ p
    → ((i : ℕ) (v : Unread) → Tells B (With (placed i k ∷ []) E) v (next i v)) → Tells B E u (goes_on p next)
tell_behind {B} k E u p next o n step = tell_on (One k) E u p next o (never_deep E u p n) (λ i v ts e. subst (λ ws. Tells B (With ws E) v (next i v)) (sym e) (step i v))

pub if_tells : {A : Type 0} (E : Sayings) (test : QueryToken → Bool) (p q : Production A) (u : Unread) → (NextToken test u → Tells A E u (p u)) → Tells A E u (q u) → Tells A E u (if_next test p q u)
if_tells {A} E test p q u then_p then_q = by_test (next_is test u) refl
  where
    by_test : (b : Bool) → next_is test u ≡ b → Tells A E u (either b p q u)
    by_test true e = then_p (next_token test u e)
    by_test false e = then_q

pub by_tells : {A B : Type 0} (E : Sayings) (f : QueryToken → Option A) (p : A → Production B) (q : Production B) (u : Unread)
    → ((a : A) → NextMeaning A f a u → Tells B E u (p a u)) → Tells B E u (q u) → Tells B E u (by_next f p q u)
by_tells {A} {B} E f p q u then_p then_q = by_some (option_and_then f (first_token u.tokens)) refl
  where
    by_some : (o : Option A) → option_and_then f (first_token u.tokens) ≡ o → Tells B E u (for_some o p q u)
    by_some None e = then_q
    by_some (Some a) e = then_p a (next_meaning f a u e)

-- ---- operands

-- what is said of an operand behind others is said of them all
abbrev BehindOthers : (List PlacedToken → ExpressionSyntax → Type 0) → Sayings → Sayings → (QueryToken → Option Joining) → Type 0
BehindOthers R E F joining = (i : ℕ) (k : QueryToken) (join : Joining) (us : List PlacedToken) (a : ExpressionSyntax) (b : List PlacedToken) (t : PlacedToken) → joining k ≡ Some join → R us a → F b t
    → E (us ++ placed i k ∷ b) t

more_operands : (R S : List PlacedToken → ExpressionSyntax → Type 0) (E F : Sayings) (joining : QueryToken → Option Joining) (operand : Production ExpressionSyntax)
    → ((u : Unread) → Outcome ExpressionSyntax S u (operand u)) → ((u : Unread) → Tells ExpressionSyntax F u (operand u)) → JoinsAs R S joining → BehindOthers R E F joining
    → (k : ℕ) (us : List PlacedToken) (a : ExpressionSyntax) → R us a → (u : Unread) → Tells ExpressionSyntax (With us E) u (further_operands joining operand k a u)
more_operands R S E F joining operand goes tells step says zero us a r u = never_deep (With us E) u (give a u) (give_shallow a u)
more_operands R S E F joining operand goes tells step says (suc k) us a r u =
    by_tells (With us E) joining (λ join. operator >>= (λ i. operand >>= (λ c. further_operands joining operand k (join i a c)))) (give a) u
    (λ join m. tell_behind m.first.token (With us E) u (operator u) (λ i. operand >>= (λ c. further_operands joining operand k (join i a c)))
    (operator_of u m.first m.rest m.tokens) (operator_shallow u)
    (λ i v. tell_on S (With (placed i m.first.token ∷ []) (With us E)) v (operand v) (λ c. further_operands joining operand k (join i a c)) (goes v)
    (said_so F (With (placed i m.first.token ∷ []) (With us E)) v (operand v) (λ b t x. says i m.first.token join us a b t m.means r x) (tells v))
    (λ c w ts s.
    let ws = placed i m.first.token ∷ ts in
    said_so (With (us ++ ws) E) (With ts (With (placed i m.first.token ∷ []) (With us E))) w (further_operands joining operand k (join i a c) w)
    (λ b t x. subst (λ xs. E xs t) (append_assoc us ws b) x)
    (more_operands R S E F joining operand goes tells step says k (us ++ ws) (join i a c) (step i m.first.token join us ts a c m.means r s) w))))
    (never_deep (With us E) u (give a u) (give_shallow a u))

operands_tell : (R S : List PlacedToken → ExpressionSyntax → Type 0) (E F : Sayings) (joining : QueryToken → Option Joining) (operand : Production ExpressionSyntax)
    → ((u : Unread) → Outcome ExpressionSyntax S u (operand u)) → ((u : Unread) → Tells ExpressionSyntax F u (operand u)) → JoinsAs R S joining → BehindOthers R E F joining
    → ((ts : List PlacedToken) (a : ExpressionSyntax) → S ts a → R ts a) → ((b : List PlacedToken) (t : PlacedToken) → F b t → E b t) → (u : Unread)
    → Tells ExpressionSyntax E u (operands joining operand u)
operands_tell R S E F joining operand goes tells step says embed first u =
    tell_on S E u (operand u) (λ e v. further_operands joining operand (length v.tokens) e v) (goes u) (said_so F E u (operand u) first (tells u))
    (λ a v ts s. more_operands R S E F joining operand goes tells step says (length v.tokens) ts a (embed ts a s) v)

-- ---- expressions

-- what is said where so many nestings are open
abbrev pub InExpression : ℕ → Sayings
InExpression n b t = OpensInExpression b t n

abbrev InAnd : ℕ → Sayings
InAnd n b t = OpensInAnd b t n

abbrev InNot : ℕ → Sayings
InNot n b t = OpensInNot b t n

abbrev InTest : ℕ → Sayings
InTest n b t = OpensInTest b t n

abbrev InSum : ℕ → Sayings
InSum n b t = OpensInSum b t n

abbrev InProduct : ℕ → Sayings
InProduct n b t = OpensInProduct b t n

abbrev InUnary : ℕ → Sayings
InUnary n b t = OpensInUnary b t n

abbrev InNested : Nesting → ℕ → Sayings
InNested parenthesized = InUnary
InNested negated = InNot
InNested signed = InUnary

abbrev InnerTells : ℕ → Type 0
InnerTells n = (o : Nesting) (u : Unread) → Opens o u → Tells ExpressionSyntax (InNested o n) u (nested n o u)

literal_shallow : (e : ExpressionSyntax) → Shallow ExpressionSyntax (literal e)
literal_shallow e = then_shallow any_token (λ _. give e) any_shallow (λ _. give_shallow e)

operand_shallow : Shallow ExpressionSyntax path_operand
operand_shallow = then_shallow path_names (λ p. give (path p)) path_shallow (λ p. give_shallow (path p))

primary_by : (n : ℕ) → InnerTells n → (o : Option QueryToken) (u : Unread) → first_token u.tokens ≡ o → Tells ExpressionSyntax (InUnary n) u (primary_at (nested n) o u)
primary_by n inner (Some (number m)) u f = never_deep (InUnary n) u (literal (number_literal m) u) (literal_shallow (number_literal m) u)
primary_by n inner (Some (text t)) u f = never_deep (InUnary n) u (literal (text_literal t) u) (literal_shallow (text_literal t) u)
primary_by n inner (Some (reserved true_word)) u f = never_deep (InUnary n) u (literal (truth_literal true) u) (literal_shallow (truth_literal true) u)
primary_by n inner (Some (reserved false_word)) u f = never_deep (InUnary n) u (literal (truth_literal false) u) (literal_shallow (truth_literal false) u)
primary_by n inner (Some (identifier m)) u f = never_deep (InUnary n) u (path_operand u) (operand_shallow u)
primary_by n inner (Some (sign open_parenthesis)) u f = inner parenthesized u (next_token (is_the_sign open_parenthesis) u (ap (passes (is_the_sign open_parenthesis)) f))
primary_by n inner (Some (sign s)) u f = never_deep (InUnary n) u (problem_here syntax u) (syntax_shallow u)
primary_by n inner (Some (reserved w)) u f = never_deep (InUnary n) u (problem_here syntax u) (syntax_shallow u)
primary_by n inner (Some bad) u f = never_deep (InUnary n) u (problem_here syntax u) (syntax_shallow u)
primary_by n inner None u f = never_deep (InUnary n) u (problem_here syntax u) (syntax_shallow u)

unary_tells : (n : ℕ) → InnerTells n → (u : Unread) → Tells ExpressionSyntax (InUnary n) u (unary (nested n) u)
unary_tells n inner u = if_tells (InUnary n) (is_the_sign minus_sign) (nested n signed) (primary (nested n)) u (inner signed u) (primary_by n inner (first_token u.tokens) u refl)

says_star : (n : ℕ) → BehindOthers SpellsProduct (InProduct n) (InUnary n) product_in
says_star n i (sign star) join us a b t h r x = behind_star i us b a t n r x
says_star n i (sign s) join us a b t h r x = absurd (cc h)
says_star n i k join us a b t h r x = absurd (cc h)

says_sum : (n : ℕ) → BehindOthers SpellsSum (InSum n) (InProduct n) sum_in
says_sum n i (sign plus_sign) join us a b t h r x = behind_plus i us b a t n r x
says_sum n i (sign minus_sign) join us a b t h r x = behind_minus i us b a t n r x
says_sum n i (sign s) join us a b t h r x = absurd (cc h)
says_sum n i k join us a b t h r x = absurd (cc h)

says_and : (n : ℕ) → BehindOthers SpellsAnd (InAnd n) (InNot n) and_in
says_and n i (reserved and_word) join us a b t h r x = behind_and i us b a t n r x
says_and n i (reserved w) join us a b t h r x = absurd (cc h)
says_and n i k join us a b t h r x = absurd (cc h)

says_or : (n : ℕ) → BehindOthers SpellsExpression (InExpression n) (InAnd n) or_in
says_or n i (reserved or_word) join us a b t h r x = behind_or i us b a t n r x
says_or n i (reserved w) join us a b t h r x = absurd (cc h)
says_or n i k join us a b t h r x = absurd (cc h)

product_tells : (n : ℕ) → InnerTells n → (u : Unread) → Tells ExpressionSyntax (InProduct n) u (product_of (nested n) u)
product_tells n inner = operands_tell SpellsProduct SpellsUnary (InProduct n) (InUnary n) product_in (unary (nested n)) (unary_goes (nested n) (nested_goes n)) (unary_tells n inner) product_step
    (says_star n) one_unary (λ b t x. in_first_unary b t n x)

sum_tells : (n : ℕ) → InnerTells n → (u : Unread) → Tells ExpressionSyntax (InSum n) u (sum_of (nested n) u)
sum_tells n inner = operands_tell SpellsSum SpellsProduct (InSum n) (InProduct n) sum_in (product_of (nested n)) (product_goes (nested n) (nested_goes n)) (product_tells n inner) sum_step (says_sum n)
    one_product (λ b t x. in_first_product b t n x)

tested_tells : (n : ℕ) → InnerTells n → (us : List PlacedToken) (a : ExpressionSyntax) → SpellsSum us a → (u : Unread) → Tells ExpressionSyntax (With us (InTest n)) u (tested (nested n) a u)
tested_tells n inner us a s u = by_tells (With us (InTest n)) comparison_in (comparison_test (nested n) a) (word_test a) u
    (λ c m.
    let k = compares m.first.token c m.means in
    tell_behind m.first.token (With us (InTest n)) u (any_token u) (λ i. sum_of (nested n) >>= (λ b. give (comparison i c a b))) (any_of u m.first m.rest m.tokens) (any_shallow u)
    (λ i v. tell_on SpellsSum (With (placed i m.first.token ∷ []) (With us (InTest n))) v (sum_of (nested n) v) (λ b. give (comparison i c a b)) (sum_goes (nested n) (nested_goes n) v)
    (said_so (InSum n) (With (placed i m.first.token ∷ []) (With us (InTest n))) v (sum_of (nested n) v)
    (λ b t x. subst (λ q. OpensInTest (us ++ placed i q ∷ b) t n) (sym k.this) (behind_comparison i k.by c us b a t n k.is s x)) (sum_tells n inner v))
    (λ b w ts r. never_deep (With ts (With (placed i m.first.token ∷ []) (With us (InTest n)))) w (give (comparison i c a b) w) (give_shallow (comparison i c a b) w))))
    (never_deep (With us (InTest n)) u (word_test a u) (word_test_shallow a u))

test_tells : (n : ℕ) → InnerTells n → (u : Unread) → Tells ExpressionSyntax (InTest n) u (test_of (nested n) u)
test_tells n inner u = tell_on SpellsSum (InTest n) u (sum_of (nested n) u) (tested (nested n)) (sum_goes (nested n) (nested_goes n) u)
    (said_so (InSum n) (InTest n) u (sum_of (nested n) u) (λ b t x. in_first_sum b t n x) (sum_tells n inner u)) (λ a v ts s. tested_tells n inner ts a s v)

not_tells : (n : ℕ) → InnerTells n → (u : Unread) → Tells ExpressionSyntax (InNot n) u (not_of (nested n) u)
not_tells n inner u = if_tells (InNot n) (is_the_word not_word) (nested n negated) (test_of (nested n)) u (inner negated u)
    (said_so (InTest n) (InNot n) u (test_of (nested n) u) (λ b t x. in_test b t n x) (test_tells n inner u))

and_tells : (n : ℕ) → InnerTells n → (u : Unread) → Tells ExpressionSyntax (InAnd n) u (and_of (nested n) u)
and_tells n inner = operands_tell SpellsAnd SpellsNot (InAnd n) (InNot n) and_in (not_of (nested n)) (not_goes (nested n) (nested_goes n)) (not_tells n inner) and_step (says_and n) one_not
    (λ b t x. in_first_not b t n x)

expression_tells : (n : ℕ) → InnerTells n → (u : Unread) → Tells ExpressionSyntax (InExpression n) u (expression_of (nested n) u)
expression_tells n inner = operands_tell SpellsExpression SpellsAnd (InExpression n) (InAnd n) or_in (and_of (nested n)) (and_goes (nested n) (nested_goes n)) (and_tells n inner) or_step (says_or n)
    one_and (λ b t x. in_first_and b t n x)

-- where no nesting may be opened, each that opens one is told
none_left : (E : Sayings) (u : Unread) (test : QueryToken → Bool) (n : NextToken test u) → E [] n.first → Tells ExpressionSyntax E u (problem_here too_deep u)
none_left E u test n x = stopped (record { place = first_place u.size u.tokens; problem = too_deep })
    (λ _. record { before = []; token = n.first; rest = n.rest; tokens = n.tokens; place = sym (ap (first_place u.size) n.tokens); said = x })

nested_tells : (n : ℕ) → InnerTells n
nested_tells zero parenthesized u n = none_left (InUnary 0) u (is_the_sign open_parenthesis) n
    (subst (λ k. OpensInUnary [] (placed n.first.place k) 0) (sym (sign_is_this open_parenthesis n.first.token n.passes_it)) (parenthesis_itself n.first.place))
nested_tells zero negated u n = none_left (InNot 0) u (is_the_word not_word) n
    (subst (λ k. OpensInNot [] (placed n.first.place k) 0) (sym (word_is not_word n.first.token n.passes_it)) (not_itself n.first.place))
nested_tells zero signed u n = none_left (InUnary 0) u (is_the_sign minus_sign) n
    (subst (λ k. OpensInUnary [] (placed n.first.place k) 0) (sym (sign_is_this minus_sign n.first.token n.passes_it)) (sign_itself n.first.place))
nested_tells (suc k) parenthesized u n = tell_behind (sign open_parenthesis) (InUnary (suc k)) u (any_token u) (λ _. expression_of (nested k) >>= (λ e. mark close_parenthesis >>= (λ _. give e)))
    (known_sign open_parenthesis u n) (any_shallow u)
    (λ i v. tell_on SpellsExpression (With (sign_at i open_parenthesis ∷ []) (InUnary (suc k))) v (expression_of (nested k) v) (λ e. mark close_parenthesis >>= (λ _. give e))
    (nested_expression_goes k v)
    (said_so (InExpression k) (With (sign_at i open_parenthesis ∷ []) (InUnary (suc k))) v (expression_of (nested k) v) (λ b t x. behind_parenthesis i b t k x) (expression_tells k (nested_tells k) v))
    (λ e w ts s. never_deep (With ts (With (sign_at i open_parenthesis ∷ []) (InUnary (suc k)))) w ((mark close_parenthesis >>= (λ _. give e)) w)
    (then_shallow (mark close_parenthesis) (λ _. give e) (mark_shallow close_parenthesis) (λ _. give_shallow e) w)))
nested_tells (suc k) negated u n = tell_behind (reserved not_word) (InNot (suc k)) u (any_token u) (λ i. not_of (nested k) >>= (λ e. give (negation i e))) (known_word not_word u n) (any_shallow u)
    (λ i v. tell_on SpellsNot (With (word_at i not_word ∷ []) (InNot (suc k))) v (not_of (nested k) v) (λ e. give (negation i e)) (not_goes (nested k) (nested_goes k) v)
    (said_so (InNot k) (With (word_at i not_word ∷ []) (InNot (suc k))) v (not_of (nested k) v) (λ b t x. behind_not i b t k x) (not_tells k (nested_tells k) v))
    (λ e w ts s. never_deep (With ts (With (word_at i not_word ∷ []) (InNot (suc k)))) w (give (negation i e) w) (give_shallow (negation i e) w)))
nested_tells (suc k) signed u n = tell_behind (sign minus_sign) (InUnary (suc k)) u (operator u) (λ i. unary (nested k) >>= (λ e. give (negative i e))) (known_operator minus_sign u n) (operator_shallow u)
    (λ i v. tell_on SpellsUnary (With (sign_at i minus_sign ∷ []) (InUnary (suc k))) v (unary (nested k) v) (λ e. give (negative i e)) (unary_goes (nested k) (nested_goes k) v)
    (said_so (InUnary k) (With (sign_at i minus_sign ∷ []) (InUnary (suc k))) v (unary (nested k) v) (λ b t x. behind_sign i b t k x) (unary_tells k (nested_tells k) v))
    (λ e w ts s. never_deep (With ts (With (sign_at i minus_sign ∷ []) (InUnary (suc k)))) w (give (negative i e) w) (give_shallow (negative i e) w)))

-- an expression with at most so many nestings
pub nested_expression_tells : (n : ℕ) (u : Unread) → Tells ExpressionSyntax (InExpression n) u (expression_of (nested n) u)
nested_expression_tells n = expression_tells n (nested_tells n)
