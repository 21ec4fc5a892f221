-- What is read keeps what is open on a stack, and never opens a nesting where 32 are open: expressions.
use Rattle.std.specs.Prelude.{◌≡◌, ◌≤◌, ℕ, zero, suc, ◌+◌, List, [], ◌∷◌, ◌++◌, length, Bool, true, false, ◌||◌, nat_le, nat_lt, Option, Some, None, option_and_then}
use Rattle.std.proofs.Common.{refl, sym, ap, subst, ◌∙◌, arith}
use Rattle.std.proofs.lemmas.Bool.Decides.{nat_tests}
use Rattle.dr_meaning.specs.Tokens.{Word, Sign, QueryToken, reserved, identifier, number, text, sign, bad, true_word, false_word, or_word, and_word, not_word, like_word, contains_word, is_word}
use Rattle.dr_meaning.specs.Tokens.{null_word, dot, star, plus_sign, minus_sign, equals, differs, less_than, less_or_equal, greater_than, greater_or_equal, open_parenthesis, close_parenthesis, PlacedToken}
use Rattle.dr_meaning.specs.Expression.{Comparison}
use Rattle.dr_meaning.specs.Syntax.{PathSyntax, ExpressionSyntax, number_literal, text_literal, truth_literal, path, negative, comparison, like, contains, is_null, negation}
use Rattle.dr_meaning.specs.Parse.{Unread, Parsed, got, refused, QueryFault, QueryProblem, Production, give, goes_on, ◌>>=◌, here, place_of, first_token, passes, problem_here, syntax, too_many, too_deep}
use Rattle.dr_meaning.specs.Parse.{next_is, either, if_next, for_some, by_next, any_token, operator, counted, most_operators, behind_token, behind_operator, without_first, word, mark, name}
use Rattle.dr_meaning.specs.Parse.{quoted_text, is_the_word, is_the_sign, name_in, text_in, comparison_in, Joining, or_in, and_in, sum_in, product_in, further_names, names, path_names, Nesting}
use Rattle.dr_meaning.specs.Parse.{parenthesized, negated, signed, literal, path_operand, primary_at, primary, unary, further_operands, operands, product_of, sum_of, plain, like_test, contains_test}
use Rattle.dr_meaning.specs.Parse.{text_test, denied_test, denied_null, plain_null, null_test, comparison_test, word_test, tested, test_of, not_of, and_of, expression_of, nested}
use Rattle.dr_meaning.proofs.SyntaxReading.{NextToken, next_token, NextMeaning, next_meaning, word_is, sign_is_this}
use Rattle.dr_query_laws.proofs.Outcomes.{name_token_is, text_token_is}
use Rattle.dr_query_laws.proofs.ExpressionsGoOn.{Opens, next_by}
use Rattle.dr_query_laws.specs.FaultLaws.{AreBefore}
use Rattle.dr_query_laws.proofs.OperatorsCounted.{moved, stands_first}
use Rattle.dr_query_laws.proofs.OpenStack.{ended, joined, without_top, State, at, step, run, run_from, overflows, is_deep, deep_on}

-- what is left of a text whose tokens before were read to a state, none of them too deep
pub record Stands (all : List PlacedToken) (x : State) (u : Unread) : Type 0 where
  pub before : List PlacedToken
  pub tokens : all ≡ before ++ u.tokens
  pub ran : run (at true []) before ≡ x
  pub calm : is_deep (at true []) before ≡ false

-- none of the tokens before a place is too deep
abbrev pub CalmBefore : List PlacedToken → ℕ → Type 0
CalmBefore all i = (before : List PlacedToken) × AreBefore before all i × (is_deep (at true []) before ≡ false)

-- what is left behind what was read is so; or none before the fault was too deep
pub data Goes (all : List PlacedToken) (A : Type 0) (P : Unread → Type 0) : Parsed A → Type 0 where
  came : (a : A) (v : Unread) → P v → Goes all A P (got a v)
  fell : (f : QueryFault) → CalmBefore all f.place → Goes all A P (refused f)

-- a production leads from one state to another
abbrev pub From : List PlacedToken → State → State → (A : Type 0) → Production A → Type 0
From all x y A p = (u : Unread) → Stands all x u → Goes all A (Stands all y) (p u)

-- ---- combining

pub go_on : {A B : Type 0} (all : List PlacedToken) (P Q : Unread → Type 0) (p : Parsed A) (next : A → Production B) → Goes all A P p → ((a : A) (v : Unread) → P v → Goes all B Q (next a v)) → Goes all B Q (goes_on p next)
go_on all P Q _ next (came a v x) f = f a v x
go_on all P Q _ next (fell g h) f = fell g h

pub goes_as : {A : Type 0} (all : List PlacedToken) (P Q : Unread → Type 0) (p : Parsed A) → ((v : Unread) → P v → Q v) → Goes all A P p → Goes all A Q p
goes_as all P Q _ f (came a v x) = came a v (f v x)
goes_as all P Q _ f (fell g h) = fell g h

pub from_to : {A B : Type 0} (all : List PlacedToken) (x y z : State) (p : Production A) (next : A → Production B) → From all x y A p → ((a : A) → From all y z B (next a)) → From all x z B (p >>= next)
from_to all x y z p next f g u c = go_on all (Stands all y) (Stands all z) (p u) next (f u c) (λ a v d. g a v d)

pub given_so : {A : Type 0} (all : List PlacedToken) (x : State) (a : A) → From all x x A (give a)
given_so all x a u c = came a u c

pub here_so : (all : List PlacedToken) (x : State) → From all x x ℕ here
here_so all x u c = came (place_of u) u c

pub falls : {A : Type 0} (all : List PlacedToken) (x : State) (P : Unread → Type 0) (p : QueryProblem) (u : Unread) → Stands all x u → Goes all A P (problem_here p u)
falls all x P p u c = fell (record { place = place_of u; problem = p }) (c.before, (u.tokens, c.tokens, stands_first u.size u.tokens), c.calm)

pub if_goes : {A : Type 0} (all : List PlacedToken) (P : Unread → Type 0) (test : QueryToken → Bool) (p q : Production A) (u : Unread) → (NextToken test u → Goes all A P (p u)) → Goes all A P (q u) → Goes all A P (if_next test p q u)
if_goes {A} all P test p q u then_p then_q = by_test (next_is test u) refl
  where
    by_test : (b : Bool) → next_is test u ≡ b → Goes all A P (either b p q u)
    by_test true e = then_p (next_token test u e)
    by_test false e = then_q

pub by_goes : {A B : Type 0} (all : List PlacedToken) (P : Unread → Type 0) (f : QueryToken → Option A) (p : A → Production B) (q : Production B) (u : Unread)
    → ((a : A) → NextMeaning A f a u → Goes all B P (p a u)) → Goes all B P (q u) → Goes all B P (by_next f p q u)
by_goes {A} {B} all P f p q u then_p then_q = by_some (option_and_then f (first_token u.tokens)) refl
  where
    by_some : (o : Option A) → option_and_then f (first_token u.tokens) ≡ o → Goes all B P (for_some o p q u)
    by_some None e = then_q
    by_some (Some a) e = then_p a (next_meaning f a u e)

-- ---- tokens

-- behind one token more, which isn't too deep
pub stepped : (all : List PlacedToken) (x : State) (k : QueryToken) (u : Unread) (first : PlacedToken) (rest : List PlacedToken) → u.tokens ≡ first ∷ rest → first.token ≡ k → overflows x k ≡ false
    → Stands all x u → (v : Unread) → v.tokens ≡ without_first u.tokens → Stands all (step x k) v
stepped all x k u first rest e t o c v h = record {
  before = c.before ++ first ∷ [];
  tokens = moved all c.before u.tokens first rest c.tokens e ∙ ap (λ xs. (c.before ++ first ∷ []) ++ xs) (sym h);
  ran = run_from (at true []) x c.before (first ∷ []) c.ran ∙ ap (step x) t;
  calm = deep_on (at true []) c.before (first ∷ []) ∙ (ap (λ b. b || is_deep (run (at true []) c.before) (first ∷ [])) c.calm
      ∙ (ap (λ y. overflows y first.token || false) c.ran ∙ (ap (λ q. overflows x q || false) t ∙ ap (λ b. b || false) o)));
}

pub skip_word : (all : List PlacedToken) (x : State) (w : Word) → overflows x (reserved w) ≡ false → (u : Unread) → NextToken (is_the_word w) u → Stands all x u
    → Goes all ℕ (Stands all (step x (reserved w))) (any_token u)
skip_word all x w o u n c = came (place_of u) (behind_token u) (stepped all x (reserved w) u n.first n.rest n.tokens (word_is w n.first.token n.passes_it) o c (behind_token u) refl)

pub skip_sign : (all : List PlacedToken) (x : State) (s : Sign) → overflows x (sign s) ≡ false → (u : Unread) → NextToken (is_the_sign s) u → Stands all x u
    → Goes all ℕ (Stands all (step x (sign s))) (any_token u)
skip_sign all x s o u n c = came (place_of u) (behind_token u) (stepped all x (sign s) u n.first n.rest n.tokens (sign_is_this s n.first.token n.passes_it) o c (behind_token u) refl)

pub read_word : (all : List PlacedToken) (x : State) (w : Word) → overflows x (reserved w) ≡ false → From all x (step x (reserved w)) ℕ (word w)
read_word all x w o u c = if_goes all (Stands all (step x (reserved w))) (is_the_word w) any_token (problem_here syntax) u (λ n. skip_word all x w o u n c) (falls all x (Stands all (step x (reserved w))) syntax u c)

pub read_sign : (all : List PlacedToken) (x : State) (s : Sign) → overflows x (sign s) ≡ false → From all x (step x (sign s)) ℕ (mark s)
read_sign all x s o u c = if_goes all (Stands all (step x (sign s))) (is_the_sign s) any_token (problem_here syntax) u (λ n. skip_sign all x s o u n c) (falls all x (Stands all (step x (sign s))) syntax u c)

pub operate : (all : List PlacedToken) (x : State) (k : QueryToken) (u : Unread) (first : PlacedToken) (rest : List PlacedToken) → u.tokens ≡ first ∷ rest → first.token ≡ k → overflows x k ≡ false
    → Stands all x u → Goes all ℕ (Stands all (step x k)) (operator u)
operate all x k u first rest e t o c = by_room (nat_lt u.operators most_operators)
  where
    by_room : (b : Bool) → Goes all ℕ (Stands all (step x k)) (either b counted (problem_here too_many) u)
    by_room true = came (place_of u) (behind_operator u) (stepped all x k u first rest e t o c (behind_operator u) refl)
    by_room false = falls all x (Stands all (step x k)) too_many u c

pub name_so : (all : List PlacedToken) (x y : State) → ((n : List ℕ) → step x (identifier n) ≡ y) → ((n : List ℕ) → overflows x (identifier n) ≡ false) → From all x y (List ℕ) name
name_so all x y s o u c = by_goes all (Stands all y) name_in (λ n v. got n (behind_token v)) (problem_here syntax) u
    (λ n m. came n (behind_token u) (subst (λ z. Stands all z (behind_token u)) (s n)
    (stepped all x (identifier n) u m.first m.rest m.tokens (name_token_is n m.first.token m.means) (o n) c (behind_token u) refl)))
    (falls all x (Stands all y) syntax u c)

-- where no operand may begin
pub name_kept : (all : List PlacedToken) (s : List Nesting) → From all (at false s) (at false s) (List ℕ) name
name_kept all s = name_so all (at false s) (at false s) (λ n. refl) (λ n. refl)

text_kept : (all : List PlacedToken) (s : List Nesting) → From all (at false s) (at false s) (List ℕ) quoted_text
text_kept all s u c = by_goes all (Stands all (at false s)) text_in (λ n v. got n (behind_token v)) (problem_here syntax) u
    (λ n m. came n (behind_token u) (stepped all (at false s) (text n) u m.first m.rest m.tokens (text_token_is n m.first.token m.means) refl c (behind_token u) refl))
    (falls all (at false s) (Stands all (at false s)) syntax u c)

-- ---- paths

names_kept : (all : List PlacedToken) (s : List Nesting) (k : ℕ) (ns : List (List ℕ)) → From all (at false s) (at false s) (List (List ℕ)) (further_names k ns)
names_kept all s zero ns u c = given_so all (at false s) ns u c
names_kept all s (suc k) ns u c = if_goes all (Stands all (at false s)) (is_the_sign dot) (any_token >>= (λ _. name >>= (λ n. further_names k (ns ++ n ∷ [])))) (give ns) u
    (λ n. go_on all (Stands all (at false s)) (Stands all (at false s)) (any_token u) (λ _. name >>= (λ m. further_names k (ns ++ m ∷ []))) (skip_sign all (at false s) dot refl u n c)
    (λ _. from_to all (at false s) (at false s) (at false s) name (λ m. further_names k (ns ++ m ∷ [])) (name_kept all s) (λ m. names_kept all s k (ns ++ m ∷ []))))
    (given_so all (at false s) ns u c)

-- a path behind a name that leads to where no operand may begin
path_so : (all : List PlacedToken) (x : State) (s : List Nesting) → From all x (at false s) (List ℕ) name → From all x (at false s) PathSyntax path_names
path_so all x s first = from_to all x x (at false s) here (λ i. names >>= (λ ns. give (record { place = i; names = ns }))) (here_so all x)
    (λ i. from_to all x (at false s) (at false s) names (λ ns. give (record { place = i; names = ns }))
    (from_to all x (at false s) (at false s) name (λ n v. further_names (length v.tokens) (n ∷ []) v) first (λ n v. names_kept all s (length v.tokens) (n ∷ []) v))
    (λ ns. given_so all (at false s) (record { place = i; names = ns })))

pub path_kept : (all : List PlacedToken) (s : List Nesting) → From all (at false s) (at false s) PathSyntax path_names
path_kept all s = path_so all (at false s) s (name_kept all s)

pub path_begun : (all : List PlacedToken) (s : List Nesting) → From all (at true s) (at false (ended s)) PathSyntax path_names
path_begun all s = path_so all (at true s) (ended s) (name_so all (at true s) (at false (ended s)) (λ n. refl) (λ n. refl))

-- ---- operands joined by operators

more_operands : (all : List PlacedToken) (P Q : Unread → Type 0) (joining : QueryToken → Option Joining) (operand : Production ExpressionSyntax) → ((u : Unread) → P u → Goes all ExpressionSyntax Q (operand u))
    → ((join : Joining) (u : Unread) → NextMeaning Joining joining join u → Q u → Goes all ℕ P (operator u)) → (k : ℕ) (e : ExpressionSyntax) (u : Unread) → Q u
    → Goes all ExpressionSyntax Q (further_operands joining operand k e u)
more_operands all P Q joining operand goes steps zero e u q = came e u q
more_operands all P Q joining operand goes steps (suc k) e u q =
    by_goes all Q joining (λ join. operator >>= (λ i. operand >>= (λ b. further_operands joining operand k (join i e b)))) (give e) u
    (λ join m. go_on all P Q (operator u) (λ i. operand >>= (λ b. further_operands joining operand k (join i e b))) (steps join u m q)
    (λ i v p. go_on all Q Q (operand v) (λ b. further_operands joining operand k (join i e b)) (goes v p) (λ b w r. more_operands all P Q joining operand goes steps k (join i e b) w r)))
    (came e u q)

operands_go : (all : List PlacedToken) (P Q : Unread → Type 0) (joining : QueryToken → Option Joining) (operand : Production ExpressionSyntax) → ((u : Unread) → P u → Goes all ExpressionSyntax Q (operand u))
    → ((join : Joining) (u : Unread) → NextMeaning Joining joining join u → Q u → Goes all ℕ P (operator u)) → (u : Unread) → P u → Goes all ExpressionSyntax Q (operands joining operand u)
operands_go all P Q joining operand goes steps u p = go_on all Q Q (operand u) (λ e v. further_operands joining operand (length v.tokens) e v) (goes u p)
    (λ e v q. more_operands all P Q joining operand goes steps (length v.tokens) e v q)

star_steps : (t : QueryToken) (join : Joining) → product_in t ≡ Some join → (s : List Nesting) → step (at false s) t ≡ at true s
star_steps (sign star) join h s = refl
star_steps (sign g) join h s = absurd (cc h)
star_steps t join h s = absurd (cc h)

sum_steps : (t : QueryToken) (join : Joining) → sum_in t ≡ Some join → (s : List Nesting) → step (at false s) t ≡ at true s
sum_steps (sign plus_sign) join h s = refl
sum_steps (sign minus_sign) join h s = refl
sum_steps (sign g) join h s = absurd (cc h)
sum_steps t join h s = absurd (cc h)

and_steps : (t : QueryToken) (join : Joining) → and_in t ≡ Some join → (s : List Nesting) → step (at false s) t ≡ at true (joined s)
and_steps (reserved and_word) join h s = refl
and_steps (reserved w) join h s = absurd (cc h)
and_steps t join h s = absurd (cc h)

or_steps : (t : QueryToken) (join : Joining) → or_in t ≡ Some join → (s : List Nesting) → step (at false s) t ≡ at true (joined s)
or_steps (reserved or_word) join h s = refl
or_steps (reserved w) join h s = absurd (cc h)
or_steps t join h s = absurd (cc h)

comparison_steps : (t : QueryToken) (x : Comparison) → comparison_in t ≡ Some x → (s : List Nesting) → step (at false s) t ≡ at true s
comparison_steps (sign equals) x h s = refl
comparison_steps (sign differs) x h s = refl
comparison_steps (sign less_than) x h s = refl
comparison_steps (sign less_or_equal) x h s = refl
comparison_steps (sign greater_than) x h s = refl
comparison_steps (sign greater_or_equal) x h s = refl
comparison_steps (sign g) x h s = absurd (cc h)
comparison_steps t x h s = absurd (cc h)

-- an operator behind an operand
operate_done : (all : List PlacedToken) (s : List Nesting) (y : State) (u : Unread) (first : PlacedToken) (rest : List PlacedToken) → u.tokens ≡ first ∷ rest → step (at false s) first.token ≡ y
    → Stands all (at false s) u → Goes all ℕ (Stands all y) (operator u)
operate_done all s y u first rest e h c = subst (λ z. Goes all ℕ (Stands all z) (operator u)) h (operate all (at false s) first.token u first rest e refl refl c)

-- ---- tests by words, behind an operand

like_kept : (all : List PlacedToken) (s : List Nesting) (shaped : ℕ → ExpressionSyntax → ExpressionSyntax) (e : ExpressionSyntax) (u : Unread) → NextToken (is_the_word like_word) u
    → Stands all (at false s) u → Goes all ExpressionSyntax (Stands all (at false s)) (like_test shaped e u)
like_kept all s shaped e u n c = go_on all (Stands all (at false s)) (Stands all (at false s)) (any_token u) (λ i. quoted_text >>= (λ t. give (shaped i (like i e t)))) (skip_word all (at false s) like_word refl u n c)
    (λ i. from_to all (at false s) (at false s) (at false s) quoted_text (λ t. give (shaped i (like i e t))) (text_kept all s) (λ t. given_so all (at false s) (shaped i (like i e t))))

contains_kept : (all : List PlacedToken) (s : List Nesting) (shaped : ℕ → ExpressionSyntax → ExpressionSyntax) (e : ExpressionSyntax) (u : Unread) → NextToken (is_the_word contains_word) u
    → Stands all (at false s) u → Goes all ExpressionSyntax (Stands all (at false s)) (contains_test shaped e u)
contains_kept all s shaped e u n c = go_on all (Stands all (at false s)) (Stands all (at false s)) (any_token u) (λ i. quoted_text >>= (λ t. give (shaped i (contains i e t)))) (skip_word all (at false s) contains_word refl u n c)
    (λ i. from_to all (at false s) (at false s) (at false s) quoted_text (λ t. give (shaped i (contains i e t))) (text_kept all s) (λ t. given_so all (at false s) (shaped i (contains i e t))))

text_test_kept : (all : List PlacedToken) (s : List Nesting) (shaped : ℕ → ExpressionSyntax → ExpressionSyntax) (e : ExpressionSyntax) (other : Production ExpressionSyntax)
    → From all (at false s) (at false s) ExpressionSyntax other → From all (at false s) (at false s) ExpressionSyntax (text_test shaped e other)
text_test_kept all s shaped e other o u c = if_goes all (Stands all (at false s)) (is_the_word like_word) (like_test shaped e) (if_next (is_the_word contains_word) (contains_test shaped e) other) u
    (λ n. like_kept all s shaped e u n c)
    (if_goes all (Stands all (at false s)) (is_the_word contains_word) (contains_test shaped e) other u (λ n. contains_kept all s shaped e u n c) (o u c))

denied_kept : (all : List PlacedToken) (s : List Nesting) (e : ExpressionSyntax) (u : Unread) → NextToken (is_the_word not_word) u → Stands all (at false s) u
    → Goes all ExpressionSyntax (Stands all (at false s)) (denied_test e u)
denied_kept all s e u n c = go_on all (Stands all (at false s)) (Stands all (at false s)) (any_token u) (λ _. text_test negation e (problem_here syntax)) (skip_word all (at false s) not_word refl u n c)
    (λ _. text_test_kept all s negation e (problem_here syntax) (λ v d. falls all (at false s) (Stands all (at false s)) syntax v d))

null_kept : (all : List PlacedToken) (s : List Nesting) (e : ExpressionSyntax) → From all (at false s) (at false s) ExpressionSyntax (word null_word >>= (λ _. give e))
null_kept all s e = from_to all (at false s) (at false s) (at false s) (word null_word) (λ _. give e) (read_word all (at false s) null_word refl) (λ _. given_so all (at false s) e)

null_test_kept : (all : List PlacedToken) (s : List Nesting) (e : ExpressionSyntax) (u : Unread) → NextToken (is_the_word is_word) u → Stands all (at false s) u
    → Goes all ExpressionSyntax (Stands all (at false s)) (null_test e u)
null_test_kept all s e u n c = go_on all (Stands all (at false s)) (Stands all (at false s)) (any_token u) (λ i. if_next (is_the_word not_word) (denied_null i e) (plain_null i e)) (skip_word all (at false s) is_word refl u n c)
    (λ i v d. if_goes all (Stands all (at false s)) (is_the_word not_word) (denied_null i e) (plain_null i e) v
    (λ m. go_on all (Stands all (at false s)) (Stands all (at false s)) (any_token v) (λ _. word null_word >>= (λ _. give (negation i (is_null i e)))) (skip_word all (at false s) not_word refl v m d)
    (λ _. null_kept all s (negation i (is_null i e))))
    (null_kept all s (is_null i e) v d))

word_test_kept : (all : List PlacedToken) (s : List Nesting) (e : ExpressionSyntax) → From all (at false s) (at false s) ExpressionSyntax (word_test e)
word_test_kept all s e u c = if_goes all (Stands all (at false s)) (is_the_word not_word) (denied_test e) (if_next (is_the_word is_word) (null_test e) (text_test plain e (give e))) u
    (λ n. denied_kept all s e u n c)
    (if_goes all (Stands all (at false s)) (is_the_word is_word) (null_test e) (text_test plain e (give e)) u (λ n. null_test_kept all s e u n c)
    (text_test_kept all s plain e (give e) (given_so all (at false s) e) u c))

-- ---- expressions

-- nothing but NOTs was left open
pub record Left (all : List PlacedToken) (s : List Nesting) (u : Unread) : Type 0 where
  pub opened : List Nesting
  pub stands : Stands all (at false opened) u
  pub left : joined opened ≡ s

-- how a nesting leaves what was open
abbrev After : List PlacedToken → Nesting → List Nesting → Unread → Type 0
After all parenthesized s = Stands all (at false (ended s))
After all negated s = Left all (joined s)
After all signed s = Stands all (at false (ended s))

abbrev InnerGoes : List PlacedToken → ℕ → Type 0
InnerGoes all m = (o : Nesting) (u : Unread) → Opens o u → (s : List Nesting) → length s + m ≤ 32 → Stands all (at true s) u → Goes all ExpressionSyntax (After all o s) (nested m o u)

literal_goes : (all : List PlacedToken) (s : List Nesting) (e : ExpressionSyntax) (k : QueryToken) → step (at true s) k ≡ at false (ended s) → overflows (at true s) k ≡ false → (u : Unread)
    → first_token u.tokens ≡ Some k → Stands all (at true s) u → Goes all ExpressionSyntax (Stands all (at false (ended s))) (literal e u)
literal_goes all s e k h o u f c =
    let n = next_by k u.tokens u.size u.operators f in
    came e (behind_token u) (subst (λ z. Stands all z (behind_token u)) h (stepped all (at true s) k u n.first n.rest n.tokens n.this o c (behind_token u) refl))

operand_path : (all : List PlacedToken) (s : List Nesting) → From all (at true s) (at false (ended s)) ExpressionSyntax path_operand
operand_path all s = from_to all (at true s) (at false (ended s)) (at false (ended s)) path_names (λ p. give (path p)) (path_begun all s) (λ p. given_so all (at false (ended s)) (path p))

primary_by : (all : List PlacedToken) (m : ℕ) → InnerGoes all m → (s : List Nesting) → length s + m ≤ 32 → (o : Option QueryToken) (u : Unread) → first_token u.tokens ≡ o → Stands all (at true s) u
    → Goes all ExpressionSyntax (Stands all (at false (ended s))) (primary_at (nested m) o u)
primary_by all m inner s l (Some (number n)) u f c = literal_goes all s (number_literal n) (number n) refl refl u f c
primary_by all m inner s l (Some (text t)) u f c = literal_goes all s (text_literal t) (text t) refl refl u f c
primary_by all m inner s l (Some (reserved true_word)) u f c = literal_goes all s (truth_literal true) (reserved true_word) refl refl u f c
primary_by all m inner s l (Some (reserved false_word)) u f c = literal_goes all s (truth_literal false) (reserved false_word) refl refl u f c
primary_by all m inner s l (Some (identifier n)) u f c = operand_path all s u c
primary_by all m inner s l (Some (sign open_parenthesis)) u f c = inner parenthesized u (next_token (is_the_sign open_parenthesis) u (ap (passes (is_the_sign open_parenthesis)) f)) s l c
primary_by all m inner s l (Some (sign g)) u f c = falls all (at true s) (Stands all (at false (ended s))) syntax u c
primary_by all m inner s l (Some (reserved w)) u f c = falls all (at true s) (Stands all (at false (ended s))) syntax u c
primary_by all m inner s l (Some bad) u f c = falls all (at true s) (Stands all (at false (ended s))) syntax u c
primary_by all m inner s l None u f c = falls all (at true s) (Stands all (at false (ended s))) syntax u c

unary_goes : (all : List PlacedToken) (m : ℕ) → InnerGoes all m → (s : List Nesting) → length s + m ≤ 32 → From all (at true s) (at false (ended s)) ExpressionSyntax (unary (nested m))
unary_goes all m inner s l u c = if_goes all (Stands all (at false (ended s))) (is_the_sign minus_sign) (nested m signed) (primary (nested m)) u (λ n. inner signed u n s l c)
    (primary_by all m inner s l (first_token u.tokens) u refl c)

product_goes : (all : List PlacedToken) (m : ℕ) → InnerGoes all m → (s : List Nesting) → length s + m ≤ 32 → ended s ≡ s → From all (at true s) (at false s) ExpressionSyntax (product_of (nested m))
product_goes all m inner s l p = operands_go all (Stands all (at true s)) (Stands all (at false s)) product_in (unary (nested m))
    (λ u c. subst (λ z. Goes all ExpressionSyntax (Stands all (at false z)) (unary (nested m) u)) p (unary_goes all m inner s l u c))
    (λ join u k c. operate_done all s (at true s) u k.first k.rest k.tokens (star_steps k.first.token join k.means s) c)

sum_goes : (all : List PlacedToken) (m : ℕ) → InnerGoes all m → (s : List Nesting) → length s + m ≤ 32 → ended s ≡ s → From all (at true s) (at false s) ExpressionSyntax (sum_of (nested m))
sum_goes all m inner s l p = operands_go all (Stands all (at true s)) (Stands all (at false s)) sum_in (product_of (nested m)) (product_goes all m inner s l p)
    (λ join u k c. operate_done all s (at true s) u k.first k.rest k.tokens (sum_steps k.first.token join k.means s) c)

test_goes : (all : List PlacedToken) (m : ℕ) → InnerGoes all m → (s : List Nesting) → length s + m ≤ 32 → ended s ≡ s → From all (at true s) (at false s) ExpressionSyntax (test_of (nested m))
test_goes all m inner s l p = from_to all (at true s) (at false s) (at false s) (sum_of (nested m)) (tested (nested m)) (sum_goes all m inner s l p)
    (λ e u c. by_goes all (Stands all (at false s)) comparison_in (comparison_test (nested m) e) (word_test e) u
    (λ x k. go_on all (Stands all (at true s)) (Stands all (at false s)) (any_token u) (λ i. sum_of (nested m) >>= (λ b. give (comparison i x e b)))
    (came (place_of u) (behind_token u) (subst (λ z. Stands all z (behind_token u)) (comparison_steps k.first.token x k.means s)
    (stepped all (at false s) k.first.token u k.first k.rest k.tokens refl refl c (behind_token u) refl)))
    (λ i. from_to all (at true s) (at false s) (at false s) (sum_of (nested m)) (λ b. give (comparison i x e b)) (sum_goes all m inner s l p) (λ b. given_so all (at false s) (comparison i x e b))))
    (word_test_kept all s e u c))

not_goes : (all : List PlacedToken) (m : ℕ) → InnerGoes all m → (s : List Nesting) → length s + m ≤ 32 → ended s ≡ s → (u : Unread) → Stands all (at true s) u
    → Goes all ExpressionSyntax (Left all (joined s)) (not_of (nested m) u)
not_goes all m inner s l p u c = if_goes all (Left all (joined s)) (is_the_word not_word) (nested m negated) (test_of (nested m)) u (λ n. inner negated u n s l c)
    (goes_as all (Stands all (at false s)) (Left all (joined s)) (test_of (nested m) u) (λ v d. record { opened = s; stands = d; left = refl }) (test_goes all m inner s l p u c))

-- AND or OR behind what is left open
join_left : (all : List PlacedToken) (s : List Nesting) (u : Unread) (first : PlacedToken) (rest : List PlacedToken) → u.tokens ≡ first ∷ rest
    → ((o : List Nesting) → step (at false o) first.token ≡ at true (joined o)) → Left all s u → Goes all ℕ (Stands all (at true s)) (operator u)
join_left all s u first rest e h c = operate_done all c.opened (at true s) u first rest e (h c.opened ∙ ap (at true) c.left) c.stands

and_goes : (all : List PlacedToken) (m : ℕ) → InnerGoes all m → (s : List Nesting) → length s + m ≤ 32 → ended s ≡ s → joined s ≡ s → (u : Unread) → Stands all (at true s) u
    → Goes all ExpressionSyntax (Left all s) (and_of (nested m) u)
and_goes all m inner s l p q = operands_go all (Stands all (at true s)) (Left all s) and_in (not_of (nested m))
    (λ u c. subst (λ z. Goes all ExpressionSyntax (Left all z) (not_of (nested m) u)) q (not_goes all m inner s l p u c))
    (λ join u k c. join_left all s u k.first k.rest k.tokens (and_steps k.first.token join k.means) c)

expression_goes : (all : List PlacedToken) (m : ℕ) → InnerGoes all m → (s : List Nesting) → length s + m ≤ 32 → ended s ≡ s → joined s ≡ s → (u : Unread) → Stands all (at true s) u
    → Goes all ExpressionSyntax (Left all s) (expression_of (nested m) u)
expression_goes all m inner s l p q = operands_go all (Stands all (at true s)) (Left all s) or_in (and_of (nested m)) (and_goes all m inner s l p q)
    (λ join u k c. join_left all s u k.first k.rest k.tokens (or_steps k.first.token join k.means) c)

-- where one more may be opened, none overflows
room : (m k : ℕ) → m + suc k ≤ 32 → nat_le 32 m ≡ false
room m k h = grind (arith, nat_tests)

one_less : (m k : ℕ) → m + suc k ≤ 32 → suc m + k ≤ 32
one_less m k h = omega (arith, h)

-- ")" behind an expression in a parenthesis
pub close : {A : Type 0} (all : List PlacedToken) (s : List Nesting) (next : ℕ → Production A) → ((i : ℕ) → From all (at false (ended s)) (at false (ended s)) A (next i)) → (u : Unread)
    → Left all (parenthesized ∷ s) u → Goes all A (Stands all (at false (ended s))) ((mark close_parenthesis >>= next) u)
close {A} all s next f u c =
    let closed : at false (ended (without_top (joined c.opened))) ≡ at false (ended s) = ap (λ z. at false (ended (without_top z))) c.left in
    go_on all (Stands all (at false (ended s))) (Stands all (at false (ended s))) (mark close_parenthesis u) next
    (subst (λ z. Goes all ℕ (Stands all z) (mark close_parenthesis u)) closed (read_sign all (at false c.opened) close_parenthesis refl u c.stands)) f

nested_goes : (all : List PlacedToken) (m : ℕ) → InnerGoes all m
nested_goes all zero o u n s l c = falls all (at true s) (After all o s) too_deep u c
nested_goes all (suc k) parenthesized u n s l c =
    go_on all (Stands all (at true (parenthesized ∷ s))) (Stands all (at false (ended s))) (any_token u) (λ _. expression_of (nested k) >>= (λ e. mark close_parenthesis >>= (λ _. give e)))
    (skip_sign all (at true s) open_parenthesis (room (length s) k l) u n c)
    (λ _ v d. go_on all (Left all (parenthesized ∷ s)) (Stands all (at false (ended s))) (expression_of (nested k) v) (λ e. mark close_parenthesis >>= (λ _. give e))
    (expression_goes all k (nested_goes all k) (parenthesized ∷ s) (one_less (length s) k l) refl refl v d)
    (λ e w f. close all s (λ _. give e) (λ _. given_so all (at false (ended s)) e) w f))
nested_goes all (suc k) negated u n s l c =
    go_on all (Stands all (at true (negated ∷ s))) (Left all (joined s)) (any_token u) (λ i. not_of (nested k) >>= (λ e. give (negation i e)))
    (skip_word all (at true s) not_word (room (length s) k l) u n c)
    (λ i v d. go_on all (Left all (joined s)) (Left all (joined s)) (not_of (nested k) v) (λ e. give (negation i e))
    (not_goes all k (nested_goes all k) (negated ∷ s) (one_less (length s) k l) refl v d) (λ e w f. came (negation i e) w f))
nested_goes all (suc k) signed u n s l c =
    go_on all (Stands all (at true (signed ∷ s))) (Stands all (at false (ended s))) (operator u) (λ i. unary (nested k) >>= (λ e. give (negative i e)))
    (operate all (at true s) (sign minus_sign) u n.first n.rest n.tokens (sign_is_this minus_sign n.first.token n.passes_it) (room (length s) k l) c)
    (λ i. from_to all (at true (signed ∷ s)) (at false (ended s)) (at false (ended s)) (unary (nested k)) (λ e. give (negative i e))
    (unary_goes all k (nested_goes all k) (signed ∷ s) (one_less (length s) k l)) (λ e. given_so all (at false (ended s)) (negative i e)))

-- an expression with at most so many nestings, where no sign and no NOT is open
pub nested_expression_goes : (all : List PlacedToken) (m : ℕ) (s : List Nesting) → length s + m ≤ 32 → ended s ≡ s → joined s ≡ s → (u : Unread) → Stands all (at true s) u
    → Goes all ExpressionSyntax (Left all s) (expression_of (nested m) u)
nested_expression_goes all m = expression_goes all m (nested_goes all m)
