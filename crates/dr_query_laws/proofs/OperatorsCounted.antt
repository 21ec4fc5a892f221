-- What is read of a text keeps the count of its operators, production by production.
use Rattle.std.specs.Prelude.{◌≡◌, ℕ, suc, List, [], ◌∷◌, ◌++◌, Bool, true, false, nat_le, nat_lt, if◌then◌else◌, Option, Some, None, option_and_then}
use Rattle.std.proofs.Common.{arith, refl, sym, ap, ◌∙◌, append_assoc, inl}
use Rattle.std.proofs.lemmas.Bool.Decides.{nat_tests}
use Rattle.dr_meaning.specs.Tokens.{Word, Sign, QueryToken, reserved, identifier, text, sign, PlacedToken}
use Rattle.dr_meaning.specs.Parse.{Unread, Parsed, got, refused, QueryFault, QueryProblem, Production, give, goes_on, ◌>>=◌, place_of, first_place, first_token, problem_here}
use Rattle.dr_meaning.specs.Parse.{syntax, too_many, too_deep, next_is, either, if_next, for_some, by_next, any_token, operator, counted, most_operators, behind_token, without_first}
use Rattle.dr_meaning.specs.Parse.{word, mark, name, quoted_text, is_the_word, is_the_sign, name_in, text_in, here}
use Rattle.dr_meaning.proofs.SyntaxReading.{NextToken, next_token, NextMeaning, next_meaning, word_is, sign_is_this}
use Rattle.dr_query_laws.specs.LimitLaws.{is_operator, operators_in, TooManyStandsAt}
use Rattle.dr_query_laws.specs.FaultLaws.{StandsFirst, FewOperatorsBefore}
use Rattle.dr_query_laws.proofs.Outcomes.{Outcome, reads, stops}

-- what is left behind some tokens of a text, whose operators were counted
pub record Counted (all : List PlacedToken) (u : Unread) : Type 0 where
  pub before : List PlacedToken
  pub tokens : all ≡ before ++ u.tokens
  pub count : operators_in before ≡ u.operators
  pub few : nat_le u.operators 512 ≡ true

-- what a fault tells: its token, where it is TooMany, and that few operators stand before it
abbrev pub Told : List PlacedToken → QueryFault → Type 0
Told all f = (f.problem ≡ too_many → TooManyStandsAt all f.place) × FewOperatorsBefore all f.place

pub stands_first : (n : ℕ) (ts : List PlacedToken) → StandsFirst (first_place n ts) ts
stands_first n [] = tt
stands_first n (t ∷ ts) = refl

pub few_before : (all : List PlacedToken) (u : Unread) → Counted all u → FewOperatorsBefore all (first_place u.size u.tokens)
few_before all u c = (c.before, (u.tokens, c.tokens, stands_first u.size u.tokens), ap (λ n. nat_le n 512) c.count ∙ c.few)

-- what was read leaves J; or the fault is where it is told to be
pub data Reads (A : Type 0) (J : Unread → Type 0) (all : List PlacedToken) : Parsed A → Type 0 where
  went : (a : A) (v : Unread) → J v → Reads A J all (got a v)
  stopped : (f : QueryFault) → Told all f → Reads A J all (refused f)

-- a production that keeps the count
abbrev pub Keeps : List PlacedToken → (A : Type 0) → Production A → Type 0
Keeps all A p = (u : Unread) → Counted all u → Reads A (Counted all) all (p u)

pub bind : {A B : Type 0} (J K : Unread → Type 0) (all : List PlacedToken) (p : Parsed A) (next : A → Production B) → Reads A J all p
    → ((a : A) (v : Unread) → J v → Reads B K all (next a v)) → Reads B K all (goes_on p next)
bind J K all _ next (went a v c) step = step a v c
bind J K all _ next (stopped f t) step = stopped f t

-- the same, where it is known too what was read
pub bind_both : {A B : Type 0} (S : List PlacedToken → A → Type 0) (J K : Unread → Type 0) (all : List PlacedToken) (u : Unread) (p : Parsed A) (next : A → Production B) → Outcome A S u p
    → Reads A J all p → ((a : A) (v : Unread) (ts : List PlacedToken) → u.tokens ≡ ts ++ v.tokens → S ts a → J v → Reads B K all (next a v)) → Reads B K all (goes_on p next)
bind_both S J K all u _ next (reads ts v a e z s) (went _ _ c) step = step a v ts e s c
bind_both S J K all u _ next (stops ts rest more a f e z s k) (stopped _ t) step = stopped f t

pub one_by_one : {A B : Type 0} (all : List PlacedToken) (p : Production A) (next : A → Production B) → Keeps all A p → ((a : A) → Keeps all B (next a)) → Keeps all B (p >>= next)
one_by_one all p next first step u c = bind (Counted all) (Counted all) all (p u) next (first u c) (λ a v d. step a v d)

pub gives_counted : {A : Type 0} (all : List PlacedToken) (a : A) → Keeps all A (give a)
gives_counted all a u c = went a u c

pub here_counted : (all : List PlacedToken) → Keeps all ℕ here
here_counted all u c = went (place_of u) u c

-- a fault of another kind tells nothing
pub no_limit : {A : Type 0} (all : List PlacedToken) (p : QueryProblem) → (p ≡ too_many → ⊥) → Keeps all A (problem_here p)
no_limit all p other u c = stopped (record { place = first_place u.size u.tokens; problem = p }) ((λ e. absurd (other e)), few_before all u c)

pub not_syntax : syntax ≡ too_many → ⊥
not_syntax e = absurd (cc e)

pub not_deep : too_deep ≡ too_many → ⊥
not_deep e = absurd (cc e)

pub if_counted : {A : Type 0} (all : List PlacedToken) (test : QueryToken → Bool) (p q : Production A)
    → ((u : Unread) → NextToken test u → Counted all u → Reads A (Counted all) all (p u)) → Keeps all A q → Keeps all A (if_next test p q)
if_counted {A} all test p q then_p then_q u c = by_test (next_is test u) refl
  where
    by_test : (b : Bool) → next_is test u ≡ b → Reads A (Counted all) all (either b p q u)
    by_test true e = then_p u (next_token test u e) c
    by_test false e = then_q u c

pub by_counted : {A B : Type 0} (all : List PlacedToken) (f : QueryToken → Option A) (p : A → Production B) (q : Production B)
    → ((a : A) (u : Unread) → NextMeaning A f a u → Counted all u → Reads B (Counted all) all (p a u)) → Keeps all B q → Keeps all B (by_next f p q)
by_counted {A} {B} all f p q then_p then_q u c = by_some (option_and_then f (first_token u.tokens)) refl
  where
    by_some : (o : Option A) → option_and_then f (first_token u.tokens) ≡ o → Reads B (Counted all) all (for_some o p q u)
    by_some None e = then_q u c
    by_some (Some a) e = then_p a u (next_meaning f a u e) c

-- ---- one token

-- how many there are with one more token
abbrev pub with_one : Bool → ℕ → ℕ
with_one b n = if b then suc n else n

with_one_suc : (a b : Bool) (n : ℕ) → with_one a (with_one b n) ≡ with_one b (with_one a n)
with_one_suc true true n = refl
with_one_suc true false n = refl
with_one_suc false true n = refl
with_one_suc false false n = refl

pub one_more : (ts : List PlacedToken) (t : PlacedToken) → operators_in (ts ++ t ∷ []) ≡ with_one (is_operator t.token) (operators_in ts)
one_more [] t = refl
one_more (s ∷ ts) t = ap (with_one (is_operator s.token)) (one_more ts t) ∙ with_one_suc (is_operator s.token) (is_operator t.token) (operators_in ts)

pub moved : (all before left : List PlacedToken) (first : PlacedToken) (rest : List PlacedToken) → all ≡ before ++ left → left ≡ first ∷ rest
    → all ≡ (before ++ first ∷ []) ++ without_first left
moved all before left first rest e f = e ∙ (ap (λ xs. before ++ xs) (f ∙ ap (λ xs. first ∷ xs) (sym (ap without_first f))) ∙ sym (append_assoc before (first ∷ []) (without_first left)))

-- a token that is no operator, behind which the count stays
abbrev pub behind_counted : (all : List PlacedToken) (u : Unread) (first : PlacedToken) (rest : List PlacedToken) → u.tokens ≡ first ∷ rest → is_operator first.token ≡ false → Counted all u
    → Counted all (behind_token u)
behind_counted all u first rest e o c = record {
  before = c.before ++ first ∷ [];
  tokens = moved all c.before u.tokens first rest c.tokens e;
  count = one_more c.before first ∙ (ap (λ b. with_one b (operators_in c.before)) o ∙ c.count);
  few = c.few;
}

pub skip : (all : List PlacedToken) (test : QueryToken → Bool) → ((t : QueryToken) → test t ≡ true → is_operator t ≡ false) → (u : Unread) → NextToken test u → Counted all u
    → Reads ℕ (Counted all) all (any_token u)
skip all test plain u n c = went (place_of u) (behind_token u) (behind_counted all u n.first n.rest n.tokens (plain n.first.token n.passes_it) c)

pub plain_word : (w : Word) → is_operator (reserved w) ≡ false → (t : QueryToken) → is_the_word w t ≡ true → is_operator t ≡ false
plain_word w o t h = ap is_operator (word_is w t h) ∙ o

pub plain_sign : (s : Sign) → is_operator (sign s) ≡ false → (t : QueryToken) → is_the_sign s t ≡ true → is_operator t ≡ false
plain_sign s o t h = ap is_operator (sign_is_this s t h) ∙ o

pub skip_word : (all : List PlacedToken) (w : Word) → is_operator (reserved w) ≡ false → (u : Unread) → NextToken (is_the_word w) u → Counted all u → Reads ℕ (Counted all) all (any_token u)
skip_word all w o u n c = skip all (is_the_word w) (plain_word w o) u n c

pub skip_sign : (all : List PlacedToken) (s : Sign) → is_operator (sign s) ≡ false → (u : Unread) → NextToken (is_the_sign s) u → Counted all u → Reads ℕ (Counted all) all (any_token u)
skip_sign all s o u n c = skip all (is_the_sign s) (plain_sign s o) u n c

pub word_counted : (all : List PlacedToken) (w : Word) → is_operator (reserved w) ≡ false → Keeps all ℕ (word w)
word_counted all w o = if_counted all (is_the_word w) any_token (problem_here syntax) (skip_word all w o) (no_limit all syntax not_syntax)

pub mark_counted : (all : List PlacedToken) (s : Sign) → is_operator (sign s) ≡ false → Keeps all ℕ (mark s)
mark_counted all s o = if_counted all (is_the_sign s) any_token (problem_here syntax) (skip_sign all s o) (no_limit all syntax not_syntax)

name_plain : (n : List ℕ) (t : QueryToken) → name_in t ≡ Some n → is_operator t ≡ false
name_plain n (identifier m) h = refl
name_plain n t h = absurd (cc h)

text_plain : (n : List ℕ) (t : QueryToken) → text_in t ≡ Some n → is_operator t ≡ false
text_plain n (text m) h = refl
text_plain n t h = absurd (cc h)

pub name_counted : (all : List PlacedToken) → Keeps all (List ℕ) name
name_counted all = by_counted all name_in (λ n v. got n (behind_token v)) (problem_here syntax)
    (λ n u m c. went n (behind_token u) (behind_counted all u m.first m.rest m.tokens (name_plain n m.first.token m.means) c)) (no_limit all syntax not_syntax)

pub text_counted : (all : List PlacedToken) → Keeps all (List ℕ) quoted_text
text_counted all = by_counted all text_in (λ n v. got n (behind_token v)) (problem_here syntax)
    (λ n u m c. went n (behind_token u) (behind_counted all u m.first m.rest m.tokens (text_plain n m.first.token m.means) c)) (no_limit all syntax not_syntax)

-- ---- an operator

at_most : (k n : ℕ) → nat_le k n ≡ true → nat_lt k n ≡ false → k ≡ n
at_most k n h g = grind (arith, nat_tests)

pub operator_counted : (all : List PlacedToken) (u : Unread) (first : PlacedToken) (rest : List PlacedToken) → u.tokens ≡ first ∷ rest → is_operator first.token ≡ true → Counted all u
    → Reads ℕ (Counted all) all (operator u)
operator_counted all u first rest e o c = by_room (nat_lt u.operators most_operators) refl
  where
    by_room : (b : Bool) → nat_lt u.operators most_operators ≡ b → Reads ℕ (Counted all) all (either b counted (problem_here too_many) u)
    by_room true h = went (place_of u) (record { tokens = without_first u.tokens; size = u.size; operators = suc u.operators }) (record {
      before = c.before ++ first ∷ [];
      tokens = moved all c.before u.tokens first rest c.tokens e;
      count = one_more c.before first ∙ (ap (λ b. with_one b (operators_in c.before)) o ∙ ap suc c.count);
      few = h;
    })
    by_room false h = stopped (record { place = first_place u.size u.tokens; problem = too_many })
        ((λ _. (c.before, first, rest, c.tokens ∙ ap (λ xs. c.before ++ xs) e, sym (ap (first_place u.size) e), inl (o, c.count ∙ at_most u.operators 512 c.few h))), few_before all u c)
