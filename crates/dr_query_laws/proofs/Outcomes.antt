-- What comes of reading a production, told at once of what is read and of a fault: the tokens that were read spell something, or begin to.
use Rattle.std.specs.Prelude.{◌≡◌, ℕ, suc, List, [], ◌∷◌, ◌++◌, Bool, true, false, nat_lt, Option, Some, None, option_and_then}
use Rattle.std.proofs.Common.{refl, sym, ap, subst, ◌∙◌, append_assoc}
use Rattle.dr_meaning.specs.Tokens.{Word, Sign, QueryToken, reserved, identifier, text, sign, PlacedToken, placed}
use Rattle.dr_meaning.specs.Parse.{Unread, Parsed, got, refused, QueryFault, QueryProblem, Production, give, goes_on, place_of, first_place, first_token, problem_here}
use Rattle.dr_meaning.specs.Parse.{too_long, syntax, too_deep, too_many, next_is, either, if_next, for_some, by_next, any_token, operator, counted, most_operators, behind_token}
use Rattle.dr_meaning.specs.Parse.{word, mark, name, quoted_text, is_the_word, is_the_sign, name_in, text_in}
use Rattle.dr_meaning.specs.QueryGrammar.{word_at, sign_at, name_at, text_at, BeginsAt}
use Rattle.dr_meaning.proofs.SyntaxReading.{NextToken, next_token, NextMeaning, next_meaning, word_is, sign_is_this}

-- something is spelled so
pub record Filled (A : Type 0) (S : List PlacedToken → A → Type 0) : Type 0 where
  pub tokens : List PlacedToken
  pub value : A
  pub spelled : S tokens value

-- something is spelled so that this token begins it
abbrev pub BegunWith : (A : Type 0) → (List PlacedToken → A → Type 0) → PlacedToken → Type 0
BegunWith A S t = (x : Filled A S) × (vs : List PlacedToken) × (x.tokens ≡ t ∷ vs)

-- some tokens, and others that could stand there, begin with the same one
abbrev pub OneFirst : List PlacedToken → List PlacedToken → Type 0
OneFirst rest more = (t : PlacedToken) × (us : List PlacedToken) × (vs : List PlacedToken) × (rest ≡ t ∷ us) × (more ≡ t ∷ vs)

-- so it is at a fault of a limit
abbrev pub Shared : QueryProblem → List PlacedToken → List PlacedToken → Type 0
Shared too_long rest more = OneFirst rest more
Shared syntax rest more = Unit {0}
Shared too_deep rest more = OneFirst rest more
Shared too_many rest more = OneFirst rest more

-- what was read spells a value; or the tokens before the fault begin to spell one, and so do they with the token that passes a limit
pub data Outcome (A : Type 0) (S : List PlacedToken → A → Type 0) (u : Unread) : Parsed A → Type 0 where
  reads : (ts : List PlacedToken) (v : Unread) (a : A) → u.tokens ≡ ts ++ v.tokens → v.size ≡ u.size → S ts a → Outcome A S u (got a v)
  stops : (ts rest more : List PlacedToken) (a : A) (f : QueryFault) → u.tokens ≡ ts ++ rest → first_place u.size rest ≡ f.place → S (ts ++ more) a
      → Shared f.problem rest more → Outcome A S u (refused f)

-- the same, where another relation follows
pub weaker : {A : Type 0} (R S : List PlacedToken → A → Type 0) (u : Unread) (p : Parsed A) → ((ts : List PlacedToken) (a : A) → R ts a → S ts a)
    → Outcome A R u p → Outcome A S u p
weaker R S u _ f (reads ts v a e z s) = reads ts v a e z (f ts a s)
weaker R S u _ f (stops ts rest more a g e z s k) = stops ts rest more a g e z (f (ts ++ more) a s) k

-- ---- one behind another

-- tokens that spell a value, and behind them tokens that spell another, which may depend on it
pub record Seq (A B : Type 0) (S : List PlacedToken → A → Type 0) (T : A → List PlacedToken → B → Type 0) (ts : List PlacedToken) (b : B) : Type 0 where
  pub front : List PlacedToken
  pub rest : List PlacedToken
  pub middle : A
  pub tokens : ts ≡ front ++ rest
  pub first : S front middle
  pub second : T middle rest b

pub behind : (us vs ws ts rest : List PlacedToken) → us ≡ ts ++ vs → vs ≡ ws ++ rest → us ≡ (ts ++ ws) ++ rest
behind us vs ws ts rest e f = e ∙ (ap (λ xs. ts ++ xs) f ∙ sym (append_assoc ts ws rest))

pub next_outcome : {A B : Type 0} (S : List PlacedToken → A → Type 0) (T : A → List PlacedToken → B → Type 0) (u v : Unread) (ts : List PlacedToken) (a : A) (q : Parsed B)
    → u.tokens ≡ ts ++ v.tokens → v.size ≡ u.size → S ts a → Outcome B (T a) v q → Outcome B (Seq A B S T) u q
next_outcome S T u v ts a _ e z s (reads ws w b g y t) =
    reads (ts ++ ws) w b (behind u.tokens v.tokens ws ts w.tokens e g) (y ∙ z) (record { front = ts; rest = ws; middle = a; tokens = refl; first = s; second = t })
next_outcome S T u v ts a _ e z s (stops ws rest more b f g y t k) =
    stops (ts ++ ws) rest more b f (behind u.tokens v.tokens ws ts rest e g) (ap (λ n. first_place n rest) (sym z) ∙ y)
    (record { front = ts; rest = ws ++ more; middle = a; tokens = append_assoc ts ws more; first = s; second = t }) k

one_first_more : (rest more ws : List PlacedToken) → OneFirst rest more → OneFirst rest (more ++ ws)
one_first_more rest more ws k = (k.0, k.1, k.2 ++ ws, k.3, ap (λ xs. xs ++ ws) k.4)

pub shared_more : (p : QueryProblem) (rest more ws : List PlacedToken) → Shared p rest more → Shared p rest (more ++ ws)
shared_more too_long rest more ws k = one_first_more rest more ws k
shared_more syntax rest more ws k = tt
shared_more too_deep rest more ws k = one_first_more rest more ws k
shared_more too_many rest more ws k = one_first_more rest more ws k

pub seq : {A B : Type 0} (S : List PlacedToken → A → Type 0) (T : A → List PlacedToken → B → Type 0) (u : Unread) (p : Parsed A) (next : A → Production B)
    → ((a : A) → Filled B (T a)) → ((a : A) (v : Unread) → Outcome B (T a) v (next a v)) → Outcome A S u p → Outcome B (Seq A B S T) u (goes_on p next)
seq S T u _ next fill step (reads ts v a e z s) = next_outcome S T u v ts a (next a v) e z s (step a v)
seq S T u _ next fill step (stops ts rest more a f e z s k) =
    let x = fill a in
    stops ts rest (more ++ x.tokens) x.value f e z
    (record { front = ts ++ more; rest = x.tokens; middle = a; tokens = sym (append_assoc ts more x.tokens); first = s; second = x.spelled }) (shared_more f.problem rest more x.tokens k)

-- ---- nothing read

-- no tokens, for a value
pub record Nothing (A : Type 0) (a : A) (ts : List PlacedToken) (b : A) : Type 0 where
  pub none : ts ≡ []
  pub same : a ≡ b

pub gives : {A : Type 0} (a : A) (u : Unread) → Outcome A (Nothing A a) u (give a u)
gives a u = reads [] u a refl refl (record { none = refl; same = refl })

pub fills_nothing : {A : Type 0} (a : A) → Filled A (Nothing A a)
fills_nothing a = record { tokens = []; value = a; spelled = record { none = refl; same = refl } }

pub stops_here : {A : Type 0} (S : List PlacedToken → A → Type 0) (p : QueryProblem) (u : Unread) (x : Filled A S) → Shared p u.tokens x.tokens
    → Outcome A S u (problem_here p u)
stops_here S p u x k = stops [] u.tokens x.tokens x.value (record { place = first_place u.size u.tokens; problem = p }) refl refl x.spelled k

-- ---- choices

pub if_outcome : {A : Type 0} (S : List PlacedToken → A → Type 0) (test : QueryToken → Bool) (p q : Production A) (u : Unread)
    → (NextToken test u → Outcome A S u (p u)) → Outcome A S u (q u) → Outcome A S u (if_next test p q u)
if_outcome {A} S test p q u then_p then_q = by_test (next_is test u) refl
  where
    by_test : (b : Bool) → next_is test u ≡ b → Outcome A S u (either b p q u)
    by_test true e = then_p (next_token test u e)
    by_test false e = then_q

pub by_outcome : {A B : Type 0} (S : List PlacedToken → B → Type 0) (f : QueryToken → Option A) (p : A → Production B) (q : Production B) (u : Unread)
    → ((a : A) → NextMeaning A f a u → Outcome B S u (p a u)) → Outcome B S u (q u) → Outcome B S u (by_next f p q u)
by_outcome {A} {B} S f p q u then_p then_q = by_some (option_and_then f (first_token u.tokens)) refl
  where
    by_some : (o : Option A) → option_and_then f (first_token u.tokens) ≡ o → Outcome B S u (for_some o p q u)
    by_some None e = then_q
    by_some (Some a) e = then_p a (next_meaning f a u e)

-- ---- one token

-- this token, for its place
abbrev pub One : QueryToken → List PlacedToken → ℕ → Type 0
One t ts i = ts ≡ placed i t ∷ []

abbrev pub at_front : List PlacedToken → ℕ → ℕ → Unread
at_front ts n k = record { tokens = ts; size = n; operators = k }

any_of_first : (n k : ℕ) (first : PlacedToken) (rest : List PlacedToken) → Outcome ℕ (One first.token) (at_front (first ∷ rest) n k) (any_token (at_front (first ∷ rest) n k))
any_of_first n k first rest = reads (first ∷ []) (at_front rest n k) first.place refl refl refl

pub any_of : (u : Unread) (first : PlacedToken) (rest : List PlacedToken) → u.tokens ≡ first ∷ rest → Outcome ℕ (One first.token) u (any_token u)
any_of u first rest e = subst (λ ts. Outcome ℕ (One first.token) (at_front ts u.size u.operators) (any_token (at_front ts u.size u.operators))) (sym e)
    (any_of_first u.size u.operators first rest)

operator_of_first : (n k : ℕ) (first : PlacedToken) (rest : List PlacedToken) (b : Bool)
    → Outcome ℕ (One first.token) (at_front (first ∷ rest) n k) (either b counted (problem_here too_many) (at_front (first ∷ rest) n k))
operator_of_first n k first rest true = reads (first ∷ []) (at_front rest n (suc k)) first.place refl refl refl
operator_of_first n k first rest false =
    stops_here (One first.token) too_many (at_front (first ∷ rest) n k) (record { tokens = first ∷ []; value = first.place; spelled = refl }) (first, rest, [], refl, refl)

pub operator_of : (u : Unread) (first : PlacedToken) (rest : List PlacedToken) → u.tokens ≡ first ∷ rest → Outcome ℕ (One first.token) u (operator u)
operator_of u first rest e = subst (λ ts. Outcome ℕ (One first.token) (at_front ts u.size u.operators) (operator (at_front ts u.size u.operators))) (sym e)
    (operator_of_first u.size u.operators first rest (nat_lt u.operators most_operators))

-- the same token by another name
renamed : (s t : QueryToken) (ts : List PlacedToken) (i : ℕ) → s ≡ t → One s ts i → One t ts i
renamed s t ts i e h = h ∙ ap (λ x. placed i x ∷ []) e

-- a word or a sign that is known to come next
pub known_word : (w : Word) (u : Unread) → NextToken (is_the_word w) u → Outcome ℕ (One (reserved w)) u (any_token u)
known_word w u n = weaker (One n.first.token) (One (reserved w)) u (any_token u) (λ ts i. renamed n.first.token (reserved w) ts i (word_is w n.first.token n.passes_it))
    (any_of u n.first n.rest n.tokens)

pub known_sign : (s : Sign) (u : Unread) → NextToken (is_the_sign s) u → Outcome ℕ (One (sign s)) u (any_token u)
known_sign s u n = weaker (One n.first.token) (One (sign s)) u (any_token u) (λ ts i. renamed n.first.token (sign s) ts i (sign_is_this s n.first.token n.passes_it))
    (any_of u n.first n.rest n.tokens)

pub known_operator : (s : Sign) (u : Unread) → NextToken (is_the_sign s) u → Outcome ℕ (One (sign s)) u (operator u)
known_operator s u n = weaker (One n.first.token) (One (sign s)) u (operator u) (λ ts i. renamed n.first.token (sign s) ts i (sign_is_this s n.first.token n.passes_it))
    (operator_of u n.first n.rest n.tokens)

pub word_outcome : (w : Word) (u : Unread) → Outcome ℕ (One (reserved w)) u (word w u)
word_outcome w u = if_outcome (One (reserved w)) (is_the_word w) any_token (problem_here syntax) u (known_word w u)
    (stops_here (One (reserved w)) syntax u (record { tokens = word_at 0 w ∷ []; value = 0; spelled = refl }) tt)

pub mark_outcome : (s : Sign) (u : Unread) → Outcome ℕ (One (sign s)) u (mark s u)
mark_outcome s u = if_outcome (One (sign s)) (is_the_sign s) any_token (problem_here syntax) u (known_sign s u)
    (stops_here (One (sign s)) syntax u (record { tokens = sign_at 0 s ∷ []; value = 0; spelled = refl }) tt)

-- a name, a text
pub record IsName (ts : List PlacedToken) (n : List ℕ) : Type 0 where
  pub place : ℕ
  pub tokens : ts ≡ name_at place n ∷ []

pub record IsText (ts : List PlacedToken) (t : List ℕ) : Type 0 where
  pub place : ℕ
  pub tokens : ts ≡ text_at place t ∷ []

pub name_token_is : (n : List ℕ) (t : QueryToken) → name_in t ≡ Some n → t ≡ identifier n
name_token_is n (identifier m) h = let e : m ≡ n = cc in ap identifier e
name_token_is n t h = absurd (cc h)

pub text_token_is : (x : List ℕ) (t : QueryToken) → text_in t ≡ Some x → t ≡ text x
text_token_is x (text y) h = let e : y ≡ x = cc in ap text e
text_token_is x t h = absurd (cc h)

got_first : {A : Type 0} (S : List PlacedToken → A → Type 0) (a : A) (n k : ℕ) (first : PlacedToken) (rest : List PlacedToken) → S (first ∷ []) a
    → Outcome A S (at_front (first ∷ rest) n k) (got a (behind_token (at_front (first ∷ rest) n k)))
got_first S a n k first rest s = reads (first ∷ []) (at_front rest n k) a refl refl s

got_of : {A : Type 0} (S : List PlacedToken → A → Type 0) (a : A) (u : Unread) (first : PlacedToken) (rest : List PlacedToken) → u.tokens ≡ first ∷ rest → S (first ∷ []) a
    → Outcome A S u (got a (behind_token u))
got_of {A} S a u first rest e s =
    subst (λ ts. Outcome A S (at_front ts u.size u.operators) (got a (behind_token (at_front ts u.size u.operators)))) (sym e) (got_first S a u.size u.operators first rest s)

pub name_outcome : (u : Unread) → Outcome (List ℕ) IsName u (name u)
name_outcome u = by_outcome IsName name_in (λ n v. got n (behind_token v)) (problem_here syntax) u
    (λ n m. got_of IsName n u m.first m.rest m.tokens (record { place = m.first.place; tokens = ap (λ t. placed m.first.place t ∷ []) (name_token_is n m.first.token m.means) }))
    (stops_here IsName syntax u (record { tokens = name_at 0 (97 ∷ []) ∷ []; value = 97 ∷ []; spelled = record { place = 0; tokens = refl } }) tt)

pub text_outcome : (u : Unread) → Outcome (List ℕ) IsText u (quoted_text u)
text_outcome u = by_outcome IsText text_in (λ t v. got t (behind_token v)) (problem_here syntax) u
    (λ t m. got_of IsText t u m.first m.rest m.tokens (record { place = m.first.place; tokens = ap (λ x. placed m.first.place x ∷ []) (text_token_is t m.first.token m.means) }))
    (stops_here IsText syntax u (record { tokens = text_at 0 [] ∷ []; value = []; spelled = record { place = 0; tokens = refl } }) tt)

-- ---- a token and what stands behind it

pub record Behind (B : Type 0) (t : QueryToken) (T : ℕ → List PlacedToken → B → Type 0) (ts : List PlacedToken) (b : B) : Type 0 where
  pub place : ℕ
  pub rest : List PlacedToken
  pub tokens : ts ≡ placed place t ∷ rest
  pub second : T place rest b

behind_one : {B : Type 0} (t : QueryToken) (T : ℕ → List PlacedToken → B → Type 0) (ts : List PlacedToken) (b : B) → Seq ℕ B (One t) T ts b → Behind B t T ts b
behind_one t T ts b x = record { place = x.middle; rest = x.rest; tokens = x.tokens ∙ ap (λ xs. xs ++ x.rest) x.first; second = x.second }

pub one_seq : {B : Type 0} (t : QueryToken) (T : ℕ → List PlacedToken → B → Type 0) (u : Unread) (p : Parsed ℕ) (next : ℕ → Production B)
    → ((i : ℕ) → Filled B (T i)) → ((i : ℕ) (v : Unread) → Outcome B (T i) v (next i v)) → Outcome ℕ (One t) u p → Outcome B (Behind B t T) u (goes_on p next)
one_seq {B} t T u p next fill step o = weaker (Seq ℕ B (One t) T) (Behind B t T) u (goes_on p next) (behind_one t T) (seq (One t) T u p next fill step o)

pub fills_one : {B : Type 0} (t : QueryToken) (T : ℕ → List PlacedToken → B → Type 0) → Filled B (T 0) → Filled B (Behind B t T)
fills_one t T x = record { tokens = placed 0 t ∷ x.tokens; value = x.value; spelled = record { place = 0; rest = x.tokens; tokens = refl; second = x.spelled } }

abbrev pub fills_seq : {A B : Type 0} (S : List PlacedToken → A → Type 0) (T : A → List PlacedToken → B → Type 0) → Filled A S → ((a : A) → Filled B (T a)) → Filled B (Seq A B S T)
fills_seq S T x fill =
    let y = fill x.value in
    record {
      tokens = x.tokens ++ y.tokens;
      value = y.value;
      spelled = record { front = x.tokens; rest = y.tokens; middle = x.value; tokens = refl; first = x.spelled; second = y.spelled };
    }

-- ---- the place at which something begins

-- there is a first token
pub record Begun (ts : List PlacedToken) : Type 0 where
  pub first : PlacedToken
  pub others : List PlacedToken
  pub tokens : ts ≡ first ∷ others

-- a value that keeps the place of its first token: P where it keeps any place, R where it keeps that one
pub begun : {A : Type 0} (P : ℕ → List PlacedToken → A → Type 0) (R : List PlacedToken → A → Type 0) → ((i : ℕ) (ts : List PlacedToken) (a : A) → P i ts a → Begun ts)
    → ((i j : ℕ) (ts : List PlacedToken) (a : A) → P i ts a → (b : A) × P j ts b) → ((i : ℕ) (ts : List PlacedToken) (a : A) → BeginsAt i ts → P i ts a → R ts a)
    → (u : Unread) (p : Parsed A) → Outcome A (P (place_of u)) u p → Outcome A R u p
begun P R some replaced makes u _ (reads ts v a e z s) =
    let b = some (place_of u) ts a s in
    let place : b.first.place ≡ place_of u = sym (ap (first_place u.size) (e ∙ ap (λ xs. xs ++ v.tokens) b.tokens)) in
    reads ts v a e z (makes (place_of u) ts a (b.first, b.others, b.tokens, place) s)
begun P R some replaced makes u _ (stops ts rest more a f e z s k) =
    let b = some (place_of u) (ts ++ more) a s in
    let r = replaced (place_of u) b.first.place (ts ++ more) a s in
    stops ts rest more r.0 f e z (makes b.first.place (ts ++ more) r.0 (b.first, b.others, b.tokens, refl) r.1) k
