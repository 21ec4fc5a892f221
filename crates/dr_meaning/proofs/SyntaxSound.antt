-- What parse_query accepts is spelled by the grammar, production by production.
use Rattle.std.specs.Prelude.{◌≡◌, ℕ, zero, suc, List, [], ◌∷◌, ◌++◌, length, Bool, true, false, Option, Some, None, ◌⊎◌}
use Rattle.std.proofs.Common.{refl, sym, ap, subst, ◌∙◌, inl, inr, append_assoc, append-nil}
use Rattle.dr_meaning.specs.Tokens.{or_word, and_word, not_word, dot, star, plus_sign, minus_sign, close_parenthesis, open_parenthesis, QueryToken, reserved}
use Rattle.dr_meaning.specs.Tokens.{identifier, number, text, sign, bad, true_word, false_word, Sign, PlacedToken, placed}
use Rattle.dr_meaning.specs.Tokens.{equals, differs, less_than, less_or_equal, greater_than, greater_or_equal, like_word, contains_word, is_word, null_word}
use Rattle.dr_meaning.specs.Expression.{plus, minus, times, Comparison, equal, unequal, less, at_most, greater, at_least}
use Rattle.dr_meaning.specs.Syntax.{ExpressionSyntax, number_literal, text_literal, truth_literal, path, negative, arithmetic}
use Rattle.dr_meaning.specs.Syntax.{comparison, like, contains, is_null, negation, conjunction, disjunction}
use Rattle.dr_meaning.specs.Parse.{Unread, got, Production, give, ◌>>=◌, first_token, first_place, passes, place_of, problem_here, syntax, if_next}
use Rattle.dr_meaning.specs.Parse.{any_token, operator, word, mark, name, quoted_text, is_the_word, is_the_sign, comparison_in, Joining, or_in, and_in, sum_in, product_in}
use Rattle.dr_meaning.specs.Parse.{further_names, names, path_names, Nesting, parenthesized, negated, signed, Inner, literal, path_operand, primary_at, primary, unary}
use Rattle.dr_meaning.specs.Parse.{further_operands, operands, product_of, sum_of, plain, like_test, contains_test, text_test, denied_test, denied_null, plain_null, null_test}
use Rattle.dr_meaning.specs.Parse.{comparison_test, word_test, tested, test_of, not_of, and_of, expression_of, nested}
use Rattle.dr_meaning.specs.QueryGrammar.{word_at, sign_at, name_at, text_at, SpellsNames, first_name, further_name, SpellsPath, IsComparison, is_equal, is_unequal}
use Rattle.dr_meaning.specs.QueryGrammar.{is_less, is_at_most, is_greater, is_at_least, SpellsExpression, one_and, or_and, SpellsAnd, one_not, and_not, SpellsNot, not_not, one_test}
use Rattle.dr_meaning.specs.QueryGrammar.{SpellsTest, one_sum, compared_sums, like_text, not_like_text, contains_text, not_contains_text, is_null_word, is_not_null, SpellsSum}
use Rattle.dr_meaning.specs.QueryGrammar.{one_product, plus_product, minus_product, SpellsProduct, one_unary, times_unary, SpellsUnary, minus_unary, one_primary, SpellsPrimary}
use Rattle.dr_meaning.specs.QueryGrammar.{a_number, a_text, a_true, a_false, a_path, in_parentheses}
use Rattle.dr_meaning.proofs.SyntaxReading.{Front, Sound, bind_parts, given, NextToken, if_parts, by_parts, NextMeaning, any_read, token_read, operator_read, next_token, first_read, operator_means, any_means}
use Rattle.dr_meaning.proofs.SyntaxReading.{word_next, sign_next, name_next, text_next}

-- ---- fronts one behind another

-- a relation between tokens and what they spell
abbrev Relation : Type 0 → Type 1
Relation A = List PlacedToken → A → Type 0

pub behind : (us vs ws ts rest : List PlacedToken) → us ≡ ts ++ vs → vs ≡ ws ++ rest → us ≡ (ts ++ ws) ++ rest
behind us vs ws ts rest e f = e ∙ (ap (λ xs. ts ++ xs) f ∙ sym (append_assoc ts ws rest))

-- ---- paths

-- names read behind others: all of them are spelled by the tokens of both
abbrev NamesOn : ℕ → Type 0
NamesOn k = (us : List PlacedToken) (ns ms : List (List ℕ)) (u v : Unread) → SpellsNames us ns → further_names k ns u ≡ got ms v
    → (ts : List PlacedToken) × (u.tokens ≡ ts ++ v.tokens) × SpellsNames (us ++ ts) ms

no_names : (us : List PlacedToken) (ns ms : List (List ℕ)) (u v : Unread) → SpellsNames us ns → give ns u ≡ got ms v
    → (ts : List PlacedToken) × (u.tokens ≡ ts ++ v.tokens) × SpellsNames (us ++ ts) ms
no_names us ns ms u v s h =
    let p = given ns ms u v h in
    ([], ap (λ (w : Unread). w.tokens) p.1, subst (SpellsNames (us ++ [])) p.0 (subst (λ xs. SpellsNames xs ns) (sym (append-nil us)) s))

names_round : (k : ℕ) → NamesOn k → NamesOn (suc k)
names_round k again us ns ms u v s h = by_part (if_parts (is_the_sign dot) (any_token >>= (λ _. name >>= (λ n. further_names k (ns ++ n ∷ [])))) (give ns) u v ms h)
  where
    by_part : (NextToken (is_the_sign dot) u × ((any_token >>= (λ _. name >>= (λ n. further_names k (ns ++ n ∷ [])))) u ≡ got ms v)) ⊎ (give ns u ≡ got ms v)
        → (ts : List PlacedToken) × (u.tokens ≡ ts ++ v.tokens) × SpellsNames (us ++ ts) ms
    by_part (inl p) =
        let d = bind_parts (any_token u) (λ _. name >>= (λ n. further_names k (ns ++ n ∷ []))) ms v p.1 in
        let m = bind_parts (name d.1) (λ n. further_names k (ns ++ n ∷ [])) ms v d.3 in
        let dot_read = sign_next dot d.0 u d.1 (any_read (is_the_sign dot) d.0 u d.1 p.0 d.2) in
        let name_read = name_next m.0 d.1 m.1 m.2 in
        let two = sign_at d.0 dot ∷ name_at name_read.0 m.0 ∷ [] in
        let rest = again (us ++ two) (ns ++ m.0 ∷ []) ms m.1 v (further_name d.0 name_read.0 us ns m.0 s) m.3 in
        let tokens : u.tokens ≡ two ++ m.1.tokens = dot_read ∙ ap (λ (xs : List PlacedToken). sign_at d.0 dot ∷ xs) name_read.1 in
        (two ++ rest.0, behind u.tokens m.1.tokens rest.0 two v.tokens tokens rest.1, subst (λ xs. SpellsNames xs ms) (append_assoc us two rest.0) rest.2)
    by_part (inr g) = no_names us ns ms u v s g

names_on : (k : ℕ) → NamesOn k
names_on zero us ns ms u v s h = no_names us ns ms u v s h
names_on (suc k) us ns ms u v s h = names_round k (names_on k) us ns ms u v s h

pub path_sound : Sound SpellsPath path_names
path_sound u v p h =
    let d = bind_parts (names u) (λ ns. give (record { place = place_of u; names = ns })) p v h in
    let e = bind_parts (name u) (λ n w. further_names (length w.tokens) (n ∷ []) w) d.0 d.1 d.2 in
    let first = name_next e.0 u e.1 e.2 in
    let rest = names_on (length e.1.tokens) (name_at first.0 e.0 ∷ []) (e.0 ∷ []) d.0 e.1 d.1 (first_name first.0 e.0) e.3 in
    let g = given (record { place = place_of u; names = d.0 }) p d.1 v d.3 in
    let ts = name_at first.0 e.0 ∷ rest.0 in
    let place : first.0 ≡ place_of u = sym (ap (first_place u.size) first.1) in
    let tokens : u.tokens ≡ ts ++ d.1.tokens = first.1 ∙ ap (λ (xs : List PlacedToken). name_at first.0 e.0 ∷ xs) rest.1 in
    (ts, tokens ∙ ap (λ (w : Unread). ts ++ w.tokens) g.1, subst (SpellsPath ts) g.0 ((name_at first.0 e.0, rest.0, refl, place), rest.2))

-- ---- operands joined by operators

-- an operand behind an operator joins what is before them
abbrev JoinsAs : (List PlacedToken → ExpressionSyntax → Type 0) → (List PlacedToken → ExpressionSyntax → Type 0) → (QueryToken → Option Joining) → Type 0
JoinsAs R S joining = (i : ℕ) (t : QueryToken) (join : Joining) (ts us : List PlacedToken) (a b : ExpressionSyntax) → joining t ≡ Some join → R ts a → S us b → R (ts ++ placed i t ∷ us) (join i a b)

-- operands read behind others, where R is what all of them spell
abbrev OperandsOn : (List PlacedToken → ExpressionSyntax → Type 0) → (QueryToken → Option Joining) → Production ExpressionSyntax → ℕ → Type 0
OperandsOn R joining operand k = (us : List PlacedToken) (a b : ExpressionSyntax) (u v : Unread) → R us a → further_operands joining operand k a u ≡ got b v
    → (ts : List PlacedToken) × (u.tokens ≡ ts ++ v.tokens) × R (us ++ ts) b

no_operands : (R : List PlacedToken → ExpressionSyntax → Type 0) (us : List PlacedToken) (a b : ExpressionSyntax) (u v : Unread) → R us a → give a u ≡ got b v
    → (ts : List PlacedToken) × (u.tokens ≡ ts ++ v.tokens) × R (us ++ ts) b
no_operands R us a b u v r h =
    let p = given a b u v h in
    ([], ap (λ (w : Unread). w.tokens) p.1, subst (R (us ++ [])) p.0 (subst (λ xs. R xs a) (sym (append-nil us)) r))

operands_round : (R S : List PlacedToken → ExpressionSyntax → Type 0) (joining : QueryToken → Option Joining) (operand : Production ExpressionSyntax) → Sound S operand → JoinsAs R S joining
    → (k : ℕ) → OperandsOn R joining operand k → OperandsOn R joining operand (suc k)
operands_round R S joining operand sound step k again us a b u v r h =
    by_part (by_parts joining (λ join. operator >>= (λ i. operand >>= (λ c. further_operands joining operand k (join i a c)))) (give a) u v b h)
  where
    by_part : ((join : Joining) × NextMeaning Joining joining join u × ((operator >>= (λ i. operand >>= (λ c. further_operands joining operand k (join i a c)))) u ≡ got b v)) ⊎ (give a u ≡ got b v)
        → (ts : List PlacedToken) × (u.tokens ≡ ts ++ v.tokens) × R (us ++ ts) b
    by_part (inl p) =
        let join = p.0 in
        let d = bind_parts (operator u) (λ i. operand >>= (λ c. further_operands joining operand k (join i a c))) b v p.2 in
        let m = bind_parts (operand d.1) (λ c. further_operands joining operand k (join d.0 a c)) b v d.3 in
        let sign_read = operator_means joining join d.0 u d.1 p.1 d.2 in
        let one = sound d.1 m.1 m.0 m.2 in
        let ts = placed d.0 sign_read.0 ∷ one.0 in
        let tokens : u.tokens ≡ ts ++ m.1.tokens = sign_read.1 ∙ ap (λ (xs : List PlacedToken). placed d.0 sign_read.0 ∷ xs) one.1 in
        let rest = again (us ++ ts) (join d.0 a m.0) b m.1 v (step d.0 sign_read.0 join us one.0 a m.0 sign_read.2 r one.2) m.3 in
        (ts ++ rest.0, behind u.tokens m.1.tokens rest.0 ts v.tokens tokens rest.1, subst (λ xs. R xs b) (append_assoc us ts rest.0) rest.2)
    by_part (inr g) = no_operands R us a b u v r g

operands_on : (R S : List PlacedToken → ExpressionSyntax → Type 0) (joining : QueryToken → Option Joining) (operand : Production ExpressionSyntax) → Sound S operand → JoinsAs R S joining
    → (k : ℕ) → OperandsOn R joining operand k
operands_on R S joining operand sound step zero us a b u v r h = no_operands R us a b u v r h
operands_on R S joining operand sound step (suc k) us a b u v r h = operands_round R S joining operand sound step k (operands_on R S joining operand sound step k) us a b u v r h

operands_sound : (R S : List PlacedToken → ExpressionSyntax → Type 0) (joining : QueryToken → Option Joining) (operand : Production ExpressionSyntax) → Sound S operand
    → ((ts : List PlacedToken) (e : ExpressionSyntax) → S ts e → R ts e)
    → JoinsAs R S joining → Sound R (operands joining operand)
operands_sound R S joining operand sound embed step u v e h =
    let d = bind_parts (operand u) (λ a w. further_operands joining operand (length w.tokens) a w) e v h in
    let first = sound u d.1 d.0 d.2 in
    let rest = operands_on R S joining operand sound step (length d.1.tokens) first.0 d.0 e d.1 v (embed first.0 d.0 first.2) d.3 in
    (first.0 ++ rest.0, behind u.tokens d.1.tokens rest.0 first.0 v.tokens first.1 rest.1, rest.2)

or_step : (i : ℕ) (t : QueryToken) (join : Joining) (ts us : List PlacedToken) (a b : ExpressionSyntax) → or_in t ≡ Some join → SpellsExpression ts a → SpellsAnd us b
    → SpellsExpression (ts ++ placed i t ∷ us) (join i a b)
or_step i (reserved or_word) join ts us a b h r s = let e : disjunction ≡ join = cc in subst (λ j. SpellsExpression (ts ++ word_at i or_word ∷ us) (j i a b)) e (or_and i ts us a b r s)
or_step i (reserved w) join ts us a b h r s = absurd (cc h)
or_step i t join ts us a b h r s = absurd (cc h)

and_step : (i : ℕ) (t : QueryToken) (join : Joining) (ts us : List PlacedToken) (a b : ExpressionSyntax) → and_in t ≡ Some join → SpellsAnd ts a → SpellsNot us b
    → SpellsAnd (ts ++ placed i t ∷ us) (join i a b)
and_step i (reserved and_word) join ts us a b h r s = let e : conjunction ≡ join = cc in subst (λ j. SpellsAnd (ts ++ word_at i and_word ∷ us) (j i a b)) e (and_not i ts us a b r s)
and_step i (reserved w) join ts us a b h r s = absurd (cc h)
and_step i t join ts us a b h r s = absurd (cc h)

sum_step : (i : ℕ) (t : QueryToken) (join : Joining) (ts us : List PlacedToken) (a b : ExpressionSyntax) → sum_in t ≡ Some join → SpellsSum ts a → SpellsProduct us b
    → SpellsSum (ts ++ placed i t ∷ us) (join i a b)
sum_step i (sign plus_sign) join ts us a b h r s =
    let e : (λ (k : ℕ). arithmetic k plus) ≡ join = cc in subst (λ j. SpellsSum (ts ++ sign_at i plus_sign ∷ us) (j i a b)) e (plus_product i ts us a b r s)
sum_step i (sign minus_sign) join ts us a b h r s =
    let e : (λ (k : ℕ). arithmetic k minus) ≡ join = cc in subst (λ j. SpellsSum (ts ++ sign_at i minus_sign ∷ us) (j i a b)) e (minus_product i ts us a b r s)
sum_step i (sign g) join ts us a b h r s = absurd (cc h)
sum_step i t join ts us a b h r s = absurd (cc h)

product_step : (i : ℕ) (t : QueryToken) (join : Joining) (ts us : List PlacedToken) (a b : ExpressionSyntax) → product_in t ≡ Some join → SpellsProduct ts a → SpellsUnary us b
    → SpellsProduct (ts ++ placed i t ∷ us) (join i a b)
product_step i (sign star) join ts us a b h r s =
    let e : (λ (k : ℕ). arithmetic k times) ≡ join = cc in subst (λ j. SpellsProduct (ts ++ sign_at i star ∷ us) (j i a b)) e (times_unary i ts us a b r s)
product_step i (sign g) join ts us a b h r s = absurd (cc h)
product_step i t join ts us a b h r s = absurd (cc h)

-- ---- nestings and what is in them

-- how a nesting is spelled
abbrev SpellsNested : Nesting → List PlacedToken → ExpressionSyntax → Type 0
SpellsNested parenthesized ts e = SpellsPrimary ts e
SpellsNested negated ts e = SpellsNot ts e
SpellsNested signed ts e = SpellsUnary ts e

-- the token that opens a nesting
abbrev opens : Nesting → QueryToken → Bool
opens parenthesized t = is_the_sign open_parenthesis t
opens negated t = is_the_word not_word t
opens signed t = is_the_sign minus_sign t

abbrev InnerSound : Inner → Type 0
InnerSound inner = (o : Nesting) (u v : Unread) (e : ExpressionSyntax) → NextToken (opens o) u → inner o u ≡ got e v → Front (SpellsNested o) u e v

front_as : {A : Type 0} (R S : List PlacedToken → A → Type 0) (u v : Unread) (a : A) → ((ts : List PlacedToken) → R ts a → S ts a) → Front R u a v → Front S u a v
front_as R S u v a f x = (x.0, x.1, f x.0 x.2)

literal_sound : (e : ExpressionSyntax) (t : QueryToken) → ((i : ℕ) → SpellsPrimary (placed i t ∷ []) e) → (u v : Unread) (b : ExpressionSyntax) → first_token u.tokens ≡ Some t → literal e u ≡ got b v
    → Front SpellsPrimary u b v
literal_sound e t spelled u v b f h =
    let d = bind_parts (any_token u) (λ _. give e) b v h in
    let g = given e b d.1 v d.3 in
    let tokens : u.tokens ≡ placed d.0 t ∷ d.1.tokens = first_read t d.0 u d.1 f d.2 in
    (placed d.0 t ∷ [], tokens ∙ ap (λ (w : Unread). placed d.0 t ∷ w.tokens) g.1, subst (SpellsPrimary (placed d.0 t ∷ [])) g.0 (spelled d.0))

path_operand_sound : Sound SpellsPrimary path_operand
path_operand_sound u v b h =
    let d = bind_parts (path_names u) (λ p. give (path p)) b v h in
    let g = given (path d.0) b d.1 v d.3 in
    let x = path_sound u d.1 d.0 d.2 in
    (x.0, x.1 ∙ ap (λ (w : Unread). x.0 ++ w.tokens) g.1, subst (SpellsPrimary x.0) g.0 (a_path x.0 d.0 x.2))

primary_by : (inner : Inner) → InnerSound inner → (o : Option QueryToken) (u v : Unread) (e : ExpressionSyntax) → first_token u.tokens ≡ o → primary_at inner o u ≡ got e v → Front SpellsPrimary u e v
primary_by inner sound (Some (number n)) u v e f h = literal_sound (number_literal n) (number n) (λ i. a_number i n) u v e f h
primary_by inner sound (Some (text t)) u v e f h = literal_sound (text_literal t) (text t) (λ i. a_text i t) u v e f h
primary_by inner sound (Some (reserved true_word)) u v e f h = literal_sound (truth_literal true) (reserved true_word) a_true u v e f h
primary_by inner sound (Some (reserved false_word)) u v e f h = literal_sound (truth_literal false) (reserved false_word) a_false u v e f h
primary_by inner sound (Some (identifier n)) u v e f h = path_operand_sound u v e h
primary_by inner sound (Some (sign open_parenthesis)) u v e f h = sound parenthesized u v e (next_token (is_the_sign open_parenthesis) u (ap (passes (is_the_sign open_parenthesis)) f)) h
primary_by inner sound (Some (sign s)) u v e f h = absurd (cc h)
primary_by inner sound (Some (reserved w)) u v e f h = absurd (cc h)
primary_by inner sound (Some bad) u v e f h = absurd (cc h)
primary_by inner sound None u v e f h = absurd (cc h)

primary_sound : (inner : Inner) → InnerSound inner → Sound SpellsPrimary (primary inner)
primary_sound inner sound u v e h = primary_by inner sound (first_token u.tokens) u v e refl h

unary_sound : (inner : Inner) → InnerSound inner → Sound SpellsUnary (unary inner)
unary_sound inner sound u v e h = by_part (if_parts (is_the_sign minus_sign) (inner signed) (primary inner) u v e h)
  where
    by_part : (NextToken (is_the_sign minus_sign) u × (inner signed u ≡ got e v)) ⊎ (primary inner u ≡ got e v) → Front SpellsUnary u e v
    by_part (inl p) = sound signed u v e p.0 p.1
    by_part (inr g) = front_as SpellsPrimary SpellsUnary u v e (λ ts s. one_primary ts e s) (primary_sound inner sound u v e g)

product_sound : (inner : Inner) → InnerSound inner → Sound SpellsProduct (product_of inner)
product_sound inner sound = operands_sound SpellsProduct SpellsUnary product_in (unary inner) (unary_sound inner sound) one_unary product_step

sum_sound : (inner : Inner) → InnerSound inner → Sound SpellsSum (sum_of inner)
sum_sound inner sound = operands_sound SpellsSum SpellsProduct sum_in (product_of inner) (product_sound inner sound) one_product sum_step

-- ---- tests

comparison_is : (t : QueryToken) (c : Comparison) → comparison_in t ≡ Some c → (s : Sign) × (t ≡ sign s) × IsComparison s c
comparison_is (sign equals) c h = let e : equal ≡ c = cc in (equals, refl, subst (IsComparison equals) e is_equal)
comparison_is (sign differs) c h = let e : unequal ≡ c = cc in (differs, refl, subst (IsComparison differs) e is_unequal)
comparison_is (sign less_than) c h = let e : less ≡ c = cc in (less_than, refl, subst (IsComparison less_than) e is_less)
comparison_is (sign less_or_equal) c h = let e : at_most ≡ c = cc in (less_or_equal, refl, subst (IsComparison less_or_equal) e is_at_most)
comparison_is (sign greater_than) c h = let e : greater ≡ c = cc in (greater_than, refl, subst (IsComparison greater_than) e is_greater)
comparison_is (sign greater_or_equal) c h = let e : at_least ≡ c = cc in (greater_or_equal, refl, subst (IsComparison greater_or_equal) e is_at_least)
comparison_is (sign s) c h = absurd (cc h)
comparison_is t c h = absurd (cc h)

-- what stands behind a sum, whose tokens are these
abbrev Tested : List PlacedToken → Unread → ExpressionSyntax → Unread → Type 0
Tested us u b v = (ts : List PlacedToken) × (u.tokens ≡ ts ++ v.tokens) × SpellsTest (us ++ ts) b

-- a word with a text behind it, and the expression of both
record WordText (w : List ℕ → ℕ → ExpressionSyntax) (first : ℕ → PlacedToken) (u : Unread) (b : ExpressionSyntax) (v : Unread) : Type 0 where
  place : ℕ
  text_place : ℕ
  content : List ℕ
  tokens : u.tokens ≡ first place ∷ text_at text_place content ∷ v.tokens
  tree : w content place ≡ b

like_read : (shaped : ℕ → ExpressionSyntax → ExpressionSyntax) (a b : ExpressionSyntax) (u v : Unread) → NextToken (is_the_word like_word) u → like_test shaped a u ≡ got b v
    → WordText (λ t i. shaped i (like i a t)) (λ i. word_at i like_word) u b v
like_read shaped a b u v n h =
    let d = bind_parts (any_token u) (λ i. quoted_text >>= (λ t. give (shaped i (like i a t)))) b v h in
    let m = bind_parts (quoted_text d.1) (λ t. give (shaped d.0 (like d.0 a t))) b v d.3 in
    let g = given (shaped d.0 (like d.0 a m.0)) b m.1 v m.3 in
    let x = text_next m.0 d.1 m.1 m.2 in
    record {
      place = d.0;
      text_place = x.0;
      content = m.0;
      tokens = word_next like_word d.0 u d.1 (any_read (is_the_word like_word) d.0 u d.1 n d.2) ∙ ap (λ (xs : List PlacedToken). word_at d.0 like_word ∷ xs) (x.1 ∙ ap (λ (w : Unread). text_at x.0 m.0 ∷ w.tokens) g.1);
      tree = g.0;
    }

contains_read : (shaped : ℕ → ExpressionSyntax → ExpressionSyntax) (a b : ExpressionSyntax) (u v : Unread) → NextToken (is_the_word contains_word) u → contains_test shaped a u ≡ got b v
    → WordText (λ t i. shaped i (contains i a t)) (λ i. word_at i contains_word) u b v
contains_read shaped a b u v n h =
    let d = bind_parts (any_token u) (λ i. quoted_text >>= (λ t. give (shaped i (contains i a t)))) b v h in
    let m = bind_parts (quoted_text d.1) (λ t. give (shaped d.0 (contains d.0 a t))) b v d.3 in
    let g = given (shaped d.0 (contains d.0 a m.0)) b m.1 v m.3 in
    let x = text_next m.0 d.1 m.1 m.2 in
    record {
      place = d.0;
      text_place = x.0;
      content = m.0;
      tokens = word_next contains_word d.0 u d.1 (any_read (is_the_word contains_word) d.0 u d.1 n d.2) ∙ ap (λ (xs : List PlacedToken). word_at d.0 contains_word ∷ xs) (x.1 ∙ ap (λ (w : Unread). text_at x.0 m.0 ∷ w.tokens) g.1);
      tree = g.0;
    }

-- the two tests by a text, or nothing more
plain_on : (us : List PlacedToken) (a b : ExpressionSyntax) (u v : Unread) → SpellsSum us a → text_test plain a (give a) u ≡ got b v → Tested us u b v
plain_on us a b u v s h = by_like (if_parts (is_the_word like_word) (like_test plain a) (if_next (is_the_word contains_word) (contains_test plain a) (give a)) u v b h)
  where
    by_contains : (NextToken (is_the_word contains_word) u × (contains_test plain a u ≡ got b v)) ⊎ (give a u ≡ got b v) → Tested us u b v
    by_contains (inl p) =
        let x = contains_read plain a b u v p.0 p.1 in
        let ts = word_at x.place contains_word ∷ text_at x.text_place x.content ∷ [] in
        (ts, x.tokens, subst (SpellsTest (us ++ ts)) x.tree (contains_text x.place x.text_place us a x.content s))
    by_contains (inr g) = let p = given a b u v g in ([], ap (λ (w : Unread). w.tokens) p.1, subst (SpellsTest (us ++ [])) p.0 (subst (λ xs. SpellsTest xs a) (sym (append-nil us)) (one_sum us a s)))

    by_like : (NextToken (is_the_word like_word) u × (like_test plain a u ≡ got b v)) ⊎ (if_next (is_the_word contains_word) (contains_test plain a) (give a) u ≡ got b v) → Tested us u b v
    by_like (inl p) =
        let x = like_read plain a b u v p.0 p.1 in
        let ts = word_at x.place like_word ∷ text_at x.text_place x.content ∷ [] in
        (ts, x.tokens, subst (SpellsTest (us ++ ts)) x.tree (like_text x.place x.text_place us a x.content s))
    by_like (inr g) = by_contains (if_parts (is_the_word contains_word) (contains_test plain a) (give a) u v b g)

denied_on : (us : List PlacedToken) (a b : ExpressionSyntax) (u v : Unread) → SpellsSum us a → NextToken (is_the_word not_word) u → denied_test a u ≡ got b v → Tested us u b v
denied_on us a b u v s n h =
    let d = bind_parts (any_token u) (λ _. text_test negation a (problem_here syntax)) b v h in
    let deny = word_next not_word d.0 u d.1 (any_read (is_the_word not_word) d.0 u d.1 n d.2) in
    by_like d.0 d.1 deny (if_parts (is_the_word like_word) (like_test negation a) (if_next (is_the_word contains_word) (contains_test negation a) (problem_here syntax)) d.1 v b d.3)
  where
    by_contains : (k : ℕ) (w : Unread) → u.tokens ≡ word_at k not_word ∷ w.tokens → (NextToken (is_the_word contains_word) w × (contains_test negation a w ≡ got b v)) ⊎ (problem_here {A = ExpressionSyntax} syntax w ≡ got b v) → Tested us u b v
    by_contains k w e (inl p) =
        let x = contains_read negation a b w v p.0 p.1 in
        let ts = word_at k not_word ∷ word_at x.place contains_word ∷ text_at x.text_place x.content ∷ [] in
        (ts, e ∙ ap (λ (xs : List PlacedToken). word_at k not_word ∷ xs) x.tokens, subst (SpellsTest (us ++ ts)) x.tree (not_contains_text k x.place x.text_place us a x.content s))
    by_contains k w e (inr g) = absurd (cc g)

    by_like : (k : ℕ) (w : Unread) → u.tokens ≡ word_at k not_word ∷ w.tokens
        → (NextToken (is_the_word like_word) w × (like_test negation a w ≡ got b v)) ⊎ (if_next (is_the_word contains_word) (contains_test negation a) (problem_here syntax) w ≡ got b v) → Tested us u b v
    by_like k w e (inl p) =
        let x = like_read negation a b w v p.0 p.1 in
        let ts = word_at k not_word ∷ word_at x.place like_word ∷ text_at x.text_place x.content ∷ [] in
        (ts, e ∙ ap (λ (xs : List PlacedToken). word_at k not_word ∷ xs) x.tokens, subst (SpellsTest (us ++ ts)) x.tree (not_like_text k x.place x.text_place us a x.content s))
    by_like k w e (inr g) = by_contains k w e (if_parts (is_the_word contains_word) (contains_test negation a) (problem_here syntax) w v b g)

null_on : (us : List PlacedToken) (a b : ExpressionSyntax) (u v : Unread) → SpellsSum us a → NextToken (is_the_word is_word) u → null_test a u ≡ got b v → Tested us u b v
null_on us a b u v s n h =
    let d = bind_parts (any_token u) (λ i. if_next (is_the_word not_word) (denied_null i a) (plain_null i a)) b v h in
    let is_read = word_next is_word d.0 u d.1 (any_read (is_the_word is_word) d.0 u d.1 n d.2) in
    by_not d.0 d.1 is_read (if_parts (is_the_word not_word) (denied_null d.0 a) (plain_null d.0 a) d.1 v b d.3)
  where
    by_not : (i : ℕ) (w : Unread) → u.tokens ≡ word_at i is_word ∷ w.tokens → (NextToken (is_the_word not_word) w × (denied_null i a w ≡ got b v)) ⊎ (plain_null i a w ≡ got b v) → Tested us u b v
    by_not i w e (inl p) =
        let d = bind_parts (any_token w) (λ _. word null_word >>= (λ _. give (negation i (is_null i a)))) b v p.1 in
        let m = bind_parts (word null_word d.1) (λ _. give (negation i (is_null i a))) b v d.3 in
        let g = given (negation i (is_null i a)) b m.1 v m.3 in
        let deny = word_next not_word d.0 w d.1 (any_read (is_the_word not_word) d.0 w d.1 p.0 d.2) in
        let nulls = word_next null_word m.0 d.1 m.1 (token_read (is_the_word null_word) m.0 d.1 m.1 m.2) in
        let ts = word_at i is_word ∷ word_at d.0 not_word ∷ word_at m.0 null_word ∷ [] in (
          ts,
          e ∙ ap (λ (xs : List PlacedToken). word_at i is_word ∷ xs) (deny ∙ ap (λ (xs : List PlacedToken). word_at d.0 not_word ∷ xs) (nulls ∙ ap (λ (z : Unread). word_at m.0 null_word ∷ z.tokens) g.1)),
          subst (SpellsTest (us ++ ts)) g.0 (is_not_null i d.0 m.0 us a s),
        )
    by_not i w e (inr q) =
        let m = bind_parts (word null_word w) (λ _. give (is_null i a)) b v q in
        let g = given (is_null i a) b m.1 v m.3 in
        let nulls = word_next null_word m.0 w m.1 (token_read (is_the_word null_word) m.0 w m.1 m.2) in
        let ts = word_at i is_word ∷ word_at m.0 null_word ∷ [] in
        (ts, e ∙ ap (λ (xs : List PlacedToken). word_at i is_word ∷ xs) (nulls ∙ ap (λ (z : Unread). word_at m.0 null_word ∷ z.tokens) g.1), subst (SpellsTest (us ++ ts)) g.0 (is_null_word i m.0 us a s))

word_on : (us : List PlacedToken) (a b : ExpressionSyntax) (u v : Unread) → SpellsSum us a → word_test a u ≡ got b v → Tested us u b v
word_on us a b u v s h = by_not (if_parts (is_the_word not_word) (denied_test a) (if_next (is_the_word is_word) (null_test a) (text_test plain a (give a))) u v b h)
  where
    by_is : (NextToken (is_the_word is_word) u × (null_test a u ≡ got b v)) ⊎ (text_test plain a (give a) u ≡ got b v) → Tested us u b v
    by_is (inl p) = null_on us a b u v s p.0 p.1
    by_is (inr g) = plain_on us a b u v s g

    by_not : (NextToken (is_the_word not_word) u × (denied_test a u ≡ got b v)) ⊎ (if_next (is_the_word is_word) (null_test a) (text_test plain a (give a)) u ≡ got b v) → Tested us u b v
    by_not (inl p) = denied_on us a b u v s p.0 p.1
    by_not (inr g) = by_is (if_parts (is_the_word is_word) (null_test a) (text_test plain a (give a)) u v b g)

tested_on : (inner : Inner) → InnerSound inner → (us : List PlacedToken) (a b : ExpressionSyntax) (u v : Unread) → SpellsSum us a → tested inner a u ≡ got b v → Tested us u b v
tested_on inner sound us a b u v s h = by_comparison (by_parts comparison_in (comparison_test inner a) (word_test a) u v b h)
  where
    by_comparison : ((c : Comparison) × NextMeaning Comparison comparison_in c u × (comparison_test inner a c u ≡ got b v)) ⊎ (word_test a u ≡ got b v) → Tested us u b v
    by_comparison (inl p) =
        let c = p.0 in
        let d = bind_parts (any_token u) (λ i. sum_of inner >>= (λ e. give (comparison i c a e))) b v p.2 in
        let m = bind_parts (sum_of inner d.1) (λ e. give (comparison d.0 c a e)) b v d.3 in
        let g = given (comparison d.0 c a m.0) b m.1 v m.3 in
        let sign_read = any_means comparison_in c d.0 u d.1 p.1 d.2 in
        let is = comparison_is sign_read.0 c sign_read.2 in
        let right = sum_sound inner sound d.1 m.1 m.0 m.2 in
        let ts = sign_at d.0 is.0 ∷ right.0 in
        let tokens : u.tokens ≡ ts ++ v.tokens =
        sign_read.1 ∙ (ap (λ (t : QueryToken). placed d.0 t ∷ d.1.tokens) is.1 ∙ ap (λ (xs : List PlacedToken). sign_at d.0 is.0 ∷ xs) (right.1 ∙ ap (λ (w : Unread). right.0 ++ w.tokens) g.1)) in
        (ts, tokens, subst (SpellsTest (us ++ ts)) g.0 (compared_sums d.0 is.0 c us right.0 a m.0 is.2 s right.2))
    by_comparison (inr g) = word_on us a b u v s g

test_sound : (inner : Inner) → InnerSound inner → Sound SpellsTest (test_of inner)
test_sound inner sound u v b h =
    let d = bind_parts (sum_of inner u) (tested inner) b v h in
    let left = sum_sound inner sound u d.1 d.0 d.2 in
    let rest = tested_on inner sound left.0 d.0 b d.1 v left.2 d.3 in
    (left.0 ++ rest.0, behind u.tokens d.1.tokens rest.0 left.0 v.tokens left.1 rest.1, rest.2)

-- ---- not, and, expr, and what opens a nesting

not_sound : (inner : Inner) → InnerSound inner → Sound SpellsNot (not_of inner)
not_sound inner sound u v e h = by_part (if_parts (is_the_word not_word) (inner negated) (test_of inner) u v e h)
  where
    by_part : (NextToken (is_the_word not_word) u × (inner negated u ≡ got e v)) ⊎ (test_of inner u ≡ got e v) → Front SpellsNot u e v
    by_part (inl p) = sound negated u v e p.0 p.1
    by_part (inr g) = front_as SpellsTest SpellsNot u v e (λ ts s. one_test ts e s) (test_sound inner sound u v e g)

and_sound : (inner : Inner) → InnerSound inner → Sound SpellsAnd (and_of inner)
and_sound inner sound = operands_sound SpellsAnd SpellsNot and_in (not_of inner) (not_sound inner sound) one_not and_step

pub expression_sound : (inner : Inner) → InnerSound inner → Sound SpellsExpression (expression_of inner)
expression_sound inner sound = operands_sound SpellsExpression SpellsAnd or_in (and_of inner) (and_sound inner sound) one_and or_step

nested_sound : (n : ℕ) → InnerSound (nested n)
nested_sound zero o u v e n h = absurd (cc h)
nested_sound (suc k) parenthesized u v e n h =
    let d = bind_parts (any_token u) (λ _. expression_of (nested k) >>= (λ a. mark close_parenthesis >>= (λ _. give a))) e v h in
    let m = bind_parts (expression_of (nested k) d.1) (λ a. mark close_parenthesis >>= (λ _. give a)) e v d.3 in
    let c = bind_parts (mark close_parenthesis m.1) (λ _. give m.0) e v m.3 in
    let g = given m.0 e c.1 v c.3 in
    let open_read = sign_next open_parenthesis d.0 u d.1 (any_read (is_the_sign open_parenthesis) d.0 u d.1 n d.2) in
    let x = expression_sound (nested k) (nested_sound k) d.1 m.1 m.0 m.2 in
    let close_read = sign_next close_parenthesis c.0 m.1 c.1 (token_read (is_the_sign close_parenthesis) c.0 m.1 c.1 c.2) in
    let ts = sign_at d.0 open_parenthesis ∷ (x.0 ++ sign_at c.0 close_parenthesis ∷ []) in
    let inside : d.1.tokens ≡ (x.0 ++ sign_at c.0 close_parenthesis ∷ []) ++ v.tokens =
    behind d.1.tokens m.1.tokens (sign_at c.0 close_parenthesis ∷ []) x.0 v.tokens x.1 (close_read ∙ ap (λ (w : Unread). sign_at c.0 close_parenthesis ∷ w.tokens) g.1) in
    (ts, open_read ∙ ap (λ (xs : List PlacedToken). sign_at d.0 open_parenthesis ∷ xs) inside, subst (SpellsPrimary ts) g.0 (in_parentheses d.0 c.0 x.0 m.0 x.2))
nested_sound (suc k) negated u v e n h =
    let d = bind_parts (any_token u) (λ i. not_of (nested k) >>= (λ a. give (negation i a))) e v h in
    let m = bind_parts (not_of (nested k) d.1) (λ a. give (negation d.0 a)) e v d.3 in
    let g = given (negation d.0 m.0) e m.1 v m.3 in
    let not_read = word_next not_word d.0 u d.1 (any_read (is_the_word not_word) d.0 u d.1 n d.2) in
    let x = not_sound (nested k) (nested_sound k) d.1 m.1 m.0 m.2 in
    let ts = word_at d.0 not_word ∷ x.0 in
    (ts, not_read ∙ ap (λ (xs : List PlacedToken). word_at d.0 not_word ∷ xs) (x.1 ∙ ap (λ (w : Unread). x.0 ++ w.tokens) g.1), subst (SpellsNot ts) g.0 (not_not d.0 x.0 m.0 x.2))
nested_sound (suc k) signed u v e n h =
    let d = bind_parts (operator u) (λ i. unary (nested k) >>= (λ a. give (negative i a))) e v h in
    let m = bind_parts (unary (nested k) d.1) (λ a. give (negative d.0 a)) e v d.3 in
    let g = given (negative d.0 m.0) e m.1 v m.3 in
    let minus_read = sign_next minus_sign d.0 u d.1 (operator_read (is_the_sign minus_sign) d.0 u d.1 n d.2) in
    let x = unary_sound (nested k) (nested_sound k) d.1 m.1 m.0 m.2 in
    let ts = sign_at d.0 minus_sign ∷ x.0 in
    (ts, minus_read ∙ ap (λ (xs : List PlacedToken). sign_at d.0 minus_sign ∷ xs) (x.1 ∙ ap (λ (w : Unread). x.0 ++ w.tokens) g.1), subst (SpellsUnary ts) g.0 (minus_unary d.0 x.0 m.0 x.2))

-- an expression with at most so many nestings
pub nested_expression_sound : (n : ℕ) → Sound SpellsExpression (expression_of (nested n))
nested_expression_sound n = expression_sound (nested n) (nested_sound n)
