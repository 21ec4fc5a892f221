-- The productions in which no nesting is opened: none of them stops with TooDeep.
use Rattle.std.specs.Prelude.{◌≡◌, ℕ, zero, suc, List, [], ◌∷◌, ◌++◌, length, Bool, true, false, nat_lt, Option, Some, None, option_and_then, is_some}
use Rattle.dr_meaning.specs.Tokens.{Word, Sign, QueryToken, dot, comma, semicolon, not_word, is_word, null_word, like_word, contains_word, as_word, within_word, record_word, group_word, by_word}
use Rattle.dr_meaning.specs.Syntax.{NameSyntax, PathSyntax, ExpressionSyntax, like, contains, is_null, negation, whole_record, node, WithinSyntax}
use Rattle.dr_meaning.specs.Parse.{Unread, Parsed, got, refused, QueryFault, Production, give, goes_on, ◌>>=◌, place_of, first_token, problem_here}
use Rattle.dr_meaning.specs.Parse.{syntax, too_many, too_deep, next_is, either, if_next, for_some, by_next, any_token, operator, counted, most_operators, behind_token}
use Rattle.dr_meaning.specs.Parse.{word, mark, name, quoted_text, is_the_word, is_the_sign, name_in, text_in, here, further_names, names, path_names, too_many_of, further_elements}
use Rattle.dr_meaning.specs.Parse.{plain, like_test, contains_test, text_test, denied_test, denied_null, plain_null, null_test, word_test, within_record, within_path, within_part, as_part}
use Rattle.dr_meaning.specs.Parse.{table_name, keys, group_part, text_end, end_part, begins_key}

-- what comes of reading is no TooDeep
pub data NotDeep (A : Type 0) : Parsed A → Type 0 where
  has_read : (a : A) (v : Unread) → NotDeep A (got a v)
  has_other : (f : QueryFault) → (f.problem ≡ too_deep → ⊥) → NotDeep A (refused f)

-- a production that never gives TooDeep
abbrev pub Shallow : (A : Type 0) → Production A → Type 0
Shallow A p = (u : Unread) → NotDeep A (p u)

pub then_shallow : {A B : Type 0} (p : Production A) (next : A → Production B) → Shallow A p → ((a : A) → Shallow B (next a)) → Shallow B (p >>= next)
then_shallow {A} {B} p next first step u = by_parsed (p u) (first u)
  where
    by_parsed : (q : Parsed A) → NotDeep A q → NotDeep B (goes_on q next)
    by_parsed _ (has_read a v) = step a v
    by_parsed _ (has_other f n) = has_other f n

pub give_shallow : {A : Type 0} (a : A) → Shallow A (give a)
give_shallow a u = has_read a u

not_syntax : syntax ≡ too_deep → ⊥
not_syntax e = absurd (cc e)

not_many : too_many ≡ too_deep → ⊥
not_many e = absurd (cc e)

pub syntax_shallow : {A : Type 0} → Shallow A (problem_here syntax)
syntax_shallow u = has_other (record { place = place_of u; problem = syntax }) not_syntax

many_shallow : {A : Type 0} → Shallow A (problem_here too_many)
many_shallow u = has_other (record { place = place_of u; problem = too_many }) not_many

pub if_shallow : {A : Type 0} (test : QueryToken → Bool) (p q : Production A) → Shallow A p → Shallow A q → Shallow A (if_next test p q)
if_shallow {A} test p q then_p then_q u = by_test (next_is test u)
  where
    by_test : (b : Bool) → NotDeep A (either b p q u)
    by_test true = then_p u
    by_test false = then_q u

pub by_shallow : {A B : Type 0} (f : QueryToken → Option A) (p : A → Production B) (q : Production B) → ((a : A) → Shallow B (p a)) → Shallow B q → Shallow B (by_next f p q)
by_shallow {A} {B} f p q then_p then_q u = by_some (option_and_then f (first_token u.tokens))
  where
    by_some : (o : Option A) → NotDeep B (for_some o p q u)
    by_some None = then_q u
    by_some (Some a) = then_p a u

-- ---- tokens

pub any_shallow : Shallow ℕ any_token
any_shallow u = has_read (place_of u) (behind_token u)

pub here_shallow : Shallow ℕ here
here_shallow u = has_read (place_of u) u

pub operator_shallow : Shallow ℕ operator
operator_shallow u = by_room (nat_lt u.operators most_operators)
  where
    by_room : (b : Bool) → NotDeep ℕ (either b counted (problem_here too_many) u)
    by_room true = has_read (place_of u) _
    by_room false = many_shallow u

pub word_shallow : (w : Word) → Shallow ℕ (word w)
word_shallow w = if_shallow (is_the_word w) any_token (problem_here syntax) any_shallow syntax_shallow

pub mark_shallow : (s : Sign) → Shallow ℕ (mark s)
mark_shallow s = if_shallow (is_the_sign s) any_token (problem_here syntax) any_shallow syntax_shallow

pub name_shallow : Shallow (List ℕ) name
name_shallow = by_shallow name_in (λ n v. got n (behind_token v)) (problem_here syntax) (λ n u. has_read n (behind_token u)) syntax_shallow

text_shallow : Shallow (List ℕ) quoted_text
text_shallow = by_shallow text_in (λ n v. got n (behind_token v)) (problem_here syntax) (λ n u. has_read n (behind_token u)) syntax_shallow

-- ---- paths

names_shallow : (k : ℕ) (ns : List (List ℕ)) → Shallow (List (List ℕ)) (further_names k ns)
names_shallow zero ns = give_shallow ns
names_shallow (suc k) ns = if_shallow (is_the_sign dot) (any_token >>= (λ _. name >>= (λ n. further_names k (ns ++ n ∷ [])))) (give ns)
    (then_shallow any_token (λ _. name >>= (λ n. further_names k (ns ++ n ∷ []))) any_shallow
    (λ _. then_shallow name (λ n. further_names k (ns ++ n ∷ [])) name_shallow (λ n. names_shallow k (ns ++ n ∷ [])))) (give_shallow ns)

pub path_shallow : Shallow PathSyntax path_names
path_shallow = then_shallow here (λ i. names >>= (λ ns. give (record { place = i; names = ns }))) here_shallow
    (λ i. then_shallow names (λ ns. give (record { place = i; names = ns }))
    (then_shallow name (λ n v. further_names (length v.tokens) (n ∷ []) v) name_shallow (λ n v. names_shallow (length v.tokens) (n ∷ []) v))
    (λ ns. give_shallow (record { place = i; names = ns })))

-- ---- tests by words

like_shallow : (shaped : ℕ → ExpressionSyntax → ExpressionSyntax) (e : ExpressionSyntax) → Shallow ExpressionSyntax (like_test shaped e)
like_shallow shaped e = then_shallow any_token (λ i. quoted_text >>= (λ t. give (shaped i (like i e t)))) any_shallow
    (λ i. then_shallow quoted_text (λ t. give (shaped i (like i e t))) text_shallow (λ t. give_shallow (shaped i (like i e t))))

contains_shallow : (shaped : ℕ → ExpressionSyntax → ExpressionSyntax) (e : ExpressionSyntax) → Shallow ExpressionSyntax (contains_test shaped e)
contains_shallow shaped e = then_shallow any_token (λ i. quoted_text >>= (λ t. give (shaped i (contains i e t)))) any_shallow
    (λ i. then_shallow quoted_text (λ t. give (shaped i (contains i e t))) text_shallow (λ t. give_shallow (shaped i (contains i e t))))

text_test_shallow : (shaped : ℕ → ExpressionSyntax → ExpressionSyntax) (e : ExpressionSyntax) (other : Production ExpressionSyntax) → Shallow ExpressionSyntax other
    → Shallow ExpressionSyntax (text_test shaped e other)
text_test_shallow shaped e other o = if_shallow (is_the_word like_word) (like_test shaped e) (if_next (is_the_word contains_word) (contains_test shaped e) other) (like_shallow shaped e)
    (if_shallow (is_the_word contains_word) (contains_test shaped e) other (contains_shallow shaped e) o)

null_shallow : (e : ExpressionSyntax) → Shallow ExpressionSyntax (word null_word >>= (λ _. give e))
null_shallow e = then_shallow (word null_word) (λ _. give e) (word_shallow null_word) (λ _. give_shallow e)

null_test_shallow : (e : ExpressionSyntax) → Shallow ExpressionSyntax (null_test e)
null_test_shallow e = then_shallow any_token (λ i. if_next (is_the_word not_word) (denied_null i e) (plain_null i e)) any_shallow
    (λ i. if_shallow (is_the_word not_word) (denied_null i e) (plain_null i e)
    (then_shallow any_token (λ _. word null_word >>= (λ _. give (negation i (is_null i e)))) any_shallow (λ _. null_shallow (negation i (is_null i e)))) (null_shallow (is_null i e)))

pub word_test_shallow : (e : ExpressionSyntax) → Shallow ExpressionSyntax (word_test e)
word_test_shallow e = if_shallow (is_the_word not_word) (denied_test e) (if_next (is_the_word is_word) (null_test e) (text_test plain e (give e)))
    (then_shallow any_token (λ _. text_test negation e (problem_here syntax)) any_shallow (λ _. text_test_shallow negation e (problem_here syntax) syntax_shallow))
    (if_shallow (is_the_word is_word) (null_test e) (text_test plain e (give e)) (null_test_shallow e) (text_test_shallow plain e (give e) (give_shallow e)))

-- ---- parts of items and of queries

pub within_shallow : Shallow (Option WithinSyntax) within_part
within_shallow = if_shallow (is_the_word within_word) (any_token >>= (λ i. if_next (is_the_word record_word) (within_record i) (within_path i))) (give None)
    (then_shallow any_token (λ i. if_next (is_the_word record_word) (within_record i) (within_path i)) any_shallow
    (λ i. if_shallow (is_the_word record_word) (within_record i) (within_path i)
    (then_shallow any_token (λ _. give (Some (record { place = i; node = whole_record }))) any_shallow (λ _. give_shallow (Some (record { place = i; node = whole_record }))))
    (then_shallow path_names (λ p. give (Some (record { place = i; node = node p }))) path_shallow (λ p. give_shallow (Some (record { place = i; node = node p }))))))
    (give_shallow None)

pub as_shallow : Shallow (Option (List ℕ)) as_part
as_shallow = if_shallow (is_the_word as_word) (any_token >>= (λ _. name >>= (λ n. give (Some n)))) (give None)
    (then_shallow any_token (λ _. name >>= (λ n. give (Some n))) any_shallow (λ _. then_shallow name (λ n. give (Some n)) name_shallow (λ n. give_shallow (Some n)))) (give_shallow None)

pub table_shallow : Shallow NameSyntax table_name
table_shallow = then_shallow here (λ i. name >>= (λ n. give (record { place = i; name = n }))) here_shallow
    (λ i. then_shallow name (λ n. give (record { place = i; name = n })) name_shallow (λ n. give_shallow (record { place = i; name = n })))

pub too_many_shallow : {A : Type 0} (begins : QueryToken → Bool) → Shallow A (too_many_of begins)
too_many_shallow begins = if_shallow begins (problem_here too_many) (problem_here syntax) many_shallow syntax_shallow

more_shallow : {A : Type 0} (begins : QueryToken → Bool) (element : Production A) → Shallow A element → (k : ℕ) (xs : List A) → Shallow (List A) (further_elements begins element k xs)
more_shallow begins element s zero xs = if_shallow (is_the_sign comma) (any_token >>= (λ _. too_many_of begins)) (give xs)
    (then_shallow any_token (λ _. too_many_of begins) any_shallow (λ _. too_many_shallow begins)) (give_shallow xs)
more_shallow begins element s (suc k) xs = if_shallow (is_the_sign comma) (any_token >>= (λ _. element >>= (λ x. further_elements begins element k (xs ++ x ∷ [])))) (give xs)
    (then_shallow any_token (λ _. element >>= (λ x. further_elements begins element k (xs ++ x ∷ []))) any_shallow
    (λ _. then_shallow element (λ x. further_elements begins element k (xs ++ x ∷ [])) s (λ x. more_shallow begins element s k (xs ++ x ∷ [])))) (give_shallow xs)

keys_shallow : Shallow (List PathSyntax) keys
unfolding keys
keys_shallow = then_shallow path_names (λ x. further_elements begins_key path_names 255 (x ∷ [])) path_shallow (λ x. more_shallow begins_key path_names path_shallow 255 (x ∷ []))

pub group_shallow : Shallow (List PathSyntax) group_part
group_shallow = if_shallow (is_the_word group_word) (any_token >>= (λ _. word by_word >>= (λ _. keys))) (give [])
    (then_shallow any_token (λ _. word by_word >>= (λ _. keys)) any_shallow (λ _. then_shallow (word by_word) (λ _. keys) (word_shallow by_word) (λ _. keys_shallow))) (give_shallow [])

text_end_shallow : Shallow ℕ text_end
text_end_shallow u = by_rest (is_some (first_token u.tokens))
  where
    by_rest : (b : Bool) → NotDeep ℕ (either b (problem_here syntax) here u)
    by_rest true = syntax_shallow u
    by_rest false = here_shallow u

pub end_shallow : Shallow ℕ end_part
end_shallow = if_shallow (is_the_sign semicolon) (any_token >>= (λ _. text_end)) text_end (then_shallow any_token (λ _. text_end) any_shallow (λ _. text_end_shallow)) text_end_shallow
