-- Expressions, by computation: arithmetic at the limits, comparisons, LIKE and CONTAINS, three-valued logic; rows and their values; paths and levels.
use Rattle.std.specs.Prelude.{◌≡◌, ℕ, ◌-◌, ◌^◌, List, [], ◌∷◌, map, true, false, ℤ, pos, neg_ℤ, Option, Some, None, codes, refl}
use Rattle.std.specs.Str.{chars}
use Rattle.dr_meaning.specs.Path.{chain_end, longer}
use Rattle.dr_meaning.specs.Record.{Value, bool_value, int_value, text_value, no_slots}
use Rattle.dr_meaning.specs.Rows.{rows, value_at, is_present}
use Rattle.dr_meaning.specs.Expression.{Expression, constant, path_value, negative, arithmetic, comparison, like, contains, is_null, negation, conjunction, disjunction, Comparison, plus, minus, times, equal, unequal, less, at_most, greater, at_least, matches, evaluate, is_true, paths_of, longest_chain, expression_chain}
use Rattle.dr_meaning.proofs.WorkedRecords.{record_10, record_30}
use Rattle.dr_meaning.proofs.WorkedPaths.{doc_id, backward, forward, name, language_level, code, country, url}

-- the values of expressions in the row without fields
abbrev values : List Expression → List (Option Value)
values es = map (λ e. evaluate e no_slots) es

abbrev whole : ℤ → Expression
whole z = constant (int_value z)

abbrev number : ℕ → Expression
number n = whole (pos n)

abbrev below : ℕ → Expression
below n = whole (neg_ℤ (pos n))

abbrev text : List ℕ → Expression
text t = constant (text_value t)

abbrev yes : Expression
yes = constant (bool_value true)

abbrev never : Expression
never = constant (bool_value false)

-- the value of a path on which nothing is
abbrev null : Expression
null = path_value doc_id

-- true, false, NULL; a number; a text
abbrev T : Option Value
T = Some (bool_value true)

abbrev F : Option Value
F = Some (bool_value false)

abbrev N : Option Value
N = None

abbrev I : ℤ → Option Value
I z = Some (int_value z)

abbrev S : List ℕ → Option Value
S t = Some (text_value t)

-- ---- arithmetic

-- a + b, a - b on either side of 0, a * b; unary minus
pub four_operations : values (arithmetic plus (number 5) (number 3) ∷ arithmetic minus (number 5) (number 3) ∷ arithmetic minus (number 3) (number 5) ∷ arithmetic times (number 5) (number 3) ∷ arithmetic times (below 5) (number 3) ∷ negative (number 5) ∷ negative (below 5) ∷ [])
    ≡ I (pos 8) ∷ I (pos 2) ∷ I (neg_ℤ (pos 2)) ∷ I (pos 15) ∷ I (neg_ℤ (pos 15)) ∷ I (neg_ℤ (pos 5)) ∷ I (pos 5) ∷ []
four_operations = refl

-- texts are joined, and neither subtracted nor multiplied; what isn't of one type, or a truth value, has no sum
pub of_texts : values (arithmetic plus (text (codes "ab")) (text (codes "c")) ∷ arithmetic minus (text (codes "ab")) (text (codes "b")) ∷ arithmetic times (text (codes "ab")) (number 2) ∷ negative (text (codes "a"))
    ∷ arithmetic plus (text (codes "a")) (number 1) ∷ arithmetic plus yes yes ∷ arithmetic minus yes yes ∷ arithmetic times yes yes ∷ []) ≡ S (codes "abc") ∷ N ∷ N ∷ N ∷ N ∷ N ∷ N ∷ N ∷ []
of_texts = refl

-- NULL on either side
pub of_nulls : values (arithmetic plus null (number 1) ∷ arithmetic plus (number 1) null ∷ arithmetic minus null (number 1) ∷ arithmetic times (number 0) null ∷ negative null ∷ []) ≡ N ∷ N ∷ N ∷ N ∷ N ∷ []
of_nulls = refl

-- 2^63 - 1 and -2^63 are numbers; one more, one less is NULL
pub at_the_limits : values (arithmetic plus (number (2 ^ 63 - 2)) (number 1) ∷ arithmetic plus (number (2 ^ 63 - 1)) (number 1) ∷ arithmetic minus (below (2 ^ 63 - 1)) (number 1) ∷ arithmetic minus (below (2 ^ 63)) (number 1)
    ∷ arithmetic times (below (2 ^ 62)) (number 2) ∷ arithmetic times (number (2 ^ 62)) (number 2) ∷ negative (below (2 ^ 63)) ∷ negative (number (2 ^ 63 - 1)) ∷ [])
    ≡ I (pos (2 ^ 63 - 1)) ∷ N ∷ I (neg_ℤ (pos (2 ^ 63))) ∷ N ∷ I (neg_ℤ (pos (2 ^ 63))) ∷ N ∷ N ∷ I (neg_ℤ (pos (2 ^ 63 - 1))) ∷ []
at_the_limits = refl

-- ---- comparisons

-- 1 and 2, 2 and 2, 2 and 1
abbrev around : Comparison → List (Option Value)
around c = values (comparison c (number 1) (number 2) ∷ comparison c (number 2) (number 2) ∷ comparison c (number 2) (number 1) ∷ [])

pub six_comparisons : (around equal ≡ F ∷ T ∷ F ∷ []) × (around unequal ≡ T ∷ F ∷ T ∷ []) × (around less ≡ T ∷ F ∷ F ∷ [])
    × (around at_most ≡ T ∷ T ∷ F ∷ []) × (around greater ≡ F ∷ F ∷ T ∷ []) × (around at_least ≡ F ∷ T ∷ T ∷ [])
six_comparisons = (refl, refl, refl, refl, refl, refl)

-- false before true; numbers by value; texts by their bytes, a front before the whole, capitals before small letters, two-byte characters behind both
pub ascending : values (comparison less never yes ∷ comparison less yes never ∷ comparison less (below 2) (below 1) ∷ comparison less (below 1) (number 1)
    ∷ comparison less (text (codes "a")) (text (codes "ab")) ∷ comparison less (text (codes "b")) (text (codes "ab")) ∷ comparison less (text (codes "Z")) (text (codes "a")) ∷ comparison less (text (codes "z")) (text (195 ∷ 169 ∷ [])) ∷ [])
    ≡ T ∷ F ∷ T ∷ T ∷ T ∷ F ∷ T ∷ T ∷ []
ascending = refl

-- NULL equals nothing, not even NULL; values of two types aren't compared
pub not_compared : values (comparison equal null null ∷ comparison unequal null (number 1) ∷ comparison less (number 1) null ∷ comparison equal (number 1) (text (codes "1")) ∷ comparison equal yes (number 1) ∷ []) ≡ N ∷ N ∷ N ∷ N ∷ N ∷ []
not_compared = refl

-- ---- LIKE and CONTAINS

-- `a`, a character of two bytes, `p`
abbrev accented : Expression
accented = text (97 ∷ 195 ∷ 169 ∷ 112 ∷ [])

-- `_` is one character, of any number of bytes
pub one_character : values (like accented (codes "a_p") ∷ like accented (codes "a__p") ∷ like accented (97 ∷ 195 ∷ 169 ∷ 112 ∷ []) ∷ like accented (codes "_a") ∷ []) ≡ T ∷ F ∷ T ∷ F ∷ []
unfolding matches chars lib.Utf8.encode
one_character = refl

-- `%` is any text, at either end and inside; without it the whole text must match; letters are told apart by case
pub any_text : map (λ p. evaluate (like (text (codes "abcbd")) p) no_slots)
    (codes "a%" ∷ codes "%d" ∷ codes "a%d" ∷ codes "%b%" ∷ codes "%bd" ∷ codes "a%b%d" ∷ codes "%" ∷ codes "%%" ∷ codes "%_" ∷ codes "abcbd%" ∷ [])
    ≡ T ∷ T ∷ T ∷ T ∷ T ∷ T ∷ T ∷ T ∷ T ∷ T ∷ []
unfolding matches chars
any_text = refl

pub other_text : map (λ p. evaluate (like (text (codes "abcbd")) p) no_slots)
    (codes "b%" ∷ codes "%b" ∷ codes "a%c" ∷ codes "%x%" ∷ codes "abcb" ∷ codes "abcbdd" ∷ codes "Abcbd" ∷ codes "bcbd" ∷ codes "a&d" ∷ codes "a$d" ∷ codes "abc`d" ∷ codes "abc^d" ∷ [] ∷ [])
    ≡ F ∷ F ∷ F ∷ F ∷ F ∷ F ∷ F ∷ F ∷ F ∷ F ∷ F ∷ F ∷ F ∷ []
unfolding matches chars
other_text = refl

-- a part at the front, in the middle, at the end, the whole, nothing; a text that has its bytes but not in one piece, or that is longer
pub parts : map (λ p. evaluate (contains (text (codes "abcd")) p) no_slots) (codes "ab" ∷ codes "bc" ∷ codes "cd" ∷ codes "abcd" ∷ [] ∷ codes "bd" ∷ codes "abcde" ∷ codes "B" ∷ codes "%" ∷ [])
    ≡ T ∷ T ∷ T ∷ T ∷ T ∷ F ∷ F ∷ F ∷ F ∷ []
parts = refl

-- of NULL and of what is no text: NULL
pub of_no_text : values (like null (codes "%") ∷ like (number 1) (codes "%") ∷ contains null [] ∷ contains yes [] ∷ []) ≡ N ∷ N ∷ N ∷ N ∷ []
of_no_text = refl

-- ---- three-valued logic: true, false, NULL beside each of the three

abbrev table : (Expression → Expression → Expression) → List (Option Value)
table o = values (o yes yes ∷ o yes never ∷ o yes null ∷ o never yes ∷ o never never ∷ o never null ∷ o null yes ∷ o null never ∷ o null null ∷ [])

pub and_table : table conjunction ≡ T ∷ F ∷ N ∷ F ∷ F ∷ F ∷ N ∷ F ∷ N ∷ []
and_table = refl

pub or_table : table disjunction ≡ T ∷ T ∷ T ∷ T ∷ F ∷ N ∷ T ∷ N ∷ N ∷ []
or_table = refl

pub not_table : values (negation yes ∷ negation never ∷ negation null ∷ is_null null ∷ is_null never ∷ is_null (number 0) ∷ []) ≡ F ∷ T ∷ N ∷ T ∷ F ∷ F ∷ []
not_table = refl

-- of what is no truth value; a condition holds where it is true alone
pub no_truth_value : values (negation (number 1) ∷ conjunction (number 1) (number 1) ∷ disjunction (text []) (text []) ∷ []) ≡ N ∷ N ∷ N ∷ []
no_truth_value = refl

pub conditions : map is_true (T ∷ F ∷ N ∷ I (pos 1) ∷ S (codes "true") ∷ []) ≡ true ∷ false ∷ false ∷ false ∷ false ∷ []
conditions = refl

-- ---- rows of the first record

-- one for each language, and one for the name without a language
pub countries : map (value_at country) (rows country record_10) ≡ S (codes "us") ∷ N ∷ N ∷ S (codes "gb") ∷ []
countries = refl

-- a value above them stands in each; a value of another branch is the first of those there, as rows cut their own path alone
pub beside_countries : (map (value_at doc_id) (rows country record_10) ≡ I (pos 10) ∷ I (pos 10) ∷ I (pos 10) ∷ I (pos 10) ∷ [])
    × (map (value_at url) (rows country record_10) ≡ S (codes "http://A") ∷ S (codes "http://A") ∷ S (codes "http://B") ∷ N ∷ [])
    × (map (value_at forward) (rows country record_10) ≡ I (pos 20) ∷ I (pos 20) ∷ I (pos 20) ∷ I (pos 20) ∷ [])
beside_countries = (refl, refl, refl)

-- where the field at the end of a path is there; a group has no value; the record itself always is
pub there : (map (is_present language_level) (rows country record_10) ≡ true ∷ true ∷ false ∷ true ∷ []) × (map (is_present country) (rows country record_10) ≡ true ∷ false ∷ false ∷ true ∷ [])
    × (map (value_at name) (rows name record_10) ≡ N ∷ N ∷ N ∷ []) × (map (is_present []) (rows [] record_30) ≡ true ∷ []) × (map (is_present name) (rows name record_30) ≡ false ∷ [])
there = (refl, refl, refl, refl, refl)

-- ---- paths and levels

-- the paths of an expression from the left, of each form
pub all_paths : paths_of (conjunction (negation (like (path_value url) (codes "x"))) (disjunction (comparison less (negative (path_value doc_id)) (arithmetic plus (path_value forward) (number 1))) (conjunction (contains (path_value code) []) (is_null (path_value country)))))
    ≡ url ∷ doc_id ∷ forward ∷ code ∷ country ∷ []
all_paths = refl

-- the level of a leaf; the longer of two paths, and the first of two that are as long; the longest of several
pub levels : (chain_end url ≡ name) × (chain_end code ≡ language_level) × (chain_end name ≡ name) × (chain_end doc_id ≡ []) × (chain_end forward ≡ forward)
levels = (refl, refl, refl, refl, refl)

pub longest : (longer name country ≡ country) × (longer country name ≡ country) × (longer name doc_id ≡ name) × (longer doc_id name ≡ doc_id)
    × (longest_chain (doc_id ∷ code ∷ url ∷ []) ≡ language_level) × (longest_chain (url ∷ code ∷ []) ≡ language_level) × (longest_chain [] ≡ [])
longest = (refl, refl, refl, refl, refl, refl, refl)

pub levels_of_expressions : (expression_chain (comparison equal (path_value url) (path_value code)) ≡ language_level) × (expression_chain (number 1) ≡ []) × (expression_chain (path_value backward) ≡ backward)
levels_of_expressions = (refl, refl, refl)
