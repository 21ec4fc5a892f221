-- The tokens of query text, by computation.
use Rattle.std.specs.Prelude.{◌≡◌, ℕ, ◌-◌, ◌^◌, List, [], ◌∷◌, ◌++◌, map, codes, refl}
use Rattle.dr_meaning.specs.Tokens.{QueryToken, Sign, reserved, identifier, number, text, sign, bad, placed, query_tokens, bare_tokens, select_word, from_word, where_word, group_word, by_word, as_word, within_word, record_word, and_word, or_word, not_word, like_word, contains_word, is_word, null_word, true_word, false_word, count_word, sum_word, min_word, max_word, comma, open_parenthesis, close_parenthesis, dot, star, plus_sign, minus_sign, equals, differs, less_than, less_or_equal, greater_than, greater_or_equal, semicolon}
use Rattle.dr_meaning.specs.Parse.{sign_bytes}

abbrev tokens : List ℕ → List QueryToken
tokens t = bare_tokens (query_tokens t)

-- ---- words and names

-- each reserved word, in letters of either case
pub words : tokens (codes "Select from WHERE group By aS within RECORD and or not LIKE contains is null true false count Sum MIN max") ≡
    reserved select_word ∷ reserved from_word ∷ reserved where_word ∷ reserved group_word ∷ reserved by_word ∷ reserved as_word ∷ reserved within_word ∷ reserved record_word
    ∷ reserved and_word ∷ reserved or_word ∷ reserved not_word ∷ reserved like_word ∷ reserved contains_word ∷ reserved is_word ∷ reserved null_word ∷ reserved true_word ∷ reserved false_word
    ∷ reserved count_word ∷ reserved sum_word ∷ reserved min_word ∷ reserved max_word ∷ []
words = refl

-- names keep their letters; a longer name is no reserved word; a reserved word in double quotes is a name
pub names : tokens (codes "Name selected _ a_9 \"select\" \"Name\"") ≡
    identifier (codes "Name") ∷ identifier (codes "selected") ∷ identifier (codes "_") ∷ identifier (codes "a_9") ∷ identifier (codes "select") ∷ identifier (codes "Name") ∷ []
names = refl

-- what isn't a name is none in double quotes either; an unclosed quote is bad
pub bad_names : map tokens (codes "\"a b\"" ∷ codes "\"\"" ∷ codes "\"9a\"" ∷ codes "\"a" ∷ codes "\"" ∷ []) ≡ (bad ∷ []) ∷ (bad ∷ []) ∷ (bad ∷ []) ∷ (bad ∷ []) ∷ (bad ∷ []) ∷ []
bad_names = refl

-- ---- numbers

-- 2^63 - 1 is a number, one more isn't; zeros may stand before; a name may follow at once
pub numbers : map tokens (codes "0" ∷ codes "0012" ∷ codes "9223372036854775807" ∷ codes "9223372036854775808" ∷ codes "12a" ∷ codes "1.5" ∷ []) ≡
    (number 0 ∷ []) ∷ (number 12 ∷ []) ∷ (number (2 ^ 63 - 1) ∷ []) ∷ (bad ∷ []) ∷ (number 12 ∷ identifier (codes "a") ∷ []) ∷ (number 1 ∷ sign dot ∷ number 5 ∷ []) ∷ []
numbers = refl

-- ---- texts

-- a text, the empty text, `''` for a quote inside and at either end, two texts beside each other, any bytes
pub texts : map tokens (codes "'abc'" ∷ codes "''" ∷ codes "'a''b'" ∷ codes "'''a'" ∷ codes "'a'''" ∷ codes "''''" ∷ codes "'a' 'b'" ∷ codes "'a'b" ∷ (39 ∷ 195 ∷ 169 ∷ 10 ∷ 34 ∷ 39 ∷ []) ∷ []) ≡
    (text (codes "abc") ∷ []) ∷ (text [] ∷ []) ∷ (text (codes "a'b") ∷ []) ∷ (text (codes "'a") ∷ []) ∷ (text (codes "a'") ∷ []) ∷ (text (codes "'") ∷ []) ∷ (text (codes "a") ∷ text (codes "b") ∷ [])
    ∷ (text (codes "a") ∷ identifier (codes "b") ∷ []) ∷ (text (195 ∷ 169 ∷ 10 ∷ 34 ∷ []) ∷ []) ∷ []
texts = refl

-- an unclosed text is bad at its first byte, also where it ends with a doubled quote
pub unclosed_texts : map query_tokens (codes "a 'abc''" ∷ codes "a 'abc" ∷ codes "'" ∷ []) ≡
    (placed 0 (identifier (codes "a")) ∷ placed 2 bad ∷ []) ∷ (placed 0 (identifier (codes "a")) ∷ placed 2 bad ∷ []) ∷ (placed 0 bad ∷ []) ∷ []
unclosed_texts = refl

-- ---- signs

abbrev all_signs : List Sign
all_signs = comma ∷ open_parenthesis ∷ close_parenthesis ∷ dot ∷ star ∷ plus_sign ∷ minus_sign ∷ equals ∷ differs ∷ less_than ∷ less_or_equal ∷ greater_than ∷ greater_or_equal ∷ semicolon ∷ []

pub signs : tokens (codes ",().*+-=<><<=>>=;") ≡ sign comma ∷ sign open_parenthesis ∷ sign close_parenthesis ∷ sign dot ∷ sign star ∷ sign plus_sign ∷ sign minus_sign ∷ sign equals
    ∷ sign differs ∷ sign less_than ∷ sign less_or_equal ∷ sign greater_than ∷ sign greater_or_equal ∷ sign semicolon ∷ []
signs = refl

-- the bytes of each sign are its token
pub bytes_of_signs : map (λ (s : Sign). tokens (sign_bytes s)) all_signs ≡ map (λ (s : Sign). sign s ∷ []) all_signs
bytes_of_signs = refl

-- the longest sign is taken, also at the text's end; a blank between two bytes parts them
pub longest_signs : map tokens (codes "<>=" ∷ codes "<" ∷ codes ">" ∷ codes "< >" ∷ codes "< =" ∷ codes "> =" ∷ codes "><" ∷ codes "a<b" ∷ codes "a>b" ∷ []) ≡
    (sign differs ∷ sign equals ∷ []) ∷ (sign less_than ∷ []) ∷ (sign greater_than ∷ []) ∷ (sign less_than ∷ sign greater_than ∷ []) ∷ (sign less_than ∷ sign equals ∷ []) ∷ (sign greater_than ∷ sign equals ∷ []) ∷ (sign greater_than ∷ sign less_than ∷ [])
    ∷ (identifier (codes "a") ∷ sign less_than ∷ identifier (codes "b") ∷ []) ∷ (identifier (codes "a") ∷ sign greater_than ∷ identifier (codes "b") ∷ []) ∷ []
longest_signs = refl

-- what begins no token is bad, a byte each
pub strange_bytes : (tokens (codes "!#" ++ 195 ∷ 169 ∷ []) ≡ bad ∷ bad ∷ bad ∷ bad ∷ []) × (tokens (codes "/:@[`{") ≡ bad ∷ bad ∷ bad ∷ bad ∷ bad ∷ bad ∷ []) × (tokens (codes "1/2:3") ≡ number 1 ∷ bad ∷ number 2 ∷ bad ∷ number 3 ∷ [])
strange_bytes = (refl, refl, refl)

-- ---- places

-- each token with the place of its first byte; blanks are space, tab, CR and LF
pub places : query_tokens (codes " a\t12\r\n'x''y' <= \"b\"<c;") ≡
    placed 1 (identifier (codes "a")) ∷ placed 3 (number 12) ∷ placed 7 (text (codes "x'y")) ∷ placed 14 (sign less_or_equal) ∷ placed 17 (identifier (codes "b")) ∷ placed 20 (sign less_than) ∷ placed 21 (identifier (codes "c")) ∷ placed 22 (sign semicolon) ∷ []
places = refl
