-- Each fault of a schema text with its place, and what is accepted, by computation.
use Rattle.std.specs.Prelude.{◌≡◌, ℕ, zero, suc, List, [], ◌∷◌, ◌++◌, map, length, replicate, Bool, true, false, Result, Ok, Err, codes, refl}
use Rattle.std.specs.List.{flat_map}
use Rattle.dr_meaning.specs.Schema.{Fields, no_fields, field, leaf, group, Schema, required, optional, repeated, bool_kind, int32_kind, int64_kind, text_kind, begins_name, continues_name, is_name, is_short_name, is_schema}
use Rattle.dr_meaning.specs.SchemaText.{SchemaProblem, SchemaFault, parse_schema, read_tokens, tokens_of, reading_start, schema_text, too_long, syntax, float_kind, empty_group, bad_name, duplicate_name, too_deep, too_many_leaves}

abbrev fault : ℕ → SchemaProblem → Result Schema SchemaFault
fault i p = Err (record { place = i; problem = p })

-- a kind of another name; a repetition that isn't one; a name that begins with a digit; a text that isn't a schema's
pub words_of_no_kind : map parse_schema (
    codes "message T { required integer a; }" ∷ codes "message T { always int64 a; }" ∷ codes "message T { required int64 1a; }" ∷
    codes "table T { required int64 a; }" ∷ codes "message T { required ; }" ∷ []) ≡
    fault 21 syntax ∷ fault 12 syntax ∷ fault 27 syntax ∷ fault 0 syntax ∷ fault 21 syntax ∷ []
unfolding parse_schema
words_of_no_kind = refl

-- the end of the text, where more is needed
pub ends_too_early : map parse_schema (
    [] ∷ codes "message" ∷ codes "message T" ∷ codes "message T {" ∷ codes "message T { required" ∷ codes "message T { required int64" ∷
    codes "message T { required int64 a" ∷ codes "message T { required int64 a;" ∷ codes "message T { optional group g" ∷
    codes "message T { optional group g { required int64 a; }" ∷ []) ≡
    fault 0 syntax ∷ fault 7 syntax ∷ fault 9 syntax ∷ fault 11 syntax ∷ fault 20 syntax ∷ fault 26 syntax ∷ fault 28 syntax ∷ fault 29 syntax ∷
    fault 28 syntax ∷ fault 50 syntax ∷ []
unfolding parse_schema
ends_too_early = refl

-- a token where another one must stand
pub other_tokens : map parse_schema (
    codes "message { required int64 a; }" ∷ codes "message T required" ∷ codes "message T ; " ∷ codes "message T }" ∷
    codes "message T { required int64 a }" ∷ codes "message T { required int64 a b; }" ∷ codes "message T { required {" ∷
    codes "message T { required int64 {" ∷ codes "message T { required int64 a; ;}" ∷ codes "message T { optional group g ;}" ∷
    codes "message T { optional group g h" ∷ codes "message T { {" ∷ codes "message T { ;" ∷ codes "{" ∷ codes "}" ∷ []) ≡
    fault 8 syntax ∷ fault 10 syntax ∷ fault 10 syntax ∷ fault 10 syntax ∷ fault 29 syntax ∷ fault 29 syntax ∷ fault 21 syntax ∷ fault 27 syntax ∷
    fault 30 syntax ∷ fault 29 syntax ∷ fault 29 syntax ∷ fault 12 syntax ∷ fault 12 syntax ∷ fault 0 syntax ∷ fault 0 syntax ∷ []
unfolding parse_schema
other_tokens = refl

-- behind the message nothing may stand; behind a group one `;` may
pub behind_the_end : map parse_schema (
    codes "message T { required int64 a; } x" ∷ codes "message T { required int64 a; };" ∷ codes "message T { required int64 a; }}" ∷
    codes "message T { required int64 a; } {" ∷ codes "message T { optional group g { required int64 a; }; ; }" ∷
    codes "message T { optional group g { required int64 a; } {" ∷ []) ≡
    fault 32 syntax ∷ fault 31 syntax ∷ fault 31 syntax ∷ fault 32 syntax ∷ fault 52 syntax ∷ fault 51 syntax ∷ []
unfolding parse_schema
behind_the_end = refl

-- a byte that begins no token, and one that is no UTF-8
pub strange_bytes : map parse_schema (
    codes "message T { required int64 -a; }" ∷ codes "message T { required int64 a-b; }" ∷ codes "!" ∷ []) ≡
    fault 27 syntax ∷ fault 28 syntax ∷ fault 0 syntax ∷ []
unfolding parse_schema
strange_bytes = refl

-- `float` and `double`, where a kind may stand and nowhere else
pub floats : map parse_schema (
    codes "message T { required float x; }" ∷ codes "message T { required double x; }" ∷ codes "message T { double x; }" ∷ []) ≡
    fault 21 float_kind ∷ fault 21 float_kind ∷ fault 12 syntax ∷ []
unfolding parse_schema
floats = refl

-- a `}` directly behind a `{`, of the message and of a group
pub empty_groups : map parse_schema (
    codes "message T {}" ∷ codes "message T { optional group g { } }" ∷ codes "message T { required int64 a; optional group g {}" ∷ []) ≡
    fault 11 empty_group ∷ fault 31 empty_group ∷ fault 48 empty_group ∷ []
unfolding parse_schema
empty_groups = refl

-- a name of an earlier field of the same group, of a leaf and of a group
pub second_names : map parse_schema (
    codes "message T { required int64 a; optional string a; }" ∷
    codes "message T { required int64 a; required int64 b; optional group a { required int64 a; } }" ∷
    codes "message T { optional group g { required int64 a; } repeated int64 g; }" ∷
    codes "message T { optional group g { required int64 a; required int64 a; } }" ∷ []) ≡
    fault 46 duplicate_name ∷ fault 63 duplicate_name ∷ fault 66 duplicate_name ∷ fault 64 duplicate_name ∷ []
unfolding parse_schema
second_names = refl

-- a text that isn't ASCII: the first byte of a character begins no token
pub two_byte_name : parse_schema (codes "message T { required int64 " ++ 195 ∷ 169 ∷ codes "; }") ≡ fault 27 syntax
unfolding parse_schema
two_byte_name = refl

-- ---- names

abbrev letters : ℕ → List ℕ
letters n = replicate n 97

abbrev message_of : List ℕ → List ℕ
message_of n = codes "message " ++ (n ++ codes " { required int64 a; }")

abbrev leaf_of : List ℕ → List ℕ
leaf_of n = codes "message T { required int64 " ++ (n ++ codes "; }")

abbrev group_of : List ℕ → List ℕ
group_of n = codes "message T { optional group " ++ (n ++ codes " { required int64 a; } }")

-- 65 letters are one too many for a message, a leaf and a group, at the name
pub long_names : map parse_schema (message_of (letters 65) ∷ leaf_of (letters 65) ∷ group_of (letters 65) ∷ []) ≡ fault 8 bad_name ∷ fault 27 bad_name ∷ fault 27 bad_name ∷ []
unfolding parse_schema
long_names = refl

pub longest_names : map parse_schema (message_of (letters 64) ∷ leaf_of (letters 64) ∷ group_of (letters 64) ∷ []) ≡
    Ok (record { name = letters 64; fields = field (codes "a") required (leaf int64_kind) no_fields })
    ∷ Ok (record { name = codes "T"; fields = field (letters 64) required (leaf int64_kind) no_fields })
    ∷ Ok (record { name = codes "T"; fields = field (letters 64) optional (group (field (codes "a") required (leaf int64_kind) no_fields)) no_fields }) ∷ []
unfolding parse_schema
longest_names = refl

-- letters, `_`, digits behind the first; the bytes beside each range
pub name_bytes : (map begins_name (64 ∷ 65 ∷ 90 ∷ 91 ∷ 94 ∷ 95 ∷ 96 ∷ 97 ∷ 122 ∷ 123 ∷ 48 ∷ 57 ∷ []) ≡ false ∷ true ∷ true ∷ false ∷ false ∷ true ∷ false ∷ true ∷ true ∷ false ∷ false ∷ false ∷ [])
    × (map continues_name (47 ∷ 48 ∷ 57 ∷ 58 ∷ 64 ∷ 65 ∷ 90 ∷ 91 ∷ 95 ∷ 97 ∷ 122 ∷ 123 ∷ []) ≡ false ∷ true ∷ true ∷ false ∷ false ∷ true ∷ true ∷ false ∷ true ∷ true ∷ true ∷ false ∷ [])
name_bytes = (refl, refl)

pub names : (map is_name (codes "_" ∷ codes "A9_z" ∷ [] ∷ codes "9a" ∷ codes "a-b" ∷ codes "a." ∷ []) ≡ true ∷ true ∷ false ∷ false ∷ false ∷ false ∷ []) × (map is_short_name (letters 64 ∷ letters 65 ∷ [] ∷ []) ≡ true ∷ false ∷ false ∷ [])
names = (refl, refl)

-- ---- the limits

-- so many groups in one another, and the fields of the innermost
abbrev nested : ℕ → List ℕ → List ℕ
nested zero inside = inside
nested (suc n) inside = codes "optional group g { " ++ (nested n inside ++ codes " }")

abbrev message : List ℕ → List ℕ
message inside = codes "message T { " ++ (inside ++ codes " }")

abbrev nested_fields : ℕ → Fields
nested_fields zero = field (codes "a") required (leaf int64_kind) no_fields
nested_fields (suc n) = field (codes "g") optional (group (nested_fields n)) no_fields

-- a path of 32 parts; the name of a leaf or of a group whose path would have 33
pub deepest : parse_schema (message (nested 31 (codes "required int64 a;"))) ≡ Ok (record { name = codes "T"; fields = nested_fields 31 })
unfolding parse_schema
deepest = refl

pub one_too_deep : (parse_schema (message (nested 32 (codes "required int64 a;"))) ≡ fault 635 too_deep) × (parse_schema (message (nested 33 (codes "required int64 a;"))) ≡ fault 635 too_deep)
unfolding parse_schema
one_too_deep = (refl, refl)

-- the letters of the alphabet and six more
abbrev thirty_two : List ℕ
thirty_two = codes "abcdefghijklmnopqrstuvwxyzABCDEF"

abbrev thirty_two_leaves : List ℕ
thirty_two_leaves = flat_map (λ b. codes "required int64 " ++ b ∷ codes "; ") thirty_two

-- 32 groups of 32 leaves, and what stands behind them
abbrev with_1024 : List ℕ → List ℕ
with_1024 behind = message (flat_map (λ b. codes "optional group " ++ b ∷ (codes " { " ++ (thirty_two_leaves ++ codes "} "))) thirty_two ++ behind)

abbrev is_accepted : Result Schema SchemaFault → Bool
is_accepted (Ok s) = is_schema s
is_accepted (Err e) = false

pub most_leaves_fit : is_accepted (parse_schema (with_1024 [])) ≡ true
unfolding parse_schema
most_leaves_fit = refl

-- the 1,025th leaf at its name
pub one_leaf_more : parse_schema (with_1024 (codes "required int64 Z;")) ≡ fault 19131 too_many_leaves
unfolding parse_schema
one_leaf_more = refl

-- more than 1,048,576 bytes come before any other fault
pub too_long_first : (text : List ℕ) → length text ≡ 1048577 → parse_schema text ≡ fault 1048576 too_long
unfolding parse_schema
too_long_first text e = rw e refl

-- 1,048,576 bytes are read
pub longest_text : (text : List ℕ) → length text ≡ 1048576 → parse_schema text ≡ read_tokens 1048576 (tokens_of text) reading_start
unfolding parse_schema
longest_text text e = rw e refl

-- a byte that is no brace doesn't stand for one
pub no_braces : map parse_schema (codes "message T ! required int64 a; }" ∷ codes "message T { required int64 a: }" ∷ codes "message T { required int64 a; |" ∷ codes "message T z required int64 a; }" ∷ []) ≡ fault 10 syntax ∷ fault 28 syntax ∷ fault 30 syntax ∷ fault 10 syntax ∷ []
unfolding parse_schema
no_braces = refl

-- ---- what is accepted

abbrev field_of_each_kind : Fields
field_of_each_kind = field (codes "required") required (leaf bool_kind) (field (codes "message") optional (leaf int32_kind)
    (field (codes "group") repeated (group (field (codes "A") repeated (leaf int64_kind) (field (codes "a") optional (leaf text_kind) no_fields))) no_fields))

abbrev each_kind : Schema
each_kind = record { name = codes "message"; fields = field_of_each_kind }

-- each repetition and kind; words of the grammar as names; blanks of each kind or none; a `;` behind a group; names told apart by case
pub blanks_and_words : parse_schema (codes "\r\n\tmessage message{required boolean required;optional\tint32 message;\nrepeated group group{repeated int64\r\nA;optional string a ;};}\n") ≡ Ok each_kind
unfolding parse_schema
blanks_and_words = refl

pub canonical_text : schema_text each_kind ≡ codes "message message { required boolean required; optional int32 message; repeated group group { repeated int64 A; optional string a; } }\n"
unfolding schema_text
canonical_text = refl

-- ---- which schemas are within the rules

abbrev schema_with : Fields → Schema
schema_with fs = record { name = codes "T"; fields = fs }

abbrev id : List ℕ → Fields → Fields
id n fs = field n required (leaf int64_kind) fs

-- no field; an empty group; a second name; a name too long; a message's name that is none; a path of 32 parts, of 33
pub schemas : map is_schema (schema_with (id (codes "a") no_fields) ∷ schema_with no_fields ∷ schema_with (field (codes "g") optional (group no_fields) no_fields) ∷ schema_with (id (codes "a") (id (codes "b") (id (codes "a") no_fields)))
    ∷ schema_with (id (letters 65) no_fields) ∷ record { name = codes "9"; fields = id (codes "a") no_fields } ∷ schema_with (nested_fields 31) ∷ schema_with (nested_fields 32) ∷ [])
    ≡ true ∷ false ∷ false ∷ false ∷ false ∷ false ∷ true ∷ false ∷ []
schemas = refl
