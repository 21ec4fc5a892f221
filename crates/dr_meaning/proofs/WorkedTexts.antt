-- What the laws of schema text and query text say, on small texts: their tokens with the blanks between them, and the rules of names.
use Rattle.std.specs.Prelude.{ℕ, List, [], ◌∷◌, ◌++◌, length, replicate, Some, None, codes, refl}
use Rattle.std.proofs.Common.{arith, ap, inr}
use Rattle.dr_meaning.specs.Schema.{Fields, no_fields, field, leaf, required, optional, repeated, int64_kind}
use Rattle.dr_meaning.specs.SchemaText.{Token, name, open_brace, semicolon, bad, Placed, OpenGroup, duplicate_name, bad_name, too_deep, syntax}
use Rattle.dr_meaning.specs.Tokens.{reserved, identifier, number, text, sign, placed, count_word, less_or_equal}
use Rattle.dr_meaning.specs.TokenLaws.{AreTokens, AreQueryTokens}
use Rattle.dr_meaning.specs.SchemaFaultLaws.{IsBeforeName, AllKeepRules, BreaksFirst}
use Rattle.dr_meaning.proofs.OneTokenLemmas.{one_list_of_tokens}
use Rattle.dr_meaning.proofs.OneQueryTokenLemmas.{one_list_of_query_tokens}

-- ---- tokens

abbrev at : ℕ → Token → Placed
at i t = record { place = i; token = t }

-- ` ab {`, and a byte that begins no token: blanks, the bytes of a token, the bytes behind it, and so on
pub with_blanks : AreTokens 0 (codes " ab {#") (at 1 (name (codes "ab")) ∷ at 4 open_brace ∷ at 5 bad ∷ [])
with_blanks = (codes " ", codes "ab", codes " {#", refl, refl, refl, (refl, (refl, refl)), (codes " ", codes "{", codes "#", refl, refl, refl, refl, ([], codes "#", [], refl, refl, refl, (35, refl, refl), refl)))

-- a name isn't cut in two, and no token is left out
pub not_in_two : AreTokens 0 (codes "ab") (at 0 (name (codes "a")) ∷ at 1 (name (codes "b")) ∷ []) → ⊥
not_in_two h = omega (arith, ap length (one_list_of_tokens (codes "ab") (at 0 (name (codes "a")) ∷ at 1 (name (codes "b")) ∷ []) h))

pub not_left_out : AreTokens 0 (codes "a;") (at 0 (name (codes "a")) ∷ []) → ⊥
not_left_out h = omega (arith, ap length (one_list_of_tokens (codes "a;") (at 0 (name (codes "a")) ∷ []) h))

-- `count <='a''b' "c"`: a reserved word in small letters, the longest sign, a text with a quote in it, a name in double quotes
pub query_with_blanks : AreQueryTokens 0 (codes "count <='a''b' \"c\"") (placed 0 (reserved count_word) ∷ placed 6 (sign less_or_equal) ∷ placed 8 (text (codes "a'b")) ∷ placed 15 (identifier (codes "c")) ∷ [])
query_with_blanks = (
  [],
  codes "count",
  codes " <='a''b' \"c\"",
  refl,
  refl,
  refl,
  ((refl, refl), refl),
  (
    codes " ",
    codes "<=",
    codes "'a''b' \"c\"",
    refl,
    refl,
    refl,
    refl,
    ([], codes "'a''b'", codes " \"c\"", refl, refl, refl, (refl, refl), (codes " ", codes "\"c\"", [], refl, refl, refl, inr (refl, refl), refl)),
  ),
)

-- `12` isn't 1 and 2, nor `<=` a sign and another, nor a text cut at its quotes
pub not_shorter : (AreQueryTokens 0 (codes "12") (placed 0 (number 1) ∷ placed 1 (number 2) ∷ []) → ⊥) × (AreQueryTokens 0 (codes "'a''b'") (placed 0 (text (codes "a")) ∷ placed 3 (text (codes "b")) ∷ []) → ⊥)
not_shorter = (λ h. omega (arith, ap length (one_list_of_query_tokens (codes "12") (placed 0 (number 1) ∷ placed 1 (number 2) ∷ []) h)), λ h. omega (arith, ap length (one_list_of_query_tokens (codes "'a''b'") (placed 0 (text (codes "a")) ∷ placed 3 (text (codes "b")) ∷ []) h)))

-- ---- the rules of names

-- `message T { required int64 a; optional group g { required int64 a; repeated int64`, before a name
abbrev one_field : Fields
one_field = field (codes "a") required (leaf int64_kind) no_fields

abbrev one_group : List OpenGroup
one_group = record { before = one_field; name = codes "g"; repetition = optional } ∷ []

abbrev leaf_tokens : List Token
leaf_tokens = name (codes "required") ∷ name (codes "int64") ∷ name (codes "a") ∷ semicolon ∷ []

abbrev before_name : List Token
before_name = name (codes "message") ∷ name (codes "T") ∷ open_brace ∷ (leaf_tokens ++ (name (codes "optional") ∷ name (codes "group") ∷ name (codes "g") ∷ open_brace ∷ (leaf_tokens ++ (name (codes "repeated") ∷ name (codes "int64") ∷ []))))

pub is_before_name : IsBeforeName one_group one_field (Some int64_kind) before_name
is_before_name = (codes "T", repeated, leaf_tokens ++ (name (codes "optional") ∷ name (codes "group") ∷ name (codes "g") ∷ open_brace ∷ []), leaf_tokens, refl, ([], leaf_tokens, refl, refl, (_, [], refl, refl, refl)), (_, [], refl, refl, refl))

pub all_keep_rules : AllKeepRules one_group one_field
all_keep_rules = ((refl, omega arith), refl, refl, (refl, omega arith))

-- 65 letters; `a` again; a name behind 32 open groups: each breaks its rule and none before it
pub broken_rules : BreaksFirst bad_name one_group one_field None (replicate 65 97) × BreaksFirst duplicate_name one_group one_field None (codes "a") × BreaksFirst too_deep (replicate 32 (record { before = no_fields; name = codes "g"; repetition = required })) no_fields None (codes "b")
broken_rules = (omega arith, (λ l. omega (arith, l), refl), (λ l. omega (arith, l), refl, omega arith))

-- `a` in another group is no second name; a fault that isn't of a name breaks no rule of names
pub kept_rules : (BreaksFirst duplicate_name one_group no_fields None (codes "a") → ⊥) × (BreaksFirst syntax one_group one_field None (codes "a") → ⊥)
kept_rules = (λ h. let e = h.1 in cc, λ h. h)
