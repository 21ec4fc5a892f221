-- The text of a table is read as that table.
use Rattle.std.proofs.Common.{◌≡◌, ℕ, zero, suc, ◌+◌, ◌*◌, ◌^◌, ◌≤◌, ◌<◌, List, [], ◌∷◌, ◌++◌, length, true, not, ◌&&◌, refl, sym, ap, ◌∙◌, arith, Some, Ok, append_assoc, true≢false, get_or, Option, ◌⊎◌, inl, inr}
use Rattle.std.specs.Prelude.{option_map, ◌-◌, ◌==◌, ◌||◌, nat_lt, nat_le, codes}
use Rattle.std.specs.List.{list_all}
use Rattle.std.specs.Str.{is_utf8, IsUtf8, IsAscii}
use Rattle.std.specs.Fmt.{decimal}
use Rattle.std.specs.Char.{digit_value}
use Rattle.std.specs.Str.Parse.{AllDigits, digits_value_after}
use Rattle.std.proofs.lemmas.Bool.{and_parts, and_from, or_cases, le-leb, leb-true, lt-ltb, ltb-true, ne_eqb, eq-eqb, eqb-true, not_from_false, not-true, le-ltb}
use Rattle.std.proofs.lemmas.Fmt.{decimal_is_IsNumeral, first_decimal, IsAscii-decimal}
use Rattle.std.proofs.lemmas.Str.{digit_value_digit, IsUtf8-append, IsUtf8-nil, IsUtf8-from_ascii, IsUtf8-from_is_utf8, is_utf8-from_IsUtf8}
use Rattle.std.proofs.lemmas.Str.Parse.{digit_from_value}
use Rattle.dr_meaning.specs.Schema.{Repetition, required, optional, repeated, Kind, bool_kind, int32_kind, int64_kind, text_kind, Fields, no_fields, field, Shape, leaf, group, Schema, begins_name, continues_name, is_name, is_short_name, is_group, is_shape, is_nonempty, is_schema, depth, leaf_count, greatest_depth, most_leaves}
use Rattle.dr_meaning.specs.SchemaText.{Token, name, open_brace, close_brace, semicolon, bad, repetition_word, kind_word, field_tokens, shape_tokens, token_text, before_token, separated, parse_schema, schema_text}
use Rattle.dr_meaning.proofs.SchemaReadsBack.{FirstField, first_of_group, name_of_short, canonical_reads_back}
use Rattle.dr_formats.specs.Reading.{got}
use Rattle.dr_formats.specs.TableFile.{Table, TableFault, bad_tablets, bad_copies, bad_leaf, first_line, behind_word, digits_value, number_text, number_behind, line_as, leaf_line, leaf_or_schema, leaf_lines, table_lines, outcome, parse_table, leaf_texts, table_text, most_tablets, most_leaf_lines, longest_table, is_line_text}
use Rattle.dr_formats.specs.TableLaws.{is_directory, IsTable, TableReadsBack, IsWithinLimits}
use Rattle.dr_meaning.specs.Lists.{is_empty}
use Rattle.dr_meaning.specs.Tokens.{is_digit}

-- ---- lines

abbrev pub NoEnd : List ℕ → Type 0
NoEnd t = list_all (λ b. not (b == 10)) t ≡ true

line_back : (t rest : List ℕ) → NoEnd t → first_line (t ++ 10 ∷ rest) ≡ Some (record { text = t; behind = rest })
line_back [] rest h = refl
line_back (b ∷ t) rest h =
    let p : (not (b == 10) ≡ true) × NoEnd t = and_parts _ _ h in
    rw (not-true _ p.0, line_back t rest p.1) refl

-- a line that stands for something is read as it
pub line_as_back : {A : Type 0} (e : TableFault) (f : List ℕ → Option A) (t : List ℕ) (a : A) (rest : List ℕ) → NoEnd t → f t ≡ Some a → line_as e f (t ++ 10 ∷ rest) ≡ got a rest
line_as_back e f t a rest h g = rw (line_back t rest h, g) refl

no_end_append : (t u : List ℕ) → NoEnd t → NoEnd u → NoEnd (t ++ u)
no_end_append [] u h k = k
no_end_append (b ∷ t) u h k = let p : (not (b == 10) ≡ true) × NoEnd t = and_parts _ _ h in and_from _ _ p.0 (no_end_append t u p.1 k)

word_back : (w t : List ℕ) → behind_word w (w ++ t) ≡ Some t
word_back [] t = refl
word_back (b ∷ w) t = rw (eq-eqb b b refl) (word_back w t)

-- ---- numbers

pub digits_are : (ds : List ℕ) → AllDigits 10 ds → (list_all is_digit ds ≡ true) × NoEnd ds
digits_are [] h = (refl, refl)
digits_are (d ∷ ds) h =
    let r = digit_from_value d h.0 in
    let q = digits_are ds h.1 in
    (and_from _ _ (and_from _ _ (le-leb 48 d (omega (arith, r))) (le-leb d 57 (omega (arith, r)))) q.0, and_from _ _ (not_from_false _ (ne_eqb d 10 (omega (arith, r)))) q.1)

pub same_value : (n : ℕ) (ds : List ℕ) → AllDigits 10 ds → digits_value n ds ≡ digits_value_after 10 n ds
same_value n [] h = refl
same_value n (d ∷ ds) h =
    let r = digit_from_value d h.0 in
    let e : 10 * n + (d - 48) ≡ n * 10 + digit_value d = omega (arith, digit_value_digit d r) in
    ap (λ m. digits_value m ds) e ∙ same_value (n * 10 + digit_value d) ds h.1

number_of_digits : (n : ℕ) (ds : List ℕ) → 0 < length ds → AllDigits 10 ds → digits_value_after 10 0 ds ≡ n → 48 < get_or ds 0 0 → number_text ds ≡ Some n
number_of_digits n [] l h e f = absurd (omega (arith, l))
number_of_digits n (d ∷ ds) l h e f =
    let q = digits_are (d ∷ ds) h in
    rw (q.0, ne_eqb d 48 (omega (arith, f))) (ap (λ x. Some x) (same_value 0 (d ∷ ds) h ∙ e))

number_back : (n : ℕ) → 0 < n → n < 2 ^ 64 → (number_text (decimal n) ≡ Some n) × NoEnd (decimal n)
number_back n h k =
    let p = decimal_is_IsNumeral n k in
    (number_of_digits n (decimal n) p.0.0 p.0.1 p.1 (first_decimal n h k), (digits_are (decimal n) p.0.1).1)

-- a word and a number make a line, which is read
pub numbered : (word : List ℕ) (greatest n : ℕ) → NoEnd word → greatest < 2 ^ 64 → 0 < n → n ≤ greatest → NoEnd (word ++ decimal n) × (number_behind word greatest (word ++ decimal n) ≡ Some n)
numbered word greatest n w g h k =
    let q : (number_text (decimal n) ≡ Some n) × NoEnd (decimal n) = number_back n h (omega (arith, g, k)) in
    (no_end_append word (decimal n) w q.1, rw (word_back word (decimal n), q.0, le-leb n greatest k) refl)

pub number_line : (e : TableFault) (word : List ℕ) (greatest n : ℕ) (rest : List ℕ) → NoEnd word → greatest < 2 ^ 64 → 0 < n → n ≤ greatest → line_as e (number_behind word greatest) (word ++ (decimal n ++ (10 ∷ rest))) ≡ got n rest
number_line e word greatest n rest w g h k =
    let q : NoEnd (word ++ decimal n) × (number_behind word greatest (word ++ decimal n) ≡ Some n) = numbered word greatest n w g h k in
    ap (line_as e (number_behind word greatest)) (sym (append_assoc word (decimal n) (10 ∷ rest))) ∙ line_as_back e (number_behind word greatest) (word ++ decimal n) n rest q.0 q.1

-- ---- leaf lines

abbrev AreLines : List (List ℕ) → Type 0
AreLines ds = list_all is_line_text ds ≡ true

-- a leaf line is a line, and its directory is read
pub leaf_back : (d : List ℕ) → is_line_text d ≡ true → NoEnd (codes "leaf " ++ d) × (leaf_line (codes "leaf " ++ d) ≡ Some d)
leaf_back [] h = absurd (true≢false (sym h))
leaf_back (b ∷ d) h = (no_end_append (codes "leaf ") (b ∷ d) refl (and_parts (not (is_empty (b ∷ d))) _ h).1, refl)

-- the line of a leaf behind others
pub leaf_there : (n : ℕ) (d rest : List ℕ) → is_line_text d ≡ true → line_as (bad_leaf n) (leaf_or_schema n) (codes "leaf " ++ (d ++ (10 ∷ rest))) ≡ got (Some d) rest
leaf_there n d rest h =
    let q : NoEnd (codes "leaf " ++ d) × (leaf_line (codes "leaf " ++ d) ≡ Some d) = leaf_back d h in
    line_as_back (bad_leaf n) (leaf_or_schema n) (codes "leaf " ++ d) (Some d) rest q.0 (ap (option_map Some) q.1)

schema_there : (most n : ℕ) (text : List ℕ) → 0 < n → leaf_lines most n (codes "schema" ++ (10 ∷ text)) ≡ got [] text
schema_there zero n text h = refl
schema_there (suc most) n text h = rw (lt-ltb 0 n h) refl

pub leaves_back : (most n : ℕ) (ds : List (List ℕ)) (text : List ℕ) → AreLines ds → length ds ≤ most → 0 < n + length ds → leaf_lines most n (leaf_texts ds (codes "schema" ++ (10 ∷ text))) ≡ got ds text
leaves_back most n [] text a r h = schema_there most n text (omega (arith, h))
leaves_back zero n (d ∷ ds) text a r h = absurd (omega (arith, r))
leaves_back (suc most) n (d ∷ ds) text a r h =
    let p : (is_line_text d ≡ true) × AreLines ds = and_parts _ _ a in
    let more : List ℕ = leaf_texts ds (codes "schema" ++ (10 ∷ text)) in
    let i : leaf_lines most (suc n) more ≡ got ds text = leaves_back most (suc n) ds text p.1 (omega (arith, r)) (omega arith) in
    rw (leaf_there n d more p.0, i) refl

-- ---- all lines

pub lines_back : (t : Table) (behind : List ℕ) → IsWithinLimits t → parse_schema behind ≡ Ok t.schema → outcome (table_lines (codes "dremel-table 1" ++ (10 ∷ (codes "tablets " ++ (decimal t.tablets ++ (10 ∷ (codes "copies "
    ++ (decimal t.copies ++ (10 ∷ leaf_texts t.leaves (codes "schema" ++ (10 ∷ behind))))))))))) ≡ Ok t
lines_back t behind h e =
    let l3 : List ℕ = leaf_texts t.leaves (codes "schema" ++ (10 ∷ behind)) in
    let l2 : List ℕ = codes "copies " ++ (decimal t.copies ++ (10 ∷ l3)) in
    let g1 : line_as bad_tablets (number_behind (codes "tablets ") most_tablets) (codes "tablets " ++ (decimal t.tablets ++ (10 ∷ l2))) ≡ got t.tablets l2 = number_line bad_tablets (codes "tablets ") most_tablets t.tablets l2 refl (omega arith) h.5 h.6 in
    let g2 : line_as bad_copies (number_behind (codes "copies ") most_leaf_lines) l2 ≡ got t.copies l3 = number_line bad_copies (codes "copies ") most_leaf_lines t.copies l3 refl (omega arith) h.3 (omega (arith, h.4, h.1)) in
    let i : leaf_lines most_leaf_lines 0 l3 ≡ got t.leaves behind = leaves_back most_leaf_lines 0 t.leaves behind h.2 h.1 (omega (arith, h.0)) in
    rw (g1, g2, i, le-leb t.copies (length t.leaves) h.4, e) refl

-- ---- the text is UTF-8

abbrev AreDirectories : List (List ℕ) → Type 0
AreDirectories ds = list_all is_directory ds ≡ true

directories_are_lines : (ds : List (List ℕ)) → AreDirectories ds → AreLines ds
directories_are_lines [] h = refl
directories_are_lines (d ∷ ds) h =
    let p : (is_directory d ≡ true) × AreDirectories ds = and_parts _ _ h in
    and_from _ _ (and_parts _ _ p.0).0 (directories_are_lines ds p.1)

ascii_one : (b : ℕ) → b < 128 → IsAscii (b ∷ [])
ascii_one b h zero = h
ascii_one b h (suc i) = omega arith

abbrev AreAscii : List ℕ → Type 0
AreAscii bs = list_all (λ b. nat_lt b 128) bs ≡ true

utf8_of_ascii : (bs : List ℕ) → AreAscii bs → IsUtf8 bs
utf8_of_ascii [] h = IsUtf8-nil
utf8_of_ascii (b ∷ bs) h =
    let p : (nat_lt b 128 ≡ true) × AreAscii bs = and_parts _ _ h in
    IsUtf8-append (b ∷ []) bs (IsUtf8-from_ascii (b ∷ []) (ascii_one b (ltb-true b 128 p.0))) (utf8_of_ascii bs p.1)

begins_ascii : (b : ℕ) → begins_name b ≡ true → b < 128
begins_ascii b h = by (or_cases _ _ h)
  where
    upper_or_lower : ((nat_le 65 b && nat_le b 90) ≡ true) ⊎ ((nat_le 97 b && nat_le b 122) ≡ true) → b < 128
    upper_or_lower (inl g) = let p : (nat_le 65 b ≡ true) × (nat_le b 90 ≡ true) = and_parts _ _ g in omega (arith, leb-true b 90 p.1)
    upper_or_lower (inr g) = let p : (nat_le 97 b ≡ true) × (nat_le b 122 ≡ true) = and_parts _ _ g in omega (arith, leb-true b 122 p.1)

    by : (((nat_le 65 b && nat_le b 90) || (nat_le 97 b && nat_le b 122)) ≡ true) ⊎ ((b == 95) ≡ true) → b < 128
    by (inl g) = upper_or_lower (or_cases _ _ g)
    by (inr g) = omega (arith, eqb-true b 95 g)

continues_ascii : (b : ℕ) → continues_name b ≡ true → b < 128
continues_ascii b h = by (or_cases _ _ h)
  where
    by : (begins_name b ≡ true) ⊎ ((nat_le 48 b && nat_le b 57) ≡ true) → b < 128
    by (inl g) = begins_ascii b g
    by (inr g) = let p : (nat_le 48 b ≡ true) × (nat_le b 57 ≡ true) = and_parts _ _ g in omega (arith, leb-true b 57 p.1)

all_ascii : (bs : List ℕ) → list_all continues_name bs ≡ true → AreAscii bs
all_ascii [] h = refl
all_ascii (b ∷ bs) h = let p : (continues_name b ≡ true) × (list_all continues_name bs ≡ true) = and_parts _ _ h in and_from _ _ (lt-ltb b 128 (continues_ascii b p.0)) (all_ascii bs p.1)

name_ascii : (n : List ℕ) → is_name n ≡ true → AreAscii n
name_ascii [] h = refl
name_ascii (b ∷ n) h = let p : (begins_name b ≡ true) × (list_all continues_name n ≡ true) = and_parts _ _ h in and_from _ _ (lt-ltb b 128 (begins_ascii b p.0)) (all_ascii n p.1)

abbrev AsciiTokens : List Token → Type 0
AsciiTokens [] = Unit {0}
AsciiTokens (t ∷ ts) = AreAscii (token_text t) × AsciiTokens ts

tokens_append : (ts us : List Token) → AsciiTokens ts → AsciiTokens us → AsciiTokens (ts ++ us)
tokens_append [] us h k = k
tokens_append (t ∷ ts) us h k = (h.0, tokens_append ts us h.1 k)

ascii_append : (bs ds : List ℕ) → AreAscii bs → AreAscii ds → AreAscii (bs ++ ds)
ascii_append [] ds h k = k
ascii_append (b ∷ bs) ds h k = let p : (nat_lt b 128 ≡ true) × AreAscii bs = and_parts _ _ h in and_from _ _ p.0 (ascii_append bs ds p.1 k)

before_ascii : (t : Token) → AreAscii (before_token t)
before_ascii (name n) = refl
before_ascii open_brace = refl
before_ascii close_brace = refl
before_ascii semicolon = refl
before_ascii bad = refl

separated_ascii : (ts : List Token) → AsciiTokens ts → AreAscii (separated ts)
separated_ascii [] h = refl
separated_ascii (t ∷ ts) h = ascii_append (before_token t) (token_text t ++ separated ts) (before_ascii t) (ascii_append (token_text t) (separated ts) h.0 (separated_ascii ts h.1))

repetition_ascii : (r : Repetition) → AreAscii (repetition_word r)
repetition_ascii required = refl
repetition_ascii optional = refl
repetition_ascii repeated = refl

kind_ascii : (k : Kind) → AreAscii (kind_word k)
kind_ascii bool_kind = refl
kind_ascii int32_kind = refl
kind_ascii int64_kind = refl
kind_ascii text_kind = refl

mutual
  fields_ascii : (fs : Fields) → is_group fs ≡ true → AsciiTokens (field_tokens fs)
  fields_ascii no_fields h = tt
  fields_ascii (field n r s fs) h =
      let p : FirstField n s fs = first_of_group n r s fs h in
      (repetition_ascii r, tokens_append (shape_tokens s n) (field_tokens fs) (shape_ascii s n p.0 p.2) (fields_ascii fs p.3))

  shape_ascii : (s : Shape) (n : List ℕ) → is_short_name n ≡ true → is_shape s ≡ true → AsciiTokens (shape_tokens s n)
  shape_ascii (leaf k) n h g = (kind_ascii k, (name_ascii n (name_of_short n h), (refl, tt)))
  shape_ascii (group fs) n h g = (refl, (name_ascii n (name_of_short n h), (refl, tokens_append (field_tokens fs) (close_brace ∷ []) (fields_ascii fs (and_parts _ _ g).1) (refl, tt))))

schema_ascii : (s : Schema) → is_schema s ≡ true → AreAscii (schema_text s)
unfolding schema_text
schema_ascii s h =
    let a : ((is_short_name s.name && is_shape (group s.fields) && nat_le (depth s.fields) greatest_depth) ≡ true) × (nat_le (leaf_count s.fields) most_leaves ≡ true) = and_parts _ _ h in
    let b : ((is_short_name s.name && is_shape (group s.fields)) ≡ true) × (nat_le (depth s.fields) greatest_depth ≡ true) = and_parts _ _ a.0 in
    let c : (is_short_name s.name ≡ true) × (is_shape (group s.fields) ≡ true) = and_parts _ _ b.0 in
    let d : (is_nonempty s.fields ≡ true) × (is_group s.fields ≡ true) = and_parts _ _ c.1 in
    separated_ascii (name s.name ∷ open_brace ∷ (field_tokens s.fields ++ close_brace ∷ [])) (name_ascii s.name (name_of_short s.name c.0), (refl, tokens_append (field_tokens s.fields) (close_brace ∷ []) (fields_ascii s.fields d.1) (refl, tt)))

leaf_texts_utf8 : (ds : List (List ℕ)) (behind : List ℕ) → AreDirectories ds → IsUtf8 behind → IsUtf8 (leaf_texts ds behind)
leaf_texts_utf8 [] behind a h = h
leaf_texts_utf8 (d ∷ ds) behind a h =
    let p : (is_directory d ≡ true) × AreDirectories ds = and_parts _ _ a in
    let q : (is_line_text d ≡ true) × (is_utf8 d ≡ true) = and_parts _ _ p.0 in
    IsUtf8-append (codes "leaf ") (d ++ (10 ∷ leaf_texts ds behind)) (utf8_of_ascii (codes "leaf ") refl) (IsUtf8-append d (10 ∷ leaf_texts ds behind) (IsUtf8-from_is_utf8 d q.1) (IsUtf8-append (10 ∷ []) (leaf_texts ds behind) (utf8_of_ascii (10 ∷ []) refl) (leaf_texts_utf8 ds behind p.1 h)))

line_utf8 : (t rest : List ℕ) → IsUtf8 t → IsUtf8 rest → IsUtf8 (t ++ (10 ∷ rest))
line_utf8 t rest h k = IsUtf8-append t (10 ∷ rest) h (IsUtf8-append (10 ∷ []) rest (utf8_of_ascii (10 ∷ []) refl) k)

decimal_utf8 : (n : ℕ) → n < 2 ^ 64 → IsUtf8 (decimal n)
decimal_utf8 n h = IsUtf8-from_ascii (decimal n) (IsAscii-decimal n h)

text_utf8 : (t : Table) → IsTable t → IsUtf8 (table_text t)
unfolding table_text
text_utf8 t h =
    let l4 : List ℕ = schema_text t.schema in
    let l3 : List ℕ = leaf_texts t.leaves (codes "schema" ++ (10 ∷ l4)) in
    let l2 : List ℕ = decimal t.copies ++ (10 ∷ l3) in
    let l1 : List ℕ = decimal t.tablets ++ (10 ∷ (codes "copies " ++ l2)) in
    line_utf8 (codes "dremel-table 1") (codes "tablets " ++ l1) (utf8_of_ascii (codes "dremel-table 1") refl)
    (IsUtf8-append (codes "tablets ") l1 (utf8_of_ascii (codes "tablets ") refl)
    (line_utf8 (decimal t.tablets) (codes "copies " ++ l2) (decimal_utf8 t.tablets (omega (arith, h.7)))
    (IsUtf8-append (codes "copies ") l2 (utf8_of_ascii (codes "copies ") refl)
    (line_utf8 (decimal t.copies) l3 (decimal_utf8 t.copies (omega (arith, h.5, h.2)))
    (leaf_texts_utf8 t.leaves (codes "schema" ++ (10 ∷ l4)) h.3
    (line_utf8 (codes "schema") l4 (utf8_of_ascii (codes "schema") refl) (utf8_of_ascii l4 (schema_ascii t.schema h.0))))))))

pub table_reads_back : TableReadsBack
unfolding parse_table table_text
table_reads_back t h k l = rw (le-ltb longest_table (length (table_text t)) l, is_utf8-from_IsUtf8 (table_text t) (text_utf8 t h)) (lines_back t (schema_text t.schema) (h.1, h.2, directories_are_lines t.leaves h.3, h.4, h.5, h.6, h.7) (canonical_reads_back t.schema h.0 k))
