-- Made lines in pieces.
use Rattle.std.specs.Prelude.{◌≡◌, ◌<◌, ◌≤◌, ◌^◌, ℕ, zero, suc, ◌+◌, ◌-◌, ◌*◌, ◌%◌, List, [], ◌∷◌, ◌++◌, Bool, true, false, not, ◌==◌, nat_lt, flat_map, codes, decimal}
use Rattle.std.specs.List.{join_with_byte}
use Rattle.std.proofs.Common.{refl, sym, ap, ap₂, ◌∙◌, arith, append_assoc, append-nil}
use Rattle.std.proofs.lemmas.List.{flat_map_more}
use Rattle.std.proofs.lemmas.Fmt.{decimal_by_steps}
use Rattle.json.specs.Print.{escape_byte}
use Rattle.dr_meaning.specs.Schema.{group}
use Rattle.dr_meaning.specs.Record.{Instance, inner, slot, no_slots, Instances, single}
use Rattle.dr_meaning.specs.Print.{instance_texts, shape_text, record_text, atom_text}
use Rattle.dr_gen.specs.Document.{document_fields, links_fields}
use Rattle.dr_gen.specs.Generator.{is_even, number, numbered, given, several_from, several, language, name, links, record_of, line_of}
use Rattle.dr_gen.specs.Pieces.{several_text, numbers_text, language_text, name_text, country_piece, url_piece, links_piece}
use Rattle.dr_meaning.specs.Lists.{comma_if, separated}

-- ---- parts separated by commas

more_than_none : (k : ℕ) → nat_lt 0 (k + 1) ≡ true
more_than_none k = grind arith

commas : (p : List ℕ) (ps : List (List ℕ)) → join_with_byte 44 (p ∷ ps) ≡ p ++ separated true ps
commas p [] = sym (append-nil p)
commas p (q ∷ ps) = ap (λ (t : List ℕ). p ++ 44 ∷ t) (commas q ps)

separated-all : (ps : List (List ℕ)) → separated false ps ≡ join_with_byte 44 ps
separated-all [] = refl
separated-all (p ∷ ps) = sym (commas p ps)

-- with the instances from number k on it is all of them
abbrev pub Parts : (Instance → List ℕ) → (ℕ → Instance) → ℕ → ℕ → List ℕ → List ℕ → Type 0
Parts text f n k old now =
    now ++ separated (nat_lt 0 k) (instance_texts text (several_from k (n - k) f)) ≡ old ++ separated false (instance_texts text (several n f))

all_left : (n : ℕ) → n - 0 ≡ n
all_left n = omega arith

pub parts_begin : (text : Instance → List ℕ) (f : ℕ → Instance) (n : ℕ) (old : List ℕ) → Parts text f n 0 old old
parts_begin text f n old = ap (λ m. old ++ separated false (instance_texts text (several_from 0 m f))) (all_left n)

one_left : (n k : ℕ) → k < n → n - k ≡ suc (n - (k + 1))
one_left n k h = omega (arith, h)

one_more : (k : ℕ) → k + 1 ≡ suc k
one_more k = omega arith

pub parts_more : (text : Instance → List ℕ) (f : ℕ → Instance) (n k : ℕ) (old now t u : List ℕ) → k < n → t ≡ now ++ comma_if (nat_lt 0 k) → u ≡ t ++ text (f k)
    → Parts text f n k old now → Parts text f n (k + 1) old u
parts_more text f n k old now t u h e g so_far =
    let rest : List (List ℕ) = instance_texts text (several_from (suc k) (n - (k + 1)) f) in
    let next : now ++ separated (nat_lt 0 k) (instance_texts text (several_from k (n - k) f)) ≡ now ++ (comma_if (nat_lt 0 k) ++ (text (f k) ++ separated true rest)) =
    ap (λ m. now ++ separated (nat_lt 0 k) (instance_texts text (several_from k m f))) (one_left n k h) in
    ap₂ (λ (b : Bool) i. u ++ separated b (instance_texts text (several_from i (n - (k + 1)) f))) (more_than_none k) (one_more k)
    ∙ ap (λ (x : List ℕ). x ++ separated true rest) (g ∙ ap (λ (x : List ℕ). x ++ text (f k)) e)
    ∙ append_assoc (now ++ comma_if (nat_lt 0 k)) (text (f k)) (separated true rest)
    ∙ append_assoc now (comma_if (nat_lt 0 k)) (text (f k) ++ separated true rest)
    ∙ sym next
    ∙ so_far

none_left : (n k : ℕ) → n ≤ k → n - k ≡ 0
none_left n k h = omega (arith, h)

pub parts_end : (text : Instance → List ℕ) (f : ℕ → Instance) (n k : ℕ) (old now : List ℕ) → n ≤ k → Parts text f n k old now → now ≡ old ++ several_text text n f
parts_end text f n k old now h so_far =
    sym (ap (λ m. now ++ separated (nat_lt 0 k) (instance_texts text (several_from k m f))) (none_left n k h) ∙ append-nil now)
    ∙ so_far
    ∙ ap (λ (x : List ℕ). old ++ x) (separated-all (instance_texts text (several n f)))

-- ---- digits are written as they are

escape_digit : (n : ℕ) → n < 10 → escape_byte (48 + n) ≡ (48 + n) ∷ []
unfolding escape_byte
escape_digit zero h = refl
escape_digit (suc zero) h = refl
escape_digit (suc (suc zero)) h = refl
escape_digit (suc (suc (suc zero))) h = refl
escape_digit (suc (suc (suc (suc zero)))) h = refl
escape_digit (suc (suc (suc (suc (suc zero))))) h = refl
escape_digit (suc (suc (suc (suc (suc (suc zero)))))) h = refl
escape_digit (suc (suc (suc (suc (suc (suc (suc zero))))))) h = refl
escape_digit (suc (suc (suc (suc (suc (suc (suc (suc zero)))))))) h = refl
escape_digit (suc (suc (suc (suc (suc (suc (suc (suc (suc zero))))))))) h = refl
escape_digit (suc (suc (suc (suc (suc (suc (suc (suc (suc (suc n)))))))))) h = absurd (omega (arith, h))

digit : (n : ℕ) → n < 10 → flat_map escape_byte ((48 + n) ∷ []) ≡ (48 + n) ∷ []
digit n h = ap (λ (x : List ℕ). x ++ []) (escape_digit n h)

below_ten : (n : ℕ) → n % 10 < 10
below_ten n = omega arith

digits_behind : (n : ℕ) (ds : List ℕ) → flat_map escape_byte ds ≡ ds → flat_map escape_byte (ds ++ (48 + n % 10) ∷ []) ≡ ds ++ (48 + n % 10) ∷ []
digits_behind n ds e =
    sym (flat_map_more escape_byte [] ds (48 + n % 10)) ∙ ap₂ (λ (x y : List ℕ). x ++ y) e (escape_digit (n % 10) (below_ten n))

pub escape_decimal : (n : ℕ) → n < 2 ^ 64 → flat_map escape_byte (decimal n) ≡ decimal n
escape_decimal n h = decimal_by_steps (λ m ds. flat_map escape_byte ds ≡ ds) digit (λ m ds _ e. digits_behind m ds e) n h

-- ---- a language

closed_language : (d n e : List ℕ) → ((d ++ 34 ∷ []) ++ (n ++ (e ++ 34 ∷ []))) ++ 125 ∷ [] ≡ d ++ ((34 ∷ (n ++ e)) ++ 34 ∷ 125 ∷ [])
closed_language d n e = simp append_assoc

language_parts : (a b : ℕ) (t : Bool) → a < 2 ^ 64 → b < 2 ^ 64
    → language_text (inner (slot (single (numbered (codes "c") a)) (slot (given t (numbered (codes "n") b)) no_slots)))
    ≡ codes "{\"Code\":\"c" ++ (decimal a ++ (country_piece t b ++ codes "\"}"))
unfolding escape_byte
language_parts a b true h i = rw (escape_decimal a h, escape_decimal b i) (ap (λ (y : List ℕ). codes "{\"Code\":\"c" ++ y) (closed_language (decimal a) (codes ",\"Country\":\"n") (decimal b)))
language_parts a b false h i = rw (escape_decimal a h) (ap (λ (y : List ℕ). codes "{\"Code\":\"c" ++ y) (append_assoc (decimal a) (34 ∷ []) (125 ∷ [])))

-- pieces, one behind another
behind_3 : (o a b c d : List ℕ) → (((o ++ a) ++ b) ++ c) ++ d ≡ o ++ (a ++ (b ++ (c ++ d)))
behind_3 o a b c d = simp append_assoc

behind_4 : (o a b c d e : List ℕ) → ((((o ++ a) ++ b) ++ c) ++ d) ++ e ≡ o ++ (a ++ (b ++ (c ++ (d ++ e))))
behind_4 o a b c d e = simp append_assoc

behind_5 : (o a b c d e f : List ℕ) → (((((o ++ a) ++ b) ++ c) ++ d) ++ e) ++ f ≡ o ++ (a ++ (b ++ (c ++ (d ++ (e ++ f)))))
behind_5 o a b c d e f = simp append_assoc

code_small : (n : ℕ) → n % 100 < 2 ^ 64
code_small n = omega arith

country_small : (n : ℕ) → n % 10 < 2 ^ 64
country_small n = omega arith

pub language_done : (x j k : ℕ) (old t u v : List ℕ)
    → t ≡ (old ++ codes "{\"Code\":\"c") ++ decimal ((x + j + k) % 100)
    → u ≡ t ++ country_piece (is_even (x + j + k)) ((x + k) % 10) → v ≡ u ++ codes "\"}"
    → v ≡ old ++ language_text (language x j k)
language_done x j k old t u v e f g =
    let a : List ℕ = codes "{\"Code\":\"c" in
    let b : List ℕ = decimal ((x + j + k) % 100) in
    let c : List ℕ = country_piece (is_even (x + j + k)) ((x + k) % 10) in
    let d : List ℕ = codes "\"}" in
    g ∙ ap (λ (y : List ℕ). y ++ d) (f ∙ ap (λ (y : List ℕ). y ++ c) e)
    ∙ behind_3 old a b c d
    ∙ ap (λ (y : List ℕ). old ++ y) (sym (language_parts ((x + j + k) % 100) ((x + k) % 10) (is_even (x + j + k)) (code_small (x + j + k)) (country_small (x + k))))

-- ---- a name

closed_name : (j u : List ℕ) → ((j ++ 93 ∷ []) ++ u) ++ 125 ∷ [] ≡ j ++ (93 ∷ (u ++ 125 ∷ []))
closed_name j u = append_assoc (j ++ 93 ∷ []) u (125 ∷ []) ∙ append_assoc j (93 ∷ []) (u ++ 125 ∷ [])

name_parts : (ls : Instances) (n : ℕ) (t : Bool) → n < 2 ^ 64
    → name_text (inner (slot ls (slot (given t (numbered (codes "http://u/") n)) no_slots)))
    ≡ codes "{\"Language\":[" ++ (join_with_byte 44 (instance_texts language_text ls) ++ (codes "]" ++ (url_piece t n ++ codes "}")))
unfolding escape_byte
name_parts ls n true h = rw (escape_decimal n h) (ap (λ (y : List ℕ). codes "{\"Language\":[" ++ y) (closed_name (join_with_byte 44 (instance_texts language_text ls)) (url_piece true n)))
name_parts ls n false h = simp append_assoc

pub name_done : (x j : ℕ) (old t u v w z : List ℕ) → x + j < 2 ^ 64 → t ≡ old ++ codes "{\"Language\":["
    → u ≡ t ++ several_text language_text ((x + j) % 3) (language x j) → v ≡ u ++ codes "]"
    → w ≡ v ++ url_piece (not (is_even (x + j))) (x + j) → z ≡ w ++ codes "}" → z ≡ old ++ name_text (name x j)
name_done x j old t u v w z small e f g h i =
    let a : List ℕ = codes "{\"Language\":[" in
    let b : List ℕ = several_text language_text ((x + j) % 3) (language x j) in
    let c : List ℕ = codes "]" in
    let d : List ℕ = url_piece (not (is_even (x + j))) (x + j) in
    let last : List ℕ = codes "}" in
    i ∙ ap (λ (y : List ℕ). y ++ last) (h ∙ ap (λ (y : List ℕ). y ++ d) (g ∙ ap (λ (y : List ℕ). y ++ c) (f ∙ ap (λ (y : List ℕ). y ++ b) e)))
    ∙ behind_4 old a b c d last
    ∙ ap (λ (y : List ℕ). old ++ y) (sym (name_parts (several ((x + j) % 3) (language x j)) (x + j) (not (is_even (x + j))) small))

-- ---- links

links_parts : (bs fs : Instances) → shape_text (group links_fields) (inner (slot bs (slot fs no_slots)))
    ≡ codes "{\"Backward\":[" ++ (join_with_byte 44 (instance_texts atom_text bs) ++ (codes "],\"Forward\":[" ++ (join_with_byte 44 (instance_texts atom_text fs) ++ codes "]}")))
unfolding escape_byte
links_parts bs fs = simp append_assoc

pub links_done : (x : ℕ) (old t u v w z : List ℕ) → t ≡ old ++ codes ",\"Links\":{\"Backward\":[" → u ≡ t ++ numbers_text (x + 1) (x % 4)
    → v ≡ u ++ codes "],\"Forward\":[" → w ≡ v ++ numbers_text (10 * x) (x % 5) → z ≡ w ++ codes "]}" → z ≡ old ++ links_piece true x
links_done x old t u v w z e f g h i =
    let a : List ℕ = codes ",\"Links\":{\"Backward\":[" in
    let b : List ℕ = numbers_text (x + 1) (x % 4) in
    let c : List ℕ = codes "],\"Forward\":[" in
    let d : List ℕ = numbers_text (10 * x) (x % 5) in
    let last : List ℕ = codes "]}" in
    i ∙ ap (λ (y : List ℕ). y ++ last) (h ∙ ap (λ (y : List ℕ). y ++ d) (g ∙ ap (λ (y : List ℕ). y ++ c) (f ∙ ap (λ (y : List ℕ). y ++ b) e)))
    ∙ behind_4 old a b c d last
    ∙ ap (λ (y : List ℕ). old ++ (codes ",\"Links\":" ++ y)) (sym (links_parts (several (x % 4) (λ j. number (x + 1 + j))) (several (x % 5) (λ j. number (10 * x + j)))))

-- ---- a line

closed_line : (d n j : List ℕ) → ((d ++ (n ++ (j ++ 93 ∷ []))) ++ 125 ∷ []) ++ 10 ∷ [] ≡ d ++ (n ++ (j ++ 93 ∷ 125 ∷ 10 ∷ []))
closed_line d n j = simp append_assoc

closed_linked : (d l n j : List ℕ) → ((d ++ (l ++ (n ++ (j ++ 93 ∷ [])))) ++ 125 ∷ []) ++ 10 ∷ [] ≡ d ++ (l ++ (n ++ (j ++ 93 ∷ 125 ∷ 10 ∷ [])))
closed_linked d l n j = simp append_assoc

line_parts : (x : ℕ) (t : Bool) (ns : Instances) → record_text document_fields (slot (single (number x)) (slot (given t (links x)) (slot ns no_slots)))
    ≡ codes "{\"DocId\":" ++ (decimal x ++ (links_piece t x ++ (codes ",\"Name\":[" ++ (join_with_byte 44 (instance_texts name_text ns) ++ codes "]}\n"))))
unfolding record_text escape_byte
line_parts x true ns = ap (λ (y : List ℕ). codes "{\"DocId\":" ++ y) (closed_linked (decimal x) (links_piece true x) (codes ",\"Name\":[") (join_with_byte 44 (instance_texts name_text ns)))
line_parts x false ns = ap (λ (y : List ℕ). codes "{\"DocId\":" ++ y) (closed_line (decimal x) (codes ",\"Name\":[") (join_with_byte 44 (instance_texts name_text ns)))

line_of_record : (x : ℕ) → line_of x ≡ record_text document_fields (slot (single (number x)) (slot (given (not (x % 3 == 0)) (links x)) (slot (several (x % 4) (name x)) no_slots)))
unfolding line_of record_of
line_of_record x = refl

pub line_done : (x : ℕ) (old t u v w z : List ℕ) → t ≡ (old ++ codes "{\"DocId\":") ++ decimal x → u ≡ t ++ links_piece (not (x % 3 == 0)) x
    → v ≡ u ++ codes ",\"Name\":[" → w ≡ v ++ several_text name_text (x % 4) (name x) → z ≡ w ++ codes "]}\n" → z ≡ old ++ line_of x
line_done x old t u v w z e f g h i =
    let a : List ℕ = codes "{\"DocId\":" in
    let b : List ℕ = links_piece (not (x % 3 == 0)) x in
    let c : List ℕ = codes ",\"Name\":[" in
    let d : List ℕ = several_text name_text (x % 4) (name x) in
    let last : List ℕ = codes "]}\n" in
    i ∙ ap (λ (y : List ℕ). y ++ last) (h ∙ ap (λ (y : List ℕ). y ++ d) (g ∙ ap (λ (y : List ℕ). y ++ c) (f ∙ ap (λ (y : List ℕ). y ++ b) e)))
    ∙ behind_5 old a (decimal x) b c d last
    ∙ ap (λ (y : List ℕ). old ++ y) (sym (line_of_record x ∙ line_parts x (not (x % 3 == 0)) (several (x % 4) (name x))))
