-- Which texts are accepted as tables.
use Rattle.std.proofs.Common.{◌≡◌, ℕ, zero, suc, ◌+◌, ◌-◌, ◌*◌, ◌^◌, ◌≤◌, ◌<◌, List, [], ◌∷◌, ◌++◌, length, Bool, true, false, not, ◌&&◌, refl, sym, ap, ap₂, ◌∙◌, subst, arith, Option, Some, None, Result, Ok, Err, append_assoc, true≢false, get_or}
use Rattle.std.specs.Prelude.{◌==◌, nat_lt, nat_le, codes, bytes_eq, if◌then◌else◌, option_map, option_and_then}
use Rattle.std.specs.List.{list_all}
use Rattle.std.specs.Str.{is_utf8}
use Rattle.std.specs.Fmt.{decimal}
use Rattle.std.specs.Str.Parse.{AllDigits}
use Rattle.std.proofs.lemmas.Bool.{and_parts, and_from, leb-true, ltb-true, ltb-false, le-ltb, eq-eqb, eqb-true, eqb-false, not-true, not_from_false}
use Rattle.std.proofs.lemmas.Fmt.{decimal-digits_value}
use Rattle.std.proofs.lemmas.Str.{digit_value_digit}
use Rattle.std.proofs.lemmas.Str.Parse.{IsNumeralModel}
use Rattle.std.proofs.lemmas.Slice.Eq.{bytes_eq-Decides}
use Rattle.dr_meaning.specs.Schema.{Schema}
use Rattle.dr_meaning.specs.SchemaText.{SchemaFault, parse_schema}
use Rattle.dr_formats.specs.Reading.{Reading, got, refused, Reader, give, goes_on}
use Rattle.dr_formats.specs.TableFile.{Table, TableFault, Line, with_byte, first_line, behind_word, digits_value, begins_with_zero, number_text, at_most, number_behind, nonempty, leaf_line, found, line_read, line_as, exactly, leaf_or_schema, up_to_schema, leaf_lines, schema_or_fault, schema_behind, table_lines, outcome, parse_table, leaf_texts, most_tablets, most_leaf_lines, longest_table, table_too_long, bad_head, bad_tablets, bad_copies, bad_leaf, bad_table_schema, is_line_text}
use Rattle.dr_formats.specs.TableLaws.{IsWithinLimits, SpellsTable, TableTextsAreAcceptedExactly}
use Rattle.dr_formats.proofs.ReadingLemmas.{not_refused, same_got}
use Rattle.dr_formats.proofs.TableLemmas.{NoEnd, digits_are, same_value, lines_back}
use Rattle.dr_meaning.specs.Lists.{is_empty}
use Rattle.dr_meaning.specs.Tokens.{is_digit}

-- ---- what a line, a word and a number are

some_same : {A : Type 0} (x y : A) → Some x ≡ Some y → x ≡ y
some_same x y e = cc

line_is : (text : List ℕ) (l : Line) → first_line text ≡ Some l → (text ≡ l.text ++ 10 ∷ l.behind) × NoEnd l.text
line_is [] l e = absurd (cc)
line_is (b ∷ bs) l e = by_test (b == 10) refl e (line_is bs)
  where
    here : record { text = []; behind = bs } ≡ l → (b == 10) ≡ true → (b ∷ bs ≡ l.text ++ 10 ∷ l.behind) × NoEnd l.text
    here h t = subst (λ x. (b ∷ bs ≡ x.text ++ 10 ∷ x.behind) × NoEnd x.text) h (ap (λ c. c ∷ bs) (eqb-true b 10 t), refl)

    later : (o : Option Line) → first_line bs ≡ o → option_map (with_byte b) o ≡ Some l → (b == 10) ≡ false → ((k : Line) → first_line bs ≡ Some k → (bs ≡ k.text ++ 10 ∷ k.behind) × NoEnd k.text) → (b ∷ bs ≡ l.text ++ 10 ∷ l.behind) × NoEnd l.text
    later None g h t f = absurd (cc)
    later (Some k) g h t f =
        let i : (bs ≡ k.text ++ 10 ∷ k.behind) × NoEnd k.text = f k g in
        subst (λ x. (b ∷ bs ≡ x.text ++ 10 ∷ x.behind) × NoEnd x.text) (some_same (with_byte b k) l h) (ap (λ c. b ∷ c) i.0, and_from _ _ (not_from_false _ t) i.1)

    by_test : (c : Bool) → (b == 10) ≡ c → (if c then Some (record { text = []; behind = bs }) else option_map (with_byte b) (first_line bs)) ≡ Some l → ((k : Line) → first_line bs ≡ Some k → (bs ≡ k.text ++ 10 ∷ k.behind) × NoEnd k.text) → (b ∷ bs ≡ l.text ++ 10 ∷ l.behind) × NoEnd l.text
    by_test true t h f = here (some_same (record { text = []; behind = bs }) l h) t
    by_test false t h f = later (first_line bs) refl h t f

word_is : (w t r : List ℕ) → behind_word w t ≡ Some r → t ≡ w ++ r
word_is [] t r e = some_same t r e
word_is (c ∷ w) [] r e = absurd (cc)
word_is (c ∷ w) (b ∷ bs) r e = by_test (c == b) refl e (word_is w bs r)
  where
    by_test : (x : Bool) → (c == b) ≡ x → (if x then behind_word w bs else None) ≡ Some r → (behind_word w bs ≡ Some r → bs ≡ w ++ r) → b ∷ bs ≡ c ∷ (w ++ r)
    by_test true t h f = ap₂ (λ x y. x ∷ y) (sym (eqb-true c b t)) (f h)
    by_test false t h f = absurd (cc)

all_digits : (ds : List ℕ) → list_all is_digit ds ≡ true → AllDigits 10 ds
all_digits [] h = tt
all_digits (d ∷ ds) h =
    let a : (is_digit d ≡ true) × (list_all is_digit ds ≡ true) = and_parts _ _ h in
    let b : (nat_le 48 d ≡ true) × (nat_le d 57 ≡ true) = and_parts _ _ a.0 in
    let l : 48 ≤ d = leb-true 48 d b.0 in
    let u : d ≤ 57 = leb-true d 57 b.1 in
    (omega (arith, digit_value_digit d (l, u), l, u), all_digits ds a.1)

model : IsNumeralModel (λ ds. list_all is_digit ds ≡ true) (digits_value 0)
model = record { to = all_digits; from = λ ds h. (digits_are ds h).0; same = λ ds h. same_value 0 ds h }

-- digits behind a number make it no less
grows : (m : ℕ) (ds : List ℕ) → m ≤ digits_value m ds
grows m [] = omega arith
grows m (d ∷ ds) = omega (arith, grows (10 * m + (d - 48)) ds)

number_is : (t : List ℕ) (n : ℕ) → number_text t ≡ Some n → n < 2 ^ 64 → (t ≡ decimal n) × (0 < n)
number_is t n e l = by_test (not (is_empty t) && list_all is_digit t && not (begins_with_zero t)) refl e
  where
    first : (t : List ℕ) → not (is_empty t) ≡ true → not (begins_with_zero t) ≡ true → (0 < length t) × (get_or t 0 0 ≡ 48 → length t ≡ 1)
    first [] h k = absurd (true≢false (sym h))
    first (d ∷ t) h k = (omega arith, λ z. absurd (true≢false (sym k ∙ ap not (eq-eqb d 48 z))))

    by_test : (b : Bool) → (not (is_empty t) && list_all is_digit t && not (begins_with_zero t)) ≡ b → (if b then Some (digits_value 0 t) else None) ≡ Some n → (t ≡ decimal n) × (0 < n)
    by_test false h g = absurd (cc)
    by_test true h g =
        let a : ((not (is_empty t) && list_all is_digit t) ≡ true) × (not (begins_with_zero t) ≡ true) = and_parts _ _ h in
        let b : (not (is_empty t) ≡ true) × (list_all is_digit t ≡ true) = and_parts _ _ a.0 in
        let f = first t b.0 a.1 in
        let v : digits_value 0 t ≡ n = some_same (digits_value 0 t) n g in
        let d : t ≡ decimal n = sym (decimal-digits_value model t b.1 f.0 f.1 (omega (arith, v, l))) ∙ ap decimal v in
        (d, above_none t v b.0 b.1 a.1)
      where
        above_none : (t : List ℕ) → digits_value 0 t ≡ n → not (is_empty t) ≡ true → list_all is_digit t ≡ true → not (begins_with_zero t) ≡ true → 0 < n
        above_none [] v h g k = absurd (true≢false (sym h))
        above_none (d ∷ t) v h g k =
            let b : nat_le 48 d ≡ true = (and_parts _ _ (and_parts _ _ g).0).0 in
            let m : 48 ≤ d = leb-true 48 d b in
            let z : d ≡ 48 → ⊥ = eqb-false d 48 (not-true _ k) in
            omega (arith, v, grows (10 * 0 + (d - 48)) t, m, z)

at_most_is : (greatest m n : ℕ) → at_most greatest m ≡ Some n → (m ≡ n) × (n ≤ greatest)
at_most_is greatest m n e = by_test (nat_le m greatest) refl e
  where
    by_test : (b : Bool) → nat_le m greatest ≡ b → (if b then Some m else None) ≡ Some n → (m ≡ n) × (n ≤ greatest)
    by_test true h g = let q : m ≡ n = some_same m n g in (q, subst (λ x. x ≤ greatest) q (leb-true m greatest h))
    by_test false h g = absurd (cc)

pub behind_is : (word : List ℕ) (greatest : ℕ) (t : List ℕ) (n : ℕ) → greatest < 2 ^ 64 → number_behind word greatest t ≡ Some n → (t ≡ word ++ decimal n) × (0 < n) × (n ≤ greatest)
behind_is word greatest t n l e = by_word (behind_word word t) refl e
  where
    by_number : (r : List ℕ) (o : Option ℕ) → number_text r ≡ o → option_and_then (at_most greatest) o ≡ Some n → (r ≡ decimal n) × (0 < n) × (n ≤ greatest)
    by_number r None h g = absurd (cc)
    by_number r (Some m) h g =
        let q : (m ≡ n) × (n ≤ greatest) = at_most_is greatest m n g in
        let k : (r ≡ decimal n) × (0 < n) = number_is r n (h ∙ ap Some q.0) (omega (arith, q.1, l)) in
        (k.0, k.1, q.1)

    by_word : (o : Option (List ℕ)) → behind_word word t ≡ o → option_and_then (at_most greatest) (option_and_then number_text o) ≡ Some n → (t ≡ word ++ decimal n) × (0 < n) × (n ≤ greatest)
    by_word None h g = absurd (cc)
    by_word (Some r) h g =
        let k : (r ≡ decimal n) × (0 < n) × (n ≤ greatest) = by_number r (number_text r) refl g in
        (word_is word t r h ∙ ap (λ x. word ++ x) k.0, k.1, k.2)

-- ---- what was read of lines

-- a line that was read, the text behind it, and what it stands for
abbrev pub IsLineAs : {A : Type 0} → (List ℕ → Option A) → List ℕ → A → List ℕ → Type 0
IsLineAs f text a rest = (l : List ℕ) × (text ≡ l ++ 10 ∷ rest) × NoEnd l × (f l ≡ Some a)

pub line_as_is : {A : Type 0} (e : TableFault) (f : List ℕ → Option A) (text : List ℕ) (a : A) (rest : List ℕ) → line_as e f text ≡ got a rest → IsLineAs f text a rest
line_as_is {A} e f text a rest h = by_line (first_line text) refl h
  where
    by_found : (l : Line) (o : Option A) → first_line text ≡ Some l → f l.text ≡ o → found e o l.behind ≡ got a rest → IsLineAs f text a rest
    by_found l None i g k = absurd (not_refused e [] a rest k)
    by_found l (Some b) i g k =
        let w = line_is text l i in
        let q = same_got {E = TableFault} b a l.behind rest k in
        (l.text, w.0 ∙ ap (λ x. l.text ++ 10 ∷ x) q.1, w.1, g ∙ ap (λ x. Some x) q.0)

    by_line : (o : Option Line) → first_line text ≡ o → line_read e f o ≡ got a rest → IsLineAs f text a rest
    by_line None i k = absurd (not_refused e [] a rest k)
    by_line (Some l) i k = by_found l (f l.text) i refl k

-- what was read by one form and then another
went_on : {E A B : Type 0} (r : Reading E A) (next : A → Reader E B) (b : B) (rest : List ℕ) → goes_on r next ≡ got b rest → (a : A) × (bs : List ℕ) × (r ≡ got a bs) × (next a bs ≡ got b rest)
went_on (got a bs) next b rest h = (a, bs, refl, h)
went_on (refused e bs) next b rest h = absurd (not_refused e bs b rest h)

found_is : {A : Type 0} (e : TableFault) (o : Option A) (a : A) (bs rest : List ℕ) → found e o bs ≡ got a rest → (o ≡ Some a) × (bs ≡ rest)
found_is e None a bs rest h = absurd (not_refused e [] a rest h)
found_is e (Some b) a bs rest h = let q = same_got {E = TableFault} b a bs rest h in (ap (λ x. Some x) q.0, q.1)

pub exactly_is : (w t a : List ℕ) → exactly w t ≡ Some a → t ≡ w
exactly_is w t a e = by_test (bytes_eq t w) refl e
  where
    by_test : (b : Bool) → bytes_eq t w ≡ b → (if b then Some t else None) ≡ Some a → t ≡ w
    by_test true h g = (bytes_eq-Decides t w).0 h
    by_test false h g = absurd (cc)

-- the line of a number
number_line_is : (e : TableFault) (word : List ℕ) (greatest : ℕ) (text : List ℕ) (n : ℕ) (rest : List ℕ) → greatest < 2 ^ 64 → line_as e (number_behind word greatest) text ≡ got n rest → (text ≡ word ++ (decimal n ++ (10 ∷ rest))) × (0 < n) × (n ≤ greatest)
number_line_is e word greatest text n rest g h =
    let l : IsLineAs (number_behind word greatest) text n rest = line_as_is e (number_behind word greatest) text n rest h in
    let q : (l.0 ≡ word ++ decimal n) × (0 < n) × (n ≤ greatest) = behind_is word greatest l.0 n g l.3 in
    (l.1 ∙ ap (λ x. x ++ 10 ∷ rest) q.0 ∙ append_assoc word (decimal n) (10 ∷ rest), q.1, q.2)

-- the line of one text alone
exact_line_is : (e : TableFault) (w text a rest : List ℕ) → line_as e (exactly w) text ≡ got a rest → text ≡ w ++ (10 ∷ rest)
exact_line_is e w text a rest h =
    let l : IsLineAs (exactly w) text a rest = line_as_is e (exactly w) text a rest h in
    l.1 ∙ ap (λ x. x ++ 10 ∷ rest) (exactly_is w l.0 a l.3)

-- ---- leaf lines

no_end_back : (t u : List ℕ) → NoEnd (t ++ u) → NoEnd u
no_end_back [] u h = h
no_end_back (b ∷ t) u h = no_end_back t u (and_parts _ _ h).1

-- the directory of a leaf line
pub leaf_is : (text d : List ℕ) → NoEnd text → leaf_line text ≡ Some d → (text ≡ codes "leaf " ++ d) × (is_line_text d ≡ true)
leaf_is text d n e = by_word (behind_word (codes "leaf ") text) refl e
  where
    of_some : (r : List ℕ) → nonempty r ≡ Some d → NoEnd r → (r ≡ d) × (is_line_text d ≡ true)
    of_some [] h k = absurd (cc)
    of_some (b ∷ r) h k = let q : b ∷ r ≡ d = some_same (b ∷ r) d h in (q, subst (λ x. is_line_text x ≡ true) q (and_from _ _ refl k))

    by_word : (o : Option (List ℕ)) → behind_word (codes "leaf ") text ≡ o → option_and_then nonempty o ≡ Some d → (text ≡ codes "leaf " ++ d) × (is_line_text d ≡ true)
    by_word None h g = absurd (cc)
    by_word (Some r) h g =
        let w : text ≡ codes "leaf " ++ r = word_is (codes "leaf ") text r h in
        let k : (r ≡ d) × (is_line_text d ≡ true) = of_some r g (no_end_back (codes "leaf ") r (subst NoEnd w n)) in
        (w ∙ ap (λ x. codes "leaf " ++ x) k.0, k.1)

-- a line behind n leaf lines
abbrev pub IsLeafOrSchema : ℕ → List ℕ → Option (List ℕ) → Type 0
IsLeafOrSchema n l None = (l ≡ codes "schema") × (0 < n)
IsLeafOrSchema n l (Some d) = (l ≡ codes "leaf " ++ d) × (is_line_text d ≡ true)

pub leaf_or_schema_is : (n : ℕ) (l : List ℕ) (o : Option (List ℕ)) → NoEnd l → leaf_or_schema n l ≡ Some o → IsLeafOrSchema n l o
leaf_or_schema_is n l o k e = by_test (bytes_eq l (codes "schema") && nat_lt 0 n) refl e
  where
    by_leaf : (r : Option (List ℕ)) → leaf_line l ≡ r → option_map Some r ≡ Some o → IsLeafOrSchema n l o
    by_leaf None h g = absurd (cc)
    by_leaf (Some d) h g = subst (IsLeafOrSchema n l) (some_same (Some d) o g) (leaf_is l d k h)

    by_test : (b : Bool) → (bytes_eq l (codes "schema") && nat_lt 0 n) ≡ b → (if b then Some None else option_map Some (leaf_line l)) ≡ Some o → IsLeafOrSchema n l o
    by_test true h g =
        let p : (bytes_eq l (codes "schema") ≡ true) × (nat_lt 0 n ≡ true) = and_parts _ _ h in
        subst (IsLeafOrSchema n l) (some_same None o g) ((bytes_eq-Decides l (codes "schema")).0 p.0, ltb-true 0 n p.1)
    by_test false h g = by_leaf (leaf_line l) refl g

-- these directories are those of the leaf lines up to the line `schema`, behind n others
abbrev AreLeaves : ℕ → ℕ → List ℕ → List (List ℕ) → List ℕ → Type 0
AreLeaves most n text ds rest = (text ≡ leaf_texts ds (codes "schema" ++ (10 ∷ rest))) × (list_all is_line_text ds ≡ true) × (length ds ≤ most) × (0 < n + length ds)

leaves_are : (most n : ℕ) (text : List ℕ) (ds : List (List ℕ)) (rest : List ℕ) → 0 < n + most → leaf_lines most n text ≡ got ds rest → AreLeaves most n text ds rest
leaves_are zero n text ds rest m e =
    let w = went_on (line_as (bad_leaf n) (exactly (codes "schema")) text) _ ds rest e in
    let q : ([] ≡ ds) × (w.1 ≡ rest) = same_got {E = TableFault} [] ds w.1 rest w.3 in
    let t : text ≡ codes "schema" ++ (10 ∷ w.1) = exact_line_is (bad_leaf n) (codes "schema") text w.0 w.1 w.2 in
    subst (λ x. AreLeaves zero n text x rest) q.0 (t ∙ ap (λ x. codes "schema" ++ (10 ∷ x)) q.1, refl, omega arith, omega (arith, m))
leaves_are (suc most) n text ds rest m e =
    let w = went_on (line_as (bad_leaf n) (leaf_or_schema n) text) (up_to_schema (leaf_lines most (suc n))) ds rest e in
    by_line w.0 w.1 (line_as_is (bad_leaf n) (leaf_or_schema n) text w.0 w.1 w.2) w.3 (λ es bs. leaves_are most (suc n) w.1 es bs (omega arith))
  where
    by_line : (o : Option (List ℕ)) (behind : List ℕ) → IsLineAs (leaf_or_schema n) text o behind → up_to_schema (leaf_lines most (suc n)) o behind ≡ got ds rest
        → ((es : List (List ℕ)) (bs : List ℕ) → leaf_lines most (suc n) behind ≡ got es bs → AreLeaves most (suc n) behind es bs) → AreLeaves (suc most) n text ds rest
    by_line None behind l k next =
        let p : (l.0 ≡ codes "schema") × (0 < n) = leaf_or_schema_is n l.0 None l.2 l.3 in
        let q : ([] ≡ ds) × (behind ≡ rest) = same_got {E = TableFault} [] ds behind rest k in
        subst (λ x. AreLeaves (suc most) n text x rest) q.0 (l.1 ∙ ap₂ (λ x y. x ++ 10 ∷ y) p.0 q.1, refl, omega arith, omega (arith, p.1))
    by_line (Some d) behind l k next =
        let p : (l.0 ≡ codes "leaf " ++ d) × (is_line_text d ≡ true) = leaf_or_schema_is n l.0 (Some d) l.2 l.3 in
        let w = went_on (leaf_lines most (suc n) behind) (λ es. give (d ∷ es)) ds rest k in
        let q : (d ∷ w.0 ≡ ds) × (w.1 ≡ rest) = same_got {E = TableFault} (d ∷ w.0) ds w.1 rest w.3 in
        let i : AreLeaves most (suc n) behind w.0 rest = next w.0 rest (w.2 ∙ ap (got w.0) q.1) in
        subst (λ x. AreLeaves (suc most) n text x rest) q.0 (
          l.1 ∙ ap₂ (λ x y. x ++ 10 ∷ y) p.0 i.0 ∙ append_assoc (codes "leaf ") d (10 ∷ leaf_texts w.0 (codes "schema" ++ (10 ∷ rest))),
          and_from _ _ p.1 i.1,
          omega (arith, i.2),
          omega arith,
        )

-- ---- all lines

schema_is : (r : Result Schema SchemaFault) (s : Schema) (rest : List ℕ) → schema_or_fault r [] ≡ got s rest → r ≡ Ok s
schema_is (Ok a) s rest h = ap (λ x. Ok x) (same_got {E = TableFault} a s [] rest h).0
schema_is (Err e) s rest h = absurd (not_refused (bad_table_schema e) [] s rest h)

outcome_is : (r : Reading TableFault Table) (t : Table) → outcome r ≡ Ok t → (rest : List ℕ) × (r ≡ got t rest)
outcome_is (got a bs) t h = let q : a ≡ t = cc in (bs, ap (λ x. got x bs) q)
outcome_is (refused e bs) t h = absurd (cc)

abbrev Accepted : Table → List ℕ → Type 0
Accepted t text = IsWithinLimits t × SpellsTable t text

table_lines_are : (t : Table) (text : List ℕ) → outcome (table_lines text) ≡ Ok t → Accepted t text
table_lines_are t text e =
    let o = outcome_is (table_lines text) t e in
    let w1 = went_on (line_as bad_head (exactly (codes "dremel-table 1")) text) _ t o.0 o.1 in
    let w2 = went_on (line_as bad_tablets (number_behind (codes "tablets ") most_tablets) w1.1) _ t o.0 w1.3 in
    let w3 = went_on (line_as bad_copies (number_behind (codes "copies ") most_leaf_lines) w2.1) _ t o.0 w2.3 in
    let w4 = went_on (leaf_lines most_leaf_lines 0 w3.1) _ t o.0 w3.3 in
    let w5 = went_on (found bad_copies (at_most (length w4.0) w3.0) w4.1) _ t o.0 w4.3 in
    let w6 = went_on (schema_behind w5.1) _ t o.0 w5.3 in
    let q : (record { schema = w6.0; leaves = w4.0; copies = w3.0; tablets = w2.0 } ≡ t) × (w6.1 ≡ o.0) = same_got {E = TableFault} (record { schema = w6.0; leaves = w4.0; copies = w3.0; tablets = w2.0 }) t w6.1 o.0 w6.3 in
    let h1 : text ≡ codes "dremel-table 1" ++ (10 ∷ w1.1) = exact_line_is bad_head (codes "dremel-table 1") text w1.0 w1.1 w1.2 in
    let h2 = number_line_is bad_tablets (codes "tablets ") most_tablets w1.1 w2.0 w2.1 (omega arith) w2.2 in
    let h3 = number_line_is bad_copies (codes "copies ") most_leaf_lines w2.1 w3.0 w3.1 (omega arith) w3.2 in
    let h4 : AreLeaves most_leaf_lines 0 w3.1 w4.0 w4.1 = leaves_are most_leaf_lines 0 w3.1 w4.0 w4.1 (omega arith) w4.2 in
    let f = found_is bad_copies (at_most (length w4.0) w3.0) w5.0 w4.1 w5.1 w5.2 in
    let h5 : (w3.0 ≡ w5.0) × (w5.0 ≤ length w4.0) = at_most_is (length w4.0) w3.0 w5.0 f.0 in
    let h6 : parse_schema w4.1 ≡ Ok w6.0 = ap parse_schema f.1 ∙ schema_is (parse_schema w5.1) w6.0 w6.1 w6.2 in
    subst (λ x. Accepted x text) q.0 (
      (omega (arith, h4.3), h4.2, h4.1, h3.1, omega (arith, h5.0, h5.1), h2.1, h2.2),
      (w4.1, h1 ∙ ap (λ x. codes "dremel-table 1" ++ (10 ∷ x)) (h2.0 ∙ ap (λ x. codes "tablets " ++ (decimal w2.0 ++ (10 ∷ x))) (h3.0 ∙ ap (λ x. codes "copies " ++ (decimal w3.0 ++ (10 ∷ x))) h4.0)), h6),
    )

-- ---- the law

pub table_texts_are_accepted_exactly : TableTextsAreAcceptedExactly
unfolding parse_table
table_texts_are_accepted_exactly text t = (accepted, accepts)
  where
    accepted : parse_table text ≡ Ok t → (length text ≤ longest_table) × (is_utf8 text ≡ true) × IsWithinLimits t × SpellsTable t text
    accepted e = by_length (nat_lt longest_table (length text)) refl (is_utf8 text) refl e
      where
        by_length : (b : Bool) → nat_lt longest_table (length text) ≡ b → (c : Bool) → is_utf8 text ≡ c → (if b then Err table_too_long else (if c then outcome (table_lines text) else Err bad_head)) ≡ Ok t → (length text ≤ longest_table) × (is_utf8 text ≡ true) × IsWithinLimits t × SpellsTable t text
        by_length true h c g k = absurd (cc)
        by_length false h false g k = absurd (cc)
        by_length false h true g k = let a : Accepted t text = table_lines_are t text k in (ltb-false longest_table (length text) h, g, a.0, a.1)

    accepts : (length text ≤ longest_table) × (is_utf8 text ≡ true) × IsWithinLimits t × SpellsTable t text → parse_table text ≡ Ok t
    accepts h = rw (le-ltb longest_table (length text) h.0, h.1, h.3.1) (lines_back t h.3.0 h.2 h.3.2)
