-- A session publishes 4,096 tablets and no more, and a query is of all of them.
use Rattle.std.proofs.Common.{◌≡◌, ℕ, zero, suc, ◌+◌, ◌≤◌, ◌<◌, List, [], ◌∷◌, ◌++◌, length, true, false, Ok, Err, Some, None, refl, sym, ap, ap₂, ◌∙◌, arith, nat_lt, append_assoc, length-append}
use Rattle.std.specs.Prelude.{codes, if◌then◌else◌, Bool, Result}
use Rattle.std.proofs.lemmas.Bool.{lt-ltb}
use Rattle.std.proofs.lemmas.Bool.Decides.{nat_tests}
use Rattle.std.specs.List.{flat_map}
use Rattle.std.specs.Str.{is_utf8, chars}
use Rattle.std.specs.Str.Lossy.{utf8_valid_len}
use Rattle.std.specs.Fmt.{digits}
use Rattle.json.specs.Print.{escape_byte}
use Rattle.dr_meaning.specs.Schema.{Schema}
use Rattle.dr_meaning.specs.Record.{Node}
use Rattle.dr_meaning.specs.Lines.{lines_of}
use Rattle.dr_meaning.specs.Parse.{items as plain_items, keys, argument, whole_expression}
use Rattle.dr_meaning.specs.Binding.{bind}
use Rattle.dr_meaning.specs.Query as plain
use Rattle.dr_meaning.specs.Refusals.{QueryRefusal}
use Rattle.dr_meaning.specs.Print.{result_text}
use Rattle.dr_meaning.proofs.WorkedSchemas.{document}
use Rattle.dr_sub_meaning.specs.Nested.{NestedQuery, answered, meaning, outer_fields, outer_records}
use Rattle.dr_sub_meaning.specs.NestedParse.{parse_nested}
use Rattle.dr_sub_meaning.specs.NestedBinding.{bind_nested}
use Rattle.dr_sub_meaning.specs.NestedAsk.{read_nested, nested_answer_text}
use Rattle.dr_sub_meaning.specs.Session.{Session, Heard, SessionFault, Spoken, spoken, spoken_from, spoken_behind, heard, asked_text, published_text, at_text, most_lines, full, query_refused}

abbrev the_schema : Schema
the_schema = record { name = codes "Document"; fields = document }

-- so many lines of one dot
abbrev dots : ℕ → List ℕ
dots zero = []
dots (suc n) = 46 ∷ 10 ∷ dots n

abbrev dot_lines : ℕ → List (List ℕ)
dot_lines zero = []
dot_lines (suc n) = (46 ∷ []) ∷ dot_lines n

-- what so many print, from this number on
abbrev told_from : ℕ → ℕ → List ℕ
told_from k zero = []
told_from k (suc n) = published_text k ++ told_from (suc k) n

-- so many tablets without records
abbrev empties : ℕ → List (List Node)
empties zero = []
empties (suc m) = empties m ++ [] ∷ []

abbrev behind : ℕ → Session
behind m = record { kept = []; published = empties m }

lines_of_dots : (n : ℕ) (rest : List ℕ) → lines_of (dots n ++ rest) ≡ dot_lines n ++ lines_of rest
lines_of_dots zero rest = refl
lines_of_dots (suc n) rest = ap (λ (ls : List (List ℕ)). (46 ∷ []) ∷ ls) (lines_of_dots n rest)

how_many : (m : ℕ) → length (empties m) ≡ m
how_many zero = refl
how_many (suc m) = let e = how_many m in omega (arith, length-append (empties m) ([] ∷ []), e)

-- one more dot, where there is room
abbrev dotted : ℕ → ℕ → Bool → Result Heard SessionFault
dotted m k true = Ok (record { session = behind (suc m); text = published_text (suc k) })
dotted m k false = Err full

abbrev in_time : Bool → Result Heard SessionFault → Result Heard SessionFault
in_time true h = Err SessionFault.too_many_lines
in_time false h = h

abbrev chosen : ℕ → Bool → Bool → Result Heard SessionFault
chosen m a b = if a then Err SessionFault.too_many_lines else (if b then Ok (record { session = behind (suc m); text = published_text (suc (length (empties m))) }) else Err full)

by_cases : (m : ℕ) (a b : Bool) → chosen m a b ≡ in_time a (dotted m (length (empties m)) b)
by_cases m true b = refl
by_cases m false true = refl
by_cases m false false = refl

dot_is : (s : Schema) (m n : ℕ) → heard s (behind m) n (46 ∷ []) ≡ in_time (nat_lt most_lines n) (dotted m (length (empties m)) (nat_lt (length (empties m)) 4096))
dot_is s m n = by_cases m (nat_lt most_lines n) (nat_lt (length (empties m)) 4096)

dot_more : (s : Schema) (m n : ℕ) → m < 4096 → n ≤ most_lines → heard s (behind m) n (46 ∷ []) ≡ Ok (record { session = behind (suc m); text = published_text (suc m) })
dot_more s m n lt le =
    let few : nat_lt m 4096 ≡ true = lt-ltb m 4096 lt in
    let not_late : nat_lt most_lines n ≡ false = grind (arith, nat_tests) in
    dot_is s m n ∙ (ap₂ (λ (a : Bool) (k : ℕ). in_time a (dotted m k (nat_lt k 4096))) not_late (how_many m) ∙ ap (dotted m m) few)

no_more : (s : Schema) → heard s (behind 4096) 4097 (46 ∷ []) ≡ Err full
no_more s = dot_is s 4096 4097 ∙ ap (λ (k : ℕ). dotted 4096 k (nat_lt k 4096)) (how_many 4096)

-- the text of all dots, before that of the lines behind them
abbrev with_text : List ℕ → Spoken → Spoken
with_text t r = record { text = t ++ r.text; refusal = r.refusal }

both_texts : (a b : List ℕ) (r : Spoken) → with_text a (with_text b r) ≡ with_text (a ++ b) r
both_texts a b r = ap (λ (t : List ℕ). record { text = t; refusal = r.refusal }) (sym (append_assoc a b r.text))

all_dots : (s : Schema) (k m n m' n' : ℕ) (rest : List (List ℕ)) → m + k ≡ m' → n + k ≡ n' → m' ≤ 4096 → n' ≤ suc most_lines
    → spoken_from s (behind m) n (dot_lines k ++ rest) ≡ with_text (told_from (suc m) k) (spoken_from s (behind m') n' rest)
all_dots s zero m n m' n' rest e f le lf =
    let e' : m ≡ m' = omega (arith, e) in
    let f' : n ≡ n' = omega (arith, f) in
    ap₂ (λ (a b : ℕ). spoken_from s (behind a) b rest) e' f'
all_dots s (suc k) m n m' n' rest e f le lf =
    let here = dot_more s m n (omega (arith, e, le)) (omega (arith, f, lf)) in
    ap (λ (h : Result Heard SessionFault). spoken_behind n h (λ v. spoken_from s v (suc n) (dot_lines k ++ rest))) here
    ∙ (ap (with_text (published_text (suc m))) (all_dots s k (suc m) (suc n) m' n' rest (omega (arith, e)) (omega (arith, f)) le lf)
    ∙ both_texts (published_text (suc m)) (told_from (suc (suc m)) k) (spoken_from s (behind m') n' rest))

from_none : (s : Schema) (k : ℕ) (rest : List ℕ) → k ≤ 4096 → spoken s (dots k ++ rest) ≡ with_text (told_from 1 k) (spoken_from s (behind k) (suc k) (lines_of rest))
unfolding spoken
from_none s k rest le =
    ap (spoken_from s (behind 0) 1) (lines_of_dots k rest) ∙ all_dots s k 0 1 k (suc k) (lines_of rest) (omega arith) (omega arith) le (omega (arith, le))

-- ---- 4,096 are published, and no more

pub one_more : spoken the_schema (dots 4096 ++ codes ".\n") ≡ record { text = told_from 1 4096 ++ []; refusal = Some (record { line = 4097; fault = full }) }
one_more =
    from_none the_schema 4096 (codes ".\n") (omega arith)
    ∙ ap (λ (h : Result Heard SessionFault). with_text (told_from 1 4096) (spoken_behind 4097 h (λ v. spoken_from the_schema v 4098 []))) (no_more the_schema)

-- ---- a query is of all of them

abbrev count : List ℕ
count = codes "?SELECT COUNT(*) AS r FROM Document"

no_records : (m : ℕ) → flat_map (λ (R : List Node). R) (empties m) ≡ []
no_records zero = refl
no_records (suc m) = flat_more (empties m) (no_records m)
  where
    flat_more : (xs : List (List Node)) → flat_map (λ (R : List Node). R) xs ≡ [] → flat_map (λ (R : List Node). R) (xs ++ [] ∷ []) ≡ []
    flat_more [] e = refl
    flat_more ([] ∷ xs) e = flat_more xs e
    flat_more ((n ∷ R) ∷ xs) e = absurd (cc)

abbrev heard_so : ℕ → Result NestedQuery QueryRefusal → List Node → ℕ → Result Heard SessionFault
heard_so m (Ok q) R k = Ok (record { session = behind m; text = nested_answer_text the_schema q R ++ at_text k })
heard_so m (Err e) R k = Err (query_refused e)

counts : (m : ℕ) → heard the_schema (behind m) 4097 count ≡ Ok (record { session = behind m; text = codes "{\"r\":0}\n" ++ at_text m })
unfolding utf8_valid_len lib.Utf8.encode parse_nested plain_items keys argument whole_expression bind_nested bind read_nested nested_answer_text answered outer_fields outer_records plain.meaning is_utf8 chars result_text meaning escape_byte digits
counts m =
    let q : Result NestedQuery QueryRefusal = read_nested the_schema (asked_text (codes "SELECT COUNT(*) AS r FROM Document")) in
    let first : heard the_schema (behind m) 4097 count ≡ heard_so m q (flat_map (λ (R : List Node). R) (empties m)) (length (empties m)) = refl in
    let last : heard_so m q [] m ≡ Ok (record { session = behind m; text = codes "{\"r\":0}\n" ++ at_text m }) = refl in
    first ∙ (ap₂ (heard_so m q) (no_records m) (how_many m) ∙ last)

pub all_asked : spoken the_schema (dots 4096 ++ count) ≡ record { text = told_from 1 4096 ++ (codes "{\"r\":0}\nat 4096\n" ++ []); refusal = None }
unfolding digits
all_asked =
    from_none the_schema 4096 count (omega arith)
    ∙ ap (λ (h : Result Heard SessionFault). with_text (told_from 1 4096) (spoken_behind 4097 h (λ v. spoken_from the_schema v 4098 []))) (counts 4096)
