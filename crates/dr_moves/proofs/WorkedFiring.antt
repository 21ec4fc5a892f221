-- What a scan makes of a record's moves, by computation.
use Rattle.std.proofs.Common.{◌≡◌, ◌⊎◌, inl, inr, ℕ, List, [], ◌∷◌, ◌++◌, refl, sym, ap, subst, true≢false, arith}
use Rattle.std.specs.Prelude.{map, Bool, true, false, ◌==◌, if◌then◌else◌, Option, Some, None, pos, codes, bytes_eq}
use Rattle.dr_meaning.specs.Path.{Step, chain_end}
use Rattle.dr_meaning.specs.Schema.{Shape, group, field, leaf, no_fields, repeated, optional, text_kind}
use Rattle.dr_meaning.specs.Automaton.{Pick, picks, first_picks, later_picks}
use Rattle.dr_meaning.specs.Record.{Value, bool_value, int_value, text_value, Node, no_slots, slot, Instance, inner, single}
use Rattle.dr_meaning.specs.Rows.{rows, value_at}
use Rattle.dr_meaning.specs.Column.{triplet}
use Rattle.dr_meaning.specs.Walk.{Move, enter, value, leave, record_moves}
use Rattle.dr_meaning.proofs.WorkedSchemas.{document, language}
use Rattle.dr_meaning.proofs.WorkedRecords.{record_10, language_node, texts}
use Rattle.dr_meaning.proofs.WorkedPaths.{step, doc_id, code, country, url}
use Rattle.dr_moves.specs.Context.{Context, with_value, contexts}
use Rattle.dr_moves.specs.Together.{Together, same_leaf, along, apart}
use Rattle.dr_moves.specs.Firing.{AllTogether, IsRow}
use Rattle.dr_moves.specs.Readers.{Only, Without, Readers, no_reader, below, outside, IsRowInside}
use Rattle.dr_moves.specs.Tour.{Tour, over, saw, inside, moves_of, after}
use Rattle.dr_moves.specs.Condition.{Watch, some_true, rest_below, is_dropped}
use Rattle.dr_moves.specs.Cutting.{flow, Branch, Going, go_all}

abbrev word : List ℕ → Option Value
word t = Some (text_value t)

abbrev number : ℕ → Option Value
number n = Some (int_value (pos n))

-- whether a value is this text
abbrev is_word : List ℕ → Option Value → Bool
is_word t None = false
is_word t (Some (bool_value b)) = false
is_word t (Some (int_value z)) = false
is_word t (Some (text_value u)) = bytes_eq t u

-- the leaves 0, 1 and 2
abbrev F : List (List Step)
F = doc_id ∷ country ∷ url ∷ []

-- a name with two languages, one with none, and one with one language and no url
abbrev moves_10 : List Move
moves_10 =
    enter 0 ∷ value 0 (triplet 0 0 (number 10))
    ∷ enter 3 ∷ value 2 (triplet 0 2 (word (codes "http://A"))) ∷ enter 4 ∷ value 1 (triplet 0 3 (word (codes "us"))) ∷ leave 4 ∷ enter 4 ∷ value 1 (triplet 2 2 None) ∷ leave 4 ∷ leave 3
    ∷ enter 3 ∷ value 2 (triplet 1 2 (word (codes "http://B"))) ∷ value 1 (triplet 1 1 None) ∷ leave 3
    ∷ enter 3 ∷ value 2 (triplet 1 1 None) ∷ enter 4 ∷ value 1 (triplet 1 3 (word (codes "gb"))) ∷ leave 4 ∷ leave 3
    ∷ leave 0 ∷ []

pub are_moves : record_moves document F record_10 ≡ moves_10
are_moves = refl

-- nothing was read before
abbrev start : Context
start i = None

-- ---- contexts and rows

abbrev three : Context → List (Option Value)
three d = d 0 ∷ d 1 ∷ d 2 ∷ []

abbrev four_rows : List (List (Option Value))
four_rows =
    (number 10 ∷ word (codes "us") ∷ word (codes "http://A") ∷ []) ∷ (number 10 ∷ None ∷ word (codes "http://A") ∷ [])
    ∷ (number 10 ∷ None ∷ word (codes "http://B") ∷ []) ∷ (number 10 ∷ word (codes "gb") ∷ None ∷ []) ∷ []

pub at_country : map three (contexts 1 start moves_10) ≡ four_rows
at_country = refl

-- these are the rows of the level of Country
pub are_rows : map (λ (row : Node). value_at doc_id row ∷ value_at country row ∷ value_at url row ∷ []) (rows (chain_end country) record_10) ≡ four_rows
are_rows = refl

-- at each url the country that was read last, which is no leaf read together with it: that of the name before
pub at_url : map three (contexts 2 start moves_10) ≡
    (number 10 ∷ None ∷ word (codes "http://A") ∷ []) ∷ (number 10 ∷ None ∷ word (codes "http://B") ∷ []) ∷ (number 10 ∷ None ∷ None ∷ []) ∷ []
at_url = refl

-- ---- leaves that are read together

-- a leaf with itself; a leaf of the record with one in a name; a name's own leaf with one in its languages; two leaves of one level, in their order
pub with_itself : Together (Unit {0}) ⊥ code code
with_itself = along _ _ _ _ _ (along _ _ _ _ _ (along _ _ _ _ _ (same_leaf tt)))

pub of_record : Together ⊥ (Unit {0}) doc_id country
of_record = apart _ _ _ _ tt (refl, refl, inl (omega arith))

pub of_name : Together ⊥ (Unit {0}) url country
of_name = along _ _ _ _ _ (apart _ _ _ _ tt (refl, refl, inl (omega arith)))

pub in_order : Together ⊥ (Unit {0}) code country
in_order = along _ _ _ _ _ (along _ _ _ _ _ (apart _ _ _ _ tt (refl, refl, inr (omega arith, refl))))

-- all of them with Country; a leaf that isn't selected is read together with none
pub all_with_country : AllTogether F 1 country (0 ∷ 2 ∷ 1 ∷ [])
all_with_country = (
  (doc_id, refl, apart _ _ _ _ tt (refl, refl, inl (omega arith))),
  (
    (url, refl, along _ _ _ _ _ (apart _ _ _ _ tt (refl, refl, inl (omega arith)))),
    ((country, refl, along _ _ _ _ _ (along _ _ _ _ _ (along _ _ _ _ _ (same_leaf refl)))), tt),
  ),
)

pub not_selected : AllTogether F 1 country (3 ∷ []) → ⊥
not_selected h = let e : None ≡ Some h.0.0 = h.0.1 in absurd (cc)

-- ---- rows

abbrev first_row : Node
first_row = first_or_none (rows (chain_end country) record_10)
  where
    first_or_none : List Node → Node
    first_or_none [] = no_slots
    first_or_none (row ∷ rest) = row

abbrev first_context : Context
first_context = with_value 2 (word (codes "http://A")) (with_value 1 (word (codes "us")) (with_value 0 (number 10) start))

pub is_row : IsRow F (0 ∷ 1 ∷ 2 ∷ []) first_context first_row
is_row = (
  (λ q e. let w : doc_id ≡ q = cc in subst (λ (p : List Step). number 10 ≡ value_at p first_row) w refl),
  (
    (λ q e. let w : country ≡ q = cc in subst (λ (p : List Step). word (codes "us") ≡ value_at p first_row) w refl),
    ((λ q e. let w : url ≡ q = cc in subst (λ (p : List Step). word (codes "http://A") ≡ value_at p first_row) w refl), tt),
  ),
)

-- with another value, of any of the leaves, it isn't
pub not_row : (IsRow F (1 ∷ []) (with_value 1 (word (codes "gb")) first_context) first_row → ⊥) × (IsRow F (2 ∷ 1 ∷ []) (with_value 1 (word (codes "gb")) first_context) first_row → ⊥)
not_row = (λ h. true≢false (ap (is_word (codes "gb")) (h.0 country refl)), λ h. true≢false (ap (is_word (codes "gb")) (h.1.0 country refl)))

-- ---- in an instance: the leaves Country and Url in a name, with DocId outside of it

abbrev in_name : List Pick
in_name = record { rest = step 0 repeated ∷ step 1 optional ∷ []; index = 1 } ∷ record { rest = step 1 optional ∷ []; index = 2 } ∷ []

pub those_in_name : first_picks (later_picks (later_picks (picks F))) ≡ in_name
those_in_name = refl

abbrev name_shape : Shape
name_shape = group (field (codes "Language") repeated (group language) (field (codes "Url") optional (leaf text_kind) no_fields))

pub country_below : Only 1 (step 0 repeated ∷ step 1 optional ∷ []) in_name
country_below = inl (refl, refl, (refl, tt))

pub url_below : Only 2 (step 1 optional ∷ []) in_name
url_below = inr (refl, inl (refl, refl, tt))

pub doc_id_outside : Without 0 in_name
doc_id_outside = (refl, (refl, tt))

pub not_without : (Without 2 in_name → ⊥) × (Only 0 [] in_name → ⊥)
not_without = (λ h. true≢false h.1.0, no_only)
  where
    no_last : (((2 == 0) ≡ true) × ((step 1 optional ∷ []) ≡ []) × Unit {0}) ⊎ (((2 == 0) ≡ false) × ⊥) → ⊥
    no_last (inl h) = true≢false (sym h.0)
    no_last (inr h) = h.1

    no_only : Only 0 [] in_name → ⊥
    no_only (inl h) = true≢false (sym h.0)
    no_only (inr h) = no_last h.1

abbrev readers : Readers 1 name_shape in_name (step 0 repeated ∷ step 1 optional ∷ []) (1 ∷ 2 ∷ 0 ∷ [])
readers =
    below 1 (step 0 repeated ∷ step 1 optional ∷ []) (2 ∷ 0 ∷ []) country_below refl (along _ _ _ _ _ (along _ _ _ _ _ (same_leaf refl)))
    (below 2 (step 1 optional ∷ []) (0 ∷ []) url_below refl (apart _ _ _ _ tt (refl, refl, inl (omega arith)))
    (outside 0 [] doc_id_outside no_reader))

-- the first name, cut to its first language
abbrev first_name : Instance
first_name = inner (slot (single (inner (language_node (codes "en-us") (codes "us" ∷ [])))) (slot (texts (codes "http://A" ∷ [])) no_slots))

abbrev IsRowHere : Context → Type 0
IsRowHere d = IsRowInside 1 name_shape in_name (step 0 repeated ∷ step 1 optional ∷ []) (with_value 0 (number 10) start) (1 ∷ 2 ∷ 0 ∷ []) readers d first_name

pub row_inside : IsRowHere first_context
row_inside = (refl, (refl, (refl, tt)))

pub not_inside : (IsRowHere (with_value 1 (word (codes "gb")) first_context) → ⊥) × (IsRowHere (with_value 2 (word (codes "gb")) first_context) → ⊥) × (IsRowHere (with_value 0 (word (codes "gb")) first_context) → ⊥)
not_inside = (λ h. true≢false (ap (is_word (codes "gb")) h.0), λ h. true≢false (ap (is_word (codes "gb")) h.1.0), λ h. true≢false (ap (is_word (codes "gb")) h.1.1.0))

-- ---- tours

abbrev name_1 : Tour → Tour
name_1 T = inside 3 (saw 2 (triplet 0 2 (word (codes "http://A"))) (inside 4 (saw 1 (triplet 0 3 (word (codes "us"))) over) (inside 4 (saw 1 (triplet 2 2 None) over) over))) T

abbrev name_2 : Tour → Tour
name_2 T = inside 3 (saw 2 (triplet 1 2 (word (codes "http://B"))) (saw 1 (triplet 1 1 None) over)) T

abbrev name_3 : Tour → Tour
name_3 T = inside 3 (saw 2 (triplet 1 1 None) (inside 4 (saw 1 (triplet 1 3 (word (codes "gb"))) over) over)) T

abbrev tour_10 : Tour
tour_10 = inside 0 (saw 0 (triplet 0 0 (number 10)) (name_1 (name_2 (name_3 over)))) over

pub tour_moves : moves_of tour_10 ≡ moves_10
tour_moves = refl

pub context_behind : (three (after start tour_10) ≡ number 10 ∷ word (codes "gb") ∷ None ∷ []) × (three (after start (name_1 over)) ≡ None ∷ None ∷ word (codes "http://A") ∷ [])
context_behind = (refl, refl)

-- ---- conditions

-- Name.Language.Country = 'gb'; Name.Language.Country = 'us' AND Name.Url = 'http://A'; Name.Url = 'http://B'; DocId is there
abbrev in_gb : Watch
in_gb = record { chain = 3 ∷ 4 ∷ []; last = 1; test = λ (d : Context). is_word (codes "gb") (d 1) }

abbrev us_of_a : Watch
us_of_a = record { chain = 3 ∷ 4 ∷ []; last = 1; test = λ (d : Context). if is_word (codes "us") (d 1) then is_word (codes "http://A") (d 2) else false }

abbrev at_b : Watch
at_b = record { chain = 3 ∷ []; last = 2; test = λ (d : Context). is_word (codes "http://B") (d 2) }

abbrev always : Watch
always = record { chain = []; last = 0; test = λ (d : Context). true }

abbrev in_names : Watch → List Bool
in_names w = some_true w start (name_1 over) ∷ some_true w start (name_2 over) ∷ some_true w start (name_3 over) ∷ some_true w start tour_10 ∷ []

pub true_rows : (in_names in_gb ≡ false ∷ false ∷ true ∷ true ∷ []) × (in_names us_of_a ≡ true ∷ false ∷ false ∷ true ∷ []) × (in_names at_b ≡ false ∷ true ∷ false ∷ true ∷ []) × (in_names always ≡ false ∷ false ∷ false ∷ true ∷ [])
true_rows = (refl, refl, refl, refl)

-- a row is at the last leaf, with what was read before it, inside and outside of the instance
pub row_needs_context : (some_true us_of_a start (inside 4 (saw 1 (triplet 0 3 (word (codes "us"))) over) over) ≡ false)
    × (some_true us_of_a (with_value 2 (word (codes "http://A")) start) (inside 4 (saw 1 (triplet 0 3 (word (codes "us"))) over) over) ≡ true)
    × (some_true us_of_a start (saw 2 (triplet 0 2 (word (codes "http://A"))) (saw 1 (triplet 0 3 (word (codes "us"))) over)) ≡ true)
    × (some_true us_of_a start (saw 1 (triplet 0 3 (word (codes "us"))) (saw 2 (triplet 0 2 (word (codes "http://A"))) over)) ≡ false)
row_needs_context = (refl, refl, refl, refl)

-- where a branch is on the chain of names and languages
pub places_on_chain : (rest_below 3 (Some (3 ∷ 4 ∷ [])) ≡ Some (4 ∷ [])) × (rest_below 4 (Some (4 ∷ [])) ≡ Some []) × (rest_below 2 (Some (3 ∷ 4 ∷ [])) ≡ None)
    × (rest_below 4 (Some (3 ∷ 4 ∷ [])) ≡ None) × (rest_below 4 (Some []) ≡ None) × (rest_below 3 None ≡ None)
places_on_chain = (refl, refl, refl, refl, refl, refl)

pub dropped : map (λ r. is_dropped r false) (None ∷ Some [] ∷ Some (4 ∷ []) ∷ []) ≡ false ∷ true ∷ true ∷ []
dropped = refl

pub kept : map (λ r. is_dropped r true) (None ∷ Some [] ∷ Some (4 ∷ []) ∷ []) ≡ false ∷ false ∷ false ∷ []
kept = refl

-- ---- append and cut

-- each value that is read; behind each branch that is left, its number
abbrev seen : ℕ → Context → List (Option Value)
seen i d = d i ∷ []

abbrev left : ℕ → Context → List (Option Value) → List (Option Value)
left k d made = made ++ number k ∷ []

abbrev made_of : Watch → List (Option Value)
made_of w = flow seen left w (Some (0 ∷ w.chain)) start tour_10

-- the names and languages without a true row are cut off; what is off the chain stays; without a true row there is nothing
pub in_gb_makes : made_of in_gb ≡ number 10 ∷ None ∷ word (codes "gb") ∷ number 4 ∷ number 3 ∷ number 0 ∷ []
in_gb_makes = refl

pub us_of_a_makes : made_of us_of_a ≡ number 10 ∷ word (codes "http://A") ∷ word (codes "us") ∷ number 4 ∷ number 3 ∷ number 0 ∷ []
us_of_a_makes = refl

pub at_b_makes : made_of at_b ≡ number 10 ∷ word (codes "http://B") ∷ None ∷ number 3 ∷ number 0 ∷ []
at_b_makes = refl

pub always_makes : made_of always ≡
    number 10 ∷ word (codes "http://A") ∷ word (codes "us") ∷ number 4 ∷ None ∷ number 4 ∷ number 3
    ∷ word (codes "http://B") ∷ None ∷ number 3 ∷ None ∷ word (codes "gb") ∷ number 4 ∷ number 3 ∷ number 0 ∷ []
always_makes = refl

pub never_makes : made_of (record in_gb { test = λ (d : Context). false }) ≡ []
never_makes = refl

-- off the chain nothing is cut off
pub off_chain : flow seen left in_gb None start (name_1 over) ≡ word (codes "http://A") ∷ word (codes "us") ∷ number 4 ∷ None ∷ number 4 ∷ number 3 ∷ []
off_chain = refl

abbrev at_start : Going (Option Value)
at_start = record { context = start; made = number 99 ∷ []; branches = [] }

abbrev gone : Watch → List Move → Going (Option Value)
gone w ms = go_all seen left w (Some (0 ∷ w.chain)) ms at_start

-- one move after another: what was made before stays
pub goes_to_the_end : ((gone in_gb moves_10).made ≡ number 99 ∷ made_of in_gb) × ((gone us_of_a moves_10).made ≡ number 99 ∷ made_of us_of_a) × ((gone at_b moves_10).made ≡ number 99 ∷ made_of at_b)
    × ((gone always moves_10).made ≡ number 99 ∷ made_of always) × ((gone in_gb moves_10).branches ≡ [])
goes_to_the_end = (refl, refl, refl, refl, refl)

-- in the second name, before and behind its row: the branches that are open, and how much had been made when they began
pub in_the_second_name : ((gone at_b (enter 0 ∷ value 0 (triplet 0 0 (number 10)) ∷ enter 3 ∷ [])).branches ≡ record { rest = Some []; hit = false; mark = 2 } ∷ record { rest = Some (3 ∷ []); hit = false; mark = 1 } ∷ [])
    × ((gone at_b (enter 0 ∷ value 0 (triplet 0 0 (number 10)) ∷ enter 3 ∷ value 2 (triplet 1 2 (word (codes "http://B"))) ∷ [])).branches ≡ record { rest = Some []; hit = true; mark = 2 } ∷ record { rest = Some (3 ∷ []); hit = true; mark = 1 } ∷ [])
    × (three (gone at_b (enter 0 ∷ value 0 (triplet 0 0 (number 10)) ∷ enter 3 ∷ value 2 (triplet 1 2 (word (codes "http://B"))) ∷ [])).context ≡ number 10 ∷ None ∷ word (codes "http://B") ∷ [])
in_the_second_name = (refl, refl, refl)

-- a branch below the chain's end, or off it
pub below_and_beside : (map (λ (b : Branch). b.rest) (gone at_b (enter 0 ∷ enter 3 ∷ enter 4 ∷ [])).branches ≡ None ∷ Some [] ∷ Some (3 ∷ []) ∷ [])
    × (map (λ (b : Branch). b.rest) (gone at_b (enter 0 ∷ enter 2 ∷ [])).branches ≡ None ∷ Some (3 ∷ []) ∷ [])
below_and_beside = (refl, refl)
