-- Partials of queries on the worked records, merged and finished, by computation.
use Rattle.std.specs.Prelude.{◌≡◌, ℕ, List, [], ◌∷◌, Bool, true, false, pos, Option, Some, None, codes, refl}
use Rattle.dr_meaning.specs.Record.{Value, bool_value, int_value, text_value, Node}
use Rattle.dr_meaning.specs.Expression.{Expression, constant, path_value, negative, arithmetic, plus, minus, times, comparison, less, greater, like, contains, is_null, negation, conjunction, disjunction}
use Rattle.dr_meaning.specs.Query.{count, sum, least, greatest, expression, within, GroupItem, GroupTerm, key, count_rows, aggregate, Query, objects, groups, Object, no_entries, cell, list, no_objects, object}
use Rattle.dr_meaning.proofs.WorkedSchemas.{document}
use Rattle.dr_meaning.proofs.WorkedRecords.{record_10, record_20, record_30}
use Rattle.dr_meaning.proofs.WorkedPaths.{doc_id, backward, forward, name, code, country, url}
use Rattle.dr_partials.specs.Accumulators.{Accumulator, counted, summed, least_of, greatest_of}
use Rattle.dr_partials.specs.Partials.{Group, Partial, lines, grouped, partial_of, merge, empty_partial, finished}
use Rattle.dr_partials.specs.PartialTypes.{is_partial}
use Rattle.dr_partials.specs.Putting.{Taken, Put, put, put_all}

abbrev whole : ℕ → Value
whole n = int_value (pos n)

abbrev text : List ℕ → Option Value
text t = Some (text_value t)

abbrev item : List ℕ → GroupTerm → GroupItem
item n t = record { name = n; term = t }

abbrev group : List (Option Value) → List Accumulator → Group
group t xs = record { keys = t; accumulators = xs }

abbrev of_records : Query → List Node → Partial
of_records q ns = partial_of document q ns

-- ---- without GROUP BY

-- SELECT COUNT(*) AS r, COUNT(Name.Url) AS u, SUM(Links.Forward) AS s FROM Document
abbrev pub totals : Query
totals = record {
  condition = None;
  selection = groups [] (item (codes "r") count_rows ∷ item (codes "u") (aggregate count (path_value url)) ∷ item (codes "s") (aggregate sum (path_value forward)) ∷ []);
}

pub totals_of_10 : of_records totals (record_10 ∷ []) ≡ grouped (group [] (counted 1 ∷ counted 2 ∷ summed (Some (pos 120)) ∷ []) ∷ [])
unfolding partial_of
totals_of_10 = refl

pub totals_of_20 : of_records totals (record_20 ∷ []) ≡ grouped (group [] (counted 1 ∷ counted 1 ∷ summed (Some (pos 80)) ∷ []) ∷ [])
unfolding partial_of
totals_of_20 = refl

pub totals_merged : merge (of_records totals (record_10 ∷ [])) (of_records totals (record_20 ∷ [])) ≡ grouped (group [] (counted 2 ∷ counted 3 ∷ summed (Some (pos 200)) ∷ []) ∷ [])
unfolding partial_of merge
totals_merged = refl

-- a record without links and names: SUM of nothing, beside SUM of something
pub totals_of_30 : of_records totals (record_30 ∷ []) ≡ grouped (group [] (counted 1 ∷ counted 0 ∷ summed None ∷ []) ∷ [])
unfolding partial_of
totals_of_30 = refl

pub nothing_merged : (merge (of_records totals (record_30 ∷ [])) (of_records totals (record_20 ∷ [])) ≡ grouped (group [] (counted 2 ∷ counted 1 ∷ summed (Some (pos 80)) ∷ []) ∷ []))
    × (merge (of_records totals (record_20 ∷ [])) (of_records totals (record_30 ∷ [])) ≡ grouped (group [] (counted 2 ∷ counted 1 ∷ summed (Some (pos 80)) ∷ []) ∷ []))
    × (merge (of_records totals (record_30 ∷ [])) (of_records totals (record_30 ∷ [])) ≡ grouped (group [] (counted 2 ∷ counted 0 ∷ summed None ∷ []) ∷ []))
unfolding partial_of merge
nothing_merged = (refl, refl, refl)

-- no records: COUNT is 0, SUM is NULL
pub totals_of_none : (of_records totals [] ≡ grouped (group [] (counted 0 ∷ counted 0 ∷ summed None ∷ []) ∷ [])) × (empty_partial totals ≡ grouped (group [] (counted 0 ∷ counted 0 ∷ summed None ∷ []) ∷ []))
unfolding partial_of empty_partial
totals_of_none = (refl, refl)

pub totals_finished : (finished totals (empty_partial totals) ≡ cell (codes "r") (Some (whole 0)) (cell (codes "u") (Some (whole 0)) (cell (codes "s") None no_entries)) ∷ [])
    × (finished totals (of_records totals (record_10 ∷ [])) ≡ cell (codes "r") (Some (whole 1)) (cell (codes "u") (Some (whole 2)) (cell (codes "s") (Some (whole 120)) no_entries)) ∷ [])
unfolding partial_of empty_partial finished
totals_finished = (refl, refl)

-- ---- with GROUP BY

-- SELECT COUNT(*) AS n, Name.Language.Country AS c, MIN(Name.Language.Code) AS l, MAX(Name.Language.Code) AS g, COUNT(DocId) AS d FROM Document
-- GROUP BY Name.Language.Country
abbrev pub by_country : Query
by_country = record {
  condition = None;
  selection = groups (country ∷ []) (item (codes "n") count_rows ∷ item (codes "c") (key 0) ∷ item (codes "l") (aggregate least (path_value code))
      ∷ item (codes "g") (aggregate greatest (path_value code)) ∷ item (codes "d") (aggregate count (path_value doc_id)) ∷ []);
}

abbrev gb : Group
gb = group (text (codes "gb") ∷ []) (counted 1 ∷ least_of (text (codes "en-gb")) ∷ greatest_of (text (codes "en-gb")) ∷ counted 1 ∷ [])

abbrev us : Group
us = group (text (codes "us") ∷ []) (counted 1 ∷ least_of (text (codes "en-us")) ∷ greatest_of (text (codes "en-us")) ∷ counted 1 ∷ [])

pub by_country_10 : of_records by_country (record_10 ∷ []) ≡ grouped (group (None ∷ []) (counted 2 ∷ least_of (text (codes "en")) ∷ greatest_of (text (codes "en")) ∷ counted 2 ∷ []) ∷ gb ∷ us ∷ [])
unfolding partial_of
by_country_10 = refl

pub by_country_20 : of_records by_country (record_20 ∷ []) ≡ grouped (group (None ∷ []) (counted 1 ∷ least_of None ∷ greatest_of None ∷ counted 1 ∷ []) ∷ [])
unfolding partial_of
by_country_20 = refl

-- the key NULL is in both records, gb and us in one, and no other is a group
pub by_country_merged : merge (of_records by_country (record_20 ∷ [])) (of_records by_country (record_10 ∷ []))
    ≡ grouped (group (None ∷ []) (counted 3 ∷ least_of (text (codes "en")) ∷ greatest_of (text (codes "en")) ∷ counted 3 ∷ []) ∷ gb ∷ us ∷ [])
unfolding partial_of merge
by_country_merged = refl

pub by_country_of_both : of_records by_country (record_20 ∷ record_10 ∷ []) ≡ merge (of_records by_country (record_20 ∷ [])) (of_records by_country (record_10 ∷ []))
unfolding partial_of merge
by_country_of_both = refl

-- groups of one and of the other, one between the other's
pub between : merge (grouped (gb ∷ us ∷ [])) (grouped (group (text (codes "gc") ∷ []) [] ∷ [])) ≡ grouped (gb ∷ group (text (codes "gc") ∷ []) [] ∷ us ∷ [])
unfolding merge
between = refl

pub no_records : (of_records by_country [] ≡ grouped []) × (empty_partial by_country ≡ grouped [])
unfolding partial_of empty_partial
no_records = (refl, refl)

-- the rows have the items in their order
pub by_country_finished : finished by_country (of_records by_country (record_20 ∷ [])) ≡
    cell (codes "n") (Some (whole 1)) (cell (codes "c") None (cell (codes "l") None (cell (codes "g") None (cell (codes "d") (Some (whole 1)) no_entries)))) ∷ []
unfolding partial_of finished
by_country_finished = refl

-- ---- a condition

-- SELECT SUM(Links.Forward) AS s, COUNT(*) AS n FROM Document WHERE Links.Forward > 20: only what is kept is gathered
abbrev kept_forward : Query
kept_forward = record {
  condition = Some (comparison greater (path_value forward) (constant (whole 20)));
  selection = groups [] (item (codes "s") (aggregate sum (path_value forward)) ∷ item (codes "n") count_rows ∷ []);
}

pub kept_of_all : of_records kept_forward (record_10 ∷ record_20 ∷ record_30 ∷ []) ≡ grouped (group [] (summed (Some (pos 180)) ∷ counted 2 ∷ []) ∷ [])
unfolding partial_of
kept_of_all = refl

-- ---- record queries

-- SELECT DocId AS d, COUNT(Name.Url) WITHIN RECORD AS u, Links.Backward AS b FROM Document
abbrev pub of_each : Query
of_each = record {
  condition = None;
  selection = objects (record { name = codes "d"; term = expression (path_value doc_id) } ∷ record { name = codes "u"; term = within count (path_value url) [] }
      ∷ record { name = codes "b"; term = expression (path_value backward) } ∷ []);
}

abbrev line_10 : Object
line_10 = cell (codes "d") (Some (whole 10)) (cell (codes "u") (Some (whole 2)) (list (codes "Links.Backward") no_objects no_entries))

abbrev line_20 : Object
line_20 = cell (codes "d") (Some (whole 20)) (cell (codes "u") (Some (whole 1))
    (list (codes "Links.Backward") (object (cell (codes "b") (Some (whole 10)) no_entries) (object (cell (codes "b") (Some (whole 30)) no_entries) no_objects)) no_entries))

pub lines_of_two : of_records of_each (record_10 ∷ record_20 ∷ []) ≡ lines (line_10 ∷ line_20 ∷ [])
unfolding partial_of
lines_of_two = refl

-- the lines of the first before those of the second
pub lines_merged : merge (of_records of_each (record_20 ∷ [])) (of_records of_each (record_10 ∷ [])) ≡ lines (line_20 ∷ line_10 ∷ [])
unfolding partial_of merge
lines_merged = refl

pub lines_finished : (finished of_each (lines (line_10 ∷ [])) ≡ line_10 ∷ []) × (empty_partial of_each ≡ lines [])
unfolding finished empty_partial
lines_finished = (refl, refl)

-- ---- which partials are a query's

pub those_of_records : (is_partial document totals (of_records totals (record_10 ∷ [])) ≡ true) × (is_partial document by_country (of_records by_country (record_10 ∷ [])) ≡ true)
    × (is_partial document of_each (of_records of_each (record_10 ∷ record_20 ∷ [])) ≡ true) × (is_partial document by_country (grouped []) ≡ true)
unfolding partial_of is_partial
those_of_records = (refl, refl, refl, refl)

-- not without the one group, or with two; not with lines, not with groups for lines
pub not_totals : (is_partial document totals (grouped []) ≡ false) × (is_partial document totals (grouped (group [] (counted 0 ∷ counted 0 ∷ summed None ∷ []) ∷ group [] (counted 0 ∷ counted 0 ∷ summed None ∷ []) ∷ [])) ≡ false)
    × (is_partial document totals (lines []) ≡ false) × (is_partial document of_each (grouped []) ≡ false)
unfolding is_partial
not_totals = (refl, refl, refl, refl)

-- an accumulator too few, too many, of another aggregate; a key too many, too few, of another type
pub not_of_type : (is_partial document totals (grouped (group [] (counted 0 ∷ counted 0 ∷ []) ∷ [])) ≡ false) × (is_partial document totals (grouped (group [] (counted 0 ∷ counted 0 ∷ summed None ∷ counted 0 ∷ []) ∷ [])) ≡ false)
    × (is_partial document totals (grouped (group [] (counted 0 ∷ summed None ∷ summed None ∷ []) ∷ [])) ≡ false) × (is_partial document totals (grouped (group (None ∷ []) (counted 0 ∷ counted 0 ∷ summed None ∷ []) ∷ [])) ≡ false)
    × (is_partial document by_country (grouped (group [] (counted 1 ∷ least_of None ∷ greatest_of None ∷ counted 1 ∷ []) ∷ [])) ≡ false)
    × (is_partial document by_country (grouped (group (Some (whole 1) ∷ []) (counted 1 ∷ least_of None ∷ greatest_of None ∷ counted 1 ∷ []) ∷ [])) ≡ false)
    × (is_partial document by_country (grouped (group (None ∷ []) (counted 1 ∷ least_of (Some (whole 1)) ∷ greatest_of None ∷ counted 1 ∷ []) ∷ [])) ≡ false)
    × (is_partial document by_country (grouped (group (None ∷ []) (counted 1 ∷ least_of None ∷ greatest_of (Some (whole 1)) ∷ counted 1 ∷ []) ∷ [])) ≡ false)
unfolding is_partial
not_of_type = (refl, refl, refl, refl, refl, refl, refl, refl)

-- key tuples ascend, each once
pub not_ascending : (is_partial document by_country (grouped (us ∷ gb ∷ [])) ≡ false) × (is_partial document by_country (grouped (gb ∷ gb ∷ [])) ≡ false) × (is_partial document by_country (grouped (gb ∷ us ∷ [])) ≡ true)
unfolding is_partial
not_ascending = (refl, refl, refl)

-- lines: each cell and each list stands at its place, under its name, and nothing behind; the objects of a list too
abbrev cell_d : Object → Object
cell_d o = cell (codes "d") (Some (whole 10)) o

abbrev cell_u : Object → Object
cell_u o = cell (codes "u") (Some (whole 2)) o

abbrev of_lines : Object → Bool
of_lines o = is_partial document of_each (lines (o ∷ []))

pub forms_of_lines : (of_lines line_10 ≡ true) × (of_lines line_20 ≡ true) × (of_lines no_entries ≡ false) × (of_lines (cell_u (cell_d (list (codes "Links.Backward") no_objects no_entries))) ≡ false)
    × (of_lines (cell_d (cell_u no_entries)) ≡ false) × (of_lines (cell_d (cell_u (cell (codes "Links.Backward") None no_entries))) ≡ false)
    × (of_lines (list (codes "d") no_objects (cell_u (list (codes "Links.Backward") no_objects no_entries))) ≡ false)
    × (of_lines (cell_d (cell_u (list (codes "Links.Forward") no_objects no_entries))) ≡ false)
    × (of_lines (cell_d (cell_u (list (codes "Links.Backward") no_objects (cell_d no_entries)))) ≡ false)
    × (of_lines (cell_d (cell_u (list (codes "Links.Backward") (object (cell (codes "b") None no_entries) no_objects) no_entries))) ≡ true)
    × (of_lines (cell_d (cell_u (list (codes "Links.Backward") (object (cell (codes "b") None no_entries) (object no_entries no_objects)) no_entries))) ≡ false)
    × (is_partial document of_each (lines (line_10 ∷ no_entries ∷ [])) ≡ false)
unfolding is_partial
forms_of_lines = (refl, refl, refl, refl, refl, refl, refl, refl, refl, refl, refl, refl)

-- MIN of one expression, and whether this may be its least value
abbrev least_fits : Expression → Value → Bool
least_fits e v = is_partial document (record { condition = None; selection = groups [] (item (codes "m") (aggregate least e) ∷ []) }) (grouped (group [] (least_of (Some v) ∷ []) ∷ []))

abbrev truth : Value
truth = bool_value true

abbrev a_text : Value
a_text = text_value (codes "a")

abbrev fits_which : Expression → List Bool
fits_which e = least_fits e truth ∷ least_fits e (whole 1) ∷ least_fits e a_text ∷ []

-- the least value of an expression is of its type: a truth value, a number, a text
abbrev a_truth : List Bool
a_truth = true ∷ false ∷ false ∷ []

abbrev a_number : List Bool
a_number = false ∷ true ∷ false ∷ []

abbrev is_text : List Bool
is_text = false ∷ false ∷ true ∷ []

pub types_of_literals : (fits_which (constant truth) ≡ a_truth) × (fits_which (constant (whole 1)) ≡ a_number) × (fits_which (constant a_text) ≡ is_text)
unfolding is_partial
types_of_literals = (refl, refl, refl)

pub types_of_paths : (fits_which (path_value doc_id) ≡ a_number) × (fits_which (path_value url) ≡ is_text) × (fits_which (path_value name) ≡ false ∷ false ∷ false ∷ [])
unfolding is_partial
types_of_paths = (refl, refl, refl)

-- `+` joins texts; all other signs give numbers
pub types_of_operators : (fits_which (arithmetic plus (path_value url) (path_value url)) ≡ is_text) × (fits_which (arithmetic plus (path_value doc_id) (constant (whole 1))) ≡ a_number)
    × (fits_which (arithmetic minus (path_value doc_id) (constant (whole 1))) ≡ a_number) × (fits_which (arithmetic times (path_value doc_id) (constant (whole 1))) ≡ a_number)
    × (fits_which (negative (path_value doc_id)) ≡ a_number)
unfolding is_partial
types_of_operators = (refl, refl, refl, refl, refl)

pub types_of_tests : (fits_which (comparison less (path_value doc_id) (constant (whole 1))) ≡ a_truth) × (fits_which (like (path_value url) (codes "%")) ≡ a_truth) × (fits_which (contains (path_value url) []) ≡ a_truth)
    × (fits_which (is_null (path_value url)) ≡ a_truth) × (fits_which (negation (constant truth)) ≡ a_truth) × (fits_which (conjunction (constant truth) (constant truth)) ≡ a_truth)
    × (fits_which (disjunction (constant truth) (constant truth)) ≡ a_truth)
unfolding is_partial
types_of_tests = (refl, refl, refl, refl, refl, refl, refl)

-- a key of a path that is no leaf's is NULL alone
pub keys_of_no_leaf : (is_partial document (record { condition = None; selection = groups (name ∷ []) [] }) (grouped (group (None ∷ []) [] ∷ [])) ≡ true)
    × (is_partial document (record { condition = None; selection = groups (name ∷ []) [] }) (grouped (group (Some (whole 1) ∷ []) [] ∷ [])) ≡ false)
unfolding is_partial
keys_of_no_leaf = (refl, refl)

-- ---- put one by one

abbrev put_to : List (Option Value) → Option Taken → Put
put_to t x = record { keys = t; taken = x }

abbrev taken_at : ℕ → Option Value → Option Taken
taken_at i v = Some (record { aggregate = i; value = v })

abbrev null_group : Accumulator → Accumulator → Accumulator → Accumulator → Group
null_group a b c d = group (None ∷ []) (a ∷ b ∷ c ∷ d ∷ [])

-- a group is made where it isn't there, before the greater ones and behind the less; its one accumulator takes the value, NULL too for COUNT(*)
pub put_before : put by_country (put_to (None ∷ []) (taken_at 0 None)) (grouped (gb ∷ us ∷ [])) ≡ grouped (null_group (counted 1) (least_of None) (greatest_of None) (counted 0) ∷ gb ∷ us ∷ [])
unfolding put
put_before = refl

pub put_behind : put by_country (put_to (text (codes "z") ∷ []) None) (grouped (gb ∷ [])) ≡ grouped (gb ∷ group (text (codes "z") ∷ []) (counted 0 ∷ least_of None ∷ greatest_of None ∷ counted 0 ∷ []) ∷ [])
unfolding put
put_behind = refl

pub put_in : put by_country (put_to (text (codes "gb") ∷ []) (taken_at 2 (text (codes "fr")))) (grouped (gb ∷ us ∷ []))
    ≡ grouped (group (text (codes "gb") ∷ []) (counted 1 ∷ least_of (text (codes "en-gb")) ∷ greatest_of (text (codes "fr")) ∷ counted 1 ∷ []) ∷ us ∷ [])
unfolding put
put_in = refl

-- MIN takes another, COUNT doesn't take NULL, and there is no fifth aggregate
pub put_others : (put by_country (put_to (text (codes "gb") ∷ []) (taken_at 1 (text (codes "de")))) (grouped (gb ∷ []))
    ≡ grouped (group (text (codes "gb") ∷ []) (counted 1 ∷ least_of (text (codes "de")) ∷ greatest_of (text (codes "en-gb")) ∷ counted 1 ∷ []) ∷ []))
    × (put by_country (put_to (text (codes "gb") ∷ []) (taken_at 3 None)) (grouped (gb ∷ [])) ≡ grouped (gb ∷ []))
    × (put by_country (put_to (text (codes "gb") ∷ []) (taken_at 4 (Some (whole 1)))) (grouped (gb ∷ [])) ≡ grouped (gb ∷ []))
unfolding put
put_others = (refl, refl, refl)

-- lines stay
pub put_lines : put of_each (put_to [] None) (lines []) ≡ lines []
unfolding put
put_lines = refl

-- the rows of the record with the id 20, put in one order and in another, give its partial
abbrev puts_of_20 : List Put
puts_of_20 = put_to (None ∷ []) (taken_at 0 None) ∷ put_to (None ∷ []) (taken_at 1 None) ∷ put_to (None ∷ []) (taken_at 2 None) ∷ put_to (None ∷ []) (taken_at 3 (Some (whole 20))) ∷ []

pub put_20 : put_all by_country puts_of_20 (empty_partial by_country) ≡ of_records by_country (record_20 ∷ [])
unfolding put partial_of empty_partial
put_20 = refl
