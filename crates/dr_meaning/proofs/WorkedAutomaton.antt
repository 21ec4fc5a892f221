-- The automaton and the orders of leaves of the worked schema, by computation.
use Rattle.std.specs.Prelude.{◌≡◌, ℕ, zero, suc, List, [], ◌∷◌, ◌++◌, map, codes, refl, Some, None}
use Rattle.std.specs.Fmt.{digits}
use Rattle.dr_meaning.specs.Path.{Step, Leaf, leaves}
use Rattle.dr_meaning.specs.Automaton.{automaton_text, schema_order, reading_order, transition, counting}
use Rattle.dr_meaning.specs.Walk.{Move, record_moves}
use Rattle.dr_meaning.specs.AutomatonLaws.{next_level, next_leaf}
use Rattle.dr_meaning.proofs.WorkedSchemas.{document}
use Rattle.dr_meaning.proofs.WorkedRecords.{record_10}
use Rattle.dr_meaning.proofs.WorkedPaths.{doc_id, backward, forward, code, country, url}

abbrev line : List ℕ → List ℕ
line t = t ++ 10 ∷ []

pub all_six : automaton_text (leaves document) ≡
    line (codes "DocId 0 Links.Backward")
    ++ line (codes "Links.Backward 0 Links.Forward") ++ line (codes "Links.Backward 1 Links.Backward")
    ++ line (codes "Links.Forward 0 Name.Language.Code") ++ line (codes "Links.Forward 1 Links.Forward")
    ++ line (codes "Name.Language.Code 0 Name.Language.Country") ++ line (codes "Name.Language.Code 1 Name.Language.Country") ++ line (codes "Name.Language.Code 2 Name.Language.Country")
    ++ line (codes "Name.Language.Country 0 Name.Url") ++ line (codes "Name.Language.Country 1 Name.Url") ++ line (codes "Name.Language.Country 2 Name.Language.Code")
    ++ line (codes "Name.Url 0 end") ++ line (codes "Name.Url 1 Name.Language.Code")
unfolding automaton_text digits
all_six = refl

-- some of a list's elements, by their places
abbrev nth : List Leaf → ℕ → List Leaf → List Leaf
nth [] i rest = rest
nth (l ∷ ls) zero rest = l ∷ rest
nth (l ∷ ls) (suc i) rest = nth ls i rest

abbrev pub chosen : List ℕ → List Leaf
chosen [] = []
chosen (i ∷ is) = nth (leaves document) i (chosen is)

pub id_and_country : automaton_text (chosen (0 ∷ 4 ∷ [])) ≡
    line (codes "DocId 0 Name.Language.Country")
    ++ line (codes "Name.Language.Country 0 end") ++ line (codes "Name.Language.Country 1 Name.Language.Country") ++ line (codes "Name.Language.Country 2 Name.Language.Country")
unfolding automaton_text digits
id_and_country = refl

-- ---- orders: the selection is the six leaves, in an order of its own

abbrev selection : List (List Step)
selection = url ∷ country ∷ code ∷ doc_id ∷ forward ∷ backward ∷ []

-- DocId, Links.Backward, Links.Forward, Name.Language.Code, Name.Language.Country, Name.Url
pub in_schema_order : schema_order document selection ≡ 3 ∷ 5 ∷ 4 ∷ 2 ∷ 1 ∷ 0 ∷ []
in_schema_order = refl

-- DocId, Links.Backward, Links.Forward, Name.Url, Name.Language.Code, Name.Language.Country
pub in_reading_order : reading_order document selection ≡ 3 ∷ 5 ∷ 4 ∷ 0 ∷ 2 ∷ 1 ∷ []
in_reading_order = refl

pub reading_automaton : automaton_text (chosen (0 ∷ 1 ∷ 2 ∷ 5 ∷ 3 ∷ 4 ∷ [])) ≡
    line (codes "DocId 0 Links.Backward")
    ++ line (codes "Links.Backward 0 Links.Forward") ++ line (codes "Links.Backward 1 Links.Backward")
    ++ line (codes "Links.Forward 0 Name.Url") ++ line (codes "Links.Forward 1 Links.Forward")
    ++ line (codes "Name.Url 0 Name.Language.Code") ++ line (codes "Name.Url 1 Name.Language.Code")
    ++ line (codes "Name.Language.Code 0 Name.Language.Country") ++ line (codes "Name.Language.Code 1 Name.Language.Country") ++ line (codes "Name.Language.Code 2 Name.Language.Country")
    ++ line (codes "Name.Language.Country 0 end") ++ line (codes "Name.Language.Country 1 Name.Url") ++ line (codes "Name.Language.Country 2 Name.Language.Code")
unfolding automaton_text digits
reading_automaton = refl

-- a level goes to the first leaf of that common level, not to the last: from Name.Url, 1 goes to Code
pub high_level_goes_to_first : transition (doc_id ∷ code ∷ country ∷ url ∷ []) 3 1 ≡ Some 1
high_level_goes_to_first = refl

-- ---- what the automaton visits: DocId, Name.Url, Name.Language.Code, in reading order

abbrev readable : List (List Step)
readable = doc_id ∷ url ∷ code ∷ []

abbrev moves : List Move
moves = record_moves document readable record_10

pub are_in_order : (reading_order document readable ≡ counting 0 3) × (reading_order document (doc_id ∷ backward ∷ forward ∷ url ∷ code ∷ country ∷ []) ≡ counting 0 6)
are_in_order = (refl, refl)

-- the record begins with DocId, whose next level is 0; Name.Url and Name.Language.Code have come with 0 and go on with 1 and 2
pub first_visits : (next_leaf moves ≡ Some 0) × (map (λ i. next_level i moves) (0 ∷ 1 ∷ 2 ∷ 3 ∷ []) ≡ 0 ∷ 0 ∷ 0 ∷ 0 ∷ []) × (next_leaf [] ≡ None)
first_visits = (refl, refl, refl)

-- from DocId 0 leads to Name.Url; from there 1 to the first Code of the name; from Code 2 to the next language, 1 to the next name's Url, 0 to the end
pub leads : (transition readable 0 0 ≡ Some 1) × (transition readable 1 1 ≡ Some 2) × (transition readable 2 2 ≡ Some 2) × (transition readable 2 1 ≡ Some 1) × (transition readable 2 0 ≡ None)
leads = (refl, refl, refl, refl, refl)
