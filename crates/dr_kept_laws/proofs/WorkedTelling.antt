-- What is told of the branches of a record, by computation.
use Rattle.std.proofs.Common.{◌≡◌, ℕ, List, [], ◌∷◌, ◌++◌, Bool, true, false, Option, None, Some, refl}
use Rattle.std.specs.Ordering.{int_eq}
use Rattle.std.specs.Prelude.{pos, not, ◌&&◌}
use Rattle.dr_meaning.specs.Schema.{Repetition, required, optional, repeated, int64_kind, Fields, no_fields, field, leaf, group}
use Rattle.dr_meaning.specs.Path.{Step, chain_end}
use Rattle.dr_meaning.specs.Record.{Value, int_value, Node, no_slots, slot, Instances, no_instances, instance, Instance, atom, inner, single}
use Rattle.dr_meaning.specs.Rows.{value_at}
use Rattle.dr_meaning.specs.Walk.{Move, enter, leave, walk}
use Rattle.dr_kept_laws.specs.ChainNumbers.{chain_numbers, numbered_path}
use Rattle.dr_kept_laws.specs.OpenNumbers.{open_at}
use Rattle.dr_kept_laws.specs.Parts.{Part, answers_at, Pruning, nothing_pruned, prune_move, pruning_tells}
use Rattle.dr_kept_laws.specs.Constant.{constant_told, constant_leavings}
use Rattle.dr_kept_laws.specs.Leavings.{Leaving, record_leavings}
use Rattle.dr_kept_laws.specs.Telling.{Verdict, kept, dropped, undecided, nothing_read, told, told_leavings}
use Rattle.dr_moves.specs.Condition.{Watch}

abbrev step : ℕ → Repetition → Step
step i r = record { place = i; repetition = r }

abbrev number_leaf : Repetition → Fields → Fields
number_leaf r fs = field [] r (leaf int64_kind) fs

-- message { required id; optional group links { repeated backward; repeated forward };
--   repeated group name { repeated group language { required code; optional country }; optional url } }
abbrev fs : Fields
fs = number_leaf required (field [] optional (group (number_leaf repeated (number_leaf repeated no_fields)))
    (field [] repeated (group (field [] repeated (group (number_leaf required (number_leaf optional no_fields))) (number_leaf optional no_fields))) no_fields))

abbrev id : List Step
id = step 0 required ∷ []

abbrev backward : List Step
backward = step 1 optional ∷ step 0 repeated ∷ []

abbrev forward : List Step
forward = step 1 optional ∷ step 1 repeated ∷ []

abbrev country : List Step
country = step 2 repeated ∷ step 0 repeated ∷ step 1 optional ∷ []

abbrev url : List Step
url = step 2 repeated ∷ step 1 optional ∷ []

-- ---- numbers

id_has_none : chain_numbers fs id ≡ []
id_has_none = refl

backward_is_first : chain_numbers fs backward ≡ 1 ∷ []
backward_is_first = refl

forward_is_second : chain_numbers fs forward ≡ 2 ∷ []
forward_is_second = refl

url_is_in_name : chain_numbers fs url ≡ 3 ∷ []
url_is_in_name = refl

country_is_in_language : chain_numbers fs country ≡ 3 ∷ 4 ∷ []
country_is_in_language = refl

language_is_named : numbered_path fs 4 ≡ Some (step 2 repeated ∷ step 0 repeated ∷ [])
language_is_named = refl

record_is_named : numbered_path fs 0 ≡ Some []
record_is_named = refl

no_fifth : numbered_path fs 5 ≡ None
no_fifth = refl

-- ---- a record

abbrev some_number : ℕ → Instances
some_number n = single (atom (int_value (pos n)))

abbrev language : ℕ → Instances → Instance
language n c = inner (slot (some_number n) (slot c no_slots))

abbrev name : Instances → Instances → Instance
name ls u = inner (slot ls (slot u no_slots))

-- id 10, forward 20 and 40, three names: languages 1 of country 5 and 2, url 7; no language, url 8; language 3 of country 9
abbrev r : Node
r = slot (some_number 10) (slot (single (inner (slot no_instances (slot (instance (atom (int_value (pos 20))) (some_number 40)) no_slots))))
    (slot (instance (name (instance (language 1 (some_number 5)) (single (language 2 no_instances))) (some_number 7))
    (instance (name no_instances (some_number 8)) (single (name (single (language 3 (some_number 9))) no_instances)))) no_slots))

-- forward, url, country
abbrev F : List (List Step)
F = forward ∷ url ∷ country ∷ []

abbrev is_number : ℕ → Option Value → Bool
is_number n (Some (int_value z)) = int_eq z (pos n)
is_number n v = false

abbrev is_there : Option Value → Bool
is_there None = false
is_there (Some v) = true

abbrev left : ℕ → Bool → Leaving
left n d = record { number = n; dropped = d }

-- where country is 5
five_is_kept : record_leavings fs F (chain_end country) (λ row. is_number 5 (value_at country row)) r
    ≡ left 2 false ∷ left 2 false ∷ left 4 false ∷ left 4 true ∷ left 3 false ∷ left 3 true ∷ left 4 true ∷ left 3 true ∷ left 0 false ∷ []
five_is_kept = refl

-- where country isn't there: a name without languages has such a row
absent_is_kept : record_leavings fs F (chain_end country) (λ row. not (is_there (value_at country row))) r
    ≡ left 2 false ∷ left 2 false ∷ left 4 true ∷ left 4 false ∷ left 3 false ∷ left 3 false ∷ left 4 true ∷ left 3 true ∷ left 0 false ∷ []
absent_is_kept = refl

-- where url is 8: languages are below the chain's end, and kept whatever becomes of their name
eight_is_kept : record_leavings fs F (chain_end url) (λ row. is_number 8 (value_at url row)) r
    ≡ left 2 false ∷ left 2 false ∷ left 4 false ∷ left 4 false ∷ left 3 true ∷ left 3 false ∷ left 4 false ∷ left 3 true ∷ left 0 false ∷ []
eight_is_kept = refl

-- where url is 1
none_is_kept : record_leavings fs F (chain_end url) (λ row. is_number 1 (value_at url row)) r
    ≡ left 2 false ∷ left 2 false ∷ left 4 false ∷ left 4 false ∷ left 3 true ∷ left 3 true ∷ left 4 false ∷ left 3 true ∷ left 0 true ∷ []
none_is_kept = refl

-- only what is selected is gone through
fewer_branches : record_leavings fs (id ∷ url ∷ []) (chain_end id) (λ row. is_number 10 (value_at id row)) r ≡ left 3 false ∷ left 3 false ∷ left 3 false ∷ left 0 false ∷ []
fewer_branches = refl

-- ---- at each move

abbrev told_behind : Watch → List Move → List Move → List (List Verdict)
told_behind w before [] = []
told_behind w before (m ∷ ms) = told w before m ∷ told_behind w (before ++ m ∷ []) ms

abbrev one : Verdict → List Verdict
one a = a ∷ []

abbrev two : Verdict → Verdict → List Verdict
two a b = a ∷ b ∷ []

abbrev three : Verdict → Verdict → Verdict → List Verdict
three a b c = a ∷ b ∷ c ∷ []

-- url is 7 and country is 5
abbrev seven_and_five : Watch
seven_and_five = record { chain = 3 ∷ 4 ∷ []; last = 2; test = λ d. is_number 7 (d 1) && is_number 5 (d 2) }

at_each_move : told_behind seven_and_five [] (walk fs F (r ∷ []))
    ≡ one undecided
    ∷ two undecided kept ∷ two undecided kept ∷ two undecided kept ∷ two undecided kept ∷ two undecided kept ∷ two undecided kept
    ∷ two undecided undecided ∷ two undecided undecided ∷ three undecided undecided undecided ∷ three kept kept kept ∷ three kept kept kept
    ∷ three kept kept undecided ∷ three kept kept dropped ∷ three kept kept dropped ∷ two kept kept
    ∷ two kept undecided ∷ two kept undecided ∷ two kept undecided ∷ two kept dropped
    ∷ two kept undecided ∷ two kept undecided ∷ three kept undecided undecided ∷ three kept undecided dropped ∷ three kept undecided dropped ∷ two kept dropped
    ∷ one kept ∷ []
unfolding walk
at_each_move = refl

-- country is 9: the record and its third name are kept from there on
abbrev nine : Watch
nine = record { chain = 3 ∷ 4 ∷ []; last = 2; test = λ d. is_number 9 (d 2) }

nine_at_each_move : told_behind nine [] (walk fs (url ∷ backward ∷ country ∷ []) (r ∷ []))
    ≡ one undecided ∷ one undecided
    ∷ two undecided undecided ∷ two undecided undecided ∷ three undecided undecided undecided ∷ three undecided undecided dropped ∷ three undecided undecided dropped
    ∷ three undecided undecided undecided ∷ three undecided undecided dropped ∷ three undecided undecided dropped ∷ two undecided dropped
    ∷ two undecided undecided ∷ two undecided undecided ∷ two undecided undecided ∷ two undecided dropped
    ∷ two undecided undecided ∷ two undecided undecided ∷ three undecided undecided undecided ∷ three kept kept kept ∷ three kept kept kept ∷ two kept kept
    ∷ one kept ∷ []
unfolding walk
nine_at_each_move = refl

-- id is 11: the record is dropped from its row on, what is in it is told kept
abbrev eleven : Watch
eleven = record { chain = []; last = 0; test = λ d. is_number 11 (d 0) }

eleven_at_each_move : told_behind eleven [] (walk fs (id ∷ url ∷ []) (r ∷ []))
    ≡ one undecided ∷ one dropped ∷ two dropped kept ∷ two dropped kept ∷ two dropped kept ∷ two dropped kept ∷ two dropped kept ∷ two dropped kept
    ∷ two dropped kept ∷ two dropped kept ∷ two dropped kept ∷ one dropped ∷ []
unfolding walk
eleven_at_each_move = refl

-- what is told at the Leaves
five_is_told : told_leavings (record { chain = 3 ∷ 4 ∷ []; last = 2; test = λ d. is_number 5 (d 2) }) (walk fs F (r ∷ r ∷ []))
    ≡ record_leavings fs F (chain_end country) (λ row. is_number 5 (value_at country row)) r ++ record_leavings fs F (chain_end country) (λ row. is_number 5 (value_at country row)) r
unfolding walk
five_is_told = refl

-- a Leave where no branch is open tells of none
none_is_left : told_leavings nine (leave 3 ∷ []) ≡ left 3 false ∷ []
none_is_left = refl

-- country is read in the languages, and in the name that has none
open_at_country : open_at 2 [] (walk fs F (r ∷ [])) ≡ (0 ∷ 3 ∷ 4 ∷ []) ∷ (0 ∷ 3 ∷ 4 ∷ []) ∷ (0 ∷ 3 ∷ []) ∷ (0 ∷ 3 ∷ 4 ∷ []) ∷ []
unfolding walk
open_at_country = refl

-- ---- in parts

abbrev url_is : ℕ → Bool → Part
url_is n b = record { last = 1; test = λ d. is_number n (d 1); answer = b }

abbrev country_is : ℕ → Bool → Part
country_is n b = record { last = 2; test = λ d. is_number n (d 2); answer = b }

-- whatever the answers before the record
answered_in_parts : answers_at 2 nothing_read.context (url_is 7 true ∷ country_is 5 true ∷ []) (walk fs F (r ∷ [])) ≡ true ∷ false ∷ false ∷ false ∷ []
unfolding walk
answered_in_parts = refl

second_in_parts : answers_at 2 nothing_read.context (country_is 9 false ∷ []) (walk fs F (r ∷ r ∷ [])) ≡ false ∷ false ∷ false ∷ true ∷ false ∷ false ∷ false ∷ true ∷ []
unfolding walk
second_in_parts = refl

abbrev pruned_behind : Watch → Pruning → List Move → List (List Verdict)
pruned_behind w g [] = []
pruned_behind w g (m ∷ ms) = pruning_tells w g m ∷ pruned_behind w (prune_move w g m) ms

pruned_at_each_move : pruned_behind seven_and_five (nothing_pruned (url_is 7 true ∷ country_is 5 false ∷ [])) (walk fs F (r ∷ r ∷ [])) ≡ told_behind seven_and_five [] (walk fs F (r ∷ r ∷ []))
unfolding walk
pruned_at_each_move = refl

-- ---- without leaves

constant_behind : constant_leavings false 0 (walk fs (url ∷ []) (r ∷ [])) ≡ left 3 false ∷ left 3 false ∷ left 3 false ∷ left 0 true ∷ []
unfolding walk
constant_behind = refl

constant_kept : constant_told true [] (enter 0) ≡ one kept
constant_kept = refl

constant_dropped : constant_told false (enter 0 ∷ enter 3 ∷ leave 3 ∷ []) (enter 3) ≡ two dropped kept
constant_dropped = refl

constant_left : constant_told false (enter 0 ∷ enter 3 ∷ []) (leave 3) ≡ two dropped kept
constant_left = refl
