-- The walk of records and the moves that nest, by computation.
use Rattle.std.specs.Prelude.{◌≡◌, ℕ, List, [], ◌∷◌, map, pos, Option, Some, None, codes, refl}
use Rattle.std.specs.Str.{is_utf8, chars}
use Rattle.dr_meaning.specs.Schema.{no_fields, field, leaf, group, required, optional, repeated, int64_kind, text_kind}
use Rattle.dr_meaning.specs.Path.{Leaf, leaves}
use Rattle.dr_meaning.specs.Record.{Value, int_value, text_value, Node, no_slots, slot, no_instances}
use Rattle.dr_meaning.specs.Column.{triplet}
use Rattle.dr_meaning.specs.Walk.{Move, enter, value, leave, walk, Open, no_record, in_record, open_after, repeated_paths}
use Rattle.dr_meaning.proofs.WorkedSchemas.{document}
use Rattle.dr_meaning.proofs.WorkedRecords.{record_10, record_20, record_30, numbers, language_node, name_node, document_node}
use Rattle.dr_meaning.proofs.WorkedPaths.{step, doc_id, backward, forward, name, language_level, code, url, country}
use Rattle.dr_meaning.proofs.WorkedAutomaton.{chosen}

abbrev word : List ℕ → Option Value
word t = Some (text_value t)

abbrev number : ℕ → Option Value
number n = Some (int_value (pos n))

pub numbers_of_fields : repeated_paths document ≡ backward ∷ forward ∷ name ∷ language_level ∷ []
numbers_of_fields = refl

-- Name is the schema's third repeated field
pub walk_10 : walk document (doc_id ∷ url ∷ []) (record_10 ∷ []) ≡
    enter 0 ∷ value 0 (triplet 0 0 (number 10))
    ∷ enter 3 ∷ value 1 (triplet 0 2 (word (codes "http://A"))) ∷ leave 3
    ∷ enter 3 ∷ value 1 (triplet 1 2 (word (codes "http://B"))) ∷ leave 3
    ∷ enter 3 ∷ value 1 (triplet 1 1 None) ∷ leave 3
    ∷ leave 0 ∷ []
unfolding walk
walk_10 = refl

-- the leaves of a level come before those of the fields below it, and an absent instance isn't entered
pub walk_20 : walk document (country ∷ url ∷ backward ∷ []) (record_20 ∷ record_30 ∷ []) ≡
    enter 0
    ∷ enter 1 ∷ value 2 (triplet 0 2 (number 10)) ∷ leave 1 ∷ enter 1 ∷ value 2 (triplet 1 2 (number 30)) ∷ leave 1
    ∷ enter 3 ∷ value 1 (triplet 0 2 (word (codes "http://C"))) ∷ value 0 (triplet 0 1 None) ∷ leave 3
    ∷ leave 0
    ∷ enter 0
    ∷ value 2 (triplet 0 0 None) ∷ value 1 (triplet 0 0 None) ∷ value 0 (triplet 0 0 None)
    ∷ leave 0 ∷ []
unfolding walk
walk_20 = refl

-- ---- nesting

-- what is open after some moves; none where one of them doesn't nest
abbrev after_all : List Leaf → Option Open → List Move → Option Open
after_all F o [] = o
after_all F None (m ∷ ms) = None
after_all F (Some o) (m ∷ ms) = after_all F (open_after document F o m) ms

pub walk_nests : after_all (chosen (0 ∷ 5 ∷ [])) (Some no_record) (walk document (doc_id ∷ url ∷ []) (record_10 ∷ record_30 ∷ [])) ≡ Some no_record
unfolding walk is_utf8 chars lib.Utf8.encode
walk_nests = refl

-- a language isn't entered outside a name, nor left before it is entered; a value of another kind doesn't nest
pub language_needs_name : after_all (chosen (0 ∷ 5 ∷ [])) (Some no_record) (enter 0 ∷ enter 4 ∷ []) ≡ None
language_needs_name = refl

pub language_in_name : after_all (chosen (0 ∷ 5 ∷ [])) (Some no_record) (enter 0 ∷ enter 3 ∷ enter 4 ∷ []) ≡ Some (in_record (language_level ∷ name ∷ []))
language_in_name = refl

pub left_before_entered : after_all (chosen (0 ∷ 5 ∷ [])) (Some no_record) (enter 0 ∷ leave 3 ∷ []) ≡ None
left_before_entered = refl

pub doc_id_not_in_name : after_all (chosen (0 ∷ 5 ∷ [])) (Some no_record) (enter 0 ∷ enter 3 ∷ value 0 (triplet 0 0 (number 10)) ∷ []) ≡ None
doc_id_not_in_name = refl

pub text_is_no_number : after_all (chosen (0 ∷ 5 ∷ [])) (Some no_record) (enter 0 ∷ value 0 (triplet 0 0 (word (codes "x"))) ∷ []) ≡ None
text_is_no_number = refl

-- ---- a record of two names of two languages each, with all its leaves

abbrev record_40 : Node
record_40 = document_node 40
    (slot no_instances (slot (numbers (7 ∷ 8 ∷ [])) no_slots) ∷ [])
    (name_node (language_node (codes "a") (codes "x" ∷ []) ∷ language_node (codes "b") [] ∷ []) (codes "u" ∷ [])
    ∷ name_node (language_node (codes "c") [] ∷ language_node (codes "d") (codes "y" ∷ []) ∷ []) [] ∷ [])

-- in each name its own leaf, then each language; the first language begins with the name's level, a later one with 2
pub walk_40 : walk document (doc_id ∷ backward ∷ forward ∷ code ∷ country ∷ url ∷ []) (record_40 ∷ []) ≡
    enter 0 ∷ value 0 (triplet 0 0 (number 40))
    ∷ value 1 (triplet 0 1 None)
    ∷ enter 2 ∷ value 2 (triplet 0 2 (number 7)) ∷ leave 2 ∷ enter 2 ∷ value 2 (triplet 1 2 (number 8)) ∷ leave 2
    ∷ enter 3 ∷ value 5 (triplet 0 2 (word (codes "u")))
    ∷ enter 4 ∷ value 3 (triplet 0 2 (word (codes "a"))) ∷ value 4 (triplet 0 3 (word (codes "x"))) ∷ leave 4
    ∷ enter 4 ∷ value 3 (triplet 2 2 (word (codes "b"))) ∷ value 4 (triplet 2 2 None) ∷ leave 4
    ∷ leave 3
    ∷ enter 3 ∷ value 5 (triplet 1 1 None)
    ∷ enter 4 ∷ value 3 (triplet 1 2 (word (codes "c"))) ∷ value 4 (triplet 1 2 None) ∷ leave 4
    ∷ enter 4 ∷ value 3 (triplet 2 2 (word (codes "d"))) ∷ value 4 (triplet 2 3 (word (codes "y"))) ∷ leave 4
    ∷ leave 3
    ∷ leave 0 ∷ []
unfolding walk
walk_40 = refl

pub all_of_40_nests : after_all (leaves document) (Some no_record) (walk document (doc_id ∷ backward ∷ forward ∷ code ∷ country ∷ url ∷ []) (record_40 ∷ record_30 ∷ record_20 ∷ [])) ≡ Some no_record
unfolding walk is_utf8 chars lib.Utf8.encode
all_of_40_nests = refl

-- no selected leaf: each record is entered and left; no record: no moves
pub walk_of_nothing : (walk document [] (record_40 ∷ record_30 ∷ []) ≡ enter 0 ∷ leave 0 ∷ enter 0 ∷ leave 0 ∷ []) × (walk document (doc_id ∷ []) [] ≡ [])
unfolding walk
walk_of_nothing = (refl, refl)

-- ---- which moves nest, for the six leaves in schema order

abbrev after : Open → List Move → List (Option Open)
after o ms = map (open_after document (leaves document) o) ms

-- outside a record only a record is entered
pub outside : after no_record (enter 0 ∷ enter 3 ∷ leave 0 ∷ leave 3 ∷ value 0 (triplet 0 0 (number 1)) ∷ []) ≡ Some (in_record []) ∷ None ∷ None ∷ None ∷ None ∷ []
outside = refl

-- in a record: no other record, a field below it but not one below that, no field that there isn't; the record is left, nothing else
pub in_a_record : after (in_record []) (enter 0 ∷ enter 1 ∷ enter 3 ∷ enter 4 ∷ enter 5 ∷ leave 0 ∷ leave 3 ∷ leave 5 ∷ []) ≡
    None ∷ Some (in_record (backward ∷ [])) ∷ Some (in_record (name ∷ [])) ∷ None ∷ None ∷ Some no_record ∷ None ∷ None ∷ []
in_a_record = refl

-- in a name: neither a name nor a field beside it; a language; the name is left, neither the record nor a language
pub in_a_name : after (in_record (name ∷ [])) (enter 3 ∷ enter 1 ∷ enter 4 ∷ enter 0 ∷ leave 3 ∷ leave 0 ∷ leave 4 ∷ leave 1 ∷ []) ≡
    None ∷ None ∷ Some (in_record (language_level ∷ name ∷ [])) ∷ None ∷ Some (in_record []) ∷ None ∷ None ∷ None ∷ []
in_a_name = refl

-- in a language: the language is left, not the name first
pub in_a_language : after (in_record (language_level ∷ name ∷ [])) (leave 4 ∷ leave 3 ∷ enter 4 ∷ enter 3 ∷ []) ≡ Some (in_record (name ∷ [])) ∷ None ∷ None ∷ None ∷ []
in_a_language = refl

-- a leaf's triplet nests in each open field of its chain, and in no other: DocId, Links.Forward, Code, Url, and a leaf that there isn't
abbrev each_leaf : List Move
each_leaf = value 0 (triplet 0 0 (number 1)) ∷ value 2 (triplet 0 0 None) ∷ value 3 (triplet 0 0 None) ∷ value 5 (triplet 0 0 None) ∷ value 6 (triplet 0 0 None) ∷ []

pub leaves_nest : (after (in_record []) each_leaf ≡ Some (in_record []) ∷ Some (in_record []) ∷ Some (in_record []) ∷ Some (in_record []) ∷ None ∷ [])
    × (after (in_record (name ∷ [])) each_leaf ≡ None ∷ None ∷ Some (in_record (name ∷ [])) ∷ Some (in_record (name ∷ [])) ∷ None ∷ [])
    × (after (in_record (language_level ∷ name ∷ [])) each_leaf ≡ None ∷ None ∷ Some (in_record (language_level ∷ name ∷ [])) ∷ None ∷ None ∷ [])
leaves_nest = (refl, refl, refl)

-- a value of another kind doesn't nest
pub other_kinds : after (in_record []) (value 0 (triplet 0 0 (word (codes "x"))) ∷ value 3 (triplet 0 2 (number 1)) ∷ value 3 (triplet 0 2 (word (codes "x"))) ∷ []) ≡ None ∷ None ∷ Some (in_record []) ∷ []
unfolding is_utf8 chars lib.Utf8.encode
other_kinds = refl

-- ---- numbers of repeated fields

-- depth first, through groups of each repetition
pub through_groups : repeated_paths (field (codes "a") required (group (field (codes "b") repeated (leaf int64_kind) no_fields)) (field (codes "c") repeated (group (field (codes "d") optional (group (field (codes "e") repeated (leaf text_kind) no_fields)) no_fields)) no_fields)) ≡
    (step 0 required ∷ step 0 repeated ∷ []) ∷ (step 1 repeated ∷ []) ∷ (step 1 repeated ∷ step 0 optional ∷ step 0 repeated ∷ []) ∷ []
through_groups = refl
