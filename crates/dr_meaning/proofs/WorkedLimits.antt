-- The limits of numbers, records, lines and commands, the kinds of values, and the names of refusals, by computation.
use Rattle.std.specs.Prelude.{◌≡◌, ℕ, ◌+◌, ◌-◌, ◌^◌, List, [], ◌∷◌, map, length, Bool, true, false, ℤ, pos, neg_ℤ, Result, Ok, Err, codes, refl}
use Rattle.std.specs.Str.{is_utf8, chars}
use Rattle.std.specs.Fmt.{digits}
use Rattle.json.specs.Print.{escape_byte}
use Rattle.dr_meaning.specs.Print.{value_text, record_text}
use Rattle.serde_json.proofs.OnLiterals.{serde_json_on_literals}
use Rattle.dr_meaning.specs.Schema.{Kind, bool_kind, int32_kind, int64_kind, text_kind, Fields, no_fields, field, leaf, group, required, optional, repeated, longest_name, greatest_depth, most_leaves, leaf_count, depth, repeated_fields}
use Rattle.dr_meaning.specs.SchemaText.{too_long, float_kind, empty_group, syntax, bad_name, duplicate_name, too_deep, too_many_leaves, longest_schema}
use Rattle.dr_meaning.specs.Path.{not_a_leaf}
use Rattle.dr_meaning.specs.Record.{bool_value, int_value, text_value, in_int32, in_int64, is_of_kind, fits_repetition, Node, no_slots, slot, gap, Instances, no_instances, atom, inner, single, is_record, instance_count, text_bytes}
use Rattle.dr_meaning.specs.JsonRecord.{RecordFault, record_of_line, node_within_limits, most_instances, most_text_bytes, not_json, unknown_field as unknown_key, missing_field, wrong_kind, out_of_range, null_element, too_large}
use Rattle.dr_meaning.specs.Lines.{line_too_long, too_many_records, no_record, record_at, line_record, longest_line}
use Rattle.dr_meaning.specs.Tokens.{longest_query}
use Rattle.dr_meaning.specs.Refusals.{schema_refusal_text, field_refusal_text, line_refusal_text, schema_problem_name, line_fault_name}
use Rattle.dr_meaning.specs.Ask.{most_asked}
use Rattle.dr_meaning.specs.Stripe.{most_striped}
use Rattle.dr_meaning.proofs.WorkedSchemas.{document}
use Rattle.dr_meaning.proofs.WorkedRecords.{record_10, record_30, numbers, texts, document_node}

-- ---- numbers and kinds

abbrev below : ℕ → ℤ
below n = neg_ℤ (pos n)

-- whole numbers of 32 and 64 bits: -2^(n-1) to 2^(n-1) - 1
pub numbers_of_32_bits : map in_int32 (pos (2 ^ 31 - 1) ∷ pos (2 ^ 31) ∷ below (2 ^ 31) ∷ below (2 ^ 31 + 1) ∷ pos 0 ∷ []) ≡ true ∷ false ∷ true ∷ false ∷ true ∷ []
numbers_of_32_bits = refl

pub numbers_of_64_bits : map in_int64 (pos (2 ^ 63 - 1) ∷ pos (2 ^ 63) ∷ below (2 ^ 63) ∷ below (2 ^ 63 + 1) ∷ pos 0 ∷ []) ≡ true ∷ false ∷ true ∷ false ∷ true ∷ []
numbers_of_64_bits = refl

-- a truth value, a number of 32 bits, one of 64, a text, bytes that aren't UTF-8: which is of a kind
abbrev of : Kind → List Bool
of k = map (is_of_kind k) (bool_value false ∷ int_value (pos 5) ∷ int_value (pos (2 ^ 31)) ∷ int_value (pos (2 ^ 63)) ∷ text_value (codes "a") ∷ text_value (255 ∷ []) ∷ [])

pub kinds : (of bool_kind ≡ true ∷ false ∷ false ∷ false ∷ false ∷ false ∷ []) × (of int32_kind ≡ false ∷ true ∷ false ∷ false ∷ false ∷ false ∷ [])
    × (of int64_kind ≡ false ∷ true ∷ true ∷ false ∷ false ∷ false ∷ []) × (of text_kind ≡ false ∷ false ∷ false ∷ false ∷ true ∷ false ∷ [])
unfolding is_utf8 chars lib.Utf8.encode
kinds = (refl, refl, refl, refl)

-- none, one, two instances
pub repetitions : (map (fits_repetition required) (0 ∷ 1 ∷ 2 ∷ []) ≡ false ∷ true ∷ false ∷ []) × (map (fits_repetition optional) (0 ∷ 1 ∷ 2 ∷ []) ≡ true ∷ true ∷ false ∷ []) × (map (fits_repetition repeated) (0 ∷ 1 ∷ 2 ∷ []) ≡ true ∷ true ∷ true ∷ [])
repetitions = (refl, refl, refl)

-- ---- which nodes are records

-- no DocId, two of them, a text for it; a field too few, one too many; a gap; a value for a group; two instances of an optional group
pub no_records : map (is_record document) (slot no_instances (slot no_instances (slot no_instances no_slots)) ∷ slot (numbers (1 ∷ 2 ∷ [])) (slot no_instances (slot no_instances no_slots)) ∷ slot (texts (codes "1" ∷ [])) (slot no_instances (slot no_instances no_slots))
    ∷ slot (numbers (1 ∷ [])) (slot no_instances no_slots) ∷ slot (numbers (1 ∷ [])) (slot no_instances (slot no_instances (slot no_instances no_slots))) ∷ slot (numbers (1 ∷ [])) (slot no_instances (gap no_slots))
    ∷ slot (numbers (1 ∷ [])) (slot (numbers (2 ∷ [])) (slot no_instances no_slots)) ∷ document_node 1 (slot no_instances (slot no_instances no_slots) ∷ slot no_instances (slot no_instances no_slots) ∷ []) [] ∷ no_slots ∷ [])
    ≡ false ∷ false ∷ false ∷ false ∷ false ∷ false ∷ false ∷ false ∷ false ∷ []
unfolding is_utf8 chars lib.Utf8.encode
no_records = refl

-- the size of the first record: 18 instances (DocId, Links and three numbers in it, three names, three languages, three codes, two countries, two URLs)
-- and 32 bytes of texts; and of the third
pub size_of_10 : (instance_count record_10 ≡ 18) × (text_bytes record_10 ≡ 32) × (instance_count record_30 ≡ 1) × (text_bytes record_30 ≡ 0)
size_of_10 = (refl, refl, refl, refl)

-- the size of the schema: leaves, parts of the longest path, repeated fields
pub size_of_document : (leaf_count document ≡ 6) × (depth document ≡ 3) × (repeated_fields document ≡ 4)
size_of_document = (refl, refl, refl)

-- ---- the limits, each a number of its own

pub limits : (longest_name ≡ 64) × (greatest_depth ≡ 32) × (most_leaves ≡ 1024) × (longest_schema ≡ 1048576) × (longest_line ≡ 1048576) × (longest_query ≡ 65536)
    × (most_instances ≡ 1048575) × (most_text_bytes ≡ 1073741824) × (most_asked 100000 ≡ 409600000) × (most_striped ≡ 4096000000)
limits = (refl, refl, refl, refl, refl, refl, refl, refl, refl, refl)

-- a record may reach both limits, and pass neither
pub at_both_limits : (n : Node) → instance_count n ≡ 1048575 → text_bytes n ≡ 1073741824 → node_within_limits n ≡ Ok n
at_both_limits n e f = rw (e, f) refl

pub one_instance_more : (n : Node) → instance_count n ≡ 1048576 → node_within_limits n ≡ Err too_large
one_instance_more n e = rw e refl

pub one_byte_more : (n : Node) → instance_count n ≡ 1 → text_bytes n ≡ 1073741825 → node_within_limits n ≡ Err too_large
one_byte_more n e f = rw (e, f) refl

-- a line of 1,048,577 bytes is too long, whatever else is wrong; then the number of records; then the line itself
pub too_long_first : (line : List ℕ) → length line ≡ 1048577 → record_at document 1 2 line ≡ Err line_too_long
too_long_first line e = rw e refl

pub then_too_many : (line : List ℕ) → length line ≡ 1048576 → (record_at document 1 2 line ≡ Err too_many_records) × (record_at document 2 2 line ≡ line_record (record_of_line document line))
then_too_many line e = rw e (refl, refl)

-- ---- values in JSON

abbrev each_kind : Fields
each_kind = field (codes "b") optional (leaf bool_kind) (field (codes "i") optional (leaf int32_kind) (field (codes "n") optional (leaf int64_kind) (field (codes "t") optional (leaf text_kind)
    (field (codes "g") repeated (group (field (codes "x") required (leaf int32_kind) no_fields)) no_fields))))

abbrev row : Instances → Instances → Instances → Instances → Instances → Node
row b i n t g = slot b (slot i (slot n (slot t (slot g no_slots))))

abbrev faults : List (List ℕ) → List (Result Node RecordFault)
faults lines = map (record_of_line each_kind) lines

pub values : record_of_line each_kind (codes "{\"t\":\"a\\u0041\",\"n\":-9223372036854775808,\"i\":-2147483648,\"b\":true,\"g\":[{\"x\":2147483647}]}") ≡
    Ok (row (single (atom (bool_value true))) (single (atom (int_value (below (2 ^ 31))))) (single (atom (int_value (below (2 ^ 63))))) (single (atom (text_value (codes "aA"))))
    (single (inner (slot (single (atom (int_value (pos (2 ^ 31 - 1))))) no_slots))))
unfolding record_of_line is_utf8 chars serde_json_on_literals
values = refl

-- numbers past 32 bits, past 64 bits on either side
pub past_the_range : faults (codes "{\"i\":2147483648}" ∷ codes "{\"i\":-2147483649}" ∷ codes "{\"n\":9223372036854775808}" ∷ []) ≡ Err out_of_range ∷ Err out_of_range ∷ Err out_of_range ∷ []
unfolding record_of_line is_utf8 chars serde_json_on_literals
past_the_range = refl

-- a value of another kind: what is past 64 bits on the lower side, or has a fraction or an exponent, is no whole number
pub other_kinds : faults (codes "{\"b\":1}" ∷ codes "{\"b\":\"true\"}" ∷ codes "{\"i\":true}" ∷ codes "{\"i\":\"1\"}" ∷ codes "{\"n\":1.0}" ∷ codes "{\"n\":1e2}" ∷ codes "{\"n\":-9223372036854775809}" ∷ codes "{\"t\":1}" ∷ codes "{\"t\":[]}" ∷ codes "{\"g\":{\"x\":1}}" ∷ codes "{\"g\":[1]}" ∷ codes "{\"i\":[1]}" ∷ codes "null" ∷ [])
    ≡ Err wrong_kind ∷ Err wrong_kind ∷ Err wrong_kind ∷ Err wrong_kind ∷ Err wrong_kind ∷ Err wrong_kind ∷ Err wrong_kind ∷ Err wrong_kind ∷ Err wrong_kind ∷ Err wrong_kind ∷ Err wrong_kind ∷ Err wrong_kind ∷ Err wrong_kind ∷ []
unfolding record_of_line is_utf8 chars serde_json_on_literals
other_kinds = refl

-- the first fault: an unknown key of an object before its fields; then the fields in schema order, each with all that is below it; elements in order
pub first_faults : faults (codes "{\"g\":[{}],\"y\":1}" ∷ codes "{\"g\":[{}],\"b\":1}" ∷ codes "{\"g\":[{\"x\":1},{\"y\":1}],\"t\":\"a\"}" ∷ codes "{\"g\":[{\"x\":null},null]}" ∷ codes "{\"g\":[null,{}]}" ∷ codes "{\"g\":[{\"x\":\"a\",\"z\":1}]}" ∷ [])
    ≡ Err unknown_key ∷ Err wrong_kind ∷ Err unknown_key ∷ Err missing_field ∷ Err null_element ∷ Err unknown_key ∷ []
unfolding record_of_line is_utf8 chars serde_json_on_literals
first_faults = refl

-- ---- names of refusals

pub schema_problems : map schema_problem_name (too_long ∷ float_kind ∷ empty_group ∷ syntax ∷ bad_name ∷ duplicate_name ∷ too_deep ∷ too_many_leaves ∷ []) ≡
    codes "TooLong" ∷ codes "FloatKind" ∷ codes "EmptyGroup" ∷ codes "Syntax" ∷ codes "BadName" ∷ codes "DuplicateName" ∷ codes "TooDeep" ∷ codes "TooManyLeaves" ∷ []
schema_problems = refl

pub line_faults : map line_fault_name (line_too_long ∷ too_many_records ∷ map no_record (not_json ∷ unknown_key ∷ missing_field ∷ wrong_kind ∷ out_of_range ∷ null_element ∷ too_large ∷ [])) ≡
    codes "LineTooLong" ∷ codes "TooManyRecords" ∷ codes "NotJson" ∷ codes "UnknownField" ∷ codes "MissingField" ∷ codes "WrongKind" ∷ codes "OutOfRange" ∷ codes "NullElement" ∷ codes "TooLarge" ∷ []
line_faults = refl

pub refusal_lines : (schema_refusal_text (record { place = 1048576; problem = too_long }) ≡ codes "refused schema at 1048576: TooLong\n") × (field_refusal_text 3 not_a_leaf ≡ codes "refused field 3: NotALeaf\n")
    × (line_refusal_text (record { line = 12; fault = line_too_long }) ≡ codes "refused line 12: LineTooLong\n")
unfolding digits
refusal_lines = (refl, refl, refl)

-- ---- truth values

-- as they are printed, in a record and by themselves; they are no text
abbrev truths : Node
truths = row (single (atom (bool_value true))) (single (atom (int_value (pos 0)))) no_instances no_instances (single (inner (slot (single (atom (int_value (below 1)))) no_slots)))

pub truths_as_text : (map value_text (bool_value true ∷ bool_value false ∷ int_value (below 5) ∷ text_value (codes "a\"b") ∷ []) ≡ codes "true" ∷ codes "false" ∷ codes "-5" ∷ codes "\"a\\\"b\"" ∷ [])
    × (record_text each_kind truths ≡ codes "{\"b\":true,\"i\":0,\"g\":[{\"x\":-1}]}\n") × (text_bytes truths ≡ 0) × (instance_count truths ≡ 4)
unfolding record_text escape_byte digits
truths_as_text = (refl, refl, refl, refl)

-- a node in the place of a value; a gap, and a slot, behind the last field; an empty group has no depth
pub other_nodes : map (is_record each_kind) (row (single (inner no_slots)) no_instances no_instances no_instances no_instances ∷ slot no_instances (slot no_instances (slot no_instances (slot no_instances (slot no_instances (gap no_slots)))))
    ∷ slot no_instances (slot no_instances (slot no_instances (slot no_instances (slot no_instances (slot no_instances no_slots))))) ∷ truths ∷ [])
    ≡ false ∷ false ∷ false ∷ true ∷ []
other_nodes = refl

pub no_fields_size : (depth no_fields ≡ 0) × (leaf_count no_fields ≡ 0) × (repeated_fields no_fields ≡ 0)
no_fields_size = (refl, refl, refl)
