-- Each fault of a line, by computation; the largest record that is accepted, and one instance more.
use Rattle.std.specs.Prelude.{◌≡◌, ℕ, zero, suc, [], ◌∷◌, pos, Ok, Err, codes, refl}
use Rattle.std.specs.Str.{is_utf8, chars}
use Rattle.std.proofs.Common.{arith}
use Rattle.serde_json.proofs.OnLiterals.{serde_json_on_literals}
use Rattle.dr_meaning.specs.Record.{int_value, Node, no_slots, slot, Instances, no_instances, instance, atom, instance_count_all, text_bytes_all}
use Rattle.dr_meaning.specs.JsonRecord.{record_of_line, node_within_limits, not_json, unknown_field, missing_field, wrong_kind, out_of_range, null_element, too_large}
use Rattle.dr_meaning.proofs.WorkedSchemas.{document}
use Rattle.dr_meaning.proofs.WorkedRecords.{document_node}

pub a_fraction : record_of_line document (codes "{\"DocId\":1.5}") ≡ Err wrong_kind
unfolding record_of_line is_utf8 chars serde_json_on_literals
a_fraction = refl

pub an_unknown_key : record_of_line document (codes "{\"DocId\":1,\"X\":2}") ≡ Err unknown_field
unfolding record_of_line is_utf8 chars serde_json_on_literals
an_unknown_key = refl

-- an unknown key is found before a missing field
pub unknown_first : record_of_line document (codes "{\"X\":2}") ≡ Err unknown_field
unfolding record_of_line is_utf8 chars serde_json_on_literals
unknown_first = refl

pub no_id : record_of_line document (codes "{}") ≡ Err missing_field
unfolding record_of_line is_utf8 chars serde_json_on_literals
no_id = refl

pub a_null_element : record_of_line document (codes "{\"DocId\":1,\"Name\":[null]}") ≡ Err null_element
unfolding record_of_line is_utf8 chars serde_json_on_literals
a_null_element = refl

pub past_64_bits : record_of_line document (codes "{\"DocId\":9223372036854775808}") ≡ Err out_of_range
unfolding record_of_line is_utf8 chars serde_json_on_literals
past_64_bits = refl

pub an_empty_line : record_of_line document [] ≡ Err not_json
unfolding record_of_line is_utf8 chars serde_json_on_literals
an_empty_line = refl

-- a byte that is no UTF-8
pub not_a_text : record_of_line document (255 ∷ []) ≡ Err not_json
unfolding record_of_line is_utf8 chars serde_json_on_literals
not_a_text = refl

pub no_object : record_of_line document (codes "[1]") ≡ Err wrong_kind
unfolding record_of_line is_utf8 chars serde_json_on_literals
no_object = refl

pub no_list : record_of_line document (codes "{\"DocId\":1,\"Name\":{}}") ≡ Err wrong_kind
unfolding record_of_line is_utf8 chars serde_json_on_literals
no_list = refl

-- null in the place of an optional or a repeated field is an absent one
pub nulls : record_of_line document (codes "{\"DocId\":1,\"Name\":null,\"Links\":null}") ≡ Ok (document_node 1 [] [])
unfolding record_of_line is_utf8 chars serde_json_on_literals
nulls = refl

-- ---- the size of a record

abbrev pub zeros : ℕ → Instances
zeros zero = no_instances
zeros (suc n) = instance (atom (int_value (pos 0))) (zeros n)

-- DocId 1 and so many zeros in Links.Forward
abbrev pub with_zeros : ℕ → Node
with_zeros n = document_node 1 (slot no_instances (slot (zeros n) no_slots) ∷ []) []

zeros-count : (n : ℕ) → instance_count_all (zeros n) ≡ n
zeros-count zero = refl
zeros-count (suc n) = let e = zeros-count n in omega arith

zeros-text : (n : ℕ) → text_bytes_all (zeros n) ≡ 0
zeros-text zero = refl
zeros-text (suc n) = let e = zeros-text n in omega arith

largest_is_accepted : (n : ℕ) → instance_count_all (zeros n) ≡ 1048573 → text_bytes_all (zeros n) ≡ 0 → node_within_limits (with_zeros n) ≡ Ok (with_zeros n)
largest_is_accepted n e t = rw (e, t) refl

one_more_is_refused : (n : ℕ) → instance_count_all (zeros n) ≡ 1048574 → node_within_limits (with_zeros n) ≡ Err too_large
one_more_is_refused n e = rw e refl

pub largest : node_within_limits (with_zeros 1048573) ≡ Ok (with_zeros 1048573)
largest = largest_is_accepted 1048573 (zeros-count 1048573) (zeros-text 1048573)

pub one_more : node_within_limits (with_zeros 1048574) ≡ Err too_large
one_more = one_more_is_refused 1048574 (zeros-count 1048574)
