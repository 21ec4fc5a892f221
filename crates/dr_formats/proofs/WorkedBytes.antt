-- Numbers, structs, hybrid data and values as bytes, by computation: vectors of the public standards, byte for byte.
use Rattle.std.specs.Prelude.{◌≡◌, ℕ, length, zero, suc, ◌-◌, ◌^◌, List, [], ◌∷◌, ◌++◌, map, replicate, Bool, true, false, ℤ, pos, neg_ℤ, Option, Some, None, codes, refl}
use Rattle.std.specs.Str.{is_utf8, chars}
use Rattle.dr_meaning.specs.Schema.{bool_kind, int32_kind, int64_kind, text_kind}
use Rattle.dr_meaning.specs.Record.{Value, bool_value, int_value, text_value}
use Rattle.dr_formats.specs.Reading.{Reading, got, refused}
use Rattle.dr_formats.specs.Varint.{VarintFault, varint_short, varint_too_long, read_varint, varint_bytes, zigzag, from_zigzag}
use Rattle.dr_formats.specs.Compact.{ThriftType, Items, Pairs, list_header_bytes, count_items, count_pairs, is_item, are_items, are_pairs, Item, is_tree, true_type, false_type, byte_type, i16_type, i32_type, i64_type, double_type, binary_type, list_type, set_type, map_type, struct_type, type_number, type_of, Struct, stop, struct_field, truth_item, byte_item, i16_item, i32_item, i64_item, double_item, binary_item, list_item, set_item, empty_map_item, map_item, struct_item, no_items, item, no_pairs, pair, read_struct, struct_bytes, PlacedFault, struct_fault, malformed}
use Rattle.dr_formats.specs.Hybrid.{hybrid, hybrid_bytes}
use Rattle.dr_formats.specs.Plain.{has_short_text, is_writable, from_complement, complement, plain, plain_values, plain_bytes, dictionary_values, too_short, bad_text}
use Rattle.dr_meaning.specs.Column.{triplet}
use Rattle.dr_formats.specs.Page.{is_triplet, level_width, level_part, levels, rle_truths, encoded_values}
use Rattle.dr_formats.proofs.Hexadecimal.{hex}

abbrev z : ℕ → ℤ
z n = neg_ℤ (pos n)

-- ---- variable-length numbers

abbrev varint_of : List ℕ → Reading VarintFault ℕ
varint_of digits = read_varint (hex digits)

-- the shortest spelling, the low seven bits first; the greatest number takes ten bytes
pub varints : (map varint_bytes (0 ∷ 1 ∷ 127 ∷ 128 ∷ 300 ∷ 16383 ∷ 16384 ∷ []) ≡ hex (codes "00") ∷ hex (codes "01") ∷ hex (codes "7F") ∷ hex (codes "8001") ∷ hex (codes "AC02") ∷ hex (codes "FF7F") ∷ hex (codes "808001") ∷ [])
    × (varint_bytes (2 ^ 64 - 1) ≡ hex (codes "FFFFFFFFFFFFFFFFFF01")) × (varint_bytes (2 ^ 63 - 1) ≡ hex (codes "FFFFFFFFFFFFFFFF7F"))
varints = (refl, refl, refl)

-- what is read: also a padded spelling of up to ten bytes; what follows is left
pub read_varints : map varint_of (codes "00" ∷ codes "FF7F" ∷ codes "AC02" ∷ codes "FFFFFFFFFFFFFFFFFF01" ∷ codes "8000" ∷ codes "AC820007" ∷ codes "80808080808080808000" ∷ []) ≡
    got 0 [] ∷ got 16383 [] ∷ got 300 [] ∷ got (2 ^ 64 - 1) [] ∷ got 0 [] ∷ got 300 (7 ∷ []) ∷ got 0 [] ∷ []
read_varints = refl

-- bytes that end too early; 2^64 and more; a padded spelling of eleven bytes: refused at the byte with which there is no such number
pub no_varints : map varint_of ([] ∷ codes "80" ∷ codes "80808080808080808002" ∷ codes "FFFFFFFFFFFFFFFFFF02" ∷ codes "8080808080808080808000" ∷ codes "FFFFFFFFFFFFFFFFFF" ∷ []) ≡
    refused varint_short [] ∷ refused varint_short [] ∷ refused varint_too_long (2 ∷ []) ∷ refused varint_too_long (2 ∷ []) ∷ refused varint_too_long (128 ∷ 0 ∷ []) ∷ refused varint_short [] ∷ []
no_varints = refl

-- 0, -1, 1, -2, 2, .. as 0, 1, 2, 3, 4, ..
pub zigzags : (map zigzag (pos 0 ∷ z 1 ∷ pos 1 ∷ z 2 ∷ pos 2 ∷ pos (2 ^ 63 - 1) ∷ z (2 ^ 63) ∷ []) ≡ 0 ∷ 1 ∷ 2 ∷ 3 ∷ 4 ∷ (2 ^ 64 - 2) ∷ (2 ^ 64 - 1) ∷ []) × (map from_zigzag (0 ∷ 1 ∷ 2 ∷ 3 ∷ 4 ∷ (2 ^ 64 - 1) ∷ []) ≡ pos 0 ∷ z 1 ∷ pos 1 ∷ z 2 ∷ pos 2 ∷ z (2 ^ 63) ∷ [])
zigzags = (refl, refl)

-- ---- structs of the compact protocol

-- the numbers of the types; others are none
pub types : (map type_number (true_type ∷ false_type ∷ byte_type ∷ i16_type ∷ i32_type ∷ i64_type ∷ double_type ∷ binary_type ∷ list_type ∷ set_type ∷ map_type ∷ struct_type ∷ []) ≡ 1 ∷ 2 ∷ 3 ∷ 4 ∷ 5 ∷ 6 ∷ 7 ∷ 8 ∷ 9 ∷ 10 ∷ 11 ∷ 12 ∷ [])
    × (map type_of (0 ∷ 1 ∷ 2 ∷ 12 ∷ 13 ∷ 14 ∷ 15 ∷ []) ≡ None ∷ Some true_type ∷ Some false_type ∷ Some struct_type ∷ None ∷ None ∷ None ∷ [])
types = (refl, refl)

-- a field of each type but map, with ids from 1 on, one behind a gap and one behind a wide gap, whose header has the long form
abbrev each_type : Struct
each_type = struct_field (pos 1) (truth_item true) (struct_field (pos 2) (truth_item false) (struct_field (pos 3) (byte_item 200) (struct_field (pos 4) (i16_item (z 3)) (struct_field (pos 5) (i32_item (z (2 ^ 31)))
    (struct_field (pos 6) (i64_item (pos (2 ^ 63 - 1))) (struct_field (pos 7) (double_item (1 ∷ 2 ∷ 3 ∷ 4 ∷ 5 ∷ 6 ∷ 7 ∷ 8 ∷ [])) (struct_field (pos 8) (binary_item (codes "ab"))
    (struct_field (pos 9) (list_item true_type (item (truth_item true) (item (truth_item false) no_items))) (struct_field (pos 10) (set_item i16_type (item (i16_item (pos 1)) (item (i16_item (z 1)) no_items)))
    (struct_field (pos 12) (struct_item (struct_field (pos 1) (i32_item (pos 1)) stop)) (struct_field (pos 29) (i32_item (pos 64)) stop)))))))))))

abbrev each_type_bytes : List ℕ
each_type_bytes = hex (codes "111213C8140515FFFFFFFF0F16FEFFFFFFFFFFFFFFFF0117010203040506070818026162192101001A2402012C150200053A800100")

pub each_type_is_written : struct_bytes each_type ≡ each_type_bytes
unfolding struct_bytes
each_type_is_written = refl

pub each_type_is_read : read_struct each_type_bytes ≡ got each_type []
unfolding read_struct
each_type_is_read = refl

-- a list of 15 bytes has its size behind the header; an empty list keeps its type
abbrev lists : Struct
lists = struct_field (pos 1) (list_item byte_type (item (byte_item 0) (item (byte_item 1) (item (byte_item 2) (item (byte_item 3) (item (byte_item 4) (item (byte_item 5) (item (byte_item 6) (item (byte_item 7) (item (byte_item 8)
    (item (byte_item 9) (item (byte_item 10) (item (byte_item 11) (item (byte_item 12) (item (byte_item 13) (item (byte_item 14) no_items)))))))))))))))) (struct_field (pos 2) (list_item i32_type no_items) stop)

pub long_lists : (struct_bytes lists ≡ hex (codes "19F30F000102030405060708090A0B0C0D0E190500")) × (read_struct (hex (codes "19F30F000102030405060708090A0B0C0D0E190500")) ≡ got lists [])
unfolding struct_bytes read_struct
long_lists = (refl, refl)

-- sizes up to 14 stand in the header's byte
pub list_headers : map (λ n. list_header_bytes n byte_type) (0 ∷ 14 ∷ 15 ∷ 16 ∷ 128 ∷ []) ≡
    hex (codes "03") ∷ hex (codes "E3") ∷ hex (codes "F3 0F") ∷ hex (codes "F3 10") ∷ hex (codes "F3 8001") ∷ []
list_headers = refl

-- maps: sizes first, then both types, then keys and values; a map without pairs is a 0 alone
abbrev maps : Struct
maps = struct_field (pos 1) (map_item byte_type true_type (pair (byte_item 7) (truth_item true) (pair (byte_item 8) (truth_item false) no_pairs))) (struct_field (pos 2) empty_map_item stop)

pub two_maps : (struct_bytes maps ≡ hex (codes "1B 02 31 07 01 08 00 1B 00 00")) × (read_struct (hex (codes "1B 02 31 07 01 08 00 1B 00 00")) ≡ got maps [])
unfolding struct_bytes read_struct
two_maps = (refl, refl)

-- a truth value in a list is 1 for true and any other byte for false; the list's type 1 or 2 both stand for truth values
pub truths : read_struct (hex (codes "19 31 01 00 02 19 12 01 00")) ≡ got (struct_field (pos 1) (list_item true_type (item (truth_item true) (item (truth_item false) (item (truth_item false) no_items)))) (struct_field (pos 2) (list_item false_type (item (truth_item true) no_items)) stop)) []
unfolding read_struct
truths = refl

-- which trees can be spelled: ids of 16 bits, numbers of 64, doubles of eight bytes, what is in a list, set or map of its type, a map with pairs, and no more than 32 in one another
abbrev alone : Item → Struct
alone x = struct_field (pos 1) x stop

abbrev around : ℕ → Struct
around zero = stop
around (suc n) = alone (struct_item (around n))

pub trees : map is_tree (each_type ∷ lists ∷ maps ∷ stop ∷ struct_field (z 32768) (byte_item 7) stop ∷ around 31 ∷ alone (list_item true_type (item (truth_item true) (item (truth_item false) no_items)))
    ∷ alone (map_item i32_type binary_type (pair (i32_item (pos 1)) (binary_item []) (pair (i32_item (pos 2)) (binary_item []) no_pairs)))
    ∷ alone (map_item i32_type binary_type (pair (i32_item (pos 1)) (binary_item []) no_pairs)) ∷ struct_field (pos 32767) (byte_item 7) stop ∷ [])
    ≡ replicate 10 true
trees = refl

pub no_trees : map is_tree (struct_field (pos 32768) (byte_item 7) stop ∷ alone (i64_item (pos (2 ^ 63))) ∷ alone (i32_item (pos (2 ^ 63))) ∷ alone (double_item (1 ∷ [])) ∷ alone (list_item i32_type (item (i32_item (pos 1)) (item (i64_item (pos 1)) no_items)))
    ∷ alone (set_item byte_type (item (truth_item true) no_items)) ∷ alone (map_item byte_type byte_type no_pairs) ∷ alone (map_item i32_type binary_type (pair (binary_item []) (i32_item (pos 1)) no_pairs)) ∷ alone (list_item false_type (item (byte_item 1) no_items)) ∷ struct_field (z 32769) (byte_item 7) stop ∷ around 32 ∷ [])
    ≡ replicate 11 false
no_trees = refl

-- lengths and sizes may reach 2^64 - 1, of bytes, of lists and sets, of maps; and not 2^64
pub longest_bytes : (b : List ℕ) → length b ≡ 18446744073709551615 → is_item 1 (binary_item b) ≡ true
longest_bytes b e = rw e refl

pub longer_bytes : (b : List ℕ) → length b ≡ 18446744073709551616 → is_item 1 (binary_item b) ≡ false
longer_bytes b e = rw e refl

pub longest_list : (t : ThriftType) (xs : Items) → count_items xs ≡ 18446744073709551615
    → (is_item 1 (list_item t xs) ≡ are_items 0 t xs) × (is_item 1 (set_item t xs) ≡ are_items 0 t xs)
longest_list t xs e = rw e (refl, refl)

pub longer_list : (t : ThriftType) (xs : Items) → count_items xs ≡ 18446744073709551616 → (is_item 1 (list_item t xs) ≡ false) × (is_item 1 (set_item t xs) ≡ false)
longer_list t xs e = rw e (refl, refl)

pub longest_map : (k v : ThriftType) (xs : Pairs) → count_pairs xs ≡ 18446744073709551615 → is_item 1 (map_item k v xs) ≡ are_pairs 0 k v xs
longest_map k v xs e = rw e refl

pub longer_map : (k v : ThriftType) (xs : Pairs) → count_pairs xs ≡ 18446744073709551616 → is_item 1 (map_item k v xs) ≡ false
longer_map k v xs e = rw e refl

-- ids: negative, falling and equal ones in the long form; the greatest of 16 bits, also by a delta, and one more
pub ids : (struct_bytes (struct_field (z 1) (truth_item true) (struct_field (z 2) (truth_item false) stop)) ≡ hex (codes "01 01 02 03 00")) × (read_struct (hex (codes "01 01 02 03 00")) ≡ got (struct_field (z 1) (truth_item true) (struct_field (z 2) (truth_item false) stop)) [])
    × (read_struct (hex (codes "01 FEFF03 00")) ≡ got (struct_field (pos 32767) (truth_item true) stop) []) × (read_struct (hex (codes "01 FFFF03 00")) ≡ got (struct_field (z 32768) (truth_item true) stop) []) × (struct_fault (hex (codes "01 FEFF03 11 00")) ≡ Some (record { place = 4; fault = malformed }))
    × (struct_bytes (struct_field (pos 1) (truth_item true) (struct_field (pos 1) (truth_item false) stop)) ≡ hex (codes "11 02 02 00")) × (read_struct (hex (codes "01 FCFF03 11 00")) ≡ got (struct_field (pos 32766) (truth_item true) (struct_field (pos 32767) (truth_item true) stop)) [])
unfolding struct_bytes read_struct
ids = (refl, refl, refl, refl, refl, refl, refl)

-- a delta of 15 is the greatest that fits the short form
abbrev by_15_and_16 : Struct
by_15_and_16 = struct_field (pos 1) (i32_item (pos 0)) (struct_field (pos 16) (i32_item (pos 0)) (struct_field (pos 32) (i32_item (pos 0)) stop))

pub greatest_delta : (struct_bytes by_15_and_16 ≡ hex (codes "15 00 F5 00 05 40 00 00")) × (read_struct (hex (codes "15 00 F5 00 05 40 00 00")) ≡ got by_15_and_16 [])
unfolding struct_bytes read_struct
greatest_delta = (refl, refl)

-- the byte at which no struct goes on: an unknown type of a field, of a list, of keys, of values; a delta without a type; or the end
pub faults : map (λ d. struct_fault (hex d)) (codes "1D 00" ∷ codes "19 1D" ∷ codes "1B 01 D1" ∷ codes "1B 01 1E" ∷ codes "10" ∷ codes "19 00" ∷ codes "18 05 61" ∷ codes "17 01" ∷ codes "16 80" ∷ codes "1B" ∷ codes "11" ∷ [])
    ≡ Some (record { place = 0; fault = malformed }) ∷ Some (record { place = 1; fault = malformed }) ∷ Some (record { place = 2; fault = malformed }) ∷ Some (record { place = 2; fault = malformed }) ∷ Some (record { place = 0; fault = malformed }) ∷ Some (record { place = 1; fault = malformed })
    ∷ Some (record { place = 3; fault = malformed }) ∷ Some (record { place = 2; fault = malformed }) ∷ Some (record { place = 2; fault = malformed }) ∷ Some (record { place = 1; fault = malformed }) ∷ Some (record { place = 1; fault = malformed }) ∷ []
unfolding read_struct
faults = refl

-- the end, where a list's or a field's header, a map's types, a length, a size, an id or a list's value is to come; 2^64 as a number, a length or a size
abbrev malformed_at : ℕ → Option PlacedFault
malformed_at i = Some (record { place = i; fault = malformed })

pub cut_or_wide : (map (λ d. struct_fault (hex d)) (codes "19" ∷ codes "15 02" ∷ codes "1B 01" ∷ codes "18 80" ∷ codes "19 F3 80" ∷ codes "1B 80" ∷ codes "05 80" ∷ codes "19 11" ∷ codes "19 12" ∷ codes "19 13" ∷ [])
    ≡ map malformed_at (1 ∷ 2 ∷ 2 ∷ 2 ∷ 3 ∷ 2 ∷ 2 ∷ 2 ∷ 2 ∷ 2 ∷ []))
    × (map (λ d. struct_fault (hex d ++ hex (codes "FFFFFFFFFFFFFFFFFF02")))
    (codes "16" ∷ codes "18" ∷ codes "19 F3" ∷ codes "1B" ∷ []) ≡ map malformed_at (10 ∷ 10 ∷ 11 ∷ 10 ∷ []))
unfolding read_struct
cut_or_wide = (refl, refl)

-- ---- the hybrid of repeats and packed groups

-- a repeat of none, then five; a repeat whose value isn't cut to its width; a value of two bytes; a padded header; both kinds of runs
pub runs : map (λ d. hybrid 3 5 (hex d)) (codes "00 07 0A 05" ∷ codes "0A FF" ∷ codes "8A00 05" ∷ codes "04 01 03 88C6FA" ∷ codes "01 0A 02" ∷ [])
    ≡ Some (replicate 5 5) ∷ Some (replicate 5 255) ∷ Some (replicate 5 5) ∷ Some (1 ∷ 1 ∷ 0 ∷ 1 ∷ 2 ∷ []) ∷ Some (replicate 5 2) ∷ []
unfolding hybrid
runs = refl

-- a repeat of none needs its value's bytes, where more values are wanted; a run too short; a header cut short; nothing
pub no_runs : map (λ d. hybrid 3 5 (hex d)) (codes "00" ∷ codes "08 05" ∷ codes "80" ∷ codes "0A" ∷ [] ∷ []) ≡ None ∷ None ∷ None ∷ None ∷ None ∷ []
unfolding hybrid
no_runs = refl

-- widths of more than a byte, of 32 bits, of none; of a byte, where a group of eight ends before a repeat
pub widths : (hybrid 9 2 (hex (codes "04 FF01")) ≡ Some (511 ∷ 511 ∷ [])) × (hybrid 32 1 (hex (codes "02 01020304")) ≡ Some (67305985 ∷ [])) × (hybrid 0 3 (hex (codes "03")) ≡ Some (0 ∷ 0 ∷ 0 ∷ [])) × (hybrid 12 2 (hex (codes "03 BCFADE")) ≡ Some (2748 ∷ 3567 ∷ []))
    × (hybrid 8 9 (hex (codes "03 0102030405060708 02 09")) ≡ Some (1 ∷ 2 ∷ 3 ∷ 4 ∷ 5 ∷ 6 ∷ 7 ∷ 8 ∷ 9 ∷ []))
unfolding hybrid
widths = (refl, refl, refl, refl, refl)

-- what is written: a repeat from eight equal values on, also in the middle; seven and others are packed; the rest of equal ones is a repeat
pub written_runs : (hybrid_bytes 1 (replicate 7 1 ++ 0 ∷ []) ≡ hex (codes "03 7F")) × (hybrid_bytes 1 (replicate 8 1 ++ 0 ∷ []) ≡ hex (codes "10 01 02 00")) × (hybrid_bytes 1 (0 ∷ replicate 8 1) ≡ hex (codes "03 FE 02 01"))
    × (hybrid_bytes 2 (0 ∷ replicate 8 2 ++ replicate 9 3) ≡ hex (codes "03 A8AA 03 FEFF 04 03")) × (hybrid_bytes 1 (replicate 200 1) ≡ hex (codes "9003 01")) × (hybrid_bytes 2 [] ≡ []) × (hybrid_bytes 9 (511 ∷ []) ≡ hex (codes "02 FF01"))
unfolding hybrid_bytes
written_runs = (refl, refl, refl, refl, refl, refl, refl)

-- ---- PLAIN and dictionary values

abbrev I : ℤ → Value
I n = int_value n

-- two's complement: 32 and 64 bits, at both ends and at -1
pub complements : (map (from_complement 32) (0 ∷ (2 ^ 31 - 1) ∷ (2 ^ 31) ∷ (2 ^ 32 - 1) ∷ []) ≡ pos 0 ∷ pos (2 ^ 31 - 1) ∷ z (2 ^ 31) ∷ z 1 ∷ []) × (map (complement 64) (pos 0 ∷ pos (2 ^ 63 - 1) ∷ z (2 ^ 63) ∷ z 1 ∷ []) ≡ 0 ∷ (2 ^ 63 - 1) ∷ (2 ^ 63) ∷ (2 ^ 64 - 1) ∷ [])
complements = (refl, refl)

-- each kind: truth values one bit each from the lowest, 4 and 8 bytes little-endian, texts behind their length
pub plain_vectors : (plain_bytes bool_kind (bool_value true ∷ bool_value false ∷ bool_value true ∷ []) ≡ hex (codes "05")) × (plain_bytes int32_kind (I (pos 258) ∷ I (z 2) ∷ []) ≡ hex (codes "02010000 FEFFFFFF"))
    × (plain_bytes int64_kind (I (pos 258) ∷ I (z 2) ∷ []) ≡ hex (codes "0201000000000000 FEFFFFFFFFFFFFFF")) × (plain_bytes text_kind (text_value (codes "ab") ∷ text_value [] ∷ []) ≡ hex (codes "02000000 6162 00000000"))
plain_vectors = (refl, refl, refl, refl)

pub plain_vectors_read : (plain_values bool_kind 9 (hex (codes "0501")) ≡ Some (map bool_value (true ∷ false ∷ true ∷ false ∷ false ∷ false ∷ false ∷ false ∷ true ∷ []))) × (plain_values int32_kind 2 (hex (codes "02010000 FEFFFFFF 00")) ≡ Some (I (pos 258) ∷ I (z 2) ∷ []))
    × (plain_values int64_kind 1 (hex (codes "0000000000000080")) ≡ Some (I (z (2 ^ 63)) ∷ [])) × (plain_values text_kind 2 (hex (codes "02000000 C3A9 00000000")) ≡ Some (text_value (195 ∷ 169 ∷ []) ∷ text_value [] ∷ []))
unfolding is_utf8 chars lib.Utf8.encode
plain_vectors_read = (refl, refl, refl, refl)

-- too few bytes of each kind, and a text that isn't UTF-8: half a character, a byte that begins none; the first fault in order
pub plain_faults : (plain bool_kind 9 (hex (codes "05")) ≡ refused too_short []) × (plain int32_kind 1 (hex (codes "020100")) ≡ refused too_short []) × (plain int64_kind 1 (hex (codes "02010000000000")) ≡ refused too_short []) × (plain text_kind 1 (hex (codes "020000")) ≡ refused too_short [])
    × (plain text_kind 1 (hex (codes "03000000 6162")) ≡ refused too_short []) × (plain text_kind 1 (hex (codes "01000000 C3 07")) ≡ refused bad_text (7 ∷ [])) × (plain text_kind 2 (hex (codes "01000000 FF 03000000")) ≡ refused bad_text (3 ∷ 0 ∷ 0 ∷ 0 ∷ []))
unfolding is_utf8 chars lib.Utf8.encode
plain_faults = (refl, refl, refl, refl, refl, refl, refl)

-- ten, twenty, thirty, at indices of a width
abbrev tens : List Value
tens = I (pos 10) ∷ I (pos 20) ∷ I (pos 30) ∷ []

pub indices : (dictionary_values tens 3 (hex (codes "02 03 2100")) ≡ Some (I (pos 20) ∷ I (pos 10) ∷ I (pos 30) ∷ [])) × (dictionary_values tens 2 (hex (codes "00 04")) ≡ Some (I (pos 10) ∷ I (pos 10) ∷ [])) × (dictionary_values tens 1 (hex (codes "20 02 02000000")) ≡ Some (I (pos 30) ∷ []))
    × (dictionary_values tens 1 (hex (codes "21 02 0200000000")) ≡ None) × (dictionary_values tens 1 (hex (codes "02 02 03")) ≡ None) × (dictionary_values tens 1 [] ≡ None) × (dictionary_values tens 0 [] ≡ Some []) × (dictionary_values [] 1 (hex (codes "00 02")) ≡ None)
unfolding hybrid
indices = (refl, refl, refl, refl, refl, refl, refl, refl)

-- ---- levels

-- the number of binary digits of the greatest level
pub level_widths : map level_width (0 ∷ 1 ∷ 2 ∷ 3 ∷ 4 ∷ 7 ∷ 8 ∷ 15 ∷ 16 ∷ 31 ∷ 32 ∷ []) ≡ 0 ∷ 1 ∷ 2 ∷ 2 ∷ 3 ∷ 3 ∷ 4 ∷ 4 ∷ 5 ∷ 5 ∷ 6 ∷ []
level_widths = refl

-- a level part of a V1 page, behind its length in four bytes; what is behind the part is left. Where the greatest level is 0 there is none, and any encoding
pub level_parts : (level_part 2 (pos 3) (hex (codes "03000000 03 2400 07")) ≡ got (hex (codes "03 2400")) (7 ∷ [])) × (level_part 1 (pos 3) (hex (codes "00000000")) ≡ got [] []) × (level_part 0 (pos 4) (7 ∷ []) ≡ got [] (7 ∷ []))
level_parts = (refl, refl, refl)

-- another encoding; a length that is cut short; a part that is longer than the bytes
abbrev is_refused : {A E : Type 0} → Reading E A → Bool
is_refused (got a bs) = false
is_refused (refused e bs) = true

pub no_level_parts : map is_refused (level_part 2 (pos 4) (hex (codes "02000000 02 02")) ∷ level_part 2 (pos 3) (hex (codes "020000")) ∷ level_part 2 (pos 3) (hex (codes "03000000 02 02")) ∷ level_part 2 (pos 3) (hex (codes "02000000 02 02")) ∷ [])
    ≡ true ∷ true ∷ true ∷ false ∷ []
no_level_parts = refl

-- the levels of a part; bytes behind them aren't looked at, nor any where the greatest level is 0
pub part_levels : (levels 2 3 (hex (codes "03 2400")) ≡ Some (0 ∷ 1 ∷ 2 ∷ [])) × (levels 2 3 (hex (codes "03 2400 FFFF")) ≡ Some (0 ∷ 1 ∷ 2 ∷ [])) × (levels 1 2 (hex (codes "04 01")) ≡ Some (1 ∷ 1 ∷ []))
    × (levels 0 3 (hex (codes "FF")) ≡ Some (0 ∷ 0 ∷ 0 ∷ [])) × (levels 0 2 [] ≡ Some (0 ∷ 0 ∷ [])) × (levels 2 0 [] ≡ Some [])
unfolding hybrid
part_levels = (refl, refl, refl, refl, refl, refl)

-- a level above the greatest, also where its width is that of the greatest; a part that is too short for its levels
pub no_part_levels : (levels 2 1 (hex (codes "02 03")) ≡ None) × (levels 2 3 (hex (codes "04 02")) ≡ None) × (levels 1 1 [] ≡ None) × (levels 1 1 (hex (codes "02 02")) ≡ None)
unfolding hybrid
no_part_levels = (refl, refl, refl, refl)

-- ---- truth values in RLE

abbrev T : ℕ → List ℕ → Option (List Value)
T n digits = rle_truths n (hex digits)

abbrev some_truths : List Bool → Option (List Value)
some_truths bs = Some (map bool_value bs)

-- a repeat; a packed group, from the lowest bit on; both. What is behind the runs in the part, and behind the part, isn't looked at
pub rle_truth_values : (T 8 (codes "02000000 10 01") ≡ some_truths (replicate 8 true)) × (T 8 (codes "02000000 03 2D") ≡ some_truths (true ∷ false ∷ true ∷ true ∷ false ∷ true ∷ false ∷ false ∷ []))
    × (T 5 (codes "04000000 06 00 03 02") ≡ some_truths (false ∷ false ∷ false ∷ false ∷ true ∷ [])) × (T 2 (codes "06000000 04 01 06 02 FFFF 07") ≡ some_truths (true ∷ true ∷ []))
unfolding hybrid
rle_truth_values = (refl, refl, refl, refl)

-- with no value wanted nothing is needed, and nothing is looked at
pub no_truth_value_wanted : (T 0 [] ≡ Some []) × (T 0 (codes "FF") ≡ Some []) × (T 0 (codes "02000000 10 02") ≡ Some [])
no_truth_value_wanted = (refl, refl, refl)

-- a value of 2; a length that is cut short; a part that is longer than the bytes; too few values; no bytes
pub no_rle_truth_values : (T 8 (codes "02000000 10 02") ∷ T 8 (codes "020000") ∷ T 8 (codes "03000000 10 01") ∷ T 9 (codes "02000000 10 01") ∷ T 8 (codes "01000000 10 01") ∷ T 1 [] ∷ [])
    ≡ None ∷ None ∷ None ∷ None ∷ None ∷ None ∷ []
unfolding hybrid
no_rle_truth_values = refl

-- the encoding RLE 3 is one of truth values alone; each other number than 0, 2, 3 and 8 is none, also where no value is wanted
pub encodings : (encoded_values (pos 3) bool_kind [] 1 (hex (codes "02000000 02 01")) ≡ some_truths (true ∷ [])) × (encoded_values (pos 0) bool_kind [] 1 (1 ∷ []) ≡ some_truths (true ∷ []))
    × (map (λ k. encoded_values (pos 3) k [] 0 (hex (codes "02000000 02 01"))) (bool_kind ∷ int32_kind ∷ int64_kind ∷ text_kind ∷ []) ≡ Some [] ∷ None ∷ None ∷ None ∷ [])
    × (map (λ (e : ℤ). encoded_values e bool_kind [] 0 []) (pos 0 ∷ pos 1 ∷ pos 2 ∷ pos 3 ∷ pos 4 ∷ pos 8 ∷ pos 9 ∷ z 1 ∷ []) ≡ Some [] ∷ None ∷ Some [] ∷ Some [] ∷ None ∷ Some [] ∷ None ∷ None ∷ [])
unfolding hybrid
encodings = (refl, refl, refl, refl)

-- ---- what can be written

-- a value of the kind, and a text only where its length fits four bytes
pub writable : (map (is_writable int32_kind) (I (pos 5) ∷ I (pos (2 ^ 31)) ∷ text_value [] ∷ []) ≡ true ∷ false ∷ false ∷ []) × (is_writable text_kind (text_value (255 ∷ [])) ≡ false) × (is_writable text_kind (text_value (codes "a")) ≡ true)
    × (is_writable bool_kind (bool_value true) ≡ true)
unfolding is_utf8 chars lib.Utf8.encode
writable = (refl, refl, refl, refl)

-- levels at most the greatest, and a value of the kind exactly at the greatest definition level
pub triplets : map (is_triplet int32_kind 1 2) (triplet 1 2 (Some (I (pos 5))) ∷ triplet 0 1 None ∷ triplet 2 1 None ∷ triplet 0 3 None ∷ triplet 0 2 None ∷ triplet 0 1 (Some (I (pos 5))) ∷ triplet 0 2 (Some (text_value [])) ∷ [])
    ≡ true ∷ true ∷ false ∷ false ∷ false ∷ false ∷ false ∷ []
triplets = refl

-- a text of 4,294,967,295 bytes can be written, one more byte can't
pub longest_text : (t : List ℕ) → length t ≡ 4294967295 → has_short_text (text_value t) ≡ true
longest_text t e = rw e refl

pub longer_text : (t : List ℕ) → length t ≡ 4294967296 → has_short_text (text_value t) ≡ false
longer_text t e = rw e refl
