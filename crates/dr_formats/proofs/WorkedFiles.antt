-- A whole file, by computation: one record of one required leaf.
use Rattle.std.proofs.Common.{arith, None}
use Rattle.std.specs.Prelude.{◌≡◌, ℕ, List, [], ◌∷◌, ◌++◌, pos, codes, refl}
use Rattle.dr_meaning.specs.Schema.{no_fields, field, leaf, Schema, required, int64_kind}
use Rattle.dr_meaning.specs.Record.{int_value, Node, no_slots, slot, no_instances, instance, atom}
use Rattle.dr_formats.specs.Compact.{struct_bytes}
use Rattle.dr_formats.specs.Hybrid.{hybrid_bytes}
use Rattle.dr_formats.specs.Page.{data_page_v1, data_page_v2, body_bytes}
use Rattle.dr_formats.specs.Metadata.{page_tree}
use Rattle.std.specs.Str.{is_utf8, chars}
use Rattle.dr_meaning.specs.Path.{leaves}
use Rattle.dr_meaning.specs.Column.{Triplet, column}
use Rattle.dr_meaning.proofs.WorkedPaths.{country}
use Rattle.dr_meaning.proofs.WorkedSchemas.{document, document_schema}
use Rattle.dr_meaning.proofs.WorkedRecords.{record_10, record_20}
use Rattle.dr_formats.specs.Compact.{read_struct}
use Rattle.dr_formats.specs.Hybrid.{hybrid}
use Rattle.dr_formats.specs.Page.{page_triplets}
use Rattle.dr_formats.specs.File.{footer_of, known_cause}
use Rattle.dr_formats.specs.WritingLaws.{FitsFile}
use Rattle.dr_formats.specs.Writing.{header_of_page, file_bytes}
use Rattle.dr_formats.proofs.Hexadecimal.{hex}

-- `message T { required int64 a; }` and `{"a":1}`
abbrev pub one_schema : Schema
one_schema = record { name = codes "T"; fields = field (codes "a") required (leaf int64_kind) no_fields }

abbrev pub one_record : Node
one_record = slot (instance (atom (int_value (pos 1))) no_instances) no_slots

abbrev country_column : List Triplet
country_column = column country (record_10 ∷ record_20 ∷ [])

-- the header of the page whose body is worked in WorkedPages
pub country_header : struct_bytes (page_tree (header_of_page data_page_v1 2 3 country_column 26)) ≡ 21 ∷ 0 ∷ 21 ∷ 52 ∷ 21 ∷ 52 ∷ 44 ∷ 21 ∷ 10 ∷ 21 ∷ 0 ∷ 21 ∷ 6 ∷ 21 ∷ 6 ∷ 0 ∷ 0 ∷ []
unfolding struct_bytes
country_header = refl

-- and as a V2 page: five triplets, of which three have no value and two begin a record, and both level parts of three bytes
pub country_header_v2 : struct_bytes (page_tree (header_of_page data_page_v2 2 3 country_column 18)) ≡ hex (codes "15 06 15 24 15 24 5C 15 0A 15 06 15 04 15 00 15 06 15 06 12 00 00")
unfolding struct_bytes hybrid_bytes
country_header_v2 = refl

abbrev pub one_file : List ℕ
one_file =
    80 ∷ 65 ∷ 82 ∷ 49 ∷
    21 ∷ 0 ∷ 21 ∷ 16 ∷ 21 ∷ 16 ∷ 44 ∷ 21 ∷ 2 ∷ 21 ∷ 0 ∷ 21 ∷ 6 ∷ 21 ∷ 6 ∷ 0 ∷ 0 ∷
    1 ∷ 0 ∷ 0 ∷ 0 ∷ 0 ∷ 0 ∷ 0 ∷ 0 ∷
    21 ∷ 2 ∷ 25 ∷ 44 ∷ 72 ∷ 1 ∷ 84 ∷ 21 ∷ 2 ∷ 0 ∷ 21 ∷ 4 ∷ 37 ∷ 0 ∷ 24 ∷ 1 ∷ 97 ∷ 0 ∷ 22 ∷ 2 ∷ 25 ∷ 28 ∷
    25 ∷ 28 ∷ 38 ∷ 8 ∷ 28 ∷ 21 ∷ 4 ∷ 25 ∷ 37 ∷ 0 ∷ 6 ∷ 25 ∷ 24 ∷ 1 ∷ 97 ∷ 21 ∷ 0 ∷ 22 ∷ 2 ∷ 22 ∷ 50 ∷ 22 ∷ 50 ∷ 38 ∷ 8 ∷ 0 ∷ 0 ∷
    22 ∷ 50 ∷ 22 ∷ 2 ∷ 0 ∷ 40 ∷ 15 ∷ 100 ∷ 114 ∷ 101 ∷ 109 ∷ 101 ∷ 108 ∷ 45 ∷ 110 ∷ 101 ∷ 115 ∷ 116 ∷ 101 ∷ 100 ∷ 32 ∷ 49 ∷ 0 ∷
    72 ∷ 0 ∷ 0 ∷ 0 ∷ 80 ∷ 65 ∷ 82 ∷ 49 ∷ []

pub one_file_is_written : file_bytes data_page_v1 one_schema (one_record ∷ []) ≡ one_file
unfolding file_bytes struct_bytes body_bytes hybrid_bytes
one_file_is_written = refl

-- the law of written files holds of it: it fits a file
pub one_file_fits : FitsFile data_page_v1 one_schema (one_record ∷ [])
unfolding file_bytes struct_bytes body_bytes hybrid_bytes
one_file_fits = (refl, refl, refl, omega arith, (omega arith, (omega arith, omega arith, tt), tt), omega arith, omega arith)

-- the same record in a V2 page: its header has five bytes more, and so have the chunk's sizes
abbrev pub one_file_v2 : List ℕ
one_file_v2 =
    hex (codes "50415231") ++
    hex (codes "1506 1510 1510 5C 1502 1500 1502 1500 1500 1500 12 00 00") ++
    hex (codes "0100000000000000") ++
    hex (codes "1502 192C 480154150200 1504250018016100 1602 191C") ++
    hex (codes "191C 2608 1C 1504 19250006 19180161 1500 1602 163C 163C 2608 00 00") ++
    hex (codes "163C 1602 00 280F 6472656D656C2D6E65737465642031 00") ++
    hex (codes "48000000 50415231")

pub one_file_v2_is_written : file_bytes data_page_v2 one_schema (one_record ∷ []) ≡ one_file_v2
unfolding file_bytes struct_bytes body_bytes hybrid_bytes
one_file_v2_is_written = refl

pub one_file_v2_fits : FitsFile data_page_v2 one_schema (one_record ∷ [])
unfolding file_bytes struct_bytes body_bytes hybrid_bytes
one_file_v2_fits = (refl, refl, refl, omega arith, (omega arith, (omega arith, omega arith, tt), tt), omega arith, omega arith)

-- ---- a file of nested records: the two worked records with all their leaves

abbrev pub document_file : List ℕ
document_file = file_bytes data_page_v1 document_schema (record_10 ∷ record_20 ∷ [])

pub document_file_has_no_cause : known_cause document_file (leaves document) ≡ None
unfolding file_bytes struct_bytes body_bytes hybrid_bytes footer_of read_struct page_triplets hybrid is_utf8 chars lib.Utf8.encode
document_file_has_no_cause = refl

abbrev document_file_v2 : List ℕ
document_file_v2 = file_bytes data_page_v2 document_schema (record_10 ∷ record_20 ∷ [])

pub document_file_v2_has_no_cause : known_cause document_file_v2 (leaves document) ≡ None
unfolding file_bytes struct_bytes body_bytes hybrid_bytes footer_of read_struct page_triplets hybrid is_utf8 chars lib.Utf8.encode
document_file_v2_has_no_cause = refl
