-- Files as they are written, by computation, byte for byte as the public standard has them.
use Rattle.std.specs.Prelude.{◌≡◌, ℕ, List, [], ◌∷◌, ◌++◌, length, replicate, Bool, true, false, pos, neg_ℤ, Some, None, codes, refl}
use Rattle.std.proofs.Common.{arith, length-append, ◌∙◌}
use Rattle.std.specs.Str.{is_utf8, chars}
use Rattle.dr_meaning.specs.Schema.{Schema, no_fields, field, leaf, group, required, optional, repeated, bool_kind, int32_kind, int64_kind, text_kind}
use Rattle.dr_meaning.specs.Path.{leaves}
use Rattle.dr_meaning.specs.Record.{bool_value, int_value, text_value, Node, no_slots, slot, Instances, no_instances, instance, Instance, atom, inner, single}
use Rattle.dr_meaning.specs.Column.{Triplet, triplet}
use Rattle.dr_formats.specs.Compact.{read_struct, struct_bytes}
use Rattle.dr_formats.specs.Hybrid.{hybrid, hybrid_bytes}
use Rattle.dr_formats.specs.Page.{data_page_v1, data_page_v2, page_triplets, body_bytes}
use Rattle.dr_formats.specs.File.{IsFileOf, footer_of}
use Rattle.dr_formats.specs.Writing.{enough_triplets, enough_bytes, is_full, cut_pages, file_bytes}
use Rattle.dr_formats.proofs.Hexadecimal.{hex}
use Rattle.dr_formats.proofs.WorkedDamaged.{footer_or}

-- ---- a file of a leaf of each kind and repetition, one of them in an optional group

-- message T { required boolean b; optional int32 i; repeated string s; optional group g { repeated int64 n; required string t; } }
abbrev each_schema : Schema
each_schema = record {
  name = codes "T";
  fields = field (codes "b") required (leaf bool_kind) (field (codes "i") optional (leaf int32_kind) (field (codes "s") repeated (leaf text_kind)
      (field (codes "g") optional (group (field (codes "n") repeated (leaf int64_kind) (field (codes "t") required (leaf text_kind) no_fields))) no_fields)));
}

abbrev number : ℕ → Instance
number n = atom (int_value (pos n))

abbrev below : ℕ → Instance
below n = atom (int_value (neg_ℤ (pos n)))

abbrev text : List ℕ → Instance
text t = atom (text_value t)

abbrev truth : Bool → Instances
truth b = single (atom (bool_value b))

abbrev row : Instances → Instances → Instances → Instances → Node
row b i s g = slot b (slot i (slot s (slot g no_slots)))

abbrev in_group : Instances → List ℕ → Instances
in_group n t = single (inner (slot n (slot (single (text t)) no_slots)))

-- {"b":true,"i":-2,"s":["a","é"],"g":{"n":[1,-1],"t":""}}, {"b":false}, {"b":true,"i":7,"s":["xyz"],"g":{"t":"q"}}
abbrev three_rows : List Node
three_rows = row (truth true) (single (below 2)) (instance (text (codes "a")) (single (text (195 ∷ 169 ∷ [])))) (in_group (instance (number 1) (single (below 1))) [])
    ∷ row (truth false) no_instances no_instances no_instances
    ∷ row (truth true) (single (number 7)) (single (text (codes "xyz"))) (in_group no_instances (codes "q")) ∷ []

abbrev each_file : List ℕ
each_file =
    -- magic
    hex (codes "50415231") ++
    -- the page of b, its header and its body
    hex (codes "1500150215022C1506150015061506000005") ++
    -- the page of i, its header and its body
    hex (codes "1500151C151C2C15061500150615060000020000000305FEFFFFFF07000000") ++
    -- the page of s, its header and its body
    hex (codes "1500153C153C2C1508150015061506000002000000030202000000030B010000006102000000C3A90300000078797A") ++
    -- the page of g.n, its header and its body
    hex (codes "1500153A153A2C1508150015061506000002000000030203000000034A000100000000000000FFFFFFFFFFFFFFFF") ++
    -- the page of g.t, its header and its body
    hex (codes "1500151E151E2C15061500150615060000020000000305000000000100000071") ++
    -- the footer
    hex (codes "1502197C48015415080015002500180162001502250218016900150C250418017325000035021801671504001504250418016E00150C2500180174250000160619") ++
    hex (codes "1C195C26081C15001925000619180162150016061624162426080000262C1C1502192500061918016915001606163E163E262C0000266A1C150C19250006191801") ++
    hex (codes "7315001608165E165E266A000026C8011C15041925000619280167016E15001608165C165C26C801000026A4021C150C1925000619280167017415001606164016") ++
    hex (codes "4026A402000016DC02160600280F6472656D656C2D6E6573746564203100") ++
    -- its length, and the magic
    hex (codes "E100000050415231")

pub each_is_written : file_bytes data_page_v1 each_schema three_rows ≡ each_file
unfolding file_bytes struct_bytes body_bytes hybrid_bytes
each_is_written = refl

pub each_is_read : IsFileOf each_file each_schema (leaves each_schema.fields) three_rows
unfolding footer_of read_struct page_triplets hybrid is_utf8 chars lib.Utf8.encode
each_is_read = (footer_or (footer_of each_file), refl, refl, refl, (refl, refl, refl, refl, refl))

-- ---- the same records in V2 pages: levels without lengths before them, whose lengths, with the numbers of NULLs and of rows, stand in the header

abbrev each_file_v2 : List ℕ
each_file_v2 =
    -- magic
    hex (codes "50415231") ++
    -- the page of b, its header and its body
    hex (codes "1506150215025C15061500150615001500150012000005") ++
    -- the page of i, its header and its body
    hex (codes "1506151415145C1506150215061500150415001200000305FEFFFFFF07000000") ++
    -- the page of s, its header and its body
    hex (codes "1506152C152C5C1508150215061500150415041200000302030B010000006102000000C3A90300000078797A") ++
    -- the page of g.n, its header and its body
    hex (codes "1506152A152A5C1508150415061500150615041200000302034A000100000000000000FFFFFFFFFFFFFFFF") ++
    -- the page of g.t, its header and its body
    hex (codes "1506151615165C1506150215061500150415001200000305000000000100000071") ++
    -- the footer
    hex (codes "1502197C48015415080015002500180162001502250218016900150C250418017325000035021801671504001504250418016E00150C25001801742500001606") ++
    hex (codes "191C195C26081C1500192500061918016215001606162E162E2608000026361C1502192500061918016915001606164016402636000026761C150C1925000619") ++
    hex (codes "18017315001608165816582676000026CE011C15041925000619280167016E150016081656165626CE01000026A4021C150C1925000619280167017415001606") ++
    hex (codes "1642164226A402000016DE02160600280F6472656D656C2D6E6573746564203100") ++
    -- its length, and the magic
    hex (codes "E100000050415231")

pub each_is_written_v2 : file_bytes data_page_v2 each_schema three_rows ≡ each_file_v2
unfolding file_bytes struct_bytes body_bytes hybrid_bytes
each_is_written_v2 = refl

pub each_is_read_v2 : IsFileOf each_file_v2 each_schema (leaves each_schema.fields) three_rows
unfolding footer_of read_struct page_triplets hybrid is_utf8 chars lib.Utf8.encode
each_is_read_v2 = (footer_or (footer_of each_file_v2), refl, refl, refl, (refl, refl, refl, refl, refl))

-- ---- a file without rows has no row group, whatever its pages would be

abbrev no_rows : List ℕ
no_rows =
    hex (codes "504152311502197C48015415080015002500180162001502250218016900150C250418017325000035021801671504001504250418016E00150C25001801742500") ++
    hex (codes "001600190C280F6472656D656C2D6E65737465642031005400000050415231")

pub no_rows_are_written : file_bytes data_page_v1 each_schema [] ≡ no_rows
unfolding file_bytes struct_bytes
no_rows_are_written = refl

pub no_rows_are_written_v2 : file_bytes data_page_v2 each_schema [] ≡ no_rows
unfolding file_bytes struct_bytes
no_rows_are_written_v2 = refl

pub no_rows_are_read : IsFileOf no_rows each_schema (leaves each_schema.fields) []
unfolding footer_of read_struct
no_rows_are_read = (footer_or (footer_of no_rows), refl, refl, refl, (refl, refl, refl, refl, refl))

-- ---- where pages close

pub page_limits : (enough_triplets ≡ 4096) × (enough_bytes ≡ 1048576)
page_limits = (refl, refl)

abbrev nulls : ℕ → List Triplet
nulls n = replicate n (triplet 0 0 None)

-- at the end of the first record with which 4,096 triplets are reached, however many it has; the rest is the last page; nothing is left over where the last record closes one
pub closed_by_triplets : (cut_pages int64_kind [] (nulls 4095 ∷ nulls 1 ∷ nulls 2 ∷ []) ≡ nulls 4096 ∷ nulls 2 ∷ []) × (cut_pages int64_kind [] (nulls 4095 ∷ nulls 2 ∷ nulls 1 ∷ []) ≡ nulls 4097 ∷ nulls 1 ∷ [])
    × (cut_pages int64_kind [] (nulls 4096 ∷ nulls 1 ∷ []) ≡ nulls 4096 ∷ nulls 1 ∷ []) × (cut_pages int64_kind [] (nulls 4095 ∷ []) ≡ nulls 4095 ∷ []) × (cut_pages int64_kind [] (nulls 4096 ∷ []) ≡ nulls 4096 ∷ []) × (cut_pages int64_kind [] [] ≡ [])
closed_by_triplets = (refl, refl, refl, refl, refl, refl)

abbrev with_text : List ℕ → List Triplet
with_text t = triplet 0 1 (Some (text_value t)) ∷ []

-- a text's values take four bytes more than the text: with 1,048,572 bytes of text the page is full, with one less it isn't
pub closed_by_bytes : (t : List ℕ) → length t ≡ 1048572 → is_full text_kind (with_text t) ≡ true
closed_by_bytes t e =
    let h : length (t ++ []) ≡ 1048572 = length-append t [] ∙ omega (arith, e) in
    rw h refl

pub open_by_bytes : (t : List ℕ) → length t ≡ 1048571 → is_full text_kind (with_text t) ≡ false
open_by_bytes t e =
    let h : length (t ++ []) ≡ 1048571 = length-append t [] ∙ omega (arith, e) in
    rw h refl
