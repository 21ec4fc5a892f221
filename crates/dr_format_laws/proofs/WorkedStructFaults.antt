-- Faults of structs, by computation: the bytes before them, and what they begin.
use Rattle.std.specs.Prelude.{◌≡◌, ℕ, List, [], ◌∷◌, ◌++◌, replicate, pos, negsuc, ◌-◌, refl}
use Rattle.std.proofs.Common.{sym, ◌∙◌, append-nil, subst}
use Rattle.dr_formats.specs.Reading.{got, refused}
use Rattle.dr_formats.specs.Compact.{malformed, too_deep, greatest_nesting, Struct, stop, struct_field, byte_item, i32_item, i64_item, binary_item, list_item, no_items, item, byte_type, read_struct}
use Rattle.dr_formats.specs.CompactGrammar.{SpellsStruct}
use Rattle.dr_formats.proofs.GrammarSound.{struct_is_read_exactly}
use Rattle.dr_formats.proofs.ReadingLemmas.{not_refused}
use Rattle.dr_format_laws.specs.StructFaultLaws.{BeginsStruct}
use Rattle.dr_format_laws.proofs.StructFaults.{bytes_before_fault_go_on, malformed_ends_structs, too_deep_ends_structs}

-- the bytes of the second list go on the first ones to a struct
begins : (bytes more : List ℕ) (s : Struct) → read_struct (bytes ++ more) ≡ got s [] → BeginsStruct (greatest_nesting - 1) bytes
begins bytes more s h =
    let f = (struct_is_read_exactly (bytes ++ more) [] s).0 h in
    (more, s, subst (λ (w : List ℕ). SpellsStruct w s) (sym (f.1 ∙ append-nil f.0)) f.2)

-- ---- malformed: the bytes before begin a struct that is read, and with the byte no struct goes on

-- a field of no type
pub no_type : read_struct (30 ∷ 2 ∷ 0 ∷ []) ≡ refused malformed (30 ∷ 2 ∷ 0 ∷ [])
unfolding read_struct
no_type = refl

pub before_no_type : BeginsStruct (greatest_nesting - 1) []
unfolding read_struct
before_no_type = begins [] (0 ∷ []) stop refl

pub behind_no_type : (n : ℕ) → BeginsStruct n (30 ∷ []) → ⊥
behind_no_type n b = malformed_ends_structs [] (2 ∷ 0 ∷ []) 30 no_type n b

-- an id in the long form that leaves 16 bits
pub id_too_great : read_struct (5 ∷ 255 ∷ 255 ∷ 4 ∷ 0 ∷ []) ≡ refused malformed (4 ∷ 0 ∷ [])
unfolding read_struct
id_too_great = refl

pub before_id_too_great : BeginsStruct (greatest_nesting - 1) (5 ∷ 255 ∷ 255 ∷ [])
unfolding read_struct
before_id_too_great = begins (5 ∷ 255 ∷ 255 ∷ []) (0 ∷ 0 ∷ 0 ∷ []) (struct_field (negsuc 8191) (i32_item (pos 0)) stop) refl

-- a number of more than 64 bits
pub number_too_long : read_struct (22 ∷ (replicate 9 255 ++ 2 ∷ 0 ∷ [])) ≡ refused malformed (2 ∷ 0 ∷ [])
unfolding read_struct
number_too_long = refl

pub before_number_too_long : BeginsStruct (greatest_nesting - 1) (22 ∷ replicate 9 255)
unfolding read_struct
before_number_too_long = begins (22 ∷ replicate 9 255) (0 ∷ 0 ∷ []) (struct_field (pos 1) (i64_item (negsuc 4611686018427387903)) stop) refl

-- a list of no type, and a text, of which bytes are missing
pub list_of_no_type : read_struct (25 ∷ 16 ∷ 7 ∷ 0 ∷ []) ≡ refused malformed (16 ∷ 7 ∷ 0 ∷ [])
unfolding read_struct
list_of_no_type = refl

pub before_list_of_no_type : BeginsStruct (greatest_nesting - 1) (25 ∷ [])
unfolding read_struct
before_list_of_no_type = begins (25 ∷ []) (19 ∷ 7 ∷ 0 ∷ []) (struct_field (pos 1) (list_item byte_type (item (byte_item 7) no_items)) stop) refl

pub text_cut_short : read_struct (24 ∷ 3 ∷ 97 ∷ []) ≡ refused malformed []
unfolding read_struct
text_cut_short = refl

pub before_text_cut_short : BeginsStruct (greatest_nesting - 1) (24 ∷ 3 ∷ 97 ∷ [])
unfolding read_struct
before_text_cut_short = begins (24 ∷ 3 ∷ 97 ∷ []) (98 ∷ 99 ∷ 0 ∷ []) (struct_field (pos 1) (binary_item (97 ∷ 98 ∷ 99 ∷ [])) stop) refl

-- ---- too deep: the bytes before begin no struct that is read, but one that nests one deeper

pub one_too_deep : read_struct (replicate 32 28 ++ []) ≡ refused too_deep []
unfolding read_struct
one_too_deep = refl

pub before_too_deep : BeginsStruct (greatest_nesting - 1) (replicate 32 28) → ⊥
before_too_deep b = too_deep_ends_structs (replicate 32 28) [] one_too_deep b

pub one_deeper : (before : List ℕ) × (replicate 32 28 ++ [] ≡ before ++ []) × BeginsStruct greatest_nesting before
one_deeper = bytes_before_fault_go_on (replicate 32 28 ++ []) [] too_deep one_too_deep

-- ---- malformed, but a value that is too deep must follow

-- in the 31st struct a map of one pair, of a byte and a list: the list would stand inside 32 others, and the bytes end before the byte
abbrev promise : List ℕ
promise = replicate 30 28 ++ (27 ∷ 1 ∷ 57 ∷ [])

pub promise_is_malformed : read_struct promise ≡ refused malformed []
unfolding read_struct
promise_is_malformed = refl

-- whatever follows, it is no struct that is read
pub promise_is_refused : (b : ℕ) (bytes : List ℕ) → read_struct (promise ++ b ∷ bytes) ≡ refused too_deep bytes
unfolding read_struct
promise_is_refused b bytes = refl

pub promise_is_not_kept : BeginsStruct (greatest_nesting - 1) promise → ⊥
promise_is_not_kept h = by h.0 ((struct_is_read_exactly (promise ++ h.0) [] h.1).1 (promise ++ h.0, sym (append-nil (promise ++ h.0)), h.2))
  where
    by : (more : List ℕ) → read_struct (promise ++ more) ≡ got h.1 [] → ⊥
    by [] g = not_refused malformed [] h.1 [] (sym promise_is_malformed ∙ g)
    by (b ∷ bytes) g = not_refused too_deep bytes h.1 [] (sym (promise_is_refused b bytes) ∙ g)

-- one deeper there is one
pub promise_one_deeper : (before : List ℕ) × (promise ≡ before ++ []) × BeginsStruct greatest_nesting before
promise_one_deeper = bytes_before_fault_go_on promise [] malformed promise_is_malformed
