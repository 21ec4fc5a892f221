-- Structs of the compact protocol, by computation.
use Rattle.std.specs.Prelude.{◌≡◌, [], ◌∷◌, ◌++◌, map, replicate, pos, Some, None, refl}
use Rattle.dr_formats.specs.Reading.{got}
use Rattle.dr_formats.specs.Compact.{Struct, stop, struct_field, i32_item, find_field, read_struct, struct_fault, malformed, too_deep, struct_bytes}

-- the struct {1: 1}
abbrev pub one_field : Struct
one_field = struct_field (pos 1) (i32_item (pos 1)) stop

pub reads_one_field : read_struct (21 ∷ 2 ∷ 0 ∷ []) ≡ got one_field []
unfolding read_struct
reads_one_field = refl

pub writes_one_field : struct_bytes one_field ≡ 21 ∷ 2 ∷ 0 ∷ []
unfolding struct_bytes
writes_one_field = refl

-- a front that ends too early
pub cut_short : struct_fault (21 ∷ []) ≡ Some (record { place = 1; fault = malformed })
unfolding read_struct
cut_short = refl

pub no_bytes : struct_fault [] ≡ Some (record { place = 0; fault = malformed })
unfolding read_struct
no_bytes = refl

-- the struct without fields
pub reads_empty : read_struct (0 ∷ []) ≡ got stop []
unfolding read_struct
reads_empty = refl

pub writes_empty : struct_bytes stop ≡ 0 ∷ []
unfolding struct_bytes
writes_empty = refl

-- the type 14 is none
pub unknown_type : struct_fault (30 ∷ 2 ∷ 0 ∷ []) ≡ Some (record { place = 0; fault = malformed })
unfolding read_struct
unknown_type = refl

-- a longer varint is read alike
pub longer_varint : read_struct (21 ∷ 130 ∷ 0 ∷ 0 ∷ []) ≡ got one_field []
unfolding read_struct
longer_varint = refl

-- so is the long form of a field's header; what follows is left
pub longer_header : read_struct (5 ∷ 2 ∷ 2 ∷ 0 ∷ 7 ∷ []) ≡ got one_field (7 ∷ [])
unfolding read_struct
longer_header = refl

-- an id of 17 bits is malformed at the byte that takes it past 16
pub wide_id : struct_fault (5 ∷ 128 ∷ 128 ∷ 4 ∷ 2 ∷ 0 ∷ []) ≡ Some (record { place = 3; fault = malformed })
unfolding read_struct
wide_id = refl

-- the last of two fields with one id counts
pub last_counts : find_field (pos 1) (struct_field (pos 1) (i32_item (pos 5)) (struct_field (pos 1) (i32_item (pos 7)) stop)) ≡ Some (i32_item (pos 7))
last_counts = refl

-- 32 structs in one another
pub deep_enough : struct_fault (replicate 31 28 ++ replicate 32 0) ≡ None
unfolding read_struct
deep_enough = refl

-- the 33rd is too deep at its first byte, also where that isn't there
pub one_too_deep : struct_fault (replicate 32 28) ≡ Some (record { place = 32; fault = too_deep })
unfolding read_struct
one_too_deep = refl

-- alike a list, a set and a map in the 32nd struct
pub others_too_deep : map (λ b. struct_fault (replicate 31 28 ++ b ∷ [])) (25 ∷ 26 ∷ 27 ∷ 28 ∷ []) ≡ replicate 4 (Some (record { place = 32; fault = too_deep }))
unfolding read_struct
others_too_deep = refl
