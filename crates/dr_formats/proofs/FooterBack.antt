-- The footer that is written is found again.
use Rattle.std.proofs.Common.{◌≡◌, ℕ, ◌+◌, ◌^◌, ◌<◌, List, [], ◌++◌, length, take, drop, true, refl, sym, ap, ◌∙◌, arith, Some, append_assoc, append-nil}
use Rattle.std.specs.Prelude.{◌-◌, bytes_eq}
use Rattle.std.specs.List.{list_all}
use Rattle.std.proofs.lemmas.Bool.{and_from, le-leb}
use Rattle.std.proofs.lemmas.List.{length-append}
use Rattle.std.proofs.lemmas.Slice.Eq.{bytes_eq-Decides}
use Rattle.std.proofs.Math.Seq.{take-append_seam, drop-append_seam}
use Rattle.dr_formats.specs.Reading.{got}
use Rattle.dr_formats.specs.LittleEndian.{little_endian, little_endian_bytes}
use Rattle.dr_formats.specs.Compact.{is_tree, struct_bytes, read_struct}
use Rattle.dr_formats.specs.Metadata.{FileMeta, file_tree}
use Rattle.dr_formats.specs.FileSchema.{FileSchema, file_schema, file_leaves}
use Rattle.dr_formats.specs.File.{magic, footer_length, footer_place, is_framed, meta_of, meta_read, footer_meta, is_whole_group, footer_of}
use Rattle.dr_formats.specs.Writing.{framed}
use Rattle.dr_formats.proofs.CompactLemmas.{written_struct_is_read}
use Rattle.dr_formats.proofs.LittleEndianLemmas.{length_little_endian, little_endian_back}
use Rattle.dr_formats.proofs.MetadataLemmas.{written_metadata_is_viewed}

drop_at : (n : ℕ) (xs ys : List ℕ) → n ≡ length xs → drop n (xs ++ ys) ≡ ys
drop_at n xs ys e = rw e (drop-append_seam xs ys)

take_at : (n : ℕ) (xs ys : List ℕ) → n ≡ length xs → take n (xs ++ ys) ≡ xs
take_at n xs ys e = rw e (take-append_seam xs ys)

abbrev size4 : List ℕ → List ℕ
size4 foot = little_endian_bytes 4 (length foot)

length_framed : (chunks foot : List ℕ) → length (framed chunks foot) ≡ 12 + length chunks + length foot
length_framed chunks foot = omega (arith, length-append chunks (foot ++ (size4 foot ++ magic)), length-append foot (size4 foot ++ magic), length-append (size4 foot) magic, length_little_endian 4 (length foot))

-- the bytes cut before the footer, before its length, before the last magic
before_footer : (chunks foot : List ℕ) → framed chunks foot ≡ (magic ++ chunks) ++ (foot ++ (size4 foot ++ magic))
before_footer chunks foot = sym (append_assoc magic chunks (foot ++ (size4 foot ++ magic)))

before_size : (chunks foot : List ℕ) → framed chunks foot ≡ ((magic ++ chunks) ++ foot) ++ (size4 foot ++ magic)
before_size chunks foot = before_footer chunks foot ∙ sym (append_assoc (magic ++ chunks) foot (size4 foot ++ magic))

before_magic : (chunks foot : List ℕ) → framed chunks foot ≡ (((magic ++ chunks) ++ foot) ++ size4 foot) ++ magic
before_magic chunks foot = before_size chunks foot ∙ sym (append_assoc ((magic ++ chunks) ++ foot) (size4 foot) magic)

length_to_footer : (chunks : List ℕ) → length (magic ++ chunks) ≡ 4 + length chunks
length_to_footer chunks = length-append magic chunks

length_to_size : (chunks foot : List ℕ) → length ((magic ++ chunks) ++ foot) ≡ 4 + length chunks + length foot
length_to_size chunks foot = omega (arith, length-append (magic ++ chunks) foot, length_to_footer chunks)

length_to_magic : (chunks foot : List ℕ) → length (((magic ++ chunks) ++ foot) ++ size4 foot) ≡ 8 + length chunks + length foot
length_to_magic chunks foot = omega (arith, length-append ((magic ++ chunks) ++ foot) (size4 foot), length_to_size chunks foot, length_little_endian 4 (length foot))

last_magic : (chunks foot : List ℕ) → drop (length (framed chunks foot) - 4) (framed chunks foot) ≡ magic
last_magic chunks foot = ap (drop (length (framed chunks foot) - 4)) (before_magic chunks foot) ∙ drop_at (length (framed chunks foot) - 4) (((magic ++ chunks) ++ foot) ++ size4 foot) magic (omega (arith, length_framed chunks foot, length_to_magic chunks foot))

size_back : (chunks foot : List ℕ) → length foot < 2 ^ 32 → footer_length (framed chunks foot) ≡ length foot
size_back chunks foot h =
    let n : ℕ = length (framed chunks foot) - 8 in
    let e : drop n (framed chunks foot) ≡ size4 foot ++ magic = ap (drop n) (before_size chunks foot) ∙ drop_at n ((magic ++ chunks) ++ foot) (size4 foot ++ magic) (omega (arith, length_framed chunks foot, length_to_size chunks foot)) in
    let f : take 4 (size4 foot ++ magic) ≡ size4 foot = take_at 4 (size4 foot) magic (sym (length_little_endian 4 (length foot))) in
    ap little_endian (ap (take 4) e ∙ f) ∙ little_endian_back 4 (length foot) h

place_back : (chunks foot : List ℕ) → length foot < 2 ^ 32 → footer_place (framed chunks foot) ≡ 4 + length chunks
place_back chunks foot h = omega (arith, length_framed chunks foot, size_back chunks foot h)

footer_bytes : (chunks foot : List ℕ) → length foot < 2 ^ 32 → take (footer_length (framed chunks foot)) (drop (footer_place (framed chunks foot)) (framed chunks foot)) ≡ foot
footer_bytes chunks foot h =
    let b : List ℕ = framed chunks foot in
    let e : drop (footer_place b) b ≡ foot ++ (size4 foot ++ magic) = ap (drop (footer_place b)) (before_footer chunks foot) ∙ drop_at (footer_place b) (magic ++ chunks) (foot ++ (size4 foot ++ magic)) (place_back chunks foot h ∙ sym (length_to_footer chunks)) in
    ap (take (footer_length b)) e ∙ take_at (footer_length b) foot (size4 foot ++ magic) (size_back chunks foot h)

framed_back : (chunks foot : List ℕ) → length foot < 2 ^ 32 → is_framed (framed chunks foot) ≡ true
framed_back chunks foot h =
    let b : List ℕ = framed chunks foot in
    let m : bytes_eq (drop (length b - 4) b) magic ≡ true = (bytes_eq-Decides (drop (length b - 4) b) magic).1 (last_magic chunks foot) in
    and_from _ _ (and_from _ _ (and_from _ _ (le-leb 12 (length b) (omega (arith, length_framed chunks foot))) refl) m) (le-leb (footer_length b) (length b - 12) (omega (arith, length_framed chunks foot, size_back chunks foot h)))

meta_back : (chunks : List ℕ) (m : FileMeta) → is_tree (file_tree m) ≡ true → length (struct_bytes (file_tree m)) < 2 ^ 32 → footer_meta (framed chunks (struct_bytes (file_tree m))) ≡ Some m
meta_back chunks m t h =
    let foot : List ℕ = struct_bytes (file_tree m) in
    let r : read_struct foot ≡ got (file_tree m) [] = ap read_struct (sym (append-nil foot)) ∙ written_struct_is_read (file_tree m) t [] in
    ap (λ x. meta_read (read_struct x)) (footer_bytes chunks foot h) ∙ (ap meta_read r ∙ ap meta_of (written_metadata_is_viewed m))

pub footer_back : (chunks : List ℕ) (m : FileMeta) (s : FileSchema) → is_tree (file_tree m) ≡ true → length (struct_bytes (file_tree m)) < 2 ^ 32 → file_schema m.schema ≡ Some s → list_all (is_whole_group (length (file_leaves s.fields))) m.groups ≡ true → footer_of (framed chunks (struct_bytes (file_tree m))) ≡ Some (record { place = 4 + length chunks; meta = m; schema = s })
unfolding footer_of
footer_back chunks m s t h e g = rw (framed_back chunks (struct_bytes (file_tree m)) h, meta_back chunks m t h, e, g, place_back chunks (struct_bytes (file_tree m)) h) refl
