-- The file that is written for records is a file of these records.
use Rattle.std.proofs.Common.{◌≡◌, ℕ, zero, suc, ◌+◌, ◌^◌, ◌≤◌, ◌<◌, List, [], ◌∷◌, ◌++◌, map, length, take, drop, true, ◌&&◌, refl, sym, ap, ap₂, ◌∙◌, subst, arith, pos, Some, None, append_assoc, append-nil}
use Rattle.std.specs.Prelude.{nat_lt, nat_le, ◌==◌}
use Rattle.std.specs.List.{list_all}
use Rattle.std.proofs.lemmas.Bool.{and_parts, and_from, le-leb, leb-true, ltb-true, eq-eqb}
use Rattle.std.proofs.lemmas.List.{length-append, length-map}
use Rattle.std.proofs.Math.Seq.{take-append_seam, drop-append_seam}
use Rattle.dr_meaning.specs.Schema.{Repetition, required, optional, repeated, repetition_count, definition_count, Kind, Fields, no_fields, field, Shape, leaf, Schema, is_group, is_schema, is_shape, is_short_name, is_nonempty, group, leaf_count, depth, greatest_depth, most_leaves}
use Rattle.dr_meaning.specs.Path.{Leaf, leaf_below, leaves_from, shape_leaves, leaves, is_leaf_path, max_repetition, max_definition}
use Rattle.dr_meaning.specs.Record.{Node, is_record, text_bytes, inner, instances_at}
use Rattle.dr_meaning.specs.Column.{Triplet, record_column, column}
use Rattle.dr_formats.specs.LittleEndian.{little_endian_bytes}
use Rattle.dr_formats.specs.Compact.{is_tree}
use Rattle.dr_formats.specs.Metadata.{ColumnMeta, ColumnChunk, RowGroup, file_tree}
use Rattle.dr_formats.specs.FileSchema.{FileSchema, file_leaves, place_of}
use Rattle.dr_formats.specs.Page.{PageForm, is_triplet}
use Rattle.dr_formats.specs.Chunk.{pages_triplets, chunk_bytes}
use Rattle.dr_formats.specs.File.{schema_or_cause, Footer, footer_of, leaf_place, leaf_source, leaves_read, column_by, given_column, has_leaves, nth_chunk, leaf_chunk, is_uncompressed, are_uncompressed, total, most_rows, most_triplets, rows_agree, chunk_values, values_fit, starts, of_rows, group_column, file_column, AreColumns, magic, is_whole_group, has_no_path}
use Rattle.dr_formats.specs.Lacking.{own_chunks, has_source, leaf_read}
use Rattle.dr_formats.specs.Writing.{cut_pages, pages_bytes, record_columns, written_chunk, triplet_count, chunk_at, chunks_from, framed, written_chunks, groups_of, written_meta, written_footer, file_bytes}
use Rattle.dr_formats.specs.WritingLaws.{all_triplets, ArePages, nth_leaf, AreAmong, FitHeaders, LeavesFit, FitsFile, WrittenFileIsFile}
use Rattle.dr_formats.specs.OpenSchemaLaws.{WrittenSchemaIsRead}
use Rattle.dr_formats.proofs.OpenSchemaLemmas.{written_opened}
use Rattle.dr_formats.proofs.ChunkLemmas.{written_pages_are_read, pages_keep_triplets}
use Rattle.dr_formats.specs.OpenSchemaLaws.{file_leaf_of}
use Rattle.dr_formats.proofs.SchemaBack.{file_fields_of, schema_back, file_leaves_back, leaf_found, AllLeaves, is_within, leaves_within}
use Rattle.dr_formats.proofs.ColumnsFit.{EachLeaf, each_append, Good, ColumnGood, fields_good}
use Rattle.dr_formats.proofs.ColumnRows.{each_below, leaf_paths, column_rows}
use Rattle.dr_formats.proofs.FooterBack.{footer_back}
use Rattle.dr_formats.proofs.MetaFits.{meta_fits, LeafCounts, columns_many}

-- ---- leaves at a place

no_leaf : (m : Leaf) → None ≡ Some m → ⊥
no_leaf m e = cc

same_leaf : (l m : Leaf) → Some l ≡ Some m → l ≡ m
same_leaf l m e = cc

each_nth : (P : Leaf → Type 0) (ls : List Leaf) (i : ℕ) (l : Leaf) → EachLeaf P ls → nth_leaf ls i ≡ Some l → P l
each_nth P [] i l h e = absurd (no_leaf l e)
each_nth P (m ∷ ls) zero l h e = subst P (same_leaf m l e) h.0
each_nth P (m ∷ ls) (suc i) l h e = each_nth P ls i l h.1 e

-- ---- where a leaf's chunk lies

abbrev ChunkAt : PageForm → List Node → List Leaf → ℕ → ℕ → Leaf → Type 0
ChunkAt form R ls place i l = (before : List ℕ) × (behind : List ℕ) × ((chunks_from form R ls place).bytes ≡ before ++ (written_chunk form l R ++ behind)) × (nth_chunk (chunks_from form R ls place).columns i ≡ Some (chunk_at l R (place + length before) (length (written_chunk form l R))))

chunk_there : (form : PageForm) (R : List Node) (ls : List Leaf) (place i : ℕ) (l : Leaf) → nth_leaf ls i ≡ Some l → ChunkAt form R ls place i l
chunk_there form R [] place i l e = absurd (no_leaf l e)
chunk_there form R (m ∷ ls) place zero l e =
    let w : List ℕ = written_chunk form m R in
    let z : place + 0 ≡ place = omega arith in
    subst (λ (x : Leaf). ChunkAt form R (m ∷ ls) place zero x) (same_leaf m l e) ([], (chunks_from form R ls (place + length w)).bytes, refl, ap (λ k. Some (chunk_at m R k (length w))) (sym z))
chunk_there form R (m ∷ ls) place (suc i) l e =
    let w : List ℕ = written_chunk form m R in
    let p = chunk_there form R ls (place + length w) i l e in
    let k : place + length w + length p.0 ≡ place + length (w ++ p.0) = omega (arith, length-append w p.0) in
    (w ++ p.0, p.1, ap (λ x. w ++ x) p.2 ∙ sym (append_assoc w p.0 (written_chunk form l R ++ p.1)), p.3 ∙ ap (λ j. Some (chunk_at l R j (length (written_chunk form l R)))) k)

-- the bytes of a leaf's chunk in a file
chunk_cut : (before w behind foot : List ℕ) (l : Leaf) (R : List Node) → chunk_bytes (framed (before ++ (w ++ behind)) foot) (4 + length (before ++ (w ++ behind))) (chunk_at l R (4 + length before) (length w)).meta ≡ Some w
chunk_cut before w behind foot l R =
    let tail : List ℕ = foot ++ (little_endian_bytes 4 (length foot) ++ magic) in
    let b : List ℕ = framed (before ++ (w ++ behind)) foot in
    let e : b ≡ (magic ++ before) ++ (w ++ (behind ++ tail)) = ap (λ x. magic ++ x) (append_assoc before (w ++ behind) tail ∙ ap (λ x. before ++ x) (append_assoc w behind tail)) ∙ sym (append_assoc magic before (w ++ (behind ++ tail))) in
    let n : length (magic ++ before) ≡ 4 + length before = length-append magic before in
    let d : drop (4 + length before) b ≡ w ++ (behind ++ tail) = ap₂ drop (sym n) e ∙ drop-append_seam (magic ++ before) (w ++ (behind ++ tail)) in
    let t : take (length w) (drop (4 + length before) b) ≡ w = ap (take (length w)) d ∙ take-append_seam w (behind ++ tail) in
    let g : nat_le (4 + length before + length w) (4 + length (before ++ (w ++ behind))) ≡ true = le-leb (4 + length before + length w) (4 + length (before ++ (w ++ behind))) (omega (arith, length-append before (w ++ behind), length-append w behind)) in
    let f : nat_le 4 (4 + length before) ≡ true = le-leb 4 (4 + length before) (omega arith) in
    rw (f, g, t) refl

-- ---- a leaf's triplets

columns_joined : (l : Leaf) (R : List Node) → all_triplets (record_columns l R) ≡ column l.path R
columns_joined l [] = refl
columns_joined l (n ∷ R) = ap (λ x. record_column l.path n ++ x) (columns_joined l R)

count_joined : (ps : List (List Triplet)) → triplet_count ps ≡ length (all_triplets ps)
count_joined [] = refl
count_joined (p ∷ ps) = omega (arith, count_joined ps, length-append p (all_triplets ps))

good_parts : (k : Kind) (r d : ℕ) (ts us : List Triplet) → Good k r d (ts ++ us) → Good k r d ts × Good k r d us
good_parts k r d [] us h = (refl, h)
good_parts k r d (t ∷ ts) us h =
    let p : (is_triplet k r d t ≡ true) × Good k r d (ts ++ us) = and_parts _ _ h in
    let q = good_parts k r d ts us p.1 in
    (and_from _ _ p.0 q.0, q.1)

good_both : (k : Kind) (r d : ℕ) (ts us : List Triplet) → Good k r d ts → Good k r d us → Good k r d (ts ++ us)
good_both k r d [] us h g = g
good_both k r d (t ∷ ts) us h g = let p : (is_triplet k r d t ≡ true) × Good k r d ts = and_parts _ _ h in and_from _ _ p.0 (good_both k r d ts us p.1 g)

are_pages : (form : PageForm) (l : Leaf) (ps : List (List Triplet)) → Good l.kind (max_repetition l.path) (max_definition l.path) (all_triplets ps) → FitHeaders form l ps → ArePages form l ps
are_pages form l [] g h = tt
are_pages form l (p ∷ ps) g h =
    let q = good_parts l.kind (max_repetition l.path) (max_definition l.path) p (all_triplets ps) g in
    ((q.0, h.0, h.1), are_pages form l ps q.1 h.2)

pages_back : (form : PageForm) (l : Leaf) (R : List Node) → max_repetition l.path ≤ 32 → max_definition l.path ≤ 32 → Good l.kind (max_repetition l.path) (max_definition l.path) (column l.path R) → FitHeaders form l (cut_pages l.kind [] (record_columns l R)) → pages_triplets l (triplet_count (record_columns l R)) (written_chunk form l R) ≡ Some (column l.path R)
pages_back form l R a b g h =
    let ps : List (List Triplet) = cut_pages l.kind [] (record_columns l R) in
    let e : all_triplets ps ≡ column l.path R = pages_keep_triplets l (record_columns l R) ∙ columns_joined l R in
    let c : triplet_count ps ≡ triplet_count (record_columns l R) = count_joined ps ∙ (ap length (pages_keep_triplets l (record_columns l R)) ∙ sym (count_joined (record_columns l R))) in
    let q : ArePages form l ps = are_pages form l ps (subst (Good l.kind (max_repetition l.path) (max_definition l.path)) (sym e) g) h in
    let r : pages_triplets l (triplet_count ps) (pages_bytes form l ps ++ []) ≡ Some (all_triplets ps) = written_pages_are_read form l ps [] a b q in
    ap₂ (pages_triplets l) (sym c) (sym (append-nil (pages_bytes form l ps))) ∙ (r ∙ ap (λ x. Some x) e)

-- ---- what is known of a leaf

no_shift : (j : ℕ) → 0 + j ≡ j
no_shift j = omega arith

record_good : (s : Schema) (i : ℕ) (l : Leaf) (n : Node) → nth_leaf (leaves s.fields) i ≡ Some l → is_record s.fields n ≡ true → text_bytes n < 2 ^ 32 → Good l.kind (max_repetition l.path) (max_definition l.path) (record_column l.path n)
record_good s i l n e v t =
    let c : ColumnGood l (inner n) = each_nth (λ x. ColumnGood x (inner n)) (leaves s.fields) i l (fields_good s.fields 0 n n (λ j. ap (λ k. instances_at k n) (no_shift j)) v t) e in
    let g : Good l.kind (0 + max_repetition l.path) (0 + max_definition l.path) (record_column l.path n) = c 0 0 0 (omega arith) in
    subst (λ (r : ℕ). Good l.kind r (max_definition l.path) (record_column l.path n)) (no_shift (max_repetition l.path)) (subst (λ (d : ℕ). Good l.kind (0 + max_repetition l.path) d (record_column l.path n)) (no_shift (max_definition l.path)) g)

abbrev AreShort : List Node → Type 0
AreShort R = list_all (λ (n : Node). nat_lt (text_bytes n) (2 ^ 32)) R ≡ true

column_good : (s : Schema) (i : ℕ) (l : Leaf) (R : List Node) → nth_leaf (leaves s.fields) i ≡ Some l → list_all (is_record s.fields) R ≡ true → AreShort R → Good l.kind (max_repetition l.path) (max_definition l.path) (column l.path R)
column_good s i l [] e v t = refl
column_good s i l (n ∷ R) e v t =
    let p : (is_record s.fields n ≡ true) × (list_all (is_record s.fields) R ≡ true) = and_parts _ _ v in
    let q : (nat_lt (text_bytes n) (2 ^ 32) ≡ true) × AreShort R = and_parts _ _ t in
    good_both l.kind (max_repetition l.path) (max_definition l.path) (record_column l.path n) (column l.path R) (record_good s i l n e p.0 (ltb-true _ _ q.0)) (column_good s i l R e p.1 q.1)

-- ---- levels are at most as many as names

abbrev FewLevels : Leaf → Type 0
FewLevels l = (max_repetition l.path ≤ length l.names) × (max_definition l.path ≤ length l.names)

one_level : (r : Repetition) → (repetition_count r ≤ 1) × (definition_count r ≤ 1)
one_level required = (omega arith, omega arith)
one_level optional = (omega arith, omega arith)
one_level repeated = (omega arith, omega arith)

level_below : (n : List ℕ) (i : ℕ) (r : Repetition) (l : Leaf) → FewLevels l → FewLevels (leaf_below n (record { place = i; repetition = r }) l)
level_below n i r l h = (omega (arith, h.0, (one_level r).0), omega (arith, h.1, (one_level r).1))

mutual
  fields_levels : (fs : Fields) (i : ℕ) → EachLeaf FewLevels (leaves_from fs i)
  fields_levels no_fields i = tt
  fields_levels (field n r s fs) i = each_append FewLevels (map (leaf_below n (record { place = i; repetition = r })) (shape_leaves s)) (leaves_from fs (suc i)) (each_below FewLevels FewLevels n (record { place = i; repetition = r }) (level_below n i r) (shape_leaves s) (shape_levels s)) (fields_levels fs (suc i))

  shape_levels : (s : Shape) → EachLeaf FewLevels (shape_leaves s)
  shape_levels (leaf k) = ((omega arith, omega arith), tt)
  shape_levels (group fs) = fields_levels fs 0

nth_within : (ls : List Leaf) (i : ℕ) (l : Leaf) → AllLeaves (is_within 32) ls → nth_leaf ls i ≡ Some l → length l.names ≤ 32
nth_within [] i l h e = absurd (no_leaf l e)
nth_within (m ∷ ls) zero l h e = let p : (is_within 32 m ≡ true) × AllLeaves (is_within 32) ls = and_parts _ _ h in subst (λ (x : Leaf). length x.names ≤ 32) (same_leaf m l e) (leb-true _ _ p.0)
nth_within (m ∷ ls) (suc i) l h e = let p : (is_within 32 m ≡ true) × AllLeaves (is_within 32) ls = and_parts _ _ h in nth_within ls i l p.1 e

pub levels_few : (fs : Fields) (i : ℕ) (l : Leaf) → depth fs ≤ 32 → nth_leaf (leaves fs) i ≡ Some l → (max_repetition l.path ≤ 32) × (max_definition l.path ≤ 32)
levels_few fs i l d e =
    let a : FewLevels l = each_nth FewLevels (leaves fs) i l (fields_levels fs 0) e in
    let b : length l.names ≤ 32 = nth_within (leaves fs) i l (leaves_within fs 0 32 d) e in
    (omega (arith, a.0, b), omega (arith, a.1, b))

nth_fits : (form : PageForm) (R : List Node) (ls : List Leaf) (i : ℕ) (l : Leaf) → LeavesFit form R ls → nth_leaf ls i ≡ Some l → (triplet_count (record_columns l R) ≤ most_triplets) × FitHeaders form l (cut_pages l.kind [] (record_columns l R))
nth_fits form R [] i l h e = absurd (no_leaf l e)
nth_fits form R (m ∷ ls) zero l h e = subst (λ (x : Leaf). (triplet_count (record_columns x R) ≤ most_triplets) × FitHeaders form x (cut_pages x.kind [] (record_columns x R))) (same_leaf m l e) (h.0, h.1)
nth_fits form R (m ∷ ls) (suc i) l h e = nth_fits form R ls i l h.2 e

counts_fit : (form : PageForm) (R : List Node) (ls : List Leaf) → LeavesFit form R ls → LeafCounts R ls
counts_fit form R [] h = tt
counts_fit form R (l ∷ ls) h = (omega (arith, h.0), counts_fit form R ls h.2)

-- ---- the footer

no_paths : (form : PageForm) (R : List Node) (ls : List Leaf) (place : ℕ) → list_all (λ (c : ColumnChunk). has_no_path c.file_path) (chunks_from form R ls place).columns ≡ true
no_paths form R [] place = refl
no_paths form R (l ∷ ls) place = no_paths form R ls (place + length (written_chunk form l R))

abbrev the_schema : Schema → FileSchema
the_schema s = record { name = s.name; fields = file_fields_of s.fields }

whole_groups : (form : PageForm) (s : Schema) (R : List Node) → is_group s.fields ≡ true → depth s.fields ≤ 32 → list_all (is_whole_group (length (file_leaves (file_fields_of s.fields)))) (groups_of form s R) ≡ true
whole_groups form s [] g d = refl
whole_groups form s (n ∷ R) g d =
    let e : length (file_leaves (file_fields_of s.fields)) ≡ length (leaves s.fields) = ap length (file_leaves_back s.fields g d) ∙ length-map (leaves s.fields) file_leaf_of in
    let c : length (chunks_from form (n ∷ R) (leaves s.fields) 4).columns ≡ length (file_leaves (file_fields_of s.fields)) = columns_many form (n ∷ R) (leaves s.fields) 4 ∙ sym e in
    and_from _ _ (and_from _ _ (eq-eqb _ _ c) (no_paths form (n ∷ R) (leaves s.fields) 4)) refl

abbrev pub the_footer : PageForm → Schema → List Node → Footer
the_footer form s R = record { place = 4 + length (written_chunks form s R).bytes; meta = written_meta form s R; schema = the_schema s }

-- what a schema within the limits is
abbrev pub Limits : Schema → Type 0
Limits s = (is_short_name s.name ≡ true) × (is_group s.fields ≡ true) × (depth s.fields ≤ 32) × (leaf_count s.fields ≤ 1024)

pub limits : (s : Schema) → is_schema s ≡ true → Limits s
limits s h =
    let a : ((is_short_name s.name && is_shape (group s.fields) && nat_le (depth s.fields) greatest_depth) ≡ true) × (nat_le (leaf_count s.fields) most_leaves ≡ true) = and_parts _ _ h in
    let b : ((is_short_name s.name && is_shape (group s.fields)) ≡ true) × (nat_le (depth s.fields) greatest_depth ≡ true) = and_parts _ _ a.0 in
    let c : (is_short_name s.name ≡ true) × (is_shape (group s.fields) ≡ true) = and_parts _ _ b.0 in
    let d : (is_nonempty s.fields ≡ true) × (is_group s.fields ≡ true) = and_parts _ _ c.1 in
    (c.0, d.1, leb-true _ _ b.1, leb-true _ _ a.1)

chunks_in_file : (form : PageForm) (s : Schema) (R : List Node) → 4 + length (written_chunks form s R).bytes ≤ length (file_bytes form s R)
unfolding file_bytes
chunks_in_file form s R = omega (arith, length-append (written_chunks form s R).bytes (written_footer form s R ++ (little_endian_bytes 4 (length (written_footer form s R)) ++ magic)))

pub footer_there : (form : PageForm) (s : Schema) (R : List Node) → FitsFile form s R → footer_of (file_bytes form s R) ≡ Some (the_footer form s R)
unfolding file_bytes
footer_there form s R h =
    let k : Limits s = limits s h.0 in
    let t : is_tree (file_tree (written_meta form s R)) ≡ true = meta_fits form s R k.0 k.1 k.2 k.3 (counts_fit form R (leaves s.fields) h.4) (omega (arith, h.3)) (omega (arith, h.6, chunks_in_file form s R)) in
    footer_back (written_chunks form s R).bytes (written_meta form s R) (the_schema s) t h.5 (schema_back s) (whole_groups form s R k.1 k.2)

-- ---- each leaf

found_at : (form : PageForm) (s : Schema) (R : List Node) (i : ℕ) (l : Leaf) → Limits s → nth_leaf (leaves s.fields) i ≡ Some l → leaf_place (the_footer form s R) l ≡ Some i
found_at form s R i l k e = ap (place_of l) (file_leaves_back s.fields k.1 k.2) ∙ leaf_found s.fields i l k.1 e

-- the metadata of a leaf's chunk, where this many bytes of chunks stand before it
abbrev the_chunk : PageForm → Leaf → List Node → ℕ → ColumnMeta
the_chunk form l R before = (chunk_at l R (4 + before) (length (written_chunk form l R))).meta

abbrev the_group : PageForm → Schema → Node → List Node → RowGroup
the_group form s n R = record { columns = (written_chunks form s (n ∷ R)).columns; total_byte_size = Some (pos (length (written_chunks form s (n ∷ R)).bytes)); rows = length (n ∷ R) }

chunk_of : (form : PageForm) (s : Schema) (n : Node) (R : List Node) (i before : ℕ) (l : Leaf) → Limits s → nth_leaf (leaves s.fields) i ≡ Some l → nth_chunk (chunks_from form (n ∷ R) (leaves s.fields) 4).columns i ≡ Some (chunk_at l (n ∷ R) (4 + before) (length (written_chunk form l (n ∷ R)))) → leaf_chunk (the_footer form s (n ∷ R)) l (the_group form s n R) ≡ Some (the_chunk form l (n ∷ R) before)
chunk_of form s n R i before l k e h = rw (found_at form s (n ∷ R) i l k e, h) refl

cut_in_file : (chunks before w behind foot : List ℕ) (l : Leaf) (R : List Node) → chunks ≡ before ++ (w ++ behind) → chunk_bytes (framed chunks foot) (4 + length chunks) (chunk_at l R (4 + length before) (length w)).meta ≡ Some w
cut_in_file chunks before w behind foot l R e = rw e (chunk_cut before w behind foot l R)

rows_of_column : (s : Schema) (R : List Node) (i : ℕ) (l : Leaf) → nth_leaf (leaves s.fields) i ≡ Some l → list_all (is_record s.fields) R ≡ true → of_rows (length R) (column l.path R) ≡ Some (column l.path R)
rows_of_column s R i l e v =
    let p : is_leaf_path s.fields l.path ≡ true = each_nth (λ x. is_leaf_path s.fields x.path ≡ true) (leaves s.fields) i l (leaf_paths s.fields) e in
    let q = column_rows s.fields l.path R p v in
    let g : (starts (column l.path R) == length R) ≡ true = eq-eqb _ _ q.0 in
    rw (q.1, g) refl

-- a leaf's triplets are read from its chunk
triplets_back : (form : PageForm) (s : Schema) (n : Node) (R : List Node) (i : ℕ) (l : Leaf) → Limits s → nth_leaf (leaves s.fields) i ≡ Some l → FitsFile form s (n ∷ R) → group_column (framed (written_chunks form s (n ∷ R)).bytes (written_footer form s (n ∷ R))) (the_footer form s (n ∷ R)) l (the_group form s n R) ≡ Some (column l.path (n ∷ R))
triplets_back form s n R i l k e h =
    let Q : List Node = n ∷ R in
    let w : List ℕ = written_chunk form l Q in
    let p = chunk_there form Q (leaves s.fields) 4 i l e in
    let a : leaf_chunk (the_footer form s Q) l (the_group form s n R) ≡ Some (the_chunk form l Q (length p.0)) = chunk_of form s n R i (length p.0) l k e p.3 in
    let b : chunk_bytes (framed (written_chunks form s Q).bytes (written_footer form s Q)) (4 + length (written_chunks form s Q).bytes) (the_chunk form l Q (length p.0)) ≡ Some w = cut_in_file (written_chunks form s Q).bytes p.0 w p.1 (written_footer form s Q) l Q p.2 in
    let f = nth_fits form Q (leaves s.fields) i l h.4 e in
    let m = levels_few s.fields i l k.2 e in
    let c : pages_triplets l (triplet_count (record_columns l Q)) w ≡ Some (column l.path Q) = pages_back form l Q m.0 m.1 (column_good s i l Q e h.1 h.2) f.1 in
    rw (a, b, c) (rows_of_column s Q i l e h.1)

column_back : (form : PageForm) (s : Schema) (R : List Node) (i : ℕ) (l : Leaf) → Limits s → nth_leaf (leaves s.fields) i ≡ Some l → FitsFile form s R → file_column (framed (written_chunks form s R).bytes (written_footer form s R)) (the_footer form s R) l ≡ Some (column l.path R)
column_back form s [] i l k e h = refl
column_back form s (n ∷ R) i l k e h = rw (triplets_back form s n R i l k e h) (ap (λ x. Some x) (append-nil (column l.path (n ∷ R))))

is_plain : (form : PageForm) (s : Schema) (R : List Node) (i : ℕ) (l : Leaf) → Limits s → nth_leaf (leaves s.fields) i ≡ Some l → list_all (λ g. is_uncompressed (leaf_chunk (the_footer form s R) l g)) (groups_of form s R) ≡ true
is_plain form s [] i l k e = refl
is_plain form s (n ∷ R) i l k e = let p = chunk_there form (n ∷ R) (leaves s.fields) 4 i l e in rw (chunk_of form s n R i (length p.0) l k e p.3) refl

fits_bound : (form : PageForm) (s : Schema) (R : List Node) (i : ℕ) (l : Leaf) → Limits s → nth_leaf (leaves s.fields) i ≡ Some l → LeavesFit form R (leaves s.fields) → nat_le (total (λ g. chunk_values (leaf_chunk (the_footer form s R) l g)) (groups_of form s R)) most_triplets ≡ true
fits_bound form s [] i l k e h = refl
fits_bound form s (n ∷ R) i l k e h =
    let p = chunk_there form (n ∷ R) (leaves s.fields) 4 i l e in
    rw (chunk_of form s n R i (length p.0) l k e p.3) (le-leb (triplet_count (record_columns l (n ∷ R)) + 0) most_triplets (omega (arith, (nth_fits form (n ∷ R) (leaves s.fields) i l h e).0)))

-- ---- all leaves asked for

-- each leaf of the schema has its own chunks
own_source : (form : PageForm) (s : Schema) (R : List Node) (i : ℕ) (l : Leaf) → Limits s → nth_leaf (leaves s.fields) i ≡ Some l → leaf_source (the_footer form s R) l ≡ Some own_chunks
own_source form s R i l k e = rw (found_at form s R i l k e) refl

leaves_there : (form : PageForm) (s : Schema) (R : List Node) (F : List Leaf) → Limits s → AreAmong (leaves s.fields) F → has_leaves (the_footer form s R) F ≡ true
leaves_there form s R [] k a = refl
leaves_there form s R (l ∷ F) k a = and_from _ _ (ap has_source (own_source form s R a.0.0 l k a.0.1)) (leaves_there form s R F k a.1)

all_read : (form : PageForm) (s : Schema) (R : List Node) (F : List Leaf) → Limits s → AreAmong (leaves s.fields) F → leaves_read (the_footer form s R) F ≡ F
all_read form s R [] k a = refl
all_read form s R (l ∷ F) k a = ap₂ (λ x y. x ++ y) (ap (leaf_read l) (own_source form s R a.0.0 l k a.0.1)) (all_read form s R F k a.1)

leaves_plain : (form : PageForm) (s : Schema) (R : List Node) (F : List Leaf) → Limits s → AreAmong (leaves s.fields) F → are_uncompressed (the_footer form s R) F ≡ true
leaves_plain form s R [] k a = refl
leaves_plain form s R (l ∷ F) k a = and_from _ _ (is_plain form s R a.0.0 l k a.0.1) (leaves_plain form s R F k a.1)

leaves_bound : (form : PageForm) (s : Schema) (R : List Node) (F : List Leaf) → Limits s → LeavesFit form R (leaves s.fields) → AreAmong (leaves s.fields) F → values_fit (the_footer form s R) F ≡ true
leaves_bound form s R [] k h a = refl
leaves_bound form s R (l ∷ F) k h a = and_from _ _ (fits_bound form s R a.0.0 l k a.0.1 h) (leaves_bound form s R F k h a.1)

columns_back : (form : PageForm) (s : Schema) (R : List Node) (F : List Leaf) → Limits s → FitsFile form s R → AreAmong (leaves s.fields) F → AreColumns (framed (written_chunks form s R).bytes (written_footer form s R)) (the_footer form s R) F R
columns_back form s R [] k h a = refl
columns_back form s R (l ∷ F) k h a =
    let bytes : List ℕ = framed (written_chunks form s R).bytes (written_footer form s R) in
    let e : given_column bytes (the_footer form s R) l ≡ Some (column l.path R) = ap (column_by bytes (the_footer form s R) l) (own_source form s R a.0.0 l k a.0.1) ∙ column_back form s R a.0.0 l k a.0.1 h in
    ap₂ (λ x xs. x ∷ xs) e (columns_back form s R F k h a.1)

rows_right : (form : PageForm) (s : Schema) (R : List Node) → length R ≤ most_rows → rows_agree (the_footer form s R) ≡ true
rows_right form s [] h = refl
rows_right form s (n ∷ R) h = and_from _ _ (eq-eqb (length (n ∷ R) + 0) (length (n ∷ R)) (omega arith)) (le-leb (length (n ∷ R)) most_rows h)

pub written_file_is_file : WrittenFileIsFile
unfolding file_bytes
written_file_is_file form s R F h a =
    let k : Limits s = limits s h.0 in
    let e : leaves_read (the_footer form s R) F ≡ F = all_read form s R F k a in
    (the_footer form s R, footer_there form s R h, leaves_there form s R F k a, ap (are_uncompressed (the_footer form s R)) e ∙ leaves_plain form s R F k a, (rows_right form s R h.3, ap (values_fit (the_footer form s R)) e ∙ leaves_bound form s R F k h.4 a, refl, h.1, columns_back form s R F k h a))

-- ---- its schema

pub written_schema_is_read : WrittenSchemaIsRead
unfolding file_bytes
written_schema_is_read form s R h = ap schema_or_cause (footer_there form s R h) ∙ rw (written_opened s h.0) refl
