-- The bytes that are written for records depend on their columns alone.
use Rattle.std.proofs.Common.{◌≡◌, ◌∙◌, ℕ, ◌+◌, List, [], ◌∷◌, ◌++◌, length, map, Bool, true, false, refl, sym, ap, ap₂, append_assoc, length-append, arith}
use Rattle.std.specs.Prelude.{◌==◌}
use Rattle.std.specs.List.{list_all}
use Rattle.std.proofs.lemmas.Bool.{and_parts, ne_eqb}
use Rattle.dr_meaning.specs.Schema.{Fields, group, Schema}
use Rattle.dr_meaning.specs.Path.{Step, Leaf, leaves, is_leaf_path, max_repetition, max_definition}
use Rattle.dr_meaning.specs.Record.{Node, is_record, inner}
use Rattle.dr_meaning.specs.Column.{Triplet, record_column, column}
use Rattle.dr_meaning.specs.OneColumn.{begins_record}
use Rattle.dr_meaning.proofs.Blocks.{IsAbove, IsBlock, block-instance}
use Rattle.dr_formats.specs.File.{magic}
use Rattle.dr_formats.specs.Metadata.{RowGroup}
use Rattle.dr_formats.specs.Page.{PageForm}
use Rattle.dr_formats.specs.Writing.{cut_pages, pages_bytes, record_columns, written_chunk, triplet_count, chunk_at, WrittenChunks, put_chunk, chunks_from, written_chunks, groups_of, written_footer, file_bytes}
use Rattle.dr_formats.proofs.ColumnsFit.{EachLeaf}
use Rattle.dr_formats.proofs.ColumnRows.{leaf_paths, column_rows}
use Rattle.dr_write.specs.Cutting.{with_first, records_of}
use Rattle.dr_write.specs.Chunks.{WrittenLeaf, written_leaf, page_of, pages_of, leaf_chunk, column_chunk, chunks_of, chunks_in_rows, groups_in_rows}
use Rattle.dr_write.specs.Files.{HaveColumns, footer_of, file_end}

-- ---- the records of a column are the columns of the records

block_record : (t : Triplet) (ts rest : List Triplet) → IsAbove 0 ts → begins_record rest ≡ true → records_of (t ∷ (ts ++ rest)) ≡ (t ∷ ts) ∷ records_of rest
block_record t [] rest a b = ap (λ (x : Bool). with_first t x (records_of rest)) b
block_record t (u ∷ ts) rest a b =
    let e : (u.repetition == 0) ≡ false = ne_eqb u.repetition 0 (omega (arith, a.0)) in
    ap₂ (λ (x : Bool) (cs : List (List Triplet)). with_first t x cs) e (block_record u ts rest a.1 b)

first_record : (ts rest : List Triplet) → IsBlock 0 0 0 ts → begins_record rest ≡ true → records_of (ts ++ rest) ≡ ts ∷ records_of rest
first_record [] rest a b = absurd a
first_record (t ∷ ts) rest a b = block_record t ts rest a.2 b

records_same : (fs : Fields) (p : List Step) (R : List Node) → is_leaf_path fs p ≡ true → list_all (is_record fs) R ≡ true → records_of (column p R) ≡ map (record_column p) R
records_same fs p [] h v = refl
records_same fs p (n ∷ R) h v =
    let k : (is_record fs n ≡ true) × (list_all (is_record fs) R ≡ true) = and_parts _ _ v in
    first_record (record_column p n) (column p R) (block-instance (group fs) p (inner n) 0 0 0 h k.0) (column_rows fs p R h k.1).1
    ∙ ap (λ (cs : List (List Triplet)). record_column p n ∷ cs) (records_same fs p R h k.1)

count_same : (l : Leaf) (R : List Node) → length (column l.path R) ≡ triplet_count (record_columns l R)
count_same l [] = refl
count_same l (n ∷ R) = length-append (record_column l.path n) (column l.path R) ∙ ap (λ (m : ℕ). length (record_column l.path n) + m) (count_same l R)

-- ---- chunks

pages_same : (form : PageForm) (l : Leaf) (ps : List (List Triplet)) → pages_of form l.kind (max_repetition l.path) (max_definition l.path) ps ≡ pages_bytes form l ps
pages_same form l [] = refl
pages_same form l (p ∷ ps) = ap (λ (x : List ℕ). page_of form l.kind (max_repetition l.path) (max_definition l.path) p ++ x) (pages_same form l ps)

chunk_same : (form : PageForm) (fs : Fields) (l : Leaf) (R : List Node) → is_leaf_path fs l.path ≡ true → list_all (is_record fs) R ≡ true → leaf_chunk form (written_leaf l) (column l.path R) ≡ written_chunk form l R
chunk_same form fs l R h v = ap (λ (cs : List (List Triplet)). pages_of form l.kind (max_repetition l.path) (max_definition l.path) (cut_pages l.kind [] cs)) (records_same fs l.path R h v) ∙ pages_same form l (cut_pages l.kind [] (record_columns l R))

abbrev one_chunk : Leaf → ℕ → List ℕ → ℕ → (ℕ → WrittenChunks) → WrittenChunks
one_chunk l place bytes count rest = put_chunk bytes (column_chunk (written_leaf l) count place (length bytes)) (rest (place + length bytes))

chunks_same : (form : PageForm) (fs : Fields) (R : List Node) (ls : List Leaf) (place : ℕ) → list_all (is_record fs) R ≡ true → EachLeaf (λ l. is_leaf_path fs l.path ≡ true) ls
    → chunks_of form (map written_leaf ls) (map (λ (l : Leaf). column l.path R) ls) place ≡ chunks_from form R ls place
chunks_same form fs R [] place v h = refl
chunks_same form fs R (l ∷ ls) place v h =
    let rest : ℕ → WrittenChunks = chunks_of form (map written_leaf ls) (map (λ (x : Leaf). column x.path R) ls) in
    ap₂ (λ (b : List ℕ) (n : ℕ). one_chunk l place b n rest) (chunk_same form fs l R h.0 v) (count_same l R)
    ∙ ap (λ (w : WrittenChunks). put_chunk (written_chunk form l R) (chunk_at l R place (length (written_chunk form l R))) w) (chunks_same form fs R ls (place + length (written_chunk form l R)) v h.1)

-- ---- the file

rows_chunks : (form : PageForm) (s : Schema) (R : List Node) → list_all (is_record s.fields) R ≡ true → chunks_in_rows form (length R) (map written_leaf (leaves s.fields)) (map (λ (l : Leaf). column l.path R) (leaves s.fields)) 4 ≡ written_chunks form s R
rows_chunks form s [] v = refl
rows_chunks form s (n ∷ R) v = chunks_same form s.fields (n ∷ R) (leaves s.fields) 4 v (leaf_paths s.fields)

rows_groups : (form : PageForm) (s : Schema) (R : List Node) → groups_in_rows (length R) (written_chunks form s R) ≡ groups_of form s R
rows_groups form s [] = refl
rows_groups form s (n ∷ R) = refl

-- what is written part by part is the file of the records
pub file_is_written : (form : PageForm) (s : Schema) (R : List Node) (ls : List WrittenLeaf) (cs : List (List Triplet)) (n rows : ℕ) (begun chunked out : List ℕ) (gs : List RowGroup)
    → ls ≡ map written_leaf (leaves s.fields) → HaveColumns s R cs → length R ≡ rows → n ≡ rows → begun ≡ magic
    → chunked ≡ begun ++ (chunks_in_rows form n ls cs (length begun)).bytes → gs ≡ groups_in_rows n (chunks_in_rows form n ls cs (length begun))
    → out ≡ chunked ++ file_end (footer_of s n gs) → out ≡ file_bytes form s R
unfolding file_bytes
file_is_written form s R ls cs n rows begun chunked out gs el h er en em ec eg eo =
    let c : n ≡ length R = en ∙ sym er in
    let w : chunks_in_rows form n ls cs (length begun) ≡ written_chunks form s R =
    ap₂ (λ (x : ℕ) (b : List ℕ). chunks_in_rows form x ls cs (length b)) c em ∙ (ap₂ (λ (xs : List WrittenLeaf) (ys : List (List Triplet)). chunks_in_rows form (length R) xs ys 4) el h.1 ∙ rows_chunks form s R h.0) in
    let g : gs ≡ groups_of form s R = eg ∙ (ap₂ groups_in_rows c w ∙ rows_groups form s R) in
    let f : footer_of s n gs ≡ written_footer form s R = ap₂ (footer_of s) c g in
    let b : chunked ≡ magic ++ (written_chunks form s R).bytes = ec ∙ ap₂ (λ (x : List ℕ) (y : WrittenChunks). x ++ y.bytes) em w in
    eo ∙ (ap₂ (λ (x y : List ℕ). x ++ file_end y) b f ∙ append_assoc magic (written_chunks form s R).bytes (file_end (written_footer form s R)))
