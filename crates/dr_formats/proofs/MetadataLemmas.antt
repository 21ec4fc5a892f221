-- The structs that are written for metadata are viewed as that metadata.
use Rattle.std.proofs.Common.{◌≡◌, ℕ, Bool, List, [], ◌∷◌, map, refl, ℤ, Option, Some, None, Result, Ok}
use Rattle.dr_formats.specs.Compact.{Struct, i32_item, binary_item, struct_item}
use Rattle.dr_formats.specs.Metadata.{MetaFault, as_i32, as_binary, as_struct, all_as, each, SchemaElement, view_element, ColumnMeta, view_column_meta, ColumnChunk, view_chunk, RowGroup, view_group, FileMeta, view_file, items_of, element_tree, column_meta_tree, chunk_tree, group_tree, file_tree, DataPageHeader, DictionaryPageHeader, DataPageHeaderV2, PageHeader, view_data_header_v2, view_page, data_header_v2_tree, page_tree}
use Rattle.dr_formats.specs.WritingLaws.{WrittenMetadataIsViewed, WrittenHeaderIsViewed}

-- ---- lists

numbers_back : (zs : List ℤ) → all_as as_i32 (items_of i32_item zs) ≡ Some zs
numbers_back [] = refl
numbers_back (z ∷ zs) = rw (numbers_back zs) refl

names_back : (ns : List (List ℕ)) → all_as as_binary (items_of binary_item ns) ≡ Some ns
names_back [] = refl
names_back (n ∷ ns) = rw (names_back ns) refl

structs_back : {A : Type 0} (f : A → Struct) (xs : List A) → all_as as_struct (items_of (λ x. struct_item (f x)) xs) ≡ Some (map f xs)
structs_back f [] = refl
structs_back f (x ∷ xs) = rw (structs_back f xs) refl

each_back : {A : Type 0} (f : A → Struct) (view : Struct → Result A MetaFault) → ((x : A) → view (f x) ≡ Ok x) → (xs : List A) → each view (map f xs) ≡ Ok xs
each_back f view h [] = refl
each_back f view h (x ∷ xs) = rw (h x, each_back f view h xs) refl

-- ---- structs, by which of their fields are there

abbrev element : Option ℤ → Option ℤ → Option ℤ → List ℕ → Option ℤ → Option ℤ → SchemaElement
element t l r n c v = record { type = t; type_length = l; repetition = r; name = n; children = c; converted = v }

element_parts : (t l r : Option ℤ) (n : List ℕ) (c v : Option ℤ) → view_element (element_tree (element t l r n c v)) ≡ Ok (element t l r n c v)
element_parts None None None n None None = refl
element_parts None None None n None (Some v) = refl
element_parts None None None n (Some c) None = refl
element_parts None None None n (Some c) (Some v) = refl
element_parts None None (Some r) n None None = refl
element_parts None None (Some r) n None (Some v) = refl
element_parts None None (Some r) n (Some c) None = refl
element_parts None None (Some r) n (Some c) (Some v) = refl
element_parts None (Some l) None n None None = refl
element_parts None (Some l) None n None (Some v) = refl
element_parts None (Some l) None n (Some c) None = refl
element_parts None (Some l) None n (Some c) (Some v) = refl
element_parts None (Some l) (Some r) n None None = refl
element_parts None (Some l) (Some r) n None (Some v) = refl
element_parts None (Some l) (Some r) n (Some c) None = refl
element_parts None (Some l) (Some r) n (Some c) (Some v) = refl
element_parts (Some t) None None n None None = refl
element_parts (Some t) None None n None (Some v) = refl
element_parts (Some t) None None n (Some c) None = refl
element_parts (Some t) None None n (Some c) (Some v) = refl
element_parts (Some t) None (Some r) n None None = refl
element_parts (Some t) None (Some r) n None (Some v) = refl
element_parts (Some t) None (Some r) n (Some c) None = refl
element_parts (Some t) None (Some r) n (Some c) (Some v) = refl
element_parts (Some t) (Some l) None n None None = refl
element_parts (Some t) (Some l) None n None (Some v) = refl
element_parts (Some t) (Some l) None n (Some c) None = refl
element_parts (Some t) (Some l) None n (Some c) (Some v) = refl
element_parts (Some t) (Some l) (Some r) n None None = refl
element_parts (Some t) (Some l) (Some r) n None (Some v) = refl
element_parts (Some t) (Some l) (Some r) n (Some c) None = refl
element_parts (Some t) (Some l) (Some r) n (Some c) (Some v) = refl

element_back : (e : SchemaElement) → view_element (element_tree e) ≡ Ok e
element_back e = element_parts e.type e.type_length e.repetition e.name e.children e.converted

abbrev column_meta : ℤ → Option (List ℤ) → Option (List (List ℕ)) → ℤ → ℕ → Option ℤ → ℕ → ℕ → Option ℤ → ColumnMeta
column_meta t es ns c n u z d o = record { type = t; encodings = es; path = ns; codec = c; values = n; uncompressed_size = u; compressed_size = z; data_page_offset = d; dictionary_page_offset = o }

column_meta_parts : (t : ℤ) (es : Option (List ℤ)) (ns : Option (List (List ℕ))) (c : ℤ) (n : ℕ) (u : Option ℤ) (z d : ℕ) (o : Option ℤ) → view_column_meta (column_meta_tree (column_meta t es ns c n u z d o)) ≡ Ok (column_meta t es ns c n u z d o)
column_meta_parts t None None c n None z d None = refl
column_meta_parts t None None c n None z d (Some o) = refl
column_meta_parts t None None c n (Some u) z d None = refl
column_meta_parts t None None c n (Some u) z d (Some o) = refl
column_meta_parts t None (Some ns) c n None z d None = rw (names_back ns) refl
column_meta_parts t None (Some ns) c n None z d (Some o) = rw (names_back ns) refl
column_meta_parts t None (Some ns) c n (Some u) z d None = rw (names_back ns) refl
column_meta_parts t None (Some ns) c n (Some u) z d (Some o) = rw (names_back ns) refl
column_meta_parts t (Some es) None c n None z d None = rw (numbers_back es) refl
column_meta_parts t (Some es) None c n None z d (Some o) = rw (numbers_back es) refl
column_meta_parts t (Some es) None c n (Some u) z d None = rw (numbers_back es) refl
column_meta_parts t (Some es) None c n (Some u) z d (Some o) = rw (numbers_back es) refl
column_meta_parts t (Some es) (Some ns) c n None z d None = rw (numbers_back es, names_back ns) refl
column_meta_parts t (Some es) (Some ns) c n None z d (Some o) = rw (numbers_back es, names_back ns) refl
column_meta_parts t (Some es) (Some ns) c n (Some u) z d None = rw (numbers_back es, names_back ns) refl
column_meta_parts t (Some es) (Some ns) c n (Some u) z d (Some o) = rw (numbers_back es, names_back ns) refl

column_meta_back : (m : ColumnMeta) → view_column_meta (column_meta_tree m) ≡ Ok m
column_meta_back m = column_meta_parts m.type m.encodings m.path m.codec m.values m.uncompressed_size m.compressed_size m.data_page_offset m.dictionary_page_offset

abbrev chunk : Option (List ℕ) → Option ℤ → ColumnMeta → ColumnChunk
chunk p o m = record { file_path = p; file_offset = o; meta = m }

chunk_parts : (p : Option (List ℕ)) (o : Option ℤ) (m : ColumnMeta) → view_chunk (chunk_tree (chunk p o m)) ≡ Ok (chunk p o m)
chunk_parts None None m = rw (column_meta_back m) refl
chunk_parts None (Some o) m = rw (column_meta_back m) refl
chunk_parts (Some p) None m = rw (column_meta_back m) refl
chunk_parts (Some p) (Some o) m = rw (column_meta_back m) refl

chunk_back : (c : ColumnChunk) → view_chunk (chunk_tree c) ≡ Ok c
chunk_back c = chunk_parts c.file_path c.file_offset c.meta

abbrev row_group : List ColumnChunk → Option ℤ → ℕ → RowGroup
row_group cs t n = record { columns = cs; total_byte_size = t; rows = n }

group_parts : (cs : List ColumnChunk) (t : Option ℤ) (n : ℕ) → view_group (group_tree (row_group cs t n)) ≡ Ok (row_group cs t n)
group_parts cs None n = rw (structs_back chunk_tree cs, each_back chunk_tree view_chunk chunk_back cs) refl
group_parts cs (Some t) n = rw (structs_back chunk_tree cs, each_back chunk_tree view_chunk chunk_back cs) refl

group_back : (g : RowGroup) → view_group (group_tree g) ≡ Ok g
group_back g = group_parts g.columns g.total_byte_size g.rows

abbrev file : Option ℤ → List SchemaElement → ℕ → List RowGroup → Option (List ℕ) → FileMeta
file v es n gs c = record { version = v; schema = es; rows = n; groups = gs; created_by = c }

file_parts : (v : Option ℤ) (es : List SchemaElement) (n : ℕ) (gs : List RowGroup) (c : Option (List ℕ)) → view_file (file_tree (file v es n gs c)) ≡ Ok (file v es n gs c)
file_parts None es n gs None = rw (structs_back element_tree es, structs_back group_tree gs, each_back element_tree view_element element_back es, each_back group_tree view_group group_back gs) refl
file_parts None es n gs (Some c) = rw (structs_back element_tree es, structs_back group_tree gs, each_back element_tree view_element element_back es, each_back group_tree view_group group_back gs) refl
file_parts (Some v) es n gs None = rw (structs_back element_tree es, structs_back group_tree gs, each_back element_tree view_element element_back es, each_back group_tree view_group group_back gs) refl
file_parts (Some v) es n gs (Some c) = rw (structs_back element_tree es, structs_back group_tree gs, each_back element_tree view_element element_back es, each_back group_tree view_group group_back gs) refl

pub written_metadata_is_viewed : WrittenMetadataIsViewed
written_metadata_is_viewed m = file_parts m.version m.schema m.rows m.groups m.created_by

-- ---- page headers, by which of their fields are there

abbrev v2 : ℕ → Option ℤ → Option ℤ → ℤ → ℕ → ℕ → Option Bool → DataPageHeaderV2
v2 n z r e d p c = record { values = n; nulls = z; rows = r; encoding = e; definition_bytes = d; repetition_bytes = p; compressed = c }

v2_parts : (n : ℕ) (z r : Option ℤ) (e : ℤ) (d p : ℕ) (c : Option Bool) → view_data_header_v2 (data_header_v2_tree (v2 n z r e d p c)) ≡ Ok (v2 n z r e d p c)
v2_parts n None None e d p None = refl
v2_parts n None None e d p (Some c) = refl
v2_parts n None (Some r) e d p None = refl
v2_parts n None (Some r) e d p (Some c) = refl
v2_parts n (Some z) None e d p None = refl
v2_parts n (Some z) None e d p (Some c) = refl
v2_parts n (Some z) (Some r) e d p None = refl
v2_parts n (Some z) (Some r) e d p (Some c) = refl

v2_back : (h : DataPageHeaderV2) → view_data_header_v2 (data_header_v2_tree h) ≡ Ok h
v2_back h = v2_parts h.values h.nulls h.rows h.encoding h.definition_bytes h.repetition_bytes h.compressed

abbrev head : ℤ → Option ℤ → ℕ → Option DataPageHeader → Option DictionaryPageHeader → Option DataPageHeaderV2 → PageHeader
head t u z d y w = record { type = t; uncompressed_size = u; compressed_size = z; data_page = d; dictionary_page = y; data_page_v2 = w }

head_parts : (t : ℤ) (u : Option ℤ) (z : ℕ) (d : Option DataPageHeader) (y : Option DictionaryPageHeader) (w : Option DataPageHeaderV2) → view_page (page_tree (head t u z d y w)) ≡ Ok (head t u z d y w)
head_parts t None z None None None = refl
head_parts t None z None None (Some w) = rw (v2_back w) refl
head_parts t None z None (Some y) None = refl
head_parts t None z None (Some y) (Some w) = rw (v2_back w) refl
head_parts t None z (Some d) None None = refl
head_parts t None z (Some d) None (Some w) = rw (v2_back w) refl
head_parts t None z (Some d) (Some y) None = refl
head_parts t None z (Some d) (Some y) (Some w) = rw (v2_back w) refl
head_parts t (Some u) z None None None = refl
head_parts t (Some u) z None None (Some w) = rw (v2_back w) refl
head_parts t (Some u) z None (Some y) None = refl
head_parts t (Some u) z None (Some y) (Some w) = rw (v2_back w) refl
head_parts t (Some u) z (Some d) None None = refl
head_parts t (Some u) z (Some d) None (Some w) = rw (v2_back w) refl
head_parts t (Some u) z (Some d) (Some y) None = refl
head_parts t (Some u) z (Some d) (Some y) (Some w) = rw (v2_back w) refl

pub written_header_is_viewed : WrittenHeaderIsViewed
written_header_is_viewed h = head_parts h.type h.uncompressed_size h.compressed_size h.data_page h.dictionary_page h.data_page_v2
