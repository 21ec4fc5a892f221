-- What a footer says of leaves, by their places.
use Rattle.std.proofs.Common.{◌≡◌, ℕ, zero, suc, ◌<◌, List, [], ◌∷◌, ◌++◌, map, length, Bool, true, false, refl, sym, ap, ap₂, ◌∙◌, subst, arith}
use Rattle.std.specs.Prelude.{Option, Some, None, option_map, option_and_then, is_some, ◌&&◌, nat_le, if◌then◌else◌, Result, Ok, Err, IfOk, OnOk, IfErr}
use Rattle.std.specs.List.{list_all, flat_map}
use Rattle.std.proofs.lemmas.Bool.{and_parts, eqb-true}
use Rattle.std.proofs.lemmas.List.{map-append}
use Rattle.dr_meaning.specs.Path.{Leaf}
use Rattle.dr_formats.specs.Metadata.{ColumnChunk, RowGroup, FileMeta}
use Rattle.dr_formats.specs.FileSchema.{FileSchema, file_schema, FileLeaf, file_leaves, is_leaf_for, place_of}
use Rattle.dr_formats.specs.Lacking.{Source, no_chunks, chunks_of, source_in, has_source, leaf_read}
use Rattle.dr_formats.specs.File.{Footer, with_schema, is_whole_group, has_no_path, leaf_place, leaves_read, has_leaves, nth_chunk, is_uncompressed, are_uncompressed}
use Rattle.dr_formats.specs.File.{total, most_triplets, chunk_values, rows_agree, bad_schema, schema_or_cause}
use Rattle.dr_formats.specs.Opening.{has_numbers}
use Rattle.dr_meta.specs.OneTree.{count_leaves}
use Rattle.dr_nested.specs.PathView.{path_view}
use Rattle.dr_open.specs.Sources.{source_in_file}
use Rattle.dr_open.specs.SourceViews.{stand_in_view, source_view, IsPlaced}
use Rattle.dr_open.specs.declared.column_source.LeafSource.{LeafSource}
use Rattle.dr_open.proofs.StandsLemmas.{LacksPart, Stands, source_tells, group_below}
use Rattle.dr_file.specs.declared.fault.OpenFault.{OpenFault}
use Rattle.dr_file.specs.Fields.{itself, outlined}
use Rattle.dr_file.specs.Groups.{chunk_of, are_uncompressed_at, are_numbers_at}
use Rattle.dr_file.specs.Openings.{ShownLeaf, shown_chunk, shown_at, shown_leaf, ShownField, told_by, shown_by, shown_by_each, shown_from, shown_field, footer_with, footer_cause, IsOpenedAs, IsOpenFault, IsNoFooter, IsPlacesFault}
use Rattle.dr_file.specs.Sources.{AreSources, place_read, places_read, IsBelow, AreBelow}
use Rattle.dr_file.specs.Schemas.{cause_in}

-- ---- the footer

-- leaves were counted, so there is a tree
pub tree_there : (o : Option FileSchema) (n : ℕ) → option_map count_leaves o ≡ Some n → (s : FileSchema) × (o ≡ Some s) × (n ≡ length (file_leaves s.fields))
tree_there None n h = cc
tree_there (Some s) n h = let e : n ≡ length (file_leaves s.fields) = cc in (s, refl, e)

abbrev pub the_footer : ℕ → FileMeta → FileSchema → Footer
the_footer place m s = record { place = place; meta = m; schema = s }

pub footer_there : (place : ℕ) (m : FileMeta) (s : FileSchema) (n : ℕ) → file_schema m.schema ≡ Some s → n ≡ length (file_leaves s.fields) → list_all (is_whole_group n) m.groups ≡ true
    → footer_with place m ≡ Some (the_footer place m s)
footer_there place m s n e l w =
    ap (option_and_then (with_schema place m)) e
    ∙ ap (λ b. if b then Some (the_footer place m s) else None) (ap (λ k. list_all (is_whole_group k) m.groups) (sym l) ∙ w)

-- metadata gives no footer
pub no_footer : (e : OpenFault) (F : List Leaf) (o : Option Footer) → IsNoFooter e o → IsOpenFault e (footer_cause F o)
no_footer OpenFault.NoMemory F o h = tt
no_footer OpenFault.Failed F o h = h
no_footer OpenFault.BadFooter F o h = ap (footer_cause F) h
no_footer OpenFault.BadSchema F o h = absurd h
no_footer OpenFault.BadCodec F o h = absurd h
no_footer OpenFault.BadData F o h = absurd h

pub no_schema : (e : OpenFault) (o : Option Footer) → IsNoFooter e o → IsOpenFault e (cause_in (schema_or_cause o))
no_schema OpenFault.NoMemory o h = tt
no_schema OpenFault.Failed o h = h
no_schema OpenFault.BadFooter o h = ap (λ (x : Option Footer). cause_in (schema_or_cause x)) h
no_schema OpenFault.BadSchema o h = absurd h
no_schema OpenFault.BadCodec o h = absurd h
no_schema OpenFault.BadData o h = absurd h

-- ---- leaves by their places

-- a test of leaves by their places is one of the places
pub along_places : (place : Leaf → Option ℕ) (q : Option ℕ → Bool) (F : List Leaf) (is : List ℕ) → map place F ≡ map (λ i. Some i) is → list_all (λ l. q (place l)) F ≡ list_all (λ i. q (Some i)) is
along_places place q [] [] h = refl
along_places place q [] (i ∷ is) h = cc
along_places place q (l ∷ F) [] h = cc
along_places place q (l ∷ F) (i ∷ is) h =
    let e : place l ≡ Some i = cc in
    let t : map place F ≡ map (λ j. Some j) is = cc in
    ap₂ (λ x y. x && y) (ap q e) (along_places place q F is t)

codecs_at : (f : Footer) (F : List Leaf) (is : List ℕ) → map (leaf_place f) F ≡ map (λ i. Some i) is → are_uncompressed f F ≡ are_uncompressed_at f.meta.groups is
codecs_at f F is t = along_places (leaf_place f) (λ o. list_all (λ (g : RowGroup). is_uncompressed (option_and_then (λ j. option_map (λ (c : ColumnChunk). c.meta) (nth_chunk g.columns j)) o)) f.meta.groups) F is t

numbers_at : (f : Footer) (F : List Leaf) (is : List ℕ) → map (leaf_place f) (leaves_read f F) ≡ map (λ i. Some i) is → has_numbers F f ≡ are_numbers_at f.meta.groups f.meta.rows is
numbers_at f F is t = ap (λ b. rows_agree f && b)
    (along_places (leaf_place f) (λ o. nat_le (total (λ (g : RowGroup). chunk_values (option_and_then (λ j. option_map (λ (c : ColumnChunk). c.meta) (nth_chunk g.columns j)) o)) f.meta.groups) most_triplets) (leaves_read f F) is t)

-- a leaf is shown by its place
shown_place : (f : Footer) (l : Leaf) (i : ℕ) → leaf_place f l ≡ Some i → shown_leaf f l ≡ shown_at f.meta.groups l i
shown_place f l i e =
    ap (λ (o : Option ℕ). record { path = l.path; kind = l.kind; chunks = map (λ (g : RowGroup). option_map (shown_chunk g.rows) (option_and_then (λ j. option_map (λ (c : ColumnChunk). c.meta) (nth_chunk g.columns j)) o)) f.meta.groups }) e

-- ---- leaves by their sources

-- each leaf has a source
all_sourced : (s : FileSchema) (F : List Leaf) (ss : List LeafSource) → AreSources (Some s) F ss → list_all (λ l. has_source (source_in s l)) F ≡ true
all_sourced s [] ss h = refl
all_sourced s (l ∷ F) [] h = absurd h
all_sourced s (l ∷ F) (x ∷ ss) h = ap₂ (λ y z. y && z) (ap has_source h.0) (all_sourced s F ss h.2)

pub as_many_sources : (o : Option FileSchema) (F : List Leaf) (ss : List LeafSource) → AreSources o F ss → length F ≡ length ss
as_many_sources o [] [] h = refl
as_many_sources o [] (x ∷ ss) h = absurd h
as_many_sources o (l ∷ F) [] h = absurd h
as_many_sources o (l ∷ F) (x ∷ ss) h = ap (λ (n : ℕ). suc n) (as_many_sources o F ss h.2)

-- the leaf that is read for one has the place that the source tells
one_read : (s : FileSchema) (l : Leaf) (x : LeafSource) → IsPlaced l (Some s) x → map (λ k. place_of k (file_leaves s.fields)) (leaf_read l (Some (source_view x))) ≡ map (λ i. Some i) (place_read x)
one_read s l (LeafSource.Own i) h = ap (λ (o : Option ℕ). o ∷ []) h
one_read s l LeafSource.Nowhere h = refl
one_read s l (LeafSource.Other x) h = ap (λ (o : Option ℕ). o ∷ []) h

pub read_places : (s : FileSchema) (F : List Leaf) (ss : List LeafSource) → AreSources (Some s) F ss
    → map (λ k. place_of k (file_leaves s.fields)) (flat_map (λ l. leaf_read l (source_in s l)) F) ≡ map (λ i. Some i) (places_read ss)
read_places s [] [] h = refl
read_places s [] (x ∷ ss) h = absurd h
read_places s (l ∷ F) [] h = absurd h
read_places s (l ∷ F) (x ∷ ss) h =
    let place : Leaf → Option ℕ = λ k. place_of k (file_leaves s.fields) in
    map-append place (leaf_read l (source_in s l)) (flat_map (λ k. leaf_read k (source_in s k)) F)
    ∙ (ap₂ (λ (y z : List (Option ℕ)). y ++ z) (ap (λ (o : Option Source). map place (leaf_read l o)) h.0 ∙ one_read s l x h.1) (read_places s F ss h.2)
    ∙ sym (map-append (λ i. Some i) (place_read x) (places_read ss)))

-- what a NULL tells is below the leaf
one_below : (s : FileSchema) (l : Leaf) (x : LeafSource) → source_in s l ≡ Some (source_view x) → IsBelow l x
one_below s l (LeafSource.Own i) h = tt
one_below s l LeafSource.Nowhere h = let t : LacksPart l.path 0 = source_tells s l no_chunks h in group_below l.path 0 t
one_below s l (LeafSource.Other x) h =
    let t : Stands l (stand_in_view x) = source_tells s l (chunks_of (stand_in_view x)) h in
    omega (arith, t.definition, group_below l.path t.parts t.lacks)

pub all_below : (s : FileSchema) (F : List Leaf) (ss : List LeafSource) → AreSources (Some s) F ss → AreBelow F ss
all_below s [] ss h = tt
all_below s (l ∷ F) [] h = absurd h
all_below s (l ∷ F) (x ∷ ss) h = (one_below s l x h.0, all_below s F ss h.2)

-- the leaves are shown by their sources
one_shown : (f : Footer) (l : Leaf) (x : LeafSource) → IsPlaced l (Some f.schema) x → shown_from f l (Some (source_view x)) ≡ shown_by f.meta.groups l x
one_shown f l (LeafSource.Own i) h = ap (λ (o : ShownLeaf). told_by l o itself) (shown_place f l i h)
one_shown f l LeafSource.Nowhere h = refl
one_shown f l (LeafSource.Other x) h = ap (λ (o : ShownLeaf). told_by l o (outlined x.repetition x.definition)) (shown_place f (path_view x.leaf) x.place h)

pub shown_by_sources : (f : Footer) (F : List Leaf) (ss : List LeafSource) → AreSources (Some f.schema) F ss → map (shown_field f) F ≡ shown_by_each f.meta.groups F ss
shown_by_sources f [] ss h = refl
shown_by_sources f (l ∷ F) [] h = absurd h
shown_by_sources f (l ∷ F) (x ∷ ss) h = ap₂ (λ (y : ShownField) (ys : List ShownField). y ∷ ys) (ap (shown_from f l) h.0 ∙ one_shown f l x h.1) (shown_by_sources f F ss h.2)

-- the sources were looked for in the tree that is there
pub sources_there : (o : Option FileSchema) (s : FileSchema) (F : List Leaf) (ss : List LeafSource) → o ≡ Some s → AreSources o F ss → AreSources (Some s) F ss
sources_there o s F ss e h = subst (λ (p : Option FileSchema). AreSources p F ss) e h

-- ---- each place has a chunk

within_later : (n : ℕ) (o : Option ℕ) (i : ℕ) → ((j : ℕ) → o ≡ Some j → j < n) → option_map (λ j. suc j) o ≡ Some i → i < suc n
within_later n None i f q = cc
within_later n (Some j) i f q = let r : suc j ≡ i = cc in let w : j < n = f j refl in omega arith

within_first : (b : Bool) (n : ℕ) (o : Option ℕ) (i : ℕ) → ((j : ℕ) → o ≡ Some j → j < n) → (if b then Some 0 else option_map (λ j. suc j) o) ≡ Some i → i < suc n
within_first true n o i f q = let r : 0 ≡ i = cc in omega arith
within_first false n o i f q = within_later n o i f q

place_within : (l : Leaf) (ls : List FileLeaf) (i : ℕ) → place_of l ls ≡ Some i → i < length ls
place_within l [] i h = cc
place_within l (k ∷ ls) i h = within_first (is_leaf_for l k) (length ls) (place_of l ls) i (λ j e. place_within l ls j e) h

nth_there : (cs : List ColumnChunk) (i : ℕ) → i < length cs → is_some (option_map (λ (c : ColumnChunk). c.meta) (nth_chunk cs i)) ≡ true
nth_there [] i h = absurd (omega arith)
nth_there (c ∷ cs) zero h = refl
nth_there (c ∷ cs) (suc i) h = nth_there cs i (omega arith)

chunk_there : (gs : List RowGroup) (n i : ℕ) → i < n → list_all (is_whole_group n) gs ≡ true → list_all (λ g. is_some (chunk_of i g)) gs ≡ true
chunk_there [] n i h w = refl
chunk_there (g ∷ gs) n i h w =
    let p = and_parts (is_whole_group n g) (list_all (is_whole_group n) gs) w in
    let q = and_parts _ (list_all (λ (c : ColumnChunk). has_no_path c.file_path) g.columns) p.0 in
    let e : length g.columns ≡ n = eqb-true (length g.columns) n q.0 in
    ap₂ (λ x y. x && y) (nth_there g.columns i (omega arith)) (chunk_there gs n i h p.1)

pub chunks_there : (gs : List RowGroup) (ls : List FileLeaf) (n : ℕ) (F : List Leaf) (is : List ℕ) → n ≡ length ls → list_all (is_whole_group n) gs ≡ true → map (λ l. place_of l ls) F ≡ map (λ i. Some i) is
    → list_all (λ i. list_all (λ g. is_some (chunk_of i g)) gs) is ≡ true
chunks_there gs ls n [] [] e w h = refl
chunks_there gs ls n [] (i ∷ is) e w h = cc
chunks_there gs ls n (l ∷ F) [] e w h = cc
chunks_there gs ls n (l ∷ F) (i ∷ is) e w h =
    let p : place_of l ls ≡ Some i = cc in
    let t : map (λ k. place_of k ls) F ≡ map (λ j. Some j) is = cc in
    let v : i < length ls = place_within l ls i p in
    ap₂ (λ x y. x && y) (chunk_there gs n i (omega arith) w) (chunks_there gs ls n F is e w t)

-- ---- causes

-- a leaf has no source
pub schema_cause : (place : ℕ) (m : FileMeta) (s : FileSchema) (n : ℕ) (F : List Leaf) → file_schema m.schema ≡ Some s → n ≡ length (file_leaves s.fields) → list_all (is_whole_group n) m.groups ≡ true
    → list_all (λ l. has_source (source_in_file l (file_schema m.schema))) F ≡ false → footer_cause F (footer_with place m) ≡ Some bad_schema
schema_cause place m s n F e l w h =
    let u : has_leaves (the_footer place m s) F ≡ false = sym (ap (λ o. list_all (λ k. has_source (source_in_file k o)) F) e) ∙ h in
    ap (footer_cause F) (footer_there place m s n e l w) ∙ rw u refl

-- the footer shows no cause, by the sources of the leaves
pub opened_by_sources : (place : ℕ) (m : FileMeta) (s : FileSchema) (n : ℕ) (F : List Leaf) (ss : List LeafSource) (fs : List ShownField) → file_schema m.schema ≡ Some s → n ≡ length (file_leaves s.fields)
    → list_all (is_whole_group n) m.groups ≡ true → AreSources (file_schema m.schema) F ss
    → are_uncompressed_at m.groups (places_read ss) ≡ true → are_numbers_at m.groups m.rows (places_read ss) ≡ true → fs ≡ shown_by_each m.groups F ss → IsOpenedAs (footer_with place m) F m.rows fs
opened_by_sources place m s n F ss fs e l w h u v d =
    let f = the_footer place m s in
    let a : AreSources (Some s) F ss = sources_there (file_schema m.schema) s F ss e h in
    let t : map (leaf_place f) (leaves_read f F) ≡ map (λ i. Some i) (places_read ss) = read_places s F ss a in
    (f, footer_there place m s n e l w, all_sourced s F ss a, codecs_at f (leaves_read f F) (places_read ss) t ∙ u, numbers_at f F (places_read ss) t ∙ v, refl, shown_by_sources f F ss a ∙ sym d)

-- the cause that the footer shows, by the sources of the leaves
pub fault_by_sources : (fault : OpenFault) (place : ℕ) (m : FileMeta) (s : FileSchema) (n : ℕ) (F : List Leaf) (ss : List LeafSource) → file_schema m.schema ≡ Some s → n ≡ length (file_leaves s.fields)
    → list_all (is_whole_group n) m.groups ≡ true → AreSources (file_schema m.schema) F ss
    → IsPlacesFault fault (are_uncompressed_at m.groups (places_read ss)) (are_numbers_at m.groups m.rows (places_read ss)) → IsOpenFault fault (footer_cause F (footer_with place m))
fault_by_sources OpenFault.NoMemory place m s n F ss e l w h p = tt
fault_by_sources OpenFault.Failed place m s n F ss e l w h p = p
fault_by_sources OpenFault.BadFooter place m s n F ss e l w h p = elim p [ ]
fault_by_sources OpenFault.BadSchema place m s n F ss e l w h p = elim p [ ]
fault_by_sources OpenFault.BadCodec place m s n F ss e l w h p =
    let f = the_footer place m s in
    let b : AreSources (Some s) F ss = sources_there (file_schema m.schema) s F ss e h in
    let t : map (leaf_place f) (leaves_read f F) ≡ map (λ i. Some i) (places_read ss) = read_places s F ss b in
    let a : has_leaves f F ≡ true = all_sourced s F ss b in
    let u : are_uncompressed f (leaves_read f F) ≡ false = codecs_at f (leaves_read f F) (places_read ss) t ∙ p in
    ap (footer_cause F) (footer_there place m s n e l w) ∙ rw a (rw u refl)
fault_by_sources OpenFault.BadData place m s n F ss e l w h p =
    let f = the_footer place m s in
    let b : AreSources (Some s) F ss = sources_there (file_schema m.schema) s F ss e h in
    let t : map (leaf_place f) (leaves_read f F) ≡ map (λ i. Some i) (places_read ss) = read_places s F ss b in
    let a : has_leaves f F ≡ true = all_sourced s F ss b in
    let u : are_uncompressed f (leaves_read f F) ≡ true = codecs_at f (leaves_read f F) (places_read ss) t ∙ p.0 in
    let v : has_numbers F f ≡ false = numbers_at f F (places_read ss) t ∙ p.1 in
    ap (footer_cause F) (footer_there place m s n e l w) ∙ rw a (rw u (rw v refl))

-- ---- results

pub ok_both : {X T E : Type 0} (r : Result T E) (see : T → X) (x y : X) (B : Type 0) (C : T → Type 0) → x ≡ y → IfOk r (λ v. see v ≡ x) → OnOk r B → ((v : T) → see v ≡ y → B → C v) → IfOk r C
ok_both (Ok v) see x y B C e a b f = f v (a ∙ e) b
ok_both (Err e′) see x y B C e a b f = tt

pub err_by : {T E : Type 0} (r : Result T E) (A C : E → Type 0) → IfErr r A → ((e : E) → A e → C e) → IfErr r C
err_by (Ok v) A C a f = tt
err_by (Err e) A C a f = f e a
