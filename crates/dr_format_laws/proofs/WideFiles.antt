-- A file of records is a file of the same records under a wider schema.
use Rattle.std.proofs.Common.{◌≡◌, inl, inr, ℕ, zero, suc, List, [], ◌∷◌, ◌++◌, map, length, take, replicate, Bool, true, false, Option, Some, None, refl, sym, ap, ap₂, ◌∙◌, subst, true≢false}
use Rattle.std.specs.Prelude.{nat_le, if◌then◌else◌, option_map, option_and_then}
use Rattle.std.specs.List.{list_all, slice_get}
use Rattle.std.proofs.lemmas.Bool.{and_parts, and_from, false_from_ne_true}
use Rattle.std.proofs.lemmas.List.{length-map}
use Rattle.dr_meaning.specs.Schema.{Fields, group, Schema, is_shape, is_schema}
use Rattle.dr_meaning.specs.Path.{Step, Leaf, leaves, is_leaf_path, max_repetition, max_definition}
use Rattle.dr_meaning.specs.Record.{Node, is_record}
use Rattle.dr_meaning.specs.Column.{Triplet, triplet, column}
use Rattle.dr_meaning.specs.OneColumn.{is_column}
use Rattle.dr_meaning.proofs.OneColumnLemmas.{columns_recognized}
use Rattle.dr_formats.specs.FileSchema.{file_leaves, is_leaf_for, place_of}
use Rattle.dr_formats.specs.Lacking.{StandIn, Source, own_chunks, chunks_of, has_source, own_or, lacking_source, lacking_after, leaf_read, leaf_of_file, first_open, names_begin, outline}
use Rattle.dr_formats.specs.LackingLaws.{AreThere}
use Rattle.dr_formats.specs.File.{Footer, footer_of, leaf_source, has_leaves, leaves_read, leaf_chunk, is_uncompressed, are_uncompressed, total, chunk_values, most_triplets, values_fit, rows_agree, file_column, given_column, column_by, lacking_column, AreColumns, IsDataOf, IsFileOf}
use Rattle.dr_formats.specs.Writing.{file_bytes}
use Rattle.dr_formats.specs.WritingLaws.{nth_leaf, AreAmong}
use Rattle.dr_formats.specs.OpenSchemaLaws.{file_leaf_of}
use Rattle.dr_formats.specs.Widening.{widened}
use Rattle.dr_formats.proofs.LackingLemmas.{nothing_lacking, absent_is_outline, absent_is_null}
use Rattle.dr_formats.proofs.SchemaBack.{file_fields_of, file_leaves_back, leaf_found}
use Rattle.dr_formats.proofs.FileBack.{Limits, limits, the_footer, footer_there, written_file_is_file}
use Rattle.dr_formats.proofs.ColumnsFit.{EachLeaf}
use Rattle.dr_formats.proofs.ColumnRows.{leaf_paths}
use Rattle.dr_format_laws.specs.WideningLaws.{AreWider, widened_records, AreFields, FileIsOfWidened, WrittenFileIsOfWidened}
use Rattle.dr_format_laws.proofs.FieldsAlike.{file_leaves_alike, lacking_alike, written_fields}
use Rattle.dr_format_laws.proofs.WideFields.{all_placed, widened_are_records}
use Rattle.dr_format_laws.proofs.WideColumns.{Leads, LeadsTo, fields_lead, each_nth, leaf_leads, columns_kept}
use Rattle.dr_format_laws.proofs.WideLacking.{any_nth, AnyLeaf, leaf_of, lead_in, Lacks, IsThere, ThereOrLacking, there_or_lacking, lacks_not_leads, lacking_found, Begins, begins_in, Absent, absent, are_absent, leads_on, front_same}
use Rattle.dr_format_laws.proofs.SameLeaves.{SameLeaf, same_column, same_place, same_plain, same_total, same_file_column, for_has_names, file_same, same_itself}

-- ---- leaves at a place

at_slice : (ls : List Leaf) (i : ℕ) (l : Leaf) → nth_leaf ls i ≡ Some l → slice_get ls i ≡ Some l
at_slice [] i l e = e
at_slice (m ∷ ls) zero l e = e
at_slice (m ∷ ls) (suc i) l e = at_slice ls i l e

-- the columns of records pass for their leaf
column_passes : (fs : Fields) (i : ℕ) (l : Leaf) (R : List Node) → nth_leaf (leaves fs) i ≡ Some l → list_all (is_record fs) R ≡ true → is_column l (length R) (column l.path R) ≡ true
column_passes fs i l R e v = (columns_recognized fs i l (length R) (column l.path R) (at_slice (leaves fs) i l e)).1 (R, v, refl, refl)

among_from : (ls F : List Leaf) → ((i : ℕ) (l : Leaf) → nth_leaf F i ≡ Some l → (j : ℕ) × (nth_leaf ls j ≡ Some l)) → AreAmong ls F
among_from ls [] h = tt
among_from ls (l ∷ F) h = (h 0 l refl, among_from ls F (λ i m e. h (suc i) m e))

all_among : (ls : List Leaf) → AreAmong ls ls
all_among ls = among_from ls ls (λ i l e. (i, e))

-- ---- what a file has of each leaf of its schema

abbrev Plain : Footer → Leaf → Type 0
Plain f l = list_all (λ g. is_uncompressed (leaf_chunk f l g)) f.meta.groups ≡ true

abbrev Few : Footer → Leaf → Type 0
Few f l = nat_le (total (λ g. chunk_values (leaf_chunk f l g)) f.meta.groups) most_triplets ≡ true

-- its chunks are plain and not too many, and have its column
abbrev Has : List ℕ → Footer → List Node → Leaf → Type 0
Has bytes f R l = Plain f l × Few f l × (file_column bytes f l ≡ Some (column l.path R))

same_has : (bytes : List ℕ) (f : Footer) (R : List Node) (l m : Leaf) → SameLeaf l m → Has bytes f R m → Plain f l × Few f l × (file_column bytes f l ≡ Some (column m.path R))
same_has bytes f R l m s h =
    (same_plain l m s f f.meta.groups ∙ h.0, ap (λ n. nat_le n most_triplets) (same_total l m s f f.meta.groups) ∙ h.1, same_file_column l m s bytes f ∙ h.2)

first_same : (x y : Option (List Triplet)) (xs ys : List (Option (List Triplet))) → x ∷ xs ≡ y ∷ ys → (x ≡ y) × (xs ≡ ys)
first_same x y xs ys e = (cc, cc)

each_has : (bytes : List ℕ) (f : Footer) (R : List Node) (ls : List Leaf) → are_uncompressed f ls ≡ true → values_fit f ls ≡ true → map (file_column bytes f) ls ≡ map (λ (l : Leaf). Some (column l.path R)) ls → EachLeaf (Has bytes f R) ls
each_has bytes f R [] a b c = tt
each_has bytes f R (l ∷ ls) a b c =
    let p : Plain f l × (are_uncompressed f ls ≡ true) = and_parts _ _ a in
    let q : Few f l × (values_fit f ls ≡ true) = and_parts _ _ b in
    let r = first_same (file_column bytes f l) (Some (column l.path R)) (map (file_column bytes f) ls) (map (λ (m : Leaf). Some (column m.path R)) ls) c in
    ((p.0, q.0, r.0), each_has bytes f R ls p.1 q.1 r.1)

all_there : (f : Footer) (ls : List Leaf) → ((i : ℕ) (l : Leaf) → nth_leaf ls i ≡ Some l → leaf_source f l ≡ Some own_chunks) → AreThere f ls
all_there f [] h = tt
all_there f (l ∷ ls) h = (h 0 l refl, all_there f ls (λ i m e. h (suc i) m e))

-- in the file's fields the same is lacking as in the schema's, and its leaves are those of the schema
abbrev FieldsOf : Footer → Schema → Type 0
FieldsOf f s = ((ns : List (List ℕ)) (q : List Step) → lacking_after ns q f.schema.fields ≡ lacking_after ns q (file_fields_of s.fields)) × (file_leaves f.schema.fields ≡ map file_leaf_of (leaves s.fields))

fields_of_file : (f : Footer) (s : Schema) → Limits s → AreFields f.schema.fields s.fields → FieldsOf f s
fields_of_file f s k h = (λ ns q. lacking_alike ns q f.schema.fields s.fields h, file_leaves_alike f.schema.fields s.fields h ∙ file_leaves_back s.fields k.1 k.2)

-- a leaf like one of the schema has its own chunks
own_source : (f : Footer) (s : Schema) (i : ℕ) (l m : Leaf) → Limits s → FieldsOf f s → nth_leaf (leaves s.fields) i ≡ Some m → SameLeaf l m → leaf_source f l ≡ Some own_chunks
own_source f s i l m k h e w =
    let p : place_of l (file_leaves f.schema.fields) ≡ Some i = same_place l m w (file_leaves f.schema.fields) ∙ ap (place_of m) h.1 ∙ leaf_found s.fields i m k.1 e in
    rw p refl

-- what is known of a file of records with the fields of their schema
abbrev Known : List ℕ → Footer → Schema → List Node → Type 0
Known bytes f s R = (rows_agree f ≡ true) × (length R ≡ f.meta.rows) × (list_all (is_record s.fields) R ≡ true) × EachLeaf (Has bytes f R) (leaves s.fields)

known_of_footer : (bytes : List ℕ) (f : Footer) (s : Schema) (R : List Node) → Limits s → FieldsOf f s → are_uncompressed f (leaves_read f (leaves s.fields)) ≡ true → IsDataOf bytes f s (leaves s.fields) R → Known bytes f s R
known_of_footer bytes f s R k h a d =
    let n = nothing_lacking bytes f (leaves s.fields) (all_there f (leaves s.fields) (λ i l e. own_source f s i l l k h e (refl, same_itself l.path, refl))) in
    (d.0, d.2, d.3, each_has bytes f R (leaves s.fields) (ap (are_uncompressed f) (sym n.0) ∙ a) (ap (values_fit f) (sym n.0) ∙ d.1) (sym n.1 ∙ d.4))

same_footer : (f g : Footer) → Some f ≡ Some g → f ≡ g
same_footer f g e = cc

known_of_file : (bytes : List ℕ) (f : Footer) (s : Schema) (R : List Node) → Limits s → FieldsOf f s → footer_of bytes ≡ Some f → IsFileOf bytes s (leaves s.fields) R → Known bytes f s R
known_of_file bytes f s R k h e x =
    let q : x.0 ≡ f = same_footer x.0 f (sym x.1 ∙ e) in
    known_of_footer bytes f s R k h (subst (λ (y : Footer). are_uncompressed y (leaves_read y (leaves s.fields)) ≡ true) q x.3) (subst (λ (y : Footer). IsDataOf bytes y s (leaves s.fields) R) q x.4)

-- ---- what it has of a leaf of the wider schema

-- a source; what is read by it, plain and not too much; and the column
abbrev Gives : List ℕ → Footer → List Node → Leaf → Type 0
Gives bytes f R l = (has_source (leaf_source f l) ≡ true) × (are_uncompressed f (leaf_read l (leaf_source f l)) ≡ true) × (values_fit f (leaf_read l (leaf_source f l)) ≡ true)
    × (given_column bytes f l ≡ Some (column l.path R))

abbrev GivesBy : List ℕ → Footer → List Node → Leaf → Option Source → Type 0
GivesBy bytes f R l o = (has_source o ≡ true) × (are_uncompressed f (leaf_read l o) ≡ true) × (values_fit f (leaf_read l o) ≡ true) × (column_by bytes f l o ≡ Some (column l.path R))

-- with a leaf of the wider schema
abbrev At : Schema → ℕ → Leaf → Type 0
At w j l = nth_leaf (leaves w.fields) j ≡ Some l

by_own : (bytes : List ℕ) (f : Footer) (R Q : List Node) (l m : Leaf) → SameLeaf l m → Has bytes f R m → column l.path Q ≡ column m.path R → GivesBy bytes f Q l (Some own_chunks)
by_own bytes f R Q l m s h c = let p = same_has bytes f R l m s h in (refl, and_from _ _ p.0 refl, and_from _ _ p.1 refl, p.2 ∙ ap Some (sym c))

-- a leaf that is there
there_gives : (bytes : List ℕ) (f : Footer) (s w : Schema) (j : ℕ) (l : Leaf) (R : List Node) → AreWider s w → FieldsOf f s → Known bytes f s R → At w j l → IsThere (group s.fields) l.names l.path l.kind → Gives bytes f (widened_records s w R) l
there_gives bytes f s w j l R h g k e t =
    let a : Limits s = limits s h.0 in
    let b : Limits w = limits w h.1 in
    let m = any_nth (λ x. x ≡ leaf_of l.names t.0 l.kind) (leaves s.fields) (lead_in (group s.fields) l.names t.0 l.kind t.1) in
    let i : nth_leaf (leaves s.fields) m.0 ≡ Some (leaf_of l.names t.0 l.kind) = m.2 ∙ ap Some m.3 in
    let q : SameLeaf l (leaf_of l.names t.0 l.kind) = (refl, t.2, refl) in
    let c : column l.path (widened_records s w R) ≡ column t.0 R = columns_kept s.fields w.fields l.names t.0 l.path l.kind l.kind R h.2 t.1 (leaf_leads w.fields j l b.1 e) in
    subst (GivesBy bytes f (widened_records s w R) l) (sym (own_source f s m.0 l (leaf_of l.names t.0 l.kind) a g i q))
    (by_own bytes f R (widened_records s w R) l (leaf_of l.names t.0 l.kind) q (each_nth (Has bytes f R) (leaves s.fields) m.0 (leaf_of l.names t.0 l.kind) k.3 i) c)

-- ---- a leaf that is lacking

whole_shape : (s : Schema) → is_schema s ≡ true → is_shape (group s.fields) ≡ true
whole_shape s h = (and_parts _ _ (and_parts _ _ (and_parts _ _ h).0).0).1

place_none : (l : Leaf) (ls : List Leaf) → EachLeaf (λ m. is_leaf_for l (file_leaf_of m) ≡ false) ls → place_of l (map file_leaf_of ls) ≡ None
place_none l [] h = refl
place_none l (m ∷ ls) h = rw (h.0, place_none l ls h.1) refl

each_other : (P Q : Leaf → Type 0) → ((l : Leaf) → P l → Q l) → (ls : List Leaf) → EachLeaf P ls → EachLeaf Q ls
each_other P Q f [] h = tt
each_other P Q f (l ∷ ls) h = (f l h.0, each_other P Q f ls h.1)

not_there : (s : Schema) (l : Leaf) (k : ℕ) → Limits s → Lacks (group s.fields) l.names l.path k → place_of l (map file_leaf_of (leaves s.fields)) ≡ None
not_there s l k a h =
    place_none l (leaves s.fields) (each_other (LeadsTo (group s.fields)) (λ m. is_leaf_for l (file_leaf_of m) ≡ false)
    (λ m g. false_from_ne_true (is_leaf_for l (file_leaf_of m)) (λ e. lacks_not_leads (group s.fields) l.names l.path m.path k m.kind h (subst (λ (ns : List (List ℕ)). Leads (group s.fields) ns m.path m.kind) (sym (for_has_names l (file_leaf_of m) e)) g)))
    (leaves s.fields) (fields_lead s.fields s.fields 0 (all_placed s.fields a.1) a.1))

-- its source is that of where it is lacking
lacking_is : (f : Footer) (s : Schema) (l : Leaf) (k : ℕ) → Limits s → FieldsOf f s → Lacks (group s.fields) l.names l.path k → leaf_source f l ≡ lacking_source f.schema l k
lacking_is f s l k a g h =
    let p : place_of l (file_leaves f.schema.fields) ≡ None = ap (place_of l) g.1 ∙ not_there s l k a h in
    let q : lacking_after l.names l.path f.schema.fields ≡ Some k = g.0 l.names l.path ∙ lacking_found s.fields l.names l.path k h in
    ap₂ own_or p (ap (option_and_then (lacking_source f.schema l)) q)

-- lacking in the record
root_gives : (bytes : List ℕ) (f : Footer) (s w : Schema) (j : ℕ) (l : Leaf) (R : List Node) → AreWider s w → FieldsOf f s → Known bytes f s R → At w j l → Lacks (group s.fields) l.names l.path 0 → Gives bytes f (widened_records s w R) l
root_gives bytes f s w j l R h g k e t =
    let a : Limits s = limits s h.0 in
    let b : Limits w = limits w h.1 in
    let Q : List Node = widened_records s w R in
    let x : Absent (group s.fields) (group w.fields) l.path 0 = absent (group s.fields) (group w.fields) l.names l.path 0 l.kind t (leaf_leads w.fields j l b.1 e) in
    let n : length Q ≡ f.meta.rows = length-map R (widened s.fields w.fields) ∙ k.1 in
    let c : column l.path Q ≡ replicate f.meta.rows (triplet 0 0 None) =
    ap (λ p. column p Q) x.2 ∙ absent_is_null x.0 x.1 Q (are_absent s.fields w.fields [] x.0.place R x.3) ∙ ap (λ m. replicate m (triplet 0 0 None)) n in
    subst (GivesBy bytes f Q l) (sym (lacking_is f s l 0 a g t)) (refl, refl, refl, ap Some (sym c))

-- the first leaf of the file whose names begin with some
abbrev FirstOpen : List (List ℕ) → List Leaf → Type 0
FirstOpen ns ls = (i : ℕ) × (m : Leaf) × (nth_leaf ls i ≡ Some m) × Begins ns m × (first_open ns (map file_leaf_of ls) ≡ Some (leaf_of_file (file_leaf_of m) m.kind))

first_of : (ns : List (List ℕ)) (ls : List Leaf) → AnyLeaf (Begins ns) ls → FirstOpen ns ls
first_of ns [] h = absurd h
first_of ns (l ∷ ls) h = by_names (names_begin ns l.names) refl h (first_of ns ls)
  where
    later : FirstOpen ns ls → names_begin ns l.names ≡ false → FirstOpen ns (l ∷ ls)
    later q e = (suc q.0, q.1, q.2, q.3, rw e q.4)

    by_names : (b : Bool) → names_begin ns l.names ≡ b → AnyLeaf (Begins ns) (l ∷ ls) → (AnyLeaf (Begins ns) ls → FirstOpen ns ls) → FirstOpen ns (l ∷ ls)
    by_names true e h rest = (0, l, refl, e, rw e refl)
    by_names false e (inl h) rest = absurd (true≢false (sym h ∙ e))
    by_names false e (inr h) rest = later (rest h) e

-- the stand-in for a leaf, by the leaf of the schema that it is
abbrev the_stand_in : Leaf → ℕ → Leaf → StandIn
the_stand_in l k m = record { leaf = leaf_of_file (file_leaf_of m) m.kind; repetition = max_repetition (take k l.path); definition = max_definition (take k l.path) }

by_stand_in : (bytes : List ℕ) (f : Footer) (s : Schema) (R Q : List Node) (l m : Leaf) (k i : ℕ) → Known bytes f s R → nth_leaf (leaves s.fields) i ≡ Some m
    → column l.path Q ≡ outline (max_repetition (take k l.path)) (max_definition (take k l.path)) (column m.path R) → GivesBy bytes f Q l (Some (chunks_of (the_stand_in l k m)))
by_stand_in bytes f s R Q l m k i h e c =
    let x : Leaf = leaf_of_file (file_leaf_of m) m.kind in
    let p = same_has bytes f R x m (file_same m) (each_nth (Has bytes f R) (leaves s.fields) i m h.3 e) in
    let q : is_column x f.meta.rows (column m.path R) ≡ true =
    same_column x m (file_same m) f.meta.rows (column m.path R) ∙ ap (λ n. is_column m n (column m.path R)) (sym h.1) ∙ column_passes s.fields i m R e h.2 in
    let g : lacking_column (the_stand_in l k m) f.meta.rows (file_column bytes f x) ≡ Some (outline (max_repetition (take k l.path)) (max_definition (take k l.path)) (column m.path R)) =
    ap (lacking_column (the_stand_in l k m) f.meta.rows) p.2 ∙ ap (λ b. option_map (outline (max_repetition (take k l.path)) (max_definition (take k l.path))) (if b then Some (column m.path R) else None)) q in
    (refl, and_from _ _ p.0 refl, and_from _ _ p.1 refl, g ∙ ap Some (sym c))

-- the column of a lacking leaf is the outline of that of a leaf in the group
outline_there : (s w : Schema) (i j k : ℕ) (l m : Leaf) (R : List Node) → AreWider s w → list_all (is_record s.fields) R ≡ true → At w j l → nth_leaf (leaves s.fields) i ≡ Some m → Lacks (group s.fields) l.names l.path k → Begins (take k l.names) m
    → column l.path (widened_records s w R) ≡ outline (max_repetition (take k l.path)) (max_definition (take k l.path)) (column m.path R)
outline_there s w i j k l m R h v e g t n =
    let a : Limits s = limits s h.0 in
    let b : Limits w = limits w h.1 in
    let Q : List Node = widened_records s w R in
    let old : LeadsTo (group s.fields) m = leaf_leads s.fields i m a.1 g in
    let new : LeadsTo (group w.fields) l = leaf_leads w.fields j l b.1 e in
    let on = leads_on (group s.fields) (group w.fields) m.names m.path m.kind h.2 old in
    let y = any_nth (λ x. x ≡ leaf_of m.names on.0 on.1) (leaves w.fields) (lead_in (group w.fields) m.names on.0 on.1 on.2) in
    let z : is_leaf_path w.fields on.0 ≡ true = ap (λ (u : Leaf). is_leaf_path w.fields u.path) (sym y.3) ∙ each_nth (λ u. is_leaf_path w.fields u.path ≡ true) (leaves w.fields) y.0 y.1 (leaf_paths w.fields) y.2 in
    let front = front_same (group s.fields) (group w.fields) k l.names m.names l.path on.0 l.path l.kind on.1 t new on.2 n in
    let x : Absent (group s.fields) (group w.fields) l.path k = absent (group s.fields) (group w.fields) l.names l.path k l.kind t new in
    let c : column on.0 Q ≡ column m.path R = columns_kept s.fields w.fields m.names m.path on.0 m.kind on.1 R h.2 old on.2 in
    ap (λ p. column p Q) x.2
    ∙ absent_is_outline w.fields (take k l.path) x.0 x.1 front.0 Q (ap (is_leaf_path w.fields) (sym front.1) ∙ z) (widened_are_records s w R h v) (are_absent s.fields w.fields (take k l.path) x.0.place R x.3)
    ∙ ap (outline (max_repetition (take k l.path)) (max_definition (take k l.path))) (ap (λ p. column p Q) (sym front.1) ∙ c)

-- lacking in a group of it
group_gives : (bytes : List ℕ) (f : Footer) (s w : Schema) (j k : ℕ) (l : Leaf) (R : List Node) → AreWider s w → FieldsOf f s → Known bytes f s R → At w j l → Lacks (group s.fields) l.names l.path (suc k) → Gives bytes f (widened_records s w R) l
group_gives bytes f s w j k l R h g d e t =
    let a : Limits s = limits s h.0 in
    let o : FirstOpen (take (suc k) l.names) (leaves s.fields) = first_of (take (suc k) l.names) (leaves s.fields) (begins_in (group s.fields) l.names l.path (suc k) (whole_shape s h.0) t) in
    let q : first_open (take (suc k) l.names) (file_leaves f.schema.fields) ≡ Some (leaf_of_file (file_leaf_of o.1) o.1.kind) = ap (first_open (take (suc k) l.names)) g.1 ∙ o.4 in
    let y : leaf_source f l ≡ Some (chunks_of (the_stand_in l (suc k) o.1)) = lacking_is f s l (suc k) a g t ∙ rw q refl in
    subst (GivesBy bytes f (widened_records s w R) l) (sym y)
    (by_stand_in bytes f s R (widened_records s w R) l o.1 (suc k) o.0 d o.2 (outline_there s w o.0 j (suc k) l o.1 R h d.2 e o.2 t o.3))

-- ---- all leaves asked for

gives : (bytes : List ℕ) (f : Footer) (s w : Schema) (j : ℕ) (l : Leaf) (R : List Node) → AreWider s w → FieldsOf f s → Known bytes f s R → At w j l → ThereOrLacking (group s.fields) l.names l.path l.kind → Gives bytes f (widened_records s w R) l
gives bytes f s w j l R h g d e (inl t) = there_gives bytes f s w j l R h g d e t
gives bytes f s w j l R h g d e (inr (zero, t)) = root_gives bytes f s w j l R h g d e t
gives bytes f s w j l R h g d e (inr (suc k, t)) = group_gives bytes f s w j k l R h g d e t

each_gives : (bytes : List ℕ) (f : Footer) (s w : Schema) (F : List Leaf) (R : List Node) → AreWider s w → FieldsOf f s → Known bytes f s R → AreAmong (leaves w.fields) F → EachLeaf (Gives bytes f (widened_records s w R)) F
each_gives bytes f s w [] R h g d a = tt
each_gives bytes f s w (l ∷ F) R h g d a =
    let b : Limits w = limits w h.1 in
    (gives bytes f s w a.0.0 l R h g d a.0.1 (there_or_lacking (group s.fields) (group w.fields) l.names l.path l.kind h.2 (leaf_leads w.fields a.0.0 l b.1 a.0.1)), each_gives bytes f s w F R h g d a.1)

both_all : (p : Leaf → Bool) (xs ys : List Leaf) → list_all p xs ≡ true → list_all p ys ≡ true → list_all p (xs ++ ys) ≡ true
both_all p [] ys h g = g
both_all p (x ∷ xs) ys h g = let q : (p x ≡ true) × (list_all p xs ≡ true) = and_parts _ _ h in and_from _ _ q.0 (both_all p xs ys q.1 g)

abbrev GiveAll : List ℕ → Footer → List Leaf → List Node → Type 0
GiveAll bytes f F Q = (has_leaves f F ≡ true) × (are_uncompressed f (leaves_read f F) ≡ true) × (values_fit f (leaves_read f F) ≡ true) × AreColumns bytes f F Q

all_give : (bytes : List ℕ) (f : Footer) (F : List Leaf) (Q : List Node) → EachLeaf (Gives bytes f Q) F → GiveAll bytes f F Q
all_give bytes f [] Q h = (refl, refl, refl, refl)
all_give bytes f (l ∷ F) Q h =
    let r : GiveAll bytes f F Q = all_give bytes f F Q h.1 in
    let p = h.0 in (
      and_from _ _ p.0 r.0,
      both_all (λ m. list_all (λ g. is_uncompressed (leaf_chunk f m g)) f.meta.groups) (leaf_read l (leaf_source f l)) (leaves_read f F) p.1 r.1,
      both_all (λ m. nat_le (total (λ g. chunk_values (leaf_chunk f m g)) f.meta.groups) most_triplets) (leaf_read l (leaf_source f l)) (leaves_read f F) p.2 r.2,
      ap₂ (λ (x : Option (List Triplet)) (xs : List (Option (List Triplet))). x ∷ xs) p.3 r.3,
    )

pub file_is_of_widened : FileIsOfWidened
file_is_of_widened bytes f s w F R h e g x a =
    let k : Limits s = limits s h.0 in
    let fields : FieldsOf f s = fields_of_file f s k g in
    let d : Known bytes f s R = known_of_file bytes f s R k fields e x in
    let r : GiveAll bytes f F (widened_records s w R) = all_give bytes f F (widened_records s w R) (each_gives bytes f s w F R h fields d a) in
    (f, e, r.0, r.1, (d.0, r.2, length-map R (widened s.fields w.fields) ∙ d.1, widened_are_records s w R h d.2, r.3))

pub written_file_is_of_widened : WrittenFileIsOfWidened
written_file_is_of_widened form s w F R h x a =
    file_is_of_widened (file_bytes form s R) (the_footer form s R) s w F R h (footer_there form s R x) (written_fields s.fields) (written_file_is_file form s R (leaves s.fields) x (all_among (leaves s.fields))) a
