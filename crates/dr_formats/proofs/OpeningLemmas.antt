-- Causes at opening and of one leaf alone; ranges that lie in the file.
use Rattle.std.proofs.Common.{◌≡◌, ◌≤◌, ℕ, ◌+◌, ◌-◌, List, [], ◌∷◌, ◌++◌, length, take, drop, Bool, true, false, ◌&&◌, refl, sym, ap, ◌∙◌, subst, Option, Some, None, true≢false, arith}
use Rattle.std.specs.Prelude.{if◌then◌else◌, nat_le, bytes_eq, option_and_then}
use Rattle.std.specs.List.{list_all, flat_map, slice_get}
use Rattle.std.proofs.lemmas.Bool.{and_parts, and_from, leb-true, le-leb}
use Rattle.dr_meaning.specs.Schema.{Schema}
use Rattle.dr_meaning.specs.Path.{Leaf, leaves}
use Rattle.dr_meaning.specs.Record.{Node}
use Rattle.dr_meaning.specs.Column.{Triplet, column}
use Rattle.dr_meaning.specs.OneColumn.{is_column, HaveColumn}
use Rattle.dr_meaning.proofs.OneColumnLemmas.{columns_recognized}
use Rattle.dr_formats.specs.Metadata.{ColumnMeta, RowGroup, FileMeta}
use Rattle.dr_formats.specs.FileSchema.{FileSchema, file_schema, file_leaves}
use Rattle.dr_formats.specs.Chunk.{chunk_start}
use Rattle.dr_formats.specs.File.{magic, Footer, footer_of, footer_length, footer_place, is_framed, footer_meta, with_schema, is_whole_group, leaf_chunk, has_leaves, are_uncompressed, rows_agree, values_fit, leaves_read, given_column, IsDataOf, IsFileOf, FileCause, bad_footer, bad_schema, bad_codec, bad_data, HasCause, cause_by}
use Rattle.dr_formats.specs.Opening.{has_numbers, has_column, has_leaf_column, leaf_cause, Range, range, end_ranges, footer_ranges, chunk_range, leaf_ranges, chunk_ranges, is_in_file, OpeningCauseHolds, LeafCauseIsExact, NoLeafCauseIsFile, NoFileHasCause, RangesAreInFile}

-- ---- causes by a test of data

some_cause : (x y : FileCause) → Some x ≡ Some y → x ≡ y
some_cause x y g = cc

none_some : (y : FileCause) → None ≡ Some y → ⊥
none_some y g = cc

some_none : (y : FileCause) → Some y ≡ None → ⊥
some_none y g = cc

-- where the data that fails the test is that of no records, what the test tells holds
module _ (bytes : List ℕ) (s : Schema) (F : List Leaf) (good : Footer → Bool) (fails : (f : Footer) → good f ≡ false → (R : List Node) → IsDataOf bytes f s F R → ⊥) where
  abbrev by : Bool → Bool → Bool → Option FileCause
  by a b c = if a then (if b then (if c then None else Some bad_data) else Some bad_codec) else Some bad_schema

  by_tests : (f : Footer) (a b c : Bool) → has_leaves f F ≡ a → are_uncompressed f (leaves_read f F) ≡ b → good f ≡ c → footer_of bytes ≡ Some f → (d : FileCause) → by a b c ≡ Some d → HasCause bytes s F d
  by_tests f false b c ha hb hc e d h = subst (HasCause bytes s F) (some_cause bad_schema d h) (f, e, ha)
  by_tests f true false c ha hb hc e d h = subst (HasCause bytes s F) (some_cause bad_codec d h) (f, e, ha, hb)
  by_tests f true true false ha hb hc e d h = subst (HasCause bytes s F) (some_cause bad_data d h) (f, e, ha, hb, fails f hc)
  by_tests f true true true ha hb hc e d h = absurd (none_some d h)

  by_footer : (o : Option Footer) → footer_of bytes ≡ o → (c : FileCause) → cause_by good F o ≡ Some c → HasCause bytes s F c
  by_footer None e c h = subst (HasCause bytes s F) (some_cause bad_footer c h) e
  by_footer (Some f) e c h = by_tests f (has_leaves f F) (are_uncompressed f (leaves_read f F)) (good f) refl refl refl e c h

numbers_fail : (bytes : List ℕ) (s : Schema) (F : List Leaf) (f : Footer) → has_numbers F f ≡ false → (R : List Node) → IsDataOf bytes f s F R → ⊥
numbers_fail bytes s F f h R d = true≢false (sym (and_from _ _ d.0 d.1) ∙ h)

pub opening_cause_holds : OpeningCauseHolds
opening_cause_holds bytes s F c h = by_footer bytes s F (has_numbers F) (numbers_fail bytes s F) (footer_of bytes) refl c h

-- ---- one leaf

first_same : (x y : Option (List Triplet)) → x ∷ [] ≡ y ∷ [] → x ≡ y
first_same x y e = cc

-- data of records passes the test of the leaf, and what passes it is data of records
data_passes : (bytes : List ℕ) (s : Schema) (i : ℕ) (l : Leaf) → slice_get (leaves s.fields) i ≡ Some l → (f : Footer) (R : List Node) → IsDataOf bytes f s (l ∷ []) R → has_leaf_column bytes l f ≡ true
data_passes bytes s i l k f R d =
    let e : given_column bytes f l ≡ Some (column l.path R) = first_same (given_column bytes f l) (Some (column l.path R)) d.4 in
    let c : is_column l f.meta.rows (column l.path R) ≡ true = (columns_recognized s.fields i l f.meta.rows (column l.path R) k).1 (R, d.3, d.2, refl) in
    and_from _ _ (and_from _ _ d.0 d.1) (ap (has_column l f.meta.rows) e ∙ c)

column_data : (bytes : List ℕ) (s : Schema) (i : ℕ) (l : Leaf) → slice_get (leaves s.fields) i ≡ Some l → (f : Footer) → has_numbers (l ∷ []) f ≡ true → (o : Option (List Triplet)) → given_column bytes f l ≡ o → has_column l f.meta.rows o ≡ true → (R : List Node) × IsDataOf bytes f s (l ∷ []) R
column_data bytes s i l k f n None e h = absurd (true≢false (sym h))
column_data bytes s i l k f n (Some ts) e h =
    let g : (rows_agree f ≡ true) × (values_fit f (leaves_read f (l ∷ [])) ≡ true) = and_parts _ _ n in
    let R : HaveColumn s.fields l f.meta.rows ts = (columns_recognized s.fields i l f.meta.rows ts k).0 h in
    (R.0, (g.0, g.1, R.2, R.1, ap (λ x. x ∷ []) (e ∙ ap Some (sym R.3))))

passes_data : (bytes : List ℕ) (s : Schema) (i : ℕ) (l : Leaf) → slice_get (leaves s.fields) i ≡ Some l → (f : Footer) → has_leaf_column bytes l f ≡ true → (R : List Node) × IsDataOf bytes f s (l ∷ []) R
passes_data bytes s i l k f h =
    let g : (has_numbers (l ∷ []) f ≡ true) × (has_column l f.meta.rows (given_column bytes f l) ≡ true) = and_parts (has_numbers (l ∷ []) f) (has_column l f.meta.rows (given_column bytes f l)) h in
    column_data bytes s i l k f g.0 (given_column bytes f l) refl g.1

leaf_fails : (bytes : List ℕ) (s : Schema) (i : ℕ) (l : Leaf) → slice_get (leaves s.fields) i ≡ Some l → (f : Footer) → has_leaf_column bytes l f ≡ false → (R : List Node) → IsDataOf bytes f s (l ∷ []) R → ⊥
leaf_fails bytes s i l k f h R d = true≢false (sym (data_passes bytes s i l k f R d) ∙ h)

-- a cause that holds is told
told_data : (bytes : List ℕ) (l : Leaf) (f : Footer) (b : Bool) → footer_of bytes ≡ Some f → has_leaves f (l ∷ []) ≡ true → are_uncompressed f (leaves_read f (l ∷ [])) ≡ true → has_leaf_column bytes l f ≡ b → (b ≡ true → ⊥) → leaf_cause bytes l ≡ Some bad_data
told_data bytes l f true e h k g n = absurd (n refl)
told_data bytes l f false e h k g n = rw (e, h, k, g) refl

told : (bytes : List ℕ) (s : Schema) (i : ℕ) (l : Leaf) → slice_get (leaves s.fields) i ≡ Some l → (c : FileCause) → HasCause bytes s (l ∷ []) c → leaf_cause bytes l ≡ Some c
told bytes s i l k bad_footer h = rw h refl
told bytes s i l k bad_schema h = rw (h.1, h.2) refl
told bytes s i l k bad_codec h = rw (h.1, h.2, h.3) refl
told bytes s i l k bad_data h = told_data bytes l h.0 (has_leaf_column bytes l h.0) h.1 h.2 h.3 refl (λ e. let R : (R : List Node) × IsDataOf bytes h.0 s (l ∷ []) R = passes_data bytes s i l k h.0 e in h.4 R.0 R.1)

pub leaf_cause_is_exact : LeafCauseIsExact
leaf_cause_is_exact bytes s i l c k = ((λ h. by_footer bytes s (l ∷ []) (has_leaf_column bytes l) (leaf_fails bytes s i l k) (footer_of bytes) refl c h), told bytes s i l k c)

file_of : (bytes : List ℕ) (s : Schema) (i : ℕ) (l : Leaf) → slice_get (leaves s.fields) i ≡ Some l → (f : Footer) (a b c : Bool) → has_leaves f (l ∷ []) ≡ a → are_uncompressed f (leaves_read f (l ∷ [])) ≡ b → has_leaf_column bytes l f ≡ c → footer_of bytes ≡ Some f
    → (if a then (if b then (if c then None else Some bad_data) else Some bad_codec) else Some bad_schema) ≡ None → (R : List Node) × IsFileOf bytes s (l ∷ []) R
file_of bytes s i l k f false b c ha hb hc e h = absurd (some_none bad_schema h)
file_of bytes s i l k f true false c ha hb hc e h = absurd (some_none bad_codec h)
file_of bytes s i l k f true true false ha hb hc e h = absurd (some_none bad_data h)
file_of bytes s i l k f true true true ha hb hc e h = let R : (R : List Node) × IsDataOf bytes f s (l ∷ []) R = passes_data bytes s i l k f hc in (R.0, (f, e, ha, hb, R.1))

file_of_footer : (bytes : List ℕ) (s : Schema) (i : ℕ) (l : Leaf) → slice_get (leaves s.fields) i ≡ Some l → (o : Option Footer) → footer_of bytes ≡ o → cause_by (has_leaf_column bytes l) (l ∷ []) o ≡ None → (R : List Node) × IsFileOf bytes s (l ∷ []) R
file_of_footer bytes s i l k None e h = absurd (some_none bad_footer h)
file_of_footer bytes s i l k (Some f) e h = file_of bytes s i l k f (has_leaves f (l ∷ [])) (are_uncompressed f (leaves_read f (l ∷ []))) (has_leaf_column bytes l f) refl refl refl e h

file_passes : (bytes : List ℕ) (s : Schema) (i : ℕ) (l : Leaf) → slice_get (leaves s.fields) i ≡ Some l → (R : List Node) → IsFileOf bytes s (l ∷ []) R → leaf_cause bytes l ≡ None
file_passes bytes s i l k R h = rw (h.1, h.2, h.3, data_passes bytes s i l k h.0 R h.4) refl

pub no_leaf_cause_is_file : NoLeafCauseIsFile
no_leaf_cause_is_file bytes s i l k = (file_of_footer bytes s i l k (footer_of bytes) refl, λ R. file_passes bytes s i l k R.0 R.1)

-- ---- no file of any records

no_file_tests : (bytes : List ℕ) (s : Schema) (F : List Leaf) → ((R : List Node) → IsFileOf bytes s F R → ⊥) → (f : Footer) → footer_of bytes ≡ Some f → (a b : Bool) → has_leaves f F ≡ a → are_uncompressed f (leaves_read f F) ≡ b → (c : FileCause) × HasCause bytes s F c
no_file_tests bytes s F n f e false b ha hb = (bad_schema, (f, e, ha))
no_file_tests bytes s F n f e true false ha hb = (bad_codec, (f, e, ha, hb))
no_file_tests bytes s F n f e true true ha hb = (bad_data, (f, e, ha, hb, λ R d. n R (f, e, ha, hb, d)))

no_file_footer : (bytes : List ℕ) (s : Schema) (F : List Leaf) → ((R : List Node) → IsFileOf bytes s F R → ⊥) → (o : Option Footer) → footer_of bytes ≡ o → (c : FileCause) × HasCause bytes s F c
no_file_footer bytes s F n None e = (bad_footer, e)
no_file_footer bytes s F n (Some f) e = no_file_tests bytes s F n f e (has_leaves f F) (are_uncompressed f (leaves_read f F)) refl refl

pub no_file_has_cause : NoFileHasCause
no_file_has_cause bytes s F n = no_file_footer bytes s F n (footer_of bytes) refl

-- ---- ranges

and_all : (p : Range → Bool) (xs ys : List Range) → list_all p xs ≡ true → list_all p ys ≡ true → list_all p (xs ++ ys) ≡ true
and_all p [] ys h g = g
and_all p (x ∷ xs) ys h g = let k : (p x ≡ true) × (list_all p xs ≡ true) = and_parts _ _ h in and_from _ _ k.0 (and_all p xs ys k.1 g)

all_of_flat : {A : Type 0} → (p : Range → Bool) (f : A → List Range) (xs : List A) → ((x : A) → list_all p (f x) ≡ true) → list_all p (flat_map f xs) ≡ true
all_of_flat p f [] h = refl
all_of_flat p f (x ∷ xs) h = and_all p (f x) (flat_map f xs) (h x) (all_of_flat p f xs h)

in_file : (bytes : List ℕ) (place size : ℕ) → place + size ≤ length bytes → list_all (is_in_file bytes) (range place size ∷ []) ≡ true
in_file bytes place size h = and_from _ _ (le-leb _ _ h) refl

ends_in_file : (bytes : List ℕ) (b : Bool) → nat_le 12 (length bytes) ≡ b → list_all (is_in_file bytes) (if b then range 0 4 ∷ range (length bytes - 8) 8 ∷ [] else []) ≡ true
ends_in_file bytes false e = refl
ends_in_file bytes true e =
    let h : 12 ≤ length bytes = leb-true 12 (length bytes) e in
    and_from _ _ (le-leb 4 (length bytes) (omega (arith, h))) (in_file bytes (length bytes - 8) 8 (omega (arith, h)))

footer_in_file : (bytes : List ℕ) (b : Bool) → is_framed bytes ≡ b → list_all (is_in_file bytes) (if b then range (footer_place bytes) (footer_length bytes) ∷ [] else []) ≡ true
footer_in_file bytes false e = refl
footer_in_file bytes true e =
    let h : footer_length bytes ≤ length bytes - 12 = leb-true _ _ (and_parts (nat_le 12 (length bytes) && bytes_eq (take 4 bytes) magic && bytes_eq (drop (length bytes - 4) bytes) magic) (nat_le (footer_length bytes) (length bytes - 12)) e).1 in
    in_file bytes (footer_place bytes) (footer_length bytes) (room (length bytes) (footer_length bytes) h)
  where
    room : (n k : ℕ) → k ≤ n - 12 → n - 8 - k + k ≤ n
    room n k h = omega (arith, h)

same_footer : (x y : Footer) → Some x ≡ Some y → x ≡ y
same_footer x y e = cc

no_footer_here : (f : Footer) → None ≡ Some f → ⊥
no_footer_here f e = cc

schema_place : (place : ℕ) (m : FileMeta) (s : FileSchema) (f : Footer) (b : Bool) → (if b then Some (record { place = place; meta = m; schema = s }) else None) ≡ Some f → f.place ≡ place
schema_place place m s f true h = ap (λ (g : Footer). g.place) (sym (same_footer (record { place = place; meta = m; schema = s }) f h))
schema_place place m s f false h = absurd (no_footer_here f h)

place_by_schema : (place : ℕ) (m : FileMeta) (o : Option FileSchema) (f : Footer) → option_and_then (with_schema place m) o ≡ Some f → f.place ≡ place
place_by_schema place m None f h = absurd (no_footer_here f h)
place_by_schema place m (Some s) f h = schema_place place m s f (list_all (is_whole_group (length (file_leaves s.fields))) m.groups) h

place_by_meta : (place : ℕ) (b : Bool) (o : Option FileMeta) (f : Footer) → (if b then option_and_then (λ (m : FileMeta). option_and_then (with_schema place m) (file_schema m.schema)) o else None) ≡ Some f → f.place ≡ place
place_by_meta place false o f h = absurd (no_footer_here f h)
place_by_meta place true None f h = absurd (no_footer_here f h)
place_by_meta place true (Some m) f h = place_by_schema place m (file_schema m.schema) f h

place_of_footer : (bytes : List ℕ) (f : Footer) → footer_of bytes ≡ Some f → f.place ≡ footer_place bytes
unfolding footer_of
place_of_footer bytes f h = place_by_meta (footer_place bytes) (is_framed bytes) (footer_meta bytes) f h

chunk_in_file : (bytes : List ℕ) (footer : ℕ) → footer ≤ length bytes → (o : Option ColumnMeta) → list_all (is_in_file bytes) (chunk_range footer o) ≡ true
chunk_in_file bytes footer h None = refl
chunk_in_file bytes footer h (Some m) = by_test (nat_le 4 (chunk_start m) && nat_le (chunk_start m + m.compressed_size) footer) refl
  where
    by_test : (b : Bool) → (nat_le 4 (chunk_start m) && nat_le (chunk_start m + m.compressed_size) footer) ≡ b → list_all (is_in_file bytes) (if b then range (chunk_start m) m.compressed_size ∷ [] else []) ≡ true
    by_test false e = refl
    by_test true e =
        let g : chunk_start m + m.compressed_size ≤ footer = leb-true (chunk_start m + m.compressed_size) footer (and_parts (nat_le 4 (chunk_start m)) (nat_le (chunk_start m + m.compressed_size) footer) e).1 in
        in_file bytes (chunk_start m) m.compressed_size (omega (arith, g, h))

chunks_in_file : (bytes : List ℕ) (F : List Leaf) (o : Option Footer) → footer_of bytes ≡ o → list_all (is_in_file bytes) (chunk_ranges F o) ≡ true
chunks_in_file bytes F None e = refl
chunks_in_file bytes F (Some f) e =
    let h : f.place ≤ length bytes = omega (arith, place_of_footer bytes f e) in
    all_of_flat (is_in_file bytes) (leaf_ranges f) (leaves_read f F) (λ l. all_of_flat (is_in_file bytes) (λ (g : RowGroup). chunk_range f.place (leaf_chunk f l g)) f.meta.groups (λ g. chunk_in_file bytes f.place h (leaf_chunk f l g)))

pub ranges_are_in_file : RangesAreInFile
ranges_are_in_file bytes F =
    and_all (is_in_file bytes) (end_ranges bytes) (footer_ranges bytes ++ chunk_ranges F (footer_of bytes)) (ends_in_file bytes (nat_le 12 (length bytes)) refl)
    (and_all (is_in_file bytes) (footer_ranges bytes) (chunk_ranges F (footer_of bytes)) (footer_in_file bytes (is_framed bytes) refl) (chunks_in_file bytes F (footer_of bytes) refl))
