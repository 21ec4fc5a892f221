-- The column of a leaf is that of its chunks, one after another.
use Rattle.std.proofs.Common.{◌≡◌, ℕ, zero, suc, ◌+◌, ◌≤◌, List, [], ◌∷◌, ◌++◌, length, map, take, drop, get_or, Bool, true, false, refl, sym, ap, ap₂, ◌∙◌, subst, arith, true≢false, append-nil}
use Rattle.std.specs.Prelude.{Option, Some, None, nat_le, ◌==◌, ◌&&◌, if◌then◌else◌, option_map, option_and_then}
use Rattle.std.specs.List.{list_all, flat_map, slice_get}
use Rattle.std.proofs.lemmas.Bool.{and_parts, and_from, eqb-true, eq-eqb}
use Rattle.std.proofs.lemmas.List.{length-replicate}
use Rattle.std.proofs.lemmas.List.Folds.{list_all-append}
use Rattle.dr_meaning.specs.Path.{Step, Leaf, max_repetition, max_definition}
use Rattle.dr_meaning.specs.Column.{Triplet, triplet}
use Rattle.dr_meaning.specs.OneColumn.{starts, begins_record, fits_levels, may_follow, all_follow, is_in_order, is_column}
use Rattle.dr_meaning.proofs.ColumnStarts.{starts_append}
use Rattle.dr_formats.specs.Metadata.{ColumnMeta, RowGroup, FileMeta}
use Rattle.dr_formats.specs.FileSchema.{FileSchema, file_schema, file_leaves}
use Rattle.dr_formats.specs.Chunk.{chunk_start, chunk_triplets, pages_triplets}
use Rattle.dr_formats.specs.File.{Footer, footer_of, of_rows, leaf_chunk, leaf_source, leaves_read, group_column, groups_column, file_column, lacking_column, column_by, given_column, total, rows_agree, values_fit, most_rows, has_leaves, are_uncompressed, is_uncompressed, chunk_values, most_triplets, FileCause, bad_data, cause_by, is_framed, footer_place, footer_meta, with_schema, is_whole_group}
use Rattle.dr_formats.specs.Lacking.{StandIn, Source, own_chunks, no_chunks, chunks_of, has_source, leaf_read, outline}
use Rattle.dr_formats.specs.Opening.{has_numbers, has_column, has_leaf_column, leaf_cause, Range, chunk_range, leaf_ranges}
use Rattle.dr_outside.specs.Link.{Request}
use Rattle.dr_outside.specs.Telling.{AsksOnly}
use Rattle.dr_chunk.specs.Ranges.{is_read_inside}
use Rattle.dr_outside.specs.Faults.{raised}
use Rattle.dr_chunk.specs.declared.fault.ChunkFault.{ChunkFault}
use Rattle.dr_nested.specs.Views.{kind_view}
use Rattle.dr_levels.specs.Views.{LeafForm, form}
use Rattle.dr_open.proofs.StandsLemmas.{Stands, source_tells}
use Rattle.dr_file.specs.declared.opened_field.OpenedField.{OpenedField}
use Rattle.dr_file.specs.declared.opened_leaf.OpenedLeaf.{OpenedLeaf}
use Rattle.dr_file.specs.declared.opened.Opened.{Opened}
use Rattle.dr_file.specs.Openings.{ShownChunk, shown_chunk, chunk_place_view, ShownField, shown_from, shown_field, opened_field_view}
use Rattle.dr_file.specs.Fields.{ShownTelling, itself, nulls, outlined, telling_view, told}
use Rattle.dr_file.proofs.OutlineLemmas.{outline_is_column, outline_shorter, nulls_are_column}
use Rattle.dr_file.specs.ChunkPlaces.{all_values}
use Rattle.dr_file.specs.declared.chunk_place.ChunkPlace.{ChunkPlace}
use Rattle.dr_file.specs.Streams.{left_by, named_by, triplets_named}
use Rattle.dr_file.specs.OpenedFiles.{IsOpened, IsColumnOf, IsColumnFault, told_chunk_fault, is_link_fault, HasCounts}
use Rattle.dr_file.specs.LeafColumns.{shown_triplets, is_good_chunk, triplets_given, chunks_triplets, shown_range, IsShownLeaf}

-- ---- columns one after another

first_goes_on : (p : List Step) (t : Triplet) (ts us : List Triplet) → begins_record us ≡ true → all_follow p t (ts ++ us) ≡ (all_follow p t ts && is_in_order p us)
first_goes_on p t [] [] b = refl
first_goes_on p t [] (u ∷ us) b =
    let z : u.repetition ≡ 0 = eqb-true u.repetition 0 b in
    ap (λ k. may_follow p t.definition u.definition k && all_follow p u us) z ∙ sym (ap (λ x. x && all_follow p u us) b)
first_goes_on p t (x ∷ ts) us b =
    let m : Bool = may_follow p t.definition x.definition x.repetition in
    ap (λ y. m && y) (first_goes_on p x ts us b) ∙ and_assoc m (all_follow p x ts) (is_in_order p us)
  where
    and_assoc : (a b c : Bool) → (a && (b && c)) ≡ ((a && b) && c)
    and_assoc true b c = refl
    and_assoc false b c = refl

order_goes_on : (p : List Step) (ts us : List Triplet) → begins_record us ≡ true → is_in_order p (ts ++ us) ≡ (is_in_order p ts && is_in_order p us)
order_goes_on p [] us b = refl
order_goes_on p (t ∷ ts) us b = ap (λ y. (t.repetition == 0) && y) (first_goes_on p t ts us b) ∙ both (t.repetition == 0) (all_follow p t ts) (is_in_order p us)
  where
    both : (a b c : Bool) → (a && (b && c)) ≡ ((a && b) && c)
    both true b c = refl
    both false b c = refl

order_begins : (p : List Step) (ts : List Triplet) → is_in_order p ts ≡ true → begins_record ts ≡ true
order_begins p [] h = refl
order_begins p (t ∷ ts) h = (and_parts (t.repetition == 0) (all_follow p t ts) h).0

abbrev fits : Leaf → List Triplet → Bool
fits l ts = list_all (fits_levels l.kind (max_repetition l.path) (max_definition l.path)) ts

four : (a b c d : Bool) → ((a && b) && (c && d)) ≡ ((a && c) && (b && d))
four true b true d = refl
four true true false d = refl
four true false false d = refl
four false b c d = refl

-- two columns one after another are a column exactly if both are one
columns_join : (l : Leaf) (m n : ℕ) (ts us : List Triplet) → begins_record us ≡ true → starts ts ≡ m → starts us ≡ n → is_column l (m + n) (ts ++ us) ≡ (is_column l m ts && is_column l n us)
columns_join l m n ts us b e f =
    let s : starts (ts ++ us) ≡ m + n = starts_append ts us ∙ ap₂ (λ x y. x + y) e f in
    let a : (fits l (ts ++ us) && is_in_order l.path (ts ++ us)) ≡ ((fits l ts && is_in_order l.path ts) && (fits l us && is_in_order l.path us)) =
    ap₂ (λ x y. x && y) (list_all-append (fits_levels l.kind (max_repetition l.path) (max_definition l.path)) ts us) (order_goes_on l.path ts us b)
    ∙ four (fits l ts) (fits l us) (is_in_order l.path ts) (is_in_order l.path us) in
    counted (fits l (ts ++ us) && is_in_order l.path (ts ++ us)) (starts (ts ++ us) == m + n) (eq-eqb _ _ s)
    ∙ (a ∙ sym (ap₂ (λ x y. x && y) (counted (fits l ts && is_in_order l.path ts) (starts ts == m) (eq-eqb _ _ e)) (counted (fits l us && is_in_order l.path us) (starts us == n) (eq-eqb _ _ f))))
  where
    counted : (x c : Bool) → c ≡ true → (x && c) ≡ x
    counted true c h = h
    counted false c h = refl

-- ---- row groups

-- the triplets of a leaf's chunk in a row group
abbrev spelled : List ℕ → Footer → Leaf → RowGroup → Option (List Triplet)
spelled bytes f l g = option_and_then (chunk_triplets bytes f.place l) (leaf_chunk f l g)

abbrev good_group : List ℕ → Footer → Leaf → RowGroup → Bool
good_group bytes f l g = has_column l g.rows (spelled bytes f l g)

by_rows : (bytes : List ℕ) (f : Footer) (l : Leaf) (g : RowGroup) → group_column bytes f l g ≡ option_and_then (of_rows g.rows) (spelled bytes f l g)
by_rows bytes f l g = by (leaf_chunk f l g)
  where
    by : (o : Option ColumnMeta) → option_and_then (λ m. option_and_then (of_rows g.rows) (chunk_triplets bytes f.place l m)) o ≡ option_and_then (of_rows g.rows) (option_and_then (chunk_triplets bytes f.place l) o)
    by None = refl
    by (Some m) = refl

-- what row groups give
record Given (l : Leaf) (n : ℕ) (o : Option (List Triplet)) : Type 0 where
  begins : (ts : List Triplet) → o ≡ Some ts → begins_record ts ≡ true
  counts : (ts : List Triplet) → o ≡ Some ts → starts ts ≡ n

both_begin : (ts us : List Triplet) → begins_record ts ≡ true → begins_record us ≡ true → begins_record (ts ++ us) ≡ true
both_begin [] us a b = b
both_begin (t ∷ ts) us a b = a

no_column : (l : Leaf) (m : ℕ) (ts : List Triplet) → (begins_record ts && (starts ts == m)) ≡ false → is_column l m ts ≡ false
no_column l m ts h = by (fits l ts) (is_in_order l.path ts) refl (starts ts == m) h
  where
    by : (a b : Bool) → is_in_order l.path ts ≡ b → (c : Bool) → (begins_record ts && c) ≡ false → ((a && b) && c) ≡ false
    by false b e c k = refl
    by true false e c k = refl
    by true true e c k = sym (ap (λ x. x && c) (order_begins l.path ts e)) ∙ k

-- one row group more in front
abbrev with_front : ℕ → Option (List Triplet) → Option (List Triplet) → Option (List Triplet)
with_front m c o = option_and_then (λ ts. option_map (λ more. ts ++ more) o) (option_and_then (of_rows m) c)

record Joined (l : Leaf) (m n : ℕ) (c o : Option (List Triplet)) : Type 0 where
  given : Given l (m + n) (with_front m c o)
  passes : has_column l (m + n) (with_front m c o) ≡ (has_column l m c && has_column l n o)

no_triplets : (l : Leaf) (n : ℕ) → Given l n None
no_triplets l n = record { begins = λ ts e. absurd (cc); counts = λ ts e. absurd (cc) }

and_none : (a : Bool) → (a && false) ≡ false
and_none true = refl
and_none false = refl

join_by : (l : Leaf) (m n : ℕ) (ts : List Triplet) (o : Option (List Triplet)) → Given l n o → (b : Bool) → (begins_record ts && (starts ts == m)) ≡ b
    → (Given l (m + n) (option_and_then (λ xs. option_map (λ more. xs ++ more) o) (if b then Some ts else None)))
    × (has_column l (m + n) (option_and_then (λ xs. option_map (λ more. xs ++ more) o) (if b then Some ts else None)) ≡ (is_column l m ts && has_column l n o))
join_by l m n ts o w false h = (no_triplets l (m + n), sym (ap (λ x. x && has_column l n o) (no_column l m ts h)))
join_by l m n ts None w true h = (no_triplets l (m + n), sym (and_none (is_column l m ts)))
join_by l m n ts (Some us) w true h =
    let p = and_parts (begins_record ts) (starts ts == m) h in
    let e : starts ts ≡ m = eqb-true (starts ts) m p.1 in
    let b : begins_record us ≡ true = w.begins us refl in
    let f : starts us ≡ n = w.counts us refl in (
      record {
        begins = λ xs k. let q : ts ++ us ≡ xs = cc in sym (ap begins_record q) ∙ both_begin ts us p.0 b;
        counts = λ xs k. let q : ts ++ us ≡ xs = cc in sym (ap starts q) ∙ (starts_append ts us ∙ ap₂ (λ x y. x + y) e f);
      },
      columns_join l m n ts us b e f,
    )

joined : (l : Leaf) (m n : ℕ) (c o : Option (List Triplet)) → Given l n o → Joined l m n c o
joined l m n None o w = record { given = no_triplets l (m + n); passes = refl }
joined l m n (Some ts) o w = let r = join_by l m n ts o w (begins_record ts && (starts ts == m)) refl in record { given = r.0; passes = r.1 }

-- the row groups give a column exactly if each gives one
record Groups (bytes : List ℕ) (f : Footer) (l : Leaf) (gs : List RowGroup) : Type 0 where
  given : Given l (total (λ (g : RowGroup). g.rows) gs) (groups_column bytes f l gs)
  passes : has_column l (total (λ (g : RowGroup). g.rows) gs) (groups_column bytes f l gs) ≡ list_all (good_group bytes f l) gs

groups_join : (bytes : List ℕ) (f : Footer) (l : Leaf) (gs : List RowGroup) → Groups bytes f l gs
groups_join bytes f l [] = record { given = record { begins = λ ts e. let q : [] ≡ ts = cc in sym (ap begins_record q); counts = λ ts e. let q : [] ≡ ts = cc in sym (ap starts q) }; passes = refl }
groups_join bytes f l (g ∷ gs) =
    let n : ℕ = total (λ (k : RowGroup). k.rows) gs in
    let o : Option (List Triplet) = groups_column bytes f l gs in
    let r : Groups bytes f l gs = groups_join bytes f l gs in
    let e : groups_column bytes f l (g ∷ gs) ≡ with_front g.rows (spelled bytes f l g) o = ap (option_and_then (λ ts. option_map (λ more. ts ++ more) o)) (by_rows bytes f l g) in
    let j : Joined l g.rows n (spelled bytes f l g) o = joined l g.rows n (spelled bytes f l g) o r.given in
    record {
      given = subst (Given l (g.rows + n)) (sym e) j.given;
      passes = ap (has_column l (g.rows + n)) e ∙ (j.passes ∙ ap (λ x. good_group bytes f l g && x) r.passes);
    }

-- ---- chunks as they are shown

some_chunk : (x y : ShownChunk) → Some x ≡ Some y → x ≡ y
some_chunk x y e = cc

spelled_by : (bytes : List ℕ) (f : Footer) (l : Leaf) (c : ShownChunk) (n : ℕ) (o : Option ColumnMeta) → Some c ≡ option_map (shown_chunk n) o
    → (option_and_then (chunk_triplets bytes f.place l) o ≡ shown_triplets bytes f.place l c) × (n ≡ c.rows)
spelled_by bytes f l c n None e = absurd (cc)
spelled_by bytes f l c n (Some m) e =
    let q : c ≡ shown_chunk n m = some_chunk c (shown_chunk n m) e in
    (by (nat_le 4 (chunk_start m) && nat_le (chunk_start m + m.compressed_size) f.place) ∙ sym (ap (shown_triplets bytes f.place l) q), sym (ap (λ (x : ShownChunk). x.rows) q))
  where
    by : (b : Bool) → option_and_then (pages_triplets l m.values) (if b then Some (take m.compressed_size (drop (chunk_start m) bytes)) else None)
        ≡ (if b then pages_triplets l m.values (take m.compressed_size (drop (chunk_start m) bytes)) else None)
    by true = refl
    by false = refl

-- the chunks that are shown are those of the row groups
abbrev AreShown : Footer → Leaf → List RowGroup → List ShownChunk → Type 0
AreShown f l gs cs = map (λ c. Some c) cs ≡ map (λ (g : RowGroup). option_map (shown_chunk g.rows) (leaf_chunk f l g)) gs

good_group_is : (bytes : List ℕ) (f : Footer) (l : Leaf) (g : RowGroup) (c : ShownChunk) → Some c ≡ option_map (shown_chunk g.rows) (leaf_chunk f l g)
    → (good_group bytes f l g ≡ is_good_chunk bytes f.place l c) × (spelled bytes f l g ≡ shown_triplets bytes f.place l c)
good_group_is bytes f l g c e = let s = spelled_by bytes f l c g.rows (leaf_chunk f l g) e in (ap₂ (has_column l) s.1 s.0, s.0)

groups_shown : (bytes : List ℕ) (f : Footer) (l : Leaf) (gs : List RowGroup) (cs : List ShownChunk) → AreShown f l gs cs → list_all (good_group bytes f l) gs ≡ list_all (is_good_chunk bytes f.place l) cs
groups_shown bytes f l [] [] h = refl
groups_shown bytes f l [] (c ∷ cs) h = absurd (cc)
groups_shown bytes f l (g ∷ gs) [] h = absurd (cc)
groups_shown bytes f l (g ∷ gs) (c ∷ cs) h =
    let e : Some c ≡ option_map (shown_chunk g.rows) (leaf_chunk f l g) = cc in
    let t : AreShown f l gs cs = cc in
    ap₂ (λ x y. x && y) (good_group_is bytes f l g c e).0 (groups_shown bytes f l gs cs t)

-- triplets that pass are given
given_by : (l : Leaf) (m : ℕ) (c : Option (List Triplet)) → has_column l m c ≡ true → option_and_then (of_rows m) c ≡ Some (triplets_given c)
given_by l m None h = absurd (true≢false (sym h))
given_by l m (Some ts) h = kept (begins_record ts && (starts ts == m)) refl
  where
    kept : (b : Bool) → (begins_record ts && (starts ts == m)) ≡ b → (if b then Some ts else None) ≡ Some ts
    kept true e = refl
    kept false e = absurd (true≢false (sym h ∙ no_column l m ts e))

column_shown : (bytes : List ℕ) (f : Footer) (l : Leaf) (gs : List RowGroup) (cs : List ShownChunk) → AreShown f l gs cs → list_all (is_good_chunk bytes f.place l) cs ≡ true
    → groups_column bytes f l gs ≡ Some (chunks_triplets bytes f.place l cs)
column_shown bytes f l [] [] h k = refl
column_shown bytes f l [] (c ∷ cs) h k = absurd (cc)
column_shown bytes f l (g ∷ gs) [] h k = absurd (cc)
column_shown bytes f l (g ∷ gs) (c ∷ cs) h k =
    let e : Some c ≡ option_map (shown_chunk g.rows) (leaf_chunk f l g) = cc in
    let t : AreShown f l gs cs = cc in
    let p = and_parts (is_good_chunk bytes f.place l c) (list_all (is_good_chunk bytes f.place l) cs) k in
    let s = good_group_is bytes f l g c e in
    let a : option_and_then (of_rows g.rows) (spelled bytes f l g) ≡ Some (triplets_given (spelled bytes f l g)) = given_by l g.rows (spelled bytes f l g) (s.0 ∙ p.0) in
    ap (option_and_then (λ ts. option_map (λ more. ts ++ more) (groups_column bytes f l gs))) (by_rows bytes f l g ∙ (a ∙ ap (λ o. Some (triplets_given o)) s.1))
    ∙ ap (option_map (λ more. triplets_given (shown_triplets bytes f.place l c) ++ more)) (column_shown bytes f l gs cs t p.1)

-- ---- the leaf at an index

same_leaf : (l k : Leaf) → Some l ≡ Some k → l ≡ k
same_leaf l k e = cc

one_of : (p : Leaf → Bool) (F : List Leaf) (i : ℕ) (l : Leaf) → slice_get F i ≡ Some l → list_all p F ≡ true → list_all p (l ∷ []) ≡ true
one_of p [] i l e h = absurd (cc)
one_of p (k ∷ F) zero l e h = let q : k ≡ l = same_leaf k l e in ap (λ x. p x && true) (sym q) ∙ alone (p k) (and_parts (p k) (list_all p F) h).0
  where
    alone : (b : Bool) → b ≡ true → (b && true) ≡ true
    alone true g = refl
    alone false g = g
one_of p (k ∷ F) (suc i) l e h = one_of p F i l e (and_parts (p k) (list_all p F) h).1

-- the footer's tests of all leaves hold of one
record Opens (f : Footer) (l : Leaf) : Type 0 where
  leaf : has_leaves f (l ∷ []) ≡ true
  codec : are_uncompressed f (leaves_read f (l ∷ [])) ≡ true
  numbers : has_numbers (l ∷ []) f ≡ true

-- a test of all leaves that are read for some is one of those that are read for one of them
read_of : (f : Footer) (p : Leaf → Bool) (F : List Leaf) (i : ℕ) (l : Leaf) → slice_get F i ≡ Some l → list_all p (leaves_read f F) ≡ true → list_all p (leaves_read f (l ∷ [])) ≡ true
read_of f p [] i l e h = absurd (cc)
read_of f p (k ∷ F) zero l e h =
    let q : k ≡ l = same_leaf k l e in
    let a = and_parts (list_all p (leaf_read k (leaf_source f k))) (list_all p (leaves_read f F)) (sym (list_all-append p (leaf_read k (leaf_source f k)) (leaves_read f F)) ∙ h) in
    sym (ap (λ x. list_all p (leaves_read f (x ∷ []))) q) ∙ (list_all-append p (leaf_read k (leaf_source f k)) [] ∙ alone (list_all p (leaf_read k (leaf_source f k))) a.0)
  where
    alone : (b : Bool) → b ≡ true → (b && true) ≡ true
    alone true g = refl
    alone false g = g
read_of f p (k ∷ F) (suc i) l e h = read_of f p F i l e (and_parts (list_all p (leaf_read k (leaf_source f k))) (list_all p (leaves_read f F)) (sym (list_all-append p (leaf_read k (leaf_source f k)) (leaves_read f F)) ∙ h)).1

opens_one : (f : Footer) (F : List Leaf) (i : ℕ) (l : Leaf) → slice_get F i ≡ Some l → has_leaves f F ≡ true → are_uncompressed f (leaves_read f F) ≡ true → has_numbers F f ≡ true → Opens f l
opens_one f F i l e a b c =
    let p = and_parts (rows_agree f) (values_fit f (leaves_read f F)) c in
    record {
      leaf = one_of (λ k. has_source (leaf_source f k)) F i l e a;
      codec = read_of f (λ k. list_all (λ g. is_uncompressed (leaf_chunk f k g)) f.meta.groups) F i l e b;
      numbers = and_from _ _ p.0 (read_of f (λ k. nat_le (total (λ g. chunk_values (leaf_chunk f k g)) f.meta.groups) most_triplets) F i l e p.1);
    }

leaf_cause_by : (bytes : List ℕ) (f : Footer) (l : Leaf) (b : Bool) → footer_of bytes ≡ Some f → Opens f l → has_column l f.meta.rows (given_column bytes f l) ≡ b → leaf_cause bytes l ≡ (if b then None else Some bad_data)
leaf_cause_by bytes f l b e o h =
    ap (cause_by (has_leaf_column bytes l) (l ∷ [])) e ∙ rw o.leaf (rw o.codec (rw o.numbers (rw h refl)))

-- the column of the file has the rows of its row groups
column_passes : (bytes : List ℕ) (f : Footer) (l : Leaf) (cs : List ShownChunk) → rows_agree f ≡ true → AreShown f l f.meta.groups cs → has_column l f.meta.rows (file_column bytes f l) ≡ list_all (is_good_chunk bytes f.place l) cs
column_passes bytes f l cs r h =
    let p = and_parts (total (λ (g : RowGroup). g.rows) f.meta.groups == f.meta.rows) (nat_le f.meta.rows most_rows) r in
    let n : total (λ (g : RowGroup). g.rows) f.meta.groups ≡ f.meta.rows = eqb-true _ _ p.0 in
    sym (ap (λ k. has_column l k (file_column bytes f l)) n) ∙ ((groups_join bytes f l f.meta.groups).passes ∙ groups_shown bytes f l f.meta.groups cs h)

-- the ranges of the chunks that are shown are those of the leaf
range_shown : (place n : ℕ) (c : ShownChunk) (o : Option ColumnMeta) → Some c ≡ option_map (shown_chunk n) o → shown_range place c ≡ chunk_range place o
range_shown place n c None e = absurd (cc)
range_shown place n c (Some m) e = ap (shown_range place) (some_chunk c (shown_chunk n m) e)

ranges_shown : (f : Footer) (l : Leaf) (gs : List RowGroup) (cs : List ShownChunk) → AreShown f l gs cs → flat_map (shown_range f.place) cs ≡ flat_map (λ (g : RowGroup). chunk_range f.place (leaf_chunk f l g)) gs
ranges_shown f l [] [] h = refl
ranges_shown f l [] (c ∷ cs) h = absurd (cc)
ranges_shown f l (g ∷ gs) [] h = absurd (cc)
ranges_shown f l (g ∷ gs) (c ∷ cs) h =
    let e : Some c ≡ option_map (shown_chunk g.rows) (leaf_chunk f l g) = cc in
    let t : AreShown f l gs cs = cc in
    ap₂ (λ x y. x ++ y) (range_shown f.place g.rows c (leaf_chunk f l g) e) (ranges_shown f l gs cs t)

-- ---- what an opened file keeps of a leaf

-- the place of a footer
with_schema_place : (p : ℕ) (m : FileMeta) (s : FileSchema) (f : Footer) (b : Bool) → (if b then Some (record { place = p; meta = m; schema = s }) else None) ≡ Some f → f.place ≡ p
with_schema_place p m s f true e = let g : Footer = record { place = p; meta = m; schema = s } in let q : g ≡ f = cc in sym (ap (λ (x : Footer). x.place) q)
with_schema_place p m s f false e = absurd (cc)

schema_place : (p : ℕ) (m : FileMeta) (f : Footer) (o : Option FileSchema) → option_and_then (with_schema p m) o ≡ Some f → f.place ≡ p
schema_place p m f None e = absurd (cc)
schema_place p m f (Some s) e = with_schema_place p m s f (list_all (is_whole_group (length (file_leaves s.fields))) m.groups) e

meta_place : (p : ℕ) (f : Footer) (o : Option FileMeta) → option_and_then (λ (m : FileMeta). option_and_then (with_schema p m) (file_schema m.schema)) o ≡ Some f → f.place ≡ p
meta_place p f None e = absurd (cc)
meta_place p f (Some m) e = schema_place p m f (file_schema m.schema) e

framed_place : (p : ℕ) (f : Footer) (b : Bool) (o : Option Footer) → (o ≡ Some f → f.place ≡ p) → (if b then o else None) ≡ Some f → f.place ≡ p
framed_place p f true o h e = h e
framed_place p f false o h e = absurd (cc)

footer_placed : (bytes : List ℕ) (f : Footer) → footer_of bytes ≡ Some f → f.place ≡ footer_place bytes
unfolding footer_of
footer_placed bytes f e =
    framed_place (footer_place bytes) f (is_framed bytes) (option_and_then (λ (m : FileMeta). option_and_then (with_schema (footer_place bytes) m) (file_schema m.schema)) (footer_meta bytes))
    (meta_place (footer_place bytes) f (footer_meta bytes)) e

leaf_at : (f : Footer) (F : List Leaf) (os : List OpenedField) (i : ℕ) (l : Leaf) (d : OpenedField) → map (shown_field f) F ≡ map opened_field_view os → slice_get F i ≡ Some l → shown_field f l ≡ opened_field_view (get_or os i d)
leaf_at f [] os i l d h e = absurd (cc)
leaf_at f (k ∷ F) [] i l d h e = absurd (cc)
leaf_at f (k ∷ F) (o ∷ os) zero l d h e = let q : shown_field f k ≡ opened_field_view o = cc in ap (shown_field f) (sym (same_leaf k l e)) ∙ q
leaf_at f (k ∷ F) (o ∷ os) (suc i) l d h e = let t : map (shown_field f) F ≡ map opened_field_view os = cc in leaf_at f F os i l d t e

map_twice : {A B C : Type 0} (f : A → B) (g : B → C) (xs : List A) → map g (map f xs) ≡ map (λ x. g (f x)) xs
map_twice f g [] = refl
map_twice f g (x ∷ xs) = ap (λ ys. g (f x) ∷ ys) (map_twice f g xs)

abbrev shown_chunks_of : OpenedLeaf → List ShownChunk
shown_chunks_of o = map chunk_place_view o.chunks.items

-- the leaf that is read for one with this source
abbrev reading : Leaf → Option Source → Leaf
reading l None = record { names = []; path = []; kind = l.kind }
reading l (Some own_chunks) = l
reading l (Some no_chunks) = record { names = []; path = []; kind = l.kind }
reading l (Some (chunks_of x)) = x.leaf

-- its chunks are shown, where it has some
abbrev ChunksShown : Footer → Leaf → Option Source → List ShownChunk → Type 0
ChunksShown f l None cs = cs ≡ []
ChunksShown f l (Some own_chunks) cs = AreShown f l f.meta.groups cs
ChunksShown f l (Some no_chunks) cs = cs ≡ []
ChunksShown f l (Some (chunks_of x)) cs = AreShown f x.leaf f.meta.groups cs

no_chunk : (cs : List ShownChunk) → map (λ c. Some c) cs ≡ [] → cs ≡ []
no_chunk [] h = refl
no_chunk (c ∷ cs) h = absurd (cc)

chunks_shown : (f : Footer) (l : Leaf) (o : Option Source) (cs : List ShownChunk) → map (λ c. Some c) cs ≡ (shown_from f l o).read.chunks → ChunksShown f l o cs
chunks_shown f l None cs h = no_chunk cs h
chunks_shown f l (Some own_chunks) cs h = h
chunks_shown f l (Some no_chunks) cs h = no_chunk cs h
chunks_shown f l (Some (chunks_of x)) cs h = h

read_path : (f : Footer) (l : Leaf) (o : Option Source) → ((reading l o).path ≡ (shown_from f l o).read.path) × ((reading l o).kind ≡ (shown_from f l o).read.kind)
read_path f l None = (refl, refl)
read_path f l (Some own_chunks) = (refl, refl)
read_path f l (Some no_chunks) = (refl, refl)
read_path f l (Some (chunks_of x)) = (refl, refl)

field_form : (f : Footer) (l : Leaf) (o : Option Source) → ((shown_from f l o).kind ≡ l.kind) × ((shown_from f l o).greatest ≡ max_definition l.path)
field_form f l None = (refl, refl)
field_form f l (Some own_chunks) = (refl, refl)
field_form f l (Some no_chunks) = (refl, refl)
field_form f l (Some (chunks_of x)) = (refl, refl)

-- what is known of a leaf of a file that was opened
pub record Kept (bytes : List ℕ) (o : Opened) (field : OpenedField) (l : Leaf) : Type 0 where
  f : Footer
  is : footer_of bytes ≡ Some f
  place : o.footer ≡ f.place
  pub within : o.footer ≤ length bytes
  pub read : Leaf
  pub shown : IsShownLeaf read field.read
  is_read : read ≡ reading l (leaf_source f l)
  telling : telling_view field.telling ≡ (shown_field f l).telling
  pub kind : kind_view field.kind ≡ l.kind
  pub greatest : field.greatest ≡ max_definition l.path
  chunks : ChunksShown f l (leaf_source f l) (shown_chunks_of field.read)
  opens : Opens f l
  rows : rows_agree f ≡ true
  all_rows : o.rows ≡ f.meta.rows

pub kept : (bytes : List ℕ) (F : List Leaf) (o : Opened) (i : ℕ) (field : OpenedField) (l : Leaf) → IsOpened bytes F o → slice_get F i ≡ Some l → field ≡ get_or o.leaves.items i field → Kept bytes o field l
kept bytes F o i field l h e g =
    let k = h.1 in
    let s : shown_field k.0 l ≡ opened_field_view field = leaf_at k.0 F o.leaves.items i l field k.6 e ∙ ap opened_field_view (sym g) in
    let src = leaf_source k.0 l in
    let p = read_path k.0 l src in
    let q = field_form k.0 l src in
    record {
      f = k.0;
      is = k.1;
      place = h.0 ∙ sym (footer_placed bytes k.0 k.1);
      within = omega (arith, h.0);
      read = reading l src;
      shown = (p.0 ∙ ap (λ (x : ShownField). x.read.path) s, p.1 ∙ ap (λ (x : ShownField). x.read.kind) s);
      is_read = refl;
      telling = sym (ap (λ (x : ShownField). x.telling) s);
      kind = sym (ap (λ (x : ShownField). x.kind) s) ∙ q.0;
      greatest = sym (ap (λ (x : ShownField). x.greatest) s) ∙ q.1;
      chunks = chunks_shown k.0 l src (shown_chunks_of field.read) (map_twice chunk_place_view (λ c. Some c) field.read.chunks.items ∙ sym (ap (λ (x : ShownField). x.read.chunks) s));
      opens = opens_one k.0 F i l e k.2 k.3 k.4;
      rows = (and_parts (rows_agree k.0) (values_fit k.0 (leaves_read k.0 F)) k.4).0;
      all_rows = sym k.5;
    }

-- how many triplets the chunks have that are shown
value_shown : (n : ℕ) (c : ShownChunk) (o : Option ColumnMeta) → Some c ≡ option_map (shown_chunk n) o → c.values ≡ chunk_values o
value_shown n c None e = absurd (cc)
value_shown n c (Some m) e = ap (λ (x : ShownChunk). x.values) (some_chunk c (shown_chunk n m) e)

values_shown : (f : Footer) (l : Leaf) (gs : List RowGroup) (cs : List ChunkPlace) → AreShown f l gs (map chunk_place_view cs) → all_values cs ≡ total (λ (g : RowGroup). chunk_values (leaf_chunk f l g)) gs
values_shown f l [] [] h = refl
values_shown f l [] (c ∷ cs) h = absurd (cc)
values_shown f l (g ∷ gs) [] h = absurd (cc)
values_shown f l (g ∷ gs) (c ∷ cs) h =
    let e : Some (chunk_place_view c) ≡ option_map (shown_chunk g.rows) (leaf_chunk f l g) = cc in
    let t : AreShown f l gs (map chunk_place_view cs) = cc in
    ap₂ (λ x y. x + y) (value_shown g.rows (chunk_place_view c) (leaf_chunk f l g) e) (values_shown f l gs cs t)

same_footer : (f g : Footer) → Some f ≡ Some g → f ≡ g
same_footer f g e = cc

-- as many triplets may come of a leaf as the footer names
pub left_named : (bytes : List ℕ) (o : Opened) (field : OpenedField) (l : Leaf) (f : Footer) (left : ℕ) → Kept bytes o field l → footer_of bytes ≡ Some f → left ≡ all_values field.read.chunks.items
    → left_by (telling_view field.telling) o.rows left ≡ triplets_named f l
left_named bytes o field l f left k e h =
    ap (λ t. left_by t o.rows left) k.telling ∙ (by (leaf_source k.f l) k.chunks ∙ ap (λ g. triplets_named g l) (same_footer k.f f (sym k.is ∙ e)))
  where
    by : (src : Option Source) → ChunksShown k.f l src (shown_chunks_of field.read) → left_by (shown_from k.f l src).telling o.rows left ≡ named_by k.f l src
    by None c = k.all_rows
    by (Some own_chunks) c = h ∙ values_shown k.f l k.f.meta.groups field.read.chunks.items c
    by (Some no_chunks) c = k.all_rows
    by (Some (chunks_of x)) c = h ∙ values_shown k.f x.leaf k.f.meta.groups field.read.chunks.items c

-- the same, where the source is known
record Sourced (bytes : List ℕ) (f : Footer) (l : Leaf) (src : Option Source) (cs : List ShownChunk) : Type 0 where
  there : has_source src ≡ true
  is : leaf_source f l ≡ src
  chunks : ChunksShown f l src cs
  rows : rows_agree f ≡ true

-- the column that is given, by the chunks of the leaf that is read
abbrev Gives : List ℕ → Footer → Leaf → Option Source → List ShownChunk → Bool → Type 0
Gives bytes f l src cs false = has_column l f.meta.rows (column_by bytes f l src) ≡ false
Gives bytes f l src cs true = (has_column l f.meta.rows (column_by bytes f l src) ≡ true)
    × (column_by bytes f l src ≡ Some (told (shown_from f l src).telling f.meta.rows (chunks_triplets bytes f.place (reading l src) cs)))

same_triplets : (ts us : List Triplet) → Some ts ≡ Some us → ts ≡ us
same_triplets ts us e = cc

-- what a stand-in's column gives
stood_in : (l : Leaf) (x : StandIn) (rows : ℕ) (o : Option (List Triplet)) (ts : List Triplet) → Stands l x → has_column x.leaf rows o ≡ true → o ≡ Some ts
    → (has_column l rows (lacking_column x rows o) ≡ true) × (lacking_column x rows o ≡ Some (outline x.repetition x.definition ts))
stood_in l x rows None ts h c e = absurd (true≢false (sym c))
stood_in l x rows (Some us) ts h c e =
    let g : lacking_column x rows (Some us) ≡ Some (outline x.repetition x.definition us) = ap (λ b. option_map (outline x.repetition x.definition) (if b then Some us else None)) c in
    (ap (has_column l rows) g ∙ outline_is_column l x rows us h c, g ∙ ap (λ vs. Some (outline x.repetition x.definition vs)) (same_triplets us ts e))

none_stood_in : (l : Leaf) (x : StandIn) (rows : ℕ) (o : Option (List Triplet)) → has_column x.leaf rows o ≡ false → has_column l rows (lacking_column x rows o) ≡ false
none_stood_in l x rows None c = refl
none_stood_in l x rows (Some us) c = ap (λ b. has_column l rows (option_map (outline x.repetition x.definition) (if b then Some us else None))) c

good_none : (bytes : List ℕ) (place : ℕ) (l : Leaf) (cs : List ShownChunk) → cs ≡ [] → list_all (is_good_chunk bytes place l) cs ≡ true
good_none bytes place l cs h = ap (list_all (is_good_chunk bytes place l)) h

gives : (bytes : List ℕ) (f : Footer) (l : Leaf) (src : Option Source) (cs : List ShownChunk) → Sourced bytes f l src cs → (b : Bool) → list_all (is_good_chunk bytes f.place (reading l src)) cs ≡ b → Gives bytes f l src cs b
gives bytes f l None cs h b g = absurd (true≢false (sym h.there))
gives bytes f l (Some own_chunks) cs h false g = column_passes bytes f l cs h.rows h.chunks ∙ g
gives bytes f l (Some own_chunks) cs h true g = (column_passes bytes f l cs h.rows h.chunks ∙ g, column_shown bytes f l f.meta.groups cs h.chunks g)
gives bytes f l (Some no_chunks) cs h false g = absurd (true≢false (sym (good_none bytes f.place (reading l (Some no_chunks)) cs h.chunks) ∙ g))
gives bytes f l (Some no_chunks) cs h true g = (nulls_are_column l f.meta.rows (source_tells f.schema l no_chunks h.is), refl)
gives bytes f l (Some (chunks_of x)) cs h false g = none_stood_in l x f.meta.rows (file_column bytes f x.leaf) (column_passes bytes f x.leaf cs h.rows h.chunks ∙ g)
gives bytes f l (Some (chunks_of x)) cs h true g =
    stood_in l x f.meta.rows (file_column bytes f x.leaf) (chunks_triplets bytes f.place x.leaf cs) (source_tells f.schema l (chunks_of x) h.is)
    (column_passes bytes f x.leaf cs h.rows h.chunks ∙ g) (column_shown bytes f x.leaf f.meta.groups cs h.chunks g)

one_there : (b : Bool) → (b && true) ≡ true → b ≡ true
one_there true h = refl
one_there false h = h

sourced : (bytes : List ℕ) (o : Opened) (field : OpenedField) (l : Leaf) (k : Kept bytes o field l) → Sourced bytes k.f l (leaf_source k.f l) (shown_chunks_of field.read)
sourced bytes o field l k = record { there = one_there (has_source (leaf_source k.f l)) k.opens.leaf; is = refl; chunks = k.chunks; rows = k.rows }

-- where the chunks are good, the leaf has a column
pub column_good : (bytes : List ℕ) (o : Opened) (field : OpenedField) (l : Leaf) (ts us : List Triplet) (k : Kept bytes o field l) → list_all (is_good_chunk bytes o.footer k.read) (shown_chunks_of field.read) ≡ true
    → us ≡ chunks_triplets bytes o.footer k.read (shown_chunks_of field.read) → ts ≡ told (telling_view field.telling) o.rows us → IsColumnOf bytes l ts
column_good bytes o field l ts us k h e t =
    let src = leaf_source k.f l in
    let cs = shown_chunks_of field.read in
    let g : list_all (is_good_chunk bytes k.f.place (reading l src)) cs ≡ true = sym (ap₂ (λ p x. list_all (is_good_chunk bytes p x) cs) k.place k.is_read) ∙ h in
    let c = gives bytes k.f l src cs (sourced bytes o field l k) true g in
    let v : us ≡ chunks_triplets bytes k.f.place (reading l src) cs = e ∙ ap₂ (λ p x. chunks_triplets bytes p x cs) k.place k.is_read in
    let w : told (telling_view field.telling) o.rows us ≡ told (shown_from k.f l src).telling k.f.meta.rows (chunks_triplets bytes k.f.place (reading l src) cs) =
    ap (λ (y : ShownTelling). told y o.rows us) k.telling ∙ ap₂ (told (shown_from k.f l src).telling) k.all_rows v in
    (leaf_cause_by bytes k.f l true k.is k.opens c.0, k.f, k.is, c.1 ∙ ap (λ xs. Some xs) (sym (t ∙ w)))

-- where one isn't, it has none
pub column_bad : (bytes : List ℕ) (o : Opened) (field : OpenedField) (l : Leaf) (k : Kept bytes o field l) → list_all (is_good_chunk bytes o.footer k.read) (shown_chunks_of field.read) ≡ false → leaf_cause bytes l ≡ Some bad_data
column_bad bytes o field l k h =
    let src = leaf_source k.f l in
    let cs = shown_chunks_of field.read in
    let g : list_all (is_good_chunk bytes k.f.place (reading l src)) cs ≡ false = sym (ap₂ (λ p x. list_all (is_good_chunk bytes p x) cs) k.place k.is_read) ∙ h in
    leaf_cause_by bytes k.f l false k.is k.opens (gives bytes k.f l src cs (sourced bytes o field l k) false g)

-- where the column is read itself, it is the leaf's own
own_form : (f : Footer) (l : Leaf) (o : Option Source) → (shown_from f l o).telling ≡ itself → reading l o ≡ l
own_form f l None h = absurd (cc)
own_form f l (Some own_chunks) h = refl
own_form f l (Some no_chunks) h = absurd (cc)
own_form f l (Some (chunks_of x)) h = absurd (cc)

read_is_own : (bytes : List ℕ) (o : Opened) (field : OpenedField) (l : Leaf) (k : Kept bytes o field l) → telling_view field.telling ≡ itself → k.read ≡ l
read_is_own bytes o field l k h = k.is_read ∙ own_form k.f l (leaf_source k.f l) (sym k.telling ∙ h)

-- the column that is told has the leaf's form
pub form_told : (bytes : List ℕ) (o : Opened) (field : OpenedField) (l : Leaf) (a b : LeafForm) (k : Kept bytes o field l)
    → a ≡ form k.read.kind (max_definition k.read.path) → (a ≡ form (kind_view field.kind) field.greatest → b ≡ form (kind_view field.kind) field.greatest)
    → ((telling_view field.telling ≡ itself → ⊥) → b ≡ form (kind_view field.kind) field.greatest) → b ≡ form l.kind (max_definition l.path)
form_told bytes o field l a b k h own other = by (telling_view field.telling) refl ∙ kept_form
  where
    kept_form : form (kind_view field.kind) field.greatest ≡ form l.kind (max_definition l.path)
    kept_form = ap₂ form k.kind k.greatest

    by : (t : ShownTelling) → telling_view field.telling ≡ t → b ≡ form (kind_view field.kind) field.greatest
    by itself e = own (h ∙ (ap (λ (m : Leaf). form m.kind (max_definition m.path)) (read_is_own bytes o field l k e) ∙ sym kept_form))
    by nulls e = other (λ q. let z : nulls ≡ itself = sym e ∙ q in cc)
    by (outlined r d) e = other (λ q. let z : outlined r d ≡ itself = sym e ∙ q in cc)

-- it has not too many triplets
pub few_told : (t : ShownTelling) (rows : ℕ) (ts : List Triplet) → rows ≤ most_rows → length ts ≤ most_triplets → length (told t rows ts) ≤ most_triplets
few_told itself rows ts r h = h
few_told nulls rows ts r h = omega (arith, length-replicate rows (triplet 0 0 None))
few_told (outlined r d) rows ts n h = omega (arith, outline_shorter r d ts)

some_footer : (f g : Footer) → Some f ≡ Some g → f ≡ g
some_footer f g e = cc

-- the chunks' ranges are those of the leaves that are read
ranges_of_source : (f : Footer) (l : Leaf) (o : Option Source) (cs : List ShownChunk) → ChunksShown f l o cs → flat_map (shown_range f.place) cs ≡ flat_map (leaf_ranges f) (leaf_read l o)
ranges_of_source f l None cs h = ap (flat_map (shown_range f.place)) h
ranges_of_source f l (Some own_chunks) cs h = ranges_shown f l f.meta.groups cs h ∙ sym (append-nil (leaf_ranges f l))
ranges_of_source f l (Some no_chunks) cs h = ap (flat_map (shown_range f.place)) h
ranges_of_source f l (Some (chunks_of x)) cs h = ranges_shown f x.leaf f.meta.groups cs h ∙ sym (append-nil (leaf_ranges f x.leaf))

pub ranges_kept : (bytes : List ℕ) (o : Opened) (field : OpenedField) (l : Leaf) (f : Footer) → Kept bytes o field l → footer_of bytes ≡ Some f
    → flat_map (shown_range o.footer) (shown_chunks_of field.read) ≡ flat_map (leaf_ranges f) (leaves_read f (l ∷ []))
ranges_kept bytes o field l f k e =
    ap (λ p. flat_map (shown_range p) (shown_chunks_of field.read)) k.place
    ∙ (ranges_of_source k.f l (leaf_source k.f l) (shown_chunks_of field.read) k.chunks
    ∙ (ap (flat_map (leaf_ranges k.f)) (sym (append-nil (leaf_read l (leaf_source k.f l)))) ∙ ap (λ x. flat_map (leaf_ranges x) (leaves_read x (l ∷ []))) (some_footer k.f f (sym k.is ∙ e))))

-- a leaf that the records lack has no chunks
nowhere_by : (f : Footer) (l : Leaf) (o : Option Source) (cs : List ShownChunk) → ChunksShown f l o cs → (shown_from f l o).telling ≡ nulls → cs ≡ []
nowhere_by f l None cs h e = h
nowhere_by f l (Some own_chunks) cs h e = absurd (cc)
nowhere_by f l (Some no_chunks) cs h e = h
nowhere_by f l (Some (chunks_of x)) cs h e = absurd (cc)

pub nowhere_kept : (bytes : List ℕ) (o : Opened) (field : OpenedField) (l : Leaf) → Kept bytes o field l → telling_view field.telling ≡ nulls → shown_chunks_of field.read ≡ []
nowhere_kept bytes o field l k e = nowhere_by k.f l (leaf_source k.f l) (shown_chunks_of field.read) k.chunks (sym k.telling ∙ e)

-- ---- faults as they are told

pub chunk_cause_told : (e : ChunkFault) (before after : ℕ) (cause : Option FileCause) → (e ≡ ChunkFault.BadData → cause ≡ Some bad_data) → IsColumnFault (told_chunk_fault e before after) cause
chunk_cause_told ChunkFault.NoMemory before after cause h = tt
chunk_cause_told ChunkFault.Failed before after cause h = tt
chunk_cause_told ChunkFault.BadData before after cause h = h refl

pub chunk_counts_told : (e : ChunkFault) (old new before after : ℕ) → before ≡ old → after ≡ new → (e ≡ ChunkFault.Failed → new ≡ raised old) → HasCounts old new (told_chunk_fault e before after)
chunk_counts_told ChunkFault.NoMemory old new before after b a h = tt
chunk_counts_told ChunkFault.Failed old new before after b a h = (b, a, h refl)
chunk_counts_told ChunkFault.BadData old new before after b a h = tt

pub chunk_not_failed : (e : ChunkFault) (before after : ℕ) → is_link_fault (told_chunk_fault e before after) ≡ false → e ≡ ChunkFault.Failed → ⊥
chunk_not_failed ChunkFault.NoMemory before after h = λ e. cc
chunk_not_failed ChunkFault.Failed before after h = λ e. cc
chunk_not_failed ChunkFault.BadData before after h = λ e. cc
