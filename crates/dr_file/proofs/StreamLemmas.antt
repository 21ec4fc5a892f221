-- Streams of the columns of opened files.
use Rattle.std.proofs.Common.{◌≡◌, ℕ, zero, suc, ◌+◌, ◌≤◌, ◌<◌, List, [], ◌∷◌, ◌++◌, length, map, Bool, true, false, refl, sym, ap, ap₂, ◌∙◌, subst, append_assoc, replicate, ltb-true, ltb-false, arith}
use Rattle.std.specs.Prelude.{Option, Some, None, nat_le, nat_lt, if◌then◌else◌, min}
use Rattle.std.specs.List.{flat_map}
use Rattle.std.proofs.lemmas.List.{append-nil, length-append}
use Rattle.dr_meaning.specs.Path.{Leaf, max_definition}
use Rattle.dr_nested.specs.Views.{kind_view}
use Rattle.dr_nested.specs.PathView.{step_view}
use Rattle.dr_levels.specs.Views.{LeafForm, form}
use Rattle.dr_outside.specs.Link.{Request}
use Rattle.dr_outside.specs.Telling.{AsksOnly}
use Rattle.dr_chunk.specs.Ranges.{is_read_inside}
use Rattle.dr_meaning.specs.Column.{Triplet, triplet}
use Rattle.dr_formats.specs.File.{Footer, FileCause, bad_data, given_column, most_rows, most_triplets}
use Rattle.dr_formats.specs.Lacking.{outline}
use Rattle.dr_formats.specs.Opening.{leaf_cause}
use Rattle.dr_chunk.specs.Taking.{BeginWith}
use Rattle.dr_chunk.proofs.TakingLemmas.{same_list}
use Rattle.dr_file.specs.declared.opened.Opened.{Opened}
use Rattle.dr_file.specs.declared.opened_field.OpenedField.{OpenedField}
use Rattle.dr_file.specs.declared.stream.Stream.{Stream}
use Rattle.dr_file.specs.Fields.{ShownTelling, itself, nulls, outlined, telling_view, told}
use Rattle.dr_file.specs.Openings.{chunk_place_view}
use Rattle.dr_file.specs.declared.opened_leaf.OpenedLeaf.{OpenedLeaf}
use Rattle.dr_file.specs.LeafColumns.{shown_range, IsShownLeaf}
use Rattle.dr_file.specs.LeafStreams.{footer_of, leaf_of, shown_chunks, leaf_triplets, IsAt, GoesOn, IsLeafOfFile}
use Rattle.dr_file.specs.declared.leaf_stream.LeafStream.{LeafStream}
use Rattle.dr_file.specs.OpenedFiles.{IsColumnOf, path_of}
use Rattle.dr_file.specs.LeafStreams as leaf_stream
use Rattle.dr_file.specs.Streams.{left_by, left_of, telling_of, refused_of, file_of, field_of, ranges_of, chunks_of, IsToldBy, GivenBy, IsStreamOf, StreamGoesOn, Fills}
use Rattle.dr_file.proofs.LeafStreamLemmas.{all_are_good, one_is_bad}
use Rattle.dr_file.proofs.OutlineLemmas.{outline_append, outline_shorter}
use Rattle.dr_file.proofs.ColumnLemmas.{Kept, form_told, column_good, column_bad, nowhere_kept, ranges_kept}

-- ---- the leaf that is read for one

pub told_by_kept : (bytes : List ℕ) (o : Opened) (field : OpenedField) (l : Leaf) (k : Kept bytes o field l) → IsToldBy bytes l o field k.read
told_by_kept bytes o field l k = record {
  shown = k.shown;
  within = k.within;
  good = λ us e. let g = all_are_good bytes o.footer k.read (chunks_of field) us e in column_good bytes o field l (told (telling_view field.telling) o.rows us) us k g.0 g.1 refl;
  bad = λ e. column_bad bytes o field l k (one_is_bad bytes o.footer k.read (chunks_of field) e);
  nowhere = λ e. nowhere_kept bytes o field l k e;
  ranges = λ f e. ranges_kept bytes o field l f k e;
}

-- ---- what a column tells of another, a piece at a time

replicate_append : (n k : ℕ) (t : Triplet) → replicate (n + k) t ≡ replicate n t ++ replicate k t
replicate_append zero k t = let e : zero + k ≡ k = omega arith in ap (λ j. replicate j t) e
replicate_append (suc n) k t = let e : suc n + k ≡ suc (n + k) = omega arith in ap (λ j. replicate j t) e ∙ ap (λ xs. t ∷ xs) (replicate_append n k t)

-- nothing was given of either
pub nothing_given : (t : ShownTelling) (rows : ℕ) → GivenBy t rows [] [] rows
nothing_given itself rows = refl
nothing_given nulls rows = (0, omega arith, refl)
nothing_given (outlined r d) rows = refl

-- what was given is a front of what is told
given_is_front : (t : ShownTelling) (rows left : ℕ) (source given us : List Triplet) → GivenBy t rows source given left → BeginWith source us → BeginWith given (told t rows us)
given_is_front itself rows left source given us h b = (b.0, b.1 ∙ ap (λ xs. xs ++ b.0) (sym h))
given_is_front nulls rows left source given us h b =
    (replicate left (triplet 0 0 None), ap (λ k. replicate k (triplet 0 0 None)) (sym h.1) ∙ (replicate_append h.0 left (triplet 0 0 None) ∙ ap (λ xs. xs ++ replicate left (triplet 0 0 None)) (sym h.2)))
given_is_front (outlined r d) rows left source given us h b =
    (outline r d b.0, ap (outline r d) b.1 ∙ (outline_append r d source b.0 ∙ ap (λ xs. xs ++ outline r d b.0) (sym h)))

-- ---- one column

one_footer : (f g : Footer) → Some f ≡ Some g → f ≡ g
one_footer f g e = cc

one_column : (bytes : List ℕ) (l : Leaf) (ts us : List Triplet) → IsColumnOf bytes l ts → IsColumnOf bytes l us → ts ≡ us
one_column bytes l ts us h k =
    same_list ts us (sym h.3 ∙ (ap (λ f. given_column bytes f l) (one_footer h.1 k.1 (sym h.2 ∙ k.2)) ∙ k.3))

no_cause : (bytes : List ℕ) (l : Leaf) (c : FileCause) → leaf_cause bytes l ≡ None → leaf_cause bytes l ≡ Some c → ⊥
no_cause bytes l c a b = let e : None ≡ Some c = sym a ∙ b in cc

-- the column, if there is one, is told by that of the leaf that is read
column_told : (bytes : List ℕ) (l read : Leaf) (o : Opened) (field : OpenedField) (ts : List Triplet) → IsToldBy bytes l o field read → IsColumnOf bytes l ts
    → (us : List Triplet) × (leaf_triplets bytes o.footer read (chunks_of field) ≡ Some us) × (ts ≡ told (telling_view field.telling) o.rows us)
column_told bytes l read o field ts h k = by (leaf_triplets bytes o.footer read (chunks_of field)) refl
  where
    by : (x : Option (List Triplet)) → leaf_triplets bytes o.footer read (chunks_of field) ≡ x
        → (us : List Triplet) × (leaf_triplets bytes o.footer read (chunks_of field) ≡ Some us) × (ts ≡ told (telling_view field.telling) o.rows us)
    by None e = absurd (no_cause bytes l bad_data k.0 (h.bad e))
    by (Some us) e = (us, e, one_column bytes l ts (told (telling_view field.telling) o.rows us) k (h.good us e))

-- ---- where a stream stands

-- the chunks that it reads are those of the field
chunks_same : (bytes : List ℕ) (read : Leaf) (s : Stream) (us : List Triplet) → footer_of s.leaf ≡ s.file.now.footer → leaf_of s.leaf ≡ s.field.now.read
    → leaf_triplets bytes s.file.now.footer read (chunks_of s.field.now) ≡ Some us → leaf_triplets bytes (footer_of s.leaf) read (shown_chunks s.leaf) ≡ Some us
chunks_same bytes read s us footer leaf e = ap₂ (λ k o. leaf_triplets bytes k read (map chunk_place_view o.chunks.items)) footer leaf ∙ e

-- it is known where it stands by the leaf that is read
pub stream_of : (bytes : List ℕ) (l read : Leaf) (given source : List Triplet) (s : Stream) → refused_of s ≡ None → IsToldBy bytes l s.file.now s.field.now read → IsAt bytes read source s.leaf
    → GivenBy (telling_of s) s.file.now.rows source given s.rows → IsStreamOf bytes l given s
stream_of bytes l read given source s none h at g = record {
  front = λ ts k. front ts k;
  goes_on = none;
  leaf = record { read = read; told_by = h };
  source = source;
  at = at;
  tells = g;
}
  where
    front : (ts : List Triplet) → IsColumnOf bytes l ts → BeginWith given ts
    front ts k =
        let c = column_told bytes l read s.file.now s.field.now ts h k in
        let b = at.front c.0 (chunks_same bytes read s c.0 s.of_file.footer s.of_file.leaf c.1) in
        let f = given_is_front (telling_of s) s.file.now.rows s.rows source given c.0 g b in
        (f.0, c.2 ∙ f.1)

same_telling : (t u : ShownTelling) (rows left : ℕ) (source given : List Triplet) → t ≡ u → GivenBy u rows source given left → GivenBy t rows source given left
same_telling t u rows left source given e h = subst (λ x. GivenBy x rows source given left) (sym e) h

-- before the first triplet
pub stream_begun : (bytes : List ℕ) (l : Leaf) (s : Stream) (k : Kept bytes s.file.now s.field.now l) → refused_of s ≡ None → IsAt bytes k.read [] s.leaf → s.rows ≡ s.file.now.rows → IsStreamOf bytes l [] s
stream_begun bytes l s k none at e =
    stream_of bytes l k.read [] [] s none (told_by_kept bytes s.file.now s.field.now l k) at
    (subst (λ n. GivenBy (telling_of s) s.file.now.rows [] [] n) (sym e) (nothing_given (telling_of s) s.file.now.rows))

-- ---- how many triplets may come

pub left_own : (s : Stream) → telling_of s ≡ itself → left_of s ≡ leaf_stream.left_of s.leaf
unfolding left_of
left_own s e = ap (λ t. left_by t s.rows (leaf_stream.left_of s.leaf)) e

pub left_rows : (s : Stream) → telling_of s ≡ nulls → left_of s ≡ s.rows
unfolding left_of
left_rows s e = ap (λ t. left_by t s.rows (leaf_stream.left_of s.leaf)) e

pub left_outlined : (s : Stream) (r d : ℕ) → telling_of s ≡ outlined r d → left_of s ≡ leaf_stream.left_of s.leaf
unfolding left_of
left_outlined s r d e = ap (λ t. left_by t s.rows (leaf_stream.left_of s.leaf)) e

pub few_left : (s : Stream) → s.rows ≤ most_rows → leaf_stream.left_of s.leaf ≤ most_triplets → left_of s ≤ most_triplets
few_left s r h = by (telling_of s) refl
  where
    by : (t : ShownTelling) → telling_of s ≡ t → left_of s ≤ most_triplets
    by itself e = omega (arith, left_own s e, h)
    by nulls e = omega (arith, left_rows s e, r)
    by (outlined a d) e = omega (arith, left_outlined s a d e, h)

-- ---- the leaf that is read

-- the chunks of the field are those that are read
pub chunks_back : (bytes : List ℕ) (read : Leaf) (s : LeafStream) (file : Opened) (field : OpenedField) (o : Option (List Triplet)) → IsLeafOfFile file field s → leaf_triplets bytes (footer_of s) read (shown_chunks s) ≡ o
    → leaf_triplets bytes file.footer read (chunks_of field) ≡ o
chunks_back bytes read s file field o f e = ap₂ (λ k x. leaf_triplets bytes k read (map chunk_place_view x.chunks.items)) (sym f.footer) (sym f.leaf) ∙ e

-- what is asked for of the same leaf of the same file
pub asks_same_stream : (old new : Stream) (a b : Option (List Request)) → file_of new ≡ file_of old → field_of new ≡ field_of old → AsksOnly (is_read_inside (path_of (file_of new)) (ranges_of new)) a b
    → AsksOnly (is_read_inside (path_of (file_of old)) (ranges_of old)) a b
asks_same_stream old new a b e f h =
    let P : Opened → Type 0 = λ o. AsksOnly (is_read_inside (path_of o) (flat_map (shown_range o.footer) (chunks_of (field_of new)))) a b in
    let Q : OpenedField → Type 0 = λ x. AsksOnly (is_read_inside (path_of (file_of old)) (flat_map (shown_range (file_of old).footer) (chunks_of x))) a b in
    subst Q f (subst P e h)

-- the form of the columns, where the leaf is read itself
pub own_form : (read : OpenedLeaf) (s : LeafStream) → ((l : Leaf) → IsShownLeaf l read → leaf_stream.stream_form s ≡ form l.kind (max_definition l.path)) → form (kind_view read.kind) s.shape.max_definition ≡ leaf_stream.stream_form s
own_form read s h =
    ap (λ (f : LeafForm). form f.kind s.shape.max_definition) (sym (h (record { names = []; path = map step_view read.steps.items; kind = kind_view read.kind }) (refl, refl)))

pub form_kept : (bytes : List ℕ) (o : Opened) (field : OpenedField) (l : Leaf) (a b : LeafForm) (k : Kept bytes o field l) → a ≡ form k.read.kind (max_definition k.read.path) → (telling_view field.telling ≡ itself → b ≡ a)
    → ((telling_view field.telling ≡ itself → ⊥) → b ≡ form (kind_view field.kind) field.greatest) → b ≡ form l.kind (max_definition l.path)
form_kept bytes o field l a b k e own other = form_told bytes o field l a b k e (λ q. by (telling_view field.telling) refl q) other
  where
    by : (t : ShownTelling) → telling_view field.telling ≡ t → a ≡ form (kind_view field.kind) field.greatest → b ≡ form (kind_view field.kind) field.greatest
    by itself f q = own f ∙ q
    by nulls f q = other (λ z. let x : nulls ≡ itself = sym f ∙ z in cc)
    by (outlined r d) f q = other (λ z. let x : outlined r d ≡ itself = sym f ∙ z in cc)

-- ---- how much joined

none_of : (n : ℕ) → nat_lt 0 n ≡ false → n ≡ 0
none_of n e = omega (arith, ltb-false 0 n e)

some_of : (n : ℕ) → nat_lt 0 n ≡ true → 0 < n
some_of n e = ltb-true 0 n e

pub more_from : (n : ℕ) (before after more : List Triplet) → after ≡ before ++ more → length after ≡ length before + n → length more ≡ n
more_from n before after more e h = omega (arith, ap length e ∙ length-append before more, h)

none_from : (xs : List Triplet) → length xs ≡ 0 → xs ≡ []
none_from [] e = refl
none_from (x ∷ xs) e = absurd (omega (arith, e))

-- ---- how much a call fills

fills_by : (b : Bool) (n before after left rest : ℕ) → b ≡ nat_lt 0 n → after ≡ before + n → n ≤ 1024 → n + rest ≡ left → Fills b before after left rest
fills_by true n before after left rest e a m l = let z : 0 < n = some_of n (sym e) in (omega arith, omega arith, omega arith)
fills_by false n before after left rest e a m l = let z : n ≡ 0 = none_of n (sym e) in (omega arith, omega arith)

pub own_fills : (b : Bool) (n before after : ℕ) (old new : Stream) → b ≡ nat_lt 0 n → telling_of old ≡ itself → telling_of new ≡ itself → after ≡ before + n → n ≤ 1024 → n + leaf_stream.left_of new.leaf ≡ leaf_stream.left_of old.leaf
    → Fills b before after (left_of old) (left_of new)
own_fills b n before after old new e t u a m l = fills_by b n before after (left_of old) (left_of new) e a m (ap (λ k. n + k) (left_own new u) ∙ (l ∙ sym (left_own old t)))

pub rows_fills : (b : Bool) (k before after : ℕ) (old new : Stream) → b ≡ nat_lt 0 k → telling_of old ≡ nulls → telling_of new ≡ nulls → after ≡ before + k → k ≡ min 1024 old.rows → k + new.rows ≡ old.rows
    → Fills b before after (left_of old) (left_of new)
rows_fills b k before after old new e t u a m l = fills_by b k before after (left_of old) (left_of new) e a (omega (arith, m)) (ap (λ j. k + j) (left_rows new u) ∙ (l ∙ sym (left_rows old t)))

pub outlined_less : (n r d : ℕ) (old new : Stream) → telling_of old ≡ outlined r d → telling_of new ≡ outlined r d → n + leaf_stream.left_of new.leaf ≡ leaf_stream.left_of old.leaf → left_of new ≤ left_of old
outlined_less n r d old new t u l = omega (arith, left_outlined old r d t, left_outlined new r d u, l)

pub outlined_few : (n r d : ℕ) (ts : List Triplet) (old new : Stream) → telling_of old ≡ outlined r d → telling_of new ≡ outlined r d → length ts ≡ n → n + leaf_stream.left_of new.leaf ≡ leaf_stream.left_of old.leaf
    → length (outline r d ts) + left_of new ≤ left_of old
outlined_few n r d ts old new t u c l =
    let s : length (outline r d ts) ≤ length ts = outline_shorter r d ts in
    omega (arith, left_outlined old r d t, left_outlined new r d u)

pub outlined_falls : (n r d : ℕ) (old new : Stream) → telling_of old ≡ outlined r d → telling_of new ≡ outlined r d → n + leaf_stream.left_of new.leaf ≡ leaf_stream.left_of old.leaf → 0 < n → left_of new < left_of old
outlined_falls n r d old new t u l z = omega (arith, left_outlined old r d t, left_outlined new r d u)

pub outlined_short : (n r d : ℕ) (ts : List Triplet) → length ts ≡ n → n ≤ 1024 → length (outline r d ts) ≤ 1024
outlined_short n r d ts c m = omega (arith, outline_shorter r d ts)

pub nothing_joined : (old new more : List Triplet) → new ≡ old ++ more → length new ≤ length old → more ≡ []
nothing_joined old new more e h = none_from more (omega (arith, ap length e ∙ length-append old more, h))

-- a list begins with itself
pub begins_same : (old new : List Triplet) → new ≡ old → BeginWith old new
begins_same old new e = ([], e ∙ sym (append-nil old))

-- ---- the leaf itself

-- nothing more came of the leaf that is read
stays : (bytes : List ℕ) (read : Leaf) (source more before after : List Triplet) (s : LeafStream) → after ≡ before ++ more → more ≡ [] → IsAt bytes read (source ++ more) s → (after ≡ before) × IsAt bytes read source s
stays bytes read source more before after s e n h =
    (e ∙ (ap (λ xs. before ++ xs) n ∙ append-nil before), subst (λ xs. IsAt bytes read xs s) (ap (λ xs. source ++ xs) n ∙ append-nil source) h)

pub own_on : (bytes : List ℕ) (l read : Leaf) (given source before after : List Triplet) (n left : ℕ) (b : Bool) (new : Stream) → refused_of new ≡ None → b ≡ nat_lt 0 n → telling_of new ≡ itself → IsToldBy bytes l new.file.now new.field.now read
    → GivenBy (telling_of new) new.file.now.rows source given left → GoesOn bytes read source before after new.leaf
    → (n ≡ 0 → leaf_triplets bytes new.file.now.footer read (chunks_of new.field.now) ≡ Some source) → length after ≡ length before + n → StreamGoesOn bytes l given before after new b
own_on bytes l read given source before after n left b new calm e t h tells on whole count = by b e
  where
    given_is : given ≡ source
    given_is = subst (λ x. GivenBy x new.file.now.rows source given left) t tells

    at_source : (us : List Triplet) → IsAt bytes read us new.leaf → IsStreamOf bytes l us new
    at_source us at = stream_of bytes l read us us new calm h at (same_telling (telling_of new) itself new.file.now.rows new.rows us us t refl)

    by : (x : Bool) → x ≡ nat_lt 0 n → StreamGoesOn bytes l given before after new x
    by true f = (on.0, on.1, subst (λ us. IsStreamOf bytes l us new) (ap (λ xs. xs ++ on.0) (sym given_is)) (at_source (source ++ on.0) on.2))
    by false f =
        let z : n ≡ 0 = none_of n (sym f) in
        let s = stays bytes read source on.0 before after new.leaf on.1 (none_from on.0 (more_from n before after on.0 on.1 count ∙ z)) on.2 in (
          s.0,
          subst (λ us. IsColumnOf bytes l us) (ap (λ x. told x new.file.now.rows source) t ∙ sym given_is) (h.good source (whole z)),
          subst (λ us. IsStreamOf bytes l us new) (sym given_is) (at_source source s.1),
        )

-- ---- a leaf that the records lack

pub rows_on : (bytes : List ℕ) (l read : Leaf) (given source before after : List Triplet) (k left : ℕ) (b : Bool) (new : Stream) → refused_of new ≡ None → b ≡ nat_lt 0 k → telling_of new ≡ nulls → IsToldBy bytes l new.file.now new.field.now read
    → GivenBy (telling_of new) new.file.now.rows source given left → IsAt bytes read source new.leaf → k ≡ min 1024 left → k + new.rows ≡ left → after ≡ before ++ replicate k (triplet 0 0 None) → StreamGoesOn bytes l given before after new b
rows_on bytes l read given source before after k left b new calm e t h tells at m r joined = by b e
  where
    null : Triplet
    null = triplet 0 0 None

    given_is : (n : ℕ) × (n + left ≡ new.file.now.rows) × (given ≡ replicate n null)
    given_is = subst (λ x. GivenBy x new.file.now.rows source given left) t tells

    goes_on : IsStreamOf bytes l (given ++ replicate k null) new
    goes_on =
        stream_of bytes l read (given ++ replicate k null) source new calm h at
        (same_telling (telling_of new) nulls new.file.now.rows new.rows source (given ++ replicate k null) t
        (given_is.0 + k, omega (arith, given_is.1, r), ap (λ xs. xs ++ replicate k null) given_is.2 ∙ sym (replicate_append given_is.0 k null)))

    by : (x : Bool) → x ≡ nat_lt 0 k → StreamGoesOn bytes l given before after new x
    by true f = (replicate k null, joined, goes_on)
    by false f =
        let z : k ≡ 0 = none_of k (sym f) in
        let none : given ++ replicate k null ≡ given = ap (λ j. given ++ replicate j null) z ∙ append-nil given in
        let n : given_is.0 ≡ new.file.now.rows = omega (arith, given_is.1, m, z) in
        let all : given ≡ replicate new.file.now.rows null = given_is.2 ∙ ap (λ j. replicate j null) n in
        let chunks : chunks_of new.field.now ≡ [] = h.nowhere t in
        let column : IsColumnOf bytes l (told nulls new.file.now.rows []) =
        subst (λ x. IsColumnOf bytes l (told x new.file.now.rows [])) t (h.good [] (ap (λ cs. leaf_triplets bytes new.file.now.footer read cs) chunks)) in
        (joined ∙ (ap (λ j. before ++ replicate j null) z ∙ append-nil before), subst (λ us. IsColumnOf bytes l us) (sym all) column, subst (λ us. IsStreamOf bytes l us new) none goes_on)

-- ---- a leaf for which another stands in

-- more came of the other
pub outline_on : (bytes : List ℕ) (l read : Leaf) (given source more : List Triplet) (r d left : ℕ) (new : Stream) → refused_of new ≡ None → telling_of new ≡ outlined r d → IsToldBy bytes l new.file.now new.field.now read
    → GivenBy (telling_of new) new.file.now.rows source given left → IsAt bytes read (source ++ more) new.leaf → IsStreamOf bytes l (given ++ outline r d more) new
outline_on bytes l read given source more r d left new calm t h tells at =
    let e : given ≡ outline r d source = subst (λ x. GivenBy x new.file.now.rows source given left) t tells in
    stream_of bytes l read (given ++ outline r d more) (source ++ more) new calm h at
    (same_telling (telling_of new) (outlined r d) new.file.now.rows new.rows (source ++ more) (given ++ outline r d more) t (ap (λ xs. xs ++ outline r d more) e ∙ sym (outline_append r d source more)))

-- nothing more came of it
pub outline_same : (bytes : List ℕ) (l read : Leaf) (given source more : List Triplet) (r d left : ℕ) (new : Stream) → refused_of new ≡ None → telling_of new ≡ outlined r d → IsToldBy bytes l new.file.now new.field.now read
    → GivenBy (telling_of new) new.file.now.rows source given left → IsAt bytes read (source ++ more) new.leaf → length more ≡ 0 → IsStreamOf bytes l given new
outline_same bytes l read given source more r d left new calm t h tells at n =
    subst (λ us. IsStreamOf bytes l us new) (ap (λ xs. given ++ outline r d xs) (none_from more n) ∙ append-nil given) (outline_on bytes l read given source more r d left new calm t h tells at)

-- what was given is the column
pub outline_column : (bytes : List ℕ) (l read : Leaf) (given source : List Triplet) (r d left : ℕ) (s : Stream) → telling_of s ≡ outlined r d → IsToldBy bytes l s.file.now s.field.now read
    → GivenBy (telling_of s) s.file.now.rows source given left → leaf_triplets bytes s.file.now.footer read (chunks_of s.field.now) ≡ Some source → IsColumnOf bytes l given
outline_column bytes l read given source r d left s t h tells whole =
    let e : given ≡ outline r d source = subst (λ x. GivenBy x s.file.now.rows source given left) t tells in
    subst (λ us. IsColumnOf bytes l us) (ap (λ x. told x s.file.now.rows source) t ∙ sym e) (h.good source whole)
