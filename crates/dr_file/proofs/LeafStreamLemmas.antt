-- The column of a leaf, a batch at a time.
use Rattle.std.proofs.Common.{◌≡◌, ◌≢◌, ℕ, zero, suc, ◌+◌, ◌-◌, ◌≤◌, ◌<◌, inl, inr, List, [], ◌∷◌, ◌++◌, length, map, take, drop, get_or, Bool, true, false, refl, sym, ap, ap₂, ◌∙◌, subst, append_assoc, arith}
use Rattle.std.specs.Prelude.{Option, Some, None, option_map, nat_le, ◌==◌, ◌&&◌, ◌||◌, if◌then◌else◌}
use Rattle.std.specs.List.{list_all, list_any, flat_map, slice_get}
use Rattle.std.proofs.lemmas.Option.{slice_get_read}
use Rattle.std.proofs.lemmas.Bool.{and_parts, leb-true, eqb-true, eq-eqb, false≢true, true≢false}
use Rattle.std.proofs.lemmas.List.{append-nil, drop_more, drop_all, take_all, length-drop, length-append}
use Rattle.std.proofs.lemmas.List.Folds.{list_any-append}
use Rattle.dr_meaning.specs.Path.{Step, Leaf, max_repetition, max_definition}
use Rattle.dr_meaning.specs.Column.{Triplet, triplet}
use Rattle.dr_meaning.specs.OneColumn.{starts, fits_levels, all_follow, may_follow, is_in_order, is_column}
use Rattle.dr_formats.specs.Chunk.{pages_triplets}
use Rattle.dr_formats.specs.Opening.{Range, range, is_inside, has_column}
use Rattle.dr_levels.specs.declared.triplet.Levels.{Levels}
use Rattle.dr_levels.specs.Views.{levels_pair, triplet_levels}
use Rattle.dr_outside.specs.Link.{Request, LinkShown, size_of, bytes_of}
use Rattle.dr_outside.specs.Telling.{AsksOnly}
use Rattle.dr_outside.specs.Leaving.{LeavesLink, ServesUntil}
use Rattle.dr_chunk.specs.declared.byte_range.ByteRange.{ByteRange}
use Rattle.dr_chunk.specs.declared.fault.ChunkFault.{ChunkFault}
use Rattle.dr_chunk.specs.Ranges.{is_read_inside, inside}
use Rattle.dr_chunk.specs.Taking as taking
use Rattle.dr_chunk.specs.Taking.{joins, BeginWith, IsTaking}
use Rattle.dr_chunk.proofs.TakingLemmas.{joins_assoc, joins_parts, joins_nothing, same_list}
use Rattle.dr_file.specs.declared.chunk_place.ChunkPlace.{ChunkPlace}
use Rattle.dr_file.specs.Openings.{ShownChunk, chunk_place_view}
use Rattle.dr_file.specs.ChunkPlaces.{all_values}
use Rattle.dr_file.specs.Floors.{bare, strip}
use Rattle.dr_file.specs.RowOrders.{are_rows, IsOrder}
use Rattle.dr_file.specs.LeafColumns.{lies_before, shown_triplets, is_good_chunk, triplets_given, chunks_triplets, shown_range, HasChunk}
use Rattle.dr_file.specs.LeafStreams.{good_triplets, leaf_triplets}
use Rattle.dr_file.proofs.FitLemmas.{pages_fit}
use Rattle.dr_file.proofs.AskLemmas.{asks_weaker}

-- ---- triplets by their levels

first_pair : (a c : ℕ × ℕ) (xs ys : List (ℕ × ℕ)) → a ∷ xs ≡ c ∷ ys → (a.0 ≡ c.0) × (a.1 ≡ c.1) × (xs ≡ ys)
first_pair a c xs ys e = let q : a ≡ c = cc in (ap (λ (p : ℕ × ℕ). p.0) q, ap (λ (p : ℕ × ℕ). p.1) q, cc)

bare_is : (ls : List Levels) (ts : List Triplet) → map levels_pair ls ≡ map triplet_levels ts → map bare ls ≡ map strip ts
bare_is [] [] e = refl
bare_is [] (t ∷ ts) e = absurd (cc)
bare_is (l ∷ ls) [] e = absurd (cc)
bare_is (l ∷ ls) (t ∷ ts) e =
    let p = first_pair (levels_pair l) (triplet_levels t) (map levels_pair ls) (map triplet_levels ts) e in
    ap₂ (λ x xs. x ∷ xs) (ap₂ (λ r d. triplet r d None) p.0 p.1) (bare_is ls ts p.2)

strip_follow : (p : List Step) (t : Triplet) (ts : List Triplet) → all_follow p (strip t) (map strip ts) ≡ all_follow p t ts
strip_follow p t [] = refl
strip_follow p t (u ∷ us) = ap (λ b. may_follow p t.definition u.definition u.repetition && b) (strip_follow p u us)

strip_order : (p : List Step) (ts : List Triplet) → is_in_order p (map strip ts) ≡ is_in_order p ts
strip_order p [] = refl
strip_order p (t ∷ ts) = ap (λ b. (t.repetition == 0) && b) (strip_follow p t ts)

strip_starts : (ts : List Triplet) → starts (map strip ts) ≡ starts ts
strip_starts [] = refl
strip_starts (t ∷ ts) = ap (λ n. (if t.repetition == 0 then 1 else 0) + n) (strip_starts ts)

-- triplets are whole rows exactly if their levels are
pub rows_by_levels : (p : List Step) (rows : ℕ) (ts : List Triplet) → are_rows p rows (map strip ts) ≡ are_rows p rows ts
rows_by_levels p rows ts = ap₂ (λ x k. x && (k == rows)) (strip_order p ts) (strip_starts ts)

pub map_append : (ts us : List Triplet) → map strip (ts ++ us) ≡ map strip ts ++ map strip us
map_append [] us = refl
map_append (t ∷ ts) us = ap (λ xs. strip t ∷ xs) (map_append ts us)

mapped_drop : {A B : Type 0} (f : A → B) (n : ℕ) (xs : List A) → map f (drop n xs) ≡ drop n (map f xs)
mapped_drop f zero xs = refl
mapped_drop f (suc n) [] = refl
mapped_drop f (suc n) (x ∷ xs) = mapped_drop f n xs

behind_front : {A : Type 0} (xs ys : List A) → drop (length xs) (xs ++ ys) ≡ ys
behind_front [] ys = refl
behind_front (x ∷ xs) ys = behind_front xs ys

test_of : (l : Leaf) (rows : ℕ) (ts : List Triplet) → list_all (fits_levels l.kind (max_repetition l.path) (max_definition l.path)) ts ≡ true → is_column l rows ts ≡ (is_in_order l.path ts && (starts ts == rows))
test_of l rows ts h = ap (λ a. (a && is_in_order l.path ts) && (starts ts == rows)) h

-- levels behind the first so many are those of the triplets there
pub levels_behind : (ls : List Levels) (n : ℕ) (ts : List Triplet) → map levels_pair ls ≡ map triplet_levels ts → map bare (drop n ls) ≡ map strip (drop n ts)
levels_behind ls n ts h = bare_is (drop n ls) (drop n ts) (mapped_drop levels_pair n ls ∙ (ap (drop n) h ∙ sym (mapped_drop triplet_levels n ts)))

pub none_behind : (ls : List Levels) (n : ℕ) (ts : List Triplet) → map levels_pair ls ≡ map triplet_levels ts → length ls < n → [] ≡ map strip (drop n ts)
none_behind ls n ts h w = ap (map bare) (sym (drop_all n ls (omega (arith, w)))) ∙ levels_behind ls n ts h

-- the triplets that joined, and those before
pub joined_behind : (n : ℕ) (old new more : List Triplet) → new ≡ old ++ more → n ≡ length old → drop n new ≡ more
joined_behind n old new more e m = ap₂ (λ k xs. drop k xs) m e ∙ behind_front old more

front_kept : {A : Type 0} (xs ys : List A) → take (length xs) (xs ++ ys) ≡ xs
front_kept [] ys = refl
front_kept (x ∷ xs) ys = ap (λ zs. x ∷ zs) (front_kept xs ys)

pub joined_before : (n : ℕ) (old new more : List Triplet) → new ≡ old ++ more → n ≡ length old → take n new ≡ old
joined_before n old new more e m = ap₂ (λ k xs. take k xs) m e ∙ front_kept old more

-- ---- chunks that are good, and others

spelled_by : (l : Leaf) (rows wanted : ℕ) (chunk : List ℕ) (ts : List Triplet) (o : Option (List Triplet)) → pages_triplets l wanted chunk ≡ o → o ≡ Some ts → has_column l rows o ≡ are_rows l.path rows ts
spelled_by l rows wanted chunk ts o e f = ap (has_column l rows) f ∙ test_of l rows ts (pages_fit l wanted chunk ts (e ∙ f))

shown_if : (b : Bool) (o : Option (List Triplet)) → b ≡ true → (if b then o else None) ≡ o
shown_if true o e = refl
shown_if false o e = absurd (cc)

same_part : (a b c d : ℕ) (bytes : List ℕ) → range a b ≡ range c d → take b (drop a bytes) ≡ take d (drop c bytes)
same_part a b c d bytes e = ap (λ (r : Range). take r.size (drop r.place bytes)) e

-- the triplets of a chunk before the footer
shown_is : (bytes : List ℕ) (footer : ℕ) (l : Leaf) (c : ShownChunk) (r : ByteRange) → lies_before footer c ≡ true → inside r ≡ range c.start c.size
    → shown_triplets bytes footer l c ≡ pages_triplets l c.values (taking.chunk_of bytes r)
shown_is bytes footer l c r w e =
    shown_if (lies_before footer c) (pages_triplets l c.values (take c.size (drop c.start bytes))) w
    ∙ ap (pages_triplets l c.values) (sym (same_part r.start r.size c.start c.size bytes e))

good_if : (b : Bool) (o : Option (List Triplet)) → b ≡ false → (if b then o else None) ≡ None
good_if true o e = absurd (false≢true (sym e))
good_if false o e = refl

-- of one that isn't there nothing is good
pub none_good : (bytes : List ℕ) (footer : ℕ) (l : Leaf) (c : ShownChunk) → shown_triplets bytes footer l c ≡ None → good_triplets bytes footer l c ≡ None
none_good bytes footer l c e = good_if (is_good_chunk bytes footer l c) (shown_triplets bytes footer l c) (ap (has_column l c.rows) e)

pub none_before : (bytes : List ℕ) (footer : ℕ) (l : Leaf) (c : ShownChunk) → lies_before footer c ≡ false → good_triplets bytes footer l c ≡ None
none_before bytes footer l c w = none_good bytes footer l c (good_if (lies_before footer c) (pages_triplets l c.values (take c.size (drop c.start bytes))) w)

pub none_spelled : (bytes : List ℕ) (footer : ℕ) (l : Leaf) (c : ShownChunk) (r : ByteRange) → lies_before footer c ≡ true → inside r ≡ range c.start c.size → pages_triplets l c.values (taking.chunk_of bytes r) ≡ None
    → good_triplets bytes footer l c ≡ None
none_spelled bytes footer l c r w e h = none_good bytes footer l c (shown_is bytes footer l c r w e ∙ h)

-- a chunk whose triplets, if it spells any, are no rows
pub none_in_rows : (bytes : List ℕ) (footer : ℕ) (l : Leaf) (c : ShownChunk) (r : ByteRange) → lies_before footer c ≡ true → inside r ≡ range c.start c.size
    → ((ts : List Triplet) → pages_triplets l c.values (taking.chunk_of bytes r) ≡ Some ts → are_rows l.path c.rows ts ≡ false) → good_triplets bytes footer l c ≡ None
none_in_rows bytes footer l c r w e h = good_if (is_good_chunk bytes footer l c) (shown_triplets bytes footer l c) (ap (has_column l c.rows) (shown_is bytes footer l c r w e) ∙ by (pages_triplets l c.values (taking.chunk_of bytes r)) refl)
  where
    by : (o : Option (List Triplet)) → pages_triplets l c.values (taking.chunk_of bytes r) ≡ o → has_column l c.rows o ≡ false
    by None f = refl
    by (Some ts) f = spelled_by l c.rows c.values (taking.chunk_of bytes r) ts (Some ts) f refl ∙ h ts f

-- a chunk whose triplets are whole rows
pub all_good : (bytes : List ℕ) (footer : ℕ) (l : Leaf) (c : ShownChunk) (r : ByteRange) (ts : List Triplet) → lies_before footer c ≡ true → inside r ≡ range c.start c.size
    → pages_triplets l c.values (taking.chunk_of bytes r) ≡ Some ts → are_rows l.path c.rows ts ≡ true → good_triplets bytes footer l c ≡ Some ts
all_good bytes footer l c r ts w e f h =
    let s : shown_triplets bytes footer l c ≡ pages_triplets l c.values (taking.chunk_of bytes r) = shown_is bytes footer l c r w e in
    let g : is_good_chunk bytes footer l c ≡ true = ap (has_column l c.rows) s ∙ (spelled_by l c.rows c.values (taking.chunk_of bytes r) ts (pages_triplets l c.values (taking.chunk_of bytes r)) refl f ∙ h) in
    shown_if (is_good_chunk bytes footer l c) (shown_triplets bytes footer l c) g ∙ (s ∙ f)

-- what is good of a chunk is spelled by it
pub good_spelled : (bytes : List ℕ) (footer : ℕ) (l : Leaf) (c : ShownChunk) (r : ByteRange) (ts : List Triplet) → lies_before footer c ≡ true → inside r ≡ range c.start c.size
    → good_triplets bytes footer l c ≡ Some ts → pages_triplets l c.values (taking.chunk_of bytes r) ≡ Some ts
good_spelled bytes footer l c r ts w e h = sym (shown_is bytes footer l c r w e) ∙ by (is_good_chunk bytes footer l c) (shown_triplets bytes footer l c) h
  where
    by : (b : Bool) (o : Option (List Triplet)) → (if b then o else None) ≡ Some ts → o ≡ Some ts
    by true o f = f
    by false o f = absurd (cc)

-- ---- the triplets of all chunks

-- they are there where each chunk is good
pub all_are_good : (bytes : List ℕ) (footer : ℕ) (l : Leaf) (cs : List ShownChunk) (ts : List Triplet) → leaf_triplets bytes footer l cs ≡ Some ts
    → (list_all (is_good_chunk bytes footer l) cs ≡ true) × (ts ≡ chunks_triplets bytes footer l cs)
all_are_good bytes footer l [] ts e = (refl, sym (same_list [] ts e))
all_are_good bytes footer l (c ∷ cs) ts e =
    let p = joins_parts (good_triplets bytes footer l c) (leaf_triplets bytes footer l cs) ts e in
    let r = all_are_good bytes footer l cs p.1 p.3 in
    let g = by (is_good_chunk bytes footer l c) (shown_triplets bytes footer l c) p.0 p.2 in
    (ap₂ (λ x y. x && y) g.0 r.0, p.4 ∙ ap₂ (λ xs ys. xs ++ ys) g.1 r.1)
  where
    by : (b : Bool) (o : Option (List Triplet)) (us : List Triplet) → (if b then o else None) ≡ Some us → (b ≡ true) × (us ≡ triplets_given o)
    by true None us f = absurd (cc)
    by true (Some vs) us f = (refl, sym (same_list vs us f))
    by false o us f = absurd (cc)

-- where they aren't, one isn't good
pub one_is_bad : (bytes : List ℕ) (footer : ℕ) (l : Leaf) (cs : List ShownChunk) → leaf_triplets bytes footer l cs ≡ None → list_all (is_good_chunk bytes footer l) cs ≡ false
one_is_bad bytes footer l [] e = absurd (cc)
one_is_bad bytes footer l (c ∷ cs) e = by (shown_triplets bytes footer l c) (leaf_triplets bytes footer l cs) refl refl (λ g. one_is_bad bytes footer l cs g) e
  where
    by : (o more : Option (List Triplet)) → shown_triplets bytes footer l c ≡ o → leaf_triplets bytes footer l cs ≡ more → (leaf_triplets bytes footer l cs ≡ None → list_all (is_good_chunk bytes footer l) cs ≡ false)
        → joins (good_triplets bytes footer l c) (leaf_triplets bytes footer l cs) ≡ None → list_all (is_good_chunk bytes footer l) (c ∷ cs) ≡ false
    by None more f g r h = ap (λ b. b && list_all (is_good_chunk bytes footer l) cs) (ap (has_column l c.rows) f)
    by (Some ts) None f g r h = and_right (is_good_chunk bytes footer l c) (r g)
      where
        and_right : (a : Bool) {b : Bool} → b ≡ false → (a && b) ≡ false
        and_right true i = i
        and_right false i = refl
    by (Some ts) (Some us) f g r h = test (is_good_chunk bytes footer l c) refl
      where
        test : (b : Bool) → is_good_chunk bytes footer l c ≡ b → list_all (is_good_chunk bytes footer l) (c ∷ cs) ≡ false
        test false i = ap (λ b. b && list_all (is_good_chunk bytes footer l) cs) i
        test true i =
            let a : good_triplets bytes footer l c ≡ Some ts = shown_if (is_good_chunk bytes footer l c) (shown_triplets bytes footer l c) i ∙ f in
            let z : Some (ts ++ us) ≡ None = sym (ap₂ (λ x y. joins x y) a g) ∙ h in
            absurd (cc)

-- ---- what is asked for

one_of : (t : Range → Bool) (rs : List Range) (r : Range) → rs ≡ r ∷ [] → t r ≡ true → list_any t rs ≡ true
one_of t rs r e h = ap (list_any t) e ∙ ap (λ b. b || false) h

later : (a : Bool) {b : Bool} → b ≡ true → (a || b) ≡ true
later true e = refl
later false e = e

shown_at : (footer : ℕ) (c : ChunkPlace) (r : Range) → Some (lies_before footer (chunk_place_view c)) ≡ Some true → Some (range c.start c.size) ≡ Some r → shown_range footer (chunk_place_view c) ≡ r ∷ []
shown_at footer c r l e =
    let w : lies_before footer (chunk_place_view c) ≡ true = cc in
    let q : range c.start c.size ≡ r = cc in
    ap (λ b. if b then range c.start c.size ∷ [] else []) w ∙ ap (λ x. x ∷ []) q

-- what is inside the range of one chunk is inside one of all
any_inside : (t : Range → Bool) (footer : ℕ) (cs : List ChunkPlace) (i : ℕ) (r : Range) → option_map (λ (c : ChunkPlace). lies_before footer (chunk_place_view c)) (slice_get cs i) ≡ Some true
    → option_map (λ (c : ChunkPlace). range c.start c.size) (slice_get cs i) ≡ Some r → t r ≡ true → list_any t (flat_map (shown_range footer) (map chunk_place_view cs)) ≡ true
any_inside t footer [] i r l e h = absurd (cc)
any_inside t footer (c ∷ cs) zero r l e h =
    list_any-append t (shown_range footer (chunk_place_view c)) (flat_map (shown_range footer) (map chunk_place_view cs))
    ∙ ap (λ b. b || list_any t (flat_map (shown_range footer) (map chunk_place_view cs))) (one_of t (shown_range footer (chunk_place_view c)) r (shown_at footer c r l e) h)
any_inside t footer (c ∷ cs) (suc i) r l e h =
    list_any-append t (shown_range footer (chunk_place_view c)) (flat_map (shown_range footer) (map chunk_place_view cs))
    ∙ later (list_any t (shown_range footer (chunk_place_view c))) (any_inside t footer cs i r l e h)

and_later : (a b c : Bool) → (b ≡ true → c ≡ true) → (a && b) ≡ true → (a && c) ≡ true
and_later true b c f h = f h
and_later false b c f h = h

alone : (a : Bool) → (a || false) ≡ true → a ≡ true
alone true h = refl
alone false h = h

read_inside_more : (path : List ℕ) (footer : ℕ) (cs : List ChunkPlace) (next : ℕ) (b : ByteRange) → HasChunk footer cs next b → (r : Request) → is_read_inside path (inside b ∷ []) r ≡ true
    → is_read_inside path (flat_map (shown_range footer) (map chunk_place_view cs)) r ≡ true
read_inside_more path footer cs next b k (size_of p) h = h
read_inside_more path footer cs next b k (bytes_of r) h =
    and_later _ _ _ (λ e. any_inside (is_inside (range r.start r.len)) footer cs (next - 1) (inside b) k.1 k.2 (alone (is_inside (range r.start r.len) (inside b)) e)) h

-- what is asked for of one chunk is asked for of all
pub asks_chunk : (path : List ℕ) (footer : ℕ) (cs : List ChunkPlace) (next : ℕ) (b : ByteRange) (before after : Option (List Request)) → HasChunk footer cs next b → AsksOnly (is_read_inside path (inside b ∷ [])) before after
    → AsksOnly (is_read_inside path (flat_map (shown_range footer) (map chunk_place_view cs))) before after
asks_chunk path footer cs next b before after k h =
    asks_weaker (is_read_inside path (inside b ∷ [])) (is_read_inside path (flat_map (shown_range footer) (map chunk_place_view cs))) before after (read_inside_more path footer cs next b k) h

-- a chunk that was begun
pub has_chunk : (footer : ℕ) (cs : List ChunkPlace) (i next : ℕ) (c : ChunkPlace) (b : ByteRange) → i < length cs → c ≡ get_or cs i c → next ≡ i + 1 → lies_before footer (chunk_place_view c) ≡ true → inside b ≡ range c.start c.size → HasChunk footer cs next b
has_chunk footer cs i next c b w at n l e =
    let k : next - 1 ≡ i = omega (arith, n) in
    let g : slice_get cs (next - 1) ≡ Some c = ap (slice_get cs) k ∙ slice_get_read cs (length cs) i c refl w at in
    (omega (arith, n), ap (option_map (λ (x : ChunkPlace). lies_before footer (chunk_place_view x))) g ∙ ap (λ x. Some x) l, ap (option_map (λ (x : ChunkPlace). range x.start x.size)) g ∙ ap (λ x. Some x) (sym e))
