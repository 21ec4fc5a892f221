-- Where a stream of a leaf's triplets stands.
use Rattle.std.proofs.Common.{◌≡◌, ◌≢◌, ℕ, zero, suc, ◌+◌, ◌-◌, ◌≤◌, ◌<◌, ◌⊎◌, inl, inr, List, [], ◌∷◌, ◌++◌, length, map, take, drop, get_or, Bool, true, false, refl, sym, ap, ap₂, ◌∙◌, subst, append_assoc, arith}
use Rattle.std.specs.Prelude.{Option, Some, None, Result, Ok, Err, OnOk, nat_le, ◌==◌, ◌&&◌}
use Rattle.std.proofs.lemmas.Bool.{and_parts, leb-true, eqb-true, eq-eqb}
use Rattle.std.proofs.lemmas.List.{append-nil, drop_more, drop_all, take_all, length-drop}
use Rattle.dr_meaning.specs.Path.{Leaf}
use Rattle.dr_meaning.specs.Column.{Triplet}
use Rattle.dr_meaning.specs.OneColumn.{starts, is_in_order}
use Rattle.dr_formats.specs.Chunk.{pages_triplets}
use Rattle.dr_formats.specs.Opening.{Range, range}
use Rattle.dr_levels.specs.declared.triplet.Levels.{Levels}
use Rattle.dr_levels.specs.Views.{levels_pair, triplet_levels}
use Rattle.dr_chunk.specs.declared.byte_range.ByteRange.{ByteRange}
use Rattle.dr_chunk.specs.Ranges.{inside}
use Rattle.dr_chunk.specs.Takers.{IsLeafOf}
use Rattle.dr_chunk.specs.Taking as taking
use Rattle.dr_chunk.specs.Taking.{joins, BeginWith, IsTaking}
use Rattle.dr_chunk.proofs.TakingLemmas.{joins_assoc, joins_parts, joins_nothing, same_list}
use Rattle.dr_chunk.specs.declared.chunk_reader.ChunkReader.{ChunkReader}
use Rattle.dr_chunk.specs.declared.fault.ChunkFault.{ChunkFault}
use Rattle.dr_file.specs.declared.chunk_place.ChunkPlace.{ChunkPlace}
use Rattle.dr_file.specs.declared.leaf_stream.LeafStream.{LeafStream}
use Rattle.dr_file.specs.declared.row_order.RowOrder.{RowOrder}
use Rattle.dr_file.specs.Openings.{ShownChunk, chunk_place_view}
use Rattle.dr_file.specs.Floors.{AreFloorsOf, strip}
use Rattle.dr_file.specs.RowOrders.{are_rows, IsOrder}
use Rattle.dr_file.specs.LeafColumns.{lies_before}
use Rattle.dr_file.specs.LeafStreams.{footer_of, leaf_of, shown_chunks, good_triplets, leaf_triplets, to_come, InChunk, Between, Within, IsAt}
use Rattle.dr_file.proofs.LeafStreamLemmas.{rows_by_levels, map_append, none_before, none_spelled, none_in_rows, all_good, good_spelled}

-- ---- what follows of a place

front_of : (bytes : List ℕ) (l : Leaf) (given : List Triplet) (s : LeafStream) → Between bytes l given s ⊎ Within bytes l given s → (ts : List Triplet) → leaf_triplets bytes (footer_of s) l (shown_chunks s) ≡ Some ts → BeginWith given ts
front_of bytes l given s (inl h) ts e =
    let p = joins_parts (Some given) (to_come bytes l s) ts (sym h.all ∙ e) in
    (p.1, p.4 ∙ ap (λ xs. xs ++ p.1) (sym (same_list given p.0 p.2)))
front_of bytes l given s (inr w) ts e =
    let h = w.in_chunk in
    let p = joins_parts (Some h.before) (joins (good_triplets bytes (footer_of s) l h.chunk) (to_come bytes l s)) ts (sym h.all ∙ e) in
    let q = joins_parts (good_triplets bytes (footer_of s) l h.chunk) (to_come bytes l s) p.1 p.3 in
    let g = h.takes.front q.0 (good_spelled bytes (footer_of s) l h.chunk (taking.range_of s.reader) q.0 h.lies h.spans q.2) in (
      g.0 ++ q.1,
      p.4 ∙ (ap₂ (λ xs ys. xs ++ ys) (sym (same_list h.before p.0 p.2)) (q.4 ∙ ap (λ xs. xs ++ q.1) g.1)
          ∙ (ap (λ xs. h.before ++ xs) (append_assoc h.read g.0 q.1) ∙ (sym (append_assoc h.before h.read (g.0 ++ q.1)) ∙ ap (λ xs. xs ++ (g.0 ++ q.1)) (sym h.parts)))),
    )

pub is_at : (bytes : List ℕ) (l : Leaf) (given : List Triplet) (s : LeafStream) → IsLeafOf l s.shape → AreFloorsOf l.path s.floors → footer_of s ≤ length bytes → Between bytes l given s ⊎ Within bytes l given s → IsAt bytes l given s
is_at bytes l given s leaf floors within place = record {
  leaf = leaf;
  floors = floors;
  within = within;
  place = place;
  front = λ ts e. front_of bytes l given s place ts e;
}

-- before the first chunk
pub at_start : (bytes : List ℕ) (l : Leaf) (s : LeafStream) → IsLeafOf l s.shape → AreFloorsOf l.path s.floors → footer_of s ≤ length bytes → taking.left_of s.reader ≡ 0 → s.next ≡ 0 → IsAt bytes l [] s
at_start bytes l s leaf floors within z n =
    is_at bytes l [] s leaf floors within (inl (record {
      over = z;
      all = sym (joins_nothing (to_come bytes l s) ∙ ap (λ k. leaf_triplets bytes (footer_of s) l (map chunk_place_view (drop k (leaf_of s).chunks.items))) n);
    }))

-- with nothing left it stands between chunks
pub between_of : (bytes : List ℕ) (l : Leaf) (given : List Triplet) (s : LeafStream) → IsAt bytes l given s → taking.left_of s.reader ≡ 0 → Between bytes l given s
between_of bytes l given s h z = by h.place
  where
    by : Between bytes l given s ⊎ Within bytes l given s → Between bytes l given s
    by (inl b) = b
    by (inr w) = absurd (omega (arith, w.more, z))

-- else in a chunk
pub in_chunk_of : (bytes : List ℕ) (l : Leaf) (given : List Triplet) (s : LeafStream) → IsAt bytes l given s → 0 < taking.left_of s.reader → InChunk bytes l given s
in_chunk_of bytes l given s h z = by h.place
  where
    by : Between bytes l given s ⊎ Within bytes l given s → InChunk bytes l given s
    by (inl b) = absurd (omega (arith, b.over, z))
    by (inr w) = w.in_chunk

-- behind the last chunk all was given
pub all_given : (bytes : List ℕ) (l : Leaf) (given : List Triplet) (s : LeafStream) → IsAt bytes l given s → taking.left_of s.reader ≡ 0 → length (leaf_of s).chunks.items ≤ s.next → leaf_triplets bytes (footer_of s) l (shown_chunks s) ≡ Some given
all_given bytes l given s h z n =
    let none : drop s.next (leaf_of s).chunks.items ≡ [] = drop_all s.next (leaf_of s).chunks.items n in
    (between_of bytes l given s h z).all ∙ (ap (λ cs. joins (Some given) (leaf_triplets bytes (footer_of s) l (map chunk_place_view cs))) none ∙ ap (λ xs. Some xs) (append-nil given))

-- ---- the next chunk

-- those that come are those of the next chunk, and of the chunks behind it
next_comes : (bytes : List ℕ) (footer : ℕ) (l : Leaf) (cs : List ChunkPlace) (i : ℕ) (c : ChunkPlace) → i < length cs → c ≡ get_or cs i c
    → leaf_triplets bytes footer l (map chunk_place_view (drop i cs)) ≡ joins (good_triplets bytes footer l (chunk_place_view c)) (leaf_triplets bytes footer l (map chunk_place_view (drop (i + 1) cs)))
next_comes bytes footer l cs i c w e =
    ap (λ xs. leaf_triplets bytes footer l (map chunk_place_view xs)) (drop_more cs i c w)
    ∙ ap (λ x. joins (good_triplets bytes footer l (chunk_place_view x)) (leaf_triplets bytes footer l (map chunk_place_view (drop (i + 1) cs)))) (sym e)

pub chunk_begun : (bytes : List ℕ) (l : Leaf) (given : List Triplet) (s new : LeafStream) (c : ChunkPlace) → IsAt bytes l given s → taking.left_of s.reader ≡ 0 → s.next < length (leaf_of s).chunks.items
    → c ≡ get_or (leaf_of s).chunks.items s.next c → lies_before (footer_of s) (chunk_place_view c) ≡ true → inside (taking.range_of new.reader) ≡ range c.start c.size
    → IsTaking l c.values bytes [] new.reader → IsOrder l.path c.rows [] new.order → new.next ≡ s.next + 1 → leaf_of new ≡ leaf_of s → footer_of new ≡ footer_of s → InChunk bytes l given new
chunk_begun bytes l given s new c h z w e lies spans takes order n leaf footer = record {
  chunk = chunk_place_view c;
  lies = ap (λ k. lies_before k (chunk_place_view c)) footer ∙ lies;
  spans = spans;
  before = given;
  read = [];
  parts = sym (append-nil given);
  takes = takes;
  order = order;
  all =
      ap₂ (λ k o. leaf_triplets bytes k l (map chunk_place_view o.chunks.items)) footer leaf
      ∙ ((between_of bytes l given s h z).all
      ∙ (ap (λ o. joins (Some given) o) (next_comes bytes (footer_of s) l (leaf_of s).chunks.items s.next c w e)
      ∙ (ap₂ (λ k o. joins (Some given) (joins (good_triplets bytes k l (chunk_place_view c)) (leaf_triplets bytes k l (map chunk_place_view (drop (s.next + 1) o.chunks.items))))) (sym footer) (sym leaf)
      ∙ ap (λ j. joins (Some given) (joins (good_triplets bytes (footer_of new) l (chunk_place_view c)) (leaf_triplets bytes (footer_of new) l (map chunk_place_view (drop j (leaf_of new).chunks.items))))) (sym n))));
}

-- one that doesn't lie before the footer
pub chunk_outside : (bytes : List ℕ) (l : Leaf) (given : List Triplet) (s : LeafStream) (c : ChunkPlace) → IsAt bytes l given s → taking.left_of s.reader ≡ 0 → s.next < length (leaf_of s).chunks.items
    → c ≡ get_or (leaf_of s).chunks.items s.next c → lies_before (footer_of s) (chunk_place_view c) ≡ false → leaf_triplets bytes (footer_of s) l (shown_chunks s) ≡ None
chunk_outside bytes l given s c h z w e lies =
    (between_of bytes l given s h z).all
    ∙ (ap (λ o. joins (Some given) o) (next_comes bytes (footer_of s) l (leaf_of s).chunks.items s.next c w e)
    ∙ ap (λ o. joins (Some given) (joins o (leaf_triplets bytes (footer_of s) l (map chunk_place_view (drop (s.next + 1) (leaf_of s).chunks.items))))) (none_before bytes (footer_of s) l (chunk_place_view c) lies))

-- ---- in a chunk

chunk_bad : (bytes : List ℕ) (l : Leaf) (given : List Triplet) (s : LeafStream) (h : InChunk bytes l given s) → good_triplets bytes (footer_of s) l h.chunk ≡ None → leaf_triplets bytes (footer_of s) l (shown_chunks s) ≡ None
chunk_bad bytes l given s h e = h.all ∙ ap (λ o. joins (Some h.before) (joins o (to_come bytes l s))) e

-- its bytes spell nothing
pub reader_refused : (bytes : List ℕ) (l : Leaf) (given : List Triplet) (s : LeafStream) (h : InChunk bytes l given s) → pages_triplets l h.chunk.values (taking.chunk_of bytes (taking.range_of s.reader)) ≡ None
    → leaf_triplets bytes (footer_of s) l (shown_chunks s) ≡ None
reader_refused bytes l given s h e = chunk_bad bytes l given s h (none_spelled bytes (footer_of s) l h.chunk (taking.range_of s.reader) h.lies h.spans e)

and_true : (a b : Bool) → a ≡ true → b ≡ true → (a && b) ≡ true
and_true true b e f = f
and_true false b e f = absurd (cc)

and_false : (a b : Bool) → b ≡ false → (a && b) ≡ false
and_false true b e = e
and_false false b e = refl

not_equal : (a b : ℕ) → (a ≡ b → ⊥) → (a == b) ≡ false
not_equal a b h = by (a == b) refl
  where
    by : (x : Bool) → (a == b) ≡ x → x ≡ false
    by false e = refl
    by true e = absurd (h (eqb-true a b e))

-- all its triplets were given, and all its rows have begun
closed : (bytes : List ℕ) (l : Leaf) (given : List Triplet) (s : LeafStream) → InChunk bytes l given s → taking.left_of s.reader ≡ 0 → s.order.rows ≡ 0 → Between bytes l given s
closed bytes l given s h z n =
    let rows : are_rows l.path h.chunk.rows h.read ≡ true =
    sym (rows_by_levels l.path h.chunk.rows h.read) ∙ and_true _ _ h.order.order (eq-eqb _ _ (omega (arith, h.order.begun, n))) in
    let g : good_triplets bytes (footer_of s) l h.chunk ≡ Some h.read = all_good bytes (footer_of s) l h.chunk (taking.range_of s.reader) h.read h.lies h.spans (h.takes.whole z) rows in
    record {
      over = z;
      all =
          h.all ∙ (ap (λ o. joins (Some h.before) (joins o (to_come bytes l s))) g
          ∙ (joins_assoc h.before h.read (to_come bytes l s) ∙ ap (λ xs. joins (Some xs) (to_come bytes l s)) (sym h.parts)));
    }

-- all of a chunk was read, and some of its rows haven't begun
no_rows_read : (l : Leaf) (rows wanted : ℕ) (bytes : List ℕ) (reader : ChunkReader) (read : List Triplet) (order : RowOrder) → IsTaking l wanted bytes read reader → IsOrder l.path rows (map strip read) order
    → taking.left_of reader ≡ 0 → order.rows ≢ 0 → (ts : List Triplet) → pages_triplets l wanted (taking.chunk_of bytes (taking.range_of reader)) ≡ Some ts → are_rows l.path rows ts ≡ false
no_rows_read l rows wanted bytes reader read order takes h z n ts e =
    let q : ts ≡ read = same_list ts read (sym e ∙ takes.whole z) in
    let k : (starts (map strip read) == rows) ≡ false = not_equal (starts (map strip read)) rows (λ f. n (omega (arith, h.begun, f))) in
    ap (are_rows l.path rows) q ∙ (sym (rows_by_levels l.path rows read) ∙ and_false (is_in_order l.path (map strip read)) (starts (map strip read) == rows) k)

-- where its rows have all begun once its triplets were given, it is a place
pub place_of : (bytes : List ℕ) (l : Leaf) (given : List Triplet) (s : LeafStream) → InChunk bytes l given s → (taking.left_of s.reader ≡ 0 → s.order.rows ≡ 0) → Between bytes l given s ⊎ Within bytes l given s
place_of bytes l given s h f = by (taking.left_of s.reader) refl
  where
    by : (n : ℕ) → taking.left_of s.reader ≡ n → Between bytes l given s ⊎ Within bytes l given s
    by zero e = inl (closed bytes l given s h e (f e))
    by (suc n) e = inr (record { more = omega (arith, e); in_chunk = h })

-- more of it was given
pub more_read : (bytes : List ℕ) (l : Leaf) (given more : List Triplet) (levels : List Triplet) (s new : LeafStream) (h : InChunk bytes l given s) → levels ≡ map strip more → IsTaking l h.chunk.values bytes (h.read ++ more) new.reader
    → taking.range_of new.reader ≡ taking.range_of s.reader → IsOrder l.path h.chunk.rows (map strip h.read ++ levels) new.order
    → new.next ≡ s.next → leaf_of new ≡ leaf_of s → footer_of new ≡ footer_of s → InChunk bytes l (given ++ more) new
more_read bytes l given more levels s new h e takes r order n leaf footer = record {
  chunk = h.chunk;
  lies = ap (λ k. lies_before k h.chunk) footer ∙ h.lies;
  spans = ap inside r ∙ h.spans;
  before = h.before;
  read = h.read ++ more;
  parts = ap (λ xs. xs ++ more) h.parts ∙ append_assoc h.before h.read more;
  takes = takes;
  order = subst (λ xs. IsOrder l.path h.chunk.rows xs new.order) (ap (λ xs. map strip h.read ++ xs) e ∙ sym (map_append h.read more)) order;
  all =
      ap₂ (λ k o. leaf_triplets bytes k l (map chunk_place_view o.chunks.items)) footer leaf
      ∙ (h.all
      ∙ (ap₂ (λ k o. joins (Some h.before) (joins (good_triplets bytes k l h.chunk) (leaf_triplets bytes k l (map chunk_place_view (drop s.next o.chunks.items))))) (sym footer) (sym leaf)
      ∙ ap (λ j. joins (Some h.before) (joins (good_triplets bytes (footer_of new) l h.chunk) (leaf_triplets bytes (footer_of new) l (map chunk_place_view (drop j (leaf_of new).chunks.items))))) (sym n)));
}

-- all of it was given, and some of its rows haven't begun
pub rows_lack : (bytes : List ℕ) (l : Leaf) (given more levels : List Triplet) (s : LeafStream) (reader : ChunkReader) (order : RowOrder) (h : InChunk bytes l given s) → levels ≡ map strip more → IsTaking l h.chunk.values bytes (h.read ++ more) reader
    → taking.range_of reader ≡ taking.range_of s.reader → IsOrder l.path h.chunk.rows (map strip h.read ++ levels) order → taking.left_of reader ≡ 0 → order.rows ≢ 0 → leaf_triplets bytes (footer_of s) l (shown_chunks s) ≡ None
rows_lack bytes l given more levels s reader order h e takes r o z n =
    let o′ : IsOrder l.path h.chunk.rows (map strip (h.read ++ more)) order = subst (λ xs. IsOrder l.path h.chunk.rows xs order) (ap (λ xs. map strip h.read ++ xs) e ∙ sym (map_append h.read more)) o in
    chunk_bad bytes l given s h (none_in_rows bytes (footer_of s) l h.chunk (taking.range_of s.reader) h.lies h.spans
    (λ ts g. no_rows_read l h.chunk.rows h.chunk.values bytes reader (h.read ++ more) order takes o′ z n ts (ap (λ x. pages_triplets l h.chunk.values (taking.chunk_of bytes x)) r ∙ g)))

-- what more was given of it goes on as no rows do
pub order_refused : (bytes : List ℕ) (l : Leaf) (given more levels : List Triplet) (s : LeafStream) (reader : ChunkReader) (h : InChunk bytes l given s) → levels ≡ map strip more → IsTaking l h.chunk.values bytes (h.read ++ more) reader
    → taking.range_of reader ≡ taking.range_of s.reader → ((rest : List Triplet) → are_rows l.path h.chunk.rows (map strip h.read ++ (levels ++ rest)) ≡ false)
    → leaf_triplets bytes (footer_of s) l (shown_chunks s) ≡ None
order_refused bytes l given more levels s reader h e takes r f =
    chunk_bad bytes l given s h (none_in_rows bytes (footer_of s) l h.chunk (taking.range_of s.reader) h.lies h.spans (λ ts g. no_rows ts g))
  where
    no_rows : (ts : List Triplet) → pages_triplets l h.chunk.values (taking.chunk_of bytes (taking.range_of s.reader)) ≡ Some ts → are_rows l.path h.chunk.rows ts ≡ false
    no_rows ts g =
        let p = takes.front ts (ap (λ x. pages_triplets l h.chunk.values (taking.chunk_of bytes x)) r ∙ g) in
        let q : map strip ts ≡ map strip h.read ++ (levels ++ map strip p.0) =
        ap (map strip) (p.1 ∙ append_assoc h.read more p.0) ∙ (map_append h.read (more ++ p.0) ∙ ap (λ xs. map strip h.read ++ xs) (map_append more p.0 ∙ ap (λ xs. xs ++ map strip p.0) (sym e))) in
        sym (rows_by_levels l.path h.chunk.rows ts) ∙ (ap (are_rows l.path h.chunk.rows) q ∙ f (map strip p.0))

-- ---- what a call leaves

-- where its rows were seen to have begun
pub place_checked : {X : Type 0} (o : Result X ChunkFault) (bytes : List ℕ) (l : Leaf) (given : List Triplet) (s : LeafStream) → IsLeafOf l s.shape → AreFloorsOf l.path s.floors → footer_of s ≤ length bytes → InChunk bytes l given s
    → (taking.left_of s.reader ≡ 0 → OnOk o (s.order.rows ≡ 0)) → OnOk o (IsAt bytes l given s)
place_checked (Ok x) bytes l given s leaf floors within h f = is_at bytes l given s leaf floors within (place_of bytes l given s h f)
place_checked (Err e) bytes l given s leaf floors within h f = tt

-- a chunk before the footer lies in the file
pub lies_within : (footer n : ℕ) (c : ShownChunk) (r : ByteRange) → lies_before footer c ≡ true → inside r ≡ range c.start c.size → footer ≤ n → r.start + r.size ≤ n
lies_within footer n c r l e w =
    let p : c.start + c.size ≤ footer = leb-true (c.start + c.size) footer (and_parts (nat_le 4 c.start) (nat_le (c.start + c.size) footer) l).1 in
    let a : r.start ≡ c.start = ap (λ (x : Range). x.place) e in
    let b : r.size ≡ c.size = ap (λ (x : Range). x.size) e in
    omega arith

-- a chunk without triplets, of which rows are wanted
pub begun_rows_lack : (bytes : List ℕ) (l : Leaf) (given : List Triplet) (s : LeafStream) (c : ChunkPlace) (reader : ChunkReader) (order : RowOrder) → IsAt bytes l given s → taking.left_of s.reader ≡ 0 → s.next < length (leaf_of s).chunks.items
    → c ≡ get_or (leaf_of s).chunks.items s.next c → lies_before (footer_of s) (chunk_place_view c) ≡ true → inside (taking.range_of reader) ≡ range c.start c.size → IsTaking l c.values bytes [] reader → IsOrder l.path c.rows [] order
    → taking.left_of reader ≡ 0 → order.rows ≢ 0 → leaf_triplets bytes (footer_of s) l (shown_chunks s) ≡ None
begun_rows_lack bytes l given s c reader order h z w e lies spans takes o none n =
    (between_of bytes l given s h z).all
    ∙ (ap (λ x. joins (Some given) x) (next_comes bytes (footer_of s) l (leaf_of s).chunks.items s.next c w e)
    ∙ ap (λ x. joins (Some given) (joins x (leaf_triplets bytes (footer_of s) l (map chunk_place_view (drop (s.next + 1) (leaf_of s).chunks.items)))))
    (none_in_rows bytes (footer_of s) l (chunk_place_view c) (taking.range_of reader) lies spans (λ ts g. no_rows_read l c.rows c.values bytes reader [] order takes o none n ts g)))
