-- Chunks of row groups, as they are found.
use Rattle.std.proofs.Common.{◌≡◌, ℕ, zero, suc, ◌+◌, ◌≤◌, ◌<◌, List, [], ◌∷◌, ◌++◌, map, length, drop, get_or, Bool, true, refl, sym, ap, ap₂, ◌∙◌, subst, take, arith}
use Rattle.std.specs.Prelude.{Option, Some, None, option_map, ◌&&◌}
use Rattle.std.specs.List.{list_all}
use Rattle.std.proofs.lemmas.Bool.{and_parts}
use Rattle.std.proofs.lemmas.List.Folds.{list_all-append}
use Rattle.std.proofs.lemmas.List.{drop_more, take_more, map_push, length-map, length-take-le}
use Rattle.dr_meaning.specs.Path.{Leaf}
use Rattle.dr_formats.specs.Metadata.{ColumnMeta, ColumnChunk, RowGroup}
use Rattle.dr_formats.specs.File.{nth_chunk, total, chunk_values}
use Rattle.dr_file.specs.declared.chunk_place.ChunkPlace.{ChunkPlace}
use Rattle.dr_file.specs.ChunkPlaces.{all_values}
use Rattle.dr_file.specs.Groups.{chunk_of}
use Rattle.dr_file.specs.Openings.{ShownChunk, chunk_place_view, shown_chunk, shown_chunks, ShownField, shown_by, shown_by_each}
use Rattle.dr_formats.specs.FileSchema.{FileSchema}
use Rattle.dr_open.specs.Sources.{source_in_file}
use Rattle.dr_open.specs.SourceViews.{source_view, IsPlaced}
use Rattle.dr_open.specs.declared.column_source.LeafSource.{LeafSource}
use Rattle.dr_file.specs.Sources.{AreSources, place_read, places_read, IsBelow, AreBelow}

pub nth_there : {A : Type 0} (see : A → ColumnChunk) (xs : List A) (i : ℕ) (d : A) → i < length xs → nth_chunk (map see xs) i ≡ Some (see (get_or xs i d))
nth_there see [] i d h = absurd (omega arith)
nth_there see (x ∷ xs) zero d h = refl
nth_there see (x ∷ xs) (suc i) d h = nth_there see xs i d (omega arith)

pub nth_missing : {A : Type 0} (see : A → ColumnChunk) (xs : List A) (i : ℕ) → length xs ≤ i → nth_chunk (map see xs) i ≡ None
nth_missing see [] i h = refl
nth_missing see (x ∷ xs) zero h = absurd (omega arith)
nth_missing see (x ∷ xs) (suc i) h = nth_missing see xs i (omega arith)

-- one leaf more
pub shown_more : (gs : List RowGroup) (ls : List Leaf) (ss : List LeafSource) (l : Leaf) (x : LeafSource) → length ls ≡ length ss → shown_by_each gs (ls ++ l ∷ []) (ss ++ x ∷ []) ≡ shown_by_each gs ls ss ++ shown_by gs l x ∷ []
shown_more gs [] [] l x h = refl
shown_more gs [] (y ∷ ss) l x h = absurd (omega (arith, h))
shown_more gs (k ∷ ls) [] l x h = absurd (omega (arith, h))
shown_more gs (k ∷ ls) (y ∷ ss) l x h = ap (λ xs. shown_by gs k y ∷ xs) (shown_more gs ls ss l x (omega (arith, h)))

-- of sources whose places all pass a test, those of the source at an index and those behind it do
pub passes_on : (p : ℕ → Bool) (ss : List LeafSource) (i : ℕ) (d : LeafSource) → i < length ss → list_all p (places_read (drop i ss)) ≡ true
    → (list_all p (place_read (get_or ss i d)) ≡ true) × (list_all p (places_read (drop (i + 1) ss)) ≡ true)
passes_on p ss i d l h =
    and_parts (list_all p (place_read (get_or ss i d))) (list_all p (places_read (drop (i + 1) ss)))
    (sym (list_all-append p (place_read (get_or ss i d)) (places_read (drop (i + 1) ss))) ∙ (sym (ap (λ xs. list_all p (places_read xs)) (drop_more ss i d l)) ∙ h))

-- the next path and the next source
pub below_at : {P : Type 0} (see : P → Leaf) (ps : List P) (ss : List LeafSource) (i : ℕ) (p : P) (x : LeafSource) → i < length ps → length ps ≡ length ss → AreBelow (map see ps) ss → IsBelow (see (get_or ps i p)) (get_or ss i x)
below_at see [] ss i p x l e h = absurd (omega (arith, l))
below_at see (q ∷ ps) [] i p x l e h = absurd (omega (arith, e))
below_at see (q ∷ ps) (y ∷ ss) zero p x l e h = h.0
below_at see (q ∷ ps) (y ∷ ss) (suc i) p x l e h = below_at see ps ss i p x (omega (arith, l)) (omega (arith, e)) h.1

-- one leaf more, from the next path and the next source
pub next_leaf : {O P : Type 0} (gs : List RowGroup) (view : O → ShownField) (os new : List O) (o : O) (see : P → Leaf) (ps : List P) (p : P) (ss : List LeafSource) (x : LeafSource) (k : ℕ)
    → length ps ≡ length ss → k < length ps → new ≡ os ++ o ∷ [] → p ≡ get_or ps k p → x ≡ get_or ss k x → view o ≡ shown_by gs (see p) x
    → map view os ≡ shown_by_each gs (map see (take k ps)) (take k ss) → map view new ≡ shown_by_each gs (map see (take (k + 1) ps)) (take (k + 1) ss)
next_leaf gs view os new o see ps p ss x k n l e h g v m =
    let j : k < length ss = omega (arith, n) in
    let tp : map see (take (k + 1) ps) ≡ map see (take k ps) ++ see p ∷ [] =
    ap (map see) (take_more ps k p l) ∙ (map_push see (take k ps) (get_or ps k p) ∙ ap (λ q. map see (take k ps) ++ see q ∷ []) (sym h)) in
    let ti : take (k + 1) ss ≡ take k ss ++ x ∷ [] = take_more ss k x j ∙ ap (λ y. take k ss ++ y ∷ []) (sym g) in
    let s : length (map see (take k ps)) ≡ length (take k ss) = length-map (take k ps) see ∙ (length-take-le k ps (omega arith) ∙ sym (length-take-le k ss (omega arith))) in
    ap (map view) e ∙ (map_push view os o ∙ (ap₂ (λ xs z. xs ++ z ∷ []) m v
    ∙ (sym (shown_more gs (map see (take k ps)) (take k ss) (see p) x s) ∙ ap₂ (shown_by_each gs) (sym tp) (sym ti))))

-- one source more
sources_more : (o : Option FileSchema) (F : List Leaf) (ss : List LeafSource) (l : Leaf) (x : LeafSource) → AreSources o F ss → source_in_file l o ≡ Some (source_view x) → IsPlaced l o x → AreSources o (F ++ l ∷ []) (ss ++ x ∷ [])
sources_more o [] [] l x h e p = (e, p, tt)
sources_more o [] (y ∷ ss) l x h e p = absurd h
sources_more o (k ∷ F) [] l x h e p = absurd h
sources_more o (k ∷ F) (y ∷ ss) l x h e p = (h.0, h.1, sources_more o F ss l x h.2 e p)

pub next_source : {P : Type 0} (o : Option FileSchema) (see : P → Leaf) (ps : List P) (p : P) (ss new : List LeafSource) (x : LeafSource) (k : ℕ) → k < length ps → new ≡ ss ++ x ∷ [] → p ≡ get_or ps k p
    → AreSources o (map see (take k ps)) ss → Some (source_view x) ≡ source_in_file (see p) o → IsPlaced (see p) o x → AreSources o (map see (take (k + 1) ps)) new
next_source o see ps p ss new x k l e h a b c =
    let tp : map see (take (k + 1) ps) ≡ map see (take k ps) ++ see p ∷ [] =
    ap (map see) (take_more ps k p l) ∙ (map_push see (take k ps) (get_or ps k p) ∙ ap (λ q. map see (take k ps) ++ see q ∷ []) (sym h)) in
    subst (AreSources o (map see (take (k + 1) ps))) (sym e) (subst (λ (F : List Leaf). AreSources o F (ss ++ x ∷ [])) (sym tp) (sources_more o (map see (take k ps)) ss (see p) x a (sym b) c))

-- a test of the leaves from this one on is one of those behind it, where this one passes
pub sourced_on : {P : Type 0} (t : Leaf → Bool) (see : P → Leaf) (ps : List P) (i : ℕ) (p : P) (all : Bool) → i < length ps → p ≡ get_or ps i p → t (see p) ≡ true
    → list_all t (map see (drop i ps)) ≡ all → list_all t (map see (drop (i + 1) ps)) ≡ all
sourced_on t see ps i p all l e h g =
    let q : t (see (get_or ps i p)) ≡ true = sym (ap (λ x. t (see x)) e) ∙ h in
    sym (ap (λ b. b && list_all t (map see (drop (i + 1) ps))) q) ∙ (sym (ap (λ xs. list_all t (map see xs)) (drop_more ps i p l)) ∙ g)

-- chunks as they are shown have so many triplets together
one_shown : (g : RowGroup) (c : ChunkPlace) (o : Option ColumnMeta) → Some (chunk_place_view c) ≡ option_map (shown_chunk g.rows) o → c.values ≡ chunk_values o
one_shown g c None e = absurd (cc)
one_shown g c (Some m) e = let q : chunk_place_view c ≡ shown_chunk g.rows m = cc in ap (λ (x : ShownChunk). x.values) q

pub values_shown : (i : ℕ) (gs : List RowGroup) (cs : List ChunkPlace) → map (λ c. Some (chunk_place_view c)) cs ≡ shown_chunks i gs → all_values cs ≡ total (λ g. chunk_values (chunk_of i g)) gs
values_shown i [] [] h = refl
values_shown i [] (c ∷ cs) h = absurd (cc)
values_shown i (g ∷ gs) [] h = absurd (cc)
values_shown i (g ∷ gs) (c ∷ cs) h =
    let e : Some (chunk_place_view c) ≡ option_map (shown_chunk g.rows) (chunk_of i g) = cc in
    let t : map (λ x. Some (chunk_place_view x)) cs ≡ shown_chunks i gs = cc in
    omega (arith, one_shown g c (chunk_of i g) e, values_shown i gs cs t)
