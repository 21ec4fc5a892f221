-- The pages and chunks of columns, one after another.
use Rattle.std.proofs.Common.{◌≡◌, ◌∙◌, ℕ, zero, suc, ◌+◌, ◌<◌, List, [], ◌∷◌, ◌++◌, length, take, drop, Bool, true, refl, sym, ap, ap₂, append_assoc, length-append, subst, arith, get_or}
use Rattle.std.proofs.lemmas.List.{drop_more}
use Rattle.dr_write.specs.declared.leaf.Leaf.{Leaf}
use Rattle.dr_write.specs.Leaves.{leaf_view, leaves_view}
use Rattle.std.specs.List.{list_all}
use Rattle.std.proofs.lemmas.Bool.{and_parts, and_from}
use Rattle.dr_meaning.specs.Column.{Triplet}
use Rattle.dr_formats.specs.Metadata.{ColumnChunk}
use Rattle.dr_formats.specs.Page.{PageForm, is_triplet}
use Rattle.dr_formats.specs.Writing.{cut_pages}
use Rattle.dr_levels.specs.declared.column.Column.{Column}
use Rattle.dr_levels.specs.Views.{LeafForm, column_view, columns_view, column_form}
use Rattle.dr_write.specs.Cutting.{records_of}
use Rattle.dr_write.specs.Chunks.{WrittenLeaf, page_of, pages_of, chunk_of, leaf_chunk, column_chunk, chunks_of, IsFor, AreFor}

all_front : (p : Triplet → Bool) (n : ℕ) (ts : List Triplet) → list_all p ts ≡ true → list_all p (take n ts) ≡ true
all_front p zero ts h = refl
all_front p (suc n) [] h = refl
all_front p (suc n) (t ∷ ts) h = let q : (p t ≡ true) × (list_all p ts ≡ true) = and_parts _ _ h in and_from _ _ q.0 (all_front p n ts q.1)

all_rest : (p : Triplet → Bool) (n : ℕ) (ts : List Triplet) → list_all p ts ≡ true → list_all p (drop n ts) ≡ true
all_rest p zero ts h = h
all_rest p (suc n) [] h = refl
all_rest p (suc n) (t ∷ ts) h = let q : (p t ≡ true) × (list_all p ts ≡ true) = and_parts _ _ h in all_rest p n ts q.1

-- the front of triplets that can be written, by the form of its leaf
pub writable_front : (f g : LeafForm) (r n : ℕ) (ts us : List Triplet) → f ≡ g → us ≡ take n ts → list_all (is_triplet g.kind r g.greatest) ts ≡ true → list_all (is_triplet f.kind r f.greatest) us ≡ true
writable_front f g r n ts us e d h =
    ap₂ (λ (x : LeafForm) (xs : List Triplet). list_all (is_triplet x.kind r x.greatest) xs) e d ∙ all_front (is_triplet g.kind r g.greatest) n ts h

-- what follows it
pub writable_rest : (g : LeafForm) (r n : ℕ) (ts us : List Triplet) → us ≡ drop n ts → list_all (is_triplet g.kind r g.greatest) ts ≡ true → list_all (is_triplet g.kind r g.greatest) us ≡ true
writable_rest g r n ts us d h = ap (list_all (is_triplet g.kind r g.greatest)) d ∙ all_rest (is_triplet g.kind r g.greatest) n ts h

-- one page more
pub page_joins : (form : PageForm) (f e g : LeafForm) (r n : ℕ) (o q whole : List ℕ) (v v0 v1 : List Triplet) → f ≡ e → e ≡ g → v0 ≡ take n v → v1 ≡ drop n v → q ≡ o ++ page_of form f.kind r f.greatest v0
    → cut_pages e.kind [] (records_of v) ≡ take n v ∷ cut_pages e.kind [] (records_of (drop n v)) → o ++ chunk_of form g.kind r g.greatest v ≡ whole → q ++ chunk_of form g.kind r g.greatest v1 ≡ whole
page_joins form f e g r n o q whole v v0 v1 fe eg a b j c w =
    let d : cut_pages g.kind [] (records_of v) ≡ take n v ∷ cut_pages g.kind [] (records_of (drop n v)) = subst (λ (x : LeafForm). cut_pages x.kind [] (records_of v) ≡ take n v ∷ cut_pages x.kind [] (records_of (drop n v))) eg c in
    let h : q ≡ o ++ page_of form g.kind r g.greatest (take n v) = j ∙ ap₂ (λ (x : LeafForm) (xs : List Triplet). o ++ page_of form x.kind r x.greatest xs) (fe ∙ eg) a in
    ap₂ (λ (x : List ℕ) (xs : List Triplet). x ++ chunk_of form g.kind r g.greatest xs) h b
    ∙ (append_assoc o (page_of form g.kind r g.greatest (take n v)) (chunk_of form g.kind r g.greatest (drop n v))
    ∙ (ap (λ (ps : List (List Triplet)). o ++ pages_of form g.kind r g.greatest ps) (sym d) ∙ w))

-- ---- one chunk more

pub chunk_joined : (form : PageForm) (l : WrittenLeaf) (c : Column) (o q : List ℕ) → IsFor l c → q ≡ o ++ chunk_of form (column_form c).kind l.max_repetition (column_form c).greatest (column_view c) → q ≡ o ++ leaf_chunk form l (column_view c)
chunk_joined form l c o q h e = e ∙ ap (λ (f : LeafForm). o ++ chunk_of form f.kind l.max_repetition f.greatest (column_view c)) h.0

pub chunk_length : (form : PageForm) (l : WrittenLeaf) (ts : List Triplet) (o q : List ℕ) → q ≡ o ++ leaf_chunk form l ts → length q ≡ length o + length (leaf_chunk form l ts)
chunk_length form l ts o q e = ap length e ∙ length-append o (leaf_chunk form l ts)

pub bytes_join : (form : PageForm) (l : WrittenLeaf) (ls : List WrittenLeaf) (ts : List Triplet) (cs : List (List Triplet)) (o q whole : List ℕ) → q ≡ o ++ leaf_chunk form l ts
    → o ++ (chunks_of form (l ∷ ls) (ts ∷ cs) (length o)).bytes ≡ whole → q ++ (chunks_of form ls cs (length q)).bytes ≡ whole
bytes_join form l ls ts cs o q whole e w =
    ap₂ (λ (x : List ℕ) (n : ℕ). x ++ (chunks_of form ls cs n).bytes) e (chunk_length form l ts o q e)
    ∙ (append_assoc o (leaf_chunk form l ts) (chunks_of form ls cs (length o + length (leaf_chunk form l ts))).bytes ∙ w)

pub columns_join : (form : PageForm) (l : WrittenLeaf) (ls : List WrittenLeaf) (ts : List Triplet) (cs : List (List Triplet)) (o q : List ℕ) (us vs whole : List ColumnChunk) → q ≡ o ++ leaf_chunk form l ts
    → vs ≡ us ++ (column_chunk l (length ts) (length o) (length (leaf_chunk form l ts)) ∷ []) → us ++ (chunks_of form (l ∷ ls) (ts ∷ cs) (length o)).columns ≡ whole → vs ++ (chunks_of form ls cs (length q)).columns ≡ whole
columns_join form l ls ts cs o q us vs whole e d w =
    ap₂ (λ (x : List ColumnChunk) (n : ℕ). x ++ (chunks_of form ls cs n).columns) d (chunk_length form l ts o q e)
    ∙ (append_assoc us (column_chunk l (length ts) (length o) (length (leaf_chunk form l ts)) ∷ []) (chunks_of form ls cs (length o + length (leaf_chunk form l ts))).columns ∙ w)

-- what a loop over leaves keeps: there are columns for those that are left, whose chunks are still to join
abbrev pub Left : PageForm → List Leaf → List Column → List ℕ → List ColumnChunk → List ℕ → List ColumnChunk → Type 0
Left form ls cs o us bytes chunks = AreFor (leaves_view ls) cs × (o ++ (chunks_of form (leaves_view ls) (columns_view cs) (length o)).bytes ≡ bytes)
    × (us ++ (chunks_of form (leaves_view ls) (columns_view cs) (length o)).columns ≡ chunks)

pub leaf_joins : (form : PageForm) (l : Leaf) (rest now : List Leaf) (c : Column) (behind here : List Column) (o q bytes : List ℕ) (us vs chunks : List ColumnChunk) (u : ColumnChunk) (n place size : ℕ)
    → now ≡ l ∷ rest → here ≡ c ∷ behind → q ≡ o ++ chunk_of form (column_form c).kind l.max_repetition (column_form c).greatest (column_view c)
    → n ≡ length (column_view c) → place ≡ length o → size + place ≡ length q → u ≡ column_chunk (leaf_view l) n place size → vs ≡ us ++ (u ∷ [])
    → Left form now here o us bytes chunks → Left form rest behind q vs bytes chunks
leaf_joins form l rest now c behind here o q bytes us vs chunks u n place size en eh eq e1 e2 e3 eu ev h =
    let k : Left form (l ∷ rest) (c ∷ behind) o us bytes chunks = subst (λ (x : List Leaf). Left form x (c ∷ behind) o us bytes chunks) en (subst (λ (x : List Column). Left form now x o us bytes chunks) eh h) in
    let j : q ≡ o ++ leaf_chunk form (leaf_view l) (column_view c) = chunk_joined form (leaf_view l) c o q k.0.0 eq in
    let z : size ≡ length (leaf_chunk form (leaf_view l) (column_view c)) = omega (arith, e2, e3, chunk_length form (leaf_view l) (column_view c) o q j) in
    let d : u ≡ column_chunk (leaf_view l) (length (column_view c)) (length o) (length (leaf_chunk form (leaf_view l) (column_view c))) = eu ∙ (ap₂ (λ (x y : ℕ). column_chunk (leaf_view l) x y size) e1 e2 ∙ ap (column_chunk (leaf_view l) (length (column_view c)) (length o)) z) in
    let f : vs ≡ us ++ (column_chunk (leaf_view l) (length (column_view c)) (length o) (length (leaf_chunk form (leaf_view l) (column_view c))) ∷ []) = ev ∙ ap (λ (x : ColumnChunk). us ++ (x ∷ [])) d in (
      k.0.1,
      bytes_join form (leaf_view l) (leaves_view rest) (column_view c) (columns_view behind) o q bytes j k.1,
      columns_join form (leaf_view l) (leaves_view rest) (column_view c) (columns_view behind) o q us vs chunks j f k.2,
    )

-- as many leaves as columns
pub are_many : (ls : List WrittenLeaf) (cs : List Column) → AreFor ls cs → length ls ≡ length cs
are_many [] [] h = refl
are_many [] (c ∷ cs) h = absurd h
are_many (l ∷ ls) [] h = absurd h
are_many (l ∷ ls) (c ∷ cs) h = ap suc (are_many ls cs h.1)

-- what stands at a place
pub there : {A : Type 0} (xs : List A) (i : ℕ) (x : A) → i < length xs → x ≡ get_or xs i x → drop i xs ≡ x ∷ drop (i + 1) xs
there xs i x h e = drop_more xs i x h ∙ ap (λ y. y ∷ drop (i + 1) xs) (sym e)
