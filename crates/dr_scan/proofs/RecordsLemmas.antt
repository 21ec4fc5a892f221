-- Of which records a file is by its columns, and what the faults of its parts say of it.
use Rattle.std.proofs.Common.{◌≡◌, ℕ, zero, suc, List, [], ◌∷◌, map, Option, Some, None, Bool, true, false, refl, sym, ap, ap₂, ◌∙◌, subst}
use Rattle.std.specs.List.{list_all, slice_get}
use Rattle.std.proofs.lemmas.Bool.{and_parts, and_from}
use Rattle.std.proofs.lemmas.List.Folds.{list_all-append}
use Rattle.std.proofs.lemmas.Simd.{map-map}
use Rattle.dr_meaning.specs.Schema.{Schema, Fields}
use Rattle.dr_meaning.specs.Path.{Step, Leaf, leaves, is_leaf_path, paths_of_leaves}
use Rattle.dr_meaning.specs.Record.{Node}
use Rattle.dr_meaning.specs.Column.{Triplet, column}
use Rattle.dr_nested.specs.PathView.{path_view, paths_view}
use Rattle.dr_nested.specs.declared.path.Path.{Path}
use Rattle.dr_formats.specs.Lacking.{leaf_read}
use Rattle.dr_formats.specs.File.{Footer, footer_of, leaf_source, leaves_read, given_column, AreColumns, IsDataOf, IsFileOf, bad_footer, bad_schema, bad_codec, bad_data, HasCause}
use Rattle.dr_formats.specs.Opening.{opening_cause}
use Rattle.dr_formats.proofs.OpeningLemmas.{opening_cause_holds, leaf_cause_is_exact}
use Rattle.dr_formats.proofs.ColumnsFit.{EachLeaf}
use Rattle.dr_formats.proofs.ColumnRows.{leaf_paths}
use Rattle.dr_walk.specs.declared.fault.AssembleFault.{AssembleFault}
use Rattle.dr_outside.specs.declared.cause.Cause.{Cause}
use Rattle.dr_file.specs.OpenedFiles.{IsOpened, IsCauseOf, is_link_fault}
use Rattle.dr_file.specs.declared.opened.Opened.{Opened}
use Rattle.dr_file.specs.declared.file_fault.FileFault.{FileFault}
use Rattle.dr_scan.specs.FileRecords.{AreLeavesOf, AreOfFile, IsFaultOf, AreColumnsOf, AreColumnsOfFile, SomeIsBad, IsColumnsFault, assemble_fault, triplets_at}
use Rattle.dr_scan.proofs.FewLemmas.{columns_alike}
use Rattle.dr_formats.specs.Writing.{triplet_count}
use Rattle.dr_walk.specs.Walking.{HasColumns, NoneHas}

-- ---- leaves and their paths

pub paths_same : (ps : List Path) → paths_view ps ≡ paths_of_leaves (map path_view ps)
paths_same [] = refl
paths_same (p ∷ ps) = ap (λ (qs : List (List Step)). (path_view p).path ∷ qs) (paths_same ps)

nth_of : (P : Leaf → Type 0) (ls : List Leaf) (i : ℕ) (l : Leaf) → EachLeaf P ls → slice_get ls i ≡ Some l → P l
nth_of P [] i l h e = let no : None ≡ Some l = e in cc
nth_of P (m ∷ ls) zero l h e = let is : Some m ≡ Some l = e in let same : m ≡ l = cc in subst P same h.0
nth_of P (m ∷ ls) (suc i) l h e = nth_of P ls i l h.1 e

leaf_paths_of : (fs : Fields) (F : List Leaf) → AreLeavesOf fs F → list_all (is_leaf_path fs) (paths_of_leaves F) ≡ true
leaf_paths_of fs [] h = refl
leaf_paths_of fs (l ∷ F) h = and_from _ _ (nth_of (λ l. is_leaf_path fs l.path ≡ true) (leaves fs) h.0.0 l (leaf_paths fs) h.0.1) (leaf_paths_of fs F h.1)

pub have_leaf_paths : (fs : Fields) (ps : List Path) → AreLeavesOf fs (map path_view ps) → list_all (is_leaf_path fs) (paths_view ps) ≡ true
have_leaf_paths fs ps h = ap (list_all (is_leaf_path fs)) (paths_same ps) ∙ leaf_paths_of fs (map path_view ps) h

pub leaf_at : (fs : Fields) (F : List Leaf) (i : ℕ) (l : Leaf) → AreLeavesOf fs F → slice_get F i ≡ Some l → (k : ℕ) × (slice_get (leaves fs) k ≡ Some l)
leaf_at fs [] i l h e = let no : None ≡ Some l = e in cc
leaf_at fs (m ∷ F) zero l h e = let is : Some m ≡ Some l = e in let same : m ≡ l = cc in subst (λ (x : Leaf). (k : ℕ) × (slice_get (leaves fs) k ≡ Some x)) same h.0
leaf_at fs (m ∷ F) (suc i) l h e = leaf_at fs F i l h.1 e

-- ---- opening

pub opened_fault : (bytes : List ℕ) (s : Schema) (F : List Leaf) (e : FileFault) → IsCauseOf e (opening_cause bytes F) → IsFaultOf bytes s F e
opened_fault bytes s F FileFault.NoMemory h = tt
opened_fault bytes s F (FileFault.Why (Cause.ReadFailed before after)) h = tt
opened_fault bytes s F (FileFault.Why Cause.BadFooter) h = opening_cause_holds bytes s F bad_footer h
opened_fault bytes s F (FileFault.Why Cause.BadSchema) h = opening_cause_holds bytes s F bad_schema h
opened_fault bytes s F (FileFault.Why Cause.BadCodec) h = opening_cause_holds bytes s F bad_codec h
opened_fault bytes s F (FileFault.Why Cause.BadData) h = opening_cause_holds bytes s F bad_data h

-- ---- columns

-- a test of what is read for some leaves is one of what is read for one of them
pub read_at : (f : Footer) (p : Leaf → Bool) (F : List Leaf) (i : ℕ) (l : Leaf) → list_all p (leaves_read f F) ≡ true → slice_get F i ≡ Some l → list_all p (leaves_read f (l ∷ [])) ≡ true
read_at f p [] i l h e = let no : None ≡ Some l = e in cc
read_at f p (m ∷ F) zero l h e =
    let is : Some m ≡ Some l = e in
    let same : m ≡ l = cc in
    let k = and_parts (list_all p (leaf_read m (leaf_source f m))) (list_all p (leaves_read f F)) (sym (list_all-append p (leaf_read m (leaf_source f m)) (leaves_read f F)) ∙ h) in
    subst (λ (x : Leaf). list_all p (leaves_read f (x ∷ [])) ≡ true) same (list_all-append p (leaf_read m (leaf_source f m)) [] ∙ and_from _ _ k.0 refl)
read_at f p (m ∷ F) (suc i) l h e =
    read_at f p F i l (and_parts (list_all p (leaf_read m (leaf_source f m))) (list_all p (leaves_read f F)) (sym (list_all-append p (leaf_read m (leaf_source f m)) (leaves_read f F)) ∙ h)).1 e

first_same : {A : Type 0} → (x y : A) (xs ys : List A) → x ∷ xs ≡ y ∷ ys → (x ≡ y) × (xs ≡ ys)
first_same x y xs ys e = (cc, cc)

column_at : (bytes : List ℕ) (f : Footer) (F : List Leaf) (R : List Node) (i : ℕ) (l : Leaf) → AreColumns bytes f F R → slice_get F i ≡ Some l → AreColumns bytes f (l ∷ []) R
column_at bytes f [] R i l h e = let no : None ≡ Some l = e in cc
column_at bytes f (m ∷ F) R zero l h e =
    let is : Some m ≡ Some l = e in
    let same : m ≡ l = cc in
    let k = first_same (given_column bytes f m) (Some (column m.path R)) (map (given_column bytes f) F) (map (λ (x : Leaf). Some (column x.path R)) F) h in
    subst (λ (x : Leaf). AreColumns bytes f (x ∷ []) R) same (ap (λ (c : Option (List Triplet)). c ∷ []) k.0)
column_at bytes f (m ∷ F) R (suc i) l h e =
    let k = first_same (given_column bytes f m) (Some (column m.path R)) (map (given_column bytes f) F) (map (λ (x : Leaf). Some (column x.path R)) F) h in
    column_at bytes f F R i l k.1 e

pub data_at : (bytes : List ℕ) (f : Footer) (s : Schema) (F : List Leaf) (R : List Node) (i : ℕ) (l : Leaf) → slice_get F i ≡ Some l → IsDataOf bytes f s F R → IsDataOf bytes f s (l ∷ []) R
data_at bytes f s F R i l e d = (d.0, read_at f _ F i l d.1 e, d.2, d.3, column_at bytes f F R i l d.4 e)

pub same_footer : (f g : Footer) (o : Option Footer) → o ≡ Some f → o ≡ Some g → f ≡ g
same_footer f g o h k = let e = sym h ∙ k in cc

bad_leaf : (bytes : List ℕ) (s : Schema) (F : List Leaf) (o : Opened) → IsOpened bytes F o → AreLeavesOf s.fields F → SomeIsBad bytes F → HasCause bytes s F bad_data
bad_leaf bytes s F o h are bad =
    let f = h.1.0 in
    let k = leaf_at s.fields F bad.0 bad.1 are bad.2 in
    let cause : HasCause bytes s (bad.1 ∷ []) bad_data = (leaf_cause_is_exact bytes s k.0 bad.1 bad_data k.1).0 bad.3 in
    let same : cause.0 ≡ f = same_footer cause.0 f (footer_of bytes) cause.1 h.1.1 in
    (f, h.1.1, h.1.2, h.1.3, λ R d. cause.4 R (subst (λ (x : Footer). IsDataOf bytes x s (bad.1 ∷ []) R) (sym same) (data_at bytes f s F R bad.0 bad.1 bad.2 d)))

pub columns_fault : (bytes : List ℕ) (s : Schema) (F : List Leaf) (o : Opened) (e : FileFault) → IsOpened bytes F o → AreLeavesOf s.fields F → IsColumnsFault bytes F e → IsFaultOf bytes s F e
columns_fault bytes s F o FileFault.NoMemory h are k = tt
columns_fault bytes s F o (FileFault.Why (Cause.ReadFailed before after)) h are k = tt
columns_fault bytes s F o (FileFault.Why Cause.BadFooter) h are k = absurd k
columns_fault bytes s F o (FileFault.Why Cause.BadSchema) h are k = absurd k
columns_fault bytes s F o (FileFault.Why Cause.BadCodec) h are k = absurd k
columns_fault bytes s F o (FileFault.Why Cause.BadData) h are k = bad_leaf bytes s F o h are k

-- ---- records

columns_are : (bytes : List ℕ) (F : List Leaf) (cs : List (List Triplet)) (f : Footer) → footer_of bytes ≡ Some f → AreColumnsOf bytes F cs → map (given_column bytes f) F ≡ map Some cs
columns_are bytes [] [] f e h = refl
columns_are bytes [] (c ∷ cs) f e h = absurd h
columns_are bytes (l ∷ F) [] f e h = absurd h
columns_are bytes (l ∷ F) (c ∷ cs) f e h =
    let same : h.0.1 ≡ f = same_footer h.0.1 f (footer_of bytes) h.0.2 e in
    ap₂ (λ (x : Option (List Triplet)) (xs : List (Option (List Triplet))). x ∷ xs) (subst (λ (x : Footer). given_column bytes x l ≡ Some c) same h.0.3) (columns_are bytes F cs f e h.1)

columns_from : (F : List Leaf) (R : List Node) → map (λ (l : Leaf). Some (column l.path R)) F ≡ map Some (map (λ (p : List Step). column p R) (paths_of_leaves F))
columns_from [] R = refl
columns_from (l ∷ F) R = ap (λ (xs : List (Option (List Triplet))). Some (column l.path R) ∷ xs) (columns_from F R)

same_all : {A : Type 0} → (xs ys : List A) → map Some xs ≡ map Some ys → xs ≡ ys
same_all [] [] e = refl
same_all [] (y ∷ ys) e = cc
same_all (x ∷ xs) [] e = cc
same_all (x ∷ xs) (y ∷ ys) e =
    let k = first_same (Some x) (Some y) (map Some xs) (map Some ys) e in
    let here : x ≡ y = cc (k.0) in
    ap₂ (λ z zs. z ∷ zs) here (same_all xs ys k.1)

file_of_columns : (bytes : List ℕ) (s : Schema) (F : List Leaf) (o : Opened) (cs : List (List Triplet)) (R : List Node) → IsOpened bytes F o → AreColumnsOf bytes F cs
    → HasColumns s.fields (paths_of_leaves F) cs o.rows R → IsFileOf bytes s F R
file_of_columns bytes s F o cs R h k c =
    let f = h.1.0 in
    let n = and_parts _ _ h.1.4 in
    (f, h.1.1, h.1.2, h.1.3, (n.0, n.1, c.1 ∙ sym h.1.5, c.0, columns_are bytes F cs f h.1.1 k ∙ sym (columns_from F R ∙ ap (map Some) c.2)))

columns_of_data : (bytes : List ℕ) (s : Schema) (F : List Leaf) (o : Opened) (cs : List (List Triplet)) (f : Footer) (R : List Node) → footer_of bytes ≡ Some f → f.meta.rows ≡ o.rows → AreColumnsOf bytes F cs
    → IsDataOf bytes f s F R → HasColumns s.fields (paths_of_leaves F) cs o.rows R
columns_of_data bytes s F o cs f R e r k d = (d.3, d.2 ∙ r, same_all _ cs (sym (columns_from F R) ∙ (sym d.4 ∙ columns_are bytes F cs f e k)))

no_records : (bytes : List ℕ) (s : Schema) (F : List Leaf) (o : Opened) (cs : List (List Triplet)) → IsOpened bytes F o → AreColumnsOf bytes F cs
    → NoneHas s.fields (paths_of_leaves F) cs o.rows → HasCause bytes s F bad_data
no_records bytes s F o cs h k none =
    let f = h.1.0 in (f, h.1.1, h.1.2, h.1.3, λ R d. none R (columns_of_data bytes s F o cs f R h.1.1 h.1.5 k d))

-- the columns and the rows of an opened file
pub columns_of_file : (bytes : List ℕ) (s : Schema) (F : List Leaf) (o : Opened) (cs : List (List Triplet)) (n : ℕ) → IsOpened bytes F o
    → AreColumnsOf bytes F cs → n ≡ o.rows → AreColumnsOfFile bytes s F cs n
columns_of_file bytes s F o cs n h k e = record {
  file = λ R c. file_of_columns bytes s F o cs R h k (subst (λ (x : ℕ). HasColumns s.fields (paths_of_leaves F) cs x R) e c);
  none = λ none. no_records bytes s F o cs h k (subst (λ (x : ℕ). NoneHas s.fields (paths_of_leaves F) cs x) e none);
}

-- ---- how many triplets a file has

triplets_by_paths : (F : List Leaf) (R : List Node) → triplets_at F R ≡ triplet_count (map (λ (p : List Step). column p R) (paths_of_leaves F))
triplets_by_paths F R = ap triplet_count (sym (map-map (λ (p : List Step). column p R) (λ (l : Leaf). l.path) F))

-- what is read of a file has as many triplets as any records of which it is a file
pub file_triplets : (bytes : List ℕ) (s : Schema) (F : List Leaf) (P R : List Node) → AreOfFile bytes s F P → IsFileOf bytes s F R → triplets_at F P ≡ triplets_at F R
file_triplets bytes s F P R a b =
    let f = a.1.0 in
    let G : List (List Step) = paths_of_leaves F in
    let same : b.0 ≡ f = same_footer b.0 f (footer_of bytes) b.1 a.1.1 in
    let other : AreColumns bytes f F R = subst (λ (x : Footer). AreColumns bytes x F R) same b.4.4 in
    let columns : map (λ (p : List Step). column p a.0) G ≡ map (λ (p : List Step). column p R) G = same_all _ _ (sym (columns_from F a.0) ∙ (sym a.1.4.4 ∙ (other ∙ columns_from F R))) in
    triplets_by_paths F P
    ∙ (ap (λ (Q : List Node). triplet_count (map (λ (p : List Step). column p Q) G)) a.2
    ∙ (ap triplet_count (columns_alike G G (λ q e. e) a.0) ∙ (ap triplet_count columns ∙ sym (triplets_by_paths F R))))

-- what isn't put together is no failure of the link
pub assembled_alone : (e : AssembleFault) → is_link_fault (assemble_fault e) ≡ false
assembled_alone AssembleFault.NoMemory = refl
assembled_alone AssembleFault.BadData = refl
