-- Slices of a file's columns: those that records have, one behind the other; and which records the whole columns may be of.
use Rattle.std.proofs.Common.{◌≡◌, ◌≢◌, ◌≤◌, ◌<◌, ℕ, zero, suc, ◌+◌, List, [], ◌∷◌, ◌++◌, length, map, get_or, Bool, true, false, Option, Some, None, refl, sym, ap, ap₂, ◌∙◌, subst, ◌⊎◌, inl, inr, true≢false, append_assoc, append-nil, arith}
use Rattle.std.specs.Prelude.{◌==◌, Result, Ok, Err, IfOk, slice_set}
use Rattle.dr_levels.specs.declared.column.Column.{Column}
use Rattle.dr_levels.specs.Views.{column_view}
use Rattle.dr_file.specs.declared.file_fault.FileFault.{FileFault}
use Rattle.std.specs.List.{list_all, slice_get}
use Rattle.std.proofs.lemmas.Bool.{and_parts, and_from}
use Rattle.std.proofs.lemmas.List.{length-map}
use Rattle.std.proofs.lemmas.Option.{slice_get_within}
use Rattle.std.proofs.lemmas.List.Folds.{list_all-append}
use Rattle.dr_meaning.specs.Schema.{Schema, Fields}
use Rattle.dr_meaning.specs.Path.{Step, Leaf, is_leaf_path, paths_of_leaves}
use Rattle.dr_meaning.specs.Record.{Node, is_record, project}
use Rattle.dr_meaning.specs.Column.{Triplet, column}
use Rattle.dr_meaning.specs.OneColumn.{starts, begins_record}
use Rattle.dr_meaning.proofs.ColumnStarts.{starts_append, column_rows}
use Rattle.dr_formats.specs.File.{Footer, footer_of, given_column, has_leaves, IsDataOf, IsFileOf, HasCause, bad_data}
use Rattle.dr_formats.proofs.OpeningLemmas.{no_leaf_cause_is_file}
use Rattle.dr_outside.specs.Link.{Files}
use Rattle.dr_walk.specs.Walking.{HasColumns, NoneHas}
use Rattle.dr_beside.specs.Chunks.{IsChunk, AreChunks}
use Rattle.dr_beside.proofs.ChunkLemmas.{column_of_both, none_has_chunk}
use Rattle.dr_file.specs.OpenedFiles.{IsOpened, IsColumnOf, rows_of}
use Rattle.dr_file.specs.declared.opened.Opened.{Opened}
use Rattle.dr_scan.specs.FileRecords.{AreLeavesOf, AreColumnsOf, AreOfFile}
use Rattle.dr_scan.proofs.RecordsLemmas.{leaf_at, read_at, data_at, same_footer, columns_of_file}
use Rattle.dr_dump.specs.Leaves.{rest_of, IsTold, IsLeafRecords, IsTaken}
use Rattle.dr_dump.specs.Slices.{IsBehind, AreBehind, AreTaken}
use Rattle.dr_dump.specs.declared.leaf_records.LeafRecords.{LeafRecords}

-- ---- lists

pub there : {A : Type 0} (xs : List A) (i : ℕ) → i < length xs → (x : A) × (slice_get xs i ≡ Some x)
there [] i h = absurd (omega (arith, h))
there (x ∷ xs) zero h = (x, refl)
there (x ∷ xs) (suc i) h = there xs i (omega (arith, h))

pub same_item : (x y : LeafRecords) → Some x ≡ Some y → x ≡ y
same_item x y e = cc

no_item : (x : LeafRecords) → None ≡ Some x → ⊥
no_item x e = cc

abbrev PushedAt : List LeafRecords → LeafRecords → ℕ → LeafRecords → Type 0
PushedAt xs y i x = (slice_get xs i ≡ Some x) ⊎ ((i ≡ length xs) × (y ≡ x))

later_pushed : (z : LeafRecords) (xs : List LeafRecords) (y : LeafRecords) (i : ℕ) (x : LeafRecords) → PushedAt xs y i x → PushedAt (z ∷ xs) y (suc i) x
later_pushed z xs y i x (inl h) = inl h
later_pushed z xs y i x (inr h) = inr (ap suc h.0, h.1)

pushed_at : (xs : List LeafRecords) (y : LeafRecords) (i : ℕ) (x : LeafRecords) → slice_get (xs ++ y ∷ []) i ≡ Some x → PushedAt xs y i x
pushed_at [] y zero x e = inr (refl, same_item y x e)
pushed_at [] y (suc i) x e = absurd (no_item x e)
pushed_at (z ∷ xs) y zero x e = inl e
pushed_at (z ∷ xs) y (suc i) x e = later_pushed z xs y i x (pushed_at xs y i x e)

-- one more behind others, of each of which something holds
pub each_pushed : (P : ℕ → LeafRecords → Type 0) (xs : List LeafRecords) (y : LeafRecords) → ((i : ℕ) (x : LeafRecords) → slice_get xs i ≡ Some x → P i x) → P (length xs) y → (i : ℕ) (x : LeafRecords) → slice_get (xs ++ y ∷ []) i ≡ Some x → P i x
each_pushed P xs y h k i x e = by_case (pushed_at xs y i x e)
  where
    by_case : PushedAt xs y i x → P i x
    by_case (inl q) = h i x q
    by_case (inr q) = subst (P i) q.1 (subst (λ (j : ℕ). P j y) (sym q.0) k)

column_from : (F : List Leaf) (R : List Node) (i : ℕ) (l : Leaf) → slice_get F i ≡ Some l → get_or (map (λ (p : List Step). column p R) (paths_of_leaves F)) i [] ≡ column l.path R
column_from [] R i l e = let no : None ≡ Some l = e in cc
column_from (m ∷ F) R zero l e = let is : Some m ≡ Some l = e in let same : m ≡ l = cc in ap (λ (x : Leaf). column x.path R) same
column_from (m ∷ F) R (suc i) l e = column_from F R i l e

pub column_had : (fs : Fields) (F : List Leaf) (C : List (List Triplet)) (k : ℕ) (R : List Node) (i : ℕ) (l : Leaf) → HasColumns fs (paths_of_leaves F) C k R → slice_get F i ≡ Some l → get_or C i [] ≡ column l.path R
column_had fs F C k R i l h e = ap (λ (D : List (List Triplet)). get_or D i []) (sym h.2) ∙ column_from F R i l e

pub leaf_path : (fs : Fields) (F : List Leaf) (i : ℕ) (l : Leaf) → list_all (is_leaf_path fs) (paths_of_leaves F) ≡ true → slice_get F i ≡ Some l → is_leaf_path fs l.path ≡ true
leaf_path fs [] i l h e = let no : None ≡ Some l = e in cc
leaf_path fs (m ∷ F) zero l h e = let is : Some m ≡ Some l = e in let same : m ≡ l = cc in subst (λ (x : Leaf). is_leaf_path fs x.path ≡ true) same (and_parts _ _ h).0
leaf_path fs (m ∷ F) (suc i) l h e = leaf_path fs F i l (and_parts _ _ h).1 e

-- ---- one slice more

pub all_records : (fs : Fields) (R S : List Node) → list_all (is_record fs) R ≡ true → list_all (is_record fs) S ≡ true → list_all (is_record fs) (R ++ S) ≡ true
all_records fs R S h g = list_all-append (is_record fs) R S ∙ and_from _ _ h g

-- the leaves stand behind the records of the slice, too
pub slice_more : (held : Option Files) (o : Opened) (F : List Leaf) (fs : Fields) (R S : List Node) (k : ℕ) (xs ys : List LeafRecords) (C : List (List Triplet)) → AreBehind held o F R xs → AreTaken held o F R k (length F) xs ys C
    → HasColumns fs (paths_of_leaves F) C k S → AreBehind held o F (R ++ S) ys
slice_more held o F fs R S k xs ys C h t c = record { as_many = t.as_many ∙ h.as_many; each = λ i l y at is. one i l y at is }
  where
    one : (i : ℕ) (l : Leaf) (y : LeafRecords) → slice_get F i ≡ Some l → slice_get ys i ≡ Some y → IsBehind held o F l (R ++ S) y
    one i l y at is =
        let w = slice_get_within F i l at in
        let n = h.as_many in
        let x = there xs i (omega (arith, w, n)) in
        let one = t.each i l x.0 y w at x.1 is in
        let ts : get_or C i [] ≡ column l.path S = column_had fs F C k S i l c at in
        let given : column l.path R ++ (get_or C i [] ++ rest_of y) ≡ column l.path (R ++ S) ++ rest_of y =
        ap (λ (us : List Triplet). column l.path R ++ (us ++ rest_of y)) ts ∙ (sym (append_assoc (column l.path R) (column l.path S) (rest_of y)) ∙ ap (λ (us : List Triplet). us ++ rest_of y) (sym (column_of_both l.path R S))) in
        record { of = subst (λ (us : List Triplet). IsLeafRecords held o F l us y) given one.of; cut = one.cut; ends = inr one.ends }

-- ---- the columns of whatever records a file may be of

same_column : (a b : List Triplet) (o : Option (List Triplet)) → o ≡ Some a → o ≡ Some b → a ≡ b
same_column a b o h k = let e : Some a ≡ Some b = sym h ∙ k in cc

column_given : (bytes : List ℕ) (l : Leaf) (a b : List Triplet) → IsColumnOf bytes l a → IsColumnOf bytes l b → a ≡ b
column_given bytes l a b h k = same_column a b (given_column bytes h.1 l) h.3 (subst (λ (x : Footer). given_column bytes x l ≡ Some b) (same_footer k.1 h.1 (footer_of bytes) k.2 h.2) k.3)

all_at : (t : Leaf → Bool) (F : List Leaf) (i : ℕ) (l : Leaf) → list_all t F ≡ true → slice_get F i ≡ Some l → t l ≡ true
all_at t [] i l h e = let no : None ≡ Some l = e in cc
all_at t (m ∷ F) zero l h e = let is : Some m ≡ Some l = e in let same : m ≡ l = cc in subst (λ (x : Leaf). t x ≡ true) same (and_parts (t m) (list_all t F) h).0
all_at t (m ∷ F) (suc i) l h e = all_at t F i l (and_parts (t m) (list_all t F) h).1 e

first_same : (x y : Option (List Triplet)) → x ∷ [] ≡ y ∷ [] → x ≡ y
first_same x y e = cc

-- where records are those of an opened file, each leaf's column is theirs
column_is : (bytes : List ℕ) (s : Schema) (F : List Leaf) (o : Opened) (W : List Node) (i : ℕ) (l : Leaf) → (h : IsOpened bytes F o) → AreLeavesOf s.fields F → IsDataOf bytes h.1.0 s F W → slice_get F i ≡ Some l → IsColumnOf bytes l (column l.path W)
column_is bytes s F o W i l h are d e =
    let f = h.1.0 in
    let k = leaf_at s.fields F i l are e in
    let one = data_at bytes f s F W i l e d in
    let has : has_leaves f (l ∷ []) ≡ true = and_from _ _ (all_at _ F i l h.1.2 e) refl in
    let file : IsFileOf bytes s (l ∷ []) W = (f, h.1.1, has, read_at f _ F i l h.1.3 e, one) in
    ((no_leaf_cause_is_file bytes s k.0 l k.1).1 (W, file), f, h.1.1, first_same _ _ one.4)

-- what comes behind what was given
pub record Later (given whole : List Triplet) (ended : Bool) : Type 0 where
  pub later : List Triplet
  pub lies : whole ≡ given ++ later
  pub none : ended ≡ true → later ≡ []

goes_on : (held : Option Files) (o : Opened) (F : List Leaf) (l : Leaf) (given whole : List Triplet) (y : LeafRecords) (bytes : List ℕ) → IsLeafRecords held o F l given y → IsTold held o F bytes → IsColumnOf bytes l whole → Later given whole y.ended
goes_on held o F l given whole y bytes h told is = go y.ended refl
  where
    go : (b : Bool) → y.ended ≡ b → Later given whole y.ended
    go true e = record { later = []; lies = column_given bytes l whole given is (h.last bytes told e) ∙ sym (append-nil given); none = λ z. refl }
    go false e = let front = (h.of bytes told).front whole is in record { later = front.0; lies = front.1; none = λ z. absurd (true≢false (sym z ∙ e)) }

-- no records have columns that go on so
abbrev pub NoneGoOn : Fields → List Leaf → ℕ → (ℕ → Leaf → LeafRecords → List Triplet) → List LeafRecords → Type 0
NoneGoOn fs F rows given ys = (W : List Node) → list_all (is_record fs) W ≡ true → length W ≡ rows
    → ((i : ℕ) (l : Leaf) (y : LeafRecords) → slice_get F i ≡ Some l → slice_get ys i ≡ Some y → Later (given i l y) (column l.path W) y.ended) → ⊥

-- then the file is none of any records
pub none_cause : (bytes : List ℕ) (s : Schema) (held : Option Files) (o : Opened) (F : List Leaf) (given : ℕ → Leaf → LeafRecords → List Triplet) (ys : List LeafRecords) → AreLeavesOf s.fields F → IsTold held o F bytes
    → ((i : ℕ) (l : Leaf) (y : LeafRecords) → slice_get F i ≡ Some l → slice_get ys i ≡ Some y → IsLeafRecords held o F l (given i l y) y) → NoneGoOn s.fields F (rows_of o) given ys → HasCause bytes s F bad_data
none_cause bytes s held o F given ys leaves told each none =
    let h = told.0 in
    (h.1.0, h.1.1, h.1.2, h.1.3, λ W d. none W d.3 (d.2 ∙ h.1.5) (λ i l y at is. goes_on held o F l (given i l y) (column l.path W) y bytes (each i l y at is) told (column_is bytes s F o W i l h leaves d at)))

-- ---- a slice that no records have

-- the triplets of a slice lie in the whole column
module _ (fs : Fields) (l : Leaf) (R W : List Node) (k : ℕ) (x y : LeafRecords) (ts : List Triplet) (path : is_leaf_path fs l.path ≡ true) (are : list_all (is_record fs) R ≡ true) (all : list_all (is_record fs) W ≡ true) (room : length R + k ≤ length W)
    (few : starts ts ≤ k) (full : rest_of y ≢ [] → starts ts ≡ k) (cut : begins_record (rest_of y) ≡ true) (ends : rest_of y ≡ [] → y.ended ≡ true)
    (begins : (R ≡ []) ⊎ (begins_record ts ≡ true)) (later : Later (column l.path R ++ (ts ++ rest_of y)) (column l.path W) y.ended) where
  lies : column l.path W ≡ column l.path R ++ (ts ++ (rest_of y ++ later.later))
  lies = later.lies ∙ (append_assoc (column l.path R) (ts ++ rest_of y) later.later ∙ ap (λ (us : List Triplet). column l.path R ++ us) (append_assoc ts (rest_of y) later.later))

  counts : starts (column l.path R) + (starts ts + starts (rest_of y ++ later.later)) ≡ length W
  counts = sym (starts_append (column l.path R) (ts ++ (rest_of y ++ later.later)) ∙ ap (λ (n : ℕ). starts (column l.path R) + n) (starts_append ts (rest_of y ++ later.later)))
      ∙ (ap starts (sym lies) ∙ (column_rows fs l.path W path all).0)

  by_rest : (us : List Triplet) → rest_of y ≡ us → (begins_record (rest_of y ++ later.later) ≡ true) × (starts ts ≡ k)
  by_rest [] e =
      let none : rest_of y ++ later.later ≡ [] = ap₂ (λ (a b : List Triplet). a ++ b) e (later.none (ends e)) in
      let r = (column_rows fs l.path R path are).0 in
      (ap begins_record none, omega (arith, counts, ap starts none, r, few, room))
  by_rest (u ∷ us) e =
      (ap (λ (a : List Triplet). begins_record (a ++ later.later)) e ∙ (sym (ap begins_record e) ∙ cut), full (λ z. let no : u ∷ us ≡ [] = sym e ∙ z in cc))

  front_begins : (us vs : List Triplet) → begins_record (us ++ vs) ≡ true → begins_record us ≡ true
  front_begins [] vs h = refl
  front_begins (u ∷ us) vs h = h

  slice_begins : (R ≡ []) ⊎ (begins_record ts ≡ true) → begins_record ts ≡ true
  slice_begins (inr h) = h
  slice_begins (inl none) =
      let at : column l.path W ≡ ts ++ (rest_of y ++ later.later) = lies ∙ ap (λ (S : List Node). column l.path S ++ (ts ++ (rest_of y ++ later.later))) none in
      front_begins ts (rest_of y ++ later.later) (sym (ap begins_record at) ∙ (column_rows fs l.path W path all).1)

  pub slice_is_chunk : IsChunk (length R) k ts (column l.path W)
  slice_is_chunk =
      let b = by_rest (rest_of y) refl in
      record {
        front = column l.path R;
        back = rest_of y ++ later.later;
        lies = lies;
        behind = (column_rows fs l.path R path are).0;
        so_many = b.1;
        begins = slice_begins begins;
        ends = b.0;
      }

chunks_by : (before rows : ℕ) (F : List Leaf) (C : List (List Triplet)) (W : List Node) → length C ≡ length F → ((i : ℕ) (l : Leaf) → slice_get F i ≡ Some l → IsChunk before rows (get_or C i []) (column l.path W))
    → AreChunks before rows C (map (λ (p : List Step). column p W) (paths_of_leaves F))
chunks_by before rows [] [] W n h = tt
chunks_by before rows [] (c ∷ C) W n h = absurd (never (omega (arith, n)))
  where
    never : 1 ≤ 0 → ⊥
    never z = omega (arith, z)
chunks_by before rows (l ∷ F) [] W n h = absurd (never (omega (arith, n)))
  where
    never : 1 ≤ 0 → ⊥
    never z = omega (arith, z)
chunks_by before rows (l ∷ F) (c ∷ C) W n h = (h 0 l refl, chunks_by before rows F C W (omega (arith, n)) (λ i m e. h (suc i) m e))

-- what a leaf gave, by what was taken of it
abbrev pub given_with : List Node → List (List Triplet) → ℕ → Leaf → LeafRecords → List Triplet
given_with R C i l y = column l.path R ++ (get_or C i [] ++ rest_of y)

pub none_have_slice : (held : Option Files) (o : Opened) (F : List Leaf) (fs : Fields) (R : List Node) (k rows : ℕ) (xs ys : List LeafRecords) (C : List (List Triplet)) → list_all (is_leaf_path fs) (paths_of_leaves F) ≡ true → list_all (is_record fs) R ≡ true
    → length R + k ≤ rows → AreBehind held o F R xs → AreTaken held o F R k (length F) xs ys C → NoneHas fs (paths_of_leaves F) C k → NoneGoOn fs F rows (given_with R C) ys
none_have_slice held o F fs R k rows xs ys C paths are room h t none W all count later =
    none_has_chunk fs (paths_of_leaves F) C (map (λ (p : List Step). column p W) (paths_of_leaves F)) (length R) k rows paths room
    (chunks_by (length R) k F C W t.so_many (λ i l at. one i l at)) none W (all, count, refl)
  where
    one : (i : ℕ) (l : Leaf) → slice_get F i ≡ Some l → IsChunk (length R) k (get_or C i []) (column l.path W)
    one i l at =
        let w = slice_get_within F i l at in
        let n = h.as_many in
        let m = t.as_many in
        let x = there xs i (omega (arith, w, n)) in
        let y = there ys i (omega (arith, w, n, m)) in
        let b = h.each i l x.0 at x.1 in
        let k = t.each i l x.0 y.0 w at x.1 y.1 in
        slice_is_chunk fs l R W _ x.0 y.0 (get_or C i []) (leaf_path fs F i l paths at) are all (omega (arith, room, count)) k.few k.all k.cut k.ends (began x.0 (get_or C i []) b k.begins b.ends) (later i l y.0 at y.1)
      where
        began : (x : LeafRecords) (ts : List Triplet) → IsBehind held o F l R x → (begins_record (rest_of x) ≡ true → (rest_of x ≡ [] → x.ended ≡ true) → begins_record ts ≡ true) → (R ≡ []) ⊎ (rest_of x ≡ [] → x.ended ≡ true) → (R ≡ []) ⊎ (begins_record ts ≡ true)
        began x ts b f (inl none) = inl none
        began x ts b f (inr ends) = inr (f b.cut ends)

-- ---- all slices

columns_by : (bytes : List ℕ) (F : List Leaf) (C : List (List Triplet)) → length C ≡ length F → ((i : ℕ) (l : Leaf) → slice_get F i ≡ Some l → IsColumnOf bytes l (get_or C i [])) → AreColumnsOf bytes F C
columns_by bytes [] [] n h = tt
columns_by bytes [] (c ∷ C) n h = absurd (never (omega (arith, n)))
  where
    never : 1 ≤ 0 → ⊥
    never z = omega (arith, z)
columns_by bytes (l ∷ F) [] n h = absurd (never (omega (arith, n)))
  where
    never : 1 ≤ 0 → ⊥
    never z = omega (arith, z)
columns_by bytes (l ∷ F) (c ∷ C) n h = (h 0 l refl, columns_by bytes F C (omega (arith, n)) (λ i m e. h (suc i) m e))

-- where nothing is left of any leaf, the records are those of the file
pub all_of_file : (bytes : List ℕ) (s : Schema) (held : Option Files) (o : Opened) (F : List Leaf) (R : List Node) (ys : List LeafRecords) → AreBehind held o F R ys → ((i : ℕ) (y : LeafRecords) → slice_get ys i ≡ Some y → (rest_of y ≡ []) × (y.ended ≡ true))
    → list_all (is_record s.fields) R ≡ true → length R ≡ rows_of o → IsTold held o F bytes → AreOfFile bytes s F (map (project (paths_of_leaves F)) R)
all_of_file bytes s held o F R ys h over are count told =
    let C : List (List Triplet) = map (λ (p : List Step). column p R) (paths_of_leaves F) in
    let columns = columns_by bytes F C (length-map (paths_of_leaves F) (λ (p : List Step). column p R) ∙ length-map F (λ (l : Leaf). l.path)) (λ i l at. one i l at) in
    (R, (columns_of_file bytes s F o C (rows_of o) told.0 columns refl).file R (are, count, refl), refl)
  where
    one : (i : ℕ) (l : Leaf) → slice_get F i ≡ Some l → IsColumnOf bytes l (get_or (map (λ (p : List Step). column p R) (paths_of_leaves F)) i [])
    one i l at =
        let w = slice_get_within F i l at in
        let n = h.as_many in
        let y = there ys i (omega (arith, w, n)) in
        let e = over i y.0 y.1 in
        let whole : column l.path R ++ rest_of y.0 ≡ column l.path R = ap (λ (ts : List Triplet). column l.path R ++ ts) e.0 ∙ append-nil (column l.path R) in
        subst (IsColumnOf bytes l) (whole ∙ sym (column_from F R i l at)) ((h.each i l y.0 at y.1).of.last bytes told e.1)

-- where something is left behind all records, no records have the columns
pub some_behind_all : (held : Option Files) (o : Opened) (F : List Leaf) (fs : Fields) (R : List Node) (rows j : ℕ) (ys : List LeafRecords) (z : LeafRecords) → list_all (is_leaf_path fs) (paths_of_leaves F) ≡ true → list_all (is_record fs) R ≡ true → length R ≡ rows
    → AreBehind held o F R ys → slice_get ys j ≡ Some z → rest_of z ≢ [] → NoneGoOn fs F rows (λ i l y. column l.path R ++ rest_of y) ys
some_behind_all held o F fs R rows j ys z paths are count h is some W all so_many later = by (there F j (let n = h.as_many in let w = slice_get_within ys j z is in omega (arith, n, w)))
  where
    by : (l : Leaf) × (slice_get F j ≡ Some l) → ⊥
    by l =
        let m = later j l.0 z l.1 is in
        let path = leaf_path fs F j l.0 paths l.1 in
        let r = (column_rows fs l.0.path R path are).0 in
        let w = (column_rows fs l.0.path W path all).0 in
        let c : starts (column l.0.path W) ≡ starts (column l.0.path R) + (starts (rest_of z) + starts m.later) =
        ap starts m.lies ∙ (starts_append (column l.0.path R ++ rest_of z) m.later ∙ (ap (λ (n : ℕ). n + starts m.later) (starts_append (column l.0.path R) (rest_of z)) ∙ omega arith)) in
        one_more (rest_of z) refl (omega (arith, r, w, c, count, so_many))
      where
        one_more : (ts : List Triplet) → rest_of z ≡ ts → starts (rest_of z) ≡ 0 → ⊥
        one_more [] e n = some e
        one_more (t ∷ ts) e n =
            let b : (t.repetition == 0) ≡ true = sym (ap begins_record e) ∙ (h.each j l.0 z l.1 is).cut in
            let c : starts (rest_of z) ≡ 1 + starts ts = ap starts e ∙ rw b refl in
            omega (arith, n, c)

-- ---- one leaf among others

pub taken_there : (held : Option Files) (o : Opened) (F : List Leaf) (l : Leaf) (front : List Triplet) (k i : ℕ) (x z y : LeafRecords) (xs ys : List LeafRecords) (r : Result Column FileFault) → x ≡ z → ys ≡ slice_set xs i y
    → IfOk r (λ c. IsTaken held o F l front k z y (column_view c)) → IfOk r (λ c. (w : LeafRecords) × (ys ≡ slice_set xs i w) × IsTaken held o F l front k x w (column_view c))
taken_there held o F l front k i x z y xs ys (Ok c) same e h = (y, e, subst (λ (w : LeafRecords). IsTaken held o F l front k w y (column_view c)) (sym same) h)
taken_there held o F l front k i x z y xs ys (Err f) same e h = tt
