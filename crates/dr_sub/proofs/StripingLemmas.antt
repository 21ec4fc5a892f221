-- Objects that are striped one after another.
use Rattle.std.specs.Prelude.{◌≡◌, ◌<◌, ◌≤◌, ℕ, zero, suc, ◌+◌, List, [], ◌∷◌, ◌++◌, map, take, Bool, true, false, ◌&&◌, Result, Ok, Err, IsErrAnd}
use Rattle.std.specs.List.{list_all}
use Rattle.std.proofs.Common.{refl, sym, ap, ap₂, ◌∙◌, arith, append_assoc, append-nil}
use Rattle.std.proofs.lemmas.List.{map-append}
use Rattle.dr_memory.specs.declared.NoMemory.{NoMemory}
use Rattle.dr_meaning.specs.Path.{Step, Leaf}
use Rattle.dr_meaning.specs.Record.{Node}
use Rattle.dr_meaning.specs.Column.{Triplet, record_column, column}
use Rattle.dr_meaning.specs.Query.{Object}
use Rattle.dr_nested.specs.PathView.{path_view, paths_view}
use Rattle.dr_nested.specs.declared.path.Path.{Path}
use Rattle.dr_cells.specs.Results.{ResultCell, ShapeTree, ReadObject, read_object, read_times, read_rows}
use Rattle.dr_striper.specs.Striping.{gained, leaves_of}
use Rattle.dr_striper.specs.Stripers.{striped_paths, striped_leaves, fits_leaf}
use Rattle.dr_striper.specs.declared.making.Striper.{Striper}
use Rattle.dr_striper.proofs.GainLemmas.{gained-twice, gained-same, gained-nothing}
use Rattle.dr_sub_meaning.specs.ResultRecords.{record_of, records_of}
use Rattle.dr_sub.specs.Striping.{records_in, fit_leaves, AddsRecords}

-- the records of the first so many objects, by reading these
abbrev first_records : ShapeTree → ℕ → List ResultCell → List Node
first_records s k cs = records_of (read_times (read_object s) k cs).objects

pub in_is_first : (s : ShapeTree) (k : ℕ) (cs : List ResultCell) → records_in s k cs ≡ first_records s k cs
unfolding read_rows
in_is_first s k cs = refl

-- the record of the object behind so many
abbrev pub next_record : ShapeTree → ℕ → List ResultCell → Node
next_record s k cs = record_of (read_object s (read_times (read_object s) k cs).rest).object

-- one object more
objects_push : (read : List ResultCell → ReadObject) (k : ℕ) (cs : List ResultCell)
    → (read_times read (k + 1) cs).objects ≡ (read_times read k cs).objects ++ (read (read_times read k cs).rest).object ∷ []
objects_push read zero cs = refl
objects_push read (suc k) cs =
    let f : suc k + 1 ≡ suc (k + 1) = omega arith in
    ap (λ n. (read_times read n cs).objects) f ∙ ap (λ (os : List Object). (read cs).object ∷ os) (objects_push read k (read cs).rest)

records_push : (s : ShapeTree) (k : ℕ) (cs : List ResultCell) → first_records s (k + 1) cs ≡ first_records s k cs ++ next_record s k cs ∷ []
records_push s k cs =
    ap records_of (objects_push (read_object s) k cs)
    ∙ map-append record_of (read_times (read_object s) k cs).objects ((read_object s (read_times (read_object s) k cs).rest).object ∷ [])

-- the first of more objects are the same
first_taken : (s : ShapeTree) (k n : ℕ) (cs : List ResultCell) → k ≤ n → take k (first_records s n cs) ≡ first_records s k cs
first_taken s zero n cs h = refl
first_taken s (suc k) zero cs h = absurd (omega (arith, h))
first_taken s (suc k) (suc n) cs h = ap (λ (ns : List Node). record_of (read_object s cs).object ∷ ns) (first_taken s k n (read_object s cs).rest (omega (arith, h)))

-- ---- each record fits

first_fits : (a b : Bool) → (a && b) ≡ true → a ≡ true
first_fits true b h = refl
first_fits false b h = h

later_fit : (a b : Bool) → (a && b) ≡ true → b ≡ true
later_fit true b h = h
later_fit false b h = absurd (cc)

fits_from : (ls : List Leaf) (s : ShapeTree) (k n : ℕ) (cs : List ResultCell) → k < n → fit_leaves ls (first_records s n cs) ≡ true → list_all (fits_leaf (next_record s k cs)) ls ≡ true
fits_from ls s k zero cs h f = absurd (omega (arith, h))
fits_from ls s zero (suc n) cs h f = first_fits (list_all (fits_leaf (record_of (read_object s cs).object)) ls) (fit_leaves ls (first_records s n (read_object s cs).rest)) f
fits_from ls s (suc k) (suc n) cs h f =
    fits_from ls s k n (read_object s cs).rest (omega (arith, h))
    (later_fit (list_all (fits_leaf (record_of (read_object s cs).object)) ls) (fit_leaves ls (first_records s n (read_object s cs).rest)) f)

-- the record of the object behind so many is one that fits
pub next_fits_at : (ls ks : List Leaf) (s : ShapeTree) (k n : ℕ) (cs here : List ResultCell) → ks ≡ ls → here ≡ (read_times (read_object s) k cs).rest → k < n → fit_leaves ls (records_in s n cs) ≡ true
    → list_all (fits_leaf (record_of (read_object s here).object)) ks ≡ true
next_fits_at ls ks s k n cs here e at h f =
    ap₂ (λ (xs : List ResultCell) (ms : List Leaf). list_all (fits_leaf (record_of (read_object s xs).object)) ms) at e
    ∙ fits_from ls s k n cs h (ap (fit_leaves ls) (sym (in_is_first s n cs)) ∙ f)

-- ---- columns

column_push : (p : List Step) (R : List Node) (n : Node) → column p R ++ record_column p n ≡ column p (R ++ n ∷ [])
column_push p [] n = sym (append-nil (record_column p n))
column_push p (m ∷ R) n = append_assoc (record_column p m) (column p R) (record_column p n) ∙ ap (λ ts. record_column p m ++ ts) (column_push p R n)

-- no record gives a column nothing
pub none_gained : (s : ShapeTree) (F : List (List Step)) (cs : List ResultCell) (before : List (List Triplet)) → before ≡ gained (λ (p : List Step). column p (records_in s 0 cs)) F before
none_gained s F cs before =
    sym (ap (λ (R : List Node). gained (λ (p : List Step). column p R) F before) (in_is_first s 0 cs) ∙ gained-nothing F before)

-- the next record behind those before it
pub next_gained : (s : ShapeTree) (F G : List (List Step)) (k : ℕ) (cs at : List ResultCell) (before here after : List (List Triplet)) → G ≡ F → at ≡ (read_times (read_object s) k cs).rest
    → here ≡ gained (λ (p : List Step). column p (records_in s k cs)) F before → after ≡ gained (λ (p : List Step). record_column p (record_of (read_object s at).object)) G here
    → after ≡ gained (λ (p : List Step). column p (records_in s (k + 1) cs)) F before
next_gained s F G k cs at before here after g a h e =
    e ∙ ap (λ (xs : List ResultCell). gained (λ (p : List Step). record_column p (record_of (read_object s xs).object)) G here) a
    ∙ ap₂ (λ (H : List (List Step)) (xs : List (List Triplet)). gained (λ (p : List Step). record_column p (next_record s k cs)) H xs) g h
    ∙ gained-twice (λ (p : List Step). column p (records_in s k cs)) (λ (p : List Step). record_column p (next_record s k cs)) F before
    ∙ gained-same (λ (p : List Step). column p (records_in s k cs) ++ record_column p (next_record s k cs)) (λ (p : List Step). column p (records_in s (k + 1) cs)) F before
    (λ p. column_push p (records_in s k cs) (next_record s k cs)
    ∙ ap (column p) (ap (λ (R : List Node). R ++ next_record s k cs ∷ []) (in_is_first s k cs) ∙ sym (records_push s k cs) ∙ sym (in_is_first s (k + 1) cs)))

-- the first so many of all, where memory was wanting at the next one
pub front_added : (s : ShapeTree) (F : List (List Step)) (k n : ℕ) (cs : List ResultCell) (before here after : List (List Triplet)) (r : Result (Unit {0}) NoMemory) (e : NoMemory) → k ≤ n
    → here ≡ gained (λ (p : List Step). column p (records_in s k cs)) F before → after ≡ here → IsErrAnd r (λ x. x ≡ e) → AddsRecords (records_in s n cs) F before after r
front_added s F k n cs before here after (Ok done) e l h a is = absurd is
front_added s F k n cs before here after (Err x) e l h a is =
    (k, a ∙ h ∙ ap (λ (R : List Node). gained (λ (p : List Step). column p R) F before) (in_is_first s k cs ∙ sym (ap (take k) (in_is_first s n cs) ∙ first_taken s k n cs l)))

-- ---- the paths of a striper's leaves

leaf_paths : (ps : List Path) → paths_view ps ≡ map (λ (l : Leaf). l.path) (leaves_of ps)
leaf_paths [] = refl
leaf_paths (p ∷ ps) = ap (λ (qs : List (List Step)). (path_view p).path ∷ qs) (leaf_paths ps)

pub same_paths : (s t : Striper) → striped_leaves s ≡ striped_leaves t → striped_paths s ≡ striped_paths t
same_paths s t h = leaf_paths s.fields.now ∙ ap (map (λ (l : Leaf). l.path)) h ∙ sym (leaf_paths t.fields.now)
