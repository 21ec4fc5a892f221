-- What is printed of an opened file, slice after slice.
use Rattle.std.proofs.Common.{◌≡◌, ◌≢◌, ◌≤◌, ℕ, zero, suc, ◌+◌, ◌-◌, List, [], ◌∷◌, ◌++◌, length, map, Bool, true, false, ◌&&◌, Option, Some, None, refl, sym, ap, ◌∙◌, subst, append_assoc, append-nil, length-append, true≢false, arith}
use Rattle.std.specs.Prelude.{◌==◌}
use Rattle.std.specs.List.{list_all, slice_get}
use Rattle.std.proofs.lemmas.Bool.{and_parts, eqb-true}
use Rattle.std.proofs.lemmas.List.{map-append, nil_from_length}
use Rattle.std.proofs.lemmas.List.Concat.{flat_map-append}
use Rattle.std.proofs.lemmas.Option.{slice_get_within}
use Rattle.dr_meaning.specs.Schema.{Schema, Fields}
use Rattle.dr_meaning.specs.Path.{Step, Leaf, is_leaf_path, paths_of_leaves}
use Rattle.dr_meaning.specs.Record.{Node, is_record, project}
use Rattle.dr_meaning.specs.Column.{Triplet, column}
use Rattle.dr_meaning.specs.Print.{record_text}
use Rattle.dr_formats.specs.File.{HasCause, bad_data}
use Rattle.dr_outside.specs.Link.{Files}
use Rattle.dr_walk.specs.Walking.{NoneHas}
use Rattle.dr_walk.specs.declared.fault.AssembleFault.{AssembleFault}
use Rattle.dr_file.specs.OpenedFiles.{rows_of}
use Rattle.dr_file.specs.declared.opened.Opened.{Opened}
use Rattle.dr_file.specs.declared.file_fault.FileFault.{FileFault}
use Rattle.dr_scan.specs.FileRecords.{AreLeavesOf, IsFaultOf, assemble_fault}
use Rattle.dr_nested.specs.PathView.{path_view, paths_view}
use Rattle.dr_nested.specs.declared.path.Path.{Path}
use Rattle.dr_scan.proofs.RecordsLemmas.{paths_same, have_leaf_paths}
use Rattle.dr_dump.specs.Dumps.{lines_text}
use Rattle.dr_dump.specs.Leaves.{rest_of, IsTold, IsLeafRecords}
use Rattle.dr_dump.specs.Slices.{AreBehind, AreTaken}
use Rattle.dr_assemble.specs.Lines.{PrintsRecords}
use Rattle.dr_dump.specs.Lines.{is_passed, PrintsOpened, PrintsSome}
use Rattle.dr_dump.specs.declared.leaf_records.LeafRecords.{LeafRecords}
use Rattle.dr_dump.proofs.SliceLemmas.{there, same_item, all_records, slice_more, given_with, none_cause, none_have_slice, all_of_file, some_behind_all}

-- the leaves' paths are leaf paths
pub lead_to_leaves : (fs : Fields) (ps : List Path) → AreLeavesOf fs (map path_view ps) → list_all (is_leaf_path fs) (paths_of_leaves (map path_view ps)) ≡ true
lead_to_leaves fs ps h = sym (ap (list_all (is_leaf_path fs)) (paths_same ps)) ∙ have_leaf_paths fs ps h

-- columns printed by the paths of leaves
pub printed_by_leaves : (fs : Fields) (ps : List Path) (C : List (List Triplet)) (k : ℕ) (before after : List ℕ) → PrintsRecords fs (paths_view ps) C k before after → PrintsRecords fs (paths_of_leaves (map path_view ps)) C k before after
printed_by_leaves fs ps C k before after h = subst (λ (F : List (List Step)). PrintsRecords fs F C k before after) (paths_same ps) h

pub none_by_leaves : (fs : Fields) (ps : List Path) (C : List (List Triplet)) (k : ℕ) → NoneHas fs (paths_view ps) C k → NoneHas fs (paths_of_leaves (map path_view ps)) C k
none_by_leaves fs ps C k h = subst (λ (F : List (List Step)). NoneHas fs F C k) (paths_same ps) h

-- the lines of some records joined a text, and the leaves stand behind these; so many records are left
pub record IsPrinted (s : Schema) (F : List Leaf) (held : Option Files) (o : Opened) (left : ℕ) (before after : List ℕ) (xs : List LeafRecords) : Type 0 where
  pub records : List Node
  pub are : list_all (is_record s.fields) records ≡ true
  pub count : length records + left ≡ rows_of o
  pub lines : after ≡ before ++ lines_text s.fields (map (project (paths_of_leaves F)) records)
  pub behind : AreBehind held o F records xs

pub printed_none : (s : Schema) (F : List Leaf) (held : Option Files) (o : Opened) (left : ℕ) (before : List ℕ) (xs : List LeafRecords) → left ≡ rows_of o → AreBehind held o F [] xs → IsPrinted s F held o left before before xs
printed_none s F held o left before xs e h = record { records = []; are = refl; count = omega (arith, e); lines = sym (append-nil before); behind = h }

lines_more : (fs : Fields) (t : Node → Node) (R S : List Node) → lines_text fs (map t (R ++ S)) ≡ lines_text fs (map t R) ++ lines_text fs (map t S)
lines_more fs t R S = ap (lines_text fs) (map-append t R S) ∙ flat_map-append (record_text fs) (map t R) (map t S)

-- one slice more
pub printed_more : (s : Schema) (F : List Leaf) (held : Option Files) (o : Opened) (left still k : ℕ) (before middle after : List ℕ) (xs ys : List LeafRecords) (C : List (List Triplet)) → (p : IsPrinted s F held o left before middle xs)
    → AreTaken held o F p.records k (length F) xs ys C → PrintsRecords s.fields (paths_of_leaves F) C k middle after → k ≤ left → still ≡ left - k → IsPrinted s F held o still before after ys
printed_more s F held o left still k before middle after xs ys C p t c few e =
    let R = p.records in
    let S : List Node = c.0 in
    let h = c.1 in
    let n = p.count in
    record {
      records = R ++ S;
      are = all_records s.fields R S p.are h.0;
      count = omega (arith, n, length-append R S, h.1, few, e);
      lines = c.2 ∙ (ap (λ (x : List ℕ). x ++ lines_text s.fields (map (project (paths_of_leaves F)) S)) p.lines
          ∙ (append_assoc before (lines_text s.fields (map (project (paths_of_leaves F)) R)) (lines_text s.fields (map (project (paths_of_leaves F)) S))
          ∙ ap (λ (x : List ℕ). before ++ x) (sym (lines_more s.fields (project (paths_of_leaves F)) R S))));
      behind = slice_more held o F s.fields R S k xs ys C p.behind t h;
    }

pub printed_some : (s : Schema) (F : List Leaf) (held : Option Files) (o : Opened) (left : ℕ) (before after : List ℕ) (xs : List LeafRecords) → IsPrinted s F held o left before after xs → PrintsSome s.fields before after
printed_some s F held o left before after xs p = (map (project (paths_of_leaves F)) p.records, p.lines)

-- ---- a slice that is refused

pub no_slice : (bytes : List ℕ) (s : Schema) (F : List Leaf) (held : Option Files) (o : Opened) (left k : ℕ) (before after : List ℕ) (xs ys : List LeafRecords) (C : List (List Triplet)) → AreLeavesOf s.fields F → list_all (is_leaf_path s.fields) (paths_of_leaves F) ≡ true → (p : IsPrinted s F held o left before after xs)
    → AreTaken held o F p.records k (length F) xs ys C → NoneHas s.fields (paths_of_leaves F) C k → k ≤ left → IsTold held o F bytes → HasCause bytes s F bad_data
no_slice bytes s F held o left k before after xs ys C leaves paths p t none few told =
    let n = p.count in
    none_cause bytes s held o F (given_with p.records C) ys leaves told (λ i l y at is. given i l y at is)
    (none_have_slice held o F s.fields p.records k (rows_of o) xs ys C paths p.are (omega (arith, n, few)) p.behind t none)
  where
    given : (i : ℕ) (l : Leaf) (y : LeafRecords) → slice_get F i ≡ Some l → slice_get ys i ≡ Some y → IsLeafRecords held o F l (given_with p.records C i l y) y
    given i l y at is =
        let w = slice_get_within F i l at in
        let m = p.behind.as_many in
        let x = there xs i (omega (arith, w, m)) in
        (t.each i l x.0 y w at x.1 is).of

-- the fault of a slice is one of the file
pub slice_fault : (bytes : List ℕ) (s : Schema) (F : List Leaf) (e : AssembleFault) → (e ≡ AssembleFault.BadData → HasCause bytes s F bad_data) → IsFaultOf bytes s F (assemble_fault e)
slice_fault bytes s F AssembleFault.NoMemory h = tt
slice_fault bytes s F AssembleFault.BadData h = h refl

-- but for want of memory it's bad data
pub is_bad_data : (e : AssembleFault) (f : FileFault) → f ≡ assemble_fault e → (f ≢ FileFault.NoMemory) → e ≡ AssembleFault.BadData
is_bad_data AssembleFault.NoMemory f e h = absurd (h e)
is_bad_data AssembleFault.BadData f e h = refl

-- ---- the end

passed_rest : (y : LeafRecords) → is_passed y ≡ true → rest_of y ≡ []
passed_rest y h = nil_from_length (rest_of y) (eqb-true (length (rest_of y)) 0 h)

none_there : (y : LeafRecords) → None ≡ Some y → ⊥
none_there y e = cc

all_passed : (ys : List LeafRecords) (i : ℕ) (y : LeafRecords) → list_all is_passed ys ≡ true → slice_get ys i ≡ Some y → rest_of y ≡ []
all_passed [] i y h e = absurd (none_there y e)
all_passed (z ∷ ys) zero y h e = subst (λ (w : LeafRecords). rest_of w ≡ []) (same_item z y e) (passed_rest z (and_parts (is_passed z) (list_all is_passed ys) h).0)
all_passed (z ∷ ys) (suc i) y h e = all_passed ys i y (and_parts (is_passed z) (list_all is_passed ys) h).1 e

abbrev SomeIsLeft : List LeafRecords → Type 0
SomeIsLeft ys = (j : ℕ) × (z : LeafRecords) × (slice_get ys j ≡ Some z) × (rest_of z ≢ [])

left_rest : (y : LeafRecords) → is_passed y ≡ false → rest_of y ≢ []
left_rest y h e = true≢false (sym (ap (λ (ts : List Triplet). length ts == 0) e) ∙ h)

left_later : (z : LeafRecords) (ys : List LeafRecords) → SomeIsLeft ys → SomeIsLeft (z ∷ ys)
left_later z ys k = (suc k.0, k.1, k.2, k.3)

left_by : (z : LeafRecords) (ys : List LeafRecords) (b : Bool) → is_passed z ≡ b → (list_all is_passed ys ≡ false → SomeIsLeft ys) → (b && list_all is_passed ys) ≡ false → SomeIsLeft (z ∷ ys)
left_by z ys true e later h = left_later z ys (later h)
left_by z ys false e later h = (0, z, refl, left_rest z e)

some_is_left : (ys : List LeafRecords) → list_all is_passed ys ≡ false → SomeIsLeft ys
some_is_left [] h = absurd (true≢false h)
some_is_left (z ∷ ys) h = left_by z ys (is_passed z) refl (λ k. some_is_left ys k) h

-- where the last slice was taken and nothing is left, the lines are those of the file's records
pub printed_all : (s : Schema) (F : List Leaf) (held : Option Files) (o : Opened) (R : List Node) (k : ℕ) (before after : List ℕ) (xs ys : List LeafRecords) (C : List (List Triplet)) → AreBehind held o F R xs → AreTaken held o F R k (length F) xs ys C
    → IsPrinted s F held o 0 before after ys → list_all is_passed ys ≡ true → PrintsOpened s F held o before after
printed_all s F held o R k before after xs ys C h t p all =
    let n = p.count in
    record {
      records = map (project (paths_of_leaves F)) p.records;
      projected = (p.records, p.are, refl);
      lines = p.lines;
      file = λ bytes told. all_of_file bytes s held o F p.records ys p.behind (λ i y is. ended i y is) p.are (omega (arith, n)) told;
    }
  where
    ended : (i : ℕ) (y : LeafRecords) → slice_get ys i ≡ Some y → (rest_of y ≡ []) × (y.ended ≡ true)
    ended i y is =
        let w = slice_get_within ys i y is in
        let a = h.as_many in
        let b = t.as_many in
        let l = there F i (omega (arith, w, a, b)) in
        let x = there xs i (omega (arith, w, b)) in
        let none = all_passed ys i y all is in
        (none, (t.each i l.0 x.0 y (slice_get_within F i l.0 l.1) l.1 x.1 is).ends none)

-- where something is left, the file is none of any records
pub printed_too_few : (bytes : List ℕ) (s : Schema) (F : List Leaf) (held : Option Files) (o : Opened) (before after : List ℕ) (ys : List LeafRecords) → AreLeavesOf s.fields F → list_all (is_leaf_path s.fields) (paths_of_leaves F) ≡ true → IsPrinted s F held o 0 before after ys → list_all is_passed ys ≡ false → IsTold held o F bytes
    → HasCause bytes s F bad_data
printed_too_few bytes s F held o before after ys leaves paths p some told =
    let n = p.count in
    let k = some_is_left ys some in
    none_cause bytes s held o F (λ i l y. column l.path p.records ++ rest_of y) ys leaves told (λ i l y at is. (p.behind.each i l y at is).of)
    (some_behind_all held o F s.fields p.records (rows_of o) k.0 ys k.1 paths p.are (omega (arith, n)) p.behind k.2 k.3)
