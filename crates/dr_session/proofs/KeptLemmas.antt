-- The columns of the records that are kept, and the file of these.
use Rattle.std.specs.Prelude.{◌≡◌, ℕ, suc, ◌+◌, ◌<◌, ◌^◌, List, [], ◌∷◌, ◌++◌, map, length, replicate, Bool, true, nat_lt, Some, if◌then◌else◌, Result, Ok, Err, IfOk, OnOk, Vec}
use Rattle.std.specs.declared.alloc.Global.{Global}
use Rattle.std.specs.List.{list_all}
use Rattle.std.proofs.Common.{arith, refl, sym, ap, ap₂, ◌∙◌, subst}
use Rattle.std.proofs.lemmas.List.{length-append}
use Rattle.std.proofs.lemmas.Bool.{and_parts, and_from}
use Rattle.dr_meaning.specs.Schema.{Schema, Fields, is_schema}
use Rattle.dr_meaning.specs.Path.{Step, Leaf, leaves}
use Rattle.dr_meaning.specs.Record.{Node, is_record, text_bytes}
use Rattle.dr_meaning.specs.Column.{Triplet, record_column, column}
use Rattle.dr_formats.specs.File.{IsFileOf}
use Rattle.dr_formats.specs.Page.{data_page_v1}
use Rattle.dr_formats.specs.Writing.{file_bytes}
use Rattle.dr_formats.specs.WritingLaws.{is_limited, nth_leaf, AreAmong}
use Rattle.dr_formats.proofs.FileBack.{written_file_is_file}
use Rattle.dr_formats.proofs.LoadFits.{limited_records_fit}
use Rattle.dr_levels.specs.declared.column.Column.{Column}
use Rattle.dr_levels.specs.Views.{columns_view, forms_view}
use Rattle.dr_nested.specs.PathView.{path_view, paths_view}
use Rattle.dr_nested.specs.declared.path.Path.{Path}
use Rattle.dr_striper.specs.Striping.{gained, leaves_of, forms_of}
use Rattle.dr_striper.specs.Stripers.{fits_leaf, striped, striped_leaves, striped_paths}
use Rattle.dr_striper.proofs.GrowthLemmas.{columns-push}
use Rattle.dr_striper.proofs.FitLemmas.{record_fits_all}
use Rattle.dr_striper.proofs.SchemaLeafLemmas.{schema_leaves_are}
use Rattle.dr_write.specs.Files.{AreColumnsFor, HaveColumns}
use Rattle.dr_write.proofs.FitLemmas as write_laws
use Rattle.dr_input.proofs.ReadForm.{limited_small, line_limited}
use Rattle.std.proofs.lemmas.Bool.Decides.{nat_tests}
use Rattle.dr_meaning.specs.JsonRecord.{RecordFault, record_of_line}
use Rattle.dr_sub_meaning.specs.Session.{most_kept, too_many_records}
use Rattle.dr_session.specs.Keeping.{wrapped, kept_record, IsRefusedRecord, KeepsRecord, StripesRecord}
use Rattle.dr_session.specs.declared.fault.HearFault.{HearFault}
use Rattle.dr_session.specs.Held.{IsKept}
use Rattle.dr_session.specs.declared.kept.Kept.{Kept}

-- ---- columns

all_push : (p : Node → Bool) (R : List Node) (n : Node) → list_all p R ≡ true → p n ≡ true → list_all p (R ++ n ∷ []) ≡ true
all_push p [] n h k = and_from (p n) true k refl
all_push p (m ∷ R) n h k = let a = and_parts (p m) (list_all p R) h in and_from (p m) (list_all p (R ++ n ∷ [])) a.0 (all_push p R n a.1 k)

empty_columns : (ps : List Path) → replicate (length ps) [] ≡ map (λ (l : Leaf). column l.path []) (leaves_of ps)
empty_columns [] = refl
empty_columns (p ∷ ps) = ap (λ (cs : List (List Triplet)). [] ∷ cs) (empty_columns ps)

leaf_paths : (ps : List Path) → paths_view ps ≡ map (λ (l : Leaf). l.path) (leaves_of ps)
leaf_paths [] = refl
leaf_paths (p ∷ ps) = ap (λ (qs : List (List Step)). (path_view p).path ∷ qs) (leaf_paths ps)

by_paths : (ls : List Leaf) (R : List Node) → map (λ (p : List Step). column p R) (map (λ (l : Leaf). l.path) ls) ≡ map (λ (l : Leaf). column l.path R) ls
by_paths [] R = refl
by_paths (l ∷ ls) R = ap (λ (cs : List (List Triplet)). column l.path R ∷ cs) (by_paths ls R)

-- none yet
pub no_columns : (s : Schema) (ps : List Path) (columns : List (List Triplet)) → leaves_of ps ≡ leaves s.fields → columns ≡ replicate (length ps) [] → columns ≡ map (λ (l : Leaf). column l.path []) (leaves s.fields)
no_columns s ps columns l e = e ∙ empty_columns ps ∙ ap (map (λ (x : Leaf). column x.path [])) l

-- none is kept
pub none_kept : (s : Schema) (k : Kept) → leaves_of k.fields.now ≡ leaves s.fields → striped_leaves k.striper ≡ leaves_of k.fields.now → striped k.striper ≡ replicate (length k.fields.now) [] → k.count ≡ 0 → IsKept s [] k
none_kept s k f l c z = record {
  fields_are = f;
  leaves_are = l ∙ f;
  are_records = refl;
  limited = refl;
  count_is = sym z;
  few = omega (arith, z);
  columns_are = no_columns s k.fields.now (striped k.striper) f c;
}

-- one record more
pub columns_more : (fs : Fields) (ps : List Path) (R : List Node) (n : Node) (old new : List (List Triplet)) → leaves_of ps ≡ leaves fs → old ≡ map (λ (l : Leaf). column l.path R) (leaves fs)
    → new ≡ gained (λ p. record_column p n) (paths_view ps) old → new ≡ map (λ (l : Leaf). column l.path (R ++ n ∷ [])) (leaves fs)
columns_more fs ps R n old new l o e =
    let F : List (List Step) = map (λ (x : Leaf). x.path) (leaves fs) in
    e ∙ ap₂ (λ (G : List (List Step)) (cs : List (List Triplet)). gained (λ p. record_column p n) G cs) (leaf_paths ps ∙ ap (map (λ (x : Leaf). x.path)) l) (o ∙ sym (by_paths (leaves fs) R))
    ∙ columns-push F R n ∙ by_paths (leaves fs) (R ++ n ∷ [])

-- one more is kept
pub kept_more : (s : Schema) (R : List Node) (n : Node) (k m : Kept) → IsKept s R k → is_record s.fields n ≡ true → is_limited n ≡ true → k.count < most_kept → m.count ≡ k.count + 1
    → leaves_of m.fields.now ≡ leaves_of k.fields.now → striped_leaves m.striper ≡ striped_leaves k.striper
    → striped m.striper ≡ gained (λ p. record_column p n) (striped_paths k.striper) (striped k.striper) → IsKept s (R ++ n ∷ []) m
kept_more s R n k m h r t few counts f l e = record {
  fields_are = f ∙ h.fields_are;
  leaves_are = l ∙ h.leaves_are;
  are_records = all_push (is_record s.fields) R n h.are_records r;
  limited = all_push is_limited R n h.limited t;
  count_is = omega (arith, length-append R (n ∷ []), h.count_is, counts);
  few = omega (arith, few, counts);
  columns_are = columns_more s.fields k.striper.fields.now R n (striped k.striper) (striped m.striper) h.leaves_are h.columns_are e;
}

-- there is room for one more
pub record_kept : (R : List Node) (r : Result Node RecordFault) (n : Node) {k : ℕ} → length R ≡ k → k < most_kept → r ≡ Ok n → kept_record R r ≡ Ok n
record_kept R r n e few h =
    let room : nat_lt (length R) most_kept ≡ true = grind (arith, nat_tests, e, few) in
    ap₂ (λ (b : Bool) (x : Result Node RecordFault). if b then wrapped x else Err too_many_records) room h

-- each leaf takes what a record gives it
pub record_fits : (fs : Fields) (ls : List Leaf) (n : Node) → ls ≡ leaves fs → is_record fs n ≡ true → list_all (fits_leaf n) ls ≡ true
record_fits fs ls n e r = ap (list_all (fits_leaf n)) e ∙ record_fits_all fs (leaves fs) n (schema_leaves_are fs) r

-- ---- the file

all_small : (R : List Node) → list_all is_limited R ≡ true → list_all (λ (n : Node). nat_lt (text_bytes n) (2 ^ 32)) R ≡ true
all_small [] h = refl
all_small (n ∷ R) h =
    let g = and_parts (is_limited n) (list_all is_limited R) h in
    and_from (nat_lt (text_bytes n) (2 ^ 32)) (list_all (λ (m : Node). nat_lt (text_bytes m) (2 ^ 32)) R) (limited_small n g.0) (all_small R g.1)

pub kept_columns_fit : (s : Schema) (R : List Node) (k : Kept) (cs : List Column) → IsKept s R k → columns_view cs ≡ striped k.striper → forms_view cs ≡ forms_of (striped_leaves k.striper) → AreColumnsFor s cs
kept_columns_fit s R k cs h c f =
    write_laws.record_columns_fit s R cs (h.are_records, c ∙ h.columns_are) (all_small R h.limited) (f ∙ ap forms_of h.leaves_are)

pub kept_have_columns : (s : Schema) (R : List Node) (k : Kept) (cs : List (List Triplet)) → IsKept s R k → cs ≡ striped k.striper → HaveColumns s R cs
kept_have_columns s R k cs h c = (h.are_records, c ∙ h.columns_are)

among_from : (ls F : List Leaf) → ((i : ℕ) (l : Leaf) → nth_leaf F i ≡ Some l → (j : ℕ) × (nth_leaf ls j ≡ Some l)) → AreAmong ls F
among_from ls [] h = tt
among_from ls (l ∷ F) h = (h 0 l refl, among_from ls F (λ i m e. h (suc i) m e))

pub kept_file : (s : Schema) (R : List Node) (k : Kept) (bytes : List ℕ) → IsKept s R k → is_schema s ≡ true → bytes ≡ file_bytes data_page_v1 s R → IsFileOf bytes s (leaves s.fields) R
kept_file s R k bytes h v e =
    let fits = limited_records_fit data_page_v1 s R v h.are_records h.limited (omega (arith, h.count_is, h.few)) in
    subst (λ (b : List ℕ). IsFileOf b s (leaves s.fields) R) (sym e)
    (written_file_is_file data_page_v1 s R (leaves s.fields) fits (among_from (leaves s.fields) (leaves s.fields) (λ i l g. (i, g))))

-- ---- the record of a line

pub kept_line : (s : Schema) (R : List Node) (line : List ℕ) (k m : Kept) (done : Unit {0}) → IsKept s R k → k.count < most_kept → m.count ≡ k.count + 1
    → leaves_of m.fields.now ≡ leaves_of k.fields.now → striped_leaves m.striper ≡ striped_leaves k.striper
    → StripesRecord s.fields (record_of_line s.fields line) (striped_paths k.striper) (striped k.striper) (striped m.striper) (Ok done) → KeepsRecord s R (kept_record R (record_of_line s.fields line)) m (Ok done)
kept_line s R line k m done h few counts f l (n, read, form, gains) =
    (n, record_kept R (record_of_line s.fields line) n h.count_is few read, kept_more s R n k m h form (line_limited s.fields line n read) few counts f l gains)

fault_kept : (R : List Node) (r : Result Node RecordFault) (e : HearFault) → kept_record R r ≡ wrapped r → IsRefusedRecord (wrapped r) e → IsRefusedRecord (kept_record R r) e
fault_kept R r HearFault.NoMemory is h = tt
fault_kept R r (HearFault.Refused p) is h = is ∙ h

pub refused_line : (s : Schema) (R : List Node) (r : Result Node RecordFault) (k : Kept) (e : HearFault) → IsKept s R k → k.count < most_kept → IsRefusedRecord (wrapped r) e → IsRefusedRecord (kept_record R r) e
refused_line s R r k e h few f =
    let room : nat_lt (length R) most_kept ≡ true = grind (arith, nat_tests, h.count_is, few) in
    fault_kept R r e (ap (λ (b : Bool). if b then wrapped r else Err too_many_records) room) f

pub on_ok : {A E : Type 0} (P : Type 0) (r : Result A E) → P → OnOk r P
on_ok P (Ok a) p = p
on_ok P (Err e) p = tt

pub file_is : {E : Type 0} (s : Schema) (R : List Node) (k : Kept) (r : Result (Vec ℕ Global) E) → IsKept s R k → is_schema s ≡ true → IfOk r (λ b. b.items ≡ file_bytes data_page_v1 s R) → IfOk r (λ b. IsFileOf b.items s (leaves s.fields) R)
file_is s R k (Ok b) h v e = kept_file s R k b.items h v e
file_is s R k (Err x) h v e = tt
