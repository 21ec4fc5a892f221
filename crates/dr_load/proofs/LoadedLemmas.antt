-- A table that a load has put is held.
use Rattle.std.specs.Prelude.{◌≡◌, ℕ, zero, suc, ◌+◌, ◌≤◌, List, [], ◌∷◌, ◌++◌, length, true, Option, Some, None, Ok}
use Rattle.std.specs.List.{list_all}
use Rattle.std.proofs.Common.{arith, refl, sym, ap, ◌∙◌, subst, inl, inr}
use Rattle.dr_meaning.specs.Schema.{Schema}
use Rattle.dr_meaning.specs.Path.{Leaf, leaves}
use Rattle.dr_meaning.specs.Record.{Node, is_record}
use Rattle.dr_meaning.specs.Lines.{Taken, lines_of, result_of, records_of}
use Rattle.dr_meaning.proofs.LineLemmas.{taken_are_records}
use Rattle.dr_formats.specs.File.{IsFileOf}
use Rattle.dr_formats.specs.Page.{PageForm}
use Rattle.dr_formats.specs.Loading.{Plan, Put, most_loaded, tablet_puts, puts_from, put_at, whole_puts, table_of}
use Rattle.dr_formats.specs.TableFile.{table_text}
use Rattle.dr_formats.specs.Tablets.{tablets, tablet_path}
use Rattle.dr_formats.specs.TabletLaws.{all_records}
use Rattle.dr_formats.specs.Writing.{file_bytes}
use Rattle.dr_formats.specs.WritingLaws.{AreAmong, is_limited}
use Rattle.dr_formats.proofs.FileBack.{written_file_is_file}
use Rattle.dr_formats.proofs.LoadFits.{limited_records_fit}
use Rattle.dr_formats.proofs.TabletLemmas.{tablets_hold_records, tablets_are_full}
use Rattle.dr_outside.specs.Link.{Files}
use Rattle.dr_reading.specs.Held.{held_file}
use Rattle.dr_reading.specs.Premises.{HoldsRecords, PathsHold, TabletsHold}
use Rattle.dr_reading.specs.Scan.{Copy, tablets_from, tablets_of, joined, copy_paths}
use Rattle.dr_load.specs.Loads.{taken_of}
use Rattle.dr_input.specs.Taken.{WhereTold}
use Rattle.dr_load.specs.Puts.{HoldsPut}
use Rattle.dr_load.specs.Loaded.{IsPlan, AreLoadable, CopiesHold, TabletsAreFiles}
use Rattle.dr_load.specs.LoadedLaws.{LoadedCopiesAreFiles, LoadedTableIsHeld, LoadedRecordsAreHeld, LoadedRecordsAreJoined}
use Rattle.dr_load.proofs.LoadedTablets.{AllFit, all_fit, some_tablet}
use Rattle.dr_load.proofs.LoadedPuts.{SomePut, put_there, some_front, some_back, AreFilesBy, whole_all, HoldTablets, copies_hold}
use Rattle.dr_meaning.specs.Lists.{nth_text}

-- ---- the file of each tablet, by its number

abbrev nth_tablet : List (List Node) → ℕ → List Node
nth_tablet [] i = []
nth_tablet (t ∷ ts) zero = t
nth_tablet (t ∷ ts) (suc i) = nth_tablet ts i

files_by : (p : Plan) (file : ℕ → List ℕ) (k : ℕ) (ts : List (List Node)) → ((i : ℕ) → file (k + i) ≡ file_bytes p.form p.schema (nth_tablet ts i)) → AreFilesBy p file k ts
files_by p file k [] h = tt
files_by p file k (t ∷ ts) h =
    let z : k + 0 ≡ k = omega arith in (
      ap file (sym z) ∙ h 0,
      files_by p file (suc k) ts (λ i. let e : suc k + i ≡ k + suc i = omega arith in ap file e ∙ h (suc i)),
    )

abbrev file_by : Plan → List (List Node) → ℕ → List ℕ
file_by p ts i = file_bytes p.form p.schema (nth_tablet ts i)

are_files_by : (p : Plan) (ts : List (List Node)) → AreFilesBy p (file_by p ts) 0 ts
are_files_by p ts = files_by p (file_by p ts) 0 ts (λ i. let z : 0 + i ≡ i = omega arith in ap (file_by p ts) z)

-- ---- copies

-- records that can be written are a file
is_file : (p : Plan) (R : List Node) (F : List Leaf) → IsPlan p → AreAmong (leaves p.schema.fields) F → length R ≤ p.rows → list_all (is_record p.schema.fields) R ≡ true → list_all is_limited R ≡ true
    → IsFileOf (file_bytes p.form p.schema R) p.schema F R
is_file p R F s a n r l = written_file_is_file p.form p.schema R F (limited_records_fit p.form p.schema R s.schema r l (omega (arith, n, s.few_rows))) a

files_from : (p : Plan) (F : List Leaf) (file : ℕ → List ℕ) (ps : List Put) (files : Files) (k : ℕ) (ts : List (List Node)) → IsPlan p → AreAmong (leaves p.schema.fields) F → HoldTablets p file ps files
    → AreFilesBy p file k ts → k + length ts ≤ 4096 → AllFit p.rows (is_record p.schema.fields) ts → AllFit p.rows is_limited ts → ((path : List ℕ) → SomePut path (puts_from p k ts) → SomePut path ps)
    → TabletsAreFiles p.form p.schema F files (tablets_from p.directories p.copies k (length ts)) ts
files_from p F file ps files k [] s a h f n r l g = tt
files_from p F file ps files k (t ∷ ts) s a h f n r l g = (
  is_file p t F s a r.0 r.1 l.1,
  copies_hold p file ps files (file_bytes p.form p.schema t) k 0 p.copies s.has_directory (omega (arith, n)) f.0 h (λ path q. g path (some_front path (tablet_puts p k t) (puts_from p (suc k) ts) q)),
  files_from p F file ps files (suc k) ts s a h f.1 (omega (arith, n)) r.2 l.2 (λ path q. g path (some_back path (tablet_puts p k t) (puts_from p (suc k) ts) q)),
)

pub loaded_copies_are_files : LoadedCopiesAreFiles
loaded_copies_are_files p R F before now s l a f h =
    let ts : List (List Node) = tablets p.rows R in
    let text : List ℕ = table_text (table_of p (length ts)) in
    let e : all_records ts ≡ R = tablets_hold_records p.rows R in
    let held : HoldTablets p (file_by p ts) (whole_puts p ts) now =
    λ d i hd hi q. h (tablet_path (nth_text p.directories d) i)
    ∙ put_there (whole_puts p ts) before (tablet_path (nth_text p.directories d) i) (file_by p ts i) (whole_all p (file_by p ts) ts text d i a hd hi l.few_tablets (are_files_by p ts)) (inr q) in
    files_from p F (file_by p ts) (whole_puts p ts) now 0 ts s f held (are_files_by p ts) (omega (arith, l.few_tablets))
    (all_fit p.rows (is_record p.schema.fields) ts (tablets_are_full p.rows R s.has_rows) (ap (list_all (is_record p.schema.fields)) e ∙ l.records))
    (all_fit p.rows is_limited ts (tablets_are_full p.rows R s.has_rows) (ap (list_all is_limited) e ∙ l.limited))
    (λ path q. some_front path (puts_from p 0 ts) (put_at p.table text) q)

-- ---- the table is held

paths_hold : (form : PageForm) (s : Schema) (F : List Leaf) (files : Files) (cs : List Copy) (R : List Node) → IsFileOf (file_bytes form s R) s F R → CopiesHold files (file_bytes form s R) cs → PathsHold s F R files (copy_paths cs)
paths_hold form s F files [] R f h = tt
paths_hold form s F files (c ∷ cs) R f h = (subst (λ (o : Option (List ℕ)). HoldsRecords s F R (held_file o)) (sym h.0) (inl f), paths_hold form s F files cs R f h.1)

pub files_are_held : (form : PageForm) (s : Schema) (F : List Leaf) (files : Files) (ts : List (List Copy)) (Rs : List (List Node)) → TabletsAreFiles form s F files ts Rs → TabletsHold s F files ts Rs
files_are_held form s F files [] [] h = tt
files_are_held form s F files [] (R ∷ Rs) h = absurd h
files_are_held form s F files (cs ∷ ts) [] h = absurd h
files_are_held form s F files (cs ∷ ts) (R ∷ Rs) h = (paths_hold form s F files cs R h.0 h.1, files_are_held form s F files ts Rs h.2)

pub loaded_table_is_held : LoadedTableIsHeld
loaded_table_is_held p R F before now s l a f h =
    files_are_held p.form p.schema F now (tablets_of (table_of p (length (tablets p.rows R)))) (tablets p.rows R) (loaded_copies_are_files p R F before now s l a f h)

-- ---- what a load says

records_are : (p : Plan) (bytes : List ℕ) (R : List Node) → taken_of p bytes ≡ record { records = R; refusal = None } → records_of p.schema.fields (most_loaded p.rows) bytes ≡ Ok R
unfolding records_of
records_are p bytes R e = sym (taken_are_records p.schema.fields (most_loaded p.rows) 1 (lines_of bytes)) ∙ ap (λ (t : Taken). result_of t.records t.refusal) e

told_records : (p : Plan) (input : Option (List ℕ)) (R : List Node) → WhereTold input (λ bytes. taken_of p bytes ≡ record { records = R; refusal = None }) → WhereTold input (λ bytes. records_of p.schema.fields (most_loaded p.rows) bytes ≡ Ok R)
told_records p None R h = tt
told_records p (Some bytes) R h = records_are p bytes R h

pub loaded_records_are_held : LoadedRecordsAreHeld
loaded_records_are_held p count input F before now s a f l =
    let ts : List (List Node) = tablets p.rows l.records in
    let fit : AreLoadable p l.records = record { records = l.are_records; limited = l.limited; few_tablets = omega (arith, l.tablets_of, l.few_tablets) } in
    let w : HoldsPut (whole_puts p ts) (Some before) (Some now) = subst (λ (k : ℕ). HoldsPut (puts_from p 0 ts ++ put_at p.table (table_text (table_of p k))) (Some before) (Some now)) (sym l.tablets_of) l.put in (
      omega (arith, some_tablet p.rows ts (tablets_are_full p.rows l.records s.has_rows), l.tablets_of),
      subst (λ (k : ℕ). TabletsAreFiles p.form p.schema F now (tablets_of (table_of p k)) ts) l.tablets_of (loaded_copies_are_files p l.records F before now s fit a f w),
      told_records p input l.records l.taken,
    )

-- ---- joined

joined_are_all : (ts : List (List Node)) → joined ts ≡ all_records ts
joined_are_all [] = refl
joined_are_all (t ∷ ts) = ap (λ (x : List Node). t ++ x) (joined_are_all ts)

pub loaded_records_are_joined : LoadedRecordsAreJoined
loaded_records_are_joined rows R = joined_are_all (tablets rows R) ∙ tablets_hold_records rows R
