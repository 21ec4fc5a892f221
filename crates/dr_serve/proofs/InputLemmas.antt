-- An input that is loaded into memory.
use Rattle.std.specs.Prelude.{◌≡◌, ◌<◌, ◌≤◌, ℕ, All, List, [], length, true, Option, Some, None, MatchOption, Ok, Err, ⊤}
use Rattle.std.proofs.Common.{arith, sym, ap, ◌∙◌, subst}
use Rattle.dr_meaning.specs.Schema.{Schema, is_schema}
use Rattle.dr_meaning.specs.Lines.{Refusal, lines_of, result_of, records_of}
use Rattle.dr_meaning.proofs.LineLemmas.{taken_are_records}
use Rattle.dr_formats.specs.Loading.{Plan, most_loaded, table_of, load}
use Rattle.dr_formats.specs.Page.{data_page_v1}
use Rattle.dr_formats.specs.TableFile.{Table}
use Rattle.dr_formats.specs.Tablets.{tablets}
use Rattle.dr_outside.specs.Link.{Files}
use Rattle.dr_outside.specs.Shelf.{files_of}
use Rattle.dr_outside.specs.MemLink.{shelf_of}
use Rattle.dr_outside.specs.declared.shelf.Shelf.{Shelf}
use Rattle.dr_outside.specs.declared.mem_link.MemLink.{MemLink}
use Rattle.dr_load.specs.Loads.{taken_of, LoadsTable}
use Rattle.dr_input.specs.Taken.{WhereTold}
use Rattle.dr_load.specs.Loaded.{IsPlan, IsApart}
use Rattle.dr_load.proofs.LoadedLemmas.{loaded_records_are_held, loaded_records_are_joined}
use Rattle.dr_sub_meaning.specs.Nested.{NestedQuery}
use Rattle.dr_sub_meaning.specs.NestedAsk.{nested_answer_text}
use Rattle.dr_serve.specs.Asked.{HoldsTableOf, IsAnswerTo}

-- what a load has put is a table that is held
pub holds_table : (p : Plan) (count : ℕ) (input : Option (List ℕ)) (before now : Files) → IsPlan p → IsApart p.directories p.table → (l : LoadsTable p p.table count input (Some before) (Some now)) → HoldsTableOf (table_of p count) (Some now) l.records
holds_table p count input before now s a l =
    (p.form, tablets p.rows l.records, loaded_records_are_joined p.rows l.records, λ F f. (loaded_records_are_held p count input F before now s a f l).1)

-- of at least one tablet
pub some_tablet : (p : Plan) (count : ℕ) (input : Option (List ℕ)) (before now : Files) → IsPlan p → IsApart p.directories p.table → LoadsTable p p.table count input (Some before) (Some now) → 0 < count
some_tablet p count input before now s a l = (loaded_records_are_held p count input [] before now s a tt l).0

-- a text that answers the records that were loaded answers the input
pub answers_input : (p : Plan) (n : NestedQuery) (count : ℕ) (input : Option (List ℕ)) (before now : Files) (text : List ℕ) → IsPlan p → IsApart p.directories p.table → (l : LoadsTable p p.table count input (Some before) (Some now))
    → text ≡ nested_answer_text p.schema n l.records → WhereTold input (IsAnswerTo p.schema n p.rows text)
answers_input p n count input before now text s a l e = by input (loaded_records_are_held p count input [] before now s a tt l).2
  where
    by : (o : Option (List ℕ)) → WhereTold o (λ bytes. records_of p.schema.fields (most_loaded p.rows) bytes ≡ Ok l.records) → WhereTold o (IsAnswerTo p.schema n p.rows text)
    by None h = tt
    by (Some bytes) h = (l.records, h, e)

refusal_is : (p : Plan) (bytes : List ℕ) (r : Refusal) → (load p bytes).refusal ≡ Some r → (taken_of p bytes).refusal ≡ Some r
unfolding load
refusal_is p bytes r e = e

records_refused : (p : Plan) (bytes : List ℕ) (r : Refusal) → (taken_of p bytes).refusal ≡ Some r → records_of p.schema.fields (most_loaded p.rows) bytes ≡ Err r
unfolding records_of
records_refused p bytes r e = sym (taken_are_records p.schema.fields (most_loaded p.rows) 1 (lines_of bytes)) ∙ ap (result_of (taken_of p bytes).records) e

-- the refusal of a load is that of the input's records
pub refused_too : (p : Plan) (input : Option (List ℕ)) (o : Option Refusal) → MatchOption o ⊤ (λ r. WhereTold input (λ bytes. (load p bytes).refusal ≡ Some r))
    → MatchOption o ⊤ (λ r. WhereTold input (λ bytes. records_of p.schema.fields (most_loaded p.rows) bytes ≡ Err r))
refused_too p input None h = tt
refused_too p None (Some r) h = tt
refused_too p (Some bytes) (Some r) h = records_refused p bytes r (refusal_is p bytes r h)

-- ---- a table in memory: one directory, one copy of each tablet, no table file

abbrev pub memory_plan : Schema → List (List ℕ) → ℕ → Plan
memory_plan s directories rows = record { schema = s; directories = directories; copies = 1; rows = rows; table = None; form = data_page_v1 }

abbrev pub memory_table : Schema → List (List ℕ) → ℕ → Table
memory_table s directories count = record { schema = s; leaves = directories; copies = 1; tablets = count }

abbrev pub LoadsMemory : Schema → List (List ℕ) → ℕ → ℕ → Option (List ℕ) → Files → Files → Type 0
LoadsMemory s directories rows count input before now = LoadsTable (memory_plan s directories rows) None count input (Some before) (Some now)

-- what such a load is given
pub record IsMemory (s : Schema) (directories : List (List ℕ)) (rows : ℕ) : Type 0 where
  pub schema : is_schema s ≡ true
  pub one_directory : length directories ≡ 1
  pub has_rows : 0 < rows
  pub few_rows : rows ≤ 1000000

memory_is_plan : (s : Schema) (ds : List (List ℕ)) (rows : ℕ) → IsMemory s ds rows → IsPlan (memory_plan s ds rows)
memory_is_plan s ds rows m = record { schema = m.schema; has_directory = omega (arith, m.one_directory); has_rows = m.has_rows; few_rows = m.few_rows }

pub memory_has_tablet : (s : Schema) (ds : List (List ℕ)) (rows count : ℕ) (input : Option (List ℕ)) (before now : Files) → IsMemory s ds rows → LoadsMemory s ds rows count input before now → 0 < count
memory_has_tablet s ds rows count input before now m l = some_tablet (memory_plan s ds rows) count input before now (memory_is_plan s ds rows m) tt l

pub memory_holds : (s : Schema) (ds es : List (List ℕ)) (rows count : ℕ) (input : Option (List ℕ)) (before now : Files) → IsMemory s ds rows → (l : LoadsMemory s ds rows count input before now) → ds ≡ es → HoldsTableOf (memory_table s es count) (Some now) l.records
memory_holds s ds es rows count input before now m l e =
    subst (λ (x : List (List ℕ)). HoldsTableOf (memory_table s x count) (Some now) l.records) e (holds_table (memory_plan s ds rows) count input before now (memory_is_plan s ds rows m) tt l)

pub memory_answers : (s : Schema) (n : NestedQuery) (ds : List (List ℕ)) (rows count : ℕ) (input : Option (List ℕ)) (before now : Files) (text : List ℕ) → IsMemory s ds rows → (l : LoadsMemory s ds rows count input before now)
    → text ≡ nested_answer_text s n l.records → WhereTold input (IsAnswerTo s n rows text)
memory_answers s n ds rows count input before now text m l e = answers_input (memory_plan s ds rows) n count input before now text (memory_is_plan s ds rows m) tt l e

-- ---- links to the table in memory

pub lent_hold : (shelf : Shelf) (lent links : List MemLink) → links ≡ lent → All (λ l. shelf_of l ≡ shelf) lent → All (λ l. Some (files_of (shelf_of l)) ≡ Some (files_of shelf)) links
lent_hold shelf lent links e h i x lt = ap (λ (s : Shelf). Some (files_of s)) (subst (λ (ls : List MemLink). All (λ l. shelf_of l ≡ shelf) ls) (sym e) h i x lt)
