-- The lines that commands over tables and files write: what was loaded, what is refused, what is left.
use Rattle.std.specs.Prelude.{ℕ, List, [], ◌∷◌, ◌++◌, codes, decimal}
use Rattle.dr_meaning.specs.Refusals.{schema_problem_name}
use Rattle.dr_formats.specs.File.{FileCause, bad_footer, bad_schema, bad_codec, bad_data}
use Rattle.dr_formats.specs.TableFile.{TableFault, table_too_long, bad_head, bad_tablets, bad_copies, bad_leaf, bad_table_schema}
use Rattle.dr_formats.specs.Tablets.{six_digits}
use Rattle.dr_formats.specs.Loading.{WordsRefusal, leaf_refused, copies_refused}

-- `loaded R records into T tablets`
abbrev pub loaded_text : ℕ → ℕ → List ℕ
loaded_text records tablets = codes "loaded " ++ (decimal records ++ (codes " records into " ++ (decimal tablets ++ (codes " tablets" ++ 10 ∷ []))))

-- ---- refusals

-- the schema text's faults by their place in that text
abbrev pub table_fault_name : TableFault → List ℕ
table_fault_name table_too_long = codes "TooLong"
table_fault_name bad_head = codes "Head"
table_fault_name bad_tablets = codes "Tablets"
table_fault_name bad_copies = codes "Copies"
table_fault_name (bad_leaf n) = codes "Leaf " ++ decimal n
table_fault_name (bad_table_schema e) = codes "schema at " ++ (decimal e.place ++ (codes ": " ++ schema_problem_name e.problem))

-- `refused table: WHAT`
abbrev pub table_refusal_text : TableFault → List ℕ
table_refusal_text e = codes "refused table: " ++ (table_fault_name e ++ 10 ∷ [])

-- `refused leaf N`, `refused copies`
abbrev pub words_refusal_text : WordsRefusal → List ℕ
words_refusal_text (leaf_refused n) = codes "refused leaf " ++ (decimal n ++ 10 ∷ [])
words_refusal_text copies_refused = codes "refused copies" ++ 10 ∷ []

-- ---- what is left

-- why a leaf did not answer for a tablet: a read failed, or the file has a cause
pub data LeafCause : Type 0 where
  read_failed : LeafCause
  bad_file : FileCause → LeafCause

abbrev pub file_cause_name : FileCause → List ℕ
file_cause_name bad_footer = codes "footer"
file_cause_name bad_schema = codes "schema"
file_cause_name bad_codec = codes "codec"
file_cause_name bad_data = codes "data"

abbrev pub leaf_cause_name : LeafCause → List ℕ
leaf_cause_name read_failed = codes "read"
leaf_cause_name (bad_file c) = file_cause_name c

-- a leaf, by its number, and its cause
pub record LeftLeaf : Type 0 where
  pub leaf : ℕ
  pub cause : LeafCause

-- `L CAUSE`
abbrev pub left_leaf_text : LeftLeaf → List ℕ
left_leaf_text l = decimal l.leaf ++ 32 ∷ leaf_cause_name l.cause

-- separated by `; `
abbrev pub left_leaves_text : List LeftLeaf → List ℕ
left_leaves_text [] = []
left_leaves_text (l ∷ []) = left_leaf_text l
left_leaves_text (l ∷ m ∷ ls) = left_leaf_text l ++ (codes "; " ++ left_leaves_text (m ∷ ls))

-- `left tNNNNNN: L CAUSE; L CAUSE`
abbrev pub left_tablet_text : ℕ → List LeftLeaf → List ℕ
left_tablet_text tablet ls = codes "left t" ++ (six_digits tablet ++ (codes ": " ++ (left_leaves_text ls ++ 10 ∷ [])))

-- `left file: CAUSE`
abbrev pub left_file_text : LeafCause → List ℕ
left_file_text c = codes "left file: " ++ (leaf_cause_name c ++ 10 ∷ [])
