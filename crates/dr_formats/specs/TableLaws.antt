-- Laws of table files.
use Rattle.std.specs.Prelude.{◌≡◌, ◌↔◌, ℕ, ◌<◌, ◌≤◌, List, ◌∷◌, ◌++◌, length, Bool, true, ◌&&◌, codes, Ok}
use Rattle.std.specs.List.{list_all}
use Rattle.std.specs.Str.{is_utf8}
use Rattle.std.specs.Fmt.{decimal}
use Rattle.dr_meaning.specs.Schema.{is_schema}
use Rattle.dr_meaning.specs.SchemaText.{schema_text, parse_schema, longest_schema}
use Rattle.dr_formats.specs.TableFile.{Table, most_tablets, most_leaf_lines, longest_table, leaf_texts, parse_table, table_text, is_line_text}

abbrev pub is_directory : List ℕ → Bool
is_directory d = is_line_text d && is_utf8 d

-- a table within the limits
abbrev pub IsTable : Table → Type 0
IsTable t = (is_schema t.schema ≡ true) × (0 < length t.leaves) × (length t.leaves ≤ most_leaf_lines) × (list_all is_directory t.leaves ≡ true)
    × (0 < t.copies) × (t.copies ≤ length t.leaves) × (0 < t.tablets) × (t.tablets ≤ most_tablets)

-- the text of a table is read as that table, where it isn't too long
abbrev pub TableReadsBack : Type 0
TableReadsBack = (t : Table) → IsTable t → length (schema_text t.schema) ≤ longest_schema → length (table_text t) ≤ longest_table
    → parse_table (table_text t) ≡ Ok t

-- ---- which texts are accepted

-- leaves, copies and tablets within the limits
abbrev pub IsWithinLimits : Table → Type 0
IsWithinLimits t = (0 < length t.leaves) × (length t.leaves ≤ most_leaf_lines) × (list_all is_line_text t.leaves ≡ true)
    × (0 < t.copies) × (t.copies ≤ length t.leaves) × (0 < t.tablets) × (t.tablets ≤ most_tablets)

-- the lines of the head, of the tablets, of the copies, of each leaf and `schema`, then any text of the schema
abbrev pub SpellsTable : Table → List ℕ → Type 0
SpellsTable t text = (behind : List ℕ) × (text ≡ codes "dremel-table 1" ++ (10 ∷ (codes "tablets " ++ (decimal t.tablets ++ (10 ∷ (codes "copies "
    ++ (decimal t.copies ++ (10 ∷ leaf_texts t.leaves (codes "schema" ++ (10 ∷ behind)))))))))) × (parse_schema behind ≡ Ok t.schema)

-- a text is accepted as a table exactly if it is UTF-8 and not too long, spells the table, and the table is within the limits
abbrev pub TableTextsAreAcceptedExactly : Type 0
TableTextsAreAcceptedExactly = (text : List ℕ) (t : Table) → (parse_table text ≡ Ok t) ↔ ((length text ≤ longest_table) × (is_utf8 text ≡ true)
    × IsWithinLimits t × SpellsTable t text)
