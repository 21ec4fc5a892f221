-- The theorem to read first: what `query` prints of a table whose files lie in memory. All that its statement needs stands on this page, over what a
-- file, a table and a query are.
use Rattle.std.specs.Prelude.{◌≡◌, ◌⊎◌, ◌++◌, ℕ, List, [], ◌∷◌, ⊤, Some, Ok, IsTrue}
use Rattle.dr_meaning.specs.Schema.{Schema}
use Rattle.dr_meaning.specs.Path.{Leaf}
use Rattle.dr_meaning.specs.Record.{Node}
use Rattle.dr_sub_meaning.specs.Nested.{NestedQuery, query_leaves}
use Rattle.dr_sub_meaning.specs.NestedAsk.{read_nested, nested_answer_text}
use Rattle.dr_formats.specs.TableFile.{Table, parse_table}
use Rattle.dr_outside.specs.Faults.{raised}
use Rattle.dr_outside.specs.Failing.{is_quiet}
use Rattle.dr_outside.specs.Link.{Files}
use Rattle.dr_outside.specs.Memory.{SinkState}
use Rattle.dr_outside.specs.MemLink.{shelf_of, link_failing}
use Rattle.dr_outside.specs.Shelf.{files_of}
use Rattle.dr_outside.specs.declared.mem_link.MemLink.{MemLink}
use Rattle.dr_reading.specs.Scan.{Copy, copy_paths, joined, tablets_of}
use Rattle.dr_reading.specs.Given.{SomeIsFile}
use Rattle.dr_reading.specs.Premises.{PathsHold}
use Rattle.dr_commands.specs.Query.{QueryWords}
use Rattle.dr_commands.specs.Commands.{query as query_of}
use Rattle.dr_words.specs.Words.{asked}

-- ---- what is there

-- each link is over these files, and none of its calls is to fail
abbrev pub AllOver : Files → List MemLink → Type 0
AllOver files [] = ⊤
AllOver files (l ∷ ls) = ((path : List ℕ) → files_of (shelf_of l) path ≡ files path) × IsTrue (is_quiet (link_failing l)) × AllOver files ls

-- each copy of each tablet is a file of the tablet's records for these leaves, or is no such file of any records, or isn't there; and one copy of it
-- is such a file
abbrev pub AreHeld : Schema → List Leaf → Files → List (List Copy) → List (List Node) → Type 0
AreHeld s F files [] [] = ⊤
AreHeld s F files (copies ∷ tablets) (R ∷ Rs) = PathsHold s F R files (copy_paths copies) × SomeIsFile s F files copies R × AreHeld s F files tablets Rs
AreHeld s F files tablets Rs = ⊥

-- the words ask for a query over a table, whose table file is among the first files, and whose tablets are among the second
pub record AsksTable (words : List (List ℕ)) (tables files : Files) : Type 0 where
  -- what the words ask for: which table, what of it, and how many workers serve it by a tree of which fan
  pub query : QueryWords
  pub asks : asked words ≡ Some (query_of query)
  -- the table file that they name is there, and writes a table
  pub bytes : List ℕ
  pub there : tables query.table ≡ Some bytes
  pub table : Table
  pub is_table : parse_table bytes ≡ Ok table
  -- the query's text writes a query over the table's schema, with those in its FROM
  pub plan : NestedQuery
  pub is_query : read_nested table.schema query.query ≡ Ok plan
  -- each tablet has records, and copies that hold them
  pub records : List (List Node)
  pub held : AreHeld table.schema (query_leaves table.schema.fields plan) files (tablets_of table) records

-- ---- how it ends

-- what the query means on all tablets' records, each counted once, as a text
abbrev pub answer_of : {words : List (List ℕ)} {tables files : Files} → AsksTable words tables files → List ℕ
answer_of a = nested_answer_text a.table.schema a.plan (joined a.records)

-- the status is 0, and out gained exactly this text; or memory ran out: for the program, whose status is 5, or for out, which failed, and the status is 4
abbrev pub PrintsText : List ℕ → ℕ → SinkState → SinkState → Type 0
PrintsText text status out out_now =
    ((status ≡ 0) × (out_now.written ≡ out.written ++ text)) ⊎ ((status ≡ 5) ⊎ ((status ≡ 4) × (out_now.failing.faults ≡ raised out.failing.faults)))
