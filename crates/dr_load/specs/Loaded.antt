-- What may be loaded as a table, and which files its copies hold.
use Rattle.std.specs.Prelude.{◌≡◌, ◌≢◌, ℕ, ◌<◌, ◌≤◌, List, [], ◌∷◌, length, true, Option, Some, None, ⊤}
use Rattle.std.specs.List.{list_all}
use Rattle.dr_meaning.specs.Schema.{Schema, is_schema}
use Rattle.dr_meaning.specs.Path.{Leaf}
use Rattle.dr_meaning.specs.Record.{Node, is_record}
use Rattle.dr_formats.specs.File.{IsFileOf}
use Rattle.dr_formats.specs.Page.{PageForm}
use Rattle.dr_formats.specs.Loading.{Plan, most_tablet_rows}
use Rattle.dr_formats.specs.TableFile.{most_tablets}
use Rattle.dr_formats.specs.Tablets.{tablets, tablet_path}
use Rattle.dr_formats.specs.Writing.{file_bytes}
use Rattle.dr_formats.specs.WritingLaws.{is_limited}
use Rattle.dr_outside.specs.Link.{Files}
use Rattle.dr_reading.specs.Scan.{Copy}
use Rattle.dr_meaning.specs.Lists.{nth_text}

-- a plan by which tables can be loaded: a schema, a directory at least, and at least one record to a tablet and at most 1,000,000
pub record IsPlan (p : Plan) : Type 0 where
  pub schema : is_schema p.schema ≡ true
  pub has_directory : 0 < length p.directories
  pub has_rows : 0 < p.rows
  pub few_rows : p.rows ≤ most_tablet_rows

-- records that fit a table of this plan: they are of the schema, each is within the limits of an input line, and there are at most 4,096 tablets of them
pub record AreLoadable (p : Plan) (R : List Node) : Type 0 where
  pub records : list_all (is_record p.schema.fields) R ≡ true
  pub limited : list_all is_limited R ≡ true
  pub few_tablets : length (tablets p.rows R) ≤ most_tablets

-- where a table file is put, its path is no tablet's in any of these directories
abbrev pub IsApart : List (List ℕ) → Option (List ℕ) → Type 0
IsApart directories None = ⊤
IsApart directories (Some path) = (d tablet : ℕ) → d < length directories → tablet < most_tablets → path ≢ tablet_path (nth_text directories d) tablet

-- each of these copies holds these bytes
abbrev pub CopiesHold : Files → List ℕ → List Copy → Type 0
CopiesHold files bytes [] = ⊤
CopiesHold files bytes (c ∷ cs) = (files c.path ≡ Some bytes) × CopiesHold files bytes cs

-- each copy of each tablet holds the file that is written for the tablet's records in pages of this form, and it is a file of them for these leaves
abbrev pub TabletsAreFiles : PageForm → Schema → List Leaf → Files → List (List Copy) → List (List Node) → Type 0
TabletsAreFiles form s F files [] [] = ⊤
TabletsAreFiles form s F files (cs ∷ ts) (R ∷ Rs) = IsFileOf (file_bytes form s R) s F R × CopiesHold files (file_bytes form s R) cs × TabletsAreFiles form s F files ts Rs
TabletsAreFiles form s F files ts Rs = ⊥
