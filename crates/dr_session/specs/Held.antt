-- What a session holds of the records that are kept and of the tablets that are published.
use Rattle.std.specs.Prelude.{◌≡◌, ◌≤◌, ℕ, List, map, length, true}
use Rattle.std.specs.List.{list_all}
use Rattle.dr_meaning.specs.Schema.{Schema}
use Rattle.dr_meaning.specs.Path.{Leaf, leaves}
use Rattle.dr_meaning.specs.Record.{Node, is_record}
use Rattle.dr_meaning.specs.Column.{column}
use Rattle.dr_formats.specs.WritingLaws.{is_limited}
use Rattle.dr_striper.specs.Striping.{leaves_of}
use Rattle.dr_striper.specs.Stripers.{striped, striped_leaves}
use Rattle.dr_sub_meaning.specs.Session.{Session, most_kept}
use Rattle.dr_service.specs.Tablets.{AreTabletsOf}
use Rattle.dr_session.specs.declared.kept.Kept.{Kept}

-- the columns are those of these records, of which each is one of the schema, within the limits of a line
pub record IsKept (s : Schema) (R : List Node) (k : Kept) : Type 0 where
  pub fields_are : leaves_of k.fields.now ≡ leaves s.fields
  pub leaves_are : striped_leaves k.striper ≡ leaves s.fields
  pub are_records : list_all (is_record s.fields) R ≡ true
  pub limited : list_all is_limited R ≡ true
  pub count_is : length R ≡ k.count
  pub few : k.count ≤ most_kept
  pub columns_are : striped k.striper ≡ map (λ (l : Leaf). column l.path R) (leaves s.fields)

-- those of some records
abbrev pub KeepsSome : Schema → Kept → Type 0
KeepsSome s k = (R : List Node) × IsKept s R k

-- a session holds its records as columns, and each publish as the file of its records
pub record IsSession (s : Schema) (w : Session) (k : Kept) (tablets : List (List ℕ)) : Type 0 where
  pub kept_are : IsKept s w.kept k
  pub tablets_are : AreTabletsOf s tablets w.published

abbrev pub HoldsSome : Schema → Kept → List (List ℕ) → Type 0
HoldsSome s k tablets = (w : Session) × IsSession s w k tablets
