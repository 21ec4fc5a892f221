-- Records have the columns of strips exactly where they have those of the strips that are kept.
use Rattle.std.proofs.Common.{◌≡◌, ℕ, List, true, Some, None}
use Rattle.std.specs.List.{list_all}
use Rattle.dr_meaning.specs.Schema.{Fields}
use Rattle.dr_meaning.specs.Path.{is_leaf_path}
use Rattle.dr_meaning.specs.Record.{Node}
use Rattle.dr_walk.specs.Walking.{HasColumns, NoneHas}
use Rattle.dr_assemble.specs.Restoring.{Strip, rests, columns_of}
use Rattle.dr_assemble.specs.Distinct.{AreDistinct}
use Rattle.dr_assemble.proofs.DistinctLemmas.{kept_have, have_kept, never_have, of_columns, as_columns}

-- some records have the columns of a list of strips
abbrev pub SomeHave : Fields → ℕ → List Strip → Type 0
SomeHave fs rows S = (R : List Node) × HasColumns fs (rests S) (columns_of S) rows R

-- none have
abbrev pub NoneHave : Fields → ℕ → List Strip → Type 0
NoneHave fs rows S = NoneHas fs (rests S) (columns_of S) rows

pub some_have : (fs : Fields) (rows : ℕ) (S D : List Strip) → AreDistinct None S (Some D) → list_all (is_leaf_path fs) (rests S) ≡ true → SomeHave fs rows D → SomeHave fs rows S
some_have fs rows S D a l x = (x.0, (x.1.0, x.1.1, as_columns x.0 S (kept_have fs x.0 S (Some D) a l (of_columns x.0 D x.1.2))))

pub none_have_kept : (fs : Fields) (rows : ℕ) (S D : List Strip) → AreDistinct None S (Some D) → NoneHave fs rows D → NoneHave fs rows S
none_have_kept fs rows S D a none R h = none R (h.0, h.1, as_columns R D (have_kept R None S (Some D) a (of_columns R S h.2)))

pub none_have_any : (fs : Fields) (rows : ℕ) (S : List Strip) → AreDistinct None S None → list_all (is_leaf_path fs) (rests S) ≡ true → NoneHave fs rows S
none_have_any fs rows S a l R h = never_have fs R S a l (of_columns R S h.2)
