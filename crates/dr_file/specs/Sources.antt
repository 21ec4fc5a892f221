-- The sources of the leaves that a file is opened for.
use Rattle.std.specs.Prelude.{◌≡◌, ◌<◌, ℕ, List, [], ◌∷◌, Option, Some, ⊤}
use Rattle.std.specs.List.{flat_map}
use Rattle.dr_meaning.specs.Path.{Leaf, max_definition}
use Rattle.dr_formats.specs.FileSchema.{FileSchema}
use Rattle.dr_open.specs.Sources.{source_in_file}
use Rattle.dr_open.specs.SourceViews.{source_view, IsPlaced}
use Rattle.dr_open.specs.declared.column_source.LeafSource.{LeafSource}

-- leaves have these sources in a file of this schema
abbrev pub AreSources : Option FileSchema → List Leaf → List LeafSource → Type 0
AreSources o [] [] = ⊤
AreSources o [] (s ∷ ss) = ⊥
AreSources o (l ∷ F) [] = ⊥
AreSources o (l ∷ F) (s ∷ ss) = (source_in_file l o ≡ Some (source_view s)) × IsPlaced l o s × AreSources o F ss

-- the place of the chunks, where a leaf has chunks by its source
abbrev pub place_read : LeafSource → List ℕ
place_read (LeafSource.Own i) = i ∷ []
place_read LeafSource.Nowhere = []
place_read (LeafSource.Other x) = x.place ∷ []

abbrev pub places_read : List LeafSource → List ℕ
places_read ss = flat_map place_read ss

-- what a NULL tells by its definition level is below the leaf
abbrev pub IsBelow : Leaf → LeafSource → Type 0
IsBelow l (LeafSource.Own i) = ⊤
IsBelow l LeafSource.Nowhere = 0 < max_definition l.path
IsBelow l (LeafSource.Other x) = x.definition < max_definition l.path

abbrev pub AreBelow : List Leaf → List LeafSource → Type 0
AreBelow [] ss = ⊤
AreBelow (l ∷ F) [] = ⊤
AreBelow (l ∷ F) (s ∷ ss) = IsBelow l s × AreBelow F ss
