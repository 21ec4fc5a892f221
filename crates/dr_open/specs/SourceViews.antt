-- What the sources of leaves stand for.
use Rattle.std.specs.Prelude.{◌≡◌, Option, Some, ⊤}
use Rattle.dr_meaning.specs.Path.{Leaf}
use Rattle.dr_formats.specs.FileSchema.{FileSchema}
use Rattle.dr_formats.specs.Lacking as lacking
use Rattle.dr_nested.specs.PathView.{path_view}
use Rattle.dr_open.specs.Places.{place_in_file}
use Rattle.dr_open.specs.declared.column_source.LeafSource.{LeafSource}
use Rattle.dr_open.specs.declared.column_source.StandIn.{StandIn}

abbrev pub stand_in_view : StandIn → lacking.StandIn
stand_in_view x = record { leaf = path_view x.leaf; repetition = x.repetition; definition = x.definition }

abbrev pub source_view : LeafSource → lacking.Source
source_view (LeafSource.Own i) = lacking.own_chunks
source_view LeafSource.Nowhere = lacking.no_chunks
source_view (LeafSource.Other x) = lacking.chunks_of (stand_in_view x)

-- the chunks of a leaf, or of the one that stands in for it, are at the place that its source tells
abbrev pub IsPlaced : Leaf → Option FileSchema → LeafSource → Type 0
IsPlaced l s (LeafSource.Own i) = place_in_file l s ≡ Some i
IsPlaced l s LeafSource.Nowhere = ⊤
IsPlaced l s (LeafSource.Other x) = place_in_file (path_view x.leaf) s ≡ Some x.place
