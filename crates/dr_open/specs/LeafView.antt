-- What the parts of a path stand for.
use Rattle.std.specs.Prelude.{List, map, String, string_bytes}
use Rattle.std.specs.declared.alloc.Global.{Global}
use Rattle.dr_meaning.specs.Path as path
use Rattle.dr_nested.specs.declared.path.Step.{Step}
use Rattle.dr_nested.specs.declared.shape.Kind.{Kind}
use Rattle.dr_nested.specs.Views.{kind_view}
use Rattle.dr_nested.specs.PathView.{step_view}

-- the leaf of these names and steps and this kind
abbrev pub leaf_view : List (String Global) → List Step → Kind → path.Leaf
leaf_view ns p k = record { names = map string_bytes ns; path = map step_view p; kind = kind_view k }
