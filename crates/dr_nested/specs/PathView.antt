-- What a `Path` stands for.
use Rattle.std.specs.Prelude.{List, map, string_bytes}
use denote.Ref.{Bor}
use Rattle.dr_meaning.specs.Path as path
use Rattle.dr_nested.specs.Views.{rep_view, kind_view}
use Rattle.dr_nested.specs.declared.path.Step.{Step}
use Rattle.dr_nested.specs.declared.path.Path.{Path}

abbrev pub step_view : Step → path.Step
step_view s = record { place = s.place; repetition = rep_view s.rep }

abbrev pub path_view : Path → path.Leaf
path_view p = record { names = map string_bytes p.names.items; path = map step_view p.steps.items; kind = kind_view p.kind }

abbrev pub paths_view : List Path → List (List path.Step)
paths_view ps = map (λ (p : Path). (path_view p).path) ps

-- a path's steps that are lent
abbrev pub lent_path : Bor (List Step) → List path.Step
lent_path p = map step_view p.now
