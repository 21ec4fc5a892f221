use Rattle.std.proofs.Common.{◌≡◌, ◌++◌, map, take}
use Rattle.dr_levels.specs.Views.{column_view, column_form}
use Rattle.dr_formats.specs.Lacking.{outline}
use Rattle.dr_file.specs.Floors.{bare}
use Rattle.dr_file.proofs.telling.push_outline.Given as goal

-- the outline of the levels before this one joined the column
abbrev pub invariant-levels : goal.invariant-levels
invariant-levels l = record {
  joined : column_view l.out ≡ column_view l.initial.out ++ outline l.most.repetition l.most.definition (map bare (take l.levels-index l.levels-items));
  form : column_form l.out ≡ column_form l.initial.out;
}
