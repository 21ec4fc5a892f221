-- What a selection stands for.
use Rattle.std.specs.Prelude.{ℕ, zero, suc, List, [], ◌∷◌, map, Option, Some, None}
use denote.Ref.{Bor}
use Rattle.dr_nested.specs.Selected.{Selected, choices_of}
use Rattle.dr_nested.specs.declared.selection.Choice.{Choice, fold-Choice}
use Rattle.dr_nested.specs.declared.selection.Choice.TheOpen.{Choice-F, Selection-F}
use Rattle.dr_nested.specs.declared.selection.Selection.{Selection, fold-Selection}

abbrev pub choice_step : Choice-F (Option Selected) Selected → Option Selected
choice_step Choice-F.Skipped = None
choice_step (Choice-F.Chosen s) = Some s

abbrev pub selection_step : Selection-F (Option Selected) Selected → Selected
selection_step s = choices_of s.fields.items

abbrev pub choice_view : Choice → Option Selected
choice_view = fold-Choice (Option Selected) Selected choice_step selection_step

abbrev pub selection_view : Selection → Selected
selection_view = fold-Selection (Option Selected) Selected choice_step selection_step

abbrev pub choices_view : List Choice → Selected
choices_view cs = choices_of (map choice_view cs)

abbrev pub lent_selection : Bor Selection → Selected
lent_selection s = selection_view s.now

-- at least so many, by skipped ones at the end
abbrev pub padded : ℕ → List Choice → List Choice
padded zero cs = cs
padded (suc n) [] = Choice.Skipped ∷ padded n []
padded (suc n) (c ∷ cs) = c ∷ padded n cs
