use Rattle.std.proofs.Common.{refl, sym, ◌∙◌, Some}
use Rattle.std.proofs.lemmas.List.{map-set}
use Rattle.dr_cells.specs.Rows.{rows_shape}
use Rattle.dr_tree.specs.Waiting.{lines_of, place_of}
use Rattle.dr_tree.proofs.AppendLemmas.{set_shaped}
use Rattle.dr_tree.proofs.waiting.keep.Goals as goal

pub returns-in-Some-clause-places : goal.returns-in-Some-clause-places
returns-in-Some-clause-places c = map-set place_of c.args.waiting.now.items c.in-Some.at _ ∙ sym (c.in-Some.ensures.first (lines_of c.args.lines))

pub returns-in-Some-clause-shaped : goal.returns-in-Some-clause-shaped
returns-in-Some-clause-shaped c = λ h. set_shaped (rows_shape c.args.lines) c.args.waiting.now.items c.in-Some.at (record { tablet = c.args.tablet; lines = Some c.args.lines }) refl h
