use Rattle.std.proofs.Common.{refl}
use Rattle.dr_group.specs.declared.partial.Partial.{Partial}
use Rattle.dr_tree.proofs.GrowLemmas.{lines_added, no_groups}
use Rattle.dr_tree.proofs.growing.Growing.add_lines.Goals as goal

pub returns-in-Lines : goal.returns-in-Lines
returns-in-Lines c =
    λ w h k. lines_added w c.args.self.now c.args.tablet c.args.lines c.in-Lines.rows c.keep.new.waiting.items
    (record { grown = Partial.Lines c.append_ready.new.rows; subtrees = c.args.self.now.subtrees; waiting = c.append_ready.new.waiting }) c.append_ready.new.rows h k c.in-Lines.is c.keep.ensures.places c.keep.ensures.shaped c.append_ready.ensures refl

pub returns-in_default : goal.returns-in_default
returns-in_default c = λ w h k. absurd (no_groups w c.args.self.now c.args.tablet c.args.lines c.in_default.field-0 h k c.in_default.is)
