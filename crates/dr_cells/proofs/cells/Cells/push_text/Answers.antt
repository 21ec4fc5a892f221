use Rattle.std.proofs.Common.{ap₂, ◌∙◌, rules}
use Rattle.dr_cells.specs.Held.{cells_in}
use Rattle.dr_cells.proofs.CellLemmas.{put_or_not, put_seen}
use Rattle.dr_cells.proofs.cells.Cells.push_text.Goals as goal

pub invariant_of-self-2 : goal.invariant_of-self-2
invariant_of-self-2 c =
    let s = c.args.self.now in
    record {
      texts = put_or_not c.push.result s.bytes.items c.args.text.now c.extend_from_slice.new.self.items s.cells.items c.push.new.self.items (record { start = c.in-Ok-Ok.start; length = c.in-Ok-Ok.length })
          (search rules) (search rules) (search rules) (search rules) c.utf8.text s.texts;
    }

pub returns : goal.returns
returns c =
    let s = c.args.self.now in
    ap₂ cells_in (search rules) (search rules) ∙ put_seen s.bytes.items c.args.text.now s.cells.items (record { start = c.in-Ok-Ok.start; length = c.in-Ok-Ok.length }) (search rules) (search rules) s.texts
