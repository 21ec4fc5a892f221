use Rattle.std.proofs.Common.{ap₂, ◌∙◌, rules}
use Rattle.dr_levels.specs.Dense.{text_values}
use Rattle.dr_levels.proofs.TextLemmas.{put_or_not, put_values}
use Rattle.dr_levels.proofs.texts.Texts.push.Goals as goal

pub invariant_of-self-2 : goal.invariant_of-self-2
invariant_of-self-2 c =
    let s = c.args.self.now in
    record {
      texts = put_or_not c.push.result s.bytes.items c.args.text.now c.extend_from_slice.new.self.items s.places.items c.push.new.self.items (record { start = c.in-Ok-Ok.start; length = c.in-Ok-Ok.length })
          (search rules) (search rules) (search rules) (search rules) c.utf8.text s.texts;
    }

pub returns : goal.returns
returns c =
    let s = c.args.self.now in
    ap₂ text_values (search rules) (search rules) ∙ put_values s.bytes.items c.args.text.now s.places.items (record { start = c.in-Ok-Ok.start; length = c.in-Ok-Ok.length }) (search rules) (search rules) s.texts
