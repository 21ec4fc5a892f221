use Rattle.std.proofs.Common.{◌≡◌, pos, arith, to_z, of_z}
use mir.Syntax.{w16}
use Rattle.std.proofs.lemmas.Int.{to_z-of_z}
use Rattle.dr_meta.proofs.BuildLemmas.{onto_put}
use Rattle.dr_meta.proofs.building.put.Goals as goal

pub returns : goal.returns
returns c =
    let same : to_z w16 (of_z w16 c.from.result) ≡ pos c.args.id = grind (arith, to_z-of_z) in
    onto_put c.args.fields.now.items c.push.new.self.items _ (pos c.args.id) c.in_ok-push.ensures.items same
