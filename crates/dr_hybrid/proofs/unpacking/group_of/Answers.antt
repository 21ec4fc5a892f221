use Rattle.std.proofs.Common.{◌∙◌}
use Rattle.dr_hybrid.proofs.NumberLemmas.{Told, one_more}
use Rattle.dr_hybrid.proofs.UnpackLemmas.{masks_unpack}
use Rattle.dr_hybrid.proofs.unpacking.group_of.Goals as goal

pub returns : goal.returns
returns g c =
    let t : Told g.row.T.Denot = record { number = g.T.Packable.number; numbers = g.T.Packable.numbers; none = g.met.T.Packable.none; more = g.met.T.Packable.more } in
    one_more g.row.T.Denot t c.masked.result _ _ _ c.masked.ensures (one_more g.row.T.Denot t c.masked-2.result _ _ _ c.masked-2.ensures (one_more g.row.T.Denot t c.masked-3.result _ _ _ c.masked-3.ensures (one_more g.row.T.Denot t c.masked-4.result _ _ _ c.masked-4.ensures
    (one_more g.row.T.Denot t c.masked-5.result _ _ _ c.masked-5.ensures (one_more g.row.T.Denot t c.masked-6.result _ _ _ c.masked-6.ensures (one_more g.row.T.Denot t c.masked-7.result _ _ _ c.masked-7.ensures (one_more g.row.T.Denot t c.masked-8.result _ _ _ c.masked-8.ensures t.none)))))))
    ∙ masks_unpack 8 c.args.width c.args.word c.args.mask c.requires.low
