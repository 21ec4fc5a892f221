use Rattle.std.proofs.Common.{List, [], ◌∷◌, length, refl, sym, ap, subst, arith}
use Rattle.std.specs.Prelude.{Ok, Err}
use Rattle.dr_meaning.specs.Column.{Triplet}
use Rattle.dr_formats.specs.Opening.{leaf_cause}
use Rattle.dr_levels.specs.Views.{column_view}
use Rattle.dr_outside.specs.Telling.{TellsFile}
use Rattle.dr_file.specs.OpenedFiles.{IsColumnFault, path_of}
use Rattle.dr_file.specs.Streams.{StreamGoesOn}
use Rattle.dr_file.specs.declared.opened.Opened.{Opened}
use Rattle.dr_dump.proofs.RestLemmas.{refilled, whole_last, none_came}
use Rattle.dr_dump.proofs.ReadsLemmas.{stream_reads, reads_value, reads_failed}
use Rattle.dr_dump.proofs.leaf_records.LeafRecords.refill.Goals as goal

pub returns-in-Ok-clause-filled : goal.returns-in-Ok-clause-filled
returns-in-Ok-clause-filled g c = λ o F l given h.
    let held = (g.L.Link.shows c.args.link.now).held in
    let more = column_view c.next.new.out in
    refilled held o F l given more c.args.self.now _ c.in-Ok.some h c.next.ensures.file refl (whole_last more c.len-self.result (omega (arith, c.len-self.ensures)))
    (none_came more c.in-Ok.some _ _ _ c.in-Ok.ensures.fills (ap length c.clear.ensures.empty)) c.in-Ok.ensures.refused
    (λ bytes told.
    let at = subst (λ (x : Opened). TellsFile held (path_of x) bytes) (sym h.file) told.1 in
    subst (λ (ts : List Triplet). StreamGoesOn bytes l given ts more c.next.new.self c.in-Ok.some) c.clear.ensures.empty (c.in-Ok.ensures.more bytes l given (h.of bytes told) at))

pub returns-in-Ok-clause-reads : goal.returns-in-Ok-clause-reads
returns-in-Ok-clause-reads g c = λ o F l given h.
    reads_value o F (l ∷ []) (λ bytes e. IsColumnFault e (leaf_cause bytes l)) c.in-Ok.some tt _ _
    (stream_reads o F l given c.args.self.now (Ok c.in-Ok.some) _ _ h c.in-Ok.ensures.cause c.in-Ok.ensures.asked c.in-Ok.ensures.paths c.in-Ok.ensures.link)

pub returns-in-Err-clause-reads : goal.returns-in-Err-clause-reads
returns-in-Err-clause-reads g c = λ o F l given h.
    reads_failed o F (l ∷ []) (λ bytes e. IsColumnFault e (leaf_cause bytes l)) c.in-Err.fault _ _
    (stream_reads o F l given c.args.self.now (Err c.in-Err.fault) _ _ h c.in-Err.ensures.cause c.in-Err.ensures.asked c.in-Err.ensures.paths c.in-Err.ensures.link)
