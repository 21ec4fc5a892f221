use Rattle.std.proofs.Common.{refl, ap, map, string_bytes}
use Rattle.dr_outside.specs.Memory.{SourceState}
use Rattle.dr_outside.specs.Shelf.{files_of}
use Rattle.dr_top.proofs.TheoremLemmas.{query_ends}
use Rattle.dr_top.proofs.theorem.query_in_memory.Goals as goal

pub returns : goal.returns
returns g c = record {
  answer = λ files over asked.
      query_ends (map string_bytes c.args.words.now) (files_of c.args.tables.now) files asked _ _ c.args.out.now c.run.new.out _ _ _ _ c.args.links.now _ c.run.result
      c.run.ensures.known c.run.ensures.prints c.run.ensures.usage c.run.ensures.refused c.run.ensures.left c.run.ensures.outside c.run.ensures.most c.run.ensures.unread c.run.ensures.served
      refl c.requires.quiet (ap (λ (s : SourceState). s.failing.faults) c.new-input.ensures) c.requires.links over;
}
