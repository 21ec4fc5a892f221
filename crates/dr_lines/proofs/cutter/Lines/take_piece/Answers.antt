use Rattle.dr_lines.proofs.CutLemmas.{piece_found}
use Rattle.dr_lines.proofs.cutter.Lines.take_piece.Goals as goal

pub returns-in_ok-append-in-Some-clause-found : goal.returns-in_ok-append-in-Some-clause-found
returns-in_ok-append-in-Some-clause-found c = λ _.
    piece_found c.args.self.now.buffer.items c.deref.result.now c.args.self.now.from c.args.self.now.to c.in-Some.count c.args.self.now.line.items c.append.new.line.items
    c.deref.ensures.value c.in-Some.ensures.within c.in-Some.ensures.there c.in-Some.ensures.first c.in_ok-append-in-Some.ensures.bytes
