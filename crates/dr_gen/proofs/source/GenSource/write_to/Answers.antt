use Rattle.std.proofs.Common.{◌∙◌, ◌++◌, List, ℕ, take, arith, length-append, sym, ap, append_assoc, rules}
use Rattle.dr_outside.specs.Sink.{AddedFront}
use Rattle.dr_outside.proofs.SinkLemmas.{Added-trans}
use Rattle.dr_gen.specs.Left.{left_of}
use Rattle.dr_gen.proofs.WritingLemmas.{err_on}
use Rattle.dr_gen.proofs.source.GenSource.write_to.Goals as goal

pub returns-in_err-write_all-clause-front : goal.returns-in_err-write_all-clause-front
returns-in_err-write_all-clause-front g c =
    let was = c.pieces.invariant in
    let part = c.in_err-write_all.ensures.front in
    let rest = left_of c.pieces.self in
    let front : AddedFront (g.O.Sink.shows c.args.out.now) (g.O.Sink.shows c.write_all.new.out) (left_of c.args.self.now) = record {
      front = was.0 ++ part.front;
      rest = part.rest ++ rest;
      cut = sym was.1 ∙ ap (λ (x : List ℕ). was.0 ++ (x ++ rest)) part.cut ∙ ap (λ (x : List ℕ). was.0 ++ x) (append_assoc part.front part.rest rest) ∙ sym (append_assoc was.0 part.front (part.rest ++ rest));
      some_left = omega (arith, part.some_left, length-append part.rest rest);
      bytes = Added-trans _ _ _ _ _ was.2 part.bytes;
      calls = omega (arith, part.calls, was.4, length-append was.0 part.front);
    } in
    err_on _ _ _ c.from_residual.ensures.1 front

pub pieces-preserved : goal.pieces-preserved
pieces-preserved g c =
    let was = c.pieces.invariant in
    let part = take c.pieces.filled c.pieces.piece in
    let whole = c.in_ok-write_all.ensures.whole in
    let next = c.fill-filled-in-pieces in (
      was.0 ++ part,
      append_assoc was.0 part (take next.result next.new.buf ++ left_of next.new.self) ∙ ap (λ (x : List ℕ). was.0 ++ (part ++ x)) next.ensures.bytes ∙ was.1,
      Added-trans _ _ _ _ _ was.2 whole.bytes,
      c.in_ok-write_all.ensures.calm ∙ was.3,
      omega (arith, whole.calls, was.4, length-append was.0 part),
      next.ensures.fits,
      search rules,
      next.ensures.end,
    )
