use Rattle.std.proofs.Common.{◌+◌, ℕ, List, refl, sym, ◌∙◌, subst, arith}
use Rattle.dr_sub_meaning.specs.Session.{Session}
use Rattle.dr_lines.specs.Cutting.{pending, ahead, CutsLine, CutsBytes}
use Rattle.dr_session.specs.Held.{IsSession}
use Rattle.dr_session.specs.Talking.{TalkStops}
use Rattle.dr_session.specs.declared.talking.TalkFault.{TalkFault}
use Rattle.dr_session.proofs.TalkLemmas.{err_is, wants_at_once, has_begun, talk_ends, cut_ends, talk_more, answer_ends}
use Rattle.dr_session.proofs.talking.talk_lines.Goals as goal

pub returns-in_err-lines-clause-stopped : goal.returns-in_err-lines-clause-stopped
returns-in_err-lines-clause-stopped g c =
    let source = g.S.Source.shows c.args.source.now in
    let out = g.O.Sink.shows c.args.out.now in
    err_is (TalkStops g.B.Room.schema source source out out) _ TalkFault.NoMemory c.from_residual.ensures.1 (wants_at_once g.B.Room.schema source out)

pub input-init : goal.input-init
input-init g c = record {
  talked = has_begun g.B.Room.schema (g.S.Source.shows c.args.source.now) (g.O.Sink.shows c.args.out.now) c.args.session.now.kept c.args.session.now.publisher (pending c.in_ok-lines.lines) c.requires.new c.in_ok-lines.ensures.pending;
  going = c.in_ok-lines.ensures.fault;
  within = omega arith;
  calm = refl;
}

pub returns-in_err-cut_line-clause-stopped : goal.returns-in_err-cut_line-clause-stopped
returns-in_err-cut_line-clause-stopped g c =
    let source = g.S.Source.shows c.args.source.now in
    let source_now = g.S.Source.shows c.cut_line.new.source in
    let out = g.O.Sink.shows c.args.out.now in
    let out_mid = g.O.Sink.shows c.input.out in
    let left = ahead (pending c.input.lines) (g.S.Source.shows c.input.source).left in
    err_is (TalkStops g.B.Room.schema source source_now out out_mid) _ c.in_err-cut_line.field-0.0 c.from_residual-in_err-cut_line.ensures.1
    (cut_ends g.B.Room.schema source out c.input.number c.input.session.kept c.input.session.publisher left out_mid c.input.invariant.talked (g.S.Source.shows c.input.source) source_now (c.input.number + 1) c.in_err-cut_line.field-0.0
    (omega arith) c.input.invariant.calm c.in_err-cut_line.ensures.stops)

pub input-preserved : goal.input-preserved
input-preserved g c =
    let source = g.S.Source.shows c.args.source.now in
    let source_now = g.S.Source.shows c.cut_line.new.source in
    let out = g.O.Sink.shows c.args.out.now in
    let left = ahead (pending c.input.lines) (g.S.Source.shows c.input.source).left in
    let ahead_now = pending c.cut_line.new.lines in
    let left_now = ahead ahead_now source_now.left in
    let cuts : CutsLine left c.line.result.now left_now = subst (λ (l : List ℕ). CutsLine left l left_now) (sym c.line.ensures) (c.in_ok-cut_line.ensures.cuts c.if-branch.true) in
    let bytes : CutsBytes left c.line.result.now left_now = subst (λ (l : List ℕ). CutsBytes left l left_now) (sym c.line.ensures) (c.in_ok-cut_line.ensures.bytes c.if-branch.true) in
    record {
      talked = talk_more g.B.Room.schema source out c.input.number c.input.session.kept c.input.session.publisher left (g.O.Sink.shows c.input.out) c.input.invariant.talked c.line.result.now ahead_now source_now cuts bytes
          (c.input.number + 1) c.answer_line.new.session.kept c.answer_line.new.session.publisher (g.O.Sink.shows c.answer_line.new.out) c.in_ok-answer_line.field-0 (omega arith) c.in_ok-answer_line.ensures.said;
      going = c.in_ok-cut_line.ensures.goes_on;
      within = c.in_ok-cut_line.ensures.within c.if-branch.true;
      calm = c.in_ok-cut_line.ensures.calm ∙ c.input.invariant.calm;
    }

pub returns-in_err-answer_line-clause-stopped : goal.returns-in_err-answer_line-clause-stopped
returns-in_err-answer_line-clause-stopped g c =
    let source = g.S.Source.shows c.args.source.now in
    let source_now = g.S.Source.shows c.cut_line.new.source in
    let out = g.O.Sink.shows c.args.out.now in
    let out_now = g.O.Sink.shows c.answer_line.new.out in
    let left = ahead (pending c.input.lines) (g.S.Source.shows c.input.source).left in
    let ahead_now = pending c.cut_line.new.lines in
    let left_now = ahead ahead_now source_now.left in
    let cuts : CutsLine left c.line.result.now left_now = subst (λ (l : List ℕ). CutsLine left l left_now) (sym c.line.ensures) (c.in_ok-cut_line.ensures.cuts c.if-branch.true) in
    let bytes : CutsBytes left c.line.result.now left_now = subst (λ (l : List ℕ). CutsBytes left l left_now) (sym c.line.ensures) (c.in_ok-cut_line.ensures.bytes c.if-branch.true) in
    err_is (TalkStops g.B.Room.schema source source_now out out_now) _ c.in_err-answer_line.field-0.0 c.from_residual-in_err-answer_line.ensures.1
    (answer_ends g.B.Room.schema source out c.input.number c.input.session.kept c.input.session.publisher left (g.O.Sink.shows c.input.out) c.input.invariant.talked c.line.result.now ahead_now source_now cuts bytes
    (c.input.number + 1) (λ (v : Session). IsSession g.B.Room.schema v c.answer_line.new.session.kept c.answer_line.new.session.publisher) out_now c.in_err-answer_line.field-0.0 (omega arith) (c.in_ok-cut_line.ensures.calm ∙ c.input.invariant.calm) c.in_err-answer_line.ensures.said)

pub returns-clause-ended : goal.returns-clause-ended
returns-clause-ended g c =
    let source = g.S.Source.shows c.args.source.now in
    let source_now = g.S.Source.shows c.cut_line.new.source in
    let left = ahead (pending c.input.lines) (g.S.Source.shows c.input.source).left in
    talk_ends g.B.Room.schema source (g.O.Sink.shows c.args.out.now) c.input.number c.input.session.kept c.input.session.publisher left (g.O.Sink.shows c.input.out) c.input.invariant.talked (pending c.cut_line.new.lines) source_now
    (c.in_ok-cut_line.ensures.end c.if-branch.false) (c.in_ok-cut_line.ensures.calm ∙ c.input.invariant.calm)
