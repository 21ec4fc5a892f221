use Rattle.std.proofs.Common.{arith, sym, ap, ◌∙◌, ◌≡◌, ◌<◌, ◌++◌, List, ℕ, length, true, false, not, Bool, subst, eqb, true≢false, vec_len}
use Rattle.std.proofs.lemmas.Bool.Decides.{nat_tests}
use Rattle.dr_meaning.specs.Lines.{longest_line}
use Rattle.dr_lines.specs.Cutting.{pending, last_line, rest_of, ahead, Keeps, no_lf}
use Rattle.dr_lines.proofs.CutLemmas.{keeps_behind, line_is_cut, bytes_are_cut, line_is_long, line_ends, bytes_end, line_begins}
use Rattle.dr_lines.proofs.cutter.Lines.cut.Goals as goal

-- a list that isn't empty
longer_than_none : (n : ℕ) (e : Bool) → e ≡ eqb n 0 → not e ≡ true → 0 < n
longer_than_none n true h k = absurd (true≢false (sym k))
longer_than_none n false h k = grind (arith, nat_tests)

pub returns-then-not-branch-clause-cuts : goal.returns-then-not-branch-clause-cuts
returns-then-not-branch-clause-cuts g c = λ h.
    let v : 0 < vec_len c.look_ahead.new.self.line = longer_than_none (vec_len c.look_ahead.new.self.line) c.is_empty.result c.is_empty.ensures h in
    let l : 0 < length (last_line c.look_ahead.new.self) = omega (arith, v, c.look_ahead.new.self.line.ok.0) in
    let n : no_lf (last_line c.look_ahead.new.self) ≡ true = ap no_lf c.look_ahead.ensures.line ∙ c.pieces.invariant.no_lf_yet in
    let k = subst (λ (line : List ℕ). Keeps (rest_of c.args.self.now (g.S.Source.shows c.args.source.now).left) (ahead line (rest_of c.pieces.self (g.S.Source.shows c.pieces.source).left))) (sym c.look_ahead.ensures.line) c.pieces.invariant.kept in
    line_ends (rest_of c.args.self.now (g.S.Source.shows c.args.source.now).left) (rest_of c.pieces.self (g.S.Source.shows c.pieces.source).left) (rest_of c.look_ahead.new.self (g.S.Source.shows c.look_ahead.new.source).left) (last_line c.look_ahead.new.self)
    l n k (c.in_ok-look_ahead.ensures.end c.if-not-branch.true)

pub returns-in_err-take_piece-clause-long : goal.returns-in_err-take_piece-clause-long
returns-in_err-take_piece-clause-long g c = λ _.
    let start = rest_of c.args.self.now (g.S.Source.shows c.args.source.now).left in
    let left = (g.S.Source.shows c.look_ahead.new.source).left in
    let p = c.in_err-take_piece.ensures.long in
    let k = keeps_behind (rest_of c.args.self.now (g.S.Source.shows c.args.source.now).left) (rest_of c.pieces.self (g.S.Source.shows c.pieces.source).left) (rest_of c.look_ahead.new.self (g.S.Source.shows c.look_ahead.new.source).left) (last_line c.pieces.self)
    c.pieces.invariant.kept (c.in_ok-look_ahead.ensures.more c.if-not-branch.false) in
    line_is_long start left (last_line c.pieces.self) (pending c.look_ahead.new.self) p.0 p.1 p.2 c.pieces.invariant.no_lf_yet p.3
    (subst (λ (line : List ℕ). longest_line < length (line ++ p.0)) c.look_ahead.ensures.line p.4) k

pub returns-then-branch-clause-cuts : goal.returns-then-branch-clause-cuts
returns-then-branch-clause-cuts g c = λ _.
    let p = c.in_ok-take_piece.ensures.found c.if-branch.true in
    let k = keeps_behind (rest_of c.args.self.now (g.S.Source.shows c.args.source.now).left) (rest_of c.pieces.self (g.S.Source.shows c.pieces.source).left) (rest_of c.look_ahead.new.self (g.S.Source.shows c.look_ahead.new.source).left) (last_line c.pieces.self)
    c.pieces.invariant.kept (c.in_ok-look_ahead.ensures.more c.if-not-branch.false) in
    line_is_cut (rest_of c.args.self.now (g.S.Source.shows c.args.source.now).left) (g.S.Source.shows c.look_ahead.new.source).left (last_line c.pieces.self) (last_line c.take_piece.new.self) p.0 (pending c.look_ahead.new.self) (pending c.take_piece.new.self)
    p.1 (p.2 ∙ ap (λ (line : List ℕ). line ++ p.0) c.look_ahead.ensures.line) c.pieces.invariant.no_lf_yet p.3 k

pub returns-then-not-branch-clause-bytes : goal.returns-then-not-branch-clause-bytes
returns-then-not-branch-clause-bytes g c = λ h.
    let n : no_lf (last_line c.look_ahead.new.self) ≡ true = ap no_lf c.look_ahead.ensures.line ∙ c.pieces.invariant.no_lf_yet in
    let k = subst (λ (line : List ℕ). Keeps (rest_of c.args.self.now (g.S.Source.shows c.args.source.now).left) (ahead line (rest_of c.pieces.self (g.S.Source.shows c.pieces.source).left))) (sym c.look_ahead.ensures.line) c.pieces.invariant.kept in
    bytes_end (rest_of c.args.self.now (g.S.Source.shows c.args.source.now).left) (rest_of c.pieces.self (g.S.Source.shows c.pieces.source).left) (rest_of c.look_ahead.new.self (g.S.Source.shows c.look_ahead.new.source).left) (last_line c.look_ahead.new.self)
    n k (c.in_ok-look_ahead.ensures.end c.if-not-branch.true)

pub returns-then-branch-clause-bytes : goal.returns-then-branch-clause-bytes
returns-then-branch-clause-bytes g c = λ _.
    let p = c.in_ok-take_piece.ensures.found c.if-branch.true in
    let k = keeps_behind (rest_of c.args.self.now (g.S.Source.shows c.args.source.now).left) (rest_of c.pieces.self (g.S.Source.shows c.pieces.source).left) (rest_of c.look_ahead.new.self (g.S.Source.shows c.look_ahead.new.source).left) (last_line c.pieces.self)
    c.pieces.invariant.kept (c.in_ok-look_ahead.ensures.more c.if-not-branch.false) in
    bytes_are_cut (rest_of c.args.self.now (g.S.Source.shows c.args.source.now).left) (g.S.Source.shows c.look_ahead.new.source).left (last_line c.pieces.self) (last_line c.take_piece.new.self) p.0 (pending c.look_ahead.new.self) (pending c.take_piece.new.self)
    p.1 (p.2 ∙ ap (λ (line : List ℕ). line ++ p.0) c.look_ahead.ensures.line) c.pieces.invariant.no_lf_yet p.3 k

pub returns-in_err-look_ahead-clause-begins : goal.returns-in_err-look_ahead-clause-begins
returns-in_err-look_ahead-clause-begins g c = λ _.
    line_begins (rest_of c.args.self.now (g.S.Source.shows c.args.source.now).left) (g.S.Source.shows c.pieces.source).left (g.S.Source.shows c.look_ahead.new.source).left (last_line c.pieces.self) (pending c.pieces.self)
    c.in_err-look_ahead.ensures.waits c.in_err-look_ahead.ensures.stays c.pieces.invariant.no_lf_yet (omega arith) c.pieces.invariant.kept
