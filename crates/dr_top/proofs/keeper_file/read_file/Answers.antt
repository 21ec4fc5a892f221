use Rattle.std.proofs.Common.{◌≡◌, ◌∙◌, length, ap, subst, sym, Option, Err}
use Rattle.std.proofs.lemmas.Result.{err_from_is_err_and}
use Rattle.dr_outside.specs.declared.fault.Fault.{Fault}
use Rattle.dr_outside.specs.Link.{Files, Holds, HasSize}
use Rattle.dr_top.proofs.KeeperFileLemmas.{whole_file, asks_length, asks_bytes, asks_after_length, asks_after_bytes}
use Rattle.dr_top.proofs.keeper_file.read_file.Goals as goal

pub returns-in_err-size-clause-asks : goal.returns-in_err-size-clause-asks
returns-in_err-size-clause-asks g c =
    asks_after_length c.args.path.now (g.K.Link.shows c.args.keeper.now) (g.K.Link.shows c.size.new.self) c.size.result c.in_err-size.field-0.0 c.in_err-size.was c.size.ensures.asked c.size.ensures.not_asked

pub returns-in_err-bytes-clause-asks : goal.returns-in_err-bytes-clause-asks
returns-in_err-bytes-clause-asks g c =
    asks_length c.args.path.now (g.K.Link.shows c.args.keeper.now) (g.K.Link.shows c.size.new.self) (c.in_ok-size.ensures.asked (λ e. cc))

pub returns-in_err-read_at-clause-asks : goal.returns-in_err-read_at-clause-asks
returns-in_err-read_at-clause-asks g c =
    asks_after_bytes c.args.path.now (length c.deref_mut.result.now) (g.K.Link.shows c.args.keeper.now) (g.K.Link.shows c.size.new.self) (g.K.Link.shows c.read_at.new.self) c.read_at.result c.in_err-read_at.field-0.0 c.in_err-read_at.was
    (c.in_ok-size.ensures.asked (λ e. cc)) c.read_at.ensures.asked c.read_at.ensures.not_asked

pub returns-clause-asks : goal.returns-clause-asks
returns-clause-asks g c =
    asks_bytes c.args.path.now (length c.deref_mut.result.now) (g.K.Link.shows c.args.keeper.now) (g.K.Link.shows c.size.new.self) (g.K.Link.shows c.read_at.new.self)
    (c.in_ok-size.ensures.asked (λ e. cc)) (c.in_ok-read_at.ensures.asked (λ e. cc))

pub returns-then-size-longest-clause-asks : goal.returns-then-size-longest-clause-asks
returns-then-size-longest-clause-asks g c =
    asks_length c.args.path.now (g.K.Link.shows c.args.keeper.now) (g.K.Link.shows c.size.new.self) (c.in_ok-size.ensures.asked (λ e. cc))

pub returns-in_err-read_at-clause-steady : goal.returns-in_err-read_at-clause-steady
returns-in_err-read_at-clause-steady g c = λ steady there failed.
    let shows = g.K.Link.shows in
    let path = c.args.path.now in
    let held = subst (λ (h : Option Files). Holds h path) (sym c.size.ensures.same) there in
    let size = subst (λ (h : Option Files). HasSize h path c.in_ok-size.size) (sym c.size.ensures.same) c.in_ok-size.ensures.bytes in
    let p = err_from_is_err_and c.from_residual-in_err-read_at.result c.from_residual-in_err-read_at.ensures.1 in
    let is : c.in_err-read_at.field-0.0 ≡ Fault.Failed = cc (p.1, p.2, failed) in
    c.read_at.ensures.steady (c.size.ensures.stays_steady steady)
    (whole_file (shows c.size.new.self).held path c.in_ok-size.size (length c.deref_mut.result.now) held size (c.deref_mut.ensures.len ∙ c.in_ok-bytes.ensures.len)) (c.in_err-read_at.was ∙ ap (λ (e : Fault). Err e) is)
