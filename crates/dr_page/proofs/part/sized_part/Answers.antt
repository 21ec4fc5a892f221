use Rattle.std.proofs.Common.{◌∙◌, drop, refl}
use Rattle.std.proofs.lemmas.Bool.{false≢true}
use Rattle.std.proofs.lemmas.List.{take_rest}
use Rattle.std.proofs.lemmas.Result.{err_from_is_err_and}
use Rattle.dr_bytes.specs.Cutting.{left}
use Rattle.dr_page.proofs.PartLemmas.{sized_found, sized_bad, no_length}
use Rattle.dr_page.proofs.part.sized_part.Goals as goal

pub returns-in_err-length-clause-bad : goal.returns-in_err-length-clause-bad
returns-in_err-length-clause-bad c =
    let p = err_from_is_err_and c.from_residual.result c.from_residual.ensures.1 in
    rw (p.1, p.2) (no_length (drop c.args.start c.args.bytes.now) (left c.new-cut.result) (c.new-cut.ensures.left ∙ take_rest c.args.bytes.now c.args.start) (c.in_err-length.ensures.short.0 refl))

pub returns-clause-found : goal.returns-clause-found
returns-clause-found c =
    sized_found c.args.bytes.now (left c.new-cut.result) c.args.start c.in_ok-length.length c.part_at.result (c.new-cut.ensures.left ∙ take_rest c.args.bytes.now c.args.start) (λ h. false≢true (c.in_ok-length.ensures.short.1 h)) c.in_ok-length.ensures.number
    c.part_at.ensures.found

pub returns-clause-bad : goal.returns-clause-bad
returns-clause-bad c =
    sized_bad c.args.bytes.now (left c.new-cut.result) c.args.start c.in_ok-length.length c.part_at.result (c.new-cut.ensures.left ∙ take_rest c.args.bytes.now c.args.start) (λ h. false≢true (c.in_ok-length.ensures.short.1 h)) c.in_ok-length.ensures.number
    c.part_at.ensures.bad
