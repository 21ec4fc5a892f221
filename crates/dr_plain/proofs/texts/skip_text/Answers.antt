use Rattle.std.proofs.Common.{length}
use Rattle.std.proofs.lemmas.Bool.{false≢true}
use Rattle.dr_bytes.specs.Cutting.{left}
use Rattle.dr_plain.proofs.ReadSteps.{not_less}
use Rattle.dr_plain.proofs.PieceSteps.{skips}
use Rattle.dr_plain.proofs.texts.skip_text.Goals as goal

pub returns-in-Ok-clause-skipped : goal.returns-in-Ok-clause-skipped
returns-in-Ok-clause-skipped c =
    skips (left c.args.cut.now) (left c.le32.new.self) (left c.take.new.self) c.in-Ok.length c.take.result c.is_ok.result c.is_ok.ensures.value
    (not_less 4 (length (left c.args.cut.now)) (λ h. false≢true (c.in-Ok.ensures.short.1 h))) c.in-Ok.ensures.number c.in-Ok.ensures.behind c.take.ensures.behind c.take.ensures.short
