use Rattle.std.proofs.Common.{◌∙◌, ap}
use Rattle.dr_formats.specs.Hybrid.{hybrid}
use Rattle.dr_page.proofs.RunSteps.{none_read}
use Rattle.dr_page.proofs.CursorLemmas.{levels_none}
use Rattle.dr_page.proofs.level_cursor.LevelCursor.begin.Goals as goal

pub returns-clause-begun : goal.returns-clause-begun
returns-clause-begun c = λ part. record {
  taken = levels_none c.args.greatest part;
  runs = λ z. none_read _ part c.start-self.result (λ n bs. c.start-self.ensures.ahead n bs ∙ ap (λ w. hybrid w n bs) c.level_width.ensures.width);
}
