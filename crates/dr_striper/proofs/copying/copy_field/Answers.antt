use Rattle.std.proofs.Common.{ap₂, ◌∙◌}
use Rattle.std.specs.List.{list_all}
use Rattle.dr_levels.specs.Columns.{takes}
use Rattle.dr_striper.proofs.copying.copy_field.Goals as goal

pub copied-requires : goal.copied-requires
copied-requires c = ap₂ (λ f ts. list_all (takes f) ts) c.lend_field.ensures.form c.lend_field.ensures.triplets ∙ c.requires.lends.2
