use Rattle.std.proofs.Common.{List, ap, ◌∙◌}
use Rattle.std.specs.List.{list_all}
use Rattle.dr_prune.specs.declared.answers.Answer.{Answer}
use Rattle.dr_prune.proofs.PartAnswerLemmas.{all_by_items}
use Rattle.dr_prune.proofs.answers.Answers.all.Goals as goal

pub returns : goal.returns
returns c t =
    c.are_true.ensures
    ∙ ap (λ (xs : List Answer). list_all (λ (x : Answer). x.is_true) xs) c.deref.ensures.value
    ∙ all_by_items t 0 c.args.self.now.parts.items
