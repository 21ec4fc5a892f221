use Rattle.std.proofs.Common.{ℕ, List, ap, ◌∙◌}
use Rattle.dr_moves.specs.Condition.{Watch}
use Rattle.dr_kept_laws.specs.Parts.{all_tests}
use Rattle.dr_prune.specs.PartAnswers.{untested}
use Rattle.dr_condition.specs.Parted.{lent_tests, test_at}
use Rattle.dr_condition.specs.Watching.{watch_with}
use Rattle.dr_condition.proofs.watched.Watched.new.Goals as goal

pub returns-clause-watches : goal.returns-clause-watches
returns-clause-watches c =
    let ts = lent_tests c.args.parts.tests.items in
    let ls = c.args.parts.lasts.items in
    ap (λ (L : List ℕ). watch_with ts L c.in_ok-pruner.pruner) (c.in_ok-answers.ensures.lasts ∙ c.deref.ensures.value)
    ∙ ap (λ (w : Watch). record { watch = w; parts = untested (test_at ts) ls }) (c.in_ok-pruner.ensures.watches (all_tests (untested (test_at ts) ls)))

pub returns-clause-begins : goal.returns-clause-begins
returns-clause-begins c = record { answered = c.in_ok-answers.ensures.begins (test_at (lent_tests c.args.parts.tests.items)); pruned = c.in_ok-pruner.ensures.numbers }
