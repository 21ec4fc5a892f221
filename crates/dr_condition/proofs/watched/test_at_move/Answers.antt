use Rattle.std.proofs.Common.{◌≡◌, [], ◌∷◌, ◌++◌, length, None, sym, ap, subst, ◌∙◌}
use Rattle.std.proofs.lemmas.Result.{on_ok_weaker}
use Rattle.dr_levels.specs.Views.{move_view, triplet_view}
use Rattle.dr_moves.specs.Context.{Context}
use Rattle.dr_meaning.specs.Walk.{Move, value}
use Rattle.dr_kept_laws.specs.MovedContexts.{after_moves}
use Rattle.dr_prune.specs.PartAnswers.{HasAnswered, lasts_of, parts_of, tested_to}
use Rattle.dr_prune.proofs.PrunedLemmas.{answers_are_tested}
use Rattle.dr_condition.specs.Parted.{lent_tests, test_at}
use Rattle.dr_condition.proofs.WatchingLemmas.{answered_on}
use Rattle.dr_condition.proofs.watched.test_at_move.Goals as goal

pub returns-in-Leaf-clause-answered : goal.returns-in-Leaf-clause-answered
returns-in-Leaf-clause-answered c = on_ok_weaker c.test_at_leaf.result (λ tested ms h e.
    let t = test_at (lent_tests c.args.tests.now) in
    let old = c.args.answers.now in
    let i = c.in-Leaf.leaf in
    let x = triplet_view c.in-Leaf.field-1 in
    let q : move_view c.args.read.now ≡ value i x = ap move_view c.in-Leaf.is in
    let read = sym (ap (λ (m : Move). after_moves (λ j. None) (ms ++ m ∷ [])) (sym q) ∙ e) in
    subst (λ (m : Move). HasAnswered t (ms ++ m ∷ []) c.test_at_leaf.new.answers) (sym q)
    (answers_are_tested t ms i x old c.test_at_leaf.new.answers h c.test_at_leaf.ensures.lasts
    (tested ∙ ap (λ (d : Context). tested_to (length (lasts_of old)) i d (parts_of t old)) read))) c.test_at_leaf.ensures.tested

pub returns-in-Enter-clause-answered : goal.returns-in-Enter-clause-answered
returns-in-Enter-clause-answered c = λ ms h e. answered_on (test_at (lent_tests c.args.tests.now)) ms c.args.answers.now c.args.read.now c.in-Enter.is h

pub returns-in-Enter-2-clause-answered : goal.returns-in-Enter-2-clause-answered
returns-in-Enter-2-clause-answered c = λ ms h e. answered_on (test_at (lent_tests c.args.tests.now)) ms c.args.answers.now c.args.read.now c.in-Enter.is h
