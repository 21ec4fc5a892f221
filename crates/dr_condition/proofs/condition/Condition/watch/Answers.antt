use Rattle.std.proofs.Common.{Option, Some, sym, ap, subst, ◌∙◌}
use Rattle.std.specs.Prelude.{option_map}
use Rattle.std.proofs.lemmas.Result.{IfOk-weaker, on_ok_weaker}
use Rattle.dr_levels.specs.Views.{move_view}
use Rattle.dr_condition.specs.Conditions.{watched_parts, HasWatchedIf}
use Rattle.dr_condition.specs.Parted.{WatchedParts}
use Rattle.dr_condition.specs.Watching.{TellsKept, dropped_at}
use Rattle.dr_condition.specs.declared.watched.Watched.{Watched}
use Rattle.dr_condition.proofs.condition.Condition.watch.Goals as goal

pub returns-in-Some-clause-watches : goal.returns-in-Some-clause-watches
returns-in-Some-clause-watches c = ap (λ (w : WatchedParts). Some w) c.step.ensures.watches ∙ ap (option_map watched_parts) (sym c.in-Some.is)

pub returns-in-Some-clause-kept : goal.returns-in-Some-clause-kept
returns-in-Some-clause-kept c = IfOk-weaker c.step.result _ _ (λ t call ms h e.
    subst (λ (o : Option Watched). TellsKept (option_map watched_parts o) ms (move_view c.args.read.now) t.is_kept) (sym c.in-Some.is)
    (call ms (subst (λ (o : Option Watched). HasWatchedIf o ms) c.in-Some.is h) e)) c.step.ensures.kept

pub returns-in-Some-clause-dropped : goal.returns-in-Some-clause-dropped
returns-in-Some-clause-dropped c = IfOk-weaker c.step.result _ _ (λ t call ms h e.
    call ms (subst (λ (o : Option Watched). HasWatchedIf o ms) c.in-Some.is h) e
    ∙ ap (λ (o : Option Watched). dropped_at (option_map watched_parts o) ms (move_view c.args.read.now)) (sym c.in-Some.is)) c.step.ensures.dropped

pub returns-in-Some-clause-watched : goal.returns-in-Some-clause-watched
returns-in-Some-clause-watched c = on_ok_weaker c.step.result (λ call ms h e. call ms (subst (λ (o : Option Watched). HasWatchedIf o ms) c.in-Some.is h) e) c.step.ensures.watched
