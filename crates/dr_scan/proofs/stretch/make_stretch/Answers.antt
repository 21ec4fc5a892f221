use Rattle.std.proofs.Common.{◌≡◌, ◌∙◌, ◌++◌, ℕ, Bool, List, [], refl, sym, ap, subst}
use Rattle.std.specs.Prelude.{Result, Ok, Err, IsErrAnd, ◌∷◌}
use Rattle.dr_meaning.specs.Schema.{Schema}
use Rattle.dr_meaning.specs.Path.{paths_of_leaves}
use Rattle.dr_meaning.specs.Walk.{Move}
use Rattle.dr_levels.specs.Views.{move_view}
use Rattle.dr_moves.specs.Leading.{Left}
use Rattle.dr_plan.specs.Planned.{plan_leaves}
use Rattle.dr_plan.specs.declared.plan.Plan.{Plan}
use Rattle.dr_walk.specs.Checking.{rest_at}
use Rattle.dr_walk.specs.Batches.{NestsOver}
use Rattle.dr_walk.specs.declared.fault.AssembleFault.{AssembleFault}
use Rattle.dr_walk.specs.declared.level_walk.LevelWalk.{LevelWalk}
use Rattle.dr_within.specs.declared.row.Row.{Row}
use Rattle.dr_scan.specs.Streamed.{IsScanned, EndsStretch}
use Rattle.dr_scan.specs.declared.making.Making.{Making}
use Rattle.dr_scan.specs.declared.stretch.Stretch.{Stretch}
use Rattle.dr_scan.proofs.LeafLemmas.{plan_leaf_paths, plan_paths_differ, plan_leaves_stand}
use Rattle.dr_scan.proofs.MakingLemmas.{may_make}
use Rattle.dr_scan.proofs.StretchLemmas.{GoesStreamed, goes_streamed, first_over, deep_enough, shrinks_not, shrinks_more, heard_scanned, gave_scanned, wants_stretch, ended_stretch, fails_stretch}
use Rattle.dr_scan.proofs.stretch.make_stretch.Goals as goal
use Rattle.dr_scan.proofs.stretch.make_stretch.Goals.{in-Heard, in-Gave+in_ok-step-in-Gave}

-- a fault that is handed on
ends_so : (s : Schema) (p : Plan) (rows : ℕ) (given : Left) (ended : List Bool) (w : LevelWalk) (here : Left) (m : Making) (q : Row) (r : Result Stretch AssembleFault) (f : AssembleFault) → IsErrAnd r (λ x. x ≡ f)
    → EndsStretch s p rows given ended w here m q (Err f) → EndsStretch s p rows given ended w here m q r
ends_so s p rows given ended w here m q (Ok a) f is h = elim is [ ]
ends_so s p rows given ended w here m q (Err x) f is h = subst (λ (y : AssembleFault). EndsStretch s p rows given ended w here m q (Err y)) (sym is) h

-- of equal makings and rows
moved : (s : Schema) (p : Plan) (rows : ℕ) (given : Left) (ended : List Bool) (ms : List Move) (w : LevelWalk) (here : Left) (m n : Making) (q r : Row) → n ≡ m → r ≡ q → IsScanned s p rows given ended ms w here m q
    → IsScanned s p rows given ended ms w here n r
moved s p rows given ended ms w here m n q r a b x = subst (λ (i : Making). IsScanned s p rows given ended ms w here i r) (sym a) (subst (λ (i : Row). IsScanned s p rows given ended ms w here m i) (sym b) x)

pub moves-init : goal.moves-init
moves-init c = record { goes = λ s p rows given ms h x. (ms, x); shrinks = shrinks_not (rest_at c.args.rests.now) }

pub step-requires : goal.step-requires
step-requires c =
    let q = c.requires in
    let now = c.moves.invariant.goes q.0 q.1 q.2 q.3 q.4 q.5 q.6 in
    record {
      few = may_make q.0 q.1 now.0 c.moves.making (deep_enough q.0 q.1 q.2 q.3 c.args.ended.now now.0 c.moves.walk (rest_at c.moves.rests) now.1.streamed) now.1.streamed.nests now.1.makes;
    }

pub moves-preserved : goal.moves-preserved
moves-preserved c = record {
  goes = λ s p rows given ms h x.
      let ended = c.args.ended.now in
      let now = c.moves.invariant.goes s p rows given ms h x in
      let v = c.moves.walk in
      let walk = c.step_over.new.walk in
      let before = rest_at c.moves.rests in
      let here = rest_at c.step_over.new.rests in
      let goes = subst (GoesStreamed s p rows given ended now.0 walk here) c.in_ok-step_over.was (goes_streamed s p rows given ended now.0 v walk before here c.step_over.result now.1.streamed
      (λ C later e o. c.step_over.ensures.goes s.fields (paths_of_leaves (plan_leaves p)) C rows now.0 later (plan_leaf_paths s p h) (plan_paths_differ s p h) e o)) in
      let first = first_over s p rows given ended now.0 v before now.1.streamed in
      let nests = subst (NestsOver s.fields (plan_leaves p) now.0) c.in_ok-step_over.was
      (c.step_over.ensures.nests s.fields (paths_of_leaves (plan_leaves p)) first.0 rows now.0 first.1 (plan_leaf_paths s p h) (plan_paths_differ s p h) first.2 first.3 (plan_leaves p) refl (plan_leaves_stand s p h)) in
      elim c.match-branch-2.branch [
        | in-Heard w ↦
            (now.0, moved s p rows given ended now.0 walk here _ _ _ _ w.making-is w.row-is (heard_scanned s p rows given ended now.0 v walk before here c.moves.making c.moves.row c.in_ok-step_over.field-0 now.1 w.in-Heard.is goes))
        | in-Gave+in_ok-step-in-Gave w ↦ (
          now.0 ++ move_view w.in-Gave.read ∷ [],
          moved s p rows given ended (now.0 ++ move_view w.in-Gave.read ∷ []) walk here _ _ _ _ w.making-is w.row-is
              (gave_scanned s p rows given ended now.0 v walk before here c.moves.making w.step.new.self c.moves.row w.step.new.row c.in_ok-step_over.field-0 w.in-Gave.read now.1 w.in-Gave.is goes nests w.in_ok-step-in-Gave.ensures.makes w.step.ensures.reads),
        )
      ];
  shrinks = shrinks_more (rest_at c.args.rests.now) (rest_at c.moves.rests) (rest_at c.step_over.new.rests) c.moves.invariant.shrinks c.step_over.ensures.rests;
}

pub returns-in_err-step_over-clause-shrinks : goal.returns-in_err-step_over-clause-shrinks
returns-in_err-step_over-clause-shrinks c = shrinks_more (rest_at c.args.rests.now) (rest_at c.moves.rests) (rest_at c.step_over.new.rests) c.moves.invariant.shrinks c.step_over.ensures.rests

pub returns-in_err-step-in-Gave-clause-shrinks : goal.returns-in_err-step-in-Gave-clause-shrinks
returns-in_err-step-in-Gave-clause-shrinks c = shrinks_more (rest_at c.args.rests.now) (rest_at c.moves.rests) (rest_at c.step_over.new.rests) c.moves.invariant.shrinks c.step_over.ensures.rests

pub returns-in-Wants-clause-shrinks : goal.returns-in-Wants-clause-shrinks
returns-in-Wants-clause-shrinks c = shrinks_more (rest_at c.args.rests.now) (rest_at c.moves.rests) (rest_at c.step_over.new.rests) c.moves.invariant.shrinks c.step_over.ensures.rests

pub returns-in-Ended-clause-shrinks : goal.returns-in-Ended-clause-shrinks
returns-in-Ended-clause-shrinks c = shrinks_more (rest_at c.args.rests.now) (rest_at c.moves.rests) (rest_at c.step_over.new.rests) c.moves.invariant.shrinks c.step_over.ensures.rests

pub returns-in_err-step_over-clause-ends : goal.returns-in_err-step_over-clause-ends
returns-in_err-step_over-clause-ends c = λ s p rows given ms h x.
    let ended = c.args.ended.now in
    let now = c.moves.invariant.goes s p rows given ms h x in
    let walk = c.step_over.new.walk in
    let here = rest_at c.step_over.new.rests in
    let goes = goes_streamed s p rows given ended now.0 c.moves.walk walk (rest_at c.moves.rests) here c.step_over.result now.1.streamed
    (λ C later e o. c.step_over.ensures.goes s.fields (paths_of_leaves (plan_leaves p)) C rows now.0 later (plan_leaf_paths s p h) (plan_paths_differ s p h) e o) in
    ends_so s p rows given ended walk here c.moves.making c.moves.row _ c.in_err-step_over.field-0.0 c.from_residual.ensures.1
    (fails_stretch s p rows given ended now.0 walk here c.moves.making c.moves.row c.in_err-step_over.field-0.0 (subst (GoesStreamed s p rows given ended now.0 walk here) c.in_err-step_over.was goes))

pub returns-in-Wants-clause-ends : goal.returns-in-Wants-clause-ends
returns-in-Wants-clause-ends c = λ s p rows given ms h x.
    let ended = c.args.ended.now in
    let now = c.moves.invariant.goes s p rows given ms h x in
    let walk = c.step_over.new.walk in
    let here = rest_at c.step_over.new.rests in
    let goes = goes_streamed s p rows given ended now.0 c.moves.walk walk (rest_at c.moves.rests) here c.step_over.result now.1.streamed
    (λ C later e o. c.step_over.ensures.goes s.fields (paths_of_leaves (plan_leaves p)) C rows now.0 later (plan_leaf_paths s p h) (plan_paths_differ s p h) e o) in
    wants_stretch s p rows given ended now.0 c.moves.walk walk (rest_at c.moves.rests) here c.moves.making c.moves.row c.in_ok-step_over.field-0 c.in-Wants.leaf now.1 c.in-Wants.is
    (subst (GoesStreamed s p rows given ended now.0 walk here) c.in_ok-step_over.was goes) (c.step_over.ensures.wants c.in-Wants.leaf (c.in_ok-step_over.was ∙ ap Ok c.in-Wants.is))

pub returns-in-Ended-clause-ends : goal.returns-in-Ended-clause-ends
returns-in-Ended-clause-ends c = λ s p rows given ms h x.
    let ended = c.args.ended.now in
    let now = c.moves.invariant.goes s p rows given ms h x in
    let walk = c.step_over.new.walk in
    let here = rest_at c.step_over.new.rests in
    let goes = goes_streamed s p rows given ended now.0 c.moves.walk walk (rest_at c.moves.rests) here c.step_over.result now.1.streamed
    (λ C later e o. c.step_over.ensures.goes s.fields (paths_of_leaves (plan_leaves p)) C rows now.0 later (plan_leaf_paths s p h) (plan_paths_differ s p h) e o) in
    ended_stretch s p rows given ended now.0 c.moves.walk walk (rest_at c.moves.rests) here c.moves.making c.moves.row c.in_ok-step_over.field-0 now.1 c.in-Ended.is
    (subst (GoesStreamed s p rows given ended now.0 walk here) c.in_ok-step_over.was goes)
