use Rattle.std.proofs.Common.{None, Some, inl, refl, sym, subst, true≢false}
use Rattle.dr_meaning.specs.Walk.{enter, leave}
use Rattle.dr_moves.specs.Course.{course}
use Rattle.dr_moves.specs.Turning.{between}
use Rattle.dr_moves.specs.Leading.{columns_of, heads as next_of}
use Rattle.dr_walk.specs.Standing.{IsStep}
use Rattle.dr_walk.specs.Walking.{Gave, WantsNext}
use Rattle.dr_walk.proofs.WalkLemmas.{moved_at, goes_leaf, goes_end, leads_to, all_known}
use Rattle.dr_walk.proofs.level_walk.LevelWalk.go_on.Goals as goal

pub returns-in-Enters-clause-goes : goal.returns-in-Enters-clause-goes
returns-in-Enters-clause-goes c = λ F fs rows C ms left at w.
    let old = c.args.self.now in
    let e = c.in_ok-number.ensures in
    let k = all_known fs F rows C ms left old at w in
    let g = subst (IsStep (course fs F) at.stack (next_of left) c.step.new.self) c.in-Enters.is (e.step (course fs F) at.stack (next_of left) at.stands k) in
    record {
      levels = tt;
      on = λ f. moved_at fs F rows C ms left old _ (enter c.in-Enters.number) g.0.from g.0.to at w g.0.comes g.0.made (record { table = g.1; spot = g.0.stands }) (λ i. refl) refl e.heads refl refl c.saturating_add-self.ensures refl;
      unfit = λ f. absurd (true≢false f);
    }

pub returns-in-Leaves-clause-goes : goal.returns-in-Leaves-clause-goes
returns-in-Leaves-clause-goes c = λ F fs rows C ms left at w.
    let old = c.args.self.now in
    let e = c.in_ok-number.ensures in
    let k = all_known fs F rows C ms left old at w in
    let g = subst (IsStep (course fs F) at.stack (next_of left) c.step.new.self) c.in-Leaves.is (e.step (course fs F) at.stack (next_of left) at.stands k) in
    record {
      levels = tt;
      on = λ f. moved_at fs F rows C ms left old _ (leave c.in-Leaves.number) g.0.from g.0.to at w g.0.comes g.0.made (record { table = g.1; spot = g.0.stands }) (λ i. refl) refl e.heads refl refl c.saturating_add-self-in-Leaves.ensures refl;
      unfit = λ f. absurd (true≢false f);
    }

pub returns-in-Gives-clause-goes : goal.returns-in-Gives-clause-goes
returns-in-Gives-clause-goes c = λ F fs rows C ms left at w.
    let old = c.args.self.now in
    let e = c.in_ok-number.ensures in
    let x = c.give_leaf.ensures in
    let k = all_known fs F rows C ms left old at w in
    let g = subst (IsStep (course fs F) at.stack (next_of left) c.step.new.self) c.in-Gives.is (e.step (course fs F) at.stack (next_of left) at.stands k) in
    subst (Gave fs F rows C ms left c.give_leaf.new.self) (sym x.gives)
    (goes_leaf fs F rows C ms left old c.give_leaf.new.self c.step.new.self c.in-Gives.leaf c.in-Gives.levels c.in-Gives.kind at w g.0 e.heads (record { table = g.1; spot = g.0.stands })
    x.wanted x.given x.taken x.failed x.here x.others x.heads x.stands)

pub returns-in-Done-clause-goes : goal.returns-in-Done-clause-goes
returns-in-Done-clause-goes c = λ F fs rows C ms left at w.
    let old = c.args.self.now in
    let e = c.in_ok-number.ensures in
    let x = c.end.ensures in
    let k = all_known fs F rows C ms left old at w in
    let g = subst (IsStep (course fs F) at.stack (next_of left) c.step.new.self) c.in-Done.is (e.step (course fs F) at.stack (next_of left) at.stands k) in
    goes_end fs F rows C ms left old _ c.end.result at w g.0.from g.0.comes g.0.made (record { table = g.1; spot = g.0.stands }) e.heads refl refl refl refl x.ends x.left x.other x.memory

pub returns-in-Stops-clause-goes : goal.returns-in-Stops-clause-goes
returns-in-Stops-clause-goes c = λ F fs rows C ms left at w.
    let old = c.args.self.now in
    let e = c.in_ok-number.ensures in
    let k = all_known fs F rows C ms left old at w in
    let g = subst (IsStep (course fs F) at.stack (next_of left) c.step.new.self) c.in-Stops.is (e.step (course fs F) at.stack (next_of left) at.stands k) in
    record { stack = g.0.from; leads = leads_to (course fs F) (between rows) (columns_of C) left ms at.stack g.0.from at.leads g.0.comes; why = inl g.0.made }

pub returns-in-Gives-clause-turns : goal.returns-in-Gives-clause-turns
returns-in-Gives-clause-turns c = λ w.
    let x = c.give_leaf.ensures in
    subst (λ m. WantsNext (Some m) None c.give_leaf.new.self.wanted) (sym x.gives) (refl, x.wanted)
