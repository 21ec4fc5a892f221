use Rattle.std.proofs.Common.{Some, None, Ok, Err, refl, sym, ap, subst, ◌∙◌}
use Rattle.std.specs.Prelude.{is_some}
use Rattle.dr_walk.specs.Walking.{given_leaf}
use Rattle.dr_walk.specs.Checking.{rest_at}
use Rattle.dr_walk.specs.Batches.{IsGivenOf}
use Rattle.dr_walk.proofs.ValueLemmas.{level_ok}
use Rattle.dr_walk.proofs.BatchLemmas.{Comes, comes_over, heard_over, over_heard, over_gave, nests_gave, over_unfit, over_ended, over_fails, shrinks_behind}
use Rattle.dr_walk.proofs.batches.go_on.Goals as goal

pub returns-in-Some-clause-goes : goal.returns-in-Some-clause-goes
returns-in-Some-clause-goes c = λ fs F C rows ms later p d on comes.
    let old = c.args.walk.now in
    let here = rest_at c.args.rests.now in
    let more = c.args.more in
    let come = comes_over fs F C rows ms old here later more on comes in
    let s = c.in-Ok-Some.step in
    let is = c.in-Ok-Some.is ∙ ap Ok c.in-Ok-Some.field-0-is in
    let g : Comes fs F C rows ms old c.next.new.self here later s = record {
      left = on.left;
      rest = on.rest;
      heard = heard_over fs F C rows ms old here later more on comes;
      on = level_ok _ c.next.result (Some s) is (c.next.ensures.on F fs rows C ms on.left on.at come);
      levels = level_ok _ c.next.result (Some s) is (c.next.ensures.levels F fs rows C ms on.left on.at come);
      wants = level_ok _ c.next.result (Some s) is (c.next.ensures.wants F fs rows C ms on.left on.at come);
    } in
    let v = subst (IsGivenOf here s) c.in-Some.is c.give.ensures.gives in
    over_gave fs F C rows ms old c.next.new.self here (rest_at c.give.new.rests) later s c.in-Some.given g v c.give.ensures.rests

pub returns-in-Some-clause-nests : goal.returns-in-Some-clause-nests
returns-in-Some-clause-nests c = λ fs F C rows ms later p d on comes L q are.
    let old = c.args.walk.now in
    let here = rest_at c.args.rests.now in
    let more = c.args.more in
    let come = comes_over fs F C rows ms old here later more on comes in
    let s = c.in-Ok-Some.step in
    let is = c.in-Ok-Some.is ∙ ap Ok c.in-Ok-Some.field-0-is in
    let g : Comes fs F C rows ms old c.next.new.self here later s = record {
      left = on.left;
      rest = on.rest;
      heard = heard_over fs F C rows ms old here later more on comes;
      on = level_ok _ c.next.result (Some s) is (c.next.ensures.on F fs rows C ms on.left on.at come);
      levels = level_ok _ c.next.result (Some s) is (c.next.ensures.levels F fs rows C ms on.left on.at come);
      wants = level_ok _ c.next.result (Some s) is (c.next.ensures.wants F fs rows C ms on.left on.at come);
    } in
    let v = subst (IsGivenOf here s) c.in-Some.is c.give.ensures.gives in
    nests_gave fs F C rows ms L old c.next.new.self here later s c.in-Some.given g v (level_ok _ c.next.result (Some s) is (c.next.ensures.nests F fs rows C ms on.left on.at come L q are d))

pub returns-in-Some-clause-rests : goal.returns-in-Some-clause-rests
returns-in-Some-clause-rests c = shrinks_behind (rest_at c.args.rests.now) (rest_at c.give.new.rests) (given_leaf c.in-Ok-Some.step) c.give.ensures.rests

pub returns-in-None-clause-goes : goal.returns-in-None-clause-goes
returns-in-None-clause-goes c = λ fs F C rows ms later p d on comes.
    let old = c.args.walk.now in
    let here = rest_at c.args.rests.now in
    let more = c.args.more in
    let come = comes_over fs F C rows ms old here later more on comes in
    let s = c.in-Ok-Some.step in
    let is = c.in-Ok-Some.is ∙ ap Ok c.in-Ok-Some.field-0-is in
    let g : Comes fs F C rows ms old c.next.new.self here later s = record {
      left = on.left;
      rest = on.rest;
      heard = heard_over fs F C rows ms old here later more on comes;
      on = level_ok _ c.next.result (Some s) is (c.next.ensures.on F fs rows C ms on.left on.at come);
      levels = level_ok _ c.next.result (Some s) is (c.next.ensures.levels F fs rows C ms on.left on.at come);
      wants = level_ok _ c.next.result (Some s) is (c.next.ensures.wants F fs rows C ms on.left on.at come);
    } in
    let v = subst (IsGivenOf here s) c.in-None.is c.give.ensures.gives in
    over_unfit fs F C rows ms old c.next.new.self here later s g v (λ R h. (level_ok _ c.next.result (Some s) is (c.next.ensures.front F fs rows C ms on.left on.at come R p h)).0)

pub returns-in-None-clause-rests : goal.returns-in-None-clause-rests
returns-in-None-clause-rests c = shrinks_behind (rest_at c.args.rests.now) (rest_at c.give.new.rests) (given_leaf c.in-Ok-Some.step) c.give.ensures.rests

pub returns-then-is_none-clause-goes : goal.returns-then-is_none-clause-goes
returns-then-is_none-clause-goes c = λ fs F C rows ms later p d on comes.
    let old = c.args.walk.now in
    let here = rest_at c.args.rests.now in
    let more = c.args.more in
    let come = comes_over fs F C rows ms old here later more on comes in
    over_ended fs F C rows ms old c.next.new.self here here later c.is_none.result p on (sym c.is_none.ensures ∙ ap is_some c.wants.ensures) c.if-is_none.true
    (λ z. c.next.ensures.whole F fs rows C ms on.left on.at come p d (c.in-Ok-None.is ∙ ap Ok c.in-Ok-None.field-0-is) z)

pub returns-else-is_none-clause-goes : goal.returns-else-is_none-clause-goes
returns-else-is_none-clause-goes c = λ fs F C rows ms later p d on comes.
    let old = c.args.walk.now in
    let here = rest_at c.args.rests.now in
    let more = c.args.more in
    let come = comes_over fs F C rows ms old here later more on comes in
    let is = c.in-Ok-None.is ∙ ap Ok c.in-Ok-None.field-0-is in
    over_heard fs F C rows ms old c.next.new.self here later more on comes (level_ok _ c.next.result None is (c.next.ensures.on F fs rows C ms on.left on.at come) refl)
    (level_ok _ c.next.result None is (c.next.ensures.wants F fs rows C ms on.left on.at come))

pub returns-in-Err-clause-goes : goal.returns-in-Err-clause-goes
returns-in-Err-clause-goes c = λ fs F C rows ms later p d on comes.
    let old = c.args.walk.now in
    let here = rest_at c.args.rests.now in
    let more = c.args.more in
    let come = comes_over fs F C rows ms old here later more on comes in
    over_fails fs F C rows ms c.next.new.self here later c.in-Err.fault (λ e. c.next.ensures.bad F fs rows C ms on.left on.at come p (c.in-Err.is ∙ ap Err e))
