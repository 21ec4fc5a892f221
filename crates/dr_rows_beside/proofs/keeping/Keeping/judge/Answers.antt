use Rattle.std.proofs.Common.{◌≡◌, ◌∙◌, ℕ, List, Bool, sym, ap, map, length, subst, arith}
use Rattle.dr_levels.specs.Views.{triplets_view}
use Rattle.dr_agreement.specs.Cuts.{begins}
use Rattle.dr_levels.specs.Apart.{repetitions}
use Rattle.dr_rows_beside.specs.Judging.{AreGathered, CanAnswer, CanAnswerEach}
use Rattle.dr_rows_beside.specs.Keepings.{levels_of, judged}
use Rattle.dr_rows_beside.proofs.KeepingLemmas.{levels_there, judged_long, levels_long, all_put, gathered_put}
use Rattle.dr_rows_beside.proofs.keeping.Keeping.judge.Goals as goal

pub put_judged-requires-clause-levels : goal.put_judged-requires-clause-levels
put_judged-requires-clause-levels c = levels_there c.args.columns.now c.args.self.now.own.source.leaf c.index-columns-self.result c.levels-levels.result.now c.requires.judged.own.leaf c.index-columns-self.is c.levels-levels.ensures

pub put_judged-requires-clause-own : goal.put_judged-requires-clause-own
put_judged-requires-clause-own c =
    let C = map triplets_view c.args.columns.now in
    subst (λ (rs : List ℕ). CanAnswer C rs c.args.self.now.own) (sym (levels_there c.args.columns.now c.args.self.now.own.source.leaf c.index-columns-self.result c.levels-levels.result.now c.requires.judged.own.leaf c.index-columns-self.is c.levels-levels.ensures)) c.requires.judged.own

pub put_judged-requires-clause-others : goal.put_judged-requires-clause-others
put_judged-requires-clause-others c =
    let C = map triplets_view c.args.columns.now in
    let a : CanAnswerEach C (repetitions c.levels-levels.result.now) c.args.self.now.others.items = subst (λ (rs : List ℕ). CanAnswerEach C rs c.args.self.now.others.items) (sym (levels_there c.args.columns.now c.args.self.now.own.source.leaf c.index-columns-self.result c.levels-levels.result.now c.requires.judged.own.leaf c.index-columns-self.is c.levels-levels.ensures)) c.requires.judged.others in
    subst (CanAnswerEach C (repetitions c.levels-levels.result.now)) (sym c.deref.ensures.value) a

pub put_judged-requires-clause-begins : goal.put_judged-requires-clause-begins
put_judged-requires-clause-begins c = ap begins (levels_there c.args.columns.now c.args.self.now.own.source.leaf c.index-columns-self.result c.levels-levels.result.now c.requires.judged.own.leaf c.index-columns-self.is c.levels-levels.ensures) ∙ c.requires.judged.begins_there

pub gather_each-requires-clause-begins : goal.gather_each-requires-clause-begins
gather_each-requires-clause-begins c = ap begins (levels_there c.args.columns.now c.args.self.now.own.source.leaf c.index-columns-self.result c.levels-levels.result.now c.requires.judged.own.leaf c.index-columns-self.is c.levels-levels.ensures) ∙ c.requires.judged.begins_there

pub gather_each-requires-clause-bits : goal.gather_each-requires-clause-bits
gather_each-requires-clause-bits c =
    let C = map triplets_view c.args.columns.now in
    ap (λ (bs : List Bool). length bs) (c.deref-2.ensures.value ∙ c.in_ok-put_judged.ensures) ∙ judged_long C c.args.self.now.own c.deref.result.now
    ∙ sym (levels_long c.levels-levels.result.now (levels_of C c.args.self.now.own) (levels_there c.args.columns.now c.args.self.now.own.source.leaf c.index-columns-self.result c.levels-levels.result.now c.requires.judged.own.leaf c.index-columns-self.is c.levels-levels.ensures))

pub returns-clause-judged : goal.returns-clause-judged
returns-clause-judged c =
    let C = map triplets_view c.args.columns.now in
    let own = c.args.self.now.own in
    let bits : c.deref-2.result.now ≡ judged C own c.args.self.now.others.items = c.deref-2.ensures.value ∙ c.in_ok-put_judged.ensures ∙ ap (judged C own) c.deref.ensures.value in
    let made : AreGathered (levels_of C own) (judged C own c.args.self.now.others.items) (length c.gather_each.new.out) c.gather_each.new.out =
    subst (λ (bs : List Bool). AreGathered (levels_of C own) bs (length c.gather_each.new.out) c.gather_each.new.out) bits
    (subst (λ (rs : List ℕ). AreGathered rs c.deref-2.result.now (length c.gather_each.new.out) c.gather_each.new.out) (levels_there c.args.columns.now c.args.self.now.own.source.leaf c.index-columns-self.result c.levels-levels.result.now c.requires.judged.own.leaf c.index-columns-self.is c.levels-levels.ensures) c.in_ok-gather_each.ensures) in
    let long : length c.gather_each.new.out ≡ c.args.self.now.above.len = omega (arith, c.gather_each.auto.out, c.as_mut_slice.ensures.len, c.args.self.now.above.ok.0) in
    record {
      whole = c.in_ok-put_judged.ensures ∙ ap (judged C own) c.deref.ensures.value;
      above = gathered_put (levels_of C own) (judged C own c.args.self.now.others.items) c.args.self.now.above.len c.gather_each.new.out _ long made;
      deep = ap length (all_put c.args.self.now.above.len c.gather_each.new.out _ long) ∙ (omega (arith, long, c.args.self.now.above.ok.0)) ∙ c.requires.deep;
      within = c.requires.judged.within;
    }
