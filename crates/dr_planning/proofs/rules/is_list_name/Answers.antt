use Rattle.std.proofs.Common.{arith}
use Rattle.dr_meaning.specs.Binding as binding
use Rattle.dr_planning.proofs.RuleLemmas.{any_found, any_sought, none_found}
use Rattle.dr_planning.proofs.rules.is_list_name.Goals as goal

pub returns-then-has_name_of_list : goal.returns-then-has_name_of_list
returns-then-has_name_of_list c = λ fs ls tree b ds v ib h.
    any_found fs ls (binding.has_name_of_list tree c.args.is_record_query b) ds c.args.others.now c.others.other-index c.other-item.result c.has_name_of_list.result h (omega arith) c.other-item.is
    (λ d id. c.has_name_of_list.ensures fs ls tree b d v ib id) (cc) (c.others.invariant fs ls tree b ds v ib h)

pub others-preserved : goal.others-preserved
others-preserved c = λ fs ls tree b ds v ib h.
    any_sought fs ls (binding.has_name_of_list tree c.args.is_record_query b) ds c.args.others.now c.others.other-index c.other-item.result c.has_name_of_list.result h (omega arith) c.other-item.is
    (λ d id. c.has_name_of_list.ensures fs ls tree b d v ib id) (cc) (c.others.invariant fs ls tree b ds v ib h)

pub returns : goal.returns
returns c = λ fs ls tree b ds v ib h.
    none_found fs ls (binding.has_name_of_list tree c.args.is_record_query b) ds c.args.others.now c.others.other-index h (omega arith) (c.others.invariant fs ls tree b ds v ib h)
