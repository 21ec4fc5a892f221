use Rattle.std.proofs.Common.{rules}
use Rattle.dr_group.proofs.SortLemmas.{sorted_by, sorted_order, sorted_numbers}
use Rattle.dr_group.proofs.ordering.numbers_in_order.Goals as goal

pub returns-clause-numbers : goal.returns-clause-numbers
returns-clause-numbers c =
    sorted_numbers c.args.groups.now c.in_ok-numbers.numbers.items c.sort_unstable_by.new.self.items c.in_ok-numbers.ensures c.sort_unstable_by.ensures.permutation

pub returns-clause-order : goal.returns-clause-order
returns-clause-order c =
    let gs = c.args.groups.now in
    let is = c.sort_unstable_by.new.self.items in
    sorted_order gs c.in_ok-numbers.numbers.items is c.in_ok-numbers.ensures c.sort_unstable_by.ensures.permutation (sorted_by gs is c.sort_unstable_by.ensures.sorted (λ a r f' k. search rules)) c.requires
