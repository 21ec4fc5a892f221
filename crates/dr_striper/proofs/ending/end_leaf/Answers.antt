use Rattle.std.proofs.Common.{length, subst, sym, arith}
use Rattle.std.proofs.lemmas.List.{length-map, take_all}
use Rattle.dr_nested.specs.Views.{rep_view}
use Rattle.dr_levels.specs.Views.{column_view, column_form}
use Rattle.dr_striper.specs.Added.{grown}
use Rattle.dr_striper.specs.Shapes.{AllTaken}
use Rattle.dr_striper.specs.Views.{null_of, nulls}
use Rattle.dr_striper.proofs.PassingLemmas.{unseen_absent}
use Rattle.dr_striper.proofs.EndLemmas.{leaf_ends_seen, leaf_ends_taken}
use Rattle.dr_striper.proofs.ending.end_leaf.Goals as goal

pub catch_up-requires-clause-seen : goal.catch_up-requires-clause-seen
catch_up-requires-clause-seen c = omega (arith, leaf_ends_seen (rep_view c.args.rep) (column_form c.args.leaf.now.column) (nulls c.args.above.now) c.args.leaf.now.seen (column_view c.args.leaf.now.column) c.requires.ends, length-map c.args.above.now null_of)

pub catch_up-requires-clause-nulls : goal.catch_up-requires-clause-nulls
catch_up-requires-clause-nulls c =
    let f = column_form c.args.leaf.now.column in
    let n = c.args.leaf.now.seen in
    let own = column_view c.args.leaf.now.column in
    let ls = c.args.above.now in
    unseen_absent f n (length ls) own ls
    (omega (arith, leaf_ends_seen (rep_view c.args.rep) f (nulls ls) n own c.requires.ends, length-map ls null_of))
    (subst (λ ks. AllTaken f (grown n own (nulls ks))) (sym (take_all (length ls) ls (omega arith))) (leaf_ends_taken (rep_view c.args.rep) f (nulls ls) n own c.requires.ends))
