use Rattle.std.proofs.Common.{◌≡◌, [], subst, sym, ◌∙◌, arith}
use Rattle.dr_levels.specs.Views.{column_view, column_form}
use Rattle.dr_striper.specs.Shapes.{AllTaken}
use Rattle.dr_striper.proofs.NullLemmas.{joined-nulls}
use Rattle.dr_striper.proofs.PassingLemmas.{none_present}
use Rattle.dr_striper.proofs.EndLemmas.{no_items, lent_rest, whole_own}
use Rattle.dr_striper.proofs.lending.lend_leaf.Goals as goal

pub lent_nulls-requires : goal.lent_nulls-requires
lent_nulls-requires c =
    let own = column_view c.args.leaf.now.column in
    let eo : own ≡ [] = no_items own (omega (arith, c.if-len-eq0.true, c.len.ensures)) in
    none_present (column_form c.args.leaf.now.column) c.behind.result.now
    (subst (AllTaken (column_form c.args.leaf.now.column)) (sym (lent_rest c.args.leaf.now.seen c.args.above.now c.behind.result.now own eo c.behind.ensures)) c.requires.taken)

pub returns-then-len-eq0-clause-triplets : goal.returns-then-len-eq0-clause-triplets
returns-then-len-eq0-clause-triplets c =
    let own = column_view c.args.leaf.now.column in
    let f = column_form c.args.leaf.now.column in
    let eo : own ≡ [] = no_items own (omega (arith, c.if-len-eq0.true, c.len.ensures)) in
    let e = lent_rest c.args.leaf.now.seen c.args.above.now c.behind.result.now own eo c.behind.ensures in
    c.lent_nulls.ensures.triplets ∙ joined-nulls f.greatest c.behind.result.now (none_present f c.behind.result.now (subst (AllTaken f) (sym e) c.requires.taken)) ∙ e

pub returns-else-len-eq0-clause-triplets : goal.returns-else-len-eq0-clause-triplets
returns-else-len-eq0-clause-triplets c =
    c.triplets.ensures.triplets ∙ whole_own c.args.leaf.now.seen (column_view c.args.leaf.now.column) c.args.above.now (c.requires.ended (omega (arith, c.if-len-eq0.false, c.len.ensures)))
