use Rattle.std.proofs.Common.{sym, subst}
use Rattle.dr_sub_meaning.specs.NestedParse as nested
use Rattle.dr_sql.specs.Reads.{unread, IsFaultOf}
use Rattle.dr_sql.specs.Views.{aggregate_view}
use Rattle.dr_sql.specs.declared.fault.QueryFault.{QueryFault}
use Rattle.dr_sql.proofs.SelectLemmas.{not_opened}
use Rattle.dr_sql.proofs.items.argument.Goals as goal

pub returns-then-not-next_is_sign : goal.returns-then-not-next_is_sign
returns-then-not-next_is_sign c =
    let u = unread c.args.cursor.now in
    let a = aggregate_view c.args.aggregate in
    subst (λ (e : QueryFault). IsFaultOf e (nested.opened_term c.args.depth a u)) (sym c.fault.ensures) (not_opened c.args.depth a u (sym c.if-not-next_is_sign.ensures))
