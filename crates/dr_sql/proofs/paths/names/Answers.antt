use Rattle.std.proofs.Common.{sym, subst, ◌∙◌, ◌∷◌, [], ap, map}
use Rattle.std.proofs.lemmas.Result.{err_from_is_err_and}
use Rattle.std.proofs.lemmas.List.{map-append}
use Rattle.dr_sql.specs.Reads.{unread, IsFaultOf}
use Rattle.dr_sql.specs.Views.{names_view, lent}
use Rattle.dr_sql.proofs.LoopLemmas.{one_name_more, no_name_more}
use Rattle.dr_sql.proofs.paths.names.Goals as goal

pub returns-in_err-name-2 : goal.returns-in_err-name-2
returns-in_err-name-2 c =
    let p = err_from_is_err_and c.from_residual-in_err-name-2.result c.from_residual-in_err-name-2.ensures.1 in
    let e = c.in_err-name-2.field-0.0 in
    rw (p.1, p.2) (subst (IsFaultOf e) (sym c.names.invariant) (no_name_more c.left-end.result c.names.counter _ (names_view c.names.names) (unread c.names.cursor) _ e
    c.names-test.true (sym c.if-not-next_is_sign.ensures) c.advance.ensures c.in_err-name-2.ensures))

pub names-preserved : goal.names-preserved
names-preserved c = c.names.invariant ∙ one_name_more c.left-end.result c.names.counter _ (names_view c.names.names) _ _ (unread c.names.cursor) _ _
    c.names-test.true (sym c.if-not-next_is_sign.ensures) c.advance.ensures c.in_ok-name-2.ensures (ap (map lent) c.in_ok-push-2.ensures.items ∙ map-append lent c.names.names.items (c.in_ok-name-2.field-0 ∷ []))
