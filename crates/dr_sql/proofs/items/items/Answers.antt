use Rattle.std.proofs.Common.{sym, subst, ap, map, ◌∙◌, ◌++◌, ◌∷◌, [], ◌≡◌, ◌+◌, ◌<◌, arith, length, length-append}
use Rattle.std.proofs.lemmas.Result.{err_from_is_err_and}
use Rattle.std.proofs.lemmas.List.{map-append}
use Rattle.dr_meaning.specs.Parse.{begins_item}
use Rattle.dr_sub_meaning.specs.NestedParse as nested
use Rattle.dr_sql.specs.Reads.{unread, IsFaultOf}
use Rattle.dr_sql.specs.Views.{items_view, item_view}
use Rattle.dr_sql.proofs.ListLemmas.{items_are, first_read, no_first, one_element_more, no_element}
use Rattle.dr_sql.proofs.items.items.Goals as goal

pub returns-in_err-item : goal.returns-in_err-item
returns-in_err-item c =
    let p = err_from_is_err_and c.from_residual.result c.from_residual.ensures.1 in
    let e = c.in_err-item.field-0.0 in
    let u = unread c.args.cursor.now in
    rw (p.1, p.2) (subst (IsFaultOf e) (sym (items_are c.args.depth u)) (no_first begins_item (nested.item c.args.depth) 255 u e c.in_err-item.ensures))

pub items-init : goal.items-init
items-init c =
    let u = unread c.args.cursor.now in
    let x = c.in_ok-item.field-0 in
    let items : c.push.new.self.items ≡ x ∷ [] = c.in_ok-push.ensures.items ∙ ap (λ xs. xs ++ x ∷ []) c.new-items.ensures.items in
    let one : length c.push.new.self.items ≡ 1 = ap length items in
    (items_are c.args.depth u ∙ first_read begins_item (nested.item c.args.depth) 256 (length c.push.new.self.items) (item_view x) _ u _ c.in_ok-item.ensures one (ap (map item_view) items), omega arith)

pub returns-in_err-item-2 : goal.returns-in_err-item-2
returns-in_err-item-2 c =
    let p = err_from_is_err_and c.from_residual-in_err-item-2.result c.from_residual-in_err-item-2.ensures.1 in
    let e = c.in_err-item-2.field-0.0 in
    let u = unread c.items.cursor in
    let k = length c.items.items.items in
    let within : k < 256 = omega (arith, c.items.items.ok.0) in
    rw (p.1, p.2) (subst (IsFaultOf e) (sym c.items.invariant.0) (no_element begins_item (nested.item c.args.depth) 256 k _ (items_view c.items.items) u _ e within (sym c.items-test.ensures) c.advance.ensures c.in_err-item-2.ensures))

pub items-preserved : goal.items-preserved
items-preserved c =
    let u = unread c.items.cursor in
    let x = c.in_ok-item-2.field-0 in
    let k = length c.items.items.items in
    let j = length c.push-in-items.new.self.items in
    let within : k < 256 = omega (arith, c.items.items.ok.0) in
    let more : j ≡ k + 1 = ap length c.in_ok-push-2.ensures.items ∙ length-append c.items.items.items (x ∷ []) in
    let view = ap (map item_view) c.in_ok-push-2.ensures.items ∙ map-append item_view c.items.items.items (x ∷ []) in
    (c.items.invariant.0 ∙ one_element_more begins_item (nested.item c.args.depth) 256 k j _ (item_view x) (items_view c.items.items) _ u _ _ within (sym c.items-test.ensures) c.advance.ensures c.in_ok-item-2.ensures more view, omega (arith, within, more))
