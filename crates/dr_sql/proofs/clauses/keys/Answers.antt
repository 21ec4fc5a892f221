use Rattle.std.proofs.Common.{sym, subst, ap, map, ◌∙◌, ◌++◌, ◌∷◌, [], ◌≡◌, ◌+◌, ◌<◌, arith, length, length-append}
use Rattle.std.proofs.lemmas.Result.{err_from_is_err_and}
use Rattle.std.proofs.lemmas.List.{map-append}
use Rattle.dr_meaning.specs.Parse.{begins_key, path_names}
use Rattle.dr_sql.specs.Reads.{unread, IsFaultOf}
use Rattle.dr_sql.specs.Views.{keys_view, path_view}
use Rattle.dr_sql.proofs.ListLemmas.{keys_are, first_read, no_first, one_element_more, no_element}
use Rattle.dr_sql.proofs.clauses.keys.Goals as goal

pub returns-in_err-path : goal.returns-in_err-path
returns-in_err-path c =
    let p = err_from_is_err_and c.from_residual.result c.from_residual.ensures.1 in
    let e = c.in_err-path.field-0.0 in
    let u = unread c.args.cursor.now in
    rw (p.1, p.2) (subst (IsFaultOf e) (sym (keys_are u)) (no_first begins_key path_names 255 u e c.in_err-path.ensures))

pub keys-init : goal.keys-init
keys-init c =
    let u = unread c.args.cursor.now in
    let x = c.in_ok-path.field-0 in
    let items : c.push.new.self.items ≡ x ∷ [] = c.in_ok-push.ensures.items ∙ ap (λ xs. xs ++ x ∷ []) c.new-keys.ensures.items in
    let one : length c.push.new.self.items ≡ 1 = ap length items in
    (keys_are u ∙ first_read begins_key path_names 256 (length c.push.new.self.items) (path_view x) _ u _ c.in_ok-path.ensures one (ap (map path_view) items), omega arith)

pub returns-in_err-path-2 : goal.returns-in_err-path-2
returns-in_err-path-2 c =
    let p = err_from_is_err_and c.from_residual-in_err-path-2.result c.from_residual-in_err-path-2.ensures.1 in
    let e = c.in_err-path-2.field-0.0 in
    let u = unread c.keys.cursor in
    let k = length c.keys.keys.items in
    let within : k < 256 = omega (arith, c.keys.keys.ok.0) in
    rw (p.1, p.2) (subst (IsFaultOf e) (sym c.keys.invariant.0) (no_element begins_key path_names 256 k _ (keys_view c.keys.keys) u _ e within (sym c.keys-test.ensures) c.advance.ensures c.in_err-path-2.ensures))

pub keys-preserved : goal.keys-preserved
keys-preserved c =
    let u = unread c.keys.cursor in
    let x = c.in_ok-path-2.field-0 in
    let k = length c.keys.keys.items in
    let j = length c.push-in-keys.new.self.items in
    let within : k < 256 = omega (arith, c.keys.keys.ok.0) in
    let more : j ≡ k + 1 = ap length c.in_ok-push-2.ensures.items ∙ length-append c.keys.keys.items (x ∷ []) in
    let view = ap (map path_view) c.in_ok-push-2.ensures.items ∙ map-append path_view c.keys.keys.items (x ∷ []) in
    (c.keys.invariant.0 ∙ one_element_more begins_key path_names 256 k j _ (path_view x) (keys_view c.keys.keys) _ u _ _ within (sym c.keys-test.ensures) c.advance.ensures c.in_ok-path-2.ensures more view, omega (arith, within, more))
