use Rattle.std.proofs.Common.{map, refl}
use Rattle.std.proofs.lemmas.Result.{err_from_is_err_and}
use Rattle.dr_meaning.specs.Record.{int_value}
use Rattle.dr_nested.specs.Views.{kind_view}
use Rattle.dr_page.proofs.ValueSteps.{indices_refused, picked_taken, picked_many}
use Rattle.dr_page.proofs.value_cursor.ValueCursor.next_integers.Goals as goal

pub returns-in_err-next-in-Dictionary-clause-next : goal.returns-in_err-next-in-Dictionary-clause-next
returns-in_err-next-in-Dictionary-clause-next c =
    let p = err_from_is_err_and c.from_residual-in_err-next-in-Dictionary.result c.from_residual-in_err-next-in-Dictionary.ensures.1 in
    λ z given h.
    let i = h.indices c.in-Dictionary.is in
    rw (p.1, p.2) (indices_refused c.in_err-next-in-Dictionary.field-0.0 z (kind_view c.args.kind) (map int_value c.args.dictionary.now) c.args.bytes.now given c.args.count i.0 c.args.self.now h c.in-Dictionary.is i.1 (c.in_err-next-in-Dictionary.ensures.next i.0 i.2))

pub returns-in_ok-next-in-Dictionary-clause-next : goal.returns-in_ok-next-in-Dictionary-clause-next
returns-in_ok-next-in-Dictionary-clause-next c =
    λ z given h.
    let i = h.indices c.in-Dictionary.is in
    picked_taken int_value z (kind_view c.args.kind) c.args.dictionary.now c.pick_items.new.out.items c.args.bytes.now given c.args.count i.0 c.next.new.self.indices.items c.deref.result.now c.args.self.now _ c.pick_items.result
    h c.in-Dictionary.is refl i.1 (c.in_ok-next-in-Dictionary.ensures.next i.0 i.2) c.in_ok-next-in-Dictionary.ensures.count c.deref.ensures.value c.pick_items.ensures

pub returns-in_ok-next-in-Dictionary-clause-count : goal.returns-in_ok-next-in-Dictionary-clause-count
returns-in_ok-next-in-Dictionary-clause-count c =
    picked_many c.args.dictionary.now c.pick_items.new.out.items c.deref.result.now c.next.new.self.indices.items c.args.count c.pick_items.result c.deref.ensures.value c.in_ok-next-in-Dictionary.ensures.count c.pick_items.ensures
