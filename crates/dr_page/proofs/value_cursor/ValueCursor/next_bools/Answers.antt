use Rattle.std.proofs.Common.{◌∙◌, ◌++◌, map, refl, sym, ap, ap₂}
use Rattle.std.specs.Prelude.{◌==◌}
use Rattle.std.proofs.lemmas.List.{map-append}
use Rattle.std.proofs.lemmas.Result.{err_from_is_err_and}
use Rattle.dr_meaning.specs.Schema.{bool_kind}
use Rattle.dr_meaning.specs.Record.{bool_value}
use Rattle.dr_formats.specs.Plain.{truth_of_bit}
use Rattle.dr_page.specs.LevelPieces.{piece_of}
use Rattle.dr_page.proofs.ValueLemmas.{truths_seen}
use Rattle.dr_page.proofs.ValueSteps.{indices_refused, picked_taken, picked_many, bits_step}
use Rattle.dr_page.proofs.value_cursor.ValueCursor.next_bools.Goals as goal

pub returns-in_err-next-in-Dictionary-clause-next : goal.returns-in_err-next-in-Dictionary-clause-next
returns-in_err-next-in-Dictionary-clause-next c =
    let p = err_from_is_err_and c.from_residual-in_err-next-in-Dictionary.result c.from_residual-in_err-next-in-Dictionary.ensures.1 in
    λ z given h.
    let i = h.indices c.in-Dictionary.is in
    rw (p.1, p.2) (indices_refused c.in_err-next-in-Dictionary.field-0.0 z bool_kind (map bool_value c.args.dictionary.now) c.args.bytes.now given c.args.count i.0 c.args.self.now h c.in-Dictionary.is i.1 (c.in_err-next-in-Dictionary.ensures.next i.0 i.2))

pub returns-in_ok-next-in-Dictionary-clause-next : goal.returns-in_ok-next-in-Dictionary-clause-next
returns-in_ok-next-in-Dictionary-clause-next c =
    λ z given h.
    let i = h.indices c.in-Dictionary.is in
    picked_taken bool_value z bool_kind c.args.dictionary.now c.pick_items.new.out.items c.args.bytes.now given c.args.count i.0 c.next.new.self.indices.items c.deref.result.now c.args.self.now _ c.pick_items.result
    h c.in-Dictionary.is refl i.1 (c.in_ok-next-in-Dictionary.ensures.next i.0 i.2) c.in_ok-next-in-Dictionary.ensures.count c.deref.ensures.value c.pick_items.ensures

pub returns-in_ok-next-in-Dictionary-clause-count : goal.returns-in_ok-next-in-Dictionary-clause-count
returns-in_ok-next-in-Dictionary-clause-count c =
    picked_many c.args.dictionary.now c.pick_items.new.out.items c.deref.result.now c.next.new.self.indices.items c.args.count c.pick_items.result c.deref.ensures.value c.in_ok-next-in-Dictionary.ensures.count c.pick_items.ensures

pub returns-in_ok-put_bits-in-Hybrid-clause-next : goal.returns-in_ok-put_bits-in-Hybrid-clause-next
returns-in_ok-put_bits-in-Hybrid-clause-next c =
    let ms = piece_of c.next_bits.new.bits in
    λ z given h.
    let b = h.bits c.in-Hybrid.is in
    bits_step z (map bool_value c.args.dictionary.now) c.args.bytes.now given (map bool_value c.put_bits.new.out.items) (b.0 ++ ms) c.args.self.now _ h c.in-Hybrid.is refl (c.in_ok-next_bits-in-Hybrid.ensures.next b.0 b.2)
    (ap₂ (λ xs ys. xs ++ ys) b.1 (ap (map bool_value) (c.in_ok-put_bits-in-Hybrid.ensures ∙ ap (map (λ x. x == 1)) c.deref-in-Hybrid.ensures.value) ∙ truths_seen ms) ∙ sym (map-append truth_of_bit b.0 ms))
