use Rattle.std.proofs.Common.{◌≡◌, ◌∙◌, ◌+◌, ◌*◌, ◌/◌, ◌-◌, ◌^◌, ap, sym, arith, length, true}
use Rattle.std.specs.Prelude.{min}
use Rattle.std.specs.List.{sum_by}
use Rattle.dr_meaning.specs.Schema.{Kind, text_kind}
use Rattle.dr_formats.specs.Plain.{plain_bytes}
use Rattle.dr_formats.specs.Page.{column_values}
use Rattle.dr_levels.specs.declared.text_place.TextPlace.{TextPlace}
use Rattle.dr_levels.specs.declared.values_ref.ValuesRef.{ValuesRef}
use Rattle.dr_levels.specs.Lent.{lends_kind}
use Rattle.dr_levels.specs.Views.{triplets_view, triplets_form}
use Rattle.dr_page.proofs.WriteLemmas.{bools_size, int32s_size, int64s_size, texts_size, same_values}
use Rattle.dr_page.proofs.value_size.plain_size.Goals as goal

pub returns-in-Bool-Bools : goal.returns-in-Bool-Bools
returns-in-Bool-Bools c =
    let us = column_values (triplets_view c.args.triplets) in
    let e : length (plain_bytes (triplets_form c.args.triplets).kind us) ≡ (length c.in-Bool-Bools.truths.now + 7) / 8 = ap (λ (k : Kind). length (plain_bytes k us)) (sym c.in-Bool-Bools.ensures) ∙ bools_size c.in-Bool-Bools.truths.now us (c.in-Bool-Bools.ensures'.values ∙ same_values (triplets_view c.args.triplets)) in
    omega (arith, e)

pub returns-in-I32-Integers : goal.returns-in-I32-Integers
returns-in-I32-Integers c =
    let us = column_values (triplets_view c.args.triplets) in
    let e : length (plain_bytes (triplets_form c.args.triplets).kind us) ≡ 4 * length c.in-I32-Integers.numbers.now = ap (λ (k : Kind). length (plain_bytes k us)) (sym c.in-I32-Integers.ensures) ∙ int32s_size c.in-I32-Integers.numbers.now us (c.in-I32-Integers.ensures'.values ∙ same_values (triplets_view c.args.triplets)) in
    omega (arith, e)

pub returns-in-I64-Integers : goal.returns-in-I64-Integers
returns-in-I64-Integers c =
    let us = column_values (triplets_view c.args.triplets) in
    let e : length (plain_bytes (triplets_form c.args.triplets).kind us) ≡ 8 * length c.in-I64-Integers.numbers.now = ap (λ (k : Kind). length (plain_bytes k us)) (sym c.in-I64-Integers.ensures) ∙ int64s_size c.in-I64-Integers.numbers.now us (c.in-I64-Integers.ensures'.values ∙ same_values (triplets_view c.args.triplets)) in
    omega (arith, e)

pub returns-in-Text-Texts : goal.returns-in-Text-Texts
returns-in-Text-Texts c =
    let us = column_values (triplets_view c.args.triplets) in
    let w = c.in-Text-Texts in
    let k : lends_kind text_kind (ValuesRef.Texts w.bytes-1 w.places) ≡ true = ap (λ (k : Kind). lends_kind k (ValuesRef.Texts w.bytes-1 w.places)) w.ensures ∙ w.ensures'.kind in
    let e : length (plain_bytes (triplets_form c.args.triplets).kind us) ≡ sum_by (λ (p : TextPlace). 4 + p.length) w.places.now = ap (λ (k : Kind). length (plain_bytes k us)) (sym w.ensures) ∙ texts_size w.bytes-1.now w.places.now us k (w.ensures'.values ∙ same_values (triplets_view c.args.triplets)) in
    c.texts_size.ensures ∙ ap (λ n. min n (2 ^ 64 - 1)) (sym e)
