use Rattle.std.proofs.Common.{◌≡◌, ◌∙◌, sym, ap, subst, Some}
use Rattle.dr_plain.specs.Views as dense
use Rattle.dr_nested.specs.Views.{kind_view}
use Rattle.dr_formats.specs.Plain.{plain_values}
use Rattle.dr_page.specs.Views.{entries_view}
use Rattle.dr_page.proofs.ValueLemmas.{text_places, text_places_hold}
use Rattle.dr_page.proofs.dictionary.Dictionary.read.Goals as goal
use Rattle.dr_page.proofs.dictionary.Dictionary.read.Goals.{in-Bools, in-Integers, in-Texts+in_ok-read_places-in-Texts}

pub invariant_of-entries : goal.invariant_of-entries
invariant_of-entries c =
    let bytes = c.args.body.items in
    let here : dense.HasTexts bytes c.in_ok-bools.field-0 = subst (λ bs. dense.HasTexts bs c.in_ok-bools.field-0) c.deref.ensures.value c.in_ok-bools.ensures.texts in
    record {
      texts = text_places_hold bytes c.in-Texts.texts.items c.deref-in-Texts.result.now c.read_places.new.out.items c.deref-in-Texts.ensures.value c.in_ok-read_places-in-Texts.ensures (subst (dense.HasTexts bytes) c.in-Texts.is here);
    }

pub returns-clause-read : goal.returns-clause-read
returns-clause-read c =
    let bytes = c.args.body.items in
    let here = subst (λ bs. plain_values (kind_view c.args.kind) c.args.count bs ≡ Some (dense.values_view bs c.in_ok-bools.field-0)) c.deref.ensures.value c.in_ok-bools.ensures.read in
    elim c.match-branch-2.branch [
      | in-Bools w ↦ here ∙ ap Some (ap (dense.values_view bytes) w.in-Bools.is ∙ sym (ap entries_view w.entries-is))
      | in-Integers w ↦ here ∙ ap Some (ap (dense.values_view bytes) w.in-Integers.is ∙ sym (ap entries_view w.entries-is))
      | in-Texts+in_ok-read_places-in-Texts w ↦ here ∙ ap Some (ap (dense.values_view bytes) w.in-Texts.is
          ∙ (text_places bytes w.in-Texts.texts.items w.deref-in-Texts.result.now w.read_places.new.out.items w.deref-in-Texts.ensures.value w.in_ok-read_places-in-Texts.ensures ∙ sym (ap entries_view w.entries-is)))
    ]
