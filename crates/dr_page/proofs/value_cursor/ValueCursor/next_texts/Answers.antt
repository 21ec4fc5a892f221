use Rattle.std.proofs.Common.{◌≡◌, ◌∙◌, ◌++◌, List, length, refl, sym, ap, ap₂, subst, Some}
use Rattle.std.specs.List.{list_all}
use Rattle.std.proofs.lemmas.Result.{err_from_is_err_and}
use Rattle.dr_meaning.specs.Schema.{text_kind}
use Rattle.dr_meaning.specs.Record.{Value, text_value}
use Rattle.dr_levels.specs.declared.text_place.TextPlace.{TextPlace}
use Rattle.dr_levels.specs.Texts.{bytes_at, is_text}
use Rattle.dr_levels.specs.Dense.{text_values}
use Rattle.dr_plain.specs.Pieces.{HasGiven}
use Rattle.dr_plain.specs.Picking.{picked}
use Rattle.dr_page.specs.Reads.{WhereNone}
use Rattle.dr_page.proofs.ValueLemmas.{text_places, text_places_hold, picked_by}
use Rattle.dr_page.proofs.CursorLemmas.{picked_behind, picked_count}
use Rattle.dr_page.proofs.ValueSteps.{plain_step, dictionary_step, indices_refused, picked_refused}
use Rattle.dr_page.proofs.value_cursor.ValueCursor.next_texts.Goals as goal

pub returns-in_err-next-in-Dictionary-clause-next : goal.returns-in_err-next-in-Dictionary-clause-next
returns-in_err-next-in-Dictionary-clause-next c =
    let d = c.args.dictionary.now in
    let p = err_from_is_err_and c.from_residual-in_err-next-in-Dictionary.result c.from_residual-in_err-next-in-Dictionary.ensures.1 in
    λ z given h.
    let i = h.indices c.in-Dictionary.is in
    rw (p.1, p.2) (indices_refused c.in_err-next-in-Dictionary.field-0.0 z text_kind (text_values d.bytes.items d.places.items) c.args.bytes.now given c.args.count i.0 c.args.self.now h c.in-Dictionary.is i.1 (c.in_err-next-in-Dictionary.ensures.next i.0 i.2))

pub returns-in_err-pick_items-in-Dictionary-clause-next : goal.returns-in_err-pick_items-in-Dictionary-clause-next
returns-in_err-pick_items-in-Dictionary-clause-next c =
    let d = c.args.dictionary.now in
    let js = c.next.new.self.indices.items in
    let e = c.in_err-pick_items-in-Dictionary.field-0.0 in
    let p = err_from_is_err_and c.from_residual-in_err-pick_items-in-Dictionary.result c.from_residual-in_err-pick_items-in-Dictionary.ensures.1 in
    let w = subst (λ q. WhereNone e q) (ap₂ (λ (xs : List TextPlace) ys. picked xs ys) c.deref-in-Dictionary.ensures.value c.deref-in-Dictionary-2.ensures.value) c.in_err-pick_items-in-Dictionary.ensures in
    λ z given h.
    let i = h.indices c.in-Dictionary.is in
    rw (p.1, p.2) (picked_refused (λ (q : TextPlace). text_value (bytes_at d.bytes.items q)) e z text_kind d.places.items c.args.bytes.now given c.args.count i.0 js c.args.self.now c.next.new.self h c.in-Dictionary.is i.1
    (c.in_ok-next-in-Dictionary.ensures.next i.0 i.2) c.in_ok-next-in-Dictionary.ensures.count w)

pub returns-in_ok-read_places-in-Plain-clause-next : goal.returns-in_ok-read_places-in-Plain-clause-next
returns-in_ok-read_places-in-Plain-clause-next c =
    let d = c.args.dictionary.now in
    let piece = c.in_ok-texts-in-Plain.texts.now in
    let out = c.read_places.new.out.items in
    let e = text_places piece c.next_texts.new.out.items c.deref.result.now out c.deref.ensures.value c.in_ok-read_places-in-Plain.ensures in
    λ z given h.
    let g = c.in_ok-texts-in-Plain.ensures.next given (h.plain c.in-Plain.is) in
    plain_step z text_kind (text_values d.bytes.items d.places.items) c.args.bytes.now given (text_values piece out) c.args.self.now _ h c.in-Plain.is refl
    (subst (λ (vs : List Value). HasGiven text_kind c.args.bytes.now (given ++ vs) c.next_texts.new.self) e g.1)

pub returns-in_ok-read_places-in-Plain-clause-texts : goal.returns-in_ok-read_places-in-Plain-clause-texts
returns-in_ok-read_places-in-Plain-clause-texts c =
    text_places_hold c.in_ok-texts-in-Plain.texts.now c.next_texts.new.out.items c.deref.result.now c.read_places.new.out.items c.deref.ensures.value c.in_ok-read_places-in-Plain.ensures c.in_ok-texts-in-Plain.ensures.texts

pub returns-in_ok-pick_items-in-Dictionary-clause-next : goal.returns-in_ok-pick_items-in-Dictionary-clause-next
returns-in_ok-pick_items-in-Dictionary-clause-next c =
    let d = c.args.dictionary.now in
    let js = c.next.new.self.indices.items in
    let out = c.pick_items.new.out.items in
    let w : picked d.places.items js ≡ Some out = ap₂ (λ (xs : List TextPlace) ys. picked xs ys) (sym c.deref-in-Dictionary.ensures.value) (sym c.deref-in-Dictionary-2.ensures.value) ∙ c.in_ok-pick_items-in-Dictionary.ensures in
    λ z given h.
    let i = h.indices c.in-Dictionary.is in
    rw c.deref-in-Dictionary-3.ensures.value (dictionary_step z text_kind (text_values d.bytes.items d.places.items) c.args.bytes.now given (text_values d.bytes.items out) (i.0 ++ js) c.args.self.now _ h c.in-Dictionary.is refl
    (c.in_ok-next-in-Dictionary.ensures.next i.0 i.2) (picked_behind (λ (q : TextPlace). text_value (bytes_at d.bytes.items q)) d.places.items out i.0 js given i.1 w))

pub returns-in_ok-pick_items-in-Dictionary-clause-count : goal.returns-in_ok-pick_items-in-Dictionary-clause-count
returns-in_ok-pick_items-in-Dictionary-clause-count c =
    picked_count c.deref-in-Dictionary.result.now c.pick_items.new.out.items c.deref-in-Dictionary-2.result.now c.in_ok-pick_items-in-Dictionary.ensures ∙ (ap length c.deref-in-Dictionary-2.ensures.value ∙ c.in_ok-next-in-Dictionary.ensures.count)

pub returns-in_ok-pick_items-in-Dictionary-clause-texts : goal.returns-in_ok-pick_items-in-Dictionary-clause-texts
returns-in_ok-pick_items-in-Dictionary-clause-texts c =
    let d = c.args.dictionary.now in
    let js = c.next.new.self.indices.items in
    let out = c.pick_items.new.out.items in
    let w : picked d.places.items js ≡ Some out = ap₂ (λ (xs : List TextPlace) ys. picked xs ys) (sym c.deref-in-Dictionary.ensures.value) (sym c.deref-in-Dictionary-2.ensures.value) ∙ c.in_ok-pick_items-in-Dictionary.ensures in
    ap (λ bs. list_all (is_text bs) out) c.deref-in-Dictionary-3.ensures.value ∙ picked_by (is_text d.bytes.items) d.places.items out (Some js) d.texts w
