use Rattle.std.proofs.Common.{◌≡◌, true, ap, ◌∙◌, sym, subst, List}
use Rattle.std.specs.List.{list_all}
use Rattle.std.proofs.lemmas.List.{take-map}
use Rattle.dr_meaning.specs.Record.{text_value}
use Rattle.dr_levels.specs.declared.text_place.TextPlace.{TextPlace}
use Rattle.dr_levels.specs.Texts.{bytes_at, is_text}
use Rattle.dr_levels.specs.Dense.{text_values}
use Rattle.dr_levels.proofs.TextLemmas.{all_taken}
use Rattle.dr_levels.proofs.texts.Texts.truncate.Goals as goal

pub invariant_of-self : goal.invariant_of-self
invariant_of-self c =
    let s = c.args.self.now in
    record { texts = subst (λ (ps : List TextPlace). list_all (is_text s.bytes.items) ps ≡ true) (sym c.truncate.ensures.items) (all_taken (is_text s.bytes.items) c.args.count s.places.items s.texts) }

pub returns : goal.returns
returns c =
    let s = c.args.self.now in
    ap (text_values s.bytes.items) c.truncate.ensures.items ∙ sym (take-map (λ (q : TextPlace). text_value (bytes_at s.bytes.items q)) c.args.count s.places.items)
