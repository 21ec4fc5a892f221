use Rattle.std.proofs.Common.{◌≡◌, ◌≤◌, ◌+◌, ◌∙◌, ℕ, List, map, length, take, drop, sym, ap, ap₂, subst, arith}
use Rattle.std.specs.List.{All}
use Rattle.std.proofs.lemmas.List.{take_all}
use Rattle.std.proofs.lemmas.List.Elements.{All-weaker}
use Rattle.dr_formats.specs.Reading.{got}
use Rattle.dr_formats.specs.Plain.{repeatedly}
use Rattle.dr_bytes.specs.Cutting.{whole, left}
use Rattle.dr_bytes.proofs.CutLemmas.{left_at_place}
use Rattle.dr_plain.specs.FrontTexts.{text_bytes}
use Rattle.dr_plain.specs.Views.{text_at}
use Rattle.dr_plain.specs.declared.values.TextPlace.{TextPlace}
use Rattle.dr_plain.proofs.BatchSteps.{Found, none_found, one_found}
use Rattle.dr_plain.proofs.text_batch.put_places.Goals as goal

pub texts-init : goal.texts-init
texts-init c = record {
  same = c.new-cut.ensures.whole;
  found = subst (Found c.args.bytes.now c.args.out.now 0) (sym c.new-cut.ensures.left) (none_found c.args.bytes.now c.args.out.now);
}

pub texts-preserved : goal.texts-preserved
texts-preserved c =
    let bytes : List ℕ = c.args.bytes.now in
    let p : TextPlace = c.in-Some.place in
    let same : whole c.texts.cut ≡ bytes = c.texts.invariant.same in
    record {
      same = c.find_text.ensures.same ∙ same;
      found = one_found bytes c.texts.out c.texts.index (left c.texts.cut) (left c.find_text.new.cut) p (omega (arith, c.texts.auto.out)) c.texts.invariant.found
          (c.in-Some.ensures.found ∙ ap (λ xs. got (text_at xs p) (left c.find_text.new.cut)) same) (c.in-Some.ensures.ends ∙ ap length same) c.find_text.ensures.shorter;
    }

pub returns : goal.returns
returns c =
    let bytes : List ℕ = c.args.bytes.now in
    let e : c.texts.index ≡ length c.args.out.now = omega arith in
    let all : take c.texts.index c.texts.out ≡ c.texts.out = take_all c.texts.index c.texts.out (omega (arith, c.texts.auto.out)) in
    let behind : drop c.place.result bytes ≡ left c.texts.cut = ap (drop c.place.result) (sym c.texts.invariant.same) ∙ left_at_place c.texts.cut c.place.result c.place.ensures in
    let size : c.place.result + length (left c.texts.cut) ≡ length bytes = c.place.ensures ∙ ap length c.texts.invariant.same in
    record {
      found = ap (λ n. repeatedly text_bytes n bytes) (sym e) ∙ (c.texts.invariant.found.read ∙ ap₂ (λ ps rest. got (map (text_at bytes) ps) rest) all (sym behind));
      places = subst (All (λ (p : TextPlace). p.start + p.length ≤ c.place.result)) all
          (All-weaker (λ p. p.start + p.length + length (left c.texts.cut) ≤ length bytes) (λ p. p.start + p.length ≤ c.place.result) (λ p h. omega (arith, h, size)) (take c.texts.index c.texts.out) c.texts.invariant.found.within);
      within = omega (arith, size);
    }
