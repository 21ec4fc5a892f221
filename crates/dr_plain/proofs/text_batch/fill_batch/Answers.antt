use Rattle.std.proofs.Common.{◌≡◌, List, ℕ, length, take, refl, sym, subst}
use Rattle.dr_plain.specs.Views.{AreTexts}
use Rattle.std.proofs.lemmas.List.{length-take-le}
use Rattle.dr_plain.specs.declared.values.TextPlace.{TextPlace}
use Rattle.dr_plain.specs.FrontTexts.{AreWithin}
use Rattle.dr_plain.proofs.BatchSteps.{ascii_texts, batch_read}
use Rattle.dr_plain.proofs.text_batch.fill_batch.Goals as goal

pub returns-then-are_ascii-clause-read : goal.returns-then-are_ascii-clause-read
returns-then-are_ascii-clause-read c =
    let piece : List ℕ = take c.in-Some.end c.args.bytes.now in
    let size : length piece ≡ c.in-Some.end = length-take-le c.in-Some.end c.args.bytes.now c.in-Some.ensures.within in
    let ps : List TextPlace = c.put_places.new.out in
    batch_read (length c.args.out.now) c.in-Some.end c.args.bytes.now piece ps c.in-Some.ensures.found c.in-Some.ensures.within c.in-Some.ensures.places refl
    (ascii_texts piece ps (c.are_ascii.ensures c.if-are_ascii.true) (subst (λ (n : ℕ). AreWithin n ps) (sym size) c.in-Some.ensures.places))

pub returns-then-are_ascii-clause-texts : goal.returns-then-are_ascii-clause-texts
returns-then-are_ascii-clause-texts c =
    let piece : List ℕ = take c.in-Some.end c.args.bytes.now in
    let size : length piece ≡ c.in-Some.end = length-take-le c.in-Some.end c.args.bytes.now c.in-Some.ensures.within in
    let ps : List TextPlace = c.put_places.new.out in
    ascii_texts piece ps (c.are_ascii.ensures c.if-are_ascii.true) (subst (λ (n : ℕ). AreWithin n ps) (sym size) c.in-Some.ensures.places)

pub returns-in-Ok-clause-read : goal.returns-in-Ok-clause-read
returns-in-Ok-clause-read c =
    let piece : List ℕ = take c.in-Some.end c.args.bytes.now in
    let same : c.in-Ok.all.now ≡ piece = c.in-Ok.ensures.cases.0 in
    batch_read (length c.args.out.now) c.in-Some.end c.args.bytes.now piece c.put_places.new.out c.in-Some.ensures.found c.in-Some.ensures.within c.in-Some.ensures.places refl
    (subst (λ (xs : List ℕ). AreTexts xs c.put_places.new.out) same (c.are_texts.ensures c.if-are_texts.true))

pub returns-in-Ok-clause-texts : goal.returns-in-Ok-clause-texts
returns-in-Ok-clause-texts c =
    let same : c.in-Ok.all.now ≡ take c.in-Some.end c.args.bytes.now = c.in-Ok.ensures.cases.0 in
    subst (λ (xs : List ℕ). AreTexts xs c.put_places.new.out) same (c.are_texts.ensures c.if-are_texts.true)
