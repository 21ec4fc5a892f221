use Rattle.std.proofs.Common.{List, sym, subst}
use Rattle.std.proofs.lemmas.List.Elements.{All-nil}
use Rattle.dr_meaning.specs.Schema.{text_kind}
use Rattle.dr_formats.specs.Plain.{plain_values}
use Rattle.dr_plain.specs.declared.values.TextPlace.{TextPlace}
use Rattle.dr_plain.specs.Views.{Appends, AreTexts, IsText, text_values}
use Rattle.dr_plain.proofs.ReaderSteps.{texts_more, texts_fault, texts_count}
use Rattle.dr_plain.proofs.BatchSteps.{batch_given}
use Rattle.dr_plain.proofs.plain_reader.PlainReader.next_texts.Goals as goal

pub returns-in-Err-clause-next : goal.returns-in-Err-clause-next
returns-in-Err-clause-next c =
    λ given h. rw (c.refuse.ensures.refuses) (texts_fault c.in-Err.fault c.args.count c.args.bytes.now c.rest-rest.result.now c.front_texts-piece.result.now given c.args.self.now h c.rest-rest.ensures c.front_texts-piece.ensures c.in-Err.ensures.fault)

pub returns-in-Ok-clause-next : goal.returns-in-Ok-clause-next
returns-in-Ok-clause-next c =
    let n = c.args.count in
    let piece = c.front_texts-piece.result.now in
    let places = c.append_texts.new.out.items in
    let a = subst (λ (xs : List TextPlace). Appends (plain_values text_kind n piece) (text_values piece xs) (text_values piece places)) c.clear-2.ensures.items c.in-Ok.ensures.read in
    λ given h. texts_more n c.args.bytes.now c.rest-rest.result.now piece given places c.args.self.now c.go_behind-in-Ok.new.self h c.rest-rest.ensures c.front_texts-piece.ensures a c.go_behind-in-Ok.ensures.place c.go_behind-in-Ok.ensures.refused

pub returns-in-Ok-clause-count : goal.returns-in-Ok-clause-count
returns-in-Ok-clause-count c =
    let n = c.args.count in
    let piece = c.front_texts-piece.result.now in
    let places = c.append_texts.new.out.items in
    texts_count n piece places (subst (λ (xs : List TextPlace). Appends (plain_values text_kind n piece) (text_values piece xs) (text_values piece places)) c.clear-2.ensures.items c.in-Ok.ensures.read)

pub returns-in-Ok-clause-texts : goal.returns-in-Ok-clause-texts
returns-in-Ok-clause-texts c =
    let piece = c.front_texts-piece.result.now in
    c.in-Ok.ensures.texts (subst (AreTexts piece) (sym c.clear-2.ensures.items) (All-nil (IsText piece)))

pub returns-in-Some-read_batch-clause-next : goal.returns-in-Some-read_batch-clause-next
returns-in-Some-read_batch-clause-next c =
    λ given h. batch_given c.args.count c.args.bytes.now c.rest-rest.result.now c.in-Some-read_batch.piece.now given c.read_batch.new.out.items c.args.self.now c.go_behind.new.self h c.rest-rest.ensures c.in-Some-read_batch.ensures.read c.in-Some-read_batch.ensures.count c.go_behind.ensures.place c.go_behind.ensures.refused
