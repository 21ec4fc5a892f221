use Rattle.std.proofs.Common.{◌≡◌, ◌≤◌, ◌∙◌, length, drop, refl, sym, ap}
use Rattle.std.proofs.lemmas.Bool.{false≢true}
use Rattle.dr_bytes.specs.Cutting.{whole, left}
use Rattle.dr_bytes.proofs.CutLemmas.{left_at_place}
use Rattle.dr_plain.proofs.ReadSteps.{text_here, bad_text_here, not_less, same_part, no_part}
use Rattle.dr_plain.proofs.texts.next_text.Goals as goal

pub returns-then-is_text-clause-read : goal.returns-then-is_text-clause-read
returns-then-is_text-clause-read c =
    let long : 4 ≤ length (left c.args.cut.now) = not_less 4 (length (left c.args.cut.now)) (λ h. false≢true (c.in-Ok.ensures.short.1 h)) in
    let enough : c.in-Ok.length ≤ length (left c.le32.new.self) = not_less c.in-Ok.length (length (left c.le32.new.self)) (λ h. false≢true (c.in-Ok-take.ensures.short.1 h)) in
    let bytes : whole c.le32.new.self ≡ c.args.bytes.now = c.in-Ok.ensures.whole ∙ c.requires.same in
    let place : drop c.place-start.result c.args.bytes.now ≡ left c.le32.new.self = ap (drop c.place-start.result) (sym bytes) ∙ left_at_place c.le32.new.self c.place-start.result c.place-start.ensures in
    text_here c.args.bytes.now (left c.args.cut.now) (left c.le32.new.self) (left c.take.new.self) c.in-Ok.length c.place-start.result long c.in-Ok.ensures.number c.in-Ok.ensures.behind place enough c.in-Ok-take.ensures.behind (same_part c.args.bytes.now c.place-start.result c.in-Ok.length (c.if-is_text.ensures.0 refl))

pub returns-else-is_text-clause-fault : goal.returns-else-is_text-clause-fault
returns-else-is_text-clause-fault c =
    let long : 4 ≤ length (left c.args.cut.now) = not_less 4 (length (left c.args.cut.now)) (λ h. false≢true (c.in-Ok.ensures.short.1 h)) in
    let enough : c.in-Ok.length ≤ length (left c.le32.new.self) = not_less c.in-Ok.length (length (left c.le32.new.self)) (λ h. false≢true (c.in-Ok-take.ensures.short.1 h)) in
    let bytes : whole c.le32.new.self ≡ c.args.bytes.now = c.in-Ok.ensures.whole ∙ c.requires.same in
    let place : drop c.place-start.result c.args.bytes.now ≡ left c.le32.new.self = ap (drop c.place-start.result) (sym bytes) ∙ left_at_place c.le32.new.self c.place-start.result c.place-start.ensures in
    bad_text_here c.args.bytes.now (left c.args.cut.now) (left c.le32.new.self) c.in-Ok.length c.place-start.result long c.in-Ok.ensures.number c.in-Ok.ensures.behind place enough (no_part c.args.bytes.now c.place-start.result c.in-Ok.length (λ u. false≢true (c.if-is_text.ensures.1 u)))
