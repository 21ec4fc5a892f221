use Rattle.std.proofs.Common.{◌≡◌, ◌≤◌, ◌∙◌, length, drop, sym, ap, arith}
use Rattle.std.proofs.lemmas.Bool.{false≢true}
use Rattle.std.proofs.lemmas.List.{length-drop}
use Rattle.dr_bytes.specs.Cutting.{whole, left}
use Rattle.dr_bytes.proofs.CutLemmas.{left_at_place}
use Rattle.dr_plain.proofs.ReadSteps.{not_less}
use Rattle.dr_plain.proofs.BatchSteps.{text_found}
use Rattle.dr_plain.proofs.text_batch.find_text.Goals as goal

pub returns-in-Ok-take-clause-found : goal.returns-in-Ok-take-clause-found
returns-in-Ok-take-clause-found c =
    let long : 4 ≤ length (left c.args.cut.now) = not_less 4 (length (left c.args.cut.now)) (λ h. false≢true (c.in-Ok.ensures.short.1 h)) in
    let enough : c.in-Ok.length ≤ length (left c.le32.new.self) = not_less c.in-Ok.length (length (left c.le32.new.self)) (λ h. false≢true (c.in-Ok-take.ensures.short.1 h)) in
    let place : drop c.place-start.result (whole c.args.cut.now) ≡ left c.le32.new.self = ap (drop c.place-start.result) (sym c.in-Ok.ensures.whole) ∙ left_at_place c.le32.new.self c.place-start.result c.place-start.ensures in
    text_found (whole c.args.cut.now) (left c.args.cut.now) (left c.le32.new.self) (left c.take.new.self) c.in-Ok.length c.place-start.result long c.in-Ok.ensures.number c.in-Ok.ensures.behind place enough c.in-Ok-take.ensures.behind

pub returns-in-Ok-take-clause-ends : goal.returns-in-Ok-take-clause-ends
returns-in-Ok-take-clause-ends c =
    let enough : c.in-Ok.length ≤ length (left c.le32.new.self) = not_less c.in-Ok.length (length (left c.le32.new.self)) (λ h. false≢true (c.in-Ok-take.ensures.short.1 h)) in
    omega (arith, c.place-start.ensures, ap length c.in-Ok.ensures.whole, ap length c.in-Ok-take.ensures.behind, length-drop c.in-Ok.length (left c.le32.new.self), enough)

pub returns-in-Ok-take-clause-shorter : goal.returns-in-Ok-take-clause-shorter
returns-in-Ok-take-clause-shorter c = omega (arith, ap length c.in-Ok-take.ensures.behind, length-drop c.in-Ok.length (left c.le32.new.self), ap length c.in-Ok.ensures.behind, length-drop 4 (left c.args.cut.now))
