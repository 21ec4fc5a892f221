use Rattle.std.proofs.Common.{◌≡◌, ◌∙◌, ◌++◌, ◌∷◌, [], ap, arith, length, take, refl}
use Rattle.dr_formats.specs.Plain.{repeatedly}
use Rattle.dr_bytes.specs.Cutting.{left}
use Rattle.dr_plain.specs.FrontTexts.{text_bytes}
use Rattle.dr_plain.proofs.PieceSteps.{read_more, front_there, front_missing}
use Rattle.dr_plain.proofs.texts.front_texts.Goals as goal

pub returns-then-not-skip_text : goal.returns-then-not-skip_text
returns-then-not-skip_text c =
    front_missing c.args.count c.texts.counter c.args.bytes.now (left c.texts.cut) c.texts.invariant.read.0 c.texts.invariant.read.1 c.texts-test.true c.if-not-skip_text.ensures.skipped

pub texts-preserved : goal.texts-preserved
texts-preserved c =
    let ts = c.texts.invariant.read in
    let t = c.if-not-skip_text.ensures.skipped in
    record {
      same = c.skip_text.ensures.same ∙ c.texts.invariant.same;
      read = (ts.0 ++ t.0 ∷ [], read_more text_bytes c.texts.counter c.args.bytes.now (left c.texts.cut) (left c.skip_text.new.cut) ts.0 t.0 ts.1 t.1);
    }

pub returns : goal.returns
returns c =
    let ts = c.texts.invariant.read in
    let k : c.args.count ≡ c.texts.counter = omega arith in
    front_there c.args.count c.place.result c.args.bytes.now (left c.texts.cut) (take c.place.result c.args.bytes.now) ts.0 (ap (λ n. repeatedly text_bytes n c.args.bytes.now) k ∙ ts.1) (c.place.ensures ∙ ap length c.texts.invariant.same) refl
