use Rattle.std.proofs.Common.{◌≡◌, ◌<◌, ◌+◌, ◌-◌, ◌^◌, ◌++◌, ap, subst, sym, take, drop, length, get_or, arith, ℕ, List}
use Rattle.dr_meaning.specs.Schema.{text_kind}
use Rattle.dr_meaning.specs.Record.{Value, text_value}
use Rattle.dr_formats.specs.Plain.{plain_text_bytes}
use Rattle.dr_plain.specs.declared.values.TextPlace.{TextPlace}
use Rattle.dr_plain.specs.Views.{text_at}
use Rattle.dr_plain.proofs.WriteSteps.{joined_more, writable_at, text_fits, on_ok}
use Rattle.dr_plain.proofs.writing.write_texts.Goals as goal

-- a text as it is sliced
sliced : (bytes : List ℕ) (p : TextPlace) → take (p.start + p.length - p.start) (drop p.start bytes) ≡ text_at bytes p
sliced bytes p = let e : p.start + p.length - p.start ≡ p.length = omega arith in ap (λ n. take n (drop p.start bytes)) e

pub write_text-requires : goal.write_text-requires
write_text-requires c =
    let d : TextPlace = record { start = 0; length = 0 } in
    let p : TextPlace = get_or c.args.texts.now c.texts.text-index d in
    let see : TextPlace → Value = λ q. text_value (text_at c.args.bytes.now q) in
    let short : length (text_at c.args.bytes.now p) < 2 ^ 32 = text_fits (text_at c.args.bytes.now p) (writable_at text_kind see c.args.texts.now c.texts.text-index d c.requires.short c.texts-test.true) in
    subst (λ xs. length xs < 2 ^ 32) (sym (sliced c.args.bytes.now p)) short

pub texts-preserved : goal.texts-preserved
texts-preserved c =
    let d : TextPlace = record { start = 0; length = 0 } in
    let p : TextPlace = get_or c.args.texts.now c.texts.text-index d in
    let see : TextPlace → Value = λ q. text_value (text_at c.args.bytes.now q) in
    let piece : List ℕ = take (p.start + p.length - p.start) (drop p.start c.args.bytes.now) in
    joined_more plain_text_bytes see c.args.texts.now c.args.out.now.items c.texts.out.items c.write_text.new.out.items (plain_text_bytes (text_value piece)) c.texts.text-index d c.texts-test.true (ap (λ xs. plain_text_bytes (text_value xs)) (sliced c.args.bytes.now p)) (on_ok c.write_text.result (c.write_text.new.out.items ≡ c.texts.out.items ++ plain_text_bytes (text_value piece)) c.if-is_err.ensures.value c.write_text.ensures.written) c.texts.invariant
