use Rattle.std.proofs.Common.{◌≡◌, ◌+◌, ◌-◌, ap, take, drop, get_or, arith, ℕ, List}
use Rattle.dr_meaning.specs.Record.{Value, text_value}
use Rattle.dr_formats.specs.Plain.{plain_text_bytes}
use Rattle.dr_levels.specs.declared.text_place.TextPlace.{TextPlace}
use Rattle.dr_levels.specs.Texts.{bytes_at}
use Rattle.dr_plain.proofs.WriteSteps.{joined_more}
use Rattle.dr_page.proofs.value_writer.append_texts.Goals as goal

-- a text as it is sliced
sliced : (bytes : List ℕ) (p : TextPlace) → take (p.start + p.length - p.start) (drop p.start bytes) ≡ bytes_at bytes p
sliced bytes p = let e : p.start + p.length - p.start ≡ p.length = omega arith in ap (λ n. take n (drop p.start bytes)) e

pub places-preserved : goal.places-preserved
places-preserved c =
    let d : TextPlace = record { start = 0; length = 0 } in
    let p : TextPlace = get_or c.args.places.now c.places.place-index d in
    let see : TextPlace → Value = λ q. text_value (bytes_at c.args.bytes.now q) in
    let piece : List ℕ = take (p.start + p.length - p.start) (drop p.start c.args.bytes.now) in
    joined_more plain_text_bytes see c.args.places.now c.args.out.now.items c.places.out.items c.write_text.new.out.items (plain_text_bytes (text_value piece)) c.places.place-index d c.places-test.true
    (ap (λ xs. plain_text_bytes (text_value xs)) (sliced c.args.bytes.now p)) c.in_ok-write_text.ensures.written c.places.invariant
