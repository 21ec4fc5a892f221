use Rattle.std.proofs.Common.{◌≡◌, ◌+◌, ◌-◌, ◌*◌, ◌/◌, ◌%◌, ◌≤◌, ◌<◌, ◌++◌, ◌∙◌, ℕ, List, length, take, drop, sym, ap, ap₂, subst, arith}
use Rattle.std.specs.Prelude.{option_map}
use Rattle.std.proofs.lemmas.List.{length-drop, drop-drop}
use Rattle.dr_formats.specs.LittleEndian.{little_endian, unpacked, bytes_for}
use Rattle.dr_bytes.proofs.BitLemmas.{AreBytes}
use Rattle.dr_hybrid.specs.Unread.{unread_ahead, HasMore}
use Rattle.dr_hybrid.specs.Ahead.{groups_ahead}
use Rattle.dr_hybrid.specs.Reader.{ahead, bytes_left}
use Rattle.dr_hybrid.proofs.UnpackLemmas.{bytes_split, drop_bytes}
use Rattle.dr_hybrid.proofs.ReaderLemmas.{groups_read, groups_short, in_front}
use Rattle.dr_hybrid.proofs.run_reader.RunReader.take_packed.Goals as goal

pub returns-in_default-clause-short : goal.returns-in_default-clause-short
unfolding ahead
returns-in_default-clause-short g c = λ n.
    let m = subst (λ u. HasMore u (length c.args.out.now)) c.requires.unread c.requires.left in
    let none = c.in_default.ensures.none in
    let size = length-drop c.args.self.now.place c.args.bytes.now in
    let l : length (bytes_left c.args.self.now c.args.bytes.now) < bytes_for ((c.args.read + length c.args.out.now) * c.args.self.now.width) = omega (arith, none, size) in
    ap (λ u. unread_ahead u c.args.self.now.width (length c.args.out.now + n) (bytes_left c.args.self.now c.args.bytes.now)) c.requires.unread
    ∙ groups_short c.args.self.now.width c.args.groups c.args.read (length c.args.out.now) n (bytes_left c.args.self.now c.args.bytes.now) c.requires.some m.0 l

pub returns-then-length-rest-clause-short : goal.returns-then-length-rest-clause-short
unfolding ahead
returns-then-length-rest-clause-short g c = λ n.
    let m = subst (λ u. HasMore u (length c.args.out.now)) c.requires.unread c.requires.left in
    let l : length (bytes_left c.args.self.now c.args.bytes.now) < bytes_for ((c.args.read + length c.args.out.now) * c.args.self.now.width) = omega (arith, ap length c.rest-rest.ensures, c.in-Some.ensures.length) in
    ap (λ u. unread_ahead u c.args.self.now.width (length c.args.out.now + n) (bytes_left c.args.self.now c.args.bytes.now)) c.requires.unread
    ∙ groups_short c.args.self.now.width c.args.groups c.args.read (length c.args.out.now) n (bytes_left c.args.self.now c.args.bytes.now) c.requires.some m.0 l

pub overflow_mul-self : goal.overflow_mul-self
overflow_mul-self g c = omega (arith, bytes_split (c.args.read + length c.args.out.now) c.args.self.now.width, ap length c.rest-rest.ensures, c.in-Some.ensures.length, length-drop c.args.self.now.place c.args.bytes.now)

pub overflow_add-self : goal.overflow_add-self
overflow_add-self g c = omega (arith, bytes_split (c.args.read + length c.args.out.now) c.args.self.now.width, ap length c.rest-rest.ensures, c.in-Some.ensures.length, length-drop c.args.self.now.place c.args.bytes.now)

pub returns-clause-rest : goal.returns-clause-rest
unfolding ahead
returns-clause-rest g c = λ n.
    let k : ℕ = length c.args.out.now in
    let end : ℕ = c.args.read + length c.args.out.now in
    let width : ℕ = c.args.self.now.width in
    let bs : List ℕ = bytes_left c.args.self.now c.args.bytes.now in
    let bytes : AreBytes bs = drop_bytes c.args.self.now.place c.args.bytes.now (λ i. omega (arith, c.type_inv.bytes i)) in
    let m = subst (λ u. HasMore u (length c.args.out.now)) c.requires.unread c.requires.left in
    let l : bytes_for (end * width) ≤ length bs = omega (arith, ap length c.rest-rest.ensures, c.in-Some.ensures.length) in
    let bits : end * width ≤ 8 * c.in-Some.length = omega (arith, c.in-Some.ensures.length) in
    let part : g.T.Packable.numbers c.unpack.new.out ≡ drop c.args.read (unpacked end width (little_endian bs)) =
    c.unpack.ensures ∙ ap (drop c.args.read) (ap (λ xs. unpacked end width (little_endian (take c.in-Some.length xs))) c.rest-rest.ensures ∙ in_front bs end width c.in-Some.length bits) in
    ap (λ u. unread_ahead u width (k + n) bs) c.requires.unread
    ∙ (groups_read width c.args.groups c.args.read k n bs bytes c.requires.some m.0 l
    ∙ ap₂ (λ vs xs. option_map (λ more. vs ++ more) (groups_ahead width (c.args.groups - end / 8) (end % 8) n xs)) (sym part) (drop-drop (end / 8 * width) c.args.self.now.place c.args.bytes.now))
