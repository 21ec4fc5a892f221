use Rattle.std.proofs.Common.{◌≡◌, ◌/◌, ◌+ℤ◌, pos, subst, true, arith, to_z, of_z}
use mir.Syntax.{w16}
use Rattle.dr_formats.specs.Compact.{in_int16}
use Rattle.std.proofs.lemmas.Int.{to_z-of_z}
use Rattle.dr_bytes.specs.Cutting.{left}
use Rattle.dr_compact.specs.Types.{type_view}
use Rattle.dr_compact.proofs.StepLemmas.{short_start}
use Rattle.dr_compact.proofs.headers.field_header.Goals as goal

pub returns-in_ok-id-2 : goal.returns-in_ok-id-2
returns-in_ok-id-2 c =
    let last = c.args.last in
    let e : to_z w16 (of_z w16 last) ≡ last = grind (arith, to_z-of_z, c.ranges.last.sfits) in
    let id = subst (λ z. c.in_ok-id-2.id ≡ z +ℤ pos (c.in_ok-byte.byte / 16)) e c.in_ok-id-2.ensures.found.0 in
    let fits = subst (λ z. in_int16 (z +ℤ pos (c.in_ok-byte.byte / 16)) ≡ true) e c.in_ok-id-2.ensures.found.1 in
    let h = short_start c.args.last c.in_ok-id-2.id c.in_ok-byte.byte (type_view c.in_ok-kind.kind) (left c.args.cut.now) (left c.next_byte.new.cut) c.if-delta-eq0.false c.in_ok-kind.ensures.found id fits c.in_ok-byte.ensures.byte in
    grind (arith, to_z-of_z)
