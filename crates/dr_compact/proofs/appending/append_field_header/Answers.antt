use Rattle.std.proofs.Common.{◌≡◌, ◌∙◌, ◌++◌, ◌∷◌, [], ap, ap₂, sym, arith, to_z, of_z}
use mir.Syntax.{w16, w64}
use Rattle.std.specs.Prelude.{◌-ℤ◌, None}
use Rattle.std.proofs.lemmas.Int.{to_z-of_z}
use Rattle.dr_formats.specs.Compact.{signed_bytes, type_number, header_bytes}
use Rattle.dr_compact.specs.Types.{type_view}
use Rattle.dr_compact.specs.Writes.{short_delta}
use Rattle.dr_compact.proofs.WriteLemmas.{begun, last_written, long_header, other_bytes}
use Rattle.dr_compact.proofs.appending.append_field_header.Goals as goal

pub returns-in_ok-append-in-None : goal.returns-in_ok-append-in-None
returns-in_ok-append-in-None c =
    let id = c.args.id in
    let last = c.args.last in
    let t = type_view c.args.kind in
    let before = c.args.out.now.items in
    let mid = c.append-in-None.new.out.items in
    let same_id : to_z w16 (of_z w16 id) ≡ id = grind (arith, to_z-of_z, c.ranges.id.sfits) in
    let same_last : to_z w16 (of_z w16 last) ≡ last = grind (arith, to_z-of_z, c.ranges.last.sfits) in
    let none : short_delta (id -ℤ last) ≡ None = sym (ap₂ (λ a b. short_delta (a -ℤ b)) same_id same_last) ∙ (sym c.short_delta.ensures ∙ c.in-None.is) in
    let from : c.from.result ≡ id = c.from.ensures ∙ same_id in
    let number : signed_bytes (to_z w64 (of_z w64 c.from.result)) ≡ signed_bytes id = ap signed_bytes (grind (arith, to_z-of_z, from)) in
    let head : mid ≡ before ++ type_number t ∷ [] = c.in_ok-append-in-None.ensures ∙ ap (λ k. before ++ k ∷ []) c.number-in-None.ensures in
    last_written before (header_bytes last id t) (signed_bytes id) mid c.append_signed.new.out.items c.append_signed.result
    (begun before (header_bytes last id t) (type_number t ∷ []) (signed_bytes id) mid (sym (long_header (id -ℤ last) id t none)) head)
    (other_bytes _ (signed_bytes id) mid c.append_signed.new.out.items c.append_signed.result number c.append_signed.ensures)
