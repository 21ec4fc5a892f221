-- Where a cut stands.
use Rattle.std.proofs.Common.{◌≡◌, ℕ, ◌+◌, length, drop, ap, arith}
use Rattle.std.proofs.lemmas.List.{length-drop}
use Rattle.dr_bytes.specs.declared.cut.Cut.{Cut}
use Rattle.dr_bytes.specs.Cutting.{whole, left}

-- its bytes from its place on are those that are left
pub left_at_place : (c : Cut) (place : ℕ) → place + length (left c) ≡ length (whole c) → drop place (whole c) ≡ left c
left_at_place c place e =
    let w = c.within in
    let f : place ≡ c.place = omega (arith, e, w, length-drop c.place c.bytes.now) in
    ap (λ n. drop n c.bytes.now) f
