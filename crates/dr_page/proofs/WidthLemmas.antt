-- The width of levels, digit by digit.
use Rattle.std.proofs.Common.{◌≡◌, ℕ, zero, suc, ◌+◌, ◌/◌, ◌≤◌, ◌<◌, refl, ap, ◌∙◌, arith}
use Rattle.std.proofs.lemmas.Bool.{ne_eqb}
use Rattle.dr_formats.specs.Page.{digits_within, level_width}

-- so many digits are counted, and those of the rest are not
pub record Digits (greatest rest width : ℕ) : Type 0 where
  pub fuel : ℕ
  pub enough : rest ≤ fuel
  pub counted : width + digits_within fuel rest ≡ level_width greatest

pub digits_none : (g : ℕ) → Digits g g 0
digits_none g = record { fuel = g; enough = omega arith; counted = omega arith }

more_by : (g rest width k : ℕ) → 0 < rest → rest ≤ k → width + digits_within k rest ≡ level_width g → Digits g (rest / 2) (width + 1)
more_by g rest width zero h l e = absurd (omega (arith, h, l))
more_by g rest width (suc k) h l e =
    let s : digits_within (suc k) rest ≡ suc (digits_within k (rest / 2)) = rw (ne_eqb rest 0 (λ (z : rest ≡ 0). omega (arith, h, z))) refl in
    record { fuel = k; enough = omega (arith, h, l); counted = omega (arith, e, s) }

pub digits_more : (g rest width : ℕ) → 0 < rest → Digits g rest width → Digits g (rest / 2) (width + 1)
digits_more g rest width h d = more_by g rest width d.fuel h d.enough d.counted

no_digits : (k : ℕ) → digits_within k 0 ≡ 0
no_digits zero = refl
no_digits (suc k) = refl

pub digits_all : (g rest width : ℕ) → rest ≤ 0 → Digits g rest width → width ≡ level_width g
digits_all g rest width h d =
    let z : rest ≡ 0 = omega (arith, h) in
    let e : digits_within d.fuel rest ≡ 0 = ap (digits_within d.fuel) z ∙ no_digits d.fuel in
    omega (arith, d.counted, e)

pub digits_within_width : (g rest width : ℕ) → Digits g rest width → width ≤ level_width g
digits_within_width g rest width d = omega (arith, d.counted)
