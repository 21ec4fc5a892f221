-- Levels of parts.
use Rattle.std.proofs.Common.{◌≡◌, ℕ, zero, suc, List, Bool, refl, sym, ap, ◌∙◌, Some, None}
use Rattle.std.specs.Prelude.{nat_le, if◌then◌else◌, option_and_then}
use Rattle.std.specs.List.{list_all}
use Rattle.dr_formats.specs.Hybrid.{hybrid}
use Rattle.dr_formats.specs.Page.{level_width, none_above, levels}
use Rattle.dr_page.specs.declared.fault.PageFault.{PageFault}
use Rattle.dr_page.specs.Reads.{WhereNone}

-- the levels of a part, where hybrid data has these
pub levels_by : (g n w : ℕ) (part ls : List ℕ) (b : Bool) → (g ≡ 0 → ⊥) → w ≡ level_width g → hybrid w n part ≡ Some ls → list_all (λ l. nat_le l g) ls ≡ b → levels g n part ≡ (if b then Some ls else None)
levels_by zero n w part ls b h f r a = absurd (h refl)
levels_by (suc g) n w part ls b h f r a =
    ap (λ v. option_and_then (none_above (suc g)) (hybrid v n part)) (sym f) ∙ (ap (option_and_then (none_above (suc g))) r ∙ ap (λ c. if c then Some ls else None) a)

-- there are none where hybrid data has none
no_levels_by : (g n w : ℕ) (part : List ℕ) → (g ≡ 0 → ⊥) → w ≡ level_width g → hybrid w n part ≡ None → levels g n part ≡ None
no_levels_by zero n w part h f r = absurd (h refl)
no_levels_by (suc g) n w part h f r = ap (λ v. option_and_then (none_above (suc g)) (hybrid v n part)) (sym f) ∙ ap (option_and_then (none_above (suc g))) r

-- and for any fault
pub no_runs : (g n w : ℕ) (part : List ℕ) (e : PageFault) → (g ≡ 0 → ⊥) → w ≡ level_width g → WhereNone e (hybrid w n part) → WhereNone e (levels g n part)
no_runs g n w part PageFault.NoMemory h f r = tt
no_runs g n w part PageFault.BadData h f r = no_levels_by g n w part h f r
