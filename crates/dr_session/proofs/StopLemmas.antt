-- Why a line isn't cut.
use Rattle.std.specs.Prelude.{◌≡◌, ℕ, ◌<◌, ◌≤◌, List, length, true, false, nat_lt, Option, Some, None, Err}
use Rattle.std.proofs.Common.{arith, refl}
use Rattle.std.proofs.lemmas.Bool.Decides.{nat_tests}
use Rattle.dr_meaning.specs.Schema.{Schema}
use Rattle.dr_meaning.specs.Lines.{lines_of, longest_line}
use Rattle.dr_lines.specs.Cutting.{CutsLine, BeginsLine, IsTooLong}
use Rattle.dr_lines.specs.declared.cutter.LineFault.{LineFault as CutFault}
use Rattle.dr_lines.specs.declared.cutter.LineFault.TheVariants as cutter
use Rattle.dr_outside.specs.Faults.{raised}
use Rattle.dr_outside.specs.Source.{SourceShown}
use Rattle.dr_sub_meaning.specs.Session.{Session, line_too_long, too_many_lines, most_lines, heard}
use Rattle.dr_session.specs.Saying.{RefusesFirst, CutStops, cut_fault_in}

long_line : (s : Schema) (w : Session) (number : ℕ) (l : List ℕ) → longest_line < length l → heard s w number l ≡ Err line_too_long
long_line s w number l h = let a : nat_lt longest_line (length l) ≡ true = grind (arith, nat_tests) in rw a refl

late_line : (s : Schema) (w : Session) (number : ℕ) (l : List ℕ) → length l ≤ longest_line → most_lines < number → heard s w number l ≡ Err too_many_lines
late_line s w number l h m =
    let a : nat_lt longest_line (length l) ≡ false = grind (arith, nat_tests) in
    let b : nat_lt most_lines number ≡ true = grind (arith, nat_tests) in
    rw (a, b) refl

pub refuses_long : (number : ℕ) (left : Option (List ℕ)) → IsTooLong left → RefusesFirst number left line_too_long
refuses_long number None t = tt
refuses_long number (Some all) t = (t.0, t.1, t.2, λ s w. long_line s w number t.0 t.3)

pub refuses_late : (number : ℕ) (left now : Option (List ℕ)) (l : List ℕ) → CutsLine left l now → length l ≤ longest_line → most_lines < number → RefusesFirst number left too_many_lines
refuses_late number None now l c h m = tt
refuses_late number (Some all) None l c h m = absurd c
refuses_late number (Some all) (Some rest) l c h m = (l, lines_of rest, c, λ s w. late_line s w number l h m)

pub cut_stops : (number : ℕ) (left : Option (List ℕ)) (before now : SourceShown) (fault : CutFault) → (fault ≡ cutter.TooLong → IsTooLong left) → (fault ≡ cutter.ReadFault → now.faults ≡ raised before.faults)
    → (fault ≡ cutter.ReadFault → BeginsLine left now.left) → ((fault ≡ cutter.ReadFault → ⊥) → now.faults ≡ before.faults) → CutStops number left before now (cut_fault_in fault number)
cut_stops number left before now cutter.TooLong long cause begins calm = (refl, calm (λ e. cc), refuses_long number left (long refl))
cut_stops number left before now cutter.ReadFault long cause begins calm = (cause refl, begins refl)
