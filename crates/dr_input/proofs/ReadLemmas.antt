-- Reading records line by line.
use Rattle.std.specs.Prelude.{◌≡◌, ℕ, suc, ◌+◌, ◌<◌, ◌≤◌, List, [], ◌∷◌, ◌++◌, length, true, false, nat_lt, Option, Some, None, Result, Ok, Err}
use Rattle.std.proofs.Common.{arith, refl, sym, ap, ◌∙◌, add-one, append_assoc, append-nil, subst, inl, inr}
use Rattle.std.proofs.lemmas.Bool.Decides.{nat_tests}
use Rattle.dr_meaning.specs.Schema.{Fields}
use Rattle.dr_meaning.specs.Record.{Node, is_record}
use Rattle.dr_meaning.specs.JsonRecord.{RecordFault, record_of_line}
use Rattle.dr_meaning.specs.Lines.{lines_of, longest_line, LineFault, line_too_long, too_many_records, no_record, line_record, record_at, or_stop, taken_from}
use Rattle.dr_json.specs.Lines.{is_formed}
use Rattle.dr_json.specs.Parts.{value_node, line_node, line_fields}
use Rattle.dr_json.specs.declared.record.LineValue.{LineValue}
use Rattle.dr_json.specs.declared.record.LineRecord.{LineRecord}
use Rattle.dr_json.specs.Faults.{record_problem_view}
use Rattle.dr_lines.specs.Cutting.{CutsLine, CutsBytes, BeginsLine, IsTooLong}
use Rattle.dr_lines.specs.declared.cutter.LineFault.{LineFault as CutFault}
use Rattle.dr_lines.specs.declared.cutter.LineFault.TheVariants as cutter
use Rattle.dr_lines.proofs.CutLemmas.{cut_at_lf}
use Rattle.dr_outside.specs.Faults.{raised}
use Rattle.dr_outside.specs.Source.{SourceShown}
use Rattle.dr_input.specs.Taken.{AreRecords, HasTaken, RefusesNext}
use Rattle.dr_input.specs.Stops.{RefusesLine, NextStops, line_fault_in}
use Rattle.dr_input.specs.declared.fault.LineProblem.{LineProblem}
use Rattle.dr_input.specs.declared.fault.InputFault.{InputFault}
use Rattle.dr_input.proofs.ReadForm.{is_read, line_form}
use Rattle.dr_input.proofs.TextForm.{read_is_record}
use Rattle.dr_input.proofs.WholeLemmas.{whole_line}

-- ---- a line

at_good_line : (fs : Fields) (most number : ℕ) (bytes : List ℕ) (r : Result Node RecordFault) → length bytes ≤ longest_line → number ≤ most → record_of_line fs bytes ≡ r → record_at fs most number bytes ≡ line_record r
at_good_line fs most number bytes r l m e =
    let a : nat_lt longest_line (length bytes) ≡ false = grind (arith, nat_tests) in
    let b : nat_lt most number ≡ false = grind (arith, nat_tests) in
    rw (a, b, e) refl

at_long_line : (fs : Fields) (most number : ℕ) (bytes : List ℕ) → longest_line < length bytes → record_at fs most number bytes ≡ Err line_too_long
at_long_line fs most number bytes l = let a : nat_lt longest_line (length bytes) ≡ true = grind (arith, nat_tests) in rw a refl

at_late_line : (fs : Fields) (most number : ℕ) (bytes : List ℕ) → length bytes ≤ longest_line → most < number → record_at fs most number bytes ≡ Err too_many_records
at_late_line fs most number bytes l m =
    let a : nat_lt longest_line (length bytes) ≡ false = grind (arith, nat_tests) in
    let b : nat_lt most number ≡ true = grind (arith, nat_tests) in
    rw (a, b) refl

-- the record of the line that was cut
one_record : (fs : Fields) (most number : ℕ) (bytes read : List ℕ) (n : Node) → lines_of read ≡ bytes ∷ [] → length bytes ≤ longest_line → number < most → record_of_line fs bytes ≡ Ok n → AreRecords fs most number read (n ∷ [])
one_record fs most number bytes read n c l m e =
    ap (taken_from fs most (suc number)) c
    ∙ ap (λ (r : Result Node LineFault). or_stop (suc number) r (taken_from fs most (suc (suc number)) [])) (at_good_line fs most (suc number) bytes (Ok n) l (omega (arith, m)) e)

takes_told : (fs : Fields) (most number : ℕ) (all rest bytes : List ℕ) (n : Node) → CutsLine (Some all) bytes (Some rest) → CutsBytes (Some all) bytes (Some rest) → length bytes ≤ longest_line → number < most → record_of_line fs bytes ≡ Ok n
    → HasTaken fs most number (n ∷ []) (Some all) (Some rest)
takes_told fs most number all rest bytes n c (w, inl k) l m e = (
  bytes ++ 10 ∷ [],
  k ∙ sym (append_assoc bytes (10 ∷ []) rest),
  inl (whole_line bytes),
  one_record fs most number bytes (bytes ++ 10 ∷ []) n (cut_at_lf bytes [] w) l m e,
)
takes_told fs most number all rest bytes n c (w, inr k) l m e = (
  all,
  sym (append-nil all) ∙ ap (λ (x : List ℕ). all ++ x) (sym k.1),
  inr k.1,
  one_record fs most number bytes all n (c ∙ ap (λ (x : List ℕ). bytes ∷ lines_of x) k.1) l m e,
)

pub takes_record : (fs : Fields) (most number : ℕ) (before now : Option (List ℕ)) (bytes line : List ℕ) (n : Node) → CutsLine before bytes now → CutsBytes before bytes now → length bytes ≤ longest_line → number < most → line ≡ bytes → record_of_line fs line ≡ Ok n
    → HasTaken fs most number (n ∷ []) before now
takes_record fs most number None now bytes line n c b l m g e = tt
takes_record fs most number (Some all) None bytes line n c b l m g e = absurd c
takes_record fs most number (Some all) (Some rest) bytes line n c b l m g e = takes_told fs most number all rest bytes n c b l m (ap (record_of_line fs) (sym g) ∙ e)

-- the line that was cut is refused
refuses_cut : (fs : Fields) (most number : ℕ) (before now : Option (List ℕ)) (bytes : List ℕ) (f : LineFault) → CutsLine before bytes now → record_at fs most (suc number) bytes ≡ Err f
    → RefusesNext fs most number before (record { line = number + 1; fault = f })
refuses_cut fs most number None now bytes f c e = tt
refuses_cut fs most number (Some all) None bytes f c e = absurd c
refuses_cut fs most number (Some all) (Some rest) bytes f c e =
    ap (taken_from fs most (suc number)) c ∙ ap (λ (x : Result Node LineFault). or_stop (suc number) x (taken_from fs most (suc (suc number)) (lines_of rest))) e
    ∙ ap (λ (j : ℕ). record { records = []; refusal = Some (record { line = j; fault = f }) }) (sym (add-one number))

-- the next line is past the greatest number of lines
pub refuses_late : (fs : Fields) (most number : ℕ) (before now : Option (List ℕ)) (bytes : List ℕ) → CutsLine before bytes now → length bytes ≤ longest_line → most ≤ number
    → RefusesNext fs most number before (record { line = number + 1; fault = too_many_records })
refuses_late fs most number before now bytes c l m = refuses_cut fs most number before now bytes too_many_records c (at_late_line fs most (suc number) bytes l (omega (arith, m)))

-- it is too long
refuses_long : (fs : Fields) (most number : ℕ) (before : Option (List ℕ)) → IsTooLong before → RefusesNext fs most number before (record { line = number + 1; fault = line_too_long })
refuses_long fs most number None t = tt
refuses_long fs most number (Some all) t =
    ap (taken_from fs most (suc number)) t.2 ∙ ap (λ (x : Result Node LineFault). or_stop (suc number) x (taken_from fs most (suc (suc number)) t.1)) (at_long_line fs most (suc number) t.0 t.3)
    ∙ ap (λ (j : ℕ). record { records = []; refusal = Some (record { line = j; fault = line_too_long }) }) (sym (add-one number))

-- it is no record
refuses_record : (fs : Fields) (most number : ℕ) (before now : Option (List ℕ)) (bytes line : List ℕ) (e : RecordFault) → line ≡ bytes → record_of_line fs line ≡ Err e → CutsLine before bytes now
    → length bytes ≤ longest_line → number < most → RefusesNext fs most number before (record { line = number + 1; fault = no_record e })
refuses_record fs most number before now bytes line e g k c l m =
    refuses_cut fs most number before now bytes (no_record e) c (at_good_line fs most (suc number) bytes (Err e) l (omega (arith, m)) (ap (record_of_line fs) (sym g) ∙ k))

-- ---- why the next line gives no record

pub no_line_stops : (fs : Fields) (most number : ℕ) (left : Option (List ℕ)) (before now : SourceShown) (fault : CutFault) → (fault ≡ cutter.TooLong → IsTooLong left) → (fault ≡ cutter.ReadFault → now.faults ≡ raised before.faults)
    → (fault ≡ cutter.ReadFault → BeginsLine left now.left) → ((fault ≡ cutter.ReadFault → ⊥) → now.faults ≡ before.faults) → NextStops fs most number left before now (line_fault_in fault (number + 1))
no_line_stops fs most number left before now cutter.TooLong long cause begins calm = (calm (λ e. cc), refuses_long fs most number left (long refl))
no_line_stops fs most number left before now cutter.ReadFault long cause begins calm = (cause refl, begins refl)

pub record_stops : (fs : Fields) (most number : ℕ) (left rest : Option (List ℕ)) (bytes line : List ℕ) (before now : SourceShown) (fault : InputFault) → RefusesLine (record_of_line fs line) (number + 1) fault
    → line ≡ bytes → CutsLine left bytes rest → length bytes ≤ longest_line → number < most → now.faults ≡ before.faults → NextStops fs most number left before now fault
record_stops fs most number left rest bytes line before now InputFault.NoMemory h g c l m calm = calm
record_stops fs most number left rest bytes line before now InputFault.Source h g c l m calm = absurd h
record_stops fs most number left rest bytes line before now (InputFault.Refused n LineProblem.TooLong) h g c l m calm = absurd h
record_stops fs most number left rest bytes line before now (InputFault.Refused n LineProblem.TooManyRecords) h g c l m calm = absurd h
record_stops fs most number left rest bytes line before now (InputFault.Refused n (LineProblem.Record w)) h g c l m calm = (
  calm,
  subst (λ (j : ℕ). RefusesNext fs most number left (record { line = j; fault = no_record (record_problem_view w) })) (sym h.0)
      (refuses_record fs most number left rest bytes line (record_problem_view w) g h.1 c l m),
)

-- ---- the record of a line

value_is_record : (fs : Fields) (v : LineValue) → is_formed fs v ≡ true → is_read fs (value_node fs v) ≡ true → is_record fs (value_node fs v) ≡ true
value_is_record fs (LineValue.Read v) f h = read_is_record fs v h
value_is_record fs (LineValue.Raw ms) f h = f

pub line_is_record : (fs : Fields) (line : List ℕ) (r : LineRecord) → line_fields r ≡ fs → record_of_line fs line ≡ Ok (line_node r) → is_record fs (line_node r) ≡ true
line_is_record fs line r f e =
    let P : Fields → Type 0 = λ gs. is_read gs (line_node r) ≡ true → is_record gs (line_node r) ≡ true in
    subst P f (value_is_record (line_fields r) r.value r.formed) (line_form fs line (line_node r) e)
