-- Reading the records of an input.
use Rattle.std.specs.Prelude.{◌≡◌, ℕ, ◌+◌, List, [], ◌∷◌, ◌++◌, length, Option, Some, None, Ok, Err}
use Rattle.std.proofs.Common.{arith, refl, sym, ap, ◌∙◌, append-nil, subst}
use Rattle.std.proofs.lemmas.List.{length-append}
use Rattle.dr_meaning.specs.Schema.{Fields}
use Rattle.dr_meaning.specs.Record.{Node}
use Rattle.dr_meaning.specs.Lines.{lines_of, Refusal, Taken, taken_from, result_of, records_of}
use Rattle.dr_meaning.proofs.LineLemmas.{taken_are_records}
use Rattle.dr_lines.specs.Cutting.{ahead, IsEnd}
use Rattle.dr_outside.specs.Faults.{raised}
use Rattle.dr_outside.specs.Source.{SourceShown}
use Rattle.dr_input.specs.Taken.{HasTaken, RefusesNext, AcceptsRead, WhereTold}
use Rattle.dr_input.specs.Stops.{NextStops}
use Rattle.dr_input.specs.Faults.{line_problem_view}
use Rattle.dr_input.specs.declared.fault.InputFault.{InputFault}
use Rattle.dr_input.proofs.TakenLemmas.{nothing_taken, taken_more, taken_is, last_nothing, refused_behind, accepts_begun, accepts_behind}
use Rattle.dr_top.specs.Records.{HasRead, OfRecords}
use Rattle.dr_top.specs.Stops.{IsRefusedLine, InputStops}

-- ---- the records of an input

pub records_taken : (fs : Fields) (most : ℕ) (bytes : List ℕ) (R : List Node) → taken_from fs most 1 (lines_of bytes) ≡ record { records = R; refusal = None } → records_of fs most bytes ≡ Ok R
unfolding records_of
records_taken fs most bytes R e = sym (taken_are_records fs most 1 (lines_of bytes)) ∙ ap (λ (t : Taken). result_of t.records t.refusal) e

pub records_refused : (fs : Fields) (most : ℕ) (bytes : List ℕ) (R : List Node) (r : Refusal) → taken_from fs most 1 (lines_of bytes) ≡ record { records = R; refusal = Some r } → records_of fs most bytes ≡ Err r
unfolding records_of
records_refused fs most bytes R r e = sym (taken_are_records fs most 1 (lines_of bytes)) ∙ ap (λ (t : Taken). result_of t.records t.refusal) e

-- of lines of which none is refused
pub records_accepted : (fs : Fields) (most : ℕ) (bytes : List ℕ) → (taken_from fs most 1 (lines_of bytes)).refusal ≡ None → records_of fs most bytes ≡ Ok (taken_from fs most 1 (lines_of bytes)).records
unfolding records_of
records_accepted fs most bytes e = sym (taken_are_records fs most 1 (lines_of bytes)) ∙ ap (result_of (taken_from fs most 1 (lines_of bytes)).records) e

-- ---- the loop

pub read_start : (fs : Fields) (most : ℕ) (P : List Node → Type 0) (all left : Option (List ℕ)) → left ≡ all → P [] → HasRead fs most P all left 0
read_start fs most P all left e h = ([], subst (HasTaken fs most 0 [] all) (sym e) (nothing_taken fs most 0 all), refl, h)

-- one record more
pub read_more : (fs : Fields) (most : ℕ) (P Q : List Node → Type 0) (all before now : Option (List ℕ)) (number : ℕ) (n : Node) → HasRead fs most P all before number → HasTaken fs most number (n ∷ []) before now
    → ((ns : List Node) → P ns → Q (ns ++ n ∷ [])) → HasRead fs most Q all now (number + 1)
read_more fs most P Q all before now number n h t f =
    let z : number ≡ 0 + length h.0 = omega (arith, h.2) in (
      h.0 ++ n ∷ [],
      taken_more fs most 0 h.0 (n ∷ []) all before now h.1 (subst (λ (j : ℕ). HasTaken fs most j (n ∷ []) before now) z t),
      omega (arith, length-append h.0 (n ∷ []), h.2),
      f h.0 h.3,
    )

pub read_all : (fs : Fields) (most : ℕ) (P : List Node → Type 0) (all before now : Option (List ℕ)) (number : ℕ) → HasRead fs most P all before number → IsEnd before now → OfRecords fs most P all
read_all fs most P None before now number h e = tt
read_all fs most P (Some all) None now number h e = absurd h.1
read_all fs most P (Some all) (Some rest) now number h e =
    let t : HasTaken fs most 0 h.0 (Some all) (Some []) = subst (λ (x : List ℕ). HasTaken fs most 0 h.0 (Some all) (Some x)) e.0 h.1 in
    (h.0, records_taken fs most all h.0 (taken_is fs most 0 h.0 all [] t ∙ ap (λ (x : List Node). record { records = x; refusal = None }) (append-nil h.0)), h.3)

-- a line is refused
read_refused : (fs : Fields) (most : ℕ) (P : List Node → Type 0) (all before : Option (List ℕ)) (number : ℕ) (e : Refusal) → HasRead fs most P all before number → RefusesNext fs most number before e → IsRefusedLine fs most all e
read_refused fs most P None before number e h r = tt
read_refused fs most P (Some all) None number e h r = absurd h.1
read_refused fs most P (Some all) (Some rest) number e h r =
    let z : number ≡ 0 + length h.0 = omega (arith, h.2) in
    records_refused fs most all h.0 e (refused_behind fs most 0 h.0 all rest e h.1 (subst (λ (j : ℕ). RefusesNext fs most j (Some rest) e) z r))

-- what stops the next record stops the whole input
pub input_stops : (fs : Fields) (most : ℕ) (P : List Node → Type 0) (before : Option (List ℕ)) (number : ℕ) (start middle now : SourceShown) (fault : InputFault) → HasRead fs most P start.left before number
    → middle.faults ≡ start.faults → NextStops fs most number before middle now fault → InputStops fs most start now fault
input_stops fs most P before number start middle now InputFault.NoMemory h c n = n ∙ c
input_stops fs most P before number start middle now InputFault.Source h c n =
    let z : number ≡ 0 + length h.0 = omega (arith, h.2) in
    (n.0 ∙ ap raised c, accepts_behind fs most 0 h.0 start.left before now.left h.1 (subst (λ (j : ℕ). AcceptsRead fs most j before now.left) z (accepts_begun fs most number before now.left n.1)))
input_stops fs most P before number start middle now (InputFault.Refused k w) h c n = (n.0 ∙ c, read_refused fs most P start.left before number (record { line = k; fault = line_problem_view w }) h n.1)

-- of a reader of these fields and of so many lines
pub reader_stops : (P : List Node → Type 0) (before : Option (List ℕ)) (start middle now : SourceShown) (fault : InputFault) (fs gs : Fields) (most many number : ℕ) → fs ≡ gs → most ≡ many → HasRead gs many P start.left before number
    → middle.faults ≡ start.faults → NextStops fs most number before middle now fault → InputStops gs many start now fault
reader_stops P before start middle now fault fs gs most many number e f h c n =
    input_stops gs many P before number start middle now fault h c
    (subst (λ (x : Fields). NextStops x many number before middle now fault) e (subst (λ (m : ℕ). NextStops fs m number before middle now fault) f n))

left_nothing : (left : Option (List ℕ)) (pending : List ℕ) → ahead pending left ≡ Some [] → left ≡ Some []
left_nothing None pending h = cc
left_nothing (Some rest) pending h = let e : pending ++ rest ≡ [] = cc in ap (λ (b : List ℕ). Some b) (last_nothing pending rest e)

-- the input is read to its end
pub all_ended : (fs : Fields) (most : ℕ) (P : List Node → Type 0) (all before left : Option (List ℕ)) (pending : List ℕ) (number : ℕ) → HasRead fs most P all before number → IsEnd before (ahead pending left) → WhereTold all (λ _. left ≡ Some [])
all_ended fs most P None before left pending number h e = tt
all_ended fs most P (Some all) None left pending number h e = absurd h.1
all_ended fs most P (Some all) (Some rest) left pending number h e = left_nothing left pending e.1
