-- The records taken before a refusal are those of the lines.
use Rattle.std.proofs.Common.{◌≡◌, ℕ, suc, List, [], ◌∷◌, Option, Some, None, refl, ap, ◌∙◌}
use Rattle.std.specs.Prelude.{Result, Ok, Err}
use Rattle.dr_meaning.specs.Record.{Node}
use Rattle.dr_meaning.specs.Lines.{LineFault, Refusal, record_at, before_records, or_refusal, Taken, or_stop, taken_from, result_of, TakenAreRecords}

before_result : (n : Node) (R : List Node) (o : Option Refusal) → result_of (n ∷ R) o ≡ before_records n (result_of R o)
before_result n R None = refl
before_result n R (Some e) = refl

stop_or_refusal : (number : ℕ) (r : Result Node LineFault) (t : Taken) → result_of (or_stop number r t).records (or_stop number r t).refusal ≡ or_refusal number r (result_of t.records t.refusal)
stop_or_refusal number (Ok n) t = before_result n t.records t.refusal
stop_or_refusal number (Err e) t = refl

pub taken_are_records : TakenAreRecords
taken_are_records fs most number [] = refl
taken_are_records fs most number (l ∷ ls) = stop_or_refusal number (record_at fs most number l) (taken_from fs most (suc number) ls) ∙ ap (or_refusal number (record_at fs most number l)) (taken_are_records fs most (suc number) ls)
