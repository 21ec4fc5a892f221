-- The answer of `gen`.
use Rattle.std.specs.Prelude.{◌≡◌, ℕ, List, [], Some}
use Rattle.dr_gen.specs.Generator.{lines_from}
use Rattle.dr_commands.specs.Gen.{GenWords, gen_meaning}
use Rattle.dr_commands.specs.Refusals.{Refusal}
use Rattle.dr_commands.specs.Meaning.{done, first_refusal}
use Rattle.dr_top.specs.World.{World}
use Rattle.dr_top.specs.Ends.{IsAccepted}

done_is_not_refused : (text : List ℕ) (r : Refusal) → first_refusal (done text []) ≡ Some r → ⊥
done_is_not_refused text r e = cc

pub gen_accepted : (w : GenWords) (before : World) → IsAccepted before (gen_meaning w)
gen_accepted w before r h = done_is_not_refused (lines_from w.seed w.records) r h.2
