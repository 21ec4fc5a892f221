use Rattle.std.proofs.Common.{◌≡◌, ◌<◌, ◌≤◌, List, length, get_or, ap, subst, ◌∙◌}
use Rattle.dr_made_laws.specs.ObjectFlow.{Made}
use Rattle.dr_made_laws.specs.ObjectFlowLaws.{made_objects}
use Rattle.dr_within.specs.ObjectFraming.{built_in}
use Rattle.dr_within.specs.declared.built.Run.{Run}
use Rattle.dr_within.proofs.MadeParts.{objects_of_built}
use Rattle.dr_within.proofs.RunLemmas.{runs_step, runs_end, count_more}
use Rattle.dr_within.proofs.built.Built.count.Goals as goal

pub runs-preserved : goal.runs-preserved
runs-preserved c = λ made h.
    let rs = c.args.self.now.runs.items in
    let i = c.runs.run-index in
    let d : Run = record { level = 0; count = 0; cells = 0 } in
    let r : Run = get_or c.deref-run-items.result.now i d in
    let v = c.deref-run-items.ensures.value in
    let here : r ≡ get_or rs i d = ap (λ (xs : List Run). get_or xs i d) v in
    let there : i < length rs = subst (λ (xs : List Run). i < length xs) v c.runs-test.true in
    runs_step rs (built_in made) i r d (λ (front : List Made). c.runs.count ≡ length (made_objects front)) (λ (front : List Made). c.in-Some.more ≡ length (made_objects front)) there here
    (λ front rest os p f w. count_more c.runs.count c.in-Some.more r front os f w c.in-Some.ensures.1) (c.runs.invariant made h)

pub returns : goal.returns
returns c = λ made h.
    let rs = c.args.self.now.runs.items in
    let i = c.runs.run-index in
    let past : length rs ≤ i = subst (λ (xs : List Run). length xs ≤ i) c.deref-run-items.ensures.value c.runs-test.false in
    runs_end rs (built_in made) i (λ (front : List Made). c.runs.count ≡ length (made_objects front)) past (c.runs.invariant made h) ∙ ap length (objects_of_built made)
