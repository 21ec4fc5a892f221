use Rattle.std.proofs.Common.{◌≡◌, ◌<◌, ◌≤◌, List, length, get_or, ap, subst, ◌∙◌}
use Rattle.dr_made_laws.specs.ObjectFlow.{Made, objects_for}
use Rattle.dr_within.specs.ObjectFraming.{built_in}
use Rattle.dr_within.specs.declared.built.Run.{Run}
use Rattle.dr_within.proofs.MadeParts.{objects_for_built}
use Rattle.dr_within.proofs.RunLemmas.{runs_step, runs_end, level_count_more, level_count_same}
use Rattle.dr_within.proofs.built.Built.count_of.Goals as goal
use Rattle.dr_within.proofs.built.Built.count_of.Goals.{then-run-level+in-Some, else-run-level}

pub runs-preserved : goal.runs-preserved
runs-preserved c = λ made h.
    let rs = c.args.self.now.runs.items in
    let i = c.runs.run-index in
    let d : Run = record { level = 0; count = 0; cells = 0 } in
    let r : Run = get_or c.deref-run-items.result.now i d in
    let v = c.deref-run-items.ensures.value in
    let here : r ≡ get_or rs i d = ap (λ (xs : List Run). get_or xs i d) v in
    let there : i < length rs = subst (λ (xs : List Run). i < length xs) v c.runs-test.true in
    let k = c.args.level in
    runs_step rs (built_in made) i r d (λ (front : List Made). c.runs.count ≡ length (objects_for k front)) (λ (front : List Made). c.if-run-level.count ≡ length (objects_for k front)) there here
    (λ front rest os p f w. elim c.if-run-level.branch [
      | then-run-level+in-Some b ↦ level_count_more k c.runs.count c.if-run-level.count r front os b.if-run-level.true f w (b.count-is ∙ b.in-Some.ensures.1)
      | else-run-level b ↦ b.count-is ∙ level_count_same k c.runs.count r front os b.if-run-level.false f
    ]) (c.runs.invariant made h)

pub returns : goal.returns
returns c = λ made h.
    let rs = c.args.self.now.runs.items in
    let i = c.runs.run-index in
    let k = c.args.level in
    let past : length rs ≤ i = subst (λ (xs : List Run). length xs ≤ i) c.deref-run-items.ensures.value c.runs-test.false in
    runs_end rs (built_in made) i (λ (front : List Made). c.runs.count ≡ length (objects_for k front)) past (c.runs.invariant made h) ∙ ap length (objects_for_built k made)
