use Rattle.std.proofs.Common.{◌≡◌, List, [], ◌∷◌, ◌++◌, sym, ap, subst, ◌∙◌}
use Rattle.std.specs.Prelude.{map}
use Rattle.dr_made_laws.specs.ObjectFlow.{built}
use Rattle.dr_within.specs.ObjectFraming.{AreRuns}
use Rattle.dr_within.specs.declared.built.Run.{Run}
use Rattle.dr_within.proofs.RunLemmas.{run_behind, run_joined}
use Rattle.dr_within.proofs.built.add_run.Goals as goal

pub returns-then-last-run : goal.returns-then-last-run
returns-then-last-run c = λ ms os h w.
    let more : c.push-then-last-run-2.new.self.items ≡ c.args.runs.now.items ++ c.args.run ∷ [] =
    c.in_ok-push-3.ensures.items ∙ ap (λ (rs : List Run). rs ++ c.args.run ∷ []) (c.in_ok-push-2.ensures.items ∙ sym c.in-Some.ensures.items) in
    subst (λ (rs : List Run). AreRuns rs (ms ++ map (built c.args.run.level) os)) (sym more) (run_behind c.args.runs.now.items c.args.run ms os h w)

pub returns : goal.returns
returns c = λ ms os h w.
    let front = c.pop.new.self.items in
    subst (λ (rs : List Run). AreRuns rs (ms ++ map (built c.args.run.level) os)) (sym c.in_ok-push-4.ensures.items)
    (run_joined front c.in-Some.last c.args.run c.in-Some-joined.both ms os (subst (λ (rs : List Run). AreRuns rs ms) c.in-Some.ensures.items h) c.if-last-run.false c.in-Some-joined.ensures w)
