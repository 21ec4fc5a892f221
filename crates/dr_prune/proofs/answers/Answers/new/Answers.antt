use Rattle.std.proofs.Common.{◌≡◌, ℕ, List, ◌++◌, append-nil, map, ap, sym, ◌∙◌}
use Rattle.std.proofs.lemmas.List.{drop_all}
use Rattle.dr_prune.specs.PartAnswers.{parts_from, untested}
use Rattle.dr_prune.proofs.PartAnswerLemmas.{fresh, last_of, fresh_lasts, fresh_parts}
use Rattle.dr_prune.proofs.answers.Answers.new.Goals as goal

pub returns-clause-lasts : goal.returns-clause-lasts
returns-clause-lasts c =
    let ls = c.args.lasts.now in
    let xs = c.lasts.parts.items in
    let made : xs ≡ map fresh ls = sym (append-nil xs)
    ∙ ap (λ (js : List ℕ). xs ++ map fresh js) (sym (drop_all c.lasts.last-index ls c.lasts-test.false)) ∙ c.lasts.invariant in
    ap (map last_of) made ∙ fresh_lasts ls

pub returns-clause-begins : goal.returns-clause-begins
returns-clause-begins c t w =
    let ls = c.args.lasts.now in
    let xs = c.lasts.parts.items in
    let made : xs ≡ map fresh ls = sym (append-nil xs)
    ∙ ap (λ (js : List ℕ). xs ++ map fresh js) (sym (drop_all c.lasts.last-index ls c.lasts-test.false)) ∙ c.lasts.invariant in
    ap (parts_from t 0) made ∙ fresh_parts t 0 ls ∙ ap (untested t) (sym (ap (map last_of) made ∙ fresh_lasts ls))
