use Rattle.std.proofs.Common.{◌∙◌, ◌++◌, ap, map, sym, string_bytes, append_assoc}
use Rattle.std.proofs.lemmas.Result.{on_ok_weaker}
use Rattle.dr_partials.specs.RewritingText.{commas}
use Rattle.dr_rewrite.specs.Lists.{further_commas}
use Rattle.dr_rewrite.proofs.ListLemmas.{commas_first}
use Rattle.dr_rewrite.proofs.lists.push_listed.Goals as goal

pub returns-in_ok-push_str-in-Some : goal.returns-in_ok-push_str-in-Some
returns-in_ok-push_str-in-Some c =
    let old = string_bytes c.args.out.now in
    let first = string_bytes c.in-Some.first.now in
    let behind = map string_bytes c.in-Some.further.now in
    on_ok_weaker c.push_further.result
    (λ e. e ∙ (ap (λ x. x ++ further_commas behind) (c.in_ok-push_str-in-Some.ensures.bytes ∙ ap (λ x. old ++ x) c.as_str.ensures.value)
    ∙ (append_assoc old first (further_commas behind) ∙ ap (λ x. old ++ x) (commas_first first behind ∙ ap (λ ts. commas (map string_bytes ts)) (sym c.in-Some.ensures.cases.0)))))
    c.push_further.ensures
