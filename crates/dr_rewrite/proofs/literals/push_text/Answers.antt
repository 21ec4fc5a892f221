use Rattle.std.proofs.Common.{◌∙◌, ◌++◌, ◌∷◌, [], ap, sym, string_bytes, append_assoc}
use Rattle.dr_meaning.specs.TokenLaws.{doubled}
use Rattle.dr_rewrite.proofs.LiteralLemmas.{literal_is_doubled}
use Rattle.dr_rewrite.proofs.WriteLemmas.{ends}
use Rattle.dr_rewrite.proofs.literals.push_text.Goals as goal

pub returns : goal.returns
returns c =
    let old = string_bytes c.args.out.now in
    let t = doubled c.args.text.now in
    ends c.push_str-2.result (string_bytes c.push_str-2.new.self) (string_bytes c.push_doubled.new.out) (39 ∷ []) old _ c.push_str-2.ensures.bytes
    (ap (λ x. x ++ 39 ∷ []) (c.in_ok-push_doubled.ensures ∙ ap (λ x. x ++ t) c.in_ok-push_str.ensures.bytes)
    ∙ (append_assoc (old ++ 39 ∷ []) t (39 ∷ []) ∙ (append_assoc old (39 ∷ []) (t ++ 39 ∷ []) ∙ ap (λ x. old ++ (39 ∷ (x ++ 39 ∷ []))) (sym (literal_is_doubled c.args.text.now)))))
