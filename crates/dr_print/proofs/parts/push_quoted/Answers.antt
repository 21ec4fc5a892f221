use Rattle.std.proofs.Common.{◌≡◌, ◌∙◌, ◌++◌, ℕ, List, sym, ap, subst, true, string_bytes, OnOk}
use Rattle.std.specs.List.{list_all}
use Rattle.dr_print.specs.Parts.{is_plain}
use Rattle.dr_print.proofs.PlainLemmas.{plain_quoted}
use Rattle.dr_print.proofs.parts.push_quoted.Goals as goal

pub returns-then-are_plain : goal.returns-then-are_plain
returns-then-are_plain c =
    let plain : list_all is_plain c.args.value.now ≡ true =
    ap (list_all is_plain) (sym c.as_bytes.ensures.value) ∙ sym c.are_plain.ensures ∙ c.if-are_plain.true in
    subst (λ (q : List ℕ). OnOk c.push_between_quotes.result (string_bytes c.push_between_quotes.new.text ≡ string_bytes c.args.text.now ++ q))
    (plain_quoted c.args.value.now plain) c.push_between_quotes.ensures
