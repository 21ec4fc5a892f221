use Rattle.std.proofs.Common.{rules, ◌≡◌, ◌∙◌, sym, ap, Some, string_bytes, option_map, Bor}
use Rattle.clap.specs.Words.{Text, found_of}
use Rattle.clap.proofs.WalkLemmas.{first_value-rows}
use Rattle.dr_words.proofs.arguments.value_of.Goals as goal

-- src/words.rt:86:1
pub returns-in_ok-from_str-in-Some : goal.returns-in_ok-from_str-in-Some
returns-in_ok-from_str-in-Some c =
    let row = first_value-rows (found_of c.args.matches.now) c.args.name.now in
    let text : c.in-Some.text.now ≡ string_bytes c.in_ok-from_str-in-Some.field-0 = search rules in
    sym row ∙ sym c.get_str.ensures ∙ ap (option_map (λ (s : Bor Text). s.now)) c.in-Some.is ∙ ap Some text

pub returns-in-None : goal.returns-in-None
returns-in-None c =
    let row = first_value-rows (found_of c.args.matches.now) c.args.name.now in
    sym row ∙ sym c.get_str.ensures ∙ ap (option_map (λ (s : Bor Text). s.now)) c.in-None.is
