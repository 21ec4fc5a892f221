use Rattle.std.proofs.Common.{◌∙◌, sym, ap, option_map, Bor}
use Rattle.clap.specs.Words.{Text, found_of}
use Rattle.clap.proofs.WalkLemmas.{first_value-rows}
use Rattle.dr_words.specs.Numbers.{number_in}
use Rattle.dr_words.proofs.arguments.number_of.Goals as goal

pub returns-in-Some-clause-number : goal.returns-in-Some-clause-number
returns-in-Some-clause-number c =
    let row = first_value-rows (found_of c.args.matches.now) c.args.name.now in
    let text = sym row ∙ sym c.get_str.ensures ∙ ap (option_map (λ (s : Bor Text). s.now)) c.in-Some.is in
    c.number_or.ensures.number ∙ ap (number_in c.args.low c.args.high c.args.other) (sym text)

pub returns-in-None-clause-number : goal.returns-in-None-clause-number
returns-in-None-clause-number c =
    let row = first_value-rows (found_of c.args.matches.now) c.args.name.now in
    let text = sym row ∙ sym c.get_str.ensures ∙ ap (option_map (λ (s : Bor Text). s.now)) c.in-None.is in
    ap (number_in c.args.low c.args.high c.args.other) (sym text)
