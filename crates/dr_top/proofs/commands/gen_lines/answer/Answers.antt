use Rattle.std.proofs.Common.{rules, ◌≡◌, ◌∙◌, ap, ap₂, sym, List, ℕ, []}
use Rattle.dr_gen.specs.Generator.{lines_from}
use Rattle.dr_commands.specs.Meaning.{done}
use Rattle.dr_top.proofs.commands.gen_lines.answer.Goals as goal

pub returns-clause-text : goal.returns-clause-text
returns-clause-text c =
    let seed : c.from.result ≡ c.args.words.now.seed = search rules in
    let records : c.from-2.result ≡ c.args.words.now.records = search rules in
    ap (λ (text : List ℕ). done text []) (sym (c.in_ok-lines.ensures ∙ ap₂ lines_from seed records))
