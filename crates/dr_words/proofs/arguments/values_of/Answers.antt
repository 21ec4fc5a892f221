use Rattle.std.proofs.Common.{◌∙◌, List, sym, ap, map, Some, option_map, Bor}
use Rattle.clap.specs.Words.{Text, found_of}
use Rattle.clap.proofs.WalkLemmas.{raw_values-rows}
use Rattle.dr_words.proofs.arguments.values_of.Goals as goal

pub returns-in_ok-copy_texts-in-Some : goal.returns-in_ok-copy_texts-in-Some
returns-in_ok-copy_texts-in-Some c =
    let row = raw_values-rows (found_of c.args.matches.now) c.args.name.now in
    sym row ∙ sym c.get_strs.ensures ∙ ap (option_map (λ (s : Bor (List (Bor Text))). map (λ (v : Bor Text). v.now) s.now)) c.in-Some.is ∙ ap Some (sym c.in_ok-copy_texts-in-Some.ensures)

pub returns-in-None : goal.returns-in-None
returns-in-None c =
    let row = raw_values-rows (found_of c.args.matches.now) c.args.name.now in
    sym row ∙ sym c.get_strs.ensures ∙ ap (option_map (λ (s : Bor (List (Bor Text))). map (λ (v : Bor Text). v.now) s.now)) c.in-None.is
