use Rattle.std.proofs.Common.{ap, ◌∙◌, ◌≡◌, drop, take}
use Rattle.std.specs.Prelude.{not}
use Rattle.std.specs.List.{position_or_len}
use Rattle.dr_meaning.specs.Schema.{continues_name}
use Rattle.dr_meaning.specs.Tokens as language
use Rattle.dr_sql.proofs.FrontLemmas.{word_begins, boundary_behind_name}
use Rattle.dr_sql.proofs.LexLemmas.{range_is}
use Rattle.dr_sql.proofs.lexing.word.Goals as goal

pub range-requires-clause-end_boundary : goal.range-requires-clause-end_boundary
range-requires-clause-end_boundary c =
    let size = c.name_length-length.ensures.length ∙ ap (position_or_len (λ b. not (continues_name b))) c.bytes_from.ensures in
    boundary_behind_name c.args.text.now c.args.place c.name_length-length.result c.utf8.text c.requires.within c.requires.name size

pub returns : goal.returns
returns c =
    let n = c.name_length-length.result in
    let size = c.name_length-length.ensures.length ∙ ap (position_or_len (λ b. not (continues_name b))) c.bytes_from.ensures in
    let name : c.range.result.now ≡ take n (drop c.args.place c.args.text.now) = c.range.ensures.value ∙ range_is c.args.text.now c.args.place n in
    word_begins (drop c.args.place c.args.text.now) n c.bare_token.result c.requires.name size (c.bare_token.ensures ∙ ap language.name_token name)
