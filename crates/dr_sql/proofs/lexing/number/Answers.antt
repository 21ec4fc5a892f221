use Rattle.std.proofs.Common.{ap, ◌∙◌, ℕ, take}
use Rattle.std.specs.List.{list_all}
use Rattle.dr_meaning.specs.Tokens.{is_digit}
use Rattle.dr_sql.proofs.FrontLemmas.{front_all, number_begins}
use Rattle.dr_sql.proofs.lexing.number.Goals as goal

pub digits_token-requires : goal.digits_token-requires
digits_token-requires c = let bs = c.args.bytes.now in ap (λ (n : ℕ). list_all is_digit (take n bs)) c.digits_length-length.ensures.length ∙ front_all is_digit bs

pub returns : goal.returns
returns c = number_begins c.args.bytes.now c.digits_length-length.result c.digits_token.result c.requires c.digits_length-length.ensures.length c.digits_token.ensures
