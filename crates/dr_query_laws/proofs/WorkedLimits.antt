-- Worked examples of the definitions of the limits' faults.
use Rattle.std.specs.Prelude.{◌≡◌, List, [], ◌∷◌, None}
use Rattle.std.proofs.Common.{refl}
use Rattle.dr_meaning.specs.Tokens.{PlacedToken, placed, number, and_word, select_word, from_word, group_word, by_word, star, comma, minus_sign}
use Rattle.dr_meaning.specs.Syntax.{ItemSyntax, PathSyntax, number_literal, expression}
use Rattle.dr_meaning.specs.QueryGrammar.{word_at, sign_at, name_at, SpellsItem, Separated, alone, first_name, SpellsExpression, one_and, one_not, one_test, one_sum, one_product}
use Rattle.dr_meaning.specs.QueryGrammar.{one_unary, one_primary, a_number, an_expression, no_as, no_where}
use Rattle.dr_query_laws.specs.LimitLaws.{operators_in, BeforeItem, before_further_item, before_keys, BeforeKey, before_further_key}

-- -1*2 AND 3
abbrev three_operators : List PlacedToken
three_operators = sign_at 0 minus_sign ∷ placed 1 (number 1) ∷ sign_at 2 star ∷ placed 3 (number 2) ∷ word_at 5 and_word ∷ placed 9 (number 3) ∷ []

three_are_counted : operators_in three_operators ≡ 3
three_are_counted = refl

a_comma_is_none : operators_in (sign_at 0 comma ∷ []) ≡ 0
a_comma_is_none = refl

-- the item 1 at place 7
abbrev pub one_token : List PlacedToken
one_token = placed 7 (number 1) ∷ []

abbrev pub one_item : ItemSyntax
one_item = record { place = 7; term = expression (number_literal 1); name = None }

spells_one : SpellsExpression one_token (number_literal 1)
spells_one = one_and _ _ (one_not _ _ (one_test _ _ (one_sum _ _ (one_product _ _ (one_unary _ _ (one_primary _ _ (a_number 7 1)))))))

pub items_of_one : Separated ItemSyntax SpellsItem one_token (one_item ∷ [])
items_of_one = alone one_token one_item (one_token, [], refl, (placed 7 (number 1), [], refl, refl), an_expression one_token (number_literal 1) spells_one, no_as)

-- SELECT 1,
behind_one_item : BeforeItem 1 (word_at 0 select_word ∷ placed 7 (number 1) ∷ sign_at 8 comma ∷ [])
behind_one_item = before_further_item 0 8 one_token (one_item ∷ []) items_of_one

abbrev key_path : PathSyntax
key_path = record { place = 25; names = (97 ∷ []) ∷ [] }

-- SELECT 1 FROM T GROUP BY a,
behind_one_key : BeforeKey 1 (word_at 0 select_word ∷ placed 7 (number 1) ∷ word_at 9 from_word ∷ name_at 14 (84 ∷ []) ∷ word_at 16 group_word ∷ word_at 22 by_word ∷ name_at 25 (97 ∷ []) ∷ sign_at 26 comma ∷ [])
behind_one_key = before_further_key 26 _ (name_at 25 (97 ∷ []) ∷ []) (key_path ∷ []) (before_keys 0 9 14 16 22 (84 ∷ []) one_token [] (one_item ∷ []) None items_of_one no_where)
    (alone (name_at 25 (97 ∷ []) ∷ []) key_path ((name_at 25 (97 ∷ []), [], refl, refl), first_name 25 (97 ∷ [])))
