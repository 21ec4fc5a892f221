-- Worked examples of how many nestings are open.
use Rattle.std.specs.Prelude.{ℕ, zero, suc, ◌+◌, List, [], ◌∷◌}
use Rattle.std.proofs.Common.{subst, arith}
use Rattle.dr_meaning.specs.Tokens.{PlacedToken, placed, number, not_word, count_word, select_word, from_word, where_word, and_word, open_parenthesis, minus_sign, equals}
use Rattle.dr_meaning.specs.Expression.{equal}
use Rattle.dr_meaning.specs.Query.{count}
use Rattle.dr_meaning.specs.Syntax.{number_literal}
use Rattle.dr_meaning.specs.QueryGrammar.{word_at, sign_at, name_at, is_equal, is_count, one_not, not_not, one_test, one_sum, one_product, one_unary, one_primary, a_number, SpellsSum}
use Rattle.dr_query_laws.specs.LimitLaws.{before_first_item}
use Rattle.dr_query_laws.specs.NestingLaws.{OpensInExpression, in_first_and, in_first_not, behind_and, OpensInNot, not_itself, behind_not, in_test, in_first_sum}
use Rattle.dr_query_laws.specs.NestingLaws.{behind_comparison, in_first_product, in_first_unary, OpensInUnary, sign_itself, behind_sign, parenthesis_itself, behind_parenthesis}
use Rattle.dr_query_laws.specs.NestingLaws.{in_argument, OpensInQuery, in_item, in_condition}
use Rattle.dr_query_laws.proofs.WorkedLimits.{one_token, one_item, items_of_one}

-- so many of a token
abbrev times : ℕ → PlacedToken → List PlacedToken
times zero t = []
times (suc n) t = t ∷ times n t

-- what begins with a unary
of_unary : (ts : List PlacedToken) (t : PlacedToken) (n : ℕ) → OpensInUnary ts t n → OpensInExpression ts t n
of_unary ts t n x = in_first_and ts t n (in_first_not ts t n (in_test ts t n (in_first_sum ts t n (in_first_product ts t n (in_first_unary ts t n x)))))

behind_parentheses : (n : ℕ) → OpensInExpression (times n (sign_at 0 open_parenthesis)) (sign_at 0 open_parenthesis) n
behind_parentheses zero = of_unary [] (sign_at 0 open_parenthesis) 0 (parenthesis_itself 0)
behind_parentheses (suc n) =
    let front = times n (sign_at 0 open_parenthesis) in
    of_unary (sign_at 0 open_parenthesis ∷ front) (sign_at 0 open_parenthesis) (suc n) (behind_parenthesis 0 front (sign_at 0 open_parenthesis) n (behind_parentheses n))

behind_signs : (n : ℕ) → OpensInUnary (times n (sign_at 0 minus_sign)) (sign_at 0 minus_sign) n
behind_signs zero = sign_itself 0
behind_signs (suc n) = behind_sign 0 (times n (sign_at 0 minus_sign)) (sign_at 0 minus_sign) n (behind_signs n)

behind_nots : (n : ℕ) → OpensInNot (times n (word_at 0 not_word)) (word_at 0 not_word) n
behind_nots zero = not_itself 0
behind_nots (suc n) = behind_not 0 (times n (word_at 0 not_word)) (word_at 0 not_word) n (behind_nots n)

-- as a whole expression
nots_only : (n : ℕ) → OpensInExpression (times n (word_at 0 not_word)) (word_at 0 not_word) n
nots_only n = in_first_and _ _ _ (in_first_not _ _ _ (behind_nots n))

signs_only : (n : ℕ) → OpensInExpression (times n (sign_at 0 minus_sign)) (sign_at 0 minus_sign) n
signs_only n = of_unary _ _ _ (behind_signs n)

-- the 33rd and the 34th of parentheses, NOTs and minus signs only
the_33rd : OpensInExpression (times 32 (sign_at 0 open_parenthesis)) (sign_at 0 open_parenthesis) 32
the_33rd = behind_parentheses 32

the_34th : OpensInExpression (times 33 (sign_at 0 open_parenthesis)) (sign_at 0 open_parenthesis) 33
the_34th = behind_parentheses 33

the_33rd_not : OpensInExpression (times 32 (word_at 0 not_word)) (word_at 0 not_word) 32
the_33rd_not = nots_only 32

the_33rd_sign : OpensInExpression (times 32 (sign_at 0 minus_sign)) (sign_at 0 minus_sign) 32
the_33rd_sign = signs_only 32

-- 16 times NOT (, and the 33rd
abbrev in_turns : ℕ → List PlacedToken
in_turns zero = []
in_turns (suc n) = word_at 0 not_word ∷ sign_at 0 open_parenthesis ∷ in_turns n

behind_turns : (n : ℕ) → OpensInExpression (in_turns n) (word_at 0 not_word) (n + n)
behind_turns zero = nots_only 0
behind_turns (suc n) = subst (OpensInExpression (in_turns (suc n)) (word_at 0 not_word)) (omega arith)
    (in_first_and _ _ _ (in_first_not _ _ _ (behind_not 0 _ _ _ (in_test _ _ _ (in_first_sum _ _ _ (in_first_product _ _ _ (in_first_unary _ _ _
    (behind_parenthesis 0 (in_turns n) (word_at 0 not_word) (n + n) (behind_turns n)))))))))

the_33rd_in_turns : OpensInExpression (in_turns 16) (word_at 0 not_word) 32
the_33rd_in_turns = behind_turns 16

a_one : SpellsSum (placed 1 (number 1) ∷ []) (number_literal 1)
a_one = one_product _ _ (one_unary _ _ (one_primary _ _ (a_number 1 1)))

-- NOT 1 AND NOT 1 = - (: the first NOT is closed, the second NOT and the minus sign are open
mixed : OpensInExpression (word_at 0 not_word ∷ placed 1 (number 1) ∷ word_at 2 and_word ∷ word_at 3 not_word ∷ placed 1 (number 1) ∷ sign_at 5 equals ∷ sign_at 6 minus_sign ∷ [])
    (sign_at 7 open_parenthesis) 2
mixed = in_first_and _ _ _ (behind_and 2 (word_at 0 not_word ∷ placed 1 (number 1) ∷ []) _ _ _ _ (one_not _ _ (not_not 0 _ _ (one_test _ _ (one_sum _ _ a_one))))
    (behind_not 3 _ _ _ (in_test _ _ _ (behind_comparison 5 equals equal (placed 1 (number 1) ∷ []) (sign_at 6 minus_sign ∷ []) _ _ _ is_equal a_one
    (in_first_product _ _ _ (in_first_unary _ _ _ (behind_sign 6 [] _ _ (parenthesis_itself 7))))))))

-- SELECT COUNT( and 31 parentheses: 32 are open
in_a_count : OpensInQuery (word_at 0 select_word ∷ word_at 1 count_word ∷ sign_at 2 open_parenthesis ∷ times 31 (sign_at 0 open_parenthesis)) (sign_at 0 open_parenthesis) 32
in_a_count = in_item 0 (word_at 0 select_word ∷ []) _ _ _ (before_first_item 0) (in_argument 1 2 count_word count _ _ _ is_count (behind_parentheses 31))

-- SELECT 1 FROM T WHERE and 32 NOTs: 32 are open
in_a_condition : OpensInQuery (word_at 0 select_word ∷ placed 7 (number 1) ∷ word_at 9 from_word ∷ name_at 14 (84 ∷ []) ∷ word_at 16 where_word ∷ times 32 (word_at 0 not_word))
    (word_at 0 not_word) 32
in_a_condition = in_condition 0 9 14 16 (84 ∷ []) one_token _ (one_item ∷ []) _ _ items_of_one the_33rd_not
