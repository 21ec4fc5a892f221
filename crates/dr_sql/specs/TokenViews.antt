-- What tokens stand for, in the definitions' words.
use Rattle.std.specs.Prelude.{ℕ, List, [], ◌∷◌, ◌==◌, Bool, true, false, if◌then◌else◌, map}
use Rattle.dr_meaning.specs.Tokens as language
use Rattle.dr_sql.specs.declared.word.Word.{Word}
use Rattle.dr_sql.specs.declared.word.Sign.{Sign}
use Rattle.dr_sql.specs.declared.token.Token.{Token}
use Rattle.dr_sql.specs.declared.token.PlacedToken.{PlacedToken}

abbrev pub word_view : Word → language.Word
word_view Word.Select = language.select_word
word_view Word.From = language.from_word
word_view Word.Where = language.where_word
word_view Word.Group = language.group_word
word_view Word.By = language.by_word
word_view Word.As = language.as_word
word_view Word.Within = language.within_word
word_view Word.Record = language.record_word
word_view Word.And = language.and_word
word_view Word.Or = language.or_word
word_view Word.Not = language.not_word
word_view Word.Like = language.like_word
word_view Word.Contains = language.contains_word
word_view Word.Is = language.is_word
word_view Word.Null = language.null_word
word_view Word.True = language.true_word
word_view Word.False = language.false_word
word_view Word.Count = language.count_word
word_view Word.Sum = language.sum_word
word_view Word.Min = language.min_word
word_view Word.Max = language.max_word
word_view Word.Distinct = language.distinct_word
word_view Word.Order = language.order_word
word_view Word.Limit = language.limit_word
word_view Word.Asc = language.asc_word
word_view Word.Desc = language.desc_word

abbrev pub sign_view : Sign → language.Sign
sign_view Sign.Comma = language.comma
sign_view Sign.Open = language.open_parenthesis
sign_view Sign.Close = language.close_parenthesis
sign_view Sign.Dot = language.dot
sign_view Sign.Star = language.star
sign_view Sign.Plus = language.plus_sign
sign_view Sign.Minus = language.minus_sign
sign_view Sign.Equal = language.equals
sign_view Sign.Differ = language.differs
sign_view Sign.Less = language.less_than
sign_view Sign.LessOrEqual = language.less_or_equal
sign_view Sign.Greater = language.greater_than
sign_view Sign.GreaterOrEqual = language.greater_or_equal
sign_view Sign.Semicolon = language.semicolon

-- bytes without each quote that stands behind a quote that was kept
abbrev pub undoubled_from : Bool → List ℕ → List ℕ
undoubled_from skips [] = []
undoubled_from false (b ∷ bs) = b ∷ undoubled_from (b == 39) bs
undoubled_from true (b ∷ bs) = if b == 39 then undoubled_from false bs else b ∷ undoubled_from false bs

-- what stands between single quotes, with one quote for each two
abbrev pub undoubled : List ℕ → List ℕ
undoubled bs = undoubled_from false bs

abbrev pub token_view : Token → language.QueryToken
token_view (Token.Word w) = language.reserved (word_view w)
token_view (Token.Name n) = language.identifier n.now
token_view (Token.Number n) = language.number n.value
token_view (Token.Text t) = language.text (undoubled t.now)
token_view (Token.Sign s) = language.sign (sign_view s)
token_view Token.Bad = language.bad

abbrev pub placed_view : PlacedToken → language.PlacedToken
placed_view t = record { place = t.place; token = token_view t.token }

abbrev pub placed_views : List PlacedToken → List language.PlacedToken
placed_views ts = map placed_view ts
