-- Numbers that options have.
use Rattle.std.specs.Prelude.{ℕ, length, Bool, ◌&&◌, nat_le, nat_lt, if◌then◌else◌, Option, Some, None}
use Rattle.std.specs.List.{list_all}
use Rattle.std.specs.Char.{digit_value}
use Rattle.std.specs.Str.Parse.{digits_value, without_leading_plus}
use Rattle.clap.specs.Words.{Rule, Text}
use Rattle.clap.specs.declared.builder.value_parser.ValueParser.TheVariants as parser
use Rattle.dr_words.specs.Rules.{option_rule}

-- an option `--NAME NUMBER`, at most once, whose number lies between these bounds
abbrev pub number_rule : Text → ℕ → ℕ → Rule
number_rule name low high = record (option_rule name) { parser = Some (parser.Unsigned low high) }

-- one decimal digit or more, and nothing else
abbrev pub is_numeral : Text → Bool
is_numeral t = nat_lt 0 (length t) && list_all (λ c. nat_lt (digit_value c) 10) t

-- the number that digits write, which a plus may precede
abbrev pub value_of : Text → ℕ
value_of t = digits_value 10 (without_leading_plus t)

-- whether a text writes a number between these bounds
abbrev pub is_number_in : ℕ → ℕ → Text → Bool
is_number_in low high t = is_numeral (without_leading_plus t) && nat_le low (value_of t) && nat_le (value_of t) high

-- the number of an option between these bounds, or the other where it isn't given; clap takes no number out of the bounds
abbrev pub number_in : ℕ → ℕ → ℕ → Option Text → ℕ
number_in low high other None = other
number_in low high other (Some t) = if is_number_in low high t then value_of t else other
