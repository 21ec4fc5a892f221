-- `stripe --schema F FIELD`: the column of a leaf over the records of the input.
use Rattle.std.specs.Prelude.{ℕ, true, false, List, Some, string_bytes}
use Rattle.dr_meaning.specs.Stripe as meant
use Rattle.dr_commands.specs.Meaning.{Meaning, plain}
use Rattle.dr_commands.specs.declared.commands.stripe.Stripe.{Stripe}

-- its values
pub record StripeWords : Type 0 where
  pub schema : List ℕ
  pub field : List ℕ

abbrev pub stripe_view : Stripe → StripeWords
stripe_view s = record { schema = string_bytes s.schema; field = string_bytes s.field }

-- what it means
abbrev pub stripe_meaning : StripeWords → Meaning
stripe_meaning w = record {
  file = Some w.schema;
  reads_input = true;
  puts_files = false;
  links = 0;
  talks = false;
  outcome = λ look. plain (meant.stripe look.file w.field look.input);
}
