-- `fsm --schema F FIELD..`: the automaton of leaves in schema order. It reads no input.
use Rattle.std.specs.Prelude.{ℕ, false, List, Some, map, string_bytes}
use Rattle.dr_meaning.specs.Fsm as meant
use Rattle.dr_commands.specs.Meaning.{Meaning, plain}
use Rattle.dr_commands.specs.declared.commands.fsm.Fsm.{Fsm}

-- its values
pub record FsmWords : Type 0 where
  pub schema : List ℕ
  pub fields : List (List ℕ)

abbrev pub fsm_view : Fsm → FsmWords
fsm_view f = record { schema = string_bytes f.schema; fields = map string_bytes f.fields.items }

-- what it means
abbrev pub fsm_meaning : FsmWords → Meaning
fsm_meaning w = record {
  file = Some w.schema;
  reads_input = false;
  puts_files = false;
  links = 0;
  talks = false;
  outcome = λ look. plain (meant.fsm look.file w.fields);
}
