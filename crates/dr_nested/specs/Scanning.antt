-- Scanning a schema text: what a piece of it did to the state of reading.
use Rattle.std.specs.Prelude.{◌≡◌, ℕ, List, length, Result, Ok, Err, MatchOption, ⊤}
use Rattle.dr_meaning.specs.SchemaText as text
use Rattle.dr_nested.specs.Faults.{schema_fault_view}
use Rattle.dr_nested.specs.Reading.{reading_view}
use Rattle.dr_nested.specs.declared.state.Reading.{Reading}
use Rattle.dr_nested.specs.declared.fault.SchemaFault.{SchemaFault}

-- the tokens that a piece puts before those behind it led from one state to another, or to a fault, whatever is behind them
abbrev pub ReadsPiece : (List text.Placed → List text.Placed) → text.Reading → text.Reading → Result (Unit {0}) SchemaFault → Type 0
ReadsPiece piece before now (Ok _) = (size : ℕ) (ts : List text.Placed) → text.read_tokens size (piece ts) before ≡ text.read_tokens size ts now
ReadsPiece piece before now (Err e) =
    MatchOption (schema_fault_view e) ⊤ (λ f. (size : ℕ) (ts : List text.Placed) → text.read_tokens size (piece ts) before ≡ Err f)

-- a whole text led to a state, whose end then decides, or to a fault
abbrev pub ReadsText : List ℕ → Result Reading SchemaFault → Type 0
ReadsText bytes (Ok r) =
    text.read_tokens (length bytes) (text.tokens_of bytes) text.reading_start
    ≡ text.at_text_end (reading_view r).expected (reading_view r) (length bytes)
ReadsText bytes (Err e) = MatchOption (schema_fault_view e) ⊤ (λ f. text.read_tokens (length bytes) (text.tokens_of bytes) text.reading_start ≡ Err f)
