-- What a text's length and its end decide.
use Rattle.std.specs.Prelude.{◌≡◌, ℕ, ◌<◌, ◌≤◌, List, length, true, false, nat_lt, Ok, Err}
use Rattle.std.proofs.Common.{arith, refl}
use Rattle.std.proofs.lemmas.Bool.Decides.{nat_tests}
use Rattle.dr_meaning.specs.Schema.{Schema, is_schema}
use Rattle.dr_meaning.specs.SchemaText.{Reading, too_long, syntax, parse_schema, read_tokens, tokens_of, reading_start, at_text_end}
use Rattle.dr_meaning.proofs.SchemaValid.{accepted_exactly}
use Rattle.dr_nested.specs.Reading.{expected_view}
use Rattle.dr_nested.specs.declared.state.Expected.{Expected}

pub text_is_too_long : (text : List ℕ) → 1048576 < length text → parse_schema text ≡ Err (record { place = 1048576; problem = too_long })
unfolding parse_schema
text_is_too_long text h = let t : nat_lt 1048576 (length text) ≡ true = grind (arith, nat_tests) in rw t refl

pub text_is_read : (text : List ℕ) → length text ≤ 1048576 → parse_schema text ≡ read_tokens (length text) (tokens_of text) reading_start
unfolding parse_schema
text_is_read text h = let t : nat_lt 1048576 (length text) ≡ false = grind (arith, nat_tests) in rw t refl

pub ends_early : (n : List ℕ) (e : Expected) (m : Reading) (size : ℕ) → (e ≡ Expected.TextEnd → ⊥) → at_text_end (expected_view n e) m size ≡ Err (record { place = size; problem = syntax })
ends_early n Expected.MessageWord m size h = refl
ends_early n Expected.MessageName m size h = refl
ends_early n Expected.MessageBrace m size h = refl
ends_early n Expected.FirstField m size h = refl
ends_early n Expected.NextField m size h = refl
ends_early n Expected.AfterGroup m size h = refl
ends_early n (Expected.KindOrGroup r) m size h = refl
ends_early n (Expected.LeafName r k) m size h = refl
ends_early n (Expected.LeafEnd r k) m size h = refl
ends_early n (Expected.GroupName r) m size h = refl
ends_early n (Expected.GroupBrace r) m size h = refl
ends_early n Expected.TextEnd m size h = absurd (h refl)

pub ends_well : (n : List ℕ) (e : Expected) (m : Reading) (size : ℕ) → e ≡ Expected.TextEnd → at_text_end (expected_view n e) m size ≡ Ok (record { name = m.message; fields = m.fields })
ends_well n e m size h = rw h refl

-- an accepted text gives a schema that keeps the rules
pub accepted_is_schema : (text : List ℕ) (s : Schema) → parse_schema text ≡ Ok s → is_schema s ≡ true
accepted_is_schema text s h = ((accepted_exactly text s).0 h).2
