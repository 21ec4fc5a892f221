-- A line that reads as a value, one that is plainly a record, and one that doesn't.
use Rattle.std.proofs.Common.{◌≡◌, ℕ, List, Bool, true, false, Option, Some, None, Ok, Err, subst, option_map, option_and_then, IsUtf8, refl, ap, ◌∙◌}
use Rattle.std.specs.Prelude.{IfSome}
use Rattle.std.specs.Str.{is_utf8}
use Rattle.std.proofs.lemmas.Str.{is_utf8-from_IsUtf8, IsUtf8-from_is_utf8}
use Rattle.json.specs.Json as json
use Rattle.serde_json.specs.Data.{Data, object}
use Rattle.serde_json.specs.Read.{read, of_json}
use Rattle.dr_meaning.specs.Schema.{Fields}
use Rattle.dr_meaning.specs.JsonRecord.{not_json, record_of_value, record_of_line}
use Rattle.dr_json.specs.Raw.{IsLineOf, slots_raw}
use Rattle.dr_json.specs.Plain.{PlainRecord}

pub line_read : (fs : Fields) (line : List ℕ) (d : Data) → IsUtf8 line → read line ≡ Some d → record_of_line fs line ≡ record_of_value fs d
unfolding record_of_line
line_read fs line d u r = rw (is_utf8-from_IsUtf8 line u, r) refl

refused_at : (fs : Fields) (line : List ℕ) (b : Bool) → is_utf8 line ≡ b → (IsUtf8 line → read line ≡ None) → record_of_line fs line ≡ Err not_json
unfolding record_of_line
refused_at fs line true e h = rw (e, h (IsUtf8-from_is_utf8 line e)) refl
refused_at fs line false e h = rw e refl

pub line_refused : (fs : Fields) (line : List ℕ) → (IsUtf8 line → read line ≡ None) → record_of_line fs line ≡ Err not_json
line_refused fs line h = refused_at fs line _ refl h

-- its own value is plainly a record
pub line_plain : (fs : Fields) (line : List ℕ) (ms : json.Members) → IsLineOf line (json.object ms) → PlainRecord fs ms true → record_of_line fs line ≡ Ok (slots_raw fs 0 ms)
line_plain fs line ms l p = line_read fs line (object p.0) l.0 (ap (option_and_then of_json) l.1 ∙ ap (option_map object) p.1) ∙ p.2

pub where_some : {A : Type 0} (P : A → Type 0) (o : Option A) (x : A) → o ≡ Some x → IfSome o P → P x
where_some {A} P o x e h = subst (λ (p : Option A). IfSome p P) e h
