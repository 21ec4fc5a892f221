-- The text of tokens, piece by piece.
use Rattle.std.specs.Prelude.{◌≡◌, ℕ, List, [], ◌∷◌, ◌++◌, string_bytes, codes}
use Rattle.std.proofs.Common.{sym, ap, ◌∙◌, append_assoc}
use Rattle.dr_meaning.specs.Schema.{Fields, group, Schema}
use Rattle.dr_meaning.specs.SchemaText.{Token, name, close_brace, separated, field_tokens, shape_tokens, repetition_word, schema_text}
use Rattle.dr_nested.specs.declared.shape.Field.{Field}
use Rattle.dr_nested.specs.Views.{SeenField, rep_view, shape_view, fields_view}
use Rattle.dr_nested.proofs.ViewLemmas.{view-field}

-- a group between its braces
pub written_group : (o n a b : List ℕ) (fs : Fields) → a ≡ ((o ++ (32 ∷ codes "group")) ++ (32 ∷ n)) ++ (32 ∷ codes "{")
    → ((ts : List Token) → b ++ separated ts ≡ a ++ separated (field_tokens fs ++ ts))
    → (ts : List Token) → (b ++ (32 ∷ codes "}")) ++ separated ts ≡ o ++ separated (shape_tokens (group fs) n ++ ts)
written_group o n a b fs e h ts =
    append_assoc b (32 ∷ codes "}") (separated ts) ∙ h (close_brace ∷ ts) ∙ ap (λ (x : List ℕ). x ++ separated (field_tokens fs ++ close_brace ∷ ts)) e
    ∙ simp append_assoc

field_step : (o w : List ℕ) (S R ts : List Token) → (o ++ (32 ∷ w)) ++ separated (S ++ (R ++ ts)) ≡ o ++ separated (name w ∷ ((S ++ R) ++ ts))
field_step o w S R ts = append_assoc o (32 ∷ w) (separated (S ++ (R ++ ts))) ∙ ap (λ (x : List Token). o ++ (32 ∷ (w ++ separated x))) (sym (append_assoc S R ts))

-- a field before the others of its group
pub written_field : (o p q : List ℕ) (f : Field) (rest : List Field) → p ≡ o ++ (32 ∷ repetition_word (rep_view f.rep))
    → ((ts : List Token) → q ++ separated ts ≡ p ++ separated (shape_tokens (shape_view f.shape) (string_bytes f.name) ++ ts))
    → (ts : List Token) → q ++ separated (field_tokens (fields_view rest) ++ ts) ≡ o ++ separated (field_tokens (fields_view (f ∷ rest)) ++ ts)
written_field o p q f rest e h ts =
    h (field_tokens (fields_view rest) ++ ts)
    ∙ ap (λ (x : List ℕ). x ++ separated (shape_tokens (shape_view f.shape) (string_bytes f.name) ++ (field_tokens (fields_view rest) ++ ts))) e
    ∙ field_step o (repetition_word (rep_view f.rep)) (shape_tokens (shape_view f.shape) (string_bytes f.name)) (field_tokens (fields_view rest)) ts
    ∙ ap (λ (g : SeenField). o ++ separated (name (repetition_word g.repetition) ∷ ((shape_tokens g.shape g.name ++ field_tokens (fields_view rest)) ++ ts))) (sym (view-field f))

-- a message between its words
pub written_message : (o a b : List ℕ) (s : Schema) → a ≡ ((o ++ codes "message") ++ (32 ∷ s.name)) ++ (32 ∷ codes "{")
    → ((ts : List Token) → b ++ separated ts ≡ a ++ separated (field_tokens s.fields ++ ts))
    → b ++ codes " }\n" ≡ o ++ schema_text s
unfolding schema_text
written_message o a b s e h = h (close_brace ∷ []) ∙ ap (λ (x : List ℕ). x ++ separated (field_tokens s.fields ++ close_brace ∷ [])) e ∙ simp append_assoc
