use Rattle.std.proofs.Common.{◌∙◌, ap, ◌++◌, ◌∷◌, List, ℕ, string_bytes, codes}
use Rattle.dr_nested.specs.SchemaView.{schema_view}
use Rattle.dr_nested.proofs.WritingLemmas.{written_message}
use Rattle.dr_nested.proofs.writing.write_message.Goals as goal

pub returns : goal.returns
returns c =
    c.in_ok-push_str-2.ensures.bytes
    ∙ written_message (string_bytes c.args.out.now) (string_bytes c.write_word-2.new.out) (string_bytes c.write_fields.new.out) (schema_view c.args.schema.now)
    (c.in_ok-write_word-2.ensures
    ∙ ap (λ (x : List ℕ). x ++ (32 ∷ codes "{")) (c.in_ok-write_word.ensures
    ∙ ap (λ (w : List ℕ). string_bytes c.push_str.new.self ++ (32 ∷ w)) c.as_str.ensures.value
    ∙ ap (λ (x : List ℕ). x ++ (32 ∷ string_bytes c.args.schema.now.name)) c.in_ok-push_str.ensures.bytes))
    c.in_ok-write_fields.ensures
