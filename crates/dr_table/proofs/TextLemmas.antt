-- The text of a table by its parts.
use Rattle.std.proofs.Common.{◌≡◌, ℕ, List, [], ◌∷◌, ◌++◌, refl, ap, ◌∙◌, append_assoc}
use Rattle.std.specs.Prelude.{codes}
use Rattle.std.specs.Fmt.{decimal}
use Rattle.dr_meaning.specs.SchemaText.{schema_text}
use Rattle.dr_formats.specs.TableFile.{Table, leaf_texts, table_text}
use Rattle.dr_table.specs.Writing.{head_lines, leaf_line_text, leaf_lines_text}

leaves_before : (ds : List (List ℕ)) (behind : List ℕ) → leaf_lines_text ds ++ behind ≡ leaf_texts ds behind
leaves_before [] behind = refl
leaves_before (d ∷ ds) behind =
    append_assoc (leaf_line_text d) (leaf_lines_text ds) behind ∙ ap (λ (x : List ℕ). leaf_line_text d ++ x) (leaves_before ds behind)
    ∙ ap (λ (x : List ℕ). codes "leaf " ++ x) (append_assoc d (codes "\n") (leaf_texts ds behind))

head_before : (copies tablets : ℕ) (behind : List ℕ) → head_lines copies tablets ++ behind
    ≡ codes "dremel-table 1" ++ (10 ∷ (codes "tablets " ++ (decimal tablets ++ (10 ∷ (codes "copies " ++ (decimal copies ++ (10 ∷ behind)))))))
head_before copies tablets behind =
    ap (λ (x : List ℕ). codes "dremel-table 1\ntablets " ++ x)
    (append_assoc (decimal tablets) (codes "\ncopies " ++ (decimal copies ++ codes "\n")) behind
    ∙ ap (λ (x : List ℕ). decimal tablets ++ (codes "\ncopies " ++ x)) (append_assoc (decimal copies) (codes "\n") behind))

-- the head, the leaf lines, the line `schema` and the schema, appended to nothing
pub text_is_written : (t : Table) (start head leaves line whole schema : List ℕ) → start ≡ [] → head ≡ start ++ head_lines t.copies t.tablets → leaves ≡ head ++ leaf_lines_text t.leaves → line ≡ leaves ++ codes "schema\n"
    → whole ≡ line ++ schema → schema ≡ schema_text t.schema → whole ≡ table_text t
unfolding table_text
text_is_written t start head leaves line whole schema s h l n w e =
    let a : head ≡ head_lines t.copies t.tablets = h ∙ ap (λ (x : List ℕ). x ++ head_lines t.copies t.tablets) s in
    w ∙ ap (λ (x : List ℕ). x ++ schema) (n ∙ ap (λ (x : List ℕ). x ++ codes "schema\n") (l ∙ ap (λ (x : List ℕ). x ++ leaf_lines_text t.leaves) a))
    ∙ append_assoc (head_lines t.copies t.tablets ++ leaf_lines_text t.leaves) (codes "schema\n") schema
    ∙ append_assoc (head_lines t.copies t.tablets) (leaf_lines_text t.leaves) (codes "schema\n" ++ schema)
    ∙ ap (λ (x : List ℕ). head_lines t.copies t.tablets ++ x) (leaves_before t.leaves (codes "schema\n" ++ schema) ∙ ap (λ (x : List ℕ). leaf_texts t.leaves (codes "schema\n" ++ x)) e)
    ∙ head_before t.copies t.tablets (leaf_texts t.leaves (codes "schema\n" ++ schema_text t.schema))
