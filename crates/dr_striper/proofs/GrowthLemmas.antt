-- The columns of one record more.
use Rattle.std.specs.Prelude.{◌≡◌, List, [], ◌∷◌, ◌++◌, map}
use Rattle.std.proofs.Common.{refl, sym, ap, ap₂, ◌∙◌, append_assoc, append-nil}
use Rattle.dr_meaning.specs.Path.{Step}
use Rattle.dr_meaning.specs.Record.{Node}
use Rattle.dr_meaning.specs.Column.{record_column, column}
use Rattle.dr_striper.specs.Striping.{gained}

column-push : (p : List Step) (R : List Node) (n : Node) → column p R ++ record_column p n ≡ column p (R ++ n ∷ [])
column-push p [] n = sym (append-nil (record_column p n))
column-push p (m ∷ R) n = append_assoc (record_column p m) (column p R) (record_column p n) ∙ ap (λ ts. record_column p m ++ ts) (column-push p R n)

-- where columns gain a record's, they are those of the records with this one behind them
pub columns-push : (F : List (List Step)) (R : List Node) (n : Node) → gained (λ p. record_column p n) F (map (λ p. column p R) F) ≡ map (λ p. column p (R ++ n ∷ [])) F
columns-push [] R n = refl
columns-push (p ∷ F) R n = ap₂ (λ x xs. x ∷ xs) (column-push p R n) (columns-push F R n)
