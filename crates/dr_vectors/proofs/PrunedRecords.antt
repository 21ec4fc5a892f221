-- What answers to each row leave of a record, by computation.
use Rattle.std.specs.Prelude.{◌≡◌, ℕ, List, [], ◌∷◌, true, false, Option, Some, None, codes, refl}
use Rattle.std.specs.Fmt.{digits}
use Rattle.json.specs.Print.{escape_byte}
use Rattle.dr_meaning.specs.Print.{record_text}
use Rattle.dr_meaning.specs.Record.{Node}
use Rattle.dr_rows.specs.Pruning.{pruned_along}
use Rattle.dr_meaning.proofs.WorkedSchemas.{document}
use Rattle.dr_meaning.proofs.WorkedRecords.{record_10}
use Rattle.dr_meaning.proofs.WorkedPaths.{language_level}

abbrev text_of_kept : Option Node → List ℕ
text_of_kept None = []
text_of_kept (Some n) = record_text document n

-- one language of the first name, and the third name
pub two_rows_kept : text_of_kept (pruned_along language_level record_10 (false ∷ true ∷ false ∷ true ∷ [])).kept ≡
    codes "{\"DocId\":10,\"Links\":{\"Backward\":[],\"Forward\":[20,40,60]},\"Name\":[{\"Language\":[{\"Code\":\"en\"}],\"Url\":\"http://A\"},{\"Language\":[{\"Code\":\"en-gb\",\"Country\":\"gb\"}]}]}\n"
unfolding record_text escape_byte digits
two_rows_kept = refl

-- where no row is kept, nothing is left of the record; missing answers are no
pub no_row_kept : ((pruned_along language_level record_10 (false ∷ false ∷ false ∷ false ∷ [])).kept ≡ None) × ((pruned_along language_level record_10 (false ∷ false ∷ [])).kept ≡ None)
no_row_kept = (refl, refl)
