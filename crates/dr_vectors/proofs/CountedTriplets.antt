-- How many triplets the leaves of a query have: as many steps a scan counts that reads them, by computation.
use Rattle.std.specs.Prelude.{◌≡◌, ℕ, zero, suc, List, [], ◌∷◌, ◌++◌, refl}
use Rattle.dr_meaning.specs.Schema.{Fields}
use Rattle.dr_meaning.specs.Path.{Leaf, leaves}
use Rattle.dr_meaning.specs.Record.{Node}
use Rattle.dr_meaning.proofs.WorkedSchemas.{document}
use Rattle.dr_meaning.proofs.WorkedRecords.{record_10, record_20}
use Rattle.dr_gen.specs.Document.{document_fields}
use Rattle.dr_gen.specs.Generator.{record_of}
use Rattle.dr_scan.specs.FileRecords.{triplets_at}

abbrev at : ℕ → List Leaf → List Leaf
at i [] = []
at zero (l ∷ ls) = l ∷ []
at (suc i) (l ∷ ls) = at i ls

-- those of a schema's leaves that have these places
abbrev chosen : Fields → List ℕ → List Leaf
chosen fs [] = []
chosen fs (i ∷ places) = at i (leaves fs) ++ chosen fs places

-- SELECT DocId, Name.Url FROM Document WHERE Name.Language.Code = 'en-gb', over both worked records
pub worked_steps : triplets_at (chosen document (0 ∷ 3 ∷ 5 ∷ [])) (record_10 ∷ record_20 ∷ []) ≡ 11
worked_steps = refl

abbrev made_from : ℕ → ℕ → List Node
made_from k zero = []
made_from k (suc n) = record_of k ∷ made_from (suc k) n

-- the query of a trial, over the first 60 made records; what a record has of these leaves depends on its number's remainders by 3, 4 and 5 alone, so
-- that of 150,000 there are 2,500 times as many: 1,020,000
pub made_steps : triplets_at (chosen document_fields (0 ∷ 2 ∷ 3 ∷ 5 ∷ [])) (made_from 0 60) ≡ 408
unfolding record_of
made_steps = refl
