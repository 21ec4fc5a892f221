-- The readings of a group query mean what is put of records.
use Rattle.std.proofs.Common.{◌≡◌, ℕ, suc, List, [], ◌∷◌, ◌++◌, refl, ap}
use Rattle.std.specs.List.{flat_map}
use Rattle.dr_meaning.specs.Path.{Step, longer}
use Rattle.dr_meaning.specs.Record.{Node}
use Rattle.dr_meaning.specs.Rows.{rows}
use Rattle.dr_meaning.specs.Expression.{evaluate, expression_chain, longest_chain}
use Rattle.dr_meaning.specs.Query.{GroupTerm, key, count_rows, aggregate}
use Rattle.dr_kept_laws.specs.GroupFlowLaws.{all_means}
use Rattle.dr_partials.specs.PartialTypes.{aggregates_among}
use Rattle.dr_partials.specs.Putting.{Put, puts_of_rows, puts_of_terms}
use Rattle.dr_made_laws.specs.Readings.{keys_put, Trigger, term_readings, ReadingsMeanPuts}
use Rattle.std.specs.Prelude.{map, None}

terms_mean : (keys : List (List Step)) (S : List Node) (at : ℕ → Trigger) (i : ℕ) (ts : List GroupTerm)
    → all_means (term_readings keys i ts at) S ≡ puts_of_terms keys i ts S
terms_mean keys S at i [] = refl
terms_mean keys S at i (key j ∷ ts) = terms_mean keys S at (suc i) ts
terms_mean keys S at i (count_rows ∷ ts) =
    ap (λ (ps : List Put). puts_of_rows keys i (λ row. None) (flat_map (rows (longest_chain keys)) S) ++ ps) (terms_mean keys S at (suc i) ts)
terms_mean keys S at i (aggregate a e ∷ ts) =
    ap (λ (ps : List Put). puts_of_rows keys i (evaluate e) (flat_map (rows (longer (longest_chain keys) (expression_chain e))) S) ++ ps)
    (terms_mean keys S at (suc i) ts)

pub readings_mean_puts : ReadingsMeanPuts
readings_mean_puts keys items first at S =
    ap (λ (ps : List Put). map (keys_put keys) (flat_map (rows (longest_chain keys)) S) ++ ps) (terms_mean keys S at 0 (aggregates_among items))
