use Rattle.std.proofs.Common.{◌≡◌, ◌≤◌, ◌<◌, ◌∷◌, [], ap, sym, ◌∙◌, subst, ℕ, List, length, take, drop}
use Rattle.dr_formats.specs.Writing.{cut_pages}
use Rattle.dr_levels.specs.Views.{triplets_view, triplets_form}
use Rattle.dr_write.specs.Cutting.{records_of, record_end, repetitions_of}
use Rattle.dr_write.proofs.CuttingLemmas.{first_page, page_within, page_some, same_levels}
use Rattle.dr_write.proofs.cutting.page_length.Goals as goal

abbrev end_of : (c : goal.After-record_end) → c.record_end.result ≡ record_end (repetitions_of (triplets_view c.args.triplets)) c.enough.result
end_of c = c.record_end.ensures ∙ ap (λ (rs : List ℕ). record_end rs c.enough.result) (same_levels c.levels.result.now (triplets_view c.args.triplets) c.levels.ensures)

pub returns-clause-page : goal.returns-clause-page
returns-clause-page c =
    let ts = triplets_view c.args.triplets in
    let k = (triplets_form c.args.triplets).kind in
    subst (λ (n : ℕ). cut_pages k [] (records_of ts) ≡ take n ts ∷ cut_pages k [] (records_of (drop n ts))) (sym (end_of c)) (first_page k ts c.enough.result c.requires c.enough.ensures.some c.enough.ensures.full)

pub returns-clause-some : goal.returns-clause-some
returns-clause-some c = subst (λ (n : ℕ). 0 < n) (sym (end_of c)) (page_some (triplets_view c.args.triplets) c.enough.result c.requires c.enough.ensures.some)

pub returns-clause-within : goal.returns-clause-within
returns-clause-within c = subst (λ (n : ℕ). n ≤ length (triplets_view c.args.triplets)) (sym (end_of c)) (page_within (triplets_view c.args.triplets) c.enough.result)
