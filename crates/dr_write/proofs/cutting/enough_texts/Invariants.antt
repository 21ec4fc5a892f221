use Rattle.std.proofs.Common.{◌≡◌, ◌<◌, ℕ, drop, take, length}
use Rattle.dr_meaning.specs.Schema.{text_kind}
use Rattle.dr_formats.specs.Page.{column_values}
use Rattle.dr_formats.specs.Plain.{plain_bytes}
use Rattle.dr_levels.specs.Views.{triplets_view}
use Rattle.dr_write.proofs.CuttingLemmas.{IsShort}
use Rattle.dr_write.proofs.cutting.enough_texts.Given as goal

-- the size is that of the triplets that were passed, and no front of them fills a page
abbrev pub invariant-triplets : goal.invariant-triplets
invariant-triplets l = (triplets_view l.rest ≡ drop l.count (triplets_view l.triplets))
    × (l.size ≡ length (plain_bytes text_kind (column_values (take l.count (triplets_view l.triplets)))))
    × ((m : ℕ) → m < l.count → IsShort text_kind (triplets_view l.triplets) m)
