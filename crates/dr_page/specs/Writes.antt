-- What comes of writing, against what the definitions say.
use Rattle.std.specs.Prelude.{◌≡◌, ℕ, List, ◌++◌, length, true, Result, Ok, Err}
use Rattle.std.specs.List.{list_all}
use Rattle.dr_memory.specs.declared.NoMemory.{NoMemory}
use Rattle.dr_formats.specs.Page.{level_data, column_repetitions, column_definitions, is_triplet, body_bytes}
use Rattle.dr_levels.specs.declared.triplets.Triplets.{Triplets}
use Rattle.dr_levels.specs.Views.{triplets_view, triplets_form}
use Rattle.dr_meaning.specs.Lists.{BeginsWith}
use Rattle.dr_page.specs.declared.level_lengths.LevelLengths.{LevelLengths}
use Rattle.dr_page.specs.declared.shape.PageForm.{PageForm}
use Rattle.dr_page.specs.Views.{page_form_view}

-- the bytes joined those before; where memory ran out, some bytes may have
abbrev pub Writes : {A : Type 0} → List ℕ → List ℕ → List ℕ → Result A NoMemory → Type 0
Writes bytes before now (Ok a) = now ≡ before ++ bytes
Writes bytes before now (Err e) = BeginsWith before now

-- each triplet can be written for its leaf: its levels are at most the greatest, and it has a value that can be written exactly where it is present
abbrev pub AreWritable : ℕ → Triplets → Type 0
AreWritable max_repetition ts = list_all (is_triplet (triplets_form ts).kind max_repetition (triplets_form ts).greatest) (triplets_view ts) ≡ true

-- these are the lengths of the hybrid data that is written for the levels of triplets
abbrev pub AreLengthsOf : ℕ → Triplets → LevelLengths → Type 0
AreLengthsOf max_repetition ts n = (n.repetitions ≡ length (level_data max_repetition (column_repetitions (triplets_view ts))))
    × (n.definitions ≡ length (level_data (triplets_form ts).greatest (column_definitions (triplets_view ts))))

-- the body of a page of this form with these triplets
abbrev pub body_of : PageForm → ℕ → Triplets → List ℕ
body_of form max_repetition ts = body_bytes (page_form_view form) (triplets_form ts).kind max_repetition (triplets_form ts).greatest (triplets_view ts)
