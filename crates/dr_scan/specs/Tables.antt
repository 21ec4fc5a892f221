-- What is scanned of tablets: partials, or the tablets that are left.
use Rattle.std.specs.Prelude.{◌≡◌, ℕ, true, List, [], ◌∷◌, ◌++◌, ⊤}
use Rattle.std.specs.List.{list_all}
use Rattle.dr_meaning.specs.Schema.{Schema}
use Rattle.dr_meaning.specs.Record.{Node, is_record}
use Rattle.dr_meaning.specs.Query.{Query}
use Rattle.dr_partials.specs.Partials.{Stands}
use Rattle.dr_partials.specs.Rewriting.{leaf_query}
use Rattle.dr_group.specs.Partials.{partial_view}
use Rattle.dr_group.specs.declared.partial.Partial.{Partial}
use Rattle.dr_reading.specs.Left.{LeftTablet}
use Rattle.dr_table.specs.LeftViews.{all_tried_view}
use Rattle.dr_scan.specs.declared.tablet.Scanned.{Scanned}

-- each partial stands for the leaf query on the records of its tablet, which are records of the schema
abbrev pub AllStand : Schema → Query → List (List Node) → List Partial → Type 0
AllStand s q [] [] = ⊤
AllStand s q (R ∷ Rs) (p ∷ ps) = (list_all (is_record s.fields) R ≡ true) × Stands s.fields (leaf_query q) R (partial_view p) × AllStand s q Rs ps
AllStand s q Rs ps = ⊥

-- what is left with what was scanned of one tablet more
abbrev pub with_scanned : ℕ → Scanned → List LeftTablet → List LeftTablet
with_scanned t (Scanned.Given p) ls = ls
with_scanned t (Scanned.Left tried) ls = ls ++ record { tablet = t; tried = all_tried_view tried.items } ∷ []
