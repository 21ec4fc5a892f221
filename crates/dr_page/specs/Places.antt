-- Places of texts.
use Rattle.dr_plain.specs.declared.values.TextPlace as plain
use Rattle.dr_levels.specs.declared.text_place.TextPlace.{TextPlace}

-- the same place, as columns have it
abbrev pub column_place : plain.TextPlace → TextPlace
column_place p = record { start = p.start; length = p.length }
