-- What tablets that are left stand for.
use Rattle.std.specs.Prelude.{List, map}
use Rattle.dr_reading.specs.Left as meant
use Rattle.dr_table.specs.declared.left.Tried.{Tried}
use Rattle.dr_table.specs.declared.left.LeftTablet.{LeftTablet}

abbrev pub tried_view : Tried → meant.Tried
tried_view t = record { directory = t.directory; cause = t.cause }

abbrev pub all_tried_view : List Tried → List meant.Tried
all_tried_view ts = map tried_view ts

abbrev pub left_view : LeftTablet → meant.LeftTablet
left_view l = record { tablet = l.tablet; tried = all_tried_view l.tried.items }

abbrev pub all_left_view : List LeftTablet → List meant.LeftTablet
all_left_view ls = map left_view ls
