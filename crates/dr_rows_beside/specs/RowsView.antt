-- What rows in code stand for.
use Rattle.std.specs.Prelude.{List, map}
use Rattle.dr_rows_beside.specs.declared.rows.Rows.{Rows}
use Rattle.dr_rows_beside.specs.Places.{place_left}
use Rattle.dr_rows_beside.specs.Rows.{Row, run, picked, follower_view, slots_view}

-- the rows from the next one on, whether they come or not
abbrev pub all_rows_view : Rows → List Row
all_rows_view r = run r.own.leaf (map follower_view r.beside.items) (slots_view r.slots.items) (place_left r.own)

-- those that come
abbrev pub rows_view : Rows → List Row
rows_view r = picked r.bits.now (all_rows_view r)
