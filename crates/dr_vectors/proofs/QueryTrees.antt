-- Syntax trees of queries that binding refuses, so that no command shows them, by computation.
use Rattle.std.specs.Prelude.{◌≡◌, [], ◌∷◌, Some, None, Ok, codes, refl}
use Rattle.dr_meaning.specs.Syntax.{whole_record, count_rows}
use Rattle.dr_meaning.specs.Parse.{parse_query, items, keys, whole_expression, argument}

-- the rows of a record, counted within it
pub rows_within_record : parse_query (codes "SELECT COUNT(*) WITHIN RECORD AS n FROM T") ≡ Ok (record {
  items = record { place = 7; term = count_rows (Some (record { place = 16; node = whole_record })); name = Some (codes "n") } ∷ [];
  table = record { place = 40; name = codes "T" };
  condition = None;
  keys = [];
})
unfolding parse_query items keys whole_expression argument
rows_within_record = refl
