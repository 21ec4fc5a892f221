-- How a query is served: `[--workers N] [--fan N] [--lag N]`.
use Rattle.std.specs.Prelude.{ℕ}
use Rattle.dr_commands.specs.declared.serving.Serving.{Serving}

-- how many workers scan tablets, how many children a server of the tree has at most, and after how many events a tablet is handed out once more
pub record ServingWords : Type 0 where
  pub workers : ℕ
  pub fan : ℕ
  pub lag : ℕ

abbrev pub serving_view : Serving → ServingWords
serving_view s = record { workers = s.workers; fan = s.fan; lag = s.lag }
