-- What a ground shows.
use Rattle.std.specs.Prelude.{ℕ, refl}
use Rattle.std.specs.Coded.{Coded, code_by, coded×, coded_ℕ}
use Rattle.atomic_table.specs.Seated.{TableId, table_id_coded}

-- its table, and how many tablets there are to draw
pub record GroundShown : Type 0 where
  pub table : TableId
  pub tablets : ℕ

-- it is stored as the pair of its fields
abbrev pub ground_coded : Coded GroundShown
ground_coded =
    code_by (TableId × ℕ) (coded× table_id_coded coded_ℕ) (λ g. (g.table, g.tablets)) (λ p. record { table = p.0; tablets = p.1 }) (λ _. refl)
