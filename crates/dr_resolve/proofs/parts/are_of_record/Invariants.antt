use Rattle.std.proofs.Common.{◌≡◌, map, drop}
use Rattle.std.specs.List.{list_all}
use Rattle.dr_meaning.specs.Syntax.{ItemSyntax}
use Rattle.dr_meaning.specs.Binding.{is_of_record}
use Rattle.dr_sql.specs.Views as syntax
use Rattle.dr_resolve.proofs.parts.are_of_record.Given as goal

-- all are, if those from this item on are
abbrev pub invariant-items : goal.invariant-items
invariant-items l = list_all (λ (i : ItemSyntax). is_of_record i.term) (map syntax.item_view (drop l.item-index l.items)) ≡ list_all (λ (i : ItemSyntax). is_of_record i.term) (map syntax.item_view l.items)
