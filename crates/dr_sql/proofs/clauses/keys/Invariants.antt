use Rattle.std.proofs.Common.{◌≡◌, ◌-◌, ◌≤◌, length}
use Rattle.dr_meaning.specs.Parse as parse
use Rattle.dr_sql.specs.Reads.{unread}
use Rattle.dr_sql.specs.Views.{keys_view}
use Rattle.dr_sql.proofs.clauses.keys.Given as goal

-- the keys so far, with those that are left, are the query's
abbrev pub invariant-keys : goal.invariant-keys
invariant-keys l =
    (parse.keys (unread l.fn.cursor) ≡ parse.further_elements parse.begins_key parse.path_names (256 - length l.keys.items) (keys_view l.keys) (unread l.cursor))
    × (length l.keys.items ≤ 256)

abbrev pub decreases-keys : goal.decreases-keys
decreases-keys l = 256 - length l.keys.items
