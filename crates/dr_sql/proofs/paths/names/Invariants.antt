use Rattle.std.proofs.Common.{◌≡◌, ◌-◌}
use Rattle.dr_meaning.specs.Parse as parse
use Rattle.dr_sql.specs.Reads.{unread}
use Rattle.dr_sql.specs.Views.{names_view}
use Rattle.dr_sql.proofs.paths.names.Given as goal

-- the names so far, with those that are left, are the path's
abbrev pub invariant-names : goal.invariant-names
invariant-names l = parse.names (unread l.fn.cursor) ≡ parse.further_names (l.end - l.counter) (names_view l.names) (unread l.cursor)
