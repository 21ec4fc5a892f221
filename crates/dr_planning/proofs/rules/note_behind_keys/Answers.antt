use Rattle.std.proofs.Common.{map}
use Rattle.dr_resolve.specs.Faults.{first_view}
use Rattle.dr_paths.specs.Views.{bound_path_view}
use Rattle.dr_planning.proofs.RuleLemmas.{behind_related, behind_unrelated}
use Rattle.dr_planning.proofs.rules.note_behind_keys.Goals as goal

pub returns-in-Related : goal.returns-in-Related
returns-in-Related c = λ ks h.
    behind_related ks c.args.chain c.in-Related.longest (map bound_path_view c.args.paths.now) (first_view c.args.first.now) (first_view c.note_paths.new.first) c.in-Related.is c.note_paths.ensures h

pub returns-in-Unrelated : goal.returns-in-Unrelated
returns-in-Unrelated c = λ ks h.
    behind_unrelated ks c.args.chain c.in-Unrelated.place (map bound_path_view c.args.paths.now) (first_view c.args.first.now) (first_view c.note.new.self) c.in-Unrelated.is c.note.ensures h
