use Rattle.dr_striper.specs.Striping.{leaves_of}
use Rattle.dr_striper.specs.Views.{nulls, twigs_view, shapes_view}
use Rattle.dr_striper.proofs.RecordLemmas.{grows_ends, ended_columns}
use Rattle.dr_striper.proofs.LentLemmas.{all_lend}
use Rattle.dr_striper.proofs.records.end_records.Goals as goal

pub end-requires : goal.end-requires
end-requires c = record { ends = grows_ends (leaves_of c.args.fields.now) (nulls c.args.levels.now) (shapes_view c.args.branches.now) (twigs_view c.args.branches.now) c.requires.grows }

pub returns-clause-columns : goal.returns-clause-columns
returns-clause-columns c =
    ended_columns c.args.fields.now (nulls c.args.levels.now) (shapes_view c.args.branches.now) (twigs_view c.args.branches.now) (twigs_view c.end.new.branches) c.requires.grows c.in_ok-end.ensures.ended

pub returns-clause-lends : goal.returns-clause-lends
returns-clause-lends c =
    all_lend (leaves_of c.args.fields.now) (nulls c.args.levels.now) (shapes_view c.args.branches.now) (shapes_view c.end.new.branches) (twigs_view c.args.branches.now) (twigs_view c.end.new.branches)
    c.requires.grows c.end.ensures.shapes c.in_ok-end.ensures.ended
