use Rattle.std.proofs.Common.{◌≡◌, ◌≤◌, ◌+◌, None}
use Rattle.dr_meaning.specs.Path.{leaves}
use Rattle.dr_striper.specs.Stripers.{striped, striped_leaves}
use Rattle.dr_input.specs.Records.{fields_of, most_of, number_of, fault_of, left_of}
use Rattle.dr_load.specs.Filled.{HasColumnsOf}
use Rattle.dr_load.proofs.filling.fill_tablet.Given as goal

-- the striper has the columns of the records so far
abbrev pub invariant-lines : goal.invariant-lines
invariant-lines g l = record {
  fills : HasColumnsOf (fields_of l.fn.records) (most_of l.fn.records) (number_of l.fn.records) (left_of l.fn.records (g.S.Source.shows l.fn.source).left) (left_of l.records (g.S.Source.shows l.source).left) (striped l.striper) l.count;
  leaves_are : striped_leaves l.striper ≡ leaves (fields_of l.fn.records);
  same_fields : fields_of l.records ≡ fields_of l.fn.records;
  same_most : most_of l.records ≡ most_of l.fn.records;
  number_is : number_of l.records ≡ number_of l.fn.records + l.count;
  going : fault_of l.records ≡ None;
  within : number_of l.records ≤ most_of l.records;
  calm : (g.S.Source.shows l.source).faults ≡ (g.S.Source.shows l.fn.source).faults;
}
