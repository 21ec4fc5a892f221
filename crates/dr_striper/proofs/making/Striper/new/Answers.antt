use Rattle.dr_striper.specs.Striping.{leaves_of}
use Rattle.dr_striper.proofs.TreeLemmas.{of_one_tree}
use Rattle.dr_striper.proofs.making.Striper.new.Goals as goal

pub new_branches-requires : goal.new_branches-requires
new_branches-requires c = of_one_tree (leaves_of c.args.fields.now) c.requires
