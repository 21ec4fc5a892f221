use Rattle.std.proofs.Common.{arith}
use Rattle.dr_meaning.specs.Binding as binding
use Rattle.dr_resolve.specs.Faults.{earlier, first_view}
use Rattle.dr_planning.proofs.RuleLemmas.{noted_name, noted_names}
use Rattle.dr_planning.proofs.rules.note_duplicates.Goals as goal

pub items-preserved : goal.items-preserved
items-preserved c = λ fs ls tree bs v h.
    let q = c.args.is_record_query in
    let xs = c.args.items.now in
    let k = c.items.number in
    noted_name fs ls tree q bs xs k c.index-items-number.result (first_view c.items.first) (first_view c.note_name.new.first)
    (earlier (first_view c.args.first.now) (binding.first_fault (binding.duplicate_faults tree q bs)))
    h (omega arith) c.index-items-number.is (λ b ds es ib ih eh. c.note_name.ensures fs ls tree b ds es v ib ih eh) (c.items.invariant fs ls tree bs v h)

pub returns : goal.returns
returns c = λ fs ls tree bs v h.
    noted_names fs ls tree c.args.is_record_query bs c.args.items.now c.items.number (first_view c.items.first)
    (earlier (first_view c.args.first.now) (binding.first_fault (binding.duplicate_faults tree c.args.is_record_query bs))) h (omega arith) (c.items.invariant fs ls tree bs v h)
