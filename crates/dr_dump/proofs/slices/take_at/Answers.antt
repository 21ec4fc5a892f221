use Rattle.std.proofs.Common.{◌≡◌, ◌∙◌, ◌++◌, length, refl, sym, subst}
use Rattle.std.proofs.lemmas.Option.{slice_get_read}
use Rattle.dr_dump.specs.Leaves.{rest_of, IsLeafRecords}
use Rattle.dr_dump.specs.declared.leaf_records.LeafRecords.{LeafRecords}
use Rattle.dr_dump.proofs.SliceLemmas.{same_item, taken_there}
use Rattle.dr_dump.proofs.slices.take_at.Goals as goal

pub returns-in-Some-clause-taken : goal.returns-in-Some-clause-taken
returns-in-Some-clause-taken g c = λ o F l x front at h.
    let held = (g.L.Link.shows c.args.link.now).held in
    let xs = c.args.leaves.now.items in
    let z = c.in-Some.leaf.now in
    let there = slice_get_read xs (length xs) c.args.index z refl c.in-Some.ensures.item.3.0 c.in-Some.ensures.value in
    let is : x ≡ z = same_item x z (sym at ∙ there) in
    taken_there held o F l front c.args.records c.args.index x z c.take.new.self xs _ c.take.result is refl
    (c.take.ensures.taken o F l front (subst (λ (w : LeafRecords). IsLeafRecords held o F l (front ++ rest_of w) w) is h))

pub returns-in-Some-clause-reads : goal.returns-in-Some-clause-reads
returns-in-Some-clause-reads g c = λ o F l x front at h.
    let held = (g.L.Link.shows c.args.link.now).held in
    let xs = c.args.leaves.now.items in
    let z = c.in-Some.leaf.now in
    let there = slice_get_read xs (length xs) c.args.index z refl c.in-Some.ensures.item.3.0 c.in-Some.ensures.value in
    let is : x ≡ z = same_item x z (sym at ∙ there) in
    c.take.ensures.reads o F l front (subst (λ (w : LeafRecords). IsLeafRecords held o F l (front ++ rest_of w) w) is h)
