use Rattle.std.proofs.Common.{◌≡◌, ◌<◌, ◌∙◌, List, map, length, sym, subst, arith}
use Rattle.std.proofs.lemmas.List.{length-map}
use Rattle.dr_meaning.specs.Column.{Triplet}
use Rattle.dr_levels.specs.Views.{triplets_view}
use Rattle.dr_agreement.proofs.OutlinedLemmas.{column_of}
use Rattle.dr_beside.specs.Neighbours.{column_at}
use Rattle.dr_columns.specs.Own.{AreOf}
use Rattle.dr_rows_beside.specs.RecordRows.{rows_of}
use Rattle.dr_rows_beside.specs.Rows.{Row, in_slot}
use Rattle.dr_columns.proofs.LeafRowLemmas.{slots_are_of, read_within, long_fed}
use Rattle.dr_columns.proofs.own.own_rows.Goals as goal

pub bounds-columns-leaf : goal.bounds-columns-leaf
bounds-columns-leaf c =
    let C = map triplets_view c.args.columns.now in
    let s = c.args.source.now in
    let long : length C ≡ length c.args.columns.now = length-map c.args.columns.now triplets_view in
    let within : c.in-Some.leaf < length C = read_within s.leaf s.beside.items C c.in-Some.leaf (omega (arith, c.requires.leaf, long)) (long_fed C s.leaf s.beside.items (length c.args.columns.now) long c.requires.fed) c.in-Some-of.ensures.read in
    omega (arith, within, long)

pub returns-then-is_own : goal.returns-then-is_own
returns-then-is_own c =
    let C = map triplets_view c.args.columns.now in
    let s = c.args.source.now in
    let k = c.in-Some.leaf in
    let rs : List Row = rows_of s.leaf s.beside.items C in
    let t = c.index-columns-leaf.result in
    let long : length C ≡ length c.args.columns.now = length-map c.args.columns.now triplets_view in
    let source : s.leaf < length C = omega (arith, c.requires.leaf, long) in
    let fed = long_fed C s.leaf s.beside.items (length c.args.columns.now) long c.requires.fed in
    let there : k < length C = read_within s.leaf s.beside.items C k source fed c.in-Some-of.ensures.read in
    let column : triplets_view t ≡ column_at C k = column_of c.args.columns.now k t (omega (arith, there, long)) c.index-columns-leaf.is in
    let of : AreOf (column_at C k) (in_slot k rs) = slots_are_of s.leaf s.beside.items C k source c.requires.apart c.requires.different fed c.in-Some-of.ensures.read in
    c.in-Some-of.ensures.left ∙ sym (c.is_own.ensures c.if-is_own.true rs (subst (λ (ts : List Triplet). AreOf ts (in_slot k rs)) (sym column) of))
