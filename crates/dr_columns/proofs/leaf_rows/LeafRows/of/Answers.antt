use Rattle.std.proofs.Common.{◌≡◌, ◌<◌, ◌∙◌, inr, ℕ, map, length, ap, sym, arith}
use Rattle.std.specs.Prelude.{Some}
use Rattle.std.specs.List.{slice_get}
use Rattle.std.proofs.lemmas.List.{length-map}
use Rattle.dr_levels.specs.Views.{triplets_view}
use Rattle.dr_beside.specs.Neighbours.{column_at}
use Rattle.dr_rows_beside.specs.declared.source.Beside.{Beside}
use Rattle.dr_columns.specs.LeafRows.{found_beside}
use Rattle.dr_columns.proofs.LeafRowLemmas.{found_there, own_left, beside_within, beside_enough, beside_slots_left, long_fed}
use Rattle.dr_columns.proofs.leaf_rows.LeafRows.of.Goals as goal

pub returns-then-leaf-source-clause-left : goal.returns-then-leaf-source-clause-left
returns-then-leaf-source-clause-left c =
    let C = map triplets_view c.args.columns.now in
    let s = c.args.source.now in
    let within : s.leaf < length C = omega (arith, c.requires.leaf, length-map c.args.columns.now triplets_view) in
    own_left s.leaf c.args.leaf s.beside.items C _ c.if-leaf-source.true within c.requires.apart c.new-own.ensures.left

pub new-requires : goal.new-requires
new-requires c =
    let C = map triplets_view c.args.columns.now in
    let s = c.args.source.now in
    let other : Beside = c.in-Some.other in
    let w : (i : ℕ) × (slice_get s.beside.items i ≡ Some other) × (other.leaf ≡ c.args.leaf) = found_there c.args.leaf s.beside.items other (ap (found_beside c.args.leaf) (sym c.deref.ensures.value) ∙ sym c.in-Some.ensures) in
    beside_within C (column_at C s.leaf) (length c.args.columns.now) s.beside.items w.0 other w.1 c.requires.fed

pub invariant_of-result-2 : goal.invariant_of-result-2
invariant_of-result-2 c =
    let C = map triplets_view c.args.columns.now in
    let s = c.args.source.now in
    let other : Beside = c.in-Some.other in
    let w : (i : ℕ) × (slice_get s.beside.items i ≡ Some other) × (other.leaf ≡ c.args.leaf) = found_there c.args.leaf s.beside.items other (ap (found_beside c.args.leaf) (sym c.deref.ensures.value) ∙ sym c.in-Some.ensures) in
    record { fed = beside_enough C (column_at C s.leaf) (length c.args.columns.now) s.beside.items w.0 other c.new.result _ w.1 c.requires.fed c.new.ensures.depth c.new.ensures.left c.new-own.ensures.left }

pub returns-clause-left : goal.returns-clause-left
returns-clause-left c =
    let C = map triplets_view c.args.columns.now in
    let s = c.args.source.now in
    let other : Beside = c.in-Some.other in
    let w : (i : ℕ) × (slice_get s.beside.items i ≡ Some other) × (other.leaf ≡ c.args.leaf) = found_there c.args.leaf s.beside.items other (ap (found_beside c.args.leaf) (sym c.deref.ensures.value) ∙ sym c.in-Some.ensures) in
    let within : s.leaf < length C = omega (arith, c.requires.leaf, length-map c.args.columns.now triplets_view) in
    beside_slots_left s.leaf s.beside.items C w.0 other c.args.leaf c.new.result _ within c.requires.apart c.requires.different (long_fed C s.leaf s.beside.items (length c.args.columns.now) (length-map c.args.columns.now triplets_view) c.requires.fed)
    w.1 w.2 c.new.ensures.depth c.new.ensures.left c.new-own.ensures.left

pub returns-clause-read : goal.returns-clause-read
returns-clause-read c =
    let s = c.args.source.now in
    let other : Beside = c.in-Some.other in
    let w : (i : ℕ) × (slice_get s.beside.items i ≡ Some other) × (other.leaf ≡ c.args.leaf) = found_there c.args.leaf s.beside.items other (ap (found_beside c.args.leaf) (sym c.deref.ensures.value) ∙ sym c.in-Some.ensures) in
    (inr (w.0, other, w.1, w.2), tt)
