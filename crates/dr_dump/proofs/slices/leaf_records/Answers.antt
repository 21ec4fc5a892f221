use Rattle.std.proofs.Common.{◌≡◌, ◌+◌, ◌∙◌, ℕ, List, [], length, subst, ap, sym, refl, inl, arith}
use Rattle.std.specs.Prelude.{Option, Some}
use Rattle.std.specs.List.{slice_get}
use Rattle.std.proofs.lemmas.List.{length_push}
use Rattle.dr_meaning.specs.Path.{Leaf}
use Rattle.dr_meaning.specs.Column.{Triplet}
use Rattle.dr_meaning.specs.OneColumn.{begins_record}
use Rattle.dr_outside.specs.Link.{Files}
use Rattle.dr_dump.specs.Leaves.{rest_of, IsLeafRecords}
use Rattle.dr_dump.specs.declared.leaf_records.LeafRecords.{LeafRecords}
use Rattle.dr_dump.proofs.SliceLemmas.{each_pushed}
use Rattle.dr_dump.proofs.slices.leaf_records.Goals as goal

pub leaves-preserved : goal.leaves-preserved
leaves-preserved c =
    let xs = c.leaves.records.items in
    let y = c.in_ok-start.field-0 in
    let inv = c.leaves.invariant in
    let items = c.in_ok-push.ensures.items in
    record {
      as_many = ap length items ∙ (length_push xs y ∙ ap (λ (n : ℕ). n + 1) inv.as_many);
      each = λ i x e. each_pushed (λ (j : ℕ) (z : LeafRecords). (held : Option Files) (F : List Leaf) (m : Leaf) → slice_get F j ≡ Some m → IsLeafRecords held c.args.file.now F m [] z) xs y inv.each
          (λ held F m q. c.in_ok-start.ensures.begun held F m (subst (λ (n : ℕ). slice_get F n ≡ Some m) inv.as_many q)) i x (subst (λ (zs : List LeafRecords). slice_get zs i ≡ Some x) items e);
      none = λ i x e. each_pushed (λ (j : ℕ) (z : LeafRecords). rest_of z ≡ []) xs y inv.none c.in_ok-start.ensures.none i x (subst (λ (zs : List LeafRecords). slice_get zs i ≡ Some x) items e);
    }

pub returns : goal.returns
returns c = λ held F n.
    let inv = c.leaves.invariant in
    record {
      as_many = omega (arith, inv.as_many, n, c.leaves-test.false, c.leaves.auto.index-end);
      each = λ i l x at is.
          let none = inv.none i x is in
          record { of = subst (λ (ts : List Triplet). IsLeafRecords held c.args.file.now F l ts x) (sym none) (inv.each i x is held F l at); cut = ap begins_record none; ends = inl refl };
    }
