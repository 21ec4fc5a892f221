use Rattle.std.proofs.Common.{◌≡◌, ◌+◌, ◌∙◌, ℕ, List, [], length, subst, ap, arith}
use Rattle.std.specs.Prelude.{Option, Some}
use Rattle.std.specs.List.{slice_get}
use Rattle.std.proofs.lemmas.List.{length_push}
use Rattle.dr_meaning.specs.Path.{Leaf}
use Rattle.dr_levels.specs.Views.{column_view}
use Rattle.dr_outside.specs.Link.{Files}
use Rattle.dr_scan.specs.Streamed.{IsLeafStream}
use Rattle.dr_scan.specs.declared.leaf_stream.LeafStream.{LeafStream}
use Rattle.dr_scan.proofs.StreamLemmas.{each_pushed, batches_none}
use Rattle.dr_scan.proofs.leaf_streams.leaf_streams.Goals as goal

pub leaves-preserved : goal.leaves-preserved
leaves-preserved c =
    let xs = c.leaves.streams.items in
    let y = c.in_ok-start.field-0 in
    let inv = c.leaves.invariant in
    let items = c.in_ok-push.ensures.items in
    record {
      as_many = ap length items ∙ (length_push xs y ∙ ap (λ (n : ℕ). n + 1) inv.as_many);
      each = λ i x e. each_pushed (λ (j : ℕ) (z : LeafStream). (held : Option Files) (F : List Leaf) (m : Leaf) → slice_get F j ≡ Some m → IsLeafStream held c.args.file.now F m [] z) xs y inv.each
          (λ held F m q. c.in_ok-start.ensures.begun held F m (subst (λ (n : ℕ). slice_get F n ≡ Some m) inv.as_many q)) i x (subst (λ (zs : List LeafStream). slice_get zs i ≡ Some x) items e);
      none = λ i x e. each_pushed (λ (j : ℕ) (z : LeafStream). column_view z.batch ≡ []) xs y inv.none c.in_ok-start.ensures.none i x (subst (λ (zs : List LeafStream). slice_get zs i ≡ Some x) items e);
    }

pub returns-clause-begun : goal.returns-clause-begun
returns-clause-begun c = λ held F n.
    let inv = c.leaves.invariant in
    record { as_many = omega (arith, inv.as_many, n, c.leaves-test.false, c.leaves.auto.index-end); each = λ i l x e f. inv.each i x f held F l e }

pub returns-clause-none : goal.returns-clause-none
returns-clause-none c = batches_none c.leaves.streams.items c.leaves.invariant.none
