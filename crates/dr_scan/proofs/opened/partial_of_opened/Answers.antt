use Rattle.std.proofs.Common.{◌≡◌, ◌∙◌, ℕ, List, [], length, map, sym, refl, subst}
use Rattle.std.specs.Prelude.{Option, Some, IfSome}
use Rattle.std.proofs.lemmas.List.{length-map, nil_from_length}
use Rattle.dr_meaning.specs.Path.{Leaf}
use Rattle.dr_nested.specs.PathView.{path_view}
use Rattle.dr_nested.specs.SchemaView.{schema_view}
use Rattle.dr_group.specs.Partials.{partial_view}
use Rattle.dr_scan.specs.FileRecords.{AreColumnsOf}
use Rattle.dr_scan.specs.OfColumns.{IsOfColumns}
use Rattle.dr_scan.proofs.opened.partial_of_opened.Goals as goal

some_is : {A : Type 0} (P : A → Type 0) (o : Option A) (a : A) → o ≡ Some a → IfSome o P → P a
some_is {A} P o a e h = subst (λ (v : Option A). IfSome v P) e h

pub returns-in-Some-clause-partial : goal.returns-in-Some-clause-partial
returns-in-Some-clause-partial g c =
    let s = schema_view c.args.schema.now in
    let p = c.args.plan.now in
    let o = c.in_ok-partial.ensures in
    let x = c.in-Some.partial in
    let none = length-map p.leaves.items path_view ∙ some_is (λ y. length p.leaves.items ≡ 0) _ x c.in-Some.is o.no_leaf in
    record {
      columns = [];
      partial = subst (λ (n : ℕ). IsOfColumns s p [] n (partial_view c.in-Some.partial)) c.rows.ensures.rows (some_is _ _ x c.in-Some.is o.partial s c.requires.planned);
      of_plan = some_is _ _ x c.in-Some.is o.of_plan;
      short = refl;
      so_many = refl;
      file = λ bytes told. subst (λ (F : List Leaf). AreColumnsOf bytes F []) (sym (nil_from_length (map path_view p.leaves.items) none)) tt;
    }

pub partial_of_chunks-requires-clause-scan : goal.partial_of_chunks-requires-clause-scan
partial_of_chunks-requires-clause-scan g c = some_is _ _ c.in-Some-2.scan c.in-Some-2.is c.in_ok-scan-in-None.ensures.taken (schema_view c.args.schema.now) c.requires.planned
