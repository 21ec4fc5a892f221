-- The objects of what a condition keeps of records are the lines of the partial.
use Rattle.std.proofs.Common.{◌≡◌, List, [], ◌∷◌, Option, None, true, refl, sym, ap, ◌∙◌}
use Rattle.std.specs.Prelude.{map}
use Rattle.std.specs.List.{list_all, filter_map, cons_option}
use Rattle.std.proofs.lemmas.Bool.{and_parts}
use Rattle.dr_meaning.specs.Schema.{Fields}
use Rattle.dr_meaning.specs.Record.{Node, is_record}
use Rattle.dr_meaning.specs.Kept.{kept}
use Rattle.dr_meaning.specs.Query.{RecordItem, Object, Selection, levels_of, record_object}
use Rattle.dr_partials.specs.Partials.{lines, selected_partial, partial_of}
use Rattle.dr_made_laws.specs.ObjectFlowLaws.{built_of, made_objects, ObjectsMakePartial, NoObjectsMakePartial}

objects_again : (fs : Fields) (items : List RecordItem) (R : List Node) → made_objects (built_of fs items R) ≡ map (record_object items (levels_of fs)) R
objects_again fs items [] = refl
objects_again fs items (n ∷ R) = ap (λ (os : List Object). record_object items (levels_of fs) n ∷ os) (objects_again fs items R)

pub objects_make_partial : ObjectsMakePartial
unfolding partial_of
objects_make_partial fs q items e R =
    ap lines (objects_again fs items (filter_map (kept q.condition) R))
    ∙ ap (λ (s : Selection). selected_partial s (levels_of fs) (filter_map (kept q.condition) R)) (sym e)

none_left : (fs : Fields) (f : Node → Option Node) → ((n : Node) → is_record fs n ≡ true → f n ≡ None) → (R : List Node) → list_all (is_record fs) R ≡ true → filter_map f R ≡ []
none_left fs f k [] h = refl
none_left fs f k (n ∷ R) h =
    let a : (is_record fs n ≡ true) × (list_all (is_record fs) R ≡ true) = and_parts (is_record fs n) (list_all (is_record fs) R) h in
    ap (λ (o : Option Node). cons_option o (filter_map f R)) (k n a.0) ∙ none_left fs f k R a.1

pub no_objects_make_partial : NoObjectsMakePartial
no_objects_make_partial fs q items e R h k =
    ap (λ (S : List Node). lines (made_objects (built_of fs items S))) (sym (none_left fs (kept q.condition) k R h))
    ∙ objects_make_partial fs q items e R
