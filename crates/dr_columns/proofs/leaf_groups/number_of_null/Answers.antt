use Rattle.std.proofs.Common.{◌≡◌, ◌∷◌, [], Option, Some, None, ℕ, refl, subst}
use Rattle.std.specs.Prelude.{IfSome}
use Rattle.std.specs.List.{slice_get}
use Rattle.dr_group.specs.Maps.{tuples_view}
use Rattle.dr_columns.proofs.NumberLemmas.{put_again}
use Rattle.dr_columns.proofs.leaf_groups.number_of_null.Goals as goal

pub returns-in-Some : goal.returns-in-Some
returns-in-Some c =
    let there : slice_get (tuples_view c.args.groups.now) c.in-Some.number ≡ Some (None ∷ []) =
    subst (λ (o : Option ℕ). IfSome o (λ (k : ℕ). slice_get (tuples_view c.args.groups.now) k ≡ Some (None ∷ []))) c.in-Some.is c.requires in
    record {
      put = put_again c.args.groups.now c.in-Some.number (None ∷ []) there;
      gatherings = refl;
      found = there;
      stay = λ k t e. e;
      kept = c.requires;
    }
