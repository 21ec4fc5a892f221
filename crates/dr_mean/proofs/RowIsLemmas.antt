-- A row among the rows of a level.
use Rattle.std.specs.Prelude.{◌≡◌, ◌+◌, ℕ, zero, suc, List, [], ◌∷◌, map, drop, true}
use Rattle.std.specs.List.{list_all}
use Rattle.std.proofs.Common.{refl, sym, ap, ◌∙◌, arith}
use Rattle.std.proofs.lemmas.Bool.{and_parts}
use Rattle.dr_meaning.specs.Path.{Step}
use Rattle.dr_meaning.specs.Record.{Node}
use Rattle.dr_meaning.specs.Rows.{rows}
use Rattle.dr_meaning.specs.BindingLaws.{has_shapes}
use Rattle.dr_meaning.proofs.HasShapesLemmas.{rows_have_shapes}
use Rattle.dr_nested.specs.PathView.{path_view, paths_view}
use Rattle.dr_nested.specs.declared.path.Path.{Path}
use Rattle.dr_scalar.specs.Slots.{AreValues}
use Rattle.dr_rows.specs.Known.{Known, known, is_cut}
use Rattle.dr_rows.specs.Views.{row_view}
use Rattle.dr_rows.specs.declared.row.Row.{Row}
use Rattle.dr_rows.proofs.RowLawLemmas.{rows_cut}
use Rattle.dr_mean.specs.RowsOf.{IsTyped, IsRow}
use Rattle.dr_mean.proofs.SlotLemmas.{slots_are}

-- the row of a number among those of a level, with what is known of it
pub record RowIs (leaves : List Path) (chain : List Step) (rs : List Node) (i : ℕ) (k : Known) : Type 0 where
  pub row : Node
  pub next : drop i rs ≡ row ∷ drop (i + 1) rs
  pub is : IsRow leaves chain k row

further : (ls : List Path) (chain : List Step) (r : Node) (rs : List Node) (i : ℕ) (k : Known) → RowIs ls chain rs i k → RowIs ls chain (r ∷ rs) (suc i) k
further ls chain r rs i k t =
    let e : suc i + 1 ≡ suc (i + 1) = omega arith in
    record { row = t.row; next = t.next ∙ ap (λ (n : ℕ). t.row ∷ drop n (r ∷ rs)) (sym e); is = t.is }

typed_row : (ls : List Path) (n r : Node) (t : IsTyped ls n) → has_shapes t.fields r ≡ true → IsTyped ls r
typed_row ls n r t h = record { fields = t.fields; query = t.query; used = t.used; shapes = h }

there : (ls : List Path) (chain : List Step) (n : Node) (t : IsTyped ls n) (rs : List Node) (i : ℕ) (k : Known) (ks : List Known) → list_all (has_shapes t.fields) rs ≡ true → list_all (is_cut chain) rs ≡ true
    → drop i (map (known (paths_view ls) chain) rs) ≡ k ∷ ks → RowIs ls chain rs i k
there ls chain n t [] zero k ks h c e = cc
there ls chain n t [] (suc i) k ks h c e = cc
there ls chain n t (r ∷ rs) zero k ks h c e =
    let b : (has_shapes t.fields r ≡ true) × (list_all (has_shapes t.fields) rs ≡ true) = and_parts _ _ h in
    let d : (is_cut chain r ≡ true) × (list_all (is_cut chain) rs ≡ true) = and_parts _ _ c in
    record { row = r; next = refl; is = record { typed = typed_row ls n r t b.0; cut = d.0; is = cc } }
there ls chain n t (r ∷ rs) (suc i) k ks h c e =
    let b : (has_shapes t.fields r ≡ true) × (list_all (has_shapes t.fields) rs ≡ true) = and_parts _ _ h in
    let d : (is_cut chain r ≡ true) × (list_all (is_cut chain) rs ≡ true) = and_parts _ _ c in
    further ls chain r rs i k (there ls chain n t rs i k ks b.1 d.1 e)

pub row_is : (ls : List Path) (chain : List Step) (n : Node) (ks : List Known) (i : ℕ) (k : Known) (rest : List Known) → IsTyped ls n
    → ks ≡ map (known (paths_view ls) chain) (rows chain n) → drop i ks ≡ k ∷ rest → RowIs ls chain (rows chain n) i k
row_is ls chain n ks i k rest t e g = there ls chain n t (rows chain n) i k rest (rows_have_shapes t.fields chain n t.shapes) (rows_cut chain n) (ap (drop i) (sym e) ∙ g)

-- the values in its slots
pub row_values : (ls : List Path) (chain : List Step) (row : Node) (r : Row) → IsRow ls chain (row_view r) row → AreValues (map path_view ls) r.values.now row
row_values ls chain row r t = slots_are t.typed.fields t.typed.query ls chain row r t.typed.used t.typed.shapes t.is
