-- Where clap takes the words of `load`, its values are there.
use Rattle.std.proofs.Common.{◌≡◌, ℕ, ◌∙◌, ap, true, false, refl, List, [], Option, Some, None}
use Rattle.std.specs.Prelude.{bytes_eq, codes, option_and_then, option_map, slice_get}
use Rattle.std.specs.List.{find}
use Rattle.clap.specs.Words.{Row, Shape, Text, all_of, first_of}
use Rattle.clap.specs.Walk.{nothing_held, rows_after}
use Rattle.clap.specs.Simple.{built_leaf, inherited, marked_built, on_top, rows_at}
use Rattle.clap.specs.Takes.{level_passes}
use Rattle.dr_formats.specs.Page.{PageForm}
use Rattle.dr_commands.specs.Load.{LoadWords}
use Rattle.dr_words.specs.Load.{load_app, with_directories, load_words}
use Rattle.dr_commands.specs.Commands.{load}
use Rattle.dr_words.specs.Words.{dremel_app, words_in}
use Rattle.dr_words.proofs.NeededLemmas.{Has, taken_has_needed}

abbrev pub load_shape : Shape
load_shape = built_leaf (inherited (on_top marked_built dremel_app).top load_app.top)

-- what has a first value has values
first_and_all : (row : Option Row) → Has (option_and_then (λ (r : Row). slice_get r.values 0) row) → option_map (λ (r : Row). r.values) row ≡ None → ⊥
first_and_all None h e = let q = h.1 in cc
first_and_all (Some r) h e = cc

pub load_has_values : (words : List Text) → level_passes load_shape [] nothing_held words false ≡ true → words_in (Some (rows_at load_shape words)) ≡ None → ⊥
load_has_values words passes none =
    let needed = taken_has_needed load_shape words refl refl passes in
    let rows = rows_after load_shape.rules [] words in
    let row = find (λ (r : Row). bytes_eq r.id (codes "dir")) rows in
    all_there rows (first_of (codes "schema") rows) (first_of (codes "table") rows) (all_of (codes "dir") rows) (needed.0 refl) (needed.1.0 refl)
    (first_and_all row (needed.1.1.1.1.1.0 refl)) none
  where
    all_there : (rows : List Row) (schema table : Option Text) (dirs : Option (List Text)) → Has schema → Has table → (dirs ≡ None → ⊥)
        → option_map load (option_and_then (λ a. option_and_then (λ b. option_map (with_directories rows a b) dirs) table) schema) ≡ None → ⊥
    all_there rows None table dirs s t q e = cc
    all_there rows (Some a) None dirs s t q e = cc
    all_there rows (Some a) (Some b) None s t q e = q refl
    all_there rows (Some a) (Some b) (Some d) s t q e = cc

-- these values
abbrev pub with_all : Text → Text → ℕ → ℕ → PageForm → List Text → LoadWords
with_all s t r k f ds = record { schema = s; table = t; rows = r; copies = k; form = f; directories = ds }

-- its values, from each of them
pub load_words_are : (rows : List Row) (a b : Text) (ds : List Text) (l : LoadWords) → first_of (codes "schema") rows ≡ Some a → first_of (codes "table") rows ≡ Some b → all_of (codes "dir") rows ≡ Some ds
    → with_directories rows a b ds ≡ l → load_words rows ≡ Some l
load_words_are rows a b ds l s t d e =
    ap (option_and_then (λ x. option_and_then (λ y. option_map (with_directories rows x y) (all_of (codes "dir") rows)) (first_of (codes "table") rows))) s
    ∙ (ap (option_and_then (λ y. option_map (with_directories rows a y) (all_of (codes "dir") rows))) t ∙ (ap (option_map (with_directories rows a b)) d ∙ ap Some e))

pub words_same : (s t : Text) (r q k j : ℕ) (a b : PageForm) (ds es : List Text) → r ≡ q → k ≡ j → a ≡ b → ds ≡ es → with_all s t r k a ds ≡ with_all s t q j b es
words_same s t r q k j a b ds es e f h g = cc
