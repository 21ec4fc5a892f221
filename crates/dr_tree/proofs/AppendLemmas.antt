-- Places of lines that wait, found and appended one after another.
use Rattle.std.specs.Prelude.{◌≡◌, ℕ, zero, suc, ◌+◌, ◌<◌, List, [], ◌∷◌, ◌++◌, length, take, drop, get_or, slice_set, true, false, Option, Some, None, option_map, Result, Ok, Err, OnOk, IfSome}
use Rattle.std.specs.List.{fold}
use Rattle.std.proofs.Common.{refl, sym, ap, ap₂, ◌∙◌, subst, arith, add-one, append_assoc}
use Rattle.std.proofs.lemmas.List.{drop_more, take_more, set_split, length-map}
use Rattle.std.proofs.lemmas.List.Elements.{filter_map-append}
use Rattle.std.proofs.lemmas.List.Sums.{fold-append}
use Rattle.dr_memory.specs.declared.NoMemory.{NoMemory}
use Rattle.dr_partials.specs.Partials as meant
use Rattle.dr_partials.specs.Partials.{merge}
use Rattle.dr_levels.specs.Columns.{Adds}
use Rattle.dr_cells.specs.Results.{ShapeTree}
use Rattle.dr_cells.specs.Rows.{rows_view, rows_shape}
use Rattle.dr_cells.specs.declared.rows.RowsOut.{RowsOut}
use Rattle.dr_tree.specs.Appending.{HaveMoved, with_lines}
use Rattle.dr_tree.specs.Places.{Place, is_free_for, filled, fill, added}
use Rattle.dr_tree.specs.Waiting.{AreShaped, lines_of, place_of, places_of}
use Rattle.dr_tree.specs.declared.waiting.Waiting.{Waiting}
use Rattle.dr_tree.proofs.PlaceLemmas.{fill_here, fill_there, full_append}

-- ---- the place of a number

get_place : (ws : List Waiting) (i : ℕ) (w : Waiting) → get_or (places_of ws) i (place_of w) ≡ place_of (get_or ws i w)
get_place [] i w = refl
get_place (v ∷ ws) zero w = refl
get_place (v ∷ ws) (suc i) w = get_place ws i w

module _ (t : ℕ) (r : meant.Partial) (ws : List Waiting) (i : ℕ) (w : Waiting) (within : i < length ws) (there : w ≡ get_or ws i w) where
  abbrev ps : List Place
  ps = places_of ws

  place_is : get_or ps i (place_of w) ≡ place_of w
  place_is = get_place ws i w ∙ ap place_of (sym there)

  inside : i < length ps
  inside = omega (arith, within, length-map ws place_of)

  pub free_at : is_free_for t (place_of w) ≡ true → fill t r ps ≡ take i ps ++ fill t r (drop i ps) → fill t r ps ≡ slice_set ps i (filled t r)
  free_at free h =
      h ∙ (ap (λ xs. take i ps ++ fill t r xs) (drop_more ps i (place_of w) inside ∙ ap (λ (p : Place). p ∷ drop (i + 1) ps) place_is)
      ∙ (ap (λ xs. take i ps ++ xs) (fill_here t r (place_of w) (drop (i + 1) ps) free)
      ∙ (ap (λ (n : ℕ). take i ps ++ filled t r ∷ drop n ps) (add-one i) ∙ sym (set_split ps i (filled t r) inside))))

  pub not_free_at : is_free_for t (place_of w) ≡ false → fill t r ps ≡ take i ps ++ fill t r (drop i ps) → fill t r ps ≡ take (i + 1) ps ++ fill t r (drop (i + 1) ps)
  not_free_at free h =
      h ∙ (ap (λ xs. take i ps ++ fill t r xs) (drop_more ps i (place_of w) inside ∙ ap (λ (p : Place). p ∷ drop (i + 1) ps) place_is)
      ∙ (ap (λ xs. take i ps ++ xs) (fill_there t r (place_of w) (drop (i + 1) ps) free)
      ∙ (sym (append_assoc (take i ps) (place_of w ∷ []) (fill t r (drop (i + 1) ps)))
      ∙ ap (λ xs. xs ++ fill t r (drop (i + 1) ps)) (sym (take_more ps i (place_of w) inside ∙ ap (λ (p : Place). take i ps ++ p ∷ []) place_is)))))

-- ---- lines that are appended

more_lines : (old new l : RowsOut) → rows_view new ≡ rows_view old ++ rows_view l → lines_of new ≡ merge (lines_of old) (lines_of l)
unfolding merge
more_lines old new l h = ap meant.lines h

pub appended : (r : Result (Unit {0}) NoMemory) (old new l : RowsOut) (o : Option RowsOut) → o ≡ Some l → Adds (rows_view old) (rows_view new) (rows_view l) r → OnOk r (lines_of new ≡ with_lines (lines_of old) o)
appended (Ok done) old new l o e h = more_lines old new l h ∙ ap (with_lines (lines_of old)) (sym e)
appended (Err x) old new l o e h = tt

pub none_moved : (r : RowsOut) (ws : List Waiting) → HaveMoved r ws r ws
none_moved r ws = record { front = []; split = refl; full = refl; lines = refl; shape = refl; shaped = λ h. h }

pub first_moved : (r longer l : RowsOut) (ws rest : List Waiting) (w : Waiting) → 0 < length ws → w ≡ get_or ws 0 w → rest ≡ drop 1 ws → w.lines ≡ Some l
    → rows_view longer ≡ rows_view r ++ rows_view l → rows_shape longer ≡ rows_shape r → HaveMoved r ws longer rest
first_moved r longer l [] rest w some e d k h s = absurd (omega (arith, some))
first_moved r longer l (v ∷ ws) rest w some e d k h s =
    let here : place_of v ≡ record { tablet = v.tablet; piece = Some (lines_of l) } = ap (λ (o : Option RowsOut). let p : Place = record { tablet = v.tablet; piece = option_map lines_of o } in p) (ap (λ (x : Waiting). x.lines) (sym e) ∙ k) in
    record {
      front = record { tablet = v.tablet; piece = Some (lines_of l) } ∷ [];
      split = ap₂ (λ (p : Place) ps. p ∷ ps) here (ap places_of (sym d));
      full = refl;
      lines = more_lines r longer l h;
      shape = s;
      shaped = λ i. subst (λ (x : ShapeTree). AreShaped x rest) (sym s) (subst (AreShaped (rows_shape r)) (sym d) i.1);
    }

pub moved_more : (a b c : RowsOut) (ws vs us : List Waiting) → HaveMoved a ws b vs → HaveMoved b vs c us → HaveMoved a ws c us
moved_more a b c ws vs us h k = record {
  front = h.front ++ k.front;
  split = h.split ∙ (ap (λ xs. h.front ++ xs) k.split ∙ sym (append_assoc h.front k.front (places_of us)));
  full = full_append h.front k.front h.full k.full;
  lines = k.lines ∙ (ap (λ (p : meant.Partial). fold merge p (added k.front)) h.lines
      ∙ (sym (fold-append merge (lines_of a) (added h.front) (added k.front)) ∙ ap (fold merge (lines_of a)) (sym (filter_map-append (λ (p : Place). p.piece) h.front k.front))));
  shape = k.shape ∙ h.shape;
  shaped = λ i. k.shaped (h.shaped i);
}

-- the first of those that wait is appended
pub fold_lines : (p : meant.Partial) (w : Waiting) (ws : List Waiting) → fold merge p (added (places_of (w ∷ ws))) ≡ fold merge (with_lines p w.lines) (added (places_of ws))
fold_lines p w ws = by_lines w.lines
  where
    by_lines : (o : Option RowsOut) → fold merge p (added (record { tablet = w.tablet; piece = option_map lines_of o } ∷ places_of ws)) ≡ fold merge (with_lines p o) (added (places_of ws))
    by_lines None = refl
    by_lines (Some r) = refl

-- ---- lines that are kept

pub set_shaped : (s : ShapeTree) (ws : List Waiting) (i : ℕ) (w : Waiting) → IfSome w.lines (λ r. rows_shape r ≡ s) → AreShaped s ws → AreShaped s (slice_set ws i w)
set_shaped s [] i w h k = tt
set_shaped s (v ∷ ws) zero w h k = (h, k.1)
set_shaped s (v ∷ ws) (suc i) w h k = (k.0, set_shaped s ws i w h k.1)
