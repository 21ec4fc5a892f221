-- What is told at each Leave of a walk is what the query keeps.
use Rattle.std.proofs.Common.{◌≡◌, ℕ, List, [], ◌∷◌, ◌++◌, Bool, true, false, Option, None, Some, refl, sym, ap, ap₂, ◌∙◌, append_assoc, append-nil}
use Rattle.std.specs.Prelude.{map, not, ◌==◌, ◌||◌, ◌&&◌, if◌then◌else◌}
use Rattle.std.specs.List.{list_any}
use Rattle.dr_meaning.specs.Walk.{Move, enter, value, leave}
use Rattle.dr_kept_laws.specs.Leavings.{Leaving, tour_leavings}
use Rattle.dr_kept_laws.specs.Telling.{kept, dropped, Opened, Watching, nothing_read, chain_in, rows_at, with_rows, watch_move, watch_moves, last_verdict_on, is_told_dropped, leaving_at, leavings_from}
use Rattle.dr_kept_laws.specs.TellingLaws.{ToldIsKept}
use Rattle.dr_kept_laws.proofs.LeavingsKept.{leavings_are_kept}
use Rattle.dr_moves.specs.Context.{Context, with_value}
use Rattle.dr_moves.specs.Tour.{Tour, over, saw, inside, moves_of, after}
use Rattle.dr_moves.specs.Condition.{Watch, some_true, rest_below, is_dropped}
use Rattle.dr_moves.proofs.TourLemmas.{walk_tour}
use Rattle.dr_moves.proofs.KeptRows.{any_append}

-- the condition in the rows of a tour, in order
abbrev pub tour_rows : Watch → Context → Tour → List Bool
tour_rows w c over = []
tour_rows w c (saw i t T) = rows_at w i (with_value i t.value c) ++ tour_rows w (with_value i t.value c) T
tour_rows w c (inside k B T) = tour_rows w c B ++ tour_rows w (after c B) T

-- a row is true exactly where some row is
pub any_row : (w : Watch) (T : Tour) (c : Context) → list_any (λ b. b) (tour_rows w c T) ≡ some_true w c T
any_row w over c = refl
any_row w (saw i t T) c = any_append (λ b. b) (rows_at w i (with_value i t.value c)) (tour_rows w (with_value i t.value c) T) ∙ ap₂ (λ (x y : Bool). x || y) (by_leaf (i == w.last)) (any_row w T (with_value i t.value c))
  where
    or_false : (b : Bool) → (b || false) ≡ b
    or_false true = refl
    or_false false = refl

    by_leaf : (h : Bool) → list_any (λ b. b) (if h then w.test (with_value i t.value c) ∷ [] else []) ≡ (h && w.test (with_value i t.value c))
    by_leaf true = or_false (w.test (with_value i t.value c))
    by_leaf false = refl
any_row w (inside k B T) c = any_append (λ b. b) (tour_rows w c B) (tour_rows w (after c B) T) ∙ ap₂ (λ (x y : Bool). x || y) (any_row w B c) (any_row w T (after c B))

pub more_rows : (xs ys : List Bool) (bs : List Opened) → map (with_rows ys) (map (with_rows xs) bs) ≡ map (with_rows (xs ++ ys)) bs
more_rows xs ys [] = refl
more_rows xs ys (b ∷ bs) = ap₂ (λ (x : List Bool) (y : List Opened). record { rest = b.rest; rows = x } ∷ y) (append_assoc b.rows xs ys) (more_rows xs ys bs)

pub no_more_rows : (bs : List Opened) → map (with_rows []) bs ≡ bs
no_more_rows [] = refl
no_more_rows (b ∷ bs) = ap₂ (λ (x : List Bool) (y : List Opened). record { rest = b.rest; rows = x } ∷ y) (append-nil b.rows) (no_more_rows bs)

pub watch_append : (w : Watch) (g : Watching) (a b : List Move) → watch_moves w g (a ++ b) ≡ watch_moves w (watch_moves w g a) b
watch_append w g [] b = refl
watch_append w g (m ∷ a) b = watch_append w (watch_move w g m) a b

-- where one stands behind a tour
abbrev pub behind_tour : Watch → Watching → Tour → Watching
behind_tour w g T = record { context = after g.context T; open_ones = map (with_rows (tour_rows w g.context T)) g.open_ones }

pub watches_behind : (w : Watch) (T : Tour) (g : Watching) → watch_moves w g (moves_of T) ≡ behind_tour w g T
watches_behind w over g = ap (λ (x : List Opened). record { context = g.context; open_ones = x }) (sym (no_more_rows g.open_ones))
watches_behind w (saw i t T) g =
    let c = with_value i t.value g.context in
    watches_behind w T (watch_move w g (value i t)) ∙ ap (λ (x : List Opened). record { context = after c T; open_ones = x }) (more_rows (rows_at w i c) (tour_rows w c T) g.open_ones)
watches_behind w (inside k B T) g =
    let g0 = watch_move w g (enter k) in
    let g2 : Watching = record { context = after g.context B; open_ones = map (with_rows (tour_rows w g.context B)) g.open_ones } in
    watch_append w g0 (moves_of B) (leave k ∷ moves_of T)
    ∙ ap (λ (x : Watching). watch_moves w (watch_move w x (leave k)) (moves_of T)) (watches_behind w B g0)
    ∙ watches_behind w T g2
    ∙ ap (λ (x : List Opened). record { context = after (after g.context B) T; open_ones = x }) (more_rows (tour_rows w g.context B) (tour_rows w (after g.context B) T) g.open_ones)

-- ---- what is told as a branch is left

leavings_append : (w : Watch) (g : Watching) (a b : List Move) → leavings_from w g (a ++ b) ≡ leavings_from w g a ++ leavings_from w (watch_moves w g a) b
leavings_append w g [] b = refl
leavings_append w g (m ∷ a) b = ap (λ (x : List Leaving). leaving_at w g m ++ x) (leavings_append w (watch_move w g m) a b) ∙ sym (append_assoc (leaving_at w g m) (leavings_from w (watch_move w g m) a) (leavings_from w (watch_moves w (watch_move w g m) a) b))

pub left_verdict : (r : Option (List ℕ)) (rows : List Bool) → is_told_dropped (last_verdict_on r rows) ≡ is_dropped r (list_any (λ b. b) rows)
left_verdict None rows = refl
left_verdict (Some r) rows = by_rows (list_any (λ b. b) rows)
  where
    by_rows : (b : Bool) → is_told_dropped (if b then kept else dropped) ≡ not b
    by_rows true = refl
    by_rows false = refl

pub same_chain : (w : Watch) (rs : List Bool) (bs : List Opened) → chain_in w (map (with_rows rs) bs) ≡ chain_in w bs
same_chain w rs [] = refl
same_chain w rs (b ∷ bs) = refl

-- what is told at the Leaves of a tour, wherever it is gone through
pub tour_told : (w : Watch) (T : Tour) (g : Watching) → leavings_from w g (moves_of T) ≡ tour_leavings w (chain_in w g.open_ones) g.context T
tour_told w over g = refl
tour_told w (saw i t T) g = tour_told w T (watch_move w g (value i t)) ∙ ap (λ (x : Option (List ℕ)). tour_leavings w x (with_value i t.value g.context) T) (same_chain w (rows_at w i (with_value i t.value g.context)) g.open_ones)
tour_told w (inside k B T) g =
    let g0 = watch_move w g (enter k) in
    let r = rest_below k (chain_in w g.open_ones) in
    let g2 : Watching = record { context = after g.context B; open_ones = map (with_rows (tour_rows w g.context B)) g.open_ones } in
    leavings_append w g0 (moves_of B) (leave k ∷ moves_of T)
    ∙ ap₂ (λ (x : List Leaving) (y : Watching). x ++ leavings_from w y (leave k ∷ moves_of T)) (tour_told w B g0) (watches_behind w B g0)
    ∙ ap₂ (λ (x : Bool) (y : List Leaving). tour_leavings w r g.context B ++ record { number = k; dropped = x } ∷ y)
    (left_verdict r (tour_rows w g.context B) ∙ ap (is_dropped r) (any_row w B g.context))
    (tour_told w T g2 ∙ ap (λ (x : Option (List ℕ)). tour_leavings w x (after g.context B) T) (same_chain w (tour_rows w g.context B) g.open_ones))

pub told_is_kept : ToldIsKept
told_is_kept fs F w p K condition s R v =
    let t = walk_tour fs F R s.leaves v in
    ap (leavings_from w nothing_read) (sym t.moves) ∙ tour_told w t.tour nothing_read ∙ leavings_are_kept fs F w p K condition s R t.tour (λ i. None) v t.moves
