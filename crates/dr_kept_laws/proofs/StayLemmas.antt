-- What is told of a branch, if it is decided, stays.
use Rattle.std.proofs.Common.{◌≡◌, ℕ, List, [], ◌∷◌, ◌++◌, Bool, refl, sym, ap, ap₂, subst, ◌∙◌, append_assoc}
use Rattle.std.specs.Prelude.{map}
use Rattle.dr_meaning.specs.Column.{Triplet}
use Rattle.dr_meaning.specs.Walk.{Move, enter, value, leave}
use Rattle.dr_kept_laws.specs.Telling.{Verdict, Opened, Watching, chain_in, rows_at, with_rows, watch_move, watch_moves, verdict, last_verdict, verdicts_at}
use Rattle.dr_kept_laws.proofs.TellingLemmas.{tour_rows, more_rows, no_more_rows, watch_append, watches_behind}
use Rattle.dr_moves.specs.Context.{with_value}
use Rattle.dr_moves.specs.Tour.{Tour, over, saw, inside, moves_of, after}
use Rattle.dr_moves.specs.Condition.{Watch, rest_below}

-- ---- where a move stands in moves around another

data Placed (xs : List Move) (y : Move) (ys b : List Move) (m : Move) (d : List Move) : Type 0 where
  before_it : (e : List Move) → xs ≡ b ++ m ∷ e → Placed xs y ys b m d
  it_is : b ≡ xs → y ≡ m → Placed xs y ys b m d
  behind_it : (e : List Move) → b ≡ xs ++ y ∷ e → ys ≡ e ++ m ∷ d → Placed xs y ys b m d

placed_next : (x : Move) (xs : List Move) (y : Move) (ys b : List Move) (m : Move) (d : List Move) (z : Move) → x ≡ z → Placed xs y ys b m d → Placed (x ∷ xs) y ys (z ∷ b) m d
placed_next x xs y ys b m d z e (before_it f h) = before_it f (ap₂ (λ (i : Move) (j : List Move). i ∷ j) e h)
placed_next x xs y ys b m d z e (it_is h g) = it_is (ap₂ (λ (i : Move) (j : List Move). i ∷ j) (sym e) h) g
placed_next x xs y ys b m d z e (behind_it f h g) = behind_it f (ap₂ (λ (i : Move) (j : List Move). i ∷ j) (sym e) h) g

placed : (xs : List Move) (y : Move) (ys b : List Move) (m : Move) (d : List Move) → xs ++ y ∷ ys ≡ b ++ m ∷ d → Placed xs y ys b m d
placed [] y ys [] m d h = it_is refl (cc)
placed [] y ys (z ∷ b) m d h = let e : y ≡ z = cc in let f : ys ≡ b ++ m ∷ d = cc in behind_it b (ap (λ (i : Move). i ∷ b) (sym e)) f
placed (x ∷ xs) y ys [] m d h = let e : x ≡ m = cc in before_it xs (ap (λ (i : Move). i ∷ xs) e)
placed (x ∷ xs) y ys (z ∷ b) m d h = let e : x ≡ z = cc in let f : xs ++ y ∷ ys ≡ b ++ m ∷ d = cc in placed_next x xs y ys b m d z e (placed xs y ys b m d f)

-- ---- what is told inside a tour of the branches round it

-- the rows read so far are the first of the tour's
pub record Inside (w : Watch) (g : Watching) (T : Tour) (b : List Move) (m : Move) : Type 0 where
  pub rows : List Bool
  pub more : List Bool
  pub inner : List Verdict
  pub told_then : verdicts_at w (watch_moves w g b) m ≡ inner ++ map verdict (map (with_rows rows) g.open_ones)
  pub all_rows : tour_rows w g.context T ≡ rows ++ more

last_open : (vs : List Verdict) (o : Opened) (os : List Opened) → vs ++ map verdict (o ∷ os) ≡ (vs ++ verdict o ∷ []) ++ map verdict os
last_open vs o os = sym (append_assoc vs (verdict o ∷ []) (map verdict os))

-- behind a triplet
inside_saw : (w : Watch) (i : ℕ) (t : Triplet) (T : Tour) (g : Watching) (b : List Move) (m : Move) → Inside w (watch_move w g (value i t)) T b m → Inside w g (saw i t T) (value i t ∷ b) m
inside_saw w i t T g b m x = record {
  rows = rows_at w i (with_value i t.value g.context) ++ x.rows;
  more = x.more;
  inner = x.inner;
  told_then = x.told_then ∙ ap (λ (y : List Opened). x.inner ++ map verdict y) (more_rows (rows_at w i (with_value i t.value g.context)) x.rows g.open_ones);
  all_rows = ap (λ (y : List Bool). rows_at w i (with_value i t.value g.context) ++ y) x.all_rows ∙ sym (append_assoc (rows_at w i (with_value i t.value g.context)) x.rows x.more);
}

-- the branch that is entered here
abbrev entered : Watch → Watching → ℕ → Opened
entered w g k = record { rest = rest_below k (chain_in w g.open_ones); rows = [] }

-- behind its Leave
abbrev left_behind : Watch → Watching → Tour → Watching
left_behind w g B = record { context = after g.context B; open_ones = map (with_rows (tour_rows w g.context B)) g.open_ones }

module _ (w : Watch) (k : ℕ) (B T : Tour) (g : Watching) (m : Move) where
  -- the move is in the instance
  inside_before : (b : List Move) → Inside w (watch_move w g (enter k)) B b m → Inside w g (inside k B T) (enter k ∷ b) m
  inside_before b y = record {
    rows = y.rows;
    more = y.more ++ tour_rows w (after g.context B) T;
    inner = y.inner ++ verdict (with_rows y.rows (entered w g k)) ∷ [];
    told_then = y.told_then ∙ last_open y.inner (with_rows y.rows (entered w g k)) (map (with_rows y.rows) g.open_ones);
    all_rows = ap (λ (a : List Bool). a ++ tour_rows w (after g.context B) T) y.all_rows ∙ append_assoc y.rows y.more (tour_rows w (after g.context B) T);
  }

  -- it is the instance's Leave
  inside_at : (b : List Move) → b ≡ moves_of B → leave k ≡ m → Inside w g (inside k B T) (enter k ∷ b) m
  inside_at b x y = record {
    rows = tour_rows w g.context B;
    more = tour_rows w (after g.context B) T;
    inner = last_verdict (with_rows (tour_rows w g.context B) (entered w g k)) ∷ [];
    told_then = ap₂ (λ (c : List Move) (a : Move). verdicts_at w (watch_moves w (watch_move w g (enter k)) c) a) x (sym y)
        ∙ ap (λ (a : Watching). verdicts_at w a (leave k)) (watches_behind w B (watch_move w g (enter k)));
    all_rows = refl;
  }

  -- it is behind it
  inside_behind : (b e : List Move) → b ≡ moves_of B ++ leave k ∷ e → Inside w (left_behind w g B) T e m → Inside w g (inside k B T) (enter k ∷ b) m
  inside_behind b e x v = record {
    rows = tour_rows w g.context B ++ v.rows;
    more = v.more;
    inner = v.inner;
    told_then = ap (λ (c : List Move). verdicts_at w (watch_moves w (watch_move w g (enter k)) c) m) x
        ∙ ap (λ (a : Watching). verdicts_at w a m) (watch_append w (watch_move w g (enter k)) (moves_of B) (leave k ∷ e)
        ∙ ap (λ (a : Watching). watch_moves w (watch_move w a (leave k)) e) (watches_behind w B (watch_move w g (enter k))))
        ∙ v.told_then ∙ ap (λ (a : List Opened). v.inner ++ map verdict a) (more_rows (tour_rows w g.context B) v.rows g.open_ones);
    all_rows = ap (λ (a : List Bool). tour_rows w g.context B ++ a) v.all_rows ∙ sym (append_assoc (tour_rows w g.context B) v.rows v.more);
  }

inside_placed : (w : Watch) (k : ℕ) (B T : Tour) (g : Watching) (b : List Move) (m : Move) (d : List Move) → Placed (moves_of B) (leave k) (moves_of T) b m d
    → ((e : List Move) → moves_of B ≡ b ++ m ∷ e → Inside w (watch_move w g (enter k)) B b m) → ((e : List Move) → moves_of T ≡ e ++ m ∷ d → Inside w (left_behind w g B) T e m) → Inside w g (inside k B T) (enter k ∷ b) m
inside_placed w k B T g b m d (before_it e x) f q = inside_before w k B T g m b (f e x)
inside_placed w k B T g b m d (it_is x y) f q = inside_at w k B T g m b x y
inside_placed w k B T g b m d (behind_it e x y) f q = inside_behind w k B T g m b e x (q e y)

pub told_inside : (w : Watch) (T : Tour) (g : Watching) (b : List Move) (m : Move) (d : List Move) → moves_of T ≡ b ++ m ∷ d → Inside w g T b m
told_inside w over g [] m d h = absurd (cc)
told_inside w over g (z ∷ b) m d h = absurd (cc)
told_inside w (saw i t T) g [] m d h =
    let e : value i t ≡ m = cc in
    let c = with_value i t.value g.context in
    subst (Inside w g (saw i t T) []) e (record { rows = rows_at w i c; more = tour_rows w c T; inner = []; told_then = refl; all_rows = refl })
told_inside w (saw i t T) g (z ∷ b) m d h =
    let e : value i t ≡ z = cc in
    let f : moves_of T ≡ b ++ m ∷ d = cc in
    subst (λ (y : Move). Inside w g (saw i t T) (y ∷ b) m) e (inside_saw w i t T g b m (told_inside w T (watch_move w g (value i t)) b m d f))
told_inside w (inside k B T) g [] m d h =
    let e : enter k ≡ m = cc in
    subst (Inside w g (inside k B T) []) e (record {
      rows = [];
      more = tour_rows w g.context B ++ tour_rows w (after g.context B) T;
      inner = verdict (record { rest = rest_below k (chain_in w g.open_ones); rows = [] }) ∷ [];
      told_then = ap (λ (y : List Opened). verdict (record { rest = rest_below k (chain_in w g.open_ones); rows = [] }) ∷ map verdict y) (sym (no_more_rows g.open_ones));
      all_rows = refl;
    })
told_inside w (inside k B T) g (z ∷ b) m d h =
    let e : enter k ≡ z = cc in
    let f : moves_of B ++ leave k ∷ moves_of T ≡ b ++ m ∷ d = cc in
    subst (λ (y : Move). Inside w g (inside k B T) (y ∷ b) m) e
    (inside_placed w k B T g b m d (placed (moves_of B) (leave k) (moves_of T) b m d f)
    (λ e f. told_inside w B (watch_move w g (enter k)) b m e f)
    (λ e f. told_inside w T (record { context = after g.context B; open_ones = map (with_rows (tour_rows w g.context B)) g.open_ones }) e m d f))
