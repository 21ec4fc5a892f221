-- The moves of a record as a tour; and a record is kept where its tour has a true row.
use Rattle.std.proofs.Common.{◌≡◌, ℕ, List, [], ◌∷◌, ◌++◌, length, Bool, true, false, ◌&&◌, None, refl, sym, ap, ap₂, ◌∙◌, append_assoc}
use Rattle.std.specs.Prelude.{map, ◌==◌, ◌||◌, if◌then◌else◌}
use Rattle.std.specs.List.{list_any}
use Rattle.dr_meaning.specs.Path.{chain_end}
use Rattle.dr_meaning.specs.Rows.{rows}
use Rattle.dr_meaning.specs.Column.{triplet}
use Rattle.dr_meaning.specs.Walk.{Move, enter, value, leave, walk, record_moves}
use Rattle.dr_moves.specs.Course.{reach, Visit, Items, course}
use Rattle.dr_moves.proofs.Made.{nulls, Made, made_nothing, made_give, made_absent, made_visit, Laps, no_lap, one_lap, MadeRecords, no_record, one_record}
use Rattle.dr_moves.proofs.FollowingLemmas.{follows_made}
use Rattle.dr_moves.proofs.WalkFollows.{walk_follows}
use Rattle.dr_moves.specs.Context.{Context, with_value, contexts}
use Rattle.dr_moves.specs.Tour.{Toured, WalkIsTour, Tour, over, saw, inside, moves_of, after}
use Rattle.dr_moves.specs.Condition.{Watch, some_true}
use Rattle.dr_moves.specs.KeptLaws.{TrueRowKeeps}
use Rattle.dr_moves.proofs.FiringLemmas.{rows_fire}
use Rattle.dr_moves.proofs.KeptRows.{any_append, kept_any}

-- ---- what is made is a tour

-- one tour before another
abbrev joined : Tour → Tour → Tour
joined over U = U
joined (saw i t T) U = saw i t (joined T U)
joined (inside k B T) U = inside k B (joined T U)

joined_moves : (T U : Tour) → moves_of (joined T U) ≡ moves_of T ++ moves_of U
joined_moves over U = refl
joined_moves (saw i t T) U = ap (λ (x : List Move). value i t ∷ x) (joined_moves T U)
joined_moves (inside k B T) U = ap (λ (x : List Move). enter k ∷ (moves_of B ++ leave k ∷ x)) (joined_moves T U) ∙ sym (ap (λ (x : List Move). enter k ∷ x) (append_assoc (moves_of B) (leave k ∷ moves_of T) (moves_of U)))

nulls_tour : (is : List ℕ) (r d : ℕ) (a : List Move) → Toured a → Toured (nulls is r d ++ a)
nulls_tour [] r d a t = t
nulls_tour (i ∷ is) r d a t = let k = nulls_tour is r d a t in record { tour = saw i (triplet r d None) k.tour; moves = ap (λ (x : List Move). value i (triplet r d None) ∷ x) k.moves }

inside_tour : (k : ℕ) (a b : List Move) → Toured a → Toured b → Toured (enter k ∷ (a ++ leave k ∷ b))
inside_tour k a b x y = record { tour = inside k x.tour y.tour; moves = ap₂ (λ (p q : List Move). enter k ∷ (p ++ leave k ∷ q)) x.moves y.moves }

both_tour : (a b : List Move) → Toured a → Toured b → Toured (a ++ b)
both_tour a b x y = record { tour = joined x.tour y.tour; moves = joined_moves x.tour y.tour ∙ ap₂ (λ (p q : List Move). p ++ q) x.moves y.moves }

nothing_tour : Toured []
nothing_tour = record { tour = over; moves = refl }

mutual
  made_tour : (I : Items) (r : ℕ) (next : ℕ → ℕ) (a : List Move) → Made I r next a → Toured a
  made_tour _ _ _ _ (made_nothing r next) = nothing_tour
  made_tour _ _ _ _ (made_give g I r next t a p q h m) = let k = made_tour I r next a m in record { tour = saw g.leaf t k.tour; moves = ap (λ (x : List Move). value g.leaf t ∷ x) k.moves }
  made_tour _ _ _ _ (made_absent v B I r next a m) = nulls_tour v.leaves r (reach next v.gates v.low) a (made_tour I r next a m)
  made_tour _ _ _ _ (made_visit v B I r next after a b c h m l n) = inside_tour v.number a (b ++ c) (made_tour B r after a m) (both_tour b c (laps_tour v B b l) (made_tour I r next c n))

  laps_tour : (v : Visit) (B : Items) (b : List Move) → Laps v B b → Toured b
  laps_tour _ _ _ (no_lap v B) = nothing_tour
  laps_tour _ _ _ (one_lap v B after a b m l) = inside_tour v.number a b (made_tour B v.level after a m) (laps_tour v B b l)

records_tour : (top : Items) (n : ℕ) (ms : List Move) → MadeRecords top n ms → Toured ms
records_tour top _ _ no_record = nothing_tour
records_tour top _ _ (one_record n after a b m r) = inside_tour 0 a b (made_tour top 0 after a m) (records_tour top n b r)

-- the walk of records is a tour
pub walk_tour : WalkIsTour
walk_tour fs F R h v = records_tour (course fs F) (length R) (walk fs F R) (follows_made (course fs F) _ (walk fs F R) (walk_follows fs F R h v))

-- ---- a true row

contexts_append : (i : ℕ) (T : Tour) (c : Context) (ms : List Move) → contexts i c (moves_of T ++ ms) ≡ contexts i c (moves_of T) ++ contexts i (after c T) ms
contexts_append i over c ms = refl
contexts_append i (saw j t T) c ms = by_leaf (j == i) (contexts_append i T (with_value j t.value c) ms)
  where
    by_leaf : (b : Bool) → contexts i (with_value j t.value c) (moves_of T ++ ms) ≡ contexts i (with_value j t.value c) (moves_of T) ++ contexts i (after (with_value j t.value c) T) ms
        → (if b then with_value j t.value c ∷ contexts i (with_value j t.value c) (moves_of T ++ ms) else contexts i (with_value j t.value c) (moves_of T ++ ms))
        ≡ (if b then with_value j t.value c ∷ contexts i (with_value j t.value c) (moves_of T) else contexts i (with_value j t.value c) (moves_of T)) ++ contexts i (after (with_value j t.value c) T) ms
    by_leaf true e = ap (λ (x : List Context). with_value j t.value c ∷ x) e
    by_leaf false e = e
contexts_append i (inside k B T) c ms =
    ap (contexts i c) (append_assoc (moves_of B) (leave k ∷ moves_of T) ms)
    ∙ contexts_append i B c (leave k ∷ (moves_of T ++ ms))
    ∙ ap (λ (x : List Context). contexts i c (moves_of B) ++ x) (contexts_append i T (after c B) ms)
    ∙ sym (append_assoc (contexts i c (moves_of B)) (contexts i (after c B) (moves_of T)) (contexts i (after (after c B) T) ms))
    ∙ ap (λ (x : List Context). x ++ contexts i (after (after c B) T) ms) (sym (contexts_append i B c (leave k ∷ moves_of T)))

pub some_true_any : (w : Watch) (T : Tour) (c : Context) → some_true w c T ≡ list_any w.test (contexts w.last c (moves_of T))
some_true_any w over c = refl
some_true_any w (saw j t T) c = by_leaf (j == w.last) (some_true_any w T (with_value j t.value c))
  where
    by_leaf : (b : Bool) → some_true w (with_value j t.value c) T ≡ list_any w.test (contexts w.last (with_value j t.value c) (moves_of T))
        → ((b && w.test (with_value j t.value c)) || some_true w (with_value j t.value c) T) ≡ list_any w.test (if b then with_value j t.value c ∷ contexts w.last (with_value j t.value c) (moves_of T) else contexts w.last (with_value j t.value c) (moves_of T))
    by_leaf true e = ap (λ (x : Bool). w.test (with_value j t.value c) || x) e
    by_leaf false e = e
some_true_any w (inside k B T) c =
    ap₂ (λ (x y : Bool). x || y) (some_true_any w B c) (some_true_any w T (after c B))
    ∙ sym (any_append w.test (contexts w.last c (moves_of B)) (contexts w.last (after c B) (moves_of T)))
    ∙ ap (list_any w.test) (sym (contexts_append w.last B c (leave k ∷ moves_of T)))

pub any_of_map : {X : Type 0} (f : X → Bool) (xs : List X) → list_any (λ (b : Bool). b) (map f xs) ≡ list_any f xs
any_of_map f [] = refl
any_of_map f (x ∷ xs) = ap (λ (b : Bool). f x || b) (any_of_map f xs)

-- a record's tour has a true row exactly where the condition keeps the record
pub true_row_keeps : TrueRowKeeps
true_row_keeps fs F w p K n c test T h e z t f m =
    some_true_any w T c ∙ ap (λ (x : List Move). list_any w.test (contexts w.last c x)) m
    ∙ sym (any_of_map w.test (contexts w.last c (record_moves fs F n)))
    ∙ ap (list_any (λ (b : Bool). b)) (rows_fire Bool fs F w.last p K n c w.test test h e z t f)
    ∙ any_of_map test (rows (chain_end p) n) ∙ sym (kept_any (chain_end p) test n)
