-- A walk over columns with their values: what it keeps, and what it gives of a walk by levels.
use Rattle.std.proofs.Common.{◌≡◌, ◌≢◌, ℕ, zero, suc, ◌+◌, ◌-◌, ◌*◌, ◌^◌, ◌≤◌, ◌<◌, min, List, [], ◌∷◌, ◌++◌, length, get_or, Bool, true, false, Option, Some, None, refl, sym, ap, ap₂, subst, ◌∙◌, append-nil, true≢false, arith, Result, Ok, Err}
use Rattle.std.specs.Prelude.{nat_lt, option_map, replicate, IfOk, IsErrOf}
use Rattle.std.proofs.lemmas.Bool.{ne_eqb}
use Rattle.std.proofs.lemmas.Bool.Decides.{nat_tests}
use Rattle.std.proofs.lemmas.List.{get_or_past}
use Rattle.dr_meaning.specs.Schema.{Fields}
use Rattle.dr_meaning.specs.Path.{Step}
use Rattle.dr_meaning.specs.Record.{Node}
use Rattle.dr_meaning.specs.Column.{Triplet, triplet}
use Rattle.dr_meaning.specs.Walk.{Move, value, walk}
use Rattle.dr_nested.specs.Views.{kind_view}
use Rattle.dr_levels.specs.Views.{levels_pair, triplet_levels, triplet_view, move_view, lent_value}
use Rattle.dr_levels.specs.declared.triplet.Levels.{Levels}
use Rattle.dr_levels.specs.declared.triplet.Triplet.{Triplet as CodeTriplet}
use Rattle.dr_levels.specs.declared.triplet.ValueRef.{ValueRef}
use Rattle.dr_levels.specs.declared.moves.Move.{Move as CodeMove}
use Rattle.dr_nested.specs.declared.shape.Kind as code_kind
use Rattle.dr_moves.specs.Course.{course}
use Rattle.dr_moves.specs.Turning.{between}
use Rattle.dr_moves.specs.Leading.{Left, head_of, columns_of, behind_move}
use Rattle.dr_walk.specs.Standing.{fits}
use Rattle.dr_walk.specs.Walking.{HasColumns, NoneHas, first_wanted, then_wanted, is_known, IsAtLevels, ComesNext, WantsNext, leaf_moves, moves_over, behind_moves, HasLevels, fits_next, is_fit}
use Rattle.dr_walk.specs.Valued.{meant_value, kept_value, IsKept, IsAt, Comes, given_move, Wants, moves_of, left_behind, IsKeptFor, IsGiven, IsValued, HasForm}
use Rattle.dr_walk.specs.declared.fault.AssembleFault.{AssembleFault}
use Rattle.dr_walk.specs.declared.level_move.LevelMove.{LevelMove}
use Rattle.dr_walk.specs.declared.level_walk.LevelWalk.{LevelWalk}
use Rattle.dr_walk.specs.declared.walk.Walk.{Walk}
use Rattle.dr_walk.proofs.KnownLemmas.{known_after}
use Rattle.dr_walk.proofs.WalkLemmas.{nothing_there, left_past, not_known, known_one, one_more}

-- ---- the beginning

pub kept_first : (fs : Fields) (F : List (List Step)) (rows : ℕ) (C : List (List Triplet)) (w : LevelWalk) (values : List (Option ValueRef)) (n : ℕ) → IsAtLevels fs F rows C [] (columns_of C) w → w.wanted ≡ first_wanted n → n ≡ length F
    → values ≡ replicate n None → IsKept w.wanted w.given (columns_of C) values
kept_first fs F rows C w values n at q k e i = λ h. none ∙ by_count n q k h
  where
    none : kept_value values i ≡ None
    none = ap (λ vs. kept_value vs i) e ∙ ap (option_map lent_value) (nothing_there n i)

    none_gave : w.given ≡ 0
    none_gave = let g = at.gave in omega (arith, g)

    never : (i : ℕ) → nat_lt i 0 ≡ false
    never i = grind (arith, nat_tests)

    by_count : (n : ℕ) → w.wanted ≡ first_wanted n → n ≡ length F → is_known w.wanted w.given i ≡ true → None ≡ meant_value (head_of (columns_of C i))
    by_count zero q k h = let c = at.columns in ap (λ (ts : List Triplet). meant_value (head_of ts)) (sym (get_or_past C i [] (omega (arith, c, k))))
    by_count (suc n) q k h = absurd (true≢false (sym h ∙ ap₂ (λ (o : Option ℕ) (g : ℕ). is_known o g i) q none_gave ∙ never i))

-- ---- what comes

pub comes_levels : (left : Left) (o : Option ℕ) (more : Option CodeTriplet) (levels : Option Levels) → Comes left o more → option_map levels_pair levels ≡ option_map triplet_levels (option_map triplet_view more) → (more ≡ None → levels ≡ None)
    → ComesNext left o levels
comes_levels left None more levels c e n = n c
comes_levels left (Some i) more levels c e n = e ∙ ap (option_map triplet_levels) c

-- the value that is kept of a leaf is that of its next triplet
abbrev pub IsKeptAt : Left → List (Option ValueRef) → ℕ → Type 0
IsKeptAt left values i = kept_value values i ≡ meant_value (head_of (left i))

pub kept_now : (fs : Fields) (F : List (List Step)) (rows : ℕ) (C : List (List Triplet)) (ms : List Move) (left : Left) (w : Walk) (values : List (Option ValueRef)) (more : Option CodeTriplet) → IsAt fs F rows C ms left w → Comes left w.levels.wanted more
    → ((leaf : ℕ) → w.levels.wanted ≡ Some leaf → leaf < length w.values.items → kept_value values leaf ≡ meant_value (option_map triplet_view more))
    → ((i : ℕ) → (w.levels.wanted ≡ Some i → ⊥) → kept_value values i ≡ kept_value w.values.items i)
    → IsKept (then_wanted w.levels.given (length w.levels.course.heads.items) w.levels.wanted) w.levels.given left values
kept_now fs F rows C ms left w values more at c here others = known_after (IsKeptAt left values) w.levels.given n w.levels.wanted known past of_wanted
  where
    n : ℕ
    n = length w.levels.course.heads.items

    as_many : n ≡ length F
    as_many = at.levels.heads

    known : (i : ℕ) → is_known w.levels.wanted w.levels.given i ≡ true → IsKeptAt left values i
    known i h = others i (λ q. true≢false (sym h ∙ ap (λ (o : Option ℕ). is_known o w.levels.given i) q ∙ not_known w.levels.given i)) ∙ at.kept i h

    never : (i : ℕ) → n ≤ i → i < length F → ⊥
    never i p l = omega (arith, as_many, p, l)

    past : (i : ℕ) → n ≤ i → IsKeptAt left values i
    past i p =
        let b = at.values in
        others i (λ q. never i p (at.levels.wants i q)) ∙ ap (option_map lent_value) (get_or_past w.values.items i None (omega (arith, as_many, b, p)))
        ∙ ap (λ (ts : List Triplet). meant_value (head_of ts)) (sym (left_past (course fs F) (between rows) at.levels.stack C ms left (length F) i at.levels.leads at.levels.columns (omega (arith, as_many, p))))

    of_wanted : (i : ℕ) → w.levels.wanted ≡ Some i → IsKeptAt left values i
    of_wanted i q =
        let b = at.values in
        let l = at.levels.wants i q in
        here i q (omega (arith, b, l)) ∙ ap meant_value (subst (λ (o : Option ℕ). Comes left o more) q c)

-- ---- a leaf's move

-- the column's next triplet is there, with these levels, and this value
pub given_fits : (left : Left) (i : ℕ) (l : Levels) (k : Option code_kind.Kind) (values : List (Option ValueRef)) → HasLevels left (Some (LevelMove.Leaf i l k)) → IsKeptFor left values (Some (LevelMove.Leaf i l k))
    → is_fit left (Some (LevelMove.Leaf i l k)) ≡ fits (option_map kind_view k) (kept_value values i)
given_fits left i l k values h e = by_head (head_of (left i)) h e
  where
    none_is_some : None ≡ Some (levels_pair l) → ⊥
    none_is_some q = cc

    by_head : (o : Option Triplet) → option_map triplet_levels o ≡ Some (levels_pair l) → kept_value values i ≡ meant_value o → fits_next (option_map kind_view k) o ≡ fits (option_map kind_view k) (kept_value values i)
    by_head None h e = absurd (none_is_some h)
    by_head (Some t) h e = ap (fits (option_map kind_view k)) (sym e)

pub given_is : (left : Left) (i : ℕ) (l : Levels) (k : Option code_kind.Kind) (values : List (Option ValueRef)) → HasLevels left (Some (LevelMove.Leaf i l k)) → IsKeptFor left values (Some (LevelMove.Leaf i l k))
    → moves_over left (Some (LevelMove.Leaf i l k)) ≡ moves_of (Some (given_move i l (get_or values i None)))
given_is left i l k values h e = by_head (head_of (left i)) h e
  where
    none_is_some : None ≡ Some (levels_pair l) → ⊥
    none_is_some q = cc

    same : (t : Triplet) → Some (triplet_levels t) ≡ Some (levels_pair l) → kept_value values i ≡ t.value → t ≡ triplet_view (record { repetition = l.repetition; definition = l.definition; value = get_or values i None })
    same t h e =
        let p : triplet_levels t ≡ levels_pair l = cc in
        let r : t.repetition ≡ l.repetition = ap (λ (q : ℕ × ℕ). q.0) p in
        let d : t.definition ≡ l.definition = ap (λ (q : ℕ × ℕ). q.1) p in
        ap₂ (λ (x y : ℕ). triplet x y t.value) r d ∙ ap (triplet l.repetition l.definition) (sym e)

    by_head : (o : Option Triplet) → option_map triplet_levels o ≡ Some (levels_pair l) → kept_value values i ≡ meant_value o → leaf_moves i o ≡ moves_of (Some (given_move i l (get_or values i None)))
    by_head None h e = absurd (none_is_some h)
    by_head (Some t) h e = ap (λ (u : Triplet). value i u ∷ []) (same t h e)

pub valued_leaf : (left : Left) (i : ℕ) (l : Levels) (k : Option code_kind.Kind) (values : List (Option ValueRef)) (r : Result (Option CodeMove) AssembleFault) → HasLevels left (Some (LevelMove.Leaf i l k))
    → IsKeptFor left values (Some (LevelMove.Leaf i l k)) → IsGiven i l (fits (option_map kind_view k) (kept_value values i)) (get_or values i None) r → IsValued left (Some (LevelMove.Leaf i l k)) r
valued_leaf left i l k values (Ok m) h e g = (given_fits left i l k values h e ∙ g.0, given_is left i l k values h e ∙ ap moves_of (sym g.1))
valued_leaf left i l k values (Err f) h e g = given_fits left i l k values h e ∙ g

pub form_leaf : (i : ℕ) (l : Levels) (k : Option code_kind.Kind) (b : Bool) (v : Option ValueRef) (r : Result (Option CodeMove) AssembleFault) → IsGiven i l b v r → IfOk r (HasForm (Some (LevelMove.Leaf i l k)))
form_leaf i l k b v (Ok m) g = subst (HasForm (Some (LevelMove.Leaf i l k))) (sym g.1) refl
form_leaf i l k b v (Err f) g = tt

-- what is kept of the leaf of a move
pub kept_for : (left : Left) (m : Option LevelMove) (before after : Option ℕ) (given : ℕ) (values : List (Option ValueRef)) → WantsNext m before after → IsKept before given left values → IsKeptFor left values m
kept_for left None before after given values w k = tt
kept_for left (Some (LevelMove.Enter n)) before after given values w k = tt
kept_for left (Some (LevelMove.Leave n)) before after given values w k = tt
kept_for left (Some (LevelMove.Leaf i l n)) before after given values w k = k i (ap (λ (o : Option ℕ). is_known o given i) w.0)

-- ---- what a call leaves

behind_same : (left : Left) (m : Option LevelMove) (x : Option CodeMove) (w : LevelWalk) (fs : Fields) (F : List (List Step)) (rows : ℕ) (C : List (List Triplet)) (ms : List Move) → moves_over left m ≡ moves_of x
    → IsAtLevels fs F rows C (ms ++ moves_over left m) (behind_moves (moves_over left m) left) w → IsAtLevels fs F rows C (ms ++ moves_of x) (left_behind x left) w
behind_same left m x w fs F rows C ms e at = by_move x (subst (λ (ns : List Move). IsAtLevels fs F rows C (ms ++ ns) (behind_moves ns left) w) e at)
  where
    by_move : (x : Option CodeMove) → IsAtLevels fs F rows C (ms ++ moves_of x) (behind_moves (moves_of x) left) w → IsAtLevels fs F rows C (ms ++ moves_of x) (left_behind x left) w
    by_move None at = at
    by_move (Some x) at = at

kept_next : (left : Left) (x : Option CodeMove) (o after : Option ℕ) (before given : ℕ) (values : List (Option ValueRef)) → Wants x o after → (x ≡ None → given ≡ before) → ((y : CodeMove) → x ≡ Some y → given ≢ 0)
    → IsKept o before left values → IsKept after given (left_behind x left) values
kept_next left None o after before given values w s d k i h = k i (sym (ap₂ (λ (p : Option ℕ) (g : ℕ). is_known p g i) w (s refl)) ∙ h)
kept_next left (Some x) o after before given values w s d k i h = of x w (d x refl)
  where
    all : kept_value values i ≡ meant_value (head_of (left i))
    all = k i (ap (λ (p : Option ℕ). is_known p before i) w.0)

    of : (x : CodeMove) → Wants (Some x) o after → given ≢ 0 → kept_value values i ≡ meant_value (head_of (left_behind (Some x) left i))
    of (CodeMove.Enter n) w z = all
    of (CodeMove.Leave n) w z = all
    of (CodeMove.Leaf j t) w z =
        let apart : i ≢ j = known_one given j i z (sym (ap (λ (p : Option ℕ). is_known p given i) w.1) ∙ h) in
        all ∙ ap (λ (ts : List Triplet). meant_value (head_of ts)) (sym (behind_other j t i apart))
      where
        behind_other : (j : ℕ) (t : CodeTriplet) (i : ℕ) → i ≢ j → behind_move (value j (triplet_view t)) left i ≡ left i
        behind_other j t i d = rw (ne_eqb j i (λ q. d (sym q))) refl

pub wants_form : (m : Option LevelMove) (x : Option CodeMove) (before after : Option ℕ) → HasForm m x → WantsNext m before after → Wants x before after
wants_form None None before after f w = w
wants_form None (Some x) before after f w = absurd f
wants_form (Some m) None before after f w = absurd f
wants_form (Some m) (Some x) before after f w = (w.0, w.1 ∙ f)

pub none_form : (m : Option LevelMove) (x : Option CodeMove) → HasForm m x → x ≡ None → m ≡ None
none_form None x f e = refl
none_form (Some m) None f e = absurd f
none_form (Some m) (Some x) f e = absurd (some_is_none e)
  where
    some_is_none : Some x ≡ None → ⊥
    some_is_none q = cc

pub form_none : (m : Option LevelMove) (x : Option CodeMove) → HasForm m x → m ≡ None → x ≡ None
form_none m None f e = refl
form_none None (Some x) f e = absurd f
form_none (Some m) (Some x) f e = absurd (some_is_none e)
  where
    some_is_none : Some m ≡ None → ⊥
    some_is_none q = cc

-- what is known of a call of the walk by levels that answers so, and of the value that its move asks for
pub record Went (fs : Fields) (F : List (List Step)) (rows : ℕ) (C : List (List Triplet)) (ms : List Move) (left : Left) (old mid : LevelWalk) (values : List (Option ValueRef)) (m : Option LevelMove) (r : Result (Option CodeMove) AssembleFault) : Type 0 where
  pub on : is_fit left m ≡ true → IsAtLevels fs F rows C (ms ++ moves_over left m) (behind_moves (moves_over left m) left) mid
  pub gave : old.given ≡ min (length ms) (2 ^ 64 - 1)
  pub wants : WantsNext m (then_wanted old.given (length old.course.heads.items) old.wanted) mid.wanted
  pub kept : IsKept (then_wanted old.given (length old.course.heads.items) old.wanted) old.given left values
  pub valued : IsValued left m r
  pub form : IfOk r (HasForm m)

pub went : (fs : Fields) (F : List (List Step)) (rows : ℕ) (C : List (List Triplet)) (ms : List Move) (left : Left) (old : Walk) (mid : LevelWalk) (values : List (Option ValueRef)) (more : Option CodeTriplet) (m : Option LevelMove) (r : Result (Option CodeMove) AssembleFault)
    → IsAt fs F rows C ms left old → Comes left old.levels.wanted more
    → ((leaf : ℕ) → old.levels.wanted ≡ Some leaf → leaf < length old.values.items → kept_value values leaf ≡ meant_value (option_map triplet_view more))
    → ((i : ℕ) → (old.levels.wanted ≡ Some i → ⊥) → kept_value values i ≡ kept_value old.values.items i)
    → (is_fit left m ≡ true → IsAtLevels fs F rows C (ms ++ moves_over left m) (behind_moves (moves_over left m) left) mid) → HasLevels left m
    → WantsNext m (then_wanted old.levels.given (length old.levels.course.heads.items) old.levels.wanted) mid.wanted
    → ((left : Left) → HasLevels left m → IsKeptFor left values m → IsValued left m r) → IfOk r (HasForm m) → Went fs F rows C ms left old.levels mid values m r
went fs F rows C ms left old mid values more m r at c here others on levels wants valued form =
    let kept = kept_now fs F rows C ms left old values more at c here others in
    record {
      on = on;
      gave = at.levels.gave;
      wants = wants;
      kept = kept;
      valued = valued left levels (kept_for left m (then_wanted old.levels.given (length old.levels.course.heads.items) old.levels.wanted) mid.wanted old.levels.given values wants kept);
      form = form;
    }

pub went_on : (fs : Fields) (F : List (List Step)) (rows : ℕ) (C : List (List Triplet)) (ms : List Move) (left : Left) (old mid : LevelWalk) (values : List (Option ValueRef)) (m : Option LevelMove) (r : Result (Option CodeMove) AssembleFault) (new : Walk)
    → Went fs F rows C ms left old mid values m r → IfOk r (λ x. new.levels ≡ mid) → new.values.items ≡ values → length values ≡ length F → IfOk r (λ x. IsAt fs F rows C (ms ++ moves_of x) (left_behind x left) new)
went_on fs F rows C ms left old mid values m (Err f) new g s v n = tt
went_on fs F rows C ms left old mid values m (Ok x) new g s v n =
    let at = behind_same left m x mid fs F rows C ms g.valued.1 (g.on g.valued.0) in
    record {
      levels = subst (IsAtLevels fs F rows C (ms ++ moves_of x) (left_behind x left)) (sym s) at;
      values = ap length v ∙ n;
      kept = subst (λ (w : LevelWalk). IsKept w.wanted w.given (left_behind x left) new.values.items) (sym s) (subst (IsKept mid.wanted mid.given (left_behind x left)) (sym v)
          (kept_next left x (then_wanted old.given (length old.course.heads.items) old.wanted) mid.wanted old.given mid.given values (wants_form m x _ mid.wanted g.form g.wants) (same at) (some at) g.kept));
    }
  where
    same : IsAtLevels fs F rows C (ms ++ moves_of x) (left_behind x left) mid → x ≡ None → mid.given ≡ old.given
    same at e = at.gave ∙ ap (λ (y : Option CodeMove). min (length (ms ++ moves_of y)) (2 ^ 64 - 1)) e ∙ ap (λ (ms : List Move). min (length ms) (2 ^ 64 - 1)) (append-nil ms) ∙ sym g.gave

    never : 1 ≤ 0 → ⊥
    never z = omega (arith, z)

    some : IsAtLevels fs F rows C (ms ++ moves_of x) (left_behind x left) mid → (y : CodeMove) → x ≡ Some y → mid.given ≢ 0
    some at y e q =
        let l : length (ms ++ moves_of x) ≡ length ms + 1 = ap (λ (z : Option CodeMove). length (ms ++ moves_of z)) e ∙ one_more ms (move_view y) in
        let g = at.gave in
        never (omega (arith, l, g, q))

-- what is said of the moves by levels, of the moves with values
pub valued_moves : (P : List Move → Type 0) (left : Left) (m : Option LevelMove) (r : Result (Option CodeMove) AssembleFault) → IsValued left m r → (is_fit left m ≡ true → P (moves_over left m)) → IfOk r (λ x. P (moves_of x))
valued_moves P left m (Ok x) v h = subst P v.1 (h v.0)
valued_moves P left m (Err f) v h = tt

-- where records have the columns, the value is there
pub valued_front : (fs : Fields) (F : List (List Step)) (ms : List Move) (R : List Node) (left : Left) (m : Option LevelMove) (r : Result (Option CodeMove) AssembleFault) → IsValued left m r
    → (is_fit left m ≡ true) × (rest : List Move) × (walk fs F R ≡ (ms ++ moves_over left m) ++ rest) → IfOk r (λ x. (rest : List Move) × (walk fs F R ≡ (ms ++ moves_of x) ++ rest))
valued_front fs F ms R left m (Ok x) v h = (h.1, h.2 ∙ ap (λ (ns : List Move). (ms ++ ns) ++ h.1) v.1)
valued_front fs F ms R left m (Err f) v h = tt

pub valued_bad : (fs : Fields) (F : List (List Step)) (C : List (List Triplet)) (rows : ℕ) (left : Left) (m : Option LevelMove) (r : Result (Option CodeMove) AssembleFault) → IsValued left m r → IsErrOf r AssembleFault.BadData
    → ((R : List Node) → HasColumns fs F C rows R → is_fit left m ≡ true) → NoneHas fs F C rows
valued_bad fs F C rows left m (Ok x) v e h R q = other e
  where
    other : Ok x ≡ Err AssembleFault.BadData → ⊥
    other z = cc
valued_bad fs F C rows left m (Err f) v e h R q = true≢false (sym (h R q) ∙ v)

pub valued_bound : (left : Left) (rows : ℕ) (m : Option LevelMove) (r : Result (Option CodeMove) AssembleFault) (mid new : LevelWalk) → IsValued left m r → IfOk r (λ x. new ≡ mid) → (is_fit left m ≡ true → mid.given ≤ 2 * rows + 65 * mid.taken)
    → IfOk r (λ x. new.given ≤ 2 * rows + 65 * new.taken)
valued_bound left rows m (Ok x) mid new v s h = subst (λ (w : LevelWalk). w.given ≤ 2 * rows + 65 * w.taken) (sym s) (h v.0)
valued_bound left rows m (Err f) mid new v s h = tt

-- ---- by what is answered

abbrev Levelled : Type 0
Levelled = Result (Option LevelMove) AssembleFault

abbrev Answer : Type 0
Answer = Result (Option CodeMove) AssembleFault

pub level_ok : (P : Option LevelMove → Type 0) (r : Levelled) (m : Option LevelMove) → r ≡ Ok m → IfOk r P → P m
level_ok P r m e h = subst (λ (x : Levelled). IfOk x P) e h

pub wants_valued : (m : Option LevelMove) (r : Answer) (before mid after : Option ℕ) → IfOk r (HasForm m) → WantsNext m before mid → after ≡ mid → IfOk r (λ x. Wants x before after)
wants_valued m (Ok x) before mid after f w e = subst (λ (o : Option ℕ). Wants x before o) (sym e) (wants_form m x before mid f w)
wants_valued m (Err g) before mid after f w e = tt

-- no move is given where none is by levels, and only there
pub last_valued : (m : Option LevelMove) (r : Answer) → IfOk r (HasForm m) → m ≡ None → IfOk r (λ x. x ≡ None)
last_valued m (Ok x) f e = form_none m x f e
last_valued m (Err g) f e = tt

pub none_valued : (m : Option LevelMove) (r : Answer) → IfOk r (HasForm m) → r ≡ Ok None → m ≡ None
none_valued m r f e = none_form m None (subst (λ (x : Answer). IfOk x (HasForm m)) e f) refl
