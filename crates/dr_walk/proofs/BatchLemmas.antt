-- A walk over batches of columns: what is at hand of them, and what a call leaves.
use Rattle.std.proofs.Common.{◌≡◌, ◌≢◌, ℕ, ◌≤◌, List, [], ◌∷◌, ◌++◌, length, map, drop, Bool, true, false, Option, Some, None, refl, sym, ap, subst, ◌∙◌, append-nil, true≢false, arith, Ok, Err}
use Rattle.std.specs.Prelude.{not, ◌==◌, if◌then◌else◌, option_map, is_some}
use Rattle.std.specs.List.{list_all}
use Rattle.std.proofs.lemmas.Bool.{eqb-true}
use Rattle.std.proofs.lemmas.Bool.Decides.{nat_tests}
use Rattle.dr_meaning.specs.Schema.{Fields}
use Rattle.dr_meaning.specs.Path.{Step, Leaf, is_leaf_path}
use Rattle.dr_meaning.specs.Record.{Node}
use Rattle.dr_meaning.specs.Column.{Triplet}
use Rattle.dr_meaning.specs.Walk.{Move, walk, no_record}
use Rattle.dr_meaning.specs.WalkLaws.{open_after_moves}
use Rattle.dr_nested.specs.Views.{kind_view}
use Rattle.dr_levels.specs.Views.{levels_pair, triplet_levels, move_view}
use Rattle.dr_levels.specs.declared.triplet.Levels.{Levels}
use Rattle.dr_levels.specs.declared.moves.Move.{Move as CodeMove}
use Rattle.dr_moves.specs.Course.{course}
use Rattle.dr_moves.specs.Turning.{between}
use Rattle.dr_moves.specs.Leading.{Left, head_of, tail_of}
use Rattle.dr_walk.specs.Walking.{HasColumns, NoneHas, is_known, then_wanted, IsAtLevels, ComesNext, given_leaf, WantsNext, next_levels, leaf_moves, moves_over, behind_moves, HasLevels, fits_next, is_fit}
use Rattle.dr_walk.specs.Checking.{rest_behind}
use Rattle.dr_walk.specs.Batches.{IsOver, ComesOf, IsGivenOf, GoesOver, Shrinks}
use Rattle.dr_walk.specs.declared.batches.Turned.{Turned}
use Rattle.dr_walk.specs.declared.fault.AssembleFault.{AssembleFault}
use Rattle.dr_walk.specs.declared.level_move.LevelMove.{LevelMove}
use Rattle.dr_walk.specs.declared.level_walk.LevelWalk.{LevelWalk}
use Rattle.dr_walk.proofs.KnownLemmas.{known_after, known_next, not_given}
use Rattle.dr_walk.proofs.WalkLemmas.{left_past, one_more}
use Rattle.dr_walk.proofs.AnswerLemmas.{nothing_more}

-- ---- the first of some levels

pub none_first : (ts : List Triplet) → [] ≡ map triplet_levels ts → None ≡ next_levels ts
none_first [] e = refl
none_first (t ∷ ts) e = absurd (cc)

pub some_first : (l : Levels) (ls : List Levels) (ts : List Triplet) → levels_pair l ∷ map levels_pair ls ≡ map triplet_levels ts → Some (levels_pair l) ≡ next_levels ts
some_first l ls [] e = absurd (cc)
some_first l ls (t ∷ ts) e = ap Some (same e)
  where
    same : levels_pair l ∷ map levels_pair ls ≡ triplet_levels t ∷ map triplet_levels ts → levels_pair l ≡ triplet_levels t
    same q = cc

none_levels : (more : Option Levels) → option_map levels_pair more ≡ None → more ≡ None
none_levels None e = refl
none_levels (Some l) e = absurd (cc)

-- ---- what comes of the leaf that is wanted

tail_nil : {A : Type 0} (xs ys : List A) → xs ++ ys ≡ [] → ys ≡ []
tail_nil [] ys e = e
tail_nil (x ∷ xs) ys e = absurd (cc)

comes_of : (left : Left) (here : Left) (later : Left) (more : Option Levels) → ((i : ℕ) → left i ≡ here i ++ later i) → (o : Option ℕ) → ComesOf o here later more → ComesNext left o more
comes_of left here later more r None c = c
comes_of left here later more r (Some i) c = by_rest (here i) (r i) c.0 c.1
  where
    by_rest : (ts : List Triplet) → left i ≡ ts ++ later i → option_map levels_pair more ≡ next_levels ts → (more ≡ None → later i ≡ []) → option_map levels_pair more ≡ next_levels (left i)
    by_rest [] e q n = q ∙ sym (ap next_levels (e ∙ n (none_levels more q)))
    by_rest (t ∷ ts) e q n = q ∙ sym (ap next_levels e)

pub comes_over : (fs : Fields) (F : List (List Step)) (C : List (List Triplet)) (rows : ℕ) (ms : List Move) (w : LevelWalk) (here : Left) (later : Left) (more : Option Levels) → (on : IsOver fs F C rows ms w here later) → ComesOf w.wanted here later more
    → ComesNext on.left w.wanted more
comes_over fs F C rows ms w here later more on c = comes_of on.left here later more on.rest w.wanted c

-- where it is known then that a batch is at its end, nothing comes later
abbrev pub IsHeard : Left → Left → ℕ → Type 0
IsHeard here later i = here i ≡ [] → later i ≡ []

pub heard_over : (fs : Fields) (F : List (List Step)) (C : List (List Triplet)) (rows : ℕ) (ms : List Move) (w : LevelWalk) (here : Left) (later : Left) (more : Option Levels) → IsOver fs F C rows ms w here later → ComesOf w.wanted here later more
    → (i : ℕ) → is_known (then_wanted w.given (length w.course.heads.items) w.wanted) w.given i ≡ true → IsHeard here later i
heard_over fs F C rows ms w here later more on c = known_after (IsHeard here later) w.given (length w.course.heads.items) w.wanted on.heard past of_wanted
  where
    past : (i : ℕ) → length w.course.heads.items ≤ i → IsHeard here later i
    past i p =
        let h : length w.course.heads.items ≡ length F = on.at.heads in
        λ e. tail_nil (here i) (later i) (sym (on.rest i) ∙ left_past (course fs F) (between rows) on.at.stack C ms on.left (length F) i on.at.leads on.at.columns (omega (arith, h, p)))

    of_wanted : (i : ℕ) → w.wanted ≡ Some i → IsHeard here later i
    of_wanted i q e =
        let x = subst (λ (o : Option ℕ). ComesOf o here later more) q c in
        x.1 (none_levels more (x.0 ∙ ap next_levels e))

-- ---- it goes on

given_some : (fs : Fields) (F : List (List Step)) (rows : ℕ) (C : List (List Triplet)) (ms : List Move) (n : Move) (left : Left) (w : LevelWalk) → IsAtLevels fs F rows C (ms ++ n ∷ []) left w → w.given ≢ 0
given_some fs F rows C ms n left w at q = let l = one_more ms n in let g = at.gave in never (omega (arith, l, g, q))
  where
    never : 1 ≤ 0 → ⊥
    never z = omega (arith, z)

pub over_heard : (fs : Fields) (F : List (List Step)) (C : List (List Triplet)) (rows : ℕ) (ms : List Move) (old new : LevelWalk) (here : Left) (later : Left) (more : Option Levels) → (on : IsOver fs F C rows ms old here later) → ComesOf old.wanted here later more
    → IsAtLevels fs F rows C (ms ++ []) on.left new → WantsNext None (then_wanted old.given (length old.course.heads.items) old.wanted) new.wanted → IsOver fs F C rows ms new here later
over_heard fs F C rows ms old new here later more on c at w =
    let same : IsAtLevels fs F rows C ms on.left new = subst (λ (ns : List Move). IsAtLevels fs F rows C ns on.left new) (append-nil ms) at in
    record {
      left = on.left;
      at = same;
      rest = on.rest;
      heard = known_next (IsHeard here later) None (then_wanted old.given (length old.course.heads.items) old.wanted) new.wanted old.given new.given w (λ e. same.gave ∙ sym on.at.gave) (λ s e. absurd (none_is_some s e)) (heard_over fs F C rows ms old here later more on c);
    }
  where
    none_is_some : (s : LevelMove) → None ≡ Some s → ⊥
    none_is_some s e = cc

-- ---- a leaf's move

-- the leaf's next triplet is that of its batch
pub same_head : (left : Left) (here : Left) (later : Left) (s : LevelMove) → ((i : ℕ) → left i ≡ here i ++ later i) → ((i : ℕ) → given_leaf s ≡ Some i → IsHeard here later i) → HasLevels left (Some s)
    → (i : ℕ) → given_leaf s ≡ Some i → (t : Triplet) × (ts : List Triplet) × (here i ≡ t ∷ ts)
same_head left here later (LevelMove.Enter k) r h l i e = absurd (cc)
same_head left here later (LevelMove.Leave k) r h l i e = absurd (cc)
same_head left here later (LevelMove.Leaf j x k) r h l i e = by_rest (here i) refl
  where
    same : Some j ≡ Some i → j ≡ i
    same q = cc

    none_is_some : None ≡ Some (levels_pair x) → ⊥
    none_is_some q = cc

    there : next_levels (left i) ≡ Some (levels_pair x)
    there = ap (λ (n : ℕ). next_levels (left n)) (sym (same e)) ∙ l

    by_rest : (ts : List Triplet) → here i ≡ ts → (t : Triplet) × (us : List Triplet) × (here i ≡ t ∷ us)
    by_rest [] q = absurd (none_is_some (sym (ap next_levels (r i ∙ ap (λ (ts : List Triplet). ts ++ later i) q ∙ h i e q)) ∙ there))
    by_rest (t ∷ us) q = (t, us, q)

head_left : (left : Left) (here : Left) (later : Left) (i : ℕ) (t : Triplet) (ts : List Triplet) → left i ≡ here i ++ later i → here i ≡ t ∷ ts → head_of (here i) ≡ head_of (left i)
head_left left here later i t ts r e = ap head_of e ∙ sym (ap head_of (r ∙ ap (λ (us : List Triplet). us ++ later i) e))

pub same_fit : (left : Left) (here : Left) (later : Left) (s : LevelMove) → ((i : ℕ) → left i ≡ here i ++ later i) → ((i : ℕ) → given_leaf s ≡ Some i → (t : Triplet) × (ts : List Triplet) × (here i ≡ t ∷ ts))
    → (is_fit here (Some s) ≡ is_fit left (Some s)) × (moves_over here (Some s) ≡ moves_over left (Some s))
same_fit left here later (LevelMove.Enter k) r h = (refl, refl)
same_fit left here later (LevelMove.Leave k) r h = (refl, refl)
same_fit left here later (LevelMove.Leaf i l k) r h =
    let x = h i refl in
    let e = head_left left here later i x.0 x.1 (r i) x.2 in
    (ap (fits_next (option_map kind_view k)) e, ap (leaf_moves i) e)

-- a batch of another leaf stays
behind_same : (o : Option ℕ) (i : ℕ) (ts : List Triplet) → (o ≡ Some i → ⊥) → rest_behind o i ts ≡ ts
behind_same None i ts d = refl
behind_same (Some j) i ts d = by_bit (i == j) refl
  where
    by_bit : (b : Bool) → (i == j) ≡ b → (if b then tail_of ts else ts) ≡ ts
    by_bit true e = absurd (d (ap Some (sym (eqb-true i j e))))
    by_bit false e = refl

pub shrinks_behind : (here after : Left) (o : Option ℕ) → ((i : ℕ) → after i ≡ rest_behind o i (here i)) → Shrinks here after
shrinks_behind here after None h i = (0, h i)
shrinks_behind here after (Some j) h i = by_bit (i == j) (h i)
  where
    one : (ts : List Triplet) → tail_of ts ≡ drop 1 ts
    one [] = refl
    one (t ∷ ts) = refl

    by_bit : (b : Bool) → after i ≡ (if b then tail_of (here i) else here i) → (k : ℕ) × (after i ≡ drop k (here i))
    by_bit true e = (1, e ∙ one (here i))
    by_bit false e = (0, e)

pub shrinks_not : (here after : Left) → ((i : ℕ) → after i ≡ here i) → Shrinks here after
shrinks_not here after h i = (0, h i)

-- what is left behind it
left_over : (left : Left) (here after : Left) (later : Left) (s : LevelMove) → ((i : ℕ) → left i ≡ here i ++ later i) → ((i : ℕ) → given_leaf s ≡ Some i → (t : Triplet) × (ts : List Triplet) × (here i ≡ t ∷ ts))
    → ((i : ℕ) → after i ≡ rest_behind (given_leaf s) i (here i)) → (i : ℕ) → behind_moves (moves_over left (Some s)) left i ≡ after i ++ later i
left_over left here after later (LevelMove.Enter k) r h b i = r i ∙ ap (λ (ts : List Triplet). ts ++ later i) (sym (b i))
left_over left here after later (LevelMove.Leave k) r h b i = r i ∙ ap (λ (ts : List Triplet). ts ++ later i) (sym (b i))
left_over left here after later (LevelMove.Leaf j l k) r h b i = by_head (head_of (left j)) there
  where
    x : (t : Triplet) × (ts : List Triplet) × (here j ≡ t ∷ ts)
    x = h j refl

    there : head_of (left j) ≡ Some x.0
    there = sym (head_left left here later j x.0 x.1 (r j) x.2) ∙ ap head_of x.2

    other_way : (a b : ℕ) → (a == b) ≡ (b == a)
    other_way a b = grind (arith, nat_tests)

    tails : (ts us : List Triplet) (t : Triplet) → ts ≡ t ∷ us → tail_of (ts ++ later i) ≡ tail_of ts ++ later i
    tails ts us t e = ap (λ (vs : List Triplet). tail_of (vs ++ later i)) e ∙ sym (ap (λ (vs : List Triplet). tail_of vs ++ later i) e)

    by_bit : (c : Bool) → (i == j) ≡ c → (if c then tail_of (left i) else left i) ≡ (if c then tail_of (here i) else here i) ++ later i
    by_bit true e = let q : i ≡ j = eqb-true i j e in ap tail_of (r i) ∙ tails (here i) x.1 x.0 (ap here q ∙ x.2)
    by_bit false e = r i

    by_head : (o : Option Triplet) → o ≡ Some x.0 → behind_moves (leaf_moves j o) left i ≡ after i ++ later i
    by_head None e = absurd (cc)
    by_head (Some t) e = ap (λ (c : Bool). if c then tail_of (left i) else left i) (other_way j i) ∙ by_bit (i == j) refl ∙ ap (λ (ts : List Triplet). ts ++ later i) (sym (b i))

-- ---- a call that comes to a move by levels

pub record Comes (fs : Fields) (F : List (List Step)) (C : List (List Triplet)) (rows : ℕ) (ms : List Move) (old mid : LevelWalk) (here : Left) (later : Left) (s : LevelMove) : Type 0 where
  pub left : Left
  pub rest : (i : ℕ) → left i ≡ here i ++ later i
  pub heard : (i : ℕ) → is_known (then_wanted old.given (length old.course.heads.items) old.wanted) old.given i ≡ true → IsHeard here later i
  pub on : is_fit left (Some s) ≡ true → IsAtLevels fs F rows C (ms ++ moves_over left (Some s)) (behind_moves (moves_over left (Some s)) left) mid
  pub levels : HasLevels left (Some s)
  pub wants : WantsNext (Some s) (then_wanted old.given (length old.course.heads.items) old.wanted) mid.wanted

first_at : (fs : Fields) (F : List (List Step)) (C : List (List Triplet)) (rows : ℕ) (ms : List Move) (old mid : LevelWalk) (here : Left) (later : Left) (s : LevelMove) → Comes fs F C rows ms old mid here later s
    → (i : ℕ) → given_leaf s ≡ Some i → (t : Triplet) × (ts : List Triplet) × (here i ≡ t ∷ ts)
first_at fs F C rows ms old mid here later s g = same_head g.left here later s g.rest (λ i e. g.heard i (ap (λ (p : Option ℕ). is_known p old.given i) g.wants.0)) g.levels

pub over_gave : (fs : Fields) (F : List (List Step)) (C : List (List Triplet)) (rows : ℕ) (ms : List Move) (old mid : LevelWalk) (here after : Left) (later : Left) (s : LevelMove) (m : CodeMove) → Comes fs F C rows ms old mid here later s
    → IsGivenOf here s (Some m) → ((i : ℕ) → after i ≡ rest_behind (given_leaf s) i (here i)) → GoesOver fs F C rows ms later mid after (Ok (Turned.Gave m))
over_gave fs F C rows ms old mid here after later s m g v b =
    let first = first_at fs F C rows ms old mid here later s g in
    let same = same_fit g.left here later s g.rest first in
    let moves : moves_over g.left (Some s) ≡ move_view m ∷ [] = sym same.1 ∙ v.1 in
    let left : Left = behind_moves (moves_over g.left (Some s)) g.left in
    let at : IsAtLevels fs F rows C (ms ++ move_view m ∷ []) left mid = subst (λ (ns : List Move). IsAtLevels fs F rows C (ms ++ ns) left mid) moves (g.on (sym same.0 ∙ v.0)) in
    let some = given_some fs F rows C ms (move_view m) left mid at in (
      record {
        left = left;
        at = at;
        rest = left_over g.left here after later s g.rest first b;
        heard = λ i h e.
            let k = known_next (IsHeard here later) (Some s) (then_wanted old.given (length old.course.heads.items) old.wanted) mid.wanted old.given mid.given g.wants (λ q. absurd (some_is_none q)) (λ t q. some) g.heard i h in
            k (sym (b i ∙ behind_same (given_leaf s) i (here i) (not_given s (then_wanted old.given (length old.course.heads.items) old.wanted) mid.wanted mid.given i g.wants some h)) ∙ e);
      },
      λ i e. at.wants i (g.wants.1 ∙ v.2 ∙ e),
    )
  where
    some_is_none : Some s ≡ None → ⊥
    some_is_none q = cc

pub nests_gave : (fs : Fields) (F : List (List Step)) (C : List (List Triplet)) (rows : ℕ) (ms : List Move) (L : List Leaf) (old mid : LevelWalk) (here : Left) (later : Left) (s : LevelMove) (m : CodeMove) → (g : Comes fs F C rows ms old mid here later s)
    → IsGivenOf here s (Some m) → (is_fit g.left (Some s) ≡ true → is_some (open_after_moves fs L no_record (ms ++ moves_over g.left (Some s))) ≡ true) → is_some (open_after_moves fs L no_record (ms ++ move_view m ∷ [])) ≡ true
nests_gave fs F C rows ms L old mid here later s m g v n =
    let same = same_fit g.left here later s g.rest (first_at fs F C rows ms old mid here later s g) in
    subst (λ (ns : List Move). is_some (open_after_moves fs L no_record (ms ++ ns)) ≡ true) (sym same.1 ∙ v.1) (n (sym same.0 ∙ v.0))

pub over_unfit : (fs : Fields) (F : List (List Step)) (C : List (List Triplet)) (rows : ℕ) (ms : List Move) (old mid : LevelWalk) (here : Left) (later : Left) (s : LevelMove) → (g : Comes fs F C rows ms old mid here later s)
    → IsGivenOf here s None → ((R : List Node) → HasColumns fs F C rows R → is_fit g.left (Some s) ≡ true) → NoneHas fs F C rows
over_unfit fs F C rows ms old mid here later s g v f R h =
    let same = same_fit g.left here later s g.rest (first_at fs F C rows ms old mid here later s g) in
    true≢false (sym (f R h) ∙ sym same.0 ∙ v)

-- ---- the end

-- nothing was given: it goes on, or it is at its end
pub over_ended : (fs : Fields) (F : List (List Step)) (C : List (List Triplet)) (rows : ℕ) (ms : List Move) (old new : LevelWalk) (here after : Left) (later : Left) (b : Bool) → list_all (is_leaf_path fs) F ≡ true → IsOver fs F C rows ms old here later
    → not b ≡ is_some new.wanted → b ≡ true → (new.wanted ≡ None → (R : List Node) × HasColumns fs F C rows R × (walk fs F R ≡ ms)) → GoesOver fs F C rows ms later new after (Ok Turned.Ended)
over_ended fs F C rows ms old new here after later b p on e t h = by_wanted new.wanted refl
  where
    whole : (R : List Node) × HasColumns fs F C rows R × (walk fs F R ≡ ms) → (R : List Node) × HasColumns fs F C rows R × (walk fs F R ≡ ms) × ((i : ℕ) → later i ≡ [])
    whole x = (x.0, x.1, x.2, λ i. tail_nil (here i) (later i) (sym (on.rest i) ∙ nothing_more fs F rows C ms on.left old x.0 on.at p x.1 x.2 i))

    by_wanted : (o : Option ℕ) → new.wanted ≡ o → (R : List Node) × HasColumns fs F C rows R × (walk fs F R ≡ ms) × ((i : ℕ) → later i ≡ [])
    by_wanted None q = whole (h q)
    by_wanted (Some i) q = absurd (true≢false (sym (sym (ap not t) ∙ e ∙ ap is_some q)))

pub over_fails : (fs : Fields) (F : List (List Step)) (C : List (List Triplet)) (rows : ℕ) (ms : List Move) (w : LevelWalk) (here : Left) (later : Left) (f : AssembleFault) → (f ≡ AssembleFault.BadData → NoneHas fs F C rows) → GoesOver fs F C rows ms later w here (Err f)
over_fails fs F C rows ms w here later AssembleFault.BadData h = h refl
over_fails fs F C rows ms w here later AssembleFault.NoMemory h = tt

-- where no leaf is wanted nothing comes
pub comes_nothing : (o : Option ℕ) (here later : Left) → ((i : ℕ) → o ≡ Some i → ⊥) → ComesOf o here later None
comes_nothing None here later h = refl
comes_nothing (Some i) here later h = absurd (h i refl)
