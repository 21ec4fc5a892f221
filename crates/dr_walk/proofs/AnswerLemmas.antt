-- What a walk's answers say of records: by the course's laws.
use Rattle.std.proofs.Common.{◌≡◌, ◌≢◌, ◌⊎◌, inl, inr, ℕ, zero, suc, ◌≤◌, List, [], ◌∷◌, ◌++◌, map, length, Bool, true, false, ◌&&◌, Option, Some, None, refl, sym, ap, ap₂, subst, ◌∙◌, append-nil, length-append, arith, true≢false}
use Rattle.std.specs.Prelude.{nat_lt, if◌then◌else◌, is_some, option_map}
use Rattle.dr_nested.specs.Views.{kind_view}
use Rattle.std.specs.List.{list_all, slice_get}
use Rattle.dr_meaning.specs.Schema.{Fields}
use Rattle.dr_meaning.specs.Path.{Step, Leaf, is_leaf_path}
use Rattle.dr_meaning.specs.Record.{Node}
use Rattle.dr_meaning.specs.Column.{Triplet, column}
use Rattle.dr_meaning.specs.Walk.{Move, enter, value, leave, walk, no_record}
use Rattle.dr_meaning.specs.WalkLaws.{triplets_of, open_after_moves, AreLeavesOf}
use Rattle.dr_moves.specs.Course.{are_open, reach, Items, nothing, give, visit, course}
use Rattle.dr_moves.specs.Turning.{Stack, between, in_record, in_items, in_absent, lapped, entering, gives, goes_on, done, stops, turn, turn_given, turn_absent, is_due, is_null, definition_of, definitions_of}
use Rattle.dr_moves.specs.Leading.{Left, Leads, columns_of, has_columns, head_of, heads as next_of}
use Rattle.dr_moves.specs.Selection.{all_differ}
use Rattle.dr_moves.proofs.LeadingLemmas.{leads_taken, records_lead, led_to_records, walk_columns}
use Rattle.dr_moves.proofs.NestingOfTurns.{moves_nest}
use Rattle.std.proofs.Common.{Ok, Err}
use Rattle.dr_levels.specs.Views.{levels_pair}
use Rattle.dr_levels.specs.declared.triplet.Levels.{Levels}
use Rattle.dr_walk.specs.declared.fault.AssembleFault.{AssembleFault}
use Rattle.dr_walk.specs.Walking.{HasColumns, NoneHas, IsAtLevels, ComesNext, Ends, Stuck, Goes, next_levels, leaf_moves, moves_over, behind_moves, HasLevels, is_fit, fits_next, WantsNext}
use Rattle.dr_walk.specs.declared.level_move.LevelMove.{LevelMove}
use Rattle.dr_walk.specs.declared.level_walk.LevelWalk.{LevelWalk}

-- ---- where records have the columns

leads_of : (fs : Fields) (F : List (List Step)) (rows : ℕ) (C : List (List Triplet)) (ms : List Move) (left : Left) (S : Stack) (R : List Node) → HasColumns fs F C rows R → Leads (course fs F) (between rows) (columns_of C) ms S left
    → Leads (course fs F) (between (length R)) (has_columns F R) ms S left
leads_of fs F rows C ms left S R h l =
    subst (λ (D : List (List Triplet)). Leads (course fs F) (between (length R)) (columns_of D) ms S left) (sym h.2) (subst (λ (n : ℕ). Leads (course fs F) (between n) (columns_of C) ms S left) (sym h.1) l)

pub front_of : (fs : Fields) (F : List (List Step)) (rows : ℕ) (C : List (List Triplet)) (ms : List Move) (left : Left) (w : LevelWalk) (R : List Node) → IsAtLevels fs F rows C ms left w → list_all (is_leaf_path fs) F ≡ true → HasColumns fs F C rows R
    → (rest : List Move) × (walk fs F R ≡ ms ++ rest)
front_of fs F rows C ms left w R at p h =
    let r = records_lead fs F R ms at.stack left p h.0 (leads_of fs F rows C ms left at.stack R h at.leads) in
    (r.0, r.1)

none_more : {A : Type 0} (xs ys : List A) → xs ++ ys ≡ xs → ys ≡ []
none_more [] ys e = e
none_more (x ∷ xs) ys e = none_more xs ys (tails e)
  where
    tails : x ∷ (xs ++ ys) ≡ x ∷ xs → xs ++ ys ≡ xs
    tails q = cc

pub none_has : (fs : Fields) (F : List (List Step)) (rows : ℕ) (C : List (List Triplet)) (ms : List Move) (left : Left) → Stuck fs F rows C ms left → list_all (is_leaf_path fs) F ≡ true → NoneHas fs F C rows
none_has fs F rows C ms left s p R h =
    let l = leads_of fs F rows C ms left s.stack R h s.leads in
    let r = records_lead fs F R ms s.stack left p h.0 l in
    by_why s.why r.0 r.1 r.2 r.3 l
  where
    by_why : ((turn (course fs F) s.stack (next_of left) ≡ stops) ⊎ ((turn (course fs F) s.stack (next_of left) ≡ done) × ((i : ℕ) × (left i ≢ [])))) → (rest : List Move) → walk fs F R ≡ ms ++ rest
        → (turn (course fs F) s.stack (next_of left) ≡ stops → ⊥) → (turn (course fs F) s.stack (next_of left) ≡ done → rest ≡ []) → Leads (course fs F) (between (length R)) (has_columns F R) ms s.stack left → ⊥
    by_why (inl e) rest w a b l = a e
    by_why (inr d) rest w a b l =
        let i = d.1.0 in
        let m : walk fs F R ≡ ms = w ∙ ap (λ (x : List Move). ms ++ x) (b d.0) ∙ append-nil ms in
        let t : triplets_of i ms ++ left i ≡ triplets_of i ms = sym (leads_taken (course fs F) (between (length R)) s.stack (has_columns F R) left ms l i) ∙ walk_columns fs F R p h.0 i ∙ ap (triplets_of i) m in
        d.1.1 (none_more (triplets_of i ms) (left i) t)

-- of columns whose records' whole walk was given nothing is left
pub nothing_more : (fs : Fields) (F : List (List Step)) (rows : ℕ) (C : List (List Triplet)) (ms : List Move) (left : Left) (w : LevelWalk) (R : List Node) → IsAtLevels fs F rows C ms left w → list_all (is_leaf_path fs) F ≡ true → HasColumns fs F C rows R → walk fs F R ≡ ms
    → (i : ℕ) → left i ≡ []
nothing_more fs F rows C ms left w R at p h m i =
    let l = leads_of fs F rows C ms left at.stack R h at.leads in
    none_more (triplets_of i ms) (left i) (sym (leads_taken (course fs F) (between (length R)) at.stack (has_columns F R) left ms l i) ∙ walk_columns fs F R p h.0 i ∙ ap (triplets_of i) m)

-- ---- where all is done

done_is : (top : Items) (S : Stack) (ts : ℕ → Option Triplet) → turn top S ts ≡ done → S ≡ between 0
done_is top (between zero) ts e = refl
done_is top (between (suc n)) ts e = absurd (cc)
done_is top (in_record n) ts e = absurd (cc)
done_is top (in_items nothing r next S) ts e = absurd (cc)
done_is top (in_items (give g I) r next S) ts e = absurd (of (ts g.leaf) e)
  where
    by_bit : (b : Bool) (t : Triplet) → (if b then gives (value g.leaf t) (in_items I r next S) else stops) ≡ done → ⊥
    by_bit true t e = cc
    by_bit false t e = cc

    of : (o : Option Triplet) → turn_given g I r next S o ≡ done → ⊥
    of None e = cc
    of (Some t) e = by_bit (is_due g r next t) t e
done_is top (in_items (visit v B I) r next S) ts e = absurd (by_bit (are_open next v.gates && nat_lt v.low (definition_of (ts v.leaf))) e)
  where
    by_bit : (b : Bool) → (if b then gives (enter v.number) (in_items B r (definitions_of ts) (lapped v B (in_items I r next S))) else goes_on (in_absent v.leaves r (reach next v.gates v.low) (in_items I r next S))) ≡ done → ⊥
    by_bit true e = cc
    by_bit false e = cc
done_is top (in_absent [] r d S) ts e = absurd (cc)
done_is top (in_absent (i ∷ is) r d S) ts e = absurd (of (ts i) e)
  where
    by_bit : (b : Bool) (t : Triplet) → (if b then gives (value i t) (in_absent is r d S) else stops) ≡ done → ⊥
    by_bit true t e = cc
    by_bit false t e = cc

    of : (o : Option Triplet) → turn_absent i is r d S o ≡ done → ⊥
    of None e = cc
    of (Some t) e = by_bit (is_null r d t) t e
done_is top (lapped v B S) ts e = absurd (cc)
done_is top (entering v B S) ts e = absurd (cc)

columns_are : (F : List (List Step)) (C : List (List Triplet)) (R : List Node) → length C ≡ length F → ((i : ℕ) (p : List Step) → slice_get F i ≡ Some p → columns_of C i ≡ column p R) → map (λ (p : List Step). column p R) F ≡ C
columns_are [] [] R e h = refl
columns_are [] (c ∷ C) R e h = absurd (longer (omega (arith, e)))
  where
    longer : 1 ≤ 0 → ⊥
    longer x = omega (arith, x)
columns_are (p ∷ F) [] R e h = absurd (longer (omega (arith, e)))
  where
    longer : 1 ≤ 0 → ⊥
    longer x = omega (arith, x)
columns_are (p ∷ F) (c ∷ C) R e h = ap₂ (λ (x : List Triplet) (xs : List (List Triplet)). x ∷ xs) (sym (h 0 p refl)) (columns_are F C R (omega (arith, e)) (λ i q k. h (suc i) q k))

pub whole_walk : (fs : Fields) (F : List (List Step)) (rows : ℕ) (C : List (List Triplet)) (ms : List Move) (left : Left) → Ends fs F rows C ms left → length C ≡ length F → list_all (is_leaf_path fs) F ≡ true → all_differ F ≡ true
    → (R : List Node) × HasColumns fs F C rows R × (walk fs F R ≡ ms)
whole_walk fs F rows C ms left s c p d =
    let l : Leads (course fs F) (between rows) (columns_of C) ms (between 0) left = subst (λ (S : Stack). Leads (course fs F) (between rows) (columns_of C) ms S left) (done_is (course fs F) s.stack (next_of left) s.all) s.leads in
    let r = led_to_records fs F rows (columns_of C) ms left p d l s.nothing_left in
    (r.0, (r.1, r.2, columns_are F C r.0 c r.4), r.3)

-- ---- whatever the columns

pub nests : (fs : Fields) (F : List (List Step)) (L : List Leaf) (rows : ℕ) (C : List (List Triplet)) (ms : List Move) (left : Left) (w : LevelWalk) → map (λ (l : Leaf). l.path) L ≡ F → IsAtLevels fs F rows C ms left w → AreLeavesOf fs L → all_differ F ≡ true
    → is_some (open_after_moves fs L no_record ms) ≡ true
nests fs F L rows C ms left w q at a d =
    let leads = subst (λ (E : List (List Step)). Leads (course fs E) (between rows) (columns_of C) ms at.stack left) (sym q) at.leads in
    moves_nest fs L rows (columns_of C) ms at.stack left a (subst (λ (E : List (List Step)). all_differ E ≡ true) (sym q) d) leads

pub too_long : (ms rest : List Move) (m : Move) → ms ≡ (ms ++ m ∷ []) ++ rest → ⊥
too_long ms rest m e =
    let a = length-append (ms ++ m ∷ []) rest in
    let b = length-append ms (m ∷ []) in
    let c = ap length e in
    never (omega (arith, a, b, c))
  where
    never : 1 ≤ 0 → ⊥
    never x = omega (arith, x)

-- ---- by what is answered

-- no move was given
pub at_same : (fs : Fields) (F : List (List Step)) (rows : ℕ) (C : List (List Triplet)) (ms : List Move) (left : Left) (w : LevelWalk) → IsAtLevels fs F rows C ms left w → IsAtLevels fs F rows C (ms ++ []) left w
at_same fs F rows C ms left w at = subst (λ (ns : List Move). IsAtLevels fs F rows C ns left w) (sym (append-nil ms)) at

-- a call that answers so, behind what was wanted
abbrev pub GoesTo : Fields → List (List Step) → ℕ → List (List Triplet) → List Move → Left → LevelWalk → Option LevelMove → Type 0
GoesTo fs F rows C ms left w m = Goes fs F rows C ms left w (Ok m)

pub at_next : (fs : Fields) (F : List (List Step)) (rows : ℕ) (C : List (List Triplet)) (ms : List Move) (left : Left) (w : LevelWalk) (m : Option LevelMove) → GoesTo fs F rows C ms left w m → is_fit left m ≡ true
    → IsAtLevels fs F rows C (ms ++ moves_over left m) (behind_moves (moves_over left m) left) w
at_next fs F rows C ms left w None g f = at_same fs F rows C ms left w g.0
at_next fs F rows C ms left w (Some m) g f = g.on f

pub levels_next : (fs : Fields) (F : List (List Step)) (rows : ℕ) (C : List (List Triplet)) (ms : List Move) (left : Left) (w : LevelWalk) (m : Option LevelMove) → GoesTo fs F rows C ms left w m → HasLevels left m
levels_next fs F rows C ms left w None g = tt
levels_next fs F rows C ms left w (Some m) g = g.levels

-- where records have the columns, the value that a move asks for is there
pub fit_next : (fs : Fields) (F : List (List Step)) (rows : ℕ) (C : List (List Triplet)) (ms : List Move) (left : Left) (w : LevelWalk) (m : Option LevelMove) (R : List Node) → GoesTo fs F rows C ms left w m → list_all (is_leaf_path fs) F ≡ true → HasColumns fs F C rows R
    → is_fit left m ≡ true
fit_next fs F rows C ms left w None R g p h = refl
fit_next fs F rows C ms left w (Some m) R g p h = by_bit (is_fit left (Some m)) refl
  where
    by_bit : (b : Bool) → is_fit left (Some m) ≡ b → is_fit left (Some m) ≡ true
    by_bit true e = e
    by_bit false e = absurd (none_has fs F rows C ms left (g.unfit e) p R h)

pub front_next : (fs : Fields) (F : List (List Step)) (rows : ℕ) (C : List (List Triplet)) (ms : List Move) (left : Left) (w : LevelWalk) (m : Option LevelMove) (R : List Node) → GoesTo fs F rows C ms left w m → list_all (is_leaf_path fs) F ≡ true → HasColumns fs F C rows R
    → (is_fit left m ≡ true) × (rest : List Move) × (walk fs F R ≡ (ms ++ moves_over left m) ++ rest)
front_next fs F rows C ms left w m R g p h =
    let f = fit_next fs F rows C ms left w m R g p h in
    let x = front_of fs F rows C (ms ++ moves_over left m) (behind_moves (moves_over left m) left) w R (at_next fs F rows C ms left w m g f) p h in
    (f, x.0, x.1)

pub at_end : (fs : Fields) (F : List (List Step)) (rows : ℕ) (C : List (List Triplet)) (ms : List Move) (left : Left) (w : LevelWalk) (m : Option LevelMove) → m ≡ None → GoesTo fs F rows C ms left w m → Ends fs F rows C ms left
at_end fs F rows C ms left w None e g = g.1
at_end fs F rows C ms left w (Some m) e g = absurd (some_is_none e)
  where
    some_is_none : Some m ≡ None → ⊥
    some_is_none q = cc

pub at_fault : (fs : Fields) (F : List (List Step)) (rows : ℕ) (C : List (List Triplet)) (ms : List Move) (left : Left) (w : LevelWalk) (e : AssembleFault) → e ≡ AssembleFault.BadData → Goes fs F rows C ms left w (Err e) → Stuck fs F rows C ms left
at_fault fs F rows C ms left w AssembleFault.BadData q g = g
at_fault fs F rows C ms left w AssembleFault.NoMemory q g = absurd (other q)
  where
    other : AssembleFault.NoMemory ≡ AssembleFault.BadData → ⊥
    other q = cc

-- where the whole walk was given no move comes
pub none_comes : (fs : Fields) (F : List (List Step)) (R : List Node) (ms : List Move) (left : Left) (m : Option LevelMove) → is_fit left m ≡ true → (rest : List Move) → walk fs F R ≡ (ms ++ moves_over left m) ++ rest → walk fs F R ≡ ms → m ≡ None
none_comes fs F R ms left None f rest e q = refl
none_comes fs F R ms left (Some (LevelMove.Enter k)) f rest e q = absurd (too_long ms rest (enter k) (sym q ∙ e))
none_comes fs F R ms left (Some (LevelMove.Leave k)) f rest e q = absurd (too_long ms rest (leave k) (sym q ∙ e))
none_comes fs F R ms left (Some (LevelMove.Leaf i l k)) f rest e q = absurd (by_head (head_of (left i)) f e)
  where
    by_head : (o : Option Triplet) → fits_next (option_map kind_view k) o ≡ true → walk fs F R ≡ (ms ++ leaf_moves i o) ++ rest → ⊥
    by_head None f e = true≢false (sym f)
    by_head (Some t) f e = too_long ms rest (value i t) (sym q ∙ e)

pub wanted_before : (o p : Option ℕ) (i : ℕ) → (o ≡ None → p ≡ None) → p ≡ Some i → (j : ℕ) × (o ≡ Some j)
wanted_before None p i h e = absurd (none_is_some (sym (h refl) ∙ e))
  where
    none_is_some : None ≡ Some i → ⊥
    none_is_some q = cc
wanted_before (Some j) p i h e = (j, refl)

-- ---- no leaf is wanted behind its end

pub not_behind_end : (left : Left) (i : ℕ) (wanted : Option ℕ) (m : Option LevelMove) → None ≡ next_levels (left i) → wanted ≡ Some i → WantsNext m None wanted → HasLevels left m → ⊥
not_behind_end left i wanted None e q w h = none_is_some (sym w ∙ q)
  where
    none_is_some : None ≡ Some i → ⊥
    none_is_some q = cc
not_behind_end left i wanted (Some (LevelMove.Enter k)) e q w h = none_is_some (sym w.1 ∙ q)
  where
    none_is_some : None ≡ Some i → ⊥
    none_is_some q = cc
not_behind_end left i wanted (Some (LevelMove.Leave k)) e q w h = none_is_some (sym w.1 ∙ q)
  where
    none_is_some : None ≡ Some i → ⊥
    none_is_some q = cc
not_behind_end left i wanted (Some (LevelMove.Leaf j l k)) e q w h = none_is_some (e ∙ ap (λ (x : ℕ). next_levels (left x)) (sym (same (sym w.1 ∙ q))) ∙ h)
  where
    same : Some j ≡ Some i → j ≡ i
    same q = cc

    none_is_some : None ≡ Some (levels_pair l) → ⊥
    none_is_some q = cc

-- what comes of a leaf at its end
pub comes_none : (left : Left) (o : Option ℕ) (i : ℕ) (more : Option Levels) → o ≡ Some i → more ≡ None → ComesNext left o more → None ≡ next_levels (left i)
comes_none left o i more q n c = sym (ap (option_map levels_pair) n) ∙ subst (λ (o : Option ℕ). ComesNext left o more) q c

-- and what a call leaves wanted
pub wants_on : (m : Option LevelMove) (o p after : Option ℕ) → o ≡ p → WantsNext m o after → WantsNext m p after
wants_on m o p after e h = subst (λ (q : Option ℕ). WantsNext m q after) e h
