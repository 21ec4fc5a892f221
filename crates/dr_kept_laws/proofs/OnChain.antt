-- What the moves tell of each branch as it is left is what the query keeps, along the condition's chain.
use Rattle.std.proofs.Common.{◌≡◌, ℕ, ◌≤◌, List, [], ◌∷◌, ◌++◌, length, Bool, Option, None, Some, refl, sym, ap, ap₂, subst, ◌∙◌, append-nil, arith}
use Rattle.std.specs.Prelude.{map, not, if◌then◌else◌, is_some}
use Rattle.std.specs.List.{list_any}
use Rattle.std.proofs.lemmas.List.{length-map, map-append}
use Rattle.std.proofs.lemmas.Bool.{eq-eqb}
use Rattle.dr_meaning.specs.Path.{Step}
use Rattle.dr_meaning.specs.Record.{Node, Instances, Instance, single}
use Rattle.dr_meaning.specs.Kept.{keep_instance, kept_along}
use Rattle.dr_meaning.specs.Walk.{Move, enter, leave, enclosed}
use Rattle.dr_meaning.specs.WalkLaws.{triplets_of}
use Rattle.dr_kept_laws.specs.Tours.{joined}
use Rattle.dr_kept_laws.specs.MovedContexts.{after_moves}
use Rattle.dr_kept_laws.specs.Leavings.{Leaving, tour_leavings, on, is_left_out}
use Rattle.dr_kept_laws.proofs.Selections.{never_empty}
use Rattle.dr_kept_laws.proofs.TourParts.{joined_moves}
use Rattle.dr_kept_laws.proofs.MovedContextLemmas.{moved_after, contexts_more, contexts_count, contexts_none}
use Rattle.dr_kept_laws.proofs.RowAnswers.{instance_answers, answers_keep}
use Rattle.dr_kept_laws.proofs.OffChain.{joined_leavings, Off}
use Rattle.dr_kept_laws.proofs.RowsOnChain.{OnlyOn, joined_only, silent_only, bare_only}
use Rattle.dr_kept_laws.proofs.AtMostOnce.{IsOnce, joined_once, apart_once, bare_once}
use Rattle.dr_kept_laws.proofs.ChainHeads.{HeadApart, apart_leavings}
use Rattle.dr_moves.specs.Context.{Context, with_value, contexts}
use Rattle.dr_moves.specs.Tour.{Tour, over, saw, inside as within_instance, moves_of, after}
use Rattle.dr_moves.specs.Condition.{Watch, some_true, is_dropped}
use Rattle.dr_moves.proofs.TourLemmas.{some_true_any, any_of_map}

-- ---- parts of a walk

-- the condition in the rows of moves
abbrev pub answers : Watch → Context → List Move → List Bool
answers w c ms = map w.test (contexts w.last c ms)

-- moves that tell this wherever the condition in their rows is so
pub record Told (w : Watch) (r : Option (List ℕ)) (ms : List Move) (vs : List Bool) (ls : List Leaving) : Type 0 where
  pub tour : Tour
  pub moves : moves_of tour ≡ ms
  pub told : (c : Context) → answers w c ms ≡ vs → tour_leavings w r c tour ≡ ls
  pub once : IsOnce w.last r tour
  pub only : OnlyOn w.last r tour

split_equal : (xs ys vs bs : List Bool) → length xs ≡ length vs → xs ++ ys ≡ vs ++ bs → (xs ≡ vs) × (ys ≡ bs)
split_equal [] ys [] bs l e = (refl, e)
split_equal [] ys (a ∷ vs) bs l e = absurd (omega (arith, l))
split_equal (x ∷ xs) ys [] bs l e = absurd (omega (arith, l))
split_equal (x ∷ xs) ys (a ∷ vs) bs l e =
    let h : x ≡ a = cc in
    let t : xs ++ ys ≡ vs ++ bs = cc in
    let w : (xs ≡ vs) × (ys ≡ bs) = split_equal xs ys vs bs (omega (arith, l)) t in
    (ap₂ (λ (y : Bool) (z : List Bool). y ∷ z) h w.0, w.1)

module _ (w : Watch) where
  answers_append : (c : Context) (a b : List Move) → answers w c (a ++ b) ≡ answers w c a ++ answers w (after_moves c a) b
  answers_append c a b = ap (map w.test) (contexts_more w.last c a b) ∙ map-append w.test (contexts w.last c a) (contexts w.last (after_moves c a) b)

  answers_none : (c : Context) (ms : List Move) → triplets_of w.last ms ≡ [] → answers w c ms ≡ []
  answers_none c ms h = ap (map w.test) (contexts_none w.last c ms h)

  answers_count : (c : Context) (ms : List Move) → length (answers w c ms) ≡ length (triplets_of w.last ms)
  answers_count c ms = length-map (contexts w.last c ms) w.test ∙ contexts_count w.last c ms

  -- one part behind another
  pub both_told : (r : Option (List ℕ)) (a b : List Move) (xs ys : List Bool) (p q : List Leaving) → length (triplets_of w.last a) ≡ length xs → Told w r a xs p → Told w r b ys q → Told w r (a ++ b) (xs ++ ys) (p ++ q)
  both_told r a b xs ys p q l x y = record {
    tour = joined x.tour y.tour;
    moves = joined_moves x.tour y.tour ∙ ap₂ (λ (m n : List Move). m ++ n) x.moves y.moves;
    told = λ c h.
        let s : (answers w c a ≡ xs) × (answers w (after_moves c a) b ≡ ys) = split_equal (answers w c a) (answers w (after_moves c a) b) xs ys (answers_count c a ∙ l) (sym (answers_append c a b) ∙ h) in
        let e : after_moves c a ≡ after c x.tour = ap (after_moves c) (sym x.moves) ∙ moved_after x.tour c in
        joined_leavings w r c x.tour y.tour ∙ ap₂ (λ (m n : List Leaving). m ++ n) (x.told c s.0) (y.told (after c x.tour) (subst (λ (d : Context). answers w d b ≡ ys) e s.1));
    once = joined_once w.last r x.tour y.tour x.once y.once;
    only = joined_only w.last r x.tour y.tour x.only y.only;
  }

  -- without a row in the first, or in the second
  pub told_behind : (r : Option (List ℕ)) (a b : List Move) (ys : List Bool) (p q : List Leaving) → triplets_of w.last a ≡ [] → Told w r a [] p → Told w r b ys q → Told w r (a ++ b) ys (p ++ q)
  told_behind r a b ys p q h x y = both_told r a b [] ys p q (ap length h) x y

  pub told_before : (r : Option (List ℕ)) (a b : List Move) (xs : List Bool) (p q : List Leaving) → triplets_of w.last b ≡ [] → Told w r a xs p → Told w r b [] q → Told w r (a ++ b) xs (p ++ q)
  told_before r a b xs p q h x y = record {
    tour = joined x.tour y.tour;
    moves = joined_moves x.tour y.tour ∙ ap₂ (λ (m n : List Move). m ++ n) x.moves y.moves;
    told = λ c g.
        let s : answers w c a ≡ xs = sym (append-nil (answers w c a)) ∙ ap (λ (z : List Bool). answers w c a ++ z) (sym (answers_none (after_moves c a) b h)) ∙ sym (answers_append c a b) ∙ g in
        joined_leavings w r c x.tour y.tour ∙ ap₂ (λ (m n : List Leaving). m ++ n) (x.told c s) (y.told (after c x.tour) (answers_none (after c x.tour) b h));
    once = joined_once w.last r x.tour y.tour x.once y.once;
    only = joined_only w.last r x.tour y.tour x.only y.only;
  }

  -- branches apart from the chain
  pub off_told : (low high : ℕ) (N : List ℕ) (ms : List Move) (vs : List Bool) (ls : List Leaving) → HeadApart low high N → triplets_of w.last ms ≡ [] → Off low high ms ls → Told w (Some N) ms vs ls
  off_told low high N ms vs ls h z x = record { tour = x.tour; moves = x.moves; told = λ c g. apart_leavings low high w N h x.tour x.within c ∙ x.told w c; once = apart_once low high w.last N h x.tour x.within; only = silent_only w.last (Some N) x.tour (ap (triplets_of w.last) x.moves ∙ z) }

  no_leaving : (c d : Context) (r : Option (List ℕ)) (T : Tour) → tour_leavings w None c T ≡ [] → tour_leavings w r d T ≡ []
  no_leaving c d r over h = refl
  no_leaving c d r (saw i t T) h = no_leaving (with_value i t.value c) (with_value i t.value d) r T h
  no_leaving c d r (within_instance k B T) h = absurd (never_empty (tour_leavings w None c B) _ _ h)

  -- without branches
  pub bare_told : (low high : ℕ) (N : List ℕ) (ms : List Move) (vs : List Bool) → Off low high ms [] → Told w (Some N) ms vs []
  bare_told low high N ms vs x = record { tour = x.tour; moves = x.moves; told = λ c g. no_leaving c c (Some N) x.tour (x.told w c); once = bare_once w (λ i. None) w.last (Some N) x.tour (x.told w (λ i. None)); only = bare_only w (λ i. None) w.last N x.tour (x.told w (λ i. None)) }

  pub same_told : (r : Option (List ℕ)) (ms : List Move) (vs bs : List Bool) (p q : List Leaving) → vs ≡ bs → p ≡ q → Told w r ms vs p → Told w r ms bs q
  same_told r ms vs bs p q e f x = record { tour = x.tour; moves = x.moves; told = λ c g. x.told c (g ∙ sym e) ∙ f; once = x.once; only = x.only }

  -- an instance of the chain's next field
  pub enclosed_told : (k : ℕ) (N : List ℕ) (ms : List Move) (L : List Step) (row : Instances → Node) (test : Node → Bool) (x : Instance) (ls : List Leaving) → (N ≡ [] → length (triplets_of w.last ms) ≤ 1) → Told w (Some N) ms (instance_answers L row test x) ls
      → Told w (Some (k ∷ N)) (enclosed k ms) (instance_answers L row test x) (ls ++ record { number = k; dropped = is_left_out (on L row test) x } ∷ [])
  enclosed_told k N ms L row test x ls z t = record {
    tour = within_instance k t.tour over;
    moves = ap (λ (m : List Move). enter k ∷ (m ++ leave k ∷ [])) t.moves;
    told = λ c g.
        let h : answers w c ms ≡ instance_answers L row test x = sym (append-nil (answers w c ms)) ∙ sym (answers_append c ms (leave k ∷ [])) ∙ g in
        ap (λ (r : Option (List ℕ)). tour_leavings w r c t.tour ++ record { number = k; dropped = is_dropped r (some_true w c t.tour) } ∷ []) (ap (λ (b : Bool). if b then Some N else None) (eq-eqb k k refl))
        ∙ ap₂ (λ (m : List Leaving) (b : Bool). m ++ record { number = k; dropped = not b } ∷ []) (t.told c h) (kept c h);
    once = subst (λ (r : Option (List ℕ)). (r ≡ Some [] → length (triplets_of w.last (moves_of t.tour)) ≤ 1) × IsOnce w.last r t.tour × Unit {0}) (sym (ap (λ (b : Bool). if b then Some N else None) (eq-eqb k k refl)))
        (λ e. subst (λ (m : List Move). length (triplets_of w.last m) ≤ 1) (sym t.moves) (z (same e)), t.once, tt);
    only = subst (λ (r : Option (List ℕ)). OnlyOn w.last r t.tour × Unit {0}) (sym (ap (λ (b : Bool). if b then Some N else None) (eq-eqb k k refl))) (t.only, tt);
  }
    where
      same : Some N ≡ Some [] → N ≡ []
      same e = cc

      kept : (c : Context) → answers w c ms ≡ instance_answers L row test x → some_true w c t.tour ≡ is_some (keep_instance (kept_along L) (λ y. row (single y)) test x)
      kept c h = some_true_any w t.tour c ∙ ap (λ (m : List Move). list_any w.test (contexts w.last c m)) t.moves ∙ sym (any_of_map w.test (contexts w.last c ms)) ∙ ap (list_any (λ (b : Bool). b)) h ∙ answers_keep L row test x
