-- What is kept of each tablet is what the history says of it, and goes on with each event.
use Rattle.std.proofs.Common.{◌≡◌, ℕ, zero, suc, ◌+◌, ◌<◌, ◌≤◌, List, [], ◌∷◌, ◌++◌, map, length, get_or, set, Bool, true, false, ◌&&◌, ◌||◌, not, Option, Some, None, refl, sym, ap, ap₂, ◌∙◌, length-append, true≢false, arith, eq-eqb, ne_eqb}
use Rattle.std.specs.Prelude.{◌==◌, ◌-◌, nat_le, if◌then◌else◌}
use Rattle.std.specs.List.{list_any, list_all}
use Rattle.std.proofs.Math.Bool.{or-false, or-true}
use Rattle.std.proofs.lemmas.Simd.{map-map}
use Rattle.dr_dispatch.proofs.HistoryLemmas.{any_push}
use Rattle.dr_outside.specs.declared.cause.Cause.{Cause}
use Rattle.dr_dispatch.specs.Job.{Job, hand, leaves_at}
use Rattle.dr_dispatch.specs.History.{gives, answers, faults, has_give, has_answer, has_fault}
use Rattle.dr_dispatch.specs.Choice.{first_open, all_failed, gives_tablet, since_from, since_give, urgent, late, or_else, lowest, choice}
use Rattle.dr_dispatch.specs.Draws.{was_handed_out, first_hand}
use Rattle.dr_dispatch.specs.declared.event.Hand.{Hand}
use Rattle.dr_dispatch.specs.declared.event.Event.{Event}
use Rattle.dr_dispatch.specs.declared.event.Event.TheVariants.{Give, Answer, Fault}
use Rattle.dr_board.specs.Tablets.{TabletShown, leaf_at, tablet_at, tablets_from, new_tablet, leaves_of, open_hand, urgent_hand, late_hand, lowest_hand, first_leaf_hand, fresh_hand, chosen_hand, hand_of, leaf_after, tablet_after}
use Rattle.dr_board.specs.declared.tablet.LeafState.{LeafState}

none_pushed : (p : Event → Bool) (es : List Event) (e : Event) → p e ≡ false → list_any p (es ++ e ∷ []) ≡ list_any p es
none_pushed p es e is = any_push p es e ∙ (ap (λ b. list_any p es || b) is ∙ or-false (list_any p es))

same_maps : {A B : Type 0} (f g : A → B) (xs : List A) → ((x : A) → f x ≡ g x) → map f xs ≡ map g xs
same_maps f g [] same = refl
same_maps f g (x ∷ xs) same = ap₂ (λ y ys. y ∷ ys) (same x) (same_maps f g xs same)

-- ---- the events behind the last hand-out

since_push_at : (t count : ℕ) (xs : List Event) (e : Event) (g : Bool) → since_from t 0 (xs ++ e ∷ []) ≡ (if gives_tablet t e then 0 else suc (since_from t 0 xs))
    → since_from t (suc count) (xs ++ e ∷ []) ≡ (if gives_tablet t e then 0 else suc (since_from t (suc count) xs))
    → (if g then since_from t 0 (xs ++ e ∷ []) else since_from t (suc count) (xs ++ e ∷ []))
    ≡ (if gives_tablet t e then 0 else suc (if g then since_from t 0 xs else since_from t (suc count) xs))
since_push_at t count xs e true a b = a
since_push_at t count xs e false a b = b

since_push : (t count : ℕ) (xs : List Event) (e : Event) → since_from t count (xs ++ e ∷ []) ≡ (if gives_tablet t e then 0 else suc (since_from t count xs))
since_push t count [] e = refl
since_push t count (x ∷ xs) e = since_push_at t count xs e (gives_tablet t x) (since_push t 0 xs e) (since_push t (suc count) xs e)

since_le_at : (t count : ℕ) (xs : List Event) (g : Bool) → since_from t 0 xs ≤ 0 + length xs → since_from t (suc count) xs ≤ suc count + length xs
    → (if g then since_from t 0 xs else since_from t (suc count) xs) ≤ count + suc (length xs)
since_le_at t count xs true a b = omega (arith, a)
since_le_at t count xs false a b = omega (arith, b)

since_le : (t count : ℕ) (xs : List Event) → since_from t count xs ≤ count + length xs
since_le t count [] = omega arith
since_le t count (x ∷ xs) = since_le_at t count xs (gives_tablet t x) (since_le t 0 xs) (since_le t (suc count) xs)

-- the last hand-out stays where it was
last_stays : (es : List Event) (e : Event) (t : ℕ) → gives_tablet t e ≡ false → length (es ++ e ∷ []) - since_give (es ++ e ∷ []) t ≡ length es - since_give es t
last_stays es e t is =
    let since : since_give (es ++ e ∷ []) t ≡ suc (since_give es t) = since_push t 0 es e ∙ ap (λ b. if b then 0 else suc (since_give es t)) is in
    omega (arith, since, length-append es (e ∷ []))

-- ---- what an event does

-- to another tablet: nothing
module _ (t : ℕ) where
  gives_other : (e : Event) (l : ℕ) → ((hand_of e).tablet == t) ≡ false → gives (hand t l) e ≡ false
  gives_other (Give g) l is = ap (λ b. b && (g.leaf == l)) is
  gives_other (Answer g) l is = refl
  gives_other (Fault g cause) l is = refl

  faults_other : (e : Event) (l : ℕ) → ((hand_of e).tablet == t) ≡ false → faults (hand t l) e ≡ false
  faults_other (Give g) l is = refl
  faults_other (Answer g) l is = refl
  faults_other (Fault g cause) l is = ap (λ b. b && (g.leaf == l)) is

  answers_other : (e : Event) → ((hand_of e).tablet == t) ≡ false → answers t e ≡ false
  answers_other (Give g) is = refl
  answers_other (Answer g) is = is
  answers_other (Fault g cause) is = refl

  gives_tablet_other : (e : Event) → ((hand_of e).tablet == t) ≡ false → gives_tablet t e ≡ false
  gives_tablet_other (Give g) is = is
  gives_tablet_other (Answer g) is = refl
  gives_tablet_other (Fault g cause) is = refl

  leaf_same : (es : List Event) (e : Event) (l : ℕ) → gives (hand t l) e ≡ false → faults (hand t l) e ≡ false → leaf_at (es ++ e ∷ []) t l ≡ leaf_at es t l
  leaf_same es e l g f = λ i. record { leaf = l; given = none_pushed (gives (hand t l)) es e g i; failed = none_pushed (faults (hand t l)) es e f i }

  other_tablet : (es : List Event) (e : Event) (leaves : List ℕ) → ((hand_of e).tablet == t) ≡ false → tablet_at (es ++ e ∷ []) t leaves ≡ tablet_at es t leaves
  other_tablet es e leaves is =
      let kept = same_maps (leaf_at (es ++ e ∷ []) t) (leaf_at es t) leaves (λ l. leaf_same es e l (gives_other e l is) (faults_other e l is)) in
      let answer = none_pushed (answers t) es e (answers_other e is) in
      let stays = last_stays es e t (gives_tablet_other e is) in
      λ i. record { leaves = kept i; answered = answer i; last = stays i }

same_number : (n : ℕ) → (n == n) ≡ true
same_number n = eq-eqb n n refl

given_at : (es : List Event) (g : Hand) (l : ℕ) (b : Bool) → (g.leaf == l) ≡ b → leaf_at (es ++ Give g ∷ []) g.tablet l ≡ (if b then record { leaf = l; given = has_give es (hand g.tablet l) || true; failed = has_fault es (hand g.tablet l) || false } else leaf_at es g.tablet l)
given_at es g l true is =
    let given = any_push (gives (hand g.tablet l)) es (Give g) ∙ ap₂ (λ a b. has_give es (hand g.tablet l) || (a && b)) (same_number g.tablet) is in
    let failed = any_push (faults (hand g.tablet l)) es (Give g) in
    λ i. record { leaf = l; given = given i; failed = failed i }
given_at es g l false is = leaf_same g.tablet es (Give g) l (ap₂ (λ a b. a && b) (same_number g.tablet) is) refl

failed_at : (es : List Event) (g : Hand) (cause : Cause) (l : ℕ) (b : Bool) → (g.leaf == l) ≡ b
    → leaf_at (es ++ Fault g cause ∷ []) g.tablet l ≡ (if b then record { leaf = l; given = has_give es (hand g.tablet l) || false; failed = has_fault es (hand g.tablet l) || true } else leaf_at es g.tablet l)
failed_at es g cause l true is =
    let failed = any_push (faults (hand g.tablet l)) es (Fault g cause) ∙ ap₂ (λ a b. has_fault es (hand g.tablet l) || (a && b)) (same_number g.tablet) is in
    let given = any_push (gives (hand g.tablet l)) es (Fault g cause) in
    λ i. record { leaf = l; given = given i; failed = failed i }
failed_at es g cause l false is = leaf_same g.tablet es (Fault g cause) l refl (ap₂ (λ a b. a && b) (same_number g.tablet) is)

-- to its own tablet
own_tablet : (es : List Event) (e : Event) (leaves : List ℕ) → tablet_at (es ++ e ∷ []) (hand_of e).tablet leaves ≡ tablet_after (length es + 1) (tablet_at es (hand_of e).tablet leaves) e
own_tablet es (Give g) leaves =
    let kept = same_maps (leaf_at (es ++ Give g ∷ []) g.tablet) (λ l. leaf_after false g.leaf (leaf_at es g.tablet l)) leaves (λ l. given_at es g l (g.leaf == l) refl)
    ∙ sym (map-map (leaf_after false g.leaf) (leaf_at es g.tablet) leaves) in
    let answer = none_pushed (answers g.tablet) es (Give g) refl in
    let since : since_give (es ++ Give g ∷ []) g.tablet ≡ 0 = since_push g.tablet 0 es (Give g) ∙ ap (λ b. if b then 0 else suc (since_give es g.tablet)) (same_number g.tablet) in
    let last : length (es ++ Give g ∷ []) - since_give (es ++ Give g ∷ []) g.tablet ≡ length es + 1 = omega (arith, since, length-append es (Give g ∷ [])) in
    λ i. record { leaves = kept i; answered = answer i; last = last i }
own_tablet es (Answer g) leaves =
    let kept = same_maps (leaf_at (es ++ Answer g ∷ []) g.tablet) (leaf_at es g.tablet) leaves (λ l. leaf_same g.tablet es (Answer g) l refl refl) in
    let answer = any_push (answers g.tablet) es (Answer g) ∙ (ap (λ b. has_answer es g.tablet || b) (same_number g.tablet) ∙ or-true (has_answer es g.tablet)) in
    let stays = last_stays es (Answer g) g.tablet refl in
    λ i. record { leaves = kept i; answered = answer i; last = stays i }
own_tablet es (Fault g cause) leaves =
    let kept = same_maps (leaf_at (es ++ Fault g cause ∷ []) g.tablet) (λ l. leaf_after true g.leaf (leaf_at es g.tablet l)) leaves (λ l. failed_at es g cause l (g.leaf == l) refl)
    ∙ sym (map-map (leaf_after true g.leaf) (leaf_at es g.tablet) leaves) in
    let answer = none_pushed (answers g.tablet) es (Fault g cause) refl in
    let stays = last_stays es (Fault g cause) g.tablet refl in
    λ i. record { leaves = kept i; answered = answer i; last = stays i }

-- ---- all tablets

-- those that the event isn't of
later_tablets : (es : List Event) (e : Event) (base : ℕ) (rows : List (List ℕ)) → (hand_of e).tablet < base → tablets_from (es ++ e ∷ []) base rows ≡ tablets_from es base rows
later_tablets es e base [] lt = refl
later_tablets es e base (leaves ∷ rest) lt =
    ap₂ (λ x xs. x ∷ xs) (other_tablet base es e leaves (ne_eqb (hand_of e).tablet base (λ same. omega (arith, same)))) (later_tablets es e (suc base) rest (omega arith))

-- the tablet k from the base on is the event's
pub tablets-push : (es : List Event) (e : Event) (base k : ℕ) (rows : List (List ℕ)) → base + k ≡ (hand_of e).tablet → k < length rows
    → set (tablets_from es base rows) k (tablet_after (length es + 1) (tablet_at es (hand_of e).tablet (leaves_at rows k)) e) ≡ tablets_from (es ++ e ∷ []) base rows
tablets-push es e base k [] n h = absurd (omega arith)
tablets-push es e base zero (leaves ∷ rest) n h =
    let same : (hand_of e).tablet ≡ base = omega (arith, n) in
    ap₂ (λ (x : TabletShown) (xs : List TabletShown). x ∷ xs) (sym (own_tablet es e leaves) ∙ ap (λ (t : ℕ). tablet_at (es ++ e ∷ []) t leaves) same)
    (sym (later_tablets es e (suc base) rest (omega (arith, same))))
tablets-push es e base (suc k) (leaves ∷ rest) n h =
    ap₂ (λ (x : TabletShown) (xs : List TabletShown). x ∷ xs) (sym (other_tablet base es e leaves (ne_eqb (hand_of e).tablet base (λ same. omega (arith, same, n)))))
    (tablets-push es e (suc base) k rest (omega (arith, n)) (omega arith))

pub length-tablets : (es : List Event) (base : ℕ) (rows : List (List ℕ)) → length (tablets_from es base rows) ≡ length rows
length-tablets es base [] = refl
length-tablets es base (leaves ∷ rest) = ap suc (length-tablets es (suc base) rest)

pub get_or-tablets : (es : List Event) (base k t : ℕ) (rows : List (List ℕ)) (d : TabletShown) → base + k ≡ t → k < length rows → get_or (tablets_from es base rows) k d ≡ tablet_at es t (leaves_at rows k)
get_or-tablets es base k t [] d n h = absurd (omega arith)
get_or-tablets es base zero t (leaves ∷ rest) d n h = ap (λ (u : ℕ). tablet_at es u leaves) (omega (arith, n))
get_or-tablets es base (suc k) t (leaves ∷ rest) d n h = get_or-tablets es (suc base) k t rest d (omega (arith, n)) (omega arith)

pub tablets-none : (base : ℕ) (rows : List (List ℕ)) → tablets_from [] base rows ≡ map new_tablet rows
tablets-none base [] = refl
tablets-none base (leaves ∷ rest) = ap (λ (xs : List TabletShown). new_tablet leaves ∷ xs) (tablets-none (suc base) rest)

leaves_back : (es : List Event) (t : ℕ) (leaves : List ℕ) → map (λ (l : LeafState). l.leaf) (map (leaf_at es t) leaves) ≡ leaves
leaves_back es t [] = refl
leaves_back es t (l ∷ leaves) = ap (λ (ls : List ℕ). l ∷ ls) (leaves_back es t leaves)

pub leaves_of-tablets : (es : List Event) (base : ℕ) (rows : List (List ℕ)) → leaves_of (tablets_from es base rows) ≡ rows
leaves_of-tablets es base [] = refl
leaves_of-tablets es base (leaves ∷ rest) = ap₂ (λ (ls : List ℕ) (rs : List (List ℕ)). ls ∷ rs) (leaves_back es base leaves) (leaves_of-tablets es (suc base) rest)

-- ---- what is handed out

-- a tablet that wasn't handed out has all events behind its last hand-out, and one that was has less
since_none_at : (t count : ℕ) (xs : List Event) (g : Bool) → (g || list_any (gives_tablet t) xs) ≡ false → (list_any (gives_tablet t) xs ≡ false → since_from t (suc count) xs ≡ suc count + length xs)
    → (if g then since_from t 0 xs else since_from t (suc count) xs) ≡ count + suc (length xs)
since_none_at t count xs true none rest = absurd (true≢false none)
since_none_at t count xs false none rest = omega (arith, rest none)

since_none : (t count : ℕ) (xs : List Event) → list_any (gives_tablet t) xs ≡ false → since_from t count xs ≡ count + length xs
since_none t count [] none = omega arith
since_none t count (x ∷ xs) none = since_none_at t count xs (gives_tablet t x) none (since_none t (suc count) xs)

since_less_at : (t count : ℕ) (xs : List Event) (g : Bool) → (g || list_any (gives_tablet t) xs) ≡ true → since_from t 0 xs ≤ 0 + length xs
    → (list_any (gives_tablet t) xs ≡ true → since_from t (suc count) xs < suc count + length xs) → (if g then since_from t 0 xs else since_from t (suc count) xs) < count + suc (length xs)
since_less_at t count xs true some most rest = omega (arith, most)
since_less_at t count xs false some most rest = omega (arith, rest some)

since_less : (t count : ℕ) (xs : List Event) → list_any (gives_tablet t) xs ≡ true → since_from t count xs < count + length xs
since_less t count [] some = absurd (true≢false (sym some))
since_less t count (x ∷ xs) some = since_less_at t count xs (gives_tablet t x) some (since_le t 0 xs) (since_less t (suc count) xs)

last_of : (es : List Event) (t : ℕ) (b : Bool) → was_handed_out es t ≡ b → ((length es - since_give es t) == 0) ≡ not b
last_of es t true was = let less = since_less t 0 es was in ne_eqb (length es - since_give es t) 0 (λ zero. omega (arith, less, zero))
last_of es t false was = let all = since_none t 0 es was in eq-eqb (length es - since_give es t) 0 (omega (arith, all))

first_leaf_hand-first : (es : List Event) (t : ℕ) (leaves : List ℕ) → first_leaf_hand t (map (leaf_at es t) leaves) ≡ first_hand t leaves
first_leaf_hand-first es t [] = refl
first_leaf_hand-first es t (l ∷ leaves) = refl

flipped : (b : Bool) (o : Option Hand) → (if not b then o else None) ≡ (if b then None else o)
flipped true o = refl
flipped false o = refl

-- what is fresh of a tablet
pub fresh_same : (es : List Event) (t : ℕ) (leaves : List ℕ) → fresh_hand t (tablet_at es t leaves) ≡ (if was_handed_out es t then None else first_hand t leaves)
fresh_same es t leaves =
    ap₂ (λ (b : Bool) (o : Option Hand). if b then o else None) (last_of es t (was_handed_out es t) refl) (first_leaf_hand-first es t leaves)
    ∙ flipped (was_handed_out es t) (first_hand t leaves)

open_hand-first : (es : List Event) (t : ℕ) (leaves : List ℕ) → open_hand t (map (leaf_at es t) leaves) ≡ first_open es t leaves
open_hand-first es t [] = refl
open_hand-first es t (l ∷ leaves) = ap (λ (o : Option Hand). if has_give es (hand t l) then o else Some (hand t l)) (open_hand-first es t leaves)

idle-failed : (es : List Event) (t : ℕ) (leaves : List ℕ) → list_all (λ (l : LeafState). not l.given || l.failed) (map (leaf_at es t) leaves) ≡ all_failed es t leaves
idle-failed es t [] = refl
idle-failed es t (l ∷ leaves) = ap (λ b. (not (has_give es (hand t l)) || has_fault es (hand t l)) && b) (idle-failed es t leaves)

urgent_same : (es : List Event) (t : ℕ) (leaves : List ℕ) → urgent_hand t (tablet_at es t leaves) ≡ urgent es t leaves
urgent_same es t leaves = ap₂ (λ (b : Bool) (o : Option Hand). if not (has_answer es t) && b then o else None) (idle-failed es t leaves) (open_hand-first es t leaves)

late_same : (lag : ℕ) (es : List Event) (t : ℕ) (leaves : List ℕ) → late_hand lag (length es) t (tablet_at es t leaves) ≡ late lag es t leaves
late_same lag es t leaves =
    let since : length es - (length es - since_give es t) ≡ since_give es t = omega (arith, since_le t 0 es) in
    ap₂ (λ (n : ℕ) (o : Option Hand). if not (has_answer es t) && nat_le lag n then o else None) since (open_hand-first es t leaves)

lowest_same : (pick : ℕ → TabletShown → Option Hand) (chosen : ℕ → List ℕ → Option Hand) (es : List Event) → ((t : ℕ) (leaves : List ℕ) → pick t (tablet_at es t leaves) ≡ chosen t leaves)
    → (base : ℕ) (rows : List (List ℕ)) → lowest_hand pick base (tablets_from es base rows) ≡ lowest chosen base rows
lowest_same pick chosen es same base [] = refl
lowest_same pick chosen es same base (leaves ∷ rest) = ap₂ or_else (same base leaves) (lowest_same pick chosen es same (suc base) rest)

pub chosen-choice : (j : Job) (es : List Event) → chosen_hand j.lag (length es) (tablets_from es 0 j.leaves) ≡ choice j es
chosen-choice j es =
    ap₂ or_else (lowest_same urgent_hand (urgent es) es (urgent_same es) 0 j.leaves)
    (lowest_same (late_hand j.lag (length es)) (late j.lag es) es (late_same j.lag es) 0 j.leaves)
