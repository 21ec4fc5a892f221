-- Tablets that were answered are never chosen, and stay answered.
use Rattle.std.proofs.Common.{◌≡◌, ℕ, zero, suc, ◌+◌, ◌<◌, List, [], ◌∷◌, length, take, drop, get_or, set, true, ◌&&◌, ◌||◌, not, Option, None, refl, sym, ap, ap₂, ◌∙◌, arith, add-zero, zero-add}
use Rattle.std.specs.Prelude.{nat_le, ◌-◌, if◌then◌else◌}
use Rattle.std.specs.List.{list_all}
use Rattle.std.proofs.lemmas.Bool.{and_parts}
use Rattle.dr_dispatch.specs.Choice.{or_else}
use Rattle.dr_dispatch.specs.declared.event.Hand.{Hand}
use Rattle.dr_dispatch.specs.declared.event.Event.{Event}
use Rattle.dr_dispatch.specs.declared.event.Event.TheVariants.{Give, Answer, Fault}
use Rattle.dr_board.specs.Tablets.{TabletShown, open_hand, urgent_hand, late_hand, lowest_hand, chosen_hand, tablet_after}
use Rattle.dr_board.specs.Shown.{AreAnswered}
use Rattle.dr_board.specs.declared.tablet.LeafState.{LeafState}

-- ---- they aren't chosen

urgent_none : (t : ℕ) (x : TabletShown) → x.answered ≡ true → urgent_hand t x ≡ None
urgent_none t x a = ap (λ b. if not b && list_all (λ (l : LeafState). not l.given || l.failed) x.leaves then open_hand t x.leaves else None) a

late_none : (lag count t : ℕ) (x : TabletShown) → x.answered ≡ true → late_hand lag count t x ≡ None
late_none lag count t x a = ap (λ b. if not b && nat_le lag (count - x.last) then open_hand t x.leaves else None) a

module _ (pick : ℕ → TabletShown → Option Hand) (none : (t : ℕ) (x : TabletShown) → x.answered ≡ true → pick t x ≡ None) where
  lowest_behind : (start base : ℕ) (tablets : List TabletShown) → AreAnswered start tablets → lowest_hand pick base tablets ≡ lowest_hand pick (base + start) (drop start tablets)
  lowest_behind zero base tablets a = ap (λ (n : ℕ). lowest_hand pick n tablets) (sym (add-zero base))
  lowest_behind (suc start) base [] a = refl
  lowest_behind (suc start) base (x ∷ tablets) a =
      let p = and_parts x.answered (list_all (λ (t : TabletShown). t.answered) (take start tablets)) a in
      let n : suc base + start ≡ base + suc start = omega arith in
      ap (λ (o : Option Hand). or_else o (lowest_hand pick (suc base) tablets)) (none base x p.0)
      ∙ (lowest_behind start (suc base) tablets p.1 ∙ ap (λ (m : ℕ). lowest_hand pick m (drop start tablets)) n)

pub chosen_behind : (lag count start : ℕ) (tablets : List TabletShown) → AreAnswered start tablets
    → chosen_hand lag count tablets ≡ or_else (lowest_hand urgent_hand start (drop start tablets)) (or_else None (lowest_hand (late_hand lag count) start (drop start tablets)))
chosen_behind lag count start tablets a =
    let u = lowest_behind urgent_hand urgent_none start 0 tablets a ∙ ap (λ (n : ℕ). lowest_hand urgent_hand n (drop start tablets)) (zero-add start) in
    let l = lowest_behind (late_hand lag count) (late_none lag count) start 0 tablets a ∙ ap (λ (n : ℕ). lowest_hand (late_hand lag count) n (drop start tablets)) (zero-add start) in
    ap₂ or_else u l

-- ---- they stay answered

after_answered : (count : ℕ) (x : TabletShown) (e : Event) → x.answered ≡ true → (tablet_after count x e).answered ≡ true
after_answered count x (Give h) a = a
after_answered count x (Answer h) a = refl
after_answered count x (Fault h cause) a = a

pub stay_answered : (start t count : ℕ) (tablets : List TabletShown) (d : TabletShown) (e : Event) → AreAnswered start tablets
    → AreAnswered start (set tablets t (tablet_after count (get_or tablets t d) e))
stay_answered zero t count tablets d e a = refl
stay_answered (suc start) t count [] d e a = a
stay_answered (suc start) zero count (x ∷ tablets) d e a =
    let p = and_parts x.answered (list_all (λ (t : TabletShown). t.answered) (take start tablets)) a in
    ap₂ (λ b c. b && c) (after_answered count x e p.0) p.1
stay_answered (suc start) (suc t) count (x ∷ tablets) d e a =
    let p = and_parts x.answered (list_all (λ (t : TabletShown). t.answered) (take start tablets)) a in
    ap₂ (λ b c. b && c) p.0 (stay_answered start t count tablets d e p.1)

-- ---- and one more

pub one_more_answered : (start : ℕ) (tablets : List TabletShown) (d : TabletShown) → start < length tablets → AreAnswered start tablets → (get_or tablets start d).answered ≡ true
    → AreAnswered (suc start) tablets
one_more_answered start [] d lt a is = absurd (omega arith)
one_more_answered zero (x ∷ tablets) d lt a is = ap₂ (λ b c. b && c) is refl
one_more_answered (suc start) (x ∷ tablets) d lt a is =
    let p = and_parts x.answered (list_all (λ (t : TabletShown). t.answered) (take start tablets)) a in
    ap₂ (λ b c. b && c) p.0 (one_more_answered start tablets d (omega arith) p.1 is)
