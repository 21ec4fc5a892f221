-- A record taken back: what a branch was before it stays.
use Rattle.std.proofs.Common.{inl, inr, rules, ◌≡◌, ◌<◌, ◌≤◌, ◌+◌, ℕ, zero, suc, List, [], ◌∷◌, ◌++◌, map, take, set, get_or, length, Bool, true, false, refl, sym, ap, ap₂, ◌∙◌, subst, arith}
use Rattle.std.specs.Prelude.{◌⊎◌, nat_lt, if◌then◌else◌, Vec, Result, Ok, Err, OnOk}
use Rattle.std.specs.declared.alloc.Global.{Global}
use Rattle.std.proofs.lemmas.Bool.{ltb-true, lt-ltb}
use Rattle.std.proofs.lemmas.List.{length-append, length-map, length-take-le}
use Rattle.dr_memory.specs.declared.NoMemory.{NoMemory}
use Rattle.dr_meaning.specs.Schema.{Repetition}
use Rattle.dr_meaning.specs.Path.{Step}
use Rattle.dr_meaning.specs.Column.{Triplet}
use Rattle.dr_nested.specs.declared.shape.Rep.{Rep}
use Rattle.dr_nested.specs.Views.{rep_view}
use Rattle.dr_levels.specs.Columns.{Adds}
use Rattle.dr_levels.specs.Views.{column_view}
use Rattle.dr_striper.specs.declared.branch.Branch.{Branch}
use Rattle.dr_striper.specs.declared.branch.Branch as branches
use Rattle.dr_striper.specs.declared.branch.Branch.TheOpen.{Branch-F}
use Rattle.dr_striper.specs.declared.branch.Branch.TheVariants as variants
use Rattle.dr_striper.specs.declared.branch.LeafGrown.{LeafGrown}
use Rattle.dr_striper.specs.declared.branch.GroupGrown.{GroupGrown}
use Rattle.dr_striper.specs.Added as added
use Rattle.dr_striper.specs.Added.{grown, Twig, Twigs, no_twigs, twig, twig_at, twig_column, column_in, TwigLeads, Leads, TwigWithin, Within}
use Rattle.dr_striper.specs.Views.{null_of, nulls, twig_view, twigs_view}
use Rattle.dr_striper.proofs.PassingLemmas.{twig-leaf, twig-group}
use Rattle.dr_striper.specs.Back.{kept_seen, kept_own, leaf_back, group_own, group_of, group_back, back_view, backs, at_each}

-- ---- fronts that stay

pub front_stays : {A : Type 0} (w : ℕ) (c more : List A) → w ≤ length c → take w (c ++ more) ≡ take w c
front_stays zero c more h = refl
front_stays (suc w) [] more h = absurd (omega (arith, h))
front_stays (suc w) (x ∷ c) more h = ap (λ xs. x ∷ xs) (front_stays w c more (omega (arith, h)))

pub adds_front : {A : Type 0} (x : Result (Unit {0}) NoMemory) (w : ℕ) (c d more : List A) → Adds c d more x → w ≤ length c → take w d ≡ take w c
adds_front (Ok done) w c d more a h = ap (take w) a ∙ front_stays w c more h
adds_front (Err e) w c d more a h = ap (take w) a

pub adds_long : {A : Type 0} (x : Result (Unit {0}) NoMemory) (w : ℕ) (c d more : List A) → Adds c d more x → w ≤ length c → w ≤ length d
adds_long (Ok done) w c d more a h = omega (arith, h, ap length a, length-append c more)
adds_long (Err e) w c d more a h = omega (arith, h, ap length a)

pub added_on_ok : {A : Type 0} (x : Result (Unit {0}) NoMemory) (old new more whole : List A) → Adds old new more x → old ≡ whole → OnOk x (new ≡ whole ++ more)
added_on_ok (Ok done) old new more whole a e = a ∙ ap (λ ts. ts ++ more) e
added_on_ok (Err f) old new more whole a e = tt

-- ---- what took part has seen more than was kept

pub not_below : (m n : ℕ) → n ≤ m → nat_lt m n ≡ false
not_below m n h = by-cases (nat_lt m n) refl
  where
    by-cases : (b : Bool) → nat_lt m n ≡ b → nat_lt m n ≡ false
    by-cases true e = absurd (omega (arith, h, ltb-true m n e))
    by-cases false e = e

pub seen_out : (m n was : ℕ) → n ≤ m → kept_seen m n was ≡ n
seen_out m n was h = ap (λ (t : Bool). if t then was else n) (not_below m n h)

pub seen_in : (m n was : ℕ) → m < n → kept_seen m n was ≡ was
seen_in m n was h = ap (λ (t : Bool). if t then was else n) (lt-ltb m n h)

pub own_out : (m n was : ℕ) (own : List Triplet) → n ≤ m → kept_own m n was own ≡ own
own_out m n was own h = ap (λ (t : Bool). if t then take was own else own) (not_below m n h)

pub own_in : (m n was : ℕ) (own : List Triplet) → m < n → kept_own m n was own ≡ take was own
own_in m n was own h = ap (λ (t : Bool). if t then take was own else own) (lt-ltb m n h)

-- ---- branches, one after another

pub same_backs : (m i : ℕ) (now : List Branch) (x y : Branch) → i < length now → back_view y m ≡ back_view (get_or now i x) m → backs m (set now i y) ≡ backs m now
same_backs m i [] x y l e = refl
same_backs m zero (b ∷ bs) x y l e = ap (λ (s : Twig). twig s (backs m bs)) e
same_backs m (suc i) (b ∷ bs) x y l e = ap (twig (back_view b m)) (same_backs m i bs x y (omega (arith, l)) e)

-- ---- views of branches

nothing-twig : twig_view branches.Nothing ≡ added.nothing
nothing-twig = search (rules, branches.the_lemmas)

pub back-nothing : (m : ℕ) → back_view branches.Nothing m ≡ added.nothing
back-nothing m = search (rules, branches.the_lemmas)

pub back-leaf : (k : Rep) (l : LeafGrown) (m : ℕ) → back_view (branches.Leaf k l) m ≡ leaf_back (rep_view k) m l
back-leaf k l m = search (rules, branches.the_lemmas)

pub back-group : (k : Rep) (g : GroupGrown) (bs : Vec Branch Global) (m : ℕ) → back_view (branches.Group k g bs) m ≡ group_back (rep_view k) m g bs.items
back-group k g bs m = search (rules, branches.the_lemmas)

-- ---- what took no part in a record stays

branch-cases : (b : Branch) → (b ≡ branches.Nothing) ⊎ (((k : Rep) × (l : LeafGrown) × (b ≡ branches.Leaf k l)) ⊎ ((k : Rep) × (g : GroupGrown) × (bs : Vec Branch Global) × (b ≡ branches.Group k g bs)))
branch-cases b = by (branches.out-Branch b) refl
  where
    by : (y : _) → branches.out-Branch b ≡ y → (b ≡ branches.Nothing) ⊎ (((k : Rep) × (l : LeafGrown) × (b ≡ branches.Leaf k l)) ⊎ ((k : Rep) × (g : GroupGrown) × (bs : Vec Branch Global) × (b ≡ branches.Group k g bs)))
    by Branch-F.Nothing e = inl (sym (branches.roll-out-Branch b) ∙ (ap branches.roll-Branch e ∙ variants.rolls-Nothing))
    by (Branch-F.Leaf k l) e = inr (inl (k, l, sym (branches.roll-out-Branch b) ∙ (ap branches.roll-Branch e ∙ variants.rolls-Leaf k l)))
    by (Branch-F.Group k g bs) e = inr (inr (k, g, bs, sym (branches.roll-out-Branch b) ∙ (ap branches.roll-Branch e ∙ variants.rolls-Group k g bs)))

abbrev One : Repetition → List Step → ℕ → List Triplet → Twig → Twig → Type 0
One k p m L t u = (twig_column (column_in p) L u ≡ twig_column (column_in p) L t) × TwigLeads k p (Leads p) u × TwigWithin (Within p) m u

abbrev Stays : List Step → Type 0
Stays p = (m : ℕ) (L : List Triplet) (bs : List Branch) → Leads p (twigs_view bs) → Within p m (twigs_view bs)
    → (column_in p L (backs m bs) ≡ column_in p L (twigs_view bs)) × Leads p (backs m bs) × Within p m (backs m bs)

leaf-same : (k : Repetition) (m : ℕ) (l : LeafGrown) → l.seen ≤ m → leaf_back k m l ≡ added.leaf k l.seen (column_view l.column)
leaf-same k m l h = ap₂ (added.leaf k) (seen_out m l.seen l.was_seen h) (own_out m l.seen l.was_long (column_view l.column) h)

group-same : (k : Repetition) (m : ℕ) (g : GroupGrown) (is : List Branch) → g.seen ≤ m
    → group_back k m g is ≡ added.group k g.seen (nulls g.levels.items) (backs (length (nulls g.levels.items)) is)
group-same k m g is h =
    ap₂ (λ (n : ℕ) (own : List Triplet). added.group k n own (at_each (length own) (map back_view is))) (seen_out m g.seen g.was_seen h) (own_out m g.seen g.was_long (nulls g.levels.items) h)

leaf-stays : (k : Repetition) (p : List Step) (m : ℕ) (L : List Triplet) (r : Rep) (l : LeafGrown) (t u : Twig) → t ≡ added.leaf (rep_view r) l.seen (column_view l.column) → u ≡ leaf_back (rep_view r) m l
    → TwigLeads k p (Leads p) t → TwigWithin (Within p) m t → One k p m L t u
leaf-stays k p m L r l t u et eu leads within =
    let w : TwigWithin (Within p) m (added.leaf (rep_view r) l.seen (column_view l.column)) = subst (TwigWithin (Within p) m) et within in
    subst (One k p m L t) (et ∙ sym (leaf-same (rep_view r) m l w) ∙ sym eu) (refl, leads, within)

group-stays : (k : Repetition) (p : List Step) → Stays p → (m : ℕ) (L : List Triplet) (r : Rep) (g : GroupGrown) (is : List Branch) (t u : Twig)
    → t ≡ added.group (rep_view r) g.seen (nulls g.levels.items) (twigs_view is) → u ≡ group_back (rep_view r) m g is
    → TwigLeads k p (Leads p) t → TwigWithin (Within p) m t → One k p m L t u
group-stays k p rest m L r g is t u et eu leads within =
    let own : List Triplet = nulls g.levels.items in
    let l : TwigLeads k p (Leads p) (added.group (rep_view r) g.seen own (twigs_view is)) = subst (TwigLeads k p (Leads p)) et leads in
    let w : TwigWithin (Within p) m (added.group (rep_view r) g.seen own (twigs_view is)) = subst (TwigWithin (Within p) m) et within in
    let one = rest (length own) (grown g.seen own L) is l.1 w.1 in
    subst (λ x. One k p m L x u) (sym et)
    (subst (One k p m L (added.group (rep_view r) g.seen own (twigs_view is))) (sym (group-same (rep_view r) m g is w.0) ∙ sym eu)
    (one.0, (l.0, one.1), (w.0, one.2)))

nothing-stays : (k : Repetition) (p : List Step) (m : ℕ) (L : List Triplet) (t u : Twig) → t ≡ added.nothing → TwigLeads k p (Leads p) t → One k p m L t u
nothing-stays k p m L t u e leads = absurd (subst (TwigLeads k p (Leads p)) e leads)

twig-stays : (k : Repetition) (p : List Step) → Stays p → (m : ℕ) (L : List Triplet) (b : Branch) → TwigLeads k p (Leads p) (twig_view b) → TwigWithin (Within p) m (twig_view b) → One k p m L (twig_view b) (back_view b m)
twig-stays k p rest m L b leads within = by (branch-cases b)
  where
    by : (b ≡ branches.Nothing) ⊎ (((k : Rep) × (l : LeafGrown) × (b ≡ branches.Leaf k l)) ⊎ ((k : Rep) × (g : GroupGrown) × (bs : Vec Branch Global) × (b ≡ branches.Group k g bs))) → One k p m L (twig_view b) (back_view b m)
    by (inl e) = nothing-stays k p m L (twig_view b) (back_view b m) (ap twig_view e ∙ nothing-twig) leads
    by (inr (inl c)) = leaf-stays k p m L c.0 c.1 (twig_view b) (back_view b m) (ap twig_view c.2 ∙ twig-leaf c.0 c.1) (ap (λ x. back_view x m) c.2 ∙ back-leaf c.0 c.1 m) leads within
    by (inr (inr c)) = group-stays k p rest m L c.0 c.1 c.2.items (twig_view b) (back_view b m) (ap twig_view c.3 ∙ twig-group c.0 c.1 c.2) (ap (λ x. back_view x m) c.3 ∙ back-group c.0 c.1 c.2 m) leads within

back-at : (i m : ℕ) (bs : List Branch) → (twig_at i (twigs_view bs) ≡ added.nothing) ⊎ ((b : Branch) × (twig_at i (twigs_view bs) ≡ twig_view b) × (twig_at i (backs m bs) ≡ back_view b m))
back-at i m [] = inl refl
back-at zero m (b ∷ bs) = inr (b, refl, refl)
back-at (suc i) m (b ∷ bs) = back-at i m bs

step-stays : (s : Step) (p : List Step) → Stays p → Stays (s ∷ p)
step-stays s p rest m L bs leads within = by (back-at s.place m bs)
  where
    by : (twig_at s.place (twigs_view bs) ≡ added.nothing) ⊎ ((b : Branch) × (twig_at s.place (twigs_view bs) ≡ twig_view b) × (twig_at s.place (backs m bs) ≡ back_view b m))
        → One s.repetition p m L (twig_at s.place (twigs_view bs)) (twig_at s.place (backs m bs))
    by (inl e) = nothing-stays s.repetition p m L (twig_at s.place (twigs_view bs)) (twig_at s.place (backs m bs)) e leads
    by (inr c) =
        subst (λ t. One s.repetition p m L t (twig_at s.place (backs m bs))) (sym c.1)
        (subst (One s.repetition p m L (twig_view c.0)) (sym c.2)
        (twig-stays s.repetition p rest m L c.0 (subst (TwigLeads s.repetition p (Leads p)) c.1 leads) (subst (TwigWithin (Within p) m) c.1 within)))

pub stays : (p : List Step) → Stays p
stays [] m L bs leads within = absurd leads
stays (s ∷ p) m L bs leads within = step-stays s p (stays p) m L bs leads within

-- ---- a group that took part

pub group_step : (k : Repetition) (m : ℕ) (g g' : GroupGrown) (is is' : List Branch) → m < g'.seen → kept_seen m g'.seen g'.was_seen ≡ kept_seen m g.seen g.was_seen → group_own m g' ≡ group_own m g
    → backs g'.was_long is' ≡ backs g'.was_long is → group_back k m g' is' ≡ group_back k m g is
group_step k m g g' is is' h s o e =
    let n : length (group_own m g') ≡ g'.was_long = ap length (own_in m g'.seen g'.was_long (nulls g'.levels.items) h) ∙ length-take-le g'.was_long (nulls g'.levels.items) (omega (arith, g'.marked, length-map g'.levels.items null_of)) in
    ap (λ (j : ℕ). added.group k (kept_seen m g'.seen g'.was_seen) (group_own m g') (backs j is')) n
    ∙ ap (added.group k (kept_seen m g'.seen g'.was_seen) (group_own m g')) e
    ∙ sym (ap (λ (j : ℕ). added.group k (kept_seen m g'.seen g'.was_seen) (group_own m g') (backs j is)) n)
    ∙ ap₂ (λ (j : ℕ) (own : List Triplet). added.group k j own (backs (length own) is)) s o
