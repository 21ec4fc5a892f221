-- The end of a tablet.
use Rattle.std.proofs.Common.{◌≡◌, ◌<◌, ◌≤◌, ◌+◌, ℕ, zero, suc, List, [], ◌∷◌, ◌++◌, map, take, drop, set, get_or, length, refl, sym, ap, ap₂, ◌∙◌, subst, arith}
use Rattle.std.proofs.lemmas.List.{map-append, take_more_set, drop-set-lt, take_all, drop_all, append-nil, drop-map, length-map}
use Rattle.std.proofs.Math.Seq.{drop-length}
use Rattle.std.proofs.lemmas.Bool.{leb-true, le-leb}
use Rattle.std.specs.Prelude.{nat_le}
use Rattle.dr_meaning.specs.Schema.{Repetition}
use Rattle.dr_meaning.specs.Path.{Step}
use Rattle.dr_meaning.specs.Column.{Triplet}
use Rattle.dr_levels.specs.Views.{LeafForm}
use Rattle.dr_striper.specs.Added.{grown}
use Rattle.dr_striper.specs.Added as added
use Rattle.dr_striper.specs.Added.{Twig, Twigs, no_twigs, twig, twig_at, twig_column, column_in, TwigLeads, Leads, TwigWithin, Within}
use Rattle.std.specs.Prelude.{Vec}
use Rattle.dr_levels.specs.declared.triplet.Levels.{Levels}
use Rattle.std.specs.declared.alloc.Global.{Global}
use Rattle.dr_nested.specs.declared.shape.Rep.{Rep}
use Rattle.dr_nested.specs.Views.{rep_view}
use Rattle.dr_levels.specs.Views.{column_view, column_form}
use Rattle.dr_striper.specs.declared.branch.Branch.{Branch}
use Rattle.dr_striper.specs.declared.branch.Branch as branches
use Rattle.dr_striper.specs.declared.branch.LeafGrown.{LeafGrown}
use Rattle.dr_striper.specs.declared.branch.GroupGrown.{GroupGrown}
use Rattle.dr_striper.specs.Shapes as shapes
use Rattle.dr_striper.specs.Shapes.{Shape, Shapes, shape_at, ShapeLeads, LeadsTo, Lives, AllLive, AllTaken}
use Rattle.dr_striper.specs.Ended.{ended_own, ended_seen, ended_one, ended_each, OneEnds, AllEnd, EndsSame}
use Rattle.dr_striper.specs.Views.{null_of, nulls, twig_view, twigs_view, shape_view, shapes_view}
use Rattle.dr_striper.proofs.AddedLemmas.{within-up, grown-length}
use Rattle.dr_striper.proofs.PassingLemmas.{onto_twigs, onto-one, onto-none, drop-at, shape-here, twig-here, lives-at, view-leaf, twig-leaf, view-group, twig-group}

-- ---- the law

grown-all : (own L : List Triplet) → grown (length L) own L ≡ own
grown-all own L = ap (λ (t : List Triplet). own ++ t) (drop-length L) ∙ append-nil own

pub grown_ended : (n : ℕ) (L own : List Triplet) → grown (ended_seen n L own) (ended_own n L own) L ≡ grown n own L
grown_ended n L [] = refl
grown_ended n L (t ∷ ts) = grown-all (grown n (t ∷ ts) L) L

pub at-ended : (i : ℕ) (L : List Triplet) (bs : Twigs) → twig_at i (ended_each L bs) ≡ ended_one L (twig_at i bs)
at-ended i L no_twigs = refl
at-ended zero L (twig b bs) = refl
at-ended (suc i) L (twig b bs) = at-ended i L bs

twig-ends : (k : Repetition) (p : List Step) → ((L : List Triplet) (bs : Twigs) → Leads p bs → Within p (length L) bs → (column_in p L (ended_each L bs) ≡ column_in p L bs) × Leads p (ended_each L bs))
    → (L : List Triplet) (b : Twig) → TwigLeads k p (Leads p) b → TwigWithin (Within p) (length L) b
    → (twig_column (column_in p) L (ended_one L b) ≡ twig_column (column_in p) L b) × TwigLeads k p (Leads p) (ended_one L b)
twig-ends k p rest L added.nothing l w = absurd l
twig-ends k p rest L (added.leaf j n own) l w = (grown_ended n L own, l)
twig-ends k p rest L (added.group j n own bs) l w =
    let one = rest (grown n own L) bs l.1 (within-up p (length own) (length (grown n own L)) bs (grown-length n own L) w.1) in
    (ap (λ (t : List Triplet). column_in p t (ended_each (grown n own L) bs)) (grown_ended n L own) ∙ one.0, (l.0, one.1))

-- ---- branches, one after another

pub end_more : (i : ℕ) (L : List Triplet) (now : List Branch) (x y : Branch) (whole : Twigs) → i < length now → twig_view y ≡ ended_one L (twig_view (get_or now i x))
    → onto_twigs (map twig_view (take i now)) (ended_each L (twigs_view (drop i now))) ≡ whole
    → onto_twigs (map twig_view (take (i + 1) (set now i y))) (ended_each L (twigs_view (drop (i + 1) (set now i y)))) ≡ whole
end_more i L now x y whole l e w =
    ap₂ (λ (t u : List Branch). onto_twigs (map twig_view t) (ended_each L (twigs_view u))) (take_more_set now i y l) (drop-set-lt (i + 1) now i y (omega arith))
    ∙ ap (λ (t : List Twig). onto_twigs t (ended_each L (twigs_view (drop (i + 1) now)))) (map-append twig_view (take i now) (y ∷ []))
    ∙ onto-one (map twig_view (take i now)) (twig_view y) (ended_each L (twigs_view (drop (i + 1) now)))
    ∙ ap (λ (b : Twig). onto_twigs (map twig_view (take i now)) (twig b (ended_each L (twigs_view (drop (i + 1) now))))) e
    ∙ ap (λ (u : List Branch). onto_twigs (map twig_view (take i now)) (ended_each L (twigs_view u))) (sym (drop-at i now x l))
    ∙ w

pub end_all : (n : ℕ) (L : List Triplet) (now : List Branch) (whole : Twigs) → length now ≤ n → onto_twigs (map twig_view (take n now)) (ended_each L (twigs_view (drop n now))) ≡ whole → twigs_view now ≡ whole
end_all n L now whole l w =
    sym (onto-none (map twig_view now))
    ∙ sym (ap₂ (λ (t u : List Branch). onto_twigs (map twig_view t) (ended_each L (twigs_view u))) (take_all n now l) (drop_all n now l))
    ∙ w

one-ends : (i : ℕ) (L : List Triplet) (ss : Shapes) (bs : Twigs) → AllEnd L ss bs → OneEnds L (shape_at i ss) (twig_at i bs)
one-ends i L ss bs h = (lives-at i ss h.0, λ k p f l. h.1 (record { place = i; repetition = k }) p f l)

pub branch_ends : (i : ℕ) (L : List Triplet) (now old : List Branch) (x : Branch) → i < length now → drop i now ≡ drop i old → shapes_view now ≡ shapes_view old → AllEnd L (shapes_view old) (twigs_view old)
    → OneEnds L (shape_view (get_or now i x)) (twig_view (get_or now i x))
branch_ends i L now old x l same ss h =
    let s : shape_at i (shapes_view old) ≡ shape_view (get_or now i x) = sym (ap (shape_at i) ss) ∙ shape-here i now x l in
    let b : twig_at i (twigs_view old) ≡ twig_view (get_or now i x) = twig-here i old (get_or now i x) (drop (i + 1) now) (sym same ∙ drop-at i now x l) in
    subst (λ t. OneEnds L (shape_view (get_or now i x)) t) b (subst (λ t. OneEnds L t (twig_at i (twigs_view old))) s (one-ends i L (shapes_view old) (twigs_view old) h))

pub inner_ends : (k : Repetition) (L M : List Triplet) (n : ℕ) (own : List Triplet) (ss : Shapes) (bs : Twigs) → M ≡ grown n own L → OneEnds L (shapes.group k ss) (added.group k n own bs) → AllEnd M ss bs
inner_ends k L M n own ss bs em h =
    subst (λ t. AllEnd t ss bs) (sym em) (
      h.0.1,
      λ s p f l.
          let t = h.1 k (s ∷ p) f (refl, l) in
          ((t.0.0.1, within-up (s ∷ p) (length own) (length (grown n own L)) bs (grown-length n own L) t.0.1.1), t.1),
    )

pub ends_seen : (k : Repetition) (L : List Triplet) (n : ℕ) (own : List Triplet) (ss : Shapes) (bs : Twigs) → OneEnds L (shapes.group k ss) (added.group k n own bs) → n ≤ length L
ends_seen k L n own ss bs h = leb-true n (length L) (h.0.0 (nat_le n (length L)) (λ p f l. le-leb n (length L) (h.1 k p f (refl, l)).0.1.0))

pub leaf_ends_seen : (k : Repetition) (g : LeafForm) (L : List Triplet) (n : ℕ) (own : List Triplet) → OneEnds L (shapes.leaf k g) (added.leaf k n own) → n ≤ length L
leaf_ends_seen k g L n own h = (h.1 k [] g (refl, refl, refl)).0.1

pub leaf_ends_taken : (k : Repetition) (g : LeafForm) (L : List Triplet) (n : ℕ) (own : List Triplet) → OneEnds L (shapes.leaf k g) (added.leaf k n own) → AllTaken g (grown n own L)
leaf_ends_taken k g L n own h = (h.1 k [] g (refl, refl, refl)).1

pub ends_same_is : EndsSame
ends_same_is [] L bs l w = absurd l
ends_same_is (s ∷ p) L bs l w =
    let one = twig-ends s.repetition p (ends_same_is p) L (twig_at s.place bs) l w in
    let e : ended_one L (twig_at s.place bs) ≡ twig_at s.place (ended_each L bs) = sym (at-ended s.place L bs) in
    (subst (λ t. twig_column (column_in p) L t ≡ twig_column (column_in p) L (twig_at s.place bs)) e one.0, subst (λ t. TwigLeads s.repetition p (Leads p) t) e one.1)

-- ---- a branch that is lent

pub leaf_lent : (P : Shape → Twig → Type 0) (b : Branch) (k k' : Rep) (l l' : LeafGrown) → b ≡ branches.Leaf k l → k' ≡ k → l' ≡ l → P (shape_view b) (twig_view b)
    → P (shapes.leaf (rep_view k') (column_form l'.column)) (added.leaf (rep_view k') l'.seen (column_view l'.column))
leaf_lent P b k k' l l' e ek el h =
    subst (λ (i : Rep). P (shapes.leaf (rep_view i) (column_form l'.column)) (added.leaf (rep_view i) l'.seen (column_view l'.column))) (sym ek)
    (subst (λ (i : LeafGrown). P (shapes.leaf (rep_view k) (column_form i.column)) (added.leaf (rep_view k) i.seen (column_view i.column))) (sym el)
    (subst (λ t. P (shapes.leaf (rep_view k) (column_form l.column)) t) (ap twig_view e ∙ twig-leaf k l) (subst (λ s. P s (twig_view b)) (ap shape_view e ∙ view-leaf k l) h)))

pub group_lent : (P : Shape → Twig → Type 0) (b : Branch) (k k' : Rep) (g g' : GroupGrown) (bs : Vec Branch Global) (is : List Branch) → b ≡ branches.Group k g bs → k' ≡ k → g' ≡ g → is ≡ bs.items → P (shape_view b) (twig_view b)
    → P (shapes.group (rep_view k') (shapes_view is)) (added.group (rep_view k') g'.seen (nulls g'.levels.items) (twigs_view is))
group_lent P b k k' g g' bs is e ek eg eb h =
    subst (λ (i : Rep). P (shapes.group (rep_view i) (shapes_view is)) (added.group (rep_view i) g'.seen (nulls g'.levels.items) (twigs_view is))) (sym ek)
    (subst (λ (i : GroupGrown). P (shapes.group (rep_view k) (shapes_view is)) (added.group (rep_view k) i.seen (nulls i.levels.items) (twigs_view is))) (sym eg)
    (subst (λ (i : List Branch). P (shapes.group (rep_view k) (shapes_view i)) (added.group (rep_view k) g.seen (nulls g.levels.items) (twigs_view i))) (sym eb)
    (subst (λ t. P (shapes.group (rep_view k) (shapes_view bs.items)) t) (ap twig_view e ∙ twig-group k g bs) (subst (λ s. P s (twig_view b)) (ap shape_view e ∙ view-group k g bs) h))))

-- ---- one that is left as it is, and one that takes over the rest

pub left_empty : (n : ℕ) (L own : List Triplet) → own ≡ [] → (ended_seen n L own ≡ n) × (ended_own n L own ≡ own)
left_empty n L own e = (ap (ended_seen n L) e, ap (ended_own n L) e ∙ sym e)

pub took_over : (n : ℕ) (L own : List Triplet) → 1 ≤ length own → (ended_seen n L own ≡ length L) × (ended_own n L own ≡ grown n own L)
took_over n L [] h = absurd (omega (arith, h))
took_over n L (t ∷ ts) h = (refl, refl)

pub group_twig : (b : Branch) (k k' : Rep) (g g' : GroupGrown) (bs : Vec Branch Global) (is : List Branch) → b ≡ branches.Group k g bs → k' ≡ k → g' ≡ g → is ≡ bs.items → added.group (rep_view k') g'.seen (nulls g'.levels.items) (twigs_view is) ≡ twig_view b
group_twig b k k' g g' bs is e ek eg eb = group_lent (λ s t. t ≡ twig_view b) b k k' g g' bs is e ek eg eb refl

pub group_shape : (b : Branch) (k k' : Rep) (g g' : GroupGrown) (bs : Vec Branch Global) (is : List Branch) → b ≡ branches.Group k g bs → k' ≡ k → g' ≡ g → is ≡ bs.items → shapes.group (rep_view k') (shapes_view is) ≡ shape_view b
group_shape b k k' g g' bs is e ek eg eb = group_lent (λ s t. s ≡ shape_view b) b k k' g g' bs is e ek eg eb refl

-- the group itself is at its end, and then what is inside it
pub group_ended : (k : Repetition) (n n' : ℕ) (L M own own' : List Triplet) (bs bs' : Twigs) → n' ≡ ended_seen n L own → own' ≡ ended_own n L own → M ≡ grown n own L → bs' ≡ ended_each M bs
    → added.group k n' own' bs' ≡ ended_one L (added.group k n own bs)
group_ended k n n' L M own own' bs bs' en eo em eb =
    ap₂ (λ i t. added.group k i t bs') en eo ∙ ap (λ t. added.group k (ended_seen n L own) (ended_own n L own) t) (eb ∙ ap (λ t. ended_each t bs) em)

pub leaf_ended : (k : Repetition) (n n' : ℕ) (L own own' : List Triplet) → n' ≡ ended_seen n L own → own' ≡ ended_own n L own → added.leaf k n' own' ≡ ended_one L (added.leaf k n own)
leaf_ended k n n' L own own' en eo = ap₂ (λ i t. added.leaf k i t) en eo

pub no_items : {A : Type 0} (xs : List A) → length xs ≡ 0 → xs ≡ []
no_items [] e = refl
no_items (x ∷ xs) e = absurd (omega (arith, e))

pub lent_rest : (n : ℕ) (ls ms : List Levels) (own : List Triplet) → own ≡ [] → ms ≡ drop n ls → nulls ms ≡ grown n own (nulls ls)
lent_rest n ls ms own eo em = ap nulls em ∙ sym (drop-map null_of n ls) ∙ ap (λ (t : List Triplet). t ++ drop n (nulls ls)) (sym eo)

pub whole_own : (n : ℕ) (own : List Triplet) (ls : List Levels) → n ≡ length ls → own ≡ grown n own (nulls ls)
whole_own n own ls e =
    sym (ap (λ (k : ℕ). grown k own (nulls ls)) (e ∙ sym (length-map ls null_of)) ∙ grown-all own (nulls ls))
