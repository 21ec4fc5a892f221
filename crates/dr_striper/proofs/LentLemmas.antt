-- Columns lent at the end.
use Rattle.std.proofs.Common.{◌≡◌, ◌<◌, ◌≤◌, ℕ, zero, suc, List, [], ◌∷◌, map, drop, get_or, length, refl, sym, ap₂, subst, arith}
use Rattle.dr_meaning.specs.Schema.{Repetition}
use Rattle.dr_meaning.specs.Path as path
use Rattle.dr_meaning.specs.Column.{Triplet}
use Rattle.dr_nested.specs.Views.{rep_view}
use Rattle.dr_nested.specs.PathView.{step_view}
use Rattle.dr_nested.specs.declared.path.Step.{Step}
use Rattle.dr_levels.specs.Views.{LeafForm}
use Rattle.dr_striper.specs.Added.{Twig, Twigs, twig_at, twig_column, column_in}
use Rattle.dr_striper.specs.declared.branch.Branch.{Branch}
use Rattle.dr_striper.specs.Shapes.{Shape, Shapes, shape_at, ShapeLeads, LeadsTo, AllTaken}
use Rattle.dr_striper.specs.Added.{grown}
use Rattle.dr_striper.specs.Added as added
use Rattle.dr_striper.specs.Added.{TwigLeads, Leads, TwigWithin, Within}
use Rattle.dr_nested.specs.PathView.{path_view}
use Rattle.dr_nested.specs.declared.path.Path.{Path}
use Rattle.dr_striper.specs.Ended.{ended_own, ended_seen, ended_one, ended_each}
use Rattle.dr_striper.specs.Striping.{leaf_form, leaves_of}
use Rattle.dr_striper.specs.Records.{AllLead, Grows}
use Rattle.dr_striper.proofs.AddedLemmas.{within-up, grown-length}
use Rattle.dr_striper.proofs.EndLemmas.{grown_ended, at-ended, ends_same_is}
use Rattle.dr_striper.specs.Lent.{TwigEnds, Ends, Lends, LendsOne, AllLend}
use Rattle.dr_striper.specs.Views.{shapes_view, twig_view, twigs_view}

pub twig_there : (i : ℕ) (now : List Branch) (x : Branch) → i < length now → twig_view (get_or now i x) ≡ twig_at i (twigs_view now)
twig_there i [] x l = absurd (omega (arith, l))
twig_there zero (b ∷ bs) x l = refl
twig_there (suc i) (b ∷ bs) x l = twig_there i bs x (omega (arith, l))

lead-place : (i : ℕ) (k : Repetition) (p : List path.Step) (f : LeafForm) (now : List Branch) → ShapeLeads k p f (LeadsTo p f) (shape_at i (shapes_view now)) → i < length now
lead-place i k p f [] h = absurd h
lead-place zero k p f (b ∷ bs) h = omega arith
lead-place (suc i) k p f (b ∷ bs) h = omega (arith, lead-place i k p f bs h)

pub lend_some : (steps : List Step) (f : LeafForm) (L : List Triplet) (ss : Shapes) (bs : Twigs) → Lends (map step_view steps) f L ss bs → 1 ≤ length steps
lend_some [] f L ss bs h = absurd h.0
lend_some (s ∷ steps) f L ss bs h = omega arith

pub lend_place : (steps : List Step) (d : Step) (f : LeafForm) (L : List Triplet) (now : List Branch) (bs : Twigs) → Lends (map step_view steps) f L (shapes_view now) bs → (get_or steps 0 d).place < length now
lend_place [] d f L now bs h = absurd h.0
lend_place (s ∷ steps) d f L now bs h = lead-place s.place (rep_view s.rep) (map step_view steps) f now h.0

pub lend_step : (steps rest : List Step) (d : Step) (f : LeafForm) (L : List Triplet) (ss : Shapes) (bs : Twigs) (sh : Shape) (b : Twig) → rest ≡ drop 1 steps → sh ≡ shape_at (get_or steps 0 d).place ss → b ≡ twig_at (get_or steps 0 d).place bs
    → Lends (map step_view steps) f L ss bs → LendsOne (rep_view (get_or steps 0 d).rep) (map step_view rest) f L sh b
lend_step [] rest d f L ss bs sh b e es eb h = absurd h.0
lend_step (s ∷ steps) rest d f L ss bs sh b e es eb h =
    subst (λ (r : List Step). LendsOne (rep_view s.rep) (map step_view r) f L sh b) (sym e)
    (subst (λ (t : Shape). LendsOne (rep_view s.rep) (map step_view steps) f L t b) (sym es)
    (subst (λ (t : Twig). LendsOne (rep_view s.rep) (map step_view steps) f L (shape_at s.place ss) t) (sym eb) h))

pub lead_step : (steps rest : List Step) (d : Step) (f : LeafForm) (ss : Shapes) (sh : Shape) → rest ≡ drop 1 steps → sh ≡ shape_at (get_or steps 0 d).place ss
    → LeadsTo (map step_view steps) f ss → ShapeLeads (rep_view (get_or steps 0 d).rep) (map step_view rest) f (LeadsTo (map step_view rest) f) sh
lead_step [] rest d f ss sh e es h = absurd h
lead_step (s ∷ steps) rest d f ss sh e es h =
    subst (λ (r : List Step). ShapeLeads (rep_view s.rep) (map step_view r) f (LeadsTo (map step_view r) f) sh) (sym e)
    (subst (λ (t : Shape). ShapeLeads (rep_view s.rep) (map step_view steps) f (LeadsTo (map step_view steps) f) t) (sym es) h)

pub column_step : (steps rest : List Step) (d : Step) (L : List Triplet) (bs : Twigs) (b : Twig) → 1 ≤ length steps → rest ≡ drop 1 steps → b ≡ twig_at (get_or steps 0 d).place bs
    → twig_column (column_in (map step_view rest)) L b ≡ column_in (map step_view steps) L bs
column_step [] rest d L bs b h e eb = absurd (omega (arith, h))
column_step (s ∷ steps) rest d L bs b h e eb = ap₂ (λ (r : List Step) (t : Twig). twig_column (column_in (map step_view r)) L t) e eb

pub lends_same : (p : List path.Step) (f : LeafForm) (L M : List Triplet) (ss : Shapes) (bs : Twigs) → M ≡ L → Lends p f L ss bs → Lends p f M ss bs
lends_same p f L M ss bs e h = subst (λ (t : List Triplet). Lends p f t ss bs) (sym e) h

pub lends_at : (i : ℕ) (fields : List Path) (x : Path) (L : List Triplet) (ss : Shapes) (bs : Twigs) → i < length fields → AllLend (leaves_of fields) L ss bs
    → Lends (path_view (get_or fields i x)).path (leaf_form (path_view (get_or fields i x))) L ss bs
lends_at i [] x L ss bs l h = absurd (omega (arith, l))
lends_at zero (m ∷ fields) x L ss bs l h = h.0
lends_at (suc i) (m ∷ fields) x L ss bs l h = lends_at i fields x L ss bs (omega (arith, l)) h.1

-- ---- after the end

seen-ended : (n : ℕ) (L own : List Triplet) → n ≤ length L → (ended_seen n L own ≤ length L) × (1 ≤ length (ended_own n L own) → ended_seen n L own ≡ length L)
seen-ended n L [] h = (h, λ z. absurd (omega (arith, z)))
seen-ended n L (t ∷ ts) h = (omega arith, λ z. refl)

twig-after : (k : Repetition) (p : List path.Step) → ((L : List Triplet) (bs : Twigs) → Leads p bs → Within p (length L) bs → Ends p L (ended_each L bs))
    → (L : List Triplet) (b : Twig) → TwigLeads k p (Leads p) b → TwigWithin (Within p) (length L) b → TwigEnds (Ends p) L (ended_one L b)
twig-after k p rest L added.nothing l w = absurd l
twig-after k p rest L (added.leaf j n own) l w = seen-ended n L own w
twig-after k p rest L (added.group j n own bs) l w = (
  seen-ended n L own w.0,
  subst (λ (t : List Triplet). Ends p t (ended_each (grown n own L) bs)) (sym (grown_ended n L own))
      (rest (grown n own L) bs l.1 (within-up p (length own) (length (grown n own L)) bs (grown-length n own L) w.1)),
)

pub after_end : (p : List path.Step) (L : List Triplet) (bs : Twigs) → Leads p bs → Within p (length L) bs → Ends p L (ended_each L bs)
after_end [] L bs l w = absurd l
after_end (s ∷ p) L bs l w = subst (TwigEnds (Ends p) L) (sym (at-ended s.place L bs)) (twig-after s.repetition p (after_end p) L (twig_at s.place bs) l w)

all-lend : (ls all : List path.Leaf) (L : List Triplet) (ss : Shapes) (bs : Twigs) → AllLead ls ss → Grows all L ss bs → AllLend ls L ss (ended_each L bs)
all-lend [] all L ss bs a g = tt
all-lend (m ∷ ls) all L ss bs a g =
    let t = g.2 m.path (leaf_form m) a.0 in
    ((a.0, after_end m.path L bs t.0.0 t.0.1, subst (AllTaken (leaf_form m)) (sym (ends_same_is m.path L bs t.0.0 t.0.1).0) t.1), all-lend ls all L ss bs a.1 g)

pub all_lend : (ls : List path.Leaf) (L : List Triplet) (ss ss' : Shapes) (bs bs' : Twigs) → Grows ls L ss bs → ss' ≡ ss → bs' ≡ ended_each L bs → AllLend ls L ss' bs'
all_lend ls L ss ss' bs bs' g es eb =
    subst (λ (t : Twigs). AllLend ls L ss' t) (sym eb) (subst (λ (s : Shapes). AllLend ls L s (ended_each L bs)) (sym es) (all-lend ls ls L ss bs g.1 g))
