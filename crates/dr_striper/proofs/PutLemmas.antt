-- What putting a path into a tree does to the leaves in it.
use Rattle.std.proofs.Common.{inl, inr, ◌⊎◌, ◌≡◌, ◌≤◌, ℕ, zero, suc, List, [], ◌∷◌, length, refl, sym, ap, ap₂, ◌∙◌, subst, arith}
use Rattle.std.specs.Prelude.{replicate, true, false}
use Rattle.std.specs.List.{list_all}
use Rattle.std.proofs.Common.{true≢false}
use Rattle.std.proofs.lemmas.Bool.{and_parts}
use Rattle.std.proofs.lemmas.List.{length-map}
use Rattle.dr_meaning.specs.Schema as schema
use Rattle.dr_meaning.specs.Schema.{Repetition, repetition_count, definition_count}
use Rattle.dr_meaning.specs.Column.{Triplet, record_column}
use Rattle.dr_meaning.specs.Record.{Node}
use Rattle.dr_meaning.proofs.Blocks.{same_repetition-true}
use Rattle.dr_striper.specs.Stripers.{fits_leaf}
use Rattle.dr_striper.proofs.FoundLemmas.{same_repetition-itself}
use Rattle.dr_nested.specs.PathView.{step_view, path_view, paths_view}
use Rattle.dr_nested.specs.declared.path.Path.{Path}
use Rattle.dr_striper.specs.Added.{Twig, Twigs, twig_at, twig_column, column_in, TwigLeads, Leads, TwigWithin, Within}
use Rattle.dr_striper.specs.Striping.{leaf_form, leaves_of}
use Rattle.dr_striper.specs.Records.{columns_in, IsAmong, AllLead, Grows}
use Rattle.dr_meaning.specs.Path.{Step, Leaf, max_definition, same_repetition}
use Rattle.dr_levels.specs.Views.{LeafForm}
use Rattle.dr_striper.specs.Shapes.{Shape, Shapes, nothing, leaf, group, no_shapes, shape, shape_at, ShapeLeads, LeadsTo, Lives, AllLive, AllTaken, max_repetition}
use Rattle.dr_striper.specs.Made.{change_at, put_one, put, put_each, fresh_one, fresh_each, OfOneTree}

-- ---- places

pub changed_here : (i : ℕ) (F : Shape → Shape) (ss : Shapes) → shape_at i (change_at i F ss) ≡ F (shape_at i ss)
changed_here zero F no_shapes = refl
changed_here zero F (shape s ss) = refl
changed_here (suc i) F no_shapes = changed_here i F no_shapes
changed_here (suc i) F (shape s ss) = changed_here i F ss

one-more : (j i : ℕ) (s t : Shape) → (j ≡ i) ⊎ (s ≡ t) → (suc j ≡ suc i) ⊎ (s ≡ t)
one-more j i s t (inl e) = inl (ap suc e)
one-more j i s t (inr e) = inr e

-- another place, or this one
pub changed_there : (j i : ℕ) (F : Shape → Shape) (ss : Shapes) → (j ≡ i) ⊎ (shape_at j (change_at i F ss) ≡ shape_at j ss)
changed_there zero zero F ss = inl refl
changed_there zero (suc i) F no_shapes = inr refl
changed_there zero (suc i) F (shape s ss) = inr refl
changed_there (suc j) zero F no_shapes = inr refl
changed_there (suc j) zero F (shape s ss) = inr refl
changed_there (suc j) (suc i) F no_shapes = one-more j i (shape_at j (change_at i F no_shapes)) nothing (changed_there j i F no_shapes)
changed_there (suc j) (suc i) F (shape s ss) = one-more j i (shape_at j (change_at i F ss)) (shape_at j ss) (changed_there j i F ss)

pub lives_changed : (i : ℕ) (F : Shape → Shape) (ss : Shapes) → AllLive ss → Lives (F (shape_at i ss)) → AllLive (change_at i F ss)
lives_changed zero F no_shapes a l = (l, tt)
lives_changed zero F (shape s ss) a l = (l, a.1)
lives_changed (suc i) F no_shapes a l = (tt, lives_changed i F no_shapes tt l)
lives_changed (suc i) F (shape s ss) a l = (a.0, lives_changed i F ss a.1 l)

pub lives_here : (i : ℕ) (ss : Shapes) → AllLive ss → Lives (shape_at i ss)
lives_here i no_shapes a = tt
lives_here zero (shape s ss) a = a.0
lives_here (suc i) (shape s ss) a = lives_here i ss a.1

-- ---- one path

-- what leads in one leads in the other
abbrev Sub : Shapes → Shapes → Type 0
Sub ss S = (q : List Step) (g : LeafForm) → LeadsTo q g ss → LeadsTo q g S

abbrev PutIn : List Step → LeafForm → Shapes → Shapes → Type 0
PutIn p f ss ss' =
    LeadsTo p f ss' × Sub ss ss'
    × ((q : List Step) (g : LeafForm) → LeadsTo q g ss' → LeadsTo q g ss ⊎ ((q ≡ p) × (g ≡ f)))
    × AllLive ss'

abbrev SubOne : Shape → Shape → Type 0
SubOne x y = (j : Repetition) (q : List Step) (g : LeafForm) → ShapeLeads j q g (LeadsTo q g) x → ShapeLeads j q g (LeadsTo q g) y

abbrev PutOne : Repetition → List Step → LeafForm → Shape → Shape → Type 0
PutOne k p f x y =
    ShapeLeads k p f (LeadsTo p f) y × SubOne x y
    × ((j : Repetition) (q : List Step) (g : LeafForm) → ShapeLeads j q g (LeadsTo q g) y → ShapeLeads j q g (LeadsTo q g) x ⊎ ((j ≡ k) × ((q ≡ p) × (g ≡ f))))
    × Lives y

none-leads : (q : List Step) (g : LeafForm) → LeadsTo q g no_shapes → ⊥
none-leads [] g h = h
none-leads (t ∷ q) g h = h

no-end : (s : Step) (p : List Step) → s ∷ p ≡ [] → ⊥
no-end s p e = absurd (omega (arith, ap length e))

only-group : (k j : Repetition) (p : List Step) (f : LeafForm) (ss : Shapes) (q : List Step) (g : LeafForm) → k ≡ j → LeadsTo q g ss ⊎ ((q ≡ p) × (g ≡ f))
    → ((k ≡ j) × LeadsTo q g ss) ⊎ ((j ≡ k) × ((q ≡ p) × (g ≡ f)))
only-group k j p f ss q g e (inl z) = inl (e, z)
only-group k j p f ss q g e (inr z) = inr (sym e, z)

only-fresh : (k j : Repetition) (p : List Step) (f : LeafForm) (q : List Step) (g : LeafForm) → k ≡ j → LeadsTo q g no_shapes ⊎ ((q ≡ p) × (g ≡ f))
    → ⊥ ⊎ ((j ≡ k) × ((q ≡ p) × (g ≡ f)))
only-fresh k j p f q g e (inl z) = absurd (none-leads q g z)
only-fresh k j p f q g e (inr z) = inr (sym e, z)

only-moved : (j i k : Repetition) (p : List Step) (f : LeafForm) (q : List Step) (g : LeafForm) (A : Type 0) → i ≡ k → A ⊎ ((j ≡ i) × ((q ≡ p) × (g ≡ f))) → A ⊎ ((j ≡ k) × ((q ≡ p) × (g ≡ f)))
only-moved j i k p f q g A e (inl z) = inl z
only-moved j i k p f q g A e (inr z) = inr (z.0 ∙ e, z.1)

put-one : (k : Repetition) (p : List Step) (f : LeafForm) → ((ss S : Shapes) → AllLive ss → Sub ss S → LeadsTo p f S → PutIn p f ss (put p f ss))
    → (x X : Shape) → Lives x → SubOne x X → ShapeLeads k p f (LeadsTo p f) X → PutOne k p f x (put_one k p f (put p f) x)
put-one k p f rest x nothing lives sub l = absurd l
put-one k [] f rest x (group J SS) lives sub l = absurd l.1
put-one k [] f rest nothing (leaf J h) lives sub l =
    ((refl, refl, refl), (λ j q g z. absurd z), (λ j q g z. inr (sym z.0, (z.1, sym z.2))), tt)
put-one k [] f rest (leaf i e) (leaf J h) lives sub l =
    let s = sub i [] e (refl, refl, refl) in
    ((sym s.0 ∙ l.0, refl, sym s.2 ∙ l.2), (λ j q g z. z), (λ j q g z. inl z), tt)
put-one k [] f rest (group i ss) (leaf J h) lives sub l =
    absurd (true≢false (sym (lives.0 false (λ q g w. absurd (subst (λ r. LeadsTo r g ss) (sub i q g (refl, w)).1 w)))))
put-one k (s ∷ p) f rest x (leaf J h) lives sub l = absurd (no-end s p l.1)
put-one k (s ∷ p) f rest nothing (group J SS) lives sub l =
    let r = rest no_shapes SS tt (λ q g z. absurd (none-leads q g z)) l.1 in
    ((refl, r.0), (λ j q g z. absurd z), (λ j q g z. only-fresh k j (s ∷ p) f q g z.0 (r.2 q g z.1)), ((λ b z. z (s ∷ p) f r.0), r.3))
put-one k (s ∷ p) f rest (leaf i e) (group J SS) lives sub l = absurd (sub i [] e (refl, refl, refl)).1
put-one k (s ∷ p) f rest (group i ss) (group J SS) lives sub l =
    let ik : i ≡ k = same_repetition-true i k (lives.0 (same_repetition i k) (λ q g w. ap (same_repetition i) (sym (sym (sub i q g (refl, w)).0 ∙ l.0)) ∙ same_repetition-itself i)) in
    let r = rest ss SS lives.1 (λ q g z. (sub i q g (refl, z)).1) l.1 in (
      (ik, r.0),
      (λ j q g z. (z.0, r.1 q g z.1)),
      (λ j q g z. only-moved j i k (s ∷ p) f q g ((i ≡ j) × LeadsTo q g ss) ik (only-group i j (s ∷ p) f ss q g z.0 (r.2 q g z.1))),
      ((λ b z. lives.0 b (λ q g w. z q g (r.1 q g w))), r.3),
    )

step-same : (s t : Step) → t.place ≡ s.place → t.repetition ≡ s.repetition → t ≡ s
step-same s t e h = ap₂ (λ (a : ℕ) (b : Repetition). record { place = a; repetition = b }) e h

keeps-at : (t : Step) (q : List Step) (g : LeafForm) (k : Repetition) (p : List Step) (f : LeafForm) (i : ℕ) (F : Shape → Shape) (ss : Shapes) → PutOne k p f (shape_at i ss) (F (shape_at i ss))
    → (t.place ≡ i) ⊎ (shape_at t.place (change_at i F ss) ≡ shape_at t.place ss)
    → LeadsTo (t ∷ q) g ss → LeadsTo (t ∷ q) g (change_at i F ss)
keeps-at t q g k p f i F ss r (inl e) h =
    subst (λ (n : ℕ). ShapeLeads t.repetition q g (LeadsTo q g) (shape_at n (change_at i F ss))) (sym e)
    (subst (ShapeLeads t.repetition q g (LeadsTo q g)) (sym (changed_here i F ss))
    (r.1 t.repetition q g (subst (λ (n : ℕ). ShapeLeads t.repetition q g (LeadsTo q g) (shape_at n ss)) e h)))
keeps-at t q g k p f i F ss r (inr e) h = subst (ShapeLeads t.repetition q g (LeadsTo q g)) (sym e) h

only-here : (t s : Step) (q p : List Step) (g f : LeafForm) (ss : Shapes) → t.place ≡ s.place
    → ShapeLeads t.repetition q g (LeadsTo q g) (shape_at s.place ss) ⊎ ((t.repetition ≡ s.repetition) × ((q ≡ p) × (g ≡ f)))
    → LeadsTo (t ∷ q) g ss ⊎ ((t ∷ q ≡ s ∷ p) × (g ≡ f))
only-here t s q p g f ss e (inl z) = inl (subst (λ (n : ℕ). ShapeLeads t.repetition q g (LeadsTo q g) (shape_at n ss)) (sym e) z)
only-here t s q p g f ss e (inr z) = inr (ap₂ (λ (a : Step) (b : List Step). a ∷ b) (step-same s t e z.0) z.1.0, z.1.1)

only-at : (t s : Step) (q p : List Step) (g f : LeafForm) (F : Shape → Shape) (ss : Shapes) → PutOne s.repetition p f (shape_at s.place ss) (F (shape_at s.place ss))
    → (t.place ≡ s.place) ⊎ (shape_at t.place (change_at s.place F ss) ≡ shape_at t.place ss)
    → LeadsTo (t ∷ q) g (change_at s.place F ss) → LeadsTo (t ∷ q) g ss ⊎ ((t ∷ q ≡ s ∷ p) × (g ≡ f))
only-at t s q p g f F ss r (inl e) h =
    only-here t s q p g f ss e (r.2 t.repetition q g
    (subst (ShapeLeads t.repetition q g (LeadsTo q g)) (changed_here s.place F ss)
    (subst (λ (n : ℕ). ShapeLeads t.repetition q g (LeadsTo q g) (shape_at n (change_at s.place F ss))) e h)))
only-at t s q p g f F ss r (inr e) h = inl (subst (ShapeLeads t.repetition q g (LeadsTo q g)) e h)

keeps-in : (k : Repetition) (p : List Step) (f : LeafForm) (i : ℕ) (F : Shape → Shape) (ss : Shapes) → PutOne k p f (shape_at i ss) (F (shape_at i ss)) → Sub ss (change_at i F ss)
keeps-in k p f i F ss r [] g h = absurd h
keeps-in k p f i F ss r (t ∷ q) g h = keeps-at t q g k p f i F ss r (changed_there t.place i F ss) h

only-in : (s : Step) (p : List Step) (f : LeafForm) (F : Shape → Shape) (ss : Shapes) → PutOne s.repetition p f (shape_at s.place ss) (F (shape_at s.place ss))
    → (q : List Step) (g : LeafForm) → LeadsTo q g (change_at s.place F ss) → LeadsTo q g ss ⊎ ((q ≡ s ∷ p) × (g ≡ f))
only-in s p f F ss r [] g h = absurd h
only-in s p f F ss r (t ∷ q) g h = only-at t s q p g f F ss r (changed_there t.place s.place F ss) h

pub put_in : (p : List Step) (f : LeafForm) (ss S : Shapes) → AllLive ss → Sub ss S → LeadsTo p f S → PutIn p f ss (put p f ss)
put_in [] f ss S a sub l = absurd l
put_in (s ∷ p) f ss S a sub l =
    let F : (Shape → Shape) = put_one s.repetition p f (put p f) in
    let r : PutOne s.repetition p f (shape_at s.place ss) (F (shape_at s.place ss)) =
    put-one s.repetition p f (put_in p f) (shape_at s.place ss) (shape_at s.place S) (lives_here s.place ss a) (λ j q g z. sub (record { place = s.place; repetition = j } ∷ q) g z) l in (
      subst (ShapeLeads s.repetition p f (LeadsTo p f)) (sym (changed_here s.place F ss)) r.0,
      keeps-in s.repetition p f s.place F ss r,
      only-in s p f F ss r,
      lives_changed s.place F ss a r.3,
    )

-- ---- paths one after another

abbrev PutAll : List Leaf → Shapes → Shapes → Shapes → Type 0
PutAll ls S ss ss' =
    AllLive ss' × Sub ss' S × Sub ss ss' × AllLead ls ss'
    × ((q : List Step) (g : LeafForm) → LeadsTo q g ss' → LeadsTo q g ss ⊎ IsAmong q g ls)

still-sub : (q p : List Step) (g f : LeafForm) (ss S : Shapes) → Sub ss S → LeadsTo p f S → LeadsTo q g ss ⊎ ((q ≡ p) × (g ≡ f)) → LeadsTo q g S
still-sub q p g f ss S s l (inl z) = s q g z
still-sub q p g f ss S s l (inr z) = subst (λ (r : List Step). LeadsTo r g S) (sym z.0) (subst (λ (h : LeafForm). LeadsTo p h S) (sym z.1) l)

among-first : (q : List Step) (g : LeafForm) (m : Leaf) (ls : List Leaf) (ss : Shapes) → LeadsTo q g ss ⊎ ((q ≡ m.path) × (g ≡ leaf_form m)) → LeadsTo q g ss ⊎ IsAmong q g (m ∷ ls)
among-first q g m ls ss (inl z) = inl z
among-first q g m ls ss (inr z) = inr (inl (sym z.0, sym z.1))

among-more : (q : List Step) (g : LeafForm) (m : Leaf) (ls : List Leaf) (ss ss' : Shapes) → (LeadsTo q g ss' → LeadsTo q g ss ⊎ ((q ≡ m.path) × (g ≡ leaf_form m)))
    → LeadsTo q g ss' ⊎ IsAmong q g ls → LeadsTo q g ss ⊎ IsAmong q g (m ∷ ls)
among-more q g m ls ss ss' f (inl z) = among-first q g m ls ss (f z)
among-more q g m ls ss ss' f (inr z) = inr (inr z)

put-all : (ls : List Leaf) (ss S : Shapes) → AllLive ss → Sub ss S → AllLead ls S → PutAll ls S ss (put_each ls ss)
put-all [] ss S a s l = (a, s, (λ q g h. h), tt, (λ q g h. inl h))
put-all (m ∷ ls) ss S a s l =
    let r : PutIn m.path (leaf_form m) ss (put m.path (leaf_form m) ss) = put_in m.path (leaf_form m) ss S a s l.0 in
    let t : PutAll ls S (put m.path (leaf_form m) ss) (put_each ls (put m.path (leaf_form m) ss)) =
    put-all ls (put m.path (leaf_form m) ss) S r.3 (λ q g h. still-sub q m.path g (leaf_form m) ss S s l.0 (r.2 q g h)) l.1 in
    (t.0, t.1, (λ q g h. t.2 q g (r.1 q g h)), (t.2 m.path (leaf_form m) r.0, t.3), (λ q g h. among-more q g m ls ss (put m.path (leaf_form m) ss) (r.2 q g) (t.4 q g h)))

-- ---- nothing in it yet

at-fresh : (i : ℕ) (ss : Shapes) → twig_at i (fresh_each ss) ≡ fresh_one (shape_at i ss)
at-fresh i no_shapes = refl
at-fresh zero (shape s ss) = refl
at-fresh (suc i) (shape s ss) = at-fresh i ss

abbrev FreshOne : Repetition → List Step → ℕ → Twig → Type 0
FreshOne k p m b = TwigLeads k p (Leads p) b × TwigWithin (Within p) m b × (twig_column (column_in p) [] b ≡ [])

abbrev FreshIn : List Step → ℕ → Twigs → Type 0
FreshIn p m bs = Leads p bs × Within p m bs × (column_in p [] bs ≡ [])

fresh-one : (k : Repetition) (p : List Step) (f : LeafForm) (m : ℕ) → ((ss : Shapes) → LeadsTo p f ss → FreshIn p 0 (fresh_each ss)) → (x : Shape) → ShapeLeads k p f (LeadsTo p f) x → FreshOne k p m (fresh_one x)
fresh-one k p f m rest nothing l = absurd l
fresh-one k p f m rest (leaf j g) l = ((l.0, l.1), omega arith, refl)
fresh-one k p f m rest (group j ss) l =
    let r = rest ss l.1 in
    ((l.0, r.0), (omega arith, r.1), r.2)

pub fresh_in : (p : List Step) (f : LeafForm) (m : ℕ) (ss : Shapes) → LeadsTo p f ss → FreshIn p m (fresh_each ss)
fresh_in [] f m ss l = absurd l
fresh_in (s ∷ p) f m ss l =
    subst (FreshOne s.repetition p m) (sym (at-fresh s.place ss)) (fresh-one s.repetition p f m (fresh_in p f 0) (shape_at s.place ss) l)

-- ---- levels

count-rep : (k : Repetition) → repetition_count k ≤ 1
count-rep schema.required = omega arith
count-rep schema.optional = omega arith
count-rep schema.repeated = omega arith

count-def : (k : Repetition) → definition_count k ≤ 1
count-def schema.required = omega arith
count-def schema.optional = omega arith
count-def schema.repeated = omega arith

rep-bound : (p : List Step) → max_repetition p ≤ length p
rep-bound [] = omega arith
rep-bound (s ∷ p) = omega (arith, count-rep s.repetition, rep-bound p)

def-bound : (p : List Step) → max_definition p ≤ length p
def-bound [] = omega arith
def-bound (s ∷ p) = omega (arith, count-def s.repetition, def-bound p)

short-bounds : (p : List Step) → length p ≤ 32 → (max_repetition p ≤ 255) × (max_definition p ≤ 255)
short-bounds p h = (omega (arith, h, rep-bound p), omega (arith, h, def-bound p))

among-short : (p : List Step) (f : LeafForm) (fields : List Path) → IsAmong p f (leaves_of fields) → length p ≤ 32
among-short p f [] a = absurd a
among-short p f (m ∷ fields) (inl z) = subst (λ (q : List Step). length q ≤ 32) z.0 (omega (arith, m.within, length-map m.steps.items step_view))
among-short p f (m ∷ fields) (inr z) = among-short p f fields z

-- each path of the tree takes what a record gives
among-fits : (p : List Step) (f : LeafForm) (n : Node) (ls : List Leaf) → IsAmong p f ls → list_all (fits_leaf n) ls ≡ true → AllTaken f (record_column p n)
among-fits p f n [] a h = absurd a
among-fits p f n (l ∷ ls) (inl e) h =
    subst (λ g. AllTaken g (record_column p n)) e.1 (subst (λ q. AllTaken (leaf_form l) (record_column q n)) e.0 (and_parts _ _ h).0)
among-fits p f n (l ∷ ls) (inr a) h = among-fits p f n ls a (and_parts _ _ h).1

-- ---- a tree that is made grows

sure : (A : Type 0) (q : List Step) (g : LeafForm) → LeadsTo q g no_shapes ⊎ A → A
sure A q g (inl z) = absurd (none-leads q g z)
sure A q g (inr z) = z

made-grows : (fields : List Path) → OfOneTree (leaves_of fields) → Grows (leaves_of fields) [] (put_each (leaves_of fields) no_shapes) (fresh_each (put_each (leaves_of fields) no_shapes))
made-grows fields tree =
    let ss : Shapes = put_each (leaves_of fields) no_shapes in
    let t : PutAll (leaves_of fields) tree.0 no_shapes ss = put-all (leaves_of fields) no_shapes tree.0 tt (λ q g z. absurd (none-leads q g z)) tree.1 in (
      t.0,
      t.3,
      λ p f l.
          let r = fresh_in p f 0 ss l in
          let a : IsAmong p f (leaves_of fields) = sure (IsAmong p f (leaves_of fields)) p f (t.4 p f l) in
          ((r.0, r.1), subst (AllTaken f) (sym r.2) refl, short-bounds p (among-short p f fields a), λ n h. among-fits p f n (leaves_of fields) a h),
    )

pub made_grows : (fields : List Path) (ss : Shapes) (bs : Twigs) → OfOneTree (leaves_of fields) → ss ≡ put_each (leaves_of fields) no_shapes → bs ≡ fresh_each ss → Grows (leaves_of fields) [] ss bs
made_grows fields ss bs tree e f =
    subst (λ t. Grows (leaves_of fields) [] ss t) (sym f)
    (subst (λ s. Grows (leaves_of fields) [] s (fresh_each s)) (sym e) (made-grows fields tree))

pub made_empty : (fields : List Path) (ss : Shapes) (bs : Twigs) → AllLead (leaves_of fields) ss → bs ≡ fresh_each ss → columns_in (paths_view fields) [] bs ≡ replicate (length fields) []
made_empty [] ss bs a e = refl
made_empty (m ∷ fields) ss bs a e =
    ap₂ (λ (c : List Triplet) (cs : List (List Triplet)). c ∷ cs)
    (ap (column_in (path_view m).path []) e ∙ (fresh_in (path_view m).path (leaf_form (path_view m)) 0 ss a.0).2)
    (made_empty fields ss bs a.1 e)
