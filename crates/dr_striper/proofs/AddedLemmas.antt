-- What a record adds to a tree.
use Rattle.std.proofs.Common.{◌≡◌, ◌≤◌, ℕ, zero, suc, ◌+◌, List, [], ◌∷◌, ◌++◌, length, drop, None, refl, sym, ap, ◌∙◌, subst, arith}
use Rattle.std.proofs.lemmas.List.{append_assoc, append-nil, length-append, drop-append-le}
use Rattle.std.proofs.Math.Seq.{drop-length}
use Rattle.dr_meaning.specs.Schema.{Repetition, repetition_count, definition_count}
use Rattle.dr_meaning.specs.Path.{Step}
use Rattle.dr_meaning.specs.Record.{Node, no_slots, slot, gap, Instances, no_instances, instance, Instance, atom, inner, instances_at}
use Rattle.dr_meaning.specs.Column.{Triplet, triplet, value_of, each_later, spread, instance_column}
use Rattle.dr_striper.specs.Added.{grown}
use Rattle.dr_striper.specs.Added.{Twig, nothing, leaf, group, Twigs, no_twigs, twig, twig_at, twig_column, column_in, TwigLeads, Leads, TwigWithin, Within, Grown, values_added, node_added, field_added, inside_added, later_added, NodeAdds}

grown-all : (own above : List Triplet) → grown (length above) own above ≡ own
grown-all own above = ap (λ (t : List Triplet). own ++ t) (drop-length above) ∙ append-nil own

length-snoc : (L : List Triplet) (t : Triplet) → length (L ++ t ∷ []) ≡ suc (length L)
length-snoc L t = omega (arith, length-append L (t ∷ []))

grown-behind : (n : ℕ) (own above more : List Triplet) → n ≤ length above → grown n own (above ++ more) ≡ grown n own above ++ more
grown-behind n own above more h = ap (λ (t : List Triplet). own ++ t) (drop-append-le n above more h) ∙ sym (append_assoc own (drop n above) more)

pub grown-length : (n : ℕ) (own above : List Triplet) → length own ≤ length (grown n own above)
grown-length n own above = omega (arith, length-append own (drop n above))

-- it has seen all that is above
all-seen : (L own : List Triplet) (t : Triplet) → grown (suc (length L)) own (L ++ t ∷ []) ≡ own
all-seen L own t = ap (λ (k : ℕ). grown k own (L ++ t ∷ [])) (sym (length-snoc L t)) ∙ grown-all own (L ++ t ∷ [])

twig-within : (p : List Step) (m k : ℕ) (b : Twig) → m ≤ k → TwigWithin (Within p) m b → TwigWithin (Within p) k b
twig-within p m k nothing e h = tt
twig-within p m k (leaf j n own) e h = omega (arith, e, h)
twig-within p m k (group j n own bs) e h = (omega (arith, e, h.0), h.1)

pub within-up : (p : List Step) (m k : ℕ) (bs : Twigs) → m ≤ k → Within p m bs → Within p k bs
within-up [] m k bs e h = tt
within-up (s ∷ p) m k bs e h = twig-within p m k (twig_at s.place bs) e h

twig-behind : (k : Repetition) (p : List Step) → ((above more : List Triplet) (bs : Twigs) → Leads p bs → Within p (length above) bs → column_in p (above ++ more) bs ≡ column_in p above bs ++ more)
    → (above more : List Triplet) (b : Twig) → TwigLeads k p (Leads p) b → TwigWithin (Within p) (length above) b → twig_column (column_in p) (above ++ more) b ≡ twig_column (column_in p) above b ++ more
twig-behind k p rest above more nothing l w = absurd l
twig-behind k p rest above more (leaf j n own) l w = grown-behind n own above more w
twig-behind k p rest above more (group j n own bs) l w =
    ap (λ (t : List Triplet). column_in p t bs) (grown-behind n own above more w.0)
    ∙ rest (grown n own above) more bs l.1 (within-up p (length own) (length (grown n own above)) bs (grown-length n own above) w.1)

column-behind : (p : List Step) (above more : List Triplet) (bs : Twigs) → Leads p bs → Within p (length above) bs → column_in p (above ++ more) bs ≡ column_in p above bs ++ more
column-behind [] above more bs l w = absurd l
column-behind (s ∷ p) above more bs l w = twig-behind s.repetition p (column-behind p) above more (twig_at s.place bs) l w

-- what the instances of a field add to its branch
abbrev pub FieldAdded : Repetition → List Step → ℕ → ℕ → ℕ → List Triplet → Twig → Instances → Twig → Type 0
FieldAdded k p level d r L b xs b' =
    (twig_column (column_in p) (L ++ triplet r d None ∷ []) b' ≡ twig_column (column_in p) L b
    ++ spread (instance_column p (level + repetition_count k) (d + definition_count k)) (level + repetition_count k) d r xs)
    × TwigLeads k p (Leads p) b' × TwigWithin (Within p) (suc (length L)) b'

unchanged : (k : Repetition) (p : List Step) (level d r : ℕ) (L : List Triplet) (b : Twig) → TwigLeads k p (Leads p) b → TwigWithin (Within p) (length L) b → FieldAdded k p level d r L b no_instances b
unchanged k p level d r L b l w = (twig-behind k p (column-behind p) L (triplet r d None ∷ []) b l w, l, twig-within p (length L) (suc (length L)) b (omega arith) w)

values-later : (level d : ℕ) (own : List Triplet) (xs : Instances) → values_added level d own xs ≡ own ++ each_later (instance_column [] level d) level xs
values-later level d own no_instances = sym (append-nil own)
values-later level d own (instance x xs) =
    values-later level d (own ++ triplet level d (value_of x) ∷ []) xs ∙ append_assoc own (triplet level d (value_of x) ∷ []) (each_later (instance_column [] level d) level xs)

leaf-adds : (k : Repetition) (level d r : ℕ) (L : List Triplet) (n : ℕ) (own : List Triplet) (x : Instance) (xs : Instances)
    → FieldAdded k [] level d r L (leaf k n own) (instance x xs) (field_added (instance x xs) level d r L (leaf k n own))
leaf-adds k level d r L n own x xs =
    let m : ℕ = level + repetition_count k in
    let e : ℕ = d + definition_count k in
    let front : List Triplet = grown n own L ++ triplet r e (value_of x) ∷ [] in (
      all-seen L (values_added m e front xs) (triplet r d None) ∙ values-later m e front xs
          ∙ append_assoc (grown n own L) (triplet r e (value_of x) ∷ []) (each_later (instance_column [] m e) m xs),
      (refl, refl),
      omega arith,
    )

mutual
  slot-adds : (n : Node) (i : ℕ) (k : Repetition) (p : List Step) (level d r : ℕ) (L : List Triplet) (bs : Twigs) → TwigLeads k p (Leads p) (twig_at i bs) → TwigWithin (Within p) (length L) (twig_at i bs)
      → FieldAdded k p level d r L (twig_at i bs) (instances_at i n) (twig_at i (node_added n level d r L bs))
  slot-adds no_slots i k p level d r L bs l w = unchanged k p level d r L (twig_at i bs) l w
  slot-adds (gap n) i k p level d r L no_twigs l w = absurd l
  slot-adds (gap n) zero k p level d r L (twig b bs) l w = unchanged k p level d r L b l w
  slot-adds (gap n) (suc i) k p level d r L (twig b bs) l w = slot-adds n i k p level d r L bs l w
  slot-adds (slot xs n) i k p level d r L no_twigs l w = absurd l
  slot-adds (slot xs n) zero k p level d r L (twig b bs) l w = field-adds xs k p level d r L b l w
  slot-adds (slot xs n) (suc i) k p level d r L (twig b bs) l w = slot-adds n i k p level d r L bs l w

  field-adds : (xs : Instances) (k : Repetition) (p : List Step) (level d r : ℕ) (L : List Triplet) (b : Twig) → TwigLeads k p (Leads p) b → TwigWithin (Within p) (length L) b
      → FieldAdded k p level d r L b xs (field_added xs level d r L b)
  field-adds no_instances k p level d r L b l w = unchanged k p level d r L b l w
  field-adds (instance x xs) k p level d r L nothing l w = absurd l
  field-adds (instance x xs) k [] level d r L (leaf j n own) l w =
      subst (λ (h : Repetition). FieldAdded h [] level d r L (leaf j n own) (instance x xs) (field_added (instance x xs) level d r L (leaf j n own))) l.0 (leaf-adds j level d r L n own x xs)
  field-adds (instance x xs) k (s ∷ p) level d r L (leaf j n own) l w = absurd (omega (arith, ap length l.1))
  field-adds (instance x xs) k p level d r L (group j n own bs) l w =
      let m : ℕ = level + repetition_count j in
      let e : ℕ = d + definition_count j in
      let before : List Triplet = grown n own L in
      let one = inside-adds x p m e r before bs l.1 (within-up p (length own) (length before) bs (grown-length n own L) w.1) in
      let more = later-adds xs p m e (before ++ triplet r e None ∷ []) (inside_added x m e r before bs) one.1
      (subst (λ (h : ℕ). Within p h (inside_added x m e r before bs)) (sym (length-snoc before (triplet r e None))) one.2) in
      let g : Grown = later_added xs m e (before ++ triplet r e None ∷ []) (inside_added x m e r before bs) in
      subst (λ (h : Repetition). FieldAdded h p level d r L (group j n own bs) (instance x xs) (field_added (instance x xs) level d r L (group j n own bs))) l.0 (
        ap (λ (t : List Triplet). column_in p t g.inside) (all-seen L g.own (triplet r d None)) ∙ more.0 ∙ ap (λ (t : List Triplet). t ++ each_later (instance_column p m e) m xs) one.0
            ∙ append_assoc (column_in p before bs) (instance_column p m e r x) (each_later (instance_column p m e) m xs),
        (refl, more.1),
        (omega arith, more.2),
      )

  pub inside-adds : (x : Instance) (p : List Step) (level d r : ℕ) (L : List Triplet) (bs : Twigs) → Leads p bs → Within p (length L) bs
      → (column_in p (L ++ triplet r d None ∷ []) (inside_added x level d r L bs) ≡ column_in p L bs ++ instance_column p level d r x)
      × Leads p (inside_added x level d r L bs) × Within p (suc (length L)) (inside_added x level d r L bs)
  inside-adds x [] level d r L bs l w = absurd l
  inside-adds (atom v) (s ∷ p) level d r L bs l w = (column-behind (s ∷ p) L (triplet r d None ∷ []) bs l w, l, within-up (s ∷ p) (length L) (suc (length L)) bs (omega arith) w)
  inside-adds (inner n) (s ∷ p) level d r L bs l w = slot-adds n s.place s.repetition p level d r L bs l w

  pub later-adds : (xs : Instances) (p : List Step) (level d : ℕ) (own : List Triplet) (bs : Twigs) → Leads p bs → Within p (length own) bs
      → (column_in p (later_added xs level d own bs).own (later_added xs level d own bs).inside ≡ column_in p own bs ++ each_later (instance_column p level d) level xs)
      × Leads p (later_added xs level d own bs).inside × Within p (length (later_added xs level d own bs).own) (later_added xs level d own bs).inside
  later-adds no_instances p level d own bs l w = (sym (append-nil (column_in p own bs)), l, w)
  later-adds (instance x xs) p level d own bs l w =
      let one = inside-adds x p level d level own bs l w in
      let more = later-adds xs p level d (own ++ triplet level d None ∷ []) (inside_added x level d level own bs) one.1
      (subst (λ (h : ℕ). Within p h (inside_added x level d level own bs)) (sym (length-snoc own (triplet level d None))) one.2) in (
        more.0 ∙ ap (λ (t : List Triplet). t ++ each_later (instance_column p level d) level xs) one.0
            ∙ append_assoc (column_in p own bs) (instance_column p level d level x) (each_later (instance_column p level d) level xs),
        more.1,
        more.2,
      )

pub node_adds : NodeAdds
node_adds n p level d r L bs l w = inside-adds (inner n) p level d r L bs l w
