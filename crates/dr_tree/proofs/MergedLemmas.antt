-- What is merged of the partials that were added: groups in any order, and what the tree gathers.
use Rattle.std.specs.Prelude.{◌≡◌, ◌≤◌, ℕ, ◌+◌, List, [], ◌∷◌, ◌++◌, map, Bool, true, false, ◌&&◌, Option, Some, None}
use Rattle.std.specs.List.{fold, list_all}
use Rattle.std.proofs.Common.{refl, sym, ap, ap₂, ◌∙◌, subst, arith, true≢false}
use Rattle.std.proofs.lemmas.Bool.{and_parts}
use Rattle.dr_meaning.specs.Schema.{Fields}
use Rattle.dr_meaning.specs.Query.{Query, Selection, objects, groups, Object}
use Rattle.dr_partials.specs.Partials.{Group, Partial, lines, grouped, merge, empty_partial}
use Rattle.dr_partials.specs.PartialTypes.{is_partial, is_of_selection}
use Rattle.dr_partials.specs.PartialBounds.{PartialCanBeOf}
use Rattle.dr_partials.specs.TreeLaws.{AreAllPartials}
use Rattle.dr_partials.specs.Trees.{Tree, leaf_server, intermediate_server, Trees, no_trees, next_tree, tablets_of, tablets_of_all, gathered, gathered_behind}
use Rattle.dr_partials.proofs.PartialTypeLemmas.{merge_is_associative, merge_is_commutative, empty_merges_to_same, empty_is_partial, merged_is_partial}
use Rattle.dr_partials.proofs.TreeLemmas.{trees_gather_alike}
use Rattle.dr_tree.specs.Places.{Place, is_free_for, has_free, fill, added, merged, piece_or_empty, pieces_at}
use Rattle.dr_tree.specs.Together.{CanBeTogether}
use Rattle.dr_tree.proofs.PlaceLemmas.{fill_here, fill_there, by_first, free_is}

-- ---- the kinds of partials

-- no query has lines and groups
pub kinds_differ : (fs : Fields) (q : Query) (os : List Object) (gs : List Group) → is_partial fs q (lines os) ≡ true → is_partial fs q (grouped gs) ≡ true → ⊥
unfolding is_partial
kinds_differ fs q os gs h k = of_selection q.selection h k
  where
    of_selection : (s : Selection) → is_of_selection fs s (lines os) ≡ true → is_of_selection fs s (grouped gs) ≡ true → ⊥
    of_selection (objects items) h k = true≢false (sym k)
    of_selection (groups keys items) h k = true≢false (sym h)

-- groups commute with any partial of their query
pub commute : (fs : Fields) (q : Query) (gs : List Group) (p : Partial) → is_partial fs q (grouped gs) ≡ true → is_partial fs q p ≡ true → merge (grouped gs) p ≡ merge p (grouped gs)
commute fs q gs (grouped hs) h k = merge_is_commutative fs q gs hs h k
commute fs q gs (lines os) h k = absurd (kinds_differ fs q os gs k h)

-- ---- one more is added

added_first : (t : ℕ) (r : Partial) (p : Place) (ps : List Place) → is_free_for t p ≡ true → added (fill t r (p ∷ ps)) ≡ r ∷ added (p ∷ ps)
added_first t r p ps e = ap added (fill_here t r p ps e) ∙ ap (λ (o : Option Partial). r ∷ added (record { tablet = p.tablet; piece = o } ∷ ps)) (sym (free_is t p e).1)

-- ---- what is merged one after another

module _ (fs : Fields) (q : Query) where
  -- each of them is a partial of the query
  abbrev pub AllPartials : List Partial → Type 0
  AllPartials xs = list_all (is_partial fs q) xs ≡ true

  pub folded_is_partial : (p : Partial) (xs : List Partial) → is_partial fs q p ≡ true → AllPartials xs → is_partial fs q (fold merge p xs) ≡ true
  folded_is_partial p [] h k = h
  folded_is_partial p (x ∷ xs) h k = let a = and_parts _ _ k in folded_is_partial (merge p x) xs (merged_is_partial fs q p x h a.0) a.1

  pub merged_is : (ps : List Place) → AllPartials (added ps) → is_partial fs q (merged q ps) ≡ true
  merged_is ps h = folded_is_partial (empty_partial q) (added ps) (empty_is_partial fs q) h

  -- groups may come first or last
  slide : (p : Partial) (gs : List Group) (xs : List Partial) → is_partial fs q p ≡ true → is_partial fs q (grouped gs) ≡ true → AllPartials xs
      → fold merge (merge p (grouped gs)) xs ≡ merge (fold merge p xs) (grouped gs)
  slide p gs [] h k l = refl
  slide p gs (x ∷ xs) h k l =
      let a = and_parts _ _ l in
      let swapped : merge (merge p (grouped gs)) x ≡ merge (merge p x) (grouped gs) =
      merge_is_associative fs q p (grouped gs) x h k a.0 ∙ (ap (merge p) (commute fs q gs x k a.0) ∙ sym (merge_is_associative fs q p x (grouped gs) h a.0 k)) in
      ap (λ (r : Partial). fold merge r xs) swapped ∙ slide (merge p x) gs xs (merged_is_partial fs q p x h a.0) k a.1

  -- the partials of a query stay that
  pub fill_is_of : (t : ℕ) (r : Partial) (ps : List Place) → is_partial fs q r ≡ true → AllPartials (added ps) → AllPartials (added (fill t r ps))
  fill_is_of t r [] h k = refl
  fill_is_of t r (p ∷ ps) h k = of_bool (is_free_for t p) refl (λ l. fill_is_of t r ps h l)
    where
      behind : (o : Option Partial) → (AllPartials (added ps) → AllPartials (added (fill t r ps))) → AllPartials (added (record { tablet = p.tablet; piece = o } ∷ ps))
          → AllPartials (added (record { tablet = p.tablet; piece = o } ∷ fill t r ps))
      behind None rest l = rest l
      behind (Some x) rest l = let a = and_parts _ _ l in ap₂ (λ x y. x && y) a.0 (rest a.1)

      of_bool : (b : Bool) → is_free_for t p ≡ b → (AllPartials (added ps) → AllPartials (added (fill t r ps))) → AllPartials (added (fill t r (p ∷ ps)))
      of_bool true e rest = subst AllPartials (sym (added_first t r p ps e)) (ap₂ (λ x y. x && y) h k)
      of_bool false e rest = subst (λ qs. AllPartials (added qs)) (sym (fill_there t r p ps e)) (behind p.piece rest k)

  folded_fill : (t : ℕ) (gs : List Group) (p : Partial) (ps : List Place) → is_partial fs q p ≡ true → is_partial fs q (grouped gs) ≡ true → AllPartials (added ps) → has_free t ps ≡ true
      → fold merge p (added (fill t (grouped gs) ps)) ≡ merge (fold merge p (added ps)) (grouped gs)
  folded_fill t gs p [] h k l f = absurd (true≢false (sym f))
  folded_fill t gs p (o ∷ ps) h k l f = by_first t o ps f
      (λ e. ap (fold merge p) (added_first t (grouped gs) o ps e) ∙ slide p gs (added (o ∷ ps)) h k l)
      (λ e g. ap (λ qs. fold merge p (added qs)) (fill_there t (grouped gs) o ps e) ∙ behind o.piece l (λ r i m. folded_fill t gs r ps i k m g))
    where
      behind : (x : Option Partial) → AllPartials (added (record { tablet = o.tablet; piece = x } ∷ ps))
          → ((r : Partial) → is_partial fs q r ≡ true → AllPartials (added ps) → fold merge r (added (fill t (grouped gs) ps)) ≡ merge (fold merge r (added ps)) (grouped gs))
          → fold merge p (added (record { tablet = o.tablet; piece = x } ∷ fill t (grouped gs) ps)) ≡ merge (fold merge p (added (record { tablet = o.tablet; piece = x } ∷ ps))) (grouped gs)
      behind None m rest = rest p h m
      behind (Some x) m rest = let a = and_parts _ _ m in rest (merge p x) (merged_is_partial fs q p x h a.0) a.1

  -- groups that are added are merged with all that were added before
  pub merged_fill : (t : ℕ) (gs : List Group) (ps : List Place) → is_partial fs q (grouped gs) ≡ true → AllPartials (added ps) → has_free t ps ≡ true
      → merged q (fill t (grouped gs) ps) ≡ merge (merged q ps) (grouped gs)
  merged_fill t gs ps k l f = folded_fill t gs (empty_partial q) ps (empty_is_partial fs q) k l f

-- ---- how many values they can be of

-- a partial and those beside which it was added, of what all can be of
abbrev Apart : ℕ → Partial → List Partial → Type 0
Apart n r xs = (m : ℕ) × (k : ℕ) × (m + k ≤ n) × CanBeTogether m xs × PartialCanBeOf k r

pub together_apart : (n t : ℕ) (r : Partial) (ps : List Place) → has_free t ps ≡ true → CanBeTogether n (added (fill t r ps)) → Apart n r (added ps)
together_apart n t r [] f h = absurd (true≢false (sym f))
together_apart n t r (p ∷ ps) f h = by_first t p ps f
    (λ e. let c : CanBeTogether n (r ∷ added (p ∷ ps)) = subst (CanBeTogether n) (added_first t r p ps e) h in (c.1, c.0, (let le = c.2 in omega (arith, le)), c.4, c.3))
    (λ e g. behind p.piece (subst (λ qs. CanBeTogether n (added qs)) (fill_there t r p ps e) h) (λ l i. together_apart l t r ps g i))
  where
    behind : (x : Option Partial) → CanBeTogether n (added (record { tablet = p.tablet; piece = x } ∷ fill t r ps))
        → ((l : ℕ) → CanBeTogether l (added (fill t r ps)) → Apart l r (added ps)) → Apart n r (added (record { tablet = p.tablet; piece = x } ∷ ps))
    behind None c rest = rest n c
    behind (Some x) c rest =
        let d = rest c.1 c.4 in
        let le = c.2 in
        let more = d.2 in
        (c.0 + d.0, d.1, omega (arith, le, more), (c.0, d.0, omega arith, c.3, d.3), d.4)

-- ---- what the tree gathers

-- of the tree of these leaf servers below one
abbrev leaves_of : List ℕ → Trees
leaves_of [] = no_trees
leaves_of (t ∷ ts) = next_tree (leaf_server t) (leaves_of ts)

leaf_tablets : (ts : List ℕ) → tablets_of_all (leaves_of ts) ≡ ts
leaf_tablets [] = refl
leaf_tablets (t ∷ ts) = ap (λ us. t ∷ us) (leaf_tablets ts)

leaves_gather : (piece : ℕ → Partial) (p : Partial) (ts : List ℕ) → gathered_behind piece p (leaves_of ts) ≡ fold merge p (map piece ts)
leaves_gather piece p [] = refl
leaves_gather piece p (t ∷ ts) = leaves_gather piece (merge p (piece t)) ts

-- a tree has one tablet at least
first_tablet : (tree : Tree) → (t : ℕ) × (ts : List ℕ) × (tablets_of tree ≡ t ∷ ts)
first_tablet (leaf_server t) = (t, [], refl)
first_tablet (intermediate_server tree rest) = let k = first_tablet tree in (k.0, k.1 ++ tablets_of_all rest, ap (λ us. us ++ tablets_of_all rest) k.2)

module _ (fs : Fields) (q : Query) where
  all_partials : (piece : ℕ → Partial) (ts : List ℕ) (xs : List Partial) → map piece ts ≡ xs → list_all (is_partial fs q) xs ≡ true → AreAllPartials fs q piece ts
  all_partials piece [] xs e h = tt
  all_partials piece (t ∷ ts) xs e h = let a = and_parts _ _ (ap (list_all (is_partial fs q)) e ∙ h) in (a.0, all_partials piece ts (map piece ts) refl a.1)

  -- a tree gathers what its pieces are, merged one after another
  one_after_another : (piece : ℕ → Partial) (tree : Tree) → AreAllPartials fs q piece (tablets_of tree) → gathered piece tree ≡ fold merge (empty_partial q) (map piece (tablets_of tree))
  one_after_another piece tree h =
      let first = first_tablet tree in
      let e : tablets_of tree ≡ first.0 ∷ tablets_of_all (leaves_of first.1) = first.2 ∙ ap (λ us. first.0 ∷ us) (sym (leaf_tablets first.1)) in
      let here : is_partial fs q (piece first.0) ≡ true = (subst (AreAllPartials fs q piece) first.2 h).0 in
      trees_gather_alike fs q piece tree (intermediate_server (leaf_server first.0) (leaves_of first.1)) h e
      ∙ (leaves_gather piece (piece first.0) first.1
      ∙ (ap (λ (p : Partial). fold merge p (map piece first.1)) (sym (empty_merges_to_same fs q (piece first.0) here).0) ∙ ap (λ us. fold merge (empty_partial q) (map piece us)) (sym first.2)))

  -- those of no records add nothing
  without_empty : (p : Partial) (ps : List Place) → is_partial fs q p ≡ true → list_all (is_partial fs q) (added ps) ≡ true → fold merge p (pieces_at q ps) ≡ fold merge p (added ps)
  without_empty p [] h k = refl
  without_empty p (o ∷ ps) h k = behind o.piece k (λ r i l. without_empty r ps i l)
    where
      behind : (x : Option Partial) → list_all (is_partial fs q) (added (record { tablet = o.tablet; piece = x } ∷ ps)) ≡ true
          → ((r : Partial) → is_partial fs q r ≡ true → list_all (is_partial fs q) (added ps) ≡ true → fold merge r (pieces_at q ps) ≡ fold merge r (added ps))
          → fold merge (merge p (piece_or_empty q x)) (pieces_at q ps) ≡ fold merge p (added (record { tablet = o.tablet; piece = x } ∷ ps))
      behind None l rest = ap (λ (r : Partial). fold merge r (pieces_at q ps)) (empty_merges_to_same fs q p h).1 ∙ rest p h l
      behind (Some x) l rest = let a = and_parts _ _ l in rest (merge p x) (merged_is_partial fs q p x h a.0) a.1

  pieces_are : (ps : List Place) → list_all (is_partial fs q) (added ps) ≡ true → list_all (is_partial fs q) (pieces_at q ps) ≡ true
  pieces_are [] h = refl
  pieces_are (o ∷ ps) h = behind o.piece h (λ l. pieces_are ps l)
    where
      behind : (x : Option Partial) → list_all (is_partial fs q) (added (record { tablet = o.tablet; piece = x } ∷ ps)) ≡ true
          → (list_all (is_partial fs q) (added ps) ≡ true → list_all (is_partial fs q) (pieces_at q ps) ≡ true)
          → (is_partial fs q (piece_or_empty q x) && list_all (is_partial fs q) (pieces_at q ps)) ≡ true
      behind None l rest = ap₂ (λ x y. x && y) (empty_is_partial fs q) (rest l)
      behind (Some x) l rest = let a = and_parts _ _ l in ap₂ (λ x y. x && y) a.0 (rest a.1)

  -- what was added, merged in the order of the places, is what the tree gathers
  pub gathered_is_merged : (piece : ℕ → Partial) (tree : Tree) (ps : List Place) → map piece (tablets_of tree) ≡ pieces_at q ps → list_all (is_partial fs q) (added ps) ≡ true
      → gathered piece tree ≡ merged q ps
  gathered_is_merged piece tree ps e h =
      one_after_another piece tree (all_partials piece (tablets_of tree) (pieces_at q ps) e (pieces_are ps h))
      ∙ (ap (fold merge (empty_partial q)) e ∙ without_empty (empty_partial q) ps (empty_is_partial fs q) h)
