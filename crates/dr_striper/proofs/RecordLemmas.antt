-- Records added to a tree, at the paths of some leaves.
use Rattle.std.proofs.Common.{inl, inr, ◌≡◌, ℕ, suc, List, [], ◌∷◌, ◌++◌, length, true, None, refl, sym, ap, ap₂, ◌∙◌, subst, arith}
use Rattle.std.specs.List.{list_all}
use Rattle.std.proofs.lemmas.Bool.{and_parts}
use Rattle.std.proofs.lemmas.List.{length-append}
use Rattle.dr_meaning.specs.Path.{Step, Leaf}
use Rattle.dr_meaning.specs.Record.{Node, Instance}
use Rattle.dr_meaning.specs.Column.{Triplet, triplet, instance_column, record_column}
use Rattle.dr_nested.specs.PathView.{path_view, paths_view}
use Rattle.dr_nested.specs.declared.path.Path.{Path}
use Rattle.dr_levels.specs.Views.{LeafForm}
use Rattle.dr_striper.specs.Added.{Twigs, column_in, Within, inside_added}
use Rattle.dr_striper.specs.Shapes.{Shapes, AllTaken, Ready}
use Rattle.dr_striper.specs.Striping.{leaf_form, leaves_of, gained}
use Rattle.dr_striper.specs.Stripers.{fits_leaf, record_in, IsRecord}
use Rattle.dr_striper.specs.Records.{columns_in, IsFitted, AllLead, Grows}
use Rattle.dr_striper.specs.Ended.{ended_each, AllEnd}
use Rattle.dr_striper.proofs.AddedLemmas.{inside-adds}
use Rattle.dr_striper.specs.declared.branch.Branch.{Branch}
use Rattle.dr_striper.specs.Views.{twigs_view}
use Rattle.dr_striper.specs.Back.{backs}
use Rattle.dr_levels.specs.declared.triplet.Levels.{Levels}
use Rattle.std.specs.Prelude.{take}
use Rattle.std.proofs.lemmas.List.{take_all}
use Rattle.dr_striper.proofs.BackLemmas.{stays, front_stays}
use Rattle.dr_striper.proofs.EndLemmas.{ends_same_is}
use Rattle.dr_striper.proofs.PassingLemmas.{taken_joined}

given-fits : (p : List Step) (f : LeafForm) (x : Instance) (ls : List Leaf) → IsFitted p f ls → IsRecord x → list_all (fits_leaf (record_in x)) ls ≡ true → AllTaken f (instance_column p 0 0 0 x)
given-fits p f x ls a e h = subst (λ y. AllTaken f (instance_column p 0 0 0 y)) (sym e) (a (record_in x) h)

pub record_ready : (x : Instance) (ls : List Leaf) (L M : List Triplet) (ss : Shapes) (bs : Twigs) → IsRecord x → list_all (fits_leaf (record_in x)) ls ≡ true → Grows ls L ss bs → M ≡ L → Ready 0 0 0 M x ss bs
record_ready x ls L M ss bs e h grows em =
    subst (λ t. Ready 0 0 0 t x ss bs) (sym em) (
      grows.0,
      λ s p f l.
          let t = grows.2 (s ∷ p) f l in
          (t.0, (t.1, given-fits (s ∷ p) f x ls t.3 e h), (omega (arith, t.2.0), omega (arith, t.2.1))),
    )

length-snoc : (L : List Triplet) (t : Triplet) → length (L ++ t ∷ []) ≡ suc (length L)
length-snoc L t = omega (arith, length-append L (t ∷ []))

record-grows : (x : Instance) (ls : List Leaf) (L : List Triplet) (ss : Shapes) (bs : Twigs) → IsRecord x → list_all (fits_leaf (record_in x)) ls ≡ true → Grows ls L ss bs
    → Grows ls (L ++ triplet 0 0 None ∷ []) ss (inside_added x 0 0 0 L bs)
record-grows x ls L ss bs e h grows = (
  grows.0,
  grows.1,
  λ p f l.
      let t = grows.2 p f l in
      let one = inside-adds x p 0 0 0 L bs t.0.0 t.0.1 in (
        (one.1, subst (λ (j : ℕ). Within p j (inside_added x 0 0 0 L bs)) (sym (length-snoc L (triplet 0 0 None))) one.2),
        subst (AllTaken f) (sym one.0) (taken_joined f (column_in p L bs) (instance_column p 0 0 0 x) t.1 (given-fits p f x ls t.3 e h)),
        t.2,
        t.3,
      ),
)

pub record_grows : (x : Instance) (ls : List Leaf) (L L' M : List Triplet) (ss ss' : Shapes) (bs bs' : Twigs) → IsRecord x → list_all (fits_leaf (record_in x)) ls ≡ true → Grows ls L ss bs
    → M ≡ L → L' ≡ L ++ triplet 0 0 None ∷ [] → ss' ≡ ss → bs' ≡ inside_added x 0 0 0 M bs → Grows ls L' ss' bs'
record_grows x ls L L' M ss ss' bs bs' e h grows em el es eb =
    subst (λ t. Grows ls t ss' bs') (sym el)
    (subst (λ t. Grows ls (L ++ triplet 0 0 None ∷ []) t bs') (sym es)
    (subst (λ t. Grows ls (L ++ triplet 0 0 None ∷ []) ss t) (sym (eb ∙ ap (λ t. inside_added x 0 0 0 t bs) em)) (record-grows x ls L ss bs e h grows)))

-- the columns gain the record's
record-columns : (x : Instance) (fields : List Path) (ls : List Leaf) (L : List Triplet) (ss : Shapes) (bs : Twigs) → IsRecord x → AllLead (leaves_of fields) ss → Grows ls L ss bs
    → columns_in (paths_view fields) (L ++ triplet 0 0 None ∷ []) (inside_added x 0 0 0 L bs) ≡ gained (λ p. record_column p (record_in x)) (paths_view fields) (columns_in (paths_view fields) L bs)
record-columns x [] ls L ss bs e a grows = refl
record-columns x (p ∷ ps) ls L ss bs e a grows =
    let q : List Step = (path_view p).path in
    let t = grows.2 q (leaf_form (path_view p)) a.0 in
    let one = inside-adds x q 0 0 0 L bs t.0.0 t.0.1 in
    ap₂ (λ (c : List Triplet) (cs : List (List Triplet)). c ∷ cs) (one.0 ∙ ap (λ y. column_in q L bs ++ instance_column q 0 0 0 y) e) (record-columns x ps ls L ss bs e a.1 grows)

pub record_columns : (x : Instance) (fields : List Path) (L L' M : List Triplet) (ss : Shapes) (bs bs' : Twigs) → IsRecord x → Grows (leaves_of fields) L ss bs
    → M ≡ L → L' ≡ L ++ triplet 0 0 None ∷ [] → bs' ≡ inside_added x 0 0 0 M bs
    → columns_in (paths_view fields) L' bs' ≡ gained (λ p. record_column p (record_in x)) (paths_view fields) (columns_in (paths_view fields) L bs)
record_columns x fields L L' M ss bs bs' e grows em el eb =
    ap₂ (λ t u. columns_in (paths_view fields) t u) el (eb ∙ ap (λ t. inside_added x 0 0 0 t bs) em)
    ∙ record-columns x fields (leaves_of fields) L ss bs e grows.1 grows

-- ---- the end

pub grows_ends : (ls : List Leaf) (L : List Triplet) (ss : Shapes) (bs : Twigs) → Grows ls L ss bs → AllEnd L ss bs
grows_ends ls L ss bs h = (h.0, λ s p f l. ((h.2 (s ∷ p) f l).0, (h.2 (s ∷ p) f l).1))

ended-columns : (fields : List Path) (ls : List Leaf) (L : List Triplet) (ss : Shapes) (bs : Twigs) → AllLead (leaves_of fields) ss → Grows ls L ss bs → columns_in (paths_view fields) L (ended_each L bs) ≡ columns_in (paths_view fields) L bs
ended-columns [] ls L ss bs a grows = refl
ended-columns (p ∷ ps) ls L ss bs a grows =
    let q : List Step = (path_view p).path in
    let t = grows.2 q (leaf_form (path_view p)) a.0 in
    ap₂ (λ (c : List Triplet) (cs : List (List Triplet)). c ∷ cs) (ends_same_is q L bs t.0.0 t.0.1).0 (ended-columns ps ls L ss bs a.1 grows)

pub ended_columns : (fields : List Path) (L : List Triplet) (ss : Shapes) (bs bs' : Twigs) → Grows (leaves_of fields) L ss bs → bs' ≡ ended_each L bs → columns_in (paths_view fields) L bs' ≡ columns_in (paths_view fields) L bs
ended_columns fields L ss bs bs' grows e = ap (columns_in (paths_view fields) L) e ∙ ended-columns fields (leaves_of fields) L ss bs grows.1 grows

-- ---- a record taken back

back-grows : (ls : List Leaf) (L : List Triplet) (ss : Shapes) (bs : List Branch) → Grows ls L ss (twigs_view bs) → Grows ls L ss (backs (length L) bs)
back-grows ls L ss bs grows = (
  grows.0,
  grows.1,
  λ p f l.
      let t = grows.2 p f l in
      let one = stays p (length L) L bs t.0.0 t.0.1 in
      ((one.1, one.2), subst (AllTaken f) (sym one.0) t.1, t.2, t.3),
)

pub back_grows : (ls : List Leaf) (L L' : List Triplet) (ss ss' : Shapes) (bs now : List Branch) (bs' : Twigs) (m : ℕ) → Grows ls L ss (twigs_view bs) → m ≡ length L → L' ≡ L → ss' ≡ ss → backs m now ≡ backs m bs → bs' ≡ backs m now → Grows ls L' ss' bs'
back_grows ls L L' ss ss' bs now bs' m grows em el es eb e =
    let w : bs' ≡ backs (length L) bs = e ∙ eb ∙ ap (λ (j : ℕ). backs j bs) em in
    subst (λ t. Grows ls t ss' bs') (sym el)
    (subst (λ t. Grows ls L t bs') (sym es)
    (subst (λ t. Grows ls L ss t) (sym w) (back-grows ls L ss bs grows)))

back-columns : (fields : List Path) (ls : List Leaf) (L : List Triplet) (ss : Shapes) (bs : List Branch) → AllLead (leaves_of fields) ss → Grows ls L ss (twigs_view bs)
    → columns_in (paths_view fields) L (backs (length L) bs) ≡ columns_in (paths_view fields) L (twigs_view bs)
back-columns [] ls L ss bs a grows = refl
back-columns (p ∷ ps) ls L ss bs a grows =
    let q : List Step = (path_view p).path in
    let t = grows.2 q (leaf_form (path_view p)) a.0 in
    ap₂ (λ (c : List Triplet) (cs : List (List Triplet)). c ∷ cs) (stays q (length L) L bs t.0.0 t.0.1).0 (back-columns ps ls L ss bs a.1 grows)

pub back_columns : (fields : List Path) (L L' : List Triplet) (ss : Shapes) (bs now : List Branch) (bs' : Twigs) (m : ℕ) → Grows (leaves_of fields) L ss (twigs_view bs) → m ≡ length L → L' ≡ L → backs m now ≡ backs m bs → bs' ≡ backs m now
    → columns_in (paths_view fields) L' bs' ≡ columns_in (paths_view fields) L (twigs_view bs)
back_columns fields L L' ss bs now bs' m grows em el eb e =
    ap₂ (λ t u. columns_in (paths_view fields) t u) el (e ∙ eb ∙ ap (λ (j : ℕ). backs j bs) em)
    ∙ back-columns fields (leaves_of fields) L ss bs grows.1 grows

-- the levels are those that were there before the last
pub cut_last : (k : ℕ) (ls now after : List Levels) (x : Levels) → k ≡ length ls → now ≡ ls ++ x ∷ [] → after ≡ take k now → after ≡ ls
cut_last k ls now after x ek en ea =
    ea ∙ ap₂ take ek en ∙ front_stays (length ls) ls (x ∷ []) (omega arith) ∙ take_all (length ls) ls (omega arith)
