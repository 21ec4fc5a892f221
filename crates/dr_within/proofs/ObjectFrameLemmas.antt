-- What was made of a record query in one branch, as more is made in it.
use Rattle.std.proofs.Common.{◌≡◌, ℕ, List, [], ◌∷◌, ◌++◌, length, take, drop, Bool, true, false, Option, Some, None, refl, sym, ap, ap₂, subst, ◌∙◌, append-nil, append_assoc}
use Rattle.std.specs.Prelude.{◌==◌, if◌then◌else◌}
use Rattle.std.proofs.lemmas.Bool.{eqb-true}
use Rattle.std.proofs.Math.Seq.{take-append_seam, drop-append_seam}
use Rattle.dr_meaning.specs.Record.{Value}
use Rattle.dr_meaning.specs.Query.{Aggregate, RecordItem as MeantItem, Object}
use Rattle.dr_partials.specs.Accumulators.{Accumulator, empty_accumulator, accumulator_of_one, join, accumulated}
use Rattle.dr_partials.proofs.AccumulatorLemmas.{join_of_both, empty_left, empty_right, cell_aggregate}
use Rattle.dr_cells.specs.Results.{result_cells}
use Rattle.dr_made_laws.specs.ObjectFlow.{Made, built, taken, values_for}
use Rattle.dr_made_laws.specs.ObjectFlowLaws.{made_objects}
use Rattle.dr_within.specs.ObjectFraming.{built_in, AreRuns, HoldsBuilt, aggregate_at, gathered_for, AreOfItems, HoldsValues, HoldsFrame, HoldsFrames}
use Rattle.dr_within.specs.WithinValues.{is_among, JoinsAt, JoinsOthers}
use Rattle.dr_within.specs.declared.built.Built.{Built}
use Rattle.dr_within.specs.declared.within_values.ItemValues.{ItemValues}
use Rattle.dr_within.specs.declared.within_values.WithinValues.{WithinValues}
use Rattle.dr_within.specs.declared.object_frame.ObjectFrame.{ObjectFrame}
use Rattle.dr_within.proofs.MadeParts.{built_both, objects_both, values_for_both}
use Rattle.dr_within.proofs.WithinLemmas.{empty_aggregate, gathered_aggregate}

-- ---- values

values_more : (items : List MeantItem) (made more : List Made) (v w : WithinValues) → HoldsValues items made v → AreOfItems items w.entries.items
    → ((j : ℕ) (a : Aggregate) → aggregate_at items j ≡ Some a → gathered_for a j w.entries.items ≡ join (gathered_for a j v.entries.items) (accumulated a (values_for j more))) → HoldsValues items (made ++ more) w
values_more items made more v w h t p = record {
  typed = t;
  gathers = λ j a g. p j a g ∙ ap (λ (x : Accumulator). join x (accumulated a (values_for j more))) (h.gathers j a g)
      ∙ sym (join_of_both a (values_for j made) (values_for j more)) ∙ ap (accumulated a) (sym (values_for_both j made more));
}

-- nothing is added to what an aggregate has gathered
nothing_more : (items : List MeantItem) (j : ℕ) (a : Aggregate) (es : List ItemValues) → AreOfItems items es → aggregate_at items j ≡ Some a → gathered_for a j es ≡ join (gathered_for a j es) (empty_accumulator a)
nothing_more items j a es t g = sym (empty_right a (gathered_for a j es) (gathered_aggregate items j a es t g))

pub value_taken : (items : List MeantItem) (made : List Made) (v w : WithinValues) (j : ℕ) (b : Aggregate) (x : Value) → HoldsValues items made v → aggregate_at items j ≡ Some b
    → JoinsAt items j (accumulator_of_one b x) v.entries.items w.entries.items → HoldsValues items (made ++ taken j (Some x) ∷ []) w
value_taken items made v w j b x h k n = values_more items made (taken j (Some x) ∷ []) v w h n.typed (λ i a g. n.gathers i a g ∙ by_test i a g (j == i) refl)
  where
    by_test : (i : ℕ) (a : Aggregate) → aggregate_at items i ≡ Some a → (t : Bool) → (j == i) ≡ t
        → (if t then join (gathered_for a i v.entries.items) (accumulator_of_one b x) else gathered_for a i v.entries.items)
        ≡ join (gathered_for a i v.entries.items) (accumulated a (if t then Some x ∷ [] else []))
    by_test i a g true e =
        let same : Some b ≡ Some a = sym k ∙ ap (aggregate_at items) (eqb-true j i e) ∙ g in
        let is : b ≡ a = cc in
        ap (join (gathered_for a i v.entries.items)) (ap (λ (y : Aggregate). accumulator_of_one y x) is ∙ sym (empty_right a (accumulator_of_one a x) (cell_aggregate a (Some x))))
    by_test i a g false e = nothing_more items i a v.entries.items h.typed g

pub null_taken : (items : List MeantItem) (made : List Made) (v : WithinValues) (j : ℕ) → HoldsValues items made v → HoldsValues items (made ++ taken j None ∷ []) v
null_taken items made v j h = values_more items made (taken j None ∷ []) v v h h.typed (λ i a g. nothing_more items i a v.entries.items h.typed g ∙ ap (join (gathered_for a i v.entries.items)) (by_test a (j == i)))
  where
    by_test : (a : Aggregate) (t : Bool) → empty_accumulator a ≡ accumulated a (if t then None ∷ [] else [])
    by_test a true = sym (empty_left a (empty_accumulator a) (empty_aggregate a))
    by_test a false = refl

-- what was made in another branch, but for what is some items' own
pub values_joined : (items : List MeantItem) (made more on : List Made) (v w u : WithinValues) (own : List ℕ) → HoldsValues items made v → HoldsValues items more w
    → JoinsOthers items own w.entries.items v.entries.items u.entries.items → ((j : ℕ) → values_for j on ≡ (if is_among own j then [] else values_for j more)) → HoldsValues items (made ++ on) u
values_joined items made more on v w u own h k n e = values_more items made on v u h n.typed (λ j a g. n.gathers j a g ∙ ap (join (gathered_for a j v.entries.items)) (by_test j a g (is_among own j) ∙ ap (accumulated a) (sym (e j))))
  where
    by_test : (j : ℕ) (a : Aggregate) → aggregate_at items j ≡ Some a → (b : Bool) → (if b then empty_accumulator a else gathered_for a j w.entries.items) ≡ accumulated a (if b then [] else values_for j more)
    by_test j a g true = refl
    by_test j a g false = k.gathers j a g

pub values_same : (items : List MeantItem) (made on : List Made) (v : WithinValues) → HoldsValues items made v → ((j : ℕ) → values_for j on ≡ []) → HoldsValues items (made ++ on) v
values_same items made on v h e = record { typed = h.typed; gathers = λ j a g. h.gathers j a g ∙ ap (accumulated a) (sym (values_for_both j made on ∙ ap (λ (x : List (Option Value)). values_for j made ++ x) (e j) ∙ append-nil (values_for j made))) }

-- ---- objects

-- behind what was made comes what has no objects
pub built_same : (made on : List Made) (b : Built) → HoldsBuilt made b → built_in on ≡ [] → made_objects on ≡ [] → HoldsBuilt (made ++ on) b
built_same made on b h e f = record {
  runs = subst (AreRuns b.runs.items) (sym (built_both made on ∙ ap (λ (x : List Made). built_in made ++ x) e ∙ append-nil (built_in made))) h.runs;
  cells = h.cells ∙ ap result_cells (sym (objects_both made on ∙ ap (λ (x : List Object). made_objects made ++ x) f ∙ append-nil (made_objects made)));
}

-- ---- one branch

pub frame_taken : (items : List MeantItem) (made : List Made) (j : ℕ) (v : Option Value) (f g : ObjectFrame) → HoldsFrame items made f → g.built ≡ f.built
    → HoldsValues items (made ++ taken j v ∷ []) g.values → HoldsFrame items (made ++ taken j v ∷ []) g
frame_taken items made j v f g h e k = record {
  built = built_same made (taken j v ∷ []) g.built (subst (HoldsBuilt made) (sym e) h.built) refl refl;
  values = k;
}

-- behind an object comes what goes on
pub frame_left : (items : List MeantItem) (made : List Made) (k : ℕ) (o : Object) (on left : List Made) (g : ObjectFrame) → left ≡ built k o ∷ on → HoldsBuilt (made ++ built k o ∷ []) g.built
    → built_in on ≡ [] → made_objects on ≡ [] → HoldsValues items (made ++ (built k o ∷ on)) g.values → HoldsFrame items (made ++ left) g
frame_left items made k o on left g e b n m v =
    subst (λ (x : List Made). HoldsFrame items (made ++ x) g) (sym e) (record {
      built = subst (λ (x : List Made). HoldsBuilt x g.built) (append_assoc made (built k o ∷ []) on) (built_same (made ++ built k o ∷ []) on g.built b n m);
      values = v;
    })

-- ---- all branches

pub frames_entered : (items : List MeantItem) (made : List Made) (marks : List ℕ) (f g : ObjectFrame) (gs : List ObjectFrame) → HoldsFrames items marks made f gs → HoldsFrame items [] g
    → HoldsFrames items (length made ∷ marks) made g (f ∷ gs)
frames_entered items made marks f g gs h k = record { outer = made; inner = []; parts = sym (append-nil made); mark_is = refl; frame = k; around = h }

-- something more is made in the innermost branch
pub frames_more : (items : List MeantItem) (made more : List Made) (marks : List ℕ) (f g : ObjectFrame) (gs : List ObjectFrame)
    → ((inner : List Made) → HoldsFrame items inner f → HoldsFrame items (inner ++ more) g) → HoldsFrames items marks made f gs → HoldsFrames items marks (made ++ more) g gs
frames_more items made more [] f g [] step h = step made h
frames_more items made more [] f g (d ∷ gs) step h = absurd h
frames_more items made more (m ∷ marks) f g [] step h = absurd h
frames_more items made more (m ∷ marks) f g (d ∷ gs) step h = record {
  outer = h.outer;
  inner = h.inner ++ more;
  parts = ap (λ (x : List Made). x ++ more) h.parts ∙ append_assoc h.outer h.inner more;
  mark_is = h.mark_is;
  frame = step h.inner h.frame;
  around = h.around;
}

-- out of the innermost branch
pub frames_left : (items : List MeantItem) (made : List Made) (mark : ℕ) (marks : List ℕ) (left : List Made → List Made) (f g d : ObjectFrame) (gs : List ObjectFrame) (b : Bool)
    → (b ≡ true → g ≡ d) → (b ≡ false → (outer inner : List Made) → HoldsFrame items outer d → HoldsFrame items inner f → HoldsFrame items (outer ++ left inner) g)
    → HoldsFrames items (mark ∷ marks) made f (d ∷ gs) → HoldsFrames items marks (if b then take mark made else take mark made ++ left (drop mark made)) g gs
frames_left items made mark marks left f g d gs b dropped kept h = by_test b dropped kept
  where
    outer : List Made
    outer = h.outer

    first : take mark made ≡ h.outer
    first = ap₂ (λ (n : ℕ) (x : List Made). take n x) h.mark_is h.parts ∙ take-append_seam h.outer h.inner

    last : drop mark made ≡ h.inner
    last = ap₂ (λ (n : ℕ) (x : List Made). drop n x) h.mark_is h.parts ∙ drop-append_seam h.outer h.inner

    by_test : (b : Bool) → (b ≡ true → g ≡ d) → (b ≡ false → (outer inner : List Made) → HoldsFrame items outer d → HoldsFrame items inner f → HoldsFrame items (outer ++ left inner) g)
        → HoldsFrames items marks (if b then take mark made else take mark made ++ left (drop mark made)) g gs
    by_test true p q = subst (λ (x : List Made). HoldsFrames items marks x g gs) (sym first) (subst (λ (x : ObjectFrame). HoldsFrames items marks h.outer x gs) (sym (p refl)) h.around)
    by_test false p q = subst (λ (x : List Made). HoldsFrames items marks x g gs) (sym (ap₂ (λ (x y : List Made). x ++ left y) first last))
        (frames_more items h.outer (left h.inner) marks d g gs (λ o k. q refl o h.inner k h.frame) h.around)

-- where no branch is open
pub frames_closed : (items : List MeantItem) (made : List Made) (f : ObjectFrame) (gs : List ObjectFrame) → HoldsFrames items [] made f gs → HoldsFrame items made f
frames_closed items made f [] h = h
frames_closed items made f (g ∷ gs) h = absurd h

pub none_open : (items : List MeantItem) (made other : List Made) (f k g : ObjectFrame) (gs hs : List ObjectFrame) → HoldsFrames items [] made f (g ∷ gs) → HoldsFrames items [] other k hs
none_open items made other f k g gs hs h = absurd h

-- nothing more is made
pub frame_same : (items : List MeantItem) (made on : List Made) (f : ObjectFrame) → HoldsFrame items made f → on ≡ [] → HoldsFrame items (made ++ on) f
frame_same items made on f h e = subst (λ (x : List Made). HoldsFrame items x f) (sym (ap (λ (x : List Made). made ++ x) e ∙ append-nil made)) h
