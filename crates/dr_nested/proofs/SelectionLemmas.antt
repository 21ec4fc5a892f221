-- Selecting one path after another.
use Rattle.std.specs.Prelude.{◌≡◌, ◌≤◌, ◌<◌, ℕ, zero, suc, ◌+◌, List, [], ◌∷◌, ◌++◌, map, length, get_or, take, drop, ◌-◌, slice_get, option_map, Option, Some, None}
use Rattle.std.proofs.Common.{refl, sym, ap, ◌∙◌, subst, arith, rules, add-one}
use Rattle.std.proofs.Math.ListN.{set}
use Rattle.std.proofs.lemmas.List.{set-set, take_all}
use Rattle.std.proofs.lemmas.Option.{slice_get-map, slice_get_read, slice_get_past}
use Rattle.dr_meaning.specs.Schema.{Repetition}
use Rattle.dr_meaning.specs.Path.{Step}
use Rattle.dr_meaning.specs.Record.{through_first, through_later}
use Rattle.dr_nested.specs.Selected.{Selected, none_selected, skipped, chosen, choices_of, first_selected, later_selected, selected_at, Selects, SelectsFirst}
use Rattle.dr_nested.specs.SelectionView.{choice_view, choices_view, selection_view, padded}
use Rattle.dr_nested.specs.PathView.{step_view}
use Rattle.dr_nested.specs.declared.path.Step as steps
use Rattle.dr_nested.specs.declared.selection.Choice as choices
use Rattle.dr_nested.specs.declared.selection.Selection as selections
use Rattle.dr_nested.proofs.ProjectingLemmas.{all_end-here, all_end-there}

pub view-selection : (s : selections.Selection) → selection_view s ≡ choices_view s.fields.items
view-selection s = search (rules, selections.the_lemmas)

pub view-skipped : choice_view choices.Skipped ≡ None
view-skipped = search (rules, choices.the_lemmas)

pub view-chosen : (s : selections.Selection) → choice_view (choices.Chosen s) ≡ Some (selection_view s)
view-chosen s = search (rules, choices.the_lemmas)

-- the rests of the paths that go through the field at a place
abbrev pub rests_at : ℕ → List (List Step) → List (List Step)
rests_at zero F = through_first F
rests_at (suc k) F = rests_at k (through_later F)

-- ---- a path that ends here selects nothing more

pub selects_end : (s : Selected) (F : List (List Step)) → Selects s F → Selects s ([] ∷ F)
selects_end none_selected F h = h
selects_end (skipped s) F h = h
selects_end (chosen b s) F h = h

-- ---- a selection by its first field

choices_of-first : (c : Option Selected) (cs : List (Option Selected)) → first_selected (choices_of (c ∷ cs)) ≡ c
choices_of-first None cs = refl
choices_of-first (Some b) cs = refl

choices_of-later : (c : Option Selected) (cs : List (Option Selected)) → later_selected (choices_of (c ∷ cs)) ≡ choices_of cs
choices_of-later None cs = refl
choices_of-later (Some b) cs = refl

selects_by : (c : Option Selected) (cs : List (Option Selected)) (F : List (List Step)) → SelectsFirst c (through_first F) → Selects (choices_of cs) (through_later F) → Selects (choices_of (c ∷ cs)) F
selects_by None cs F h g = (h, g)
selects_by (Some b) cs F h g = (h.0, h.1, g)

selects_first_of : (c : Option Selected) (cs : List (Option Selected)) (F : List (List Step)) → Selects (choices_of (c ∷ cs)) F → SelectsFirst c (through_first F)
selects_first_of None cs F h = h.0
selects_first_of (Some b) cs F h = (h.0, h.1)

selects_later_of : (c : Option Selected) (cs : List (Option Selected)) (F : List (List Step)) → Selects (choices_of (c ∷ cs)) F → Selects (choices_of cs) (through_later F)
selects_later_of None cs F h = h.1
selects_later_of (Some b) cs F h = h.2

skipped_first : (F : List (List Step)) → F ≡ [] → SelectsFirst (choice_view choices.Skipped) F
skipped_first F h = rw view-skipped h

-- ---- what is selected at a place is on the paths through it

pub selects_at : (k : ℕ) (cs : List choices.Choice) (F : List (List Step)) → Selects (choices_view cs) F → SelectsFirst (choice_view (get_or (padded (suc k) cs) k choices.Skipped)) (rests_at k F)
selects_at zero [] F h = skipped_first (through_first F) (all_end-here F h)
selects_at zero (c ∷ cs) F h = selects_first_of (choice_view c) (map choice_view cs) F h
selects_at (suc k) [] F h = selects_at k [] (through_later F) (all_end-there F h)
selects_at (suc k) (c ∷ cs) F h = selects_at k cs (through_later F) (selects_later_of (choice_view c) (map choice_view cs) F h)

-- ---- one path more

pub selects_more : (k : ℕ) (cs : List choices.Choice) (c : choices.Choice) (b : Selected) (r : Repetition) (p : List Step) (F : List (List Step))
    → choice_view c ≡ Some b → Selects (choices_view cs) F → Selects b (p ∷ rests_at k F)
    → Selects (choices_view (set (padded (suc k) cs) k c)) ((record { place = k; repetition = r } ∷ p) ∷ F)
selects_more zero [] c b r p F e h g = rw e (tt, g, all_end-there F h)
selects_more zero (d ∷ cs) c b r p F e h g = rw e (tt, g, selects_later_of (choice_view d) (map choice_view cs) F h)
selects_more (suc k) [] c b r p F e h g =
    selects_by (choice_view choices.Skipped) (map choice_view (set (padded (suc k) []) k c)) ((record { place = suc k; repetition = r } ∷ p) ∷ F)
    (skipped_first (through_first F) (all_end-here F h)) (selects_more k [] c b r p (through_later F) e (all_end-there F h) g)
selects_more (suc k) (d ∷ cs) c b r p F e h g =
    selects_by (choice_view d) (map choice_view (set (padded (suc k) cs) k c)) ((record { place = suc k; repetition = r } ∷ p) ∷ F)
    (selects_first_of (choice_view d) (map choice_view cs) F h) (selects_more k cs c b r p (through_later F) e (selects_later_of (choice_view d) (map choice_view cs) F h) g)

-- ---- room for a place

pub padded_push : (k : ℕ) (cs : List choices.Choice) → length cs < k → padded k (cs ++ choices.Skipped ∷ []) ≡ padded k cs
padded_push zero cs h = absurd (omega arith)
padded_push (suc k) [] h = refl
padded_push (suc k) (c ∷ cs) h = ap (λ (l : List choices.Choice). c ∷ l) (padded_push k cs (omega arith))

pub padded_enough : (k : ℕ) (cs : List choices.Choice) → k ≤ length cs → padded k cs ≡ cs
padded_enough zero cs h = refl
padded_enough (suc k) [] h = absurd (omega arith)
padded_enough (suc k) (c ∷ cs) h = ap (λ (l : List choices.Choice). c ∷ l) (padded_enough k cs (omega arith))

pub padded_length : (k : ℕ) (cs : List choices.Choice) → k < length (padded (suc k) cs)
padded_length zero [] = omega arith
padded_length zero (c ∷ cs) = omega arith
padded_length (suc k) [] = omega (arith, padded_length k [])
padded_length (suc k) (c ∷ cs) = omega (arith, padded_length k cs)

-- ---- what is selected at a place

choices_at : (os : List (Option Selected)) (k : ℕ) (o : Option Selected) → slice_get os k ≡ Some o → selected_at k (choices_of os) ≡ o
choices_at [] k o h = cc
choices_at (c ∷ os) zero o h = let e : c ≡ o = cc in choices_of-first c os ∙ e
choices_at (c ∷ os) (suc k) o h = ap (selected_at k) (choices_of-later c os) ∙ choices_at os k o h

none_at : (k : ℕ) → selected_at k none_selected ≡ None
none_at zero = refl
none_at (suc k) = none_at k

choices_past : (os : List (Option Selected)) (k : ℕ) → slice_get os k ≡ None → selected_at k (choices_of os) ≡ None
choices_past [] k h = none_at k
choices_past (c ∷ os) zero h = cc
choices_past (c ∷ os) (suc k) h = ap (selected_at k) (choices_of-later c os) ∙ choices_past os k h

pub selection_at : (s : selections.Selection) (cs : List choices.Choice) (k : ℕ) (c : choices.Choice) → cs ≡ s.fields.items → k < length cs → c ≡ get_or cs k c → selected_at k (selection_view s) ≡ choice_view c
selection_at s cs k c e h g =
    let m : slice_get (map choice_view cs) k ≡ Some (choice_view c) = slice_get-map choice_view cs k ∙ ap (option_map choice_view) (slice_get_read cs (length cs) k c refl h g) in
    ap (selected_at k) (view-selection s ∙ ap choices_view (sym e)) ∙ choices_at (map choice_view cs) k (choice_view c) m

pub selection_past : (s : selections.Selection) (cs : List choices.Choice) (k : ℕ) → cs ≡ s.fields.items → length cs ≤ k → selected_at k (selection_view s) ≡ None
selection_past s cs k e h =
    let m : slice_get (map choice_view cs) k ≡ None = slice_get-map choice_view cs k ∙ ap (option_map choice_view) (slice_get_past cs k h) in
    ap (selected_at k) (view-selection s ∙ ap choices_view (sym e)) ∙ choices_past (map choice_view cs) k m

-- ---- one path more, as it is put in its place

pub padded_room : (cs ds : List choices.Choice) (k : ℕ) → ds ≡ padded (k + 1) cs → k < length ds
padded_room cs ds k e = let h : k < length (padded (suc k) cs) = padded_length k cs in rw (e, add-one k) h

pub selects_with : (s : selections.Selection) (t : Selected) (b : selections.Selection) (k : ℕ) (r : Repetition) (p q : List Step) (F : List (List Step))
    → record { place = k; repetition = r } ∷ p ≡ q
    → t ≡ choices_view (set (set (padded (k + 1) s.fields.items) k choices.Skipped) k (choices.Chosen b))
    → ((G : List (List Step)) → SelectsFirst (choice_view (get_or (padded (k + 1) s.fields.items) k choices.Skipped)) G → Selects (selection_view b) (p ∷ G))
    → Selects (selection_view s) F → Selects t (q ∷ F)
selects_with s t b k r p q F first e more h =
    let cs = s.fields.items in
    let i : k + 1 ≡ suc k = add-one k in
    let put : t ≡ choices_view (set (padded (suc k) cs) k (choices.Chosen b)) =
    e ∙ ap choices_view (set-set (padded (k + 1) cs) k choices.Skipped (choices.Chosen b) ∙ ap (λ (n : ℕ). set (padded n cs) k (choices.Chosen b)) i) in
    let before : Selects (choices_view cs) F = subst (λ (u : Selected). Selects u F) (view-selection s) h in
    let below : Selects (selection_view b) (p ∷ rests_at k F) =
    more (rests_at k F) (subst (λ (n : ℕ). SelectsFirst (choice_view (get_or (padded n cs) k choices.Skipped)) (rests_at k F)) (sym i) (selects_at k cs F before)) in
    let all : Selects (choices_view (set (padded (suc k) cs) k (choices.Chosen b))) (q ∷ F) =
    subst (λ (o : List Step). Selects (choices_view (set (padded (suc k) cs) k (choices.Chosen b))) (o ∷ F)) first
    (selects_more k cs (choices.Chosen b) (selection_view b) r p F (view-chosen b) before below) in
    subst (λ (u : Selected). Selects u (q ∷ F)) (sym put) all

-- a path without steps
pub selects_with_none : (s : Selected) (p : List Step) (F : List (List Step)) → p ≡ [] → Selects s F → Selects s (p ∷ F)
selects_with_none s [] F e h = selects_end s F h
selects_with_none s (t ∷ p) F e h = cc

-- a path by its first step
pub steps_by_first : (p : List steps.Step) (d : steps.Step) → 1 ≤ length p → step_view (get_or p 0 d) ∷ map step_view (take (length p - 1) (drop 1 p)) ≡ map step_view p
steps_by_first [] d h = absurd (omega arith)
steps_by_first (s ∷ p) d h =
    let e : length (s ∷ p) - 1 ≡ length p = omega arith in
    ap (λ (q : List steps.Step). step_view s ∷ map step_view q) (take_all (length (s ∷ p) - 1) p (omega (arith, e)))
