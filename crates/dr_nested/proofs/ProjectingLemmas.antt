-- Projecting a node slot by slot, by what is selected at each place.
use Rattle.std.specs.Prelude.{◌≡◌, ℕ, zero, suc, ◌+◌, List, [], ◌∷◌, ◌++◌, map, Option, Some, None}
use Rattle.std.proofs.Common.{refl, sym, ap, ap₂, ◌∙◌, add-one}
use Rattle.dr_meaning.specs.Path.{Step}
use Rattle.dr_meaning.specs.Record.{Node, no_slots, slot, gap, Instances, no_instances, instance, Instance, atom, inner, project, project_all, project_one, slot_for, through_first, through_later}
use Rattle.dr_nested.specs.declared.record.Instance as instances
use Rattle.dr_nested.specs.Views.{slots_of, instances_of, instance_view, instances_view}
use Rattle.dr_nested.specs.Selected.{Selected, none_selected, skipped, chosen, first_selected, later_selected, selected_at, AllEnd, IsSome, Selects, SelectsFirst, kept_or_gap, kept, kept_all, kept_one, kept_slot}

-- ---- slots one after another

abbrev pub slot_onto : Option Instances → Node → Node
slot_onto None n = gap n
slot_onto (Some xs) n = slot xs n

-- slots before a node
abbrev pub onto : List (Option Instances) → Node → Node
onto [] n = n
onto (o ∷ os) n = slot_onto o (onto os n)

onto_push : (os : List (Option Instances)) (o : Option Instances) (n : Node) → onto (os ++ o ∷ []) n ≡ onto os (slot_onto o n)
onto_push [] o n = refl
onto_push (p ∷ os) o n = ap (slot_onto p) (onto_push os o n)

slots_onto : (o : Option Instances) (os : List (Option Instances)) → slots_of (o ∷ os) ≡ slot_onto o (slots_of os)
slots_onto None os = refl
slots_onto (Some xs) os = refl

pub onto_end : (os : List (Option Instances)) → onto os no_slots ≡ slots_of os
onto_end [] = refl
onto_end (o ∷ os) = ap (slot_onto o) (onto_end os) ∙ sym (slots_onto o os)

-- ---- what is selected from a place on

abbrev pub selected_behind : ℕ → Selected → Selected
selected_behind zero s = s
selected_behind (suc k) s = later_selected (selected_behind k s)

behind_later : (k : ℕ) (s : Selected) → selected_behind k (later_selected s) ≡ later_selected (selected_behind k s)
behind_later zero s = refl
behind_later (suc k) s = ap later_selected (behind_later k s)

first_behind : (k : ℕ) (s : Selected) → first_selected (selected_behind k s) ≡ selected_at k s
first_behind zero s = refl
first_behind (suc k) s = ap first_selected (sym (behind_later k s)) ∙ first_behind k (later_selected s)

kept_or_gap-is : (c : Option Selected) (xs : Instances) (n : Node) → kept_or_gap c (λ b. kept_all b xs) n ≡ slot_onto (kept_slot c (Some xs)) n
kept_or_gap-is None xs n = refl
kept_or_gap-is (Some b) xs n = refl

kept_first : (s : Selected) (o : Option Instances) (os : List (Option Instances)) → kept s (slots_of (o ∷ os)) ≡ slot_onto (kept_slot (first_selected s) o) (kept (later_selected s) (slots_of os))
kept_first s None os = refl
kept_first s (Some xs) os = kept_or_gap-is (first_selected s) xs (kept (later_selected s) (slots_of os))

-- one slot more
pub kept_more : (s : Selected) (k : ℕ) (done : List (Option Instances)) (o p : Option Instances) (os : List (Option Instances)) → p ≡ kept_slot (selected_at k s) o
    → onto (done ++ p ∷ []) (kept (selected_behind (k + 1) s) (slots_of os)) ≡ onto done (kept (selected_behind k s) (slots_of (o ∷ os)))
kept_more s k done o p os e =
    onto_push done p (kept (selected_behind (k + 1) s) (slots_of os))
    ∙ ap (λ (j : ℕ). onto done (slot_onto p (kept (selected_behind j s) (slots_of os)))) (add-one k)
    ∙ ap (λ (q : Option Instances). onto done (slot_onto q (kept (later_selected (selected_behind k s)) (slots_of os)))) (e ∙ ap (λ (c : Option Selected). kept_slot c o) (sym (first_behind k s)))
    ∙ ap (onto done) (sym (kept_first (selected_behind k s) o os))

-- ---- instances

pub instances_kept : (s : Selected) (xs : List instances.Instance) → instances_of (map (λ (x : instances.Instance). kept_one s (instance_view x)) xs) ≡ kept_all s (instances_view xs)
instances_kept s [] = refl
instances_kept s (x ∷ xs) = ap (instance (kept_one s (instance_view x))) (instances_kept s xs)

-- ---- what is kept is the projection to the paths on which it is selected

pub all_end-here : (F : List (List Step)) → AllEnd F → through_first F ≡ []
all_end-here [] h = refl
all_end-here ([] ∷ F) h = all_end-here F h
all_end-here ((s ∷ p) ∷ F) h = absurd h

pub all_end-there : (F : List (List Step)) → AllEnd F → AllEnd (through_later F)
all_end-there [] h = tt
all_end-there ([] ∷ F) h = all_end-there F h
all_end-there ((s ∷ p) ∷ F) h = absurd h

pub selects-first : (s : Selected) (F : List (List Step)) → Selects s F → SelectsFirst (first_selected s) (through_first F)
selects-first none_selected F h = all_end-here F h
selects-first (skipped s) F h = h.0
selects-first (chosen b s) F h = (h.0, h.1)

pub selects-later : (s : Selected) (F : List (List Step)) → Selects s F → Selects (later_selected s) (through_later F)
selects-later none_selected F h = all_end-there F h
selects-later (skipped s) F h = h.1
selects-later (chosen b s) F h = h.2

slot_of_some : (F : List (List Step)) (xs : Instances) (n : Node) → IsSome F → slot_for F xs n ≡ slot xs n
slot_of_some [] xs n h = absurd h
slot_of_some (p ∷ F) xs n h = refl

slot_of_none : (F : List (List Step)) (f : Instances) (n : Node) → F ≡ [] → slot_for F f n ≡ gap n
slot_of_none [] f n h = refl
slot_of_none (p ∷ F) f n h = cc

kept_or_gap-projects : (c : Option Selected) (F : List (List Step)) (xs : Instances) (n : Node) → SelectsFirst c F → ((b : Selected) → Selects b F → kept_all b xs ≡ project_all F xs)
    → kept_or_gap c (λ b. kept_all b xs) n ≡ slot_for F (project_all F xs) n
kept_or_gap-projects None F xs n h all = sym (slot_of_none F (project_all F xs) n h)
kept_or_gap-projects (Some b) F xs n h all = ap (λ (ys : Instances). slot ys n) (all b h.1) ∙ sym (slot_of_some F (project_all F xs) n h.0)

mutual
  pub kept_projects : (n : Node) (s : Selected) (F : List (List Step)) → Selects s F → kept s n ≡ project F n
  kept_projects no_slots s F h = refl
  kept_projects (slot xs n) s F h =
      ap (kept_or_gap (first_selected s) (λ b. kept_all b xs)) (kept_projects n (later_selected s) (through_later F) (selects-later s F h))
      ∙ kept_or_gap-projects (first_selected s) (through_first F) xs (project (through_later F) n) (selects-first s F h) (λ (b : Selected) (g : Selects b (through_first F)). all_kept_project xs b (through_first F) g)
  kept_projects (gap n) s F h = ap gap (kept_projects n (later_selected s) (through_later F) (selects-later s F h))

  all_kept_project : (xs : Instances) (s : Selected) (F : List (List Step)) → Selects s F → kept_all s xs ≡ project_all F xs
  all_kept_project no_instances s F h = refl
  all_kept_project (instance x xs) s F h = ap₂ instance (one_kept_projects x s F h) (all_kept_project xs s F h)

  one_kept_projects : (x : Instance) (s : Selected) (F : List (List Step)) → Selects s F → kept_one s x ≡ project_one F x
  one_kept_projects (atom v) s F h = refl
  one_kept_projects (inner n) s F h = ap inner (kept_projects n s F h)
