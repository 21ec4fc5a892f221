-- Runs of objects: one more, and one after another.
use Rattle.std.proofs.Common.{◌≡◌, ◌≢◌, ◌<◌, ◌≤◌, ◌+◌, ◌-◌, ℕ, zero, suc, List, [], ◌∷◌, ◌++◌, length, take, drop, get_or, Bool, true, false, refl, sym, ap, ap₂, subst, ◌∙◌, append-nil, append_assoc, arith}
use Rattle.std.specs.Prelude.{map, ◌==◌, if◌then◌else◌}
use Rattle.std.proofs.lemmas.Bool.{eq-eqb, ne_eqb}
use Rattle.std.proofs.lemmas.List.{map-append, length-append}
use Rattle.std.proofs.Math.Seq.{drop-cons, take-append_seam, drop-append_seam}
use Rattle.dr_meaning.specs.Query.{Object}
use Rattle.dr_cells.specs.Results.{ResultCell, object_cells, result_cells}
use Rattle.dr_cells.proofs.ReadingLemmas.{result_cells-append}
use Rattle.dr_made_laws.specs.ObjectFlow.{Made, built, objects_for}
use Rattle.dr_made_laws.specs.ObjectFlowLaws.{made_objects}
use Rattle.dr_within.specs.ObjectFraming.{IsRun, BeginsWithRun, AreRuns}
use Rattle.dr_within.specs.declared.built.Run.{Run}
use Rattle.dr_within.proofs.MadeParts.{objects_both, objects_for_both, run_objects, run_objects_for}

-- ---- one more

pub run_behind : (rs : List Run) (r : Run) (ms : List Made) (os : List Object) → AreRuns rs ms → IsRun r os → AreRuns (rs ++ r ∷ []) (ms ++ map (built r.level) os)
run_behind [] r ms os h w = record { objects = os; others = []; parts = ap (λ (x : List Made). x ++ map (built r.level) os) h ∙ sym (append-nil (map (built r.level) os)); run = w; behind = refl }
run_behind (s ∷ rs) r ms os h w = record {
  objects = h.objects;
  others = h.others ++ map (built r.level) os;
  parts = ap (λ (x : List Made). x ++ map (built r.level) os) h.parts ∙ append_assoc (map (built s.level) h.objects) h.others (map (built r.level) os);
  run = h.run;
  behind = run_behind rs r h.others os h.behind w;
}

-- as a part of the last one
pub run_joined : (rs : List Run) (last r both : Run) (ms : List Made) (os : List Object) → AreRuns (rs ++ last ∷ []) ms → last.level ≡ r.level
    → both ≡ record { level = last.level; count = last.count + r.count; cells = last.cells + r.cells } → IsRun r os → AreRuns (rs ++ both ∷ []) (ms ++ map (built r.level) os)
run_joined [] last r both ms os h l b w =
    let level : both.level ≡ r.level = ap (λ (x : Run). x.level) b ∙ l in
    let count : both.count ≡ last.count + r.count = ap (λ (x : Run). x.count) b in
    let cells : both.cells ≡ last.cells + r.cells = ap (λ (x : Run). x.cells) b in
    record {
      objects = h.objects ++ os;
      others = [];
      parts = ap (λ (x : List Made). x ++ map (built r.level) os) (h.parts ∙ ap (λ (x : List Made). map (built last.level) h.objects ++ x) h.behind ∙ append-nil (map (built last.level) h.objects) ∙ ap (λ (k : ℕ). map (built k) h.objects) l)
          ∙ sym (map-append (built r.level) h.objects os) ∙ ap (λ (k : ℕ). map (built k) (h.objects ++ os)) (sym level) ∙ sym (append-nil (map (built both.level) (h.objects ++ os)));
      run = record {
        count = omega (arith, count, h.run.count, w.count, length-append h.objects os);
        cells = omega (arith, cells, h.run.cells, w.cells, length-append (result_cells h.objects) (result_cells os), ap length (result_cells-append h.objects os));
      };
      behind = refl;
    }
run_joined (s ∷ rs) last r both ms os h l b w = record {
  objects = h.objects;
  others = h.others ++ map (built r.level) os;
  parts = ap (λ (x : List Made). x ++ map (built r.level) os) h.parts ∙ append_assoc (map (built s.level) h.objects) h.others (map (built r.level) os);
  run = h.run;
  behind = run_joined rs last r both h.others os h.behind l b w;
}

-- ---- one after another

-- so many runs stand for a front of what was made, the others for the rest
pub record RunsBehind (rs : List Run) (ms : List Made) (i : ℕ) (Front : List Made → Type 0) : Type 0 where
  pub front : List Made
  pub rest : List Made
  pub parts : ms ≡ front ++ rest
  pub so_far : Front front
  pub behind : AreRuns (drop i rs) rest

pub runs_start : (rs : List Run) (ms : List Made) (F : List Made → Type 0) → AreRuns rs ms → F [] → RunsBehind rs ms 0 F
runs_start rs ms F h f = record { front = []; rest = ms; parts = refl; so_far = f; behind = h }

pub runs_step : (rs : List Run) (ms : List Made) (i : ℕ) (r d : Run) (F G : List Made → Type 0) → i < length rs → r ≡ get_or rs i d
    → ((front rest : List Made) (os : List Object) → ms ≡ front ++ (map (built r.level) os ++ rest) → F front → IsRun r os → G (front ++ map (built r.level) os))
    → RunsBehind rs ms i F → RunsBehind rs ms (i + 1) G
runs_step rs ms i r d F G l e step h =
    let one : i + 1 ≡ suc i = omega arith in
    let there : drop i rs ≡ r ∷ drop (i + 1) rs = drop-cons rs i d l ∙ ap₂ (λ (x : Run) (k : ℕ). x ∷ drop k rs) (sym e) (sym one) in
    let b : BeginsWithRun r (AreRuns (drop (i + 1) rs)) h.rest = subst (λ (xs : List Run). AreRuns xs h.rest) there h.behind in
    let parts : ms ≡ h.front ++ (map (built r.level) b.objects ++ b.others) = h.parts ∙ ap (λ (x : List Made). h.front ++ x) b.parts in
    record {
      front = h.front ++ map (built r.level) b.objects;
      rest = b.others;
      parts = parts ∙ sym (append_assoc h.front (map (built r.level) b.objects) b.others);
      so_far = step h.front b.others b.objects parts h.so_far b.run;
      behind = b.behind;
    }

nothing_behind : (rs : List Run) (i : ℕ) (ms : List Made) → length rs ≤ i → AreRuns (drop i rs) ms → ms ≡ []
nothing_behind [] zero ms l h = h
nothing_behind [] (suc i) ms l h = h
nothing_behind (r ∷ rs) zero ms l h = absurd (omega (arith, l))
nothing_behind (r ∷ rs) (suc i) ms l h = nothing_behind rs i ms (omega (arith, l)) h

pub runs_end : (rs : List Run) (ms : List Made) (i : ℕ) (F : List Made → Type 0) → length rs ≤ i → RunsBehind rs ms i F → F ms
runs_end rs ms i F l h =
    subst F (sym (h.parts ∙ ap (λ (x : List Made). h.front ++ x) (nothing_behind rs i h.rest l h.behind) ∙ append-nil h.front)) h.so_far

-- the cells of a run
pub cells_within : (A B C : List ResultCell) (a b : ℕ) → a ≡ length A → b ≡ length B → take b (drop a (A ++ (B ++ C))) ≡ B
cells_within A B C a b e f =
    ap₂ (λ (x y : ℕ). take x (drop y (A ++ (B ++ C)))) f e ∙ ap (take (length B)) (drop-append_seam A (B ++ C)) ∙ take-append_seam B C

-- ---- what is known of a front, with one run more

pub count_more : (n m : ℕ) (r : Run) (front : List Made) (os : List Object) → n ≡ length (made_objects front) → IsRun r os → m ≡ n + r.count
    → m ≡ length (made_objects (front ++ map (built r.level) os))
count_more n m r front os h w e =
    let all : made_objects (front ++ map (built r.level) os) ≡ made_objects front ++ os = objects_both front (map (built r.level) os) ∙ ap (λ (x : List Object). made_objects front ++ x) (run_objects r.level os) in
    omega (arith, h, w.count, e, ap length all, length-append (made_objects front) os)

level_more : (k : ℕ) (r : Run) (front : List Made) (os : List Object) (b : Bool) → (r.level == k) ≡ b → objects_for k (front ++ map (built r.level) os) ≡ objects_for k front ++ (if b then os else [])
level_more k r front os b e =
    objects_for_both k front (map (built r.level) os) ∙ ap (λ (x : List Object). objects_for k front ++ x) (run_objects_for k r.level os ∙ ap (λ (x : Bool). if x then os else []) e)

pub level_count_more : (k n m : ℕ) (r : Run) (front : List Made) (os : List Object) → r.level ≡ k → n ≡ length (objects_for k front) → IsRun r os → m ≡ n + r.count
    → m ≡ length (objects_for k (front ++ map (built r.level) os))
level_count_more k n m r front os t h w e =
    omega (arith, h, w.count, e, ap length (level_more k r front os true (eq-eqb r.level k t)), length-append (objects_for k front) os)

pub level_count_same : (k n : ℕ) (r : Run) (front : List Made) (os : List Object) → r.level ≢ k → n ≡ length (objects_for k front)
    → n ≡ length (objects_for k (front ++ map (built r.level) os))
level_count_same k n r front os t h =
    h ∙ ap length (sym (level_more k r front os false (ne_eqb r.level k t) ∙ append-nil (objects_for k front)))

-- what is copied of the cells of objects
pub record Copied (k : ℕ) (before after : List ResultCell) (start : ℕ) (front : List Made) : Type 0 where
  pub start_is : start ≡ length (result_cells (made_objects front))
  pub cells : after ≡ before ++ result_cells (objects_for k front)

cells_of_both : (front : List Made) (k : ℕ) (os : List Object) → result_cells (made_objects (front ++ map (built k) os)) ≡ result_cells (made_objects front) ++ result_cells os
cells_of_both front k os =
    ap result_cells (objects_both front (map (built k) os) ∙ ap (λ (x : List Object). made_objects front ++ x) (run_objects k os)) ∙ result_cells-append (made_objects front) os

start_more : (start next : ℕ) (r : Run) (front : List Made) (os : List Object) → start ≡ length (result_cells (made_objects front)) → IsRun r os → next ≡ start + r.cells
    → next ≡ length (result_cells (made_objects (front ++ map (built r.level) os)))
start_more start next r front os h w e =
    omega (arith, h, w.cells, e, ap length (cells_of_both front r.level os), length-append (result_cells (made_objects front)) (result_cells os))

pub copied_more : (k : ℕ) (before after more all : List ResultCell) (start next : ℕ) (r : Run) (ms front rest : List Made) (os : List Object) → r.level ≡ k
    → all ≡ result_cells (made_objects ms) → ms ≡ front ++ (map (built r.level) os ++ rest) → more ≡ after ++ take r.cells (drop start all)
    → next ≡ start + r.cells → Copied k before after start front → IsRun r os → Copied k before more next (front ++ map (built r.level) os)
copied_more k before after more all start next r ms front rest os t a p m n h w =
    let parts : all ≡ result_cells (made_objects front) ++ (result_cells os ++ result_cells (made_objects rest)) =
    a ∙ ap (λ (x : List Made). result_cells (made_objects x)) (p ∙ sym (append_assoc front (map (built r.level) os) rest))
    ∙ ap result_cells (objects_both (front ++ map (built r.level) os) rest) ∙ result_cells-append (made_objects (front ++ map (built r.level) os)) (made_objects rest)
    ∙ ap (λ (x : List ResultCell). x ++ result_cells (made_objects rest)) (cells_of_both front r.level os)
    ∙ append_assoc (result_cells (made_objects front)) (result_cells os) (result_cells (made_objects rest)) in
    let copied : take r.cells (drop start all) ≡ result_cells os =
    ap (λ (x : List ResultCell). take r.cells (drop start x)) parts
    ∙ cells_within (result_cells (made_objects front)) (result_cells os) (result_cells (made_objects rest)) start r.cells h.start_is w.cells in
    record {
      start_is = start_more start next r front os h.start_is w n;
      cells = m ∙ ap₂ (λ (x y : List ResultCell). x ++ y) h.cells copied ∙ append_assoc before (result_cells (objects_for k front)) (result_cells os)
          ∙ ap (λ (x : List ResultCell). before ++ x) (sym (result_cells-append (objects_for k front) os) ∙ ap result_cells (sym (level_more k r front os true (eq-eqb r.level k t))));
    }

pub copied_same : (k : ℕ) (before after : List ResultCell) (start next : ℕ) (r : Run) (front : List Made) (os : List Object) → r.level ≢ k
    → next ≡ start + r.cells → Copied k before after start front → IsRun r os → Copied k before after next (front ++ map (built r.level) os)
copied_same k before after start next r front os t n h w = record {
  start_is = start_more start next r front os h.start_is w n;
  cells = h.cells ∙ ap (λ (x : List Object). before ++ result_cells x) (sym (level_more k r front os false (ne_eqb r.level k t) ∙ append-nil (objects_for k front)));
}

pub copied_as : (k : ℕ) (before cells same : List ResultCell) (start : ℕ) (front : List Made) → same ≡ cells → Copied k before cells start front → Copied k before same start front
copied_as k before cells same start front e h = record { start_is = h.start_is; cells = e ∙ h.cells }

-- ---- one object

pub object_run : (k : ℕ) (before : List ResultCell) (o : Object) (all first n : ℕ) → all ≡ length (before ++ object_cells o) → first ≡ length before → n ≡ all - first
    → IsRun (record { level = k; count = 1; cells = n }) (o ∷ [])
object_run k before o all first n a f e = record {
  count = refl;
  cells = omega (arith, a, f, e, length-append before (object_cells o), length-append (object_cells o) []);
}

pub one_object_more : (k : ℕ) (made : List Made) (o : Object) → result_cells (made_objects (made ++ built k o ∷ [])) ≡ result_cells (made_objects made) ++ object_cells o
one_object_more k made o =
    ap result_cells (objects_both made (built k o ∷ [])) ∙ result_cells-append (made_objects made) (o ∷ [])
    ∙ ap (λ (x : List ResultCell). result_cells (made_objects made) ++ x) (append-nil (object_cells o))
