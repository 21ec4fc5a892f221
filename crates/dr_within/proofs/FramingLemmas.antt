-- What was made in open branches, move by move.
use Rattle.std.proofs.Common.{◌≡◌, ◌+◌, ◌≤◌, ℕ, suc, List, [], ◌∷◌, ◌++◌, length, take, Bool, true, false, refl, sym, ap, subst, ◌∙◌, append-nil, true≢false, arith}
use Rattle.std.proofs.lemmas.Bool.{eqb-true}
use Rattle.std.specs.Prelude.{◌==◌, reverse, if◌then◌else◌, OnOk, Result, Ok, Err}
use Rattle.dr_memory.specs.declared.NoMemory.{NoMemory}
use Rattle.std.proofs.lemmas.List.{length-append, append_assoc, reverse-append}
use Rattle.dr_meaning.specs.Query.{Query}
use Rattle.dr_partials.specs.Partials.{Partial, empty_partial}
use Rattle.dr_partials.specs.Putting.{Put, put, put_all}
use Rattle.dr_plan.specs.Planned.{Planned, planned_query}
use Rattle.dr_group.specs.Partials.{partial_view, IsPartialOf}
use Rattle.dr_within.specs.Late.{IsWhole, rows_of}
use Rattle.dr_within.specs.Framing.{AreMarks, Holds, StaySettled, AllSettled}
use Rattle.dr_within.specs.declared.frames.Frames.{Frames}
use Rattle.dr_within.specs.declared.late.LateRows.{LateRows}

-- ---- puts, one list behind another

pub put_both : (q : Query) (ps rs : List Put) (r : Partial) → put_all q (ps ++ rs) r ≡ put_all q rs (put_all q ps r)
put_both q [] rs r = refl
put_both q (p ∷ ps) rs r = put_both q ps rs (put q p r)

-- ---- marks

pub stay_marked : (n : ℕ) (bs cs : List Bool) (gs ms : List ℕ) → AreMarks n bs gs ms → StaySettled bs cs → AreMarks n cs gs ms
stay_marked n [] [] [] [] h s = h
stay_marked n [] [] [] (m ∷ ms) h s = absurd h
stay_marked n [] [] (g ∷ gs) ms h s = absurd h
stay_marked n [] (c ∷ cs) gs ms h s = absurd s
stay_marked n (b ∷ bs) [] gs ms h s = absurd s
stay_marked n (b ∷ bs) (c ∷ cs) [] ms h s = absurd h
stay_marked n (b ∷ bs) (c ∷ cs) (g ∷ gs) [] h s = absurd h
stay_marked n (b ∷ bs) (c ∷ cs) (g ∷ gs) (m ∷ ms) h s = (λ e. h.0 (before b refl e), stay_marked n bs cs gs ms h.1 s.1)
  where
    before : (x : Bool) → b ≡ x → c ≡ false → b ≡ false
    before true q e = absurd (true≢false (sym (s.0 q) ∙ e))
    before false q e = q

-- where all are known to be kept the marks are of no account
pub all_marked : (n k : ℕ) (bs cs : List Bool) (gs ms : List ℕ) → AreMarks n bs gs ms → StaySettled bs cs → AllSettled cs → AreMarks k cs gs ms
all_marked n k [] [] [] [] h s a = h
all_marked n k [] [] [] (m ∷ ms) h s a = absurd h
all_marked n k [] [] (g ∷ gs) ms h s a = absurd h
all_marked n k [] (c ∷ cs) gs ms h s a = absurd s
all_marked n k (b ∷ bs) [] gs ms h s a = absurd s
all_marked n k (b ∷ bs) (c ∷ cs) [] ms h s a = absurd h
all_marked n k (b ∷ bs) (c ∷ cs) (g ∷ gs) [] h s a = absurd h
all_marked n k (b ∷ bs) (c ∷ cs) (g ∷ gs) (m ∷ ms) h s a = (λ e. absurd (true≢false (sym a.0 ∙ e)), all_marked n k bs cs gs ms h.1 s.1 a.1)

pub stays : (bs : List Bool) → StaySettled bs bs
stays [] = tt
stays (b ∷ bs) = (λ e. e, stays bs)

pub none_left : (ms : List ℕ) (n : ℕ) → n ≡ length ms → (n == 0) ≡ true → ms ≡ []
none_left [] n e z = refl
none_left (m ∷ ms) n e z = let q : n ≡ 0 = eqb-true n 0 z in absurd (never (omega (arith, e, q)))
  where
    never : 1 ≤ 0 → ⊥
    never x = omega (arith, x)

-- where nothing is open nothing has to be known
pub nothing_open : (n : ℕ) (bs : List Bool) (gs ms : List ℕ) → AreMarks n bs gs ms → ms ≡ [] → AllSettled bs
nothing_open n [] gs ms h e = tt
nothing_open n (b ∷ bs) [] ms h e = absurd h
nothing_open n (b ∷ bs) (g ∷ gs) [] h e = absurd h
nothing_open n (b ∷ bs) (g ∷ gs) (m ∷ ms) h e = absurd (cc)

-- ---- one move

module _ (p : Planned) (n : ℕ) where
  -- the same frames, given by their parts
  pub same_parts : (made : List Put) (settled : List Bool) (marks : List ℕ) (f g : Frames) → Holds p n made settled marks f → g.late ≡ f.late → g.partial ≡ f.partial → g.marks.items ≡ f.marks.items → Holds p n made settled marks g
  same_parts made settled marks f g h l x m = record {
    of_plan = subst (IsPartialOf p) (sym x) h.of_plan;
    given = h.given;
    partial = ap partial_view x ∙ h.partial;
    made_of = h.made_of ∙ ap (λ (r : LateRows). h.given ++ rows_of r) (sym l);
    whole = subst IsWhole (sym l) h.whole;
    width = ap (λ (r : LateRows). r.width) l ∙ h.width;
    marked = subst (λ (ms : List ℕ). AreMarks (length h.given) settled marks (reverse ms)) (sym m) h.marked;
  }

  pub entered : (made : List Put) (settled : List Bool) (marks : List ℕ) (b : Bool) (f g : Frames) → Holds p n made settled marks f → g.late ≡ f.late → g.partial ≡ f.partial
      → g.marks.items ≡ f.marks.items ++ length (rows_of f.late) ∷ [] → Holds p n made (b ∷ settled) (length made ∷ marks) g
  entered made settled marks b f g h l x m = record {
    of_plan = subst (IsPartialOf p) (sym x) h.of_plan;
    given = h.given;
    partial = ap partial_view x ∙ h.partial;
    made_of = h.made_of ∙ ap (λ (r : LateRows). h.given ++ rows_of r) (sym l);
    whole = subst IsWhole (sym l) h.whole;
    width = ap (λ (r : LateRows). r.width) l ∙ h.width;
    marked = subst (AreMarks (length h.given) (b ∷ settled) (length made ∷ marks)) (sym (ap reverse m ∙ reverse-append f.marks.items (length (rows_of f.late) ∷ []))) (λ e. ap length h.made_of ∙ length-append h.given (rows_of f.late), h.marked);
  }

  -- rows that are put at once, behind the late ones
  pub put_at_once : (made more : List Put) (settled later : List Bool) (marks : List ℕ) (f g : Frames) → Holds p n made settled marks f → StaySettled settled later → AllSettled later
      → IsPartialOf p g.partial → partial_view g.partial ≡ put_all (planned_query p) more (put_all (planned_query p) (rows_of f.late) (partial_view f.partial))
      → rows_of g.late ≡ [] → IsWhole g.late → g.late.width ≡ f.late.width → g.marks ≡ f.marks → Holds p n (made ++ more) later marks g
  put_at_once made more settled later marks f g h s a o x r w d m = record {
    of_plan = o;
    given = (h.given ++ rows_of f.late) ++ more;
    partial = x ∙ ap (λ y. put_all q more (put_all q (rows_of f.late) y)) h.partial ∙ ap (put_all q more) (sym (put_both q h.given (rows_of f.late) (empty_partial q))) ∙ sym (put_both q (h.given ++ rows_of f.late) more (empty_partial q));
    made_of = ap (λ (ps : List Put). ps ++ more) h.made_of ∙ sym (append-nil ((h.given ++ rows_of f.late) ++ more)) ∙ ap (λ (ps : List Put). ((h.given ++ rows_of f.late) ++ more) ++ ps) (sym r);
    whole = w;
    width = d ∙ h.width;
    marked = all_marked (length h.given) (length ((h.given ++ rows_of f.late) ++ more)) settled later marks (reverse g.marks.items)
        (subst (λ ms. AreMarks (length h.given) settled marks (reverse ms.items)) (sym m) h.marked) s a;
  }
    where
      q : Query
      q = planned_query p

  -- rows that are kept for later
  pub put_later : (made more : List Put) (settled later : List Bool) (marks : List ℕ) (f g : Frames) → Holds p n made settled marks f → StaySettled settled later
      → g.partial ≡ f.partial → rows_of g.late ≡ rows_of f.late ++ more → IsWhole g.late → g.late.width ≡ f.late.width → g.marks ≡ f.marks → Holds p n (made ++ more) later marks g
  put_later made more settled later marks f g h s x r w d m = record {
    of_plan = subst (IsPartialOf p) (sym x) h.of_plan;
    given = h.given;
    partial = ap partial_view x ∙ h.partial;
    made_of = ap (λ (ps : List Put). ps ++ more) h.made_of ∙ append_assoc h.given (rows_of f.late) more ∙ ap (λ (ps : List Put). h.given ++ ps) (sym r);
    whole = w;
    width = d ∙ h.width;
    marked = stay_marked (length h.given) settled later marks (reverse g.marks.items) (subst (λ ms. AreMarks (length h.given) settled marks (reverse ms.items)) (sym m) h.marked) s;
  }

  -- ---- out of a branch

  taken_behind : (ps rs : List Put) (g m : ℕ) → g ≡ length ps + m → take g (ps ++ rs) ≡ ps ++ take m rs
  taken_behind ps rs g m e = ap (λ k. take k (ps ++ rs)) e ∙ by_parts ps
    where
      by_parts : (ps : List Put) → take (length ps + m) (ps ++ rs) ≡ ps ++ take m rs
      by_parts [] = let z : 0 + m ≡ m = omega arith in ap (λ k. take k rs) z
      by_parts (x ∷ xs) = let z : length (x ∷ xs) + m ≡ suc (length xs + m) = omega arith in ap (λ k. take k (x ∷ (xs ++ rs))) z ∙ ap (λ ys. x ∷ ys) (by_parts xs)

  pub left_front : (front : List ℕ) (mark : ℕ) (items : List ℕ) → items ≡ front ++ mark ∷ [] → reverse items ≡ mark ∷ reverse front
  left_front front mark items e = ap reverse e ∙ reverse-append front (mark ∷ [])

  -- the innermost branch is dropped
  pub cut_off : (made : List Put) (b : Bool) (settled : List Bool) (m : ℕ) (marks : List ℕ) (mark : ℕ) (f g : Frames) → Holds p n made (b ∷ settled) (m ∷ marks) f → b ≡ false
      → f.marks.items ≡ g.marks.items ++ mark ∷ [] → g.partial ≡ f.partial → rows_of g.late ≡ take mark (rows_of f.late) → IsWhole g.late → g.late.width ≡ f.late.width
      → Holds p n (take m made) settled marks g
  cut_off made b settled m marks mark f g h z e x r w d =
      let k = subst (AreMarks (length h.given) (b ∷ settled) (m ∷ marks)) (left_front g.marks.items mark f.marks.items e) h.marked in
      record {
        of_plan = subst (IsPartialOf p) (sym x) h.of_plan;
        given = h.given;
        partial = ap partial_view x ∙ h.partial;
        made_of = ap (take m) h.made_of ∙ taken_behind h.given (rows_of f.late) m mark (k.0 z) ∙ ap (λ (ps : List Put). h.given ++ ps) (sym r);
        whole = w;
        width = d ∙ h.width;
        marked = k.1;
      }

  -- or it isn't
  pub left_kept : (made : List Put) (b : Bool) (settled : List Bool) (m : ℕ) (marks : List ℕ) (mark : ℕ) (f g : Frames) → Holds p n made (b ∷ settled) (m ∷ marks) f
      → f.marks.items ≡ g.marks.items ++ mark ∷ [] → g.partial ≡ f.partial → g.late ≡ f.late → Holds p n made settled marks g
  left_kept made b settled m marks mark f g h e x l =
      let k = subst (AreMarks (length h.given) (b ∷ settled) (m ∷ marks)) (left_front g.marks.items mark f.marks.items e) h.marked in
      record {
        of_plan = subst (IsPartialOf p) (sym x) h.of_plan;
        given = h.given;
        partial = ap partial_view x ∙ h.partial;
        made_of = h.made_of ∙ ap (λ (r : LateRows). h.given ++ rows_of r) (sym l);
        whole = subst IsWhole (sym l) h.whole;
        width = ap (λ (r : LateRows). r.width) l ∙ h.width;
        marked = k.1;
      }

  -- the same, by whether it is dropped
  pub cut_if : (x : Bool) (made other : List Put) (b : Bool) (settled : List Bool) (m : ℕ) (marks : List ℕ) (mark : ℕ) (f g : Frames) → x ≡ true → Holds p n made (b ∷ settled) (m ∷ marks) f → b ≡ false
      → f.marks.items ≡ g.marks.items ++ mark ∷ [] → g.partial ≡ f.partial → rows_of g.late ≡ take mark (rows_of f.late) → IsWhole g.late → g.late.width ≡ f.late.width
      → Holds p n (if x then take m made else other) settled marks g
  cut_if x made other b settled m marks mark f g t h z e q r w d = subst (λ (y : Bool). Holds p n (if y then take m made else other) settled marks g) (sym t) (cut_off made b settled m marks mark f g h z e q r w d)

  pub kept_if : (x : Bool) (cut made : List Put) (settled : List Bool) (marks : List ℕ) (g : Frames) → x ≡ false → Holds p n made settled marks g → Holds p n (if x then cut else made) settled marks g
  kept_if x cut made settled marks g t h = subst (λ (y : Bool). Holds p n (if y then cut else made) settled marks g) (sym t) h

-- ---- where a call succeeds

pub on_ok : {A : Type 0} (r : Result A NoMemory) (P Q : Type 0) → (Q → P) → OnOk r Q → OnOk r P
on_ok (Ok a) P Q f h = f h
on_ok (Err e) P Q f h = tt

pub on_both : {A : Type 0} (r : Result A NoMemory) (P Q S : Type 0) → (Q → S → P) → OnOk r Q → OnOk r S → OnOk r P
on_both (Ok a) P Q S f h k = f h k
on_both (Err e) P Q S f h k = tt
