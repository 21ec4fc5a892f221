-- What the first link reads of the tablets in the closing round, one after another.
use Rattle.std.proofs.Common.{◌≡◌, ◌≤◌, ℕ, suc, ◌+◌, List, [], ◌∷◌, ◌++◌, length, Option, Some, None, refl, sym, ap, ◌∙◌, subst, append_assoc, append-nil, arith}
use Rattle.std.specs.Prelude.{IsTrue}
use Rattle.std.specs.List.{flat_map}
use Rattle.dr_meaning.specs.Schema.{Schema}
use Rattle.dr_meaning.specs.Path.{Leaf}
use Rattle.dr_meaning.specs.Record.{Node}
use Rattle.dr_formats.specs.TableFile.{Table}
use Rattle.dr_outside.specs.Link.{Files, LinkShown, Holds}
use Rattle.dr_outside.specs.declared.cause.Cause.{Cause}
use Rattle.dr_plan.specs.Planned.{plan_leaves}
use Rattle.dr_plan.specs.declared.plan.Plan.{Plan}
use Rattle.dr_reading.specs.Causes.{IsJustified, LeadTo, RisesApart}
use Rattle.dr_reading.specs.Given.{IsGiven}
use Rattle.dr_reading.specs.Held.{held_at}
use Rattle.dr_reading.specs.InTurn.{TabletRead, read_given, read_left, FirstGives, IsTabletRead, causes_at}
use Rattle.dr_reading.specs.Left.{LeftTablet, Tried, AreTried}
use Rattle.dr_reading.specs.Scan.{Copy, copies_from}
use Rattle.dr_reading.proofs.InTurnLemmas.{lead_join}
use Rattle.dr_scan.specs.Tables.{with_scanned}
use Rattle.dr_scan.specs.declared.tablet.Scanned.{Scanned}
use Rattle.dr_serve.specs.Closing.{IsOfRead, IsReadAs}
use Rattle.dr_serve.specs.Links.{Worked}
use Rattle.dr_serve.specs.Rounds.{OfEachFrom, IsRoundAt, causes_read, left_round, HasRead, Rounds}

-- ---- one more behind others

pub each_more : {A : Type 0} (P : ℕ → A → Type 0) (t m : ℕ) (xs : List A) (x : A) → OfEachFrom P t xs → t + length xs ≡ m → P m x → OfEachFrom P t (xs ++ x ∷ [])
each_more P t m [] x h e p = (subst (λ (n : ℕ). P n x) (let q : m ≡ t = omega (arith, e) in q) p, tt)
each_more P t m (y ∷ xs) x h e p = (h.0, each_more P (suc t) m xs x h.1 (omega (arith, e)) p)

pub length_one : {A : Type 0} (xs : List A) (x : A) → length (xs ++ x ∷ []) ≡ length xs + 1
length_one [] x = refl
length_one (y ∷ xs) x = let e = length_one xs x in omega (arith, e)

causes_more : (rs : List (Option TabletRead)) (o : Option TabletRead) → flat_map causes_read (rs ++ o ∷ []) ≡ flat_map causes_read rs ++ causes_read o
causes_more [] o = append-nil (causes_read o)
causes_more (r ∷ rs) o = ap (λ (cs : List Cause). causes_read r ++ cs) (causes_more rs o) ∙ sym (append_assoc (causes_read r) (flat_map causes_read rs) (causes_read o))

left_more : (t m : ℕ) (rs : List (Option TabletRead)) (o : Option TabletRead) → t + length rs ≡ m → left_round t (rs ++ o ∷ []) ≡ left_round t rs ++ left_round m (o ∷ [])
left_more t m [] o e = ap (λ (n : ℕ). left_round n (o ∷ [])) (let q : t ≡ m = omega (arith, e) in q)
left_more t m (None ∷ rs) o e = left_more (suc t) m rs o (omega (arith, e))
left_more t m (Some (read_given ts R) ∷ rs) o e = left_more (suc t) m rs o (omega (arith, e))
left_more t m (Some (read_left ts) ∷ rs) o e = ap (λ (ls : List LeftTablet). record { tablet = t; tried = ts } ∷ ls) (left_more (suc t) m rs o (omega (arith, e)))

-- ---- rises

pub rises_lower : (a b end : ℕ) (cs : List Cause) → a ≤ b → RisesApart b cs end → RisesApart a cs end
rises_lower a b end [] l h = omega (arith, l, h)
rises_lower a b end (Cause.ReadFailed before after ∷ cs) l h = (omega (arith, l, h.0), h.1, h.2)
rises_lower a b end (Cause.BadFooter ∷ cs) l h = rises_lower a b end cs l h
rises_lower a b end (Cause.BadSchema ∷ cs) l h = rises_lower a b end cs l h
rises_lower a b end (Cause.BadCodec ∷ cs) l h = rises_lower a b end cs l h
rises_lower a b end (Cause.BadData ∷ cs) l h = rises_lower a b end cs l h

pub rises_join : (a b end : ℕ) (cs ds : List Cause) → RisesApart a cs b → RisesApart b ds end → RisesApart a (cs ++ ds) end
rises_join a b end [] ds h k = rises_lower a b end ds h k
rises_join a b end (Cause.ReadFailed before after ∷ cs) ds h k = (h.0, h.1, rises_join after b end cs ds h.2 k)
rises_join a b end (Cause.BadFooter ∷ cs) ds h k = rises_join a b end cs ds h k
rises_join a b end (Cause.BadSchema ∷ cs) ds h k = rises_join a b end cs ds h k
rises_join a b end (Cause.BadCodec ∷ cs) ds h k = rises_join a b end cs ds h k
rises_join a b end (Cause.BadData ∷ cs) ds h k = rises_join a b end cs ds h k

pub rises_higher : (a b end : ℕ) (cs : List Cause) → b ≤ end → RisesApart a cs b → RisesApart a cs end
rises_higher a b end cs l h = subst (λ (ds : List Cause). RisesApart a ds end) (append-nil cs) (rises_join a b end cs [] h l)

-- ---- a link as it was before

pub tried_before : (s : Schema) (F : List Leaf) (l now : LinkShown) (cs : List Copy) (ts : List Tried) → now.held ≡ l.held → (IsTrue l.is_steady → IsTrue now.is_steady) → AreTried s F now cs ts → AreTried s F l cs ts
tried_before s F l now [] [] e w h = tt
tried_before s F l now [] (t ∷ ts) e w h = absurd h
tried_before s F l now (c ∷ cs) [] e w h = absurd h
tried_before s F l now (c ∷ cs) (t ∷ ts) e w h = (
  h.0,
  (subst (λ (x : Option Files). IsJustified s F (held_at x c.path) t.cause) e h.1.0, λ is holds. h.1.1 (w is) (subst (λ (x : Option Files). Holds x c.path) (sym e) holds)),
  tried_before s F l now cs ts e w h.2,
)

gives_before : (s : Schema) (F : List Leaf) (l now : LinkShown) (cs : List Copy) (ts : List Tried) (R : List Node) → now.held ≡ l.held → (IsTrue l.is_steady → IsTrue now.is_steady) → FirstGives s F now cs ts R → FirstGives s F l cs ts R
gives_before s F l now [] ts R e w h = absurd h
gives_before s F l now (c ∷ cs) [] R e w h = subst (λ (x : Option Files). IsGiven s F x (c ∷ []) R) e h
gives_before s F l now (c ∷ cs) (t ∷ ts) R e w h = (
  h.0,
  (subst (λ (x : Option Files). IsJustified s F (held_at x c.path) t.cause) e h.1.0, λ is holds. h.1.1 (w is) (subst (λ (x : Option Files). Holds x c.path) (sym e) holds)),
  gives_before s F l now cs ts R e w h.2,
)

read_before : (s : Schema) (F : List Leaf) (l now : LinkShown) (cs : List Copy) (r : TabletRead) → now.held ≡ l.held → (IsTrue l.is_steady → IsTrue now.is_steady) → IsTabletRead s F now cs r → IsTabletRead s F l cs r
read_before s F l now cs (read_given ts R) e w h = gives_before s F l now cs ts R e w h
read_before s F l now cs (read_left ts) e w h = tried_before s F l now cs ts e w h

-- ---- a tablet more

pub none_read : (t : Table) (F : List Leaf) (l : LinkShown) (left : List LeftTablet) → left ≡ [] → HasRead t F l l 0 left
none_read t F l left e = record { reads = []; count = refl; each = tt; counts = refl; left_are = e }

-- it has a piece, and nothing is read
pub read_skipped : (t : Table) (F : List Leaf) (l now : LinkShown) (m : ℕ) (left : List LeftTablet) → HasRead t F l now m left → HasRead t F l now (m + 1) left
read_skipped t F l now m left h = record {
  reads = h.reads ++ None ∷ [];
  count = length_one h.reads None ∙ ap (λ (n : ℕ). n + 1) h.count;
  each = each_more (IsRoundAt t F l) 0 m h.reads None h.each (omega (arith, h.count)) tt;
  counts = subst (λ (cs : List Cause). LeadTo l.faults cs now.faults) (sym (causes_more h.reads None ∙ append-nil (flat_map causes_read h.reads))) h.counts;
  left_are = h.left_are ∙ sym (left_more 0 m h.reads None (omega (arith, h.count)) ∙ append-nil (left_round 0 h.reads));
}

left_of_read : (m : ℕ) (r : TabletRead) (x : Scanned) (left : List LeftTablet) → IsOfRead r x → left ++ left_round m (Some r ∷ []) ≡ with_scanned m x left
left_of_read m (read_given ts R) (Scanned.Given p) left h = append-nil left
left_of_read m (read_given ts R) (Scanned.Left tried) left h = absurd h
left_of_read m (read_left ts) (Scanned.Given p) left h = absurd h
left_of_read m (read_left ts) (Scanned.Left tried) left h = ap (λ (us : List Tried). left ++ record { tablet = m; tried = us } ∷ []) (sym h)

-- it is read
pub read_more : (t : Table) (plan : Plan) (l was now : LinkShown) (m : ℕ) (x : Scanned) (left longer : List LeftTablet) → Worked t plan l was → HasRead t (plan_leaves plan) l was m left → IsReadAs t plan was now m x
    → longer ≡ with_scanned m x left → HasRead t (plan_leaves plan) l now (m + 1) longer
read_more t plan l was now m x left longer w h is e = record {
  reads = h.reads ++ Some is.0 ∷ [];
  count = length_one h.reads (Some is.0) ∙ ap (λ (n : ℕ). n + 1) h.count;
  each = each_more (IsRoundAt t (plan_leaves plan) l) 0 m h.reads (Some is.0) h.each (omega (arith, h.count))
      (read_before t.schema (plan_leaves plan) l was (copies_from t.leaves m 0 t.copies) is.0 w.same w.stays_steady is.1);
  counts = subst (λ (cs : List Cause). LeadTo l.faults cs now.faults) (sym (causes_more h.reads (Some is.0)))
      (lead_join l.faults was.faults now.faults (flat_map causes_read h.reads) (causes_at is.0) h.counts is.2);
  left_are = e ∙ (ap (with_scanned m x) h.left_are ∙ (sym (left_of_read m is.0 x (left_round 0 h.reads) is.3) ∙ sym (left_more 0 m h.reads (Some is.0) (omega (arith, h.count)))));
}

-- ---- after the workers

pub round_by : (t : Table) (plan : Plan) (F : List Leaf) (before middle now : LinkShown) (left : List LeftTablet) → plan_leaves plan ≡ F → Worked t plan before middle → HasRead t (plan_leaves plan) middle now t.tablets left → Rounds t F before now left
round_by t plan F before middle now left e w h = record {
  middle = middle;
  same = w.same;
  never_falls = w.never_falls;
  stays_steady = w.stays_steady;
  read = subst (λ (G : List Leaf). HasRead t G middle now t.tablets left) e h;
}
