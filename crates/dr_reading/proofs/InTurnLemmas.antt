-- What one link reads of the tablets of a table, one after another.
use Rattle.std.proofs.Common.{◌≡◌, ◌≤◌, ℕ, suc, ◌+◌, inl, inr, List, [], ◌∷◌, ◌++◌, length, Option, Some, None, refl, sym, ap, ◌∙◌, subst, append_assoc, append-nil, arith}
use Rattle.std.specs.Prelude.{IsTrue}
use Rattle.dr_meaning.specs.Schema.{Schema}
use Rattle.dr_meaning.specs.Path.{Leaf}
use Rattle.dr_meaning.specs.Record.{Node}
use Rattle.dr_outside.specs.Faults.{raised}
use Rattle.dr_outside.specs.Link.{Files, LinkShown, Holds}
use Rattle.dr_outside.proofs.FaultLemmas.{raised_never_falls}
use Rattle.dr_outside.specs.declared.cause.Cause.{Cause}
use Rattle.dr_reading.specs.Held.{held_at}
use Rattle.dr_reading.specs.Causes.{IsJustified, LeadTo, RisesApart}
use Rattle.dr_reading.specs.Scan.{Copy}
use Rattle.dr_reading.specs.Given.{SomeIsFile, IsGiven, AreGiven}
use Rattle.dr_reading.specs.Left.{Tried, IsCauseAt, AreTried, LeavesJust, no_tablets, is_answered, is_left, causes_of, causes_met}
use Rattle.dr_reading.specs.InTurn.{TabletRead, read_given, read_left, FirstGives, IsTabletRead, AreRead, causes_at, causes_in, left_from, records_in, ReadsInTurn}
use Rattle.dr_reading.specs.ReadingLaws.{ReadInTurnIsGiven, ReadInTurnLeavesJust, LeftRiseApart}

-- ---- counts

pub lead_join : (start middle end : ℕ) (cs ds : List Cause) → LeadTo start cs middle → LeadTo middle ds end → LeadTo start (cs ++ ds) end
lead_join start middle end [] ds h k = subst (λ (n : ℕ). LeadTo n ds end) h k
lead_join start middle end (Cause.ReadFailed before after ∷ cs) ds h k = (h.0, h.1, lead_join after middle end cs ds h.2 k)
lead_join start middle end (Cause.BadFooter ∷ cs) ds h k = lead_join start middle end cs ds h k
lead_join start middle end (Cause.BadSchema ∷ cs) ds h k = lead_join start middle end cs ds h k
lead_join start middle end (Cause.BadCodec ∷ cs) ds h k = lead_join start middle end cs ds h k
lead_join start middle end (Cause.BadData ∷ cs) ds h k = lead_join start middle end cs ds h k

-- a count that causes lead to isn't lower
lead_up : (start end : ℕ) (cs : List Cause) → LeadTo start cs end → start ≤ end
lead_up start end [] h = omega (arith, h)
lead_up start end (Cause.ReadFailed before after ∷ cs) h =
    let rest = lead_up after end cs h.2 in
    let up : start ≤ after = subst (λ (n : ℕ). start ≤ n) (sym h.1) (raised_never_falls start) in
    omega (arith, up, rest)
lead_up start end (Cause.BadFooter ∷ cs) h = lead_up start end cs h
lead_up start end (Cause.BadSchema ∷ cs) h = lead_up start end cs h
lead_up start end (Cause.BadCodec ∷ cs) h = lead_up start end cs h
lead_up start end (Cause.BadData ∷ cs) h = lead_up start end cs h

-- where the causes stand before others with rises apart from a higher count on
apart_before : (start middle end : ℕ) (cs ds : List Cause) → LeadTo start cs middle → ((a : ℕ) → a ≤ middle → RisesApart a ds end) → (b : ℕ) → b ≤ start → RisesApart b (cs ++ ds) end
apart_before start middle end [] ds h k b l = k b (omega (arith, l, h))
apart_before start middle end (Cause.ReadFailed before after ∷ cs) ds h k b l =
    let rose : raised start ≤ after = subst (λ (n : ℕ). raised start ≤ n) (sym h.1) (omega arith) in
    (omega (arith, l, h.0), subst (λ (n : ℕ). raised n ≤ after) (sym h.0) rose, apart_before after middle end cs ds h.2 k after (omega arith))
apart_before start middle end (Cause.BadFooter ∷ cs) ds h k b l = apart_before start middle end cs ds h k b l
apart_before start middle end (Cause.BadSchema ∷ cs) ds h k b l = apart_before start middle end cs ds h k b l
apart_before start middle end (Cause.BadCodec ∷ cs) ds h k b l = apart_before start middle end cs ds h k b l
apart_before start middle end (Cause.BadData ∷ cs) ds h k b l = apart_before start middle end cs ds h k b l

-- where causes lead through two lists, there is a number between
lead_apart : (start end : ℕ) (cs ds : List Cause) → LeadTo start (cs ++ ds) end → (middle : ℕ) × LeadTo start cs middle × LeadTo middle ds end
lead_apart start end [] ds h = (start, refl, h)
lead_apart start end (Cause.ReadFailed before after ∷ cs) ds h = let r = lead_apart after end cs ds h.2 in (r.0, (h.0, h.1, r.1), r.2)
lead_apart start end (Cause.BadFooter ∷ cs) ds h = lead_apart start end cs ds h
lead_apart start end (Cause.BadSchema ∷ cs) ds h = lead_apart start end cs ds h
lead_apart start end (Cause.BadCodec ∷ cs) ds h = lead_apart start end cs ds h
lead_apart start end (Cause.BadData ∷ cs) ds h = lead_apart start end cs ds h

rises_of_left : (t start end : ℕ) (rs : List TabletRead) → LeadTo start (causes_in rs) end → (b : ℕ) → b ≤ start → RisesApart b (causes_met (left_from t rs)) end
rises_of_left t start end [] h b l = omega (arith, l, h)
rises_of_left t start end (read_given ts R ∷ rs) h b l =
    let m = lead_apart start end (causes_of ts) (causes_in rs) h in
    let up = lead_up start m.0 (causes_of ts) m.1 in
    rises_of_left (suc t) m.0 end rs m.2 b (omega (arith, l, up))
rises_of_left t start end (read_left ts ∷ rs) h b l =
    let m = lead_apart start end (causes_of ts) (causes_in rs) h in
    apart_before start m.0 end (causes_of ts) (causes_met (left_from (suc t) rs)) m.1 (rises_of_left (suc t) m.0 end rs m.2) b l

pub left_rise_apart : LeftRiseApart
left_rise_apart s F link now ts rs h = rises_of_left 0 link.faults now.faults rs h.counts link.faults (omega arith)

-- ---- what is given, and what is left

some_behind : (s : Schema) (F : List Leaf) (files : Files) (R : List Node) (c : Copy) (behind : List Copy) → SomeIsFile s F files (c ∷ []) R → SomeIsFile s F files (c ∷ behind) R
some_behind s F files R c behind (inl h) = inl h
some_behind s F files R c behind (inr h) = absurd h

given_first : (s : Schema) (F : List Leaf) (held : Option Files) (R : List Node) (c : Copy) (behind : List Copy) → IsGiven s F held (c ∷ []) R → IsGiven s F held (c ∷ behind) R
given_first s F None R c behind h = h
given_first s F (Some files) R c behind h = some_behind s F files R c behind h

given_behind : (s : Schema) (F : List Leaf) (held : Option Files) (R : List Node) (c : Copy) (cs : List Copy) → IsGiven s F held cs R → IsGiven s F held (c ∷ cs) R
given_behind s F None R c cs h = h
given_behind s F (Some files) R c cs h = inr h

-- what the first of the copies gives the tablet gives
pub first_gives : (s : Schema) (F : List Leaf) (link : LinkShown) (cs : List Copy) (ts : List Tried) (R : List Node) → FirstGives s F link cs ts R → IsGiven s F link.held cs R
first_gives s F link [] ts R h = absurd h
first_gives s F link (c ∷ cs) [] R h = given_first s F link.held R c cs h
first_gives s F link (c ∷ cs) (t ∷ ts) R h = given_behind s F link.held R c cs (first_gives s F link cs ts R h.2)

leave_just : (s : Schema) (F : List Leaf) (link : LinkShown) (t : ℕ) (ts : List (List Copy)) (rs : List TabletRead) → AreRead s F link ts rs → LeavesJust s F link t ts (left_from t rs)
leave_just s F link t [] [] h = no_tablets t
leave_just s F link t [] (r ∷ rs) h = absurd h
leave_just s F link t (cs ∷ ts) [] h = absurd h
leave_just s F link t (cs ∷ ts) (read_given us R ∷ rs) h = is_answered t cs ts (left_from (suc t) rs) (R, first_gives s F link cs us R h.0) (leave_just s F link (suc t) ts rs h.1)
leave_just s F link t (cs ∷ ts) (read_left us ∷ rs) h = is_left t cs ts (left_from (suc t) rs) us h.0 (leave_just s F link (suc t) ts rs h.1)

pub read_in_turn_leaves_just : ReadInTurnLeavesJust
read_in_turn_leaves_just s F link ts rs h = leave_just s F link 0 ts rs h

are_given : (s : Schema) (F : List Leaf) (link : LinkShown) (t : ℕ) (ts : List (List Copy)) (rs : List TabletRead) → AreRead s F link ts rs → left_from t rs ≡ [] → AreGiven s F link.held ts (records_in rs)
are_given s F link t [] [] h e = tt
are_given s F link t [] (r ∷ rs) h e = absurd h
are_given s F link t (cs ∷ ts) [] h e = absurd h
are_given s F link t (cs ∷ ts) (read_given us R ∷ rs) h e = (first_gives s F link cs us R h.0, are_given s F link (suc t) ts rs h.1 e)
are_given s F link t (cs ∷ ts) (read_left us ∷ rs) h e = cc

pub read_in_turn_is_given : ReadInTurnIsGiven
read_in_turn_is_given s F link ts rs h e = are_given s F link 0 ts rs h e

-- ---- one tablet more

-- what was read of a link that shows what it showed, and is steady where it was
tried_at : (s : Schema) (F : List Leaf) (l was : LinkShown) (cs : List Copy) (ts : List Tried) → was.held ≡ l.held → (IsTrue l.is_steady → IsTrue was.is_steady) → AreTried s F was cs ts → AreTried s F l cs ts
tried_at s F l was [] [] e w h = tt
tried_at s F l was [] (t ∷ ts) e w h = absurd h
tried_at s F l was (c ∷ cs) [] e w h = absurd h
tried_at s F l was (c ∷ cs) (t ∷ ts) e w h = (h.0, cause_at s F l was c.path t.cause e w h.1, tried_at s F l was cs ts e w h.2)
  where
    cause_at : (s : Schema) (F : List Leaf) (l was : LinkShown) (path : List ℕ) (c : Cause) → was.held ≡ l.held → (IsTrue l.is_steady → IsTrue was.is_steady) → IsCauseAt s F was path c → IsCauseAt s F l path c
    cause_at s F l was path c e w h =
        (subst (λ (x : Option Files). IsJustified s F (held_at x path) c) e h.0, λ is holds. h.1 (w is) (subst (λ (x : Option Files). Holds x path) (sym e) holds))

gives_at : (s : Schema) (F : List Leaf) (l was : LinkShown) (cs : List Copy) (ts : List Tried) (R : List Node) → was.held ≡ l.held → (IsTrue l.is_steady → IsTrue was.is_steady) → FirstGives s F was cs ts R → FirstGives s F l cs ts R
gives_at s F l was [] ts R e w h = absurd h
gives_at s F l was (c ∷ cs) [] R e w h = subst (λ (x : Option Files). IsGiven s F x (c ∷ []) R) e h
gives_at s F l was (c ∷ cs) (t ∷ ts) R e w h = (
  h.0,
  (subst (λ (x : Option Files). IsJustified s F (held_at x c.path) t.cause) e h.1.0, λ is holds. h.1.1 (w is) (subst (λ (x : Option Files). Holds x c.path) (sym e) holds)),
  gives_at s F l was cs ts R e w h.2,
)

read_at : (s : Schema) (F : List Leaf) (l was : LinkShown) (cs : List Copy) (r : TabletRead) → was.held ≡ l.held → (IsTrue l.is_steady → IsTrue was.is_steady) → IsTabletRead s F was cs r → IsTabletRead s F l cs r
read_at s F l was cs (read_given ts R) e w h = gives_at s F l was cs ts R e w h
read_at s F l was cs (read_left ts) e w h = tried_at s F l was cs ts e w h

each_more : (s : Schema) (F : List Leaf) (l : LinkShown) (ts : List (List Copy)) (rs : List TabletRead) (cs : List Copy) (r : TabletRead) → AreRead s F l ts rs → IsTabletRead s F l cs r → AreRead s F l (ts ++ cs ∷ []) (rs ++ r ∷ [])
each_more s F l [] [] cs r h k = (k, tt)
each_more s F l [] (x ∷ rs) cs r h k = absurd h
each_more s F l (xs ∷ ts) [] cs r h k = absurd h
each_more s F l (xs ∷ ts) (x ∷ rs) cs r h k = (h.0, each_more s F l ts rs cs r h.1 k)

causes_more : (rs : List TabletRead) (r : TabletRead) → causes_in (rs ++ r ∷ []) ≡ causes_in rs ++ causes_at r
causes_more [] r = append-nil (causes_at r)
causes_more (x ∷ rs) r = ap (λ cs. causes_at x ++ cs) (causes_more rs r) ∙ sym (append_assoc (causes_at x) (causes_in rs) (causes_at r))

-- no tablets
pub reads_none : (s : Schema) (F : List Leaf) (l : LinkShown) → ReadsInTurn s F l l [] []
reads_none s F l = record { each = tt; counts = refl }

-- with one tablet more, which the link read from what it showed then to what it shows now
pub reads_more : (s : Schema) (F : List Leaf) (l was now : LinkShown) (ts : List (List Copy)) (rs : List TabletRead) (cs : List Copy) (r : TabletRead) → was.held ≡ l.held → (IsTrue l.is_steady → IsTrue was.is_steady)
    → ReadsInTurn s F l was ts rs → IsTabletRead s F was cs r → LeadTo was.faults (causes_at r) now.faults → ReadsInTurn s F l now (ts ++ cs ∷ []) (rs ++ r ∷ [])
reads_more s F l was now ts rs cs r e w h k c = record {
  each = each_more s F l ts rs cs r h.each (read_at s F l was cs r e w k);
  counts = subst (λ (cs : List Cause). LeadTo l.faults cs now.faults) (sym (causes_more rs r)) (lead_join l.faults was.faults now.faults (causes_in rs) (causes_at r) h.counts c);
}

-- as many as there are tablets
pub as_many_read : (s : Schema) (F : List Leaf) (l : LinkShown) (ts : List (List Copy)) (rs : List TabletRead) → AreRead s F l ts rs → length rs ≡ length ts
as_many_read s F l [] [] h = refl
as_many_read s F l [] (r ∷ rs) h = absurd h
as_many_read s F l (cs ∷ ts) [] h = absurd h
as_many_read s F l (cs ∷ ts) (r ∷ rs) h = ap suc (as_many_read s F l ts rs h.1)

-- a tablet that gives records isn't left, and its records come last; one that gives none is the last that is left
left_more : (t m : ℕ) (rs : List TabletRead) (r : TabletRead) → t + length rs ≡ m → left_from t (rs ++ r ∷ []) ≡ left_from t rs ++ left_from m (r ∷ [])
left_more t m [] r e = ap (λ n. left_from n (r ∷ [])) (let q : t ≡ m = omega (arith, e) in q)
left_more t m (read_given ts R ∷ rs) r e = left_more (suc t) m rs r (omega (arith, e))
left_more t m (read_left ts ∷ rs) r e = ap (λ ls. record { tablet = t; tried = ts } ∷ ls) (left_more (suc t) m rs r (omega (arith, e)))

pub given_more : (rs : List TabletRead) (ts : List Tried) (R : List Node) → left_from 0 (rs ++ read_given ts R ∷ []) ≡ left_from 0 rs
given_more rs ts R = left_more 0 (length rs) rs (read_given ts R) (omega arith) ∙ append-nil (left_from 0 rs)

pub one_more_left : (n : ℕ) (rs : List TabletRead) (ts : List Tried) → length rs ≡ n → left_from 0 (rs ++ read_left ts ∷ []) ≡ left_from 0 rs ++ record { tablet = n; tried = ts } ∷ []
one_more_left n rs ts e = left_more 0 n rs (read_left ts) (omega (arith, e))

pub records_more : (rs : List TabletRead) (ts : List Tried) (R : List Node) → records_in (rs ++ read_given ts R ∷ []) ≡ records_in rs ++ R ∷ []
records_more [] ts R = refl
records_more (read_given us S ∷ rs) ts R = ap (λ Ss. S ∷ Ss) (records_more rs ts R)
records_more (read_left us ∷ rs) ts R = records_more rs ts R
