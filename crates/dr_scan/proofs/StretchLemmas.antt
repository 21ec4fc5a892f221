-- A stretch of a walk over batches, over whatever columns begin so.
use Rattle.std.proofs.Common.{◌≡◌, ◌<◌, ◌≤◌, ◌+◌, ℕ, List, [], ◌∷◌, ◌++◌, length, drop, Bool, true, false, None, refl, sym, ap, subst, ◌∙◌, append-nil, true≢false, arith, Result, Ok, Err}
use Rattle.std.specs.Prelude.{◌==◌, if◌then◌else◌}
use Rattle.std.proofs.lemmas.Bool.{eqb-true, ne_eqb}
use Rattle.std.proofs.lemmas.Bool.Decides.{nat_tests}
use Rattle.std.proofs.lemmas.List.{length-map, drop-drop}
use Rattle.dr_meaning.specs.Schema.{Schema, depth, greatest_depth}
use Rattle.dr_meaning.specs.Path.{Leaf, paths_of_leaves}
use Rattle.dr_meaning.specs.Column.{Triplet, triplet}
use Rattle.dr_meaning.specs.Walk.{Move}
use Rattle.dr_levels.specs.Views.{move_view}
use Rattle.dr_levels.specs.declared.moves.Move.{Move as CodeMove}
use Rattle.dr_moves.specs.Leading.{Left}
use Rattle.dr_plan.specs.Planned.{plan_leaves}
use Rattle.dr_plan.specs.declared.plan.Plan.{Plan}
use Rattle.dr_walk.specs.Batches.{IsOver, EndsWith, Shrinks, is_last, GoesOver, NestsOver}
use Rattle.dr_walk.specs.declared.batches.Turned.{Turned}
use Rattle.dr_walk.specs.declared.fault.AssembleFault.{AssembleFault}
use Rattle.dr_walk.specs.declared.level_walk.LevelWalk.{LevelWalk}
use Rattle.dr_within.specs.Rows.{HasRead, IsOfLeaf}
use Rattle.dr_within.specs.declared.row.Row.{Row}
use Rattle.dr_scan.specs.Makings.{Makes}
use Rattle.dr_scan.specs.Streamed.{Extends, IsStreamed, IsScanned, EndsStretch}
use Rattle.dr_scan.specs.declared.making.Making.{Making}
use Rattle.dr_scan.specs.declared.stretch.Stretch.{Stretch}
use Rattle.dr_scan.proofs.LeafLemmas.{leaf_within}
use Rattle.dr_scan.proofs.Tabulated.{tabulated, tabulated_length, tabulated_is}

-- ---- of each batch a front is passed

pub shrinks_not : (here : Left) → Shrinks here here
shrinks_not here i = (0, refl)

pub shrinks_more : (a b c : Left) → Shrinks a b → Shrinks b c → Shrinks a c
shrinks_more a b c h k i = ((h i).0 + (k i).0, (k i).1 ∙ (ap (drop (k i).0) (h i).1 ∙ drop-drop (k i).0 (h i).0 (a i)))

-- ---- columns that begin with what was given

-- what was given, with what comes later
extended : (n : ℕ) (given : Left) (ended : List Bool) (later : Left) → ((i : ℕ) → n ≤ i → given i ≡ []) → ((i : ℕ) → n ≤ i → later i ≡ []) → EndsWith ended later
    → Extends n given ended (tabulated n (λ i. given i ++ later i)) later
extended n given ended later g l e = (
  tabulated_length n (λ i. given i ++ later i),
  tabulated_is n (λ i. given i ++ later i) (λ i h. ap (λ (ts : List Triplet). ts ++ later i) (g i h) ∙ l i h),
  e,
)

abbrev pub nothing_later : Left
nothing_later i = []

-- what was given, and nothing later
abbrev pub given_columns : ℕ → Left → List (List Triplet)
given_columns n given = tabulated n (λ i. given i ++ [])

given_alone : (n : ℕ) (given : Left) (ended : List Bool) → ((i : ℕ) → n ≤ i → given i ≡ []) → Extends n given ended (given_columns n given) nothing_later
given_alone n given ended g = extended n given ended nothing_later g (λ i h. refl) (λ i e. refl)

-- one more triplet of one leaf
abbrev one_later : ℕ → Left
one_later k i = if i == k then triplet 0 0 None ∷ [] else []

never : 1 ≤ 0 → ⊥
never x = omega (arith, x)

more_of_one : (n k : ℕ) (given : Left) (ended : List Bool) → ((i : ℕ) → n ≤ i → given i ≡ []) → k < n → is_last ended k ≡ false → Extends n given ended (tabulated n (λ i. given i ++ one_later k i)) (one_later k)
more_of_one n k given ended g l e = extended n given ended (one_later k) g past last
  where
    none : (i : ℕ) → (i == k) ≡ false → one_later k i ≡ []
    none i q = rw q refl

    past : (i : ℕ) → n ≤ i → one_later k i ≡ []
    past i h = none i (ne_eqb i k (λ q. never (omega (arith, h, l, q))))

    last : (i : ℕ) → is_last ended i ≡ true → one_later k i ≡ []
    last i h = by_bit (i == k) refl
      where
        by_bit : (b : Bool) → (i == k) ≡ b → one_later k i ≡ []
        by_bit true q = absurd (true≢false (sym h ∙ ap (is_last ended) (eqb-true i k q) ∙ e))
        by_bit false q = none i q

-- ---- by what a call of the walk answers

-- what is said of a call, over whatever columns begin so
abbrev pub GoesStreamed : Schema → Plan → ℕ → Left → List Bool → List Move → LevelWalk → Left → Result Turned AssembleFault → Type 0
GoesStreamed s p rows given ended ms w here r = (C : List (List Triplet)) (later : Left) → Extends (length (plan_leaves p)) given ended C later → GoesOver s.fields (paths_of_leaves (plan_leaves p)) C rows ms later w here r

module _ (s : Schema) (p : Plan) (rows : ℕ) (given : Left) (ended : List Bool) where
  pub goes_streamed : (ms : List Move) (v w : LevelWalk) (before here : Left) (r : Result Turned AssembleFault) → IsStreamed s p rows given ended ms v before
      → ((C : List (List Triplet)) (later : Left) → EndsWith ended later → IsOver s.fields (paths_of_leaves (plan_leaves p)) C rows ms v before later → GoesOver s.fields (paths_of_leaves (plan_leaves p)) C rows ms later w here r)
      → GoesStreamed s p rows given ended ms w here r
  goes_streamed ms v w before here r h goes C later e = goes C later e.2 (h.over C later e)

  witness : (ms : List Move) (w : LevelWalk) (here : Left) → IsStreamed s p rows given ended ms w here → Extends (length (plan_leaves p)) given ended (given_columns (length (plan_leaves p)) given) nothing_later
  witness ms w here h = given_alone (length (plan_leaves p)) given ended h.past

  -- the walk stands over columns
  pub first_over : (ms : List Move) (w : LevelWalk) (here : Left) → IsStreamed s p rows given ended ms w here
      → (C : List (List Triplet)) × (later : Left) × EndsWith ended later × IsOver s.fields (paths_of_leaves (plan_leaves p)) C rows ms w here later
  first_over ms w here h = (given_columns (length (plan_leaves p)) given, nothing_later, λ i e. refl, h.over _ _ (witness ms w here h))

  pub deep_enough : (ms : List Move) (w : LevelWalk) (here : Left) → IsStreamed s p rows given ended ms w here → depth s.fields ≤ greatest_depth
  deep_enough ms w here h = (first_over ms w here h).3.at.deep

  pub heard_scanned : (ms : List Move) (v w : LevelWalk) (before here : Left) (m : Making) (r : Row) (a : Turned) → IsScanned s p rows given ended ms v before m r → a ≡ Turned.Heard → GoesStreamed s p rows given ended ms w here (Ok a)
      → IsScanned s p rows given ended ms w here m r
  heard_scanned ms v w before here m r a h e goes =
      let g = subst (λ (b : Turned). GoesStreamed s p rows given ended ms w here (Ok b)) e goes in
      record { streamed = record { over = g; past = h.streamed.past; nests = h.streamed.nests }; makes = h.makes; reads = h.reads }

  pub gave_scanned : (ms : List Move) (v w : LevelWalk) (before here : Left) (old new : Making) (q r : Row) (a : Turned) (x : CodeMove) → IsScanned s p rows given ended ms v before old q → a ≡ Turned.Gave x
      → GoesStreamed s p rows given ended ms w here (Ok a) → NestsOver s.fields (plan_leaves p) ms (Ok a)
      → ((t : Schema) (o : Plan) (ns : List Move) → Makes t o ns old → HasRead (length (plan_leaves o)) ns q → IsOfLeaf (length (plan_leaves o)) (move_view x) → Makes t o (ns ++ move_view x ∷ []) new)
      → ((n : ℕ) (ns : List Move) → HasRead n ns q → IsOfLeaf n (move_view x) → HasRead n (ns ++ move_view x ∷ []) r) → IsScanned s p rows given ended (ms ++ move_view x ∷ []) w here new r
  gave_scanned ms v w before here old new q r a x h e goes nests step more =
      let g = subst (λ (b : Turned). GoesStreamed s p rows given ended ms w here (Ok b)) e goes in
      let first = g (given_columns (length (plan_leaves p)) given) nothing_later (witness ms v before h.streamed) in
      let within = leaf_within (length (plan_leaves p)) x (λ i k. subst (λ (n : ℕ). i < n) (length-map (plan_leaves p) (λ (l : Leaf). l.path)) (first.1 i k)) in
      record {
        streamed = record {
          over = λ C later k. (g C later k).0;
          past = h.streamed.past;
          nests = subst (λ (b : Turned). NestsOver s.fields (plan_leaves p) ms (Ok b)) e nests;
        };
        makes = step s p ms h.makes h.reads within;
        reads = more (length (plan_leaves p)) ms h.reads within;
      }

  pub wants_stretch : (ms : List Move) (v w : LevelWalk) (before here : Left) (m : Making) (r : Row) (a : Turned) (i : ℕ) → IsScanned s p rows given ended ms v before m r → a ≡ Turned.Wants i
      → GoesStreamed s p rows given ended ms w here (Ok a) → is_last ended i ≡ false → EndsStretch s p rows given ended w here m r (Ok (Stretch.Wants i))
  wants_stretch ms v w before here m r a i h e goes more =
      let g = subst (λ (b : Turned). GoesStreamed s p rows given ended ms w here (Ok b)) e goes in
      let first = g (given_columns (length (plan_leaves p)) given) nothing_later (witness ms v before h.streamed) in (
        ms,
        record { streamed = record { over = λ C later k. (g C later k).0; past = h.streamed.past; nests = h.streamed.nests }; makes = h.makes; reads = h.reads },
        record {
          wanted = first.1;
          passed = first.2;
          within = subst (λ (n : ℕ). i < n) (length-map (plan_leaves p) (λ (l : Leaf). l.path)) (first.0.at.wants i first.1);
          goes_on = more;
        },
      )

  pub ended_stretch : (ms : List Move) (v w : LevelWalk) (before here : Left) (m : Making) (r : Row) (a : Turned) → IsScanned s p rows given ended ms v before m r → a ≡ Turned.Ended
      → GoesStreamed s p rows given ended ms w here (Ok a) → EndsStretch s p rows given ended w here m r (Ok Stretch.Ended)
  ended_stretch ms v w before here m r a h e goes =
      let n = length (plan_leaves p) in
      let g = subst (λ (b : Turned). GoesStreamed s p rows given ended ms w here (Ok b)) e goes in
      let alone = witness ms v before h.streamed in
      let first = g (given_columns n given) nothing_later alone in
      record {
        columns = given_columns n given;
        records = first.0;
        have = first.1;
        makes = subst (λ (ns : List Move). Makes s p ns m) (sym first.2) h.makes;
        given_all = (alone.0, λ i. alone.1 i ∙ append-nil (given i));
        ends = λ i l. by_bit i l (is_last ended i) refl g;
      }
    where
      same : (i : ℕ) → (i == i) ≡ true
      same i = grind (arith, nat_tests)

      some_is_none : (i : ℕ) → one_later i i ≡ [] → ⊥
      some_is_none i q = let z : triplet 0 0 None ∷ [] ≡ [] = sym (rw (same i) refl) ∙ q in cc

      by_bit : (i : ℕ) → i < length (plan_leaves p) → (b : Bool) → is_last ended i ≡ b → GoesStreamed s p rows given ended ms w here (Ok Turned.Ended) → is_last ended i ≡ true
      by_bit i l true q g = q
      by_bit i l false q g =
          absurd (some_is_none i ((g (tabulated (length (plan_leaves p)) (λ j. given j ++ one_later i j)) (one_later i) (more_of_one (length (plan_leaves p)) i given ended h.streamed.past l q)).3 i))

  pub fails_stretch : (ms : List Move) (w : LevelWalk) (here : Left) (m : Making) (r : Row) (f : AssembleFault) → GoesStreamed s p rows given ended ms w here (Err f) → EndsStretch s p rows given ended w here m r (Err f)
  fails_stretch ms w here m r AssembleFault.BadData goes = goes
  fails_stretch ms w here m r AssembleFault.NoMemory goes = tt
