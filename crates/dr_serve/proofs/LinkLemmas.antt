-- What a link shows after one piece of work and another.
use Rattle.std.proofs.Common.{◌≡◌, ◌<◌, ◌≤◌, ℕ, List, [], ◌∷◌, Bool, true, false, ◌||◌, Option, Some, None, refl, sym, ap, ◌∙◌, subst, true≢false, arith}
use Rattle.std.specs.Prelude.{IsTrue}
use Rattle.std.specs.List.{list_any}
use Rattle.std.proofs.lemmas.List.Folds.{list_any-append}
use Rattle.dr_meaning.specs.Path.{Leaf}
use Rattle.dr_formats.specs.Opening.{reader_ranges}
use Rattle.dr_formats.specs.TableFile.{Table}
use Rattle.dr_outside.specs.Link.{Files, LinkShown, Request, Lacks}
use Rattle.dr_outside.specs.Telling.{TellsFile, AsksOnly}
use Rattle.dr_chunk.proofs.AskLemmas.{asks_then}
use Rattle.dr_file.specs.Asking.{is_for_path, is_request_for}
use Rattle.dr_file.proofs.AskLemmas.{asks_weaker}
use Rattle.dr_plan.specs.Planned.{plan_leaves}
use Rattle.dr_plan.specs.declared.plan.Plan.{Plan}
use Rattle.dr_reading.specs.Scan.{Copy, copy_in, copies_from, tablets_of}
use Rattle.dr_scan.specs.Asked.{ranges_there, is_for_copy, is_for_tablet, is_for_tablets, is_at_copy, is_at_tablet, is_at_tablets, AsksHeld, AsksForTablets}
use Rattle.dr_scan.proofs.AskedTablets.{held_nothing, path_asks}
use Rattle.dr_serve.specs.Links.{Worked}
use Rattle.dr_serve.proofs.LeafLemmas.{IsOneOf, IsOfTable, tablet_among}

-- ---- what is asked

asks_wider : (u v : Request → Bool) (p q : Files → Request → Bool) (held : Option Files) (a b : Option (List Request)) → ((r : Request) → u r ≡ true → v r ≡ true)
    → ((files : Files) (r : Request) → p files r ≡ true → q files r ≡ true) → AsksHeld u p held a b → AsksHeld v q held a b
asks_wider u v p q None a b t f h = asks_weaker u v a b t h
asks_wider u v p q (Some files) a b t f h = asks_weaker (p files) (q files) a b (f files) h

asks_both : (untold : Request → Bool) (test : Files → Request → Bool) (held : Option Files) (a b c : Option (List Request)) → AsksHeld untold test held a b → AsksHeld untold test held b c → AsksHeld untold test held a c
asks_both untold test None a b c h k = asks_then untold a b c h k
asks_both untold test (Some files) a b c h k = asks_then (test files) a b c h k

pub asks_more : (F : List Leaf) (ts : List (List Copy)) (l now new : LinkShown) → now.held ≡ l.held → AsksForTablets F ts l now → AsksForTablets F ts now new → AsksForTablets F ts l new
asks_more F ts l now new e h k =
    asks_both (is_at_tablets ts) (is_for_tablets F ts) l.held l.asked now.asked new.asked h (subst (λ (x : Option Files). AsksHeld (is_at_tablets ts) (is_for_tablets F ts) x now.asked new.asked) e k)

or_front : (a b : Bool) → a ≡ true → (a || b) ≡ true
or_front true b h = refl
or_front false b h = absurd (true≢false (sym h))

or_back : (a b : Bool) → b ≡ true → (a || b) ≡ true
or_back true b h = refl
or_back false b h = h

any_one : {A : Type 0} (test : A → Bool) (x : A) (xs : List A) → IsOneOf x xs → test x ≡ true → list_any test xs ≡ true
any_one test x xs i h =
    ap (list_any test) i.split ∙ (list_any-append test i.before (x ∷ i.behind) ∙ or_back (list_any test i.before) (list_any test (x ∷ i.behind)) (or_front (test x) (list_any test i.behind) h))

-- of a copy of the table
pub asks_copy : (F : List Leaf) (t : Table) (tablet leaf : ℕ) (path : List ℕ) (l now : LinkShown) → IsOfTable t tablet leaf → path ≡ (copy_in t.leaves tablet leaf).path
    → ((bytes : List ℕ) → TellsFile l.held path bytes → AsksOnly (is_request_for path (reader_ranges bytes F)) l.asked now.asked) → (Lacks l.held path → AsksOnly (is_request_for path []) l.asked now.asked)
    → AsksOnly (is_for_path path) l.asked now.asked → AsksForTablets F (tablets_of t) l now
asks_copy F t tablet leaf path l now i p h none there =
    let c : Copy = copy_in t.leaves tablet leaf in
    asks_wider (λ r. is_at_copy r c) (is_at_tablets (tablets_of t)) (λ files r. is_for_copy F files r c) (is_for_tablets F (tablets_of t)) l.held l.asked now.asked
    (λ r k. any_one (is_at_tablet r) (copies_from t.leaves tablet 0 t.copies) (tablets_of t) i.among (any_one (is_at_copy r) c (copies_from t.leaves tablet 0 t.copies) i.copy_is k))
    (λ files r k. any_one (is_for_tablet F files r) (copies_from t.leaves tablet 0 t.copies) (tablets_of t) i.among
    (any_one (is_for_copy F files r) c (copies_from t.leaves tablet 0 t.copies) i.copy_is k))
    (path_asks (ranges_there F) l.held path c.path l.asked now.asked p there h none)

-- of one tablet of the table
pub asks_tablet : (F : List Leaf) (t : Table) (cs : List Copy) (l now : LinkShown) → IsOneOf cs (tablets_of t) → AsksForTablets F (cs ∷ []) l now → AsksForTablets F (tablets_of t) l now
asks_tablet F t cs l now i h =
    asks_wider (is_at_tablets (cs ∷ [])) (is_at_tablets (tablets_of t)) (is_for_tablets F (cs ∷ [])) (is_for_tablets F (tablets_of t)) l.held l.asked now.asked
    (λ r k. any_one (is_at_tablet r) cs (tablets_of t) i (only (is_at_tablet r cs) k))
    (λ files r k. any_one (is_for_tablet F files r) cs (tablets_of t) i (only (is_for_tablet F files r cs) k)) h
  where
    only : (a : Bool) → (a || false) ≡ true → a ≡ true
    only true h = refl
    only false h = h

-- ---- work

pub worked_none : (t : Table) (p : Plan) (l : LinkShown) → Worked t p l l
worked_none t p l = record {
  same = refl;
  never_falls = omega arith;
  stays_steady = λ is. is;
  asks = held_nothing (is_at_tablets (tablets_of t)) (is_for_tablets (plan_leaves p) (tablets_of t)) l.held l.asked l.asked refl;
}

pub worked_more : (t : Table) (p : Plan) (l now new : LinkShown) → Worked t p l now → Worked t p now new → Worked t p l new
worked_more t p l now new w v = record {
  same = v.same ∙ w.same;
  never_falls = omega (arith, w.never_falls, v.never_falls);
  stays_steady = λ is. v.stays_steady (w.stays_steady is);
  asks = asks_more (plan_leaves p) (tablets_of t) l now new w.same w.asks v.asks;
}

-- a scan of a tablet
pub tablet_worked : (t : Table) (p : Plan) (l now : LinkShown) (tablet : ℕ) → tablet < t.tablets → AsksForTablets (plan_leaves p) (copies_from t.leaves tablet 0 t.copies ∷ []) l now → now.held ≡ l.held → l.faults ≤ now.faults
    → (IsTrue l.is_steady → IsTrue now.is_steady) → Worked t p l now
tablet_worked t p l now tablet small asks same falls steady = record {
  same = same;
  never_falls = falls;
  stays_steady = steady;
  asks = asks_tablet (plan_leaves p) t (copies_from t.leaves tablet 0 t.copies) l now (tablet_among t.leaves t.copies 0 t.tablets tablet tablet small (omega arith)) asks;
}
