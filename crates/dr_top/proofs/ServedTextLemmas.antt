-- What is printed of the records that links give.
use Rattle.std.specs.Prelude.{◌≡◌, ◌≤◌, ◌++◌, ℕ, suc, true, false, Bool, ⊤, List, [], ◌∷◌, map, Option, Some, None, if◌then◌else◌, nat_eq}
use Rattle.std.specs.List.{list_all}
use Rattle.std.proofs.Common.{inl, inr, refl, sym, ap, ap₂, ◌∙◌, subst, arith, append-nil}
use Rattle.std.proofs.lemmas.Bool.{ne_eqb, eq-eqb}
use Rattle.std.proofs.lemmas.List.{map-append}
use Rattle.dr_meaning.specs.Schema.{Schema}
use Rattle.dr_meaning.specs.Path.{Leaf, is_leaf_path, paths_of_leaves}
use Rattle.dr_meaning.specs.Record.{Node, project}
use Rattle.dr_outside.specs.Link.{Files}
use Rattle.dr_reading.specs.Scan.{Copy, copy_paths, joined, tablets_of}
use Rattle.dr_reading.specs.Given.{IsFileThere, SomeIsFile, IsGiven}
use Rattle.dr_reading.specs.Left.{Tried, LeftTablet}
use Rattle.dr_reading.specs.Premises.{PathsHold, TabletsHold}
use Rattle.dr_reading.proofs.ReadingLemmas.{given_are_projected}
use Rattle.dr_reading.specs.ServingPremises.{AllTell}
use Rattle.dr_serve.specs.Counted.{OneGives, AreCounted, no_more, is_counted, is_not_counted}
use Rattle.dr_commands.specs.Query.{query_scan}
use Rattle.dr_commands.proofs.ScanLemmas.{nested_leaves_are_leaves, query_sees_leaves_alone}
use Rattle.dr_top.specs.ServedLaws.{counted_records, ServedPrintsMeaning}

-- ---- which tablets are left

-- none of these tablets is before the tth
abbrev AreFrom : ℕ → List LeftTablet → Type 0
AreFrom t [] = ⊤
AreFrom t (l ∷ left) = t ≤ l.tablet

from_before : (t : ℕ) (left : List LeftTablet) → AreFrom (suc t) left → AreFrom t left
from_before t [] h = tt
from_before t (l ∷ left) h = omega (arith, h)

counted_next : (t : ℕ) (left : List LeftTablet) (R : List Node) (Rs : List (List Node)) → AreFrom (suc t) left → counted_records t left (R ∷ Rs) ≡ R ∷ counted_records (suc t) left Rs
counted_next t [] R Rs h = refl
counted_next t (l ∷ left) R Rs h =
    let other : nat_eq l.tablet t ≡ false = ne_eqb l.tablet t (λ e. omega (arith, h, e)) in
    ap (λ (b : Bool). if b then counted_records (suc t) left Rs else (R ∷ counted_records (suc t) (l ∷ left) Rs)) other

left_next : (t : ℕ) (tried : List Tried) (left : List LeftTablet) (R : List Node) (Rs : List (List Node)) → counted_records t (record { tablet = t; tried = tried } ∷ left) (R ∷ Rs) ≡ counted_records (suc t) left Rs
left_next t tried left R Rs =
    let same : nat_eq t t ≡ true = eq-eqb t t refl in
    ap (λ (b : Bool). if b then counted_records (suc t) left Rs else (R ∷ counted_records (suc t) (record { tablet = t; tried = tried } ∷ left) Rs)) same

-- ---- the records of the others

module _ (s : Schema) (F : List Leaf) (files : Files) where
  pub told_gives : (told : Files) (cs : List Copy) (R : List Node) → ((path : List ℕ) → told path ≡ files path) → SomeIsFile s F told cs R → SomeIsFile s F files cs R
  told_gives told [] R e h = h
  told_gives told (c ∷ cs) R e (inl f) = inl (subst (IsFileThere s F R) (e c.path) f)
  told_gives told (c ∷ cs) R e (inr h) = inr (told_gives told cs R e h)

  one_gives : (links : List (Option Files)) (cs : List Copy) (R : List Node) → AllTell files links → OneGives s F links cs R → IsGiven s F (Some files) cs R
  one_gives [] cs R a h = absurd h
  one_gives (None ∷ links) cs R a h = absurd a.0
  one_gives (Some told ∷ links) cs R a (inl g) = told_gives told cs R a.0 g
  one_gives (Some told ∷ links) cs R a (inr h) = one_gives links cs R a.1 h

  starts_at : (links : List (Option Files)) (t : ℕ) (ts : List (List Copy)) (left : List LeftTablet) (Rs : List (List Node)) → AreCounted s F links t ts left Rs → AreFrom t left
  starts_at links t ts left Rs (no_more u) = tt
  starts_at links t ts left Rs (is_counted u cs rest more R Ss h k) = from_before u more (starts_at links (suc u) rest more Ss k)
  starts_at links t ts left Rs (is_not_counted u cs rest more tried Ss k) = omega arith

  module _ (leaves : list_all (λ (l : Leaf). is_leaf_path s.fields l.path) F ≡ true) (links : List (Option Files)) (tell : AllTell files links) where
    one_projected : (cs : List Copy) (R S : List Node) → PathsHold s F R files (copy_paths cs) → OneGives s F links cs S → map (project (paths_of_leaves F)) S ≡ map (project (paths_of_leaves F)) R
    one_projected cs R S h g =
        ap (map (project (paths_of_leaves F))) (sym (append-nil S))
        ∙ given_are_projected s F files (Some files) (cs ∷ []) (R ∷ []) (S ∷ []) leaves (λ path. refl) (h, tt) (one_gives links cs S tell g, tt)
        ∙ ap (map (project (paths_of_leaves F))) (append-nil R)

    counted_projected : (t : ℕ) (ts : List (List Copy)) (left : List LeftTablet) (Rs Ss : List (List Node)) → TabletsHold s F files ts Rs → AreCounted s F links t ts left Ss
        → map (project (paths_of_leaves F)) (joined Ss) ≡ map (project (paths_of_leaves F)) (joined (counted_records t left Rs))
    counted_projected t ts left [] Ss h (no_more u) = refl
    counted_projected t ts left (R ∷ Rs) Ss h (no_more u) = absurd h
    counted_projected t ts left [] Ss h (is_counted u cs rest more S Us g k) = absurd h
    counted_projected t ts left (R ∷ Rs) Ss h (is_counted u cs rest more S Us g k) =
        map-append _ S (joined Us)
        ∙ ap₂ (λ (a b : List Node). a ++ b) (one_projected cs R S h.0 g) (counted_projected (suc u) rest more Rs Us h.1 k)
        ∙ sym (map-append _ R (joined (counted_records (suc u) more Rs)))
        ∙ ap (λ (Xs : List (List Node)). map (project (paths_of_leaves F)) (joined Xs)) (sym (counted_next u more R Rs (starts_at links (suc u) rest more Us k)))
    counted_projected t ts left [] Ss h (is_not_counted u cs rest more tried Us k) = absurd h
    counted_projected t ts left (R ∷ Rs) Ss h (is_not_counted u cs rest more tried Us k) =
        counted_projected (suc u) rest more Rs Us h.1 k
        ∙ ap (λ (Xs : List (List Node)). map (project (paths_of_leaves F)) (joined Xs)) (sym (left_next u tried more R Rs))

pub served_prints_meaning : ServedPrintsMeaning
served_prints_meaning t text n files links left Rs Ss read tell hold counted =
    query_sees_leaves_alone t text n read (joined Ss) (joined (counted_records 0 left Rs))
    (counted_projected t.schema (query_scan t n).leaves files (nested_leaves_are_leaves t.schema n) links tell 0 (tablets_of t) left Rs Ss hold counted)
