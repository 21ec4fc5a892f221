-- The columns of a tablet, record by record.
use Rattle.std.specs.Prelude.{◌≡◌, ℕ, ◌+◌, ◌<◌, List, [], ◌∷◌, ◌++◌, map, length, replicate, Bool, true, Option, Some, None, MatchOption, Result, Ok, Err, IsErrAnd, IfErr, ⊤}
use Rattle.std.specs.List.{list_all}
use Rattle.std.proofs.Common.{arith, refl, sym, ap, ap₂, ◌∙◌, subst}
use Rattle.std.proofs.lemmas.List.{length-append}
use Rattle.std.proofs.lemmas.Bool.{and_parts, and_from}
use Rattle.dr_meaning.specs.Schema.{Fields}
use Rattle.dr_meaning.specs.Path.{Step, Leaf, leaves}
use Rattle.dr_meaning.specs.Record.{Node, is_record}
use Rattle.dr_meaning.specs.Column.{Triplet, record_column, column}
use Rattle.dr_meaning.specs.Lines.{Refusal}
use Rattle.dr_formats.specs.WritingLaws.{is_limited}
use Rattle.dr_nested.specs.PathView.{path_view, paths_view}
use Rattle.dr_nested.specs.declared.path.Path.{Path}
use Rattle.dr_lines.specs.Cutting.{IsEnd}
use Rattle.dr_outside.specs.Source.{SourceShown}
use Rattle.dr_striper.specs.Striping.{gained, leaves_of}
use Rattle.dr_striper.specs.Stripers.{fits_leaf}
use Rattle.dr_striper.proofs.GrowthLemmas.{columns-push}
use Rattle.dr_striper.proofs.FitLemmas.{record_fits_all}
use Rattle.dr_striper.proofs.SchemaLeafLemmas.{schema_leaves_are}
use Rattle.dr_input.specs.Taken.{HasTaken, RefusesNext, AcceptsRead}
use Rattle.dr_input.specs.Stops.{NextStops}
use Rattle.dr_input.specs.declared.fault.InputFault.{InputFault}
use Rattle.dr_input.specs.declared.fault.LineProblem.{LineProblem}
use Rattle.dr_input.proofs.TakenLemmas.{nothing_taken, taken_more, taken_ended, refused_behind, accepts_begun, accepts_behind}
use Rattle.dr_load.specs.declared.fault.LoadFault.{LoadFault}
use Rattle.dr_load.specs.Faults.{refusal_of, of_input}
use Rattle.dr_load.specs.Filled.{HasColumnsOf, RefusesWithin, FailsWithin}

-- ---- a line is refused

refused_within : (fs : Fields) (most number rows : ℕ) (R : List Node) (a b : Option (List ℕ)) (e : Refusal) → HasTaken fs most number R a b → length R < rows → RefusesNext fs most (number + length R) b e → RefusesWithin fs most number rows a e
refused_within fs most number rows R None b e h l r = tt
refused_within fs most number rows R (Some all) None e h l r = absurd h
refused_within fs most number rows R (Some all) (Some rest) e h l r = (R, l, refused_behind fs most number R all rest e h r)

-- ---- why a tablet isn't filled, behind records that were taken

module _ (fs : Fields) (most number rows : ℕ) (R : List Node) (a b : Option (List ℕ)) (before now : SourceShown) (t : HasTaken fs most number R a b) where
  stops_refuses : (cause : InputFault) → length R < rows → NextStops fs most (number + length R) b before now cause → MatchOption (refusal_of (of_input cause)) ⊤ (RefusesWithin fs most number rows a)
  stops_refuses InputFault.NoMemory l s = tt
  stops_refuses InputFault.Source l s = tt
  stops_refuses (InputFault.Refused n LineProblem.TooLong) l s = refused_within fs most number rows R a b _ t l s.1
  stops_refuses (InputFault.Refused n LineProblem.TooManyRecords) l s = refused_within fs most number rows R a b _ t l s.1
  stops_refuses (InputFault.Refused n (LineProblem.Record w)) l s = refused_within fs most number rows R a b _ t l s.1

  stops_accepts : (cause : InputFault) → NextStops fs most (number + length R) b before now cause → of_input cause ≡ LoadFault.ReadFault → AcceptsRead fs most number a now.left
  stops_accepts InputFault.NoMemory s e = cc
  stops_accepts InputFault.Source s e = accepts_behind fs most number R a b now.left t (accepts_begun fs most (number + length R) b now.left s.1)
  stops_accepts (InputFault.Refused n LineProblem.TooLong) s e = cc
  stops_accepts (InputFault.Refused n LineProblem.TooManyRecords) s e = cc
  stops_accepts (InputFault.Refused n (LineProblem.Record w)) s e = cc

  stops_fails : (place : ℕ) (cause : InputFault) → length R < rows → NextStops fs most place b before now cause → of_input cause ≡ LoadFault.ReadFault → FailsWithin fs most number rows a now.left
  stops_fails place InputFault.NoMemory l s e = cc
  stops_fails place InputFault.Source l s e = (R, b, l, t, s.1)
  stops_fails place (InputFault.Refused n LineProblem.TooLong) l s e = cc
  stops_fails place (InputFault.Refused n LineProblem.TooManyRecords) l s e = cc
  stops_fails place (InputFault.Refused n (LineProblem.Record w)) l s e = cc

-- of a tablet of which so many records are there
pub fill_refuses : (fs : Fields) (most number rows count place : ℕ) (a b : Option (List ℕ)) (columns : List (List Triplet)) (before now : SourceShown) (cause : InputFault) → HasColumnsOf fs most number a b columns count → count < rows → place ≡ number + count
    → NextStops fs most place b before now cause → MatchOption (refusal_of (of_input cause)) ⊤ (RefusesWithin fs most number rows a)
fill_refuses fs most number rows count place a b columns before now cause h l p s =
    stops_refuses fs most number rows h.records a b before now h.taken cause (omega (arith, l, h.number_of))
    (subst (λ (j : ℕ). NextStops fs most j b before now cause) (p ∙ ap (λ (j : ℕ). number + j) (sym h.number_of)) s)

pub fill_accepts : (fs : Fields) (most number count place : ℕ) (a b : Option (List ℕ)) (columns : List (List Triplet)) (before now : SourceShown) (cause : InputFault) → HasColumnsOf fs most number a b columns count → place ≡ number + count
    → NextStops fs most place b before now cause → of_input cause ≡ LoadFault.ReadFault → AcceptsRead fs most number a now.left
fill_accepts fs most number count place a b columns before now cause h p s e =
    stops_accepts fs most number 0 h.records a b before now h.taken cause
    (subst (λ (j : ℕ). NextStops fs most j b before now cause) (p ∙ ap (λ (j : ℕ). number + j) (sym h.number_of)) s) e

pub fill_fails : (fs : Fields) (most number rows count place : ℕ) (a b : Option (List ℕ)) (columns : List (List Triplet)) (before now : SourceShown) (cause : InputFault) → HasColumnsOf fs most number a b columns count → count < rows
    → NextStops fs most place b before now cause → of_input cause ≡ LoadFault.ReadFault → FailsWithin fs most number rows a now.left
fill_fails fs most number rows count place a b columns before now cause h l s e =
    stops_fails fs most number rows h.records a b before now h.taken place cause (omega (arith, l, h.number_of)) s e

-- of a reader of these fields and of so many lines
pub reader_stops : (fs gs : Fields) (most many number : ℕ) (b : Option (List ℕ)) (before now : SourceShown) (cause : InputFault) → fs ≡ gs → most ≡ many → NextStops fs most number b before now cause → NextStops gs many number b before now cause
reader_stops fs gs most many number b before now cause e f s =
    subst (λ (x : Fields). NextStops x many number b before now cause) e (subst (λ (m : ℕ). NextStops fs m number b before now cause) f s)

pub reader_takes : (fs gs : Fields) (most many number j : ℕ) (R : List Node) (a b : Option (List ℕ)) → fs ≡ gs → most ≡ many → number ≡ j → HasTaken fs most number R a b → HasTaken gs many j R a b
reader_takes fs gs most many number j R a b e f g h =
    subst (λ (x : Fields). HasTaken x many j R a b) e (subst (λ (m : ℕ). HasTaken fs m j R a b) f (subst (λ (i : ℕ). HasTaken fs most i R a b) g h))

-- ---- what is said of the only error

pub err_is : {A E : Type 0} (P : E → Type 0) (r : Result A E) (e : E) → IsErrAnd r (λ x. x ≡ e) → P e → IfErr r P
err_is P (Ok a) e h p = tt
err_is P (Err x) e h p = subst P (sym h) p

pub err_equal : {A E : Type 0} (r : Result A E) (e f : E) → IsErrAnd r (λ x. x ≡ e) → r ≡ Err f → e ≡ f
err_equal (Ok a) e f h k = cc
err_equal (Err x) e f h k = let q : x ≡ f = cc in sym h ∙ q

-- ---- columns

all_push : (p : Node → Bool) (R : List Node) (n : Node) → list_all p R ≡ true → p n ≡ true → list_all p (R ++ n ∷ []) ≡ true
all_push p [] n h k = and_from (p n) true k refl
all_push p (m ∷ R) n h k = let a = and_parts (p m) (list_all p R) h in and_from (p m) (list_all p (R ++ n ∷ [])) a.0 (all_push p R n a.1 k)

empty_columns : (ps : List Path) → replicate (length ps) [] ≡ map (λ (l : Leaf). column l.path []) (leaves_of ps)
empty_columns [] = refl
empty_columns (p ∷ ps) = ap (λ (cs : List (List Triplet)). [] ∷ cs) (empty_columns ps)

leaf_paths : (ps : List Path) → paths_view ps ≡ map (λ (l : Leaf). l.path) (leaves_of ps)
leaf_paths [] = refl
leaf_paths (p ∷ ps) = ap (λ (qs : List (List Step)). (path_view p).path ∷ qs) (leaf_paths ps)

by_paths : (ls : List Leaf) (R : List Node) → map (λ (p : List Step). column p R) (map (λ (l : Leaf). l.path) ls) ≡ map (λ (l : Leaf). column l.path R) ls
by_paths [] R = refl
by_paths (l ∷ ls) R = ap (λ (cs : List (List Triplet)). column l.path R ∷ cs) (by_paths ls R)

-- no record yet
pub fills_none : (fs : Fields) (most number : ℕ) (o : Option (List ℕ)) (ps : List Path) (columns : List (List Triplet)) → leaves_of ps ≡ leaves fs → columns ≡ replicate (length ps) [] → HasColumnsOf fs most number o o columns 0
fills_none fs most number o ps columns l e = record {
  records = [];
  are_records = refl;
  limited = refl;
  number_of = refl;
  columns_are = e ∙ empty_columns ps ∙ ap (map (λ (x : Leaf). column x.path [])) l;
  taken = nothing_taken fs most number o;
}

-- one record more
pub fills_more : (fs : Fields) (most number count : ℕ) (a b c : Option (List ℕ)) (ps : List Path) (old new : List (List Triplet)) (n : Node) → HasColumnsOf fs most number a b old count → leaves_of ps ≡ leaves fs
    → new ≡ gained (λ p. record_column p n) (paths_view ps) old → is_record fs n ≡ true → is_limited n ≡ true → HasTaken fs most (number + count) (n ∷ []) b c → HasColumnsOf fs most number a c new (count + 1)
fills_more fs most number count a b c ps old new n h l e r t k = record {
  records = h.records ++ n ∷ [];
  are_records = all_push (is_record fs) h.records n h.are_records r;
  limited = all_push is_limited h.records n h.limited t;
  number_of = omega (arith, length-append h.records (n ∷ []), h.number_of);
  columns_are =
      let F : List (List Step) = map (λ (x : Leaf). x.path) (leaves fs) in
      e ∙ ap₂ (λ (G : List (List Step)) (cs : List (List Triplet)). gained (λ p. record_column p n) G cs) (leaf_paths ps ∙ ap (map (λ (x : Leaf). x.path)) l) (h.columns_are ∙ sym (by_paths (leaves fs) h.records))
      ∙ columns-push F h.records n ∙ by_paths (leaves fs) (h.records ++ n ∷ []);
  taken = taken_more fs most number h.records (n ∷ []) a b c h.taken (subst (λ (j : ℕ). HasTaken fs most (number + j) (n ∷ []) b c) (sym h.number_of) k);
}

-- the input's end
pub fills_ended : (fs : Fields) (most number count : ℕ) (a b c : Option (List ℕ)) (old new : List (List Triplet)) → HasColumnsOf fs most number a b old count → IsEnd b c → new ≡ old → HasColumnsOf fs most number a c new count
fills_ended fs most number count a b c old new h i e = record {
  records = h.records;
  are_records = h.are_records;
  limited = h.limited;
  number_of = h.number_of;
  columns_are = e ∙ h.columns_are;
  taken = taken_ended fs most number h.records a b c h.taken i;
}

pub fills_same : (fs : Fields) (most number count rows : ℕ) (a b : Option (List ℕ)) (old new : List (List Triplet)) → HasColumnsOf fs most number a b old count → new ≡ old → count ≡ rows → HasColumnsOf fs most number a b new rows
fills_same fs most number count rows a b old new h e r = record {
  records = h.records;
  are_records = h.are_records;
  limited = h.limited;
  number_of = h.number_of ∙ r;
  columns_are = e ∙ h.columns_are;
  taken = h.taken;
}

-- each leaf takes what a record gives it
pub record_fits : (fs : Fields) (ls : List Leaf) (n : Node) → ls ≡ leaves fs → is_record fs n ≡ true → list_all (fits_leaf n) ls ≡ true
record_fits fs ls n e r = ap (list_all (fits_leaf n)) e ∙ record_fits_all fs (leaves fs) n (schema_leaves_are fs) r
