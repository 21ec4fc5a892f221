-- What workers have to do, and what serving ends with, on small cases by computation.
use Rattle.std.specs.Prelude.{◌≡◌, ℕ, List, [], ◌∷◌, map, Some, None, codes, true, false, refl}
use Rattle.std.specs.declared.alloc.Global.{Global}
use Rattle.std.proofs.Common.{Vec, inl, inr, ap, arith}
use Rattle.dr_meaning.specs.Schema.{Schema}
use Rattle.dr_meaning.specs.Path.{Leaf}
use Rattle.dr_meaning.specs.Record.{Node}
use Rattle.dr_formats.specs.TableFile.{Table}
use Rattle.dr_outside.specs.Link.{Files}
use Rattle.dr_group.specs.declared.partial.Partial.{Partial}
use Rattle.dr_reading.specs.Left.{LeftTablet}
use Rattle.dr_reading.specs.Scan.{Copy}
use Rattle.dr_table.specs.LeftViews.{all_tried_view}
use Rattle.dr_table.specs.declared.left.Tried as code
use Rattle.dr_scan.specs.declared.tablet.Scanned.{Scanned}
use Rattle.dr_tree.specs.Places.{has_free}
use Rattle.dr_serve.specs.Working.{table_job}
use Rattle.dr_serve.specs.Closing.{has_some, place_of, places_from, left_from}
use Rattle.dr_serve.specs.Serving.{IsShare}
use Rattle.dr_serve.specs.Counted.{OneGives, AreCounted, no_more, is_counted, is_not_counted}

-- ---- the job

abbrev table_of : Schema → Table
table_of s = record { schema = s; leaves = codes "a" ∷ codes "b" ∷ codes "c" ∷ []; copies = 2; tablets = 4 }

-- each tablet on the leaves of its copies, in the order in which they are tried
pub job_is : (s : Schema) → table_job (table_of s) 7 ≡ record { leaves = (0 ∷ 1 ∷ []) ∷ (1 ∷ 2 ∷ []) ∷ (2 ∷ 0 ∷ []) ∷ (0 ∷ 1 ∷ []) ∷ []; lag = 7 }
job_is s = refl

-- ---- the closing round

-- a tablet has a place for its first piece alone
pub places_left : (p : Partial) → (has_free 0 (places_from 0 (None ∷ Some p ∷ [])) ≡ true) × (has_free 1 (places_from 0 (None ∷ Some p ∷ [])) ≡ false)
places_left p = (refl, refl)

pub who_has_pieces : (p : Partial) → map has_some (None ∷ Some p ∷ []) ≡ false ∷ true ∷ []
who_has_pieces p = refl

pub places_are : (p : Partial) → (place_of (None ∷ Some p ∷ []) 0 ≡ None) × (place_of (None ∷ Some p ∷ []) 1 ≡ Some p) × (place_of (None ∷ Some p ∷ []) 2 ≡ None)
places_are p = (refl, refl, refl)

pub second_is_left : (p : Partial) (tried : Vec code.Tried Global) → left_from 3 (Scanned.Given p ∷ Scanned.Left tried ∷ Scanned.Given p ∷ []) ≡ record { tablet = 4; tried = all_tried_view tried.items } ∷ []
second_is_left p tried = refl

-- ---- the share

-- one of two tablets is half of them, and not more; 683 of 2,048 are a third, but 682 are not
pub half : IsShare 50 1 2
half = omega arith

pub no_more_than_half : IsShare 51 1 2 → ⊥
no_more_than_half h = absurd (omega (arith, h))

pub thirds : IsShare 33 683 2048 × (IsShare 34 683 2048 → ⊥) × IsShare 100 7 7 × (IsShare 100 6 7 → ⊥)
thirds = (omega arith, λ h. absurd (omega (arith, h)), omega arith, λ h. absurd (omega (arith, h)))

-- ---- the records that are counted

module _ (s : Schema) (F : List Leaf) (cs ds : List Copy) where
  -- a link that doesn't tell may give any records; none gives nothing
  pub one_may_give : (files : Files) → OneGives s F (Some files ∷ None ∷ []) cs []
  one_may_give files = inr (inl refl)

  pub none_gives : (R : List Node) → OneGives s F [] cs R → ⊥
  none_gives R h = h

  -- the second of two tablets is left: it has no records here
  pub second_left : AreCounted s F (None ∷ []) 0 (cs ∷ ds ∷ []) (record { tablet = 1; tried = [] } ∷ []) ([] ∷ [])
  second_left = is_counted 0 cs (ds ∷ []) (record { tablet = 1; tried = [] } ∷ []) [] [] (inl refl) (is_not_counted 1 ds [] [] [] [] (no_more 2))

  abbrev first_left : List LeftTablet → ℕ
  first_left [] = 0
  first_left (l ∷ ls) = l.tablet

  -- a tablet is left under its own number, and none is passed over
  one_counted : (t : ℕ) (es : List Copy) (left : List LeftTablet) (Rs : List (List Node)) → AreCounted s F (None ∷ []) t (es ∷ []) left Rs → Rs ≡ [] → (left ≡ [] → ⊥) × ((u : ℕ) → left ≡ record { tablet = u; tried = [] } ∷ [] → t ≡ u)
  one_counted t es left Rs (is_counted u fs rest more R Ss g k) e = absurd (cc)
  one_counted t es left Rs (is_not_counted m fs rest more tried Ss k) e = (λ n. cc, λ u n. ap first_left n)

  pub no_other_left : AreCounted s F (None ∷ []) 0 (cs ∷ []) (record { tablet = 1; tried = [] } ∷ []) [] → ⊥
  no_other_left h = let e : 0 ≡ 1 = (one_counted 0 cs (record { tablet = 1; tried = [] } ∷ []) [] h refl).1 1 refl in absurd (omega (arith, e))

  two_counted : (left : List LeftTablet) (Rs : List (List Node)) → AreCounted s F (None ∷ []) 0 (cs ∷ ds ∷ []) left Rs → left ≡ [] → Rs ≡ [] ∷ [] → ⊥
  two_counted left Rs (is_counted t es rest more R Ss g k) e f = (one_counted 1 ds left Ss k (cc)).0 e
  two_counted left Rs (is_not_counted t es rest more tried Ss k) e f = absurd (cc)

  pub none_passed_over : AreCounted s F (None ∷ []) 0 (cs ∷ ds ∷ []) [] ([] ∷ []) → ⊥
  none_passed_over h = two_counted [] ([] ∷ []) h refl refl
