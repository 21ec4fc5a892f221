-- Of a table whose copies are held as files by a link that fails no more, no tablet is left.
use Rattle.std.specs.Prelude.{◌≡◌, ◌<◌, ℕ, zero, suc, List, [], ◌∷◌, Option, Some, IsTrue, IsSome}
use Rattle.std.proofs.Common.{arith, refl, sym, subst}
use Rattle.dr_meaning.specs.Schema.{Schema}
use Rattle.dr_meaning.specs.Path.{Leaf}
use Rattle.dr_meaning.specs.Record.{Node}
use Rattle.dr_formats.specs.File.{IsFileOf}
use Rattle.dr_formats.specs.Page.{PageForm}
use Rattle.dr_formats.specs.Writing.{file_bytes}
use Rattle.dr_outside.specs.Link.{Files, LinkShown, Holds}
use Rattle.dr_reading.specs.Scan.{Copy, tablets_from}
use Rattle.dr_reading.specs.Left.{Tried, LeftTablet, AreTried, LeftUnanswered, no_tablets, is_answered, is_left}
use Rattle.dr_reading.proofs.ReadingLemmas.{left_holds_no_file}
use Rattle.dr_load.specs.Loaded.{TabletsAreFiles}

-- each tablet has a copy
abbrev HaveCopies : List (List Copy) → Type 0
HaveCopies [] = Unit {0}
HaveCopies ([] ∷ ts) = ⊥
HaveCopies ((c ∷ cs) ∷ ts) = HaveCopies ts

pub have_copies : (ds : List (List ℕ)) (k t n : ℕ) → 0 < k → HaveCopies (tablets_from ds k t n)
have_copies ds k t zero h = tt
have_copies ds zero t (suc n) h = absurd (omega (arith, h))
have_copies ds (suc k) t (suc n) h = have_copies ds (suc k) (suc t) n h

module _ (form : PageForm) (s : Schema) (F : List Leaf) (link : LinkShown) (files : Files) (held : link.held ≡ Some files) (steady : IsTrue link.is_steady) where
  there : (path bytes : List ℕ) → files path ≡ Some bytes → Holds link.held path
  there path bytes e = subst (λ (o : Option Files). Holds o path) (sym held) (subst (λ (o : Option (List ℕ)). IsSome o) (sym e) refl)

  none_tried : (c : Copy) (cs : List Copy) (ts : List Tried) (R : List Node) → IsFileOf (file_bytes form s R) s F R → files c.path ≡ Some (file_bytes form s R) → AreTried s F link (c ∷ cs) ts → ⊥
  none_tried c cs [] R f e h = h
  none_tried c cs (t ∷ ts) R f e h = left_holds_no_file s F link files c.path (file_bytes form s R) t.cause R held e h.1 (h.1.1 steady (there c.path (file_bytes form s R) e)) f

  pub none_left : {HasAnswer : List Copy → Type 0} (t : ℕ) (cs : List (List Copy)) (left : List LeftTablet) (Rs : List (List Node)) → HaveCopies cs → TabletsAreFiles form s F files cs Rs → LeftUnanswered s F link HasAnswer t cs left → left ≡ []
  none_left t cs left Rs c f (no_tablets u) = refl
  none_left t cs left [] c f (is_answered u xs rest more g k) = absurd f
  none_left t cs left (R ∷ Rs) c f (is_answered u [] rest more g k) = absurd c
  none_left t cs left (R ∷ Rs) c f (is_answered u (x ∷ xs) rest more g k) = none_left (suc u) rest more Rs c f.2 k
  none_left t cs left [] c f (is_left u xs rest more tried g k) = absurd f
  none_left t cs left (R ∷ Rs) c f (is_left u [] rest more tried g k) = absurd c
  none_left t cs left (R ∷ Rs) c f (is_left u (x ∷ xs) rest more tried g k) = absurd (none_tried x xs tried R f.0 f.1.0 g)
