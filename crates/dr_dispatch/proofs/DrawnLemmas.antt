-- Each kind of step keeps the rule of the tablets that were drawn.
use Rattle.std.proofs.Common.{◌≡◌, ◌≢◌, ℕ, zero, suc, ◌+◌, ◌<◌, List, [], ◌∷◌, set, true, true≢false, sym, ap, ◌∙◌, ⊎_elim, arith}
use mathlib.Core.Option.{some, some-injective, some-ne-none}
use lib.ListN.{get_elem?}
use Rattle.atomic_table.proofs.Lists.{set_else}
use Rattle.dr_dispatch.specs.Seen.{has_place}
use Rattle.dr_dispatch.specs.Seats.{keeper_at, spent, drawing, SeatFits}
use Rattle.dr_dispatch.specs.SeatLaws.{DrawingKeeps, NoneAreDrawn, DrawnAreBelow, DrawingIsDrawn, OthersAreDrawn, SplitsAreDrawn, JoinsAreDrawn}
use Rattle.dr_dispatch.specs.declared.seen.SeatView.{SeatView}
use Rattle.dr_dispatch.proofs.SeatLemmas.{off, place_one, place_cases, after_set, after_push, moved, moved_there, moved_else, owned, owned_new, owned_old}

-- ---- the history, where a pass draws

pub drawing_keeps : DrawingKeeps
drawing_keeps views count k v n r there rests =
    let f = r.fits k v there in
    let apart : r.keeper ≢ k = λ same. true≢false (sym r.has_mark ∙ (ap (λ (u : SeatView). u.keeps) (some-injective r.keeps v (sym r.there ∙ (ap (λ (i : ℕ). get_elem? views i) same ∙ there))) ∙ rests)) in record {
      history = r.history;
      counted = r.counted;
      keeper = r.keeper;
      keeps = r.keeps;
      there = set_else views k r.keeper (drawing n v) apart ∙ r.there;
      has_mark = r.has_mark;
      owner = r.owner;
      fits = after_set (SeatFits r.history r.keeper r.owner) views k (drawing n v) (λ j u ne at. r.fits j u at)
          (record { begins = f.begins; keeping = f.keeping; owns = f.owns; met = f.met });
    }

-- ---- the tablets that were drawn

-- what the rule says of the seat k
abbrev Drew : (ℕ → ℕ) → ℕ → ℕ → SeatView → Type 0
Drew drawer next k v = (t : ℕ) → has_place t v.drawn ≡ true → (drawer t ≡ k) × (t < next)

pub none_are_drawn : NoneAreDrawn
none_are_drawn tablets = record { within = omega arith; drawer = λ (t : ℕ). 0; drew = λ k v at. only k v at }
  where
    only : (k : ℕ) (v : SeatView) → get_elem? (keeper_at [] ∷ []) k ≡ some v → (t : ℕ) → has_place t v.drawn ≡ true → (0 ≡ k) × (t < 0)
    only zero v e t h = off (ap (λ (u : SeatView). has_place t u.drawn) (some-injective (keeper_at []) v e) ∙ h)
    only (suc k) v e t h = absurd (some-ne-none v (sym e))

pub drawn_are_below : DrawnAreBelow
drawn_are_below tablets views next k v t r there h = (r.drew k v there t h).1

pub drawing_is_drawn : DrawingIsDrawn
drawing_is_drawn tablets views next k v r there lt =
    let old : (j t : ℕ) → (r.drawer t ≡ j) × (t < next) → (owned r.drawer next k t ≡ j) × (t < next + 1)
    = λ j t o. (owned_old r.drawer next k t (λ same. absurd (below o.1 same)) ∙ o.0, let less = o.1 in omega (arith, less)) in record {
      within = omega (arith, lt);
      drawer = λ (t : ℕ). owned r.drawer next k t;
      drew = after_set (Drew (λ (t : ℕ). owned r.drawer next k t) (next + 1)) views k (drawing next v)
          (λ j u ne at t h. old j t (r.drew j u at t h))
          (λ t h. ⊎_elim (λ (o : has_place t v.drawn ≡ true). old k t (r.drew k v there t o))
          (λ (o : has_place t (next ∷ []) ≡ true). let same = place_one t next o in (owned_new r.drawer next k t same, omega (arith, same)))
          (place_cases t v.drawn (next ∷ []) h));
    }
  where
    below : {t n : ℕ} → t < n → t ≡ n → ⊥
    below less e = omega (arith, less, e)

pub others_are_drawn : OthersAreDrawn
others_are_drawn tablets views next k v w r there same = record {
  within = r.within;
  drawer = r.drawer;
  drew = after_set (Drew r.drawer next) views k w (λ j u ne at. r.drew j u at)
      (λ t h. r.drew k v there t (ap (λ (ts : List ℕ). has_place t ts) (sym same) ∙ h));
}

pub splits_are_drawn : SplitsAreDrawn
splits_are_drawn tablets views next w r none = record {
  within = r.within;
  drawer = r.drawer;
  drew = after_push (Drew r.drawer next) views w r.drew (λ t h. off (ap (λ (ts : List ℕ). has_place t ts) (sym none) ∙ h));
}

pub joins_are_drawn : JoinsAreDrawn
joins_are_drawn tablets views next k v other w both r there apart at same =
    record {
      within = r.within;
      drawer = λ (t : ℕ). moved other k (r.drawer t);
      drew = λ j u e. after_set (Drew (λ (t : ℕ). moved other k (r.drawer t)) next) (set views k both) other spent
          (λ i x ne in_views. after_set (λ (i' : ℕ) (x' : SeatView). i' ≢ other → Drew (λ (t : ℕ). moved other k (r.drawer t)) next i' x') views k both
          (λ i' x' ne' there' else_ t h. let o = r.drew i' x' there' t h in (moved_else other k (r.drawer t) (λ is. else_ (sym o.0 ∙ is)) ∙ o.0, o.1))
          (λ _ t h. ⊎_elim (λ (a : has_place t v.drawn ≡ true). let o = r.drew k v there t a in (moved_else other k (r.drawer t) (λ is. apart (sym is ∙ o.0)) ∙ o.0, o.1))
          (λ (b : has_place t w.drawn ≡ true). let o = r.drew other w at t b in (moved_there other k (r.drawer t) o.0, o.1))
          (place_cases t v.drawn w.drawn (ap (λ (ts : List ℕ). has_place t ts) (sym same) ∙ h)))
          i x in_views ne)
          (λ t h. off h) j u e;
    }
