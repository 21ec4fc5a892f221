-- Each kind of step keeps the rule of the seats.
use Rattle.std.proofs.Common.{◌≡◌, ◌≢◌, ◌⊎◌, ℕ, zero, suc, ◌+◌, ◌<◌, List, [], ◌∷◌, ◌++◌, length, set, Bool, true, false, ◌||◌, true≢false, refl, sym, ap, ◌∙◌, subst, ⊎_elim, inl, inr, arith, length-append, eqb-true, eq-eqb, ne_eqb}
use Rattle.std.specs.Prelude.{◌==◌, if◌then◌else◌}
use Rattle.std.specs.List.{list_any}
use Rattle.std.proofs.lemmas.Bool.{or_cases}
use Rattle.std.proofs.Math.Bool.{or-true}
use Rattle.std.proofs.lemmas.List.Folds.{list_any-append}
use mathlib.Core.List.{IsPrefix}
use mathlib.Core.Option.{some, some-injective, some-ne-none}
use lib.ListN.{get_elem?}
use Rattle.atomic_table.proofs.Lists.{at_set, set_here, set_else, set_again, at_longer, at_last}
use Rattle.dr_dispatch.specs.Seen.{has_place}
use Rattle.dr_dispatch.specs.Seats.{keeper_at, spent, handed, gathered, passed, keeper_of, newcomer_of, looked, added, MetFits, SeatFits, IsKept}
use Rattle.dr_dispatch.specs.SeatLaws.{IsKeeperAt, FirstKeeps, KeeperKnows, LookKeeps, AddKeeps, HandKeeps, GatherKeeps, PassKeeps, NewcomerKeeps, MetAreOfHistory}
use Rattle.dr_dispatch.specs.declared.event.Event.{Event}
use Rattle.dr_dispatch.specs.declared.seen.PassShown.{PassShown}
use Rattle.dr_dispatch.specs.declared.seen.SeatView.{SeatView}
use Rattle.dr_dispatch.proofs.Prefixes.{prefix_self, prefix_none, prefix_push}

pub off : {A : Type 0} → false ≡ true → A
off e = absurd (true≢false (sym e))

-- ---- lists of places

place-append : (p : ℕ) (xs ys : List ℕ) → has_place p (xs ++ ys) ≡ (has_place p xs || has_place p ys)
place-append p xs ys = list_any-append (λ q. q == p) xs ys

place_left : (p : ℕ) (xs ys : List ℕ) → has_place p xs ≡ true → has_place p (xs ++ ys) ≡ true
place_left p xs ys h = place-append p xs ys ∙ ap (λ b. b || has_place p ys) h

place_right : (p : ℕ) (xs ys : List ℕ) → has_place p ys ≡ true → has_place p (xs ++ ys) ≡ true
place_right p xs ys h = place-append p xs ys ∙ (ap (λ b. has_place p xs || b) h ∙ or-true (has_place p xs))

pub place_cases : (p : ℕ) (xs ys : List ℕ) → has_place p (xs ++ ys) ≡ true → (has_place p xs ≡ true) ⊎ (has_place p ys ≡ true)
place_cases p xs ys h = or_cases (has_place p xs) (has_place p ys) (sym (place-append p xs ys) ∙ h)

pub place_one : (p n : ℕ) → has_place p (n ∷ []) ≡ true → p ≡ n
place_one p n h = ⊎_elim (λ (e : (n == p) ≡ true). sym (eqb-true n p e)) (λ (e : false ≡ true). off e) (or_cases (n == p) false h)

-- ---- what was met

met_owned : (history : List Event) (own : List ℕ) (met : List PassShown) (p : ℕ) → MetFits history own met → list_any (λ (m : PassShown). has_place p m.own) met ≡ true → has_place p own ≡ true
met_owned history own [] p fits h = off h
met_owned history own (m ∷ met) p fits h =
    ⊎_elim (λ (e : has_place p m.own ≡ true). (fits.1 p e).0) (λ (e : list_any (λ (o : PassShown). has_place p o.own) met ≡ true). met_owned history own met p fits.2 e)
    (or_cases (has_place p m.own) (list_any (λ (o : PassShown). has_place p o.own) met) h)

met_more : (history : List Event) (own more : List ℕ) (met : List PassShown) → MetFits history own met → MetFits history (own ++ more) met
met_more history own more [] fits = tt
met_more history own more (m ∷ met) fits =
    (fits.0, (λ p h. let f = fits.1 p h in (place_left p own more f.0, f.1)), met_more history own more met fits.2)

met_push : (history : List Event) (e : Event) (own : List ℕ) (met : List PassShown) → MetFits history own met → MetFits (history ++ e ∷ []) own met
met_push history e own [] fits = tt
met_push history e own (m ∷ met) fits = (prefix_push m.seen history e fits.0, fits.1, met_push history e own met fits.2)

pub met_are_of_history : MetAreOfHistory
met_are_of_history history own [] fits = tt
met_are_of_history history own (m ∷ met) fits = (fits.0, (λ p h. (fits.1 p h).1), met_are_of_history history own met fits.2)

-- ---- a fact of each seat, after a step

module _ (P : ℕ → SeatView → Type 0) (views : List SeatView) where
  -- where one view is set
  pub after_set : (k : ℕ) (w : SeatView) → ((j : ℕ) (u : SeatView) → j ≢ k → get_elem? views j ≡ some u → P j u) → P k w → (j : ℕ) (u : SeatView) → get_elem? (set views k w) j ≡ some u → P j u
  after_set k w others mine j u e =
      ⊎_elim (λ (x : (j ≡ k) × (w ≡ u)). subst (λ (y : ℕ × SeatView). P y.0 y.1) (λ i. (sym x.0 i, x.1 i)) mine)
      (λ (x : (j ≢ k) × (get_elem? views j ≡ some u)). others j u x.0 x.1) (at_set views k j w u e)

  pub after_push : (w : SeatView) → ((j : ℕ) (u : SeatView) → get_elem? views j ≡ some u → P j u) → P (length views) w → (j : ℕ) (u : SeatView) → get_elem? (views ++ w ∷ []) j ≡ some u → P j u
  after_push w others mine j u e =
      ⊎_elim (others j u) (λ (x : (j ≡ length views) × (w ≡ u)). subst (λ (y : ℕ × SeatView). P y.0 y.1) (λ i. (sym x.0 i, x.1 i)) mine) (at_end views w u j e)
    where
      at_end : (l : List SeatView) (a b : SeatView) (j : ℕ) → get_elem? (l ++ a ∷ []) j ≡ some b → (get_elem? l j ≡ some b) ⊎ ((j ≡ length l) × (a ≡ b))
      at_end [] a b zero e = inr (refl, some-injective a b e)
      at_end [] a b (suc j) e = absurd (some-ne-none b (sym e))
      at_end (x ∷ xs) a b zero e = inl e
      at_end (x ∷ xs) a b (suc j) e = ⊎_elim inl (λ (y : (j ≡ length xs) × (a ≡ b)). inr (ap suc y.0, y.1)) (at_end xs a b j e)

pub is_within : (views : List SeatView) (k : ℕ) (v : SeatView) → get_elem? views k ≡ some v → k < length views
is_within [] k v e = absurd (some-ne-none v (sym e))
is_within (x ∷ xs) zero v e = omega arith
is_within (x ∷ xs) (suc k) v e = omega (arith, is_within xs k v e)

-- the keeper is where its mark is
at_keeper : (views : List SeatView) (count k : ℕ) (v : SeatView) → (r : IsKept views count) → IsKeeperAt views k v → (k ≡ r.keeper) × (v.seen ≡ r.history)
at_keeper views count k v r at = (r.fits k v at.there).keeping at.keeps

spent_fits : (history : List Event) (keeper : ℕ) (owner : ℕ → ℕ) (k : ℕ) → SeatFits history keeper owner k spent
spent_fits history keeper owner k = record { begins = prefix_none history; keeping = λ e. off e; owns = λ p e. off e; met = tt }

-- ---- the steps

pub first_keeps : FirstKeeps
first_keeps = record {
  history = [];
  counted = refl;
  keeper = 0;
  keeps = keeper_at [];
  there = refl;
  has_mark = refl;
  owner = λ (p : ℕ). 0;
  fits = λ k v e. only k v e;
}
  where
    only : (k : ℕ) (v : SeatView) → get_elem? (keeper_at [] ∷ []) k ≡ some v → SeatFits [] 0 (λ (p : ℕ). 0) k v
    only zero v e = subst (SeatFits [] 0 (λ (p : ℕ). 0) 0) (some-injective _ _ e) (record { begins = prefix_self []; keeping = λ _. (refl, refl); owns = λ p h. off h; met = tt })
    only (suc k) v e = absurd (some-ne-none v (sym e))

pub keeper_knows : KeeperKnows
keeper_knows views count k v r at =
    let is = (at_keeper views count k v r at).1 in
    (ap (λ (es : List Event). length es) is ∙ r.counted, subst (λ (es : List Event). MetFits es v.own v.met) (sym is) (r.fits k v at.there).met)

-- the view of the keeper changes, and the history may grow
module _ (views : List SeatView) (count k : ℕ) (v : SeatView) (r : IsKept views count) (at : IsKeeperAt views k v) where
  is_keeper : k ≡ r.keeper
  is_keeper = (at_keeper views count k v r at).0

  sees_all : v.seen ≡ r.history
  sees_all = (at_keeper views count k v r at).1

  -- no other seat has the mark
  unmarked : {A : Type 0} (j : ℕ) (u : SeatView) → j ≢ k → get_elem? views j ≡ some u → u.keeps ≡ true → A
  unmarked j u apart there mark = absurd (apart (((r.fits j u there).keeping mark).0 ∙ sym is_keeper))

  look_keeps_at : IsKept (set views k (looked v)) count
  look_keeps_at = let f = r.fits k v at.there in record {
    history = r.history;
    counted = r.counted;
    keeper = k;
    keeps = looked v;
    there = set_here views k (looked v) (is_within views k v at.there);
    has_mark = at.keeps;
    owner = r.owner;
    fits = after_set (SeatFits r.history k r.owner) views k (looked v)
        (λ j u apart there. let g = r.fits j u there in record { begins = g.begins; keeping = λ m. unmarked j u apart there m; owns = g.owns; met = g.met })
        (record { begins = f.begins; keeping = λ m. (refl, sees_all); owns = f.owns; met = tt });
  }

  pass_keeps_at : IsKept (set views k (passed v) ++ keeper_of v ∷ []) count
  pass_keeps_at =
      let f = r.fits k v at.there in
      let n = length (set views k (passed v)) in record {
        history = r.history;
        counted = r.counted;
        keeper = n;
        keeps = keeper_of v;
        there = at_last (set views k (passed v)) (keeper_of v) n refl;
        has_mark = at.keeps;
        owner = r.owner;
        fits = after_push (SeatFits r.history n r.owner) (set views k (passed v)) (keeper_of v)
            (after_set (SeatFits r.history n r.owner) views k (passed v)
            (λ j u apart there. let g = r.fits j u there in record { begins = g.begins; keeping = λ m. unmarked j u apart there m; owns = g.owns; met = g.met })
            (record { begins = f.begins; keeping = λ m. off m; owns = f.owns; met = tt }))
            (record { begins = f.begins; keeping = λ m. (refl, sees_all); owns = λ p h. off h; met = tt });
      }

pub look_keeps : LookKeeps
look_keeps views count k v r at = look_keeps_at views count k v r at

pub pass_keeps : PassKeeps
pass_keeps views count k v r at = pass_keeps_at views count k v r at

-- ---- the owner of a place

-- what the one seat owned, the other owns
abbrev pub moved : ℕ → ℕ → ℕ → ℕ
moved other k n = if n == other then k else n

pub moved_there : (other k n : ℕ) → n ≡ other → moved other k n ≡ k
moved_there other k n e = ap (λ b. if b then k else n) (eq-eqb n other e)

pub moved_else : (other k n : ℕ) → n ≢ other → moved other k n ≡ n
moved_else other k n ne = ap (λ b. if b then k else n) (ne_eqb n other ne)

-- the place p, which is new, is the seat k's
abbrev pub owned : (ℕ → ℕ) → ℕ → ℕ → ℕ → ℕ
owned owner new k p = if p == new then k else owner p

pub owned_new : (owner : ℕ → ℕ) (new k p : ℕ) → p ≡ new → owned owner new k p ≡ k
owned_new owner new k p e = ap (λ b. if b then k else owner p) (eq-eqb p new e)

pub owned_old : (owner : ℕ → ℕ) (new k p : ℕ) → p ≢ new → owned owner new k p ≡ owner p
owned_old owner new k p ne = ap (λ b. if b then k else owner p) (ne_eqb p new ne)

pub add_keeps : AddKeeps
add_keeps views count k v e r at =
    let f = r.fits k v at.there in
    let more = r.history ++ e ∷ [] in
    let long : length more ≡ count + 1 = omega (arith, length-append r.history (e ∷ []), r.counted) in
    let old : (j p : ℕ) → (r.owner p ≡ j) × (p < length r.history) → (owned r.owner count k p ≡ j) × (p < length more)
    = λ j p o. (owned_old r.owner count k p (λ same. absurd (below o.1 same r.counted)) ∙ o.0, let lt = o.1 in omega (arith, lt, long, r.counted)) in record {
      history = more;
      counted = long;
      keeper = k;
      keeps = added count e v;
      there = set_here views k (added count e v) (is_within views k v at.there);
      has_mark = at.keeps;
      owner = λ (p : ℕ). owned r.owner count k p;
      fits = after_set (SeatFits more k (λ (p : ℕ). owned r.owner count k p)) views k (added count e v)
          (λ j u apart there. let g = r.fits j u there in record {
            begins = prefix_push u.seen r.history e g.begins;
            keeping = λ m. unmarked views count k v r at j u apart there m;
            owns = λ p h. old j p (g.owns p h);
            met = met_push r.history e u.own u.met g.met;
          })
          (record {
            begins = subst (λ (es : List Event). IsPrefix (es ++ e ∷ []) more) (sym (sees_all views count k v r at)) (prefix_self more);
            keeping = λ m. (refl, ap (λ (es : List Event). es ++ e ∷ []) (sees_all views count k v r at));
            owns = λ p h. ⊎_elim (λ (o : has_place p v.own ≡ true). old k p (f.owns p o))
                (λ (n : has_place p (count ∷ []) ≡ true). let same = place_one p count n in (owned_new r.owner count k p same, omega (arith, same, long)))
                (place_cases p v.own (count ∷ []) h);
            met = tt;
          });
    }
  where
    below : {p n m : ℕ} → p < n → p ≡ m → n ≡ m → ⊥
    below lt e f = omega (arith, lt, e, f)

-- ---- two seats become one

-- the seat k, which the owner's places go to, has the view w, and the other is spent
module _ (views : List SeatView) (count k other : ℕ) (w : SeatView) (r : IsKept views count) (apart : other ≢ k) (within : k < length views) where
  two_kept : w.keeps ≡ true
      → ((j : ℕ) (u : SeatView) → j ≢ k → j ≢ other → get_elem? views j ≡ some u → u.keeps ≡ true → (j ≡ k) × (u.seen ≡ r.history))
      → SeatFits r.history k (λ (p : ℕ). moved other k (r.owner p)) k w → IsKept (set (set views k w) other spent) count
  two_kept mark others mine = record {
    history = r.history;
    counted = r.counted;
    keeper = k;
    keeps = w;
    there = set_else (set views k w) other k spent (λ e. apart (sym e)) ∙ set_here views k w within;
    has_mark = mark;
    owner = λ (p : ℕ). moved other k (r.owner p);
    fits = λ j u e. after_set (SeatFits r.history k (λ (p : ℕ). moved other k (r.owner p))) (set views k w) other spent
        (λ i x ne there. after_set (λ (i' : ℕ) (x' : SeatView). i' ≢ other → SeatFits r.history k (λ (p : ℕ). moved other k (r.owner p)) i' x') views k w
        (λ i' x' ne' there' else_. let g = r.fits i' x' there' in record {
          begins = g.begins;
          keeping = λ m. others i' x' ne' else_ there' m;
          owns = λ p h. let o = g.owns p h in (moved_else other k (r.owner p) (λ same. else_ (sym o.0 ∙ same)) ∙ o.0, o.1);
          met = g.met;
        })
        (λ _. mine) i x there ne)
        (spent_fits r.history k (λ (p : ℕ). moved other k (r.owner p)) other) j u e;
  }

  -- the places of either are the seat k's
  both_own : (v x : SeatView) → SeatFits r.history r.keeper r.owner k v → SeatFits r.history r.keeper r.owner other x → (p : ℕ) → has_place p (v.own ++ x.own) ≡ true
      → (moved other k (r.owner p) ≡ k) × (p < length r.history)
  both_own v x f g p h =
      ⊎_elim (λ (a : has_place p v.own ≡ true). let o = f.owns p a in (moved_else other k (r.owner p) (λ same. apart (sym same ∙ o.0)) ∙ o.0, o.1))
      (λ (b : has_place p x.own ≡ true). let o = g.owns p b in (moved_there other k (r.owner p) o.0, o.1)) (place_cases p v.own x.own h)

pub hand_keeps : HandKeeps
hand_keeps views count k v other w r there apart at =
    let f = r.fits k v there in
    let g = r.fits other w at.there in
    two_kept views count k other (handed v w) r apart (is_within views k v there) at.keeps
    (λ j u ne else_ in_views mark. absurd (else_ (((r.fits j u in_views).keeping mark).0 ∙ sym (g.keeping at.keeps).0)))
    (record {
      begins = g.begins;
      keeping = λ _. (refl, (g.keeping at.keeps).1);
      owns = both_own views count k other (handed v w) r apart (is_within views k v there) v w f g;
      met = (f.begins, (λ p h. (place_left p v.own w.own h, refl)), tt);
    })

pub gather_keeps : GatherKeeps
gather_keeps views count k v other w r at apart there =
    let f = r.fits k v at.there in
    let g = r.fits other w there in
    two_kept views count k other (gathered v w) r apart (is_within views k v at.there) at.keeps
    (λ j u ne else_ in_views mark. unmarked views count k v r at j u ne in_views mark)
    (record {
      begins = f.begins;
      keeping = λ _. (refl, sees_all views count k v r at);
      owns = both_own views count k other (gathered v w) r apart (is_within views k v at.there) v w f g;
      met = (
        g.begins,
        (λ p h. (place_right p v.own w.own h, unmet p h (list_any (λ (m : PassShown). has_place p m.own) v.met) refl)),
        met_more r.history v.own w.own v.met f.met,
      );
    })
  where
    unmet : (p : ℕ) → has_place p w.own ≡ true → (b : Bool) → list_any (λ (m : PassShown). has_place p m.own) v.met ≡ b → list_any (λ (m : PassShown). has_place p m.own) v.met ≡ false
    unmet p h true is = absurd (apart (sym ((r.fits other w there).owns p h).0 ∙ ((r.fits k v at.there).owns p (met_owned r.history v.own v.met p (r.fits k v at.there).met is)).0))
    unmet p h false is = is

pub newcomer_keeps : NewcomerKeeps
newcomer_keeps views count k v r there =
    let f = r.fits k v there in
    subst (λ (vs : List SeatView). IsKept (vs ++ newcomer_of v ∷ []) count) (sym (set_again views k v there)) (record {
      history = r.history;
      counted = r.counted;
      keeper = r.keeper;
      keeps = r.keeps;
      there = at_longer views (newcomer_of v ∷ []) r.keeper r.keeps r.there;
      has_mark = r.has_mark;
      owner = r.owner;
      fits = after_push (SeatFits r.history r.keeper r.owner) views (newcomer_of v) r.fits
          (record { begins = f.begins; keeping = λ m. off m; owns = λ p h. off h; met = tt });
    })
