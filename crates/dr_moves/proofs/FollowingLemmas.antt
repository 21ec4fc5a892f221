-- What follows a course is made of it.
use Rattle.std.proofs.Common.{◌≡◌, ℕ, suc, List, [], ◌∷◌, ◌++◌, None, refl, sym, ap, subst, ◌∙◌, append_assoc}
use Rattle.std.proofs.lemmas.Bool.{and_parts}
use Rattle.dr_meaning.specs.Column.{triplet}
use Rattle.dr_meaning.specs.Walk.{Move, enter, value, leave}
use Rattle.dr_moves.specs.Course.{reach, Items}
use Rattle.dr_moves.specs.Turning.{Stack, between, in_record, in_items, in_absent, lapped, entering}
use Rattle.dr_moves.proofs.Following.{next_definition, Follows, ended, record_begun, record_ended, items_done, given, visited, skipped, absent_done, absent_given, lap_more, lap_last, entered}
use Rattle.dr_moves.proofs.Made.{nulls, Made, made_nothing, made_give, made_absent, made_visit, Laps, no_lap, one_lap, MadeRecords, no_record, one_record}

-- what is made of what is still to be gone through
abbrev pub Rest : Items → Stack → List Move → Type 0
Rest top (between n) ms = MadeRecords top n ms
Rest top (in_record n) ms = (b : List Move) × (ms ≡ leave 0 ∷ b) × MadeRecords top n b
Rest top (in_items I r next S) ms = (a b : List Move) × (ms ≡ a ++ b) × Made I r next a × Rest top S b
Rest top (in_absent is r d S) ms = (b : List Move) × (ms ≡ nulls is r d ++ b) × Rest top S b
Rest top (lapped v B S) ms = (a b : List Move) × (ms ≡ leave v.number ∷ (a ++ b)) × Laps v B a × Rest top S b
Rest top (entering v B S) ms = (a b : List Move) × (ms ≡ a ++ b) × Laps v B a × Rest top S b

pub around_visit : (x y : Move) (ms a b c d e f : List Move) → ms ≡ a ++ b → b ≡ y ∷ (c ++ d) → d ≡ e ++ f → x ∷ ms ≡ (x ∷ (a ++ y ∷ (c ++ e))) ++ f
around_visit x y ms a b c d e f p q s = rw (p, q, s) (simp append_assoc)

pub around_lap : (x y : Move) (ms a b c d : List Move) → ms ≡ a ++ b → b ≡ y ∷ (c ++ d) → x ∷ ms ≡ (x ∷ (a ++ y ∷ c)) ++ d
around_lap x y ms a b c d p q = rw (p, q) (simp append_assoc)

pub follows_made : (top : Items) (S : Stack) (ms : List Move) → Follows top S ms → Rest top S ms
follows_made top _ _ ended = no_record
follows_made top _ _ (record_begun n ms f) = begun n ms (follows_made top (in_items top 0 (next_definition ms) (in_record n)) ms f)
  where
    begun : (n : ℕ) (ms : List Move) → Rest top (in_items top 0 (next_definition ms) (in_record n)) ms → MadeRecords top (suc n) (enter 0 ∷ ms)
    begun n ms h = subst (λ (x : List Move). MadeRecords top (suc n) (enter 0 ∷ x)) (sym (h.2 ∙ ap (λ (x : List Move). h.0 ++ x) h.4.1)) (one_record n (next_definition ms) h.0 h.4.0 h.3 h.4.2)
follows_made top _ _ (record_ended n ms f) = (ms, refl, follows_made top (between n) ms f)
follows_made top _ _ (items_done r next S ms f) = ([], ms, refl, made_nothing r next, follows_made top S ms f)
follows_made top _ _ (given g I r next S t ms e d h f) = let k = follows_made top (in_items I r next S) ms f in
    (value g.leaf t ∷ k.0, k.1, ap (λ (x : List Move). value g.leaf t ∷ x) k.2, made_give g I r next t k.0 e d h k.3, k.4)
follows_made top _ _ (visited v B I r next S ms o f) =
    let k = follows_made top (in_items B r (next_definition ms) (lapped v B (in_items I r next S))) ms f in (
      enter v.number ∷ (k.0 ++ leave v.number ∷ (k.4.0 ++ k.4.4.0)),
      k.4.4.1,
      around_visit (enter v.number) (leave v.number) ms k.0 k.1 k.4.0 k.4.1 k.4.4.0 k.4.4.1 k.2 k.4.2 k.4.4.2,
      made_visit v B I r next (next_definition ms) k.0 k.4.0 k.4.4.0 (and_parts _ _ o).0 k.3 k.4.3 k.4.4.3,
      k.4.4.4,
    )
follows_made top _ _ (skipped v B I r next S ms o f) =
    let k = follows_made top (in_absent v.leaves r (reach next v.gates v.low) (in_items I r next S)) ms f in (
      nulls v.leaves r (reach next v.gates v.low) ++ k.2.0,
      k.2.1,
      k.1 ∙ ap (λ (x : List Move). nulls v.leaves r (reach next v.gates v.low) ++ x) k.2.2 ∙ sym (append_assoc (nulls v.leaves r (reach next v.gates v.low)) k.2.0 k.2.1),
      made_absent v B I r next k.2.0 k.2.3,
      k.2.4,
    )
follows_made top _ _ (absent_done r d S ms f) = (ms, refl, follows_made top S ms f)
follows_made top _ _ (absent_given i is r d S ms f) = let k = follows_made top (in_absent is r d S) ms f in (k.0, ap (λ (x : List Move). value i (triplet r d None) ∷ x) k.1, k.2)
follows_made top _ _ (lap_more v B S ms e f) = let k = follows_made top (entering v B S) ms f in (k.0, k.1, ap (λ (x : List Move). leave v.number ∷ x) k.2, k.3, k.4)
follows_made top _ _ (lap_last v B S ms e f) = ([], ms, refl, no_lap v B, follows_made top S ms f)
follows_made top _ _ (entered v B S ms f) =
    let k = follows_made top (in_items B v.level (next_definition ms) (lapped v B S)) ms f in (
      enter v.number ∷ (k.0 ++ leave v.number ∷ k.4.0),
      k.4.1,
      around_lap (enter v.number) (leave v.number) ms k.0 k.1 k.4.0 k.4.1 k.2 k.4.2,
      one_lap v B (next_definition ms) k.0 k.4.0 k.3 k.4.3,
      k.4.4,
    )
