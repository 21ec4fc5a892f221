-- A level that stands for all the paths before one.
use Rattle.std.specs.Prelude.{◌≡◌, ◌<◌, ℕ, ◌+◌, List, [], ◌∷◌, ◌++◌, length, get_or, drop, map, Bool, true, false, ◌&&◌, ◌||◌, ◌==◌, if◌then◌else◌, Result, Ok, Err}
use Rattle.std.specs.List.{list_all}
use Rattle.std.proofs.Common.{refl, sym, ap, ap₂, ◌∙◌, subst}
use Rattle.std.proofs.Math.Bool.{and_comm}
use Rattle.std.proofs.lemmas.Bool.{eqb-true, eq-eqb, and_parts, or_right, false≢true}
use Rattle.std.proofs.lemmas.List.{drop_more}
use Rattle.dr_meaning.specs.Path.{Step, chain_end, begins_with}
use Rattle.dr_meaning.specs.BoundExpression.{BoundPath, BindFault, unrelated, fault_at, are_related, unrelated_after}
use Rattle.dr_paths.specs.Views.{bound_path_view}
use Rattle.dr_paths.specs.declared.bound.BoundPath as code
use Rattle.dr_paths.specs.Related.{Spans, chains_related, joined_before}

-- ---- fronts of paths

same_place : (a b c : ℕ) → (a == c) ≡ true → (b == c) ≡ true → (a == b) ≡ true
same_place a b c h k = eq-eqb a b (eqb-true a c h ∙ sym (eqb-true b c k))

same_through : (a b c : ℕ) → (a == b) ≡ true → (b == c) ≡ true → (a == c) ≡ true
same_through a b c h k = eq-eqb a c (eqb-true a b h ∙ eqb-true b c k)

begins_with-through : (a b c : List Step) → begins_with a b ≡ true → begins_with b c ≡ true → begins_with a c ≡ true
begins_with-through [] b c h k = refl
begins_with-through (s ∷ a) [] c h k = absurd (false≢true h)
begins_with-through (s ∷ a) (t ∷ b) [] h k = absurd (false≢true k)
begins_with-through (s ∷ a) (t ∷ b) (u ∷ c) h k =
    let hs = and_parts (s.place == t.place) (begins_with a b) h in
    let ks = and_parts (t.place == u.place) (begins_with b c) k in
    ap₂ ◌&&◌ (same_through s.place t.place u.place hs.0 ks.0) (begins_with-through a b c hs.1 ks.1)

-- two fronts of one path
fronts_related : (a b c : List Step) → begins_with a c ≡ true → begins_with b c ≡ true → chains_related a b ≡ true
fronts_related [] b c h k = refl
fronts_related (s ∷ a) [] c h k = refl
fronts_related (s ∷ a) (t ∷ b) [] h k = absurd (false≢true h)
fronts_related (s ∷ a) (t ∷ b) (u ∷ c) h k =
    let hs = and_parts (s.place == u.place) (begins_with a c) h in
    let ks = and_parts (t.place == u.place) (begins_with b c) k in
    ap₂ (λ (x y : Bool). (x && begins_with a b) || (y && begins_with b a)) (same_place s.place t.place u.place hs.0 ks.0) (same_place t.place s.place u.place ks.0 hs.0)
    ∙ fronts_related a b c hs.1 ks.1

-- what is related to a level is related to its fronts
related_to_front : (x a l : List Step) → begins_with a l ≡ true → chains_related x l ≡ true → chains_related x a ≡ true
related_to_front x a l h k =
    elim (begins_with x l) as (λ b. begins_with x l ≡ b → (b || begins_with l x) ≡ true → chains_related x a ≡ true) [
      | true ↦ λ e _. fronts_related x a l e h
      | false ↦ λ _ e. or_right (begins_with x a) (begins_with a x) (begins_with-through a l x h e)
    ] refl k

true_with : (b c : Bool) → (c ≡ true → b ≡ true) → (b && c) ≡ c
true_with true c h = refl
true_with false false h = refl
true_with false true h = absurd (false≢true (h refl))

-- a front adds nothing
front_with : (x a l : List Step) → begins_with a l ≡ true → (chains_related x a && chains_related x l) ≡ chains_related x l
front_with x a l h = true_with (chains_related x a) (chains_related x l) (related_to_front x a l h)

-- ---- a level that stands for earlier paths

pub spans_none : Spans [] []
spans_none = record { alike = λ p. sym (or_right (begins_with (chain_end p) []) true refl) }

-- a further path whose level is a front of the longest one
pub spans_kept : (earlier : List (List Step)) (l p : List Step) → Spans earlier l → begins_with (chain_end p) l ≡ true → Spans (p ∷ earlier) l
spans_kept earlier l p s h = record { alike = λ q. ap (λ (b : Bool). are_related q p && b) (s.alike q) ∙ front_with (chain_end q) (chain_end p) l h }

-- a further path whose level begins with the longest one
pub spans_longer : (earlier : List (List Step)) (l p : List Step) → Spans earlier l → begins_with l (chain_end p) ≡ true → Spans (p ∷ earlier) (chain_end p)
spans_longer earlier l p s h = record {
  alike = λ q. ap (λ (b : Bool). are_related q p && b) (s.alike q)
      ∙ and_comm (are_related q p) (chains_related (chain_end q) l) ∙ front_with (chain_end q) l (chain_end p) h;
}

-- ---- paths behind others

pub unrelated_behind : (earlier : List (List Step)) (ps qs : List BoundPath) → unrelated_after earlier ps ≡ [] → unrelated_after earlier (ps ++ qs) ≡ unrelated_after (joined_before earlier ps) qs
unrelated_behind earlier [] qs h = refl
unrelated_behind earlier (p ∷ ps) qs h =
    let e : List (List Step) = p.leaf.path ∷ earlier in
    elim (list_all (are_related p.leaf.path) earlier) as (λ b. (if b then unrelated_after e ps else fault_at p.place unrelated) ≡ []
    → (if b then unrelated_after e (ps ++ qs) else fault_at p.place unrelated) ≡ unrelated_after (joined_before e ps) qs) [
      | true ↦ λ k. unrelated_behind e ps qs k
      | false ↦ λ k. cc
    ] h

pub unrelated_front : (earlier : List (List Step)) (ps qs : List BoundPath) (i : ℕ) → unrelated_after earlier ps ≡ fault_at i unrelated → unrelated_after earlier (ps ++ qs) ≡ fault_at i unrelated
unrelated_front earlier [] qs i h = cc
unrelated_front earlier (p ∷ ps) qs i h =
    let e : List (List Step) = p.leaf.path ∷ earlier in
    elim (list_all (are_related p.leaf.path) earlier) as (λ b. (if b then unrelated_after e ps else fault_at p.place unrelated) ≡ fault_at i unrelated
    → (if b then unrelated_after e (ps ++ qs) else fault_at p.place unrelated) ≡ fault_at i unrelated) [
      | true ↦ λ k. unrelated_front e ps qs i k
      | false ↦ λ k. k
    ] h

-- ---- one path after another

-- the longest level behind these paths too, or the place of the first that isn't related to an earlier one
abbrev pub judged : List Step → List BoundPath → Result (List Step) ℕ
judged l [] = Ok l
judged l (p ∷ ps) = if begins_with l (chain_end p.leaf.path) then judged (chain_end p.leaf.path) ps else (if begins_with (chain_end p.leaf.path) l then judged l ps else Err p.place)

-- what that says of the faults, and of the paths joined
abbrev pub Meets : List BindFault → List (List Step) → Result (List Step) ℕ → Type 0
Meets fs earlier (Ok l) = (fs ≡ []) × Spans earlier l
Meets fs earlier (Err i) = fs ≡ fault_at i unrelated

unrelated_step : (b : Bool) (earlier : List (List Step)) (p : BoundPath) (ps : List BoundPath) → list_all (are_related p.leaf.path) earlier ≡ b
    → (if b then unrelated_after (p.leaf.path ∷ earlier) ps else fault_at p.place unrelated) ≡ unrelated_after earlier (p ∷ ps)
unrelated_step b earlier p ps h = ap (λ (c : Bool). if c then unrelated_after (p.leaf.path ∷ earlier) ps else fault_at p.place unrelated) (sym h)

Meets-more : (earlier : List (List Step)) (p : BoundPath) (ps : List BoundPath) (r : Result (List Step) ℕ) → list_all (are_related p.leaf.path) earlier ≡ true
    → Meets (unrelated_after (p.leaf.path ∷ earlier) ps) (joined_before (p.leaf.path ∷ earlier) ps) r → Meets (unrelated_after earlier (p ∷ ps)) (joined_before earlier (p ∷ ps)) r
Meets-more earlier p ps r h m = subst (λ (fs : List BindFault). Meets fs (joined_before earlier (p ∷ ps)) r) (unrelated_step true earlier p ps h) m

none_related : (b c : Bool) → b ≡ false → c ≡ false → (b || c) ≡ false
none_related true c h k = h
none_related false c h k = k

pub judged_meant : (l : List Step) (ps : List BoundPath) (earlier : List (List Step)) → Spans earlier l → Meets (unrelated_after earlier ps) (joined_before earlier ps) (judged l ps)
judged_meant l [] earlier s = (refl, s)
judged_meant l (p ∷ ps) earlier s =
    let q : List Step = p.leaf.path in
    let fs : List BindFault = unrelated_after earlier (p ∷ ps) in
    let js : List (List Step) = joined_before earlier (p ∷ ps) in
    elim (begins_with l (chain_end q)) as (λ b. begins_with l (chain_end q) ≡ b → Meets fs js (if b then judged (chain_end q) ps else (if begins_with (chain_end q) l then judged l ps else Err p.place))) [
      | true ↦ λ h. Meets-more earlier p ps (judged (chain_end q) ps) (s.alike q ∙ or_right (begins_with (chain_end q) l) (begins_with l (chain_end q)) h)
          (judged_meant (chain_end q) ps (q ∷ earlier) (spans_longer earlier l q s h))
      | false ↦ λ h. elim (begins_with (chain_end q) l) as (λ b. begins_with (chain_end q) l ≡ b → Meets fs js (if b then judged l ps else Err p.place)) [
        | true ↦ λ k. Meets-more earlier p ps (judged l ps) (s.alike q ∙ ap (λ (b : Bool). b || begins_with l (chain_end q)) k)
            (judged_meant l ps (q ∷ earlier) (spans_kept earlier l q s k))
        | false ↦ λ k. sym (unrelated_step false earlier p ps (s.alike q ∙ none_related (begins_with (chain_end q) l) (begins_with l (chain_end q)) k h))
      ] refl
    ] refl

pub judged_refused : (l : List Step) (p : BoundPath) (ps : List BoundPath) → begins_with l (chain_end p.leaf.path) ≡ false → begins_with (chain_end p.leaf.path) l ≡ false → judged l (p ∷ ps) ≡ Err p.place
judged_refused l p ps h k = ap₂ (λ (b c : Bool). if b then judged (chain_end p.leaf.path) ps else (if c then judged l ps else Err p.place)) h k

pub paths_cut : (paths : List code.BoundPath) (k : ℕ) (p : code.BoundPath) → k < length paths → p ≡ get_or paths k p
    → map bound_path_view (drop k paths) ≡ bound_path_view p ∷ map bound_path_view (drop (k + 1) paths)
paths_cut paths k p h at = ap (map bound_path_view) (drop_more paths k p h ∙ ap (λ (x : code.BoundPath). x ∷ drop (k + 1) paths) (sym at))
