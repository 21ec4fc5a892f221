-- The events of one's own, turn by turn.
use Rattle.std.proofs.Common.{◌≡◌, ◌≤◌, inl, inr, ℕ, zero, suc, List, [], ◌∷◌, ◌++◌, length, Bool, true, false, ◌||◌, Option, Some, refl, sym, ap, ap₂, ◌∙◌, subst, append-nil, append_assoc, true≢false, eq-eqb, arith}
use Rattle.std.specs.Prelude.{◌==◌, Result, Ok, Err, OnErr}
use Rattle.std.specs.List.{slice_get, list_any}
use Rattle.std.proofs.lemmas.Bool.{eqb-true}
use Rattle.std.proofs.Math.Bool.{or-true}
use Rattle.std.proofs.lemmas.List.Folds.{list_any-append}
use mathlib.Core.List.{IsPrefix}
use Rattle.dr_dispatch.specs.Job.{Job}
use Rattle.dr_dispatch.specs.History.{answers, faults, has_answer, has_fault}
use Rattle.dr_dispatch.specs.Seen.{has_place}
use Rattle.dr_dispatch.specs.declared.event.Hand.{Hand}
use Rattle.dr_dispatch.specs.declared.event.Event.{Event}
use Rattle.dr_dispatch.specs.declared.event.Event.TheVariants.{Give, Answer, Fault}
use Rattle.dr_dispatch.specs.declared.seen.PassShown.{PassShown}
use Rattle.dr_dispatch.proofs.Prefixes.{prefix_trans}
use Rattle.dr_outside.specs.declared.cause.Cause.{Cause}
use Rattle.dr_desk.specs.Calls.{Takes}
use Rattle.dr_reading.specs.Causes.{RisesApart}
use Rattle.dr_serve.specs.Ends.{HasEnd, IsEnded, EndsAll, EndsAllButLast, IsEnd, TellsEnd, cause_of, causes_at}
use Rattle.dr_serve.proofs.RoundLemmas.{rises_join, rises_higher}

-- ---- places in longer histories

get_front : (xs rest : List Event) (n : ℕ) (e : Event) → slice_get xs n ≡ Some e → slice_get (xs ++ rest) n ≡ Some e
get_front [] rest n e h = absurd (cc)
get_front (x ∷ xs) rest zero e h = h
get_front (x ∷ xs) rest (suc n) e h = get_front xs rest n e h

get_longer : (xs ys : List Event) (n : ℕ) (e : Event) → IsPrefix xs ys → slice_get xs n ≡ Some e → slice_get ys n ≡ Some e
get_longer xs ys n e p h = subst (λ (es : List Event). slice_get es n ≡ Some e) p.1 (get_front xs p.0 n e h)

get_last : (xs : List Event) (e : Event) → slice_get (xs ++ e ∷ []) (length xs) ≡ Some e
get_last [] e = refl
get_last (x ∷ xs) e = get_last xs e

-- ---- ends stay

front_true : (a b : Bool) → a ≡ true → (a || b) ≡ true
front_true true b h = refl
front_true false b h = absurd (true≢false (sym h))

pub any_longer : (test : Event → Bool) (xs ys : List Event) → IsPrefix xs ys → list_any test xs ≡ true → list_any test ys ≡ true
any_longer test xs ys p h =
    subst (λ (es : List Event). list_any test es ≡ true) p.1 (list_any-append test xs p.0 ∙ front_true (list_any test xs) (list_any test p.0) h)

or_weaker : (a b c d : Bool) → (a ≡ true → c ≡ true) → (b ≡ true → d ≡ true) → (a || b) ≡ true → (c || d) ≡ true
or_weaker true b c d f g h = front_true c d (f refl)
or_weaker false b true d f g h = refl
or_weaker false b false d f g h = g h

end_longer : (xs ys : List Event) (h : Hand) → IsPrefix xs ys → HasEnd xs h → HasEnd ys h
end_longer xs ys h p e = or_weaker (has_fault xs h) (has_answer xs h.tablet) (has_fault ys h) (has_answer ys h.tablet) (any_longer (faults h) xs ys p) (any_longer (answers h.tablet) xs ys p) e

causes_push : (seen : List Event) (mine : List ℕ) (n : ℕ) → causes_at seen (mine ++ n ∷ []) ≡ causes_at seen mine ++ cause_of (slice_get seen n)
causes_push seen [] n = append-nil (cause_of (slice_get seen n))
causes_push seen (m ∷ mine) n = ap (λ (cs : List Cause). cause_of (slice_get seen m) ++ cs) (causes_push seen mine n) ∙ sym (append_assoc (cause_of (slice_get seen m)) (causes_at seen mine) (cause_of (slice_get seen n)))

module _ (why : Hand → Cause → Type 0) where
  ended_longer : (xs ys : List Event) (e : Event) → IsPrefix xs ys → IsEnded why xs e → IsEnded why ys e
  ended_longer xs ys (Give h) p k = end_longer xs ys h p k
  ended_longer xs ys (Answer h) p k = tt
  ended_longer xs ys (Fault h cause) p k = k

  -- the events at these places are ended
  abbrev AreEnded : List Event → List ℕ → Type 0
  AreEnded seen mine = (place : ℕ) → has_place place mine ≡ true → (e : Event) × (slice_get seen place ≡ Some e) × IsEnded why seen e

  are_longer : (xs ys : List Event) (mine : List ℕ) → IsPrefix xs ys → AreEnded xs mine → AreEnded ys mine
  are_longer xs ys mine p all place h = let k = all place h in (k.0, get_longer xs ys place k.0 p k.1, ended_longer xs ys k.0 p k.2)

  one_more : (seen : List Event) (mine : List ℕ) (n : ℕ) (e : Event) → AreEnded seen mine → slice_get seen n ≡ Some e → IsEnded why seen e → AreEnded seen (mine ++ n ∷ [])
  one_more seen mine n e all there ended place h =
      by_place (has_place place mine) (n == place) refl refl (sym (list_any-append (λ q. q == place) mine (n ∷ [])) ∙ h)
    where
      by_place : (a b : Bool) → has_place place mine ≡ a → (n == place) ≡ b → (has_place place mine || ((n == place) || false)) ≡ true → (e : Event) × (slice_get seen place ≡ Some e) × IsEnded why seen e
      by_place true b i j k = all place i
      by_place false true i j k = (e, subst (λ (m : ℕ). slice_get seen m ≡ Some e) (eqb-true n place j) there, ended)
      by_place false false i j k = absurd (true≢false (sym k ∙ (ap (λ (x : Bool). x || ((n == place) || false)) i ∙ ap (λ (x : Bool). false || (x || false)) j)))

  -- ---- the causes at these places

  causes_longer : (xs ys : List Event) (mine : List ℕ) → IsPrefix xs ys → AreEnded xs mine → causes_at ys mine ≡ causes_at xs mine
  causes_longer xs ys [] p all = refl
  causes_longer xs ys (n ∷ mine) p all =
      let here = all n (ap (λ (b : Bool). b || has_place n mine) (eq-eqb n n refl)) in
      ap₂ (λ (cs ds : List Cause). cs ++ ds) (ap cause_of (get_longer xs ys n here.0 p here.1 ∙ sym here.1))
      (causes_longer xs ys mine p (λ place h. all place (ap (λ (b : Bool). (n == place) || b) h ∙ or-true (n == place))))

  -- ---- a pass

  pub ends_none : (pass : PassShown) (n : ℕ) → EndsAll why n n pass pass
  ends_none pass n = record { mine = []; own = sym (append-nil pass.own); ended = λ place h. absurd (true≢false (sym h)); rises = omega arith }

  pub ends_longer : (first last : ℕ) (a b c : PassShown) → EndsAll why first last a b → IsPrefix b.seen c.seen → c.own ≡ b.own → EndsAll why first last a c
  ends_longer first last a b c all p same = record {
    mine = all.mine;
    own = same ∙ all.own;
    ended = are_longer b.seen c.seen all.mine p all.ended;
    rises = subst (λ (cs : List Cause). RisesApart first cs last) (sym (causes_longer b.seen c.seen all.mine p all.ended)) all.rises;
  }

  pub ends_higher : (first mid last : ℕ) (a b : PassShown) → mid ≤ last → EndsAll why first mid a b → EndsAll why first last a b
  ends_higher first mid last a b le all = record { mine = all.mine; own = all.own; ended = all.ended; rises = rises_higher first mid last (causes_at b.seen all.mine) le all.rises }

  -- a hand was taken, and nothing is told of it
  pub ends_but_last : (j : Job) (first mid last : ℕ) (h : Hand) (a b c d : PassShown) → mid ≤ last → EndsAll why first mid a b → Takes j h b c → d ≡ c → EndsAllButLast why j first last a d
  ends_but_last j first mid last h a b c d le all takes same = record {
    turns = b;
    ended = ends_higher first mid last a b le all;
    hand = h;
    taken = subst (Takes j h b) (sym same) takes;
  }

  -- an event that was told, whose cause rose between the two counts
  abbrev pub IsRisen : ℕ → ℕ → Hand → Cause → Type 0
  IsRisen mid last h cause = why h cause × RisesApart mid (cause ∷ []) last

  end_is_ended : (mid last : ℕ) (seen : List Event) (e : Event) → IsEnd (IsRisen mid last) e → IsEnded why seen e
  end_is_ended mid last seen (Give h) k = absurd k
  end_is_ended mid last seen (Answer h) k = tt
  end_is_ended mid last seen (Fault h cause) k = k.0

  end_rises : (mid last : ℕ) (e : Event) → mid ≤ last → IsEnd (IsRisen mid last) e → RisesApart mid (cause_of (Some e)) last
  end_rises mid last (Give h) le k = absurd k
  end_rises mid last (Answer h) le k = le
  end_rises mid last (Fault h cause) le k = k.1

  -- a turn: a hand was taken, and it has an end
  pub ends_turn : (j : Job) (first mid last : ℕ) (h : Hand) (a b c d : PassShown) → mid ≤ last → EndsAll why first mid a b → Takes j h b c → IsPrefix c.seen d.seen → HasEnd d.seen h → TellsEnd (IsRisen mid last) c d
      → EndsAll why first last a d
  ends_turn j first mid last h a b c d le all takes longer end told = by_told told
    where
      seen : c.seen ≡ takes.history ++ Give h ∷ []
      seen = ap (λ (x : PassShown). x.seen) takes.added

      own : c.own ≡ a.own ++ (all.mine ++ length takes.history ∷ [])
      own = ap (λ (x : PassShown). x.own) takes.added ∙ (ap (λ (o : List ℕ). o ++ length takes.history ∷ []) all.own ∙ append_assoc a.own all.mine (length takes.history ∷ []))

      before : IsPrefix b.seen d.seen
      before = prefix_trans b.seen c.seen d.seen (prefix_trans b.seen takes.history c.seen takes.earlier (Give h ∷ [], sym seen)) longer

      given : slice_get d.seen (length takes.history) ≡ Some (Give h)
      given = get_longer c.seen d.seen (length takes.history) (Give h) longer (subst (λ (es : List Event). slice_get es (length takes.history) ≡ Some (Give h)) (sym seen) (get_last takes.history (Give h)))

      with_give : AreEnded d.seen (all.mine ++ length takes.history ∷ [])
      with_give = one_more d.seen all.mine (length takes.history) (Give h) (are_longer b.seen d.seen all.mine before all.ended) given end

      causes : causes_at d.seen (all.mine ++ length takes.history ∷ []) ≡ causes_at b.seen all.mine
      causes =
          causes_push d.seen all.mine (length takes.history)
          ∙ (ap₂ (λ (cs ds : List Cause). cs ++ ds) (causes_longer b.seen d.seen all.mine before all.ended) (ap cause_of given) ∙ append-nil (causes_at b.seen all.mine))

      rises : RisesApart first (causes_at d.seen (all.mine ++ length takes.history ∷ [])) mid
      rises = subst (λ (cs : List Cause). RisesApart first cs mid) (sym causes) all.rises

      by_told : TellsEnd (IsRisen mid last) c d → EndsAll why first last a d
      by_told (inl same) = record {
        mine = all.mine ++ length takes.history ∷ [];
        own = same ∙ own;
        ended = with_give;
        rises = rises_higher first mid last (causes_at d.seen (all.mine ++ length takes.history ∷ [])) le rises;
      }
      by_told (inr t) =
          let behind : slice_get d.seen (length t.0) ≡ Some t.1 = subst (λ (es : List Event). slice_get es (length t.0) ≡ Some t.1) (sym (ap (λ (x : PassShown). x.seen) t.2)) (get_last t.0 t.1) in
          let told_causes : causes_at d.seen ((all.mine ++ length takes.history ∷ []) ++ length t.0 ∷ []) ≡ causes_at d.seen (all.mine ++ length takes.history ∷ []) ++ cause_of (Some t.1)
          = causes_push d.seen (all.mine ++ length takes.history ∷ []) (length t.0) ∙ ap (λ (o : Option Event). causes_at d.seen (all.mine ++ length takes.history ∷ []) ++ cause_of o) behind in record {
            mine = (all.mine ++ length takes.history ∷ []) ++ length t.0 ∷ [];
            own = ap (λ (x : PassShown). x.own) t.2
                ∙ (ap (λ (o : List ℕ). o ++ length t.0 ∷ []) own ∙ append_assoc a.own (all.mine ++ length takes.history ∷ []) (length t.0 ∷ []));
            ended = one_more d.seen (all.mine ++ length takes.history ∷ []) (length t.0) t.1 with_give behind (end_is_ended mid last d.seen t.1 t.3);
            rises = subst (λ (cs : List Cause). RisesApart first cs last) (sym told_causes)
                (rises_join first mid last (causes_at d.seen (all.mine ++ length takes.history ∷ [])) (cause_of (Some t.1)) rises (end_rises mid last t.1 le t.3));
          }

-- ---- with another justification

pub tells_weaker : (why known : Hand → Cause → Type 0) (b a : PassShown) → ((h : Hand) (c : Cause) → why h c → known h c) → TellsEnd why b a → TellsEnd known b a
tells_weaker why known b a f (inl same) = inl same
tells_weaker why known b a f (inr t) = inr (t.0, t.1, t.2, end_weaker t.1 t.3)
  where
    end_weaker : (e : Event) → IsEnd why e → IsEnd known e
    end_weaker (Give h) k = k
    end_weaker (Answer h) k = tt
    end_weaker (Fault h cause) k = f h cause k

-- ---- at an error

pub on_err : {A E P : Type 0} (r : Result A E) → P → OnErr r P
on_err (Ok x) h = tt
on_err (Err e) h = h
