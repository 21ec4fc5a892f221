-- Groups that are still to be merged, turn by turn.
use Rattle.std.specs.Prelude.{◌≡◌, ◌<◌, ◌≤◌, ℕ, ◌+◌, ◌-◌, List, [], ◌∷◌, ◌++◌, map, length, take, drop, true, nat_lt}
use Rattle.std.specs.List.{list_all}
use Rattle.std.proofs.Common.{refl, sym, ap, ap₂, ◌∙◌, subst, arith, append_assoc, append-nil}
use Rattle.std.proofs.lemmas.List.{take_all, length-drop}
use Rattle.std.proofs.lemmas.Bool.{and_parts}
use Rattle.std.specs.Ordering.{match_ordering}
use Rattle.std.specs.declared.cmp.Ordering.{Ordering}
use Rattle.std.specs.declared.cmp.Ordering.TheVariants.{Less, Equal, Greater}
use Rattle.dr_meaning.specs.Query.{tuple_order}
use Rattle.dr_partials.specs.Partials as meant
use Rattle.dr_partials.specs.Partials.{merge_groups}
use Rattle.dr_partials.specs.PartialBounds.{GroupsCanBeOf}
use Rattle.dr_partials.proofs.GroupLemmas.{Ascending, ascending_groups, ascending_ascends}
use Rattle.dr_group.specs.Groups.{group_view, picked}
use Rattle.dr_group.specs.Merging.{are_numbers, AreAscending, join_firsts}
use Rattle.dr_group.specs.Turns.{turn_of}
use Rattle.dr_group.specs.declared.group.Group.{Group}
use Rattle.dr_group.specs.declared.turn.Turn.{Turn}
use Rattle.dr_group.proofs.MergeLemmas.{my_turn, their_turn, both_turn}

-- ---- as lists

mine_next : (gs hs done whole : List meant.Group) → Ascending gs → Ascending hs → turn_of gs hs ≡ Turn.Mine → done ++ merge_groups gs hs ≡ whole → (done ++ take 1 gs) ++ merge_groups (drop 1 gs) hs ≡ whole
mine_next [] [] done whole a b t e = cc
mine_next [] (h ∷ hs) done whole a b t e = cc
mine_next (g ∷ gs) hs done whole a b t e =
    append_assoc done (g ∷ []) (merge_groups gs hs) ∙ ap (λ (ms : List meant.Group). done ++ ms) (sym (my_turn g gs hs a b t)) ∙ e

theirs_next : (gs hs done whole : List meant.Group) → Ascending gs → turn_of gs hs ≡ Turn.Theirs → done ++ merge_groups gs hs ≡ whole → (done ++ take 1 hs) ++ merge_groups gs (drop 1 hs) ≡ whole
theirs_next [] [] done whole a t e = cc
theirs_next (g ∷ gs) [] done whole a t e = cc
theirs_next gs (h ∷ hs) done whole a t e =
    append_assoc done (h ∷ []) (merge_groups gs hs) ∙ ap (λ (ms : List meant.Group). done ++ ms) (sym (their_turn h gs hs a t)) ∙ e

both_next : (gs hs done whole : List meant.Group) → Ascending gs → turn_of gs hs ≡ Turn.Both → done ++ merge_groups gs hs ≡ whole → (done ++ join_firsts gs hs) ++ merge_groups (drop 1 gs) (drop 1 hs) ≡ whole
both_next [] [] done whole a t e = cc
both_next [] (h ∷ hs) done whole a t e = cc
both_next (g ∷ gs) [] done whole a t e = cc
both_next (g ∷ gs) (h ∷ hs) done whole a t e =
    append_assoc done (meant.join_groups g h ∷ []) (merge_groups gs hs) ∙ ap (λ (ms : List meant.Group). done ++ ms) (sym (both_turn g h gs hs a t)) ∙ e

none_next : (gs hs done whole : List meant.Group) → turn_of gs hs ≡ Turn.End → done ++ merge_groups gs hs ≡ whole → done ≡ whole
none_next [] [] done whole t e = sym (append-nil done) ∙ e
none_next [] (h ∷ hs) done whole t e = cc
none_next (g ∷ gs) [] done whole t e = cc
none_next (g ∷ gs) (h ∷ hs) done whole t e = some_order (tuple_order g.keys h.keys) t
  where
    some_order : (o : Ordering) → match_ordering o Turn.Mine Turn.Both Turn.Theirs ≡ Turn.End → done ≡ whole
    some_order Less r = cc
    some_order Equal r = cc
    some_order Greater r = cc

pub some_mine : (mine : List Group) (my : List ℕ) (hs : List meant.Group) → turn_of (picked mine my) hs ≡ Turn.Mine → 0 < length my
some_mine mine [] [] t = cc
some_mine mine [] (h ∷ hs) t = cc
some_mine mine (i ∷ my) hs t = omega arith

pub some_theirs : (gs : List meant.Group) (theirs : List Group) (their : List ℕ) → turn_of gs (picked theirs their) ≡ Turn.Theirs → 0 < length their
some_theirs [] theirs [] t = cc
some_theirs (g ∷ gs) theirs [] t = cc
some_theirs gs theirs (i ∷ their) t = omega arith

pub some_both : (mine : List Group) (my : List ℕ) (theirs : List Group) (their : List ℕ) → turn_of (picked mine my) (picked theirs their) ≡ Turn.Both → (0 < length my) × (0 < length their)
some_both mine [] theirs [] t = cc
some_both mine [] theirs (j ∷ their) t = cc
some_both mine (i ∷ my) theirs [] t = cc
some_both mine (i ∷ my) theirs (j ∷ their) t = (omega arith, omega arith)

rest_ascends : (gs : List meant.Group) → AreAscending gs → AreAscending (drop 1 gs)
rest_ascends [] a = refl
rest_ascends (g ∷ gs) a = ascending_ascends gs (ascending_groups (g ∷ gs) a).1

rest_bounded : (b : ℕ) (gs : List meant.Group) → GroupsCanBeOf b gs → GroupsCanBeOf b (drop 1 gs)
rest_bounded b [] h = h
rest_bounded b (g ∷ gs) h = h.1

rest_numbers : (gs hs : List Group) (is : List ℕ) → length hs ≡ length gs → are_numbers gs is ≡ true → are_numbers hs (drop 1 is) ≡ true
rest_numbers gs hs [] e a = refl
rest_numbers gs hs (i ∷ is) e a =
    ap (λ n. list_all (λ j. nat_lt j n) is) e ∙ (and_parts (nat_lt i (length gs)) (list_all (λ j. nat_lt j (length gs)) is) a).1

-- ---- as the code has them

pub record Left (bound : ℕ) (mine : List Group) (my : List ℕ) (theirs : List Group) (their : List ℕ) (merged : List Group) (whole : List meant.Group) : Type 0 where
  pub same : map group_view merged ++ merge_groups (picked mine my) (picked theirs their) ≡ whole
  pub my_numbers : are_numbers mine my ≡ true
  pub their_numbers : are_numbers theirs their ≡ true
  pub my_ascending : AreAscending (picked mine my)
  pub their_ascending : AreAscending (picked theirs their)
  pub my_bound : GroupsCanBeOf bound (picked mine my)
  pub their_bound : GroupsCanBeOf bound (picked theirs their)

pub mine_moved : (bound : ℕ) (mine mine' : List Group) (my my' : List ℕ) (theirs : List Group) (their : List ℕ) (merged merged' : List Group) (whole : List meant.Group) → turn_of (picked mine my) (picked theirs their) ≡ Turn.Mine
    → my' ≡ drop 1 my → map group_view merged' ≡ map group_view merged ++ take 1 (picked mine my) → picked mine' (drop 1 my) ≡ drop 1 (picked mine my) → length mine' ≡ length mine
    → Left bound mine my theirs their merged whole → Left bound mine' my' theirs their merged' whole
mine_moved bound mine mine' my my' theirs their merged merged' whole t d e f g s =
    let gs : List meant.Group = picked mine my in
    let hs : List meant.Group = picked theirs their in
    let left : picked mine' my' ≡ drop 1 gs = ap (picked mine') d ∙ f in
    record {
      same = ap₂ (λ (a b : List meant.Group). a ++ merge_groups b hs) e left ∙ mine_next gs hs (map group_view merged) whole (ascending_groups gs s.my_ascending) (ascending_groups hs s.their_ascending) t s.same;
      my_numbers = ap (are_numbers mine') d ∙ rest_numbers mine mine' my g s.my_numbers;
      their_numbers = s.their_numbers;
      my_ascending = subst AreAscending (sym left) (rest_ascends gs s.my_ascending);
      their_ascending = s.their_ascending;
      my_bound = subst (GroupsCanBeOf bound) (sym left) (rest_bounded bound gs s.my_bound);
      their_bound = s.their_bound;
    }

pub theirs_moved : (bound : ℕ) (mine : List Group) (my : List ℕ) (theirs theirs' : List Group) (their their' : List ℕ) (merged merged' : List Group) (whole : List meant.Group) → turn_of (picked mine my) (picked theirs their) ≡ Turn.Theirs
    → their' ≡ drop 1 their → map group_view merged' ≡ map group_view merged ++ take 1 (picked theirs their) → picked theirs' (drop 1 their) ≡ drop 1 (picked theirs their) → length theirs' ≡ length theirs
    → Left bound mine my theirs their merged whole → Left bound mine my theirs' their' merged' whole
theirs_moved bound mine my theirs theirs' their their' merged merged' whole t d e f g s =
    let gs : List meant.Group = picked mine my in
    let hs : List meant.Group = picked theirs their in
    let left : picked theirs' their' ≡ drop 1 hs = ap (picked theirs') d ∙ f in
    record {
      same = ap₂ (λ (a b : List meant.Group). a ++ merge_groups gs b) e left ∙ theirs_next gs hs (map group_view merged) whole (ascending_groups gs s.my_ascending) t s.same;
      my_numbers = s.my_numbers;
      their_numbers = ap (are_numbers theirs') d ∙ rest_numbers theirs theirs' their g s.their_numbers;
      my_ascending = s.my_ascending;
      their_ascending = subst AreAscending (sym left) (rest_ascends hs s.their_ascending);
      my_bound = s.my_bound;
      their_bound = subst (GroupsCanBeOf bound) (sym left) (rest_bounded bound hs s.their_bound);
    }

pub both_moved : (bound : ℕ) (mine mine' : List Group) (my my' : List ℕ) (theirs theirs' : List Group) (their their' : List ℕ) (merged merged' : List Group) (whole : List meant.Group)
    → turn_of (picked mine my) (picked theirs their) ≡ Turn.Both → my' ≡ drop 1 my → their' ≡ drop 1 their → map group_view merged' ≡ map group_view merged ++ join_firsts (picked mine my) (picked theirs their)
    → picked mine' (drop 1 my) ≡ drop 1 (picked mine my) → picked theirs' (drop 1 their) ≡ drop 1 (picked theirs their) → length mine' ≡ length mine → length theirs' ≡ length theirs
    → Left bound mine my theirs their merged whole → Left bound mine' my' theirs' their' merged' whole
both_moved bound mine mine' my my' theirs theirs' their their' merged merged' whole t d c e f k g l s =
    let gs : List meant.Group = picked mine my in
    let hs : List meant.Group = picked theirs their in
    let my_left : picked mine' my' ≡ drop 1 gs = ap (picked mine') d ∙ f in
    let their_left : picked theirs' their' ≡ drop 1 hs = ap (picked theirs') c ∙ k in
    record {
      same = ap (λ (a : List meant.Group). a ++ merge_groups (picked mine' my') (picked theirs' their')) e
          ∙ ap₂ (λ (a b : List meant.Group). (map group_view merged ++ join_firsts gs hs) ++ merge_groups a b) my_left their_left
          ∙ both_next gs hs (map group_view merged) whole (ascending_groups gs s.my_ascending) t s.same;
      my_numbers = ap (are_numbers mine') d ∙ rest_numbers mine mine' my g s.my_numbers;
      their_numbers = ap (are_numbers theirs') c ∙ rest_numbers theirs theirs' their l s.their_numbers;
      my_ascending = subst AreAscending (sym my_left) (rest_ascends gs s.my_ascending);
      their_ascending = subst AreAscending (sym their_left) (rest_ascends hs s.their_ascending);
      my_bound = subst (GroupsCanBeOf bound) (sym my_left) (rest_bounded bound gs s.my_bound);
      their_bound = subst (GroupsCanBeOf bound) (sym their_left) (rest_bounded bound hs s.their_bound);
    }

pub all_merged : (bound : ℕ) (mine : List Group) (my : List ℕ) (theirs : List Group) (their : List ℕ) (merged : List Group) (whole : List meant.Group) → turn_of (picked mine my) (picked theirs their) ≡ Turn.End
    → Left bound mine my theirs their merged whole → map group_view merged ≡ whole
all_merged bound mine my theirs their merged whole t s = none_next (picked mine my) (picked theirs their) (map group_view merged) whole t s.same

-- ---- what is left of an order, and the room for it

pub front_left : (xs : List ℕ) → take (length xs - 1) (drop 1 xs) ≡ drop 1 xs
front_left xs = take_all (length xs - 1) (drop 1 xs) (omega (arith, length-drop 1 xs))

shorter : (xs ys : List ℕ) → ys ≡ drop 1 xs → length ys ≡ length xs - 1
shorter xs ys e = ap length e ∙ length-drop 1 xs

pub room_mine : (xs ys : List ℕ) (n m b total : ℕ) → ys ≡ drop 1 xs → 0 < length xs → m ≡ n + 1 → n + length xs + b ≤ total → m + length ys + b ≤ total
room_mine xs ys n m b total e h f r = omega (arith, shorter xs ys e, h, f, r)

pub room_theirs : (xs ys : List ℕ) (n m a total : ℕ) → ys ≡ drop 1 xs → 0 < length xs → m ≡ n + 1 → n + a + length xs ≤ total → m + a + length ys ≤ total
room_theirs xs ys n m a total e h f r = omega (arith, shorter xs ys e, h, f, r)

pub room_both : (xs xs' ys ys' : List ℕ) (n m total : ℕ) → xs' ≡ drop 1 xs → ys' ≡ drop 1 ys → 0 < length xs → 0 < length ys → m ≡ n + 1 → n + length xs + length ys ≤ total → m + length xs' + length ys' ≤ total
room_both xs xs' ys ys' n m total d e h k f r = omega (arith, shorter xs xs' d, shorter ys ys' e, h, k, f, r)
