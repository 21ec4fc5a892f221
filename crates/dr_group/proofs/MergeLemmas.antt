-- Merging groups from their fronts.
use Rattle.std.specs.Prelude.{◌≡◌, List, [], ◌∷◌}
use Rattle.std.specs.Ordering.{match_ordering, ordering_reverse}
use Rattle.std.specs.declared.cmp.Ordering.{Ordering}
use Rattle.std.specs.declared.cmp.Ordering.TheVariants.{Less, Equal, Greater}
use Rattle.std.proofs.Common.{refl, ap, ◌∙◌, subst}
use Rattle.dr_meaning.specs.Query.{tuple_order}
use Rattle.dr_partials.specs.Partials.{Group, join_groups, insert_group, merge_groups}
use Rattle.dr_partials.proofs.ValueOrders.{tuple_order_total, tuple_order_exact}
use Rattle.dr_partials.proofs.GroupLemmas.{Tuple, AllAbove, Ascending, less_back, above_greater}
use Rattle.dr_group.specs.Turns.{turn_of}
use Rattle.dr_group.specs.declared.turn.Turn.{Turn}

greater_back : (t u : Tuple) → tuple_order u t ≡ Less → tuple_order t u ≡ Greater
greater_back t u h = tuple_order_total.antisymm t u ∙ ap ordering_reverse h

above_inserted : (s : Tuple) (g : Group) (hs : List Group) → tuple_order s g.keys ≡ Less → AllAbove s hs → AllAbove s (insert_group g hs)
above_inserted s g [] h a = (h, tt)
above_inserted s g (k ∷ hs) h a = by_order (tuple_order g.keys k.keys) (above_inserted s g hs h a.1)
  where
    by_order : (o : Ordering) → AllAbove s (insert_group g hs) → AllAbove s (match_ordering o (g ∷ k ∷ hs) (join_groups g k ∷ hs) (k ∷ insert_group g hs))
    by_order Less r = (h, a)
    by_order Equal r = (h, a.1)
    by_order Greater r = (a.0, r)

above_merged : (s : Tuple) (gs hs : List Group) → AllAbove s gs → AllAbove s hs → AllAbove s (merge_groups gs hs)
above_merged s [] hs a b = b
above_merged s (g ∷ gs) hs a b = above_inserted s g (merge_groups gs hs) a.0 (above_merged s gs hs a.1 b)

insert_front : (g : Group) (hs : List Group) → AllAbove g.keys hs → insert_group g hs ≡ g ∷ hs
insert_front g [] a = refl
insert_front g (h ∷ hs) a = ap (λ o. match_ordering o (g ∷ h ∷ hs) (join_groups g h ∷ hs) (h ∷ insert_group g hs)) a.0

-- the first of the one side stands before all others
first_mine : (g : Group) (gs hs : List Group) → AllAbove g.keys gs → AllAbove g.keys hs → merge_groups (g ∷ gs) hs ≡ g ∷ merge_groups gs hs
first_mine g gs hs a b = insert_front g (merge_groups gs hs) (above_merged g.keys gs hs a b)

-- the first of the other side does
first_theirs : (h : Group) (gs hs : List Group) → AllAbove h.keys gs → merge_groups gs (h ∷ hs) ≡ h ∷ merge_groups gs hs
first_theirs h [] hs a = refl
first_theirs h (g ∷ gs) hs a =
    ap (insert_group g) (first_theirs h gs hs a.1)
    ∙ ap (λ o. match_ordering o (g ∷ h ∷ merge_groups gs hs) (join_groups g h ∷ merge_groups gs hs) (h ∷ insert_group g (merge_groups gs hs))) (greater_back g.keys h.keys a.0)

-- both have one key tuple
first_both : (g h : Group) (gs hs : List Group) → tuple_order g.keys h.keys ≡ Equal → AllAbove g.keys gs → merge_groups (g ∷ gs) (h ∷ hs) ≡ join_groups g h ∷ merge_groups gs hs
first_both g h gs hs e a =
    ap (insert_group g) (first_theirs h gs hs (subst (λ (t : Tuple). AllAbove t gs) (tuple_order_exact g.keys h.keys e) a))
    ∙ ap (λ o. match_ordering o (g ∷ h ∷ merge_groups gs hs) (join_groups g h ∷ merge_groups gs hs) (h ∷ insert_group g (merge_groups gs hs))) e

-- ---- whose turn it is

pub my_turn : (g : Group) (gs hs : List Group) → Ascending (g ∷ gs) → Ascending hs → turn_of (g ∷ gs) hs ≡ Turn.Mine → merge_groups (g ∷ gs) hs ≡ g ∷ merge_groups gs hs
my_turn g gs [] a b t = first_mine g gs [] a.0 tt
my_turn g gs (h ∷ hs) a b t = by_order (tuple_order g.keys h.keys) refl t
  where
    by_order : (o : Ordering) → tuple_order g.keys h.keys ≡ o → match_ordering o Turn.Mine Turn.Both Turn.Theirs ≡ Turn.Mine → merge_groups (g ∷ gs) (h ∷ hs) ≡ g ∷ merge_groups gs (h ∷ hs)
    by_order Less e r = first_mine g gs (h ∷ hs) a.0 (e, above_greater g.keys h.keys hs e b.0)
    by_order Equal e r = cc
    by_order Greater e r = cc

pub their_turn : (h : Group) (gs hs : List Group) → Ascending gs → turn_of gs (h ∷ hs) ≡ Turn.Theirs → merge_groups gs (h ∷ hs) ≡ h ∷ merge_groups gs hs
their_turn h [] hs a t = refl
their_turn h (g ∷ gs) hs a t = by_order (tuple_order g.keys h.keys) refl t
  where
    by_order : (o : Ordering) → tuple_order g.keys h.keys ≡ o → match_ordering o Turn.Mine Turn.Both Turn.Theirs ≡ Turn.Theirs → merge_groups (g ∷ gs) (h ∷ hs) ≡ h ∷ merge_groups (g ∷ gs) hs
    by_order Less e r = cc
    by_order Equal e r = cc
    by_order Greater e r = let l = less_back g.keys h.keys e in first_theirs h (g ∷ gs) hs (l, above_greater h.keys g.keys gs l a.0)

pub both_turn : (g h : Group) (gs hs : List Group) → Ascending (g ∷ gs) → turn_of (g ∷ gs) (h ∷ hs) ≡ Turn.Both → merge_groups (g ∷ gs) (h ∷ hs) ≡ join_groups g h ∷ merge_groups gs hs
both_turn g h gs hs a t = by_order (tuple_order g.keys h.keys) refl t
  where
    by_order : (o : Ordering) → tuple_order g.keys h.keys ≡ o → match_ordering o Turn.Mine Turn.Both Turn.Theirs ≡ Turn.Both → merge_groups (g ∷ gs) (h ∷ hs) ≡ join_groups g h ∷ merge_groups gs hs
    by_order Less e r = cc
    by_order Equal e r = first_both g h gs hs e a.0
    by_order Greater e r = cc
