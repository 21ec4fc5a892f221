-- A key tuple that is put alone before something is put with it changes nothing: that makes the group as well.
use Rattle.std.proofs.Common.{◌≡◌, ◌∙◌, ℕ, List, [], ◌∷◌, drop, Option, None, true, refl, sym, ap, true≢false}
use Rattle.std.specs.Ordering.{is_eq, match_ordering}
use Rattle.std.specs.declared.cmp.Ordering.{Ordering}
use Rattle.std.specs.declared.cmp.Ordering.TheVariants.{Less, Equal, Greater}
use Rattle.dr_meaning.specs.Record.{Value}
use Rattle.dr_meaning.specs.Query.{GroupItem, Query, Selection, objects, groups, tuple_order}
use Rattle.dr_moves.specs.Context.{Context}
use Rattle.dr_partials.specs.Partials.{Group, Partial, lines, grouped}
use Rattle.dr_partials.specs.Putting.{Taken, Put, put, put_all, put_group, put_into, put_selected, empty_accumulators}
use Rattle.dr_partials.proofs.GroupLemmas.{same_itself}
use Rattle.dr_within.specs.Takings.{Take, take_nothing, take_rows, take_values, all_read, put_read, needless}

is_equal : (o : Ordering) → is_eq o ≡ true → o ≡ Equal
is_equal Less h = absurd (true≢false (sym h))
is_equal Equal h = refl
is_equal Greater h = absurd (true≢false (sym h))

abbrev with_key : List (Option Value) → Option Taken → Put
with_key k o = record { keys = k; taken = o }

-- a group of this very key tuple takes what is put
into_itself : (items : List GroupItem) (k : List (Option Value)) (o : Option Taken) (g : Group) (gs : List Group) → g.keys ≡ k
    → put_group items (with_key k o) (g ∷ gs) ≡ put_into items (with_key k o) g.accumulators ∷ gs
into_itself items k o g gs h =
    ap (λ (r : Ordering). match_ordering r (put_into items (with_key k o) (empty_accumulators items) ∷ g ∷ gs) (put_into items (with_key k o) g.accumulators ∷ gs)
    (g ∷ put_group items (with_key k o) gs))
    (ap (tuple_order k) h ∙ is_equal (tuple_order k k) (same_itself k))

group_behind : (items : List GroupItem) (k : List (Option Value)) (o : Option Taken) (gs : List Group)
    → put_group items (with_key k o) (put_group items (with_key k None) gs) ≡ put_group items (with_key k o) gs
group_behind items k o [] = into_itself items k o (put_into items (with_key k None) (empty_accumulators items)) [] refl
group_behind items k o (g ∷ gs) = by (tuple_order k g.keys) refl (group_behind items k o gs)
  where
    by : (r : Ordering) → tuple_order k g.keys ≡ r → put_group items (with_key k o) (put_group items (with_key k None) gs) ≡ put_group items (with_key k o) gs
        → put_group items (with_key k o) (match_ordering r (put_into items (with_key k None) (empty_accumulators items) ∷ g ∷ gs)
        (put_into items (with_key k None) g.accumulators ∷ gs) (g ∷ put_group items (with_key k None) gs))
        ≡ match_ordering r (put_into items (with_key k o) (empty_accumulators items) ∷ g ∷ gs) (put_into items (with_key k o) g.accumulators ∷ gs)
        (g ∷ put_group items (with_key k o) gs)
    by Less e h = into_itself items k o (put_into items (with_key k None) (empty_accumulators items)) (g ∷ gs) refl
    by Equal e h = into_itself items k o (put_into items (with_key k None) g.accumulators) gs refl
    by Greater e h =
        ap (λ (r : Ordering). match_ordering r (put_into items (with_key k o) (empty_accumulators items) ∷ g ∷ put_group items (with_key k None) gs)
        (put_into items (with_key k o) g.accumulators ∷ put_group items (with_key k None) gs) (g ∷ put_group items (with_key k o) (put_group items (with_key k None) gs))) e
        ∙ ap (λ (hs : List Group). g ∷ hs) h

selected_behind : (s : Selection) (k : List (Option Value)) (o : Option Taken) (r : Partial)
    → put_selected s (with_key k o) (put_selected s (with_key k None) r) ≡ put_selected s (with_key k o) r
selected_behind (objects items) k o r = refl
selected_behind (groups keys items) k o (lines os) = refl
selected_behind (groups keys items) k o (grouped gs) = ap grouped (group_behind items k o gs)

put_behind : (q : Query) (k : List (Option Value)) (o : Option Taken) (r : Partial) → put q (with_key k o) (put q (with_key k None) r) ≡ put q (with_key k o) r
unfolding put
put_behind q k o r = selected_behind q.selection k o r

-- what needn't be put changes nothing
pub needless_first : (q : Query) (keys : List ℕ) (c : Context) (ts : List Take) (r : Partial)
    → put_all q (all_read keys (drop (needless ts) ts) c) r ≡ put_all q (all_read keys ts c) r
needless_first q keys c [] r = refl
needless_first q keys c (take_nothing ∷ []) r = refl
needless_first q keys c (take_nothing ∷ t ∷ ts) r = ap (put_all q (all_read keys ts c)) (sym (put_behind q (put_read keys t c).keys (put_read keys t c).taken r))
needless_first q keys c (take_rows i ∷ ts) r = refl
needless_first q keys c (take_values i e ∷ ts) r = refl
