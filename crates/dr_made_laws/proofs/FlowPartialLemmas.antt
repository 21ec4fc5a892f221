-- What is put into groups over the moves of records is the partial of the records.
use Rattle.std.proofs.Common.{◌≡◌, List, [], ◌∷◌, true, Option, None, Some, refl, sym, ap, ap₂, ◌∙◌, subst}
use Rattle.std.specs.Prelude.{IsPermutation}
use Rattle.std.specs.List.{list_all, filter_map, cons_option}
use Rattle.std.proofs.lemmas.Bool.{and_parts}
use Rattle.dr_meaning.specs.Schema.{Fields}
use Rattle.dr_meaning.specs.Path.{chain_end}
use Rattle.dr_meaning.specs.Record.{Node, is_record}
use Rattle.dr_meaning.specs.Kept.{kept, kept_along}
use Rattle.dr_meaning.specs.Query.{Selection, levels_of}
use Rattle.dr_moves.specs.Cutting.{flow}
use Rattle.dr_kept_laws.specs.GroupFlow.{all_fired, all_left, left_with}
use Rattle.dr_kept_laws.specs.GroupFlowLaws.{all_means}
use Rattle.dr_kept_laws.proofs.FiredTogetherLaws.{fired_together, all_fired_together}
use Rattle.dr_partials.specs.Partials.{Partial, grouped, partial_of, Stands, merge, empty_groups, empty_selected, selected_partial, empty_partial}
use Rattle.dr_partials.specs.PartialTypes.{is_partial}
use Rattle.dr_partials.specs.Putting.{Put, put_all, puts_of_selection, puts_of}
use Rattle.dr_partials.proofs.PartialLemmas.{empty_stands_for_none, merged_stands}
use Rattle.dr_partials.proofs.PartialTypeLemmas.{empty_is_partial}
use Rattle.dr_partials.proofs.PutLemmas.{puts_are_merged}
use Rattle.dr_made_laws.specs.FlowPartial.{PutsMakePartial, GroupReadingsRead, FlowIsPartial, WholeFlowIsPartial, NothingIsPartial}
use Rattle.dr_partials.proofs.AnyOrderLemmas.{puts_in_any_order}
use Rattle.dr_made_laws.proofs.ReadingLemmas.{readings_mean_puts}

pub puts_make_partial : PutsMakePartial
unfolding Stands empty_partial
puts_make_partial fs q keys items e m R ps a h =
    let x : empty_partial q ≡ grouped (empty_groups keys items) = ap empty_selected e in
    let i : is_partial fs q (grouped (empty_groups keys items)) ≡ true = ap (is_partial fs q) (sym x) ∙ empty_is_partial fs q in
    puts_in_any_order q ps (puts_of q R) (empty_partial q) h
    ∙ (ap (put_all q (puts_of q R)) x
    ∙ (puts_are_merged fs q R (empty_groups keys items) m a i
    ∙ (ap (λ (r : Partial). merge r (partial_of fs q R)) (sym x)
    ∙ merged_stands fs q [] R (empty_partial q) (partial_of fs q R) m refl a (empty_stands_for_none fs q) refl)))

-- what two functions give that give the same of records
filter_alike : (fs : Fields) (f g : Node → Option Node) → ((n : Node) → is_record fs n ≡ true → f n ≡ g n) → (R : List Node)
    → list_all (is_record fs) R ≡ true
    → filter_map f R ≡ filter_map g R
filter_alike fs f g h [] a = refl
filter_alike fs f g h (n ∷ R) a =
    let b : (is_record fs n ≡ true) × (list_all (is_record fs) R ≡ true) = and_parts (is_record fs n) (list_all (is_record fs) R) a in
    ap₂ (λ (o : Option Node) (ns : List Node). cons_option o ns) (h n b.0) (filter_alike fs f g h R b.1)

every : (R : List Node) → filter_map (λ (n : Node). Some n) R ≡ R
every [] = refl
every (n ∷ R) = ap (λ (ns : List Node). n ∷ ns) (every R)

none : (R : List Node) → filter_map {Y = Node} (λ (n : Node). None) R ≡ []
none [] = refl
none (n ∷ R) = none R

pub group_readings_read : GroupReadingsRead
group_readings_read fs q keys items e m F first at r = record {
  keys = keys;
  items = items;
  selects = e;
  mergeable = m;
  read = r;
  puts =
      λ R a. readings_mean_puts keys items first at (filter_map (kept q.condition) R)
      ∙ ap (λ (s : Selection). puts_of_selection s (filter_map (kept q.condition) R)) (sym e);
}

pub flow_is_partial : FlowIsPartial
flow_is_partial fs q F xs x w p K test s k R T c a m =
    let ps : List Put = flow (all_fired xs) (left_with (all_left xs)) w (Some (0 ∷ w.chain)) c T in
    let same : all_means xs (filter_map (kept_along (chain_end p) test) R) ≡ puts_of q R =
    ap (all_means xs) (sym (filter_alike fs (kept q.condition) (kept_along (chain_end p) test) k R a)) ∙ x.puts R a in
    puts_make_partial fs q x.keys x.items x.selects x.mergeable R ps a
    (subst (IsPermutation ps) same (fired_together Put fs F w p K test s xs x.read R T c a m))

pub whole_flow_is_partial : WholeFlowIsPartial
whole_flow_is_partial fs q F xs x l k R T c w a m =
    let ps : List Put = flow (all_fired xs) (left_with (all_left xs)) w None c T in
    let same : all_means xs R ≡ puts_of q R =
    ap (all_means xs) (sym (filter_alike fs (kept q.condition) (λ n. Some n) k R a ∙ every R)) ∙ x.puts R a in
    puts_make_partial fs q x.keys x.items x.selects x.mergeable R ps a
    (subst (IsPermutation ps) same (all_fired_together Put fs F l xs x.read R T c w a m))

pub nothing_is_partial : NothingIsPartial
unfolding Stands partial_of
nothing_is_partial fs q R a k =
    empty_stands_for_none fs q
    ∙ ap (selected_partial q.selection (levels_of fs)) (sym (filter_alike fs (kept q.condition) (λ n. None) k R a ∙ none R))
