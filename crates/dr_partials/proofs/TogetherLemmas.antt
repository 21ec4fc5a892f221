-- Puts of records that come in chunks.
use Rattle.std.proofs.Common.{◌≡◌, ℕ, suc, List, [], ◌∷◌, ◌++◌, map, Some, None, refl, sym, ap, ◌∙◌}
use Rattle.std.specs.List.{filter_map, flat_map}
use Rattle.std.proofs.lemmas.Grind.{flat_map-append}
use Rattle.std.proofs.lemmas.List.{map-append}
use Rattle.std.proofs.lemmas.List.Elements.{filter_map-append}
use Rattle.dr_meaning.specs.Path.{Step, longer}
use Rattle.dr_meaning.specs.Record.{Node}
use Rattle.dr_meaning.specs.Rows.{rows}
use Rattle.dr_meaning.specs.Expression.{evaluate, expression_chain, longest_chain}
use Rattle.dr_meaning.specs.Kept.{kept}
use Rattle.dr_meaning.specs.Query.{GroupTerm, key, count_rows, aggregate, Selection, objects, groups, Query, key_tuple}
use Rattle.dr_partials.specs.Partials.{Partial}
use Rattle.dr_partials.specs.PartialTypes.{aggregates_among}
use Rattle.dr_partials.specs.Putting.{Put, put, put_all, puts_of_terms, puts_of_selection, puts_of}
use Rattle.dr_partials.specs.Together.{PutTheSame, PutsOfBoth}
use Rattle.dr_partials.proofs.AnyOrderLemmas.{puts_commute}

pub all_of : (q : Query) (ps rs : List Put) (x : Partial) → put_all q (ps ++ rs) x ≡ put_all q rs (put_all q ps x)
all_of q [] rs x = refl
all_of q (p ∷ ps) rs x = all_of q ps rs (put q p x)

pub past : (q : Query) (p : Put) (ps : List Put) (x : Partial) → put_all q ps (put q p x) ≡ put q p (put_all q ps x)
past q p [] x = refl
past q p (r ∷ ps) x = ap (put_all q ps) (puts_commute q r p x) ∙ past q p ps (put q r x)

pub turned_lists : (q : Query) (ps rs : List Put) (x : Partial) → put_all q rs (put_all q ps x) ≡ put_all q ps (put_all q rs x)
turned_lists q [] rs x = refl
turned_lists q (p ∷ ps) rs x = turned_lists q ps rs (put q p x) ∙ ap (put_all q ps) (past q p rs x)

pub both_same : (q : Query) (ps qs rs ss : List Put) → PutTheSame q ps qs → PutTheSame q rs ss → PutTheSame q (ps ++ rs) (qs ++ ss)
both_same q ps qs rs ss h k x = all_of q ps rs x ∙ (ap (put_all q rs) (h x) ∙ (k (put_all q qs x) ∙ sym (all_of q qs ss x)))

-- the second and the third of four change places
pub crossed : (q : Query) (a b c d : List Put) → PutTheSame q ((a ++ b) ++ (c ++ d)) ((a ++ c) ++ (b ++ d))
crossed q a b c d x =
    four a b c d
    ∙ (ap (put_all q d) (turned_lists q b c (put_all q a x)) ∙ sym (four a c b d))
  where
    four : (e f g h : List Put) → put_all q ((e ++ f) ++ (g ++ h)) x ≡ put_all q h (put_all q g (put_all q f (put_all q e x)))
    four e f g h = all_of q (e ++ f) (g ++ h) x ∙ (all_of q g h (put_all q (e ++ f) x) ∙ ap (λ (y : Partial). put_all q h (put_all q g y)) (all_of q e f x))

rows_of_both : (f : Node → Put) (p : List Step) (ns ms : List Node) → map f (flat_map (rows p) (ns ++ ms)) ≡ map f (flat_map (rows p) ns) ++ map f (flat_map (rows p) ms)
rows_of_both f p ns ms = ap (map f) (flat_map-append (rows p) ns ms) ∙ map-append f (flat_map (rows p) ns) (flat_map (rows p) ms)

-- one term's rows, then the rest
one_term : (q : Query) (f : Node → Put) (p : List Step) (ns ms : List Node) (rest c d : List Put) → PutTheSame q rest (c ++ d)
    → PutTheSame q (map f (flat_map (rows p) (ns ++ ms)) ++ rest) ((map f (flat_map (rows p) ns) ++ c) ++ (map f (flat_map (rows p) ms) ++ d))
one_term q f p ns ms rest c d h x =
    let a : List Put = map f (flat_map (rows p) ns) in
    let b : List Put = map f (flat_map (rows p) ms) in
    ap (λ (ps : List Put). put_all q (ps ++ rest) x) (rows_of_both f p ns ms) ∙ (both_same q (a ++ b) (a ++ b) rest (c ++ d) (λ (y : Partial). refl) h x ∙ crossed q a b c d x)

pub terms_of_both : (q : Query) (keys : List (List Step)) (i : ℕ) (ts : List GroupTerm) (ns ms : List Node) → PutTheSame q (puts_of_terms keys i ts (ns ++ ms)) (puts_of_terms keys i ts ns ++ puts_of_terms keys i ts ms)
terms_of_both q keys i [] ns ms x = refl
terms_of_both q keys i (key j ∷ ts) ns ms x = terms_of_both q keys (suc i) ts ns ms x
terms_of_both q keys i (count_rows ∷ ts) ns ms x =
    one_term q (λ (row : Node). record { keys = key_tuple keys row; taken = Some (record { aggregate = i; value = None }) }) (longest_chain keys) ns ms
    (puts_of_terms keys (suc i) ts (ns ++ ms)) (puts_of_terms keys (suc i) ts ns) (puts_of_terms keys (suc i) ts ms) (terms_of_both q keys (suc i) ts ns ms) x
terms_of_both q keys i (aggregate a e ∷ ts) ns ms x =
    one_term q (λ (row : Node). record { keys = key_tuple keys row; taken = Some (record { aggregate = i; value = evaluate e row }) }) (longer (longest_chain keys) (expression_chain e)) ns ms
    (puts_of_terms keys (suc i) ts (ns ++ ms)) (puts_of_terms keys (suc i) ts ns) (puts_of_terms keys (suc i) ts ms) (terms_of_both q keys (suc i) ts ns ms) x

selection_of_both : (q : Query) (s : Selection) (ns ms : List Node) → PutTheSame q (puts_of_selection s (ns ++ ms)) (puts_of_selection s ns ++ puts_of_selection s ms)
selection_of_both q (objects items) ns ms x = refl
selection_of_both q (groups keys items) ns ms x =
    one_term q (λ (row : Node). record { keys = key_tuple keys row; taken = None }) (longest_chain keys) ns ms
    (puts_of_terms keys 0 (aggregates_among items) (ns ++ ms)) (puts_of_terms keys 0 (aggregates_among items) ns) (puts_of_terms keys 0 (aggregates_among items) ms)
    (terms_of_both q keys 0 (aggregates_among items) ns ms) x

pub puts_of_both : PutsOfBoth
puts_of_both q R S x =
    ap (λ (ns : List Node). put_all q (puts_of_selection q.selection ns) x) (filter_map-append (kept q.condition) R S)
    ∙ (selection_of_both q q.selection (filter_map (kept q.condition) R) (filter_map (kept q.condition) S) x ∙ all_of q (puts_of q R) (puts_of q S) x)
