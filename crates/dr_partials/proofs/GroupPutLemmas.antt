-- Puts into groups, one after another.
use Rattle.std.proofs.Common.{◌≡◌, List, [], ◌∷◌, ◌++◌, refl, sym, ap, ◌∙◌}
use Rattle.dr_meaning.specs.Path.{Step}
use Rattle.dr_meaning.specs.Query.{GroupItem, Selection, groups, Query}
use Rattle.dr_partials.specs.Partials.{Group, grouped}
use Rattle.dr_partials.specs.Putting.{Put, put_group, put_selected, put, put_all, puts_of_rows}
use Rattle.dr_partials.specs.Readings.{puts_of_groups}
use Rattle.dr_partials.specs.GroupPuts.{GroupsBecome, SourceGroupsFirst}
use Rattle.dr_partials.proofs.TogetherLemmas.{all_of}
use Rattle.dr_partials.proofs.ReadingLemmas.{groups_are_put_first}

one_put : (q : Query) (keys : List (List Step)) (items : List GroupItem) (p : Put) (gs : List Group) → q.selection ≡ groups keys items → put q p (grouped gs) ≡ grouped (put_group items p gs)
unfolding put
one_put q keys items p gs e = ap (λ (s : Selection). put_selected s p (grouped gs)) e

pub groups_become : GroupsBecome
groups_become q keys items [] gs e = refl
groups_become q keys items (p ∷ ps) gs e = ap (put_all q ps) (one_put q keys items p gs e) ∙ groups_become q keys items ps (put_group items p gs) e

pub source_groups_first : SourceGroupsFirst
source_groups_first q keys i value ns more x =
    let g : List Put = puts_of_groups keys ns in
    let p : List Put = puts_of_rows keys i value ns in
    all_of q g (p ++ more) x
    ∙ (all_of q p more (put_all q g x)
    ∙ (ap (put_all q more) (sym (all_of q g p x) ∙ groups_are_put_first q keys i value ns x) ∙ sym (all_of q p more x)))
