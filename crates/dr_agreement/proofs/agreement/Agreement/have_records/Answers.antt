use Rattle.std.proofs.Common.{◌∙◌, List, map, length, sym, ap, subst}
use Rattle.std.specs.List.{list_all}
use Rattle.std.proofs.lemmas.List.{length-map}
use Rattle.dr_levels.specs.Views.{triplets_view}
use Rattle.dr_beside.proofs.NeighbourLemmas.{neighbours_agree, neighbours_disagree}
use Rattle.dr_agreement.specs.declared.outlines.Neighbours.{Neighbours}
use Rattle.dr_agreement.specs.Outlines.{neighbours_view, is_within, AgreeEach, SomeDisagree}
use Rattle.dr_agreement.proofs.OutlinedLemmas.{all_within}
use Rattle.dr_agreement.proofs.agreement.Agreement.have_records.Goals as goal

pub agree-requires : goal.agree-requires
agree-requires c =
    let n = length c.args.columns.now in
    ap (λ (xs : List Neighbours). list_all (is_within n) xs) c.deref.ensures.value ∙ all_within c.requires.0 c.args.self.now.neighbours.items n c.requires.2 c.requires.1

pub returns-clause-some : goal.returns-clause-some
returns-clause-some c = λ e fs F rows w h d l alone.
    let C = map triplets_view c.args.columns.now in
    let xs = c.args.self.now.neighbours.items in
    let agree : AgreeEach C (map neighbours_view xs) = subst (λ (ys : List Neighbours). AgreeEach C (map neighbours_view ys)) c.deref.ensures.value (c.agree.ensures.same e) in
    neighbours_agree fs F C rows (map neighbours_view xs) h d w (length-map c.args.columns.now triplets_view ∙ sym l) alone agree

pub returns-clause-none : goal.returns-clause-none
returns-clause-none c = λ e fs F rows w h d.
    let C = map triplets_view c.args.columns.now in
    let xs = c.args.self.now.neighbours.items in
    let differ : SomeDisagree C (map neighbours_view xs) = subst (λ (ys : List Neighbours). SomeDisagree C (map neighbours_view ys)) c.deref.ensures.value (c.agree.ensures.differ e) in
    neighbours_disagree fs F C rows differ.1 h d (w.each differ.0 differ.1 differ.2) differ.3
