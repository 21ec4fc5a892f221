use Rattle.std.proofs.Common.{◌≡◌, ◌∙◌, [], ℕ, List, Option, length, replicate, vec_len, ap, sym, arith}
use Rattle.std.specs.Prelude.{Some}
use Rattle.std.specs.List.{slice_get}
use Rattle.dr_meaning.specs.Record.{Value}
use Rattle.dr_group.specs.Maps.{tuples_view}
use Rattle.dr_rows_beside.specs.Rows.{Row}
use Rattle.dr_columns.specs.Numbers.{tuples_at, are_among}
use Rattle.dr_columns.proofs.KeylessLemmas.{one_group}
use Rattle.dr_columns.proofs.KeptSourceLemmas.{tuples_alone, among_alone, all_alone}
use Rattle.dr_columns.proofs.kept_sourcing.number_alone.Goals as goal

pub returns-clause-put : goal.returns-clause-put
returns-clause-put c = λ rs e.
    one_group c.args.groups.now c.group_of.new.self rs (λ (z : rs ≡ []). let none : length rs ≡ 0 = ap (λ (us : List Row). length us) z in omega (arith, c.if-rows-eq0.false, none, e)) c.in_ok-group_of.ensures.groups

pub returns-clause-numbers : goal.returns-clause-numbers
returns-clause-numbers c = λ rs e.
    let T = tuples_view c.group_of.new.self in
    let group = c.in_ok-group.group in
    let found : slice_get T group ≡ Some [] = ap (slice_get T) c.in_ok-group.ensures ∙ c.in_ok-group_of.ensures.found in
    let items : c.resize.new.self.items ≡ replicate c.args.rows group =
    all_alone c.args.rows (vec_len c.clear.new.self) group c.clear.new.self.items c.resize.new.self.items c.in_ok-resize.ensures.items c.clear.ensures.items c.clear.ensures.len in
    ap (tuples_at T) items ∙ tuples_alone T group c.args.rows rs found e

pub returns-clause-among : goal.returns-clause-among
returns-clause-among c =
    let T = tuples_view c.group_of.new.self in
    let group = c.in_ok-group.group in
    let t : List (Option Value) = [] in
    let found : slice_get T group ≡ Some t = ap (slice_get T) c.in_ok-group.ensures ∙ c.in_ok-group_of.ensures.found in
    let items : c.resize.new.self.items ≡ replicate c.args.rows group =
    all_alone c.args.rows (vec_len c.clear.new.self) group c.clear.new.self.items c.resize.new.self.items c.in_ok-resize.ensures.items c.clear.ensures.items c.clear.ensures.len in
    ap (are_among (length T)) items ∙ among_alone T group c.args.rows t found
