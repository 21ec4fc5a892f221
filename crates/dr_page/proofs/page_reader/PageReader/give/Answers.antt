use Rattle.std.proofs.Common.{◌≡◌, ◌+◌, ◌-◌, ◌≤◌, ◌∙◌, List, ℕ, length, drop, refl, sym, ap, ap₂, subst, arith, Ok}
use Rattle.std.specs.Prelude.{min}
use Rattle.std.proofs.lemmas.List.{length-map}
use Rattle.std.proofs.lemmas.Result.{err_from_is_err_and}
use Rattle.dr_meaning.specs.Schema.{Kind}
use Rattle.dr_nested.specs.Views.{kind_view}
use Rattle.dr_levels.specs.declared.triplet.Levels.{Levels}
use Rattle.dr_levels.specs.Dense.{present}
use Rattle.dr_levels.specs.Views.{LeafForm, column_view}
use Rattle.dr_formats.specs.Page.{count_equal, levels, encoded_values}
use Rattle.dr_page.specs.declared.page_reader.PageReader.{PageReader}
use Rattle.dr_page.specs.Reads.{WhereNone}
use Rattle.dr_page.specs.Parts.{part_in, PairsOf}
use Rattle.dr_page.specs.Views.{dictionary_view}
use Rattle.dr_page.specs.LevelPieces.{piece_of, WhereNotBoth}
use Rattle.dr_page.specs.ValuePieces.{HasValues, ExtendsBy}
use Rattle.dr_page.proofs.BodyLemmas.{pairs_present}
use Rattle.dr_page.proofs.PageSteps.{no_more_levels, no_more_values, gives_more, behind_levels}
use Rattle.dr_page.proofs.page_reader.PageReader.give.Goals as goal

pub returns-in_err-next-clause-gives : goal.returns-in_err-next-clause-gives
returns-in_err-next-clause-gives c =
    let r = c.args.self.now in
    let bs = c.args.bytes.now in
    let n = min c.args.most r.left in
    let e = c.in_err-next.field-0.0 in
    let count : c.min-count.result ≡ n = omega arith in
    let few : n ≤ r.left = omega arith in
    let new : PageReader = record { kind = r.kind; left = r.left; parts = r.parts; levels = c.next.new.self; values = r.values; refused = r.refused } in
    let p = err_from_is_err_and c.from_residual.result c.from_residual.ensures.1 in
    λ s given h.
    let st = h.stands in
    let w = subst (λ (m : ℕ). WhereNotBoth e (levels r.levels.repetitions.greatest (length st.rs + m) (part_in bs r.parts.repetitions)) (levels r.levels.definitions.greatest (length st.ds + m) (part_in bs r.parts.definitions))) count
    (c.in_err-next.ensures.next st.rs st.ds st.inside st.levels) in
    rw (p.1, p.2) (no_more_levels s (dictionary_view c.args.dictionary.now) bs given n r h few e (column_view c.args.out.now) (column_view c.args.out.now) new w)

pub extend-requires-clause-as_many : goal.extend-requires-clause-as_many
extend-requires-clause-as_many c =
    let g = c.args.self.now.levels.definitions.greatest in
    let fs = piece_of c.next.new.self.definitions in
    ap₂ (λ k (ls : List Levels). present k ls) (ap (λ (f : LeafForm). f.greatest) c.requires.form) c.deref.ensures.value
    ∙ (pairs_present g (piece_of c.next.new.self.repetitions) fs c.next.new.self.pairs.items c.in_ok-next.ensures.pairs
    ∙ (ap (λ k. count_equal k fs) (sym c.in_ok-next.ensures.definition) ∙ sym c.count_values-values.ensures))

pub returns-in_err-extend-clause-gives : goal.returns-in_err-extend-clause-gives
returns-in_err-extend-clause-gives c =
    let r = c.args.self.now in
    let bs = c.args.bytes.now in
    let d = dictionary_view c.args.dictionary.now in
    let n = min c.args.most r.left in
    let k = c.count_values-values.result in
    let e = c.in_err-extend.field-0.0 in
    let es = piece_of c.next.new.self.repetitions in
    let fs = piece_of c.next.new.self.definitions in
    let count : c.min-count.result ≡ n = omega arith in
    let few : n ≤ r.left = omega arith in
    let many : length fs ≡ n = sym (ap length c.in_ok-next.ensures.pairs.1) ∙ (length-map c.next.new.self.pairs.items (λ (l : Levels). l.definition) ∙ (c.in_ok-next.ensures.count ∙ count)) in
    let new : PageReader = record { kind = r.kind; left = r.left; parts = r.parts; levels = c.next.new.self; values = c.extend.new.self; refused = r.refused } in
    let p = err_from_is_err_and c.from_residual-in_err-extend.result c.from_residual-in_err-extend.ensures.1 in
    λ s given h.
    let st = h.stands in
    let rest = behind_levels c.min.result r.parts.values bs c.min.ensures st.inside.2 in
    let ask = subst (λ (xs : List ℕ). HasValues s.encoding (kind_view r.kind) d xs st.vs r.values → WhereNone e (encoded_values s.encoding (kind_view r.kind) d (length st.vs + k) xs)) rest (c.in_err-extend.ensures.next s.encoding st.vs) in
    let asked = subst (λ (q : Kind). HasValues s.encoding q d (drop r.parts.values bs) st.vs r.values → WhereNone e (encoded_values s.encoding q d (length st.vs + k) (drop r.parts.values bs))) st.kind ask in
    rw (p.1, p.2) (no_more_values s d bs given n r h few e k es fs c.next.new.self (column_view c.args.out.now) (column_view c.extend.new.out) new (c.in_ok-next.ensures.next st.rs st.ds st.inside st.levels) c.in_ok-next.ensures.definition many
    (c.count_values-values.ensures ∙ ap (λ g. count_equal g fs) (c.in_ok-next.ensures.definition ∙ st.definition)) (asked st.values))

pub returns-clause-gives : goal.returns-clause-gives
returns-clause-gives c =
    let r = c.args.self.now in
    let bs = c.args.bytes.now in
    let d = dictionary_view c.args.dictionary.now in
    let n = min c.args.most r.left in
    let k = c.count_values-values.result in
    let g = c.args.out.now.greatest in
    let es = piece_of c.next.new.self.repetitions in
    let fs = piece_of c.next.new.self.definitions in
    let pairs = c.deref.result.now in
    let before = column_view c.args.out.now in
    let after = column_view c.extend.new.out in
    let count : c.min-count.result ≡ n = omega arith in
    let same = subst (λ (ls : List Levels). PairsOf es fs ls) (sym c.deref.ensures.value) c.in_ok-next.ensures.pairs in
    let new : PageReader = record { kind = r.kind; left = r.left - c.min-count.result; parts = r.parts; levels = c.next.new.self; values = c.extend.new.self; refused = r.refused } in
    λ s given h.
    let st = h.stands in
    let rest = behind_levels c.min.result r.parts.values bs c.min.ensures st.inside.2 in
    let ask = subst (λ (xs : List ℕ). HasValues s.encoding (kind_view r.kind) d xs st.vs r.values → ExtendsBy s.encoding (kind_view r.kind) d xs st.vs k g pairs before after c.extend.new.self (Ok c.in_ok-extend.field-0)) rest
    (c.in_ok-extend.ensures.next s.encoding st.vs) in
    let asked = subst (λ (q : Kind). HasValues s.encoding q d (drop r.parts.values bs) st.vs r.values → ExtendsBy s.encoding q d (drop r.parts.values bs) st.vs k g pairs before after c.extend.new.self (Ok c.in_ok-extend.field-0)) st.kind ask in
    let x = asked st.values in
    gives_more s d bs given n g r new before after es fs pairs x.0 h refl refl c.in_ok-next.ensures.repetition c.in_ok-next.ensures.definition (c.in_ok-next.ensures.next st.rs st.ds st.inside st.levels) same
    (ap length c.deref.ensures.value ∙ (c.in_ok-next.ensures.count ∙ count)) (x.1 ∙ (c.count_values-values.ensures ∙ ap (λ q. count_equal q fs) (c.in_ok-next.ensures.definition ∙ st.definition))) x.3
    (ap (λ (f : LeafForm). f.greatest) c.requires.form ∙ st.definition) x.2 (omega (arith, count)) h.going
