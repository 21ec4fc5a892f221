use Rattle.std.proofs.Common.{◌≡◌, ◌≤◌, ◌∙◌, ◌++◌, [], List, Bool, length, refl, sym, ap, subst, append-nil, arith}
use Rattle.std.proofs.lemmas.Result.{err_from_is_err_and}
use Rattle.dr_levels.specs.Views.{column_view}
use Rattle.dr_chunk.proofs.AskLemmas.{asks_then}
use Rattle.dr_chunk.proofs.HeaderLemmas.{tells_same}
use Rattle.dr_file.specs.OpenedFiles.{path_of}
use Rattle.dr_file.specs.Streams.{IsStreamOf, StreamGoesOn, Reads, left_of}
use Rattle.dr_file.proofs.StreamLemmas.{asks_same_stream, begins_same, nothing_joined}
use Rattle.dr_file.proofs.stream.Stream.give_outline.Goals as goal

pub returns-in_err-tell_batch-clause-bad : goal.returns-in_err-tell_batch-clause-bad
returns-in_err-tell_batch-clause-bad g c = λ bytes l given s told e.
    let inv = c.batches.invariant in
    let told′ = tells_same (g.L.Link.shows c.args.link.now) (g.L.Link.shows c.batches.link) _ _ bytes inv.same (ap path_of inv.file) told in
    let p = err_from_is_err_and c.from_residual.result c.from_residual.ensures.1 in
    c.in_err-tell_batch.ensures.bad bytes l given (inv.given bytes l given s told) told′ (cc (p.1, p.2, e))

pub returns-in_err-tell_batch-clause-asked : goal.returns-in_err-tell_batch-clause-asked
returns-in_err-tell_batch-clause-asked g c = asks_then _ _ _ _ c.batches.invariant.asked (asks_same_stream c.args.self.now c.batches.self _ _ c.batches.invariant.file c.batches.invariant.field c.tell_batch.ensures.asked)

pub returns-then-not-branch-clause-more : goal.returns-then-not-branch-clause-more
returns-then-not-branch-clause-more g c = λ bytes l given s told.
    let inv = c.batches.invariant in
    let told′ = tells_same (g.L.Link.shows c.args.link.now) (g.L.Link.shows c.batches.link) _ _ bytes inv.same (ap path_of inv.file) told in
    let m = subst (λ (b : Bool). StreamGoesOn bytes l given (column_view c.batches.out) (column_view c.tell_batch.new.out) c.tell_batch.new.self b) c.if-not-branch.true (c.in_ok-tell_batch.ensures.more bytes l given (inv.given bytes l given s told) told′) in
    (m.0 ∙ inv.column, m.1, m.2)

pub returns-then-not-branch-clause-asked : goal.returns-then-not-branch-clause-asked
returns-then-not-branch-clause-asked g c = asks_then _ _ _ _ c.batches.invariant.asked (asks_same_stream c.args.self.now c.batches.self _ _ c.batches.invariant.file c.batches.invariant.field c.tell_batch.ensures.asked)

pub returns-then-not-branch-clause-front : goal.returns-then-not-branch-clause-front
returns-then-not-branch-clause-front g c =
    let r = subst (λ (b : Bool). Reads b (column_view c.batches.out) (column_view c.tell_batch.new.out) (left_of c.batches.self) (left_of c.tell_batch.new.self)) c.if-not-branch.true c.in_ok-tell_batch.ensures.reads in
    begins_same _ _ (r.0 ∙ c.batches.invariant.column)

pub returns-then-len-before-clause-front : goal.returns-then-len-before-clause-front
returns-then-len-before-clause-front g c =
    let r = subst (λ (b : Bool). Reads b (column_view c.batches.out) (column_view c.tell_batch.new.out) (left_of c.batches.self) (left_of c.tell_batch.new.self)) c.if-not-branch.false c.in_ok-tell_batch.ensures.reads in
    (r.0, r.1 ∙ ap (λ xs. xs ++ r.0) c.batches.invariant.column)

pub returns-then-len-before-clause-more : goal.returns-then-len-before-clause-more
returns-then-len-before-clause-more g c = λ bytes l given s told.
    let inv = c.batches.invariant in
    let told′ = tells_same (g.L.Link.shows c.args.link.now) (g.L.Link.shows c.batches.link) _ _ bytes inv.same (ap path_of inv.file) told in
    let m = subst (λ (b : Bool). StreamGoesOn bytes l given (column_view c.batches.out) (column_view c.tell_batch.new.out) c.tell_batch.new.self b) c.if-not-branch.false (c.in_ok-tell_batch.ensures.more bytes l given (inv.given bytes l given s told) told′) in
    (m.0, m.1 ∙ ap (λ xs. xs ++ m.0) inv.column, m.2)

pub returns-then-len-before-clause-asked : goal.returns-then-len-before-clause-asked
returns-then-len-before-clause-asked g c = asks_then _ _ _ _ c.batches.invariant.asked (asks_same_stream c.args.self.now c.batches.self _ _ c.batches.invariant.file c.batches.invariant.field c.tell_batch.ensures.asked)

pub batches-preserved : goal.batches-preserved
batches-preserved g c =
    let inv = c.batches.invariant in
    let tell = c.in_ok-tell_batch.ensures in
    let old = column_view c.batches.out in
    let new = column_view c.tell_batch.new.out in
    let few : length new ≤ length old = omega (arith, ap length inv.column) in
    let r = subst (λ (b : Bool). Reads b old new (left_of c.batches.self) (left_of c.tell_batch.new.self)) c.if-not-branch.false tell.reads in
    let none : r.0 ≡ [] = nothing_joined old new r.0 r.1 few in
    record {
      given = λ bytes leaf given s told.
          let told′ = tells_same (g.L.Link.shows c.args.link.now) (g.L.Link.shows c.batches.link) _ _ bytes inv.same (ap path_of inv.file) told in
          let m = subst (λ (b : Bool). StreamGoesOn bytes leaf given old new c.tell_batch.new.self b) c.if-not-branch.false (tell.more bytes leaf given (inv.given bytes leaf given s told) told′) in
          subst (λ xs. IsStreamOf bytes leaf xs c.tell_batch.new.self) (ap (λ xs. given ++ xs) (nothing_joined old new m.0 m.1 few) ∙ append-nil given) m.2;
      column = r.1 ∙ (ap (λ xs. old ++ xs) none ∙ (append-nil old ∙ inv.column));
      column_form = tell.form ∙ inv.column_form;
      left = omega (arith, r.4, inv.left);
      form = tell.stream_form ∙ inv.form;
      file = tell.file ∙ inv.file;
      field = tell.field ∙ inv.field;
      refused = tell.refused ∙ inv.refused;
      same = tell.link.same ∙ inv.same;
      asked = asks_then _ _ _ _ c.batches.invariant.asked (asks_same_stream c.args.self.now c.batches.self _ _ c.batches.invariant.file c.batches.invariant.field c.tell_batch.ensures.asked);
      calm = tell.link.calm (λ e. absurd (cc)) ∙ inv.calm;
      steady = λ h. tell.link.stays_steady (inv.steady h);
    }
