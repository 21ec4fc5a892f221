-- Tablets that are loaded one after another.
use Rattle.std.specs.Prelude.{◌≡◌, ℕ, suc, ◌+◌, ◌*◌, ◌^◌, ◌<◌, ◌≤◌, List, [], ◌∷◌, ◌++◌, length, Bool, true, false, nat_le, nat_lt, Option, Some, None, MatchOption, ⊤}
use Rattle.std.proofs.Common.{arith, refl, sym, ap, ap₂, ◌∙◌, subst, append_assoc, append-nil, add-zero, inl, inr}
use Rattle.std.proofs.lemmas.List.{length-append}
use Rattle.std.specs.List.{list_all}
use Rattle.std.proofs.lemmas.List.Folds.{list_all-append}
use Rattle.std.proofs.lemmas.Bool.{and_from, and_parts, leb-true, leb-false}
use Rattle.std.proofs.Math.Nat.{mul-le-mul_left}
use Rattle.dr_meaning.specs.Schema.{Fields, Schema}
use Rattle.dr_meaning.specs.Path.{leaves}
use Rattle.dr_meaning.specs.Record.{Node, is_record, text_bytes}
use Rattle.dr_meaning.specs.Column.{Triplet}
use Rattle.dr_meaning.specs.Lines.{Refusal, Taken, lines_of, taken_from}
use Rattle.dr_formats.specs.TableFile.{table_text}
use Rattle.dr_formats.specs.Tablets.{tablets}
use Rattle.dr_formats.specs.TabletLaws.{all_records}
use Rattle.dr_formats.specs.WritingLaws.{is_limited}
use Rattle.dr_formats.specs.Loading.{Plan, Put, most_loaded, tablet_puts, puts_from, puts_of, put_at, table_of, load}
use Rattle.dr_outside.specs.Link.{LinkShown}
use Rattle.dr_lines.specs.Cutting.{ahead}
use Rattle.dr_levels.specs.declared.column.Column.{Column}
use Rattle.dr_levels.specs.Views.{columns_view, forms_view}
use Rattle.dr_striper.specs.Striping.{forms_of}
use Rattle.dr_write.specs.Files.{AreColumnsFor, HaveColumns}
use Rattle.dr_write.proofs.FitLemmas as write_laws
use Rattle.dr_load.specs.declared.fault.LoadFault.{LoadFault}
use Rattle.dr_input.specs.Taken.{WhereTold, behind, HasTaken, AcceptsRead}
use Rattle.dr_input.proofs.ReadForm.{limited_small}
use Rattle.dr_input.proofs.TakenLemmas.{nothing_taken, taken_more, taken_is as taken_so, accepts_behind}
use Rattle.dr_load.specs.Faults.{refusal_of, is_told}
use Rattle.dr_load.specs.Filled.{HasColumnsOf, RefusesWithin}
use Rattle.dr_load.specs.Puts.{HoldsPut, HasPut, HasFailed, HasPutSome, BreaksOff}
use Rattle.dr_load.specs.Loads.{StopsPutting, last_tablets, taken_of, tablets_put, tablet_part, HasPutTablets, LeavesPuts, HasLoaded, LoadsTable}
use Rattle.dr_load.proofs.PutLemmas.{nothing_put, put_more, holds_more, fails_behind, breaks_behind}
use Rattle.dr_load.proofs.TabletLemmas.{tablets_are, full_are, full_come_first, all_have_more, all_records_more, count_of, few_of_few}

-- ---- columns that can be written

all_small : (R : List Node) → list_all is_limited R ≡ true → list_all (λ (n : Node). nat_lt (text_bytes n) (2 ^ 32)) R ≡ true
all_small [] h = refl
all_small (n ∷ R) h =
    let g = and_parts (is_limited n) (list_all is_limited R) h in
    and_from (nat_lt (text_bytes n) (2 ^ 32)) (list_all (λ (m : Node). nat_lt (text_bytes m) (2 ^ 32)) R) (limited_small n g.0) (all_small R g.1)

-- one list of records behind another
all_both : (test : Node → Bool) (R S : List Node) → list_all test R ≡ true → list_all test S ≡ true → list_all test (R ++ S) ≡ true
all_both test R S r s = list_all-append test R S ∙ and_from (list_all test R) (list_all test S) r s

pub have_columns : (s : Schema) (most number count : ℕ) (a b : Option (List ℕ)) (columns : List (List Triplet)) (h : HasColumnsOf s.fields most number a b columns count) → HaveColumns s h.records columns
have_columns s most number count a b columns h = (h.are_records, h.columns_are)

pub columns_fit : (s : Schema) (most number count : ℕ) (a b : Option (List ℕ)) (cs : List Column) → HasColumnsOf s.fields most number a b (columns_view cs) count → forms_view cs ≡ forms_of (leaves s.fields) → AreColumnsFor s cs
columns_fit s most number count a b cs h f = write_laws.record_columns_fit s h.records cs (h.are_records, h.columns_are) (all_small h.records h.limited) f

-- ---- puts of tablets

puts_append : (p : Plan) (i : ℕ) (ts us : List (List Node)) → puts_from p i (ts ++ us) ≡ puts_from p i ts ++ puts_from p (i + length ts) us
puts_append p i [] us = ap (λ (j : ℕ). puts_from p j us) (sym (add-zero i))
puts_append p i (t ∷ ts) us =
    let e : suc i + length ts ≡ i + suc (length ts) = omega arith in
    ap (λ (x : List Put). tablet_puts p i t ++ x) (puts_append p (suc i) ts us) ∙ sym (append_assoc (tablet_puts p i t) (puts_from p (suc i) ts) (puts_from p (suc i + length ts) us))
    ∙ ap (λ (j : ℕ). (tablet_puts p i t ++ puts_from p (suc i) ts) ++ puts_from p j us) e

puts_behind : (p : Plan) (k : ℕ) (ts us : List (List Node)) → length ts ≡ k → puts_from p 0 (ts ++ us) ≡ puts_from p 0 ts ++ puts_from p k us
puts_behind p k ts us e =
    let z : 0 + length ts ≡ k = omega (arith, e) in
    puts_append p 0 ts us ∙ ap (λ (j : ℕ). puts_from p 0 ts ++ puts_from p j us) z

-- the puts of what was taken
abbrev part_of : Plan → Taken → List Put
part_of p t = puts_from p 0 (tablets_put p t.records t.refusal)

abbrev whole_of : Plan → Taken → List Put
whole_of p t = puts_of p t.records t.refusal

whole_splits : (p : Plan) (t : Taken) (o : Option Refusal) → (table : List Put) × (puts_of p t.records o ≡ puts_from p 0 (tablets_put p t.records o) ++ table)
whole_splits p t None = (put_at p.table (table_text (table_of p (length (tablets p.rows t.records)))), refl)
whole_splits p t (Some e) = ([], sym (append-nil _))

load_puts : (p : Plan) (input : List ℕ) → (load p input).puts ≡ whole_of p (taken_of p input)
unfolding load
load_puts p input = refl

load_refusal : (p : Plan) (input : List ℕ) → (load p input).refusal ≡ (taken_of p input).refusal
unfolding load
load_refusal p input = refl

load_records : (p : Plan) (input : List ℕ) → (load p input).records ≡ length (taken_of p input).records
unfolding load
load_records p input = refl

load_tablets : (p : Plan) (input : List ℕ) → (load p input).tablets ≡ length (tablets p.rows (taken_of p input).records)
unfolding load
load_tablets p input = refl

-- ---- puts that stop

breaks_before : (told : Bool) (ps qs : List Put) (a b : LinkShown) → BreaksOff told ps a b → BreaksOff told (ps ++ qs) a b
breaks_before told ps qs a b h = (h.0, h.1, h.2 ++ qs, ap (λ (x : List Put). x ++ qs) h.3 ∙ append_assoc h.0 (h.1 ∷ h.2) qs, h.4)

some_before : (ps qs : List Put) (a b : LinkShown) → HasPutSome ps a b → HasPutSome (ps ++ qs) a b
some_before ps qs a b h = (h.0, h.1 ++ qs, ap (λ (x : List Put). x ++ qs) h.2 ∙ append_assoc h.0 h.1 qs, h.3)

some_behind : (ps qs : List Put) (a b c : LinkShown) → HasPut ps a b → HasPutSome qs b c → HasPutSome (ps ++ qs) a c
some_behind ps qs a b c h k = (ps ++ k.0, k.1, ap (λ (x : List Put). ps ++ x) k.2 ∙ sym (append_assoc ps k.0 k.1), put_more ps k.0 a b c h k.3)

-- puts that stop behind some that were done
stops_at : (p : Plan) (input : List ℕ) (front ps rest : List Put) (a b c : LinkShown) (e : LoadFault) → tablet_part p input ≡ (front ++ ps) ++ rest → HasPut front a b → StopsPutting ps b c e → refusal_of e ≡ None → (e ≡ LoadFault.ReadFault → ⊥)
    → LeavesPuts p input a c e
stops_at p input front ps rest a b c e t h s n r = by e s n r
  where
    w : (table : List Put) × (whole_of p (taken_of p input) ≡ tablet_part p input ++ table)
    w = whole_splits p (taken_of p input) (taken_of p input).refusal

    broken : (told : Bool) → BreaksOff told ps b c → BreaksOff told (load p input).puts a c
    broken told k = subst (λ (x : List Put). BreaksOff told x a c) (sym (load_puts p input ∙ w.1))
        (breaks_before told (tablet_part p input) w.0 a c (subst (λ (x : List Put). BreaksOff told x a c) (sym t) (breaks_before told (front ++ ps) rest a c (breaks_behind told front ps a b c h k))))

    some : HasPutSome ps b c → HasPutSome (tablet_part p input) a c
    some k = subst (λ (x : List Put). HasPutSome x a c) (sym t) (some_before (front ++ ps) rest a c (some_behind front ps a b c h k))

    by : (e : LoadFault) → StopsPutting ps b c e → refusal_of e ≡ None → (e ≡ LoadFault.ReadFault → ⊥) → LeavesPuts p input a c e
    by LoadFault.NoMemory (inl k) n r = inl (some k)
    by LoadFault.NoMemory (inr k) n r = inr (broken false k)
    by LoadFault.KeepFault k n r = broken true k
    by LoadFault.ReadFault k n r = absurd (r refl)
    by (LoadFault.BadLine j w) k n r = absurd (cc)
    by (LoadFault.LineTooLong j) k n r = absurd (cc)
    by (LoadFault.TooManyRecords j) k n r = absurd (cc)

-- ---- the loop

-- no tablet yet
pub loaded_none : (p : Plan) (input left : Option (List ℕ)) (held : LinkShown) → left ≡ input → HasLoaded p 0 0 input left held held
loaded_none p input left held e = record {
  full = [];
  are_full = tt;
  tablets_of = refl;
  records_of = refl;
  are_records = refl;
  limited = refl;
  taken = subst (HasTaken p.schema.fields (most_loaded p.rows) 0 [] input) (sym e) (nothing_taken p.schema.fields (most_loaded p.rows) 0 input);
  put = nothing_put held held refl refl;
}

pub taken_behind : (p : Plan) (m : ℕ) (R S : List Node) (a b c : Option (List ℕ)) → length R ≡ m → HasTaken p.schema.fields (most_loaded p.rows) 0 R a b → HasTaken p.schema.fields (most_loaded p.rows) m S b c → HasTaken p.schema.fields (most_loaded p.rows) 0 (R ++ S) a c
taken_behind p m R S a b c e h k =
    let z : m ≡ 0 + length R = omega (arith, e) in
    taken_more p.schema.fields (most_loaded p.rows) 0 R S a b c h (subst (λ (j : ℕ). HasTaken p.schema.fields (most_loaded p.rows) j S b c) z k)

-- a full tablet more
pub loaded_more : (p : Plan) (k m : ℕ) (input a b : Option (List ℕ)) (before held now : LinkShown) (columns : List (List Triplet)) → HasLoaded p k m input a before held → (h : HasColumnsOf p.schema.fields (most_loaded p.rows) m a b columns p.rows)
    → HasPut (tablet_puts p k h.records) held now → HasLoaded p (k + 1) (m + p.rows) input b before now
loaded_more p k m input a b before held now columns l h q = record {
  full = l.full ++ h.records ∷ [];
  are_full = all_have_more p.rows l.full h.records l.are_full h.number_of;
  tablets_of = omega (arith, length-append l.full (h.records ∷ []), l.tablets_of);
  records_of = omega (arith, ap length (all_records_more l.full h.records), length-append (all_records l.full) h.records, l.records_of, h.number_of);
  are_records = ap (list_all (is_record p.schema.fields)) (all_records_more l.full h.records) ∙ all_both (is_record p.schema.fields) (all_records l.full) h.records l.are_records h.are_records;
  limited = ap (list_all is_limited) (all_records_more l.full h.records) ∙ all_both is_limited (all_records l.full) h.records l.limited h.limited;
  taken = subst (λ (R : List Node). HasTaken p.schema.fields (most_loaded p.rows) 0 R input b) (sym (all_records_more l.full h.records)) (taken_behind p m (all_records l.full) h.records input a b l.records_of l.taken h.taken);
  put = subst (λ (ps : List Put). HasPut ps before now) (sym (puts_behind p k l.full (h.records ∷ []) l.tablets_of ∙ ap (λ (x : List Put). puts_from p 0 l.full ++ x) (append-nil (tablet_puts p k h.records))))
      (put_more (puts_from p 0 l.full) (tablet_puts p k h.records) before held now l.put q);
}

pub few_tablets : (p : Plan) (k m : ℕ) (input a : Option (List ℕ)) (before held : LinkShown) → HasLoaded p k m input a before held → m ≤ 4096 * p.rows → 0 < p.rows → k ≤ 4096
few_tablets p k m input a before held l w r = by (nat_le k 4096) refl
  where
    by : (b : Bool) → nat_le k 4096 ≡ b → k ≤ 4096
    by true e = leb-true k 4096 e
    by false e =
        let big : 4097 ≤ k = omega (arith, leb-false k 4096 e) in
        let c : m ≡ k * p.rows = sym l.records_of ∙ count_of p.rows l.full l.are_full ∙ ap (λ (j : ℕ). j * p.rows) l.tablets_of in
        omega (arith, mul-le-mul_left p.rows big, c, w, r)

-- ---- reading stops

taken_is : (p : Plan) (m : ℕ) (R : List Node) (input : List ℕ) (rest : List ℕ) → length R ≡ m → HasTaken p.schema.fields (most_loaded p.rows) 0 R (Some input) (Some rest) → taken_of p input ≡ behind R (taken_from p.schema.fields (most_loaded p.rows) (suc m) (lines_of rest))
taken_is p m R input rest e h =
    let z : 0 + length R ≡ m = omega (arith, e) in
    taken_so p.schema.fields (most_loaded p.rows) 0 R input rest h ∙ ap (λ (j : ℕ). behind R (taken_from p.schema.fields (most_loaded p.rows) (suc j) (lines_of rest))) z

tablets_left : (p : Plan) (k m : ℕ) (input a : Option (List ℕ)) (before held : LinkShown) → 0 < p.rows → HasLoaded p k m input a before held → WhereTold input (λ bytes. HasPutTablets p bytes before held)
tablets_left p k m None a before held r l = tt
tablets_left p k m (Some bytes) None before held r l = absurd l.taken
tablets_left p k m (Some bytes) (Some rest) before held r l =
    let t : Taken = taken_from p.schema.fields (most_loaded p.rows) (suc m) (lines_of rest) in
    let u = full_come_first p l.full t.records t.refusal l.are_full r in
    (l.full, u.0, ap (λ (x : Taken). tablets_put p x.records x.refusal) (taken_is p m (all_records l.full) bytes rest l.records_of l.taken) ∙ u.1, l.put)

-- whole tablets are some of the puts
puts_left : (p : Plan) (input : List ℕ) (before held : LinkShown) → HasPutTablets p input before held → HasPutSome (tablet_part p input) before held
puts_left p input before held h = (puts_from p 0 h.0, puts_from p (length h.0) h.1, ap (puts_from p 0) h.2 ∙ puts_behind p (length h.0) h.0 h.1 refl, h.3)

refused_taken : (p : Plan) (m : ℕ) (R : List Node) (bytes rest : List ℕ) (e : Refusal) → length R ≡ m → HasTaken p.schema.fields (most_loaded p.rows) 0 R (Some bytes) (Some rest) → (h : RefusesWithin p.schema.fields (most_loaded p.rows) m p.rows (Some rest) e)
    → taken_of p bytes ≡ record { records = R ++ h.0; refusal = Some e }
refused_taken p m R bytes rest e l t h = taken_is p m R bytes rest l t ∙ ap (behind R) h.2

pub refused_line : (p : Plan) (k m : ℕ) (input a : Option (List ℕ)) (before held : LinkShown) (o : Option Refusal) → HasLoaded p k m input a before held → MatchOption o ⊤ (RefusesWithin p.schema.fields (most_loaded p.rows) m p.rows a)
    → MatchOption o ⊤ (λ r. WhereTold input (λ bytes. (load p bytes).refusal ≡ Some r))
refused_line p k m input a before held None l h = tt
refused_line p k m None a before held (Some e) l h = tt
refused_line p k m (Some bytes) None before held (Some e) l h = absurd l.taken
refused_line p k m (Some bytes) (Some rest) before held (Some e) l h =
    load_refusal p bytes ∙ ap (λ (t : Taken). t.refusal) (refused_taken p m (all_records l.full) bytes rest e l.records_of l.taken h)

refused_puts : (p : Plan) (k m : ℕ) (input a : Option (List ℕ)) (before held : LinkShown) (e : Refusal) → 0 < p.rows → HasLoaded p k m input a before held → RefusesWithin p.schema.fields (most_loaded p.rows) m p.rows a e
    → WhereTold input (λ bytes. HasPut (load p bytes).puts before held)
refused_puts p k m None a before held e r l h = tt
refused_puts p k m (Some bytes) None before held e r l h = absurd l.taken
refused_puts p k m (Some bytes) (Some rest) before held e r l h =
    subst (λ (ps : List Put). HasPut ps before held)
    (sym (load_puts p bytes ∙ ap (whole_of p) (refused_taken p m (all_records l.full) bytes rest e l.records_of l.taken h) ∙ ap (puts_from p 0) (full_are p.rows l.full h.0 l.are_full r h.1)))
    l.put

-- what is left where a line is refused, the source failed, or memory was wanting
pub stands_reading : (p : Plan) (k m : ℕ) (input a : Option (List ℕ)) (before held : LinkShown) (e : LoadFault) → 0 < p.rows → HasLoaded p k m input a before held
    → MatchOption (refusal_of e) ⊤ (RefusesWithin p.schema.fields (most_loaded p.rows) m p.rows a) → (e ≡ LoadFault.KeepFault → ⊥) → WhereTold input (λ bytes. LeavesPuts p bytes before held e)
stands_reading p k m None a before held e r l h n = tt
stands_reading p k m (Some bytes) a before held LoadFault.NoMemory r l h n = inl (puts_left p bytes before held (tablets_left p k m (Some bytes) a before held r l))
stands_reading p k m (Some bytes) a before held LoadFault.ReadFault r l h n = tablets_left p k m (Some bytes) a before held r l
stands_reading p k m (Some bytes) a before held LoadFault.KeepFault r l h n = absurd (n refl)
stands_reading p k m (Some bytes) a before held (LoadFault.BadLine j w) r l h n = refused_puts p k m (Some bytes) a before held _ r l h
stands_reading p k m (Some bytes) a before held (LoadFault.LineTooLong j) r l h n = refused_puts p k m (Some bytes) a before held _ r l h
stands_reading p k m (Some bytes) a before held (LoadFault.TooManyRecords j) r l h n = refused_puts p k m (Some bytes) a before held _ r l h

-- memory was wanting before anything was put
pub stands_unbegun : (p : Plan) (input : Option (List ℕ)) (keeper : LinkShown) → WhereTold input (λ bytes. LeavesPuts p bytes keeper keeper LoadFault.NoMemory)
stands_unbegun p None keeper = tt
stands_unbegun p (Some bytes) keeper = inl ([], tablet_part p bytes, refl, nothing_put keeper keeper refl refl)

-- what is said of a reader is said of what is to be loaded
pub of_reader : (P : Fields → ℕ → ℕ → Type 0) (fs gs : Fields) (most many number count : ℕ) → fs ≡ gs → most ≡ many → number ≡ count → P fs most number → P gs many count
of_reader P fs gs most many number count e f g h = subst (λ (x : Fields). P x many count) e (subst (λ (m : ℕ). P fs m count) f (subst (P fs most) g h))

-- no whole line that was read is refused
pub accepts_loading : (p : Plan) (k m : ℕ) (input a now : Option (List ℕ)) (before held : LinkShown) → HasLoaded p k m input a before held → AcceptsRead p.schema.fields (most_loaded p.rows) m a now
    → AcceptsRead p.schema.fields (most_loaded p.rows) 0 input now
accepts_loading p k m input a now before held l h =
    let z : m ≡ 0 + length (all_records l.full) = omega (arith, l.records_of) in
    accepts_behind p.schema.fields (most_loaded p.rows) 0 (all_records l.full) input a now l.taken (subst (λ (j : ℕ). AcceptsRead p.schema.fields (most_loaded p.rows) j a now) z h)

-- ---- putting a full tablet stops

pub stands_putting : (p : Plan) (k m : ℕ) (input a b : Option (List ℕ)) (before held now : LinkShown) (columns : List (List Triplet)) (e : LoadFault) → 0 < p.rows → HasLoaded p k m input a before held → (h : HasColumnsOf p.schema.fields (most_loaded p.rows) m a b columns p.rows)
    → StopsPutting (tablet_puts p k h.records) held now e → refusal_of e ≡ None → (e ≡ LoadFault.ReadFault → ⊥) → WhereTold input (λ bytes. LeavesPuts p bytes before now e)
stands_putting p k m None a b before held now columns e r l h s n f = tt
stands_putting p k m (Some bytes) None b before held now columns e r l h s n f = absurd l.taken
stands_putting p k m (Some bytes) (Some rest) None before held now columns e r l h s n f = absurd h.taken
stands_putting p k m (Some bytes) (Some rest) (Some others) before held now columns e r l h s n f =
    let ts : List (List Node) = l.full ++ h.records ∷ [] in
    let R : List Node = all_records l.full ++ h.records in
    let j : ℕ = length R in
    let t : Taken = taken_from p.schema.fields (most_loaded p.rows) (suc j) (lines_of others) in
    let k1 : taken_of p bytes ≡ behind R t = taken_is p j R bytes others refl (taken_behind p m (all_records l.full) h.records (Some bytes) (Some rest) (Some others) l.records_of l.taken h.taken) in
    let u = full_come_first p ts t.records t.refusal (all_have_more p.rows l.full h.records l.are_full h.number_of) r in
    let q : puts_from p 0 ts ≡ puts_from p 0 l.full ++ tablet_puts p k h.records = puts_behind p k l.full (h.records ∷ []) l.tablets_of ∙ ap (λ (x : List Put). puts_from p 0 l.full ++ x) (append-nil (tablet_puts p k h.records)) in
    let whole : tablet_part p bytes ≡ (puts_from p 0 l.full ++ tablet_puts p k h.records) ++ puts_from p (length ts) u.0 =
    ap (part_of p) k1 ∙ ap (λ (x : List Node). puts_from p 0 (tablets_put p (x ++ t.records) t.refusal)) (sym (all_records_more l.full h.records)) ∙ ap (puts_from p 0) u.1 ∙ puts_behind p (length ts) ts u.0 refl
    ∙ ap (λ (x : List Put). x ++ puts_from p (length ts) u.0) q in
    stops_at p bytes (puts_from p 0 l.full) (tablet_puts p k h.records) (puts_from p (length ts) u.0) before held now e whole l.put s n f

-- ---- the input's end

-- all records were taken
abbrev AllTaken : Plan → List ℕ → List Node → Type 0
AllTaken p bytes R = taken_of p bytes ≡ record { records = R; refusal = None }

all_taken : (p : Plan) (k m count : ℕ) (bytes : List ℕ) (a b : Option (List ℕ)) (before held : LinkShown) (columns : List (List Triplet)) (l : HasLoaded p k m (Some bytes) a before held) (h : HasColumnsOf p.schema.fields (most_loaded p.rows) m a b columns count)
    → WhereTold a (λ _. b ≡ Some []) → AllTaken p bytes (all_records l.full ++ h.records)
all_taken p k m count bytes None b before held columns l h e = absurd l.taken
all_taken p k m count bytes (Some rest) b before held columns l h e =
    let R : List Node = all_records l.full ++ h.records in
    let t : HasTaken p.schema.fields (most_loaded p.rows) 0 R (Some bytes) (Some []) = subst (HasTaken p.schema.fields (most_loaded p.rows) 0 R (Some bytes)) e (taken_behind p m (all_records l.full) h.records (Some bytes) (Some rest) b l.records_of l.taken h.taken) in
    taken_so p.schema.fields (most_loaded p.rows) 0 R bytes [] t ∙ ap (λ (x : List Node). record { records = x; refusal = None }) (append-nil R)

last_puts : (p : Plan) (k m count : ℕ) (bytes : List ℕ) (a b : Option (List ℕ)) (before held : LinkShown) (columns : List (List Triplet)) (l : HasLoaded p k m (Some bytes) a before held) (h : HasColumnsOf p.schema.fields (most_loaded p.rows) m a b columns count)
    → 0 < p.rows → count < p.rows → WhereTold a (λ _. b ≡ Some []) → tablet_part p bytes ≡ puts_from p 0 l.full ++ puts_from p k (last_tablets k h.records)
last_puts p k m count bytes a b before held columns l h r s e =
    ap (part_of p) (all_taken p k m count bytes a b before held columns l h e) ∙ ap (puts_from p 0) (tablets_are p.rows l.full h.records l.are_full r (omega (arith, h.number_of, s)))
    ∙ puts_behind p k l.full (last_tablets (length l.full) h.records) l.tablets_of ∙ ap (λ (j : ℕ). puts_from p 0 l.full ++ puts_from p k (last_tablets j h.records)) l.tablets_of

pub last_accepted : (p : Plan) (k m count : ℕ) (input a b : Option (List ℕ)) (before held : LinkShown) (columns : List (List Triplet)) → HasLoaded p k m input a before held → HasColumnsOf p.schema.fields (most_loaded p.rows) m a b columns count
    → WhereTold a (λ _. b ≡ Some []) → WhereTold input (λ bytes. (load p bytes).refusal ≡ None)
last_accepted p k m count None a b before held columns l h e = tt
last_accepted p k m count (Some bytes) a b before held columns l h e = load_refusal p bytes ∙ ap (λ (t : Taken). t.refusal) (all_taken p k m count bytes a b before held columns l h e)

pub last_records : (p : Plan) (k m count total : ℕ) (input a b : Option (List ℕ)) (before held : LinkShown) (columns : List (List Triplet)) → HasLoaded p k m input a before held → HasColumnsOf p.schema.fields (most_loaded p.rows) m a b columns count
    → WhereTold a (λ _. b ≡ Some []) → total ≡ m + count → WhereTold input (λ bytes. total ≡ (load p bytes).records)
last_records p k m count total None a b before held columns l h e t = tt
last_records p k m count total (Some bytes) a b before held columns l h e t =
    let c : length (all_records l.full ++ h.records) ≡ m + count = omega (arith, length-append (all_records l.full) h.records, l.records_of, h.number_of) in
    t ∙ sym c ∙ sym (load_records p bytes ∙ ap (λ (x : Taken). length x.records) (all_taken p k m count bytes a b before held columns l h e))

pub last_counted : (p : Plan) (k m count total : ℕ) (input a b : Option (List ℕ)) (before held : LinkShown) (columns : List (List Triplet)) → HasLoaded p k m input a before held → (h : HasColumnsOf p.schema.fields (most_loaded p.rows) m a b columns count)
    → 0 < p.rows → count < p.rows → WhereTold a (λ _. b ≡ Some []) → total ≡ k + length (last_tablets k h.records) → WhereTold input (λ bytes. total ≡ (load p bytes).tablets)
last_counted p k m count total None a b before held columns l h r s e t = tt
last_counted p k m count total (Some bytes) a b before held columns l h r s e t =
    let c : length (l.full ++ last_tablets (length l.full) h.records) ≡ length l.full + length (last_tablets (length l.full) h.records) = length-append l.full (last_tablets (length l.full) h.records) in
    t ∙ ap (λ (j : ℕ). j + length (last_tablets j h.records)) (sym l.tablets_of) ∙ sym c
    ∙ sym (load_tablets p bytes ∙ ap (λ (x : Taken). length (tablets p.rows x.records)) (all_taken p k m count bytes a b before held columns l h e)
    ∙ ap length (tablets_are p.rows l.full h.records l.are_full r (omega (arith, h.number_of, s))))

pub last_put : (p : Plan) (k m count : ℕ) (input a b : Option (List ℕ)) (before held now : LinkShown) (columns : List (List Triplet)) → HasLoaded p k m input a before held → (h : HasColumnsOf p.schema.fields (most_loaded p.rows) m a b columns count)
    → 0 < p.rows → count < p.rows → WhereTold a (λ _. b ≡ Some []) → HasPut (puts_from p k (last_tablets k h.records)) held now → WhereTold input (λ bytes. HasPut (tablet_part p bytes) before now)
last_put p k m count None a b before held now columns l h r s e q = tt
last_put p k m count (Some bytes) a b before held now columns l h r s e q =
    subst (λ (ps : List Put). HasPut ps before now) (sym (last_puts p k m count bytes a b before held columns l h r s e)) (put_more (puts_from p 0 l.full) (puts_from p k (last_tablets k h.records)) before held now l.put q)

pub last_stands : (p : Plan) (k m count : ℕ) (input a b : Option (List ℕ)) (before held now : LinkShown) (columns : List (List Triplet)) (f : LoadFault) → HasLoaded p k m input a before held → (h : HasColumnsOf p.schema.fields (most_loaded p.rows) m a b columns count)
    → 0 < p.rows → count < p.rows → WhereTold a (λ _. b ≡ Some []) → StopsPutting (puts_from p k (last_tablets k h.records)) held now f → refusal_of f ≡ None → (f ≡ LoadFault.ReadFault → ⊥) → WhereTold input (λ bytes. LeavesPuts p bytes before now f)
last_stands p k m count None a b before held now columns f l h r s e q n z = tt
last_stands p k m count (Some bytes) a b before held now columns f l h r s e q n z =
    stops_at p bytes (puts_from p 0 l.full) (puts_from p k (last_tablets k h.records)) [] before held now f
    (last_puts p k m count bytes a b before held columns l h r s e ∙ sym (append-nil (puts_from p 0 l.full ++ puts_from p k (last_tablets k h.records)))) l.put q n z

last_taken : (p : Plan) (k m count : ℕ) (input a b : Option (List ℕ)) (before held : LinkShown) (columns : List (List Triplet)) (l : HasLoaded p k m input a before held) (h : HasColumnsOf p.schema.fields (most_loaded p.rows) m a b columns count)
    → WhereTold a (λ _. b ≡ Some []) → WhereTold input (λ bytes. taken_of p bytes ≡ record { records = all_records l.full ++ h.records; refusal = None })
last_taken p k m count None a b before held columns l h e = tt
last_taken p k m count (Some bytes) a b before held columns l h e = all_taken p k m count bytes a b before held columns l h e

-- the table without its file
pub last_table : (p : Plan) (k m count total : ℕ) (input a b : Option (List ℕ)) (before held now : LinkShown) (columns : List (List Triplet)) → HasLoaded p k m input a before held → (h : HasColumnsOf p.schema.fields (most_loaded p.rows) m a b columns count)
    → 0 < p.rows → count < p.rows → WhereTold a (λ _. b ≡ Some []) → m + count ≤ 4096 * p.rows → total ≡ k + length (last_tablets k h.records) → HasPut (puts_from p k (last_tablets k h.records)) held now → LoadsTable p None total input before.held now.held
last_table p k m count total input a b before held now columns l h r s e w t q =
    let R : List Node = all_records l.full ++ h.records in
    let last : List (List Node) = last_tablets k h.records in
    let number : length R ≡ m + count = omega (arith, length-append (all_records l.full) h.records, l.records_of, h.number_of) in
    let are : tablets p.rows R ≡ l.full ++ last = tablets_are p.rows l.full h.records l.are_full r (omega (arith, h.number_of, s)) ∙ ap (λ (j : ℕ). l.full ++ last_tablets j h.records) l.tablets_of in
    let all : length (tablets p.rows R) ≡ total = omega (arith, ap length are, length-append l.full last, l.tablets_of, t) in
    record {
      records = R;
      are_records = all_both (is_record p.schema.fields) (all_records l.full) h.records l.are_records h.are_records;
      limited = all_both is_limited (all_records l.full) h.records l.limited h.limited;
      tablets_of = all;
      few_tablets = omega (arith, all, few_of_few p.rows 4096 R r (omega arith) (omega (arith, number, w)));
      put = subst (λ (ps : List Put). HoldsPut ps before.held now.held) (sym (append-nil (puts_from p 0 (tablets p.rows R)) ∙ ap (puts_from p 0) are ∙ puts_behind p k l.full last l.tablets_of))
          (put_more (puts_from p 0 l.full) (puts_from p k last) before held now l.put q).files;
      taken = last_taken p k m count input a b before held columns l h e;
    }

no_rest : (a b : List ℕ) → a ++ b ≡ [] → b ≡ []
no_rest [] b h = h
no_rest (x ∷ a) b h = cc

left_nothing : (left : Option (List ℕ)) (pending : List ℕ) → ahead pending left ≡ Some [] → left ≡ Some []
left_nothing None pending h = cc
left_nothing (Some rest) pending h = let e : pending ++ rest ≡ [] = cc in ap (λ (b : List ℕ). Some b) (no_rest pending rest e)

pub last_end : (p : Plan) (k m : ℕ) (input a left : Option (List ℕ)) (pending : List ℕ) (before held : LinkShown) → HasLoaded p k m input a before held → WhereTold a (λ _. ahead pending left ≡ Some []) → WhereTold input (λ _. left ≡ Some [])
last_end p k m None a left pending before held l e = tt
last_end p k m (Some bytes) None left pending before held l e = absurd l.taken
last_end p k m (Some bytes) (Some rest) left pending before held l e = left_nothing left pending e

-- ---- the table file

whole_accepted : (p : Plan) (t : Taken) → t.refusal ≡ None → whole_of p t ≡ part_of p t ++ put_at p.table (table_text (table_of p (length (tablets p.rows t.records))))
whole_accepted p t e =
    ap (puts_of p t.records) e ∙ sym (ap (λ (o : Option Refusal). puts_from p 0 (tablets_put p t.records o) ++ put_at p.table (table_text (table_of p (length (tablets p.rows t.records))))) e)

accepted_puts : (p : Plan) (bytes : List ℕ) (k : ℕ) (o : Option (List ℕ)) → p.table ≡ o → (load p bytes).refusal ≡ None → k ≡ (load p bytes).tablets → (load p bytes).puts ≡ tablet_part p bytes ++ put_at o (table_text (table_of p k))
accepted_puts p bytes k o t a c =
    load_puts p bytes ∙ whole_accepted p (taken_of p bytes) (sym (load_refusal p bytes) ∙ a)
    ∙ ap₂ (λ (x : Option (List ℕ)) (j : ℕ). tablet_part p bytes ++ put_at x (table_text (table_of p j))) t (sym (c ∙ load_tablets p bytes))

-- no table file is to be put
pub table_none : (p : Plan) (k : ℕ) (input : Option (List ℕ)) (before now : LinkShown) → p.table ≡ None → WhereTold input (λ bytes. (load p bytes).refusal ≡ None) → WhereTold input (λ bytes. k ≡ (load p bytes).tablets) → WhereTold input (λ bytes. HasPut (tablet_part p bytes) before now)
    → WhereTold input (λ bytes. HasPut (load p bytes).puts before now)
table_none p k None before now t a c h = tt
table_none p k (Some bytes) before now t a c h =
    subst (λ (ps : List Put). HasPut ps before now) (sym (accepted_puts p bytes k None t a c ∙ append-nil (tablet_part p bytes))) h

-- the table file is put
pub table_put : (p : Plan) (k : ℕ) (path : List ℕ) (input : Option (List ℕ)) (before held now : LinkShown) → p.table ≡ Some path → WhereTold input (λ bytes. (load p bytes).refusal ≡ None) → WhereTold input (λ bytes. k ≡ (load p bytes).tablets)
    → WhereTold input (λ bytes. HasPut (tablet_part p bytes) before held) → HasPut (record { path = path; bytes = table_text (table_of p k) } ∷ []) held now → WhereTold input (λ bytes. HasPut (load p bytes).puts before now)
table_put p k path None before held now t a c h q = tt
table_put p k path (Some bytes) before held now t a c h q =
    subst (λ (ps : List Put). HasPut ps before now) (sym (accepted_puts p bytes k (Some path) t a c)) (put_more (tablet_part p bytes) (record { path = path; bytes = table_text (table_of p k) } ∷ []) before held now h q)

-- putting the table file stops
pub table_stands : (p : Plan) (k : ℕ) (path : List ℕ) (input : Option (List ℕ)) (before held now : LinkShown) (e : LoadFault) → p.table ≡ Some path → WhereTold input (λ bytes. (load p bytes).refusal ≡ None) → WhereTold input (λ bytes. k ≡ (load p bytes).tablets)
    → WhereTold input (λ bytes. HasPut (tablet_part p bytes) before held) → HasFailed (is_told e) [] (record { path = path; bytes = table_text (table_of p k) }) held now → refusal_of e ≡ None → (e ≡ LoadFault.ReadFault → ⊥) → WhereTold input (λ bytes. LeavesPuts p bytes before now e)
table_stands p k path None before held now e t a c h q n z = tt
table_stands p k path (Some bytes) before held now e t a c h q n z = by e q n z
  where
    table : Put
    table = record { path = path; bytes = table_text (table_of p k) }

    broken : (told : Bool) → HasFailed told [] table held now → BreaksOff told (load p bytes).puts before now
    broken told f = (
      tablet_part p bytes,
      table,
      [],
      accepted_puts p bytes k (Some path) t a c,
      subst (λ (ps : List Put). HasFailed told ps table before now) (append-nil (tablet_part p bytes)) (fails_behind told (tablet_part p bytes) [] table before held now h f),
    )

    by : (e : LoadFault) → HasFailed (is_told e) [] table held now → refusal_of e ≡ None → (e ≡ LoadFault.ReadFault → ⊥) → LeavesPuts p bytes before now e
    by LoadFault.NoMemory f n r = inr (broken false f)
    by LoadFault.KeepFault f n r = broken true f
    by LoadFault.ReadFault f n r = absurd (r refl)
    by (LoadFault.BadLine j w) f n r = absurd (cc)
    by (LoadFault.LineTooLong j) f n r = absurd (cc)
    by (LoadFault.TooManyRecords j) f n r = absurd (cc)

-- the table file is put, too
pub table_loaded : (p : Plan) (k : ℕ) (path : List ℕ) (input : Option (List ℕ)) (before held now : LinkShown) → p.table ≡ Some path → LoadsTable p None k input before.held held.held
    → HasPut (record { path = path; bytes = table_text (table_of p k) } ∷ []) held now → LoadsTable p p.table k input before.held now.held
table_loaded p k path input before held now e l h =
    let puts : List Put = puts_from p 0 (tablets p.rows l.records) in
    record {
      records = l.records;
      are_records = l.are_records;
      limited = l.limited;
      tablets_of = l.tablets_of;
      few_tablets = l.few_tablets;
      put = subst (λ (o : Option (List ℕ)). HoldsPut (puts ++ put_at o (table_text (table_of p k))) before.held now.held) (sym e)
          (holds_more puts (record { path = path; bytes = table_text (table_of p k) } ∷ []) before.held held.held now.held (subst (λ (ps : List Put). HoldsPut ps before.held held.held) (append-nil puts) l.put) h.files);
      taken = l.taken;
    }
