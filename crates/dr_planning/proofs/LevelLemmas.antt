-- Levels with joined names: their view, and those of a schema.
use Rattle.std.specs.Prelude.{◌≡◌, ◌<◌, ℕ, suc, ◌+◌, List, [], ◌∷◌, ◌++◌, map, string_bytes, length, get_or, drop, Vec, String}
use Rattle.std.specs.declared.alloc.Global.{Global}
use Rattle.dr_nested.specs.declared.path.Step as steps
use Rattle.std.specs.List.{join_with_byte}
use Rattle.std.proofs.Common.{refl, sym, ap, ap₂, ◌∙◌, rules, append_assoc, add-one}
use Rattle.std.proofs.lemmas.List.{drop_more}
use Rattle.dr_meaning.specs.Schema.{Repetition, required, optional, repeated, Fields, no_fields, field, Shape, leaf, group}
use Rattle.dr_meaning.specs.Path as path
use Rattle.dr_meaning.specs.Query.{Levels, no_levels, deeper, append_levels, as_level, levels_in, shape_levels}
use Rattle.dr_nested.specs.PathView.{step_view}
use Rattle.dr_nested.specs.Views.{fields_view, shape_view, rep_view}
use Rattle.dr_nested.specs.declared.shape.Field as fields
use Rattle.dr_nested.specs.declared.shape.Rep.{Rep}
use Rattle.dr_nested.proofs.ViewLemmas.{view-field}
use Rattle.dr_planning.specs.NamedLevels.{NamedLevels, no_named, named, joined, append_named, SeenLevel, level_view, levels_view, as_named, fields_named, field_named, shape_named}
use Rattle.dr_planning.specs.declared.listed.Listed as levels

pub view-level : (l : levels.Listed) → level_view l ≡ record { name = string_bytes (levels.out-Listed l).name; path = map step_view (levels.out-Listed l).path.items; below = levels_view (levels.out-Listed l).below.items }
view-level l = search (rules, levels.the_lemmas)

pub append_named-none : (ls : NamedLevels) → append_named ls no_named ≡ ls
append_named-none no_named = refl
append_named-none (named n p b ls) = ap (named n p b) (append_named-none ls)

pub append_named-assoc : (ks ls ms : NamedLevels) → append_named (append_named ks ls) ms ≡ append_named ks (append_named ls ms)
append_named-assoc no_named ls ms = refl
append_named-assoc (named n p b ks) ls ms = ap (named n p b) (append_named-assoc ks ls ms)

-- the view of levels behind others
pub levels_view-append : (ks ls : List levels.Listed) → levels_view (ks ++ ls) ≡ append_named (levels_view ks) (levels_view ls)
levels_view-append [] ls = refl
levels_view-append (k ∷ ks) ls = ap (named (level_view k).name (level_view k).path (level_view k).below) (levels_view-append ks ls)

-- the parts of a level
pub path-level : (l : levels.Listed) → map step_view (levels.out-Listed l).path.items ≡ (level_view l).path
path-level l = sym (ap (λ (s : SeenLevel). s.path) (view-level l))

pub below-level : (l : levels.Listed) → levels_view (levels.out-Listed l).below.items ≡ (level_view l).below
below-level l = sym (ap (λ (s : SeenLevel). s.below) (view-level l))

-- one level made of its parts
levels_view-made : (n : String Global) (p : Vec steps.Step Global) (b : Vec levels.Listed Global)
    → levels_view (levels.roll-Listed (record { name = n; path = p; below = b }) ∷ []) ≡ named (string_bytes n) (map step_view p.items) (levels_view b.items) no_named
levels_view-made n p b = search (rules, levels.the_lemmas)

-- ---- joined names

-- names with a dot behind each
abbrev pub dotted : List (List ℕ) → List ℕ
dotted [] = []
dotted (n ∷ ns) = n ++ 46 ∷ dotted ns

-- names and one more, joined by dots
pub join_more : (ns : List (List ℕ)) (n : List ℕ) → join_with_byte 46 (ns ++ n ∷ []) ≡ dotted ns ++ n
join_more [] n = refl
join_more (m ∷ []) n = sym (append_assoc m (46 ∷ []) n)
join_more (m ∷ k ∷ ns) n = ap (λ (t : List ℕ). m ++ 46 ∷ t) (join_more (k ∷ ns) n) ∙ sym (append_assoc m (46 ∷ dotted (k ∷ ns)) n)

dotted_more : (ns : List (List ℕ)) (n : List ℕ) → dotted (ns ++ n ∷ []) ≡ (dotted ns ++ n) ++ 46 ∷ []
dotted_more [] n = refl
dotted_more (m ∷ ns) n = ap (λ (t : List ℕ). m ++ 46 ∷ t) (dotted_more ns n) ∙ sym (ap (λ (t : List ℕ). t ++ 46 ∷ []) (append_assoc m (46 ∷ dotted ns) n) ∙ append_assoc m (46 ∷ (dotted ns ++ n)) (46 ∷ []))

pub joined-append : (ks ls : Levels) → joined (append_levels ks ls) ≡ append_named (joined ks) (joined ls)
joined-append no_levels ls = refl
joined-append (deeper ns p b ks) ls = ap (named (join_with_byte 46 ns) p (joined b)) (joined-append ks ls)

joined-as : (r : Repetition) (ns : List (List ℕ)) (n : List ℕ) (p : List path.Step) (own passed : Levels) → joined (as_level r (ns ++ n ∷ []) p own passed) ≡ as_named r (dotted ns ++ n) p (joined own) (joined passed)
joined-as required ns n p own passed = refl
joined-as optional ns n p own passed = refl
joined-as repeated ns n p own passed = ap (λ (t : List ℕ). named t p (joined own) no_named) (join_more ns n)

mutual
  -- the levels in a group
  pub joined-fields : (fs : Fields) (i : ℕ) (ns : List (List ℕ)) (p : List path.Step) → joined (levels_in fs i ns p) ≡ fields_named fs i (dotted ns) p
  joined-fields no_fields i ns p = refl
  joined-fields (field n r s fs) i ns p =
      let q : List path.Step = p ++ record { place = i; repetition = r } ∷ [] in
      joined-append (as_level r (ns ++ n ∷ []) q (shape_levels s [] q) (shape_levels s (ns ++ n ∷ []) q)) (levels_in fs (suc i) ns p)
      ∙ ap₂ append_named (joined-as r ns n q (shape_levels s [] q) (shape_levels s (ns ++ n ∷ []) q)
      ∙ ap₂ (as_named r (dotted ns ++ n) q) (joined-shape s [] q) (joined-shape s (ns ++ n ∷ []) q ∙ ap (λ (t : List ℕ). shape_named s t q) (dotted_more ns n)))
      (joined-fields fs (suc i) ns p)

  pub joined-shape : (s : Shape) (ns : List (List ℕ)) (p : List path.Step) → joined (shape_levels s ns p) ≡ shape_named s (dotted ns) p
  joined-shape (leaf k) ns p = refl
  joined-shape (group fs) ns p = joined-fields fs 0 ns p

-- ---- one field after another

-- a field's levels behind those before it
pub fields_more : (fs : List fields.Field) (k : ℕ) (f : fields.Field) (t : List ℕ) (p q : List path.Step) (name : List ℕ) (before after : NamedLevels)
    → k < length fs → f ≡ get_or fs k f → name ≡ t ++ string_bytes f.name → q ≡ p ++ record { place = k; repetition = rep_view f.rep } ∷ []
    → after ≡ append_named before (field_named (rep_view f.rep) (shape_view f.shape) name q)
    → append_named after (fields_named (fields_view (drop (k + 1) fs)) (k + 1) t p) ≡ append_named before (fields_named (fields_view (drop k fs)) k t p)
fields_more fs k f t p q name before after h at n e pushed =
    let own : NamedLevels = field_named (rep_view f.rep) (shape_view f.shape) (t ++ string_bytes f.name) (p ++ record { place = k; repetition = rep_view f.rep } ∷ []) in
    let rest : NamedLevels = fields_named (fields_view (drop (k + 1) fs)) (suc k) t p in
    let next : drop k fs ≡ f ∷ drop (k + 1) fs = drop_more fs k f h ∙ ap (λ (x : fields.Field). x ∷ drop (k + 1) fs) (sym at) in
    let here : fields_view (drop k fs) ≡ field (string_bytes f.name) (rep_view f.rep) (shape_view f.shape) (fields_view (drop (k + 1) fs)) = ap fields_view next ∙ rw (view-field f) refl in
    ap₂ append_named (pushed ∙ ap₂ (λ (m : List ℕ) (s : List path.Step). append_named before (field_named (rep_view f.rep) (shape_view f.shape) m s)) n e)
    (ap (λ (i : ℕ). fields_named (fields_view (drop (k + 1) fs)) i t p) (add-one k))
    ∙ append_named-assoc before own rest
    ∙ ap (append_named before) (ap (λ (gs : Fields). fields_named gs k t p) (sym here))

-- a level of its own behind those before it
pub level_more : (before after : List levels.Listed) (n : String Global) (p : Vec steps.Step Global) (b : Vec levels.Listed Global) (r : Rep) (s : Shape)
    → r ≡ Rep.Repeated → after ≡ before ++ levels.roll-Listed (record { name = n; path = p; below = b }) ∷ [] → levels_view b.items ≡ shape_named s [] (map step_view p.items)
    → levels_view after ≡ append_named (levels_view before) (field_named (rep_view r) s (string_bytes n) (map step_view p.items))
level_more before after n p b r s is made inside =
    let q : List path.Step = map step_view p.items in
    ap levels_view made ∙ levels_view-append before (levels.roll-Listed (record { name = n; path = p; below = b }) ∷ [])
    ∙ ap (append_named (levels_view before)) (levels_view-made n p b ∙ ap (λ (ls : NamedLevels). named (string_bytes n) q ls no_named) inside
    ∙ ap (λ (x : Rep). field_named (rep_view x) s (string_bytes n) q) (sym is))
