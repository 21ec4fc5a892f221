-- What an innermost query's partial of a table prints, and what serving the table prints.
use Rattle.std.proofs.Common.{◌≡◌, ◌≤◌, ◌∙◌, inl, inr, ℕ, suc, List, [], ◌∷◌, ◌&&◌, true, Option, Some, None, refl, sym, ap, ap₂, subst}
use Rattle.std.specs.List.{list_all, range_with_len}
use Rattle.std.proofs.lemmas.List.Folds.{list_all-append}
use Rattle.dr_meaning.specs.Schema.{Schema, Fields}
use Rattle.dr_meaning.specs.Path.{Leaf}
use Rattle.dr_meaning.specs.Record.{Node, is_record}
use Rattle.dr_meaning.specs.Query.{Object}
use Rattle.dr_meaning.specs.QueryLeaves as plain
use Rattle.dr_meaning.specs.Print.{result_text}
use Rattle.dr_formats.specs.TableFile.{Table}
use Rattle.dr_outside.specs.Link.{Files, LinkShown}
use Rattle.dr_partials.specs.Partials as meant
use Rattle.dr_partials.specs.Partials.{Stands}
use Rattle.dr_partials.specs.Trees.{Tree, of_fan, tablets_of as tablets_in}
use Rattle.dr_partials.proofs.TreeLemmas.{fan_has_all_tablets}
use Rattle.dr_plan.specs.PlanOf.{IsPlanOf}
use Rattle.dr_plan.specs.Planned.{IsOfSchema, plan_view}
use Rattle.dr_plan.specs.declared.plan.Plan.{Plan}
use Rattle.dr_group.specs.Partials.{IsPartialOf}
use Rattle.dr_group.specs.declared.partial.Partial.{Partial}
use Rattle.dr_reading.specs.Given.{IsFileThere, SomeIsFile, IsGiven}
use Rattle.dr_reading.specs.Left.{LeftTablet}
use Rattle.dr_reading.specs.Scan.{Copy, joined, tablets_of}
use Rattle.dr_sub_meaning.specs.Nested.{NestedQuery, innermost, query_leaves}
use Rattle.dr_sub_meaning.specs.NestedAsk.{nested_answer_text}
use Rattle.dr_sub.specs.Texts.{ArePlansOf, ArePlansOver, ForNested}
use Rattle.dr_sub.specs.declared.nested_plan.NestedPlan.{NestedPlan}
use Rattle.dr_stages.specs.Results.{IsOfInnermost, innermost_plan, StandsInnermost, MayBeFinished, IsFinished}
use Rattle.dr_serve.specs.Counted.{OneGives, AreCounted, no_more, is_counted, is_not_counted, StandsForCounted, held_of}
use Rattle.dr_serve.specs.Answers.{IsAnswerBut}

-- ---- the innermost query

-- a plan that is the innermost's of each query of these plans is one of the schema
pub reads_schema : (s : Schema) (plans : NestedPlan) (plan : Plan) → ForNested s plans (λ n. IsPlanOf s (innermost n.inner n.outer) plan) → ArePlansOver s plans → IsOfSchema s plan
reads_schema s plans plan is over = let b = is over.0 over.1 in (b.0, innermost (over.0).inner (over.0).outer, b.1, b.2)

-- its partials are the innermost's
pub of_innermost : (plans : NestedPlan) (plan : Plan) (p : Partial) → plan ≡ innermost_plan plans → IsPartialOf (plan_view plan) p → IsOfInnermost plans p
of_innermost plans plan p e h = subst (λ (x : Plan). IsPartialOf (plan_view x) p) e h

-- what holds by the leaves of the innermost query holds by those of the whole
pub by_leaves : (P : List Leaf → Type 0) (fs : Fields) (n : NestedQuery) → P (plain.query_leaves fs (innermost n.inner n.outer)) → P (query_leaves fs n)
unfolding query_leaves
by_leaves P fs n h = h

-- ---- what is counted are records of the schema

module _ (s : Schema) (F : List Leaf) where
  abbrev AreRecords : List Node → Type 0
  AreRecords R = list_all (is_record s.fields) R ≡ true

  file_records : (R : List Node) (o : Option (List ℕ)) → IsFileThere s F R o → AreRecords R
  file_records R None h = absurd h
  file_records R (Some bytes) h = h.4.3

  copy_records : (files : Files) (cs : List Copy) (R : List Node) → SomeIsFile s F files cs R → AreRecords R
  copy_records files [] R h = absurd h
  copy_records files (c ∷ cs) R (inl h) = file_records R (files c.path) h
  copy_records files (c ∷ cs) R (inr h) = copy_records files cs R h

  given_records : (held : Option Files) (cs : List Copy) (R : List Node) → IsGiven s F held cs R → AreRecords R
  given_records None cs R h = h
  given_records (Some files) cs R h = copy_records files cs R h

  one_records : (links : List (Option Files)) (cs : List Copy) (R : List Node) → OneGives s F links cs R → AreRecords R
  one_records [] cs R h = absurd h
  one_records (held ∷ links) cs R (inl h) = given_records held cs R h
  one_records (held ∷ links) cs R (inr h) = one_records links cs R h

  counted_records : (links : List (Option Files)) (i : ℕ) (ts : List (List Copy)) (left : List LeftTablet) (Rs : List (List Node)) → AreCounted s F links i ts left Rs → AreRecords (joined Rs)
  counted_records links i ts left Rs (no_more j) = refl
  counted_records links i ts left Rs (is_counted j cs rest more R Ss h k) =
      list_all-append (is_record s.fields) R (joined Ss) ∙ ap₂ (λ a b. a && b) (one_records links cs R h) (counted_records links (suc j) rest more Ss k)
  counted_records links i ts left Rs (is_not_counted j cs rest more tried Ss k) = counted_records links (suc j) rest more Ss k

-- ---- a partial

stands_innermost : (s : Schema) (n : NestedQuery) (R : List Node) (p : meant.Partial) → list_all (is_record s.fields) R ≡ true → Stands s.fields (innermost n.inner n.outer) R p → StandsInnermost s n R p
unfolding Stands
stands_innermost s n R p r h = (r, h)

-- one that stands for what is counted stands for records of the schema
counted_stands : (t : Table) (n : NestedQuery) (links : List (Option Files)) (left : List LeftTablet) (p : meant.Partial) → (h : StandsForCounted t (innermost n.inner n.outer) links left p) → StandsInnermost t.schema n (joined h.0) p
counted_stands t n links left p h =
    stands_innermost t.schema n (joined h.0) p
    (counted_records t.schema (plain.query_leaves t.schema.fields (innermost n.inner n.outer)) links 0 (tablets_of t) left h.0 h.1) h.2

pub may_be_finished : (t : Table) (plans : NestedPlan) (n : NestedQuery) (links : List (Option Files)) (left : List LeftTablet) (p : meant.Partial) → ArePlansOf t.schema n plans → StandsForCounted t (innermost n.inner n.outer) links left p
    → MayBeFinished t.schema plans p
may_be_finished t plans n links left p are h = (n, joined h.0, are, counted_stands t n links left p h)

-- finished and printed it is the query's answer on the records for which it stands
pub result_prints : (s : Schema) (n : NestedQuery) (plans : NestedPlan) (R : List Node) (p : meant.Partial) (rows : List Object) (text : List ℕ) → ArePlansOf s n plans → StandsInnermost s n R p
    → IsFinished s plans p rows → text ≡ result_text rows → text ≡ nested_answer_text s n R
unfolding nested_answer_text
result_prints s n plans R p rows text are stands finishes prints = prints ∙ ap result_text (finishes n R are stands)

-- the tree of a fan has all tablets
pub fan_has_all : (n fan : ℕ) (tree : Tree) → 1 ≤ n → tree ≡ of_fan n fan → tablets_in tree ≡ range_with_len 0 n
fan_has_all n fan tree positive grows = ap tablets_in grows ∙ fan_has_all_tablets n fan positive

-- ---- a table

pub counted_prints : (t : Table) (n : NestedQuery) (links : List LinkShown) (left : List LeftTablet) (p : meant.Partial) (text : List ℕ) → StandsForCounted t (innermost n.inner n.outer) (held_of links) left p
    → ((R : List Node) → StandsInnermost t.schema n R p → text ≡ nested_answer_text t.schema n R) → IsAnswerBut t n links left text
counted_prints t n links left p text h prints = (
  h.0,
  by_leaves (λ (F : List Leaf). AreCounted t.schema F (held_of links) 0 (tablets_of t) left h.0) t.schema.fields n h.1,
  prints (joined h.0) (counted_stands t n (held_of links) left p h),
)
