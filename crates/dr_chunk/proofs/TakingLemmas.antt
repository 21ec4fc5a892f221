-- A chunk that is read a piece at a time.
use Rattle.std.proofs.Common.{◌≡◌, ℕ, zero, suc, ◌+◌, ◌-◌, ◌≤◌, ◌<◌, inl, inr, List, [], ◌++◌, length, take, drop, Bool, true, false, refl, sym, ap, ap₂, subst, subst₂, ◌∙◌, append_assoc, arith}
use Rattle.std.specs.Prelude.{Option, Some, None}
use Rattle.std.proofs.lemmas.List.{append-nil, length-append, length-take, length-drop}
use Rattle.dr_meaning.specs.Record.{Value}
use Rattle.dr_meaning.specs.Path.{Leaf}
use Rattle.dr_meaning.specs.Column.{Triplet}
use Rattle.dr_formats.specs.Reading.{Reading, got, refused, give, goes_on}
use Rattle.dr_formats.specs.Page.{PageShape, PageFault, bad_page, triplets_read, page_triplets}
use Rattle.dr_formats.specs.Chunk.{PageTaken, taken, pages, pages_triplets}
use Rattle.dr_page.specs.PageReading.{front_of, left_of as page_left, IsReading}
use Rattle.dr_page.proofs.PageFronts.{given_is_front}
use Rattle.dr_page.specs.declared.page_reader.PageReader.{PageReader}
use Rattle.dr_chunk.specs.Headers.{IsRefused}
use Rattle.dr_chunk.specs.Steps.{page_step}
use Rattle.dr_chunk.specs.declared.byte_range.ByteRange.{ByteRange}
use Rattle.dr_chunk.specs.Underway.{of_page, ReadsPage, PassesPage, IsUnderway, Begins}
use Rattle.dr_chunk.specs.declared.chunk_reader.ChunkReader.{ChunkReader}
use Rattle.dr_chunk.specs.Takers.{leaf_of, wanted_of, is_first_of, dictionary_of, IsLeafOf}
use Rattle.dr_chunk.specs.Taking.{range_of, left_of, chunk_of, body_in, behind_in, pages_left, joins, BeginWith, refused_of, Stands, IsTaking, TakesMore}
use Rattle.dr_chunk.proofs.LengthLemmas.{page_count}
use Rattle.dr_chunk.proofs.StepLemmas.{pages_behind, next_and_rest}
use Rattle.dr_chunk.proofs.PageStepLemmas.{moved}

-- ---- triplets behind others

pub joins_assoc : (ts us : List Triplet) (o : Option (List Triplet)) → joins (Some ts) (joins (Some us) o) ≡ joins (Some (ts ++ us)) o
joins_assoc ts us None = refl
joins_assoc ts us (Some vs) = ap (λ xs. Some xs) (sym (append_assoc ts us vs))

pub joins_parts : (a b : Option (List Triplet)) (ts : List Triplet) → joins a b ≡ Some ts → (us : List Triplet) × (vs : List Triplet) × (a ≡ Some us) × (b ≡ Some vs) × (ts ≡ us ++ vs)
joins_parts None b ts e = absurd (cc)
joins_parts (Some us) None ts e = absurd (cc)
joins_parts (Some us) (Some vs) ts e = let q : us ++ vs ≡ ts = cc in (us, vs, refl, refl, sym q)

pub joins_nothing : (o : Option (List Triplet)) → joins (Some []) o ≡ o
joins_nothing None = refl
joins_nothing (Some ts) = refl

pub same_list : (ts us : List Triplet) → Some ts ≡ Some us → ts ≡ us
same_list ts us e = cc

-- ---- the page that came last

same_shape : (s : PageShape) (n : ℕ) → n ≡ s.triplets → front_of n s ≡ s
same_shape s n e = ap (λ k. front_of k s) e

-- what is left of it
pub page_counts : (o : Option (List Triplet)) (size : ℕ) (d : List Value) (body : List ℕ) (given : List Triplet) (p : PageReader) → IsUnderway o size d body given p → length given + page_left p ≡ size
page_counts o size d body given p (inl h) = omega (arith, ap length h.nothing, h.left, h.as_many)
page_counts o size d body given p (inr h) = h.reads.left ∙ sym h.as_many

-- with nothing left all of it was given
pub page_over : (o : Option (List Triplet)) (size : ℕ) (d : List Value) (body : List ℕ) (given : List Triplet) (p : PageReader) → IsUnderway o size d body given p → page_left p ≡ 0 → o ≡ Some given
page_over o size d body given p (inl h) z = h.spells ∙ ap (λ xs. Some xs) (sym h.nothing)
page_over o size d body given p (inr h) z =
    h.spells ∙ (ap (λ s. page_triplets s d body) (sym (same_shape h.shape (length given) (omega (arith, h.reads.left, z)))) ∙ h.reads.front)

-- it has as many as it is to have
pub page_size : (o : Option (List Triplet)) (size : ℕ) (d : List Value) (body : List ℕ) (given : List Triplet) (p : PageReader) (ts : List Triplet) → IsUnderway o size d body given p → o ≡ Some ts → length ts ≡ size
page_size o size d body given p ts (inl h) e = ap length (same_list ts [] (sym e ∙ h.spells)) ∙ sym h.as_many
page_size o size d body given p ts (inr h) e = page_count h.shape d body ts (sym h.spells ∙ e) ∙ sym h.as_many

-- what was given is a front of it
pub page_begins : (o : Option (List Triplet)) (size : ℕ) (d : List Value) (body : List ℕ) (given : List Triplet) (p : PageReader) (ts : List Triplet) → IsUnderway o size d body given p → o ≡ Some ts → BeginWith given ts
page_begins o size d body given p ts (inl h) e = (ts, ap (λ xs. xs ++ ts) (sym h.nothing))
page_begins o size d body given p ts (inr h) e = given_is_front h.shape d body given p ts h.reads (sym h.spells ∙ e)

-- ---- one page more

-- what comes of the pages behind one, by the triplets alone
behind_read : (l : Leaf) (k n : ℕ) (t : PageTaken) (rest : List ℕ) → triplets_read (pages_behind l k n t rest) ≡ joins (Some t.triplets) (triplets_read (pages l k (suc n - length t.triplets) false t.dictionary rest))
behind_read l k n t rest = by (pages l k (suc n - length t.triplets) false t.dictionary rest)
  where
    by : (r : Reading PageFault (List Triplet)) → triplets_read (goes_on r (λ more. give (t.triplets ++ more))) ≡ joins (Some t.triplets) (triplets_read r)
    by (got us q) = refl
    by (refused e q) = refl

-- a page's triplets, and those of the pages behind it
abbrev StepReads : Leaf → ℕ → ℕ → Reading PageFault PageTaken → Option (List Triplet) → Type 0
StepReads l k n r whole = triplets_read (goes_on r (pages_behind l k n)) ≡ whole

step_reads : (l : Leaf) (k n left size : ℕ) (o : Option (List Triplet)) (d : List Value) (rest : List ℕ) → left + size ≡ suc n → ((ts : List Triplet) → o ≡ Some ts → length ts ≡ size)
    → StepReads l k n (moved rest (of_page o d)) (joins o (triplets_read (pages l k left false d rest)))
step_reads l k n left size None d rest c h = refl
step_reads l k n left size (Some ts) d rest c h =
    let e : suc n - length ts ≡ left = omega (arith, h ts refl, c) in
    behind_read l k n (taken ts d) rest ∙ ap (λ w. joins (Some ts) (triplets_read (pages l k w false d rest))) e

-- the pages from the next on, where it is there
pages_read : (l : Leaf) (k w left size : ℕ) (first : Bool) (o : Option (List Triplet)) (d d′ : List Value) (bytes rest : List ℕ) → 0 < w → left + size ≡ w → ((ts : List Triplet) → o ≡ Some ts → length ts ≡ size)
    → page_step l w first d bytes ≡ moved rest (of_page o d′) → triplets_read (pages l (suc k) w first d bytes) ≡ joins o (triplets_read (pages l k left false d′ rest))
pages_read l k zero left size first o d d′ bytes rest z c h e = absurd (omega (arith, z))
pages_read l k (suc n) left size first o d d′ bytes rest z c h e =
    ap triplets_read (next_and_rest l k n first d bytes ∙ ap (λ r. goes_on r (pages_behind l k n)) e) ∙ step_reads l k n left size o d′ rest c h

-- and where it isn't
pub no_pages_read : (l : Leaf) (k w : ℕ) (first : Bool) (d : List Value) (bytes : List ℕ) → 0 < w → IsRefused (page_step l w first d bytes) → triplets_read (pages l (suc k) w first d bytes) ≡ None
no_pages_read l k zero first d bytes z h = absurd (omega (arith, z))
no_pages_read l k (suc n) first d bytes z h =
    ap triplets_read (next_and_rest l k n first d bytes) ∙ by (page_step l (suc n) first d bytes) h
  where
    by : (r : Reading PageFault PageTaken) → IsRefused r → triplets_read (goes_on r (pages_behind l k n)) ≡ None
    by (got t q) i = elim i [ ]
    by (refused e q) i = refl

none_wanted : (l : Leaf) (k w : ℕ) (first : Bool) (d : List Value) (bytes : List ℕ) → w ≡ 0 → triplets_read (pages l k w first d bytes) ≡ Some []
none_wanted l zero zero first d bytes e = refl
none_wanted l (suc k) zero first d bytes e = refl
none_wanted l k (suc n) first d bytes e = absurd (omega (arith, e))

pub no_pages_left : (l : Leaf) (k w : ℕ) (first : Bool) (d : List Value) (bytes : List ℕ) → k ≡ 0 → 0 < w → triplets_read (pages l k w first d bytes) ≡ None
no_pages_left l k zero first d bytes e z = absurd (omega (arith, z))
no_pages_left l k (suc n) first d bytes e z = ap (λ j. triplets_read (pages l j (suc n) first d bytes)) e

-- ---- a reader of a chunk

-- what follows of where it stands
pub taking : (l : Leaf) (wanted : ℕ) (bytes : List ℕ) (given : List Triplet) (r : ChunkReader) → refused_of r ≡ None → Stands l wanted bytes given r.stretch r.taker r.page r.body r.pages → IsTaking l wanted bytes given r
taking l wanted bytes given r u s = record {
  whole = λ z. whole z;
  front = λ ts e. front ts e;
  count = omega (arith, counts, s.wants, ap length s.parts ∙ length-append s.before s.read);
  unrefused = u;
  stands = s;
}
  where
    rest : Option (List Triplet)
    rest = pages_left l bytes r.stretch r.taker r.body r.pages

    counts : length s.read + page_left r.page ≡ s.size
    counts = page_counts s.meant s.size (dictionary_of r.taker) (body_in r.stretch r.body) s.read r.page s.underway

    whole : left_of r ≡ 0 → pages_triplets l wanted (chunk_of bytes (range_of r)) ≡ Some given
    whole z =
        let o : s.meant ≡ Some s.read = page_over s.meant s.size (dictionary_of r.taker) (body_in r.stretch r.body) s.read r.page s.underway (omega (arith, z)) in
        let n : wanted_of r.taker ≡ 0 = omega (arith, z) in
        let e : rest ≡ Some [] = none_wanted l r.pages (wanted_of r.taker) (is_first_of r.taker) (dictionary_of r.taker) (behind_in bytes r.stretch r.body) n in
        s.all ∙ (ap₂ (λ a b. joins (Some s.before) (joins a b)) o e ∙ ap (λ xs. Some xs) (ap (λ ys. s.before ++ ys) (append-nil s.read) ∙ sym s.parts))

    front : (ts : List Triplet) → pages_triplets l wanted (chunk_of bytes (range_of r)) ≡ Some ts → BeginWith given ts
    front ts e =
        let p = joins_parts (Some s.before) (joins s.meant rest) ts (sym s.all ∙ e) in
        let q = joins_parts s.meant rest p.1 p.3 in
        let b = page_begins s.meant s.size (dictionary_of r.taker) (body_in r.stretch r.body) s.read r.page q.0 s.underway q.2 in
        let h : s.before ≡ p.0 = same_list s.before p.0 p.2 in (
          b.0 ++ q.1,
          p.4 ∙ (ap₂ (λ xs ys. xs ++ ys) (sym h) (q.4 ∙ ap (λ xs. xs ++ q.1) b.1)
              ∙ (ap (λ xs. s.before ++ xs) (append_assoc s.read b.0 q.1) ∙ (sym (append_assoc s.before s.read (b.0 ++ q.1)) ∙ ap (λ xs. xs ++ (b.0 ++ q.1)) (sym s.parts)))),
        )

-- between pages the chunk's triplets are those that were given, with those of the pages from the next on
between : (l : Leaf) (wanted : ℕ) (bytes : List ℕ) (given : List Triplet) (r : ChunkReader) → IsTaking l wanted bytes given r → page_left r.page ≡ 0
    → pages_triplets l wanted (chunk_of bytes (range_of r)) ≡ joins (Some given) (pages_left l bytes r.stretch r.taker r.body r.pages)
between l wanted bytes given r t z =
    let s = t.stands in
    let rest : Option (List Triplet) = pages_left l bytes r.stretch r.taker r.body r.pages in
    let o : s.meant ≡ Some s.read = page_over s.meant s.size (dictionary_of r.taker) (body_in r.stretch r.body) s.read r.page s.underway z in
    s.all ∙ (ap (λ a. joins (Some s.before) (joins a rest)) o ∙ (joins_assoc s.before s.read rest ∙ ap (λ xs. joins (Some xs) rest) (sym s.parts)))

-- there is no next page: the chunk has no triplets
pub none_next : (l : Leaf) (wanted : ℕ) (bytes : List ℕ) (given : List Triplet) (r : ChunkReader) → IsTaking l wanted bytes given r → page_left r.page ≡ 0 → pages_left l bytes r.stretch r.taker r.body r.pages ≡ None
    → pages_triplets l wanted (chunk_of bytes (range_of r)) ≡ None
none_next l wanted bytes given r t z e = between l wanted bytes given r t z ∙ ap (λ o. joins (Some given) o) e

pub no_step_next : (l : Leaf) (wanted : ℕ) (bytes : List ℕ) (given : List Triplet) (r : ChunkReader) (k : ℕ) → IsTaking l wanted bytes given r → page_left r.page ≡ 0 → 0 < wanted_of r.taker → r.pages ≡ suc k
    → IsRefused (page_step l (wanted_of r.taker) (is_first_of r.taker) (dictionary_of r.taker) (behind_in bytes r.stretch r.body)) → pages_triplets l wanted (chunk_of bytes (range_of r)) ≡ None
no_step_next l wanted bytes given r k t z w n h =
    none_next l wanted bytes given r t z
    (ap (λ j. triplets_read (pages l j (wanted_of r.taker) (is_first_of r.taker) (dictionary_of r.taker) (behind_in bytes r.stretch r.body))) n
    ∙ no_pages_read l k (wanted_of r.taker) (is_first_of r.taker) (dictionary_of r.taker) (behind_in bytes r.stretch r.body) w h)

-- the next page was begun
pub page_opened : (l : Leaf) (wanted : ℕ) (bytes : List ℕ) (given : List Triplet) (r new : ChunkReader) (page : Reading PageFault PageTaken) (body : List ℕ) → IsTaking l wanted bytes given r → page_left r.page ≡ 0
    → 0 < wanted_of r.taker → r.pages ≡ suc new.pages → range_of new ≡ range_of r → leaf_of new.taker ≡ leaf_of r.taker → is_first_of new.taker ≡ false
    → Begins page (wanted_of r.taker) (wanted_of new.taker) (dictionary_of new.taker) body new.page
    → page_step l (wanted_of r.taker) (is_first_of r.taker) (dictionary_of r.taker) (behind_in bytes r.stretch r.body) ≡ moved (behind_in bytes new.stretch new.body) page → body_in new.stretch new.body ≡ body
    → refused_of new ≡ None → IsTaking l wanted bytes given new
page_opened l wanted bytes given r new page body t z w k range leaf first b step same u =
    taking l wanted bytes given new u (record {
      leaf = subst (IsLeafOf l) (sym leaf) s.leaf;
      within = subst (λ (x : ByteRange). x.start + x.size ≤ length bytes) (sym range) s.within;
      before = given;
      read = [];
      parts = sym (append-nil given);
      meant = b.meant;
      size = b.size;
      underway = subst (λ xs. IsUnderway b.meant b.size (dictionary_of new.taker) xs [] new.page) (sym same) b.underway;
      all = ap (λ x. pages_triplets l wanted (chunk_of bytes x)) range ∙ (between l wanted bytes given r t z ∙ ap (λ o. joins (Some given) o) rest);
      wants = omega (arith, t.count, z, b.count);
    })
  where
    s : Stands l wanted bytes given r.stretch r.taker r.page r.body r.pages
    s = t.stands

    size : (ts : List Triplet) → b.meant ≡ Some ts → length ts ≡ b.size
    size ts e = page_size b.meant b.size (dictionary_of new.taker) body [] new.page ts b.underway e

    old : List ℕ
    old = behind_in bytes r.stretch r.body

    behind : List ℕ
    behind = behind_in bytes new.stretch new.body

    rest : pages_left l bytes r.stretch r.taker r.body r.pages ≡ joins b.meant (pages_left l bytes new.stretch new.taker new.body new.pages)
    rest =
        ap (λ j. triplets_read (pages l j (wanted_of r.taker) (is_first_of r.taker) (dictionary_of r.taker) old)) k
        ∙ (pages_read l new.pages (wanted_of r.taker) (wanted_of new.taker) b.size (is_first_of r.taker) b.meant (dictionary_of r.taker) (dictionary_of new.taker) old behind w b.count size
        (step ∙ ap (moved behind) b.is)
        ∙ ap (λ x. joins b.meant (triplets_read (pages l new.pages (wanted_of new.taker) x (dictionary_of new.taker) behind))) (sym first))

-- what the page's reader gave joined
pub read_on : (l : Leaf) (wanted n : ℕ) (bytes : List ℕ) (given before after : List Triplet) (r new : ChunkReader) → IsTaking l wanted bytes given r → 0 < page_left r.page
    → new.stretch ≡ r.stretch → new.taker ≡ r.taker → new.body ≡ r.body → new.pages ≡ r.pages
    → (d : List Value) (body : List ℕ) → d ≡ dictionary_of r.taker → body ≡ body_in r.stretch r.body
    → ((s : PageShape) (g : List Triplet) → IsReading s d body g r.page → (more : List Triplet) × (length more ≡ n) × (after ≡ before ++ more) × IsReading s d body (g ++ more) new.page)
    → refused_of new ≡ None → TakesMore l wanted bytes given before after new
read_on l wanted n bytes given before after r new t z a b c d dictionary body e f k left = by s.underway
  where
    s : Stands l wanted bytes given r.stretch r.taker r.page r.body r.pages
    s = t.stands

    h : (p : PageShape) (g : List Triplet) → IsReading p (dictionary_of r.taker) (body_in r.stretch r.body) g r.page
        → (more : List Triplet) × (length more ≡ n) × (after ≡ before ++ more) × IsReading p (dictionary_of r.taker) (body_in r.stretch r.body) (g ++ more) new.page
    h p g i =
        subst₂ (λ x y. (more : List Triplet) × (length more ≡ n) × (after ≡ before ++ more) × IsReading p x y (g ++ more) new.page) e f
        (k p g (subst₂ (λ x y. IsReading p x y g r.page) (sym e) (sym f) i))

    by : IsUnderway s.meant s.size (dictionary_of r.taker) (body_in r.stretch r.body) s.read r.page → TakesMore l wanted bytes given before after new
    by (inl u) = absurd (omega (arith, z, u.left))
    by (inr u) =
        let g = h u.shape s.read u.reads in
        let stands : Stands l wanted bytes (given ++ g.0) r.stretch r.taker new.page r.body r.pages = record {
          leaf = s.leaf;
          within = s.within;
          before = s.before;
          read = s.read ++ g.0;
          parts = ap (λ xs. xs ++ g.0) s.parts ∙ append_assoc s.before s.read g.0;
          meant = s.meant;
          size = s.size;
          underway = inr (record { shape = u.shape; spells = u.spells; as_many = u.as_many; reads = g.3 });
          all = s.all;
          wants = s.wants;
        } in
        let one = subst₂ (λ x y. Stands l wanted bytes (given ++ g.0) x y new.page r.body r.pages) (sym a) (sym b) stands in
        let two = subst₂ (λ x y. Stands l wanted bytes (given ++ g.0) new.stretch new.taker new.page x y) (sym c) (sym d) one in
        (g.0, g.2, taking l wanted bytes (given ++ g.0) new left two)

-- the page spells nothing: the chunk has no triplets
pub read_none : (l : Leaf) (wanted : ℕ) (bytes : List ℕ) (given : List Triplet) (r : ChunkReader) → IsTaking l wanted bytes given r → 0 < page_left r.page
    → (d : List Value) (body : List ℕ) → d ≡ dictionary_of r.taker → body ≡ body_in r.stretch r.body → ((s : PageShape) (g : List Triplet) → IsReading s d body g r.page → page_triplets s d body ≡ None)
    → pages_triplets l wanted (chunk_of bytes (range_of r)) ≡ None
read_none l wanted bytes given r t z d body e f k = by s.underway
  where
    s : Stands l wanted bytes given r.stretch r.taker r.page r.body r.pages
    s = t.stands

    h : (p : PageShape) (g : List Triplet) → IsReading p (dictionary_of r.taker) (body_in r.stretch r.body) g r.page → page_triplets p (dictionary_of r.taker) (body_in r.stretch r.body) ≡ None
    h p g i = subst₂ (λ x y. page_triplets p x y ≡ None) e f (k p g (subst₂ (λ x y. IsReading p x y g r.page) (sym e) (sym f) i))

    by : IsUnderway s.meant s.size (dictionary_of r.taker) (body_in r.stretch r.body) s.read r.page → pages_triplets l wanted (chunk_of bytes (range_of r)) ≡ None
    by (inl u) = absurd (omega (arith, z, u.left))
    by (inr u) = s.all ∙ ap (λ o. joins (Some s.before) (joins o (pages_left l bytes r.stretch r.taker r.body r.pages))) (u.spells ∙ h u.shape s.read u.reads)

-- before the first page
pub at_begin : (l : Leaf) (wanted : ℕ) (bytes : List ℕ) (r : ChunkReader) → IsLeafOf l (leaf_of r.taker) → (range_of r).start + (range_of r).size ≤ length bytes → page_left r.page ≡ 0 → wanted_of r.taker ≡ wanted
    → is_first_of r.taker ≡ true → dictionary_of r.taker ≡ [] → r.pages ≡ (range_of r).size → behind_in bytes r.stretch r.body ≡ chunk_of bytes (range_of r) → refused_of r ≡ None → IsTaking l wanted bytes [] r
at_begin l wanted bytes r leaf within z w first d k rest u =
    taking l wanted bytes [] r u (record {
      leaf = leaf;
      within = within;
      before = [];
      read = [];
      parts = refl;
      meant = Some [];
      size = 0;
      underway = inl (record { spells = refl; as_many = refl; nothing = refl; left = z });
      all = sym (joins_nothing (joins (Some []) left) ∙ (joins_nothing left ∙ whole));
      wants = omega (arith, w);
    })
  where
    left : Option (List Triplet)
    left = pages_left l bytes r.stretch r.taker r.body r.pages

    count : length (chunk_of bytes (range_of r)) ≡ (range_of r).size
    count = omega (arith, length-take (range_of r).size (drop (range_of r).start bytes), length-drop (range_of r).start bytes, within)

    whole : left ≡ pages_triplets l wanted (chunk_of bytes (range_of r))
    whole =
        ap (λ j. triplets_read (pages l j (wanted_of r.taker) (is_first_of r.taker) (dictionary_of r.taker) (behind_in bytes r.stretch r.body))) (k ∙ sym count)
        ∙ (ap₂ (λ j x. triplets_read (pages l (length (chunk_of bytes (range_of r))) j x (dictionary_of r.taker) (behind_in bytes r.stretch r.body))) w first
        ∙ ap₂ (λ x xs. triplets_read (pages l (length (chunk_of bytes (range_of r))) wanted true x xs)) d rest)

pub one_at_least : (k : ℕ) → (k ≡ 0 → ⊥) → k ≡ suc (k - 1)
one_at_least zero h = absurd (h refl)
one_at_least (suc k) h = omega arith
