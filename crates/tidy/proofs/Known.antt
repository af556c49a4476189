-- What is known of tidy pages: the regions of their entries, at most 15 records on a leaf, no more leaves than leaf pages; and that a unit
-- which runs over their tree keeps them tidy. Assumes nothing.
use Prim.Native.Nat.{ℕ, zero, suc, ◌+◌, ◌≤◌, ◌<◌}
use native.Mathlib.Omega.{arith}
use mathlib.Core.Path.{◌≡◌, refl, sym, ap, ap₂, ◌∙◌, subst}
use mathlib.Core.Logic.{◌≢◌, ⊎_elim}
use mathlib.Core.Bool.{true, false}
use mathlib.Core.List.{List, [], ◌∷◌}
use borrow.Author.Tests.{eq-eqb}
use lib.ListN.{length}
use Rattle.field.specs.Bytes.{le2}
use Rattle.field.proofs.Part.{split}
use Rattle.page.specs.Page.{count, rows, rows_of, entries, records, first_base, last_base, first_leaf, last_leaf, leaf_pages, is_leaf, is_empty}
use Rattle.page.specs.Pages.{page}
use Rattle.page.specs.Places.{Basic, Leafy, empty_leaf}
use Rattle.page.proofs.Places.{empty_leaf_lem, empty-leaf-in}
use Rattle.logs.specs.Record.{Begin, saves}
use Rattle.logs.specs.Plan.{plan}
use Rattle.logs.specs.Log.{begin_ok}
use Rattle.unit.proofs.Places.{plan-keeps}
use Rattle.tidy.specs.Tidy.{Sound, Tidy, Keeps}
use Rattle.tidy.proofs.Model.{Entry, pointers, beneath, State, Tree, level, contents, All}
use Rattle.tidy.proofs.Trail.{eq?, full≤}
use Rattle.tidy.proofs.Run.{Kept}
use Rattle.tidy.proofs.Place.{all_map, all_join}
use Rattle.tidy.proofs.Entries.{ents, pointing-ents}
use Rattle.tidy.proofs.Pages.{sound-page, leaf_of, base_of, root_of, leaf-at, leaf-not, base-at, page-past, leaf-form, leaf-rows, rows_empty}
use Rattle.tidy.proofs.Shown.{Shows}
use Rattle.tidy.proofs.Carry.{Apart, carry}
use Rattle.tidy.proofs.Below.{root-into, base-into}
use Rattle.tidy.proofs.Formed.{state_of, to-tree, from-tree, records-of, shown-state}

-- ---- entries that point into n pages, each once, are at most n

-- how many entries point into n pages from lo on
abbrev tally : ℕ → ℕ → List Entry → ℕ
tally lo zero es = 0
tally lo (suc n) es = pointers lo es + tally (suc lo) n es

-- one entry more
tally-cons : (lo n : ℕ) (e : Entry) (es : List Entry) → tally lo n (e ∷ es) ≡ tally lo n (e ∷ []) + tally lo n es
tally-cons lo zero e es = refl
tally-cons lo (suc n) e es = omega (arith, tally-cons (suc lo) n e es)

-- an entry that points there counts
tally-one : (lo n : ℕ) (e : Entry) → lo ≤ e.page → e.page < lo + n → 1 ≤ tally lo n (e ∷ [])
tally-one lo zero e h k = absurd (omega arith)
tally-one lo (suc n) e h k =
    ⊎_elim
    (λ (q : e.page ≡ lo). rw (eq-eqb e.page lo q) (omega arith))
    (λ (d : e.page ≢ lo). omega (arith, tally-one (suc lo) n e (omega arith) (omega arith)))
    (eq? e.page lo)

-- every entry counts
tally-length : (lo n : ℕ) (es : List Entry) → All (λ e. (lo ≤ e.page) × (e.page < lo + n)) es → length es ≤ tally lo n es
tally-length lo n [] h = omega arith
tally-length lo n (e ∷ es) h = omega (arith, tally-cons lo n e es, tally-one lo n e h.0.0 h.0.1, tally-length lo n es h.1)

-- each page counts once at most
tally-most : (lo n : ℕ) (es : List Entry) → ((p : ℕ) → pointers p es ≤ 1) → tally lo n es ≤ n
tally-most lo zero es h = omega arith
tally-most lo (suc n) es h = omega (arith, h lo, tally-most (suc lo) n es h)

-- a property of all entries of the pages below
all-beneath : (P : Entry → Type 0) (base : ℕ → List Entry) (root : List Entry) → All (λ e. All P (base e.page)) root → All P (beneath base root)
all-beneath P base [] h = tt
all-beneath P base (e ∷ es) h = all_join P (base e.page) (beneath base es) h.0 (all-beneath P base es h.1)

-- ---- tidy pages

-- an entry points into the leaf pages
abbrev Inside : Entry → Type 0
Inside e = (first_leaf ≤ e.page) × (e.page < first_leaf + leaf_pages)

module _ (w : List ℕ) (tidy : Tidy w) where
  -- they are pages of bytes in form
  pub sound : Sound w
  sound = record { whole = tidy.whole; bytes = tidy.bytes; form = tidy.form }

  -- the tree that they show
  pub tree : Tree (root_of w) (state_of w)
  tree = to-tree w sound tidy.tree

  -- root entries point to base pages, base entries to leaf pages
  pub root-basic : All (λ e. Basic e.page) (root_of w)
  root-basic = pointing-ents first_base last_base (entries (page 0 w)) (root-into w sound)

  -- base entries point to leaf pages
  pub base-leafy : (p : ℕ) → Basic p → All (λ e. Leafy e.page) (base_of w p)
  base-leafy p h = rw (base-at w p h.0 h.1) (pointing-ents first_leaf last_leaf (entries (page p w)) (base-into w sound p h.0 h.1))

  -- a leaf has at most 15 records
  pub leaf-short : (p : ℕ) → length (leaf_of w p) ≤ 15
  unfolding rows rows_of count le2
  leaf-short p =
      split p first_leaf
      (λ h. rw (leaf-not w p h) (omega arith))
      (λ h. split p 64
      (λ k. rw (leaf-at w p h)
      (⊎_elim
      (λ (e : is_empty (page p w) ≡ true). omega (arith, ap length (rows_empty 16 (page p w) e)))
      (λ (e : is_leaf (page p w) ≡ true). (leaf-rows (page p w) e).room)
      (leaf-form p (page p w) h (sound-page p w sound k))))
      (λ k. omega (arith, ap length (leaf-at w p h ∙ ap records (page-past p w sound.whole k)))))

  -- an empty leaf page holds no records
  pub empty-place : (p : ℕ) → empty_leaf p (page p w) ≡ true → leaf_of w p ≡ []
  empty-place p e =
      let h : Leafy p = empty-leaf-in p (page p w) e in
      leaf-at w p h.0 ∙ rows_empty 16 (page p w) (sym (empty_leaf_lem p (page p w) h) ∙ e)

  -- no page is pointed to twice
  pub pointed-once : (p : ℕ) → pointers p (level (root_of w) (state_of w)) ≤ 1
  pointed-once p = omega (arith, tree.lower.pointed p, full≤ (leaf_of w p))

  -- there are no more leaves than leaf pages
  pub few-leaves : length (level (root_of w) (state_of w)) ≤ leaf_pages
  few-leaves =
      let inside : All Inside (level (root_of w) (state_of w)) =
      all-beneath Inside (base_of w) (root_of w)
      (all_map (λ e. Basic e.page) (λ e. All Inside (base_of w e.page)) (root_of w)
      (λ e h. all_map (λ x. Leafy x.page) Inside (base_of w e.page) (λ x k. (k.0, omega (arith, k.1)))
      (base-leafy e.page h))
      root-basic) in
      omega (arith, tally-length first_leaf leaf_pages (level (root_of w) (state_of w)) inside, tally-most first_leaf leaf_pages (level (root_of w) (state_of w)) pointed-once)

  -- ---- a unit that runs over the tree is carried out, and the pages are tidy after it

  -- given that its begin record is in form
  pub finish : (n : ℕ) (g : Begin) → begin_ok g ≡ true → saves g ≡ false → Apart (plan g) → n + length (plan g) ≤ 4294967296 → Kept (root_of w) (plan g) (state_of w) → Keeps n g w
  finish n g ok plain apart few kept =
      let shows : Shows w (state_of w) = record { sound = sound; leaves = λ p. refl; bases = λ p. refl } in
      let run = kept.runs [] in
      let c = carry run.1 n w shows tt (plan-keeps g ok) apart few in
      let v : List ℕ = c.after in
      let good : Sound v = c.shows.sound in
      let same-root : root_of w ≡ root_of v = ap (λ (pg : List ℕ). ents (entries pg)) (sym c.top) in
      let same-state : kept.end ≡ state_of v = shown-state v kept.end c.shows in
      let well : Tree (root_of v) (state_of v) =
      subst (λ (r : List Entry). Tree r (state_of v)) same-root (subst (λ (s : State). Tree (root_of w) s) same-state kept.well) in
      let recs : contents (root_of v) (state_of v) ≡ contents (root_of w) (state_of w) =
      sym (ap₂ (λ (r : List Entry) (s : State). contents r s) same-root same-state) ∙ kept.same in
      record {
        ok = ok;
        plain = plain;
        after = v;
        recs = run.0;
        carried = c.carried-out;
        tidy = record { whole = good.whole; bytes = good.bytes; form = good.form; tree = from-tree v good well };
        same = records-of v good ∙ recs ∙ sym (records-of w sound);
      }
