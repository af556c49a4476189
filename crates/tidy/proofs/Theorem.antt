-- The tree half of demand 3: every unit that begin chooses on a well-formed tree can be carried out to its end, each step accepted, and leaves
-- a well-formed tree with the same records. Assumes nothing.
use Prim.Native.Nat.{ℕ, ◌+◌, ◌≤◌, ◌<◌}
use native.Mathlib.Nat.{zero-add}
use native.Mathlib.Omega.{arith}
use mathlib.Core.Path.{◌≡◌, refl, sym, ap, ◌∙◌, subst}
use mathlib.Core.Logic.{◌≢◌, ◌⊎◌, inl, inr}
use mathlib.Core.Bool.{Bool, true, false}
use mathlib.Core.List.{List, [], ◌∷◌, ◌++◌}
use mathlib.Core.Option.{Option, some}
use borrow.Author.Tests.{eq-eqb, ne_eqb}
use lib.Dec.{eqb}
use lib.ListN.{length, get_or, length-append}
use Rattle.field.specs.Bytes.{most4}
use Rattle.field.proofs.Test.{pick_true, pick-false}
use Rattle.page.specs.Page.{is_empty}
use Rattle.page.specs.Pages.{page, pages}
use Rattle.page.specs.Places.{Basic, Leafy, empty_leaf, place}
use Rattle.page.proofs.Places.{empty_leaf_lem, empty-leaf-in, place_in}
use Rattle.page.proofs.Pages.{get_or-pages}
use Rattle.logs.specs.Record.{Begin, saves}
use Rattle.logs.specs.Plan.{Step, close, compact_plan, move_plan, swap_plan, plan}
use Rattle.tree.specs.Tree.{Leaf, leaves_of}
use Rattle.unit.specs.Choice.{lowest_empty, compact_unit, move_of, swap_of, put_in_order, order_unit, one_or_two}
use Rattle.unit.specs.Choice as Choice
use Rattle.tidy.specs.Tidy.{Tidy, Keeps, CompactKeeps, OrderKeeps}
use Rattle.tidy.proofs.Model.{Entry, pointers, full, State, Tree, level, All}
use Rattle.tidy.proofs.Trail.{pointers-append}
use Rattle.tidy.proofs.Run.{Kept}
use Rattle.tidy.proofs.Place.{all-front, all_back, part_of, p-in}
use Rattle.tidy.proofs.Move.{move}
use Rattle.tidy.proofs.Swap.{swap}
use Rattle.tidy.proofs.Gather.{pages_of}
use Rattle.tidy.proofs.Compact.{compact, compact-new}
use Rattle.tidy.proofs.Pages.{leaf_of, root_of}
use Rattle.tidy.proofs.Below.{full-leaf}
use Rattle.tidy.proofs.Formed.{state_of}
use Rattle.tidy.proofs.Leaves.{leaves_all, Spot, spot, length-leaves, standing-all, Standing, stands, leaves_of_lem}
use Rattle.tidy.proofs.Chosen.{lowest-empty, Ordered, ordered}
use Rattle.tidy.proofs.Group.{Grouped, grouped}
use Rattle.tidy.proofs.Begun.{compact_begin, move_begin, swap_begin, compact-ok, move-ok, swap-ok, plain, bases-read, listed-none, apart-compact, apart-new, apart-move, apart-swap}
use Rattle.tidy.proofs.Known.{sound, tree, root-basic, base-leafy, leaf-short, empty-place, pointed-once, few-leaves, finish}

-- ---- the plans of the begin records

-- a compact
plan-compact : (u fill b : ℕ) (leaves : List ℕ) (d : ℕ) → plan (compact_begin u fill b leaves d) ≡ compact_plan b d leaves ++ (close u ∷ [])
unfolding plan
plan-compact u fill b leaves d = ap (λ (l : List Step). l ++ (close u ∷ [])) (pick_true (eqb 1 1) _ _ (eq-eqb 1 1 refl))

-- a move
plan-move : (u b a d : ℕ) → plan (move_begin u b a d) ≡ move_plan b a d ++ (close u ∷ [])
unfolding plan saves
plan-move u b a d =
    ap (λ (l : List Step). l ++ (close u ∷ []))
    (pick-false (eqb 3 1) _ _ (ne_eqb 3 1 (λ z. omega arith)) ∙ pick-false (eqb 3 2) _ _ (ne_eqb 3 2 (λ z. omega arith)) ∙ pick-false _ _ _ (plain 3 (omega arith)))

-- a swap
plan-swap : (u p q a b : ℕ) → plan (swap_begin u p q a b) ≡ swap_plan p q a b ++ (close u ∷ [])
unfolding plan
plan-swap u p q a b =
    ap (λ (l : List Step). l ++ (close u ∷ []))
    (pick-false (eqb 2 1) _ _ (ne_eqb 2 1 (λ z. omega arith))
    ∙ pick_true (eqb 2 2) _ _ (eq-eqb 2 2 refl)
    ∙ read)
  where
    read : swap_plan (get_or (one_or_two p q) 0 0) (get_or (one_or_two p q) 1 (get_or (one_or_two p q) 0 0)) a b ≡ swap_plan p q a b
    read = rw ((bases-read p q).0, (bases-read p q).1)

module _ (w : List ℕ) (tidy : Tidy w) where
  -- the tree that the pages show
  abbrev s : State
  s = state_of w

  -- the root's entries
  abbrev root : List Entry
  root = root_of w

  -- ---- compact

  -- the group c of a begin record
  module _ (n u : ℕ) (g : Begin) (hu : u ≤ most4) (c : Grouped w u g) where
    -- the base page
    abbrev b : ℕ
    b = c.top.page

    -- the entry of C
    abbrev x : Entry
    x = c.entry

    -- those that join it
    abbrev ds : List Entry
    ds = c.with

    -- the begin record
    abbrev begun : ℕ → Begin
    begun d = compact_begin u c.fill b (pages_of (x ∷ ds)) d

    -- the base page keeps to its region
    basic : Basic b
    basic =
        (all_back (λ r. Basic r.page) c.left (c.top ∷ c.right) (subst (All (λ r. Basic r.page)) c.roots (root-basic w tidy))).0

    -- so do the listed leaves
    leafy : All (λ r. Leafy r.page) (x ∷ ds)
    leafy =
        let a = all_back (λ r. Leafy r.page) c.before (x ∷ (ds ++ c.rest)) (subst (All (λ r. Leafy r.page)) c.here (base-leafy w tidy b basic)) in
        (a.0, all-front (λ r. Leafy r.page) ds c.rest a.1)

    -- an entry of the group is one of all entries
    counted : (p : ℕ) → pointers p (x ∷ ds) ≤ pointers p (level root s)
    counted p =
        omega (
          arith,
          part_of s.base p root b (p-in root s (tree w tidy) x b c.before (ds ++ c.rest) c.here),
          ap (pointers p) c.here ∙ pointers-append p c.before (x ∷ (ds ++ c.rest)),
          pointers-append p ds c.rest,
        )

    -- the listed leaves differ
    once : (p : ℕ) → pointers p (x ∷ ds) ≤ 1
    once p = omega (arith, pointed-once w tidy p, counted p)

    -- the tree, with the root's entries taken apart
    tree-here : Tree (c.left ++ c.top ∷ c.right) s
    tree-here = subst (λ (r : List Entry). Tree r s) c.roots (tree w tidy)

    -- and put together again
    kept_back : (todo : List Step) → Kept (c.left ++ c.top ∷ c.right) todo s → Kept root todo s
    kept_back todo k = subst (λ (r : List Entry). Kept r todo s) (sym c.roots) k

    -- the unit in place
    in_place : n + length (plan (begun x.page)) ≤ 4294967296 → Keeps n (begun x.page) w
    unfolding saves
    in_place few =
        let q = plan-compact u c.fill b (pages_of (x ∷ ds)) x.page in
        finish w tidy n (begun x.page)
        (compact-ok u c.fill b x ds x.page hu c.fill-low c.fill-high basic leafy once c.some-join c.few-join leafy.0 (inl refl))
        (plain 1 (omega arith)) (rw q (apart-compact b u x ds once)) few
        (rw q (kept_back _ (compact c.left c.top c.right c.before x ds c.rest s tree-here c.here u c.fits)))

    -- the unit to a new place
    new-place : (d : ℕ) → Leafy d → x.page ≢ d → leaf_of w d ≡ [] → n + length (plan (begun d)) ≤ 4294967296 → Keeps n (begun d) w
    unfolding saves
    new-place d hd apart clear few =
        let q = plan-compact u c.fill b (pages_of (x ∷ ds)) d in
        let zero-to : pointers d (x ∷ ds) ≡ 0 = omega (arith, counted d, (tree w tidy).lower.pointed d, ap full clear) in
        finish w tidy n (begun d)
        (compact-ok u c.fill b x ds d hu c.fill-low c.fill-high basic leafy once c.some-join c.few-join hd
        (inr (listed-none d (x ∷ ds) zero-to)))
        (plain 1 (omega arith)) (rw q (apart-new b u x ds d apart once (omega arith))) few
        (rw q
        (kept_back _
        (compact-new c.left c.top c.right c.before x ds c.rest s tree-here c.here d clear u apart (omega (arith, hd.0)) c.fits)))

    -- the destination that begin finds
    abbrev dest : ℕ
    dest = lowest_empty c.low x.page 0 (pages w)

    -- C's own page, or an empty one
    either-place : n + length (plan (begun dest)) ≤ 4294967296
        → (dest ≡ x.page)
        ⊎ ((i : ℕ) × (i < length (pages w)) × (dest ≡ 0 + i) × (0 + i < x.page) × (empty_leaf (0 + i) (get_or (pages w) i []) ≡ true))
        → Keeps n (begun dest) w
    either-place few (inl e) = rw e (in_place (rw e at few))
    either-place few (inr d) =
        let i : ℕ = d.0 in
        let e : dest ≡ i = d.2 ∙ zero-add i in
        let on : Leafy i = empty-leaf-in i (get_or (pages w) i []) (rw (zero-add i) at d.4) in
        let blank : empty_leaf i (page i w) ≡ true = rw (zero-add i, get_or-pages i w (omega arith)) at d.4 in
        rw e (new-place i on (λ q. omega (arith, d.3)) (empty-place w tidy i blank) (rw e at few))

  -- every unit that begin compact chooses
  by-compact : (n u fill : ℕ) (lk : Option ℕ) (g : Begin) → u ≤ most4 → fill ≤ 15 → compact_unit u fill lk (pages w) ≡ some g
      → n + length (plan g) ≤ 4294967296 → Keeps n g w
  by-compact n u fill lk g hu hf chosen few =
      let c = grouped w tidy u fill lk g hf chosen in
      let few' = subst (λ (h : Begin). n + length (plan h) ≤ 4294967296) c.is few in
      subst (λ (h : Begin). Keeps n h w) (sym c.is) (either-place n u g hu c few' (lowest-empty c.low c.entry.page 0 (pages w)))

  -- ---- order

  -- where a leaf stands, its pages keep to the regions
  spot-basic : (c : Leaf) (next : List Leaf) (p : Spot s root c next) → Basic p.top.page
  spot-basic c next p = (all_back (λ r. Basic r.page) p.left (p.top ∷ p.right) (subst (All (λ r. Basic r.page)) p.roots (root-basic w tidy))).0

  -- the leaf's own page
  spot-leafy : (c : Leaf) (next : List Leaf) (p : Spot s root c next) → Leafy p.entry.page
  spot-leafy c next p =
      (all_back (λ r. Leafy r.page) p.before (p.entry ∷ p.after)
      (subst (All (λ r. Leafy r.page)) p.entries (base-leafy w tidy p.top.page (spot-basic c next p)))).0

  -- a leaf moved to an empty page
  moves : (n u : ℕ) (c : Leaf) (next : List Leaf) (p : Spot s root c next) (d : ℕ) → u ≤ most4 → Leafy d → p.entry.page ≢ d → empty_leaf d (page d w) ≡ true
      → n + length (plan (move_begin u p.top.page p.entry.page d)) ≤ 4294967296 → Keeps n (move_begin u p.top.page p.entry.page d) w
  unfolding saves
  moves n u c next p d hu hd apart blank few =
      let b : ℕ = p.top.page in
      let a : ℕ = p.entry.page in
      let q = plan-move u b a d in
      finish w tidy n (move_begin u b a d) (move-ok u b a d hu (spot-basic c next p) (spot-leafy c next p) hd (λ z. apart (sym z)))
      (plain 3 (omega arith)) (rw q (apart-move b a d u)) few
      (rw q
      (move root s (tree w tidy) p.entry b p.before p.after p.entries d (empty-place w tidy d blank) (leaf-short w tidy a) u
      (omega (arith, hd.0))))

  -- A's leaf stands at p, B's at q
  swaps : (n u : ℕ) (c d : Leaf) (next more : List Leaf) (p : Spot s root c next) (q : Spot s root d more) → u ≤ most4 → p.entry.page ≢ q.entry.page
      → n + length (plan (swap_begin u p.top.page q.top.page p.entry.page q.entry.page)) ≤ 4294967296
      → Keeps n (swap_begin u p.top.page q.top.page p.entry.page q.entry.page) w
  unfolding saves
  swaps n u c d next more p q hu apart few =
      let a : ℕ = p.entry.page in
      let b : ℕ = q.entry.page in
      let la : Leafy a = spot-leafy c next p in
      let lb : Leafy b = spot-leafy d more q in
      let e = plan-swap u p.top.page q.top.page a b in
      finish w tidy n (swap_begin u p.top.page q.top.page a b)
      (swap-ok u p.top.page q.top.page a b hu (spot-basic c next p) (spot-basic d more q) la lb apart)
      (plain 2 (omega arith)) (rw e (apart-swap p.top.page q.top.page a b u apart)) few
      (rw e
      (swap root s (tree w tidy) p.entry q.entry p.top.page q.top.page p.before p.after q.before q.after p.entries q.entries apart
      (leaf-short w tidy a) (leaf-short w tidy b) u (omega (arith, la.0)) (omega (arith, lb.0))))

  -- the leaf that stands where another belongs
  holder : (d : ℕ) → Leafy d → empty_leaf d (page d w) ≡ false → Standing s d (leaves_all s root)
  holder d hd held =
      let full-d : full (leaf_of w d) ≡ 1 = full-leaf w (sound w tidy) d hd.0 hd.1 ∙ pick-false (is_empty (page d w)) 0 1 (sym (empty_leaf_lem d (page d w) hd) ∙ held) in
      stands s d (leaves_all s root) (omega (arith, standing-all s d root, (tree w tidy).lower.pointed d))

  module _ (n u : ℕ) (g : Begin) (hu : u ≤ most4) (few : n + length (plan g) ≤ 4294967296) (o : Ordered u (pages w) (leaves_of (pages w)) 0 (leaves_of (pages w)) g) where
    -- the page where the leaf belongs
    abbrev wanted : ℕ
    wanted = place (0 + length o.before)

    -- where the leaf stands
    p : Spot s root o.leaf o.next
    p = spot s root o.before o.leaf o.next (sym (leaves_of_lem w (sound w tidy)) ∙ o.all-leaves)

    -- there is such a page
    wanted-leafy : Leafy wanted
    wanted-leafy =
        let k = ap length (sym (leaves_of_lem w (sound w tidy)) ∙ o.all-leaves) ∙ length-append o.before (o.leaf ∷ o.next) in
        place_in (0 + length o.before) (omega (arith, k, length-leaves s root, few-leaves w tidy))

    -- the leaf stands elsewhere
    apart : p.entry.page ≢ wanted
    apart q = o.misplaced (ap (λ (l : Leaf). l.at) p.leaf ∙ q)

    -- its place is empty
    to-empty : empty_leaf wanted (page wanted w) ≡ true → Keeps n g w
    unfolding put_in_order move_of
    to-empty blank =
        let is : g ≡ move_begin u p.top.page p.entry.page wanted =
        o.is
        ∙ pick_true (empty_leaf wanted (get_or (pages w) wanted [])) _ _ (ap (empty_leaf wanted) (get_or-pages wanted w (omega (arith, wanted-leafy.1))) ∙ blank)
        ∙ ap (λ (l : Leaf). move_begin u l.base l.at wanted) p.leaf in
        subst (λ (h : Begin). Keeps n h w) (sym is)
        (moves n u o.leaf o.next p wanted hu wanted-leafy apart blank (subst (λ (h : Begin). n + length (plan h) ≤ 4294967296) is few))

    -- another leaf stands there
    to_held : empty_leaf wanted (page wanted w) ≡ false → Keeps n g w
    unfolding put_in_order swap_of
    to_held held =
        let a = holder wanted wanted-leafy held in
        let q : Spot s root a.leaf a.after = spot s root a.before a.leaf a.after a.all-leaves in
        let on : q.entry.page ≡ wanted = sym (ap (λ (l : Leaf). l.at) q.leaf) ∙ a.on in
        let base-a : Choice.base_of wanted (leaves_of (pages w)) ≡ q.top.page =
        ap (Choice.base_of wanted) (leaves_of_lem w (sound w tidy)) ∙ a.under-base ∙ ap (λ (l : Leaf). l.base) q.leaf in
        let is : g ≡ swap_begin u q.top.page p.top.page q.entry.page p.entry.page =
        o.is
        ∙ pick-false (empty_leaf wanted (get_or (pages w) wanted [])) _ _ (ap (empty_leaf wanted) (get_or-pages wanted w (omega (arith, wanted-leafy.1))) ∙ held)
        ∙ (λ i. swap_begin u (base-a i) (p.leaf i).base (sym on i) (p.leaf i).at) in
        subst (λ (h : Begin). Keeps n h w) (sym is)
        (swaps n u a.leaf o.leaf a.after o.next q p hu (λ z. apart (sym z ∙ on)) (subst (λ (h : Begin). n + length (plan h) ≤ 4294967296) is few))

    -- either way
    in_order_lem : Keeps n g w
    in_order_lem = by-test (empty_leaf wanted (page wanted w)) refl
      where
        by-test : (t : Bool) → empty_leaf wanted (page wanted w) ≡ t → Keeps n g w
        by-test true e = to-empty e
        by-test false e = to_held e

  -- every unit that begin order chooses
  by_order : (n u : ℕ) (g : Begin) → u ≤ most4 → order_unit u (pages w) ≡ some g → n + length (plan g) ≤ 4294967296 → Keeps n g w
  unfolding order_unit
  by_order n u g hu chosen few = in_order_lem n u g hu few (ordered u (pages w) (leaves_of (pages w)) 0 (leaves_of (pages w)) g chosen)

-- ---- the theorem

-- for begin compact
pub compact-keeps : CompactKeeps
compact-keeps w tidy n unit fill lk g hu hf chosen few = by-compact w tidy n unit fill lk g hu hf chosen few

-- for begin order
pub order-keeps : OrderKeeps
order-keeps w tidy n unit g hu chosen few = by_order w tidy n unit g hu chosen few
