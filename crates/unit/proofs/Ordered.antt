-- The order unit from the first misplaced leaf. In a well-formed tree no two leaves stand on one page, so that the place of that leaf lies
-- below its own page. Assumes nothing.
use Prim.Native.Nat.{ℕ, ◌+◌, ◌-◌, ◌≤◌, ◌<◌}
use native.Mathlib.Omega.{arith}
use mathlib.Core.Path.{◌≡◌, refl, sym, ap, ◌∙◌}
use mathlib.Core.Bool.{Bool, true, false}
use mathlib.Core.List.{List, [], ◌∷◌, ◌++◌}
use mathlib.Core.Option.{Option, some, none}
use lib.ListN.{length, drop, get_or, length-drop}
use lib.Dec.{eqb}
use borrow.Author.Tests.{eqb-true, eqb-false, leb-true, eq-eqb, ne_eqb}
use Rattle.field.specs.Test.{pick}
use Rattle.field.proofs.Test.{both-1, both-2, all_head, pick_true, pick-false}
use Rattle.field.proofs.Part.{split}
use Rattle.page.specs.Page.{to_page, pointing, rows, first_base, last_base, first_leaf, last_leaf, to_bases, is_empty}
use Rattle.page.specs.Pages.{page, pages}
use Rattle.page.specs.Places.{Leafy, leaf_page, empty_leaf, place}
use Rattle.page.proofs.Places.{leaf-page, leaf-page-in, place-first, place-next, place-below}
use Rattle.page.proofs.Pages.{formed-page, get_or-pages, length-pages}
use Rattle.tree.specs.Tree.{Leaf, under, root_entries, below, base_entries, pointers, pointed_once, well_formed, leaf_at, leaves_under, leaves_below, leaves_of}
use Rattle.tree.specs.Walk.{InForm}
use Rattle.tree.proofs.Regions.{decide, root-points, base-points}
use Rattle.tree.proofs.Tally.{pointers-append, once-at}
use Rattle.tree.proofs.Sound.{root-entries, root-formed}
use Rattle.logs.specs.Record.{Begin}
use Rattle.unit.specs.Choice.{move_of, swap_of, put_in_order, base_of, choose_order, order_unit}
use Rattle.unit.specs.Chosen.{page_no, Picks, leaf_of, stray, in_order}
use Rattle.unit.specs.declared.choice.Choice.{Choice}
use Rattle.field.specs.declared.PageNo.{PageNo}
use Rattle.unit.specs.declared.order.Stray.{Stray}
use Rattle.unit.specs.declared.order.Stray.TheVariants.{Nowhere, At}

-- ---- how often a page is pointed to

module _ (w : List ℕ) (well : well_formed (pages w) ≡ true) where
  pub once : pointed_once (root_entries (pages w) ++ base_entries (pages w)) 1 (drop 1 (pages w)) ≡ true
  unfolding well_formed
  once = all_head _ _ well

  -- no page but the root is pointed to twice
  pub pointed-once : (p : ℕ) → 1 ≤ p → p < 64 → pointers p (root_entries (pages w)) + pointers p (base_entries (pages w)) ≤ 1
  pointed-once p lo hi =
      let j : ℕ = p - 1 in
      let e : 1 + j ≡ p = omega arith in
      let ld : length (drop 1 (pages w)) ≡ 63 = length-drop 1 (pages w) ∙ rw (length-pages w) in
      let o : pointers (1 + j) (root_entries (pages w) ++ base_entries (pages w)) ≡ pick (is_empty (get_or (drop 1 (pages w)) j [])) 0 1 =
      once-at (root_entries (pages w) ++ base_entries (pages w)) 1 j (drop 1 (pages w)) once (omega arith) in
      let s : pick (is_empty (get_or (drop 1 (pages w)) j [])) 0 1 ≤ 1 = flip (is_empty (get_or (drop 1 (pages w)) j [])) in
      omega (arith, rw e at o, pointers-append p (root_entries (pages w)) (base_entries (pages w)))
    where
      flip : (b : Bool) → pick b 0 1 ≤ 1
      flip true = unfold pick in omega arith
      flip false = unfold pick in omega arith

-- entries that all point elsewhere
pub pointers-none : (from to : ℕ) (es : List (List ℕ)) (p : ℕ) → pointing from to es ≡ true → ((q : ℕ) → from ≤ q → q ≤ to → q ≡ p → ⊥) → pointers p es ≡ 0
unfolding pointing pointers
pointers-none from to [] p t f = refl
pointers-none from to (e ∷ es) p t f =
    let t1 = both-2 _ _ t in
    let ne : to_page e ≡ p → ⊥ = f (to_page e) (leb-true from (to_page e) (both-1 _ _ t)) (leb-true (to_page e) to (both-1 _ _ t1)) in
    rw (ne_eqb (to_page e) p ne, pointers-none from to es p (both-2 _ _ t1) f) (unfold pick in refl)

-- base entries point to leaf pages only
level-none : (w : List ℕ) → InForm w → (es : List (List ℕ)) (p : ℕ) → to_bases es ≡ true → ((q : ℕ) → Leafy q → q ≡ p → ⊥) → pointers p (below 8 (pages w) es) ≡ 0
unfolding pointing below under
level-none w f [] p t ne = unfold pointers in refl
level-none w f (e ∷ es) p t ne =
    let t1 = both-2 _ _ t in
    let q : ℕ = to_page e in
    let lo : first_base ≤ q = leb-true first_base q (both-1 _ _ t) in
    let hi : q ≤ last_base = leb-true q last_base (both-1 _ _ t1) in
    let s : q < 64 = omega arith in
    let b = base-points q (page q w) (formed-page q w f.forms s) lo hi in
    let a : pointers p (rows 8 (page q w)) ≡ 0 = pointers-none first_leaf last_leaf (rows 8 (page q w)) p b (λ k l m. ne k (l, m)) in
    rw (get_or-pages q w s) (pointers-append p (rows 8 (page q w)) (below 8 (pages w) es) ∙ rw (a, level-none w f es p (both-2 _ _ t1) ne))

-- ---- leaves on a page

false-true : false ≡ true → ⊥
false-true e = let z : ◌≡◌ {A = ℕ} 0 1 = cc in omega arith

-- how many of these leaves stand on page p
held : (p : ℕ) → List Leaf → ℕ
held p [] = 0
held p (l ∷ ls) = pick (eqb l.at p) 1 0 + held p ls

held-under : (ps : List (List ℕ)) (b p : ℕ) (es : List (List ℕ)) (ls : List Leaf) → held p (leaves_under ps b es ++ ls) ≡ pointers p es + held p ls
unfolding held leaves_under leaf_at pointers
held-under ps b p [] ls = omega arith
held-under ps b p (e ∷ es) ls = rw (held-under ps b p es ls) (omega arith)

held_below : (ps : List (List ℕ)) (p : ℕ) (es : List (List ℕ)) → held p (leaves_below ps es) ≡ pointers p (below 8 ps es)
unfolding leaves_below below
held_below ps p [] = unfold held pointers in refl
held_below ps p (e ∷ es) =
    held-under ps (to_page e) p (rows 8 (under ps e)) (leaves_below ps es)
    ∙ rw (held_below ps p es) (sym (pointers-append p (rows 8 (under ps e)) (below 8 ps es)))

module _ (w : List ℕ) (f : InForm w) where
  leaves-held : (p : ℕ) → held p (leaves_of (pages w)) ≡ pointers p (base_entries (pages w))
  unfolding leaves_of base_entries
  leaves-held p = held_below (pages w) p (root_entries (pages w))

  held_none : (p : ℕ) → leaf_page p ≡ false → held p (leaves_of (pages w)) ≡ 0
  unfolding base_entries
  held_none p e =
      leaves-held p
      ∙ level-none w f (root_entries (pages w)) p (rw (root-entries w) (root-points (page 0 w) (root-formed w f)))
      (λ q h z. false-true (sym e ∙ (rw z at (leaf-page q h))))

  held-once : well_formed (pages w) ≡ true → (p : ℕ) → held p (leaves_of (pages w)) ≤ 1
  held-once well p =
      decide (leaf_page p)
      (λ t. let h = leaf-page-in p t in
      omega (arith, leaves-held p, pointed-once w well p (omega arith) (omega arith)))
      (λ t. omega (arith, held_none p t))

-- ---- the first misplaced leaf stands above its place, so that a leaf may stand there

at-want : (want b p want' b' p' : PageNo) → At want b p ≡ At want' b' p' → want.0 ≡ want'.0
at-want want b p want' b' p' e = cc

nowhere-at : (want b p : PageNo) → Nowhere ≡ At want b p → ⊥
nowhere-at want b p e = let z : ◌≡◌ {A = ℕ} 0 1 = cc in omega arith

one_at : (a b : ℕ) → a ≡ b → ◌≡◌ {A = ℕ} (pick (eqb a b) 1 0) 1
unfolding pick
one_at a b e = rw (eq-eqb a b e)

stray-leafy : (i : ℕ) (ls : List Leaf) (want b p : PageNo) → ((q : ℕ) → leaf_page q ≡ false → held q ls ≡ 0) → ((q : ℕ) → q < place i → held q ls ≡ 0)
    → ((q : ℕ) → held q ls ≤ 1) → stray i ls ≡ At want b p → Leafy want.0
unfolding stray held
stray-leafy i [] want b p bare clear twice e = absurd (nowhere-at want b p e)
stray-leafy i (l ∷ ls) want b p bare clear twice e =
    decide (eqb l.at (place i))
    (λ t. let z : l.at ≡ place i = eqb-true l.at (place i) t in
    let e1 : stray (i + 1) ls ≡ At want b p = sym (pick_true (eqb l.at (place i)) (stray (i + 1) ls) (At (page_no (place i)) (page_no l.base) (page_no l.at)) t) ∙ e in
    let clear1 : (q : ℕ) → q < place (i + 1) → held q ls ≡ 0 =
    λ q h. decide (leaf_page q)
    (λ u. let k : q ≤ place i = place-next i q u h in
    split q (place i)
    (λ a. omega (arith, clear q a))
    (λ a. let y : l.at ≡ q = omega arith in
    omega (arith, twice q, one_at l.at q y)))
    (λ u. omega (arith, bare q u)) in
    stray-leafy (i + 1) ls want b p (λ q u. omega (arith, bare q u)) clear1 (λ q. omega (arith, twice q)) e1)
    (λ t. let ne : l.at ≡ place i → ⊥ = eqb-false l.at (place i) t in
    let e1 : At (page_no (place i)) (page_no l.base) (page_no l.at) ≡ At want b p = sym
    (pick-false (eqb l.at (place i)) (stray (i + 1) ls) (At (page_no (place i)) (page_no l.base) (page_no l.at)) t) ∙ e in
    let v : place i ≡ want.0 = at-want (page_no (place i)) (page_no l.base) (page_no l.at) want b p e1 in
    let here = one_at l.at l.at refl in
    let stands : leaf_page l.at ≡ true =
    decide (leaf_page l.at) (λ u. u) (λ u. absurd (let c : ⊥ = omega (arith, bare l.at u) in c)) in
    let above : place i < l.at =
    split (place i) l.at (λ a. a)
    (λ a. split l.at (place i) (λ k. absurd (let c : ⊥ = omega (arith, clear l.at k) in c)) (λ k. absurd (ne (omega arith)))) in
    rw (← v) (leaf-page-in (place i) (place-below i l.at stands above)))

pub want-leafy : (w : List ℕ) (s : Stray) (want b p : PageNo) → s ≡ At want b p → s ≡ stray 0 (leaves_of (pages w)) → InForm w → well_formed (pages w) ≡ true → Leafy want.0
want-leafy w s want b p h k f well =
    stray-leafy 0 (leaves_of (pages w)) want b p (held_none w f)
    (λ q a. decide (leaf_page q) (λ u. absurd (let c : ⊥ = omega (arith, place-first q u) in c)) (held_none w f q))
    (held-once w f well) (sym k ∙ h)

-- ---- the unit

choose-stray : (u : ℕ) (ps : List (List ℕ)) (ls : List Leaf) (i : ℕ) (rest : List Leaf) → choose_order u ps ls i rest ≡ in_order u ps ls (stray i rest)
unfolding choose_order stray
choose-stray u ps ls i [] = unfold in_order in refl
choose-stray u ps ls i (l ∷ rest) = rw (choose-stray u ps ls (i + 1) rest) (out (eqb l.at (place i)))
  where
    out : (t : Bool) → pick t (in_order u ps ls (stray (i + 1) rest)) (some (put_in_order u (place i) ps ls l)) ≡ in_order u ps ls
        (pick t (stray (i + 1) rest) (At (page_no (place i)) (page_no l.base) (page_no l.at)))
    out true = unfold pick in refl
    out false = unfold pick in_order put_in_order move_of swap_of in refl

order-stray : (u : ℕ) (ps : List (List ℕ)) → order_unit u ps ≡ in_order u ps (leaves_of ps) (stray 0 (leaves_of ps))
unfolding order_unit
order-stray u ps = choose-stray u ps (leaves_of ps) 0 (leaves_of ps)

-- the same unit by another account
pub picks-as : (r : Choice) (f g : ℕ → Option Begin) → Picks r f → ((u : ℕ) → f u ≡ g u) → Picks r g
picks-as r f g p e = record {
  unit = λ u. p.unit u ∙ e u;
  some-bases = p.some-bases;
  spare-bases = p.spare-bases;
  some-leaves = p.some-leaves;
  spare-leaves = p.spare-leaves;
}

module _ (w : List ℕ) (s : Stray) (e : s ≡ stray 0 (leaves_of (pages w))) (r : Choice) where
  pub order-none! : s ≡ Nowhere → Picks r (λ u. none) → Picks r (λ u. order_unit u (pages w))
  order-none! h p = picks-as r _ _ p (λ u. sym (order-stray u (pages w) ∙ rw (← e, h) (unfold in_order in refl)))

  module _ (want b q : PageNo) (h : s ≡ At want b q) (z : Bool) (k : z ≡ empty_leaf want.0 (page want.0 w)) (leafy : Leafy want.0) where
    right : (u : ℕ) → order_unit u (pages w) ≡ some (pick z (move_of u (leaf_of b.0 q.0) want.0)
        (swap_of u (leaf_of b.0 q.0) want.0 (base_of want.0 (leaves_of (pages w)))))
    right u = order-stray u (pages w) ∙ rw (← e, h) (unfold in_order put_in_order in rw (get_or-pages want.0 w (omega arith), k))

    pub order-move! : z ≡ true → Picks r (λ u. some (move_of u (leaf_of b.0 q.0) want.0)) → Picks r (λ u. order_unit u (pages w))
    order-move! t p = picks-as r _ _ p (λ u. sym (right u ∙ ap some (pick_true z _ _ t)))

    pub order-swap! : (other : ℕ) → other ≡ base_of want.0 (leaves_of (pages w)) → z ≡ false → Picks r
        (λ u. some (swap_of u (leaf_of b.0 q.0) want.0 other)) → Picks r (λ u. order_unit u (pages w))
    order-swap! other o t p = picks-as r _ _ p (λ u. sym (right u ∙ ap some (pick-false z _ _ t) ∙ rw o))
