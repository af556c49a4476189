-- The first misplaced leaf: found page by page, and where it is found, its own page lies above its place. Assumes nothing.
use Prim.Native.Nat.{ℕ, suc, ◌+◌, ◌-◌, ◌*◌, ◌≤◌, ◌<◌}
use native.Mathlib.Nat.{add-zero}
use native.Mathlib.Omega.{arith}
use mathlib.Core.Path.{◌≡◌, refl, sym, ◌∙◌}
use mathlib.Core.Bool.{Bool, true, false}
use mathlib.Core.List.{List, [], ◌∷◌, ◌++◌}
use lib.ListN.{length, take, drop}
use lib.Dec.{eqb}
use borrow.Author.Tests.{eq-eqb, ne_eqb}
use Rattle.field.specs.Test.{pick}
use Rattle.field.specs.Bytes.{le2}
use Rattle.page.specs.Page.{rows_of, to_page, count, rows}
use Rattle.page.specs.Pages.{page, pages}
use Rattle.page.specs.Places.{place}
use Rattle.page.proofs.Rows.{page-row, length-rows}
use Rattle.page.proofs.Turns.{rows_next}
use Rattle.tree.specs.Tree.{Leaf, leaf_at, leaves_under, leaves_below, leaves_of}
use Rattle.tree.proofs.Turn.{none_left}
use Rattle.unit.specs.Choice.{base_of}
use Rattle.unit.specs.Chosen.{page_no, stray_in, stray, points_to}
use Rattle.unit.proofs.Walk.{leaves-next, leaves-end, root-front, Ahead, ahead-base, base-rows}
use Rattle.field.specs.declared.PageNo.{PageNo}
use Rattle.unit.specs.declared.order.Stray.{Stray}
use Rattle.unit.specs.declared.order.Stray.TheVariants.{Nowhere, At}

-- ---- a loop over the entries of one base page, for `search`: it stops, it goes on, its end

module _ (b : PageNo) (i i₀ n₀ at₀ n at : ℕ) (l : List ℕ) (e : stray_in i₀ b.0 (rows_of 8 n₀ (drop at₀ l)) ≡ stray_in i b.0 (rows_of 8 n (drop at l))) where
  pub stray-end! : n ≤ 0 → Nowhere ≡ stray_in i₀ b.0 (rows_of 8 n₀ (drop at₀ l))
  unfolding stray_in
  stray-end! h = sym (e ∙ rw (none_left 8 n (drop at l) h))

  module _ (p : ℕ) (want : PageNo) (f : p ≡ le2 l (at + 6)) (g : want.0 ≡ place i) (more : 0 < n) where
    turn : stray_in i₀ b.0 (rows_of 8 n₀ (drop at₀ l)) ≡ pick (eqb p want.0) (stray_in (i + 1) b.0 (rows_of 8 (n - 1) (drop (at + 8) l)))
        (At (page_no want.0) (page_no b.0) (page_no p))
    unfolding stray_in
    turn = e ∙ rw (rows_next 8 n at l more, page-row 8 at l (omega arith), f, g)

    pub stray-stop! : (p ≡ want.0 → ⊥) → At want b (page_no p) ≡ stray_in i₀ b.0 (rows_of 8 n₀ (drop at₀ l))
    unfolding pick
    stray-stop! h = sym (turn ∙ rw (ne_eqb p want.0 h))

    pub stray-more! : p ≡ want.0 → stray_in i₀ b.0 (rows_of 8 n₀ (drop at₀ l)) ≡ stray_in (i + 1) b.0 (rows_of 8 (n - 1) (drop (at + 8) l))
    unfolding pick
    stray-more! h = turn ∙ rw (eq-eqb p want.0 h)

module _ (p n₀ at₀ n at : ℕ) (l : List ℕ) (e : points_to p (rows_of 8 n₀ (drop at₀ l)) ≡ points_to p (rows_of 8 n (drop at l))) where
  pub points-end! : n ≤ 0 → false ≡ points_to p (rows_of 8 n₀ (drop at₀ l))
  unfolding points_to
  points-end! h = sym (e ∙ rw (none_left 8 n (drop at l) h))

  module _ (k : ℕ) (f : k ≡ le2 l (at + 6)) (more : 0 < n) where
    look : points_to p (rows_of 8 n₀ (drop at₀ l)) ≡ pick (eqb k p) true (points_to p (rows_of 8 (n - 1) (drop (at + 8) l)))
    unfolding points_to
    look = e ∙ rw (rows_next 8 n at l more, page-row 8 at l (omega arith), f)

    pub points-stop! : k ≡ p → true ≡ points_to p (rows_of 8 n₀ (drop at₀ l))
    unfolding pick
    points-stop! h = sym (look ∙ rw (eq-eqb k p h))

    pub points-more! : (k ≡ p → ⊥) → points_to p (rows_of 8 n₀ (drop at₀ l)) ≡ points_to p (rows_of 8 (n - 1) (drop (at + 8) l))
    unfolding pick
    points-more! h = look ∙ rw (ne_eqb k p h)

-- ---- page by page

-- the first of two answers that is one
unfoldable pub onward : Stray → Stray → Stray
onward Nowhere y = y
onward (At want b p) y = At want b p

pick-onward : (t : Bool) (x y : Stray) (want b p : PageNo) → pick t (onward x y) (At want b p) ≡ onward (pick t x (At want b p)) y
unfolding pick onward
pick-onward true x y want b p = refl
pick-onward false x y want b p = refl

stray-under : (ps : List (List ℕ)) (i b : ℕ) (es : List (List ℕ)) (ls : List Leaf) → stray i (leaves_under ps b es ++ ls) ≡ onward (stray_in i b es) (stray (i + length es) ls)
unfolding stray stray_in leaves_under leaf_at
stray-under ps i b [] ls = rw (add-zero i) (unfold onward in refl)
stray-under ps i b (e ∷ es) ls =
    let q : i + 1 + length es ≡ i + suc (length es) = omega arith in
    rw (stray-under ps (i + 1) b es ls, q) (pick-onward (eqb (to_page e) (place i)) (stray_in (i + 1) b es) (stray (i + suc (length es)) ls) (page_no (place i))
    (page_no b) (page_no (to_page e)))

pick-pick : (s t : Bool) (x y : ℕ) → pick s x (pick t x y) ≡ pick (pick s true t) x y
unfolding pick
pick-pick true t x y = refl
pick-pick false t x y = refl

base-under : (ps : List (List ℕ)) (p b : ℕ) (es : List (List ℕ)) (ls : List Leaf) → base_of p (leaves_under ps b es ++ ls) ≡ pick (points_to p es) b (base_of p ls)
unfolding base_of points_to leaves_under leaf_at
base-under ps p b [] ls = unfold pick in refl
base-under ps p b (e ∷ es) ls = rw (base-under ps p b es ls) (pick-pick (eqb (to_page e) p) (points_to p es) b (base_of p ls))

module _ (w : List ℕ) (i at n : ℕ) (e : stray 0 (leaves_of (pages w)) ≡ stray i (leaves_below (pages w) (rows_of 8 n (drop at w)))) where
  pub leaf-end! : n ≤ 0 → Nowhere ≡ stray 0 (leaves_of (pages w))
  unfolding stray
  leaf-end! h = sym (e ∙ rw (leaves-end w n (drop at w) h))

  module _ (q m : ℕ) (f : q ≡ le2 w (at + 6)) (g : m ≡ count (page q w)) (a : Ahead w at n) (more : 0 < n) (r : Stray)
      (k : r ≡ stray_in i q (rows_of 8 m (drop 16 (take (256 * q + 256 - 256 * q) (drop (256 * q) w))))) where
    step : stray 0 (leaves_of (pages w)) ≡ onward r (stray (i + m) (leaves_below (pages w) (rows_of 8 (n - 1) (drop (at + 8) w))))
    step =
        let s : q < 64 = omega (arith, ahead-base w at n a more q f) in
        let l : length (rows 8 (page q w)) ≡ m = length-rows 8 (page q w) ∙ sym g in
        e ∙ rw (
          leaves-next w n at w q f s more,
          stray-under (pages w) i q (rows 8 (page q w)) (leaves_below (pages w) (rows_of 8 (n - 1) (drop (at + 8) w))),
          l,
          k,
          base-rows w q m g,
        )

    pub leaf-stop! : {want b p : PageNo} → r ≡ At want b p → r ≡ stray 0 (leaves_of (pages w))
    unfolding onward
    leaf-stop! h = sym (step ∙ rw h)

    pub leaf-more! : r ≡ Nowhere → stray 0 (leaves_of (pages w)) ≡ stray (i + m) (leaves_below (pages w) (rows_of 8 (n - 1) (drop (at + 8) w)))
    unfolding onward
    leaf-more! h = step ∙ rw h

module _ (w : List ℕ) (p at n : ℕ) (e : base_of p (leaves_of (pages w)) ≡ base_of p (leaves_below (pages w) (rows_of 8 n (drop at w)))) where
  pub base-end! : n ≤ 0 → 0 ≡ base_of p (leaves_of (pages w))
  unfolding base_of
  base-end! h = sym (e ∙ rw (leaves-end w n (drop at w) h))

  module _ (q m : ℕ) (f : q ≡ le2 w (at + 6)) (g : m ≡ count (page q w)) (a : Ahead w at n) (more : 0 < n) (z : Bool)
      (k : z ≡ points_to p (rows_of 8 m (drop 16 (take (256 * q + 256 - 256 * q) (drop (256 * q) w))))) where
    pass : base_of p (leaves_of (pages w)) ≡ pick z q (base_of p (leaves_below (pages w) (rows_of 8 (n - 1) (drop (at + 8) w))))
    pass =
        let s : q < 64 = omega (arith, ahead-base w at n a more q f) in
        e ∙ rw (leaves-next w n at w q f s more, base-under (pages w) p q (rows 8 (page q w)) (leaves_below (pages w) (rows_of 8 (n - 1) (drop (at + 8) w))), k, base-rows w q m g)

    pub base-stop! : z ≡ true → q ≡ base_of p (leaves_of (pages w))
    unfolding pick
    base-stop! h = sym (pass ∙ rw h)

    pub base-more! : z ≡ false → base_of p (leaves_of (pages w)) ≡ base_of p (leaves_below (pages w) (rows_of 8 (n - 1) (drop (at + 8) w)))
    unfolding pick
    base-more! h = pass ∙ rw h

-- where the walks begin: at all root entries
pub leaves_all_lem : (w : List ℕ) (n : ℕ) → Ahead w 16 n → n ≡ count (page 0 w) → leaves_of (pages w) ≡ leaves_below (pages w) (rows_of 8 n (drop 16 w))
unfolding leaves_of
leaves_all_lem w n a e = rw (root-front w a.form n e)
