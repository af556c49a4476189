-- The way down to a key in a well-formed tree: the pages on it, and the places of its entries and of the record. Assumes nothing.
use Prim.Native.Nat.{ℕ, ◌+◌, ◌-◌, ◌*◌, ◌≤◌, ◌<◌}
use native.Mathlib.Nat.{mul-add, mul-le-mul_left}
use native.Mathlib.Omega.{arith}
use mathlib.Core.Path.{◌≡◌, sym, ◌∙◌}
use mathlib.Core.Bool.{true}
use mathlib.Core.List.{List, []}
use lib.ListN.{length, take, drop, get_or}
use Rattle.field.specs.Bytes.{le2, le4}
use Rattle.field.proofs.Number.{le2-part, le4-part}
use Rattle.page.specs.Page.{rows_of, key_of, to_page, count, rows, first_base, last_base, first_leaf, last_leaf}
use Rattle.page.specs.Pages.{page, pages}
use Rattle.page.specs.Places.{Basic, Leafy}
use Rattle.page.proofs.Rows.{each_at, length-rows, key-at, page-at}
use Rattle.page.proofs.Order.{pointing-at}
use Rattle.page.proofs.Turns.{rows_next}
use Rattle.page.proofs.Pages.{get_or-pages, formed-page, lent-page}
use Rattle.tree.specs.Tree.{well_formed}
use Rattle.tree.specs.Walk.{InForm, Ascending, Spot, Over}
use Rattle.tree.proofs.Regions.{root-points, base-points}
use Rattle.tree.proofs.Sound.{root-entries, root-formed, root-ordered, all-over}
use Rattle.unit.proofs.Ordered.{once}
use Rattle.saving.specs.Save.{before, base_for, leaf_for}
use Rattle.saving.specs.Route.{leading, Rowed, Stands, Leads}
use Rattle.saving.specs.declared.route.Route.{Route}
use Rattle.saving.proofs.Found.{Parts, parts, before-length, leading-few, lesser-front, Rest, rest-absent, rest-present}

-- ---- rows of a page where they stand in all pages

module _ (sz p i : ℕ) (w : List ℕ) (r : Rowed sz w p) (few : i < count (page p w)) where
  row-end : sz * i + sz ≤ sz * count (page p w)
  row-end = omega (arith, mul-add sz i 1, mul-le-mul_left sz (let g : i + 1 ≤ count (page p w) = omega arith in g))

  pub row_inside : 16 + sz * i + sz ≤ 256
  row_inside = omega (arith, row-end, r.fits)

  pub key-there : 6 ≤ sz → le4 w (256 * p + (16 + sz * i + 2)) ≡ key_of (get_or (rows sz (page p w)) i [])
  unfolding page
  key-there h = sym (le4-part (256 * p) 256 w (16 + sz * i + 2) (omega (arith, row_inside))) ∙ key-at sz i (page p w) h few

pub page-there : (p i : ℕ) (w : List ℕ) → Rowed 8 w p → i < count (page p w) → le2 w (256 * p + (16 + 8 * i + 6)) ≡ to_page (get_or (rows 8 (page p w)) i [])
unfolding page
page-there p i w r few = sym (le2-part (256 * p) 256 w (16 + 8 * i + 6) (omega (arith, row_inside 8 p i w r few))) ∙ page-at i (page p w) few

-- ---- places

-- of an entry
before-first : (key n : ℕ) (pg : List ℕ) → n ≡ count pg → 0 < n → leading (key + 1) (rows_of 8 (n - 1) (drop 24 pg)) ≡ length (before key (rows 8 pg))
unfolding rows
before-first key n pg e h = sym (rw (← e, rows_next 8 n 16 pg h) (before-length key _ _))

pub entry-placed! : (w : List ℕ) (p key n x : ℕ) → x ≡ leading (key + 1) (rows_of 8 (n - 1) (drop 24 (take (256 * p + 256 - 256 * p) (drop (256 * p) w))))
    → n ≡ count (page p w) → Rowed 8 w p → x ≡ length (before key (rows 8 (page p w)))
entry-placed! w p key n x e f r = e ∙ rw (lent-page p w) (before-first key n (page p w) f (omega (arith, r.full)))

-- of a record
pub record-placed! : (w : List ℕ) (p key n x : ℕ) → x ≡ leading key (rows_of 16 n (drop 16 (take (256 * p + 256 - 256 * p) (drop (256 * p) w))))
    → n ≡ count (page p w) → x ≡ leading key (rows 16 (page p w))
unfolding rows
record-placed! w p key n x e f = e ∙ rw (lent-page p w, f)

module _ (w : List ℕ) (p key i : ℕ) (a : Ascending (rows 16 (page p w))) (e : i ≡ leading key (rows 16 (page p w))) where
  stands_at : (k : ℕ) → i ≤ k → k ≤ i + 1 → k ≤ count (page p w) → Rest a.one a.two key (rows 16 (page p w)) k → Stands w p key i k
  stands_at k h l m x =
      record {
        low = lesser-front a.one a.two key 0 (rows 16 (page p w)) a.order ∙ rw (← e);
        high = x.high;
        found = rw e x.found;
        order = h;
        lone = l;
        inside = m;
      }

  i-few : i ≤ count (page p w)
  i-few = omega (arith, leading-few a.one a.two key (rows 16 (page p w)), length-rows 16 (page p w))

  absent : (i < count (page p w) → key_of (get_or (rows 16 (page p w)) i []) ≡ key → ⊥) → Stands w p key i i
  absent ne =
      stands_at i (omega arith) (omega arith) i-few
      (rw e (rest-absent a.one a.two key 0 (rows 16 (page p w)) a.order
      (λ h q. ne (omega (arith, length-rows 16 (page p w))) (rw e q))))

  pub stands-past : (n : ℕ) → n ≡ count (page p w) → n ≤ i → Stands w p key i i
  stands-past n f h = absent (λ g q. omega arith)

  pub stands-other : (k : ℕ) → k ≡ key_of (get_or (rows 16 (page p w)) i []) → (k ≡ key → ⊥) → Stands w p key i i
  stands-other k f ne = absent (λ g q. ne (f ∙ q))

  pub stands_here : (n k : ℕ) → n ≡ count (page p w) → i < n → k ≡ key_of (get_or (rows 16 (page p w)) i []) → k ≡ key → Stands w p key i (i + 1)
  stands_here n k f g h q =
      let few : leading key (rows 16 (page p w)) < length (rows 16 (page p w)) = omega (arith, length-rows 16 (page p w)) in
      stands_at (i + 1) (omega arith) (omega arith) (omega arith)
      (rw e (rest-present a.one a.two key 0 (rows 16 (page p w)) a.order few (rw e at (sym h ∙ q))))

-- ---- the way

spot-rowed : (sz : ℕ) (w : List ℕ) (q : ℕ) → Spot sz w q → Rowed sz w q
spot-rowed sz w q s = record { inside = s.inside; fits = s.fits; full = s.full }

pub parted : (key sz p i : ℕ) (w : List ℕ) → i ≡ length (before key (rows sz (page p w))) → 0 < count (page p w) → Parts key (rows sz (page p w)) i
parted key sz p i w e h = parts key (rows sz (page p w)) i e (rw (length-rows sz (page p w)) h)

module _ (w : List ℕ) (f : InForm w) (well : well_formed (pages w) ≡ true) (some : 0 < count (page 0 w)) where
  pub root-rowed : Rowed 8 w 0
  root-rowed = record { inside = omega arith; fits = omega (arith, (root-ordered w f).room); full = some }

  -- the page below an entry of the root
  root_over : (i b : ℕ) → i < count (page 0 w) → b ≡ to_page (get_or (rows 8 (page 0 w)) i []) → Over w b
  root_over i b h e = rw e (each_at i (all-over w f (once w well)) (omega (arith, length-rows 8 (page 0 w))))

  pub root_below : (i b : ℕ) → i < count (page 0 w) → b ≡ to_page (get_or (rows 8 (page 0 w)) i []) → Rowed 8 w b
  root_below i b h e = spot-rowed 8 w b (root_over i b h e).base

  pub root-basic : (i b : ℕ) → i < count (page 0 w) → b ≡ to_page (get_or (rows 8 (page 0 w)) i []) → Basic b
  root-basic i b h e =
      rw e (pointing-at first_base last_base i (rows 8 (page 0 w)) (root-points (page 0 w) (root-formed w f)) (omega (arith, length-rows 8 (page 0 w))))

  module _ (key i : ℕ) (ei : i ≡ length (before key (rows 8 (page 0 w)))) where
    over-parts : Parts key (rows 8 (page 0 w)) i
    over-parts = parted key 8 0 i w ei some

    pub over-inside : i < count (page 0 w)
    over-inside = omega (arith, over-parts.inside, length-rows 8 (page 0 w))

    module _ (b : ℕ) (eb : b ≡ to_page (get_or (rows 8 (page 0 w)) i [])) where
      base-over : Over w b
      base-over = root_over i b over-inside eb

      pub base-rowed : Rowed 8 w b
      base-rowed = root_below i b over-inside eb

      base-basic : Basic b
      base-basic = root-basic i b over-inside eb

      module _ (j : ℕ) (ej : j ≡ length (before key (rows 8 (page b w)))) where
        under-parts : Parts key (rows 8 (page b w)) j
        under-parts = parted key 8 b j w ej base-over.base.full

        pub under-inside : j < count (page b w)
        under-inside = omega (arith, under-parts.inside, length-rows 8 (page b w))

        module _ (p : ℕ) (ep : p ≡ to_page (get_or (rows 8 (page b w)) j [])) where
          leaf-spot : Spot 16 w p
          leaf-spot = rw ep (each_at j base-over.leaves under-parts.inside)

          pub leaf-rowed : Rowed 16 w p
          leaf-rowed = spot-rowed 16 w p leaf-spot

          pub leaf-ascends : Ascending (rows 16 (page p w))
          leaf-ascends = leaf-spot.order

          leaf-leafy : Leafy p
          leaf-leafy =
              rw ep
              (pointing-at first_leaf last_leaf j (rows 8 (page b w))
              (base-points b (page b w) (formed-page b w f.forms base-over.base.inside) base-basic.0 base-basic.1) under-parts.inside)

          base-named : b ≡ base_for key (pages w)
          unfolding base_for
          base-named = rw (root-entries w, over-parts.here) eb

          leaf-named : p ≡ leaf_for key (pages w)
          unfolding leaf_for
          leaf-named = rw (← base-named, get_or-pages b w base-over.base.inside, under-parts.here) ep

          pub leads : (x : Route) → x.key ≡ key → x.over ≡ i → x.base.0 ≡ b → x.under ≡ j → x.leaf.0 ≡ p → Stands w p key x.at x.past → Leads w x
          leads x e0 e1 e2 e3 e4 s =
              record {
                base-is = rw e0 (e2 ∙ base-named);
                leaf-is = rw e0 (e4 ∙ leaf-named);
                basic = rw e2 base-basic;
                leafy = rw e4 leaf-leafy;
                root = root-rowed;
                base = rw e2 base-rowed;
                leaf = rw e4 leaf-rowed;
                over = rw e0 (e1 ∙ ei);
                under = rw (e0, e2, e3) ej;
                stands = rw (e0, e4) s;
              }
