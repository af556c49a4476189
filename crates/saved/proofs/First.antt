-- The first record of all, over the bytes: it takes the first base page and the lowest empty leaf page, keys 0. Assumes nothing.
use Prim.Native.Nat.{ℕ, ◌≤◌, ◌<◌}
use native.Mathlib.Omega.{arith}
use mathlib.Core.Path.{◌≡◌, refl, sym, ap, ◌∙◌}
use mathlib.Core.List.{List, [], ◌∷◌}
use Rattle.field.specs.Bytes.{zeroes, most4}
use Rattle.page.specs.Page.{root, base, leaf, first_base, last_base, first_leaf, last_leaf, entry, spare, entries}
use Rattle.page.specs.Pages.{page, pages}
use Rattle.page.specs.Each.{Each}
use Rattle.page.proofs.Made.{spare_of}
use Rattle.page.proofs.Region.{root-shaped}
use Rattle.tree.specs.Tree.{all_records}
use Rattle.tree.proofs.Groups.{to-entry}
use Rattle.saving.specs.Save.{with_record, sheet}
use Rattle.tidy.specs.Tidy.{Sound, Tidy}
use Rattle.tidy.proofs.Model.{Entry, upd, state, Tree, contents}
use Rattle.tidy.proofs.Entries.{ents}
use Rattle.tidy.proofs.Pages.{leaf_of, base_of, root_of, root-form, sound-page}
use Rattle.tidy.proofs.Formed.{state_of, records-of}
use Rattle.tidy.proofs.Known as Known
use Rattle.saved.specs.Saved.{RowOf, Saves}
use Rattle.saved.proofs.Grown.{first-tree, first-contents}
use Rattle.saved.proofs.Marked.{Holds, ent-entry, row-entry, To}
use Rattle.saved.proofs.Lay.{Lays, lay-none, lay-leaf, lay-base, lay-root}
use Rattle.saved.proofs.Saves.{Free, saves-rising}

module _ (w : List ℕ) (tidy : Tidy w) (r : List ℕ) (row : RowOf leaf r) (n : ℕ) (small : n ≤ most4) (no-root : entries (page 0 w) ≡ []) (q : ℕ)
    (free : Free q w) where
  abbrev sound : Sound w
  sound = Known.sound w tidy

  -- the tree has no record yet
  no_top : root_of w ≡ []
  no_top = ap ents no-root

  bare : Tree [] (state (leaf_of w) (base_of w))
  bare = rw no_top at (Known.tree w tidy)

  no-records : all_records (pages w) ≡ []
  no-records = records-of w sound ∙ ap (λ (t : List Entry). contents t (state_of w)) no_top

  -- the root's entry and the base page's
  abbrev e : List ℕ
  e = entry 0 first_base

  abbrev x : List ℕ
  x = entry 0 q

  q-small : q < 65536
  q-small = omega (arith, free.leafy)

  e-is : ents (e ∷ []) ≡ record { key = 0; page = first_base } ∷ []
  e-is = ap (λ (z : Entry). z ∷ []) (ent-entry 0 first_base (omega arith) (omega arith))

  x-is : ents (x ∷ []) ≡ record { key = 0; page = q } ∷ []
  x-is = ap (λ (z : Entry). z ∷ []) (ent-entry 0 q (omega arith) q-small)

  e-holds : Holds root (e ∷ [])
  e-holds =
      record {
        each = Each.cons (row-entry 0 first_base (omega arith) (omega arith)) Each.nil;
        order = (omega arith, tt);
        enough = omega arith;
        room = omega arith;
      }

  x-holds : Holds base (x ∷ [])
  x-holds = record { each = Each.cons (row-entry 0 q (omega arith) q-small) Each.nil; order = (omega arith, tt); enough = omega arith; room = omega arith }

  r-holds : Holds leaf (r ∷ [])
  r-holds = record { each = Each.cons row Each.nil; order = (omega arith, tt); enough = omega arith; room = omega arith }

  e-to : To first_base last_base (e ∷ [])
  e-to = Each.cons {r = e} (rw (to-entry 0 first_base (omega arith)) (omega arith, omega arith)) Each.nil

  x-to : To first_leaf last_leaf (x ∷ [])
  x-to = Each.cons {r = x} (rw (to-entry 0 q q-small) free.leafy) Each.nil

  abbrev sr : List ℕ
  sr = spare (page 0 w)

  sr-zero : sr ≡ zeroes 8
  sr-zero = spare_of root (page 0 w) (root-shaped (page 0 w) (root-form (page 0 w) (sound-page 0 w sound (omega arith))))

  lays : Lays n (sheet 0 root.sign sr (e ∷ []) ∷ sheet first_base base.sign (zeroes 8) (x ∷ []) ∷ sheet q leaf.sign (zeroes 8) (r ∷ []) ∷ []) w
      (record { key = 0; page = first_base } ∷ []) (upd (leaf_of w) q (r ∷ [])) (upd (base_of w) first_base (record { key = 0; page = q } ∷ []))
  lays =
      let s1 = lay-leaf n small w (lay-none n w [] sound no_top) q tt (zeroes 8) (r ∷ []) free.leafy refl r-holds in
      let s2 = lay-base n small w s1 first_base (λ c. omega (arith, free.leafy, c), tt) (zeroes 8) (x ∷ []) (omega arith, omega arith) refl x-holds x-to in
      rw (e-is, x-is) at
      (lay-root n small w s2 (λ c. omega (arith, c), (λ c. omega (arith, free.leafy, c), tt)) sr (e ∷ []) sr-zero e-holds e-to)

  pub put_first_lem : Saves n
      (sheet 0 root.sign (spare (page 0 w)) (entry 0 first_base ∷ []) ∷ sheet first_base base.sign (zeroes 8) (entry 0 q ∷ [])
      ∷ sheet q leaf.sign (zeroes 8) (r ∷ []) ∷ []) w (with_record r (all_records (pages w)))
  put_first_lem =
      saves-rising n w tidy.whole (with_record r (all_records (pages w))) (record { key = 0; page = first_base } ∷ []) (upd (leaf_of w) q (r ∷ []))
      (upd (base_of w) first_base (record { key = 0; page = q } ∷ [])) (first-tree (leaf_of w) (base_of w) bare r q)
      (first-contents (leaf_of w) (base_of w) bare r q ∙ ap (with_record r) (sym no-records)) _
      (omega arith, omega arith, (omega arith, omega arith, (omega (arith, free.leafy), omega (arith, free.leafy), tt))) (omega arith) lays
