-- Sheets laid in place, one after the other, and the tree that the pages show then: a leaf, a base page, the root, and a page that becomes
-- empty. Assumes nothing.
use Prim.Native.Nat.{ℕ, ◌≤◌, ◌<◌}
use native.Mathlib.Omega.{arith}
use mathlib.Core.Path.{◌≡◌, refl, sym, ap, ap₂, ◌∙◌}
use mathlib.Core.Logic.{◌≢◌, inl, ⊎_elim}
use mathlib.Core.Bool.{true}
use mathlib.Core.List.{List, [], ◌∷◌}
use lib.ListN.{length}
use Rattle.field.specs.Bytes.{Bytes, zeroes, most4}
use Rattle.field.proofs.Test.{both-intro}
use Rattle.field.proofs.Byte.{bytes-zeroes}
use Rattle.page.specs.Page.{Kind, root, base, leaf, empty, first_base, last_base, first_leaf, last_leaf, to_bases, entries, made, shaped, is_root}
use Rattle.page.specs.Pages.{put_page, pages}
use Rattle.page.specs.Places.{Basic, Leafy}
use Rattle.page.specs.Each.{Each}
use Rattle.page.proofs.Made.{Fit, fit-root, fit-base, fit-leaf, fit-empty, bytes-made}
use Rattle.page.proofs.Kept.{Changed, made-changed, changed-empty, changed-leaf, changed-base}
use Rattle.page.proofs.Region.{formed-0, empty-formed, base-formed, leaf-formed, empty-none}
use Rattle.tree.specs.Tree.{all_records}
use Rattle.saving.specs.Save.{Sheet, sheet, drawn}
use Rattle.tidy.specs.Tidy.{Sound, Tidy}
use Rattle.tidy.proofs.Model.{Entry, upd, State, state, Tree, contents}
use Rattle.tidy.proofs.Trail.{eq?}
use Rattle.tidy.proofs.Entries.{ents}
use Rattle.tidy.proofs.Pages.{leaf_of, base_of, root_of, sound-put, page-same, page-other, put-base-leaf, put-root, base-not}
use Rattle.tidy.proofs.Shown.{Shows, shows-leaf, shows-base}
use Rattle.tidy.proofs.Formed.{state_of, records-of, from-tree, shown-state}
use Rattle.saved.specs.Saved.{laid, Spares}
use Rattle.saved.proofs.Marked.{Holds, holds-fill, holds-bytes, To, each-pointing}
use Rattle.saved.proofs.Numbered.{Placed}

-- ---- what is laid shows a tree

-- the sheets xs over the pages w show the root entries top, the leaves l and the base pages b
pub record Lays (n : ℕ) (xs : List Sheet) (w : List ℕ) (top : List Entry) (l : ℕ → List (List ℕ)) (b : ℕ → List Entry) : Type 0 where
  pub placed : Placed n xs
  pub shows : Shows (laid n xs w) (state l b)
  pub root : root_of (laid n xs w) ≡ top

-- no sheet
pub lay-none : (n : ℕ) (w : List ℕ) (top : List Entry) → Sound w → root_of w ≡ top → Lays n [] w top (leaf_of w) (base_of w)
unfolding laid
lay-none n w top s e = record { placed = tt; shows = record { sound = s; leaves = λ p. refl; bases = λ p. refl }; root = e }

-- where that tree is well formed, the pages are tidy and have its records
module _ (n : ℕ) (w : List ℕ) {xs : List Sheet} {top : List Entry} {l : ℕ → List (List ℕ)} {b : ℕ → List Entry} (s : Lays n xs w top l b) where
  same-state : state l b ≡ state_of (laid n xs w)
  same-state = shown-state (laid n xs w) (state l b) s.shows

  pub lays-tidy : Tree top (state l b) → Tidy (laid n xs w)
  lays-tidy t =
      record {
        whole = s.shows.sound.whole;
        bytes = s.shows.sound.bytes;
        form = s.shows.sound.form;
        tree = from-tree (laid n xs w) s.shows.sound (rw (s.root, ← same-state) t);
      }

  pub lays-records : all_records (pages (laid n xs w)) ≡ contents top (state l b)
  lays-records =
      records-of (laid n xs w) s.shows.sound ∙ ap₂ (λ (r : List Entry) (z : State). contents r z) s.root (sym same-state)

-- ---- one sheet more

root_is : (pg : List ℕ) → shaped root pg ≡ true → to_bases (entries pg) ≡ true → is_root pg ≡ true
unfolding is_root
root_is pg a c = both-intro _ _ a c

no_rows : Holds empty []
no_rows = record { each = Each.nil; order = tt; enough = omega arith; room = omega arith }

module _ (n : ℕ) (small : n ≤ most4) (w : List ℕ) {xs : List Sheet} {top : List Entry} {l : ℕ → List (List ℕ)} {b : ℕ → List Entry}
    (s : Lays n xs w top l b) where
  abbrev v : List ℕ
  v = laid n xs w

  abbrev sound : Sound v
  sound = s.shows.sound

  -- the page that is made, of any kind
  drawn-page : (k : Kind) → Fit k → k.sign < 256 → (sp : List ℕ) (rs : List (List ℕ)) → sp ≡ zeroes 8 → Holds k rs
      → Changed k n rs (made k.sign n sp rs) × Bytes (made k.sign n sp rs)
  drawn-page k fit c sp rs z h = (
    made-changed k n sp rs fit (omega arith) z (holds-fill k rs h),
    bytes-made k.sign n sp rs c (rw z (bytes-zeroes 8)) (holds-bytes k rs h),
  )

  -- the root's entries, under any other page
  same-root : (p : ℕ) (pg : List ℕ) → 1 ≤ p → p < 64 → length pg ≡ 256 → root_of (put_page p pg v) ≡ top
  same-root p pg h k e = ap (λ (g : List ℕ). ents (entries g)) (put-root p pg v sound k e h) ∙ s.root

  module _ (p : ℕ) (free : Spares p xs) where
    -- a leaf
    pub lay-leaf : (sp : List ℕ) (rs : List (List ℕ)) → Leafy p → sp ≡ zeroes 8 → Holds leaf rs
        → Lays n (sheet p leaf.sign sp rs ∷ xs) w top (upd l p rs) b
    unfolding laid drawn
    lay-leaf sp rs h z f =
        let pg : List ℕ = made leaf.sign n sp rs in
        let c = drawn-page leaf fit-leaf (omega arith) sp rs z f in
        record {
          placed = (omega (arith, h), c.0.whole, free, s.placed);
          shows = shows-leaf v l b s.shows p pg c.0.whole c.1 h (leaf-formed p pg h.0 (changed-leaf n rs pg c.0)) rs c.0.holds;
          root = same-root p pg (omega (arith, h)) (omega (arith, h)) c.0.whole;
        }

    -- a base page
    pub lay-base : (sp : List ℕ) (es : List (List ℕ)) → Basic p → sp ≡ zeroes 8 → Holds base es → To first_leaf last_leaf es
        → Lays n (sheet p base.sign sp es ∷ xs) w top l (upd b p (ents es))
    unfolding laid drawn
    lay-base sp es h z f t =
        let pg : List ℕ = made base.sign n sp es in
        let c = drawn-page base fit-base (omega arith) sp es z f in
        record {
          placed = (omega (arith, h), c.0.whole, free, s.placed);
          shows = shows-base v l b s.shows p pg c.0.whole c.1 h
              (base-formed p pg h.0 h.1 (changed-base n es pg c.0 (each-pointing first_leaf last_leaf es t))) (ents es) (ap ents c.0.holds);
          root = same-root p pg h.0 (omega (arith, h)) c.0.whole;
        }

    -- a leaf page that becomes empty
    pub lay-gone-leaf : Leafy p → Lays n (sheet p empty.sign (zeroes 8) [] ∷ xs) w top (upd l p []) b
    unfolding laid drawn
    lay-gone-leaf h =
        let pg : List ℕ = made empty.sign n (zeroes 8) [] in
        let c = drawn-page empty fit-empty (omega arith) (zeroes 8) [] refl no_rows in
        record {
          placed = (omega (arith, h), c.0.whole, free, s.placed);
          shows = shows-leaf v l b s.shows p pg c.0.whole c.1 h (empty-formed p pg (omega (arith, h)) (changed-empty n [] pg c.0)) []
              c.0.holds;
          root = same-root p pg (omega (arith, h)) (omega (arith, h)) c.0.whole;
        }

    -- a base page that becomes empty
    pub lay-gone-base : Basic p → Lays n (sheet p empty.sign (zeroes 8) [] ∷ xs) w top l (upd b p [])
    unfolding laid drawn
    lay-gone-base h =
        let pg : List ℕ = made empty.sign n (zeroes 8) [] in
        let c = drawn-page empty fit-empty (omega arith) (zeroes 8) [] refl no_rows in
        let e = changed-empty n [] pg c.0 in
        record {
          placed = (omega (arith, h), c.0.whole, free, s.placed);
          shows = shows-base v l b s.shows p pg c.0.whole c.1 h (empty-formed p pg h.0 e) [] (ap ents (empty-none pg 8 e));
          root = same-root p pg h.0 (omega (arith, h)) c.0.whole;
        }

  -- the root
  pub lay-root : Spares 0 xs → (sp : List ℕ) (es : List (List ℕ)) → sp ≡ zeroes 8 → Holds root es → To first_base last_base es
      → Lays n (sheet 0 root.sign sp es ∷ xs) w (ents es) l b
  unfolding laid drawn
  lay-root free sp es z f t =
      let pg : List ℕ = made root.sign n sp es in
      let c = drawn-page root fit-root (omega arith) sp es z f in
      let e : 0 < 64 = omega arith in
      record {
        placed = (e, c.0.whole, free, s.placed);
        shows = record {
          sound = sound-put 0 pg v sound e c.0.whole c.1
              (formed-0 pg ∙ root_is pg c.0.form (rw c.0.holds (each-pointing first_base last_base es t)));
          leaves = λ q. s.shows.leaves q ∙ put-base-leaf 0 pg v sound e c.0.whole (omega arith) q;
          bases = λ q. s.shows.bases q ∙ bases-stay pg e c.0.whole q;
        };
        root = ap (λ (g : List ℕ). ents (entries g)) (page-same 0 pg v sound e c.0.whole) ∙ ap ents c.0.holds;
      }
    where
      bases-stay : (pg : List ℕ) → 0 < 64 → length pg ≡ 256 → (q : ℕ) → base_of v q ≡ base_of (put_page 0 pg v) q
      bases-stay pg e whole q =
          ⊎_elim
          (λ (z : q ≡ 0). base-not v q (inl z) ∙ sym (base-not (put_page 0 pg v) q (inl z)))
          (λ (d : q ≢ 0). rw (page-other 0 pg v sound e whole q d))
          (eq? q 0)
