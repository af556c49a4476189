-- The way down to a key's leaf, over the bytes: the root entry and the base entry whose ranges have the key, those before them and those behind
-- them, and all that is known of them on tidy pages. Assumes nothing.
use Prim.Native.Nat.{ℕ, ◌≤◌, ◌<◌}
use native.Mathlib.Omega.{arith}
use mathlib.Core.Path.{◌≡◌, refl, sym, ap, ◌∙◌}
use mathlib.Core.Logic.{⊎_elim}
use mathlib.Core.Bool.{true, false}
use mathlib.Core.List.{List, [], ◌∷◌, ◌++◌, map-append}
use borrow.Author.Tests.{lt-ltb, le-ltb}
use lib.ListN.{length, get_or}
use Rattle.field.proofs.Test.{pick_true, pick-false}
use Rattle.field.proofs.Part.{split}
use Rattle.page.specs.Page.{root, base, leaf, first_base, last_base, first_leaf, last_leaf, key_of, to_page, entries, records, is_root, is_base, is_leaf, is_empty}
use Rattle.page.specs.Pages.{page, pages}
use Rattle.page.specs.Places.{Basic, Leafy}
use Rattle.page.proofs.Pages.{get_or-pages, bytes-page}
use Rattle.page.proofs.Region.{base-place, leaf-place, root-fill, base-fill, leaf-fill, empty-none}
use Rattle.tree.specs.Tree.{lower, root_entries, all_records}
use Rattle.saving.specs.Save.{before, through, behind, base_for, leaf_for}
use Rattle.tidy.specs.Tidy.{Sound, Tidy}
use Rattle.tidy.proofs.Model.{Entry, full, first, state, entry_key, Tree, contents}
use Rattle.tidy.proofs.Entries.{ent, ents}
use Rattle.tidy.proofs.Pages.{sound-page, leaf_of, base_of, root_of, leaf-at, base-at, root-form}
use Rattle.tidy.proofs.Tests.{full-ents}
use Rattle.tidy.proofs.Below.{root-into, base-into}
use Rattle.tidy.proofs.Below as Below
use Rattle.tidy.proofs.Formed.{state_of, records-of}
use Rattle.tidy.proofs.Known as Known
use Rattle.saved.proofs.Refill.{own-full}
use Rattle.saved.proofs.Upper.{own-head, ahead, after, lower-is}
use Rattle.saved.proofs.Around.{Over}
use Rattle.saved.proofs.Marked.{Rows, page-rows, length-full, each-parts, To, pointing-each}

-- ---- entries before, at and behind the range that has the key

module _ (key : ℕ) where
  here-before : (e : List ℕ) (es : List (List ℕ)) → lower key es ≡ true → before key (e ∷ es) ≡ []
  unfolding before
  here-before e es t = pick_true (lower key es) [] (e ∷ before key es) t

  here-through : (e : List ℕ) (es : List (List ℕ)) → lower key es ≡ true → through key (e ∷ es) ≡ e
  unfolding through
  here-through e es t = pick_true (lower key es) e (through key es) t

  here-behind : (e : List ℕ) (es : List (List ℕ)) → lower key es ≡ true → behind key (e ∷ es) ≡ es
  unfolding behind
  here-behind e es t = pick_true (lower key es) es (behind key es) t

  later-before : (e : List ℕ) (es : List (List ℕ)) → lower key es ≡ false → before key (e ∷ es) ≡ e ∷ before key es
  unfolding before
  later-before e es t = pick-false (lower key es) [] (e ∷ before key es) t

  later-through : (e : List ℕ) (es : List (List ℕ)) → lower key es ≡ false → through key (e ∷ es) ≡ through key es
  unfolding through
  later-through e es t = pick-false (lower key es) e (through key es) t

  later-behind : (e : List ℕ) (es : List (List ℕ)) → lower key es ≡ false → behind key (e ∷ es) ≡ behind key es
  unfolding behind
  later-behind e es t = pick-false (lower key es) es (behind key es) t

  -- by the next entry's key
  last-lower : lower key [] ≡ true
  unfolding lower
  last-lower = refl

  next-lower : (f : List ℕ) (es : List (List ℕ)) → key < key_of f → lower key (f ∷ es) ≡ true
  unfolding lower
  next-lower f es h = lt-ltb key (key_of f) h

  next-not : (f : List ℕ) (es : List (List ℕ)) → key_of f ≤ key → lower key (f ∷ es) ≡ false
  unfolding lower
  next-not f es h = le-ltb key (key_of f) h

  -- the three are the entries; the key is below what stands behind, and not below the one whose range has it where it is not below the first
  record Parted (es : List (List ℕ)) : Type 0 where
    is : es ≡ before key es ++ through key es ∷ behind key es
    over : Over key (ents (behind key es))
    low : first (ents es) ≤ key → key_of (through key es) ≤ key

  parted-here : (e : List ℕ) (es : List (List ℕ)) → lower key es ≡ true → Over key (ents es) → Parted (e ∷ es)
  parted-here e es t o =
      record {
        is = rw (here-before e es t, here-through e es t, here-behind e es t);
        over = rw (here-behind e es t) o;
        low = λ h. rw (here-through e es t) h;
      }

  parted : (e : List ℕ) (es : List (List ℕ)) → Parted (e ∷ es)
  parted e [] = parted-here e [] last-lower tt
  parted e (f ∷ es) =
      let r : Parted (f ∷ es) = parted f es in
      split key (key_of f)
      (λ (h : key < key_of f). parted-here e (f ∷ es) (next-lower f es h) h)
      (λ (h : key_of f ≤ key). let t = next-not f es h in
      record {
        is = rw (later-before e (f ∷ es) t, later-through e (f ∷ es) t, later-behind e (f ∷ es) t) (ap (λ (l : List (List ℕ)). e ∷ l) r.is);
        over = rw (later-behind e (f ∷ es) t) r.over;
        low = λ g. rw (later-through e (f ∷ es) t) (r.low h);
      })

  parted-some : (es : List (List ℕ)) → 1 ≤ length es → Parted es
  parted-some [] h = absurd (omega arith)
  parted-some (e ∷ es) h = parted e es

-- ---- all that is known on the way

-- e is the root entry and x the base entry whose ranges have the key
pub record Way (w : List ℕ) (key : ℕ) : Type 0 where
  pub r1 : List (List ℕ)
  pub e : List ℕ
  pub r2 : List (List ℕ)
  pub b1 : List (List ℕ)
  pub x : List ℕ
  pub b2 : List (List ℕ)
  -- what the definitions find
  pub root-parts : (before key (root_entries (pages w)) ≡ r1) × (through key (root_entries (pages w)) ≡ e) × (behind key (root_entries (pages w)) ≡ r2)
  pub base-parts : (before key (entries (page (to_page e) w)) ≡ b1) × (through key (entries (page (to_page e) w)) ≡ x)
      × (behind key (entries (page (to_page e) w)) ≡ b2)
  pub base-named : base_for key (pages w) ≡ to_page e
  pub leaf-named : leaf_for key (pages w) ≡ to_page x
  -- in the pages
  pub in-root : entries (page 0 w) ≡ r1 ++ e ∷ r2
  pub in-base : entries (page (to_page e) w) ≡ b1 ++ x ∷ b2
  pub root_is : is_root (page 0 w) ≡ true
  pub base-is : is_base (page (to_page e) w) ≡ true
  pub leaf-is : is_leaf (page (to_page x) w) ≡ true
  pub root-rows : Rows root (r1 ++ e ∷ r2)
  pub base-rows : Rows base (b1 ++ x ∷ b2)
  pub leaf-rows : Rows leaf (records (page (to_page x) w))
  pub root-to : To first_base last_base (r1 ++ e ∷ r2)
  pub base-to : To first_leaf last_leaf (b1 ++ x ∷ b2)
  pub basic : Basic (to_page e)
  pub leafy : Leafy (to_page x)
  -- in the tree
  pub top-is : root_of w ≡ ents r1 ++ ent e ∷ ents r2
  pub tree : Tree (ents r1 ++ ent e ∷ ents r2) (state (leaf_of w) (base_of w))
  pub is : base_of w (to_page e) ≡ ents b1 ++ ent x ∷ ents b2
  pub leaf-recs : leaf_of w (to_page x) ≡ records (page (to_page x) w)
  pub low : key_of x ≤ key
  pub over-base : Over key (ents b2)
  pub over_root : Over key (ents r2)
  pub old : all_records (pages w) ≡ contents (ents r1 ++ ent e ∷ ents r2) (state (leaf_of w) (base_of w))

module _ (w : List ℕ) (tidy : Tidy w) (key : ℕ) (some-root : 1 ≤ length (entries (page 0 w))) where
  abbrev sound : Sound w
  sound = Known.sound w tidy

  abbrev tops : List (List ℕ)
  tops = entries (page 0 w)

  abbrev r1 : List (List ℕ)
  r1 = before key tops

  abbrev e : List ℕ
  e = through key tops

  abbrev r2 : List (List ℕ)
  r2 = behind key tops

  in-root : Parted key tops
  in-root = parted-some key tops some-root

  -- ---- the root

  root_is : is_root (page 0 w) ≡ true
  root_is = root-form (page 0 w) (sound-page 0 w sound (omega arith))

  root-to : To first_base last_base (r1 ++ e ∷ r2)
  root-to = rw in-root.is at (pointing-each first_base last_base tops (root-into w sound))

  top-is : root_of w ≡ ents r1 ++ ent e ∷ ents r2
  top-is = ap ents in-root.is ∙ map-append ent r1 (e ∷ r2)

  tree : Tree (ents r1 ++ ent e ∷ ents r2) (state (leaf_of w) (base_of w))
  tree = rw top-is at (Known.tree w tidy)

  abbrev b : ℕ
  b = to_page e

  basic : Basic b
  basic = (each-parts r1 e r2 root-to).1

  -- ---- the base page

  abbrev lows : List (List ℕ)
  lows = entries (page b w)

  base-ents : base_of w b ≡ ents lows
  base-ents = base-at w b basic.0 basic.1

  some-base : 1 ≤ length lows
  some-base =
      length-full lows (sym (full-ents lows) ∙ ap full (sym base-ents) ∙ own-full entry_key (base_of w) (ents r1) (ent e) (ents r2) tree.upper)

  base-is : is_base (page b w) ≡ true
  base-is =
      ⊎_elim
      (λ (h : is_empty (page b w) ≡ true). absurd (let z : length lows ≡ 0 = ap length (empty-none (page b w) 8 h) in omega (arith, some-base)))
      (λ (h : is_base (page b w) ≡ true). h)
      (base-place b (page b w) basic.0 basic.1 (sound-page b w sound (omega (arith, basic))))

  abbrev b1 : List (List ℕ)
  b1 = before key lows

  abbrev x : List ℕ
  x = through key lows

  abbrev b2 : List (List ℕ)
  b2 = behind key lows

  in-base : Parted key lows
  in-base = parted-some key lows some-base

  is : base_of w b ≡ ents b1 ++ ent x ∷ ents b2
  is = base-ents ∙ ap ents in-base.is ∙ map-append ent b1 (x ∷ b2)

  root-low : key_of e ≤ key
  root-low = in-root.low (omega (arith, (Known.tree w tidy).zero-first))

  low : key_of x ≤ key
  low =
      let h : first (ents lows) ≡ key_of e = ap first (sym base-ents) ∙ own-head (leaf_of w) (base_of w) (ents r1) (ent e) (ents r2) tree in
      in-base.low (omega (arith, root-low))

  base-to : To first_leaf last_leaf (b1 ++ x ∷ b2)
  base-to = rw in-base.is at (pointing-each first_leaf last_leaf lows (base-into w sound b basic.0 basic.1))

  -- ---- the leaf

  abbrev p : ℕ
  p = to_page x

  leafy : Leafy p
  leafy = (each-parts b1 x b2 base-to).1

  leaf-recs : leaf_of w p ≡ records (page p w)
  leaf-recs = leaf-at w p leafy.0

  some-leaf : full (records (page p w)) ≡ 1
  some-leaf =
      ap full (sym leaf-recs)
      ∙ own-full key_of (leaf_of w) (ahead (base_of w) (ents r1) (ents b1)) (ent x) (after (base_of w) (ents b2) (ents r2))
      (lower-is (leaf_of w) (base_of w) (ents r1) (ent e) (ents r2) tree (ents b1) (ent x) (ents b2) is)

  leaf-is : is_leaf (page p w) ≡ true
  leaf-is =
      ⊎_elim
      (λ (h : is_empty (page p w) ≡ true). absurd (let z : full (records (page p w)) ≡ 0 = ap full (empty-none (page p w) 16 h) in omega (arith, some-leaf)))
      (λ (h : is_leaf (page p w) ≡ true). h)
      (leaf-place p (page p w) leafy.0 (sound-page p w sound (omega (arith, leafy))))

  -- ---- the pages that the definitions name

  root-named : root_entries (pages w) ≡ tops
  root-named = Below.root_is w sound

  base-named : base_for key (pages w) ≡ b
  unfolding base_for
  base-named = ap (λ (l : List (List ℕ)). to_page (through key l)) root-named

  leaf-named : leaf_for key (pages w) ≡ p
  unfolding leaf_for
  leaf-named =
      ap (λ (n : ℕ). to_page (through key (entries (get_or (pages w) n [])))) base-named
      ∙ ap (λ (g : List ℕ). to_page (through key (entries g))) (get_or-pages b w (omega (arith, basic)))

  pub way : Way w key
  way =
      record {
        r1 = r1;
        e = e;
        r2 = r2;
        b1 = b1;
        x = x;
        b2 = b2;
        root-parts = (ap (before key) root-named, ap (through key) root-named, ap (behind key) root-named);
        base-parts = (refl, refl, refl);
        base-named = base-named;
        leaf-named = leaf-named;
        in-root = in-root.is;
        in-base = in-base.is;
        root_is = root_is;
        base-is = base-is;
        leaf-is = leaf-is;
        root-rows = rw in-root.is at (page-rows root (page 0 w) (root-fill (page 0 w) root_is) (bytes-page 0 w tidy.bytes));
        base-rows = rw in-base.is at (page-rows base (page b w) (base-fill (page b w) base-is) (bytes-page b w tidy.bytes));
        leaf-rows = page-rows leaf (page p w) (leaf-fill (page p w) leaf-is) (bytes-page p w tidy.bytes);
        root-to = root-to;
        base-to = base-to;
        basic = basic;
        leafy = leafy;
        top-is = top-is;
        tree = tree;
        is = is;
        leaf-recs = leaf-recs;
        low = low;
        over-base = in-base.over;
        over_root = in-root.over;
        old = records-of w sound ∙ ap (λ (t : List Entry). contents t (state_of w)) top-is;
      }
