-- List's answers, each as a law for `search` over what the code has there. Assumes nothing.
use Prim.Native.Nat.{ℕ}
use mathlib.Core.Path.{◌≡◌, sym, ◌∙◌}
use mathlib.Core.Bool.{Bool, true, false, not}
use mathlib.Core.List.{List, [], ◌∷◌}
use lib.ListN.{length}
use borrow.Author.Tests.{not-true, not-false}
use Rattle.field.specs.Test.{pick}
use Rattle.field.specs.Bytes.{zeroes}
use Rattle.page.specs.Pages.{pages, all_formed}
use Rattle.logs.specs.Scan.{scanned}
use Rattle.logs.specs.declared.scan.Scan.{Scan}
use Rattle.tree.specs.Tree.{well_formed}
use Rattle.tree.specs.Answer.{in_bounds}
use Rattle.tree.specs.Reader.{Lists}
use Rattle.store.specs.Calls.{Lent, lent, Left, left, refused, list}
use Rattle.store.specs.Knows.{knows}
use Rattle.store.proofs.Chain.{two-no-work, two-no-log, two_sized_lem, list-unsized, list-unknown, list_open, list-unformed, list-unwell, list-lists}
use Rattle.store.proofs.Passed.{Knows, knows-yes, knows-no, is_open, is-shut}

-- what the code returns: reply, count, more, and the numbers
abbrev pub Says : (used forced v n : ℕ) (more : Bool) (u f : ℕ) (r c : ℕ) (m : Bool) → Type 0
Says used forced v n more u f r c m = (v ≡ r) × (n ≡ c) × (more ≡ m) × (u ≡ used) × (f ≡ forced)

module _ (used forced : ℕ) (work log out : List ℕ) (low high : ℕ) where
  abbrev d : Lent
  d = lent used forced work [] log out

  module _ (v n : ℕ) (more : Bool) (u f : ℕ) where
    abbrev got : List ℕ → Left
    got o = left v (n ∷ pick more 1 0 ∷ []) (lent u f work [] log o)

    refused_as : (r : ℕ) (y : Left) → y ≡ refused 2 r d → Says used forced v n more u f r 0 false → got out ≡ y
    unfolding refused pick zeroes
    refused_as r y e s = rw (s.0, s.1, s.2, s.3, s.4) (sym e)

    pub list-work! : Says used forced v n more u f 1 0 false → (length work ≡ 16384 → ⊥) → got out ≡ list low high d
    list-work! s a = refused_as 1 (list low high d) (list-unsized low high d (two-no-work d a)) s

    pub list-log! : Says used forced v n more u f 1 0 false → (length log ≡ 8192 → ⊥) → length work ≡ 16384 → got out ≡ list low high d
    list-log! s b a = refused_as 1 (list low high d) (list-unsized low high d (two-no-log d a b)) s

    module _ (t : Scan) (e : t ≡ scanned forced log) (x : Bool) (xe : x ≡ knows t used) (a : length work ≡ 16384) (b : length log ≡ 8192) where
      pub list-form! : Says used forced v n more u f 2 0 false → not x ≡ true → got out ≡ list low high d
      list-form! s k = refused_as 2 (list low high d) (list-unknown low high d (two_sized_lem d a b) (knows-no d t e (sym xe ∙ not-true x k))) s

      module _ (k : not x ≡ false) where
        g : Knows d t
        g = knows-yes d t e (sym xe ∙ not-false x k)

        pub list-busy! : Says used forced v n more u f 9 0 false → t.walk.opened ≡ true → got out ≡ list low high d
        list-busy! s o =
            let (w, i) = is_open d t g o in
            refused_as 9 (list low high d) (list_open low high d (two_sized_lem d a b) g.log g.is w i) s

        module _ (o : t.walk.opened ≡ false) (y : Bool) (ye : y ≡ all_formed 0 (pages work)) where
          pub list-pages! : Says used forced v n more u f 3 0 false → not y ≡ true → got out ≡ list low high d
          list-pages! s p =
              refused_as 3 (list low high d)
              (list-unformed low high d (two_sized_lem d a b) g.log g.is (is-shut d t g o) (sym ye ∙ not-true y p)) s

          module _ (p : not y ≡ false) (z : Bool) (ze : z ≡ well_formed (pages work)) where
            formed : all_formed 0 (pages work) ≡ true
            formed = sym ye ∙ not-false y p

            pub list-tree! : Says used forced v n more u f 8 0 false → not z ≡ true → got out ≡ list low high d
            list-tree! s q =
                refused_as 8 (list low high d)
                (list-unwell low high d (two_sized_lem d a b) g.log g.is (is-shut d t g o) formed (sym ze ∙ not-true z q)) s

            pub list-all! : (c : ℕ) (m : Bool) (o' : List ℕ) → Says used forced v n more u f 0 c m → not z ≡ false
                → Lists (in_bounds low high work) out o' c m → got o' ≡ list low high d
            list-all! c m o' s q l =
                rw (s.0, s.1, s.2, s.3, s.4, l.0, l.1, l.2)
                (sym (list-lists low high d (two_sized_lem d a b) g.log g.is (is-shut d t g o) formed (sym ze ∙ not-false z q)))
