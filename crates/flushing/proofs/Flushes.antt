-- Flush's answers, each as a law over what the code has there. Assumes nothing.
use Prim.Native.Nat.{ℕ, ◌≤◌, ◌<◌}
use mathlib.Core.Path.{◌≡◌, sym}
use mathlib.Core.Bool.{true, false}
use mathlib.Core.List.{List, []}
use lib.ListN.{length}
use Rattle.page.specs.Page.{number}
use Rattle.page.specs.Pages.{page, put_page}
use Rattle.logs.specs.Scan.{scanned}
use Rattle.logs.specs.declared.scan.Scan.{Scan}
use Rattle.store.specs.Calls.{Lent, lent, Left, left, flush}
use Rattle.store.specs.Knows.{knows}
use Rattle.store.proofs.Chain.{three-no-work, three-no-store, three-no-log, three-sized}
use Rattle.flushing.proofs.Ways.{flush-unsized, flush-unknown, flush-range, flush-ahead, flush-flushes}
use Rattle.store.proofs.Passed.{Knows, knows-yes, knows-no}
use Rattle.store.proofs.Replies.{refused_as}

module _ (used forced : ℕ) (work store log : List ℕ) (p : ℕ) where
  abbrev d : Lent
  d = lent used forced work store log []

  module _ (v u f : ℕ) where
    -- the code returns the reply r and the numbers that it was given
    abbrev Kept : (r : ℕ) → Type 0
    Kept r = (v ≡ r) × (u ≡ used) × (f ≡ forced)

    abbrev got : List ℕ → Left
    got s = left v [] (lent u f work s log [])

    pub flush-work : Kept 1 → (length work ≡ 16384 → ⊥) → got store ≡ flush p d
    flush-work s a = refused_as d 1 v u f (flush p d) (flush-unsized p d (three-no-work d a)) s

    pub flush-store : Kept 1 → length work ≡ 16384 → (length store ≡ 16384 → ⊥) → got store ≡ flush p d
    flush-store s a b = refused_as d 1 v u f (flush p d) (flush-unsized p d (three-no-store d a b)) s

    pub flush-log : Kept 1 → length work ≡ 16384 → length store ≡ 16384 → (length log ≡ 8192 → ⊥) → got store ≡ flush p d
    flush-log s a b c = refused_as d 1 v u f (flush p d) (flush-unsized p d (three-no-log d a b c)) s

    module _ (a : length work ≡ 16384) (b : length store ≡ 16384) (c : length log ≡ 8192) (t : Scan) (e : t ≡ scanned forced log) where
      pub flush-form : Kept 2 → knows t used ≡ false → got store ≡ flush p d
      flush-form s k = refused_as d 2 v u f (flush p d) (flush-unknown p d (three-sized d a b c) (knows-no d t e k)) s

      module _ (k : knows t used ≡ true) where
        pub flush-past : Kept 12 → 64 ≤ p → got store ≡ flush p d
        flush-past s h =
            let g : Knows d t = knows-yes d t e k in
            refused_as d 12 v u f (flush p d) (flush-range p d (three-sized d a b c) g.log g.is h) s

        module _ (h : p < 64) (n : ℕ) (i : n ≡ number (page p work)) where
          pub flush-early : Kept 13 → t.forced.0 < n → got store ≡ flush p d
          flush-early s q =
              let g : Knows d t = knows-yes d t e k in
              refused_as d 13 v u f (flush p d) (flush-ahead p d (three-sized d a b c) g.log g.is h t.forced.0 g.forced (rw i at q)) s

          pub flush-all : Kept 0 → n ≤ t.forced.0 → (s' : List ℕ) → s' ≡ put_page p (page p work) store → got s' ≡ flush p d
          flush-all s q s' o =
              let g : Knows d t = knows-yes d t e k in
              rw (s.0, s.1, s.2, o) (sym (flush-flushes p d (three-sized d a b c) g.log g.is h t.forced.0 g.forced (rw i at q)))
