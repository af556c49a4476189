-- Checkpoint's answers, each as a law over what the code has there. Assumes nothing.
use Prim.Native.Nat.{ℕ, ◌+◌, ◌≤◌, ◌<◌}
use mathlib.Core.Path.{◌≡◌, sym}
use mathlib.Core.Bool.{Bool, true, false}
use mathlib.Core.List.{List, []}
use lib.ListN.{length}
use native.Mathlib.Omega.{arith}
use Rattle.field.specs.Test.{pick}
use Rattle.field.specs.Bytes.{same, most4}
use Rattle.logs.specs.Log.{at_end}
use Rattle.logs.specs.Scan.{scanned}
use Rattle.logs.specs.Write.{check_of}
use Rattle.logs.specs.declared.scan.Scan.{Scan}
use Rattle.store.specs.Calls.{Lent, lent, Left, left, new_log, checkpointed, checkpoint}
use Rattle.store.specs.Knows.{knows}
use Rattle.store.proofs.Chain.{three-no-work, three-no-store, three-no-log, three-sized}
use Rattle.checkpointing.proofs.Ways.{checkpoint-unsized, checkpoint-unknown, checkpoint-open, checkpoint-differs, checkpoint-last, checkpoint-done}
use Rattle.store.proofs.Passed.{Knows, knows-yes, knows-no, is_open, is-shut}
use Rattle.store.proofs.Ending.{end-number, end-unit, end-cleared}
use Rattle.store.proofs.Replies.{refused_as}

module _ (used forced : ℕ) (work store log : List ℕ) (clear : Bool) where
  abbrev d : Lent
  d = lent used forced work store log []

  module _ (v u f : ℕ) where
    -- the code returns the reply r and the numbers that it was given
    abbrev Kept : (r : ℕ) → Type 0
    Kept r = (v ≡ r) × (u ≡ used) × (f ≡ forced)

    abbrev got : Left
    got = left v [] (lent u f work store log [])

    pub checkpoint-work : Kept 1 → (length work ≡ 16384 → ⊥) → got ≡ checkpoint clear d
    checkpoint-work s a = refused_as d 1 v u f (checkpoint clear d) (checkpoint-unsized clear d (three-no-work d a)) s

    pub checkpoint-store : Kept 1 → length work ≡ 16384 → (length store ≡ 16384 → ⊥) → got ≡ checkpoint clear d
    checkpoint-store s a b = refused_as d 1 v u f (checkpoint clear d) (checkpoint-unsized clear d (three-no-store d a b)) s

    pub checkpoint-log : Kept 1 → length work ≡ 16384 → length store ≡ 16384 → (length log ≡ 8192 → ⊥) → got ≡ checkpoint clear d
    checkpoint-log s a b c = refused_as d 1 v u f (checkpoint clear d) (checkpoint-unsized clear d (three-no-log d a b c)) s

  module _ (a : length work ≡ 16384) (b : length store ≡ 16384) (c : length log ≡ 8192) (t : Scan) (e : t ≡ scanned forced log) where
    pub checkpoint-form : (v u f : ℕ) → Kept v u f 2 → knows t used ≡ false → got v u f ≡ checkpoint clear d
    checkpoint-form v u f s k =
        refused_as d 2 v u f (checkpoint clear d) (checkpoint-unknown clear d (three-sized d a b c) (knows-no d t e k)) s

    module _ (k : knows t used ≡ true) where
      pub checkpoint-busy : (v u f : ℕ) → Kept v u f 9 → t.walk.opened ≡ true → got v u f ≡ checkpoint clear d
      checkpoint-busy v u f s o =
          let g : Knows d t = knows-yes d t e k in
          let (w, i) = is_open d t g o in
          refused_as d 9 v u f (checkpoint clear d) (checkpoint-open clear d (three-sized d a b c) g.log g.is w i) s

      module _ (o : t.walk.opened ≡ false) where
        pub checkpoint-other : (v u f : ℕ) → Kept v u f 14 → same work store ≡ false → got v u f ≡ checkpoint clear d
        checkpoint-other v u f s q =
            let g : Knows d t = knows-yes d t e k in
            refused_as d 14 v u f (checkpoint clear d) (checkpoint-differs clear d (three-sized d a b c) g.log g.is (is-shut d t g o) q) s

        module _ (q : same work store ≡ true) where
          pub checkpoint-most : (v u f : ℕ) → Kept v u f 7 → 4294967295 ≤ t.walk.number.0 → got v u f ≡ checkpoint clear d
          checkpoint-most v u f s h =
              let g : Knows d t = knows-yes d t e k in
              let m : t.walk.number.0 ≡ (at_end g.log).number = end-number d t g in
              let n : most4 < (at_end g.log).number + 1 = omega arith in
              refused_as d 7 v u f (checkpoint clear d) (checkpoint-last clear d (three-sized d a b c) g.log g.is (is-shut d t g o) q n) s

          -- the check record that the code writes is the one meant
          check-is : (g : Knows d t) → check_of (t.walk.number.0 + 1) t.walk.unit.0 (pick clear false t.walk.known) t.walk.lk ≡ checkpointed clear (at_end g.log)
          unfolding check_of checkpointed
          check-is g = rw (end-number d t g, end-unit d t g, end-cleared d t g clear)

          pub checkpoint-all : t.walk.number.0 < 4294967295 → (there : Bool) → there ≡ pick clear false t.walk.known
              → (l : List ℕ) → l ≡ new_log (check_of (t.walk.number.0 + 1) t.walk.unit.0 there t.walk.lk)
              → left 0 [] (lent 24 24 work store l []) ≡ checkpoint clear d
          checkpoint-all h there i l j =
              let g : Knows d t = knows-yes d t e k in
              let m : t.walk.number.0 ≡ (at_end g.log).number = end-number d t g in
              let n : (at_end g.log).number + 1 ≤ most4 = omega arith in
              rw (j, i, check-is g) (sym (checkpoint-done clear d (three-sized d a b c) g.log g.is (is-shut d t g o) q n))
