-- Tests 1 and 2 of a call that is lent work and log, as laws over what the code has there. Assumes nothing.
use Prim.Native.Nat.{ℕ, ◌≤◌}
use native.Mathlib.Omega.{arith}
use mathlib.Core.Path.{◌≡◌, ap, ◌∙◌}
use mathlib.Core.Bool.{true, false}
use mathlib.Core.List.{List, []}
use mathlib.Core.Option.{some}
use lib.ListN.{length}
use Rattle.field.specs.Test.{need, given}
use Rattle.field.proofs.Test.{bind-some, when-some, need-true, need-false, given-some, given-none}
use Rattle.logs.specs.Log.{Log, read_log, at_end}
use Rattle.logs.specs.Scan.{scanned}
use Rattle.logs.specs.declared.scan.Scan.{Scan}
use Rattle.logs.proofs.Read.{read_log-facts}
use Rattle.store.specs.Calls.{Lent, lent, Left, left, refused, two_sized, known}
use Rattle.store.specs.Knows.{knows}
use Rattle.store.proofs.Chain.{two-no-work, two-no-log, two_sized_lem}
use Rattle.store.proofs.Passed.{Knows, knows-yes, knows-no}
use Rattle.store.proofs.Ending.{end-at}
use Rattle.store.proofs.Replies.{refused_as}

-- a log that test 2 finds ends within the log's bytes
end-inside : (d : Lent) (g : Log) → known d ≡ some g → (at_end g).at ≤ length d.log
unfolding known
end-inside d g e =
    let b = bind-some (read_log d.log) _ g e in
    let r : b.from ≡ g = (when-some _ b.from g b.gives).1 in
    (read_log-facts d.log g (b.was ∙ ap some r)).short

module _ (used forced : ℕ) (work log bytes : List ℕ) where
  abbrev d : Lent
  d = lent used forced work [] log bytes

  -- the code returns the reply r and the numbers that it was given
  abbrev pub Kept : (v u f r : ℕ) → Type 0
  Kept v u f r = (v ≡ r) × (u ≡ used) × (f ≡ forced)

  abbrev pub got : (v u f : ℕ) → Left
  got v u f = left v [] (lent u f work [] log bytes)

  module _ (call : Left) (body : Log → Left) (is : call ≡ need (two_sized d) (refused 0 1 d) (given (known d) (refused 0 2 d) body)) where
    pub begin-work : (v u f : ℕ) → Kept v u f 1 → (length work ≡ 16384 → ⊥) → got v u f ≡ call
    begin-work v u f q a = refused_as d 1 v u f call (is ∙ need-false (two_sized d) (refused 0 1 d) _ (two-no-work d a)) q

    pub begin-log : (v u f : ℕ) → Kept v u f 1 → length work ≡ 16384 → (length log ≡ 8192 → ⊥) → got v u f ≡ call
    begin-log v u f q a b = refused_as d 1 v u f call (is ∙ need-false (two_sized d) (refused 0 1 d) _ (two-no-log d a b)) q

    module _ (a : length work ≡ 16384) (b : length log ≡ 8192) (t : Scan) (e : t ≡ scanned forced log) where
      pub begin-form : (v u f : ℕ) → Kept v u f 2 → knows t used ≡ false → got v u f ≡ call
      begin-form v u f q k =
          refused_as d 2 v u f call
          (is ∙ need-true (two_sized d) (refused 0 1 d) _ (two_sized_lem d a b) ∙ given-none (known d) (refused 0 2 d) body (knows-no d t e k)) q

      pub begin-past : (k : knows t used ≡ true) → call ≡ body (knows-yes d t e k).log
      begin-past k =
          is ∙ need-true (two_sized d) (refused 0 1 d) _ (two_sized_lem d a b)
          ∙ given-some (known d) (knows-yes d t e k).log (refused 0 2 d) body (knows-yes d t e k).is

  pub begin-inside : (b : length log ≡ 8192) (t : Scan) (e : t ≡ scanned forced log) (k : knows t used ≡ true) → t.walk.at ≤ 8192
  begin-inside b t e k =
      let g : Knows d t = knows-yes d t e k in
      let i : t.walk.at ≡ (at_end g.log).at = end-at d t g in
      omega (arith, end-inside d g.log g.is)
