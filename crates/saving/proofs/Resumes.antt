-- An open put or delete worked out anew: what it lacks begins with the next LG or is the LE alone, and once that LG is logged it lacks the
-- rest. Assumes nothing.
use Prim.Native.Nat.{ℕ, suc, ◌+◌, ◌-◌, ◌≤◌}
use native.Mathlib.Omega.{arith}
use mathlib.Core.Path.{◌≡◌, refl, sym, ap, ap₂, ◌∙◌}
use mathlib.Core.Bool.{Bool, true, false, false≢true}
use mathlib.Core.List.{List, [], ◌∷◌, ◌++◌, map}
use borrow.Author.Tests.{eq-eqb, eqb-true}
use lib.ListN.{length, drop, length-drop, length-map}
use Rattle.field.specs.Test.{need}
use Rattle.field.specs.Bytes.{most4}
use Rattle.field.proofs.Test.{all_head, all_tail, all-intro, all_nil, need-true}
use Rattle.field.proofs.Same.{same-eq, same_refl}
use Rattle.page.specs.Page.{number}
use Rattle.page.specs.Pages.{pages, all_formed}
use Rattle.page.proofs.Made.{number-made}
use Rattle.tree.specs.Tree.{well_formed}
use Rattle.logs.specs.Record.{Begin, Image, Rec, LG, LE}
use Rattle.saving.specs.Save.{Sheet, drawn, Changed, cannot, sheets}
use Rattle.saving.specs.Rest.{image_of, sheets_of, Rest, refuses, lacks, begins, logging, imaging, saving, resumed}

-- ---- images that bear a number

abbrev pub Bear : ℕ → List Image → Type 0
Bear n [] = Unit {0}
Bear n (i ∷ is) = (number i.bytes ≡ n) × Bear n is

pub bear-made : (n : ℕ) (xs : List Sheet) → n ≤ most4 → Bear n (map (image_of n) xs)
unfolding image_of drawn
bear-made n [] h = tt
bear-made n (x ∷ xs) h = (number-made x.sign n x.spare x.rows (omega arith), bear-made n xs h)

-- ---- the logged images are the first of those worked out

-- one more of them
begins-more : (n : ℕ) (is js : List Image) (k : Image) (ks : List Image) → Bear n js → begins n is js ≡ true → drop (length is) js ≡ k ∷ ks
    → (begins n (is ++ k ∷ []) js ≡ true) × (drop (length (is ++ k ∷ [])) js ≡ ks)
unfolding begins
begins-more n [] [] k ks b t e = let z : ◌≡◌ {A = ℕ} 0 1 = cc in absurd (omega arith)
begins-more n [] (j ∷ js) k ks b t e =
    let a : j ≡ k = cc in
    let c : js ≡ ks = cc in (
      rw (← a) (all-intro _ _ (eq-eqb j.at j.at refl)
          (all-intro _ _ (same_refl j.bytes) (all-intro _ _ (eq-eqb (number j.bytes) n b.0) (all-intro _ _ refl all_nil)))),
      c,
    )
begins-more n (i ∷ is) [] k ks b t e = let z : ◌≡◌ {A = ℕ} 0 1 = cc in absurd (omega arith)
begins-more n (i ∷ is) (j ∷ js) k ks b t e =
    let t1 = all_tail _ _ t in
    let t2 = all_tail _ _ t1 in
    let r = begins-more n is js k ks b.1 (all_head _ _ (all_tail _ _ t2)) e in
    (all-intro _ _ (all_head _ _ t) (all-intro _ _ (all_head _ _ t1) (all-intro _ _ (all_head _ _ t2) (all-intro _ _ r.0 all_nil))), r.1)

-- those behind them are the others
pub begins-split : (n : ℕ) (is js : List Image) → begins n is js ≡ true → js ≡ is ++ drop (length is) js
unfolding begins
begins-split n [] js e = refl
begins-split n (i ∷ is) [] e = absurd (false≢true e)
begins-split n (i ∷ is) (j ∷ js) e =
    let t = all_tail _ _ e in
    ap₂ (λ (x : Image) (y : List Image). x ∷ y) (sym (same-image i j (eqb-true _ _ (all_head _ _ e)) (same-eq _ _ (all_head _ _ t))))
    (begins-split n is js (all_head _ _ (all_tail _ _ (all_tail _ _ t))))
  where
    same-image : (i j : Image) → i.at ≡ j.at → i.bytes ≡ j.bytes → i ≡ j
    same-image i j p q = rw (p, q)

-- ---- what is lacked

-- an LG in front of an LE's unit: the image to be logged next
logging-first : (u : ℕ) (js ks : List Image) (k : Image) (rs : List Rec) → logging ks ++ (LE u js ∷ []) ≡ LG k ∷ rs
    → (ls : List Image) × (ks ≡ k ∷ ls) × (rs ≡ logging ls ++ (LE u js ∷ []))
unfolding logging
logging-first u js [] k rs e = let z : ◌≡◌ {A = ℕ} 0 1 = cc in absurd (omega arith)
logging-first u js (l ∷ ls) k rs e = let a : l ≡ k = cc in let b : rs ≡ logging ls ++ (LE u js ∷ []) = cc in (ls, ap (λ (x : Image). x ∷ ls) a, b)

pub lacks-same : (a b : List Rec) → lacks a ≡ lacks b → a ≡ b
lacks-same a b e = cc

pub refuses-not : (r : ℕ) (rs : List Rec) → refuses r ≡ lacks rs → ⊥
refuses-not r rs e = let z : ◌≡◌ {A = ℕ} 0 1 = cc in omega arith

pub need-lacks : (t : Bool) (r : ℕ) (y : Rest) (rs : List Rec) → need t (refuses r) y ≡ lacks rs → (t ≡ true) × (y ≡ lacks rs)
unfolding need
need-lacks true r y rs e = (refl, e)
need-lacks false r y rs e = absurd (refuses-not r rs e)

imaging-more : (u n : ℕ) (is js : List Image) (k : Image) (rs : List Rec) → Bear n js → imaging u n is js ≡ lacks (LG k ∷ rs)
    → imaging u n (is ++ k ∷ []) js ≡ lacks rs
unfolding imaging
imaging-more u n is js k rs b e =
    let x = need-lacks (begins n is js) 5 _ (LG k ∷ rs) e in
    let y = logging-first u js (drop (length is) js) k rs (lacks-same _ _ x.1) in
    let z = begins-more n is js k y.0 b x.0 y.1 in
    need-true (begins n (is ++ k ∷ []) js) (refuses 5) _ z.0 ∙ rw (z.1, ← y.2)

pub length-logging : (is : List Image) (rs : List Rec) → length (logging is ++ rs) ≡ length is + length rs
unfolding logging
length-logging [] rs = omega arith
length-logging (i ∷ is) rs = omega (arith, length-logging is rs)

-- LE's number fits, by test 7 for all that is lacked
end_fits : (u n m : ℕ) (is js : List Image) (k : Image) (rs : List Rec) → n + length is + suc (length rs) ≤ most4 → length js ≡ m → imaging u (n + m + 1) is js ≡ lacks (LG k ∷ rs)
    → n + m + 1 ≤ most4
unfolding imaging
end_fits u n m is js k rs h j e =
    let x = need-lacks (begins (n + m + 1) is js) 5 _ (LG k ∷ rs) e in
    let y = logging-first u js (drop (length is) js) k rs (lacks-same _ _ x.1) in
    let d : length (drop (length is) js) ≡ length js - length is = length-drop (length is) js in
    let c : length (drop (length is) js) ≡ suc (length y.0) = ap (λ (l : List Image). length l) y.1 in
    let r : length rs ≡ length y.0 + 1 = ap (λ (l : List Rec). length l) y.2 ∙ length-logging y.0 (LE u js ∷ []) in
    omega (arith, h, d, c, r, j)

-- the LG logged, the rest is lacked
saving-more : (g : Begin) (n : ℕ) (is : List Image) (c : Changed) (k : Image) (rs : List Rec) → n + length is + suc (length rs) ≤ most4 → saving g n is c ≡ lacks (LG k ∷ rs)
    → saving g n (is ++ k ∷ []) c ≡ lacks rs
unfolding saving
saving-more g n is (cannot r) k rs h e = absurd (refuses-not r (LG k ∷ rs) e)
saving-more g n is (sheets xs) k rs h e =
    let end : ℕ = n + length xs + 1 in
    let fits : end ≤ most4 = end_fits g.unit n (length xs) is (map (image_of end) xs) k rs h (length-map xs (image_of end)) e in
    imaging-more g.unit end is (map (image_of end) xs) k rs (bear-made end xs fits) e

pub resumed-more : (g : Begin) (n : ℕ) (is : List Image) (w : List ℕ) (k : Image) (rs : List Rec) → n + length is + suc (length rs) ≤ most4
    → resumed g n is w ≡ lacks (LG k ∷ rs) → resumed g n (is ++ k ∷ []) w ≡ lacks rs
unfolding resumed
resumed-more g n is w k rs h e =
    let a = need-lacks (all_formed 0 (pages w)) 3 _ (LG k ∷ rs) e in
    let b = need-lacks (well_formed (pages w)) 8 _ (LG k ∷ rs) a.1 in
    need-true _ (refuses 3) _ a.0 ∙ need-true _ (refuses 8) _ b.0 ∙ saving-more g n is (sheets_of g (pages w)) k rs h b.1
