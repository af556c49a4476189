-- A page in form is the page made of its letter, number, spare bytes and rows; and a page that is made of rows in order is in form.
-- Each law over the row size or the kind, once. Assumes nothing.
use Prim.Native.Nat.{ℕ, ◌+◌, ◌-◌, ◌*◌, ◌≤◌, ◌<◌}
use native.Mathlib.Nat.{mul-le-mul_left}
use native.Mathlib.Omega.{arith}
use mathlib.Core.Path.{◌≡◌, refl, sym, ap, ap₂, ◌∙◌}
use mathlib.Core.Bool.{true}
use mathlib.Core.List.{List, ◌∷◌, ◌++◌}
use lib.ListN.{length, drop, get_or, length-append, length-drop}
use lib.Seq.{drop-drop, drop_at}
use borrow.Author.Tests.{eqb-true, leb-true, eq-eqb, le-leb}
use Rattle.field.specs.Bytes.{part, zeroes, all_zero, Bytes, bytes2, bytes4}
use Rattle.field.proofs.Test.{all_head, all_tail, all_nil, all-intro}
use Rattle.field.proofs.Part.{length_part, part-drop, part-front, drop_past}
use Rattle.field.proofs.Number.{le2-drop, le4-drop, le2-bytes2, le4-bytes4}
use Rattle.field.proofs.Zero.{length-zeroes, zeroes-of, all-zeroes}
use Rattle.field.proofs.Byte.{bytes-cons, bytes-append, bytes-bytes2, bytes-bytes4, bytes-zeroes}
use Rattle.page.specs.Page.{Kind, root, base, leaf, empty, joined, ascend, letter, count, number, spare, rows, made, shaped}
use Rattle.page.specs.Each.{Each, Long}
use Rattle.page.proofs.Rows.{length-rows, length-joined, rows_of-joined, bytes-joined}
use Rattle.page.proofs.Written.{topped, made-topped, topped-is, body_of}

-- ---- what stands in a page that was made

pub letter-made : (c n : ℕ) (sp : List ℕ) (rs : List (List ℕ)) → letter (made c n sp rs) ≡ c
unfolding letter made
letter-made c n sp rs = refl

pub count-made : (c n : ℕ) (sp : List ℕ) (rs : List (List ℕ)) → length rs < 65536 → count (made c n sp rs) ≡ length rs
unfolding count made
count-made c n sp rs h =
    sym (le2-drop 2 0 (made c n sp rs)) ∙ le2-bytes2 (length rs) (bytes4 n ++ (sp ++ (joined rs ++ zeroes (240 - length (joined rs))))) h

pub number-made : (c n : ℕ) (sp : List ℕ) (rs : List (List ℕ)) → n < 4294967296 → number (made c n sp rs) ≡ n
unfolding number made bytes2
number-made c n sp rs h =
    sym (le4-drop 4 0 (made c n sp rs)) ∙ le4-bytes4 n (sp ++ (joined rs ++ zeroes (240 - length (joined rs)))) h

from-spare : (c n : ℕ) (sp : List ℕ) (rs : List (List ℕ)) → drop 8 (made c n sp rs) ≡ sp ++ (joined rs ++ zeroes (240 - length (joined rs)))
unfolding made bytes2 bytes4
from-spare c n sp rs = refl

module _ (c n : ℕ) (sp : List ℕ) (rs : List (List ℕ)) (eight : length sp ≡ 8) where
  pub spare_made : spare (made c n sp rs) ≡ sp
  unfolding spare
  spare_made =
      sym (part-drop 8 0 8 (made c n sp rs))
      ∙ rw (from-spare c n sp rs) (part-front sp (joined rs ++ zeroes (240 - length (joined rs))) 8 eight)

  pub body-made : (o : ℕ) → drop (16 + o) (made c n sp rs) ≡ drop o (joined rs ++ zeroes (240 - length (joined rs)))
  body-made o =
      let e : 16 + o ≡ 8 + (8 + o) = omega arith in
      rw (e, ← drop-drop (8 + o) 8 (made c n sp rs), from-spare c n sp rs) (drop_past sp (joined rs ++ zeroes (240 - length (joined rs))) 8 o eight)

  pub length-made : length (joined rs) ≤ 240 → length (made c n sp rs) ≡ 256
  unfolding made bytes2 bytes4
  length-made h =
      rw (
        length-append sp (joined rs ++ zeroes (240 - length (joined rs))),
        length-append (joined rs) (zeroes (240 - length (joined rs))),
        length-zeroes
            (240 - length (joined rs)),
      )
      (omega arith)

  pub rows_made : (sz : ℕ) → Each (Long sz) rs → length rs < 65536 → rows sz (made c n sp rs) ≡ rs
  unfolding rows
  rows_made sz p h =
      rw (count-made c n sp rs h, body-made 0) (rows_of-joined sz rs (zeroes (240 - length (joined rs))) p)

pub bytes-made : (c n : ℕ) (sp : List ℕ) (rs : List (List ℕ)) → c < 256 → Bytes sp → Each Bytes rs → Bytes (made c n sp rs)
unfolding made
bytes-made c n sp rs h b p =
    let z : ℕ = 240 - length (joined rs) in
    let body : Bytes (joined rs ++ zeroes z) = bytes-append (joined rs) (zeroes z) (bytes-joined rs p) (bytes-zeroes z) in
    let low : Bytes (bytes4 n ++ (sp ++ (joined rs ++ zeroes z))) =
    bytes-append (bytes4 n) (sp ++ (joined rs ++ zeroes z)) (bytes-bytes4 n) (bytes-append sp (joined rs ++ zeroes z) b body) in
    let head : Bytes (bytes2 (length rs) ++ (bytes4 n ++ (sp ++ (joined rs ++ zeroes z)))) =
    bytes-append (bytes2 (length rs)) (bytes4 n ++ (sp ++ (joined rs ++ zeroes z))) (bytes-bytes2 (length rs)) low in
    let big : 112 < 256 = omega arith in
    bytes-cons 112 (c ∷ (bytes2 (length rs) ++ (bytes4 n ++ (sp ++ (joined rs ++ zeroes z))))) big
    (bytes-cons c (bytes2 (length rs) ++ (bytes4 n ++ (sp ++ (joined rs ++ zeroes z)))) h head)

-- ---- what `shaped` tests, as facts

pub record Shaped (k : Kind) (pg : List ℕ) : Type 0 where
  pub whole : length pg ≡ 256
  pub mark : get_or pg 0 0 ≡ 112
  pub lettered : letter pg ≡ k.sign
  pub enough : k.least ≤ count pg
  pub room : count pg ≤ k.most
  pub gap : spare pg ≡ zeroes 8
  pub order : ascend k.first k.second 0 (rows k.size pg) ≡ true
  pub rest : drop (16 + k.size * count pg) pg ≡ zeroes (240 - k.size * count pg)

pub shaped-facts : (k : Kind) (pg : List ℕ) → shaped k pg ≡ true → Shaped k pg
unfolding shaped spare
shaped-facts k pg e =
    let at : ℕ = 16 + k.size * count pg in
    let e1 = all_tail _ _ e in
    let e2 = all_tail _ _ e1 in
    let e3 = all_tail _ _ e2 in
    let e4 = all_tail _ _ e3 in
    let e5 = all_tail _ _ e4 in
    let e6 = all_tail _ _ e5 in
    let e7 = all_tail _ _ e6 in
    let long : length pg ≡ 256 = eqb-true (length pg) 256 (all_head _ _ e) in
    let left : length (drop at pg) ≡ 240 - k.size * count pg =
    length-drop at pg ∙ (let q : length pg - at ≡ 240 - k.size * count pg = omega arith in q) in
    record {
      whole = long;
      mark = eqb-true (get_or pg 0 0) 112 (all_head _ _ e1);
      lettered = eqb-true (letter pg) k.sign (all_head _ _ e2);
      enough = leb-true k.least (count pg) (all_head _ _ e3);
      room = leb-true (count pg) k.most (all_head _ _ e4);
      gap = zeroes-of (part 8 8 pg) 8 (all_head _ _ e5) (length_part 8 8 pg (omega arith));
      order = all_head _ _ e6;
      rest = zeroes-of (drop at pg) (240 - k.size * count pg) (all_head _ _ e7) left;
    }

pub shaped_of : (k : Kind) (pg : List ℕ) → Shaped k pg → shaped k pg ≡ true
unfolding shaped
shaped_of k pg f =
    all-intro _ _ (eq-eqb (length pg) 256 f.whole)
    (all-intro _ _ (eq-eqb (get_or pg 0 0) 112 f.mark)
    (all-intro _ _ (eq-eqb (letter pg) k.sign f.lettered)
    (all-intro _ _ (le-leb k.least (count pg) f.enough)
    (all-intro _ _ (le-leb (count pg) k.most f.room)
    (all-intro _ _ (ap all_zero f.gap ∙ all-zeroes 8)
    (all-intro _ _ f.order
    (all-intro _ _ (ap all_zero f.rest ∙ all-zeroes (240 - k.size * count pg)) all_nil)))))))

-- ---- a page in form is made of what stands in it

-- 256 bytes that begin with `p`, and hold nothing but zeros behind their rows of sz bytes
pub made-is : (sz : ℕ) (pg : List ℕ) → length pg ≡ 256 → get_or pg 0 0 ≡ 112 → drop (16 + sz * count pg) pg ≡ zeroes (240 - sz * count pg)
    → Bytes pg
    → pg ≡ made (letter pg) (number pg) (spare pg) (rows sz pg)
made-is sz pg long p z b =
    topped-is pg long p b
    ∙ ap₂ (λ (v : ℕ) (l : List ℕ). topped (letter pg) v (number pg) (spare pg ++ l)) (sym (length-rows sz pg)) (body_of sz pg long z)
    ∙ made-topped (letter pg) (number pg) (spare pg) (rows sz pg)

pub made_of : (k : Kind) (pg : List ℕ) → shaped k pg ≡ true → Bytes pg → pg ≡ made k.sign (number pg) (spare pg) (rows k.size pg)
made_of k pg e b =
    let f : Shaped k pg = shaped-facts k pg e in
    made-is k.size pg f.whole f.mark f.rest b ∙ ap (λ (c : ℕ). made c (number pg) (spare pg) (rows k.size pg)) f.lettered

pub spare_of : (k : Kind) (pg : List ℕ) → shaped k pg ≡ true → spare pg ≡ zeroes 8
spare_of k pg e = (shaped-facts k pg e).gap

-- ---- a page made of rows in order is in form

-- a kind whose rows fit a page
pub record Fit (k : Kind) : Type 0 where
  pub roomy : k.size * k.most ≤ 240
  pub few : k.most < 65536

pub fit-root : Fit root
fit-root = record { roomy = omega arith; few = omega arith }

pub fit-base : Fit base
fit-base = record { roomy = omega arith; few = omega arith }

pub fit-leaf : Fit leaf
fit-leaf = record { roomy = omega arith; few = omega arith }

pub fit-empty : Fit empty
fit-empty = record { roomy = omega arith; few = omega arith }

-- rows that a page of the kind can have
pub record Fill (k : Kind) (rs : List (List ℕ)) : Type 0 where
  pub long : Each (Long k.size) rs
  pub order : ascend k.first k.second 0 rs ≡ true
  pub enough : k.least ≤ length rs
  pub room : length rs ≤ k.most

module _ (k : Kind) (fit : Fit k) (n : ℕ) (sp : List ℕ) (rs : List (List ℕ)) (clear : sp ≡ zeroes 8) (f : Fill k rs) where
  abbrev pg : List ℕ
  pg = made k.sign n sp rs

  eight : length sp ≡ 8
  eight = ap length clear ∙ length-zeroes 8

  pub room_joined : length (joined rs) ≤ 240
  room_joined = omega (arith, length-joined k.size rs f.long, mul-le-mul_left k.size f.room, fit.roomy)

  pub shaped-made : shaped k (made k.sign n sp rs) ≡ true
  shaped-made =
      let few : length rs < 65536 = omega (arith, f.room, fit.few) in
      let c : count pg ≡ length rs = count-made k.sign n sp rs few in
      let r : rows k.size pg ≡ rs = rows_made k.sign n sp rs eight k.size f.long few in
      let j : length (joined rs) ≡ k.size * length rs = length-joined k.size rs f.long in
      let z : drop (16 + k.size * length rs) pg ≡ zeroes (240 - k.size * length rs) =
      body-made k.sign n sp rs eight (k.size * length rs)
      ∙ rw (← j) (drop_at (joined rs) (zeroes (240 - length (joined rs))) (length (joined rs)) refl) in
      shaped_of k pg
      (record {
        whole = length-made k.sign n sp rs eight room_joined;
        mark = unfold made in refl;
        lettered = letter-made k.sign n sp rs;
        enough = rw c f.enough;
        room = rw c f.room;
        gap = spare_made k.sign n sp rs eight ∙ clear;
        order = rw r f.order;
        rest = rw c z;
      })
